-- What document 002 assumes of its constants and what it shows of its behaviours, of every table that is accepted. The statements; proofs/Assumed proves them.
use Rattle.std.specs.Prelude.{◌≡◌, List, reverse, ℕ}
use Rattle.pharos.specs.Published.{SystemState, GoodSystemState, Assumptions, Behaviour, filter}
use Rattle.pharos.specs.Histories.{Unstutters, history, project, Raises, Inv, MsgInv}
use Rattle.choices.specs.declared.Agent.{Agent}
use Rattle.choices.specs.State.{start_words}
use Rattle.demands.specs.Instance.{published, decode}
use Rattle.demands.specs.Demand2.{Table}

-- instrOf_type, Update_monotonic and visible_cond
abbrev pub AssumptionsHold : Type 0
AssumptionsHold = (tb : List ℕ) → Table tb → Assumptions (published tb)

-- goodInitState: from the start state some agent can go on
abbrev pub StartIsGood : Type 0
StartIsGood = (tb : List ℕ) → Table tb → GoodSystemState (published tb) (decode tb (start_words tb))

-- Each step takes its agent to a later row.
abbrev pub StepsRaise : Type 0
StepsRaise = (tb : List ℕ) → Raises (published tb)

-- So the states that an agent passes through are 002's filter(history, b), which is unstutter[project(history, b)].
abbrev pub FilterOfTablesIs002's : Type 0
FilterOfTablesIs002's = (tb : List ℕ) (g h : SystemState (published tb)) (r : Behaviour (published tb) g h) (b : ℕ)
    → (u : List Agent) × Unstutters (project (published tb) (history (published tb) r) b) u × (filter (published tb) r b ≡ reverse u)

-- Inv and MsgInv of every behaviour from the start state
abbrev pub InvariantsHold : Type 0
InvariantsHold = (tb : List ℕ) → Table tb → (h : SystemState (published tb)) (r : Behaviour (published tb) (decode tb (start_words tb)) h)
    → Inv (published tb) r × MsgInv (published tb) r
