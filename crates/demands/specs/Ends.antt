-- What a caller's loop can rely on, in the words of the public calls: while an agent is unfinished some choice is accepted, and taking one each time ends them all.
-- So there is no reply for "stuck", whose number, 14, is reserved. proofs/Ends proves each statement, by the model's progress and completion.
use Rattle.std.specs.Prelude.{◌≡◌, List, ◌↔◌, ℕ, zero, suc, max, ◌-◌, ◌≤◌, ◌<◌}
use Rattle.pharos.specs.Runs.{total}
use Rattle.tables.specs.Layout.{agents, rows}
use Rattle.choices.specs.State.{clock, pos}
use Rattle.choices.specs.Fit.{current}
use Rattle.executive.specs.Calls.{table_part, state_part, start_into, step_into, pick_from}
use Rattle.executive.specs.Laws.{Begins}
use Rattle.demands.specs.Demand2.{Table, Fitting}
use Rattle.demands.specs.Demand3.{AllAtTheirEnd}

-- lent words of a table that is accepted and of a state that fits it, reached or not: those that `step` and `pick` do not refuse with 1, 8 or 9
abbrev pub Usable : (tb st : List ℕ) → Type 0
Usable tb st = Table (table_part tb) × Fitting (table_part tb) (state_part st)

abbrev pub SomeUnfinished : (tb st : List ℕ) → Type 0
SomeUnfinished tb st = (b : ℕ) × (b < agents tb) × (pos st b < rows tb b)

-- `step` accepts the choice of agent a at time t
abbrev pub StepAccepts : (tb st : List ℕ) (a t : ℕ) → Type 0
StepAccepts tb st a t = (step_into tb st a t).reply ≡ 0

-- `start` leaves such words, and so does each accepted step.
abbrev pub StartIsUsable : Type 0
StartIsUsable = (tb st : List ℕ) → (start_into tb st).reply ≡ 0 → Usable tb (start_into tb st).state

abbrev pub StepKeepsUsable : Type 0
StepKeepsUsable = (tb st : List ℕ) (a t : ℕ) → StepAccepts tb st a t → Usable tb (step_into tb st a t).state

-- ---- some choice is accepted while any agent is unfinished

-- "the unfinished agent with the least late always has a time it could be run at": the later of the clock and its early
abbrev pub LeastLateAccepted : Type 0
LeastLateAccepted = (tb st : List ℕ) → Usable tb st → (a : ℕ) → a < agents tb → pos st a < rows tb a
    → ((b : ℕ) → b < agents tb → pos st b < rows tb b → (current tb st a).late ≤ (current tb st b).late)
    → StepAccepts tb st a (max (clock st) (current tb st a).early)

abbrev pub SomeAccepted : Type 0
SomeAccepted = (tb st : List ℕ) → Usable tb st → SomeUnfinished tb st → (a t : ℕ) × StepAccepts tb st a t

-- What `pick` answers with 0, `step` accepts;
abbrev pub PickIsAccepted : Type 0
PickIsAccepted = (tb st : List ℕ) → (pick_from tb st).reply ≡ 0 → StepAccepts tb st (pick_from tb st).agent (pick_from tb st).time

-- and it answers 0 while any agent is unfinished, and 11 exactly where all have come to their end.
abbrev pub PickWhileUnfinished : Type 0
PickWhileUnfinished = (tb st : List ℕ) → Usable tb st → SomeUnfinished tb st → (pick_from tb st).reply ≡ 0

abbrev pub PickAtTheEnd : Type 0
PickAtTheEnd = (tb st : List ℕ) → Usable tb st → ((pick_from tb st).reply ≡ 11) ↔ AllAtTheirEnd tb st

-- ---- in no more steps than the table has rows

-- the rows of the table, and those that its agents have still before them
abbrev pub rows_of : (tb : List ℕ) → ℕ
rows_of tb = total (rows tb) (agents tb)

abbrev pub rows_left : (tb st : List ℕ) → ℕ
rows_left tb st = total (λ b. rows tb b - pos st b) (agents tb)

abbrev pub LeftAreRows : Type 0
LeftAreRows = (tb st : List ℕ) → rows_left tb st ≤ rows_of tb

-- No list of accepted choices, each made on the words that the one before left, is longer.
abbrev pub NoLongerList : Type 0
NoLongerList = (tb st cs : List ℕ) (k : ℕ) → Begins tb st cs k → k ≤ rows_left tb st

-- A loop of at most n turns. In each it calls `step` with the agent and the time that `choose` gives, which may go by how many turns are left and by the words as
-- they stand; it ends at a refusal.
unfoldable pub loop : (choose : ℕ → List ℕ → ℕ × ℕ) (tb : List ℕ) (n : ℕ) (st : List ℕ) → List ℕ
loop choose tb zero st = st
loop choose tb (suc n) st =
    elim (step_into tb st (choose n st).0 (choose n st).1).reply [
      | zero ↦ loop choose tb n (step_into tb st (choose n st).0 (choose n st).1).state
      | suc r ↦ st
    ]

-- In each of its turns, on the words that it has come to, it takes an accepted choice if one is left.
abbrev pub TakesAccepted : (choose : ℕ → List ℕ → ℕ × ℕ) (tb : List ℕ) (n : ℕ) (st : List ℕ) → Type 0
TakesAccepted choose tb zero st = Unit {0}
TakesAccepted choose tb (suc n) st =
    ((a t : ℕ) → StepAccepts tb st a t → StepAccepts tb st (choose n st).0 (choose n st).1)
    × TakesAccepted choose tb n (step_into tb st (choose n st).0 (choose n st).1).state

-- Any such loop ends all agents, from every state that fits, in as many turns as there are rows left.
abbrev pub EveryLoopEnds : Type 0
EveryLoopEnds = (choose : ℕ → List ℕ → ℕ × ℕ) (tb st : List ℕ) (n : ℕ) → TakesAccepted choose tb n st → Usable tb st → rows_left tb st ≤ n
    → AllAtTheirEnd tb (loop choose tb n st)

-- The loop that goes by `pick` is one.
abbrev pub by_pick : (tb : List ℕ) → ℕ → List ℕ → ℕ × ℕ
by_pick tb n st = ((pick_from tb st).agent, (pick_from tb st).time)

abbrev pub PickingEnds : Type 0
PickingEnds = (tb st : List ℕ) → Usable tb st → AllAtTheirEnd tb (loop (by_pick tb) tb (rows_of tb) st)

-- and so `start`, then `pick` and `step` until 11, runs any accepted table to its end. (Once all have ended a further turn is refused, and changes nothing.)
abbrev pub StartedEnds : Type 0
StartedEnds = (tb st : List ℕ) → (start_into tb st).reply ≡ 0 → AllAtTheirEnd tb (loop (by_pick tb) tb (rows_of tb) (start_into tb st).state)
