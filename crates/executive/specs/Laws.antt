-- Laws that show the definitions to mean what 01 says, and what T-04 and T-07 ask: each as a statement, in 01's words where it is 01's. proofs/Laws.antt proves each under its own name. Assumes nothing.
use Rattle.std.specs.Prelude.{◌≡◌, ◌↔◌, ◌⊎◌, ◌≢◌, true, List, [], ◌∷◌, ℕ, zero, suc, ◌+◌, ◌≤◌, ◌<◌, length, Option, None, Some}
use Rattle.tables.specs.Layout.{agents, rows, row, table_words}
use Rattle.tables.specs.Basics.{OneOf}
use Rattle.tables.specs.Rows.{goes_on_to}
use Rattle.tables.specs.Table.{good_table}
use Rattle.tables.specs.Paths.{GoesOn, Path}
use Rattle.tables.specs.declared.Row.{Row}
use Rattle.choices.specs.declared.Agent.{Agent}
use Rattle.choices.specs.declared.Message.{Message}
use Rattle.choices.specs.State.{pos, mark, value, Pool, pool, agent_at, start_words, state_words}
use Rattle.choices.specs.Messages.{visible, best}
use Rattle.choices.specs.Effect.{after}
use Rattle.choices.specs.Fit.{current, fits}
use Rattle.choices.specs.Step.{choice_reply, Allowed, accepted}
use Rattle.choices.specs.Pick.{can_go, picked_agent}
use Rattle.executive.specs.Effects.{held_x}
use Rattle.executive.specs.Run.{RunOutcome, ended, run_from}
use Rattle.executive.specs.Calls.{start_into, step_into, run_refusal, run_into, pick_from}

-- ---- the message that a RECV takes

abbrev pub Visible : List ℕ → Pool → Row → ℕ → ℕ → Type 0
Visible tb p r b i = visible tb p r b i ≡ true

-- "the one with the greatest late is taken; then the one of the lower agent; then the one of the higher row":
-- the message of row j of agent c goes before that of row i of agent b
abbrev pub GoesBefore : List ℕ → (c j b i : ℕ) → Type 0
GoesBefore tb c j b i =
    ((row tb b i).late < (row tb c j).late) ⊎ (((row tb c j).late ≡ (row tb b i).late) × ((c < b) ⊎ ((c ≡ b) × (i < j))))

abbrev pub NoneVisible : List ℕ → Pool → Row → Type 0
NoneVisible tb p r = (c j : ℕ) → c < agents tb → j < 32 → Visible tb p r c j → ⊥

-- nothing is taken where nothing is visible; a message that is taken is visible, and no visible message goes before it
abbrev pub Taken : List ℕ → Pool → Row → Option Message → Type 0
Taken tb p r None = NoneVisible tb p r
Taken tb p r (Some m) =
    (m.agent < agents tb) × (m.row < 32) × Visible tb p r m.agent m.row × (m.late ≡ (row tb m.agent m.row).late) × (m.value ≡ p.value m.agent m.row)
    × ((c j : ℕ) → c < agents tb → j < 32 → Visible tb p r c j → GoesBefore tb c j m.agent m.row → ⊥)

abbrev pub BestIsTaken : Type 0
BestIsTaken = (tb : List ℕ) (p : Pool) (r : Row) → agents tb ≤ 16 → Taken tb p r (best tb p r)

abbrev pub NoneIsTaken : Type 0
NoneIsTaken = (tb : List ℕ) (p : Pool) (r : Row) → agents tb ≤ 16 → best tb p r ≡ None ↔ NoneVisible tb p r

-- ---- what an agent's next state depends on

-- two pools agree on the messages visible to a row, of those places of each agent b below `places b`
pub record SameSeen (tb : List ℕ) (places : ℕ → ℕ) (p q : Pool) (r : Row) : Type 0 where
  pub seen : (b i : ℕ) → b < agents tb → i < places b → visible tb p r b i ≡ visible tb q r b i
  pub told : (b i : ℕ) → b < agents tb → i < places b → visible tb p r b i ≡ true → p.value b i ≡ q.value b i

-- a table that is accepted, with a state that fits it
pub record Sound (tb st : List ℕ) : Type 0 where
  pub good : good_table tb ≡ true
  pub table : length tb ≡ table_words
  pub fit : fits tb st ≡ true
  pub state : length st ≡ state_words

-- "two state records of one table that agree on these, and both accept a step of that agent, give it the same next state"
abbrev pub NextDepends : Type 0
NextDepends = (tb st st' : List ℕ) → Sound tb st → Sound tb st' → (a t t' : ℕ) → choice_reply tb st a t ≡ 0 → choice_reply tb st' a t' ≡ 0
    → agent_at st a ≡ agent_at st' a → SameSeen tb (rows tb) (pool st) (pool st') (current tb st a)
    → agent_at (accepted tb st a t) a ≡ agent_at (accepted tb st' a t') a

-- ---- acceptance

abbrev pub AcceptedExactly : Type 0
AcceptedExactly = (tb st : List ℕ) (a t : ℕ) → choice_reply tb st a t ≡ 0 ↔ Allowed tb st a t

-- an agent can go exactly where some time would be accepted for it, whether or not the state fits
abbrev pub CanGoExactly : Type 0
CanGoExactly = (tb st : List ℕ) (a : ℕ) → a < agents tb → can_go tb st a ≡ true ↔ ((t : ℕ) × Allowed tb st a t)

-- ---- what is picked

-- the unfinished agent of the least late, of equal lates the lowest number
pub record LeastLate (tb st : List ℕ) (a : ℕ) : Type 0 where
  pub agent : a < agents tb
  pub unended : pos st a < rows tb a
  pub least : (b : ℕ) → b < agents tb → pos st b < rows tb b → (current tb st a).late ≤ (current tb st b).late
  pub lowest : (b : ℕ) → b < a → pos st b < rows tb b → (current tb st a).late < (current tb st b).late

-- it is the one that is picked, and no other
abbrev pub PickedExactly : Type 0
PickedExactly = (tb st : List ℕ) (a : ℕ) → ((picked_agent tb st ≡ a) × (a < agents tb)) ↔ LeastLate tb st a

-- ---- 14

-- reserved: none of the calls that take or give a choice replies with it
abbrev pub FourteenIsReserved : Type 0
FourteenIsReserved = ((tb st : List ℕ) (a t : ℕ) → (step_into tb st a t).reply ≢ 14)
    × ((tb st cs : List ℕ) → (run_into tb st cs).reply ≢ 14)
    × ((tb st : List ℕ) → (pick_from tb st).reply ≢ 14)

-- ---- the fit

abbrev pub StartFits : Type 0
StartFits = (tb : List ℕ) → good_table tb ≡ true → length tb ≡ table_words → Sound tb (start_words tb)

-- so that a run never tests 9, and a step after a step never gives it
abbrev pub StepKeepsFit : Type 0
StepKeepsFit = (tb st : List ℕ) (a t : ℕ) → Sound tb st → choice_reply tb st a t ≡ 0 → Sound tb (accepted tb st a t)

-- ---- where an agent can come to

-- the rows that a row can go on to are just those at which it takes some agent that stands at it, with some message or none
abbrev pub GoesOnExactly : Type 0
GoesOnExactly = (r : Row) (p j : ℕ) → OneOf j (goes_on_to r p) ↔ ((s : Agent) × (m : Option Message) × (s.pos ≡ p) × ((after r m s).pos ≡ j))

-- a step takes its agent to a row that its row can go on to, and leaves every other agent where it is
abbrev pub StepGoesOn : Type 0
StepGoesOn = (tb st : List ℕ) (a t : ℕ) → Sound tb st → choice_reply tb st a t ≡ 0
    → GoesOn tb a (pos st a) (pos (accepted tb st a t) a) × ((b : ℕ) → b < agents tb → (b ≡ a → ⊥) → pos (accepted tb st a t) b ≡ pos st b)

-- so a run takes each agent along a path of rows, whatever the choices
abbrev pub RunIsPath : Type 0
RunIsPath = (tb st : List ℕ) (n : ℕ) (cs : List ℕ) → Sound tb st → (b : ℕ) → b < agents tb → Path (GoesOn tb b) (pos st b) (pos (run_from tb st n cs).state b)

-- and never to a row whose late is below that of its row now
abbrev pub EarlierNeverComes : Type 0
EarlierNeverComes = (tb st : List ℕ) (n : ℕ) (cs : List ℕ) → Sound tb st → (b : ℕ) → b < agents tb → (i : ℕ) → i < rows tb b
    → (row tb b i).late < (current tb st b).late → pos (run_from tb st n cs).state b ≡ i → ⊥

-- ---- SEND

-- "the value of x is sent": "A SEND sets its own mark and value", the place of its row, and x is the agent's before it
abbrev pub SendIsSent : Type 0
SendIsSent = (tb st : List ℕ) (a t : ℕ) → Sound tb st → choice_reply tb st a t ≡ 0 → (current tb st a).op ≡ 0x20
    → (mark (accepted tb st a t) a (pos st a) ≡ 1) × (value (accepted tb st a t) a (pos st a) ≡ held_x (current tb st a) (agent_at st a))

-- ---- runs

-- the choices made one by one, each a call of `step` on the words that the one before left, up to the first that is refused
unfoldable pub one_by_one : (tb st : List ℕ) (n : ℕ) → List ℕ → RunOutcome
one_by_one tb st n [] = ended 0 n st
one_by_one tb st n (a ∷ []) = ended 0 n st
one_by_one tb st n (a ∷ t ∷ cs) =
    elim (step_into tb st a t).reply [
      | zero ↦ one_by_one tb (step_into tb st a t).state (n + 1) cs
      | suc r ↦ ended (suc r) n st
    ]

-- what a run replies and leaves is what the same steps made one by one reply and leave, starting from `start`
abbrev pub RunIsSteps : Type 0
RunIsSteps = (tb st cs : List ℕ) → run_refusal tb st cs ≡ 0 → run_into tb st cs ≡ one_by_one tb (start_into tb st).state 0 cs

-- the first k choices of the list are accepted, one after the other
abbrev pub Begins : (tb st cs : List ℕ) → ℕ → Type 0
Begins tb st cs zero = Unit {0}
Begins tb st [] (suc k) = ⊥
Begins tb st (a ∷ []) (suc k) = ⊥
Begins tb st (a ∷ t ∷ cs) (suc k) = ((step_into tb st a t).reply ≡ 0) × Begins tb (step_into tb st a t).state cs k

-- the count is the length of the accepted beginning: so many are accepted, no longer beginning is, and they are at most 512
abbrev pub RunCounts : Type 0
RunCounts = (tb st cs : List ℕ) → run_refusal tb st cs ≡ 0
    → Begins tb (start_into tb st).state cs (run_into tb st cs).count
    × ((j : ℕ) → Begins tb (start_into tb st).state cs j → j ≤ (run_into tb st cs).count)
    × ((run_into tb st cs).count ≤ 512)
