-- The accepted steps of a list of choices, and the states that an agent passes through in them. Assumes nothing.
use Rattle.std.specs.Prelude.{◌≡◌, cond, List, [], ◌∷◌, ℕ, zero, suc, ◌*◌, ◌<◌, eqb, length, take, get_or}
use Rattle.tables.specs.Layout.{agents}
use Rattle.choices.specs.declared.Agent.{Agent}
use Rattle.choices.specs.State.{agent_at, start_words}
use Rattle.choices.specs.Step.{choice_reply, accepted}
use Rattle.executive.specs.Calls.{table_part, run_refusal, run_into}

-- an accepted step: its agent, its time, and the state that it leaves its agent in
pub record Step : Type 0 where
  pub agent : ℕ
  pub time : ℕ
  pub left : Agent

abbrev pub step : (a t : ℕ) → Agent → Step
step a t s = record { agent = a; time = t; left = s }

-- "from each only the steps accepted before its first refusal": of the choices from the state st, the oldest first
unfoldable pub steps_from : (tb st : List ℕ) → List ℕ → List Step
steps_from tb st [] = []
steps_from tb st (a ∷ []) = []
steps_from tb st (a ∷ t ∷ cs) =
    elim (choice_reply tb st a t) [
      | zero ↦ step a t (agent_at (accepted tb st a t) a) ∷ steps_from tb (accepted tb st a t) cs
      | suc r ↦ []
    ]

-- the states that agent b comes to: one "after each of its own accepted steps"
unfoldable pub comes_to : ℕ → List Step → List Agent
comes_to b [] = []
comes_to b (s ∷ ss) = cond (eqb s.agent b) (s.left ∷ comes_to b ss) (comes_to b ss)

-- "those it passes through are the starting one and that after each of its own accepted steps"
abbrev pub passed : (tb st cs : List ℕ) (b : ℕ) → List Agent
passed tb st cs b = agent_at st b ∷ comes_to b (steps_from tb st cs)

-- ---- the steps of the public call `run`

-- the choices that it takes: none where it is refused before it begins (1, 16, 8)
abbrev pub begun : (tb st cs : List ℕ) → List ℕ
begun tb st cs = elim (run_refusal tb st cs) [ zero ↦ cs | suc r ↦ [] ]

-- its steps, from the start state of its table; and what agent b passes through in them
abbrev pub steps_in_run : (tb st cs : List ℕ) → List Step
steps_in_run tb st cs = steps_from (table_part tb) (start_words (table_part tb)) (begun tb st cs)

abbrev pub passed_in_run : (tb st cs : List ℕ) (b : ℕ) → List Agent
passed_in_run tb st cs b = passed (table_part tb) (start_words (table_part tb)) (begun tb st cs) b

-- the choices that were accepted, agent then time
unfoldable pub agents_and_times : List Step → List ℕ
agents_and_times [] = []
agents_and_times (s ∷ ss) = s.agent ∷ s.time ∷ agents_and_times ss

-- the last of some states, and s where there is none
unfoldable pub last_of : Agent → List Agent → Agent
last_of s [] = s
last_of s (x ∷ l) = last_of x l

-- They are the steps that the call makes, in whatever lent words it is made: as many as it counts, on the first of its choices; each leaves its agent as the call
-- over the choices up to it does, and the last of an agent's states is the one that stands in the words after the call.
pub record Makes (tb st cs : List ℕ) : Type 0 where
  pub counted : length (steps_in_run tb st cs) ≡ (run_into tb st cs).count
  pub chosen : agents_and_times (steps_in_run tb st cs) ≡ take (2 * (run_into tb st cs).count) cs
  pub each : (s : Step) (k : ℕ) → k < (run_into tb st cs).count
      → (get_or (steps_in_run tb st cs) k s).left ≡ agent_at (run_into tb st (take (2 * suc k) cs)).state (get_or cs (2 * k) 0)
  pub last : (b : ℕ) → b < agents tb → agent_at (run_into tb st cs).state b ≡ last_of (agent_at (start_words (table_part tb)) b) (comes_to b (steps_in_run tb st cs))

abbrev pub RunMakes : Type 0
RunMakes = (tb st cs : List ℕ) → run_refusal tb st cs ≡ 0 → Makes tb st cs
