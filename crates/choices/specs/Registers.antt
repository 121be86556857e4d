-- Vocabulary of the code alone, in which this crate and the executive state their own functions: the statements of the public calls do not need it.
-- While steps are worked out the registers of all agents stand beside the state's words, which keep the words that they had. Assumes nothing.
use Rattle.std.specs.Prelude.{ℕ, zero, suc, ◌/◌, ◌%◌, List, [], ◌∷◌, ◌++◌, take, drop, slice_index, slice_index_or}
use Rattle.choices.specs.declared.Agent.{Agent}
use Rattle.choices.specs.State.{agent_at}
use Rattle.choices.specs.Step.{accepted}

-- f 0, f 1 and so on, n of them
unfoldable pub listed : {A : Type 0} → (ℕ → A) → ℕ → List A
listed f zero = []
listed f (suc n) = listed f n ++ (f n ∷ [])

-- the j-th of the 64 registers, agent by agent
abbrev pub register : List (List ℕ) → ℕ → ℕ
register g j = slice_index (slice_index_or g (j / 4) []) (j % 4)

-- the words of a state with 64 others in the places of the registers
unfoldable pub around : List ℕ → List ℕ → List ℕ
around ws m = take 17 ws ++ m ++ drop 81 ws

-- the state's words with the registers g
abbrev pub with_regs : List ℕ → List (List ℕ) → List ℕ
with_regs st g = around st (listed (register g) 64)

-- what an accepted choice leaves: the agent's state after it, and the state's words
pub record Acted : Type 0 where
  pub agent : Agent
  pub state : List ℕ

abbrev pub acted : Agent → List ℕ → Acted
acted s st = record { agent = s; state = st }

-- the accepted choice of agent a at time t, of the state that st is once its registers are g; among st's own words they stay
unfoldable pub act_into : (tb st : List ℕ) (g : List (List ℕ)) (a t : ℕ) → Acted
act_into tb st g a t =
    let new = accepted tb (with_regs st g) a t in
    acted (agent_at new a) (around new (take 64 (drop 17 st)))
