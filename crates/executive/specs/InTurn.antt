-- Vocabulary of the code alone, as the choices' Registers and Lates are: what holds between two choices while a state stands in `Turns`, and what taking one of them tells.
-- Assumes nothing.
use Rattle.std.specs.Prelude.{◌≡◌, ℕ, true, List, length, Result, Ok, Err}
use Rattle.tables.specs.declared.replies.Refusal.{Refusal}
use Rattle.tables.specs.Layout.{table_words}
use Rattle.tables.specs.Replies.{number_of}
use Rattle.tables.specs.Table.{good_table}
use Rattle.choices.specs.declared.Agent.{Agent}
use Rattle.choices.specs.State.{state_words, agent_at}
use Rattle.choices.specs.Step.{choice_reply, accepted}
use Rattle.choices.specs.Lates.{Lates, above_none}

-- a good table and the words of a state, with registers for each agent beside them; the lates are those of the current rows, and the deadline is above none of them
pub record InTurn (tb st : List ℕ) (g : List (List ℕ)) (ls : List ℕ) (d : ℕ) : Type 0 where
  pub table_long : length tb ≡ table_words
  pub good : good_table tb ≡ true
  pub state_long : length st ≡ state_words
  pub regs_wide : length g ≡ 16
  pub lates : Lates tb st ls
  pub deadline_in_time : above_none ls d ≡ true

-- an accepted choice of agent a at time t makes the step of the state, and gives its agent's state after it; a refusal leaves the state
unfoldable pub Takes : (tb old new : List ℕ) (a t : ℕ) → Result Agent Refusal → Type 0
Takes tb old new a t (Ok s) = (choice_reply tb old a t ≡ 0) × (new ≡ accepted tb old a t) × (s ≡ agent_at new a)
Takes tb old new a t (Err r) = (choice_reply tb old a t ≡ number_of r) × (new ≡ old)
