-- Demand 2: the executive's words are the published model's system, and its steps are that model's steps.
-- The statements; proofs/Demand2 proves those of words of their full length, proofs/Call those of the public calls.
use Rattle.std.specs.Prelude.{◌≡◌, true, List, ◌↔◌, ◌≢◌, ℕ, None, length}
use Rattle.pharos.specs.Published.{SystemState, executes, Init}
use Rattle.tables.specs.Layout.{table_words}
use Rattle.tables.specs.Table.{good_table}
use Rattle.tables.specs.Calls.{check_reply}
use Rattle.tables.specs.declared.Row.{Row}
use Rattle.choices.specs.declared.Agent.{Agent}
use Rattle.choices.specs.Effect.{after}
use Rattle.choices.specs.State.{state_words, start_words}
use Rattle.choices.specs.Fit.{fits}
use Rattle.choices.specs.Step.{choice_reply, accepted}
use Rattle.executive.specs.Calls.{table_part, state_part, past_state, step_into}
use Rattle.demands.specs.Reasons.{ModelAllows, Reply}
use Rattle.demands.specs.Instance.{local_row, published, decode}

-- the words of a table that is accepted
pub record Table (tb : List ℕ) : Type 0 where
  pub long : length tb ≡ table_words
  pub good : good_table tb ≡ true

-- It is what the public call `check` gives reply 0.
abbrev pub TableIsChecked : Type 0
TableIsChecked = (tb : List ℕ) → (check_reply tb ≡ 0) ↔ Table (table_part tb)

-- the words of a state that fits it
pub record Fitting (tb st : List ℕ) : Type 0 where
  pub long : length st ≡ state_words
  pub fit : fits tb st ≡ true

-- What a row that touches its agent alone does in the model, by 01's table, is what the executive's row does: SET, ADD, SUB, ONES, LOW, SKIP and JUMP.
abbrev pub RowsAreModels : Type 0
RowsAreModels = (r : Row) (s : Agent) → r.op ≢ 0x30 → local_row r s ≡ after r None s

-- A choice of agent a and time t.
pub record Choice (tb st : List ℕ) (a t : ℕ) : Type 0 where
  -- "a choice has reply 0 if and only if the published model, as 01 narrows it, allows that step"
  pub exact : (choice_reply tb st a t ≡ 0) ↔ ModelAllows (decode tb st) a t
  -- "otherwise the number of the first reason in 01's order"
  pub reason : Reply (decode tb st) a t (choice_reply tb st a t)
  -- "the words afterwards decode to the model's state afterwards": they are a state, the model's step leads to it, and at that time to no other
  pub state : choice_reply tb st a t ≡ 0 → Fitting tb (accepted tb st a t)
  pub step : choice_reply tb st a t ≡ 0 → executes (published tb) a (decode tb st) (decode tb (accepted tb st a t))
  pub time : choice_reply tb st a t ≡ 0 → (decode tb (accepted tb st a t)).t ≡ t
  pub only : (post : SystemState (published tb)) → executes (published tb) a (decode tb st) post → post.t ≡ t → post ≡ decode tb (accepted tb st a t)

abbrev pub ChoiceIsModels : Type 0
ChoiceIsModels = (tb st : List ℕ) → Table tb → Fitting tb st → (a t : ℕ) → Choice tb st a t

-- "and nothing else changes": there is nothing in the words but what the model's state tells.
abbrev pub WordsAreModels : Type 0
WordsAreModels = (tb st other : List ℕ) → Table tb → Fitting tb st → Fitting tb other → decode tb st ≡ decode tb other → st ≡ other

-- The start state is the model's Init.
abbrev pub StartIsModels : Type 0
StartIsModels = (tb : List ℕ) → Table tb → Fitting tb (start_words tb) × Init (published tb) (decode tb (start_words tb))

-- The public call `step`, of any lent words.
pub record Call (tb st : List ℕ) (a t : ℕ) : Type 0 where
  -- reply 0 exactly where the words are those of an accepted table and a state that fits it, and the model allows the step
  pub exact : ((step_into tb st a t).reply ≡ 0)
      ↔ (Table (table_part tb) × Fitting (table_part tb) (state_part st) × ModelAllows (decode (table_part tb) (state_part st)) a t)
  pub reason : Table (table_part tb) → Fitting (table_part tb) (state_part st)
      → Reply (decode (table_part tb) (state_part st)) a t (step_into tb st a t).reply
  -- then the words afterwards decode to the model's state afterwards
  pub step : (step_into tb st a t).reply ≡ 0
      → executes (published (table_part tb)) a (decode (table_part tb) (state_part st)) (decode (table_part tb) (state_part (step_into tb st a t).state))
  pub time : (step_into tb st a t).reply ≡ 0 → (decode (table_part tb) (state_part (step_into tb st a t).state)).t ≡ t
  -- the words past them stay, and a refusal leaves them all
  pub past : past_state (step_into tb st a t).state ≡ past_state st
  pub refused : (step_into tb st a t).reply ≢ 0 → (step_into tb st a t).state ≡ st

abbrev pub CallIsModels : Type 0
CallIsModels = (tb st : List ℕ) (a t : ℕ) → Call tb st a t
