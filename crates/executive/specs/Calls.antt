-- What each public call replies and leaves, as one statement over its inputs, its reply and every lent word afterwards.
-- Each is stated of the first 2,129 and 1,105 words: what stands past them is not read, and stays. Assumes nothing.
use Rattle.std.specs.Prelude.{◌≡◌, not, cond, List, [], ◌∷◌, ◌++◌, ℕ, zero, suc, ◌%◌, ltb, eqb, length, take, drop}
use Rattle.std.proofs.Common.{sym, ◌∙◌}
use Rattle.tables.specs.Basics.{first, ◌⇒◌}
use Rattle.tables.specs.Layout.{table_words}
use Rattle.tables.specs.Table.{good_table}
use Rattle.choices.specs.State.{state_words, start_words}
use Rattle.choices.specs.Fit.{fits}
use Rattle.choices.specs.Step.{choice_reply, accepted}
use Rattle.choices.specs.Pick.{soonest, all_ended, picked_agent}
use Rattle.executive.specs.Run.{RunOutcome, ended, run_from}

abbrev pub table_part : List ℕ → List ℕ
table_part tb = take table_words tb

abbrev pub state_part : List ℕ → List ℕ
state_part st = take state_words st

abbrev pub past_state : List ℕ → List ℕ
past_state st = drop state_words st

-- a reply, and the words of the lent state afterwards
pub record Outcome : Type 0 where
  pub reply : ℕ
  pub state : List ℕ

abbrev pub outcome : ℕ → List ℕ → Outcome
outcome r st = record { reply = r; state = st }

-- ---- start

-- "Check and start, 1 then 8"
unfoldable pub start_reply : (tb st : List ℕ) → ℕ
start_reply tb st =
    first
    ((ltb (length tb) table_words ⇒ 1)
    ∷ (ltb (length st) state_words ⇒ 1)
    ∷ (not (good_table (table_part tb)) ⇒ 8)
    ∷ [])

unfoldable pub start_into : (tb st : List ℕ) → Outcome
start_into tb st =
    elim (start_reply tb st) [
      | zero ↦ outcome 0 (start_words (table_part tb) ++ past_state st)
      | suc r ↦ outcome (suc r) st
    ]

abbrev pub Started : (tb st : List ℕ) (reply : ℕ) (after : List ℕ) → Type 0
Started tb st r after = outcome r after ≡ start_into tb st

pub only_started : (tb st : List ℕ) (r s : ℕ) (after other : List ℕ) → Started tb st r after → Started tb st s other
    → outcome r after ≡ outcome s other
only_started tb st r s after other p q = p ∙ sym q

-- ---- the words of a table and a state, whatever is asked of them

-- 1, 8 and 9
unfoldable pub words_reply : (tb st : List ℕ) → ℕ
words_reply tb st =
    first
    ((ltb (length tb) table_words ⇒ 1)
    ∷ (ltb (length st) state_words ⇒ 1)
    ∷ (not (good_table (table_part tb)) ⇒ 8)
    ∷ (not (fits (table_part tb) (state_part st)) ⇒ 9)
    ∷ [])

-- the first reply, and where it is 0 the second
unfoldable pub then : (reply next : ℕ) → ℕ
then zero n = n
then (suc r) n = suc r

-- ---- step

-- "Step, 1, 8, 9, then 10 to 15 in that order"; 14 is reserved, and no call gives it
unfoldable pub step_reply : (tb st : List ℕ) (a t : ℕ) → ℕ
step_reply tb st a t = then (words_reply tb st) (choice_reply (table_part tb) (state_part st) a t)

unfoldable pub step_into : (tb st : List ℕ) (a t : ℕ) → Outcome
step_into tb st a t =
    elim (step_reply tb st a t) [
      | zero ↦ outcome 0 (accepted (table_part tb) (state_part st) a t ++ past_state st)
      | suc r ↦ outcome (suc r) st
    ]

abbrev pub Stepped : (tb st : List ℕ) (a t reply : ℕ) (after : List ℕ) → Type 0
Stepped tb st a t r after = outcome r after ≡ step_into tb st a t

pub only_stepped : (tb st : List ℕ) (a t r s : ℕ) (after other : List ℕ) → Stepped tb st a t r after → Stepped tb st a t s other
    → outcome r after ≡ outcome s other
only_stepped tb st a t r s after other p q = p ∙ sym q

-- ---- run

-- "Run, 1, 16, 8, then each step's 10 to 15", 14 reserved: the refusals before any step
unfoldable pub run_refusal : (tb st cs : List ℕ) → ℕ
run_refusal tb st cs =
    first
    ((ltb (length tb) table_words ⇒ 1)
    ∷ (ltb (length st) state_words ⇒ 1)
    ∷ (eqb (length cs % 2) 1 ⇒ 16)
    ∷ (not (good_table (table_part tb)) ⇒ 8)
    ∷ [])

-- the end of a run in a lent buffer: the words past the state's follow
abbrev pub before : RunOutcome → List ℕ → RunOutcome
before q rest = ended q.reply q.count (q.state ++ rest)

-- "A run starts from the start state .. stops at the first refusal, and replies with its number and the count of accepted steps (0 with 1, 16 and 8)."
unfoldable pub run_into : (tb st cs : List ℕ) → RunOutcome
run_into tb st cs =
    elim (run_refusal tb st cs) [
      | zero ↦ before (run_from (table_part tb) (start_words (table_part tb)) 0 cs) (past_state st)
      | suc r ↦ ended (suc r) 0 st
    ]

abbrev pub Ran : (tb st cs : List ℕ) (reply count : ℕ) (after : List ℕ) → Type 0
Ran tb st cs r n after = ended r n after ≡ run_into tb st cs

pub only_ran : (tb st cs : List ℕ) (r s n m : ℕ) (after other : List ℕ) → Ran tb st cs r n after → Ran tb st cs s m other
    → ended r n after ≡ ended s m other
only_ran tb st cs r s n m after other p q = p ∙ sym q

-- ---- pick

-- a reply, and the agent and the time that are picked
pub record PickOutcome : Type 0 where
  pub reply : ℕ
  pub agent : ℕ
  pub time : ℕ

abbrev pub picked : (reply agent time : ℕ) → PickOutcome
picked r a t = record { reply = r; agent = a; time = t }

-- 1, 8, 9, then 11 where all agents have ended
unfoldable pub pick_reply : (tb st : List ℕ) → ℕ
pick_reply tb st = then (words_reply tb st) (cond (all_ended (table_part tb) (state_part st)) 11 0)

-- agent and time are 0 with a refusal
unfoldable pub pick_from : (tb st : List ℕ) → PickOutcome
pick_from tb st =
    elim (pick_reply tb st) [
      | zero ↦ let a = picked_agent (table_part tb) (state_part st) in picked 0 a (soonest (table_part tb) (state_part st) a)
      | suc r ↦ picked (suc r) 0 0
    ]

abbrev pub Picked : (tb st : List ℕ) (reply agent time : ℕ) → Type 0
Picked tb st r a t = picked r a t ≡ pick_from tb st

pub only_picked : (tb st : List ℕ) (r s a b t u : ℕ) → Picked tb st r a t → Picked tb st s b u → picked r a t ≡ picked s b u
only_picked tb st r s a b t u p q = p ∙ sym q
