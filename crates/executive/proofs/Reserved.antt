-- No call that takes or gives a choice replies with 14. Assumes nothing.
use mathlib.Core.Path.{◌≡◌, refl, sym, ap, ◌∙◌}
use mathlib.Core.Logic.{◌≢◌}
use mathlib.Core.Bool.{Bool, true, false, cond}
use mathlib.Core.List.{List, [], ◌∷◌, ◌++◌}
use Prim.Native.Nat.{ℕ, zero, suc, ◌+◌}
use native.Mathlib.Omega.{arith}
use Rattle.choices.specs.State.{start_words}
use Rattle.choices.specs.Pick.{all_ended}
use Rattle.choices.specs.Step.{choice_reply, accepted}
use Rattle.choices.proofs.Choice.{lacking}
use Rattle.executive.specs.Run.{RunOutcome, ended, run_from}
use Rattle.executive.specs.Calls.{table_part, state_part, past_state, then, words_reply, Outcome, step_reply, step_into, run_refusal, before, run_into, pick_reply, pick_from}
use Rattle.executive.proofs.Runs.{run_go, run_stop}
use Rattle.executive.proofs.Ready.{answer, stepped_by}
use Rattle.executive.proofs.PickedBy.{replied}

choice_not : (tb st : List ℕ) (a t : ℕ) → choice_reply tb st a t ≢ 14
unfolding choice_reply
choice_not tb st a t = lacking 14 _ refl

words_not : (tb st : List ℕ) → words_reply tb st ≢ 14
unfolding words_reply
words_not tb st = lacking 14 _ refl

then_not : (r n : ℕ) → r ≢ 14 → n ≢ 14 → then r n ≢ 14
unfolding then
then_not zero n h k = k
then_not (suc r) n h k = h

pub step_not : (tb st : List ℕ) (a t : ℕ) → (step_into tb st a t).reply ≢ 14
unfolding step_reply
step_not tb st a t e =
    then_not (words_reply tb st) _ (words_not tb st) (choice_not (table_part tb) (state_part st) a t)
    (sym (same (step_reply tb st a t)) ∙ sym (ap (λ (o : Outcome). o.reply) (stepped_by tb st a t)) ∙ e)
  where
    new : List ℕ
    new = accepted (table_part tb) (state_part st) a t ++ past_state st

    same : (r : ℕ) → (answer r new st).reply ≡ r
    same zero = refl
    same (suc r) = refl

from_not : (tb st : List ℕ) (n : ℕ) (cs : List ℕ) → (run_from tb st n cs).reply ≢ 14
unfolding run_from
from_not tb st n [] = λ e. omega arith
from_not tb st n (a ∷ []) = λ e. omega arith
from_not tb st n (a ∷ t ∷ cs) = go (choice_reply tb st a t) refl (from_not tb (accepted tb st a t) (n + 1) cs)
  where
    go : (r : ℕ) → choice_reply tb st a t ≡ r → (run_from tb (accepted tb st a t) (n + 1) cs).reply ≢ 14 → (run_from tb st n (a ∷ t ∷ cs)).reply ≢ 14
    go zero c rest = rw (run_go tb st n a t cs c) rest
    go (suc r) c rest = rw (run_stop tb st n a t cs r c) (λ e. choice_not tb st a t (c ∙ e))

refusal_not : (tb st cs : List ℕ) → run_refusal tb st cs ≢ 14
unfolding run_refusal
refusal_not tb st cs = lacking 14 _ refl

pub run_not : (tb st cs : List ℕ) → (run_into tb st cs).reply ≢ 14
unfolding run_into
run_not tb st cs = go (run_refusal tb st cs) (refusal_not tb st cs)
  where
    go : (r : ℕ) → r ≢ 14 → (elim r as (λ _. RunOutcome) [
      | zero ↦ before (run_from (table_part tb) (start_words (table_part tb)) 0 cs) (past_state st)
      | suc r ↦ ended (suc r) 0 st
    ]).reply ≢ 14
    go zero n = from_not (table_part tb) (start_words (table_part tb)) 0 cs
    go (suc r) n = n

pub pick_not : (tb st : List ℕ) → (pick_from tb st).reply ≢ 14
unfolding pick_reply
pick_not tb st e = then_not (words_reply tb st) _ (words_not tb st) (end_not (all_ended (table_part tb) (state_part st))) (sym (replied tb st (pick_reply tb st) refl) ∙ e)
  where
    end_not : (b : Bool) → ◌≢◌ {A = ℕ} (cond b 11 0) 14
    end_not true h = omega arith
    end_not false h = omega arith
