-- A call's outcome by its reply: the words stay where it refuses. Assumes nothing.
use mathlib.Core.Path.{◌≡◌, refl, sym, ap, ◌∙◌}
use mathlib.Core.Bool.{cond}
use mathlib.Core.List.{List, ◌++◌}
use Prim.Native.Nat.{ℕ, zero, suc}
use native.Mathlib.Omega.{arith}
use lib.Dec.{eqb}
use lib.ListN.{take-append-drop}
use borrow.Author.Tests.{eq-eqb, ne_eqb}
use Rattle.std.specs.Prelude.{Result, Ok, Err}
use Rattle.std.specs.Result.{IsErrAnd}
use Rattle.tables.specs.Replies.{number_of, reply}
use Rattle.tables.specs.declared.replies.Refusal.{Refusal}
use Rattle.executive.specs.declared.Stopped.{Stopped}
use Rattle.executive.specs.Replies.{ran_of}
use Rattle.tables.proofs.Refusals.{no_zero}
use Rattle.executive.proofs.Refusals.{given_back}
use Rattle.choices.specs.State.{start_words}
use Rattle.choices.specs.Step.{choice_reply, accepted}
use Rattle.executive.specs.Run.{RunOutcome, ended, run_from}
use Rattle.executive.specs.Calls.{Outcome, outcome, table_part, state_part, past_state, start_reply, start_into, step_reply, step_into, run_refusal, before, run_into}

-- a reply that goes on to the words ws, and else leaves st
abbrev done : ℕ → List ℕ → List ℕ → Outcome
done r ws st = elim r as (λ _. Outcome) [ zero ↦ outcome 0 ws | suc n ↦ outcome (suc n) st ]

refused : (r : ℕ) (ws st : List ℕ) → (r ≡ 0 → ⊥) → outcome r st ≡ done r ws st
refused zero ws st n = absurd (n refl)
refused (suc r) ws st n = refl

module _ (tb st : List ℕ) where
  pub start_stops : (x : Refusal) (r : Result Unit Refusal) → IsErrAnd r (λ e. e ≡ x) → number_of x ≡ start_reply tb st → outcome (reply r) st ≡ start_into tb st
  unfolding start_into
  start_stops x r h k =
      let g = given_back x r h k in
      refused (reply r) (start_words (table_part tb) ++ past_state st) st g.1 ∙ ap (λ (k : ℕ). done k (start_words (table_part tb) ++ past_state st) st) g.0

  pub start_goes : 0 ≡ start_reply tb st → outcome 0 (start_words (table_part tb) ++ past_state st) ≡ start_into tb st
  unfolding start_into
  start_goes e = ap (λ (k : ℕ). done k (start_words (table_part tb) ++ past_state st) st) e

-- the state's words after a choice: as they were where it is refused
unfoldable pub words_after : (tb st : List ℕ) (a t : ℕ) → List ℕ
words_after tb st a t = cond (eqb (choice_reply tb st a t) 0) (accepted tb st a t) st

module _ (tb st : List ℕ) (a t : ℕ) where
  abbrev stepped : List ℕ
  stepped = accepted (table_part tb) (state_part st) a t ++ past_state st

  pub step_stops : (x : Refusal) (r : Result Unit Refusal) → IsErrAnd r (λ e. e ≡ x) → number_of x ≡ step_reply tb st a t → outcome (reply r) st ≡ step_into tb st a t
  unfolding step_into
  step_stops x r h k = let g = given_back x r h k in refused (reply r) stepped st g.1 ∙ ap (λ (k : ℕ). done k stepped st) g.0

  -- where the reply is the choice's, and the words are those after the choice
  pub step_ends : (r : ℕ) (ws : List ℕ) → r ≡ step_reply tb st a t → r ≡ choice_reply (table_part tb) (state_part st) a t
      → ws ≡ words_after (table_part tb) (state_part st) a t → outcome r (ws ++ past_state st) ≡ step_into tb st a t
  unfolding step_into words_after
  step_ends zero ws e c w =
      let h = eq-eqb (choice_reply (table_part tb) (state_part st) a t) 0 (sym c) in
      let f : ws ≡ accepted (table_part tb) (state_part st) a t = w ∙ rw h in
      ap (λ (l : List ℕ). outcome 0 (l ++ past_state st)) f ∙ ap (λ (k : ℕ). done k stepped st) e
  step_ends (suc r) ws e c w =
      let h = ne_eqb (choice_reply (table_part tb) (state_part st) a t) 0 (λ d. suc_is_not_zero (c ∙ d)) in
      let f : ws ≡ state_part st = w ∙ rw h in
      ap (λ (l : List ℕ). outcome (suc r) (l ++ past_state st)) f
      ∙ ap (outcome (suc r)) (take-append-drop 1105 st)
      ∙ ap (λ (k : ℕ). done k stepped st) e
    where
      suc_is_not_zero : suc r ≡ 0 → ⊥
      suc_is_not_zero d = omega arith

module _ (tb st cs : List ℕ) where
  ran : ℕ → RunOutcome
  ran k = elim k as (λ _. RunOutcome) [ zero ↦ before (run_from (table_part tb) (start_words (table_part tb)) 0 cs) (past_state st) | suc n ↦ ended (suc n) 0 st ]

  pub run_stops : (r : ℕ) → r ≡ run_refusal tb st cs → (r ≡ 0 → ⊥) → ended r 0 st ≡ run_into tb st cs
  unfolding run_into ran
  run_stops zero e n = absurd (n refl)
  run_stops (suc r) e n = ap ran e

  pub run_refused : (x : Refusal) (r : Result ℕ Stopped) → IsErrAnd r (λ s. s ≡ record { refusal = x; count = 0 }) → number_of x ≡ run_refusal tb st cs
      → ended (ran_of r).reply (ran_of r).count st ≡ run_into tb st cs
  run_refused x (Ok _) h k = absurd h
  run_refused x (Err s) h k = ap (λ (q : Stopped). ended (number_of q.refusal) q.count st) h ∙ run_stops (number_of x) k (no_zero x)

  pub run_ends : (r n : ℕ) (ws : List ℕ) → 0 ≡ run_refusal tb st cs → ended r n ws ≡ run_from (table_part tb) (start_words (table_part tb)) 0 cs
      → ended r n (ws ++ past_state st) ≡ run_into tb st cs
  unfolding run_into ran
  run_ends r n ws e q = ap (λ (o : RunOutcome). before o (past_state st)) q ∙ ap ran e
