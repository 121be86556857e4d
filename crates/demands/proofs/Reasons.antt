-- The tests of a choice stand for the model's reasons, one by one, so its reply is the number of the first.
use Rattle.std.proofs.lemmas.Bool.{or_parts}
use mathlib.Core.Path.{◌≡◌, refl, sym, ◌∙◌}
use mathlib.Core.Logic.{◌⊎◌, inl, inr}
use mathlib.Core.Bool.{Bool, true, false, not, cond, true≢false}
use mathlib.Core.List.{List, [], ◌∷◌}
use Prim.Native.Nat.{ℕ, ◌<◌}
use native.Mathlib.Omega.{arith}
use lib.Dec.{ltb, leb}
use borrow.Author.Tests.{ltb-true, ltb-false, leb-true, leb-false, lt-leb, not-true, not-false}
use Rattle.tables.specs.Basics.{Rule, ◌⇒◌, first}
use Rattle.tables.specs.Layout.{agents, rows}
use Rattle.tables.specs.Table.{good_table}
use Rattle.tables.proofs.Passed.{some_fails}
use Rattle.choices.specs.State.{clock, pos}
use Rattle.choices.specs.Fit.{current, in_time, unfinished}
use Rattle.choices.specs.Step.{choice_reply}
use Rattle.choices.proofs.Choice.{in_time_lem}
use Rattle.demands.specs.Reasons.{Overdue, Reason, Reply, First, reasons}
use Rattle.demands.specs.Instance.{decode}
use Rattle.demands.proofs.Decode.{state_low}
use Rattle.demands.proofs.Step.{low}

-- Tests that stand for reasons, one by one: each counts only where the tests before it have failed.
data Tested : List Rule → List Reason → Type 1 where
  none_left_lem : Tested [] []
  test : {v : Bool} {P : Type 0} {k : ℕ} {rs : List Rule} {ps : List Reason} → (v ≡ true → P) → (v ≡ false → P → ⊥) → (v ≡ false → Tested rs ps)
      → Tested ((v ⇒ k) ∷ rs) (Reason.◌⇒◌ P k ∷ ps)

tested_first : {rs : List Rule} {ps : List Reason} → Tested rs ps → First ps (first rs)
unfolding first
tested_first none_left_lem = refl
tested_first (test {v} {P} {k} {rs} {ps} holds fails rest) = go v refl (λ e. tested_first (rest e))
  where
    go : (w : Bool) → v ≡ w → (v ≡ false → First ps (first rs)) → (P × (cond v k (first rs) ≡ k)) ⊎ ((P → ⊥) × First ps (cond v k (first rs)))
    go true e next = inl (holds e, rw e)
    go false e next = inr (fails e, rw e (next e))

-- a time that is not in time is above some unfinished agent's late, and the other way round
module _ (tb st : List ℕ) (good : good_table tb ≡ true) (t : ℕ) where
  overdue : in_time tb st t ≡ false → Overdue (decode tb st) t
  unfolding in_time unfinished
  overdue e =
      let (b, h, fails) = some_fails (agents tb) _ e in
      let (live, late) = or_parts (not (ltb (pos st b) (rows tb b))) (leb t (current tb st b).late) fails in
      let in_words = state_low tb st b (low tb st good h) in
      (b, h, rw in_words (lt-leb (rows tb b) (pos st b) (ltb-true (pos st b) (rows tb b) (not-false _ live))), rw in_words (leb-false _ _ late))

  not_overdue : in_time tb st t ≡ true → Overdue (decode tb st) t → ⊥
  not_overdue e (b, h, live, over) =
      let in_words = state_low tb st b (low tb st good h) in
      let due = in_time_lem tb st t e b h (leb-false _ _ (rw in_words at live)) in
      let past : (current tb st b).late < t = rw in_words at over in
      omega arith

module _ (tb st : List ℕ) (good : good_table tb ≡ true) (a t : ℕ) where
  pub first_reason : Reply (decode tb st) a t (choice_reply tb st a t)
  unfolding choice_reply
  first_reason =
      tested_first {ps = reasons (decode tb st) a t}
      (test (leb-true _ _) (λ e p. let n = leb-false (agents tb) a e in omega arith) (λ e.
      let in_words = state_low tb st a (low tb st good (leb-false (agents tb) a e)) in
      test (λ e. rw in_words e) (λ e p. true≢false (sym p ∙ rw in_words e)) (λ _.
      test (ltb-true _ _) (λ e p. let n = ltb-false t (clock st) e in omega arith) (λ _.
      test (λ e. rw in_words (ltb-true _ _ e)) (λ e p. let n = ltb-false t (current tb st a).early e in let m : t < (current tb st a).early = rw in_words at p in omega arith) (λ _.
      test (λ e. overdue tb st good t (not-true (in_time tb st t) e)) (λ e. not_overdue tb st good t (not-false (in_time tb st t) e)) (λ _. none_left_lem))))))
