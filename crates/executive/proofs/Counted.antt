-- The count of a run is the length of its accepted beginning, at most 512. Assumes nothing.
use mathlib.Core.Path.{◌≡◌, refl, sym, ap, ◌∙◌}
use mathlib.Core.List.{List, [], ◌∷◌}
use Prim.Native.Nat.{ℕ, zero, suc, suc-le-suc, ◌+◌, ◌≤◌}
use native.Mathlib.Omega.{arith}
use lib.ListN.{length, length-take}
use borrow.Author.Tests.{ltb-false, not-false}
use Rattle.tables.specs.Layout.{table_words}
use Rattle.tables.proofs.Passed.{passed}
use Rattle.executive.specs.Run.{RunOutcome}
use Rattle.executive.specs.Calls.{table_part, start_into, step_into, run_refusal, run_into}
use Rattle.executive.specs.Laws.{one_by_one, Begins}
use Rattle.executive.proofs.Runs.{count_from_start}
use Rattle.executive.proofs.OneByOne.{one_reply, ran, run_is_steps}

module _ (tb : List ℕ) where
  -- the count is the length of the accepted beginning: so many are accepted, and no longer beginning is
  pub count_begins : (st cs : List ℕ) (n : ℕ) → (k : ℕ) × ((one_by_one tb st n cs).count ≡ n + k) × Begins tb st cs k × ((j : ℕ) → Begins tb st cs j → j ≤ k)
  unfolding one_by_one
  count_begins st [] n = (0, omega arith, tt, none)
    where
      none : (j : ℕ) → Begins tb st [] j → j ≤ 0
      none zero b = omega arith
      none (suc j) b = absurd b
  count_begins st (a ∷ []) n = (0, omega arith, tt, none)
    where
      none : (j : ℕ) → Begins tb st (a ∷ []) j → j ≤ 0
      none zero b = omega arith
      none (suc j) b = absurd b
  count_begins st (a ∷ t ∷ cs) n = go (step_into tb st a t).reply refl (count_begins (step_into tb st a t).state cs (n + 1))
    where
      go : (r : ℕ) → (step_into tb st a t).reply ≡ r
          → (k : ℕ) × ((one_by_one tb (step_into tb st a t).state (n + 1) cs).count ≡ n + 1 + k) × Begins tb (step_into tb st a t).state cs k × ((j : ℕ) → Begins tb (step_into tb st a t).state cs j → j ≤ k)
          → (k : ℕ) × ((one_by_one tb st n (a ∷ t ∷ cs)).count ≡ n + k) × Begins tb st (a ∷ t ∷ cs) k × ((j : ℕ) → Begins tb st (a ∷ t ∷ cs) j → j ≤ k)
      go zero e rest = (
        suc rest.0,
        ap (λ (q : RunOutcome). q.count) (one_reply tb st n a t cs 0 e) ∙ rest.1 ∙ omega arith,
        (e, rest.2),
        more,
      )
        where
          more : (j : ℕ) → Begins tb st (a ∷ t ∷ cs) j → j ≤ suc rest.0
          more zero b = omega arith
          more (suc j) b = suc-le-suc (rest.3 j b.1)
      go (suc r) e rest = (0, ap (λ (q : RunOutcome). q.count) (one_reply tb st n a t cs (suc r) e) ∙ omega arith, tt, none)
        where
          none : (j : ℕ) → Begins tb st (a ∷ t ∷ cs) j → j ≤ 0
          none zero b = omega arith
          none (suc j) b = absurd (let z = b.0 in omega arith)

  module _ (st cs : List ℕ) (h : run_refusal tb st cs ≡ 0) where
    pub run_count : Begins tb (start_into tb st).state cs (run_into tb st cs).count
        × ((j : ℕ) → Begins tb (start_into tb st).state cs j → j ≤ (run_into tb st cs).count)
    run_count =
        let c = count_begins (start_into tb st).state cs 0 in
        let e : c.0 ≡ (run_into tb st cs).count = omega (arith, c.1, ap (λ (q : RunOutcome). q.count) (run_is_steps tb st cs h)) in
        rw (sym e) (c.2, c.3)

    -- "Accepted steps are at most 512"
    pub run_few : (run_into tb st cs).count ≤ 512
    unfolding run_refusal
    run_few =
        let clear = passed _ tt h in
        let l : table_words ≤ length tb = ltb-false _ _ (clear 0) in
        let n : length (table_part tb) ≡ table_words = simp length-take (omega arith) in
        rw (ran tb st cs h) (count_from_start (table_part tb) (not-false _ (clear 3)) n cs)
