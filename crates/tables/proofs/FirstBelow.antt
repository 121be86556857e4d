-- The first number below n of which a test holds. Assumes nothing.
use mathlib.Core.Path.{◌≡◌, refl, sym, ap, ◌∙◌}
use mathlib.Core.Bool.{Bool, true, false, false≢true}
use Prim.Native.Nat.{ℕ, zero, suc, suc-le-suc, ◌<◌}
use native.Mathlib.Nat.{not-suc-le-zero, le_of_suc-le-suc}
use native.Mathlib.Decide.{dec_lt}
use native.Mathlib.Omega.{arith}
use Rattle.tables.specs.Basics.{first_below}

-- the first test told
found : (n : ℕ) (f : ℕ → Bool) (b : Bool) → f 0 ≡ b → first_below (suc n) f ≡ elim b as (λ _. ℕ) [ true ↦ 0 | false ↦ suc (first_below n (λ i. f (suc i))) ]
unfolding first_below
found n f b h = ap (λ (x : Bool). elim x as (λ _. ℕ) [ true ↦ 0 | false ↦ suc (first_below n (λ i. f (suc i))) ]) h

pub first_below_is : (n : ℕ) (f : ℕ → Bool) (v : ℕ) → v < n → f v ≡ true → ((i : ℕ) → i < v → f i ≡ false) → first_below n f ≡ v
unfolding first_below
first_below_is zero f v h t no_lower = absurd (not-suc-le-zero h)
first_below_is (suc n) f zero h t no_lower = found n f true t
first_below_is (suc n) f (suc v) h t no_lower =
    found n f false (no_lower 0 (omega arith))
    ∙ ap suc (first_below_is n (λ i. f (suc i)) v (le_of_suc-le-suc h) t (λ i k. no_lower (suc i) (suc-le-suc k)))

pub first_below_none : (n : ℕ) (f : ℕ → Bool) → ((i : ℕ) → i < n → f i ≡ false) → first_below n f ≡ n
unfolding first_below
first_below_none zero f none = refl
first_below_none (suc n) f none =
    found n f false (none 0 (omega arith)) ∙ ap suc (first_below_none n (λ i. f (suc i)) (λ i k. none (suc i) (suc-le-suc k)))

-- the test holds of none before it,
pub first_below_before : (n : ℕ) (f : ℕ → Bool) (i : ℕ) → i < first_below n f → f i ≡ false
unfolding first_below
first_below_before zero f i h = absurd (not-suc-le-zero h)
first_below_before (suc n) f i h = go (f 0) refl i h (first_below_before n (λ j. f (suc j)))
  where
    go : (b : Bool) → f 0 ≡ b → (j : ℕ) → j < first_below (suc n) f → ((k : ℕ) → k < first_below n (λ j. f (suc j)) → f (suc k) ≡ false) → f j ≡ false
    go true e j l next = absurd (not-suc-le-zero (rw (found n f true e) at l))
    go false e zero l next = e
    go false e (suc j) l next = next j (le_of_suc-le-suc (rw (found n f false e) at l))

-- and of it, where it is below n
pub first_below_holds : (n : ℕ) (f : ℕ → Bool) → first_below n f < n → f (first_below n f) ≡ true
unfolding first_below
first_below_holds zero f h = absurd (not-suc-le-zero h)
first_below_holds (suc n) f h = go (f 0) refl (first_below_holds n (λ j. f (suc j)))
  where
    go : (b : Bool) → f 0 ≡ b → (first_below n (λ j. f (suc j)) < n → f (suc (first_below n (λ j. f (suc j)))) ≡ true) → f (first_below (suc n) f) ≡ true
    go true e next = let p = found n f true e in rw p e
    go false e next = let p = found n f false e in rw p (next (le_of_suc-le-suc (rw p at h)))

-- which it is where the test holds of some number below n
pub first_below_found : (n : ℕ) (f : ℕ → Bool) (i : ℕ) → i < n → f i ≡ true → (first_below n f < n) × (f (first_below n f) ≡ true)
first_below_found n f i h t = go (dec_lt (first_below n f) n)
  where
    go : Dec (first_below n f < n) → (first_below n f < n) × (f (first_below n f) ≡ true)
    go (yes l) = (l, first_below_holds n f l)
    go (no m) = absurd (false≢true (sym (first_below_before n f i (omega arith)) ∙ t))
