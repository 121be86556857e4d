-- Words that are 0 from one place to another: as a chain tests them, and what it says of each place; and a list of zeros. Assumes nothing.
use mathlib.Core.Path.{◌≡◌, refl, sym, ap, ◌∙◌}
use mathlib.Core.Bool.{Bool, true, ◌&&◌, and-true, and_assoc}
use mathlib.Core.List.{List, [], ◌∷◌}
use Prim.Native.Nat.{ℕ, zero, suc, ◌+◌, ◌-◌, ◌≤◌, ◌<◌}
use native.Mathlib.Omega.{arith}
use lib.Dec.{eqb}
use lib.ListN.{take, drop, get_or, replicate}
use lib.Seq.{get_or-drop}
use borrow.Author.Tests.{eq-eqb, eqb-true}
use Rattle.std.specs.List.{fold}
use Rattle.tables.proofs.Passed.{below, all_below_lem}
use Rattle.tables.specs.Basics.{all_zero, all_below, zero_from}

more : (l : List ℕ) (n : ℕ) → all_zero (take (suc n) l) ≡ (all_zero (take n l) && eqb (get_or l n 0) 0)
unfolding all_zero
more [] zero = refl
more [] (suc n) = refl
more (x ∷ l) zero = and-true (eqb x 0)
more (x ∷ l) (suc n) = ap (λ (b : Bool). eqb x 0 && b) (more l n) ∙ sym (and_assoc (eqb x 0) (all_zero (take n l)) (eqb (get_or l n 0) 0))

-- a test of each word in turn, as a chain makes it
pub zero_folded : (b : Bool) (l : List ℕ) → fold (λ good w. good && eqb w 0) b l ≡ (b && all_zero l)
unfolding all_zero
zero_folded b [] = sym (and-true b)
zero_folded b (x ∷ l) = zero_folded (b && eqb x 0) l ∙ and_assoc b (eqb x 0) (all_zero l)

-- ---- what it says of each place, and back

abbrev is_zero : List ℕ → ℕ → Bool
is_zero l k = eqb (get_or l k 0) 0

zeros_below : (l : List ℕ) (n : ℕ) → all_zero (take n l) ≡ all_below n (is_zero l)
unfolding all_zero all_below
zeros_below l zero = refl
zeros_below l (suc n) = more l n ∙ ap (λ (b : Bool). b && is_zero l n) (zeros_below l n)

module _ (ws : List ℕ) (i j : ℕ) where
  pub zero_at : zero_from ws i j ≡ true → (k : ℕ) → i ≤ k → k < j → get_or ws k 0 ≡ 0
  unfolding zero_from
  zero_at h k b c =
      let e : i + (k - i) ≡ k = omega arith in
      ap (λ (n : ℕ). get_or ws n 0) (sym e) ∙ sym (get_or-drop i ws (k - i) 0) ∙ eqb-true _ 0 (below (j - i) (is_zero (drop i ws)) (sym (zeros_below (drop i ws) (j - i)) ∙ h) (k - i) (omega arith))

  pub zero_all : ((k : ℕ) → i ≤ k → k < j → get_or ws k 0 ≡ 0) → zero_from ws i j ≡ true
  unfolding zero_from
  zero_all h =
      zeros_below (drop i ws) (j - i)
      ∙ all_below_lem (j - i) (is_zero (drop i ws)) (λ k b. eq-eqb _ 0 (get_or-drop i ws k 0 ∙ h (i + k) (omega arith) (omega arith)))

-- ---- a list of zeros

pub get_or-zeros : (n i : ℕ) → get_or {A = ℕ} (replicate n 0) i 0 ≡ 0
get_or-zeros zero i = refl
get_or-zeros (suc n) zero = refl
get_or-zeros (suc n) (suc i) = get_or-zeros n i
