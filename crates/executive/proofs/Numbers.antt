-- ONES and LOW against their meaning in bits, SUB against the remainder modulo 2^32, and each as the first number of which a test holds. Assumes nothing.
use mathlib.Core.Path.{◌≡◌, refl, sym, ap, ◌∙◌}
use mathlib.Core.Logic.{◌↔◌}
use mathlib.Core.Bool.{false}
use Prim.Native.Nat.{ℕ, zero, suc, suc-le-suc, ◌+◌, ◌-◌, ◌/◌, ◌%◌, ◌^◌, ◌<◌}
use native.Mathlib.Nat.{pow-succ', div-div-eq-div-mul, not-suc-le-zero, le_of_suc-le-suc, div-one}
use native.Mathlib.Decide.{dec_lt}
use native.Mathlib.Omega.{arith}
use lib.Dec.{eqb}
use borrow.Author.Tests.{eq-eqb, ne_eqb}
use Rattle.tables.specs.Basics.{first_below}
use Rattle.tables.proofs.FirstBelow.{first_below_is, first_below_none}
use Rattle.executive.specs.Numbers.{bit, bits, Lowest}
use lib.Count.{ones_in, count_trailing_zeros, under}

bit_low : (y : ℕ) → bit y 0 ≡ y % 2
bit_low y = ap (λ (x : ℕ). x % 2) (div-one y)

bit_half : (y i : ℕ) → bit (y / 2) i ≡ bit y (suc i)
bit_half y i = ap (λ (x : ℕ). x % 2) (div-div-eq-div-mul y 2 (2 ^ i) ∙ ap (λ (x : ℕ). y / x) (sym (pow-succ' 2 i)))

-- ---- ONES

bits_half : (y n : ℕ) → bits y (suc n) ≡ y % 2 + bits (y / 2) n
bits_half y zero = let e = bit_low y in omega arith
bits_half y (suc n) = let e = bits_half y n in let f = bit_half y n in omega arith

ones_are : (n y : ℕ) → ones_in n y ≡ bits y n
unfolding ones_in
ones_are zero y = refl
ones_are (suc n) y = ap (λ (x : ℕ). y % 2 + x) (ones_are n (y / 2)) ∙ sym (bits_half y n)

-- "the number of one bits in y"
pub ones_bits : (y : ℕ) → ones_in 32 y ≡ bits y 32
ones_bits y = ones_are 32 y

-- ---- LOW

low_bits : (n y : ℕ) → Lowest n y (count_trailing_zeros n y)
unfolding count_trailing_zeros
low_bits zero y = record { most = omega arith; zeros = λ i h. absurd (not-suc-le-zero h); one = λ h. absurd (not-suc-le-zero h) }
low_bits (suc n) y = go (y % 2) refl (low_bits n (y / 2))
  where
    go : (d : ℕ) → y % 2 ≡ d → Lowest n (y / 2) (count_trailing_zeros n (y / 2)) → Lowest (suc n) y (under d (count_trailing_zeros n (y / 2)))
    go zero e l =
        record {
          most = suc-le-suc l.most;
          zeros = below;
          one = λ h. sym (bit_half y (count_trailing_zeros n (y / 2))) ∙ l.one (le_of_suc-le-suc h);
        }
      where
        below : (i : ℕ) → i < suc (count_trailing_zeros n (y / 2)) → bit y i ≡ 0
        below zero h = bit_low y ∙ e
        below (suc i) h = sym (bit_half y i) ∙ l.zeros i (le_of_suc-le-suc h)
    go (suc d) e l =
        record {
          most = omega arith;
          zeros = λ i h. absurd (not-suc-le-zero h);
          one = λ h. let b = bit_low y in omega arith;
        }

-- "the number of zero bits below the lowest one bit of y"
pub low_is : (y : ℕ) → Lowest 32 y (count_trailing_zeros 32 y)
low_is y = low_bits 32 y

-- "32 where y is 0": exactly where all 32 bits are 0
pub low_none : (y : ℕ) → (count_trailing_zeros 32 y ≡ 32) ↔ ((i : ℕ) → i < 32 → bit y i ≡ 0)
low_none y = (λ e i h. (low_is y).zeros i (omega arith), λ zero_bits. go zero_bits (dec_lt (count_trailing_zeros 32 y) 32))
  where
    go : ((i : ℕ) → i < 32 → bit y i ≡ 0) → Dec (count_trailing_zeros 32 y < 32) → count_trailing_zeros 32 y ≡ 32
    go z (yes h) = absurd (let a = z (count_trailing_zeros 32 y) h in let b = (low_is y).one h in omega arith)
    go z (no h) = let m = (low_is y).most in omega arith

-- ---- SUB

-- x-y modulo 2^32 is the number below 2^32 that, with y added, is x modulo 2^32
abbrev pub difference : ℕ → ℕ → ℕ
difference x y = (x + 2 ^ 32 - y % 2 ^ 32) % 2 ^ 32

pub sub_is : (x y : ℕ) → (difference x y < 2 ^ 32) × ((difference x y + y) % 2 ^ 32 ≡ x % 2 ^ 32)
sub_is x y = (omega arith, omega arith)

-- ---- as the first number of which a test holds

-- LOW: the first place of a one bit
pub low_first : (y : ℕ) → count_trailing_zeros 32 y ≡ first_below 32 (λ i. eqb (bit y i) 1)
low_first y = go (dec_lt (count_trailing_zeros 32 y) 32)
  where
    unset : (i : ℕ) → bit y i ≡ 0 → eqb (bit y i) 1 ≡ false
    unset i e = ne_eqb (bit y i) 1 (λ d. omega arith)

    go : Dec (count_trailing_zeros 32 y < 32) → count_trailing_zeros 32 y ≡ first_below 32 (λ i. eqb (bit y i) 1)
    go (yes h) =
        sym (first_below_is 32 (λ i. eqb (bit y i) 1) (count_trailing_zeros 32 y) h (eq-eqb (bit y (count_trailing_zeros 32 y)) 1 ((low_is y).one h))
        (λ i k. unset i ((low_is y).zeros i k)))
    go (no h) =
        let e : count_trailing_zeros 32 y ≡ 32 = let m = (low_is y).most in omega arith in
        e ∙ sym (first_below_none 32 (λ i. eqb (bit y i) 1) (λ i k. unset i ((low_none y).0 e i k)))

-- SUB: the first number that, with y added, is x modulo 2^32
pub sub_first : (x y : ℕ) → (x + 2 ^ 32 - y % 2 ^ 32) % 2 ^ 32 ≡ first_below (2 ^ 32) (λ v. eqb ((v + y) % 2 ^ 32) (x % 2 ^ 32))
sub_first x y =
    sym (first_below_is (2 ^ 32) (λ v. eqb ((v + y) % 2 ^ 32) (x % 2 ^ 32)) (difference x y) (sub_is x y).0
    (eq-eqb ((difference x y + y) % 2 ^ 32) (x % 2 ^ 32) (sub_is x y).1) (λ i k. ne_eqb ((i + y) % 2 ^ 32) (x % 2 ^ 32) (λ e. omega arith)))
