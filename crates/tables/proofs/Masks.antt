-- The fields of a code word that are named, and in their range, by one mask: the bits that must be 0. Assumes nothing.
use mathlib.Core.Path.{◌≡◌, refl, sym, ap, ◌∙◌}
use mathlib.Core.Bool.{Bool, true, false, ◌||◌, cond}
use Prim.Native.Nat.{ℕ, ◌+◌, ◌*◌, ◌/◌, ◌%◌, ◌≤◌, ◌<◌}
use native.Mathlib.Omega.{arith}
use lib.Dec.{eqb}
use lib.Bits.{bit_and, and_mask, and_high, and_zero_r}
use borrow.Author.Tests.{leb-true, le-leb, eqb-true, eqb-false, eq-eqb, ne_eqb}
use Rattle.tables.proofs.Passed.{each, every_go, every_last}
use Rattle.tables.proofs.Blocks.{block_and}
use Rattle.tables.specs.Layout.{row_of}
use Rattle.tables.specs.Rows.{within, fields_fit}

-- the bits of a field that must be 0: those above its limit where the row names it, and all where it does not
abbrev spare : Bool → ℕ → ℕ
spare named above = cond named above 255

-- the same of a code word, below its op
abbrev pub spare_of : (x y n : Bool) → ℕ
spare_of x y n = ((0 * 256 + spare x 252) * 256 + spare y 252) * 256 + spare n 224

-- ---- a field

in_byte : (named : Bool) (above : ℕ) → above < 256 → spare named above < 256
in_byte true above h = h
in_byte false above h = omega arith

-- the bits that must be 0 are 0 exactly where the field is within its limit
pub record Spares (named : Bool) (limit above v : ℕ) : Type 0 where
  pub none : within named limit v ≡ true → bit_and v (spare named above) ≡ 0
  pub fits : bit_and v (spare named above) ≡ 0 → within named limit v ≡ true

module _ (v : ℕ) (byte : v < 256) where
  all_bits : bit_and v 255 ≡ v
  all_bits = let e = and_mask v 8 in omega arith

  spares : (limit above : ℕ) → (v ≤ limit → bit_and v above ≡ 0) → (bit_and v above ≡ 0 → v ≤ limit) → (named : Bool) → Spares named limit above v
  unfolding within
  spares limit above h k true = record { none = λ e. h (leb-true v limit e); fits = λ e. le-leb v limit (k e) }
  spares limit above h k false = record { none = λ e. all_bits ∙ eqb-true v 0 e; fits = λ e. eq-eqb v 0 (sym all_bits ∙ e) }

  -- `omega` reads the powers as numerals alone
  spares_3 : (named : Bool) → Spares named 3 252 v
  spares_3 =
      let e : bit_and v 252 ≡ v / 4 % 64 * 4 = and_high v 6 2 in
      let q : v / 4 ≤ 63 = omega arith in
      let m : v / 4 % 64 ≡ v / 4 = omega arith in
      spares 3 252 (λ h. omega arith) (λ h. omega arith)

  spares_31 : (named : Bool) → Spares named 31 224 v
  spares_31 =
      let e : bit_and v 224 ≡ v / 32 % 8 * 32 = and_high v 3 5 in
      let q : v / 32 ≤ 7 = omega arith in
      let m : v / 32 % 8 ≡ v / 32 = omega arith in
      spares 31 224 (λ h. omega arith) (λ h. omega arith)

-- ---- a code word

module _ (code k early late : ℕ) (x y n : Bool) where
  abbrev bits_x : ℕ
  bits_x = bit_and (code / 65536 % 256) (spare x 252)

  abbrev bits_y : ℕ
  bits_y = bit_and (code / 256 % 256) (spare y 252)

  abbrev bits_n : ℕ
  bits_n = bit_and (code % 256) (spare n 224)

  by_fields : bit_and code (spare_of x y n) ≡ ((0 * 256 + bits_x) * 256 + bits_y) * 256 + bits_n
  by_fields =
      let c : code ≡ ((code / 16777216 * 256 + code / 65536 % 256) * 256 + code / 256 % 256) * 256 + code % 256 = omega arith in
      ap (λ (v : ℕ). bit_and v (spare_of x y n)) c
      ∙ block_and 8 _ _ (code % 256) (spare n 224) _ (omega arith) (in_byte n 224 (omega arith))
      (block_and 8 _ _ (code / 256 % 256) (spare y 252) _ (omega arith) (in_byte y 252 (omega arith))
      (block_and 8 (code / 16777216) 0 (code / 65536 % 256) (spare x 252) 0 (omega arith) (in_byte x 252 (omega arith)) (and_zero_r (code / 16777216))))

  module _ (free : Bool) where
    -- no bit stands where it must not: k decides
    pub none_spare : bit_and code (spare_of x y n) ≡ 0 → (free || eqb k 0) ≡ fields_fit (row_of code k early late) x y n free
    unfolding fields_fit row_of
    none_spare e =
        let b = by_fields in
        every_go _ _ _ ((spares_3 (code / 65536 % 256) (omega arith) x).fits (omega arith))
        (every_go _ _ _ ((spares_3 (code / 256 % 256) (omega arith) y).fits (omega arith))
        (every_go _ _ _ ((spares_31 (code % 256) (omega arith) n).fits (omega arith))
        (every_last _)))

    some_bit : (bit_and code (spare_of x y n) ≡ 0 → ⊥) → false ≡ fields_fit (row_of code k early late) x y n free
    unfolding fields_fit row_of
    some_bit e = go (fields_fit (row_of code k early late) x y n free) refl
      where
        go : (b : Bool) → fields_fit (row_of code k early late) x y n free ≡ b → false ≡ b
        go true h =
            let b = by_fields in
            let p = (spares_3 (code / 65536 % 256) (omega arith) x).none (each _ h 0) in
            let q = (spares_3 (code / 256 % 256) (omega arith) y).none (each _ h 1) in
            let r = (spares_31 (code % 256) (omega arith) n).none (each _ h 2) in
            absurd (e (omega arith))
        go false h = refl

    -- a bit stands where it must not: k is not looked at
    pub some_spare : (bit_and code (spare_of x y n) ≡ 0 → ⊥) → eqb (bit_and code (spare_of x y n)) 0 ≡ fields_fit (row_of code k early late) x y n free
    some_spare e = ne_eqb _ 0 e ∙ some_bit e

  -- a row whose k is free
  pub by_bits : eqb (bit_and code (spare_of x y n)) 0 ≡ fields_fit (row_of code k early late) x y n true
  by_bits = go (eqb (bit_and code (spare_of x y n)) 0) refl
    where
      go : (b : Bool) → eqb (bit_and code (spare_of x y n)) 0 ≡ b → b ≡ fields_fit (row_of code k early late) x y n true
      go true h = none_spare true (eqb-true _ 0 h)
      go false h = some_bit true (eqb-false _ 0 h)
