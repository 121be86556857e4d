-- Each of the 2,129 words is the number of agents, a row count, a starting register or a word of a row. Assumes nothing.
use mathlib.Core.Path.{◌≡◌, refl}
use mathlib.Core.Bool.{Bool, true, false}
use mathlib.Core.Logic.{◌⊎◌, inl, inr}
use Prim.Native.Nat.{ℕ, ◌+◌, ◌-◌, ◌/◌, ◌%◌, ◌<◌}
use native.Mathlib.Omega.{arith}
use lib.Dec.{ltb}
use borrow.Author.Tests.{ltb-true, ltb-false}
use Rattle.tables.specs.Layout.{agents_place, count_place, start_place, row_place, table_words}

-- the row count of agent a
pub record AtCount (k : ℕ) : Type 0 where
  pub a : ℕ
  pub agent : a < 16
  pub is : k ≡ count_place a

-- starting register w of agent a
pub record AtStart (k : ℕ) : Type 0 where
  pub a : ℕ
  pub w : ℕ
  pub agent : a < 16
  pub register : w < 4
  pub is : k ≡ start_place a + w

-- word w of row i of agent a
pub record AtRow (k : ℕ) : Type 0 where
  pub a : ℕ
  pub i : ℕ
  pub w : ℕ
  pub agent : a < 16
  pub row : i < 32
  pub word : w < 4
  pub is : k ≡ row_place a i + w

abbrev pub Place : ℕ → Type 0
Place k = (k ≡ agents_place) ⊎ (AtCount k ⊎ (AtStart k ⊎ AtRow k))

pub place_of : (k : ℕ) → k < table_words → Place k
place_of k h = go (ltb k 1) refl (ltb k 17) refl (ltb k 81) refl
  where
    go : (t : Bool) → ltb k 1 ≡ t → (u : Bool) → ltb k 17 ≡ u → (v : Bool) → ltb k 81 ≡ v → Place k
    go true p u q v r = inl (omega (arith, ltb-true k 1 p))
    go false p true q v r = let l = ltb-false k 1 p in let m = ltb-true k 17 q in inr (inl (record { a = k - 1; agent = omega arith; is = omega arith }))
    go false p false q true r =
        let l = ltb-false k 17 q in
        let m = ltb-true k 81 r in
        inr (inr (inl (record { a = (k - 17) / 4; w = (k - 17) % 4; agent = omega arith; register = omega arith; is = omega arith })))
    go false p false q false r =
        let l = ltb-false k 81 r in
        inr (inr (inr (record { a = (k - 81) / 128; i = (k - 81) / 4 % 32; w = (k - 81) % 4; agent = omega arith; row = omega arith; word = omega arith; is = omega arith })))
