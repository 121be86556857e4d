-- Words that the other definitions are written in: the first refusal of a list, tests over a range. Assumes nothing.
use Rattle.std.specs.Prelude.{◌≡◌, ◌⊎◌, Bool, true, false, ◌&&◌, cond, List, [], ◌∷◌, ℕ, zero, suc, ◌-◌, eqb, take, drop}

infix 20 ◌⇒◌
-- a test, and the number of the refusal that it calls for
pub data Rule : Type 0 where
  ◌⇒◌ : Bool → ℕ → Rule

-- the number of the first rule whose test holds, 0 where none does
unfoldable pub first : List Rule → ℕ
first [] = 0
first ((b ⇒ r) ∷ rs) = cond b r (first rs)

-- all the tests of a list hold
unfoldable pub every : List Bool → Bool
every [] = true
every (b ∷ bs) = b && every bs

-- the number is one of a list's
abbrev pub OneOf : ℕ → List ℕ → Type 0
OneOf j [] = ⊥
OneOf j (i ∷ is) = (j ≡ i) ⊎ OneOf j is

-- the test holds of each number below n
unfoldable pub all_below : ℕ → (ℕ → Bool) → Bool
all_below zero f = true
all_below (suc n) f = all_below n f && f n

-- the first number below n of which the test holds; n where there is none
unfoldable pub first_below : ℕ → (ℕ → Bool) → ℕ
first_below zero f = 0
first_below (suc n) f =
    elim (f 0) [
      | true ↦ 0
      | false ↦ suc (first_below n (λ i. f (suc i)))
    ]

-- every word of the list is 0
unfoldable pub all_zero : List ℕ → Bool
all_zero [] = true
all_zero (x ∷ xs) = eqb x 0 && all_zero xs

-- "Unused words are 0": those from place i up to place j, j not among them
unfoldable pub zero_from : List ℕ → ℕ → ℕ → Bool
zero_from ws i j = all_zero (take (j - i) (drop i ws))
