-- Bits of a number: what ONES and LOW are told by. Assumes nothing.
use Rattle.std.specs.Prelude.{◌≡◌, ℕ, zero, suc, ◌+◌, ◌/◌, ◌%◌, ◌^◌, ◌≤◌, ◌<◌}

-- bit i of y, and the sum of the n lowest bits
abbrev pub bit : ℕ → ℕ → ℕ
bit y i = y / 2 ^ i % 2

abbrev pub bits : ℕ → ℕ → ℕ
bits y zero = 0
bits y (suc n) = bits y n + bit y n

-- t zero bits below the lowest one bit, of the n lowest bits of y; n where none of them is one
pub record Lowest (n y t : ℕ) : Type 0 where
  pub most : t ≤ n
  pub zeros : (i : ℕ) → i < t → bit y i ≡ 0
  pub one : t < n → bit y t ≡ 1
