-- Words of 32 bits, as every lent word is. Assumes nothing.
use Rattle.std.specs.Prelude.{List, ℕ, ◌^◌, ◌<◌, get_or}

abbrev pub Word : ℕ → Type 0
Word v = v < 2 ^ 32

-- each word of a list is one of 32 bits (past its end 0 is read)
pub record Small (ws : List ℕ) : Type 0 where
  pub word : (i : ℕ) → Word (get_or ws i 0)
