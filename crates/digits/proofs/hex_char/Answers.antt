-- `hex_char` meets its contract: the sixteen digits, each by its number. Assumes nothing.
use mathlib.Core.Path.{◌≡◌, refl}
use mathlib.Core.List.{List, [], ◌∷◌}
use Prim.Native.Nat.{ℕ, ◌<◌}
use lib.Dec.{eqb}
use lib.ListN.{get_or}
use borrow.Author.Tests.{eqb-true}
use Rattle.tables.specs.Basics.{all_below}
use Rattle.tables.proofs.Passed.{below}
use Rattle.digits.specs.Hex.{hex_char}
use Rattle.digits.proofs.hex_char.Goals as goal

abbrev sixteen : List ℕ
sixteen = 48 ∷ 49 ∷ 50 ∷ 51 ∷ 52 ∷ 53 ∷ 54 ∷ 55 ∷ 56 ∷ 57 ∷ 65 ∷ 66 ∷ 67 ∷ 68 ∷ 69 ∷ 70 ∷ []

by_number : (d : ℕ) → d < 16 → get_or sixteen d 0 ≡ hex_char d
unfolding all_below hex_char
by_number d h = eqb-true (get_or sixteen d 0) (hex_char d) (below 16 (λ (n : ℕ). eqb (get_or sixteen n 0) (hex_char n)) refl d h)

pub returns : goal.returns
returns c = by_number c.args.d c.requires
