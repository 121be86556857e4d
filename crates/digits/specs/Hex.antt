-- Numbers as upper-case hexadecimal digits. Assumes nothing.
use Rattle.std.specs.Prelude.{cond, List, [], ◌∷◌, ◌++◌, ℕ, zero, suc, ◌+◌, ◌/◌, ◌%◌, ltb}
use Rattle.tables.specs.Lines.{newline}

-- the upper-case hexadecimal digit of a number below 16
unfoldable pub hex_char : ℕ → ℕ
hex_char d = cond (ltb d 10) (48 + d) (55 + d)

-- the k lowest hexadecimal digits of a number, the highest first
unfoldable pub hex_digits : (k m : ℕ) → List ℕ
hex_digits zero m = []
hex_digits (suc k) m = hex_digits k (m / 16) ++ (hex_char (m % 16) ∷ [])

-- words, 4 bytes each
unfoldable pub hex_words : List ℕ → List ℕ
hex_words [] = []
hex_words (w ∷ ws) = hex_digits 8 w ++ hex_words ws

-- a line of k digits
unfoldable pub hex_line : (k m : ℕ) → List ℕ
hex_line k m = hex_digits k m ++ (newline ∷ [])
