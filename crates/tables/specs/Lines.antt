-- Lines of text, digits and numbers. Assumes nothing.
use Rattle.std.specs.Prelude.{Bool, true, false, ◌&&◌, cond, List, [], ◌∷◌, ℕ, ◌+◌, ◌-◌, ◌*◌, ltb, leb, eqb, take, drop}

abbrev pub newline : ℕ
newline = 10

-- "FF": "exactly the two characters and a newline"
abbrev pub end_line : List ℕ
end_line = 70 ∷ 70 ∷ newline ∷ []

unfoldable pub same : List ℕ → List ℕ → Bool
same [] [] = true
same [] (y ∷ ys) = false
same (x ∷ xs) [] = false
same (x ∷ xs) (y ∷ ys) = eqb x y && same xs ys

-- a byte before the first of some lines
abbrev pub onto : ℕ → List (List ℕ) → List (List ℕ)
onto c [] = (c ∷ []) ∷ []
onto c (l ∷ ls) = (c ∷ l) ∷ ls

-- the lines of a text, each with its newline; the last may lack it
unfoldable pub lines : List ℕ → List (List ℕ)
lines [] = []
lines (c ∷ cs) = elim (eqb c newline) [ true ↦ (c ∷ []) ∷ lines cs | false ↦ onto c (lines cs) ]

-- the number that an upper-case hexadecimal digit stands for, 16 for any other byte
unfoldable pub hex_digit : ℕ → ℕ
hex_digit c = cond (leb 48 c && leb c 57) (c - 48) (cond (leb 65 c && leb c 70) (c - 55) 16)

unfoldable pub all_hex : List ℕ → Bool
all_hex [] = true
all_hex (c ∷ cs) = ltb (hex_digit c) 16 && all_hex cs

-- the number that digits stand for, "high byte first", after the digits that stand for m
unfoldable pub number : ℕ → List ℕ → ℕ
number m [] = m
number m (c ∷ cs) = number (16 * m + hex_digit c) cs

-- the number in the k digits from digit i of a line
unfoldable pub field : List ℕ → ℕ → ℕ → ℕ
field l i k = number 0 (take k (drop i l))

-- the line is n digits and a newline
unfoldable pub digits_line : ℕ → List ℕ → Bool
digits_line n l = all_hex (take n l) && same (drop n l) (newline ∷ [])
