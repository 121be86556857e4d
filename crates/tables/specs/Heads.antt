-- What stands at a place of a text: the end line, a line of digits, a frame. These are words of the functions of this crate and of those above it:
-- the statement of no public call needs them. Assumes nothing.
use Rattle.std.specs.Prelude.{Bool, true, false, List, [], ◌∷◌, ℕ, suc, ◌+◌, ◌*◌, eqb, take, drop, get_or}
use Rattle.tables.specs.Lines.{newline, same, end_line, digits_line}
use Rattle.tables.specs.Frames.{Frame, opens, gives, ends, malformed, four_words, frames_of}
use Rattle.tables.specs.declared.frames.Line.{Line}
use Rattle.tables.specs.declared.frames.Line.TheVariants.{Opens, Gives, Ends, Malformed}

-- the end line stands at place p
unfoldable pub end_at : List ℕ → ℕ → Bool
end_at text p = same (take 3 (drop p text)) end_line

-- a line of n digits stands at place p
unfoldable pub digits_at : ℕ → List ℕ → ℕ → Bool
digits_at n text p = digits_line n (take (n + 1) (drop p text))

-- how long the first line of a text is, with its newline where it has one
unfoldable pub line_length : List ℕ → ℕ
line_length [] = 0
line_length (c ∷ cs) = elim (eqb c newline) [ true ↦ 1 | false ↦ suc (line_length cs) ]

-- the line that begins at place p
abbrev pub line_from : List ℕ → ℕ → List ℕ
line_from text p = take (line_length (drop p text)) (drop p text)

-- the four words of the frame that begins at place p
abbrev pub words_at : List ℕ → ℕ → List ℕ
words_at text p = four_words (drop p text)

-- the first of some frames, without its words
unfoldable pub head_line : List Frame → Line
head_line [] = Malformed
head_line (opens b ws ∷ fs) = Opens b
head_line (gives b ws ∷ fs) = Gives b
head_line (ends ∷ fs) = Ends
head_line (malformed w ∷ fs) = Malformed

-- what the line that begins at place p is
unfoldable pub line_at : List ℕ → ℕ → Line
line_at text p = head_line (frames_of (drop p text))

-- no frame up to the end line is malformed
unfoldable pub sound : List Frame → Bool
sound [] = true
sound (opens b ws ∷ fs) = sound fs
sound (gives b ws ∷ fs) = sound fs
sound (ends ∷ fs) = true
sound (malformed w ∷ fs) = false

-- two bytes and eight bytes from place p as a number, the first the highest
abbrev pub two_bytes : List ℕ → ℕ → ℕ
two_bytes text p = 256 * get_or text p 0 + get_or text (p + 1) 0

abbrev pub eight_bytes : List ℕ → ℕ → ℕ
eight_bytes text p =
    4294967296 * (65536 * two_bytes text p + two_bytes text (p + 2)) + (65536 * two_bytes text (p + 4) + two_bytes text (p + 6))
