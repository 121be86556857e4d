-- The trace program's input: "a table up to the first `FF` line, then choice lines `02`, agent, time (4 bytes), 12 digits". Assumes nothing.
use Rattle.std.specs.Prelude.{Ok, Err, cond, List, [], ◌∷◌, ℕ, ◌+◌, length, take, drop}
use Rattle.tables.specs.Lines.{lines, same, end_line, field}
use Rattle.tables.specs.Faults.{fault_reply, judge}
use Rattle.reading.specs.Reader.{told}
use Rattle.reading.specs.declared.Told.{Told}

abbrev pub longest_input : ℕ
longest_input = 65536

-- the bytes up to and with the first end line, and all of them where there is none
unfoldable pub table_bytes : List (List ℕ) → ℕ
table_bytes [] = 0
table_bytes (l ∷ ls) = cond (same l end_line) (length l) (length l + table_bytes ls)

unfoldable pub table_text : List ℕ → List ℕ
table_text input = take (table_bytes (lines input)) input

unfoldable pub choice_lines : List ℕ → List (List ℕ)
choice_lines input = lines (drop (table_bytes (lines input)) input)

-- "in choice lines only `02` is known": the first byte and the digits of the line
abbrev pub known_in_choices : List ℕ
known_in_choices = 0x02 ∷ 12 ∷ []

-- what is told of the first choice line that has a fault, where line n is next; 0 where none has
unfoldable pub bad_choice : ℕ → List (List ℕ) → Told
bad_choice n [] = told 0 0
bad_choice n (l ∷ ls) = elim (judge known_in_choices l) [ Ok _ ↦ bad_choice (n + 1) ls | Err w ↦ told (fault_reply w) n ]

-- "its line number in the whole input"
unfoldable pub bad_choice_of : List ℕ → Told
bad_choice_of input = bad_choice (length (lines (table_text input)) + 1) (choice_lines input)

-- the choices, agent then time
unfoldable pub choices_in : List (List ℕ) → List ℕ
choices_in [] = []
choices_in (l ∷ ls) = field l 2 2 ∷ field l 4 8 ∷ choices_in ls
