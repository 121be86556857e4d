-- Single lines of a table and what T-01 asks of each, computed; and the words of 01's example. Assumes nothing.
use Rattle.std.specs.Prelude.{Bool, List, [], ◌∷◌, ◌++◌, ℕ, T, eqb, replicate}
use Rattle.tables.specs.Basics.{every}
use Rattle.tables.specs.Lines.{newline, same, hex_digit, all_hex, number, field, digits_line}
use Rattle.tables.specs.Faults.{fault_reply, judged_reply, only_digits, begins_with, judge_kind, judge}
use Rattle.tables.specs.Frames.{known_in_tables}

-- 01's example: SEND 0, 7 in the window 1 to 3 with 5 in register 0; RECV 1, 7 in the window 4 to 8
unfoldable pub example_table : List ℕ
example_table =
    (2 ∷ 1 ∷ 1 ∷ replicate 14 0) ++ (5 ∷ replicate 63 0)
    ++ (0x20000000 ∷ 7 ∷ 1 ∷ 3 ∷ replicate 124 0)
    ++ (0x30010000 ∷ 7 ∷ 4 ∷ 8 ∷ replicate 1916 0)

-- the line is told with this reply
asks : List ℕ → ℕ → Bool
asks l r = eqb (judged_reply (judge known_in_tables l)) r

-- characters
abbrev zero_digit : ℕ
zero_digit = 48

abbrev one : ℕ
one = 49

abbrev two : ℕ
two = 50

abbrev four : ℕ
four = 52

abbrev F : ℕ
F = 70

abbrev f : ℕ
f = 102

abbrev return : ℕ
return = 13

cases : T (every (
    asks (F ∷ F ∷ newline ∷ []) 0
    ∷ asks (f ∷ f ∷ newline ∷ []) 2
    ∷ asks (F ∷ F ∷ []) 2
    ∷ asks (F ∷ F ∷ return ∷ newline ∷ []) 2
    ∷ asks (zero_digit ∷ []) 2
    ∷ asks (f ∷ newline ∷ []) 2
    ∷ asks (F ∷ F ∷ zero_digit ∷ zero_digit ∷ newline ∷ []) 18
    ∷ asks (zero_digit ∷ zero_digit ∷ newline ∷ []) 18
    ∷ asks (zero_digit ∷ zero_digit ∷ one ∷ newline ∷ []) 18
    ∷ asks (newline ∷ []) 19
    ∷ asks (zero_digit ∷ newline ∷ []) 19
    ∷ asks (zero_digit ∷ two ∷ newline ∷ []) 19
    ∷ asks (zero_digit ∷ four ∷ newline ∷ []) 19
    ∷ []))
unfolding asks every judged_reply fault_reply judge judge_kind only_digits begins_with digits_line same all_hex field number hex_digit
cases = tt
