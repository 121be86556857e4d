-- What is wrong with a line, if anything. 02's T-01: "Reply 2 remains for a character that is not an upper-case hexadecimal digit or a missing newline. ..
-- Refusals: 2 character, then 18 wrong length for a known first byte .., then 19 unknown first byte, an empty or one-digit line included". Assumes nothing.
use Rattle.std.specs.Prelude.{Result, Ok, Err, Bool, ◌&&◌, cond, List, [], ◌∷◌, ℕ, ◌+◌, ◌-◌, leb, eqb, length}
use Rattle.tables.specs.Lines.{field, digits_line}
use Rattle.tables.specs.declared.faults.Fault.{Fault}
use Rattle.tables.specs.declared.faults.Fault.TheVariants.{Character, Length, FirstByte}

-- the number of each case
unfoldable pub fault_reply : Fault → ℕ
fault_reply Character = 2
fault_reply Length = 18
fault_reply FirstByte = 19

unfoldable pub judged_reply : Result Unit Fault → ℕ
judged_reply (Ok _) = 0
judged_reply (Err w) = fault_reply w

-- the line is digits and its newline, and nothing else
unfoldable pub only_digits : List ℕ → Bool
only_digits l = digits_line (length l - 1) l

-- the line's first byte is b: an empty line and one of a single digit have none
unfoldable pub begins_with : ℕ → List ℕ → Bool
begins_with b l = leb 3 (length l) && eqb (field l 0 2) b

-- by the first bytes that are known, each followed by the digits of its line
unfoldable pub judge_kind : (known line : List ℕ) → Result Unit Fault
judge_kind [] l = Err FirstByte
judge_kind (b ∷ []) l = Err FirstByte
judge_kind (b ∷ n ∷ known) l = cond (begins_with b l) (cond (eqb (length l) (n + 1)) (Ok tt) (Err Length)) (judge_kind known l)

unfoldable pub judge : (known line : List ℕ) → Result Unit Fault
judge known l = cond (only_digits l) (judge_kind known l) (Err Character)
