-- Frames: what one line of a table's text says. Assumes nothing.
use Rattle.std.specs.Prelude.{Ok, Err, cond, List, [], ◌∷◌, map, ℕ, eqb}
use Rattle.tables.specs.Lines.{lines, same, end_line, field}
use Rattle.tables.specs.Faults.{judge}
use Rattle.tables.specs.declared.faults.Fault.{Fault}

-- an agent's number with its four registers; an agent's number with the four words of a row; the end; a line with a fault
pub data Frame : Type 0 where
  opens : ℕ → List ℕ → Frame
  gives : ℕ → List ℕ → Frame
  ends : Frame
  malformed : Fault → Frame

-- the four words after the first byte and the agent: registers, or code word (op, x, y, n), k, early and late
unfoldable pub four_words : List ℕ → List ℕ
four_words l = field l 4 8 ∷ field l 12 8 ∷ field l 20 8 ∷ field l 28 8 ∷ []

-- 01: "a first byte other than these, or a length other than 36, 36 or 2 digits": the first bytes of a table's lines, each followed by the digits of its line
abbrev pub known_in_tables : List ℕ
known_in_tables = 0x00 ∷ 36 ∷ 0x01 ∷ 36 ∷ 0xFF ∷ 2 ∷ []

-- of a sound line that is not the end line, the first byte is 00 or 01
unfoldable pub frame_of : List ℕ → Frame
frame_of l =
    cond (same l end_line) ends
    (elim (judge known_in_tables l) [
      | Ok _ ↦ cond (eqb (field l 0 2) 0x00) (opens (field l 2 2) (four_words l)) (gives (field l 2 2) (four_words l))
      | Err w ↦ malformed w
    ])

-- the frames of a text, one to a line
unfoldable pub frames_of : List ℕ → List Frame
frames_of text = map frame_of (lines text)
