-- The text of a table: the frames that stand in its words, each as the line that 01 gives it. Assumes nothing.
use Rattle.std.specs.Prelude.{List, [], ◌∷◌, ◌++◌, ℕ, zero, suc, ◌+◌, get_or}
use Rattle.tables.specs.Layout.{agents, rows, start_place, row_place}
use Rattle.tables.specs.Lines.{newline, end_line}
use Rattle.tables.specs.Frames.{Frame, opens, gives, ends, malformed}
use Rattle.digits.specs.Hex.{hex_digits, hex_words}

-- ---- the frames in a table's words

-- the four words from place p on: an agent's starting registers, or a row
abbrev pub four_at : List ℕ → ℕ → List ℕ
four_at tb p = get_or tb p 0 ∷ get_or tb (p + 1) 0 ∷ get_or tb (p + 2) 0 ∷ get_or tb (p + 3) 0 ∷ []

-- c rows of agent a, from row i on
unfoldable pub rows_from : List ℕ → (a i c : ℕ) → List Frame
rows_from tb a i zero = []
rows_from tb a i (suc c) = gives a (four_at tb (row_place a i)) ∷ rows_from tb a (suc i) c

-- n agents from agent a on, each with its rows, and the end
unfoldable pub agents_from : List ℕ → (a n : ℕ) → List Frame
agents_from tb a zero = ends ∷ []
agents_from tb a (suc n) = opens a (four_at tb (start_place a)) ∷ (rows_from tb a 0 (rows tb a) ++ agents_from tb (suc a) n)

unfoldable pub frames_in : List ℕ → List Frame
frames_in tb = agents_from tb 0 (agents tb)

-- ---- their lines

-- "36 digits": first byte, agent, four words of 4 bytes; and a newline
unfoldable pub frame_line : (kind a : ℕ) → List ℕ → List ℕ
frame_line kind a ws = hex_digits 2 kind ++ (hex_digits 2 a ++ (hex_words ws ++ (newline ∷ [])))

-- the line of a frame (no table has a malformed one)
unfoldable pub line_of : Frame → List ℕ
line_of (opens a ws) = frame_line 0x00 a ws
line_of (gives a ws) = frame_line 0x01 a ws
line_of ends = end_line
line_of (malformed w) = []

unfoldable pub lines_of : List Frame → List ℕ
lines_of [] = []
lines_of (f ∷ fs) = line_of f ++ lines_of fs

-- "write the text of 01"
unfoldable pub text_of : List ℕ → List ℕ
text_of tb = lines_of (frames_in tb)
