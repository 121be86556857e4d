-- Tables and their texts, computed: 01's example, the shortest text and the length of the longest, and what is refused. Assumes nothing.
use Rattle.std.specs.Prelude.{Bool, ◌&&◌, List, [], ◌∷◌, ◌++◌, ℕ, zero, suc, T, eqb, take, replicate}
use Rattle.tables.specs.Basics.{first, every, all_below, all_zero, zero_from}
use Rattle.tables.specs.Layout.{row_of}
use Rattle.tables.specs.Rows.{row_reply, well_formed, fields_fit, names_of, within, goes_on_to, not_above}
use Rattle.tables.specs.Table.{good_table, good_agent, good_rows, row_reply_at, climbs_to, climbs}
use Rattle.tables.specs.Lines.{newline, end_line, same}
use Rattle.tables.specs.Cases.{example_table}
use Rattle.tables.specs.Calls.{check_reply}
use Rattle.digits.specs.Cases.{example_text}
use Rattle.digits.specs.Hex.{hex_char, hex_digits, hex_words, hex_line}
use Rattle.writing.specs.Writer.{rows_from, agents_from, frames_in, frame_line, line_of, lines_of, text_of}
use Rattle.writing.specs.Calls.{bytes_into, write_into}
use Rattle.writing.specs.Laws.{row_total, text_length}

-- one agent of one row, which sets register 0
shortest : List ℕ
shortest = (1 ∷ 1 ∷ replicate 79 0) ++ (0 ∷ 0xABCDEF01 ∷ 0 ∷ 1 ∷ replicate 2044 0)

-- 01, 00, 00000000, ABCDEF01, 00000000, 00000001 and a newline
sets_register : List ℕ
sets_register =
    (48 ∷ 49 ∷ replicate 10 48)
    ++ ((65 ∷ 66 ∷ 67 ∷ 68 ∷ 69 ∷ 70 ∷ 48 ∷ 49 ∷ [])
    ++ (replicate 15 48 ++ (49 ∷ newline ∷ [])))

-- the write of this table into a buffer of n bytes, each 1, replies r with the length m, and leaves these bytes
leaves : (table : List ℕ) (n r m : ℕ) → List ℕ → Bool
unfolding first every same check_reply good_table good_agent good_rows row_reply_at climbs climbs_to row_reply goes_on_to not_above well_formed fields_fit names_of within row_of zero_from all_zero all_below hex_char hex_digits hex_words rows_from agents_from frames_in frame_line line_of lines_of text_of bytes_into write_into
leaves tb n r m bs =
    let w = write_into tb (replicate n 1) in
    eqb w.wrote.reply r && eqb w.wrote.length m && same w.text bs

cases : T (every (
    -- the text, and two bytes after it as they were
    leaves example_table 153 0 151 (example_text ++ (1 ∷ 1 ∷ []))
    -- words past the table's are not read
    ∷ leaves (example_table ++ (9 ∷ [])) 151 0 151 example_text
    -- a byte too few: the length needed, and no byte written
    ∷ leaves example_table 150 20 151 (replicate 150 1)
    ∷ leaves example_table 0 20 151 []
    -- the shortest text, its row's line by its characters
    ∷ leaves shortest 77 0 77 (hex_line 36 0 ++ (sets_register ++ end_line))
    -- too few words, and a bad one after the last row
    ∷ leaves (take 2128 example_table) 151 1 0 (replicate 151 1)
    ∷ leaves (take 2128 example_table ++ (1 ∷ [])) 151 8 0 (replicate 151 1)
    -- bad words before a buffer too short
    ∷ leaves (take 2128 example_table ++ (1 ∷ [])) 0 8 0 []
    ∷ []))
unfolding leaves hex_line example_text example_table shortest sets_register every hex_digits hex_char
cases = tt

-- n rows that set register 0 to 0, in the window 0 to 1
rows_of_set : ℕ → List ℕ
rows_of_set zero = []
rows_of_set (suc n) = 0 ∷ 0 ∷ 0 ∷ 1 ∷ rows_of_set n

-- 16 agents of 32 rows have the longest text
longest : T (let tb = (16 ∷ replicate 16 32) ++ (replicate 64 0 ++ rows_of_set 512) in eqb (check_reply tb) 0 && eqb (text_length tb) 19539)
unfolding first every check_reply good_table good_agent good_rows row_reply_at climbs climbs_to row_reply goes_on_to not_above well_formed fields_fit names_of within row_of zero_from all_zero all_below row_total text_length rows_of_set
longest = tt
