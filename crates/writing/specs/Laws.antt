-- What `write` and `read` are to each other, how long a table's text is, and which line 7 tells. proofs/Laws.antt proves each. Assumes nothing.
use Rattle.std.specs.Prelude.{◌≡◌, true, false, List, [], ◌∷◌, ◌++◌, ◌↔◌, ℕ, zero, suc, ◌+◌, ◌-◌, ◌*◌, ◌≤◌, length, take, drop, replicate}
use Rattle.tables.specs.Small.{Small}
use Rattle.tables.specs.Layout.{agents, rows, table_words}
use Rattle.tables.specs.Table.{climbs}
use Rattle.tables.specs.Frames.{Frame, opens, gives, ends, malformed, frames_of}
use Rattle.tables.specs.Calls.{check_reply}
use Rattle.reading.specs.Reader.{told, in_place, table_of, table_climbs}
use Rattle.reading.specs.declared.Told.{Told}
use Rattle.reading.specs.Calls.{read_outcome, read_into}
use Rattle.writing.specs.Calls.{wrote, write_outcome, write_into}

-- ---- how long a text is

-- the rows of the first n agents together
unfoldable pub row_total : List ℕ → ℕ → ℕ
row_total tb zero = 0
row_total tb (suc n) = row_total tb n + rows tb n

-- 37 bytes for each agent and each row, and 3 for the end
unfoldable pub text_length : List ℕ → ℕ
text_length tb = 37 * (agents tb + row_total tb (agents tb)) + 3

-- The length that is told is the table's alone, with 0 and with 20 ..
abbrev pub LengthOfTable : Type 0
LengthOfTable = (tb text : List ℕ) → check_reply tb ≡ 0 → (write_into tb text).wrote.length ≡ text_length (take table_words tb)

-- .. and lies between that of one agent of one row and that of 16 agents of 32.
abbrev pub LengthBounds : Type 0
LengthBounds = (tb text : List ℕ) → check_reply tb ≡ 0 → (77 ≤ (write_into tb text).wrote.length) × ((write_into tb text).wrote.length ≤ 19539)

-- A buffer of just that length is enough.
abbrev pub RoomIsEnough : Type 0
RoomIsEnough = (tb text : List ℕ) → check_reply tb ≡ 0 → text_length (take table_words tb) ≤ length text → (write_into tb text).wrote.reply ≡ 0

-- ---- there and back

-- the bytes that a write has put into the lent text
abbrev pub bytes_written : (table text : List ℕ) → List ℕ
bytes_written tb text = take (write_into tb text).wrote.length (write_into tb text).text

-- "Reading what was written gives the same words back": of every table that `check` accepts, its words of 32 bits as lent words are, written into any buffer that has room for
-- its text, `read` of the bytes that were written replies 0 and gives the table's words, whatever words it is lent.
abbrev pub WrittenIsRead : Type 0
WrittenIsRead = (tb text lent : List ℕ) → check_reply tb ≡ 0 → Small (take table_words tb) → text_length (take table_words tb) ≤ length text → table_words ≤ length lent
    → read_into (bytes_written tb text) lent ≡ read_outcome (told 0 0) (take table_words tb ++ drop table_words lent)

-- "any text the reader accepts is written out again byte for byte": from the words that the read gave, into any buffer that has room for it
abbrev pub ReadIsWritten : Type 0
ReadIsWritten = (text tb lent : List ℕ) → (read_into text tb).told.reply ≡ 0 → length text ≤ length lent
    → write_into (read_into text tb).table lent ≡ write_outcome (wrote 0 (length text)) (text ++ drop (length text) lent)

-- ---- the tables that there are

-- the words of a table that `check` accepts, each of 32 bits as lent words are
abbrev pub Accepted : List ℕ → Type 0
Accepted tb = (length tb ≡ table_words) × Small tb × (check_reply tb ≡ 0)

-- some text reads to these words
pub record ReadFrom (tb : List ℕ) : Type 0 where
  pub text : List ℕ
  pub reads : read_into text (replicate table_words 0) ≡ read_outcome (told 0 0) tb

-- The words that `check` accepts are exactly those that some text reads to.
abbrev pub AcceptedAreRead : Type 0
AcceptedAreRead = (tb : List ℕ) → Accepted tb ↔ ReadFrom tb

-- ---- the line that 7 tells

-- 7 over the lines of a text, one by one: line n is next, after a agents of which the last has i rows so far, and tb has the words of all
unfoldable pub lines_climb : (tb : List ℕ) (n a i : ℕ) → List Frame → Told
lines_climb tb n a i [] = told 0 0
lines_climb tb n a i (opens b ws ∷ fs) = lines_climb tb (n + 1) (a + 1) 0 fs
lines_climb tb n a i (gives b ws ∷ fs) = elim (climbs tb (a - 1) i) [ true ↦ lines_climb tb (n + 1) a (i + 1) fs | false ↦ told 7 n ]
lines_climb tb n a i (ends ∷ fs) = told 0 0
lines_climb tb n a i (malformed w ∷ fs) = told 0 0

-- `read` counts the lines by the row counts; the line that it tells is the one that gave the row, and no line before it gave one that goes on to an earlier window.
abbrev pub SevenTellsItsLine : Type 0
SevenTellsItsLine = (text : List ℕ) → (in_place 1 0 0 (frames_of text)).reply ≡ 0
    → table_climbs (table_of (frames_of text)) 1 ≡ lines_climb (table_of (frames_of text)) 1 0 0 (frames_of text)
