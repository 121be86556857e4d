-- What `write` and `read` are to each other, proved. Assumes nothing.
use mathlib.Core.Path.{◌≡◌, refl, sym, ap, subst, ◌∙◌}
use mathlib.Core.Bool.{Bool, true, false}
use mathlib.Core.List.{List, ◌++◌, append-nil}
use Prim.Native.Nat.{ℕ, zero, suc, ◌+◌, ◌≤◌, ◌<◌}
use native.Mathlib.Omega.{arith}
use lib.Dec.{ltb}
use lib.ListN.{length, take, drop, drop_of_length-le}
use lib.Seq.{take_at, take_all}
use borrow.Author.Tests.{ltb-true, ltb-false}
use Rattle.tables.specs.Small.{Small}
use Rattle.tables.specs.Layout.{agents, rows, start_place, row_place, table_words}
use Rattle.tables.specs.Lines.{lines}
use Rattle.tables.specs.Frames.{Frame, frames_of}
use Rattle.tables.specs.Table.{good_table}
use Rattle.tables.specs.Calls.{check_reply}
use Rattle.tables.proofs.Newlines.{joined_lines}
use Rattle.tables.proofs.Good.{few, table_facts, good_climbs, checked_good}
use Rattle.tables.proofs.Small.{small_nil, small_cons}
use Rattle.reading.specs.Reader.{told, in_place, rows_good, table_climbs, frames_reply, table_of}
use Rattle.reading.specs.declared.Told.{Told}
use Rattle.reading.specs.Calls.{ReadOutcome, read_outcome, read_into}
use Rattle.reading.proofs.Accepted.{placed_first}
use Rattle.reading.proofs.Outcomes.{accepted_placed, accepted_read, all_passed, read_accepted, blank, blank_length}
use Rattle.reading.proofs.Climbs.{climbing_told}
use Rattle.reading.proofs.ReadGood.{frames_four, table_length, rows_facts}
use Rattle.reading.proofs.ReadSmall.{words_small}
use Rattle.reading.proofs.Laws.{read_is_checked}
use Rattle.writing.specs.Writer.{four_at, lines_of, rows_from, agents_from, frames_in, text_of}
use Rattle.writing.specs.Calls.{WriteOutcome, wrote, write_outcome, write_into}
use Rattle.writing.specs.Laws.{bytes_written, WrittenIsRead, ReadIsWritten, Accepted, ReadFrom, AcceptedAreRead, LengthOfTable, RoomIsEnough, LengthBounds, lines_climb, SevenTellsItsLine}
use Rattle.writing.proofs.Lengths.{text_length_lem, length_within}
use Rattle.writing.proofs.Outcomes.{checked_words, too_long, all_written}
use Rattle.writing.proofs.FrameLines.{AllPlainFrames, frames_back, text_back}
use Rattle.writing.proofs.Loaded.{table_frames}
use Rattle.writing.proofs.Accepts.{frames_placed, frames_pass}
use Rattle.writing.proofs.SameFrames.{same_words}
use Rattle.writing.proofs.LinesClimb.{frames_lines}

-- ---- the text of a table is read to its words

module _ (tb : List ℕ) (long : length tb ≡ table_words) (small : Small tb) (good : good_table tb ≡ true) where
  four_at_small : (p : ℕ) → Small (four_at tb p)
  four_at_small p = small_cons (small.word p) (small_cons (small.word (p + 1)) (small_cons (small.word (p + 2)) (small_cons (small.word (p + 3)) small_nil)))

  rows_plain : (c a i : ℕ) (fs : List Frame) → a < 256 → AllPlainFrames fs → AllPlainFrames (rows_from tb a i c ++ fs)
  unfolding rows_from
  rows_plain zero a i fs h p = p
  rows_plain (suc c) a i fs h p = ((h, refl, four_at_small (row_place a i)), rows_plain c a (suc i) fs h p)

  agents_plain : (n a : ℕ) → a + n ≤ 16 → AllPlainFrames (agents_from tb a n)
  unfolding agents_from
  agents_plain zero a h = (tt, tt)
  agents_plain (suc n) a h =
      ((omega arith, refl, four_at_small (start_place a)), rows_plain (rows tb a) a 0 (agents_from tb (suc a) n) (omega arith) (agents_plain n (suc a) (omega arith)))

  frames_read : frames_of (text_of tb) ≡ frames_in tb
  unfolding text_of frames_in
  frames_read = frames_back (frames_in tb) (agents_plain (agents tb) 0 (let f = few tb good in omega arith))

  placed : (in_place 1 0 0 (frames_of (text_of tb))).reply ≡ 0
  placed = ap (λ (fs : List Frame). (in_place 1 0 0 fs).reply) frames_read ∙ ap (λ (t : Told). t.reply) (frames_placed tb good)

  passed : (rows_good 1 0 0 (frames_of (text_of tb))).reply ≡ 0
  passed = ap (λ (fs : List Frame). (rows_good 1 0 0 fs).reply) frames_read ∙ ap (λ (t : Told). t.reply) (frames_pass tb good)

  words_read : table_of (frames_of (text_of tb)) ≡ tb
  unfolding frames_of
  words_read =
      let fs = frames_of (text_of tb) in
      let back : frames_in (table_of fs) ≡ fs = table_frames fs (frames_four (lines (text_of tb))) placed in
      same_words (table_of fs) tb (table_length fs) long (rows_facts (text_of tb) placed passed) (table_facts tb good) (back ∙ frames_read)

  -- so what is told of its windows is told of the table's
  reply_read : told 0 0 ≡ frames_reply (frames_of (text_of tb))
  reply_read =
      sym (climbing_told tb 1 (good_climbs tb good)) ∙ ap (λ (words : List ℕ). table_climbs words 1) (sym words_read) ∙ all_passed (frames_of (text_of tb)) placed passed

  text_read : (lent : List ℕ) → table_words ≤ length lent → read_into (text_of tb) lent ≡ read_outcome (told 0 0) (tb ++ drop table_words lent)
  text_read lent room = sym (read_accepted (text_of tb) lent room (told 0 0) reply_read refl tb (sym words_read))

pub written_is_read : WrittenIsRead
written_is_read tb text lent ok small room long =
    let words = take table_words tb in
    let bs = text_of words in
    let w = checked_words tb ok in
    let n = text_length_lem words in
    let o = all_written tb text ok (omega arith) in
    let e : bytes_written tb text ≡ bs = ap (λ (q : WriteOutcome). take q.wrote.length q.text) o ∙ take_at bs (drop (length bs) text) (length bs) refl in
    ap (λ (l : List ℕ). read_into l lent) e ∙ text_read words w.0 small w.1 lent long

-- ---- a text that is read is the text of its words

text_written : (text : List ℕ) → (frames_reply (frames_of text)).reply ≡ 0 → text_of (table_of (frames_of text)) ≡ text
unfolding text_of frames_of
text_written text h =
    let fs = frames_of text in
    let p = accepted_placed fs h in
    ap lines_of (table_frames fs (frames_four (lines text)) p) ∙ text_back (lines text) 1 0 0 (placed_first fs p) ∙ joined_lines text

pub read_is_written : ReadIsWritten
read_is_written text tb lent z room =
    let after = (read_into text tb).table in
    let r = accepted_read text tb (read_into text tb).told after refl z in
    let words = table_of (frames_of text) in
    let front : take table_words after ≡ words = ap (take table_words) r.1 ∙ take_at words (drop table_words tb) table_words (table_length (frames_of text)) in
    let e : text_of (take table_words after) ≡ text = ap text_of front ∙ text_written text r.0 in
    let n = ap length e in
    all_written after lent (read_is_checked text tb z) (omega arith)
    ∙ ap (λ (bs : List ℕ). write_outcome (wrote 0 (length bs)) (bs ++ drop (length bs) lent)) e

-- ---- the tables that are accepted are those that are read

-- nothing stands past it
none_past : (tb : List ℕ) → tb ++ drop table_words blank ≡ tb
none_past tb = ap (λ (l : List ℕ). tb ++ l) (drop_of_length-le blank {i = table_words} (omega (arith, blank_length))) ∙ append-nil tb

pub accepted_are_read : AcceptedAreRead
accepted_are_read tb = (there, back)
  where
    there : Accepted tb → ReadFrom tb
    there a =
        let good = ap good_table (sym (take_all table_words tb (omega (arith, a.0)))) ∙ (checked_good tb a.2).1 in
        record {
          text = text_of tb;
          reads = text_read tb a.0 a.1 good blank (omega (arith, blank_length)) ∙ ap (read_outcome (told 0 0)) (none_past tb);
        }

    back : ReadFrom tb → Accepted tb
    back r =
        let fs = frames_of r.text in
        let q = accepted_read r.text blank (told 0 0) tb (sym r.reads) refl in
        let e : tb ≡ table_of fs = q.1 ∙ none_past (table_of fs) in (
          ap length e ∙ table_length fs,
          subst Small (sym e) (words_small r.text q.0),
          ap (λ (o : ReadOutcome). check_reply o.table) (sym r.reads) ∙ read_is_checked r.text blank (ap (λ (o : ReadOutcome). o.told.reply) r.reads),
        )

-- ---- the line that 7 tells

pub seven_tells_its_line : SevenTellsItsLine
unfolding frames_of
seven_tells_its_line text placed =
    let fs = frames_of text in
    frames_lines (table_of fs) 1 ∙ ap (lines_climb (table_of fs) 1 0 0) (table_frames fs (frames_four (lines text)) placed)

-- ---- how long a text is

pub length_of_table : LengthOfTable
length_of_table tb text ok = go (ltb (length text) (length (text_of (take table_words tb)))) refl ∙ text_length_lem (take table_words tb)
  where
    go : (b : Bool) → ltb (length text) (length (text_of (take table_words tb))) ≡ b → (write_into tb text).wrote.length ≡ length (text_of (take table_words tb))
    go true e = ap (λ (o : WriteOutcome). o.wrote.length) (too_long tb text ok (ltb-true _ _ e))
    go false e = ap (λ (o : WriteOutcome). o.wrote.length) (all_written tb text ok (ltb-false _ _ e))

pub room_is_enough : RoomIsEnough
room_is_enough tb text ok room = let e = text_length_lem (take table_words tb) in ap (λ (o : WriteOutcome). o.wrote.reply) (all_written tb text ok (omega arith))

pub length_bounds : LengthBounds
length_bounds tb text ok = rw (length_of_table tb text ok) (length_within (take table_words tb) (checked_good tb ok).1)
