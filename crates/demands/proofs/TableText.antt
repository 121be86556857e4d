-- A text that `read` accepts: the table that it is, and at the front of an input it is the table's text, whatever follows. Assumes nothing.
use mathlib.Core.Path.{◌≡◌, sym, ap, ◌∙◌}
use mathlib.Core.Bool.{true, false}
use mathlib.Core.List.{List, [], ◌∷◌, ◌++◌, map, append_assoc}
use Prim.Native.Nat.{ℕ, ◌+◌}
use native.Mathlib.Omega.{arith}
use lib.ListN.{length, length-append}
use lib.Seq.{take-append_seam}
use Rattle.tables.specs.Small.{Small}
use Rattle.tables.specs.Lines.{same, end_line, lines, digits_line}
use Rattle.tables.specs.Frames.{Frame, opens, gives, ends, malformed, frame_of, frames_of}
use Rattle.tables.proofs.TableLine.{Tells, tells}
use Rattle.tables.proofs.Small.{small_nil, small_cons, field_word}
use Rattle.tables.proofs.Lines.{same_eq, same_self}
use Rattle.tables.proofs.Newlines.{joined, joined_lines, line_length_lem, lines_end}
use Rattle.reading.specs.Reader.{frames_reply, table_of}
use Rattle.reading.specs.declared.Told.{Told}
use Rattle.reading.proofs.Accepted.{Placed, placed_first, open_on, give_on, last_line_lem, none_placed, fault_placed}
use Rattle.reading.proofs.ReadGood.{table_length, read_good}
use Rattle.reading.proofs.Outcomes.{accepted_placed, blank, blank_length, read_told, read_table}
use Rattle.traces.specs.Input.{table_bytes, table_text, bad_choice, choices_in}
use Rattle.traces.proofs.Choices.{sound_choice, bad_none_head}
use Rattle.demands.specs.Demand2.{Table}
use Rattle.demands.specs.Traces.{AcceptedText, words_of}
use Rattle.digits.proofs.Back.{line_first}

-- ---- what it reads to

module _ (text : List ℕ) (ok : AcceptedText text) where
  pub frames_accepted : (frames_reply (frames_of text)).reply ≡ 0
  frames_accepted = ap (λ (q : Told). q.reply) (sym (read_told text blank (omega (arith, blank_length)))) ∙ ok

  pub words_read : words_of text ≡ table_of (frames_of text)
  words_read = read_table text blank blank_length frames_accepted

  pub table_read : Table (table_of (frames_of text))
  table_read = record { long = table_length (frames_of text); good = read_good text frames_accepted }

-- ---- the choices

pub choices_small : (ls : List (List ℕ)) (n : ℕ) → (bad_choice n ls).reply ≡ 0 → Small (choices_in ls)
unfolding choices_in
choices_small [] n h = small_nil
choices_small (l ∷ ls) n h =
    let s = bad_none_head n l ls h in
    let d = sound_choice l s.0 in
    small_cons (field_word 12 l 2 1 d (omega arith) (omega arith))
    (small_cons (field_word 12 l 4 7 d (omega arith) (omega arith)) (choices_small ls (n + 1) s.1))

-- ---- where the text ends

-- lines that are a table's text, whatever text follows them
record Closes (ls : List (List ℕ)) : Type 0 where
  bytes : (rest : List (List ℕ)) → table_bytes (ls ++ rest) ≡ length (joined ls)
  splits : (r : List ℕ) → lines (joined ls ++ r) ≡ ls ++ lines r

closes : (ls : List (List ℕ)) (n a i : ℕ) → Placed n a i (map frame_of ls) → Closes ls
unfolding table_bytes joined
closes [] n a i q = absurd (none_placed n a i q)
closes (l ∷ ls) n a i q = go (frame_of l) (tells l) q (λ n a i. closes ls n a i)
  where
    longer : same l end_line ≡ false → digits_line 36 l ≡ true → Closes ls → Closes (l ∷ ls)
    longer e d c = record {
      bytes = λ rest. rw (e, c.bytes rest) (sym (length-append l (joined ls)));
      splits = λ r. ap lines (append_assoc l (joined ls) r) ∙ line_first 36 l (joined ls ++ r) (line_length_lem 36 l d) d ∙ ap (λ (x : List (List ℕ)). l ∷ x) (c.splits r);
    }

    last : l ≡ end_line → ls ≡ [] → Closes (l ∷ ls)
    last e z = record {
      bytes = λ rest. rw (e, z, same_self end_line);
      splits = λ r. rw (e, z) (lines_end (end_line ++ r) (same_self end_line));
    }

    go : (f : Frame) → Tells l f → Placed n a i (f ∷ map frame_of ls) → ((n a i : ℕ) → Placed n a i (map frame_of ls) → Closes ls) → Closes (l ∷ ls)
    go (opens b ws) t q rest = longer t.0 t.1 (rest (n + 1) (a + 1) 0 (open_on n a i b ws (map frame_of ls) q))
    go (gives b ws) t q rest = longer t.0 t.1 (rest (n + 1) a (i + 1) (give_on n a i b ws (map frame_of ls) q))
    go ends t q rest = last (same_eq l end_line t) (last_line_lem n a i ls q)
    go (malformed w) t q rest = absurd (fault_placed n a i w (map frame_of ls) q)

-- The table's text of an input that begins with it.
pub table_text_lem : (text more : List ℕ) → (frames_reply (frames_of text)).reply ≡ 0 → table_text (text ++ more) ≡ text
unfolding table_text frames_of
table_text_lem text more h =
    let c = closes (lines text) 1 0 0 (placed_first (frames_of text) (accepted_placed (frames_of text) h)) in
    let j = joined_lines text in
    let split : lines (text ++ more) ≡ lines text ++ lines more = ap (λ (t : List ℕ). lines (t ++ more)) (sym j) ∙ c.splits more in
    let end : table_bytes (lines (text ++ more)) ≡ length text = ap table_bytes split ∙ c.bytes (lines more) ∙ ap length j in
    rw end (take-append_seam text more)
