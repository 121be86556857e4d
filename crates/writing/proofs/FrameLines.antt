-- Frames to lines and back: the line of a frame is read as that frame, and the frame of a line is written as that line. Assumes nothing.
use mathlib.Core.Path.{◌≡◌, refl, sym, ap, ◌∙◌}
use mathlib.Core.Bool.{true}
use mathlib.Core.List.{List, [], ◌∷◌, ◌++◌, map, append_assoc}
use Prim.Native.Nat.{ℕ, ◌+◌, ◌*◌, ◌^◌, ◌≤◌, ◌<◌}
use native.Mathlib.Omega.{arith}
use lib.ListN.{length, take, drop, get_or, length-append}
use Rattle.tables.specs.Small.{Small}
use Rattle.tables.specs.Lines.{newline, end_line, lines, all_hex, field, digits_line}
use Rattle.tables.specs.Frames.{Frame, opens, gives, ends, malformed, four_words, frame_of, frames_of}
use Rattle.tables.proofs.Lines.{same_eq, same_self, hex_part}
use Rattle.tables.proofs.Newlines.{joined, line_hex, line_end, line_length_lem, lines_end}
use Rattle.tables.proofs.TableLine.{Tells, tells, kind_frame, line_frame, end_frame}
use Rattle.digits.specs.Hex.{hex_digits, hex_words}
use Rattle.tables.proofs.Stored.{four_by}
use Rattle.digits.proofs.Writes.{hex_digits_length, hex_words_length}
use Rattle.digits.proofs.Back.{hex_append, digits_hex, words_hex, digits_field, digits_past, word_field, made_line, line_first, field_written}
use Rattle.reading.proofs.Accepted.{Placed, open_on, give_on, last_line_lem, fault_placed}
use Rattle.writing.specs.Writer.{frame_line, line_of, lines_of}
use Rattle.writing.proofs.Lengths.{frame_length}

-- ---- a line that is written, and read

module _ (kind a : ℕ) (ws : List ℕ) (four : length ws ≡ 4) where
  abbrev body : List ℕ
  body = hex_digits 2 kind ++ (hex_digits 2 a ++ hex_words ws)

  with_newline : frame_line kind a ws ≡ body ++ (newline ∷ [])
  unfolding frame_line
  with_newline = simp append_assoc

  frame_digits : digits_line 36 (frame_line kind a ws) ≡ true
  frame_digits =
      ap (digits_line 36) with_newline
      ∙ made_line 36 body (simp (length-append, hex_digits_length, hex_words_length, four))
      (hex_append (hex_digits 2 kind) _ (digits_hex 2 kind) (hex_append (hex_digits 2 a) _ (digits_hex 2 a) (words_hex ws)))

-- its fields
module _ (kind a : ℕ) (ws : List ℕ) (four : length ws ≡ 4) (hk : kind < 16 ^ 2) (ha : a < 16 ^ 2) (small : Small ws) where
  abbrev rest : List ℕ
  rest = hex_words ws ++ (newline ∷ [])

  kind_at : field (frame_line kind a ws) 0 2 ≡ kind
  unfolding frame_line
  kind_at = digits_field 2 kind _ hk

  agent_at_lem : field (frame_line kind a ws) 2 2 ≡ a
  unfolding frame_line
  agent_at_lem = digits_past 2 kind _ 0 2 ∙ digits_field 2 a rest ha

  word_at : (j i : ℕ) → i ≡ 4 + 8 * j → j < 4 → field (frame_line kind a ws) i 8 ≡ get_or ws j 0
  unfolding frame_line
  word_at j i e h =
      let q : i ≡ 2 + (2 + 8 * j) = omega arith in
      ap (λ (k : ℕ). field (hex_digits 2 kind ++ (hex_digits 2 a ++ rest)) k 8) q
      ∙ digits_past 2 kind (hex_digits 2 a ++ rest) (2 + 8 * j) 8
      ∙ digits_past 2 a rest (8 * j) 8
      ∙ word_field ws (newline ∷ []) small j (omega arith)

  words_at_lem : four_words (frame_line kind a ws) ≡ ws
  unfolding four_words
  words_at_lem =
      four_by ws four (word_at 0 4 (omega arith) (omega arith)) (word_at 1 12 (omega arith) (omega arith)) (word_at 2 20 (omega arith) (omega arith)) (word_at 3 28 (omega arith) (omega arith))

  frame_read : frame_of (frame_line kind a ws) ≡ kind_frame kind a ws
  frame_read = line_frame (frame_line kind a ws) (frame_digits kind a ws four) ∙ (λ i. kind_frame (kind_at i) (agent_at_lem i) (words_at_lem i))

-- a frame that a line can give
abbrev pub PlainFrame : Frame → Type 0
PlainFrame (opens a ws) = (a < 256) × (length ws ≡ 4) × Small ws
PlainFrame (gives a ws) = (a < 256) × (length ws ≡ 4) × Small ws
PlainFrame ends = Unit
PlainFrame (malformed w) = ⊥

abbrev pub AllPlainFrames : List Frame → Type 0
AllPlainFrames [] = Unit
AllPlainFrames (f ∷ fs) = PlainFrame f × AllPlainFrames fs

frame_back : (f : Frame) → PlainFrame f → frame_of (line_of f) ≡ f
unfolding line_of
frame_back (opens a ws) h = frame_read 0x00 a ws h.1 (omega arith) h.0 h.2
frame_back (gives a ws) h = frame_read 0x01 a ws h.1 (omega arith) h.0 h.2
frame_back ends h = end_frame
frame_back (malformed w) h = absurd h

-- it is the first line of a text that begins with it
line_split : (f : Frame) (r : List ℕ) → PlainFrame f → lines (line_of f ++ r) ≡ line_of f ∷ lines r
unfolding line_of
line_split (opens a ws) r h = line_first 36 (frame_line 0x00 a ws) r (frame_length 0x00 a ws h.1) (frame_digits 0x00 a ws h.1)
line_split (gives a ws) r h = line_first 36 (frame_line 0x01 a ws) r (frame_length 0x01 a ws h.1) (frame_digits 0x01 a ws h.1)
line_split ends r h = lines_end (end_line ++ r) (same_self end_line)
line_split (malformed w) r h = absurd h

-- the frames that are written are the frames that are read
pub frames_back : (fs : List Frame) → AllPlainFrames fs → frames_of (lines_of fs) ≡ fs
unfolding frames_of lines_of lines
frames_back [] h = refl
frames_back (f ∷ fs) h =
    ap (map frame_of) (line_split f (lines_of fs) h.0)
    ∙ (λ i. frame_back f h.0 i ∷ frames_back fs h.1 i)

-- ---- a line that is read, and written

line_written : (l : List ℕ) → digits_line 36 l ≡ true → frame_line (field l 0 2) (field l 2 2) (four_words l) ≡ l
unfolding frame_line four_words hex_words
line_written l d =
    let n = line_length_lem 36 l d in
    let hex : (i k : ℕ) → i + k ≤ 36 → all_hex (take k (drop i l)) ≡ true = λ i k h. hex_part l 36 i k (line_hex 36 l d) h in
    let piece : (i k m : ℕ) → i + k ≡ m → m ≤ 36 → hex_digits k (field l i k) ++ drop m l ≡ drop i l = λ i k m e h. field_written l i k m e (omega arith) (hex i k (omega arith)) in
    (simp append_assoc)
    ∙ ap
    (λ (r : List ℕ). hex_digits 2 (field l 0 2) ++ (hex_digits 2 (field l 2 2) ++ (hex_digits 8 (field l 4 8) ++ (hex_digits 8 (field l 12 8) ++ (hex_digits 8 (field l 20 8) ++ (hex_digits 8 (field l 28 8) ++ r))))))
    (sym (line_end 36 l d))
    ∙ rw (piece 28 8 36 refl (omega arith), piece 20 8 28 refl (omega arith), piece 12 8 20 refl (omega arith), piece 4 8 12 refl (omega arith), piece 2 2 4 refl (omega arith))
    (piece 0 2 2 refl (omega arith))

-- lines in their places, written as the text that they are
pub text_back : (ls : List (List ℕ)) (n a i : ℕ) → Placed n a i (map frame_of ls) → lines_of (map frame_of ls) ≡ joined ls
unfolding lines_of line_of joined
text_back [] n a i q = refl
text_back (l ∷ ls) n a i q = go (frame_of l) (tells l) q (λ n a i. text_back ls n a i)
  where
    go : (f : Frame) → Tells l f → Placed n a i (f ∷ map frame_of ls) → ((n a i : ℕ) → Placed n a i (map frame_of ls) → lines_of (map frame_of ls) ≡ joined ls)
        → line_of f ++ lines_of (map frame_of ls) ≡ l ++ joined ls
    go (opens b ws) t q rec =
        let e : frame_line 0x00 b ws ≡ l = rw (t.2, t.3, ← t.4) (line_written l t.1) in
        (λ k. e k ++ rec (n + 1) (a + 1) 0 (open_on n a i b ws (map frame_of ls) q) k)
    go (gives b ws) t q rec =
        let e : frame_line 0x01 b ws ≡ l = rw (t.2, t.3, ← t.4) (line_written l t.1) in
        (λ k. e k ++ rec (n + 1) a (i + 1) (give_on n a i b ws (map frame_of ls) q) k)
    go ends t q rec =
        let z = last_line_lem n a i ls q in
        rw (z, same_eq l end_line t)
    go (malformed w) t q rec = absurd (fault_placed n a i w (map frame_of ls) q)
