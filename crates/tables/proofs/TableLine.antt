-- A line of a table by what it is: its frame by its first byte, and what a frame tells of its line. Assumes nothing.
use mathlib.Core.Path.{◌≡◌, refl, sym, subst, ◌∙◌}
use mathlib.Core.Bool.{Bool, true, false, cond}
use mathlib.Core.List.{List, [], ◌∷◌}
use mathlib.Core.Logic.{◌⊎◌, inl, inr}
use Prim.Native.Nat.{ℕ, ◌+◌, ◌*◌, ◌<◌}
use native.Mathlib.Omega.{arith}
use lib.Dec.{eqb}
use borrow.Author.Tests.{eqb-true, eqb-false}
use Rattle.std.specs.Prelude.{Result, Ok, Err}
use Rattle.tables.specs.Lines.{newline, same, end_line, hex_digit, field, digits_line}
use Rattle.tables.specs.Faults.{begins_with, judge_kind, judge}
use Rattle.tables.specs.Frames.{Frame, opens, gives, ends, malformed, four_words, known_in_tables, frame_of}
use Rattle.tables.specs.declared.faults.Fault.{Fault}
use Rattle.tables.specs.declared.faults.Fault.TheVariants.{Length, FirstByte}
use Rattle.tables.proofs.Newlines.{line_hex, line_end, line_length_lem}
use Rattle.tables.proofs.Lines.{same_self, other_length, hex_at, hex_char_lem, two_digits}
use Rattle.tables.proofs.Judging.{Among, judge_digits, sound_among}

pub not_both : ◌≡◌ {A = Bool} true false → ⊥
not_both e = cc

-- ---- the frame of a line, in the order in which it is asked for

module _ (l : List ℕ) where
  frame_end : same l end_line ≡ true → frame_of l ≡ ends
  unfolding frame_of
  frame_end h = rw h

  module _ (h : same l end_line ≡ false) where
    frame_sound : judge known_in_tables l ≡ Ok tt → frame_of l ≡ cond (eqb (field l 0 2) 0) (opens (field l 2 2) (four_words l)) (gives (field l 2 2) (four_words l))
    unfolding frame_of
    frame_sound e = rw (h, e)

    frame_faulty : (w : Fault) → judge known_in_tables l ≡ Err w → frame_of l ≡ malformed w
    unfolding frame_of
    frame_faulty w e = rw (h, e)

pub end_frame : frame_of end_line ≡ ends
end_frame = frame_end end_line (same_self end_line)

-- ---- 36 digits, by the first byte

-- a line of 36 digits by its first byte: what is wrong with it where that is none of a row's or an agent's
abbrev pub other_kind : ℕ → Fault
other_kind k = cond (eqb k 0xFF) Length FirstByte

abbrev pub kind_frame : ℕ → ℕ → List ℕ → Frame
kind_frame k a ws = cond (eqb k 0) (opens a ws) (cond (eqb k 1) (gives a ws) (malformed (other_kind k)))

kind_judged : (l : List ℕ) → digits_line 36 l ≡ true
    → judge known_in_tables l ≡ cond (eqb (field l 0 2) 0) (Ok tt) (cond (eqb (field l 0 2) 1) (Ok tt) (Err (other_kind (field l 0 2))))
unfolding judge_kind begins_with
kind_judged l h = judge_digits known_in_tables l 36 h ∙ rw (line_length_lem 36 l h) (go (eqb (field l 0 2) 0xFF))
  where
    go : (f : Bool) → ◌≡◌ {A = Result Unit Fault} (cond (eqb (field l 0 2) 0) (Ok tt) (cond (eqb (field l 0 2) 1) (Ok tt) (cond f (Err Length) (Err FirstByte))))
        (cond (eqb (field l 0 2) 0) (Ok tt) (cond (eqb (field l 0 2) 1) (Ok tt) (Err (cond f Length FirstByte))))
    go true = refl
    go false = refl

pub line_frame : (l : List ℕ) → digits_line 36 l ≡ true → frame_of l ≡ kind_frame (field l 0 2) (field l 2 2) (four_words l)
line_frame l h = go (eqb (field l 0 2) 0) refl (eqb (field l 0 2) 1) (kind_judged l h)
  where
    no_end_lem : same l end_line ≡ false
    no_end_lem = other_length l end_line (λ e. let w = line_length_lem 36 l h in absurd (omega arith))

    go : (z : Bool) → eqb (field l 0 2) 0 ≡ z → (o : Bool) → judge known_in_tables l ≡ cond z (Ok tt) (cond o (Ok tt) (Err (other_kind (field l 0 2))))
        → frame_of l ≡ cond z (opens (field l 2 2) (four_words l)) (cond o (gives (field l 2 2) (four_words l)) (malformed (other_kind (field l 0 2))))
    go true q o e = frame_sound l no_end_lem e ∙ rw q
    go false q true e = frame_sound l no_end_lem e ∙ rw q
    go false q false e = frame_faulty l no_end_lem (other_kind (field l 0 2)) e

-- ---- what a frame tells

-- FF and no more is the end line
ff_end : (l : List ℕ) → digits_line 2 l ≡ true → field l 0 2 ≡ 0xFF → same l end_line ≡ true
ff_end [] h e = let z = line_length_lem 2 [] h in absurd (omega arith)
ff_end (a ∷ []) h e = let z = line_length_lem 2 (a ∷ []) h in absurd (omega arith)
ff_end (a ∷ b ∷ l) h e =
    let s = a ∷ b ∷ l in
    let n = line_length_lem 2 s h in
    let x : hex_digit a < 16 = hex_at s 2 0 (line_hex 2 s h) (omega arith) (omega arith) in
    let y : hex_digit b < 16 = hex_at s 2 1 (line_hex 2 s h) (omega arith) (omega arith) in
    let t : field s 0 2 ≡ 16 * hex_digit a + hex_digit b = two_digits s 0 (omega arith) in
    let f : hex_digit a ≡ 15 = omega arith in
    let g : hex_digit b ≡ 15 = omega arith in
    let r : l ≡ newline ∷ [] = line_end 2 s h in
    rw (hex_char_lem a 15 f (omega arith), hex_char_lem b 15 g (omega arith), r) (same_self end_line)

-- a sound line of a table that is not its end line is 36 digits, and begins with 00 or 01
sound_digits : (l : List ℕ) → same l end_line ≡ false → judge known_in_tables l ≡ Ok tt → (digits_line 36 l ≡ true) × ((field l 0 2 ≡ 0x00) ⊎ (field l 0 2 ≡ 0x01))
sound_digits l h e = go (sound_among known_in_tables l e)
  where
    go : Among known_in_tables l → (digits_line 36 l ≡ true) × ((field l 0 2 ≡ 0x00) ⊎ (field l 0 2 ≡ 0x01))
    go (inl w) = (w.0, inl w.1)
    go (inr (inl w)) = (w.0, inr w.1)
    go (inr (inr (inl w))) = absurd (not_both (sym (ff_end l w.0 w.1) ∙ h))
    go (inr (inr (inr w))) = absurd w

-- a line of 36 digits that gives an agent's number and four words
abbrev Gave : List ℕ → ℕ → List ℕ → ℕ → Type 0
Gave l b ws kind = (same l end_line ≡ false) × (digits_line 36 l ≡ true) × (ws ≡ four_words l) × (b ≡ field l 2 2) × (field l 0 2 ≡ kind)

-- what a frame tells of its line
abbrev pub Tells : List ℕ → Frame → Type 0
Tells l (opens b ws) = Gave l b ws 0x00
Tells l (gives b ws) = Gave l b ws 0x01
Tells l ends = same l end_line ≡ true
Tells l (malformed w) = judge known_in_tables l ≡ Err w

pub tells : (l : List ℕ) → Tells l (frame_of l)
tells l = go (same l end_line) refl (judge known_in_tables l) refl
  where
    one : eqb (field l 0 2) 0x00 ≡ false → (field l 0 2 ≡ 0x00) ⊎ (field l 0 2 ≡ 0x01) → field l 0 2 ≡ 0x01
    one e (inl z) = absurd (eqb-false (field l 0 2) 0x00 e z)
    one e (inr o) = o

    either : (z : Bool) → eqb (field l 0 2) 0x00 ≡ z → same l end_line ≡ false → (digits_line 36 l ≡ true) × ((field l 0 2 ≡ 0x00) ⊎ (field l 0 2 ≡ 0x01))
        → Tells l (cond z (opens (field l 2 2) (four_words l)) (gives (field l 2 2) (four_words l)))
    either true e h d = (h, d.0, refl, refl, eqb-true (field l 0 2) 0x00 e)
    either false e h d = (h, d.0, refl, refl, one e d.1)

    go : (b : Bool) → same l end_line ≡ b → (j : Result Unit Fault) → judge known_in_tables l ≡ j → Tells l (frame_of l)
    go true h j q = subst (Tells l) (sym (frame_end l h)) h
    go false h (Ok _) q = subst (Tells l) (sym (frame_sound l h q)) (either (eqb (field l 0 2) 0x00) refl h (sound_digits l h q))
    go false h (Err w) q = subst (Tells l) (sym (frame_faulty l h w q)) q

-- the frame of a line with a fault
pub record Faulted (l : List ℕ) : Type 0 where
  pub fault : Fault
  pub judged : judge known_in_tables l ≡ Err fault
  pub frame : frame_of l ≡ malformed fault
