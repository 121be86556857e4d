-- The lines and frames of a text by what stands at its head: an end line, 36 digits, or neither. Assumes nothing.
use mathlib.Core.Path.{◌≡◌, refl, sym, ap, ◌∙◌}
use mathlib.Core.Bool.{Bool, true, false, cond}
use mathlib.Core.List.{List, [], ◌∷◌, ◌++◌, map}
use Prim.Native.Nat.{ℕ, ◌+◌, ◌-◌, ◌≤◌, ◌<◌, min}
use native.Mathlib.Omega.{arith}
use lib.Dec.{eqb}
use lib.ListN.{length, take, drop, length-drop, length-take, drop_of_length-le}
use lib.Seq.{take-take, take_at, drop-drop}
use Rattle.tables.specs.Lines.{same, end_line, lines, all_hex, field, digits_line}
use Rattle.tables.specs.Frames.{Frame, opens, gives, ends, malformed, four_words, frame_of, frames_of}
use Rattle.tables.specs.Heads.{end_at, digits_at, line_length, line_from, words_at, head_line, line_at}
use Rattle.tables.specs.declared.frames.Line.{Line}
use Rattle.tables.specs.declared.frames.Line.TheVariants.{Opens, Gives, Ends, Malformed}
use Rattle.tables.proofs.Newlines.{joined, joined_lines, line_hex, line_length_lem, lines_digits, lines_end, no_end_lem}
use Rattle.tables.proofs.Lines.{same_eq, hex_part, field_cut, field_from}
use Rattle.tables.proofs.FirstLine.{first_line_at}
use Rattle.tables.proofs.TableLine.{not_both, end_frame, other_kind, kind_frame, line_frame, Tells, tells, Faulted}

digits_frame : (s : List ℕ) → digits_line 36 (take 37 s) ≡ true → frame_of (take 37 s) ≡ kind_frame (field s 0 2) (field s 2 2) (four_words s)
unfolding four_words
digits_frame s h =
    rw (
      line_frame (take 37 s) h,
      field_cut s 37 0 2 (omega arith),
      field_cut s 37 2 2 (omega arith),
      field_cut s 37 4 8 (omega arith),
      field_cut s 37 12 8 (omega arith),
      field_cut s 37 20 8 (omega arith),
      field_cut s 37 28 8 (omega arith),
    )

module _ (text : List ℕ) (p : ℕ) where
  frames_end : end_at text p ≡ true → frames_of (drop p text) ≡ ends ∷ frames_of (drop (p + 3) text)
  unfolding end_at frames_of
  frames_end h = rw (lines_end (drop p text) h, drop-drop 3 p text, end_frame)

  frames_digits : digits_at 36 text p ≡ true
      → frames_of (drop p text) ≡ kind_frame (field text p 2) (field text (p + 2) 2) (words_at text p) ∷ frames_of (drop (p + 37) text)
  unfolding digits_at frames_of
  frames_digits h =
      rw (
        lines_digits 36 (drop p text) h,
        drop-drop 37 p text,
        digits_frame (drop p text) h,
        field_from text p p 0 2 (omega arith),
        field_from text p (p + 2) 2 2 refl,
      )

  pub no_frames : length text ≤ p → frames_of (drop p text) ≡ []
  unfolding frames_of lines
  no_frames h = rw (drop_of_length-le text {i = p} h)

  pub some_frames : p < length text → frames_of (drop p text) ≡ [] → ⊥
  unfolding frames_of joined
  some_frames h e =
      let z : drop p text ≡ [] = sym (joined_lines (drop p text)) ∙ ap joined (none (lines (drop p text)) e) in
      let n : length text - p ≡ 0 = sym (length-drop p text) ∙ ap length z in
      absurd (omega arith)
    where
      none : (ls : List (List ℕ)) → map frame_of ls ≡ [] → ls ≡ []
      none [] e = refl
      none (l ∷ ls) e = cc

-- neither an end line nor 36 digits stands at the head of a text
neither : (s l : List ℕ) (ls : List (List ℕ)) (fs : List Frame) → lines s ≡ l ∷ ls → same (take 3 s) end_line ≡ false → digits_line 36 (take 37 s) ≡ false
    → head_line (frame_of l ∷ fs) ≡ Malformed
unfolding joined head_line
neither s l ls fs e h k = go (frame_of l) (tells l)
  where
    whole : s ≡ l ++ joined ls
    whole = sym (joined_lines s) ∙ ap joined e

    no_digits : (b : Bool) → digits_line 36 l ≡ b → b ≡ false
    no_digits true q =
        let f : take 37 s ≡ l = ap (take 37) whole ∙ take_at l (joined ls) 37 (line_length_lem 36 l q) in
        sym (ap (digits_line 36) f ∙ q) ∙ k
    no_digits false q = refl

    go : (f : Frame) → Tells l f → head_line (f ∷ fs) ≡ Malformed
    go (opens b ws) t = absurd (not_both (sym t.1 ∙ no_digits (digits_line 36 l) refl))
    go (gives b ws) t = absurd (not_both (sym t.1 ∙ no_digits (digits_line 36 l) refl))
    go ends t = absurd (not_both (sym t ∙ no_end_lem s l (joined ls) whole h))
    go (malformed w) t = refl

abbrev pub kind_line : ℕ → ℕ → Line
kind_line k a = cond (eqb k 0) (Opens a) (cond (eqb k 1) (Gives a) Malformed)

head_kind : (k a : ℕ) (ws : List ℕ) (fs : List Frame) → head_line (kind_frame k a ws ∷ fs) ≡ kind_line k a
unfolding head_line
head_kind k a ws fs = go (eqb k 0) (eqb k 1)
  where
    go : (z o : Bool) → head_line (cond z (opens a ws) (cond o (gives a ws) (malformed (other_kind k))) ∷ fs) ≡ cond z (Opens a) (cond o (Gives a) Malformed)
    go true o = refl
    go false true = refl
    go false false = refl

module _ (text : List ℕ) (p : ℕ) where
  -- the three answers, in the order in which the code asks
  pub line_end_at : end_at text p ≡ true → line_at text p ≡ Ends
  unfolding line_at head_line
  line_end_at h = ap head_line (frames_end text p h)

  pub line_digits : digits_at 36 text p ≡ true → line_at text p ≡ kind_line (field text p 2) (field text (p + 2) 2)
  unfolding line_at
  line_digits h =
      ap head_line (frames_digits text p h)
      ∙ head_kind (field text p 2) (field text (p + 2) 2) (words_at text p) (frames_of (drop (p + 37) text))

  pub line_neither : end_at text p ≡ false → digits_at 36 text p ≡ false → line_at text p ≡ Malformed
  unfolding line_at end_at digits_at frames_of head_line
  line_neither h k = go (lines (drop p text)) refl
    where
      go : (ls : List (List ℕ)) → lines (drop p text) ≡ ls → head_line (map frame_of ls) ≡ Malformed
      go [] e = refl
      go (l ∷ ls) e = neither (drop p text) l ls (map frame_of ls) e h k

-- what stands at place p where the answer is that the line is malformed
malformed_head : (l : List ℕ) (fs : List Frame) → head_line (frame_of l ∷ fs) ≡ Malformed → Faulted l
unfolding head_line
malformed_head l fs = go (frame_of l) refl (tells l)
  where
    go : (f : Frame) → frame_of l ≡ f → Tells l f → head_line (f ∷ fs) ≡ Malformed → Faulted l
    go (opens b ws) q t e = cc
    go (gives b ws) q t e = cc
    go ends q t e = cc
    go (malformed w) q t e = record { fault = w; judged = t; frame = q }

module _ (text : List ℕ) (p : ℕ) (h : p < length text) where
  pub first_frame : frames_of (drop p text) ≡ frame_of (line_from text p) ∷ frames_of (drop (line_length (drop p text)) (drop p text))
  unfolding frames_of
  first_frame = ap (map frame_of) (first_line_at text p h)

  pub faulted_at : line_at text p ≡ Malformed → Faulted (line_from text p)
  unfolding line_at
  faulted_at e = malformed_head (line_from text p) _ (ap head_line (sym first_frame) ∙ e)

-- ---- a line of n digits at place p: its room, its digits, and what reading a field of it asks

module _ (n : ℕ) (text : List ℕ) (p : ℕ) (x : digits_at n text p ≡ true) where
  pub digits_room : p ≤ length text → p + (n + 1) ≤ length text
  unfolding digits_at
  digits_room i =
      let w : n + 1 ≡ min (n + 1) (length text - p) = simp (length-take, length-drop) at (sym (line_length_lem n (take (n + 1) (drop p text)) x)) in omega arith

  digits_hex : all_hex (take n (drop p text)) ≡ true
  unfolding digits_at
  digits_hex = sym (ap all_hex (take-take n (n + 1) (drop p text) (omega arith))) ∙ line_hex n (take (n + 1) (drop p text)) x

  pub field_asks : (q i k : ℕ) → q ≡ p + i → p ≤ length text → i + k ≤ n → k ≤ 8
      → (q + k ≤ length text) × (k ≤ 8) × (all_hex (take k (drop q text)) ≡ true)
  field_asks q i k e r h j =
      let w = digits_room r in
      let d : drop q text ≡ drop i (drop p text) = ap (λ (m : ℕ). drop m text) e ∙ sym (drop-drop i p text) in
      (omega arith, j, ap (λ (l : List ℕ). all_hex (take k l)) d ∙ hex_part (drop p text) n i k digits_hex h)

-- ---- what a line that is no end and not malformed tells: its frame, its room, its digits

pub record Framed (text : List ℕ) (p : ℕ) (f : Frame) : Type 0 where
  pub frames : frames_of (drop p text) ≡ f ∷ frames_of (drop (p + 37) text)
  pub room : p + 37 ≤ length text
  pub digits : digits_at 36 text p ≡ true

abbrev pub full : Line → Bool
full (Opens a) = true
full (Gives a) = true
full Ends = false
full Malformed = false

-- the frame of such a line; no other is asked for one
abbrev pub frame_with : Line → List ℕ → Frame
frame_with (Opens a) ws = opens a ws
frame_with (Gives a) ws = gives a ws
frame_with Ends ws = ends
frame_with Malformed ws = ends

kind_frame_lem : (k a : ℕ) (ws : List ℕ) → full (kind_line k a) ≡ true → kind_frame k a ws ≡ frame_with (kind_line k a) ws
kind_frame_lem k a ws = go (eqb k 0) (eqb k 1)
  where
    go : (z o : Bool) → full (cond z (Opens a) (cond o (Gives a) Malformed)) ≡ true
        → cond z (opens a ws) (cond o (gives a ws) (malformed (other_kind k))) ≡ frame_with (cond z (Opens a) (cond o (Gives a) Malformed)) ws
    go true o q = refl
    go false true q = refl
    go false false q = absurd (not_both (sym q))

module _ (text : List ℕ) (p : ℕ) where
  pub framed : p ≤ length text → (ln : Line) → line_at text p ≡ ln → full ln ≡ true → Framed text p (frame_with ln (words_at text p))
  framed i ln e k = go (end_at text p) refl (digits_at 36 text p) refl
    where
      none : (other : Line) → line_at text p ≡ other → full other ≡ false → ⊥
      none other q f = not_both (sym k ∙ ap full (sym e ∙ q) ∙ f)

      go : (b : Bool) → end_at text p ≡ b → (d : Bool) → digits_at 36 text p ≡ d → Framed text p (frame_with ln (words_at text p))
      go true q d r = absurd (none Ends (line_end_at text p q) refl)
      go false q false r = absurd (none Malformed (line_neither text p q r) refl)
      go false q true r =
          record {
            frames =
                frames_digits text p r
                ∙ ap
                (λ (f : Frame). f ∷ frames_of (drop (p + 37) text))
                (kind_frame_lem (field text p 2) (field text (p + 2) 2) (words_at text p) (ap full (sym (line_digits text p r) ∙ e) ∙ k)
                ∙ ap (λ (l : Line). frame_with l (words_at text p)) (sym (line_digits text p r) ∙ e));
            room = digits_room 36 text p r i;
            digits = r;
          }

  pub end_room : end_at text p ≡ true → p ≤ length text → p + 3 ≤ length text
  unfolding end_at
  end_room h i =
      let w : min 3 (length text - p) ≡ 3 = simp (length-take, length-drop) at (ap length (same_eq (take 3 (drop p text)) end_line h)) in omega arith

  -- the end line stands where the answer is that it does
  pub ends_at : line_at text p ≡ Ends → end_at text p ≡ true
  ends_at e = go (end_at text p) refl (digits_at 36 text p) refl
    where
      no_kind : (k a : ℕ) → kind_line k a ≡ Ends → ⊥
      no_kind k a = pick (eqb k 0) (eqb k 1)
        where
          pick : (z o : Bool) → cond z (Opens a) (cond o (Gives a) Malformed) ≡ Ends → ⊥
          pick true o q = cc
          pick false true q = cc
          pick false false q = cc

      go : (b : Bool) → end_at text p ≡ b → (d : Bool) → digits_at 36 text p ≡ d → b ≡ true
      go true q d r = refl
      go false q false r = cc (line_neither text p q r)
      go false q true r = absurd (no_kind (field text p 2) (field text (p + 2) 2) (sym (line_digits text p r) ∙ e))

  pub ended : line_at text p ≡ Ends → frames_of (drop p text) ≡ ends ∷ frames_of (drop (p + 3) text)
  ended e = frames_end text p (ends_at e)
