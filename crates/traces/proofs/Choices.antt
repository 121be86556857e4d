-- Choice lines from a place of a text on: 12 digits and a newline, the fields in them, and the first that has a fault. Assumes nothing.
use mathlib.Core.Path.{◌≡◌, refl, sym, ap, ◌∙◌}
use mathlib.Core.Logic.{inl, inr}
use mathlib.Core.Bool.{true}
use mathlib.Core.List.{List, [], ◌∷◌, ◌++◌}
use Prim.Native.Nat.{ℕ, ◌+◌, ◌≤◌, ◌<◌}
use native.Mathlib.Omega.{arith}
use lib.ListN.{length, take, drop, drop_of_length-le, length-append}
use lib.Seq.{drop-drop, take_all, take-append_seam, drop-append_seam}
use Rattle.tables.specs.Lines.{lines, field, digits_line}
use Rattle.tables.specs.Faults.{fault_reply, judge}
use Rattle.tables.specs.Heads.{digits_at, line_length, line_from}
use Rattle.tables.specs.declared.faults.Fault.{Fault}
use Rattle.std.specs.Prelude.{Result, Ok, Err}
use Rattle.tables.proofs.Newlines.{line_length_lem, lines_digits}
use Rattle.tables.proofs.FirstLine.{line_whole, first_line_at}
use Rattle.tables.proofs.Judging.{fault_some, Among, sound_among}
use Rattle.tables.proofs.Heads.{digits_room}
use Rattle.reading.specs.Reader.{told}
use Rattle.reading.specs.declared.Told.{Told}
use Rattle.traces.specs.Input.{known_in_choices, bad_choice, choices_in}

-- a choice line is 12 digits
pub sound_choice : (l : List ℕ) → judge known_in_choices l ≡ Ok tt → digits_line 12 l ≡ true
sound_choice l e = go (sound_among known_in_choices l e)
  where
    go : Among known_in_choices l → digits_line 12 l ≡ true
    go (inl w) = w.0
    go (inr w) = absurd w

-- ---- what is told of the choice lines, by the first of them

module _ (n : ℕ) (l : List ℕ) (ls : List (List ℕ)) where
  bad_sound : judge known_in_choices l ≡ Ok tt → bad_choice n (l ∷ ls) ≡ bad_choice (n + 1) ls
  unfolding bad_choice
  bad_sound e = rw (e, bad_choice)

  bad_faulty : (w : Fault) → judge known_in_choices l ≡ Err w → bad_choice n (l ∷ ls) ≡ told (fault_reply w) n
  unfolding bad_choice
  bad_faulty w e = rw (e, bad_choice)

  -- where nothing is told, the first is a choice, and nothing is told of the others
  pub bad_none_head : (bad_choice n (l ∷ ls)).reply ≡ 0 → (judge known_in_choices l ≡ Ok tt) × ((bad_choice (n + 1) ls).reply ≡ 0)
  bad_none_head h = go (judge known_in_choices l) refl
    where
      go : (j : Result Unit Fault) → judge known_in_choices l ≡ j → (judge known_in_choices l ≡ Ok tt) × ((bad_choice (n + 1) ls).reply ≡ 0)
      go (Ok _) e = (e, ap (λ (q : Told). q.reply) (sym (bad_sound e)) ∙ h)
      go (Err w) e = absurd (fault_some w (ap (λ (q : Told). q.reply) (sym (bad_faulty w e)) ∙ h))

-- that nothing is told does not depend on the number of the first line
pub bad_any : (ls : List (List ℕ)) (n m : ℕ) → (bad_choice n ls).reply ≡ 0 → (bad_choice m ls).reply ≡ 0
unfolding bad_choice
bad_any [] n m h = refl
bad_any (l ∷ ls) n m h =
    let s = bad_none_head n l ls h in
    ap (λ (q : Told). q.reply) (bad_sound m l ls s.0) ∙ bad_any ls (n + 1) (m + 1) s.1

-- ---- a choice line at a place

abbrev pub IsChoice : List ℕ → ℕ → Type 0
IsChoice text p = judge known_in_choices (line_from text p) ≡ Ok tt

module _ (text : List ℕ) (p : ℕ) (h : IsChoice text p) where
  choice_line : line_from text p ≡ take 13 (drop p text)
  choice_line =
      let s = drop p text in
      let e : line_length s ≡ 13 = sym (line_whole s) ∙ line_length_lem 12 (line_from text p) (sound_choice (line_from text p) h) in
      ap (λ (n : ℕ). take n s) e

  pub choice_digits : digits_at 12 text p ≡ true
  unfolding digits_at
  choice_digits = ap (digits_line 12) (sym choice_line) ∙ sound_choice (line_from text p) h

  pub choice_room : p ≤ length text → p + 13 ≤ length text
  choice_room = digits_room 12 text p choice_digits

  choice_lines_lem : lines (drop p text) ≡ line_from text p ∷ lines (drop (p + 13) text)
  unfolding digits_at
  choice_lines_lem =
      lines_digits 12 (drop p text) choice_digits
      ∙ ap (λ (l : List ℕ). take 13 (drop p text) ∷ lines l) (drop-drop 13 p text)
      ∙ ap (λ (l : List ℕ). l ∷ lines (drop (p + 13) text)) (sym choice_line)

  pub bad_next : (n : ℕ) → bad_choice n (lines (drop p text)) ≡ bad_choice (n + 1) (lines (drop (p + 13) text))
  bad_next n = ap (bad_choice n) choice_lines_lem ∙ bad_sound n (line_from text p) (lines (drop (p + 13) text)) h

-- ---- a line with a fault at a place, and no line

module _ (text : List ℕ) (p : ℕ) where
  pub bad_here : p < length text → (n : ℕ) (w : Fault) → judge known_in_choices (line_from text p) ≡ Err w → bad_choice n (lines (drop p text)) ≡ told (fault_reply w) n
  bad_here h n w e = ap (bad_choice n) (first_line_at text p h) ∙ bad_faulty n (line_from text p) _ w e

  -- where nothing is told of the lines from here on, a choice line stands here
  pub good_here : p < length text → (n : ℕ) → (bad_choice n (lines (drop p text))).reply ≡ 0 → IsChoice text p
  good_here h n e = (bad_none_head n (line_from text p) _ (ap (λ (ls : List (List ℕ)). (bad_choice n ls).reply) (sym (first_line_at text p h)) ∙ e)).0

  pub bad_none : length text ≤ p → (n : ℕ) → bad_choice n (lines (drop p text)) ≡ told 0 0
  unfolding bad_choice lines
  bad_none h n = rw (drop_of_length-le text {i = p} h)

-- ---- choice lines taken off the front, one after the other, where nothing is told of any

module _ (n : ℕ) (line left : List ℕ) (k : length line ≡ 13) (e : (bad_choice n (lines (line ++ left))).reply ≡ 0) where
  here : IsChoice (line ++ left) 0
  here = good_here (line ++ left) 0 (simp length-append (omega arith)) n e

  front_line : line_from (line ++ left) 0 ≡ line
  front_line = choice_line (line ++ left) 0 here ∙ ap (λ (m : ℕ). take m (line ++ left)) (sym k) ∙ take-append_seam line left

  front_sound : judge known_in_choices line ≡ Ok tt
  front_sound = ap (judge known_in_choices) (sym front_line) ∙ here

  front_lines : lines (line ++ left) ≡ line ∷ lines left
  front_lines =
      choice_lines_lem (line ++ left) 0 here
      ∙ ap (λ (l : List ℕ). l ∷ lines (drop 13 (line ++ left))) front_line
      ∙ ap (λ (m : ℕ). line ∷ lines (drop m (line ++ left))) (sym k)
      ∙ ap (λ (l : List ℕ). line ∷ lines l) (drop-append_seam line left)

  pub front_digits : digits_at 12 line 0 ≡ true
  unfolding digits_at
  front_digits = ap (digits_line 12) (take_all 13 line (omega arith)) ∙ sound_choice line front_sound

  pub front_next : (bad_choice (n + 1) (lines left)).reply ≡ 0
  front_next = ap (λ (q : Told). q.reply) (sym (bad_sound n line (lines left) front_sound) ∙ ap (bad_choice n) (sym front_lines)) ∙ e

  pub front_choice : choices_in (lines (line ++ left)) ≡ field line 2 2 ∷ field line 4 8 ∷ choices_in (lines left)
  unfolding choices_in
  front_choice = rw front_lines

-- fewer bytes than a choice line has are none
pub none_left_lem : (n : ℕ) (left : List ℕ) → (bad_choice n (lines left)).reply ≡ 0 → length left < 13 → left ≡ []
none_left_lem n [] e h = refl
none_left_lem n (b ∷ bs) e h = let r = choice_room (b ∷ bs) 0 (good_here (b ∷ bs) 0 (omega arith) n e) (omega arith) in absurd (omega arith)
