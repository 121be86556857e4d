-- Replies 2, 18, 19 and 3 over a text, a line at a time. Assumes nothing.
use mathlib.Core.Path.{◌≡◌, refl, sym, ap, ◌∙◌}
use mathlib.Core.Bool.{Bool, true, false, not, ◌&&◌}
use mathlib.Core.List.{List, [], ◌∷◌}
use Prim.Native.Nat.{ℕ, ◌+◌, ◌*◌, ◌-◌, ◌≤◌, ◌<◌}
use native.Mathlib.Numerals.{one-add}
use native.Mathlib.Omega.{arith}
use lib.Dec.{ltb, eqb}
use lib.ListN.{length, drop}
use borrow.Author.Tests.{ltb-true, leb-false, eqb-true, eqb-false, lt-ltb, lt-leb, eq-eqb, ne_eqb, not-false}
use Rattle.std.specs.Prelude.{Result}
use Rattle.tables.specs.Basics.{first, ◌⇒◌, Rule}
use Rattle.tables.specs.Faults.{judged_reply, judge}
use Rattle.tables.specs.Frames.{Frame, opens, gives, ends, malformed, known_in_tables, frames_of}
use Rattle.tables.specs.Heads.{line_length, line_from, head_line, line_at, words_at}
use Rattle.tables.specs.declared.faults.Fault.{Fault}
use Rattle.reading.specs.Reader.{told, none_left, past_end, opening_rules, row_rules, end_rules, told_by, in_place, rows_next}
use Rattle.tables.specs.declared.frames.Line.{Line}
use Rattle.tables.specs.declared.frames.Line.TheVariants.{Opens, Gives, Ends, Malformed}
use Rattle.tables.proofs.Judging.{fault_some}
use Rattle.std.proofs.lemmas.Bool.{and_left, not_from_true}
use Rattle.tables.proofs.Tests.{and_both, and_right}
use Rattle.tables.proofs.Passed.{test_at, passed}
use Rattle.tables.proofs.Heads.{framed, ended, no_frames, some_frames, first_frame, faulted_at}

-- ---- rules that call for 3: none is broken, or the first that is

pub rule_broken : (t : Bool) (rs : List Rule) → t ≡ true → false ≡ eqb (first ((t ⇒ 3) ∷ rs)) 0
unfolding first
rule_broken t rs h = rw h

pub rule_kept : (t u : Bool) (r : ℕ) (rs : List Rule) → t ≡ false → u ≡ eqb (first rs) 0 → u ≡ eqb (first ((t ⇒ r) ∷ rs)) 0
unfolding first
rule_kept t u r rs h e = rw h e

pub no_rule : true ≡ eqb (first []) 0
unfolding first
no_rule = refl

-- the last rule decides
pub last_rule : (t u : Bool) → t ≡ not u → u ≡ eqb (first ((t ⇒ 3) ∷ [])) 0
unfolding first
last_rule t true e = rw e
last_rule t false e = rw e

abbrev Threes : List Rule → Type 0
Threes [] = Unit
Threes ((t ⇒ r) ∷ rs) = (r ≡ 3) × Threes rs

three : (rs : List Rule) → Threes rs → eqb (first rs) 0 ≡ false → first rs ≡ 3
unfolding first
three [] t h = absurd (eqb-false 0 0 h refl)
three ((true ⇒ r) ∷ rs) t h = t.0
three ((false ⇒ r) ∷ rs) t h = three rs t.1 h

and_left_true : (s t : Bool) → s ≡ true → (s && t) ≡ false → t ≡ false
and_left_true s t e h = sym (ap (λ (u : Bool). u && t) e) ∙ h

-- ---- an opening line and a row's break no rule

abbrev pub may_open : ℕ → ℕ → ℕ → Bool
may_open b a i = eqb (first (opening_rules b a i)) 0

abbrev pub may_give : ℕ → ℕ → ℕ → Bool
may_give b a i = eqb (first (row_rules b a i)) 0

-- an agent that may be opened: there is room for it, and the agent before has rows
module _ (b a i : ℕ) (h : may_open b a i ≡ true) where
  none_broken : (k : ℕ) → test_at (opening_rules b a i) k ≡ false
  none_broken = passed (opening_rules b a i) tt (eqb-true (first (opening_rules b a i)) 0 h)

  pub open_number : b ≡ a
  open_number = eqb-true b a (not-false (eqb b a) (none_broken 0))

  pub open_room : a < 16
  open_room = leb-false 16 a (none_broken 1)

  pub open_after_rows : 0 < a → 0 < i
  open_after_rows p = let z = eqb-false i 0 (and_left_true (ltb 0 a) (eqb i 0) (lt-ltb _ _ p) (none_broken 2)) in omega (arith, z)

-- a row that may be given: it is the open agent's, and there is room for it
module _ (b a i : ℕ) (h : may_give b a i ≡ true) where
  none_broken_row : (k : ℕ) → test_at (row_rules b a i) k ≡ false
  none_broken_row = passed (row_rules b a i) tt (eqb-true (first (row_rules b a i)) 0 h)

  pub give_open : b + 1 ≡ a
  give_open =
      let z = eqb-false a 0 (none_broken_row 0) in
      let e = eqb-true b (a - 1) (not-false (eqb b (a - 1)) (none_broken_row 1)) in
      omega (arith, z)

  pub give_room : i < 32
  give_room = leb-false 32 i (none_broken_row 2)

-- the next agent may be opened, where the one before it has rows
pub may_open_lem : (a i : ℕ) → a < 16 → (0 < a → 0 < i) → may_open a a i ≡ true
may_open_lem a i h some =
    sym
    (rule_kept _ _ _ _ (not_from_true (eqb a a) (eq-eqb a a refl))
    (rule_kept _ _ _ _ (lt-leb 16 a h)
    (rule_kept _ _ _ _ (none (ltb 0 a) refl) no_rule)))
  where
    none : (b : Bool) → ltb 0 a ≡ b → (ltb 0 a && eqb i 0) ≡ false
    none true e = let m = some (ltb-true 0 a e) in and_right (ltb 0 a) (eqb i 0) (ne_eqb i 0 (λ z. omega arith))
    none false e = and_left (ltb 0 a) (eqb i 0) e

pub may_give_lem : (b i : ℕ) → i < 32 → may_give b (b + 1) i ≡ true
may_give_lem b i h =
    sym
    (rule_kept _ _ _ _ (ne_eqb (b + 1) 0 (λ e. omega arith))
    (rule_kept _ _ _ _ (not_from_true (eqb b (b + 1 - 1)) (eq-eqb b (b + 1 - 1) (omega arith)))
    (rule_kept _ _ _ _ (lt-leb 32 i h) no_rule)))

module _ (n a i b : ℕ) (ws : List ℕ) (fs : List Frame) where
  pub place_open : may_open b a i ≡ true → in_place n a i (opens b ws ∷ fs) ≡ in_place (n + 1) (a + 1) 0 fs
  unfolding in_place
  place_open h = rw (eqb-true (first (opening_rules b a i)) 0 h, in_place)

  pub place_open_not : may_open b a i ≡ false → in_place n a i (opens b ws ∷ fs) ≡ told 3 n
  unfolding in_place
  place_open_not h = rw (three (opening_rules b a i) (refl, (refl, (refl, tt))) h, in_place)

  pub place_give : may_give b a i ≡ true → in_place n a i (gives b ws ∷ fs) ≡ in_place (n + 1) a (i + 1) fs
  unfolding in_place
  place_give h = rw (eqb-true (first (row_rules b a i)) 0 h, in_place)

  pub place_give_not : may_give b a i ≡ false → in_place n a i (gives b ws ∷ fs) ≡ told 3 n
  unfolding in_place
  place_give_not h = rw (three (row_rules b a i) (refl, (refl, (refl, tt))) h, in_place)

-- the end line, by the rules that it is held to and what is left after it
module _ (n a i : ℕ) (fs : List Frame) where
  pub place_end : eqb (first (end_rules a i)) 0 ≡ true → in_place n a i (ends ∷ fs) ≡ told_by (past_end fs ∷ []) (n + 1)
  unfolding in_place
  place_end h = rw (eqb-true (first (end_rules a i)) 0 h, in_place)

  pub place_end_not : eqb (first (end_rules a i)) 0 ≡ false → in_place n a i (ends ∷ fs) ≡ told 3 n
  unfolding in_place
  place_end_not h = rw (three (end_rules a i) (refl, (refl, tt)) h, in_place)

  pub may_end : 0 < a → 0 < i → eqb (first (end_rules a i)) 0 ≡ true
  may_end p q =
      sym
      (rule_kept _ _ _ _ (ne_eqb a 0 (λ e. omega arith))
      (rule_kept _ _ _ _ (and_right (ltb 0 a) (eqb i 0) (ne_eqb i 0 (λ e. omega arith))) no_rule))

  -- with no agent there are no rows
  pub may_not_end : i ≡ 0 → eqb (first (end_rules a i)) 0 ≡ false
  may_not_end z = go (eqb a 0) refl
    where
      go : (t : Bool) → eqb a 0 ≡ t → eqb (first (end_rules a i)) 0 ≡ false
      go true e = sym (rule_broken _ _ e)
      go false e =
          let l : ltb 0 a ≡ true = lt-ltb 0 a (omega (arith, eqb-false a 0 e)) in
          sym (rule_kept _ _ _ _ e (rule_broken _ _ (and_both (ltb 0 a) (eqb i 0) l (eq-eqb i 0 z))))

  pub end_rows : eqb (first (end_rules a i)) 0 ≡ true → 0 < i
  end_rows h =
      let none : (k : ℕ) → test_at (end_rules a i) k ≡ false = passed (end_rules a i) tt (eqb-true (first (end_rules a i)) 0 h) in
      let z = eqb-false a 0 (none 0) in
      let y = eqb-false i 0 (and_left_true (ltb 0 a) (eqb i 0) (lt-ltb 0 a (omega (arith, z))) (none 1)) in
      omega (arith, y)

none_after : (text : List ℕ) (q : ℕ) → length text ≤ q → none_left (frames_of (drop q text)) ≡ true
none_after text q h = ap none_left (no_frames text q h)

some_after : (text : List ℕ) (q : ℕ) → q < length text → none_left (frames_of (drop q text)) ≡ false
some_after text q h = go (frames_of (drop q text)) (some_frames text q h)
  where
    go : (fs : List Frame) → (fs ≡ [] → ⊥) → none_left fs ≡ false
    go [] k = absurd (k refl)
    go (f ∷ fs) k = refl

-- at place p of a text, by the line that stands there
module _ (text : List ℕ) (p : ℕ) (within : p ≤ length text) (n a i : ℕ) where
  module _ (b : ℕ) where
    pub opened : line_at text p ≡ Opens b → may_open b a i ≡ true → in_place n a i (frames_of (drop p text)) ≡ in_place (n + 1) (a + 1) 0 (frames_of (drop (p + 37) text))
    opened e h = ap (in_place n a i) (framed text p within (Opens b) e refl).frames ∙ place_open n a i b (words_at text p) (frames_of (drop (p + 37) text)) h

    pub opened_not : line_at text p ≡ Opens b → may_open b a i ≡ false → in_place n a i (frames_of (drop p text)) ≡ told 3 n
    opened_not e h = ap (in_place n a i) (framed text p within (Opens b) e refl).frames ∙ place_open_not n a i b (words_at text p) (frames_of (drop (p + 37) text)) h

    pub given : line_at text p ≡ Gives b → may_give b a i ≡ true → in_place n a i (frames_of (drop p text)) ≡ in_place (n + 1) a (i + 1) (frames_of (drop (p + 37) text))
    given e h = ap (in_place n a i) (framed text p within (Gives b) e refl).frames ∙ place_give n a i b (words_at text p) (frames_of (drop (p + 37) text)) h

    pub given_not : line_at text p ≡ Gives b → may_give b a i ≡ false → in_place n a i (frames_of (drop p text)) ≡ told 3 n
    given_not e h = ap (in_place n a i) (framed text p within (Gives b) e refl).frames ∙ place_give_not n a i b (words_at text p) (frames_of (drop (p + 37) text)) h

  pub ended_early : line_at text p ≡ Ends → i ≡ 0 → in_place n a i (frames_of (drop p text)) ≡ told 3 n
  ended_early e z =
      let fs = frames_of (drop (p + 3) text) in
      ap (in_place n a i) (ended text p e) ∙ place_end_not n a i fs (may_not_end n a i fs z)

  at_end : line_at text p ≡ Ends → 0 < a → 0 < i → in_place n a i (frames_of (drop p text)) ≡ told_by (past_end (frames_of (drop (p + 3) text)) ∷ []) (n + 1)
  at_end e y z =
      let fs = frames_of (drop (p + 3) text) in
      ap (in_place n a i) (ended text p e) ∙ place_end n a i fs (may_end n a i fs y z)

  pub ended_before : line_at text p ≡ Ends → 0 < a → 0 < i → p + 3 < length text → in_place n a i (frames_of (drop p text)) ≡ told 3 (n + 1)
  unfolding first
  ended_before e y z h = rw (at_end e y z, some_after text (p + 3) h)

  pub ended_well : line_at text p ≡ Ends → 0 < a → 0 < i → length text ≤ p + 3 → in_place n a i (frames_of (drop p text)) ≡ told 0 0
  unfolding first
  ended_well e y z h = rw (at_end e y z, none_after text (p + 3) h)

  pub broken : line_at text p ≡ Malformed → p < length text → in_place n a i (frames_of (drop p text)) ≡ told (judged_reply (judge known_in_tables (line_from text p))) n
  unfolding in_place judged_reply
  broken e h =
      let f = faulted_at text p h e in
      ap (in_place n a i) (first_frame text p h)
      ∙ ap (λ (x : Frame). in_place n a i (x ∷ frames_of (drop (line_length (drop p text)) (drop p text)))) f.frame
      ∙ ap (λ (j : Result Unit Fault). told (judged_reply j) n) (sym f.judged)

  pub broken_some : line_at text p ≡ Malformed → p < length text → judged_reply (judge known_in_tables (line_from text p)) ≡ 0 → ⊥
  unfolding judged_reply
  broken_some e h z =
      let f = faulted_at text p h e in
      fault_some _ (ap judged_reply (sym f.judged) ∙ z)

  pub stopped : length text ≤ p → in_place n a i (frames_of (drop p text)) ≡ told 3 n
  unfolding in_place first
  stopped h = ap (in_place n a i) (no_frames text p h)

-- ---- before the line at place p: line n is next, after a agents of which the last has i rows

pub record Reached (text : List ℕ) (p n a i : ℕ) : Type 0 where
  pub within : p ≤ length text
  pub agents : a ≤ 16
  pub rows : i ≤ 32
  pub rows_all : i ≤ 32 * a
  pub line : n ≤ 33 * a + i + 1
  pub told : in_place 1 0 0 (frames_of text) ≡ in_place n a i (frames_of (drop p text))

module _ (text : List ℕ) (p n a i : ℕ) (t : Reached text p n a i) where
  pub reached_open : (b : ℕ) → line_at text p ≡ Opens b → may_open b a i ≡ true → Reached text (p + 37) (n + 1) (a + 1) 0
  reached_open b e h =
      let r = open_room b a i h in
      let l = t.line in
      let m = t.rows in
      record {
        within = (framed text p t.within (Opens b) e refl).room;
        agents = omega arith;
        rows = omega arith;
        rows_all = omega arith;
        line = omega arith;
        told = t.told ∙ opened text p t.within n a i b e h;
      }

  pub reached_give : (b : ℕ) → line_at text p ≡ Gives b → may_give b a i ≡ true → Reached text (p + 37) (n + 1) a (i + 1)
  reached_give b e h =
      let r = give_room b a i h in
      let o = give_open b a i h in
      let l = t.line in
      let m = t.rows_all in
      record {
        within = (framed text p t.within (Gives b) e refl).room;
        agents = t.agents;
        rows = omega arith;
        rows_all = omega arith;
        line = omega arith;
        told = t.told ∙ given text p t.within n a i b e h;
      }

  -- the line is out of its place
  pub misopened : (b : ℕ) → line_at text p ≡ Opens b → may_open b a i ≡ false → told 3 n ≡ in_place 1 0 0 (frames_of text)
  misopened b e h = sym (t.told ∙ opened_not text p t.within n a i b e h)

  pub misgiven : (b : ℕ) → line_at text p ≡ Gives b → may_give b a i ≡ false → told 3 n ≡ in_place 1 0 0 (frames_of text)
  misgiven b e h = sym (t.told ∙ given_not text p t.within n a i b e h)

  pub misended : line_at text p ≡ Ends → i ≤ 0 → told 3 n ≡ in_place 1 0 0 (frames_of text)
  misended e h = sym (t.told ∙ ended_early text p t.within n a i e (omega arith))

  pub reached_end : length text ≤ p → told 3 n ≡ in_place 1 0 0 (frames_of text)
  reached_end h = sym (t.told ∙ stopped text p t.within n a i h)

-- ---- the rows that come next

abbrev pub is_gives : Line → Bool
is_gives (Opens b) = false
is_gives (Gives b) = true
is_gives Ends = false
is_gives Malformed = false

module _ (text : List ℕ) (p : ℕ) (within : p ≤ length text) where
  pub row_next : (b : ℕ) → line_at text p ≡ Gives b → rows_next (frames_of (drop p text)) ≡ 1 + rows_next (frames_of (drop (p + 37) text))
  unfolding rows_next
  row_next b e = ap rows_next (framed text p within (Gives b) e refl).frames ∙ sym (one-add _)

  pub no_row_next : is_gives (line_at text p) ≡ false → rows_next (frames_of (drop p text)) ≡ 0
  unfolding line_at head_line rows_next
  no_row_next e = go (frames_of (drop p text)) e
    where
      go : (fs : List Frame) → is_gives (head_line fs) ≡ false → rows_next fs ≡ 0
      go [] e = refl
      go (opens b ws ∷ fs) e = refl
      go (gives b ws ∷ fs) e = let z : ◌≡◌ {A = ℕ} 0 1 = cc in absurd (omega arith)
      go (ends ∷ fs) e = refl
      go (malformed w ∷ fs) e = refl

  pub no_row_left : length text ≤ p → rows_next (frames_of (drop p text)) ≡ 0
  unfolding rows_next
  no_row_left h = ap rows_next (no_frames text p h)
