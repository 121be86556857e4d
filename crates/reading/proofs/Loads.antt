-- The words of a table from a text whose lines are in their places, a line at a time. Assumes nothing.
use mathlib.Core.Path.{◌≡◌, refl, sym, ap, ◌∙◌}
use mathlib.Core.Bool.{false}
use mathlib.Core.List.{List, [], ◌∷◌}
use Prim.Native.Nat.{ℕ, ◌+◌, ◌-◌, ◌≤◌, ◌<◌}
use native.Mathlib.Omega.{arith}
use Rattle.std.proofs.lemmas.List.{get_or-replicate}
use Rattle.std.proofs.lemmas.Grind.{same_number_lists}
use lib.ListN.{length, get_or, drop, set, replicate, length-set, length-replicate}
use lib.Seq.{sets, length-sets}
use Rattle.tables.specs.Layout.{table_words, agents_place, count_place, start_place, row_place}
use Rattle.tables.specs.Frames.{Frame, opens, gives, ends, malformed, frames_of}
use Rattle.tables.specs.Heads.{head_line, line_at, words_at}
use Rattle.reading.specs.Reader.{in_place, loaded, table_of}
use Rattle.tables.specs.declared.frames.Line.TheVariants.{Opens, Gives}
use Rattle.tables.proofs.Heads.{framed, full, no_frames}
use Rattle.reading.proofs.Accepted.{Placed, placed_first, after_open, after_give}

-- before the line at place p: the words are tb, after a agents of which the last has i rows
pub record Filling (text tb : List ℕ) (p a i : ℕ) : Type 0 where
  pub within : p ≤ length text
  pub line : ℕ
  pub placed : Placed line a i (frames_of (drop p text))
  pub words : length tb ≡ table_words
  pub told : loaded tb a i (frames_of (drop p text)) ≡ table_of (frames_of text)

pub first_words : (text tb : List ℕ) → (in_place 1 0 0 (frames_of text)).reply ≡ 0 → length tb ≡ table_words → ((k : ℕ) → k < table_words → get_or tb k 0 ≡ 0)
    → Filling text tb 0 0 0
unfolding table_of
first_words text tb h k z =
    let n = length-replicate {A = ℕ} table_words 0 in
    let e = same_number_lists tb (replicate table_words 0) (k ∙ sym n) (λ i l. z i (omega arith) ∙ sym (get_or-replicate table_words i 0 0 (omega arith))) in
    record {
      within = omega arith;
      line = 1;
      placed = placed_first (frames_of text) h;
      words = k;
      told = ap (λ (l : List ℕ). loaded l 0 0 (frames_of text)) e;
    }

module _ {text tb : List ℕ} {p a i : ℕ} (t : Filling text tb p a i) where
  pub open_words : {b : ℕ} → line_at text p ≡ Opens b → (after : List ℕ) → after ≡ sets (set tb agents_place (a + 1)) (start_place a) (words_at text p)
      → Filling text after (p + 37) (a + 1) 0
  unfolding loaded
  open_words {b} o after e =
      let l = framed text p t.within (Opens b) o refl in
      record {
        within = l.room;
        line = t.line + 1;
        placed = after_open text p t.within t.placed o;
        words = ap length e ∙ length-sets (set tb agents_place (a + 1)) (start_place a) (words_at text p) ∙ length-set tb agents_place (a + 1) ∙ t.words;
        told = ap (λ (w : List ℕ). loaded w (a + 1) 0 (frames_of (drop (p + 37) text))) e ∙ sym (ap (loaded tb a i) l.frames) ∙ t.told;
      }

  pub row_words : {b : ℕ} → line_at text p ≡ Gives b → (after : List ℕ) → after ≡ sets (set tb (count_place (a - 1)) (i + 1)) (row_place (a - 1) i) (words_at text p)
      → Filling text after (p + 37) a (i + 1)
  unfolding loaded
  row_words {b} g after e =
      let l = framed text p t.within (Gives b) g refl in
      record {
        within = l.room;
        line = t.line + 1;
        placed = after_give text p t.within t.placed g;
        words = ap length e ∙ length-sets (set tb (count_place (a - 1)) (i + 1)) (row_place (a - 1) i) (words_at text p) ∙ length-set tb (count_place (a - 1)) (i + 1) ∙ t.words;
        told = ap (λ (w : List ℕ). loaded w a (i + 1) (frames_of (drop (p + 37) text))) e ∙ sym (ap (loaded tb a i) l.frames) ∙ t.told;
      }

  pub all_words : full (line_at text p) ≡ false → tb ≡ table_of (frames_of text)
  unfolding line_at head_line loaded
  all_words f = go (frames_of (drop p text)) f ∙ t.told
    where
      go : (fs : List Frame) → full (head_line fs) ≡ false → tb ≡ loaded tb a i fs
      go [] f = refl
      go (opens b ws ∷ fs) f = let z : ◌≡◌ {A = ℕ} 0 1 = cc in absurd (omega arith)
      go (gives b ws ∷ fs) f = let z : ◌≡◌ {A = ℕ} 0 1 = cc in absurd (omega arith)
      go (ends ∷ fs) f = refl
      go (malformed w ∷ fs) f = refl

  pub no_words_left : length text ≤ p → tb ≡ table_of (frames_of text)
  unfolding loaded
  no_words_left h = sym (ap (loaded tb a i) (no_frames text p h)) ∙ t.told
