-- Replies 4 to 6 over a text whose lines are in their places, a line at a time. Assumes nothing.
use mathlib.Core.Path.{◌≡◌, refl, sym, ap, ◌∙◌}
use mathlib.Core.Bool.{false}
use mathlib.Core.List.{List, [], ◌∷◌}
use Prim.Native.Nat.{ℕ, zero, suc, ◌+◌, ◌≤◌, ◌<◌}
use native.Mathlib.Omega.{arith}
use lib.ListN.{length, drop}
use Rattle.tables.specs.Frames.{Frame, opens, gives, ends, malformed, frames_of}
use Rattle.tables.specs.Heads.{head_line, line_at, words_at}
use Rattle.tables.specs.Rows.{row_reply}
use Rattle.tables.specs.declared.Row.{Row}
use Rattle.tables.specs.Layout.{row_in}
use Rattle.reading.specs.Reader.{told, in_place, rows_next, rows_good}
use Rattle.tables.specs.declared.frames.Line.TheVariants.{Opens, Gives}
use Rattle.tables.proofs.Heads.{Framed, framed, full, no_frames}
use Rattle.reading.proofs.Places.{row_next}
use Rattle.reading.proofs.Accepted.{Placed, placed_first, after_open, after_give, rows_fit, rows_none}

-- before the line at place p: line n is next, in an agent of c rows of which i were taken
pub record Turn (text : List ℕ) (p n c i : ℕ) : Type 0 where
  pub within : p ≤ length text
  pub agent : ℕ
  pub placed : Placed n agent i (frames_of (drop p text))
  pub count : i + rows_next (frames_of (drop p text)) ≡ c
  pub told : rows_good 1 0 0 (frames_of text) ≡ rows_good n c i (frames_of (drop p text))

pub first_turn : (text : List ℕ) → (in_place 1 0 0 (frames_of text)).reply ≡ 0 → Turn text 0 1 0 0
first_turn text h =
    let q = placed_first (frames_of text) h in
    let z = rows_none (frames_of text) 1 0 q in
    record { within = omega arith; agent = 0; placed = q; count = omega arith; told = refl }

-- a line's reply, by the words that were read of it
pub line_replies : {words ws : List ℕ} {r : Row} {k : ℕ} (i c : ℕ) → words ≡ ws → r ≡ row_in words → k ≡ row_reply r i c → row_reply (row_in ws) i c ≡ k
line_replies i c w r k = (λ j. row_reply (row_in (sym w j)) i c) ∙ (λ j. row_reply (sym r j) i c) ∙ sym k

-- what one frame does
module _ (n c i b : ℕ) (ws : List ℕ) (fs : List Frame) where
  pub good_open : rows_good n c i (opens b ws ∷ fs) ≡ rows_good (n + 1) (rows_next fs) 0 fs
  unfolding rows_good
  good_open = refl

  pub good_row : row_reply (row_in ws) i c ≡ 0 → rows_good n c i (gives b ws ∷ fs) ≡ rows_good (n + 1) c (i + 1) fs
  unfolding rows_good
  good_row h = rw (h, rows_good)

  pub bad_row : (r : ℕ) → row_reply (row_in ws) i c ≡ r → (r ≡ 0 → ⊥) → rows_good n c i (gives b ws ∷ fs) ≡ told r n
  unfolding rows_good
  bad_row zero h k = absurd (k refl)
  bad_row (suc r) h k = rw (h, rows_good)

pub good_end : (n c i : ℕ) (fs : List Frame) → rows_good n c i (ends ∷ fs) ≡ told 0 0
unfolding rows_good
good_end n c i fs = refl

module _ {text : List ℕ} {p n c i : ℕ} (t : Turn text p n c i) where
  module _ {b : ℕ} (o : line_at text p ≡ Opens b) where
    pub opens_line : Framed text p (opens b (words_at text p))
    opens_line = framed text p t.within (Opens b) o refl

    pub open_room : p + 37 ≤ length text
    open_room = opens_line.room

    pub open_rows : rows_next (frames_of (drop (p + 37) text)) ≤ 32
    open_rows =
        let q = after_open text p t.within t.placed o in
        let r = rows_fit (frames_of (drop (p + 37) text)) (n + 1) (t.agent + 1) 0 q in
        omega arith

    pub open_turn : Turn text (p + 37) (n + 1) (rows_next (frames_of (drop (p + 37) text))) 0
    open_turn =
        record {
          within = open_room;
          agent = t.agent + 1;
          placed = after_open text p t.within t.placed o;
          count = omega arith;
          told =
              t.told ∙ ap (rows_good n c i) opens_line.frames
              ∙ good_open n c i b (words_at text p) (frames_of (drop (p + 37) text));
        }

  module _ {b : ℕ} (g : line_at text p ≡ Gives b) where
    pub gives_line : Framed text p (gives b (words_at text p))
    gives_line = framed text p t.within (Gives b) g refl

    pub row_below : (i < c) × (c ≤ 32)
    row_below =
        let r = row_next text p t.within b g in
        let k = t.count in
        let f = rows_fit (frames_of (drop p text)) n t.agent i t.placed in
        (omega arith, omega arith)

    pub row_turn : row_reply (row_in (words_at text p)) i c ≡ 0 → Turn text (p + 37) (n + 1) c (i + 1)
    row_turn h =
        let r = row_next text p t.within b g in
        let k = t.count in
        record {
          within = gives_line.room;
          agent = t.agent;
          placed = after_give text p t.within t.placed g;
          count = omega arith;
          told =
              t.told ∙ ap (rows_good n c i) gives_line.frames
              ∙ good_row n c i b (words_at text p) (frames_of (drop (p + 37) text)) h;
        }

    pub row_refused : (r : ℕ) → row_reply (row_in (words_at text p)) i c ≡ r → (r ≡ 0 → ⊥) → rows_good 1 0 0 (frames_of text) ≡ told r n
    row_refused r h k =
        t.told ∙ ap (rows_good n c i) gives_line.frames ∙ bad_row n c i b (words_at text p) (frames_of (drop (p + 37) text)) r h k

  pub no_line : full (line_at text p) ≡ false → rows_good 1 0 0 (frames_of text) ≡ told 0 0
  unfolding line_at head_line rows_good
  no_line f = t.told ∙ go (frames_of (drop p text)) f
    where
      go : (fs : List Frame) → full (head_line fs) ≡ false → rows_good n c i fs ≡ told 0 0
      go [] f = refl
      go (opens b ws ∷ fs) f = let z : ◌≡◌ {A = ℕ} 0 1 = cc in absurd (omega arith)
      go (gives b ws ∷ fs) f = let z : ◌≡◌ {A = ℕ} 0 1 = cc in absurd (omega arith)
      go (ends ∷ fs) f = refl
      go (malformed w ∷ fs) f = refl

  pub no_text : length text ≤ p → rows_good 1 0 0 (frames_of text) ≡ told 0 0
  unfolding rows_good
  no_text h = t.told ∙ ap (rows_good n c i) (no_frames text p h)
