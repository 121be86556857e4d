-- Frames that are in their places: the bounds that hold at each of them. Assumes nothing.
use mathlib.Core.Path.{◌≡◌, refl, sym, ap, subst, ◌∙◌}
use mathlib.Core.Bool.{Bool, true, false}
use mathlib.Core.List.{List, [], ◌∷◌, map}
use Prim.Native.Nat.{ℕ, ◌+◌, ◌*◌, ◌≤◌, ◌<◌}
use native.Mathlib.Omega.{arith}
use lib.Dec.{eqb}
use lib.ListN.{length, drop}
use Rattle.tables.specs.Basics.{first}
use Rattle.tables.specs.Frames.{Frame, opens, gives, ends, malformed, frame_of, frames_of}
use Rattle.tables.specs.Heads.{line_at, words_at}
use Rattle.reading.specs.Reader.{end_rules, in_place, rows_next}
use Rattle.reading.specs.declared.Told.{Told}
use Rattle.tables.specs.declared.frames.Line.TheVariants.{Opens, Gives}
use Rattle.tables.specs.declared.faults.Fault.{Fault}
use Rattle.tables.proofs.Judging.{fault_some}
use Rattle.tables.proofs.Heads.{Framed, framed}
use Rattle.reading.proofs.Places.{may_open, may_give, open_number, open_room, open_after_rows, give_open, give_room, place_open, place_open_not, place_give, place_give_not, place_end, place_end_not, end_rows}

-- frames that are in their places from line n on, after a agents of which the last has i rows
pub record Placed (n a i : ℕ) (fs : List Frame) : Type 0 where
  pub agents : a ≤ 16
  pub rows : i ≤ 32
  pub line : n ≤ 33 * a + i + 1
  pub placed : (in_place n a i fs).reply ≡ 0

pub placed_first : (fs : List Frame) → (in_place 1 0 0 fs).reply ≡ 0 → Placed 1 0 0 fs
placed_first fs h = record { agents = omega arith; rows = omega arith; line = omega arith; placed = h }

module _ (n a i b : ℕ) (ws : List ℕ) (fs : List Frame) where
  open_may : Placed n a i (opens b ws ∷ fs) → may_open b a i ≡ true
  open_may q = go (may_open b a i) refl
    where
      go : (t : Bool) → may_open b a i ≡ t → t ≡ true
      go true e = refl
      go false e = let z = ap (λ (t : Told). t.reply) (sym (place_open_not n a i b ws fs e)) ∙ q.placed in absurd (omega arith)

  give_may : Placed n a i (gives b ws ∷ fs) → may_give b a i ≡ true
  give_may q = go (may_give b a i) refl
    where
      go : (t : Bool) → may_give b a i ≡ t → t ≡ true
      go true e = refl
      go false e = let z = ap (λ (t : Told). t.reply) (sym (place_give_not n a i b ws fs e)) ∙ q.placed in absurd (omega arith)

  -- a further agent: there is room for it
  pub open_agent : Placed n a i (opens b ws ∷ fs) → a < 16
  open_agent q = open_room b a i (open_may q)

  -- it has the next number
  pub open_next : Placed n a i (opens b ws ∷ fs) → b ≡ a
  open_next q = open_number b a i (open_may q)

  pub open_on : Placed n a i (opens b ws ∷ fs) → Placed (n + 1) (a + 1) 0 fs
  open_on q =
      let r = open_agent q in
      let l = q.line in
      let m = q.rows in
      record {
        agents = omega arith;
        rows = omega arith;
        line = omega arith;
        placed = ap (λ (t : Told). t.reply) (sym (place_open n a i b ws fs (open_may q))) ∙ q.placed;
      }

  -- the agent before has rows
  pub open_rows : Placed n a i (opens b ws ∷ fs) → 0 < a → 0 < i
  open_rows q = open_after_rows b a i (open_may q)

  -- a further row of the open agent: there is room for it
  pub give_row : Placed n a i (gives b ws ∷ fs) → i < 32
  give_row q = give_room b a i (give_may q)

  pub give_agent : Placed n a i (gives b ws ∷ fs) → b + 1 ≡ a
  give_agent q = give_open b a i (give_may q)

  pub give_on : Placed n a i (gives b ws ∷ fs) → Placed (n + 1) a (i + 1) fs
  give_on q =
      let r = give_row q in
      let l = q.line in
      let m = q.agents in
      record {
        agents = omega arith;
        rows = omega arith;
        line = omega arith;
        placed = ap (λ (t : Told). t.reply) (sym (place_give n a i b ws fs (give_may q))) ∙ q.placed;
      }

-- a text does not stop before its end line, and no line of it has a fault
pub none_placed : (n a i : ℕ) → Placed n a i [] → ⊥
unfolding in_place first
none_placed n a i q = let z = q.placed in omega arith

pub fault_placed : (n a i : ℕ) (w : Fault) (fs : List Frame) → Placed n a i (malformed w ∷ fs) → ⊥
unfolding in_place
fault_placed n a i w fs q = fault_some w q.placed

-- the last agent has rows
pub ends_rows : (n a i : ℕ) (fs : List Frame) → Placed n a i (ends ∷ fs) → 0 < i
ends_rows n a i fs q = go (eqb (first (end_rules a i)) 0) refl
  where
    go : (t : Bool) → eqb (first (end_rules a i)) 0 ≡ t → 0 < i
    go true e = end_rows n a i fs e
    go false e = let z = ap (λ (t : Told). t.reply) (sym (place_end_not n a i fs e)) ∙ q.placed in absurd (omega arith)

-- nothing follows the end line
pub ends_last : (n a i : ℕ) (fs : List Frame) → Placed n a i (ends ∷ fs) → fs ≡ []
unfolding first
ends_last n a i [] q = refl
ends_last n a i (f ∷ fs) q = go (eqb (first (end_rules a i)) 0) refl
  where
    go : (t : Bool) → eqb (first (end_rules a i)) 0 ≡ t → f ∷ fs ≡ []
    go true e = let z = ap (λ (t : Told). t.reply) (sym (place_end n a i (f ∷ fs) e)) ∙ q.placed in absurd (omega arith)
    go false e = let z = ap (λ (t : Told). t.reply) (sym (place_end_not n a i (f ∷ fs) e)) ∙ q.placed in absurd (omega arith)

-- .. so the end line is the last line
pub last_line_lem : (n a i : ℕ) (ls : List (List ℕ)) → Placed n a i (ends ∷ map frame_of ls) → ls ≡ []
last_line_lem n a i [] q = refl
last_line_lem n a i (l ∷ ls) q = absurd (let z = ap length (ends_last n a i (map frame_of (l ∷ ls)) q) in omega arith)

-- an agent has at most 32 rows
pub rows_fit : (fs : List Frame) (n a i : ℕ) → Placed n a i fs → i + rows_next fs ≤ 32
unfolding rows_next
rows_fit [] n a i q = let m = q.rows in omega arith
rows_fit (opens b ws ∷ fs) n a i q = let m = q.rows in omega arith
rows_fit (gives b ws ∷ fs) n a i q = let m = rows_fit fs (n + 1) a (i + 1) (give_on n a i b ws fs q) in omega arith
rows_fit (ends ∷ fs) n a i q = let m = q.rows in omega arith
rows_fit (malformed w ∷ fs) n a i q = let m = q.rows in omega arith

-- no row comes before the first agent
pub rows_none : (fs : List Frame) (n i : ℕ) → Placed n 0 i fs → rows_next fs ≡ 0
unfolding rows_next
rows_none [] n i q = refl
rows_none (opens b ws ∷ fs) n i q = refl
rows_none (gives b ws ∷ fs) n i q = let e = give_agent n 0 i b ws fs q in absurd (omega arith)
rows_none (ends ∷ fs) n i q = refl
rows_none (malformed w ∷ fs) n i q = refl

-- ---- the same at place p of a text

module _ (text : List ℕ) (p : ℕ) {n a i : ℕ} (within : p ≤ length text) (q : Placed n a i (frames_of (drop p text))) where
  with_head : (f : Frame) → Framed text p f → Placed n a i (f ∷ frames_of (drop (p + 37) text))
  with_head f l = subst (λ (fs : List Frame). Placed n a i fs) l.frames q

  module _ {b : ℕ} (o : line_at text p ≡ Opens b) where
    opened : Placed n a i (opens b (words_at text p) ∷ frames_of (drop (p + 37) text))
    opened = with_head (opens b (words_at text p)) (framed text p within (Opens b) o refl)

    pub agent_below : a < 16
    agent_below = open_agent n a i b (words_at text p) (frames_of (drop (p + 37) text)) opened

    pub after_open : Placed (n + 1) (a + 1) 0 (frames_of (drop (p + 37) text))
    after_open = open_on n a i b (words_at text p) (frames_of (drop (p + 37) text)) opened

  module _ {b : ℕ} (g : line_at text p ≡ Gives b) where
    given : Placed n a i (gives b (words_at text p) ∷ frames_of (drop (p + 37) text))
    given = with_head (gives b (words_at text p)) (framed text p within (Gives b) g refl)

    pub row_below : i < 32
    row_below = give_row n a i b (words_at text p) (frames_of (drop (p + 37) text)) given

    pub agent_open : 1 ≤ a
    agent_open = let e = give_agent n a i b (words_at text p) (frames_of (drop (p + 37) text)) given in omega arith

    pub after_give : Placed (n + 1) a (i + 1) (frames_of (drop (p + 37) text))
    after_give = give_on n a i b (words_at text p) (frames_of (drop (p + 37) text)) given
