-- The numbers that `read` replies with are small: a reply up to 19, a line up to 562, so that two bytes hold the line. Assumes nothing.
use mathlib.Core.Path.{◌≡◌, refl, sym, ap, subst}
use mathlib.Core.Bool.{Bool, true, false, not, cond}
use mathlib.Core.List.{List, [], ◌∷◌}
use Prim.Native.Nat.{ℕ, zero, suc, ◌+◌, ◌*◌, ◌≤◌}
use native.Mathlib.Decide.{ℕ_discrete}
use native.Mathlib.Omega.{arith}
use lib.Dec.{T, eqb, leb, ltb, leb→le}
use lib.ListN.{length}
use borrow.Author.Tests.{ltb-true, ltb-false}
use Rattle.tables.specs.Basics.{first, ◌⇒◌, Rule}
use Rattle.tables.specs.Rows.{row_reply}
use Rattle.tables.specs.Faults.{fault_reply}
use Rattle.tables.specs.Frames.{Frame, opens, gives, ends, malformed, frames_of}
use Rattle.tables.specs.Layout.{row_in}
use Rattle.reading.specs.Reader.{told, none_left, end_rules, told_by, in_place, rows_next, rows_good, rows_climb, first_told, agents_climb, table_climbs, frames_reply, table_of}
use Rattle.tables.specs.Layout.{agents, rows, table_words}
use Rattle.tables.specs.Table.{climbs}
use Rattle.reading.specs.Calls.{Read, ReadOutcome, read_into}
use Rattle.tables.specs.declared.Row.{Row}
use Rattle.reading.specs.declared.Told.{Told}
use Rattle.tables.proofs.Judging.{fault_small}
use Rattle.tables.proofs.Good.{TableFacts}
use Rattle.reading.proofs.Places.{may_open, may_give, open_room, give_room, place_open, place_open_not, place_give, place_give_not, place_end, place_end_not}
use Rattle.reading.proofs.Accepted.{Placed, placed_first, open_on, give_on}
use Rattle.reading.proofs.RowsRead.{good_row, bad_row}
use Rattle.reading.proofs.Outcomes.{told_then, told_first, short_table, read_told}
use Rattle.reading.proofs.Climbs.{row_on, row_back}
use Rattle.reading.proofs.ReadGood.{rows_facts}

pub record SmallTold (t : Told) : Type 0 where
  pub reply : t.reply ≤ 19
  pub line : t.line ≤ 562

small : (r n : ℕ) → r ≤ 19 → n ≤ 562 → SmallTold (told r n)
small r n h k = record { reply = h; line = k }

place_small : (fs : List Frame) (n a i : ℕ) → a ≤ 16 → i ≤ 32 → n ≤ 33 * a + i + 1 → SmallTold (in_place n a i fs)
unfolding in_place first
place_small [] n a i h k l = small 3 n (omega arith) (omega arith)
place_small (malformed w ∷ fs) n a i h k l = small (fault_reply w) n (fault_small w) (omega arith)
place_small (opens b ws ∷ fs) n a i h k l = go (may_open b a i) refl (λ m. place_small fs (n + 1) (a + 1) 0 (omega arith) (omega arith) (omega arith))
  where
    go : (t : Bool) → may_open b a i ≡ t → (a + 1 ≤ 16 → SmallTold (in_place (n + 1) (a + 1) 0 fs)) → SmallTold (in_place n a i (opens b ws ∷ fs))
    go true e rec = subst SmallTold (sym (place_open n a i b ws fs e)) (rec (omega (arith, open_room b a i e)))
    go false e rec = subst SmallTold (sym (place_open_not n a i b ws fs e)) (small 3 n (omega arith) (omega arith))
place_small (gives b ws ∷ fs) n a i h k l = go (may_give b a i) refl (λ m. place_small fs (n + 1) a (i + 1) h m (omega arith))
  where
    go : (t : Bool) → may_give b a i ≡ t → (i + 1 ≤ 32 → SmallTold (in_place (n + 1) a (i + 1) fs)) → SmallTold (in_place n a i (gives b ws ∷ fs))
    go true e rec = subst SmallTold (sym (place_give n a i b ws fs e)) (rec (omega (arith, give_room b a i e)))
    go false e rec = subst SmallTold (sym (place_give_not n a i b ws fs e)) (small 3 n (omega arith) (omega arith))
place_small (ends ∷ fs) n a i h k l = go (eqb (first (end_rules a i)) 0) refl
  where
    past : (o : Bool) → SmallTold (told_by ((not o ⇒ 3) ∷ []) (n + 1))
    past true = small 0 0 (omega arith) (omega arith)
    past false = small 3 (n + 1) (omega arith) (omega arith)

    go : (t : Bool) → eqb (first (end_rules a i)) 0 ≡ t → SmallTold (in_place n a i (ends ∷ fs))
    go true e = subst SmallTold (sym (place_end n a i fs e)) (past (none_left fs))
    go false e = subst SmallTold (sym (place_end_not n a i fs e)) (small 3 n (omega arith) (omega arith))

-- the numbers of some rules are at most 7
abbrev up_to7 : List Rule → Bool
up_to7 [] = true
up_to7 ((b ⇒ r) ∷ rs) = cond (leb r 7) (up_to7 rs) false

first_small : (rs : List Rule) → up_to7 rs ≡ true → first rs ≤ 7
unfolding first
first_small [] h = omega arith
first_small ((b ⇒ r) ∷ rs) h = go b (leb r 7) refl h (first_small rs)
  where
    go : (t s : Bool) → leb r 7 ≡ s → cond s (up_to7 rs) false ≡ true → (up_to7 rs ≡ true → first rs ≤ 7) → cond t r (first rs) ≤ 7
    go true true e k rec = leb→le r 7 (subst T (sym e) tt)
    go false true e k rec = rec k
    go t false e k rec = let z : ◌≡◌ {A = ℕ} 0 1 = cc in absurd (omega arith)

row_small : (r : Row) (i c : ℕ) → row_reply r i c ≤ 7
unfolding row_reply
row_small r i c = first_small _ refl

rows_small : (fs : List Frame) (n a c i : ℕ) → Placed n a i fs → SmallTold (rows_good n c i fs)
unfolding rows_good
rows_small [] n a c i q = small 0 0 (omega arith) (omega arith)
rows_small (malformed w ∷ fs) n a c i q = small 0 0 (omega arith) (omega arith)
rows_small (ends ∷ fs) n a c i q = small 0 0 (omega arith) (omega arith)
rows_small (opens b ws ∷ fs) n a c i q = rows_small fs (n + 1) (a + 1) (rows_next fs) 0 (open_on n a i b ws fs q)
rows_small (gives b ws ∷ fs) n a c i q =
    go (row_reply (row_in ws) i c) refl (rows_small fs (n + 1) a c (i + 1) (give_on n a i b ws fs q))
  where
    go : (r : ℕ) → row_reply (row_in ws) i c ≡ r → SmallTold (rows_good (n + 1) c (i + 1) fs)
        → SmallTold (rows_good n c i (gives b ws ∷ fs))
    go zero h rec = subst SmallTold (sym (good_row n c i b ws fs h)) rec
    go (suc r) h rec =
        let m = row_small (row_in ws) i c in
        let k = q.line in
        let a = q.agents in
        let j = q.rows in
        subst SmallTold (sym (bad_row n c i b ws fs (suc r) h (λ z. omega arith))) (small (suc r) n (omega arith) (omega arith))

-- the first of two
either_small : (t u : Told) → SmallTold t → (t.reply ≡ 0 → SmallTold u) → SmallTold (first_told t u)
either_small t u h k = go (ℕ_discrete t.reply 0)
  where
    go : Dec (t.reply ≡ 0) → SmallTold (first_told t u)
    go (yes e) = subst SmallTold (sym (told_then t u e)) (k e)
    go (no n) = subst SmallTold (sym (told_first t u n)) h

-- 7, of agents with 32 rows at most
module _ (tb : List ℕ) where
  rows_climb_small : (k n a i : ℕ) → n + k ≤ 562 → SmallTold (rows_climb tb n a i k)
  unfolding rows_climb
  rows_climb_small zero n a i h = small 0 0 (omega arith) (omega arith)
  rows_climb_small (suc k) n a i h = go (climbs tb a i) refl (rows_climb_small k (n + 1) a (i + 1) (omega arith))
    where
      go : (b : Bool) → climbs tb a i ≡ b → SmallTold (rows_climb tb (n + 1) a (i + 1) k) → SmallTold (rows_climb tb n a i (suc k))
      go true e rec = subst SmallTold (sym (row_on tb n a i k e)) rec
      go false e rec = subst SmallTold (sym (row_back tb n a i k e)) (small 7 n (omega arith) (omega arith))

  agents_climb_small : TableFacts tb → (m n a : ℕ) → a + m ≡ agents tb → n ≤ 33 * a + 1 → SmallTold (agents_climb tb n a m)
  unfolding agents_climb
  agents_climb_small f zero n a e h = small 0 0 (omega arith) (omega arith)
  agents_climb_small f (suc m) n a e h =
      let c = (f.each_agent a (omega arith)).rows_few in
      let l = f.few_agents in
      either_small _ _ (rows_climb_small (rows tb a) (n + 1) a 0 (omega arith))
      (λ z. agents_climb_small f m (n + (1 + rows tb a)) (a + 1) (omega arith) (omega arith))

frames_small : (text : List ℕ) → SmallTold (frames_reply (frames_of text))
unfolding frames_reply table_climbs
frames_small text =
    let fs = frames_of text in
    either_small _ _ (place_small fs 1 0 0 (omega arith) (omega arith) (omega arith))
    (λ p. either_small _ _ (rows_small fs 1 0 0 0 (placed_first fs p))
    (λ z. agents_climb_small (table_of fs) (rows_facts text p z) (agents (table_of fs)) 1 0 (omega arith) (omega arith)))

pub read_small : (text tb : List ℕ) (t : Told) (after : List ℕ) → Read text tb t after → SmallTold t
read_small text tb t after r = subst SmallTold (sym (ap (λ (o : ReadOutcome). o.told) r)) (go (ltb (length tb) table_words) refl)
  where
    go : (b : Bool) → ltb (length tb) table_words ≡ b → SmallTold (read_into text tb).told
    go true e = subst SmallTold (ap (λ (o : ReadOutcome). o.told) (short_table text tb (ltb-true _ _ e))) (small 1 0 (omega arith) (omega arith))
    go false e = subst SmallTold (sym (read_told text tb (ltb-false _ _ e))) (frames_small text)
