-- A table's words are told by the frames in them, whatever its windows. Assumes nothing.
use mathlib.Core.Path.{◌≡◌, refl, sym, ap, ◌∙◌}
use mathlib.Core.Bool.{Bool, true, false}
use mathlib.Core.Logic.{inl, inr}
use mathlib.Core.List.{List, [], ◌∷◌, ◌++◌}
use Prim.Native.Nat.{ℕ, zero, suc, ◌+◌, ◌≤◌, ◌<◌}
use native.Mathlib.Omega.{arith}
use lib.Dec.{ltb, eqb}
use lib.ListN.{length, get_or}
use lib.Seq.{ext_get_or}
use borrow.Author.Tests.{ltb-true, ltb-false, eqb-true, eqb-false}
use Rattle.tables.specs.Layout.{agents, rows, start_place, row_place, table_words}
use Rattle.tables.specs.Frames.{Frame, opens, gives, ends, malformed}
use Rattle.tables.proofs.WordPlaces.{Place, place_of}
use Rattle.tables.proofs.Good.{TableFacts, no_count, no_register, no_such_row}
use Rattle.reading.specs.Reader.{rows_next}
use Rattle.writing.specs.Writer.{four_at, rows_from, agents_from, frames_in}
use Rattle.writing.proofs.Counts.{agents_next, rows_counted, agents_counted}

-- the words of the first frame, and the frames after it
abbrev words_first : List Frame → List ℕ
words_first [] = []
words_first (opens a ws ∷ fs) = ws
words_first (gives a ws ∷ fs) = ws
words_first (ends ∷ fs) = []
words_first (malformed w ∷ fs) = []

abbrev past : List Frame → List Frame
past [] = []
past (f ∷ fs) = fs

-- the words from place p on, one by one
four_same : (tb other : List ℕ) (p : ℕ) → four_at tb p ≡ four_at other p → (w k : ℕ) → w < 4 → k ≡ p + w → get_or tb k 0 ≡ get_or other k 0
four_same tb other p e w k h q = go w h q
  where
    at : (j m : ℕ) → m ≡ p + j → get_or tb (p + j) 0 ≡ get_or other (p + j) 0 → get_or tb m 0 ≡ get_or other m 0
    at j m r s = ap (λ (x : ℕ). get_or tb x 0) r ∙ s ∙ ap (λ (x : ℕ). get_or other x 0) (sym r)

    go : (w : ℕ) → w < 4 → k ≡ p + w → get_or tb k 0 ≡ get_or other k 0
    go zero h q = let r : k ≡ p = omega arith in ap (λ (x : ℕ). get_or tb x 0) r ∙ ap (λ (l : List ℕ). get_or l 0 0) e ∙ ap (λ (x : ℕ). get_or other x 0) (sym r)
    go (suc zero) h q = at 1 k (omega arith) (ap (λ (l : List ℕ). get_or l 1 0) e)
    go (suc (suc zero)) h q = at 2 k (omega arith) (ap (λ (l : List ℕ). get_or l 2 0) e)
    go (suc (suc (suc zero))) h q = at 3 k (omega arith) (ap (λ (l : List ℕ). get_or l 3 0) e)
    go (suc (suc (suc (suc w)))) h q = absurd (omega arith)

module _ (tb other : List ℕ) where
  -- agent b is the same in both
  record Alike (b : ℕ) : Type 0 where
    registers : four_at tb (start_place b) ≡ four_at other (start_place b)
    count : rows tb b ≡ rows other b
    words : (j : ℕ) → j < rows tb b → four_at tb (row_place b j) ≡ four_at other (row_place b j)

  rows_alike : (c a i : ℕ) (r s : List Frame) → rows_from tb a i c ++ r ≡ rows_from other a i c ++ s
      → ((j : ℕ) → i ≤ j → j < i + c → four_at tb (row_place a j) ≡ four_at other (row_place a j)) × (r ≡ s)
  unfolding rows_from
  rows_alike zero a i r s e = (λ j h l. absurd (omega arith), e)
  rows_alike (suc c) a i r s e = let rec = rows_alike c a (suc i) r s (ap past e) in (λ j h l. go j h l (eqb j i) refl rec.0, rec.1)
    where
      go : (j : ℕ) → i ≤ j → j < i + suc c → (b : Bool) → eqb j i ≡ b → ((j : ℕ) → suc i ≤ j → j < suc i + c → four_at tb (row_place a j) ≡ four_at other (row_place a j))
          → four_at tb (row_place a j) ≡ four_at other (row_place a j)
      go j h l true q rec = let p = eqb-true j i q in ap (λ (x : ℕ). four_at tb (row_place a x)) p ∙ ap words_first e ∙ ap (λ (x : ℕ). four_at other (row_place a x)) (sym p)
      go j h l false q rec = rec j (omega (arith, eqb-false j i q)) (omega arith)

  agents_alike : (n a : ℕ) → agents_from tb a n ≡ agents_from other a n → (b : ℕ) → a ≤ b → b < a + n → Alike b
  unfolding agents_from
  agents_alike zero a e b h l = absurd (omega arith)
  agents_alike (suc n) a e b h l =
      let gs = agents_from tb (suc a) n in
      let hs = agents_from other (suc a) n in
      let c : rows tb a ≡ rows other a = sym (rows_counted tb (rows tb a) a 0 (suc a) n) ∙ ap (λ (fs : List Frame). rows_next (past fs)) e ∙ rows_counted other (rows other a) a 0 (suc a) n in
      let r = rows_alike (rows tb a) a 0 gs hs (ap past e ∙ ap (λ (k : ℕ). rows_from other a 0 k ++ hs) (sym c)) in
      go (eqb b a) refl c r.0 (λ m k. agents_alike n (suc a) r.1 b m k)
    where
      go : (t : Bool) → eqb b a ≡ t → rows tb a ≡ rows other a → ((j : ℕ) → 0 ≤ j → j < 0 + rows tb a → four_at tb (row_place a j) ≡ four_at other (row_place a j))
          → (suc a ≤ b → b < suc a + n → Alike b) → Alike b
      go true q c w rec = rw (eqb-true b a q) (record { registers = ap words_first e; count = c; words = λ j k. w j (omega arith) (omega arith) })
      go false q c w rec = rec (omega (arith, eqb-false b a q)) (omega arith)

-- ---- word by word

module _ (tb other : List ℕ) (long : length tb ≡ table_words) (long' : length other ≡ table_words)
    (facts : TableFacts tb) (facts' : TableFacts other) (e : frames_in tb ≡ frames_in other) where
  agents_same : agents tb ≡ agents other
  unfolding frames_in
  agents_same = sym (agents_counted tb (agents tb) 0) ∙ ap agents_next e ∙ agents_counted other (agents other) 0

  alike : (b : ℕ) → b < agents tb → Alike tb other b
  unfolding frames_in
  alike b h = agents_alike tb other (agents tb) 0 (e ∙ ap (agents_from other 0) (sym agents_same)) b (omega arith) (omega arith)

  count_same : (a : ℕ) → a < 16 → rows tb a ≡ rows other a
  count_same a h = go (ltb a (agents tb)) refl
    where
      go : (t : Bool) → ltb a (agents tb) ≡ t → rows tb a ≡ rows other a
      go true q = (alike a (ltb-true _ _ q)).count
      go false q = let n = ltb-false _ _ q in let s = agents_same in no_count tb facts a n h ∙ sym (no_count other facts' a (omega arith) h)

  register_same : (a w k : ℕ) → a < 16 → w < 4 → k ≡ start_place a + w → get_or tb k 0 ≡ get_or other k 0
  register_same a w k h l p = go (ltb a (agents tb)) refl
    where
      go : (t : Bool) → ltb a (agents tb) ≡ t → get_or tb k 0 ≡ get_or other k 0
      go true q = four_same tb other (start_place a) (alike a (ltb-true _ _ q)).registers w k l p
      go false q =
          let n = ltb-false _ _ q in
          let s = agents_same in
          rw p (no_register tb facts a w n h l ∙ sym (no_register other facts' a w (omega arith) h l))

  row_same : (a i w k : ℕ) → a < 16 → i < 32 → w < 4 → k ≡ row_place a i + w → get_or tb k 0 ≡ get_or other k 0
  row_same a i w k h m l p = go (ltb a (agents tb)) refl (ltb i (rows tb a)) refl
    where
      none : (a < agents tb → rows tb a ≤ i) → get_or tb k 0 ≡ get_or other k 0
      none f =
          let s = agents_same in
          let c = count_same a h in
          rw p (no_such_row tb facts a i w h m l f ∙ sym (no_such_row other facts' a i w h m l (λ x. let y = f (omega arith) in omega arith)))

      go : (t : Bool) → ltb a (agents tb) ≡ t → (u : Bool) → ltb i (rows tb a) ≡ u → get_or tb k 0 ≡ get_or other k 0
      go true q true r = four_same tb other (row_place a i) ((alike a (ltb-true _ _ q)).words i (ltb-true _ _ r)) w k l p
      go true q false r = none (λ x. ltb-false _ _ r)
      go false q u r = let n : agents tb ≤ a = ltb-false _ _ q in none (λ x. absurd (omega (arith, n, x)))

  word_same : (k : ℕ) → Place k → get_or tb k 0 ≡ get_or other k 0
  word_same k (inl e) = rw e agents_same
  word_same k (inr (inl p)) = rw p.is (count_same p.a p.agent)
  word_same k (inr (inr (inl p))) = register_same p.a p.w k p.agent p.register p.is
  word_same k (inr (inr (inr p))) = row_same p.a p.i p.w k p.agent p.row p.word p.is

  pub same_words : tb ≡ other
  same_words = ext_get_or 0 tb other (long ∙ sym long') (λ k h. word_same k (place_of k (omega arith)))
