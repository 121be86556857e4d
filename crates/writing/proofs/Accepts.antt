-- The frames in the words of a good table are in their places, and each row passes. Assumes nothing.
use mathlib.Core.Path.{◌≡◌, ap, ◌∙◌}
use mathlib.Core.Bool.{true}
use mathlib.Core.List.{List, [], ◌++◌}
use Prim.Native.Nat.{ℕ, zero, suc, ◌+◌, ◌≤◌, ◌<◌}
use native.Mathlib.Numerals.{add-one}
use native.Mathlib.Omega.{arith}
use Rattle.tables.specs.Basics.{first}
use Rattle.tables.specs.Layout.{agents, rows, start_place, row_place}
use Rattle.tables.specs.Table.{row_reply_at, good_table}
use Rattle.tables.specs.Frames.{Frame}
use Rattle.tables.proofs.Good.{some, few, some_rows, few_rows, row_passes_lem}
use Rattle.reading.specs.Reader.{told, in_place, rows_good}
use Rattle.reading.proofs.Places.{may_open_lem, may_give_lem, place_open, place_give, place_end, may_end}
use Rattle.reading.proofs.RowsRead.{good_open, good_row, good_end}
use Rattle.writing.specs.Writer.{four_at, rows_from, agents_from, frames_in}
use Rattle.writing.proofs.Counts.{rows_counted}

-- ---- in their places

module _ (tb : List ℕ) where
  rows_placed : (c n b i : ℕ) (gs : List Frame) → i + c ≤ 32 → in_place n (b + 1) i (rows_from tb b i c ++ gs) ≡ in_place (n + c) (b + 1) (i + c) gs
  unfolding rows_from
  rows_placed zero n b i gs h = let e : n + 0 ≡ n = omega arith in let f : i + 0 ≡ i = omega arith in rw (e, f)
  rows_placed (suc c) n b i gs h =
      let e : n + 1 + c ≡ n + suc c = omega arith in
      let f : suc i + c ≡ i + suc c = omega arith in
      place_give n (b + 1) i b (four_at tb (row_place b i)) (rows_from tb b (suc i) c ++ gs) (may_give_lem b i (omega arith))
      ∙ ap (λ (j : ℕ). in_place (n + 1) (b + 1) j (rows_from tb b (suc i) c ++ gs)) (add-one i)
      ∙ rows_placed c (n + 1) b (suc i) gs (omega arith)
      ∙ (λ k. in_place (e k) (b + 1) (f k) gs)

  module _ (good : good_table tb ≡ true) where
    agents_placed : (n m a i : ℕ) → a + n ≡ agents tb → (0 < a → 0 < i) → in_place m a i (agents_from tb a n) ≡ told 0 0
    unfolding agents_from first
    agents_placed zero m a i all before =
        let s = some tb good in
        place_end m a i [] (may_end m a i [] (omega arith) (before (omega arith)))
    agents_placed (suc n) m a i all before =
        let h : a < agents tb = omega arith in
        let s = some_rows tb good a h in
        let l = few_rows tb good a h in
        let f = few tb good in
        place_open m a i a (four_at tb (start_place a)) (rows_from tb a 0 (rows tb a) ++ agents_from tb (suc a) n) (may_open_lem a i (omega arith) before)
        ∙ rows_placed (rows tb a) (m + 1) a 0 (agents_from tb (suc a) n) (omega arith)
        ∙ ap (λ (b : ℕ). in_place (m + 1 + rows tb a) b (0 + rows tb a) (agents_from tb (suc a) n)) (add-one a)
        ∙ agents_placed n (m + 1 + rows tb a) (suc a) (0 + rows tb a) (omega arith) (λ z. omega arith)

    -- ---- each row passes

    rows_pass : (c m a i : ℕ) (gs : List Frame) → a < agents tb → i + c ≡ rows tb a
        → rows_good m (rows tb a) i (rows_from tb a i c ++ gs) ≡ rows_good (m + c) (rows tb a) (i + c) gs
    unfolding rows_from row_reply_at
    rows_pass zero m a i gs h e = let p : m + 0 ≡ m = omega arith in let q : i + 0 ≡ i = omega arith in rw (p, q)
    rows_pass (suc c) m a i gs h e =
        let p : m + 1 + c ≡ m + suc c = omega arith in
        let q : suc i + c ≡ i + suc c = omega arith in
        good_row m (rows tb a) i a (four_at tb (row_place a i)) (rows_from tb a (suc i) c ++ gs) (row_passes_lem tb good a h i (omega arith))
        ∙ ap (λ (j : ℕ). rows_good (m + 1) (rows tb a) j (rows_from tb a (suc i) c ++ gs)) (add-one i)
        ∙ rows_pass c (m + 1) a (suc i) gs h (omega arith)
        ∙ (λ k. rows_good (p k) (rows tb a) (q k) gs)

    agents_pass : (n m a c i : ℕ) → a + n ≡ agents tb → rows_good m c i (agents_from tb a n) ≡ told 0 0
    unfolding agents_from
    agents_pass zero m a c i all = good_end m c i []
    agents_pass (suc n) m a c i all =
        let gs = agents_from tb (suc a) n in
        let k = rows tb a in
        good_open m c i a (four_at tb (start_place a)) (rows_from tb a 0 k ++ gs)
        ∙ ap (λ (j : ℕ). rows_good (m + 1) j 0 (rows_from tb a 0 k ++ gs)) (rows_counted tb k a 0 (suc a) n)
        ∙ rows_pass k (m + 1) a 0 gs (omega arith) (omega arith)
        ∙ agents_pass n (m + 1 + k) (suc a) k (0 + k) (omega arith)

    -- ---- so the reader accepts them

    pub frames_placed : in_place 1 0 0 (frames_in tb) ≡ told 0 0
    unfolding frames_in
    frames_placed = agents_placed (agents tb) 1 0 0 (omega arith) (λ z. absurd (omega arith))

    pub frames_pass : rows_good 1 0 0 (frames_in tb) ≡ told 0 0
    unfolding frames_in
    frames_pass = agents_pass (agents tb) 1 0 0 0 (omega arith)
