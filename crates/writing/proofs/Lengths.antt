-- How long a table's text is: 37 bytes for each agent and each row, and 3 for the end. Assumes nothing.
use mathlib.Core.Path.{◌≡◌, refl, sym, ap, ◌∙◌}
use mathlib.Core.Bool.{Bool, true, false}
use mathlib.Core.List.{List, [], ◌∷◌, ◌++◌, append_assoc}
use Prim.Native.Nat.{ℕ, zero, suc, ◌+◌, ◌*◌, ◌-◌, ◌^◌, ◌≤◌, ◌<◌}
use native.Mathlib.Omega.{arith}
use lib.Dec.{eqb}
use lib.ListN.{length, take, drop, get_or, length-append, length-drop}
use lib.Seq.{take-suc}
use Rattle.std.specs.Prelude.{sum}
use Rattle.std.proofs.lemmas.List.{get_or-drop}
use Rattle.std.proofs.lemmas.List.Sums.{sum_by-append}
use borrow.Author.Tests.{eqb-true, eqb-false}
use Rattle.tables.specs.Layout.{table_words, agents, rows, start_place, row_place}
use Rattle.tables.specs.Table.{good_table}
use Rattle.tables.specs.Frames.{Frame}
use Rattle.tables.proofs.Good.{some, few, some_rows, few_rows}
use Rattle.digits.proofs.Writes.{hex_digits_length, hex_words_length}
use Rattle.writing.specs.Writer.{four_at, frame_line, line_of, lines_of, rows_from, agents_from, frames_in, text_of}
use Rattle.writing.specs.Laws.{row_total, text_length}

pub frame_length : (kind a : ℕ) (ws : List ℕ) → length ws ≡ 4 → length (frame_line kind a ws) ≡ 37
unfolding frame_line
frame_length kind a ws four = simp (length-append, hex_digits_length, hex_words_length, four)

lines_append : (fs gs : List Frame) → lines_of (fs ++ gs) ≡ lines_of fs ++ lines_of gs
unfolding lines_of
lines_append [] gs = refl
lines_append (f ∷ fs) gs = ap (λ (l : List ℕ). line_of f ++ l) (lines_append fs gs) ∙ sym (append_assoc (line_of f) (lines_of fs) (lines_of gs))

module _ (tb : List ℕ) where
  pub rows_length : (a i c : ℕ) → length (lines_of (rows_from tb a i c)) ≡ 37 * c
  unfolding lines_of rows_from line_of
  rows_length a i zero = refl
  rows_length a i (suc c) =
      let n = frame_length 0x01 a (four_at tb (row_place a i)) refl in
      let m = rows_length a (suc i) c in
      length-append (frame_line 0x01 a (four_at tb (row_place a i))) _ ∙ omega arith

  -- an agent, its rows, and what follows them
  pub agent_lines : (a n : ℕ) → lines_of (agents_from tb a (suc n)) ≡ frame_line 0x00 a (four_at tb (start_place a)) ++ (lines_of (rows_from tb a 0 (rows tb a)) ++ lines_of (agents_from tb (suc a) n))
  unfolding lines_of agents_from line_of
  agent_lines a n = ap (λ (l : List ℕ). frame_line 0x00 a (four_at tb (start_place a)) ++ l) (lines_append (rows_from tb a 0 (rows tb a)) (agents_from tb (suc a) n))

  -- the lines of n agents from agent a on, with the rows of those before
  agents_length : (n a : ℕ) → length (lines_of (agents_from tb a n)) + 37 * row_total tb a ≡ 37 * (n + row_total tb (a + n)) + 3
  unfolding lines_of agents_from line_of row_total
  agents_length zero a = let e : a + 0 ≡ a = omega arith in rw e (omega arith)
  agents_length (suc n) a =
      let f = frame_line 0x00 a (four_at tb (start_place a)) in
      let g = lines_of (rows_from tb a 0 (rows tb a)) in
      let h = lines_of (agents_from tb (suc a) n) in
      let l = ap length (agent_lines a n) ∙ length-append f (g ++ h) ∙ ap (λ (k : ℕ). length f + k) (length-append g h) in
      let m = frame_length 0x00 a (four_at tb (start_place a)) refl in
      let k = rows_length a 0 (rows tb a) in
      let rec = agents_length n (suc a) in
      let e : suc a + n ≡ a + suc n = omega arith in
      let s = ap (row_total tb) e in
      omega arith

  pub text_length_lem : length (text_of tb) ≡ text_length tb
  unfolding text_of frames_in text_length row_total
  text_length_lem =
      let e = agents_length (agents tb) 0 in
      let z : 0 + agents tb ≡ agents tb = omega arith in
      let s = ap (row_total tb) z in
      omega arith

  pub rows_grow : (a n : ℕ) → a ≤ n → row_total tb a ≤ row_total tb n
  unfolding row_total
  rows_grow a zero h = let e : a ≡ 0 = omega arith in let q = ap (row_total tb) e in omega arith
  rows_grow a (suc n) h = go (λ k. rows_grow a n k) (eqb a (suc n)) refl
    where
      go : (a ≤ n → row_total tb a ≤ row_total tb n) → (b : Bool) → eqb a (suc n) ≡ b → row_total tb a ≤ row_total tb n + rows tb n
      go rec true e = let q = ap (row_total tb) (eqb-true a (suc n) e) in omega arith
      go rec false e = let r = rec (omega (arith, eqb-false a (suc n) e)) in omega arith

  module _ (good : good_table tb ≡ true) where
    -- each agent has 1 to 32 rows
    rows_within : (n : ℕ) → n ≤ agents tb → (n ≤ row_total tb n) × (row_total tb n ≤ 32 * n)
    unfolding row_total
    rows_within zero h = (omega arith, omega arith)
    rows_within (suc n) h =
        let r = rows_within n (omega arith) in
        let s = some_rows tb good n h in
        let f = few_rows tb good n h in
        let l = r.0 in
        let u = r.1 in
        (omega arith, omega arith)

    pub length_within : (77 ≤ text_length tb) × (text_length tb ≤ 19539)
    unfolding text_length
    length_within =
        let r = rows_within (agents tb) (omega arith) in
        let l = r.0 in
        let u = r.1 in
        let s = some tb good in
        let f = few tb good in
        (omega arith, omega arith)

-- ---- the row counts of a table, as they stand in it

pub counts_sum : (tb : List ℕ) (n : ℕ) → n < length tb → sum (take n (drop 1 tb)) ≡ row_total tb n
unfolding row_total
counts_sum tb zero h = refl
counts_sum tb (suc n) h =
    let r = counts_sum tb n (omega arith) in
    let m : n < length (drop 1 tb) = simp length-drop (omega arith) in
    let e : get_or (drop 1 tb) n 0 ≡ rows tb n = get_or-drop 1 tb n 0 in
    let s = ap sum (take-suc (drop 1 tb) n 0 m) ∙ sum_by-append (λ (x : ℕ). x) (take n (drop 1 tb)) (get_or (drop 1 tb) n 0 ∷ []) in
    omega arith

-- of a good table
module _ (tb : List ℕ) (good : good_table tb ≡ true) where
  -- its row counts are those from place i to before place j
  pub counted : length tb ≡ table_words → (i j : ℕ) → i ≡ 1 → j ≡ 1 + agents tb → sum (take (j - i) (drop i tb)) ≡ row_total tb (agents tb)
  counted l i j e f =
      let w = few tb good in
      let m : j - i ≡ agents tb = omega arith in
      rw (m, e) (counts_sum tb (agents tb) (omega arith))

  pub few_counted : length tb ≡ table_words → (i j : ℕ) → i ≡ 1 → j ≡ 1 + agents tb → sum (take (j - i) (drop i tb)) < 2 ^ 32
  few_counted l i j e f =
      let w = few tb good in
      let r = (rows_within tb good (agents tb) (omega arith)).1 in
      rw (counted l i j e f) (omega arith)

  pub measured : (n c : ℕ) → n ≡ agents tb → c ≡ row_total tb (agents tb) → (37 * (n + c) + 3 ≡ length (text_of tb)) × (37 * (n + c) + 3 ≤ 19539)
  unfolding text_length
  measured n c e f =
      let l = text_length_lem tb in
      let w = (length_within tb good).1 in
      (omega arith, omega arith)
