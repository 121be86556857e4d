-- Lines written one after the other: what is left of a text, put from here on, makes the whole. Assumes nothing.
use mathlib.Core.Path.{◌≡◌, refl, sym, ap, ◌∙◌}
use mathlib.Core.List.{List, ◌++◌}
use Prim.Native.Nat.{ℕ, suc, ◌+◌, ◌*◌, ◌-◌, ◌≤◌, ◌<◌}
use native.Mathlib.Numerals.{add-one}
use native.Mathlib.Omega.{arith}
use lib.ListN.{length}
use lib.Seq.{sets}
use Rattle.tables.specs.Layout.{agents, rows, start_place, row_place}
use Rattle.tables.specs.Lines.{end_line}
use Rattle.tables.proofs.Stored.{run_then}
use Rattle.writing.specs.Writer.{four_at, frame_line, line_of, lines_of, rows_from, agents_from, frames_in, text_of}
use Rattle.writing.specs.Laws.{row_total, text_length}
use Rattle.writing.proofs.Lengths.{frame_length, rows_length, agent_lines, text_length_lem, rows_grow}

module _ (tb : List ℕ) where
  -- the line of row i, and then the rows that are left
  pub row_turn : (text after : List ℕ) (at a i c : ℕ) → i < c → after ≡ sets text (at + 37 * i) (frame_line 0x01 a (four_at tb (row_place a i)))
      → sets after (at + 37 * (i + 1)) (lines_of (rows_from tb a (i + 1) (c - (i + 1)))) ≡ sets text (at + 37 * i) (lines_of (rows_from tb a i (c - i)))
  unfolding lines_of rows_from line_of
  row_turn text after at a i c h e =
      let f = frame_line 0x01 a (four_at tb (row_place a i)) in
      let n = frame_length 0x01 a (four_at tb (row_place a i)) refl in
      let s : c - i ≡ suc (c - (i + 1)) = omega arith in
      let rest = lines_of (rows_from tb a (i + 1) (c - (i + 1))) in
      let p = at + 37 * (i + 1) in
      run_then f text after (sets after p rest) rest (at + 37 * i) p e (omega arith) refl
      ∙ rw (s, add-one i)

  -- the line of agent a and those of its rows, and then the agents that are left
  agent_turn : (text opened after : List ℕ) (p a n c : ℕ) → a < n → c ≡ rows tb a → opened ≡ sets text p (frame_line 0x00 a (four_at tb (start_place a)))
      → after ≡ sets opened (p + 37) (lines_of (rows_from tb a 0 c))
      → sets after (p + 37 * (1 + c)) (lines_of (agents_from tb (a + 1) (n - (a + 1)))) ≡ sets text p (lines_of (agents_from tb a (n - a)))
  agent_turn text opened after p a n c h k e g =
      let f = frame_line 0x00 a (four_at tb (start_place a)) in
      let l = frame_length 0x00 a (four_at tb (start_place a)) refl in
      let m = rows_length tb a 0 c in
      let s : n - a ≡ suc (n - (a + 1)) = omega arith in
      let rest = lines_of (agents_from tb (a + 1) (n - (a + 1))) in
      let lines = lines_of (rows_from tb a 0 c) in
      let r = sets after (p + 37 * (1 + c)) rest in
      run_then f text opened r (lines ++ rest) p (p + 37) e (omega arith)
      (run_then lines opened after r rest (p + 37) (p + 37 * (1 + c)) g (omega arith) refl)
      ∙ ap (λ (q : ℕ). sets text p (f ++ (lines_of (rows_from tb a 0 q) ++ rest))) k
      ∙ ap (sets text p) (ap (λ (q : ℕ). f ++ (lines_of (rows_from tb a 0 (rows tb a)) ++ lines_of (agents_from tb q (n - (a + 1))))) (add-one a) ∙ sym (agent_lines tb a (n - (a + 1))) ∙ ap (λ (q : ℕ). lines_of (agents_from tb a q)) (sym s))

-- ---- before agent a of n: at this place, what is left of the text makes the whole

pub record Left (tb text₀ text : List ℕ) (n at a : ℕ) : Type 0 where
  pub within : a ≤ n
  pub all : n ≡ agents tb
  pub place : at ≡ 37 * (a + row_total tb a)
  pub same : length text ≡ length text₀
  pub rest : sets text at (lines_of (agents_from tb a (n - a))) ≡ sets text₀ 0 (text_of tb)

pub all_left : (tb text : List ℕ) (n : ℕ) → n ≡ agents tb → Left tb text text n 0 0
unfolding text_of frames_in row_total
all_left tb text n e = record {
  within = omega arith;
  all = e;
  place = omega arith;
  same = refl;
  rest = let z : n - 0 ≡ n = omega arith in rw (z, e);
}

module _ {tb text₀ text : List ℕ} {n at a : ℕ} (t : Left tb text₀ text n at a) where
  module _ (room : length (text_of tb) ≤ length text₀) where
    -- there is room for an agent's lines, and for the end
    pub agent_room : a < n → at + 37 + 37 * rows tb a + 3 ≤ length text
    unfolding text_length row_total
    agent_room h =
        let e = text_length_lem tb in
        let g = rows_grow tb (suc a) n h in
        let q = ap (row_total tb) t.all in
        let p = t.place in
        let k = t.all in
        let s = t.same in
        omega arith

    pub end_room : n ≤ a → at + 3 ≤ length text
    unfolding text_length
    end_room h =
        let e = text_length_lem tb in
        let w = t.within in
        let same-agents : a ≡ agents tb = omega (arith, t.all) in
        let q = ap (row_total tb) same-agents in
        let p = t.place in
        let s = t.same in
        omega arith

  pub next_left : (opened after : List ℕ) (c : ℕ) → a < n → c ≡ rows tb a → opened ≡ sets text at (frame_line 0x00 a (four_at tb (start_place a)))
      → after ≡ sets opened (at + 37) (lines_of (rows_from tb a 0 c)) → length opened ≡ length text → length after ≡ length opened
      → Left tb text₀ after n (at + 37 * (1 + c)) (a + 1)
  unfolding row_total
  next_left opened after c h k e g l m = record {
    within = omega arith;
    all = t.all;
    place = let p = t.place in rw (add-one a) (omega arith);
    same = m ∙ l ∙ t.same;
    rest = agent_turn tb text opened after at a n c h k e g ∙ t.rest;
  }

  pub none_left_lem : n ≤ a → (after : List ℕ) → after ≡ sets text at end_line → after ≡ sets text₀ 0 (text_of tb)
  unfolding lines_of agents_from line_of
  none_left_lem h after e = let z : n - a ≡ 0 = omega arith in e ∙ rw z at t.rest
