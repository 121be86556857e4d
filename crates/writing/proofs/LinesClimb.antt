-- 7 over the lines of a table's frames, one by one, is 7 over its words. Assumes nothing.
use mathlib.Core.Path.{◌≡◌, refl, sym, ap, ◌∙◌}
use mathlib.Core.Bool.{Bool, true, false}
use mathlib.Core.List.{List, ◌++◌, ◌∷◌}
use Prim.Native.Nat.{ℕ, zero, suc, ◌+◌, ◌-◌}
use native.Mathlib.Numerals.{add-one}
use native.Mathlib.Omega.{arith}
use Rattle.tables.specs.Layout.{agents, rows, row_place}
use Rattle.tables.specs.Table.{climbs}
use Rattle.tables.specs.Frames.{Frame, gives}
use Rattle.reading.specs.Reader.{told, rows_climb, first_told, agents_climb, table_climbs}
use Rattle.reading.specs.declared.Told.{Told}
use Rattle.reading.proofs.Outcomes.{told_then, told_first}
use Rattle.reading.proofs.Climbs.{row_on, row_back}
use Rattle.writing.specs.Writer.{four_at, rows_from, agents_from, frames_in}
use Rattle.writing.specs.Laws.{lines_climb}

module _ (tb : List ℕ) where
  module _ (m b i : ℕ) (ws : List ℕ) (gs : List Frame) where
    line_by : (t : Bool) → climbs tb b i ≡ t
        → lines_climb tb m (b + 1) i (gives b ws ∷ gs) ≡ elim t as (λ _. Told) [ true ↦ lines_climb tb (m + 1) (b + 1) (i + 1) gs | false ↦ told 7 m ]
    unfolding lines_climb
    line_by t h =
        let e : b + 1 - 1 ≡ b = omega arith in
        ap {B = Told} (λ (u : Bool). elim u as (λ _. Told) [ true ↦ lines_climb tb (m + 1) (b + 1) (i + 1) gs | false ↦ told 7 m ])
        (ap (λ (a : ℕ). climbs tb a i) e ∙ h)

  rows_lines : (c m b i : ℕ) (gs : List Frame)
      → lines_climb tb m (b + 1) i (rows_from tb b i c ++ gs) ≡ first_told (rows_climb tb m b i c) (lines_climb tb (m + c) (b + 1) (i + c) gs)
  unfolding rows_from rows_climb
  rows_lines zero m b i gs =
      let e : m ≡ m + 0 = omega arith in
      let f : i ≡ i + 0 = omega arith in
      (λ k. lines_climb tb (e k) (b + 1) (f k) gs) ∙ sym (told_then (told 0 0) _ refl)
  rows_lines (suc c) m b i gs = go (climbs tb b i) refl (rows_lines c (m + 1) b (i + 1) gs)
    where
      ws : List ℕ
      ws = four_at tb (row_place b i)

      more : List Frame
      more = rows_from tb b (suc i) c ++ gs

      go : (t : Bool) → climbs tb b i ≡ t
          → lines_climb tb (m + 1) (b + 1) (i + 1) (rows_from tb b (i + 1) c ++ gs) ≡ first_told (rows_climb tb (m + 1) b (i + 1) c) (lines_climb tb (m + 1 + c) (b + 1) (i + 1 + c) gs)
          → lines_climb tb m (b + 1) i (gives b ws ∷ more) ≡ first_told (rows_climb tb m b i (suc c)) (lines_climb tb (m + suc c) (b + 1) (i + suc c) gs)
      go true h rec =
          let p : m + 1 + c ≡ m + suc c = omega arith in
          let q : i + 1 + c ≡ i + suc c = omega arith in
          line_by m b i ws more true h
          ∙ ap (λ (j : ℕ). lines_climb tb (m + 1) (b + 1) (i + 1) (rows_from tb b j c ++ gs)) (sym (add-one i))
          ∙ rec
          ∙ (λ k. first_told (sym (row_on tb m b i c h) k) (lines_climb tb (p k) (b + 1) (q k) gs))
      go false h rec =
          let rest = lines_climb tb (m + suc c) (b + 1) (i + suc c) gs in
          line_by m b i ws more false h ∙ sym (told_first (told 7 m) rest (λ z. omega arith)) ∙ ap (λ (t : Told). first_told t rest) (sym (row_back tb m b i c h))

  agents_lines : (n m a i : ℕ) → lines_climb tb m a i (agents_from tb a n) ≡ agents_climb tb m a n
  unfolding agents_from lines_climb agents_climb
  agents_lines zero m a i = refl
  agents_lines (suc n) m a i =
      let k = rows tb a in
      let e : m + 1 + k ≡ m + (1 + k) = omega arith in
      rows_lines k (m + 1) a 0 (agents_from tb (suc a) n)
      ∙ ap (first_told (rows_climb tb (m + 1) a 0 k))
      (ap (λ (b : ℕ). lines_climb tb (m + 1 + k) b (0 + k) (agents_from tb (suc a) n)) (add-one a)
      ∙ agents_lines n (m + 1 + k) (suc a) (0 + k)
      ∙ (λ j. agents_climb tb (e j) (sym (add-one a) j) n))

  pub frames_lines : (m : ℕ) → table_climbs tb m ≡ lines_climb tb m 0 0 (frames_in tb)
  unfolding frames_in table_climbs
  frames_lines m = sym (agents_lines (agents tb) m 0 0)
