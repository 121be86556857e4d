use native.Mathlib.Omega.{arith}
use mathlib.Core.Path.{◌≡◌, ap, ◌∙◌}
use mathlib.Core.List.{List}
use Prim.Native.Nat.{ℕ, ◌+◌, ◌*◌, ◌-◌}
use lib.Seq.{sets}
use Rattle.writing.specs.Writer.{four_at, frame_line, lines_of, rows_from}
use Rattle.writing.proofs.Turns.{row_turn}
use Rattle.writing.proofs.lines.put_row_lines.Goals as goal

pub returns : goal.returns
unfolding lines_of rows_from
returns c =
    let l = c.loop-i in
    let e : c.args.c - l.i ≡ 0 = omega arith in
    rw e at l.invariant

-- a line of the words from a place of the table, put at a place of the text: however the two places are worked out
line_put : (new text : List ℕ) (p q r s : ℕ) (f : ℕ → List ℕ) → new ≡ sets text p (f r) → r ≡ s → p ≡ q → new ≡ sets text q (f s)
line_put _ text p q r s f e same_words same_place = e ∙ ap (λ (k : ℕ). sets text p (f k)) same_words ∙ ap (λ (k : ℕ). sets text k (f s)) same_place

pub loop-i-preserved : goal.loop-i-preserved
loop-i-preserved c =
    let l = c.loop-i in
    let g = c.args in
    let q = c.put_line in
    let e = line_put _ _ _ (g.at + 37 * l.i) _ _ (λ (k : ℕ). frame_line 0x01 g.a (four_at g.table.now k)) q.ensures c.row_place.ensures (omega arith) in
    row_turn g.table.now l.text q.new.text g.at g.a l.i g.c (omega arith) e ∙ l.invariant
