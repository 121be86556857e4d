-- `write` meets its contract. Assumes nothing.
use native.Mathlib.Omega.{arith}
use mathlib.Core.Path.{◌≡◌, sym, ap, ◌∙◌}
use Prim.Native.Nat.{ℕ, ◌≤◌}
use lib.ListN.{length, take}
use Rattle.std.proofs.lemmas.Result.{err_from_is_err_and}
use Rattle.tables.specs.Layout.{table_words}
use Rattle.tables.specs.Replies.{reply}
use Rattle.tables.specs.Calls.{check_reply}
use Rattle.tables.proofs.Refusals.{no_zero}
use Rattle.tables.proofs.Stored.{from_start}
use Rattle.writing.specs.Writer.{text_of}
use Rattle.writing.specs.Calls.{wrote, write_outcome}
use Rattle.writing.proofs.Outcomes.{checked_words, table_refused, too_long, all_written}
use Rattle.writing.proofs.writing.write.Goals as goal
use Rattle.writing.proofs.writing.write.Goals.{In_ok-check}

-- the table is accepted
accepted : (c : In_ok-check) → check_reply c.args.table.now ≡ 0
unfolding reply
accepted c = sym c.in_ok-check.ensures

pub returns-in_err-check : goal.returns-in_err-check
unfolding reply
returns-in_err-check c =
    let g = c.args in
    let p = err_from_is_err_and c.from_residual.result c.from_residual.ensures.1 in
    rw (p.1, p.2) (table_refused g.table.now g.text.now _ c.in_err-check.ensures (no_zero _))

pub returns-then-text-length : goal.returns-then-text-length
returns-then-text-length c =
    let g = c.args in
    let e = c.text_length-length.ensures.0 in
    ap (λ (n : ℕ). write_outcome (wrote 20 n) g.text.now) e
    ∙ sym (too_long g.table.now g.text.now (accepted (goal.at.returns-then-text-length c).In_ok-check) (omega (arith, c.if-text-length.true)))

pub returns : goal.returns
returns c =
    let g = c.args in
    let bs = text_of (take table_words g.table.now) in
    let e = c.text_length-length.ensures.0 in
    let room : length bs ≤ length g.text.now = omega (arith, c.if-text-length.false) in
    let p = c.put_text in
    ap (λ (n : ℕ). write_outcome (wrote 0 n) p.new.text) e
    ∙ ap (write_outcome (wrote 0 (length bs))) (p.ensures ∙ from_start g.text.now bs room)
    ∙ sym (all_written g.table.now g.text.now (accepted (goal.at.returns c).In_ok-check) room)

pub slice_bounds-words-end : goal.slice_bounds-words-end
slice_bounds-words-end c = sym (checked_words _ (accepted c)).0

pub text_length-length-requires : goal.text_length-length-requires
text_length-length-requires c = checked_words _ (accepted c)

pub put_text-requires : goal.put_text-requires
put_text-requires c =
    let w = checked_words _ (accepted (goal.at.put_text-requires c).In_ok-check) in
    let e = c.text_length-length.ensures.0 in
    (w.0, w.1, omega (arith, c.if-text-length.false))
