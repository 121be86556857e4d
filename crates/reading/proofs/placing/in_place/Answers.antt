use mathlib.Core.Path.{sym, ◌∙◌}
use native.Mathlib.Omega.{arith}
use Rattle.reading.proofs.Places.{reached_open, reached_give, reached_end, misopened, misgiven, misended, ended_before, ended_well, broken, broken_some}
use Rattle.reading.proofs.Outcomes.{told_refused}
use Rattle.reading.proofs.placing.in_place.Goals as goal
use Rattle.reading.proofs.placing.in_place.Goals.{else-loop-p-test, then-loop-p-test+else-p-end-p-gt37, in-Opens, in-Gives, in_default-via-in-Opens+else-may_open, in_default-via-in-Gives+else-may_give, in_default-via-in-Ends+else-i-gt0}

pub returns-then-p-text : goal.returns-then-p-text
returns-then-p-text c =
    let l = c.loop-p in
    let g = c.args in
    let e = sym c.line_at.ensures ∙ c.in-Ends.is in
    c.out_of_place.ensures ∙ sym (l.invariant.told ∙ ended_before g.text.now l.p l.invariant.within l.n l.a l.i e (omega arith) (omega arith) c.if-p-text.true)

pub returns-in-Ends : goal.returns-in-Ends
returns-in-Ends c =
    let l = c.loop-p in
    let g = c.args in
    let e = sym c.line_at.ensures ∙ c.in-Ends.is in
    sym (l.invariant.told ∙ ended_well g.text.now l.p l.invariant.within l.n l.a l.i e (omega arith) (omega arith) c.if-p-text.false)

pub returns-in-Malformed : goal.returns-in-Malformed
returns-in-Malformed c =
    let l = c.loop-p in
    let g = c.args in
    let e = sym c.line_at.ensures ∙ c.in-Malformed.is in
    c.at_line.ensures ∙ told_refused l.n _ _ c.line_reply.ensures (broken_some g.text.now l.p l.invariant.within l.n l.a l.i e c.loop-p-test.true)
    ∙ sym (l.invariant.told ∙ broken g.text.now l.p l.invariant.within l.n l.a l.i e c.loop-p-test.true)

pub loop-p-preserved : goal.loop-p-preserved
loop-p-preserved c =
    let l = c.loop-p in
    elim c.match-line_at.branch [
      | in-Opens w ↦
          rw (w.a-is, w.i-is) (reached_open _ _ _ _ _ l.invariant _ (sym c.line_at.ensures ∙ w.in-Opens.is) (sym w.may_open.ensures ∙ w.if-may_open.true))
      | in-Gives w ↦
          rw (w.a-is, w.i-is) (reached_give _ _ _ _ _ l.invariant _ (sym c.line_at.ensures ∙ w.in-Gives.is) (sym w.may_give.ensures ∙ w.if-may_give.true))
    ]

-- the text stops without its end line
pub returns : goal.returns
returns c =
    let l = c.loop-p in
    c.out_of_place-2.ensures ∙ elim c.loop-p-test.branch [
      | else-loop-p-test w ↦ rw w.n-is (reached_end _ _ _ _ _ l.invariant w.loop-p-test.false)
      | then-loop-p-test+else-p-end-p-gt37 w ↦
          elim w.match-line_at.branch [
            | in-Opens w' ↦
                rw w.n-is (reached_end _ _ _ _ _ (reached_open _ _ _ _ _ l.invariant _ (sym w.line_at.ensures ∙ w'.in-Opens.is) (sym w'.may_open.ensures ∙ w'.if-may_open.true)) (omega arith))
            | in-Gives w' ↦
                rw w.n-is (reached_end _ _ _ _ _ (reached_give _ _ _ _ _ l.invariant _ (sym w.line_at.ensures ∙ w'.in-Gives.is) (sym w'.may_give.ensures ∙ w'.if-may_give.true)) (omega arith))
          ]
    ]

pub returns-in_default : goal.returns-in_default
returns-in_default c =
    let t = c.loop-p.invariant in
    c.out_of_place-in_default.ensures ∙ elim c.in_default.branch [
      | in_default-via-in-Opens+else-may_open w ↦ misopened _ _ _ _ _ t _ (sym c.line_at.ensures ∙ w.in-Opens.is) (sym w.may_open.ensures ∙ w.if-may_open.false)
      | in_default-via-in-Gives+else-may_give w ↦ misgiven _ _ _ _ _ t _ (sym c.line_at.ensures ∙ w.in-Gives.is) (sym w.may_give.ensures ∙ w.if-may_give.false)
      | in_default-via-in-Ends+else-i-gt0 w ↦ misended _ _ _ _ _ t (sym c.line_at.ensures ∙ w.in-Ends.is) w.if-i-gt0.false
    ]
