-- Two of the tests, by the windows: a wrong one is told with its facts. Assumes nothing.
use Rattle.std.proofs.Common.{ap, arith}
use Rattle.tables.specs.declared.Row.{Row}
use Rattle.choices.specs.State.{pool}
use Rattle.choices.proofs.Looking.{too_late, sent}
use Rattle.choices.proofs.messages.is_better.Goals as goal

pub returns-then-r-sender : goal.returns-then-r-sender
returns-then-r-sender c =
    let g = c.args in
    let e = ap (λ (x : Row). x.late) c.row_at-sender.ensures in
    too_late g.table.now (pool g.state.now) g.r g.b g.i g.least (omega arith)

pub returns-then-mark-eq1 : goal.returns-then-mark-eq1
returns-then-mark-eq1 c =
    let g = c.args in
    let e = c.row_at-sender.ensures in
    rw e (sent g.table.now (pool g.state.now) g.r g.b g.i g.least (rw e at c.if-sender-least.false) (rw e at c.if-r-sender.false) (rw c.mark.ensures at c.if-mark-eq1.true))
