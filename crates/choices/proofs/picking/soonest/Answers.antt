-- `soonest` meets its contract: the later of the clock and the row's early. The check finds this one too: written out, it has an edit refused with values. Assumes nothing.
use Rattle.std.proofs.Common.{arith}
use Rattle.choices.proofs.Pick.{early_is}
use Rattle.choices.proofs.picking.soonest.Goals as goal

pub returns : goal.returns
returns c =
    let g = c.args in
    let e = early_is g.table.now g.state.now g.a _ _ c.position.ensures c.row_at-r.ensures in
    omega arith
