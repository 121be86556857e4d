-- `row_is_good` meets its contract: the windows are compared of a row that has passed 4 to 6. Assumes nothing.
use mathlib.Core.Path.{sym, ◌∙◌}
use borrow.Author.Tests.{eqb-true}
use Rattle.tables.proofs.Refusals.{ok_is_0}
use Rattle.tables.proofs.checking.row_is_good.Goals as goal

pub row_climbs-requires : goal.row_climbs-requires
row_climbs-requires c =
    let p = c.requires in
    (p.0, p.1, p.2, p.3, p.4, sym c.row_reply_at.ensures ∙ eqb-true _ 0 (ok_is_0 _ ∙ sym c.is_ok.ensures.value ∙ c.if-is_ok.true))
