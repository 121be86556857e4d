use Rattle.tables.specs.Replies.{number_of}
use Rattle.tables.proofs.Tests.{answered}
use Rattle.reading.proofs.Climbs.{next_row, goes_back, no_row}
use Rattle.reading.proofs.climbing.rows_climb.Goals as goal

pub loop-i-preserved : goal.loop-i-preserved
loop-i-preserved c = next_row _ _ _ _ _ c.loop-i.invariant c.loop-i-test.true (answered _ _ c.row_climbs.ensures c.if-not-row_climbs.false)

pub returns-then-not-row_climbs : goal.returns-then-not-row_climbs
unfolding number_of
returns-then-not-row_climbs c =
    goes_back _ _ _ _ _ c.loop-i.invariant c.loop-i-test.true (answered _ _ c.row_climbs.ensures c.if-not-row_climbs.true)

pub returns : goal.returns
returns c = no_row _ _ _ _ _ c.loop-i.invariant c.loop-i-test.false
