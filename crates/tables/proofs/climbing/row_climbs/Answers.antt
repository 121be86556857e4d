-- `row_climbs` meets its contract: by the row at p+1+n, then, where it is no JUMP, the row at p+1. Assumes nothing.
use mathlib.Core.Path.{◌∙◌}
use borrow.Author.Tests.{eq-eqb}
use Rattle.tables.proofs.Tests.{answered}
use Rattle.tables.proofs.Onward.{one_way, far_back, jump_on, both_on}
use Rattle.tables.proofs.climbing.row_climbs.Goals as goal

pub returns-then-n-eq0 : goal.returns-then-n-eq0
returns-then-n-eq0 c = c.climbs_to.ensures ∙ one_way _ _ _ _ c.row_at-r.ensures c.if-n-eq0.true

pub returns-else-climbs_to : goal.returns-else-climbs_to
returns-else-climbs_to c =
    c.if-climbs_to.false
    ∙ far_back _ _ _ _ c.row_at-r.ensures c.requires.5 c.if-n-eq0.false (answered _ _ c.climbs_to-2.ensures c.if-climbs_to.false)

pub returns-else-r-eq-JUMP : goal.returns-else-r-eq-JUMP
returns-else-r-eq-JUMP c = c.climbs_to-else-r-eq-JUMP.ensures
    ∙ both_on _ _ _ _ c.row_at-r.ensures c.requires.5 c.if-n-eq0.false
    (answered _ _ c.climbs_to-2.ensures c.if-climbs_to.true) c.if-r-eq-JUMP.false

pub returns-then-r-eq-JUMP : goal.returns-then-r-eq-JUMP
returns-then-r-eq-JUMP c = eq-eqb _ _ c.if-r-eq-JUMP.true
    ∙ jump_on _ _ _ _ c.row_at-r.ensures c.requires.5 c.if-n-eq0.false
    (answered _ _ c.climbs_to-2.ensures c.if-climbs_to.true) c.if-r-eq-JUMP.true
