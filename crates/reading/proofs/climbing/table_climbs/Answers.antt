use Rattle.std.proofs.lemmas.Result.{err_from_is_err_and}
use Prim.Native.Nat.{◌≤◌, ◌<◌}
use native.Mathlib.Omega.{arith}
use mathlib.Core.Path.{refl}
use Rattle.tables.specs.Layout.{agents}
use Rattle.reading.proofs.Climbs.{first_agent, next_agent, agent_back, no_agent_lem}
use Rattle.tables.proofs.Refusals.{no_zero}
use Rattle.reading.proofs.climbing.table_climbs.Goals as goal
use Rattle.reading.proofs.climbing.table_climbs.Goals.{After-row_count-c, In-loop-a}

pub loop-a-init : goal.loop-a-init
loop-a-init c = (first_agent _ _, omega arith)

-- agent a is one of the table's
real : (c : In-loop-a) → c.loop-a.a < agents c.args.table.now
real c = let e = c.agent_count-m.ensures in let l = c.loop-a-test.true in omega arith

-- so it has 32 rows at most
few : (c : After-row_count-c) → c.row_count-c.result ≤ 32
few c =
    let m = c.agent_count-m.ensures in
    let t = c.loop-a-test.true in
    let e = c.row_count-c.ensures in
    let r : c.loop-a.a < agents c.args.table.now = omega arith in
    omega (arith, c.requires.3 _ r)

pub returns-in_err-rows_climb : goal.returns-in_err-rows_climb
returns-in_err-rows_climb c =
    let p = err_from_is_err_and c.from_residual.result c.from_residual.ensures.1 in
    rw (p.1, p.2) (agent_back _ _ _ _ _ c.loop-a.invariant.0 (real (goal.at.returns-in_err-rows_climb c).In-loop-a) c.row_count-c.ensures _ c.in_err-rows_climb.ensures (no_zero _))

pub loop-a-preserved : goal.loop-a-preserved
loop-a-preserved c =
    let i = c.loop-a.invariant in
    let r = few (goal.at.loop-a-preserved c).After-row_count-c in (
      next_agent _ _ _ _ _ i.0 (real (goal.at.loop-a-preserved c).In-loop-a) c.row_count-c.ensures _ c.in_ok-rows_climb.ensures refl,
      omega arith,
    )

pub returns : goal.returns
returns c =
    let e = c.agent_count-m.ensures in
    let l = c.loop-a-test.false in
    no_agent_lem _ _ _ _ c.loop-a.invariant.0 (omega arith)
