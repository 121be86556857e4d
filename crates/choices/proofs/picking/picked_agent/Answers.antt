use Rattle.std.proofs.Common.{◌≡◌, ℕ, refl, subst, arith}
use Rattle.choices.proofs.Pick.{FirstLeast, least_new, least_kept, all_have_ended, one_picked}
use Rattle.choices.proofs.picking.picked_agent.Goals as goal
use Rattle.choices.proofs.picking.picked_agent.Goals.{After-loop-a, then-late-least, else-late-least}

pub loop-a-preserved : goal.loop-a-preserved
loop-a-preserved c =
    let l = c.loop-a in
    elim c.if-late-least.branch [
      | then-late-least w ↦ least_new _ l.a l.first l.least l.invariant _ _ _ refl w.if-late-least.true w.first-is w.least-is
      | else-late-least w ↦ least_kept _ l.a l.first l.least l.invariant _ _ _ refl w.if-late-least.false w.first-is w.least-is
    ]

-- all 16 are passed
whole : (c : After-loop-a) → FirstLeast c.load_lates-lates.result 16 c.loop-a.first c.loop-a.least
whole c = let l = c.loop-a in
    let e : l.a ≡ 16 = omega arith in
    subst (λ (n : ℕ). FirstLeast c.load_lates-lates.result n l.first l.least) e l.invariant

pub returns-then-least : goal.returns-then-least
returns-then-least c =
    all_have_ended c.args.table.now c.args.state.now c.load_lates-lates.result c.requires.2 c.load_lates-lates.ensures _ _
    (whole (goal.at.returns-then-least c).After-loop-a) c.if-least.true

pub returns : goal.returns
returns c =
    one_picked c.args.table.now c.args.state.now c.load_lates-lates.result c.requires.2 c.load_lates-lates.ensures _ _
    (whole (goal.at.returns c).After-loop-a) c.if-least.false
