-- `picked_agent` meets its contract: the loop holds the first of the least lates passed. Assumes nothing.
use Rattle.choices.proofs.Pick.{FirstLeast}
use Rattle.choices.proofs.picking.picked_agent.Given as goal

abbrev pub invariant-loop-a : goal.invariant-loop-a
invariant-loop-a l = FirstLeast l.late-items l.a l.first l.least
