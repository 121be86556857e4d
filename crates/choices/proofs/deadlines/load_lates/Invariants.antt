-- `load_lates` meets its contract: the loop holds the lates of the agents passed. Assumes nothing.
use Rattle.std.proofs.Common.{◌≡◌, ◌++◌, drop, replicate}
use Rattle.choices.specs.State.{pos}
use Rattle.choices.specs.Registers.{listed}
use Rattle.choices.specs.Lates.{late_at}
use Rattle.choices.proofs.deadlines.load_lates.Given as goal

abbrev pub invariant-loop-a : goal.invariant-loop-a
invariant-loop-a l = l.late-items ≡ listed (λ b. late_at l.table b (pos l.state b)) l.a ++ drop l.a (replicate 16 0)
