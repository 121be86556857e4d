-- `find_best` meets its contract: the loops hold the best of the places looked at. Assumes nothing.
use Rattle.std.proofs.Common.{◌≡◌, ◌-◌, ◌*◌, ◌≤◌}
use Rattle.choices.proofs.Looking.{LeastAfter, Looked}
use Rattle.choices.specs.State.{pool}
use Rattle.choices.specs.Messages.{look_agents}
use Rattle.choices.proofs.messages.find_best.Given as goal

abbrev pub invariant-loop-i : goal.invariant-loop-i
invariant-loop-i l = (l.i ≤ 32) × (l.i ≤ 32 * (l.n - l.b)) × Looked l.table (pool l.state) l.r l.b l.initial.m l.i l.m l.least_of_next l.least

abbrev pub decreases-loop-i : goal.decreases-loop-i
decreases-loop-i l = 32 - l.i

abbrev pub invariant-agents : goal.invariant-agents
invariant-agents l = (l.b ≤ l.n) × (l.b ≤ 16) × (l.m ≡ look_agents l.table (pool l.state) l.r l.b) × LeastAfter l.b l.least_of_next l.m

abbrev pub decreases-agents : goal.decreases-agents
decreases-agents l = 16 - l.b
