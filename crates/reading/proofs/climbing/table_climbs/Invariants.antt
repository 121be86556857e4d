-- `table_climbs` meets its contract. The loop holds what is left to be told, of the agents from agent a on, and that the lines can be counted. Assumes nothing.
use Prim.Native.Nat.{◌+◌, ◌*◌, ◌≤◌}
use Rattle.reading.proofs.Climbs.{AgentsLeft}
use Rattle.reading.proofs.climbing.table_climbs.Given as goal

abbrev pub invariant-loop-a : goal.invariant-loop-a
invariant-loop-a l = AgentsLeft l.table l.n l.line l.a × (l.line ≤ l.n + 33 * l.a)
