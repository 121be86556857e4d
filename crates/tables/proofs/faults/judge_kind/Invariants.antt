-- The invariant: the known lines that are left judge as all of them do. Assumes nothing.
use Prim.Native.Nat.{◌+◌, ◌*◌}
use lib.ListN.{take}
use Rattle.tables.proofs.Judging.{Left}
use Rattle.tables.proofs.faults.judge_kind.Given as goal

abbrev pub invariant-loop-kind : goal.invariant-loop-kind
invariant-loop-kind l = Left l.known (take (l.digits + 1) l.line) l.digits l.first (2 * l.kind-index)
