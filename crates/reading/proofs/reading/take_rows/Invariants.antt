-- The invariant is `Turn`, for the replies, with `Filling`, for the table. Assumes nothing.
use Prim.Native.Nat.{◌-◌}
use lib.ListN.{length}
use Rattle.reading.proofs.RowsRead.{Turn}
use Rattle.reading.proofs.Loads.{Filling}
use Rattle.reading.proofs.reading.take_rows.Given as goal

abbrev pub invariant-loop-p : goal.invariant-loop-p
invariant-loop-p l = Turn l.text l.p l.n l.c l.i × Filling l.text l.table l.p l.a l.i

abbrev pub decreases-loop-p : goal.decreases-loop-p
decreases-loop-p l = length l.text - l.p
