-- `rows_climb` meets its contract. The loop holds what is left to be told: of the rows from row i on. Assumes nothing.
use Rattle.reading.proofs.Climbs.{RowsLeft}
use Rattle.reading.proofs.climbing.rows_climb.Given as goal

abbrev pub invariant-loop-i : goal.invariant-loop-i
invariant-loop-i l = RowsLeft l.table l.n l.a l.c l.i
