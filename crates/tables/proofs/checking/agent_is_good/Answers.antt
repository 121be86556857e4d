-- `agent_is_good` meets its contract. The check finds the answer alone; with it a wrong bound is told with the count at which it is wrong. Assumes nothing.
use native.Mathlib.Omega.{arith}
use Rattle.std.proofs.lemmas.Bool.Decides.{nat_tests}
use Rattle.tables.proofs.checking.agent_is_good.Goals as goal

pub rows_are_good-requires : goal.rows_are_good-requires
rows_are_good-requires c = let p = c.requires in (p.0, p.1, c.row_count-c.ensures, grind (arith, nat_tests))
