-- `table_is_good` meets its contract; words that are not looked at are told with values. Assumes nothing.
use native.Mathlib.Omega.{arith}
use Rattle.std.proofs.lemmas.Bool.Decides.{nat_tests}
use Rattle.tables.specs.Basics.{every}
use Rattle.tables.specs.Table.{good_table}
use Rattle.tables.proofs.checking.table_is_good.Goals as goal

pub returns-then-all_zero-2 : goal.returns-then-all_zero-2
unfolding every good_table
returns-then-all_zero-2 c = grind (arith, nat_tests)

pub returns-else-all_zero-2 : goal.returns-else-all_zero-2
unfolding every good_table
returns-else-all_zero-2 c = grind (arith, nat_tests)
