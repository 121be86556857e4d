-- `climbs_to` meets its contract. The check finds the answer alone; with it windows that are wrongly compared are told with values. Assumes nothing.
use native.Mathlib.Omega.{arith}
use Rattle.std.proofs.lemmas.Bool.Decides.{nat_tests}
use Rattle.tables.specs.Rows.{not_above}
use Rattle.tables.specs.Table.{climbs_to}
use Rattle.tables.proofs.climbing.climbs_to.Goals as goal

pub returns-then-r-next : goal.returns-then-r-next
unfolding climbs_to not_above
returns-then-r-next c = grind (arith, nat_tests)
