-- `filled` meets its contract. The check finds both alone; they are written out so that a wrong clause is refused with values. Assumes nothing.
use native.Mathlib.Omega.{arith}
use lib.ListN.{length-replicate}
use Rattle.std.proofs.lemmas.List.{get_or-replicate}
use Rattle.tables.proofs.words.filled.Goals as goal

pub returns-clause-len : goal.returns-clause-len
returns-clause-len g c = omega (arith, length-replicate g.row.N c.args.value)

pub returns-clause-each : goal.returns-clause-each
returns-clause-each g c = λ k d h. get_or-replicate g.row.N k c.args.value d (omega arith)
