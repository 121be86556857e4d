-- `row_reply` meets its contract. The check finds the answer alone; with it a row that is wrongly accepted or refused is told with its values. Assumes nothing.
use native.Mathlib.Omega.{arith}
use Rattle.std.proofs.lemmas.Bool.Decides.{nat_tests}
use Rattle.tables.specs.Basics.{first}
use Rattle.tables.specs.Layout.{row_of}
use Rattle.tables.specs.Replies.{reply}
use Rattle.tables.specs.Rows.{row_reply}
use Rattle.tables.proofs.rows.row_reply.Goals as goal

pub returns : goal.returns
unfolding first row_of reply row_reply
returns c = grind (arith, nat_tests)
