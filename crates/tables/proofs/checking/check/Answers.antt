-- `check` meets its contract. The check finds the answer alone; with it a wrong reply to a short buffer is told with values. Assumes nothing.
use native.Mathlib.Omega.{arith}
use Rattle.std.proofs.lemmas.Bool.Decides.{nat_tests}
use Rattle.tables.specs.Basics.{first}
use Rattle.tables.specs.Calls.{check_reply}
use Rattle.tables.specs.Replies.{reply, number_of}
use Rattle.tables.proofs.checking.check.Goals as goal

pub returns-then-table-lt-TABLE_WORDS : goal.returns-then-table-lt-TABLE_WORDS
unfolding check_reply first reply number_of
returns-then-table-lt-TABLE_WORDS c = grind (arith, nat_tests)
