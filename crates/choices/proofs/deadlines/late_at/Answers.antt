-- `late_at` meets its contract: none where the position is the agent's end; the row's is found. The check finds this one too: written out, it has an edit of that arm refused with the two values. Assumes nothing.
use Rattle.std.proofs.Common.{sym, arith}
use Rattle.choices.proofs.Lates.{late_ended}
use Rattle.choices.proofs.deadlines.late_at.Goals as goal

pub returns-then-row_count-p : goal.returns-then-row_count-p
returns-then-row_count-p c = sym (late_ended _ _ _ (omega arith))
