-- `trace` meets its contract: the buffer is too short, or the step lines and the last line are the whole. Assumes nothing.
use mathlib.Core.Path.{◌∙◌}
use native.Mathlib.Omega.{arith}
use Rattle.tables.specs.Replies.{number_of}
use Rattle.traces.proofs.Whole.{too_short, whole, counts}
use Rattle.traces.proofs.trace.Goals as goal

pub returns-then-out-lt-LONGEST_OUTPUT-clause-wrote : goal.returns-then-out-lt-LONGEST_OUTPUT-clause-wrote
unfolding number_of
returns-then-out-lt-LONGEST_OUTPUT-clause-wrote c = rw c.from.ensures (too_short _ _ (omega arith))

pub returns-in-Ok-clause-wrote : goal.returns-in-Ok-clause-wrote
returns-in-Ok-clause-wrote c = whole _ _ (omega arith) _ _ _ c.in-Ok.ensures.traced

pub returns-in-Ok-clause-counts : goal.returns-in-Ok-clause-counts
returns-in-Ok-clause-counts c = counts _ _ _ _ _ c.in-Ok.ensures.traced

pub returns-in-Err-clause-wrote : goal.returns-in-Err-clause-wrote
returns-in-Err-clause-wrote c =
    let e = c.in-Err.ensures in
    whole _ _ (omega arith) _ _ _ (rw c.from-in-Err.ensures at c.finish.ensures ∙ rw e.no_step at e.traced)
