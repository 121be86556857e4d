-- What C is told of a run is `ran_of` it, field by field: written out, so that an edit of a field is refused where the field stands. Assumes nothing.
use mathlib.Core.Path.{sym, ap, ◌∙◌}
use Rattle.executive.specs.Replies.{ran_of}
use Rattle.executive.proofs.RanFromResultU32Stopped.from.Goals as goal

pub returns-in-Ok : goal.returns-in-Ok
returns-in-Ok c = ap ran_of (sym c.in-Ok.is)

pub returns-in-Err : goal.returns-in-Err
returns-in-Err c = (λ i. record { reply = c.from.ensures i; count = c.in-Err.stopped.count }) ∙ ap ran_of (sym c.in-Err.is)
