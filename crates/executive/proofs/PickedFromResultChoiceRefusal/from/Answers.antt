-- What C is told of a pick is `picked_of` it, field by field: written out, so that an edit of a field is refused where the field stands. Assumes nothing.
use mathlib.Core.Path.{sym, ap, ◌∙◌}
use Rattle.executive.specs.Replies.{picked_of}
use Rattle.executive.proofs.PickedFromResultChoiceRefusal.from.Goals as goal

pub returns-in-Ok : goal.returns-in-Ok
returns-in-Ok c = ap picked_of (sym c.in-Ok.is)

pub returns-in-Err : goal.returns-in-Err
returns-in-Err c = (λ i. record { reply = c.from.ensures i; agent = 0; time = 0 }) ∙ ap picked_of (sym c.in-Err.is)
