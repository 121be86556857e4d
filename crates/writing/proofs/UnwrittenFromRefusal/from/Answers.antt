-- A refusal is kept as it is; an answer, so that an edit is refused where it keeps another. Assumes nothing.
use mathlib.Core.Path.{refl}
use Rattle.writing.proofs.UnwrittenFromRefusal.from.Goals as goal

pub returns : goal.returns
returns c = refl
