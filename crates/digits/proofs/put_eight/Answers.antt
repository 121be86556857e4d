-- `put_eight` meets its contract. Assumes nothing.
use mathlib.Core.Path.{◌∙◌}
use native.Mathlib.Omega.{arith}
use Rattle.digits.proofs.Writes.{part_copied}
use Rattle.digits.specs.Eight.{eight_of}
use Rattle.digits.proofs.put_eight.Goals as goal

pub returns : goal.returns
returns c =
    let g = c.args in
    let e = c.copy_from_slice.ensures.after ∙ c.to_le_bytes.ensures in
    rw e (part_copied (eight_of g.x) g.out.now g.at _ (omega arith) (omega arith))
