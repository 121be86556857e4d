-- `put_end_line` meets its contract. Assumes nothing.
use native.Mathlib.Omega.{arith}
use Rattle.tables.specs.Lines.{end_line}
use Rattle.digits.proofs.Writes.{part_copied}
use Rattle.writing.proofs.lines.put_end_line.Goals as goal

pub returns : goal.returns
returns c = let g = c.args in rw c.copy_from_slice.ensures.after (part_copied end_line g.text.now g.at _ (omega arith) (omega arith))
