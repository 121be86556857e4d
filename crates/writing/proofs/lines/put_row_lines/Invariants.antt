-- `put_row_lines` meets its contract. The invariant: the rows that are left, written from here, make the whole. Assumes nothing.
use mathlib.Core.Path.{◌≡◌}
use Prim.Native.Nat.{◌+◌, ◌*◌, ◌-◌}
use lib.Seq.{sets}
use Rattle.writing.specs.Writer.{lines_of, rows_from}
use Rattle.writing.proofs.lines.put_row_lines.Given as goal

abbrev pub invariant-loop-i : goal.invariant-loop-i
invariant-loop-i l = sets l.text (l.at + 37 * l.i) (lines_of (rows_from l.table l.a l.i (l.c - l.i))) ≡ sets l.initial.text l.at (lines_of (rows_from l.table l.a 0 l.c))
