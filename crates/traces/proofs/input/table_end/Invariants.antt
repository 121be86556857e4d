-- `table_end` meets its contract. The invariant: what is left of the table text, with the bytes and lines passed, is the whole of it. Assumes nothing.
use mathlib.Core.Path.{◌≡◌}
use Prim.Native.Nat.{◌+◌, ◌-◌, ◌≤◌}
use lib.ListN.{length, drop}
use Rattle.tables.specs.Lines.{lines}
use Rattle.traces.specs.Input.{table_bytes, table_text}
use Rattle.traces.proofs.input.table_end.Given as goal

abbrev pub invariant-loop-at : goal.invariant-loop-at
invariant-loop-at l = (l.at ≤ length l.input) × (l.count ≤ l.at) × (l.at + table_bytes (lines (drop l.at l.input)) ≡ table_bytes (lines l.input)) × (l.count + length (lines (table_text (drop l.at l.input))) ≡ length (lines (table_text l.input)))

abbrev pub decreases-loop-at : goal.decreases-loop-at
decreases-loop-at l = length l.input - l.at
