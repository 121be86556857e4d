-- `first_bad_choice` meets its contract. The invariant: what is told of the lines that are left is what is told of all. Assumes nothing.
use mathlib.Core.Path.{◌≡◌}
use Prim.Native.Nat.{◌+◌, ◌-◌, ◌≤◌}
use lib.ListN.{length, drop}
use Rattle.tables.specs.Lines.{lines}
use Rattle.traces.specs.Input.{bad_choice}
use Rattle.traces.proofs.input.first_bad_choice.Given as goal

abbrev pub invariant-loop-p : goal.invariant-loop-p
invariant-loop-p l = (l.p ≤ length l.input) × (l.n ≤ l.line + l.p) × (bad_choice l.n (lines (drop l.p l.input)) ≡ bad_choice l.line (lines (drop l.at l.input)))

abbrev pub decreases-loop-p : goal.decreases-loop-p
decreases-loop-p l = length l.input - l.p
