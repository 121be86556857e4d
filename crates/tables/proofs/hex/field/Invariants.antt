-- The invariant: v is the number of the digits passed. Assumes nothing.
use mathlib.Core.Path.{◌≡◌}
use lib.ListN.{take, drop}
use Rattle.tables.specs.Lines.{number}
use Rattle.tables.proofs.hex.field.Given as goal

abbrev pub invariant-loop-b : goal.invariant-loop-b
invariant-loop-b l = l.v ≡ number 0 (take l.b-index (drop l.at l.text))
