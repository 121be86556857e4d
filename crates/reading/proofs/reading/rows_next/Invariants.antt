use mathlib.Core.Path.{◌≡◌}
use mathlib.Core.Bool.{true}
use Prim.Native.Nat.{◌+◌, ◌-◌, ◌≤◌}
use lib.ListN.{length, drop}
use Rattle.tables.specs.Frames.{frames_of}
use Rattle.tables.specs.Heads.{sound}
use Rattle.reading.specs.Reader.{rows_next}
use Rattle.reading.proofs.reading.rows_next.Given as goal

abbrev pub invariant-loop-p : goal.invariant-loop-p
invariant-loop-p l = (l.p ≤ length l.text) × (sound (frames_of (drop l.p l.text)) ≡ true) × (rows_next (frames_of (drop l.at l.text)) ≡ l.c + rows_next (frames_of (drop l.p l.text)))

abbrev pub decreases-loop-p : goal.decreases-loop-p
decreases-loop-p l = length l.text - l.p
