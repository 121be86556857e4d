-- `store_registers` meets its contract: the loop holds the registers stored. Assumes nothing.
use mathlib.Core.Path.{◌≡◌}
use Prim.Native.Nat.{◌-◌, ◌≤◌}
use lib.ListN.{length}
use lib.Seq.{paste}
use Rattle.choices.specs.Registers.{listed, register}
use Rattle.executive.proofs.registers.store_registers.Given as goal

abbrev pub invariant-loop-j : goal.invariant-loop-j
invariant-loop-j l = (l.j ≤ 64) × (l.state ≡ paste l.initial.state 17 (listed (register l.g) 64) l.j) × (length l.state ≡ length l.initial.state)

abbrev pub decreases-loop-j : goal.decreases-loop-j
decreases-loop-j l = 64 - l.j
