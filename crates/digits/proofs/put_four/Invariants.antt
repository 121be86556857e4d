-- `put_four` meets its contract: the words so far stand one after the other. Assumes nothing.
use mathlib.Core.Path.{◌≡◌}
use lib.ListN.{take}
use lib.Seq.{sets}
use Rattle.digits.specs.Hex.{hex_words}
use Rattle.digits.proofs.put_four.Given as goal

abbrev pub invariant-loop-i : goal.invariant-loop-i
invariant-loop-i l = l.out ≡ sets l.initial.out l.at (hex_words (take l.i l.w-items))
