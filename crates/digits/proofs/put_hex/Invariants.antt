-- `put_hex` meets its contract: the lowest digit is written first, so what is left of the digits is what is left of the number. Assumes nothing.
use mathlib.Core.Path.{◌≡◌}
use lib.Seq.{sets}
use Rattle.digits.specs.Hex.{hex_digits}
use Rattle.digits.proofs.put_hex.Given as goal

abbrev pub invariant-loop-i : goal.invariant-loop-i
invariant-loop-i l = sets l.out l.at (hex_digits l.i l.v) ≡ sets l.initial.out l.at (hex_digits l.k l.m)
