use Prim.Native.Nat.{◌-◌}
use native.Mathlib.Omega.{arith}
use mathlib.Core.Path.{◌≡◌, ap, ◌∙◌}
use Prim.Native.Nat.{ℕ, ◌+◌}
use lib.Seq.{sets}
use Rattle.digits.specs.Hex.{hex_digits}
use Rattle.digits.proofs.Writes.{lowest_first}
use Rattle.digits.proofs.put_hex.Goals as goal

pub returns : goal.returns
unfolding hex_digits
returns c =
    let l = c.loop-i in
    let e : l.i ≡ 0 = omega arith in
    rw e at l.invariant

pub loop-i-preserved : goal.loop-i-preserved
loop-i-preserved c =
    let l = c.loop-i in
    let g = c.args in
    let e : l.i - 1 + 1 ≡ l.i = omega arith in
    rw c.hex_char.ensures (lowest_first l.out g.at (l.i - 1) l.v ∙ ap (λ (n : ℕ). sets l.out g.at (hex_digits n l.v)) e ∙ l.invariant)
