use mathlib.Core.Path.{◌≡◌, refl, ◌∙◌}
use Prim.Native.Nat.{zero-le}
use lib.ListN.{length-set}
use lib.Seq.{paste-zero}
use native.Mathlib.Omega.{arith}
use Rattle.choices.specs.Registers.{listed, register}
use Rattle.choices.proofs.Around.{stored_next, stored_all}
use Rattle.executive.proofs.registers.store_registers.Goals as goal

pub loop-j-init : goal.loop-j-init
loop-j-init c = (zero-le, paste-zero c.args.state.now 17 (listed (register c.args.g) 64), refl)

pub loop-j-preserved : goal.loop-j-preserved
loop-j-preserved c =
    let l = c.loop-j in
    let g = c.args in
    (omega arith, stored_next g.state.now g.g l.j l.state l.invariant.1 (omega arith) (omega arith), length-set l.state _ _ ∙ l.invariant.2)

pub shape_of-state : goal.shape_of-state
shape_of-state c = c.loop-j.invariant.2

pub returns : goal.returns
returns c =
    let l = c.loop-j in
    let g = c.args in
    let e : l.j ≡ 64 = omega arith in
    (rw e at l.invariant.1) ∙ stored_all g.state.now g.g
