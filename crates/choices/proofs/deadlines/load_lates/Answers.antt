use Rattle.std.proofs.Common.{◌≡◌, ℕ, length, get_or, replicate, refl, ap, ◌∙◌, append-nil, arith}
use Rattle.choices.specs.State.{pos}
use Rattle.choices.specs.Registers.{listed}
use Rattle.choices.specs.Lates.{late_at}
use Rattle.choices.proofs.Around.{listed_length, listed_at, listed_set}
use Rattle.choices.proofs.Lates.{short}
use Rattle.choices.proofs.deadlines.load_lates.Goals as goal

pub loop-a-init : goal.loop-a-init
unfolding listed
loop-a-init c = refl

pub late_at-requires : goal.late_at-requires
late_at-requires c = let s = short c.args.table.now c.requires.2 c.loop-a.a (omega arith) in
    omega arith

pub loop-a-preserved : goal.loop-a-preserved
loop-a-preserved c =
    let l = c.loop-a in
    let g = c.args in
    rw (c.late_at.ensures, c.position.ensures, l.invariant) (listed_set (λ b. late_at g.table.now b (pos g.state.now b)) (replicate 16 0) l.a 0 (omega arith))

pub returns : goal.returns
returns c =
    let l = c.loop-a in
    let g = c.args in
    let f : ℕ → ℕ = λ b. late_at g.table.now b (pos g.state.now b) in
    let e : l.a ≡ 16 = omega arith in
    let q = (rw e at l.invariant) ∙ append-nil _ in
    record { size = ap length q ∙ listed_length f 16; each = λ a h. ap (λ ls. get_or ls a 0) q ∙ listed_at f 16 a 0 h }
