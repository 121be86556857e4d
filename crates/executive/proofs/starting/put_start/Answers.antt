-- `put_start` meets its contract: all words 0, then the clock, then the registers. Assumes nothing.
use mathlib.Core.Path.{◌≡◌, sym, ap, ◌∙◌}
use native.Mathlib.Omega.{arith}
use Prim.Native.Nat.{ℕ}
use lib.ListN.{length, replicate, length-set, length-replicate}
use Rattle.executive.proofs.Start.{start_put, start_length}
use Rattle.executive.proofs.starting.put_start.Goals as goal
use Rattle.executive.proofs.starting.put_start.Goals.{After-fill}

cleared : (c : After-fill) → c.fill.new.self ≡ replicate {A = ℕ} (length c.args.state.now) 0
cleared c = c.fill.ensures.after (λ y h. h)

pub slice_bounds-copy-end-2 : goal.slice_bounds-copy-end-2
slice_bounds-copy-end-2 c =
    let n = ap length (cleared (goal.at.slice_bounds-copy-end-2 c).After-fill) ∙ length-replicate {A = ℕ} (length c.args.state.now) 0 in
    simp length-set (omega arith)

pub returns : goal.returns
returns c =
    let k = c.copy in
    start_put c.args.table.now c.fill.new.self k.new.to (cleared (goal.at.returns c).After-fill ∙ ap (λ (n : ℕ). replicate n 0) c.requires.1) k.ensures

pub shape_of-state : goal.shape_of-state
shape_of-state c =
    let k = c.copy in
    ap length (start_put c.args.table.now c.fill.new.self k.new.to (cleared (goal.at.shape_of-state c).After-fill ∙ ap (λ (n : ℕ). replicate n 0) c.requires.1) k.ensures)
    ∙ start_length c.args.table.now c.requires.0 ∙ sym c.requires.1
