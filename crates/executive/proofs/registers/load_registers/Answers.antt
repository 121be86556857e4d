-- `load_registers` meets its contract: the state's own words, agent by agent. Assumes nothing.
use mathlib.Core.Path.{◌≡◌, ap, ◌∙◌}
use Prim.Native.Nat.{ℕ, ◌/◌}
use lib.ListN.{length, take, drop, length-take, length-drop}
use Rattle.std.specs.Simd.{first_chunks}
use Rattle.choices.specs.Registers.{with_regs}
use native.Mathlib.Omega.{arith}
use Rattle.executive.proofs.Fours.{loaded_own}
use Rattle.executive.proofs.registers.load_registers.Goals as goal

pub returns : goal.returns
returns c =
    let st = c.args.state.now in
    let n : length (take 64 (drop 17 st)) / 4 ≡ 16 = simp (length-take, length-drop) (omega arith) in
    let t = rw c.unwrap.ensures at c.try_from.ensures.1 in
    let e : c.unwrap.result ≡ first_chunks 4 16 (take 64 (drop 17 st)) = t.same ∙ c.as_chunks.ensures.front ∙ ap (λ (k : ℕ). first_chunks 4 k (take 64 (drop 17 st))) n in
    ap (with_regs st) e ∙ loaded_own st (omega arith)
