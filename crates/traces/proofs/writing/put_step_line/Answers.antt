-- `put_step_line` meets its contract: six runs of stores, each where the one before it ends. Assumes nothing.
use native.Mathlib.Omega.{arith}
use mathlib.Core.Path.{◌≡◌, refl}
use mathlib.Core.List.{[], ◌∷◌, ◌++◌}
use Prim.Native.Nat.{◌+◌, ◌*◌}
use lib.ListN.{length, set}
use Rattle.digits.specs.Hex.{hex_digits, hex_words}
use Rattle.tables.proofs.Stored.{run_then}
use Rattle.digits.proofs.Writes.{digits_then, hex_words_length}
use Rattle.traces.specs.Output.{step_line}
use Rattle.traces.proofs.writing.put_step_line.Goals as goal

pub returns : goal.returns
unfolding step_line
returns c =
    let p₅ = c.put_four in
    let p₄ = c.put_word in
    let p₃ = c.put_hex-3 in
    let p₂ = c.put_hex-2 in
    let p₁ = c.put_hex in
    let g = c.args in
    let at = g.at in
    let ws = g.s.regs in
    let n : length ws ≡ 4 = omega arith in
    let m : length (hex_words ws) ≡ 8 * length ws = hex_words_length ws in
    let r = set p₅.new.out (at + 46) 10 in
    let b₅ = hex_words ws ++ (10 ∷ []) in
    let b₄ = hex_digits 8 g.t ++ b₅ in
    let b₃ = hex_digits 2 g.s.pos ++ b₄ in
    let b₂ = hex_digits 2 g.a ++ b₃ in
    digits_then 2 0x03 g.out.now p₁.new.out r b₂ at (at + 2) p₁.ensures refl
    (digits_then 2 g.a p₁.new.out p₂.new.out r b₃ (at + 2) (at + 4) p₂.ensures (omega arith)
    (digits_then 2 g.s.pos p₂.new.out p₃.new.out r b₄ (at + 4) (at + 6) p₃.ensures (omega arith)
    (digits_then 8 g.t p₃.new.out p₄.new.out r b₅ (at + 6) (at + 14) p₄.ensures (omega arith)
    (run_then (hex_words ws) p₄.new.out p₅.new.out r (10 ∷ []) (at + 14) (at + 46) p₅.ensures (omega arith) refl))))
