-- `put_last_line` meets its contract: four runs of stores, each where the one before it ends. Assumes nothing.
use native.Mathlib.Omega.{arith}
use mathlib.Core.Path.{refl}
use mathlib.Core.List.{[], ◌∷◌, ◌++◌}
use Prim.Native.Nat.{◌+◌}
use lib.ListN.{set}
use Rattle.digits.specs.Hex.{hex_digits}
use Rattle.traces.specs.Output.{last_line}
use Rattle.digits.proofs.Writes.{digits_then}
use Rattle.traces.proofs.writing.put_last_line.Goals as goal

pub returns : goal.returns
unfolding last_line
returns c =
    let p₃ = c.put_hex-3 in
    let p₂ = c.put_hex-2 in
    let p₁ = c.put_hex in
    let g = c.args in
    let at = g.at in
    let r = set p₃.new.out (at + 8) 10 in
    digits_then 2 0xFE g.out.now p₁.new.out r (hex_digits 2 g.reply ++ (hex_digits 4 g.n ++ (10 ∷ []))) at (at + 2) p₁.ensures refl
    (digits_then 2 g.reply p₁.new.out p₂.new.out r (hex_digits 4 g.n ++ (10 ∷ [])) (at + 2) (at + 4) p₂.ensures (omega arith)
    (digits_then 4 g.n p₂.new.out p₃.new.out r (10 ∷ []) (at + 4) (at + 8) p₃.ensures (omega arith) refl))
