-- `put_line` meets its contract: four runs of stores, each where the one before it ends. Assumes nothing.
use native.Mathlib.Omega.{arith}
use mathlib.Core.Path.{◌≡◌, refl}
use mathlib.Core.List.{[], ◌∷◌, ◌++◌}
use Prim.Native.Nat.{◌+◌}
use lib.ListN.{length, set}
use Rattle.digits.specs.Hex.{hex_digits, hex_words}
use Rattle.tables.proofs.Stored.{run_then}
use Rattle.digits.proofs.Writes.{digits_then, hex_words_length}
use Rattle.writing.specs.Writer.{four_at, frame_line}
use Rattle.writing.proofs.lines.put_line.Goals as goal

pub returns : goal.returns
unfolding frame_line
returns c =
    let p₃ = c.put_four in
    let p₂ = c.put_hex-2 in
    let p₁ = c.put_hex in
    let g = c.args in
    let at = g.at in
    let ws = four_at g.table.now g.p in
    let m : length (hex_words ws) ≡ 32 = hex_words_length ws in
    let r = set p₃.new.out (at + 36) 10 in
    let b₃ = hex_words ws ++ (10 ∷ []) in
    let b₂ = hex_digits 2 g.a ++ b₃ in
    digits_then 2 g.kind g.text.now p₁.new.out r b₂ at (at + 2) p₁.ensures refl
    (digits_then 2 g.a p₁.new.out p₂.new.out r b₃ (at + 2) (at + 4) p₂.ensures (omega arith)
    (run_then (hex_words ws) p₂.new.out p₃.new.out r (10 ∷ []) (at + 4) (at + 36) p₃.ensures (omega arith) refl))
