use Rattle.std.proofs.Common.{arith, ◌≡◌, true, ◌&&◌, ltb, fold, ◌∙◌}
use Rattle.std.proofs.lemmas.Grind.{common_steps}
use Rattle.tables.specs.Lines.{hex_digit}
use Rattle.tables.proofs.Lines.{folded_hex}
use Rattle.tables.proofs.frames.are_digits.Goals as goal

pub returns : goal.returns
returns c =
    let e : c.fold.result ≡ fold (λ all b. all && ltb (hex_digit b) 16) true c.args.bytes.now = grind (arith, common_steps) in
    e ∙ folded_hex c.args.bytes.now
