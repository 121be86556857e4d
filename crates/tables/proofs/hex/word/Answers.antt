use mathlib.Core.Path.{refl, ap, ◌∙◌}
use Prim.Native.Nat.{ℕ, ◌+◌}
use native.Mathlib.Omega.{arith}
use Rattle.tables.proofs.Digits.{digits_in, bytes_in, pairs_in, word_in, word_number}
use Rattle.tables.proofs.Lines.{field_from}
use Rattle.tables.proofs.Heads.{field_asks}
use Rattle.tables.proofs.hex.word.Goals as goal

pub eight-x-requires : goal.eight-x-requires
eight-x-requires c =
    let g = c.args in
    (field_asks 36 g.text.now g.at c.requires.1 (g.at + g.i) g.i 8 refl c.requires.0 c.requires.2 (omega arith)).0

pub returns : goal.returns
returns c =
    let g = c.args in
    let a = field_asks 36 g.text.now g.at c.requires.1 (g.at + g.i) g.i 8 refl c.requires.0 c.requires.2 (omega arith) in
    ap (λ (x : ℕ). word_in (pairs_in (bytes_in (digits_in x)))) c.eight-x.ensures
    ∙ word_number g.text.now (g.at + g.i) a.0 a.2
    ∙ field_from g.text.now g.at (g.at + g.i) g.i 8 refl
