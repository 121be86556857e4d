-- `put_word` meets its contract: no sum passes 64 bits, since what a mask leaves is at most the mask. Assumes nothing.
use mathlib.Core.Path.{ap, ◌∙◌}
use mathlib.Core.List.{List}
use Prim.Native.Nat.{ℕ}
use lib.Seq.{sets}
use Rattle.digits.proofs.Eight.{word_digits}
use borrow.Author.Rules.{rules}
use Rattle.digits.proofs.put_word.Goals as goal

pub returns : goal.returns
returns c =
    let g = c.args in
    c.put_eight.ensures ∙ ap (λ (bs : List ℕ). sets g.out.now g.at bs) (word_digits g.w (search rules))
