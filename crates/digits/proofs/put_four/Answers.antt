use native.Mathlib.Omega.{arith}
use mathlib.Core.Path.{refl}
use Rattle.digits.specs.Hex.{hex_words}
use Rattle.digits.proofs.Writes.{word_more}
use Rattle.digits.proofs.put_four.Goals as goal

pub loop-i-init : goal.loop-i-init
unfolding hex_words
loop-i-init c = refl

pub loop-i-preserved : goal.loop-i-preserved
loop-i-preserved c =
    let l = c.loop-i in
    word_more c.args.words _ _ _ l.i c.args.at (omega arith) l.invariant c.put_word.ensures
