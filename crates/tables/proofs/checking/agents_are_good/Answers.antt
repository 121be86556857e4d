-- `agents_are_good` meets its contract: each agent below n is tested. Assumes nothing.
use borrow.Author.Rules.{rules}
use mathlib.Core.Path.{refl}
use Rattle.std.proofs.lemmas.Iterator.{YieldsList-from_range}
use Rattle.tables.proofs.Loops.{all_passed}
use Rattle.tables.proofs.checking.agents_are_good.Goals as goal

pub returns : goal.returns
returns c = all_passed _ _ _ _ _ c.all.ensures.ran (YieldsList-from_range 0 _ _ refl refl) (λ x b q k. search rules)
