-- `rows_are_good` meets its contract: each row below the count is tested. Assumes nothing.
use borrow.Author.Rules.{rules}
use mathlib.Core.Path.{refl}
use Rattle.tables.specs.Table.{good_rows}
use Rattle.std.proofs.lemmas.Iterator.{YieldsList-from_range}
use Rattle.tables.proofs.Loops.{all_passed}
use Rattle.tables.proofs.checking.rows_are_good.Goals as goal

pub returns : goal.returns
unfolding good_rows
returns c = rw (← c.requires.2) (all_passed _ _ _ _ _ c.all.ensures.ran (YieldsList-from_range 0 _ _ refl refl) (λ x b q k. search rules))
