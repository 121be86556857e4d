-- `marks_are_good` meets its contract: its closure answers `good_mark`. Assumes nothing.
use Rattle.std.proofs.Common.{rules, refl}
use Rattle.std.proofs.lemmas.Iterator.{YieldsList-from_range}
use Rattle.tables.proofs.Loops.{all_passed}
use Rattle.executive.proofs.checking.marks_are_good.Goals as goal

pub returns : goal.returns
returns c = all_passed _ _ _ _ _ c.all.ensures.ran (YieldsList-from_range 0 _ _ refl refl) (λ x b q k. search rules)
