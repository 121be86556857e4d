-- `agents_are_good` meets its contract: its closure answers `good_places`, and each agent has 32 rows at most. Assumes nothing.
use Rattle.std.proofs.Common.{rules, arith, refl}
use Rattle.std.proofs.lemmas.Iterator.{serves_from_Range, YieldsList-from_range}
use Rattle.tables.proofs.Good.{few, few_rows}
use Rattle.tables.proofs.Loops.{all_passed}
use Rattle.executive.proofs.checking.agents_are_good.Goals as goal

pub all-requires-clause-callable : goal.all-requires-clause-callable
all-requires-clause-callable c = serves_from_Range (λ x q k. search rules)
    (λ x l h. let low = few c.args.table.now c.requires.2 in let short = few_rows c.args.table.now c.requires.2 x (omega arith) in search rules)

pub returns : goal.returns
returns c = rw (← c.agent_count.ensures) (all_passed _ _ _ _ _ c.all.ensures.ran (YieldsList-from_range 0 _ _ refl refl) (λ x b q k. search rules))
