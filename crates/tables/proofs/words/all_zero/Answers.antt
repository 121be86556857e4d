-- `all_zero` meets its contract. Assumes nothing.
use Rattle.std.proofs.Common.{rules, ◌-◌, ◌==◌, ◌&&◌, true, take, drop, ◌∙◌}
use Rattle.std.proofs.lemmas.Iterator.{YieldsList-from_slice}
use Rattle.std.proofs.lemmas.Iterator.Consumers.{fold_from_yields_List}
use Rattle.tables.specs.Basics.{zero_from}
use Rattle.tables.proofs.Zeros.{zero_folded}
use Rattle.tables.proofs.words.all_zero.Goals as goal

pub returns : goal.returns
unfolding zero_from
returns c =
    let part = take (c.args.j - c.args.i) (drop c.args.i c.args.ws.now) in
    fold_from_yields_List _ (λ good w. good && (w == 0)) true c.fold.result c.fold.ensures.ran (YieldsList-from_slice part cc) (λ a x b q k. search rules)
    ∙ zero_folded true part
