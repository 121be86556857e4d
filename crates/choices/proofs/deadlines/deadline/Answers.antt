-- `deadline` meets its contract: the least of the lates is their deadline. Assumes nothing.
use Rattle.std.proofs.Common.{◌≡◌, leb, min, take, sym, ap, ◌∙◌, arith, rules}
use Rattle.std.specs.List.{fold}
use Rattle.choices.specs.Lates.{above_none}
use Rattle.choices.proofs.Lates.{deadline_least}
use Rattle.choices.proofs.deadlines.deadline.Goals as goal

pub returns : goal.returns
unfolding above_none
returns c t w =
    let ls = c.args.lates.now in
    let items : c.iter.result.rest.now ≡ take 16 ls = c.iter.ensures.rest in
    let e : c.fold.result ≡ fold (λ d l. min d l) 4294967295 c.iter.result.rest.now = search rules in
    deadline_least ls 16 (omega arith) t w ∙ ap (leb t) (sym (e ∙ ap (fold (λ d l. min d l) 4294967295) items))
