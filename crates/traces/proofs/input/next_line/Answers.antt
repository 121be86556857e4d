-- `next_line` meets its contract: `position` finds the newline that ends the line. Assumes nothing.
use Rattle.std.proofs.Common.{rules, sym, ◌∙◌}
use Rattle.std.proofs.lemmas.Iterator.{YieldsList-from_slice}
use Rattle.std.proofs.lemmas.Iterator.Search.{position_from_yields_List}
use borrow.Author.Tests.{tests}
use lib.ListN.{drop}
use Rattle.traces.proofs.Newline.{is_newline, to_end, line_to, line_rest}
use Rattle.traces.proofs.input.next_line.Goals as goal

pub returns-in-Some : goal.returns-in-Some
returns-in-Some c =
    line_to _ _ c.requires _
    (sym (position_from_yields_List is_newline _ _ _ c.position.ensures.ran (YieldsList-from_slice (drop c.args.at c.args.text.now) (c.iter.ensures.rest ∙ to_end c.args.text.now c.args.at)) (λ x b q k. search (rules, tests))) ∙ c.in-Some.is)

pub returns-in-None : goal.returns-in-None
returns-in-None c =
    line_rest _ _ c.requires
    (sym (position_from_yields_List is_newline _ _ _ c.position.ensures.ran (YieldsList-from_slice (drop c.args.at c.args.text.now) (c.iter.ensures.rest ∙ to_end c.args.text.now c.args.at)) (λ x b q k. search (rules, tests))) ∙ c.in-None.is)
