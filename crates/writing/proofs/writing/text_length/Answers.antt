-- `text_length` meets its contract. Assumes nothing.
use native.Mathlib.Omega.{arith}
use mathlib.Core.Path.{◌≡◌, ◌∙◌}
use Prim.Native.Nat.{◌+◌, ◌*◌, ◌≤◌}
use lib.ListN.{length}
use Rattle.writing.specs.Writer.{text_of}
use borrow.Author.Rules.{rules}
use Rattle.tables.proofs.Good.{few}
use Rattle.writing.proofs.Lengths.{few_counted, counted, measured}
use Rattle.writing.proofs.writing.text_length.Goals as goal
use Rattle.writing.proofs.writing.text_length.Goals.{After-all_rows-rows}

abbrev total : (c : After-all_rows-rows) → (37 * (c.agent_count-n.result + c.all_rows-rows.result) + 3 ≡ length (text_of c.args.table.now)) × (37 * (c.agent_count-n.result + c.all_rows-rows.result) + 3 ≤ 19539)
total c =
    let g = c.requires in
    measured _ g.1 _ _ c.agent_count-n.ensures (c.all_rows-rows.ensures ∙ counted _ g.1 g.0 _ _ c.count_place.ensures (omega arith))

pub returns : goal.returns
returns c = total c

pub count_place-requires-2 : goal.count_place-requires-2
count_place-requires-2 c = let f = few _ c.requires.1 in omega arith

pub slice_bounds-all_rows-end : goal.slice_bounds-all_rows-end
slice_bounds-all_rows-end c = let f = few _ c.requires.1 in omega arith

pub all_rows-rows-requires : goal.all_rows-rows-requires
all_rows-rows-requires c = let g = c.requires in few_counted _ g.1 g.0 _ _ c.count_place.ensures (omega arith)

pub overflow_add-result : goal.overflow_add-result
overflow_add-result c = let t = (total c).1 in search rules

pub overflow_mul-result : goal.overflow_mul-result
overflow_mul-result c = let t = (total c).1 in search rules

pub overflow_add-result-2 : goal.overflow_add-result-2
overflow_add-result-2 c = let t = (total c).1 in search rules
