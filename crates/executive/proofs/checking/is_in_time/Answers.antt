-- `is_in_time` meets its contract: the time is not above the least of the lates. Assumes nothing.
use mathlib.Core.Path.{sym, ◌∙◌}
use native.Mathlib.Omega.{arith}
use Rattle.choices.proofs.Lates.{in_time_lates}
use Rattle.executive.proofs.checking.is_in_time.Goals as goal

pub deadline-requires : goal.deadline-requires
deadline-requires c = c.load_lates.ensures.size

pub returns : goal.returns
returns c = sym (in_time_lates c.args.table.now c.requires.2 c.args.state.now _ c.load_lates.ensures c.args.t (omega arith) ∙ c.deadline.ensures c.args.t (omega arith))
