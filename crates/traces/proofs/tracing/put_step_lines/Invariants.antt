-- `put_step_lines` meets its contract: what the lines that are left give of the output, put where the step lines end, makes the whole, and the turns go on with the table
-- that they began with. Assumes nothing.
use Rattle.std.proofs.Common.{◌≡◌}
use Rattle.choices.specs.Registers.{with_regs}
use Rattle.executive.specs.InTurn.{InTurn}
use Rattle.traces.proofs.Going.{Going}
use Rattle.traces.proofs.tracing.put_step_lines.Given as goal

abbrev pub invariant-loop-line : goal.invariant-loop-line
invariant-loop-line l =
    let s = l.turns in
    (l.line-iterator.size ≡ 13)
    × Going l.table l.choices l.initial.out l.out (with_regs s.state.now s.regs) l.n l.line-iterator.rest.now
    × InTurn s.table.now s.state.now s.regs s.lates s.deadline
    × (s.table.now ≡ l.table)
