-- `take_choices` meets its contract: the choices that are left end as all of them do, and the turns go on with the table and the state that they began with. Assumes nothing.
use Rattle.std.proofs.Common.{◌≡◌}
use Rattle.choices.specs.Registers.{with_regs}
use Rattle.executive.specs.InTurn.{InTurn}
use Rattle.executive.proofs.RunOn.{Left}
use Rattle.executive.proofs.running.take_choices.Given as goal

abbrev pub invariant-loop-pair : goal.invariant-loop-pair
invariant-loop-pair l =
    let s = l.turns in
    Left l.table l.fn.state l.choices (with_regs s.state.now s.regs) l.count l.pair-index
    × InTurn s.table.now s.state.now s.regs s.lates s.deadline
    × (s.table.now ≡ l.table)
    × (s.state.ghost_name ≡ l.initial.turns.state.ghost_name)
