use native.Mathlib.Omega.{arith}
use Rattle.choices.proofs.Lates.{zero_above_none}
use Rattle.executive.proofs.turns.Turns.begin.Goals as goal

pub returns-clause-whole : goal.returns-clause-whole
returns-clause-whole c = c.load_registers-regs.ensures

pub returns-clause-ready : goal.returns-clause-ready
returns-clause-ready c = record {
  table_long = c.requires.0;
  good = c.requires.2;
  state_long = c.requires.1;
  regs_wide = omega arith;
  lates = c.load_lates-lates.ensures;
  deadline_in_time = zero_above_none _;
}
