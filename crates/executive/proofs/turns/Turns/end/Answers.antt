use Rattle.executive.proofs.turns.Turns.end.Goals as goal

pub returns-clause-stored : goal.returns-clause-stored
returns-clause-stored c = c.store_registers.ensures
