-- `run_choices` meets its contract: the start state fits its table, and the choices are taken from it. Assumes nothing.
use native.Mathlib.Omega.{arith}
use Rattle.executive.proofs.Start.{start_length}
use Rattle.executive.proofs.Fits.{start_fits}
use Rattle.executive.proofs.running.run_choices.Goals as goal

pub take_choices-requires : goal.take_choices-requires
take_choices-requires c = let e = c.put_start.ensures in
    (c.requires.0, rw e (start_length c.args.table.now (omega arith)), c.requires.2, rw e (start_fits c.args.table.now c.requires.2 c.requires.0))
