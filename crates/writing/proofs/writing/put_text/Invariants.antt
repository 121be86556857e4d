-- `put_text` meets its contract. Assumes nothing.
use Rattle.writing.proofs.Turns.{Left}
use Rattle.writing.proofs.writing.put_text.Given as goal

abbrev pub invariant-loop-a : goal.invariant-loop-a
invariant-loop-a l = Left l.table l.initial.text l.text l.n l.at l.a
