-- `reply_of` meets its contract. The check finds the answer alone; with it a wrong refusal is told by what it is. Assumes nothing.
use Rattle.tables.specs.Replies.{reply}
use Rattle.tables.proofs.replies.reply_of.Goals as goal

pub returns-in-Err : goal.returns-in-Err
unfolding reply
returns-in-Err c = rw c.in-Err.is c.from.ensures
