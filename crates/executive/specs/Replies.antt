-- What C is told of a run and of a pick. Assumes nothing.
use Rattle.std.specs.Prelude.{Result, Ok, Err, ℕ}
use Rattle.tables.specs.Replies.{number_of}
use Rattle.tables.specs.declared.replies.Refusal.{Refusal}
use Rattle.executive.specs.declared.Stopped.{Stopped}
use Rattle.executive.specs.declared.Choice.{Choice}
use Rattle.executive.specs.declared.Ran.{Ran}
use Rattle.executive.specs.declared.Picked.{Picked}

-- the reply of a run, and the count of accepted steps
abbrev pub ran_of : Result ℕ Stopped → Ran
ran_of (Ok n) = record { reply = 0; count = n }
ran_of (Err s) = record { reply = number_of s.refusal; count = s.count }

-- agent and time are 0 with a refusal
abbrev pub picked_of : Result Choice Refusal → Picked
picked_of (Ok c) = record { reply = 0; agent = c.agent; time = c.time }
picked_of (Err r) = record { reply = number_of r; agent = 0; time = 0 }
