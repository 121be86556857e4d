-- The number of each refusal, and the reply of a call that may refuse. Assumes nothing.
use Rattle.std.specs.Prelude.{◌≡◌, Result, Ok, Err, ℕ}
use Rattle.tables.specs.declared.replies.Refusal.{Refusal}
use Rattle.tables.specs.declared.replies.Refusal.TheVariants.{BufferTooShort, BadCharacter, LineOutOfPlace, BadField, BadTarget, BadWindow, WindowGoesBack, BadTable, BadState, NoSuchAgent, AgentEnded, TimeBelowClock, TimeBelowEarly, TimeAboveLate, OddChoices, InputTooLong, BadLength, UnknownFirstByte, TextTooLong}

unfoldable pub number_of : Refusal → ℕ
number_of BufferTooShort = 1
number_of BadCharacter = 2
number_of LineOutOfPlace = 3
number_of BadField = 4
number_of BadTarget = 5
number_of BadWindow = 6
number_of WindowGoesBack = 7
number_of BadTable = 8
number_of BadState = 9
number_of NoSuchAgent = 10
number_of AgentEnded = 11
number_of TimeBelowClock = 12
number_of TimeBelowEarly = 13
number_of TimeAboveLate = 15
number_of OddChoices = 16
number_of InputTooLong = 17
number_of BadLength = 18
number_of UnknownFirstByte = 19
number_of TextTooLong = 20

unfoldable pub reply : Result Unit Refusal → ℕ
reply (Ok _) = 0
reply (Err r) = number_of r

-- No two results have one reply: what a clause says of the reply it says of the result.
abbrev pub ReplyTells : Type 0
ReplyTells = (r s : Result Unit Refusal) → reply r ≡ reply s → r ≡ s
