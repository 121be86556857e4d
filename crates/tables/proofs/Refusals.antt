-- A refusal has a number, no other call's reply is 0, and no two results have one reply. Assumes nothing.
use mathlib.Core.Path.{◌≡◌, refl, sym, ap, ◌∙◌}
use mathlib.Core.List.{List, [], ◌∷◌}
use Prim.Native.Nat.{ℕ}
use lib.ListN.{get_or}
use native.Mathlib.Omega.{arith}
use lib.Dec.{eqb}
use borrow.Author.Tests.{ne_eqb}
use Rattle.std.specs.Prelude.{Result, Ok, Err}
use Rattle.std.specs.Result.{is_ok}
use Rattle.tables.specs.Replies.{number_of, reply, ReplyTells}
use Rattle.tables.specs.declared.replies.Refusal.{Refusal}
use Rattle.tables.specs.declared.replies.Refusal.TheVariants.{BufferTooShort, BadCharacter, LineOutOfPlace, BadField, BadTarget, BadWindow, WindowGoesBack, BadTable, BadState, NoSuchAgent, AgentEnded, TimeBelowClock, TimeBelowEarly, TimeAboveLate, OddChoices, InputTooLong, BadLength, UnknownFirstByte, TextTooLong}

-- no refusal has the number 0
pub no_zero : (r : Refusal) → number_of r ≡ 0 → ⊥
unfolding number_of
no_zero r h = search arith

-- a call is accepted exactly where its reply is 0
pub ok_is_0 : (r : Result Unit Refusal) → eqb (reply r) 0 ≡ is_ok r
unfolding reply
ok_is_0 (Ok _) = refl
ok_is_0 (Err r) = ne_eqb (number_of r) 0 (no_zero r)

-- the results by their replies; 14 is no reply
abbrev by_reply : List (Result Unit Refusal)
by_reply = Ok tt ∷ Err BufferTooShort ∷ Err BadCharacter ∷ Err LineOutOfPlace ∷ Err BadField ∷ Err BadTarget ∷ Err BadWindow ∷ Err WindowGoesBack ∷ Err BadTable ∷ Err BadState ∷ Err NoSuchAgent ∷ Err AgentEnded ∷ Err TimeBelowClock ∷ Err TimeBelowEarly ∷ Ok tt ∷ Err TimeAboveLate ∷ Err OddChoices ∷ Err InputTooLong ∷ Err BadLength ∷ Err UnknownFirstByte ∷ Err TextTooLong ∷ []

found : (r : Result Unit Refusal) → get_or by_reply (reply r) (Ok tt) ≡ r
unfolding reply number_of
found (Ok tt) = refl
found (Err BufferTooShort) = refl
found (Err BadCharacter) = refl
found (Err LineOutOfPlace) = refl
found (Err BadField) = refl
found (Err BadTarget) = refl
found (Err BadWindow) = refl
found (Err WindowGoesBack) = refl
found (Err BadTable) = refl
found (Err BadState) = refl
found (Err NoSuchAgent) = refl
found (Err AgentEnded) = refl
found (Err TimeBelowClock) = refl
found (Err TimeBelowEarly) = refl
found (Err TimeAboveLate) = refl
found (Err OddChoices) = refl
found (Err InputTooLong) = refl
found (Err BadLength) = refl
found (Err UnknownFirstByte) = refl
found (Err TextTooLong) = refl

pub reply_tells : ReplyTells
reply_tells r s e = sym (found r) ∙ ap (λ (n : ℕ). get_or by_reply n (Ok tt)) e ∙ found s
