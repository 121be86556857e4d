-- What C is told is what the result says; by paths, so that an edit is refused where it tells another value. Assumes nothing.
use mathlib.Core.Path.{◌≡◌, refl}
use Prim.Native.Nat.{ℕ}
use Rattle.std.specs.Prelude.{Result, Err}
use Rattle.tables.specs.declared.replies.Refusal.{Refusal}
use Rattle.tables.specs.Replies.{number_of}
use Rattle.writing.specs.Calls.{wrote, wrote_of}
use Rattle.writing.specs.declared.Unwritten.{Unwritten}
use Rattle.writing.specs.declared.Unwritten.TheVariants.{Refused, TooLong}
use Rattle.writing.proofs.WroteFromResultU32Unwritten.from.Goals as goal

-- by the parts of the result
refused_told : (o : Result ℕ Unwritten) (u : Unwritten) (r : Refusal) (n : ℕ) → o ≡ Err u → u ≡ Refused r → n ≡ number_of r → wrote n 0 ≡ wrote_of o
refused_told o u r n e f g = rw (e, f, g) refl

long_told : (o : Result ℕ Unwritten) (u : Unwritten) (m n : ℕ) → o ≡ Err u → u ≡ TooLong m → n ≡ 20 → wrote n m ≡ wrote_of o
long_told o u m n e f g = rw (e, f, g) refl

pub returns-in-Err-Refused : goal.returns-in-Err-Refused
returns-in-Err-Refused c = refused_told c.args.outcome c.in-Err-Refused.field-0 _ _ c.in-Err-Refused.is (rw c.in-Err-Refused.is at c.in-Err-Refused.field-0-is) c.from.ensures

pub returns-in-Err-TooLong : goal.returns-in-Err-TooLong
unfolding number_of
returns-in-Err-TooLong c = long_told c.args.outcome c.in-Err-TooLong.field-0 _ _ c.in-Err-TooLong.is (rw c.in-Err-TooLong.is at c.in-Err-TooLong.field-0-is) c.from-in-Err-TooLong.ensures
