-- The laws of specs/Effects.antt, each under its own name. Assumes nothing.
use mathlib.Core.Path.{refl, sym, ap, ◌∙◌}
use Prim.Native.Nat.{ℕ, ◌+◌, ◌%◌, ◌^◌}
use lib.Count.{ones_in, count_trailing_zeros}
use Rattle.choices.specs.Effect.{put, receive}
use Rattle.choices.proofs.Effects.{after_set, after_add, after_sub, after_ones, after_low, after_skip, after_stay, after_jump, after_send, after_receive}
use Rattle.executive.specs.Effects.{held_x, held_y, SetIsConstant, AddIsRemainder, SubIsRemainder, OnesAreBits, LowIsLowest, SkipAtZero, SkipElsewhere, JumpIsOn, SendIsOn, ReceiveFound, ReceiveNone}
use Rattle.executive.proofs.Numbers.{difference, ones_bits, low_is, low_none, sub_is}

pub set_is_constant : SetIsConstant
set_is_constant r m s e = sym (after_set r (held_x r s) (held_y r s) s m refl refl e)

pub add_is_remainder : AddIsRemainder
add_is_remainder r m s e = sym (after_add r (held_x r s) (held_y r s) s m refl refl e ((held_x r s + held_y r s) % 2 ^ 32) refl)

pub sub_is_remainder : SubIsRemainder
sub_is_remainder r m s e = (
  difference (held_x r s) (held_y r s),
  sym (after_sub r (held_x r s) (held_y r s) s m refl refl e (difference (held_x r s) (held_y r s)) refl),
  (sub_is (held_x r s) (held_y r s)).0,
  (sub_is (held_x r s) (held_y r s)).1,
)

pub ones_are_bits : OnesAreBits
ones_are_bits r m s e =
    sym (after_ones r (held_x r s) (held_y r s) s m refl refl e (ones_in 32 (held_y r s)) refl) ∙ ap (λ (v : ℕ). put r.x v s) (ones_bits (held_y r s))

pub low_is_lowest : LowIsLowest
low_is_lowest r m s e = (
  count_trailing_zeros 32 (held_y r s),
  sym (after_low r (held_x r s) (held_y r s) s m refl refl e),
  low_is (held_y r s),
  low_none (held_y r s),
)

pub skip_at_zero : SkipAtZero
skip_at_zero r m s e z = sym (after_skip r m s e z)

pub skip_elsewhere : SkipElsewhere
skip_elsewhere r m s e z = sym (after_stay r m s e z)

pub jump_is_on : JumpIsOn
jump_is_on r m s e = sym (after_jump r m s e)

pub send_is_on : SendIsOn
send_is_on r m s e = sym (after_send r m s e)

pub receive_found : ReceiveFound
unfolding receive
receive_found g r m s e h = sym (after_receive r m s e) ∙ rw h

pub receive_none : ReceiveNone
unfolding receive
receive_none r m s e h = sym (after_receive r m s e) ∙ rw h
