use mathlib.Core.Path.{◌≡◌, sym, ◌∙◌}
use mathlib.Core.List.{[]}
use Prim.Native.Nat.{ℕ, ◌+◌, ◌*◌, ◌<◌}
use native.Mathlib.Omega.{arith}
use lib.ListN.{length, get_or}
use Rattle.tables.proofs.Lines.{hex_part}
use Rattle.tables.proofs.Judging.{no_first_byte, left_first, left_sound, left_length, left_on, left_none, line_long, pair_first, pair_second}
use Rattle.tables.proofs.faults.judge_kind.Goals as goal
use Rattle.tables.proofs.faults.judge_kind.Goals.{In-loop-kind}

pub returns-then-digits-lt2 : goal.returns-then-digits-lt2
returns-then-digits-lt2 c = sym (no_first_byte c.args.known.now _ (omega (arith, line_long c.args.line.now c.args.digits c.requires.0)))

-- the known line that the loop is at
module _ (c : In-loop-kind) where
  abbrev at : ℕ
  at = 2 * c.loop-kind.kind-index

  room : at + 1 < length c.args.known.now
  room = let e = c.as_chunks.ensures.front_len in omega arith

  first_byte : get_or (get_or c.as_chunks.result.0.now c.loop-kind.kind-index []) 0 0 ≡ get_or c.args.known.now at 0
  first_byte = rw c.as_chunks.ensures.front (pair_first _ c.loop-kind.kind-index c.args.known.now (omega arith))

  its_digits : get_or (get_or c.as_chunks.result.0.now c.loop-kind.kind-index []) 1 0 ≡ get_or c.args.known.now (at + 1) 0
  its_digits = rw c.as_chunks.ensures.front (pair_second _ c.loop-kind.kind-index c.args.known.now (omega arith))

pub returns-then-kind-digits : goal.returns-then-kind-digits
returns-then-kind-digits c =
    let v = (goal.at.returns-then-kind-digits c).In-loop-kind in
    left_sound c.loop-kind.invariant (room v) (sym (first_byte v) ∙ c.if-kind-first.true) (sym (its_digits v) ∙ c.if-kind-digits.true)

pub returns-else-kind-digits : goal.returns-else-kind-digits
returns-else-kind-digits c =
    let v = (goal.at.returns-else-kind-digits c).In-loop-kind in
    left_length c.loop-kind.invariant (room v) (sym (first_byte v) ∙ c.if-kind-first.true) (λ e. c.if-kind-digits.false (its_digits v ∙ e))

pub returns : goal.returns
returns c = let e = c.as_chunks.ensures.front_len in left_none c.loop-kind.invariant (omega arith)

pub loop-kind-init : goal.loop-kind-init
loop-kind-init c = left_first c.args.line.now c.args.digits c.requires.0 _ _ c.if-digits-lt2.false c.field-first.ensures

pub loop-kind-preserved : goal.loop-kind-preserved
loop-kind-preserved c =
    let v = (goal.at.loop-kind-preserved c).In-loop-kind in
    let e : at v + 2 ≡ 2 * (c.loop-kind.kind-index + 1) = omega arith in
    rw (← e) (left_on c.loop-kind.invariant (room v) (λ f. c.if-kind-first.false (first_byte v ∙ f)))

pub field-first-requires : goal.field-first-requires
field-first-requires c = (omega arith, omega arith, hex_part c.args.line.now c.args.digits 0 2 c.requires.1 (omega arith))
