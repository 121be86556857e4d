use mathlib.Core.Path.{◌≡◌, refl}
use Prim.Native.Nat.{ℕ, ◌+◌, ◌-◌, ◌*◌, ◌<◌, ◌^◌}
use native.Mathlib.Omega.{arith}
use lib.ListN.{take, drop, get_or, length-drop, length-take}
use lib.Seq.{get_or-take, get_or-drop}
use Rattle.tables.specs.Lines.{number, field, hex_digit}
use Rattle.tables.proofs.Lines.{number_next, number_room, hex_in}
use Rattle.tables.proofs.hex.field.Goals as goal
use Rattle.tables.proofs.hex.field.Goals.{In-loop-b}

pub loop-b-init : goal.loop-b-init
unfolding number
loop-b-init c = refl

-- the digit that the loop is at, where it stands in the text
within : (c : In-loop-b) → c.loop-b.b-index < c.args.k
within c = let h = simp (length-take, length-drop) at c.loop-b-test.true in omega arith

byte : (c : In-loop-b)
    → let g = c.args in
    hex_digit (get_or (take (g.at + g.k - g.at) (drop g.at g.text.now)) c.loop-b.b-index 0) ≡ hex_digit (get_or g.text.now (g.at + c.loop-b.b-index) 0)
byte c =
    let h = within c in
    rw (get_or-take {A = ℕ} (c.args.at + c.args.k - c.args.at) _ c.loop-b.b-index 0 (omega arith), get_or-drop)

room : (c : In-loop-b) → 16 * c.loop-b.v + hex_digit (get_or c.args.text.now (c.args.at + c.loop-b.b-index) 0) < 2 ^ 32
room c =
    let g = c.args in
    rw c.loop-b.invariant
    (number_room g.text.now g.at g.k c.loop-b.b-index (omega arith) (within c) (omega arith) c.requires.2)

pub overflow_mul-v : goal.overflow_mul-v
overflow_mul-v c = omega (arith, room (goal.at.overflow_mul-v c).In-loop-b)

pub value-requires : goal.value-requires
value-requires c =
    let g = c.args in
    let w = (goal.at.value-requires c).In-loop-b in
    rw (byte w) (hex_in g.text.now g.at g.k c.loop-b.b-index (omega arith) (within w) c.requires.2)

pub overflow_add-v : goal.overflow_add-v
overflow_add-v c = let w = (goal.at.overflow_add-v c).In-loop-b in omega (arith, room w, byte w)

pub loop-b-preserved : goal.loop-b-preserved
loop-b-preserved c =
    let g = c.args in
    let w = (goal.at.loop-b-preserved c).In-loop-b in
    let e = byte w in
    rw (number_next g.text.now g.at g.k c.loop-b.b-index (omega arith) (within w)) (cc)

pub returns : goal.returns
unfolding field
returns c =
    let h = simp (length-take, length-drop) at c.loop-b-test.false in
    let e : c.loop-b.b-index ≡ c.args.k = omega arith in
    rw e at c.loop-b.invariant
