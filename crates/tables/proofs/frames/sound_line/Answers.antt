use mathlib.Core.Path.{◌≡◌, refl, sym, ap, ◌∙◌}
use mathlib.Core.Bool.{true}
use Prim.Native.Nat.{◌+◌}
use native.Mathlib.Omega.{arith}
use Rattle.tables.specs.Heads.{digits_at}
use Rattle.tables.specs.declared.frames.Line.TheVariants.{Opens, Gives}
use Rattle.tables.proofs.Heads.{digits_room, field_asks}
use Rattle.tables.proofs.Sound.{begins_end, begins_digits, begins_opens, begins_gives}
use Rattle.tables.proofs.frames.sound_line.Goals as goal
use Rattle.tables.proofs.frames.sound_line.Goals.{Else-text-at-eq70}

pub returns-then-text-at-eq70 : goal.returns-then-text-at-eq70
returns-then-text-at-eq70 c = sym (begins_end c.args.text.now c.args.at c.requires.0 c.requires.1 c.if-text-at-eq70.true)

pub returns-then-text-at-eq48 : goal.returns-then-text-at-eq48
returns-then-text-at-eq48 c = ap Opens c.field-agent.ensures
    ∙ sym (begins_opens c.args.text.now c.args.at c.requires.0 c.requires.1 c.if-text-at-eq70.false c.if-text-at-eq48.true)

pub returns-else-text-at-eq48 : goal.returns-else-text-at-eq48
returns-else-text-at-eq48 c = ap Gives c.field-agent.ensures
    ∙ sym (begins_gives c.args.text.now c.args.at c.requires.0 c.requires.1 c.if-text-at-eq70.false c.if-text-at-eq48.false)

-- 36 digits stand here
digits : (c : Else-text-at-eq70) → digits_at 36 c.args.text.now c.args.at ≡ true
digits c = begins_digits c.args.text.now c.args.at c.requires.0 c.requires.1 c.if-text-at-eq70.false

pub bounds-text-at-2 : goal.bounds-text-at-2
bounds-text-at-2 c = omega (arith, digits_room 36 _ _ (digits (goal.at.bounds-text-at-2 c).Else-text-at-eq70) (omega arith))

pub field-agent-requires : goal.field-agent-requires
field-agent-requires c =
    field_asks 36 c.args.text.now c.args.at (digits (goal.at.field-agent-requires c).Else-text-at-eq70) (c.args.at + 2) 2 2 refl (omega arith) (omega arith) (omega arith)
