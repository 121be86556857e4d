use mathlib.Core.Path.{◌≡◌, refl, sym, ◌∙◌}
use mathlib.Core.Bool.{true}
use Prim.Native.Nat.{◌+◌}
use native.Mathlib.Omega.{arith}
use borrow.Author.Tests.{eq-eqb, ne_eqb}
use Rattle.tables.specs.Heads.{digits_at, line_at}
use Rattle.tables.proofs.Heads.{kind_line, line_end_at, line_digits, line_neither, field_asks}
use Rattle.tables.proofs.frames.line_at.Goals as goal
use Rattle.tables.proofs.frames.line_at.Goals.{Else-not-is_frame, After-field}

pub returns-then-is_end : goal.returns-then-is_end
returns-then-is_end c = sym (line_end_at c.args.text.now c.args.at (sym c.is_end.ensures ∙ c.if-is_end.true))

pub returns-then-not-is_frame : goal.returns-then-not-is_frame
returns-then-not-is_frame c =
    sym (line_neither c.args.text.now c.args.at (sym c.is_end.ensures ∙ c.if-is_end.false) (sym c.is_frame.ensures ∙ c.if-not-is_frame.true))

-- the answer goes by the first byte
kind : (c : After-field) → line_at c.args.text.now c.args.at ≡ kind_line c.field.result c.field-agent.result
kind c =
    let g = c.args in
    rw (c.field.ensures, c.field-agent.ensures) (line_digits g.text.now g.at (sym c.is_frame.ensures ∙ c.if-not-is_frame.false))

pub returns-in-0 : goal.returns-in-0
returns-in-0 c = rw (kind (goal.at.returns-in-0 c).After-field, eq-eqb _ _ c.in-0.is)

pub returns-in-1 : goal.returns-in-1
returns-in-1 c = rw (kind (goal.at.returns-in-1 c).After-field, ne_eqb c.field.result 0 (omega arith), eq-eqb _ _ c.in-1.is)

pub returns-in_default : goal.returns-in_default
returns-in_default c = rw (kind (goal.at.returns-in_default c).After-field, ne_eqb c.field.result 0 (omega arith), ne_eqb c.field.result 1 (omega arith))

-- 36 digits stand here
digits : (c : Else-not-is_frame) → digits_at 36 c.args.text.now c.args.at ≡ true
digits c = sym c.is_frame.ensures ∙ c.if-not-is_frame.false

pub field-agent-requires : goal.field-agent-requires
field-agent-requires c =
    field_asks 36 c.args.text.now c.args.at (digits (goal.at.field-agent-requires c).Else-not-is_frame) (c.args.at + 2) 2 2 refl (omega arith) (omega arith) (omega arith)

pub field-requires : goal.field-requires
field-requires c =
    field_asks 36 c.args.text.now c.args.at (digits (goal.at.field-requires c).Else-not-is_frame) c.args.at 0 2 (omega arith) (omega arith) (omega arith) (omega arith)
