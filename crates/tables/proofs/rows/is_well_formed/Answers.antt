-- `is_well_formed` meets its contract: in each family the bits that must be 0 are those of the fields in 01's table. Assumes nothing.
use mathlib.Core.Path.{sym, ◌∙◌}
use mathlib.Core.Bool.{true, false}
use Rattle.tables.specs.Layout.{row_of, row_from}
use Rattle.tables.proofs.Families.{set_row, two_registers_row, skip_row, jump_row, send_row, receive_row, unknown_row}
use Rattle.tables.proofs.Masks.{by_bits, none_spare, some_spare}
use Rattle.tables.proofs.rows.is_well_formed.Goals as goal

pub returns-then-op-eq-SET : goal.returns-then-op-eq-SET
unfolding row_of
returns-then-op-eq-SET c = by_bits _ _ _ _ true false false ∙ sym (set_row (row_from c.args.words) c.if-op-eq-SET.true)

pub returns-then-code-eq0 : goal.returns-then-code-eq0
unfolding row_of
returns-then-code-eq0 c =
    let told = sym c.from.ensures ∙ c.in-Local.is in
    none_spare _ _ _ _ true true false false c.if-code-eq0.true ∙ sym (two_registers_row (row_from c.args.words) told c.if-op-eq-SET.false)

pub returns-else-code-eq0 : goal.returns-else-code-eq0
unfolding row_of
returns-else-code-eq0 c =
    let told = sym c.from.ensures ∙ c.in-Local.is in
    some_spare _ _ _ _ true true false false c.if-code-eq0.false ∙ sym (two_registers_row (row_from c.args.words) told c.if-op-eq-SET.false)

pub returns-then-code-eq0-2 : goal.returns-then-code-eq0-2
unfolding row_of
returns-then-code-eq0-2 c =
    none_spare _ _ _ _ true false true false c.if-code-eq0-2.true ∙ sym (skip_row (row_from c.args.words) c.if-op-eq-SKIP.true)

pub returns-else-code-eq0-2 : goal.returns-else-code-eq0-2
unfolding row_of
returns-else-code-eq0-2 c =
    some_spare _ _ _ _ true false true false c.if-code-eq0-2.false ∙ sym (skip_row (row_from c.args.words) c.if-op-eq-SKIP.true)

pub returns-then-code-eq0-3 : goal.returns-then-code-eq0-3
unfolding row_of
returns-then-code-eq0-3 c =
    let told = sym c.from.ensures ∙ c.in-Move.is in
    none_spare _ _ _ _ false false true false c.if-code-eq0-3.true ∙ sym (jump_row (row_from c.args.words) told c.if-op-eq-SKIP.false)

pub returns-else-code-eq0-3 : goal.returns-else-code-eq0-3
unfolding row_of
returns-else-code-eq0-3 c =
    let told = sym c.from.ensures ∙ c.in-Move.is in
    some_spare _ _ _ _ false false true false c.if-code-eq0-3.false ∙ sym (jump_row (row_from c.args.words) told c.if-op-eq-SKIP.false)

pub returns-in-Send : goal.returns-in-Send
unfolding row_of
returns-in-Send c =
    by_bits _ _ _ _ true false false ∙ sym (send_row (row_from c.args.words) (sym c.from.ensures ∙ c.in-Send.is))

pub returns-in-Receive : goal.returns-in-Receive
unfolding row_of
returns-in-Receive c =
    by_bits _ _ _ _ true false true ∙ sym (receive_row (row_from c.args.words) (sym c.from.ensures ∙ c.in-Receive.is))

pub returns-in-Unknown : goal.returns-in-Unknown
unfolding row_of
returns-in-Unknown c = sym (unknown_row (row_from c.args.words) (sym c.from.ensures ∙ c.in-Unknown.is))
