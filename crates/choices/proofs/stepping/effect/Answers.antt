-- `effect` meets its contract: by the family of the row's op; a good table has no unknown op. Assumes nothing.
use Rattle.std.proofs.Common.{sym, ◌∙◌}
use Rattle.tables.proofs.Families.{local_op, move_op, send_op, receive_op, known_row, x_range, y_range, n_range}
use Rattle.choices.proofs.stepping.effect.Goals as goal

pub local-requires : goal.local-requires
local-requires c = let r = c.args.r in
    let w = c.requires.4 in
    let e = sym c.from.ensures ∙ c.in-Local.is in
    (local_op r.op e, x_range r w, y_range r w, c.requires.3)

pub moved-requires : goal.moved-requires
moved-requires c = let r = c.args.r in
    let w = c.requires.4 in
    let e = sym c.from.ensures ∙ c.in-Move.is in
    let o = move_op r.op e in
    (o.0, o.1, x_range r w, n_range r w, c.requires.3)

pub sent-requires : goal.sent-requires
sent-requires c = let r = c.args.r in
    let w = c.requires.4 in
    let e = sym c.from.ensures ∙ c.in-Send.is in
    (send_op r.op e, c.requires.3)

pub received-requires : goal.received-requires
received-requires c = let r = c.args.r in
    let w = c.requires.4 in
    let e = sym c.from.ensures ∙ c.in-Receive.is in
    (receive_op r.op e, x_range r w, n_range r w, c.requires.3)

pub returns-in-Unknown : goal.returns-in-Unknown
returns-in-Unknown c = absurd (known_row c.args.r c.requires.4 (sym c.from.ensures ∙ c.in-Unknown.is))
