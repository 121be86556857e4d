-- `choice_reply` meets its contract: the tests of `choice_reply` in their order. Assumes nothing.
use Rattle.std.proofs.Common.{sym, ◌∙◌, arith, le-leb}
use borrow.Author.Tests.{lt-leb}
use Rattle.tables.specs.Replies.{number_of, reply}
use Rattle.tables.proofs.Good.{few, few_rows}
use Rattle.choices.proofs.Choice.{reply_10, reply_11, reply_12, reply_13, reply_15, reply_0}
use Rattle.choices.proofs.stepping.choice_reply.Goals as goal

pub returns-then-agent_count-a : goal.returns-then-agent_count-a
unfolding reply number_of
returns-then-agent_count-a c = sym (reply_10 _ _ _ _ (omega arith))

pub position-p-requires : goal.position-p-requires
position-p-requires c = let n = few c.args.table.now c.requires.2 in omega arith

pub row_count-requires : goal.row_count-requires
row_count-requires c = let n = few c.args.table.now c.requires.2 in omega arith

pub returns-then-row_count-p : goal.returns-then-row_count-p
unfolding reply number_of
returns-then-row_count-p c = sym (reply_11 _ _ _ _ (omega arith) (omega arith))

pub returns-then-t-clock : goal.returns-then-t-clock
unfolding reply number_of
returns-then-t-clock c = sym (reply_12 _ _ _ _ (omega arith) (omega arith) (omega arith))

pub row_at-r-requires : goal.row_at-r-requires
row_at-r-requires c = let low = rw c.agent_count.ensures at c.if-agent_count-a.false in
    let n = few c.args.table.now c.requires.2 in
    let r = few_rows c.args.table.now c.requires.2 c.args.a low in
    omega arith

pub returns-then-t-r : goal.returns-then-t-r
unfolding reply number_of
returns-then-t-r c =
    let p = c.position-p.ensures in
    sym (reply_13 _ _ _ _ (omega arith) (omega arith) (omega arith) (rw (c.row_at-r.ensures, p) at c.if-t-r.true))

pub returns-then-deadline-t : goal.returns-then-deadline-t
unfolding reply number_of
returns-then-deadline-t c = let p = c.position-p.ensures in
    sym (reply_15 _ _ _ _ (rw c.agent_count.ensures at c.if-agent_count-a.false) (rw (c.row_count.ensures, p) at c.if-row_count-p.false)
    (rw c.clock.ensures at c.if-t-clock.false) (rw (c.row_at-r.ensures, p) at c.if-t-r.false)
    (c.requires.3 ∙ lt-leb _ _ c.if-deadline-t.true))

pub returns : goal.returns
unfolding reply number_of
returns c = let p = c.position-p.ensures in
    sym (reply_0 _ _ _ _ (rw c.agent_count.ensures at c.if-agent_count-a.false) (rw (c.row_count.ensures, p) at c.if-row_count-p.false)
    (rw c.clock.ensures at c.if-t-clock.false) (rw (c.row_at-r.ensures, p) at c.if-t-r.false)
    (c.requires.3 ∙ le-leb _ _ c.if-deadline-t.false))
