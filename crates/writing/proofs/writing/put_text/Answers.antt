use native.Mathlib.Omega.{arith}
use Rattle.tables.proofs.Good.{few, few_rows}
use Rattle.writing.proofs.Turns.{all_left, agent_room, end_room, next_left, none_left_lem}
use borrow.Author.Rules.{rules}
use Rattle.writing.proofs.writing.put_text.Goals as goal

pub returns : goal.returns
returns c = none_left_lem c.loop-a.invariant c.loop-a-test.false _ c.put_end_line.ensures

pub loop-a-preserved : goal.loop-a-preserved
loop-a-preserved c =
    let o = c.put_agent_line in
    let r = c.put_row_lines in
    next_left c.loop-a.invariant _ _ _ c.loop-a-test.true c.row_count-c.ensures o.ensures r.ensures o.auto.text r.auto.text

pub loop-a-init : goal.loop-a-init
loop-a-init c = all_left _ _ _ c.agent_count-n.ensures

pub row_count-c-requires : goal.row_count-c-requires
row_count-c-requires c = let t = c.loop-a.invariant in let f = few _ c.requires.1 in let e = t.all in (search rules, omega arith)

pub put_agent_line-requires : goal.put_agent_line-requires
put_agent_line-requires c =
    let t = c.loop-a.invariant in
    let f = few _ c.requires.1 in
    let e = t.all in
    let r = agent_room t c.requires.2 c.loop-a-test.true in
    (omega arith, search rules, omega arith)

pub overflow_add-at : goal.overflow_add-at
overflow_add-at c =
    let r = agent_room c.loop-a.invariant c.requires.2 c.loop-a-test.true in search rules

pub put_row_lines-requires : goal.put_row_lines-requires
put_row_lines-requires c =
    let t = c.loop-a.invariant in
    let e = t.all in
    let h = c.loop-a-test.true in
    let f = few _ c.requires.1 in
    let m = few_rows _ c.requires.1 c.loop-a.a (omega arith) in
    let k = c.row_count-c.ensures in
    let l = c.put_agent_line.auto.text in
    let r = agent_room t c.requires.2 h in
    (omega arith, c.requires.0, omega arith, omega arith)

pub overflow_add-at-in-loop-a-2 : goal.overflow_add-at-in-loop-a-2
overflow_add-at-in-loop-a-2 c =
    let t = c.loop-a.invariant in
    let h = c.loop-a-test.true in
    let k = c.row_count-c.ensures in
    let r = agent_room t c.requires.2 h in
    search rules

pub put_end_line-requires : goal.put_end_line-requires
put_end_line-requires c = end_room c.loop-a.invariant c.requires.2 c.loop-a-test.false
