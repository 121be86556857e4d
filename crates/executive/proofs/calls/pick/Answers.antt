-- `pick` meets its contract: what the words are refused with, 11 at the end, or the choice that is picked. Assumes nothing.
use lib.Seq.{length-take-le}
use Rattle.tables.specs.declared.replies.Refusal.TheVariants.{AgentEnded}
use mathlib.Core.Path.{◌≡◌, sym, ap, ◌∙◌}
use mathlib.Core.Bool.{true, false}
use native.Mathlib.Omega.{arith}
use Rattle.tables.specs.Replies.{reply, number_of}
use Rattle.tables.proofs.Good.{few, few_rows}
use Rattle.executive.specs.Calls.{table_part, pick_reply}
use Rattle.executive.proofs.Ready.{then_first, all_ready}
use Rattle.tables.proofs.Refusals.{no_zero}
use Rattle.executive.proofs.PickedBy.{pick_ready, pick_refused, pick_goes}
use Rattle.executive.proofs.calls.pick.Goals as goal

pub returns : goal.returns
returns c =
    let k = rw c.in_ok-a.ensures.ok_part at c.picked_agent.ensures in
    pick_goes _ _ (pick_ready _ _ (all_ready _ _ c.in_ok-words_reply.ensures.ready) false k.left) _ _ k.is c.soonest.ensures

pub returns-in_err-words_reply : goal.returns-in_err-words_reply
unfolding reply pick_reply
returns-in_err-words_reply c =
    let w = c.in_err-words_reply.ensures.told in
    pick_refused _ _ _ _ c.from_residual.ensures.1 (w ∙ sym (then_first _ _ (λ e. no_zero _ (w ∙ e))))

pub returns-in_err-a : goal.returns-in_err-a
unfolding number_of
returns-in_err-a c =
    let none = c.in_err-a.ensures.ok_part in
    let v = rw none at c.in_err-a.ensures.value in
    let e : c.in_err-a.field-0.0 ≡ AgentEnded = cc in
    pick_refused _ _ _ _ c.from_residual-in_err-a.ensures.1
    (ap number_of e ∙ sym (pick_ready _ _ (all_ready _ _ c.in_ok-words_reply.ensures.ready) true (rw none at c.picked_agent.ensures)))

pub overflow_cast-result : goal.overflow_cast-result
overflow_cast-result c =
    let k = rw c.in_ok-a.ensures.ok_part at c.picked_agent.ensures in
    omega (arith, k.agent, few (table_part c.args.table.now) c.in_ok-words_reply.ensures.ready.2)

pub soonest-requires : goal.soonest-requires
soonest-requires c =
    let k = rw c.in_ok-a.ensures.ok_part at c.picked_agent.ensures in
    let low = k.agent in
    let r = c.in_ok-words_reply.ensures.ready in
    let tb = table_part c.args.table.now in
    let long = length-take-le 2129 c.args.table.now r.0 in
    let wide = length-take-le 1105 c.args.state.now r.1 in
    (omega arith, omega arith, omega (arith, few tb r.2), omega (arith, k.unended, few_rows tb r.2 _ low))
