use native.Mathlib.Omega.{arith}
use mathlib.Core.Path.{◌≡◌, refl, sym, ap, ◌∙◌}
use mathlib.Core.List.{List}
use Prim.Native.Nat.{ℕ, ◌<◌}
use lib.ListN.{length-set}
use Rattle.tables.proofs.Good.{few}
use Rattle.choices.specs.State.{agent_at}
use Rattle.choices.specs.Step.{choice_reply}
use Rattle.choices.proofs.Lates.{short, in_time_lates}
use Rattle.choices.proofs.Choosing.{chosen_low, reply_whole}
use Rattle.executive.specs.InTurn.{Takes}
use Rattle.executive.proofs.Refusals.{accepted_is_0, refused_is}
use Rattle.executive.proofs.RunOn.{agent_is, whole_after, words_length, lates_after, deadline_after, takes_refusal}
use Rattle.executive.proofs.turns.Turns.take.Goals as goal
use Rattle.executive.proofs.turns.Turns.take.Goals.{In_ok-reply}

-- where the choice is accepted
accepts : (c : In_ok-reply) → choice_reply c.args.self.now.table.now c.args.self.now.state.now c.args.a c.args.t ≡ 0
accepts c = accepted_is_0 c.reply.ensures c.in_ok-reply.was

low : (c : In_ok-reply) → c.args.a < 16
low c = chosen_low _ _ c.requires.good _ _ (accepts c)

pub returns-clause-ready : goal.returns-clause-ready
returns-clause-ready c =
    let s = c.args.self.now in
    let w = (goal.at.returns-clause-ready c).In_ok-reply in
    let made = c.act-agent.ensures s.regs refl in
    let r = c.requires in
    let whole = reply_whole s.table.now s.state.now s.regs r.state_long (few s.table.now r.good) _ _ ∙ accepts w in
    record {
      table_long = r.table_long;
      good = r.good;
      state_long = words_length _ _ _ _ _ _ _ made r.state_long r.regs_wide (low w);
      regs_wide = length-set s.regs _ _ ∙ r.regs_wide;
      lates = lates_after _ _ _ _ _ _ _ made r.state_long r.regs_wide (low w) s.lates r.lates _ c.late_at.ensures;
      deadline_in_time = deadline_after _ _ _ _ _ _ _ made r.state_long r.regs_wide (low w) r.good whole s.lates r.lates _ c.deadline_for-self.ensures.1 _ c.late_at.ensures;
    }

pub returns-clause-took : goal.returns-clause-took
unfolding Takes
returns-clause-took c =
    let s = c.args.self.now in
    let w = (goal.at.returns-clause-took c).In_ok-reply in
    let made = c.act-agent.ensures s.regs refl in
    let is = whole_after _ _ _ _ _ _ _ made c.requires.state_long c.requires.regs_wide (low w) in (
      reply_whole s.table.now s.state.now s.regs c.requires.state_long (few s.table.now c.requires.good) _ _ ∙ accepts w,
      is,
      agent_is _ _ _ _ _ _ _ made ∙ ap (λ (l : List ℕ). agent_at l c.args.a) (sym is),
    )

pub returns-in_err-reply-clause-took : goal.returns-in_err-reply-clause-took
returns-in_err-reply-clause-took c =
    let s = c.args.self.now in
    takes_refusal _ _ _ _ _ c.from_residual.result c.from_residual.ensures.1
    (reply_whole s.table.now s.state.now s.regs c.requires.state_long (few s.table.now c.requires.good) _ _ ∙ refused_is c.reply.ensures c.in_err-reply.was)

pub returns-in_err-reply-clause-ready : goal.returns-in_err-reply-clause-ready
returns-in_err-reply-clause-ready c =
    let r = c.requires in
    record {
      table_long = r.table_long;
      good = r.good;
      state_long = r.state_long;
      regs_wide = r.regs_wide;
      lates = r.lates;
      deadline_in_time = c.deadline_for-self.ensures.1;
    }

pub reply-requires : goal.reply-requires
reply-requires c =
    let r = c.requires in
    (r.table_long, r.state_long, r.good, in_time_lates _ r.good _ _ r.lates _ (omega arith) ∙ c.deadline_for-self.ensures.0)

pub act-agent-requires : goal.act-agent-requires
act-agent-requires c = (c.requires.table_long, c.requires.state_long, c.requires.good, accepts (goal.at.act-agent-requires c).In_ok-reply)

pub bounds-self-b : goal.bounds-self-b
bounds-self-b c = low (goal.at.bounds-self-b c).In_ok-reply

pub bounds-self-b-2 : goal.bounds-self-b-2
bounds-self-b-2 c = low (goal.at.bounds-self-b-2 c).In_ok-reply

pub bounds-self-b-3 : goal.bounds-self-b-3
bounds-self-b-3 c = low (goal.at.bounds-self-b-3 c).In_ok-reply

pub late_at-requires : goal.late_at-requires
late_at-requires c =
    let l = low (goal.at.late_at-requires c).In_ok-reply in
    let s = short c.args.self.now.table.now c.requires.good _ l in
    let n = c.requires.table_long in
    (omega arith, l, s)
