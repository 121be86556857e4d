use Rattle.std.proofs.Common.{◌≡◌, ◌+◌, Some, sym, refl, ap, ◌∙◌, add-one, arith, rules}
use Rattle.choices.proofs.Looking.{none_taken, better_early, one_better, one_left}
use Rattle.tables.specs.Layout.{agents}
use Rattle.tables.specs.declared.Row.{Row}
use Rattle.choices.specs.declared.Message.{Message}
use Rattle.choices.specs.State.{pool}
use Rattle.choices.specs.Messages.{look_rows, look_agents, best}
use Rattle.choices.proofs.messages.find_best.Goals as goal
use Rattle.choices.proofs.messages.find_best.Goals.{then-is_better, else-is_better}

pub agents-init : goal.agents-init
unfolding look_agents
agents-init c = (search rules, search rules, refl, none_taken 0)

pub loop-i-init : goal.loop-i-init
unfolding look_rows
loop-i-init c =
    let o = c.agents in
    (search rules, search rules, (refl, λ l j h. o.invariant.3 l o.b j (omega arith), λ l d j h. o.invariant.3 l d j (omega arith)))

pub overflow_add-least_of_next : goal.overflow_add-least_of_next
overflow_add-least_of_next c =
    let g = c.args in
    let b = c.agents.b in
    let l = c.loop-i in
    let h = better_early g.table.now (pool g.state.now) g.r b l.i _ (sym c.if-is_better.true ∙ c.is_better.ensures) in
    let e = ap (λ (x : Row). x.late) c.row_at-sender.ensures in
    omega (arith, h)

pub loop-i-preserved : goal.loop-i-preserved
loop-i-preserved c =
    let g = c.args in
    let o = c.agents in
    let l = c.loop-i in
    let q = c.is_better.ensures in
    let j = c.if-is_better in (
      omega arith,
      omega arith,
      elim j.branch [
        | then-is_better u ↦ one_better g.table.now (pool g.state.now) g.r o.b o.m l.i l.m l.least_of_next l.least l.invariant.2 j.m j.least_of_next j.least
            (u.m-is ∙ ap (λ (x : Message). Some x) u.message_at.ensures) (u.least_of_next-is ∙ ap (λ (x : Row). x.late + 1) u.row_at-sender.ensures) (u.least-is ∙ ap (λ (x : Row). x.late) u.row_at-sender.ensures) (sym u.if-is_better.true ∙ q)
        | else-is_better u ↦ one_left g.table.now (pool g.state.now) g.r o.b o.m l.i l.m l.least_of_next l.least l.invariant.2 j.m j.least_of_next j.least
            u.m-is u.least_of_next-is u.least-is (sym u.if-is_better.false ∙ q)
      ],
    )

pub agents-preserved : goal.agents-preserved
unfolding look_agents
agents-preserved c =
    let l = c.loop-i in
    let o = c.agents in
    let e : l.i ≡ 32 = omega arith in
    (omega arith, omega arith, rw (add-one o.b) (l.invariant.2.0 ∙ rw (e, o.invariant.2)), l.invariant.2.2)

pub returns-after-agents : goal.returns-after-agents
unfolding best
returns-after-agents c =
    let o = c.agents in
    let e : o.b ≡ agents c.args.table.now = omega arith in
    rw e at o.invariant.2

pub returns-then-b-n : goal.returns-then-b-n
unfolding best look_rows
returns-then-b-n c =
    let l = c.loop-i in
    let o = c.agents in
    let z : l.i ≡ 0 = omega arith in
    let e : o.b ≡ agents c.args.table.now = omega arith in
    (rw z at l.invariant.2.0) ∙ (rw e at o.invariant.2)
