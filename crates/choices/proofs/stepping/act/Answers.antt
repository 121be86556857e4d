-- `act` meets its contract: what is made on the way is what an accepted choice of the whole state makes. Assumes nothing.
use Rattle.std.proofs.Common.{◌≡◌, length, ap, ◌∙◌, arith}
use Rattle.tables.proofs.Good.{few}
use Rattle.tables.proofs.Families.{x_range}
use Rattle.choices.proofs.Choosing.{chosen_low, chosen_within, chosen_formed, act_read}
use Rattle.choices.proofs.stepping.act.Goals as goal

pub position-requires : goal.position-requires
position-requires c =
    let low = chosen_low c.args.table.now c.args.state.now c.requires.2 c.args.a c.args.t c.requires.3 in
    (omega arith, low)

pub row_at-r-requires : goal.row_at-r-requires
row_at-r-requires c =
    let tb = c.args.table.now in
    let st = c.args.state.now in
    let low = chosen_low tb st c.requires.2 c.args.a c.args.t c.requires.3 in
    (omega arith, low, rw c.position.ensures (chosen_within tb st c.requires.2 c.args.a c.args.t c.requires.3))

pub effect-agent-requires : goal.effect-agent-requires
effect-agent-requires c =
    let p = c.position.ensures in
    let tb = c.args.table.now in
    let st = c.args.state.now in
    let low = chosen_low tb st c.requires.2 c.args.a c.args.t c.requires.3 in
    let formed = chosen_formed tb st c.requires.2 c.args.a c.args.t c.requires.3 in
    (omega arith, omega arith, few tb c.requires.2, rw p (chosen_within tb st c.requires.2 c.args.a c.args.t c.requires.3), rw (c.row_at-r.ensures, p) formed)

pub put_choice-requires : goal.put_choice-requires
put_choice-requires c =
    let p = c.position.ensures in
    let tb = c.args.table.now in
    let st = c.args.state.now in
    let low = chosen_low tb st c.requires.2 c.args.a c.args.t c.requires.3 in
    let formed = chosen_formed tb st c.requires.2 c.args.a c.args.t c.requires.3 in
    (omega arith, low, rw p (chosen_within tb st c.requires.2 c.args.a c.args.t c.requires.3), rw (c.row_at-r.ensures, p) (x_range _ formed))

pub returns : goal.returns
returns c grid e =
    let four : length c.args.own ≡ 4 = omega arith in
    let tb = c.args.table.now in
    let st = c.args.state.now in
    let low = chosen_low tb st c.requires.2 c.args.a c.args.t c.requires.3 in
    act_read tb st grid c.requires.1 (few tb c.requires.2) c.args.a c.args.t low (ap length e ∙ four) (chosen_within tb st c.requires.2 c.args.a c.args.t c.requires.3)
    _ c.position.ensures _ e _ _ _ c.row_at-r.ensures c.effect-agent.ensures c.put_choice.ensures
