-- What document 002 assumes of its constants holds of every table that is accepted, by the rules of its rows; and what it shows of behaviours holds of its behaviours.
use mathlib.Core.Path.{◌≡◌, ap, ◌∙◌}
use Prim.Native.Nat.{ℕ}
use native.Mathlib.Omega.{arith}
use borrow.Author.Tests.{ltb-true, lt-leb, leb-false}
use Rattle.pharos.specs.Published.{exec}
use Rattle.pharos.proofs.Functional.{except_at}
use Rattle.pharos.proofs.GoodStates.{init_good}
use Rattle.pharos.proofs.Invariants.{invariant, message_invariant}
use Rattle.pharos.proofs.Filter.{filter_is_002's}
use Rattle.tables.specs.Layout.{row, rows}
use Rattle.tables.proofs.Good.{window, window_on, some as some_agents, some_rows}
use Rattle.tables.proofs.Onward.{rises}
use Rattle.choices.specs.declared.Agent.{Agent}
use Rattle.demands.specs.Instance.{published}
use Rattle.demands.specs.Assumed.{AssumptionsHold, StartIsGood, StepsRaise, FilterOfTablesIs002's, InvariantsHold}
use Rattle.demands.proofs.Rows.{goes_on_lem}
use Rattle.demands.proofs.Demand2.{start_is_models}

pub assumptions_hold : AssumptionsHold
assumptions_hold tb table = let good = table.good in record {
  instr_of_type = λ a s real live. window tb good a real s.pos (leb-false _ _ live);
  Update_monotonic = λ a s real live msgs got live'.
      (window_on tb good a real s.pos (leb-false _ _ live) _ (goes_on_lem tb a s msgs (row tb a s.pos) got) (leb-false _ _ live')).1;
  visible_cond = λ di dj h. ltb-true _ _ h;
}

pub start_is_good : StartIsGood
start_is_good tb table =
    let real = some_agents tb table.good in
    init_good (published tb) (assumptions_hold tb table) 0 real (lt-leb (rows tb 0) 0 (some_rows tb table.good 0 real)) _ (start_is_models tb table).1

pub steps_raise : StepsRaise
steps_raise tb a pre post e =
    let at : (post.st a).pos ≡ (exec (published tb) a (pre.st a) pre.msgs e.got).0.pos =
    ap (λ (f : ℕ → Agent). (f a).pos) e.st ∙ ap (λ (s : Agent). s.pos) (except_at pre.st a _) in
    let (up, _) = rises (row tb a (pre.st a).pos) _ _ (goes_on_lem tb a (pre.st a) pre.msgs (row tb a (pre.st a).pos) e.got) in
    omega arith

pub filter_of_tables_is_002's : FilterOfTablesIs002's
filter_of_tables_is_002's tb g h r b = filter_is_002's (published tb) (steps_raise tb) r b

pub invariants_hold : InvariantsHold
invariants_hold tb table h r =
    let ok = assumptions_hold tb table in
    let init = (start_is_models tb table).1 in
    (invariant (published tb) ok init r, message_invariant (published tb) ok init r)
