use native.Mathlib.Omega.{arith}
use borrow.Author.Rules.{rules}
use mathlib.Core.Path.{◌≡◌, refl, ◌∙◌}
use Rattle.tables.specs.Heads.{digits_at}
use mathlib.Core.Bool.{true}
use mathlib.Core.List.{◌++◌}
use Prim.Native.Nat.{ℕ, ◌+◌, ◌≤◌, zero-le}
use lib.ListN.{length}
use Rattle.tables.specs.Lines.{field}
use Rattle.tables.proofs.Heads.{field_asks}
use Rattle.tables.proofs.Refusals.{no_zero}
use Rattle.choices.specs.Step.{choice_reply}
use Rattle.choices.specs.Registers.{with_regs}
use Rattle.choices.proofs.Choosing.{whole_length}
use Rattle.executive.proofs.RunOn.{takes_ok, takes_err}
use Rattle.traces.proofs.Going.{digits, refused, one_more, on, none_more, all_written, begin, few_steps}
use Rattle.traces.proofs.tracing.put_step_lines.Goals as goal
use Rattle.traces.proofs.tracing.put_step_lines.Goals.{In-Some}

-- a turn takes one line of 13 bytes off the front
cut : (c : In-Some) → c.loop-line.line-iterator.rest.now ≡ c.in-Some.line.now ++ c.next.new.self.rest.now
cut c = c.in-Some.ensures.steps.1.0

long : (c : In-Some) → length c.in-Some.line.now ≡ 13
long c = c.in-Some.ensures.steps.1.1 ∙ c.loop-line.invariant.0

whole_line : (c : In-Some) → digits_at 12 c.in-Some.line.now 0 ≡ true
whole_line c = digits _ _ _ _ _ _ _ c.loop-line.invariant.1 _ _ (cut c) (long c)

pub loop-line-preserved : goal.loop-line-preserved
loop-line-preserved c =
    let l = c.loop-line in
    let i = l.invariant in
    let w = (goal.at.loop-line-preserved c).In-Some in
    let e = c.take.ensures in
    let z = takes_ok _ _ _ _ _ e.took c.in-Ok.is in (
      c.in-Some.ensures.steps.0 ∙ i.0,
      on _ _ _ _ _ _ _ i.1 _ _ (cut w) (long w) _ _ c.field-a.ensures c.field-t.ensures (rw i.3 at z.0) _ _ _ c.requires.1 (whole_length l.turns.state.now l.turns.regs i.2.state_long)
          (rw i.3 at z.1) z.2 c.put_step_line.ensures,
      e.ready,
      e.same_table ∙ i.3,
    )

pub loop-line-init : goal.loop-line-init
loop-line-init c =
    let e = c.begin-turns.ensures in (
      search rules,
      begin _ _ _ _ c.requires.1 c.requires.0 c.requires.2 (e.whole ∙ c.put_start.ensures) _ (search rules),
      e.ready,
      e.same_table,
    )

pub returns-in-Err-clause-traced : goal.returns-in-Err-clause-traced
returns-in-Err-clause-traced c =
    let i = c.loop-line.invariant in
    let w = (goal.at.returns-in-Err-clause-traced c).In-Some in
    let z = takes_err _ _ _ _ _ c.take.ensures.took c.in-Err.is in
    all_written _ _ _ _ _ _ _ i.1 _ c.requires.3 (refused _ _ _ _ _ _ _ i.1 _ _ (cut w) (long w) _ _ c.field-a.ensures c.field-t.ensures _ (no_zero _) (rw i.3 at z.0))

pub returns-in-Err-clause-few : goal.returns-in-Err-clause-few
returns-in-Err-clause-few c = few_steps _ _ _ _ _ _ _ c.loop-line.invariant.1

pub returns-clause-few : goal.returns-clause-few
returns-clause-few c = few_steps _ _ _ _ _ _ _ c.loop-line.invariant.1

pub returns-clause-traced : goal.returns-clause-traced
returns-clause-traced c =
    let i = c.loop-line.invariant in
    let s = i.0 in
    all_written _ _ _ _ _ _ _ i.1 _ c.requires.3 (none_more _ _ _ _ _ _ _ i.1 (omega (arith, c.in-None.ensures.steps.1.0)))

pub field-a-requires : goal.field-a-requires
field-a-requires c =
    let w = (goal.at.field-a-requires c).In-Some in
    let l = long w in
    field_asks 12 c.in-Some.line.now 0 (whole_line w) 2 2 2 refl zero-le (omega arith) (omega arith)

pub field-t-requires : goal.field-t-requires
field-t-requires c =
    let w = (goal.at.field-t-requires c).In-Some in
    let l = long w in
    field_asks 12 c.in-Some.line.now 0 (whole_line w) 4 4 8 refl zero-le (omega arith) (omega arith)

pub take-requires : goal.take-requires
take-requires c = c.loop-line.invariant.2

-- so an accepted choice's line has room
more : (c : In-Some) (a t : ℕ) → a ≡ field c.in-Some.line.now 2 2 → t ≡ field c.in-Some.line.now 4 8
    → choice_reply c.args.table.now (with_regs c.loop-line.turns.state.now c.loop-line.turns.regs) a t ≡ 0 → c.loop-line.n + 1 ≤ 512
more c a t ea et z = one_more _ _ _ _ _ _ _ c.loop-line.invariant.1 _ _ (cut c) (long c) a t ea et z

pub put_step_line-requires : goal.put_step_line-requires
put_step_line-requires c =
    let i = c.loop-line.invariant in
    let z = takes_ok _ _ _ _ _ c.take.ensures.took c.in-Ok.is in
    let m = more (goal.at.put_step_line-requires c).In-Some _ _ c.field-a.ensures c.field-t.ensures (rw i.3 at z.0) in
    let o = i.1.out_long in
    let w = c.requires.3 in
    omega arith

pub overflow_add-n : goal.overflow_add-n
overflow_add-n c =
    let i = c.loop-line.invariant in
    let z = takes_ok _ _ _ _ _ c.take.ensures.took c.in-Ok.is in
    let m = more (goal.at.overflow_add-n c).In-Some _ _ c.field-a.ensures c.field-t.ensures (rw i.3 at z.0) in
    omega arith
