use native.Mathlib.Omega.{arith}
use mathlib.Core.Path.{◌≡◌, refl, ap, ◌∙◌}
use mathlib.Core.List.{[]}
use Prim.Native.Nat.{◌+◌, ◌*◌, ◌/◌, ◌<◌}
use lib.ListN.{length, get_or}
use Rattle.tables.proofs.Judging.{pair_first, pair_second}
use Rattle.tables.proofs.Refusals.{no_zero}
use Rattle.executive.specs.Run.{ended}
use Rattle.std.proofs.Common.{rules}
use Rattle.executive.proofs.RunOn.{ended_as, takes_ok, takes_err, none_more, turn_ends, turn_goes, turn_count}
use Rattle.executive.proofs.running.take_choices.Goals as goal
use Rattle.executive.proofs.running.take_choices.Goals.{In-loop-pair}

pub returns : goal.returns
returns c =
    let i = c.loop-pair.invariant in
    let same = i.3 in
    let e = c.as_chunks.ensures.front_len in
    ended_as (ap (ended 0 c.loop-pair.count) c.end-2.ensures.stored ∙ none_more _ _ _ _ _ _ i.0 (omega arith)) (search rules)

-- the choice that the loop is at
module _ (c : In-loop-pair) where
  more : c.loop-pair.pair-index < length c.args.choices.now / 2
  more = let e = c.as_chunks.ensures.front_len in omega arith

  agent_is : get_or (get_or c.as_chunks.result.0.now c.loop-pair.pair-index []) 0 0 ≡ get_or c.args.choices.now (2 * c.loop-pair.pair-index) 0
  agent_is = rw c.as_chunks.ensures.front (pair_first _ c.loop-pair.pair-index c.args.choices.now (omega (arith, more)))

  time_is : get_or (get_or c.as_chunks.result.0.now c.loop-pair.pair-index []) 1 0 ≡ get_or c.args.choices.now (2 * c.loop-pair.pair-index + 1) 0
  time_is = rw c.as_chunks.ensures.front (pair_second _ c.loop-pair.pair-index c.args.choices.now (omega (arith, more)))

pub loop-pair-preserved : goal.loop-pair-preserved
loop-pair-preserved c =
    let w = (goal.at.loop-pair-preserved c).In-loop-pair in
    let i = c.loop-pair.invariant in
    let e = c.take.ensures in
    let z = takes_ok _ _ _ _ _ e.took c.in_default.is in
    let l = turn_goes _ _ _ _ _ _ i.0 (more w) _ _ (agent_is w) (time_is w) (rw i.2 at z.0) _ (rw i.2 at z.1) in
    (l, e.ready, e.same_table ∙ i.2, e.same_reference ∙ i.3)

pub returns-in-Err : goal.returns-in-Err
returns-in-Err c =
    let w = (goal.at.returns-in-Err c).In-loop-pair in
    let i = c.loop-pair.invariant in
    let same = i.3 in
    let z = takes_err _ _ _ _ _ c.take.ensures.took c.in-Err.is in
    ended_as (ap (ended _ c.loop-pair.count) (c.end.ensures.stored ∙ z.1) ∙ turn_ends _ _ _ _ _ _ i.0 (more w) _ _ (agent_is w) (time_is w) _ (rw i.2 at z.0) (no_zero _)) (search rules)

pub overflow_add-count : goal.overflow_add-count
overflow_add-count c =
    let w = (goal.at.overflow_add-count c).In-loop-pair in
    let i = c.loop-pair.invariant in
    let r = c.requires in
    let z = takes_ok _ _ _ _ _ c.take.ensures.took c.in_default.is in
    let k = turn_count _ _ _ _ _ _ i.0 (more w) _ _ (agent_is w) (time_is w) (rw i.2 at z.0) _ (rw i.2 at z.1) r.2 r.1 r.3 in
    omega arith

pub loop-pair-init : goal.loop-pair-init
loop-pair-init c =
    let e = c.begin-turns.ensures in
    (record { count = refl; ends = rw e.whole refl }, e.ready, e.same_table, refl)

pub take-requires : goal.take-requires
take-requires c = c.loop-pair.invariant.1
