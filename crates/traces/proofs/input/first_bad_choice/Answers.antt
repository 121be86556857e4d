use native.Mathlib.Omega.{arith}
use mathlib.Core.Path.{sym, ap, ◌∙◌}
use Prim.Native.Nat.{ℕ, ◌+◌, ◌≤◌}
use lib.ListN.{length}
use Rattle.reading.specs.Reader.{told}
use Rattle.traces.proofs.Choices.{IsChoice, choice_room, bad_next, bad_here, bad_none}
use Rattle.traces.proofs.input.first_bad_choice.Goals as goal
use Rattle.traces.proofs.input.first_bad_choice.Goals.{In_default}

pub returns : goal.returns
returns c =
    let l = c.loop-p in
    sym (bad_none _ l.p (omega arith) l.n) ∙ l.invariant.2

pub returns-in-Err : goal.returns-in-Err
returns-in-Err c =
    let l = c.loop-p in
    ap (λ (r : ℕ). told r l.n) c.from-refusal.ensures
    ∙ sym (bad_here _ l.p (omega arith) l.n _ (sym c.judge_choice.ensures ∙ c.in-Err.is))
    ∙ l.invariant.2

-- a choice line stands here, and the next one begins behind it
is_choice : (c : In_default) → IsChoice c.args.input.now c.loop-p.p
is_choice c = sym c.judge_choice.ensures ∙ c.in_default.is

choice_fits : (c : In_default) → c.loop-p.p + 13 ≤ length c.args.input.now
choice_fits c = choice_room _ _ (is_choice c) c.loop-p.invariant.0

pub loop-p-preserved : goal.loop-p-preserved
loop-p-preserved c =
    let l = c.loop-p in
    let r = choice_fits (goal.at.loop-p-preserved c).In_default in
    (r, omega arith, sym (bad_next c.args.input.now l.p (is_choice (goal.at.loop-p-preserved c).In_default) l.n) ∙ l.invariant.2)

pub returns-in_default : goal.returns-in_default
returns-in_default c =
    let l = c.loop-p in
    let r = choice_fits (goal.at.returns-in_default c).In_default in
    sym (bad_none _ (l.p + 13) (omega arith) (l.n + 1)) ∙ sym (bad_next c.args.input.now l.p (is_choice (goal.at.returns-in_default c).In_default) l.n) ∙ l.invariant.2
