-- `run` meets its contract: the refusals before any step, or the run; the words past the state follow. Assumes nothing.
use mathlib.Core.List.{[], ◌∷◌}
use native.Mathlib.Omega.{arith}
use borrow.Author.Tests.{le-ltb, eq-eqb, ne_eqb}
use Rattle.tables.specs.Basics.{first}
use Rattle.tables.specs.Replies.{reply, number_of}
use Rattle.executive.specs.Calls.{run_refusal}
use Rattle.tables.proofs.Refusals.{no_zero}
use Rattle.executive.proofs.Refusals.{first_of}
use Rattle.executive.proofs.Outcomes.{run_stops, run_refused, run_ends}
use Rattle.executive.proofs.calls.run.Goals as goal

pub returns : goal.returns
unfolding reply run_refusal first
returns c =
    let room = c.in_ok-enough_words.ensures.room in
    run_ends _ _ _ _ _ _ (rw (le-ltb _ _ room.0, le-ltb _ _ room.1, ne_eqb _ _ c.if-choices-eq1.false) c.in_ok-good_words.ensures.told) c.run_choices.ensures

pub returns-in_err-enough_words : goal.returns-in_err-enough_words
unfolding reply run_refusal
returns-in_err-enough_words c = run_refused _ _ _ _ _ c.from_residual.ensures.1 (first_of (_ ∷ _ ∷ []) (_ ∷ _ ∷ []) c.in_err-enough_words.ensures.told (no_zero _))

pub returns-then-choices-eq1 : goal.returns-then-choices-eq1
unfolding number_of run_refusal first
returns-then-choices-eq1 c =
    let room = c.in_ok-enough_words.ensures.room in
    rw c.from.ensures (run_stops _ _ _ 16 (rw (le-ltb _ _ room.0, le-ltb _ _ room.1, eq-eqb _ _ c.if-choices-eq1.true)) (λ e. omega arith))

pub returns-in_err-good_words : goal.returns-in_err-good_words
unfolding reply run_refusal first
returns-in_err-good_words c =
    let room = c.in_ok-enough_words.ensures.room in
    run_refused _ _ _ _ _ c.from_residual-in_err-good_words.ensures.1 (rw (le-ltb _ _ room.0, le-ltb _ _ room.1, ne_eqb _ _ c.if-choices-eq1.false) c.in_err-good_words.ensures.told)
