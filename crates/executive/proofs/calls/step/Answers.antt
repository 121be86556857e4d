-- `step` meets its contract: what the words are refused with, or the one choice taken; the words past the state follow. Assumes nothing.
use mathlib.Core.Path.{◌∙◌, sym}
use Rattle.tables.specs.Replies.{reply}
use Rattle.executive.specs.Calls.{step_reply}
use Rattle.executive.proofs.Ready.{then_first, all_ready}
use Rattle.tables.proofs.Refusals.{no_zero}
use Rattle.executive.proofs.Outcomes.{step_stops}
use Rattle.executive.proofs.RunOn.{alone_step}
use Rattle.executive.proofs.calls.step.Goals as goal

pub returns-in-Ok : goal.returns-in-Ok
unfolding reply
returns-in-Ok c = alone_step _ _ _ _ _ _ _ (all_ready _ _ c.in_ok-words_reply.ensures.ready) c.in-Ok.ensures

pub returns-in-Err : goal.returns-in-Err
unfolding reply
returns-in-Err c = alone_step _ _ _ _ _ _ _ (all_ready _ _ c.in_ok-words_reply.ensures.ready) c.in-Err.ensures

pub returns-in_err-words_reply : goal.returns-in_err-words_reply
unfolding reply step_reply
returns-in_err-words_reply c =
    let w = c.in_err-words_reply.ensures.told in
    step_stops _ _ _ _ _ _ c.from_residual.ensures.1 (w ∙ sym (then_first _ _ (λ e. no_zero _ (w ∙ e))))
