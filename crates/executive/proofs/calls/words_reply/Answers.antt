-- `words_reply` meets its contract: what `start` is refused with stands first. Assumes nothing.
use mathlib.Core.List.{[], ◌∷◌}
use Rattle.tables.specs.Replies.{reply}
use Rattle.executive.specs.Calls.{start_reply, words_reply}
use Rattle.executive.proofs.Refusals.{given_back, first_of}
use Rattle.executive.proofs.calls.words_reply.Goals as goal

pub returns-in_err-start_reply-clause-told : goal.returns-in_err-start_reply-clause-told
unfolding reply start_reply words_reply
returns-in_err-start_reply-clause-told c =
    let g = given_back _ c.from_residual.result c.from_residual.ensures.1 c.in_err-start_reply.ensures.told in
    first_of (_ ∷ _ ∷ _ ∷ []) (_ ∷ []) g.0 g.1
