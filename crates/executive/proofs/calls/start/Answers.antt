-- `start` meets its contract: what it is refused with, or the start state; the words past the state follow. Assumes nothing.
use mathlib.Core.Path.{ap, ◌∙◌}
use mathlib.Core.List.{List, ◌++◌}
use Prim.Native.Nat.{ℕ}
use lib.ListN.{drop}
use Rattle.tables.specs.Replies.{reply}
use Rattle.executive.specs.Calls.{outcome}
use Rattle.executive.proofs.Outcomes.{start_stops, start_goes}
use Rattle.executive.proofs.calls.start.Goals as goal

pub returns : goal.returns
unfolding reply
returns c =
    let st = c.args.state.now in
    ap (λ (l : List ℕ). outcome 0 (l ++ drop 1105 st)) c.put_start.ensures ∙ start_goes c.args.table.now st c.in_ok-start_reply.ensures.told

pub returns-in_err-start_reply : goal.returns-in_err-start_reply
unfolding reply
returns-in_err-start_reply c = start_stops _ _ _ _ c.from_residual.ensures.1 c.in_err-start_reply.ensures.told
