-- `trace_all` reads an input, and writes its trace. Assumes nothing.
use Rattle.std.proofs.Common.{◌≡◌, ◌∙◌, Ok}
use Rattle.std.proofs.lemmas.Result.{on_ok_weaker, IfOk-at_ok}
use Rattle.streams.proofs.Traces.{on_ok_as, was_ok, traced_onto}
use Rattle.streams.proofs.trace_all.Goals as goal

pub returns-clause-traced : goal.returns-clause-traced
returns-clause-traced g c =
    let r = c.read_full in
    let m = c.map_err.ensures in
    let e : r.result ≡ Ok c.in_ok-n.n = was_ok _ r.result _ _ m.cases m.variant c.in_ok-n.was in
    on_ok_as _ _ _ c.map_err-2.ensures.variant
    (on_ok_weaker c.write_all.result
    (traced_onto _ _ _ _ c.in_ok-n.n r.new.buffer c.filled-out.result _ _ _ (r.auto.buffer ∙ c.filled-input.ensures.len)
    (IfOk-at_ok _ e r.ensures.within) (IfOk-at_ok _ e r.ensures.bytes) (IfOk-at_ok _ e r.ensures.end) c.filled-out.ensures.len c.trace-told.ensures.wrote)
    c.write_all.ensures.bytes)
