-- The whole output in the lent buffer. Assumes nothing.
use mathlib.Core.Path.{◌≡◌, sym, ap, ◌∙◌}
use mathlib.Core.List.{List}
use Prim.Native.Nat.{ℕ, ◌+◌, ◌≤◌, ◌<◌}
use native.Mathlib.Omega.{arith}
use lib.ListN.{length, drop, length-append}
use lib.Seq.{length-take-le}
use borrow.Author.Tests.{lt-ltb, le-ltb}
use Rattle.traces.specs.Output.{Traced, traced, last_line, trace_of}
use Rattle.traces.specs.Calls.{TraceOutcome, trace_outcome, longest_output, trace_into, written, WroteTrace}
use Rattle.traces.specs.Places.{last, ending, Counts}
use Rattle.traces.proofs.Steps.{last_line_length, placed_start}

pub too_short : (input out : List ℕ) → length out < longest_output → WroteTrace input out 1 0 out
unfolding trace_into
too_short input out h = rw (lt-ltb (length out) longest_output h, trace_into)

module _ (input out : List ℕ) (long : longest_output ≤ length out) where
  -- where the last line is the only one
  pub one_line : (reply k : ℕ) → trace_of input ≡ traced reply (last_line reply k) → ending (last 0 reply k) out ≡ written (trace_of input) out
  one_line reply k e =
      let l = last_line_length reply k in
      placed_start (traced reply (last_line reply k)) out (omega arith) ∙ ap (λ (q : Traced). written q out) (sym e)

  -- the step lines and the last line are the whole
  pub whole : (r n : ℕ) (after : List ℕ) → trace_outcome r n after ≡ written (trace_of input) out → WroteTrace input out r n after
  unfolding trace_into
  whole r n after f = f ∙ rw (le-ltb (length out) longest_output long, trace_into)

-- a trace that stands whole has its bytes in the buffer
pub counts : (q : Traced) (n : ℕ) (out after : List ℕ) (r : ℕ) → trace_outcome r n after ≡ written q out → Counts n after
counts q n out after r f =
    let k : n ≡ length q.bytes = ap (λ (x : TraceOutcome). x.length) f in
    let a : length after ≡ length q.bytes + length (drop (length q.bytes) out) = ap (λ (x : TraceOutcome). length x.out) f ∙ length-append q.bytes _ in
    let h : n ≤ length after = omega arith in
    record { within = h; counted = sym (length-take-le n after h) }
