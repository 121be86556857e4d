-- From what was read, traced and written to what the whole does; and what a result says whose error is another one. Assumes nothing.
use Rattle.std.proofs.Common.{◌≡◌, ℕ, ◌+◌, ◌≤◌, ◌<◌, List, Result, Ok, Err, OnOk, refl, ap, ◌∙◌, subst, arith, length, take, drop, length-take-le}
use Rattle.std.specs.Result.{is_ok, MatchResult}
use Rattle.std.specs.declared.option.Option.{Option}
use Rattle.std.specs.Io.KnownBytes.{Appends, Consumes, IsAtEnd}
use lib.Seq.{take-append_seam}
use borrow.Author.Tests.{le-ltb}
use Rattle.traces.specs.Input.{longest_input}
use Rattle.traces.specs.Output.{trace_of}
use Rattle.traces.specs.Calls.{TraceOutcome, trace_outcome, longest_output, written, trace_into, WroteTrace}
use Rattle.streams.specs.Tracing.{TracesOnto}

-- ---- a result with another error

pub on_ok_as : {T E D : Type 0} (P : Type 0) (r : Result T E) (s : Result T D) → is_ok s ≡ is_ok r → OnOk r P → OnOk s P
on_ok_as P (Ok x) (Ok y) e p = p
on_ok_as P (Ok x) (Err d) e p = absurd cc
on_ok_as P (Err d) (Ok y) e p = absurd cc
on_ok_as P (Err d) (Err f) e p = tt

pub was_ok : {T E D : Type 0} (Q : E → Type 0) (r : Result T E) (s : Result T D) (x : T) → MatchResult r (λ y. s ≡ Ok y) Q → is_ok s ≡ is_ok r → s ≡ Ok x → r ≡ Ok x
was_ok Q (Ok y) s x p e h = cc
was_ok Q (Err d) s x p e h = absurd cc

-- ---- the bytes of the text

wrote_bytes : (input out : List ℕ) (r m : ℕ) (after : List ℕ) → longest_output ≤ length out → WroteTrace input out r m after → take m after ≡ (trace_of input).bytes
unfolding trace_into
wrote_bytes input out r m after long w =
    let bytes = (trace_of input).bytes in
    let e : trace_outcome r m after ≡ written (trace_of input) out = w ∙ rw (le-ltb (length out) longest_output long, trace_into) refl in
    ap (λ (q : TraceOutcome). take q.length q.out) e ∙ take-append_seam bytes (drop (length bytes) out)

pub traced_onto : (before left held holds : Option (List ℕ)) (n : ℕ) (buffer out : List ℕ) (r m : ℕ) (after : List ℕ)
    → length buffer ≡ longest_input + 1 → n ≤ length buffer → Consumes before left (take n buffer) → (n < length buffer → IsAtEnd left)
    → length out ≡ longest_output → WroteTrace (take n buffer) out r m after → Appends held holds (take m after) → TracesOnto before left held holds
traced_onto before left held holds n buffer out r m after size within took end room wrote put =
    let counted : length (take n buffer) ≡ n = length-take-le n buffer within in (
      take n buffer,
      omega arith,
      took,
      λ short. end (omega arith),
      subst (Appends held holds) (wrote_bytes (take n buffer) out r m after (omega arith) wrote) put,
    )
