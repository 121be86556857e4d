-- What the call `trace` replies and leaves, as one statement over its inputs, its reply and every lent byte afterwards. Assumes nothing.
use Rattle.std.specs.Prelude.{◌≡◌, true, false, List, ◌++◌, ℕ, ltb, length, drop}
use Rattle.std.proofs.Common.{sym, ◌∙◌}
use Rattle.traces.specs.Output.{Traced, trace_of}

-- 512 lines of 47 bytes and the last of 9: the longest output
abbrev pub longest_output : ℕ
longest_output = 24073

-- the reply number, the length of the text, and the bytes of the lent output afterwards
pub record TraceOutcome : Type 0 where
  pub reply : ℕ
  pub length : ℕ
  pub out : List ℕ

abbrev pub trace_outcome : ℕ → ℕ → List ℕ → TraceOutcome
trace_outcome r n bs = record { reply = r; length = n; out = bs }

-- the text, and what stands after it in the buffer as it was
abbrev pub written : Traced → List ℕ → TraceOutcome
written q out = trace_outcome q.reply (length q.bytes) (q.bytes ++ drop (length q.bytes) out)

-- an output buffer shorter than the longest output is refused with 1 before all else
unfoldable pub trace_into : (input out : List ℕ) → TraceOutcome
trace_into input out = elim (ltb (length out) longest_output) [ true ↦ trace_outcome 1 0 out | false ↦ written (trace_of input) out ]

abbrev pub WroteTrace : (input out : List ℕ) (reply length : ℕ) (after : List ℕ) → Type 0
WroteTrace input out r n bs = trace_outcome r n bs ≡ trace_into input out

pub only_wrote_trace : (input out : List ℕ) (r s n m : ℕ) (after other : List ℕ) → WroteTrace input out r n after → WroteTrace input out s m other
    → trace_outcome r n after ≡ trace_outcome s m other
only_wrote_trace input out r s n m after other p q = p ∙ sym q
