-- Vocabulary of the code alone, in which this crate's functions are stated, and what a caller that lends a part has to know: the public statement
-- `WroteTrace` does not need it.
-- What is put at a place of the output. Assumes nothing.
use Rattle.std.specs.Prelude.{Result, Ok, Err, List, ◌≡◌, ℕ, ◌+◌, ◌*◌, ◌≤◌, length, take}
use Rattle.std.proofs.lemmas.List.Edits.{sets}
use Rattle.traces.specs.Output.{Traced, traced, last_line}
use Rattle.tables.specs.Replies.{number_of}
use Rattle.traces.specs.declared.tracing.Untraced.{Untraced}
use Rattle.traces.specs.declared.TraceReply.{TraceReply}
use Rattle.traces.specs.Calls.{TraceOutcome, trace_outcome}

-- the rest q of an output, put into the buffer from a place on
abbrev pub placed : Traced → ℕ → List ℕ → TraceOutcome
placed q at out = trace_outcome q.reply (at + length q.bytes) (sets out at q.bytes)

-- the step lines before the last line, and what that line says
pub record Last : Type 0 where
  pub steps : ℕ
  pub reply : ℕ
  pub told : ℕ

abbrev pub last : (steps reply told : ℕ) → Last
last s r n = record { steps = s; reply = r; told = n }

-- where a refusal ends a trace
abbrev pub last_of : Untraced → Last
last_of u = last u.steps (number_of u.refusal) u.told

-- the last line put after the step lines, which stand at the start of the buffer
abbrev pub ending : Last → List ℕ → TraceOutcome
ending l out = placed (traced l.reply (last_line l.reply l.told)) (47 * l.steps) out

-- a trace that stands whole in the buffer; or one that a refusal ends, to which the last line is to be put
abbrev pub so_far : Result TraceReply Untraced → List ℕ → TraceOutcome
so_far (Ok q) out = trace_outcome q.reply q.length out
so_far (Err u) out = ending (last_of u) out

-- a count of bytes at the start of a buffer, as a caller that lends that part has to know it
pub record Counts (n : ℕ) (buffer : List ℕ) : Type 0 where
  pub within : n ≤ length buffer
  pub counted : n ≡ length (take n buffer)
