-- What the trace of a reader's bytes does to the bytes that it has left and to those that a writer holds, where they are known. Assumes nothing.
use Rattle.std.specs.Prelude.{List, ⊤, ℕ, ◌+◌, ◌≤◌, length}
use Rattle.std.specs.declared.option.Option.{Option}
use Rattle.std.specs.Io.KnownBytes.{Keeps, Appends, Consumes, IsAtEnd}
use Rattle.traces.specs.Input.{longest_input}
use Rattle.traces.specs.Output.{trace_of}
use Rattle.streams.specs.declared.Failure.{Failure}
use Rattle.streams.specs.declared.Failure.TheVariants.{Input, Output}

-- an input is read, to its end or to one byte more than the longest has, and its trace is written
abbrev pub TracesOnto : (before left held holds : Option (List ℕ)) → Type 0
TracesOnto before left held holds =
    (input : List ℕ) × (length input ≤ longest_input + 1) × Consumes before left input × (length input ≤ longest_input → IsAtEnd left) × Appends held holds (trace_of input).bytes

-- a failed read leaves no output at all
abbrev pub KeepsWhereUnread : Failure → (held holds : Option (List ℕ)) → Type 0
KeepsWhereUnread (Input e) held holds = Keeps held holds
KeepsWhereUnread (Output e) held holds = ⊤
