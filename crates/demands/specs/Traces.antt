-- Demand 3 down to the bytes that the release desk compares: what an output of the trace program shows, and that two of one table agree.
-- The statements; proofs/Traced proves that a trace is its run, proofs/Agree that two traces agree.
use Rattle.std.specs.Prelude.{◌≡◌, Bool, ◌&&◌, cond, List, [], ◌∷◌, ◌++◌, ℕ, ◌≤◌, ◌<◌, eqb, length, take, replicate}
use Rattle.tables.specs.Layout.{agents, rows, table_words}
use Rattle.tables.specs.Lines.{lines, digits_line, field}
use Rattle.reading.specs.Calls.{read_into}
use Rattle.choices.specs.declared.Agent.{Agent}
use Rattle.choices.specs.State.{state_words}
use Rattle.executive.specs.Calls.{run_into}
use Rattle.traces.specs.Input.{longest_input, table_text, choice_lines, bad_choice_of, choices_in}
use Rattle.traces.specs.Output.{step_line, last_line}
use Rattle.traces.specs.Calls.{TraceOutcome, longest_output, trace_into}
use Rattle.demands.specs.Steps.{Step, step, comes_to, steps_in_run, last_of}
use Rattle.pharos.specs.Prefix.{OneBegins}

-- ---- what an output shows: the parse that tools/compare makes. It refuses a line that is neither `03` nor the `FE` at the end; here such a line is passed over, since no
-- trace has one (`IsRun` below gives every byte), and so that whatever bytes there are show something.

-- a line of `03`, agent, position (1 byte each), time, four registers (4 bytes each): 46 digits
unfoldable pub is_step_line : List ℕ → Bool
is_step_line l = digits_line 46 l && eqb (field l 0 2) 0x03

-- the step that it shows
unfoldable pub step_in : List ℕ → Step
step_in l = step (field l 2 2) (field l 6 8) (record { pos = field l 4 2; regs = field l 14 8 ∷ field l 22 8 ∷ field l 30 8 ∷ field l 38 8 ∷ [] })

unfoldable pub steps_shown : List (List ℕ) → List Step
steps_shown [] = []
steps_shown (l ∷ ls) = cond (is_step_line l) (step_in l ∷ steps_shown ls) (steps_shown ls)

-- the bytes that a trace has written: not what the buffer held before, nor what it holds past them
abbrev pub bytes_of : TraceOutcome → List ℕ
bytes_of o = take o.length o.out

-- the steps that the trace of an input shows, in an output buffer as it was lent; and the states that it shows of agent b: positions and registers, and no time
abbrev pub trace_steps : (input out : List ℕ) → List Step
trace_steps input out = steps_shown (lines (bytes_of (trace_into input out)))

abbrev pub shows : (input out : List ℕ) → ℕ → List Agent
shows input out b = comes_to b (trace_steps input out)

-- ---- a trace is its run

-- a text that `read` accepts, and the words that it reads to
abbrev pub AcceptedText : List ℕ → Type 0
AcceptedText text = (read_into text (replicate table_words 0)).told.reply ≡ 0

abbrev pub words_of : List ℕ → List ℕ
words_of text = (read_into text (replicate table_words 0)).table

-- the words of the table that an input begins with, and its choices
abbrev pub table_in : List ℕ → List ℕ
table_in input = words_of (table_text input)

abbrev pub choices_of_input : List ℕ → List ℕ
choices_of_input input = choices_in (choice_lines input)

-- the input is read and has room for its output; its table is accepted, and every choice line
pub record InputAccepted (input out : List ℕ) : Type 0 where
  pub room : longest_output ≤ length out
  pub short : length input ≤ longest_input
  pub table : AcceptedText (table_text input)
  pub choices : (bad_choice_of input).reply ≡ 0

-- the lines of some steps
unfoldable pub step_lines : List Step → List ℕ
step_lines [] = []
step_lines (s ∷ ss) = step_line s.agent s.time s.left ++ step_lines ss

-- its lines are those of the accepted steps of the run over the same choices, made in any lent state, with the run's reply and count last; and it shows just these steps
pub record IsRun (input out st : List ℕ) : Type 0 where
  pub reply : (trace_into input out).reply ≡ (run_into (table_in input) st (choices_of_input input)).reply
  pub bytes : bytes_of (trace_into input out) ≡ step_lines (steps_in_run (table_in input) st (choices_of_input input))
      ++ last_line (run_into (table_in input) st (choices_of_input input)).reply (run_into (table_in input) st (choices_of_input input)).count
  pub steps : trace_steps input out ≡ steps_in_run (table_in input) st (choices_of_input input)

abbrev pub TraceIsRun : Type 0
TraceIsRun = (input out st : List ℕ) → state_words ≤ length st → InputAccepted input out → IsRun input out st

-- Elsewhere it shows no step.
abbrev pub ElseNoStep : Type 0
ElseNoStep = (input out : List ℕ) → (InputAccepted input out → ⊥) → trace_steps input out ≡ []

-- ---- two traces of one table

-- For any two inputs that begin with the same accepted table text, whatever follows it and whatever buffers the outputs are written to: the states that one output
-- shows of an agent begin those that the other shows, or the reverse.
abbrev pub TracesAgree : Type 0
TracesAgree = (text more other out out' : List ℕ) → AcceptedText text → (b : ℕ)
    → OneBegins (shows (text ++ more) out b) (shows (text ++ other) out' b)

-- an output shows all agents of a table at their end: the last position that it shows of each is the row count
abbrev pub last_position : List Agent → ℕ
last_position l = (last_of (record { pos = 0; regs = [] }) l).pos

abbrev pub ShowsEnds : (tb input out : List ℕ) → Type 0
ShowsEnds tb input out = (b : ℕ) → b < agents tb → last_position (shows input out b) ≡ rows tb b

-- Where both do, the states that they show of each agent are the same.
abbrev pub TracesEndAlike : Type 0
TracesEndAlike = (text more other out out' : List ℕ) → AcceptedText text
    → ShowsEnds (words_of text) (text ++ more) out → ShowsEnds (words_of text) (text ++ other) out'
    → (b : ℕ) → shows (text ++ more) out b ≡ shows (text ++ other) out' b
