-- The trace program's output bytes. Assumes nothing.
use Rattle.std.specs.Prelude.{true, false, List, [], ◌∷◌, ◌++◌, ℕ, zero, suc, ◌+◌, ltb, length, replicate}
use Rattle.tables.specs.Lines.{newline}
use Rattle.tables.specs.Layout.{table_words}
use Rattle.digits.specs.Hex.{hex_digits, hex_words}
use Rattle.reading.specs.Calls.{read_into}
use Rattle.reading.specs.declared.Told.{Told}
use Rattle.choices.specs.State.{start_words, agent_at}
use Rattle.choices.specs.Step.{choice_reply, accepted}
use Rattle.choices.specs.declared.Agent.{Agent}
use Rattle.traces.specs.Input.{longest_input, table_text, choice_lines, bad_choice_of, choices_in}

-- "for each accepted step `03`, agent, new position (1 byte), time, four registers"
unfoldable pub step_line : (a t : ℕ) → Agent → List ℕ
step_line a t s =
    hex_digits 2 0x03 ++ (hex_digits 2 a ++ (hex_digits 2 s.pos ++ (hex_digits 8 t ++ (hex_words s.regs ++ (newline ∷ [])))))

-- "then `FE`, reply number (1 byte), and 2 bytes: the line number for 2 to 7" and, by T-01, 18 and 19, "zero for 17, else the count of accepted steps"
unfoldable pub last_line : (reply n : ℕ) → List ℕ
last_line r n = hex_digits 2 0xFE ++ (hex_digits 2 r ++ (hex_digits 4 n ++ (newline ∷ [])))

-- an output, with the reply number in its last line
pub record Traced : Type 0 where
  pub reply : ℕ
  pub bytes : List ℕ

abbrev pub traced : ℕ → List ℕ → Traced
traced r bs = record { reply = r; bytes = bs }

abbrev pub after : List ℕ → Traced → Traced
after bs q = traced q.reply (bs ++ q.bytes)

-- the lines of the steps from the state st, after n accepted steps
unfoldable pub trace_from : (tb st : List ℕ) (n : ℕ) → List ℕ → Traced
trace_from tb st n [] = traced 0 (last_line 0 n)
trace_from tb st n (a ∷ []) = traced 0 (last_line 0 n)
trace_from tb st n (a ∷ t ∷ cs) =
    elim (choice_reply tb st a t) [
      | zero ↦ after (step_line a t (agent_at (accepted tb st a t) a)) (trace_from tb (accepted tb st a t) (n + 1) cs)
      | suc r ↦ traced (suc r) (last_line (suc r) n)
    ]

-- a refusal with its line, and what comes where there is none
unfoldable pub refused_or : Told → Traced → Traced
refused_or q next = elim q.reply [ zero ↦ next | suc r ↦ traced (suc r) (last_line (suc r) q.line) ]

-- with the table accepted: a choice line with a fault is refused "after the table is accepted and before any step"
unfoldable pub trace_choices : (tb input : List ℕ) → Traced
trace_choices tb input = refused_or (bad_choice_of input) (trace_from tb (start_words tb) 0 (choices_in (choice_lines input)))

-- 17, the table's refusal, every choice line, then the steps
unfoldable pub trace_of : List ℕ → Traced
trace_of input =
    elim (ltb longest_input (length input)) [
      | true ↦ traced 17 (last_line 17 0)
      | false ↦
          let q = read_into (table_text input) (replicate table_words 0) in
          refused_or q.told (trace_choices q.table input)
    ]
