-- The output by the parts of the input: its length, its table, its choice lines. Assumes nothing.
use mathlib.Core.Path.{◌≡◌, refl, ap, ◌∙◌}
use mathlib.Core.List.{List}
use Prim.Native.Nat.{ℕ, zero, suc, ◌≤◌, ◌<◌}
use native.Mathlib.Omega.{arith}
use lib.ListN.{length}
use borrow.Author.Tests.{lt-ltb, le-ltb}
use Rattle.tables.specs.Frames.{Frame, frames_of}
use Rattle.reading.specs.Reader.{frames_reply, table_of}
use Rattle.reading.specs.Calls.{read_into}
use Rattle.reading.specs.declared.Told.{Told}
use Rattle.reading.proofs.Outcomes.{blank, blank_length, read_told, read_table}
use Rattle.choices.specs.State.{start_words}
use Rattle.traces.specs.Input.{longest_input, table_text, choice_lines, bad_choice_of, choices_in}
use Rattle.traces.specs.Output.{Traced, traced, last_line, trace_from, refused_or, trace_choices, trace_of}

-- ---- the output, by what comes first

pub trace_long : (input : List ℕ) → longest_input < length input → trace_of input ≡ traced 17 (last_line 17 0)
unfolding trace_of
trace_long input h = rw (lt-ltb longest_input (length input) h, trace_of)

-- a refusal that is told, or none
told_by_lem : (q : Told) (next : Traced) (r : ℕ) → q.reply ≡ r → refused_or q next ≡ elim r [ zero ↦ next | suc r ↦ traced (suc r) (last_line (suc r) q.line) ]
unfolding refused_or
told_by_lem q next r h = ap (λ (x : ℕ). elim x as (λ _. Traced) [ zero ↦ next | suc r ↦ traced (suc r) (last_line (suc r) q.line) ]) h

told_none : (q : Told) (next : Traced) → q.reply ≡ 0 → refused_or q next ≡ next
told_none q next h = told_by_lem q next 0 h

told_some : (q : Told) (next : Traced) → (q.reply ≡ 0 → ⊥) → refused_or q next ≡ traced q.reply (last_line q.reply q.line)
told_some q next k = go q.reply refl
  where
    go : (r : ℕ) → q.reply ≡ r → refused_or q next ≡ traced r (last_line r q.line)
    go zero e = absurd (k e)
    go (suc r) e = told_by_lem q next (suc r) e

module _ (input : List ℕ) (short : length input ≤ longest_input) where
  frames : List Frame
  frames = frames_of (table_text input)

  trace_table : trace_of input ≡ refused_or (frames_reply frames) (trace_choices (read_into (table_text input) blank).table input)
  unfolding trace_of frames
  trace_table =
      rw (le-ltb longest_input (length input) short, trace_of)
      (ap (λ (q : Told). refused_or q (trace_choices (read_into (table_text input) blank).table input)) (read_told (table_text input) blank (omega (arith, blank_length))))

  pub trace_refused : ((frames_reply (frames_of (table_text input))).reply ≡ 0 → ⊥)
      → trace_of input ≡ traced (frames_reply (frames_of (table_text input))).reply (last_line (frames_reply (frames_of (table_text input))).reply (frames_reply (frames_of (table_text input))).line)
  unfolding frames
  trace_refused k = trace_table ∙ told_some (frames_reply frames) _ k

  module _ (h : (frames_reply (frames_of (table_text input))).reply ≡ 0) where
    trace_choices_lem : trace_of input ≡ trace_choices (table_of (frames_of (table_text input))) input
    unfolding frames
    trace_choices_lem =
        trace_table
        ∙ told_none (frames_reply frames) _ h
        ∙ ap (λ (tb : List ℕ). trace_choices tb input) (read_table (table_text input) blank blank_length h)

    pub trace_faulty : ((bad_choice_of input).reply ≡ 0 → ⊥) → trace_of input ≡ traced (bad_choice_of input).reply (last_line (bad_choice_of input).reply (bad_choice_of input).line)
    unfolding trace_choices
    trace_faulty k = trace_choices_lem ∙ told_some (bad_choice_of input) _ k

    pub trace_steps_lem : (bad_choice_of input).reply ≡ 0
        → trace_of input ≡ trace_from (table_of (frames_of (table_text input))) (start_words (table_of (frames_of (table_text input)))) 0 (choices_in (choice_lines input))
    unfolding trace_choices
    trace_steps_lem e = trace_choices_lem ∙ told_none (bad_choice_of input) _ e
