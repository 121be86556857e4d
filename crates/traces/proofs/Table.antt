-- What the read of the table's text and the search for a choice line with a fault say of the output. Assumes nothing.
use mathlib.Core.Path.{◌≡◌, sym, ap, ◌∙◌}
use mathlib.Core.Bool.{true}
use mathlib.Core.List.{List}
use Prim.Native.Nat.{ℕ, ◌+◌, ◌≤◌}
use native.Mathlib.Omega.{arith}
use lib.ListN.{length, take, drop}
use Rattle.tables.specs.Layout.{table_words}
use Rattle.tables.specs.Lines.{lines}
use Rattle.tables.specs.Table.{good_table}
use Rattle.tables.specs.Frames.{frames_of}
use Rattle.reading.specs.Reader.{frames_reply, table_of}
use Rattle.reading.specs.Calls.{ReadOutcome, Read}
use Rattle.reading.specs.declared.Told.{Told}
use Rattle.reading.proofs.Outcomes.{read_told, read_table}
use Rattle.reading.proofs.ReadGood.{table_length, read_good}
use Rattle.choices.specs.State.{start_words}
use Rattle.traces.specs.Input.{longest_input, table_bytes, table_text, choice_lines, bad_choice, bad_choice_of, choices_in}
use Rattle.traces.specs.Output.{traced, last_line, trace_from, trace_of}
use Rattle.traces.proofs.Choices.{bad_any}
use Rattle.traces.proofs.Parts.{trace_refused, trace_faulty, trace_steps_lem}

-- the table's text ends at a place, has n lines, and was read into words that have the length of a table
pub record Reading (input : List ℕ) (at n : ℕ) (q : Told) (tb : List ℕ) : Type 0 where
  pub short : length input ≤ longest_input
  pub place : at ≡ table_bytes (lines input)
  pub counted : n ≡ length (lines (table_text input))
  pub blank : List ℕ
  pub blank_long : length blank ≡ table_words
  pub read : Read (take at input) blank q tb

module _ {input : List ℕ} {at n : ℕ} {q : Told} {tb : List ℕ} (r : Reading input at n q tb) where
  text : take at input ≡ table_text input
  unfolding table_text
  text = rw r.place

  told_is : q ≡ frames_reply (frames_of (table_text input))
  told_is =
      ap (λ (x : ReadOutcome). x.told) r.read
      ∙ read_told (take at input) r.blank (omega (arith, r.blank_long))
      ∙ ap (λ (t : List ℕ). frames_reply (frames_of t)) text

  pub table_refused : (q.reply ≡ 0 → ⊥) → trace_of input ≡ traced q.reply (last_line q.reply q.line)
  table_refused k =
      trace_refused input r.short (λ e. k (ap (λ (x : Told). x.reply) told_is ∙ e))
      ∙ ap (λ (x : Told). traced x.reply (last_line x.reply x.line)) (sym told_is)

  module _ (h : q.reply ≡ 0) where
    accepted : (frames_reply (frames_of (table_text input))).reply ≡ 0
    accepted = ap (λ (x : Told). x.reply) (sym told_is) ∙ h

    table_is : tb ≡ table_of (frames_of (table_text input))
    table_is =
        ap (λ (x : ReadOutcome). x.table) r.read
        ∙ read_table (take at input) r.blank r.blank_long (rw text accepted)
        ∙ ap (λ (t : List ℕ). table_of (frames_of t)) text

    pub table_good : good_table tb ≡ true
    table_good = rw table_is (read_good (table_text input) accepted)

    pub table_words_lem : length tb ≡ table_words
    table_words_lem = rw table_is (table_length (frames_of (table_text input)))

    -- the first choice line has the number n + 1
    module _ {bad : Told} (b : bad ≡ bad_choice (n + 1) (lines (drop at input))) where
      bad_is : bad ≡ bad_choice_of input
      unfolding bad_choice_of choice_lines
      bad_is = rw (b, r.counted, r.place)

      pub choice_faulty : (bad.reply ≡ 0 → ⊥) → trace_of input ≡ traced bad.reply (last_line bad.reply bad.line)
      choice_faulty k =
          trace_faulty input r.short accepted (λ e. k (ap (λ (x : Told). x.reply) bad_is ∙ e))
          ∙ ap (λ (x : Told). traced x.reply (last_line x.reply x.line)) (sym bad_is)

      pub none_faulty : bad.reply ≡ 0 → (bad_choice 1 (lines (drop at input))).reply ≡ 0
      none_faulty k = bad_any (lines (drop at input)) (n + 1) 1 (ap (λ (x : Told). x.reply) (sym b) ∙ k)

      pub all_steps : bad.reply ≡ 0 → trace_of input ≡ trace_from tb (start_words tb) 0 (choices_in (lines (drop at input)))
      unfolding choice_lines
      all_steps k = rw (table_is, r.place) (trace_steps_lem input r.short accepted (ap (λ (x : Told). x.reply) (sym bad_is) ∙ k))
