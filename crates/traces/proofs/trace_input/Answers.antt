-- `trace_input` meets its contract: a law for each return, by what the input is refused for first. Assumes nothing.
use mathlib.Core.Path.{◌≡◌, refl, sym, ap, ◌∙◌}
use mathlib.Core.List.{List}
use Prim.Native.Nat.{ℕ, ◌-◌}
use native.Mathlib.Omega.{arith}
use lib.ListN.{length, take, drop}
use Rattle.std.proofs.lemmas.Result.{err_from_is_err_and}
use Rattle.tables.specs.Lines.{lines}
use Rattle.tables.specs.Replies.{number_of}
use Rattle.reading.specs.Reader.{told}
use Rattle.choices.specs.State.{start_words}
use Rattle.tables.proofs.Refusals.{no_zero}
use Rattle.traces.specs.Input.{choices_in, bad_choice}
use Rattle.traces.specs.Output.{Traced, trace_from, trace_of}
use Rattle.traces.specs.Calls.{written}
use Rattle.traces.proofs.Newline.{to_end}
use Rattle.traces.proofs.Parts.{trace_long}
use Rattle.traces.proofs.Whole.{one_line}
use Rattle.traces.proofs.Table.{Reading, table_refused, table_good, table_words_lem, choice_faulty, none_faulty, all_steps}
use Rattle.traces.proofs.trace_input.Goals as goal
use Rattle.traces.proofs.trace_input.Goals.{In_ok-read, In_ok-first_bad_choice}

pub returns-then-input-gt-LONGEST_INPUT-clause-traced : goal.returns-then-input-gt-LONGEST_INPUT-clause-traced
unfolding number_of
returns-then-input-gt-LONGEST_INPUT-clause-traced c = rw c.from.ensures (one_line _ _ c.requires 17 0 (trace_long _ (omega arith)))

pub returns-in_err-read-clause-traced : goal.returns-in_err-read-clause-traced
returns-in_err-read-clause-traced c =
    let e = c.table_end-end.ensures in
    let b = c.filled-table in
    let r : Reading c.args.input.now c.table_end-end.result.at c.table_end-end.result.lines _ c.read.new.table =
    record { short = omega arith; place = e.0; counted = e.1; blank = b.result; blank_long = b.ensures.len; read = c.in_err-read.ensures } in
    let p = err_from_is_err_and c.from_residual.result c.from_residual.ensures.1 in
    rw (p.1, p.2) (one_line _ _ c.requires _ _ (table_refused r (no_zero _)))

-- the table is read
reading : (c : In_ok-read) → Reading c.args.input.now c.table_end-end.result.at c.table_end-end.result.lines (told 0 0) c.read.new.table
reading c =
    let e = c.table_end-end.ensures in
    let b = c.filled-table in
    record { short = omega arith; place = e.0; counted = e.1; blank = b.result; blank_long = b.ensures.len; read = c.in_ok-read.ensures }

pub returns-in_err-first_bad_choice-clause-traced : goal.returns-in_err-first_bad_choice-clause-traced
returns-in_err-first_bad_choice-clause-traced c =
    let r = reading (goal.at.returns-in_err-first_bad_choice-clause-traced c).In_ok-read in
    let p = err_from_is_err_and c.from_residual-in_err-first_bad_choice.result c.from_residual-in_err-first_bad_choice.ensures.1 in
    rw (p.1, p.2) (one_line _ _ c.requires _ _ (choice_faulty r refl c.in_err-first_bad_choice.ensures (no_zero _)))

pub trace_steps-requires : goal.trace_steps-requires
trace_steps-requires c =
    let r = reading (goal.at.trace_steps-requires c).In_ok-read in (
      table_words_lem r refl,
      table_good r refl,
      ap (λ (l : List ℕ). (bad_choice 1 (lines l)).reply) (to_end c.args.input.now c.table_end-end.result.at) ∙ none_faulty r refl c.in_ok-first_bad_choice.ensures refl,
      c.requires,
    )

-- what the steps give is the trace
steps_are : (c : In_ok-first_bad_choice) → Reading c.args.input.now c.table_end-end.result.at c.table_end-end.result.lines (told 0 0) c.read.new.table
    → let s = c.args.input.now in
    let at = c.table_end-end.result.at in
    let tb = c.read.new.table in
    written (trace_from tb (start_words tb) 0 (choices_in (lines (take (length s - at) (drop at s))))) c.args.out.now ≡ written (trace_of s) c.args.out.now
steps_are c r =
    let s = c.args.input.now in
    let tb = c.read.new.table in
    ap (λ (l : List ℕ). written (trace_from tb (start_words tb) 0 (choices_in (lines l))) c.args.out.now) (to_end s c.table_end-end.result.at)
    ∙ ap (λ (q : Traced). written q c.args.out.now) (sym (all_steps r refl c.in_ok-first_bad_choice.ensures refl))

pub returns-clause-traced : goal.returns-clause-traced
returns-clause-traced c =
    let at = goal.at.returns-clause-traced c in
    c.trace_steps.ensures ∙ steps_are at.In_ok-first_bad_choice (reading at.In_ok-read)
