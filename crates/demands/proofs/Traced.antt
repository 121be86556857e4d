-- A trace is its run, proved: its step lines are those of the run's accepted steps, and elsewhere there are none.
use mathlib.Core.Path.{◌≡◌, refl, sym, ap, ◌∙◌}
use mathlib.Core.Bool.{Bool, true, false}
use mathlib.Core.List.{List, [], ◌∷◌, ◌++◌, append_assoc}
use Prim.Native.Nat.{ℕ, zero, suc, ◌+◌, ◌%◌, ◌≤◌, ◌<◌}
use native.Mathlib.Omega.{arith}
use lib.Dec.{ltb}
use lib.ListN.{length}
use lib.Seq.{take_all, take-append_seam}
use borrow.Author.Tests.{lt-ltb, le-ltb, ltb-true, ltb-false}
use Rattle.tables.specs.Layout.{table_words}
use Rattle.tables.specs.Lines.{lines}
use Rattle.tables.specs.Frames.{Frame, frames_of}
use Rattle.tables.specs.Small.{Small}
use Rattle.tables.proofs.Good.{few, few_rows}
use Rattle.tables.proofs.Small.{small_take, small_drop, small_tail}
use Rattle.reading.specs.Reader.{frames_reply, table_of}
use Rattle.reading.specs.declared.Told.{Told}
use Rattle.choices.specs.declared.Agent.{Agent}
use Rattle.choices.specs.State.{agent_at, state_words, start_words, reg_place}
use Rattle.choices.specs.Step.{choice_reply, accepted}
use Rattle.choices.proofs.Choice.{allowed}
use Rattle.choices.proofs.After.{accepted_self, agent_four}
use Rattle.executive.specs.Run.{RunOutcome, run_from}
use Rattle.executive.specs.Calls.{table_part, past_state, before, run_refusal, run_into}
use Rattle.executive.proofs.Runs.{run_go, run_stop}
use Rattle.executive.proofs.Fitting.{fits_says}
use Rattle.executive.proofs.OneByOne.{ran}
use Rattle.traces.specs.Input.{longest_input, table_text, choice_lines, bad_choice_of, choices_in}
use Rattle.traces.specs.Output.{Traced, traced, after, step_line, last_line, trace_from, trace_of}
use Rattle.traces.specs.Calls.{longest_output, trace_into}
use Rattle.traces.proofs.Steps.{trace_go, trace_stop}
use Rattle.reading.proofs.Outcomes.{blank, blank_length, read_told}
use Rattle.reading.proofs.ReadSmall.{words_small}
use Rattle.traces.proofs.Parts.{trace_long, trace_refused, trace_faulty, trace_steps_lem}
use Rattle.demands.specs.Demand2.{Table, Fitting}
use Rattle.demands.specs.Steps.{Step, step, steps_from, steps_in_run}
use Rattle.demands.specs.Traces.{steps_shown, bytes_of, trace_steps, choices_of_input, InputAccepted, step_lines, IsRun, TraceIsRun, ElseNoStep}
use Rattle.demands.proofs.Demand2.{choice_is_models, start_is_models}
use Rattle.demands.proofs.Made.{steps_go, steps_stop}
use Rattle.demands.proofs.Lent.{begins_by, begun_whole}
use Rattle.demands.proofs.Parsed.{AllPlain, shown_back, last_shows}
use Rattle.demands.proofs.Small.{accepted_small, start_small}
use Rattle.demands.proofs.TableText.{frames_accepted, words_read, table_read, choices_small}

-- ---- the text of a run

pub trace_from_lem : (cs tb st : List ℕ) (n : ℕ)
    → trace_from tb st n cs ≡ traced (run_from tb st n cs).reply (step_lines (steps_from tb st cs) ++ last_line (run_from tb st n cs).reply (run_from tb st n cs).count)
unfolding trace_from run_from steps_from step_lines
trace_from_lem [] tb st n = refl
trace_from_lem (a ∷ []) tb st n = refl
trace_from_lem (a ∷ t ∷ cs) tb st n = go (choice_reply tb st a t) refl (trace_from_lem cs tb (accepted tb st a t) (n + 1))
  where
    new : List ℕ
    new = accepted tb st a t

    text : RunOutcome → List Step → Traced
    text q ss = traced q.reply (step_lines ss ++ last_line q.reply q.count)

    go : (r : ℕ) → choice_reply tb st a t ≡ r → trace_from tb new (n + 1) cs ≡ text (run_from tb new (n + 1) cs) (steps_from tb new cs)
        → trace_from tb st n (a ∷ t ∷ cs) ≡ text (run_from tb st n (a ∷ t ∷ cs)) (steps_from tb st (a ∷ t ∷ cs))
    go zero e rest =
        let q = run_from tb new (n + 1) cs in
        trace_go tb st n a t cs e
        ∙ ap (λ (x : Traced). after (step_line a t (agent_at new a)) x) rest
        ∙ ap (traced q.reply) (sym (append_assoc (step_line a t (agent_at new a)) (step_lines (steps_from tb new cs)) (last_line q.reply q.count)))
        ∙ ap (λ (x : RunOutcome). text x (step a t (agent_at new a) ∷ steps_from tb new cs)) (sym (run_go tb st n a t cs e))
        ∙ ap (text (run_from tb st n (a ∷ t ∷ cs))) (sym (steps_go tb st a t cs e))
    go (suc r) e rest =
        trace_stop tb st n a t cs r e
        ∙ ap (λ (x : RunOutcome). text x []) (sym (run_stop tb st n a t cs r e))
        ∙ ap (text (run_from tb st n (a ∷ t ∷ cs))) (sym (steps_stop tb st a t cs r e))

-- ---- its lines can tell all that the steps are

module _ (tb : List ℕ) (table : Table tb) (words : Small tb) where
  steps_plain : (cs st : List ℕ) → Fitting tb st → Small st → Small cs → AllPlain (steps_from tb st cs)
  unfolding steps_from
  steps_plain [] st fit small choices = tt
  steps_plain (a ∷ []) st fit small choices = tt
  steps_plain (a ∷ t ∷ cs) st fit small choices =
      go (choice_reply tb st a t) refl (λ e. steps_plain cs (accepted tb st a t) ((choice_is_models tb st table fit a t).state e) (new_small e) (small_tail (small_tail choices)))
    where
      new : List ℕ
      new = accepted tb st a t

      low : choice_reply tb st a t ≡ 0 → a < 16
      low e = omega (arith, (allowed tb st a t e).agent, few tb table.good)

      position : (e : choice_reply tb st a t ≡ 0) → (agent_at new a).pos ≤ 32
      position e =
          let h = (allowed tb st a t e).agent in
          let f = fits_says tb new ((choice_is_models tb st table fit a t).state e).fit in
          omega (arith, f.position a h, few_rows tb table.good a h)

      new_small : choice_reply tb st a t ≡ 0 → Small new
      new_small e =
          accepted_small tb st (few tb table.good) words small a t (choices.word 1)
          (let p = ap (λ (s : Agent). s.pos) (accepted_self tb st a t fit.long (low e)) in omega (arith, position e))

      go : (r : ℕ) → choice_reply tb st a t ≡ r → (choice_reply tb st a t ≡ 0 → AllPlain (steps_from tb new cs)) → AllPlain (steps_from tb st (a ∷ t ∷ cs))
      go zero e rest = rw (steps_go tb st a t cs e) (
        record {
          agent = omega (arith, low e);
          time = choices.word 1;
          position = omega (arith, position e);
          four = agent_four tb new a t ((choice_is_models tb st table fit a t).state e).long (low e);
          small = small_take 4 (small_drop (reg_place a) (new_small e));
        },
        rest e,
      )
      go (suc r) e rest = rw (steps_stop tb st a t cs r e) tt

-- ---- the bytes that are written

pub long_bytes : (input out : List ℕ) → longest_output ≤ length out → bytes_of (trace_into input out) ≡ (trace_of input).bytes
unfolding trace_into
long_bytes input out h = rw (le-ltb (length out) longest_output h, trace_into) (take-append_seam (trace_of input).bytes _)

long_reply : (input out : List ℕ) → longest_output ≤ length out → (trace_into input out).reply ≡ (trace_of input).reply
unfolding trace_into
long_reply input out h = rw (le-ltb (length out) longest_output h, trace_into)

short_bytes : (input out : List ℕ) → length out < longest_output → bytes_of (trace_into input out) ≡ []
unfolding trace_into
short_bytes input out h = rw (lt-ltb (length out) longest_output h, trace_into)

choices_even : (ls : List (List ℕ)) → length (choices_in ls) % 2 ≡ 0
unfolding choices_in
choices_even [] = refl
choices_even (l ∷ ls) = let e = choices_even ls in omega arith

-- ---- where all is accepted

module _ (input out : List ℕ) (ok : InputAccepted input out) where
  abbrev frames : List Frame
  frames = frames_of (table_text input)

  abbrev rules : List ℕ
  rules = table_of frames

  abbrev choices : List ℕ
  choices = choices_of_input input

  read : (frames_reply frames).reply ≡ 0
  read = frames_accepted (table_text input) ok.table

  table : Table rules
  table = table_read (table_text input) ok.table

  text_is : trace_of input ≡ traced (run_from rules (start_words rules) 0 choices).reply
      (step_lines (steps_from rules (start_words rules) choices) ++ last_line (run_from rules (start_words rules) 0 choices).reply (run_from rules (start_words rules) 0 choices).count)
  text_is = trace_steps_lem input ok.short read ok.choices ∙ trace_from_lem choices rules (start_words rules) 0

  all_plain : AllPlain (steps_from rules (start_words rules) choices)
  unfolding bad_choice_of
  all_plain =
      let small = words_small (table_text input) read in
      steps_plain rules table small choices (start_words rules) (start_is_models rules table).0 (start_small rules small)
      (choices_small (choice_lines input) _ ok.choices)

  -- the steps that it shows are those of the run
  pub shown_steps : trace_steps input out ≡ steps_from rules (start_words rules) choices
  shown_steps =
      ap (λ (bs : List ℕ). steps_shown (lines bs)) (long_bytes input out ok.room ∙ ap (λ (q : Traced). q.bytes) text_is)
      ∙ shown_back (steps_from rules (start_words rules) choices) _ _ all_plain

  module _ (st : List ℕ) (long : state_words ≤ length st) where
    whole : table_part rules ≡ rules
    whole = take_all table_words rules (omega (arith, table.long))

    begins : run_refusal rules st choices ≡ 0
    begins = begins_by rules st choices (le-ltb (length rules) table_words (omega (arith, table.long))) (le-ltb (length st) state_words long)
        (choices_even (choice_lines input)) (rw whole table.good)

    run_is : run_into rules st choices ≡ before (run_from rules (start_words rules) 0 choices) (past_state st)
    run_is = ran rules st choices begins ∙ ap (λ (x : List ℕ). before (run_from x (start_words x) 0 choices) (past_state st)) whole

    steps_are : steps_in_run rules st choices ≡ steps_from rules (start_words rules) choices
    steps_are =
        ap (steps_from (table_part rules) (start_words (table_part rules))) (begun_whole rules st choices begins)
        ∙ ap (λ (x : List ℕ). steps_from x (start_words x) choices) whole

    is_run : IsRun input out st
    is_run = record {
      reply = long_reply input out ok.room
          ∙ ap (λ (q : Traced). q.reply) text_is
          ∙ ap (λ (q : RunOutcome). q.reply) (sym run_is)
          ∙ ap (λ (tb : List ℕ). (run_into tb st choices).reply) (sym (words_read (table_text input) ok.table));
      bytes = long_bytes input out ok.room
          ∙ ap (λ (q : Traced). q.bytes) text_is
          ∙ ap (λ (ss : List Step). step_lines ss ++ last_line (run_from rules (start_words rules) 0 choices).reply (run_from rules (start_words rules) 0 choices).count) (sym steps_are)
          ∙ ap (λ (q : RunOutcome). step_lines (steps_in_run rules st choices) ++ last_line q.reply q.count) (sym run_is)
          ∙ ap (λ (tb : List ℕ). step_lines (steps_in_run tb st choices) ++ last_line (run_into tb st choices).reply (run_into tb st choices).count) (sym (words_read (table_text input) ok.table));
      steps = shown_steps ∙ sym steps_are ∙ ap (λ (tb : List ℕ). steps_in_run tb st choices) (sym (words_read (table_text input) ok.table));
    }

pub trace_is_run : TraceIsRun
trace_is_run input out st long ok = is_run input out ok st long

-- ---- elsewhere

-- the output is nothing, its last line alone, or that of an input that is accepted
pub data Gives (input out : List ℕ) : Type 0 where
  no_step : trace_steps input out ≡ [] → Gives input out
  all_steps : InputAccepted input out → Gives input out

module _ (input out : List ℕ) where
  one_line : longest_output ≤ length out → (q r n : ℕ) → trace_of input ≡ traced q (last_line r n) → Gives input out
  one_line room q r n e = no_step
      (ap (λ (bs : List ℕ). steps_shown (lines bs)) (long_bytes input out room ∙ ap (λ (x : Traced). x.bytes) e) ∙ last_shows r n)

  by_choices : longest_output ≤ length out → length input ≤ longest_input → (frames_reply (frames_of (table_text input))).reply ≡ 0
      → (r : ℕ) → (bad_choice_of input).reply ≡ r → Gives input out
  by_choices room short h zero e = all_steps (record {
    room = room;
    short = short;
    table = ap (λ (q : Told). q.reply) (read_told (table_text input) blank (omega (arith, blank_length))) ∙ h;
    choices = e;
  })
  by_choices room short h (suc r) e = one_line room _ _ _ (trace_faulty input short h (λ z. omega arith))

  by_table : longest_output ≤ length out → length input ≤ longest_input → (r : ℕ) → (frames_reply (frames_of (table_text input))).reply ≡ r → Gives input out
  by_table room short zero e = by_choices room short e (bad_choice_of input).reply refl
  by_table room short (suc r) e = one_line room _ _ _ (trace_refused input short (λ z. omega arith))

  by_length : longest_output ≤ length out → (b : Bool) → ltb longest_input (length input) ≡ b → Gives input out
  by_length room true e = one_line room 17 17 0 (trace_long input (ltb-true _ _ e))
  by_length room false e = by_table room (ltb-false _ _ e) (frames_reply (frames_of (table_text input))).reply refl

  by_room : (b : Bool) → ltb (length out) longest_output ≡ b → Gives input out
  unfolding steps_shown lines
  by_room true e = no_step (rw (short_bytes input out (ltb-true _ _ e)))
  by_room false e = by_length (ltb-false _ _ e) (ltb longest_input (length input)) refl

  pub gives : Gives input out
  gives = by_room (ltb (length out) longest_output) refl

pub else_no_step : ElseNoStep
else_no_step input out refused = go (gives input out)
  where
    go : Gives input out → trace_steps input out ≡ []
    go (no_step e) = e
    go (all_steps ok) = absurd (refused ok)
