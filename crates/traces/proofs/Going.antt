-- The loop over the choice lines: what the choices that are left give of the output, put where the step lines end, makes the whole. Assumes nothing.
use mathlib.Core.Path.{◌≡◌, refl, sym, ap, ◌∙◌}
use mathlib.Core.Bool.{true}
use mathlib.Core.List.{List, ◌∷◌, ◌++◌}
use Prim.Native.Nat.{ℕ, zero, suc, ◌+◌, ◌*◌, ◌≤◌, ◌<◌}
use native.Mathlib.Omega.{arith}
use lib.ListN.{length}
use lib.Seq.{sets, length-sets}
use Rattle.tables.specs.Lines.{lines, field}
use Rattle.tables.specs.Heads.{digits_at}
use Rattle.tables.specs.Table.{good_table}
use Rattle.choices.specs.declared.Agent.{Agent}
use Rattle.choices.specs.State.{agent_at, start_words}
use Rattle.choices.specs.Fit.{fits}
use Rattle.choices.specs.Step.{choice_reply, accepted}
use Rattle.executive.specs.Run.{run_from}
use Rattle.executive.proofs.Runs.{run_go, count_from_start}
use Rattle.executive.proofs.RunOn.{count_least}
use Rattle.executive.proofs.Fits.{start_fits, accepted_fits}
use Rattle.choices.proofs.Choosing.{chosen_low}
use Rattle.choices.proofs.After.{agent_four, accepted_length}
use Rattle.traces.specs.Input.{bad_choice, choices_in}
use Rattle.traces.specs.Output.{Traced, traced, after, step_line, last_line, trace_from}
use Rattle.traces.specs.Calls.{TraceOutcome, longest_output, written}
use Rattle.traces.specs.Places.{placed, last, ending}
use Rattle.traces.proofs.Choices.{front_digits, front_next, front_choice, none_left_lem}
use Rattle.traces.proofs.Steps.{step_line_length, last_line_length, placed_after, placed_start, trace_go, trace_stop}

-- the choices in what is left of the lines, and the whole output
abbrev from : List ℕ → List ℕ
from left = choices_in (lines left)

abbrev whole : (tb choices : List ℕ) → Traced
whole tb choices = trace_from tb (start_words tb) 0 (from choices)

-- after n accepted steps, whose lines stand at the start of the output
pub record Going (tb choices out₀ out ws : List ℕ) (n : ℕ) (left : List ℕ) : Type 0 where
  pub out_long : length out ≡ length out₀
  pub fit : fits tb ws ≡ true
  pub well : (bad_choice (n + 1) (lines left)).reply ≡ 0
  pub few : (run_from tb ws n (from left)).count ≤ 512
  pub rest : placed (trace_from tb ws n (from left)) (47 * n) out ≡ placed (whole tb choices) 0 out₀

-- before the first step
pub begin : (tb choices out ws : List ℕ) → good_table tb ≡ true → length tb ≡ 2129 → (bad_choice 1 (lines choices)).reply ≡ 0
    → ws ≡ start_words tb → (left : List ℕ) → left ≡ choices → Going tb choices out out ws 0 left
begin tb choices out ws good long well w left same =
    record {
      out_long = refl;
      fit = rw w (start_fits tb good long);
      well = rw same well;
      few = rw (w, same) (count_from_start tb good long (from choices));
      rest = rw (w, same);
    }

module _ (tb choices out₀ out ws : List ℕ) (n : ℕ) (left : List ℕ) (g : Going tb choices out₀ out ws n left) where
  pub few_steps : n ≤ 512
  few_steps = let k = count_least tb ws n (from left) in let f = g.few in omega arith

  -- the last line makes the whole
  pub all_written : (reply : ℕ) → longest_output ≤ length out₀
      → placed (traced reply (last_line reply n)) (47 * n) out ≡ placed (whole tb choices) 0 out₀
      → ending (last n reply n) out ≡ written (whole tb choices) out₀
  all_written reply long f =
      let k : 47 * n + length (last_line reply n) ≡ 0 + length (whole tb choices).bytes = ap (λ (q : TraceOutcome). q.length) f in
      let a = few_steps in
      let l = last_line_length reply n in
      f ∙ placed_start (whole tb choices) out₀ (omega arith)

  pub none_more : length left < 13 → placed (traced 0 (last_line 0 n)) (47 * n) out ≡ placed (whole tb choices) 0 out₀
  unfolding trace_from choices_in lines
  none_more h = rw (none_left_lem (n + 1) left g.well h) at g.rest

  module _ (line left' : List ℕ) (cut : left ≡ line ++ left') (k : length line ≡ 13) where
    well_cut : (bad_choice (n + 1) (lines (line ++ left'))).reply ≡ 0
    well_cut = rw cut at g.well

    pub digits : digits_at 12 line 0 ≡ true
    digits = front_digits (n + 1) line left' k well_cut

    module _ (a t : ℕ) (ea : a ≡ field line 2 2) (et : t ≡ field line 4 8) where
      next : from left ≡ a ∷ t ∷ from left'
      next = rw (ea, et, cut) (front_choice (n + 1) line left' k well_cut)

      pub refused : (r : ℕ) → (r ≡ 0 → ⊥) → choice_reply tb ws a t ≡ r → placed (traced r (last_line r n)) (47 * n) out ≡ placed (whole tb choices) 0 out₀
      refused zero k e = absurd (k refl)
      refused (suc r) k e =
          ap (λ (q : Traced). placed q (47 * n) out) (sym (ap (trace_from tb ws n) next ∙ trace_stop tb ws n a t (from left') r e)) ∙ g.rest

      module _ (e : choice_reply tb ws a t ≡ 0) where
        counted : run_from tb ws n (from left) ≡ run_from tb (accepted tb ws a t) (n + 1) (from left')
        counted = ap (run_from tb ws n) next ∙ run_go tb ws n a t (from left') e

        pub one_more : n + 1 ≤ 512
        one_more =
            let k = count_least tb (accepted tb ws a t) (n + 1) (from left') in
            let f : (run_from tb (accepted tb ws a t) (n + 1) (from left')).count ≤ 512 = rw counted at g.few in
            omega arith

        pub low : good_table tb ≡ true → a < 16
        low good = chosen_low tb ws good a t e

        pub on : (s : Agent) (out' new : List ℕ) → good_table tb ≡ true → length ws ≡ 1105 → new ≡ accepted tb ws a t → s ≡ agent_at new a
            → out' ≡ sets out (47 * n) (step_line a t s) → Going tb choices out₀ out' new (n + 1) left'
        on s out' new good long ew es' eo =
            record {
              out_long = ap length eo ∙ length-sets out (47 * n) (step_line a t s) ∙ g.out_long;
              fit = rw ew (accepted_fits tb ws good long g.fit a t e);
              well = front_next (n + 1) line left' k well_cut;
              few = rw ew (rw counted at g.few);
              rest = rw (ew, eo) (steps ∙ g.rest);
            }
          where
            es : s ≡ agent_at (accepted tb ws a t) a
            es = es' ∙ ap (λ (w : List ℕ). agent_at w a) ew

            four : length s.regs ≡ 4
            four =
                ap (λ (q : Agent). length q.regs) es
                ∙ agent_four tb (accepted tb ws a t) a t (accepted_length tb ws a t long (low good)) (low good)

            more : Traced
            more = trace_from tb (accepted tb ws a t) (n + 1) (from left')

            further : 47 * (n + 1) ≡ 47 * n + length (step_line a t s)
            further = omega (arith, step_line_length a t s four)

            steps : placed more (47 * (n + 1)) (sets out (47 * n) (step_line a t s)) ≡ placed (trace_from tb ws n (from left)) (47 * n) out
            steps =
                ap (λ (m : ℕ). placed more m (sets out (47 * n) (step_line a t s))) further
                ∙ sym (placed_after (step_line a t s) more (47 * n) out)
                ∙ ap (λ (q : Agent). placed (after (step_line a t q) more) (47 * n) out) es
                ∙ ap (λ (q : Traced). placed q (47 * n) out) (sym (ap (trace_from tb ws n) next ∙ trace_go tb ws n a t (from left') e))
