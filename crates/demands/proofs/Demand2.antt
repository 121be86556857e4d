-- Demand 2, proved of words of their full length: a choice, the words themselves, and the start.
use mathlib.Core.Path.{◌≡◌, sym, ap, ◌∙◌, fun_ext}
use mathlib.Core.Logic.{by_cases}
use Prim.Native.Nat.{ℕ, ◌+◌, ◌≤◌, ◌<◌}
use native.Mathlib.Decide.{dec_lt}
use native.Mathlib.Omega.{arith}
use lib.ListN.{length, take, drop}
use Rattle.pharos.specs.Published.{SystemState, executes}
use Rattle.pharos.proofs.Functional.{executes_once}
use Rattle.tables.specs.Layout.{start_place}
use Rattle.choices.specs.State.{pos, start_words, pos_place, reg_place, mark_place}
use Rattle.choices.specs.Step.{choice_reply, accepted, Allowed as Accepts}
use Rattle.choices.proofs.Lists.{part_same}
use Rattle.choices.proofs.After.{accepted_clock, accepted_length}
use Rattle.executive.proofs.Start.{start_length, start_clock, start_low, start_register, start_high}
use Rattle.executive.proofs.Fitting.{fits_says}
use Rattle.executive.proofs.Fits.{accepted_fits, start_fits}
use Rattle.choices.proofs.Choice.{allowed, allowed_reply}
use Rattle.demands.specs.Reasons.{ModelAllows}
use Rattle.demands.specs.Instance.{published, decode, state_of, start_of}
use Rattle.demands.specs.Demand2.{ChoiceIsModels, WordsAreModels, StartIsModels}
use Rattle.demands.proofs.Decode.{state_low, state_high, sent_unmarked, same_words}
use Rattle.demands.proofs.Step.{low, allowed_accepts, does}
use Rattle.demands.proofs.Reasons.{first_reason}

pub choice_is_models : ChoiceIsModels
choice_is_models tb st table state a t =
    let good = table.good in
    let f = fits_says tb st state.fit in
    let accepts : choice_reply tb st a t ≡ 0 → Accepts tb st a t = allowed tb st a t in
    let low_agent : choice_reply tb st a t ≡ 0 → a < 16 = λ e. low tb st good (accepts e).agent in
    let step : choice_reply tb st a t ≡ 0 → executes (published tb) a (decode tb st) (decode tb (accepted tb st a t)) =
    λ e. does tb st good state.long f a t (accepts e) in
    let reply : ModelAllows (decode tb st) a t → choice_reply tb st a t ≡ 0 = λ x. allowed_reply tb st a t (allowed_accepts tb st good a t x) in
    let time : choice_reply tb st a t ≡ 0 → (decode tb (accepted tb st a t)).t ≡ t = λ e. accepted_clock tb st a t state.long (low_agent e) in
    record {
      exact = (λ e. (decode tb (accepted tb st a t), time e, step e), reply);
      reason = first_reason tb st good a t;
      state = λ e. record {
        long = accepted_length tb st a t state.long (low_agent e);
        fit = accepted_fits tb st good state.long state.fit a t e;
      };
      step = step;
      time = time;
      only = λ post x at. let e = reply (post, at, x) in executes_once x (step e) (at ∙ sym (time e));
    }

pub words_are_models : WordsAreModels
words_are_models tb st other table state state' e =
    same_words tb st other (fits_says tb st state.fit) (fits_says tb other state'.fit) state.long state'.long
    (ap (λ (g : SystemState (published tb)). g.st) e) (ap (λ (g : SystemState (published tb)). g.msgs) e) (ap (λ (g : SystemState (published tb)). g.t) e)

pub start_is_models : StartIsModels
start_is_models tb table = (
  record { long = start_length tb long_enough; fit = start_fits tb table.good table.long },
  record {
    st = fun_ext λ b. by_cases (dec_lt b 16) (starts b) (λ h. state_high tb (start_words tb) b (omega arith));
    msgs = λ b i. sent_unmarked (start_words tb) b i (λ e. omega (arith, start_high tb long_enough (mark_place b i) (omega arith)));
    t = start_clock tb long_enough;
  },
)
  where
    long_enough : 2129 ≤ length tb
    long_enough = omega (arith, table.long)

    starts : (b : ℕ) → b < 16 → state_of tb (start_words tb) b ≡ start_of tb b
    starts b h = state_low tb (start_words tb) b h ∙ (λ k. record { pos = position k; regs = registers k })
      where
        position : pos (start_words tb) b ≡ 0
        position = start_low tb long_enough (pos_place b) (omega arith) (omega arith)

        registers : take 4 (drop (reg_place b) (start_words tb)) ≡ take 4 (drop (start_place b) tb)
        registers =
            part_same (start_words tb) tb 4 (reg_place b) (start_place b) (omega (arith, start_length tb long_enough)) (omega (arith, table.long))
            (λ i l. start_register tb long_enough (reg_place b + i) (omega arith) (omega arith))
