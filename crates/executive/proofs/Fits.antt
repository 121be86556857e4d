-- The start state fits its table, and an accepted step keeps the fit. Assumes nothing.
use mathlib.Core.Path.{◌≡◌, sym, subst, ◌∙◌}
use mathlib.Core.Logic.{◌⊎◌, inl, inr}
use mathlib.Core.Bool.{true}
use mathlib.Core.List.{List}
use Prim.Native.Nat.{ℕ, ◌<◌, ◌≤◌}
use native.Mathlib.Decide.{ℕ_discrete}
use native.Mathlib.Omega.{arith}
use lib.ListN.{length}
use Rattle.tables.specs.Layout.{agents, rows, row}
use Rattle.tables.specs.Table.{good_table}
use Rattle.choices.specs.State.{clock, pos, mark, value, pos_place, mark_place, value_place, start_words}
use Rattle.choices.specs.Fit.{fits, current}
use Rattle.choices.specs.Step.{choice_reply, accepted, InTime, Allowed}
use Rattle.tables.proofs.Good.{few, few_rows, table_facts, target, window, late_bound, window_on}
use Rattle.choices.proofs.After.{accepted_other, accepted_clock, accepted_pos_other, sent_own_mark, mark_away, value_away, mark_unsent, value_unsent}
use Rattle.choices.proofs.Onward.{pos_goes, pos_rises, pos_within}
use Rattle.choices.proofs.Choice.{allowed}
use Rattle.executive.proofs.Fitting.{Fits, Unsent, Sent, fits_says, fits_holds}
use Rattle.executive.proofs.Start.{start_clock, start_low, start_register, start_high}

module _ (tb : List ℕ) (good : good_table tb ≡ true) (long : length tb ≡ 2129) where
  long_enough : 2129 ≤ length tb
  long_enough = omega arith

  start_pos : (b : ℕ) → b < 16 → pos (start_words tb) b ≡ 0
  start_pos b h = start_low tb long_enough (pos_place b) (omega arith) (omega arith)

  pub start_is : Fits tb (start_words tb)
  start_is =
      let limit = few tb good in
      let c = start_clock tb long_enough in
      record {
        clock_from = omega arith;
        clock_to = omega arith;
        late = λ b h live. let e = start_pos b (omega arith) in let w = window tb good b h (pos (start_words tb) b) live in omega arith;
        position = λ b h. let e = start_pos b (omega arith) in omega arith;
        message = λ b i hb hi. inl (start_high tb long_enough (mark_place b i) (omega arith), start_high tb long_enough (value_place b i) (omega arith));
        no_position = λ k l m. start_low tb long_enough k (omega arith) m;
        no_register = λ k l m. start_register tb long_enough k (omega arith) m ∙ (table_facts tb good).registers_past k l m;
        no_mark = λ k l m. start_high tb long_enough k (omega arith);
        no_value = λ k l m. start_high tb long_enough k (omega arith);
      }

  pub start_fits : fits tb (start_words tb) ≡ true
  start_fits = fits_holds tb (start_words tb) good start_is

-- ---- an accepted step

module _ (tb st : List ℕ) (good : good_table tb ≡ true) (long : length st ≡ 1105) (f : Fits tb st) (a t : ℕ) (c : Allowed tb st a t) where
  abbrev new : List ℕ
  new = accepted tb st a t

  low : a < 16
  low = let h = c.agent in omega (arith, few tb good)

  within : pos st a < 32
  within = let h = c.unended in omega (arith, few_rows tb good a c.agent)

  clock_is : clock new ≡ t
  clock_is = accepted_clock tb st a t long low

  -- the position of each agent after the step: a's is higher, every other's is the same
  pub new_position : (b : ℕ) → b < agents tb → (pos st b ≤ pos new b) × (pos new b ≤ rows tb b)
  new_position b h = go (ℕ_discrete b a)
    where
      go : Dec (b ≡ a) → (pos st b ≤ pos new b) × (pos new b ≤ rows tb b)
      go (yes e) =
          rw e (
            (let l = pos_rises tb st a t long low in omega arith),
            (let l = pos_within tb st a t long low in let m = target tb good a c.agent (pos st a) c.unended in omega arith),
          )
      go (no n) =
          let e = accepted_pos_other tb st a t long low b (omega (arith, few tb good)) n in
          let p = f.position b h in (omega arith, omega arith)

  new_late : InTime tb new t
  new_late b h live = go (ℕ_discrete b a)
    where
      go : Dec (b ≡ a) → t ≤ (row tb b (pos new b)).late
      go (yes e) =
          let o = c.late a c.agent c.unended in
          let w = (window_on tb good a c.agent (pos st a) c.unended (pos new a) (pos_goes tb st a t long low) (subst (λ (d : ℕ). pos new d < rows tb d) e live)).1 in
          rw e (omega arith)
      go (no n) =
          let e = accepted_pos_other tb st a t long low b (omega (arith, few tb good)) n in
          let o = c.late b h (omega arith) in
          rw e o

  new_message : (b i : ℕ) → b < agents tb → i < 32 → Unsent tb new b i ⊎ Sent tb new b i
  new_message b i hb hi = go (ℕ_discrete b a) (ℕ_discrete i (pos st a)) (ℕ_discrete (current tb st a).op 0x20)
    where
      hb16 : b < 16
      hb16 = omega (arith, few tb good)

      -- a place whose words are as before
      kept : mark new b i ≡ mark st b i → value new b i ≡ value st b i → Unsent tb st b i ⊎ Sent tb st b i → Unsent tb new b i ⊎ Sent tb new b i
      kept m v (inl u) = inl (m ∙ u.0, v ∙ u.1)
      kept m v (inr s) = let p = (new_position b hb).0 in inr (m ∙ s.0, s.1, let q = s.2 in omega arith)

      go : Dec (b ≡ a) → Dec (i ≡ pos st a) → Dec ((current tb st a).op ≡ 0x20) → Unsent tb new b i ⊎ Sent tb new b i
      go (yes d) (yes e) (yes o) =
          inr (
            rw (d, e) (sent_own_mark tb st a t long low within o),
            rw (d, e) o,
            rw (d, e) (pos_rises tb st a t long low),
          )
      go (yes d) (yes e) (no n) =
          kept (mark_unsent tb st a t long low within b i hb16 hi n) (value_unsent tb st a t long low within b i hb16 hi n) (f.message b i hb hi)
      go (yes d) (no n) o =
          kept (mark_away tb st a t long low within b i hb16 hi (λ q. n q.1)) (value_away tb st a t long low within b i hb16 hi (λ q. n q.1)) (f.message b i hb hi)
      go (no n) e o =
          kept (mark_away tb st a t long low within b i hb16 hi (λ q. n q.0)) (value_away tb st a t long low within b i hb16 hi (λ q. n q.0)) (f.message b i hb hi)

  pub accepted_is : Fits tb new
  accepted_is =
      let limit = few tb good in
      let h = c.agent in
      let n = c.clock in
      let e = clock_is in
      record {
        clock_from = let l = f.clock_from in omega arith;
        clock_to = let l = c.late a c.agent c.unended in let m = late_bound tb good a c.agent (pos st a) c.unended in omega arith;
        late = subst (InTime tb new) (sym clock_is) new_late;
        position = λ b hb. (new_position b hb).1;
        message = new_message;
        no_position = λ k l m.
            accepted_other tb st a t long low k (λ e. omega arith) (λ e. omega arith) (λ i h e. omega arith) (λ e. omega arith) (λ e. omega arith)
            ∙ f.no_position k l m;
        no_register = λ k l m.
            accepted_other tb st a t long low k (λ e. omega arith) (λ e. omega arith) (λ i h e. omega arith) (λ e. omega arith) (λ e. omega arith)
            ∙ f.no_register k l m;
        no_mark = λ k l m.
            accepted_other tb st a t long low k (λ e. omega arith) (λ e. omega arith) (λ i h e. omega arith) (λ e. omega (arith, within)) (λ e. omega arith)
            ∙ f.no_mark k l m;
        no_value = λ k l m.
            accepted_other tb st a t long low k (λ e. omega arith) (λ e. omega arith) (λ i h e. omega arith) (λ e. omega (arith, within)) (λ e. omega (arith, within))
            ∙ f.no_value k l m;
      }

pub accepted_fits : (tb st : List ℕ) → good_table tb ≡ true → length st ≡ 1105 → fits tb st ≡ true → (a t : ℕ) → choice_reply tb st a t ≡ 0
    → fits tb (accepted tb st a t) ≡ true
accepted_fits tb st good long f a t c =
    fits_holds tb (accepted tb st a t) good (accepted_is tb st good long (fits_says tb st f) a t (allowed tb st a t c))
