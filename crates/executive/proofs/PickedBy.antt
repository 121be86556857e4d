-- What `pick` answers, by its reply: agent and time are 0 where it refuses; and which agent it is. Assumes nothing.
use mathlib.Core.Path.{◌≡◌, refl, sym, ap, ap₂, ◌∙◌}
use mathlib.Core.List.{List}
use mathlib.Core.Logic.{by_cases}
use mathlib.Core.Bool.{Bool, true, false, cond, true≢false}
use Prim.Native.Nat.{ℕ, zero, suc, ◌<◌}
use native.Mathlib.Decide.{dec_lt}
use native.Mathlib.Omega.{arith}
use Rattle.std.specs.Prelude.{Result, Ok, Err}
use Rattle.std.specs.Result.{IsErrAnd}
use Rattle.tables.specs.Replies.{number_of}
use Rattle.tables.specs.declared.replies.Refusal.{Refusal}
use Rattle.executive.specs.declared.Choice.{Choice}
use Rattle.executive.specs.Replies.{picked_of}
use Rattle.tables.proofs.Refusals.{no_zero}
use Rattle.tables.specs.Layout.{agents}
use Rattle.tables.proofs.FirstBelow.{first_below_before, first_below_holds}
use Rattle.choices.specs.Fit.{current}
use Rattle.choices.specs.Pick.{soonest, all_ended, has_least_late, picked_agent}
use Rattle.choices.proofs.Pick.{is_least, least_is, first_least}
use Rattle.executive.specs.Calls.{table_part, state_part, words_reply, PickOutcome, picked, pick_reply, pick_from}
use Rattle.executive.specs.Laws.{LeastLate}
use Rattle.executive.proofs.Ready.{Ready, words_zero, then_next}

module _ (tb st : List ℕ) where
  abbrev agent : ℕ
  agent = picked_agent (table_part tb) (state_part st)

  abbrev time : ℕ
  time = soonest (table_part tb) (state_part st) agent

  -- of words that are not refused it goes by whether all have ended
  pub pick_ready : Ready tb st → (b : Bool) → all_ended (table_part tb) (state_part st) ≡ b → pick_reply tb st ≡ cond b 11 0
  unfolding pick_reply
  pick_ready r b e = then_next (words_reply tb st) _ (words_zero tb st r) ∙ rw e

  -- by the reply
  abbrev answer : ℕ → PickOutcome
  answer r = elim r as (λ _. PickOutcome) [ zero ↦ picked 0 agent time | suc n ↦ picked (suc n) 0 0 ]

  pub picked_by : (r : ℕ) → pick_reply tb st ≡ r → pick_from tb st ≡ answer r
  unfolding pick_from
  picked_by r h = ap answer h

  pub pick_stops : (r : ℕ) → pick_reply tb st ≡ r → (r ≡ 0 → ⊥) → (s a t : ℕ) → (s ≡ r) × (a ≡ 0) × (t ≡ 0) → picked s a t ≡ pick_from tb st
  pick_stops zero h n s a t e = absurd (n refl)
  pick_stops (suc r) h n s a t (x, y, z) = (λ i. picked (x i) (y i) (z i)) ∙ sym (picked_by (suc r) h)

  pub pick_refused : (x : Refusal) (r : Result Choice Refusal) → IsErrAnd r (λ e. e ≡ x) → number_of x ≡ pick_reply tb st
      → picked (picked_of r).reply (picked_of r).agent (picked_of r).time ≡ pick_from tb st
  pick_refused x (Ok _) h k = absurd h
  pick_refused x (Err e) h k = pick_stops (number_of x) (sym k) (no_zero x) (number_of e) 0 0 (ap number_of h, refl, refl)

  pub pick_goes : pick_reply tb st ≡ 0 → (a t : ℕ) → a ≡ agent → t ≡ soonest (table_part tb) (state_part st) a → picked 0 a t ≡ pick_from tb st
  pick_goes h a t x y = ap₂ (picked 0) x (y ∙ ap (soonest (table_part tb) (state_part st)) x) ∙ sym (picked_by 0 h)

  pub replied : (r : ℕ) → pick_reply tb st ≡ r → (pick_from tb st).reply ≡ r
  replied zero e = ap (λ (o : PickOutcome). o.reply) (picked_by 0 e)
  replied (suc r) e = ap (λ (o : PickOutcome). o.reply) (picked_by (suc r) e)

-- ---- which agent it is

module _ (tb st : List ℕ) (a : ℕ) where
  least_late : has_least_late tb st a ≡ true → a < agents tb → ((b : ℕ) → b < a → has_least_late tb st b ≡ false) → LeastLate tb st a
  least_late l low before =
      let (live, due) = least_is tb st a l in
      record {
        agent = low;
        unended = live;
        least = due;
        lowest = λ b h k. by_cases (dec_lt (current tb st a).late (current tb st b).late) (λ less. less)
            (λ n. absurd (true≢false (sym (is_least tb st b k (λ c m i. let d = due c m i in omega arith)) ∙ before b h)));
      }

  pub picked_first : (picked_agent tb st ≡ a) × (a < agents tb) → LeastLate tb st a
  unfolding picked_agent
  picked_first (e, low) =
      least_late (rw (sym e) (first_below_holds (agents tb) (has_least_late tb st) (rw e low))) low
      (λ b h. first_below_before (agents tb) (has_least_late tb st) b (rw e h))

  pub first_picked : LeastLate tb st a → (picked_agent tb st ≡ a) × (a < agents tb)
  first_picked l = (first_least tb st a l.agent l.unended l.least l.lowest, l.agent)
