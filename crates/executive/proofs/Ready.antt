-- Words that a step takes, a good table and a state that fits it: `start` and each accepted step leave such, so that no step after them is refused
-- with 9. Assumes nothing.
use mathlib.Core.Path.{◌≡◌, refl, sym, ap, ◌∙◌}
use mathlib.Core.Logic.{◌≢◌}
use mathlib.Core.Bool.{true}
use mathlib.Core.List.{List, ◌++◌}
use Prim.Native.Nat.{ℕ, zero, suc, ◌≤◌}
use native.Mathlib.Omega.{arith}
use lib.ListN.{length, length-take, length-append}
use lib.Seq.{take_at, drop_at}
use borrow.Author.Tests.{ltb-false, le-ltb, not-false}
use Rattle.tables.specs.Basics.{first}
use Rattle.tables.specs.Layout.{table_words}
use Rattle.tables.specs.Table.{good_table}
use Rattle.tables.proofs.Passed.{passed}
use Rattle.choices.specs.State.{state_words, start_words}
use Rattle.choices.specs.Fit.{fits}
use Rattle.choices.specs.Step.{choice_reply, accepted}
use Rattle.executive.specs.Calls.{table_part, state_part, past_state, then, words_reply, Outcome, outcome, start_reply, start_into, step_reply, step_into}
use Rattle.tables.proofs.Good.{few}
use Rattle.choices.proofs.After.{accepted_length}
use Rattle.choices.proofs.Choice.{allowed, lacking}
use Rattle.executive.proofs.Start.{start_length}
use Rattle.executive.proofs.Fits.{start_fits, accepted_fits}

-- a reply, with the words that follow a step or those that were
abbrev pub answer : ℕ → (new old : List ℕ) → Outcome
answer zero new old = outcome 0 new
answer (suc r) new old = outcome (suc r) old

-- of two replies, one after the other
module _ (r n : ℕ) where
  pub then_first : (r ≡ 0 → ⊥) → then r n ≡ r
  unfolding then
  then_first k = go r k
    where
      go : (x : ℕ) → (x ≡ 0 → ⊥) → then x n ≡ x
      go zero k = absurd (k refl)
      go (suc x) k = refl

  pub then_next : r ≡ 0 → then r n ≡ n
  unfolding then
  then_next e = rw e

pub both_zero : (r n : ℕ) → then r n ≡ 0 → (r ≡ 0) × (n ≡ 0)
unfolding then
both_zero zero n h = (refl, h)
both_zero (suc r) n h = absurd (omega arith)

-- a state's words with others behind them
module _ (w rest : List ℕ) (long : length w ≡ 1105) where
  pub part_is : state_part (w ++ rest) ≡ w
  part_is = take_at w rest 1105 long

  pub past_is : past_state (w ++ rest) ≡ rest
  past_is = drop_at w rest 1105 long

-- ---- words that a step takes: a good table, and a state that fits it

module _ (tb : List ℕ) where
  pub record Ready (st : List ℕ) : Type 0 where
    pub table : table_words ≤ length tb
    pub state : state_words ≤ length st
    pub good : good_table (table_part tb) ≡ true
    pub fit : fits (table_part tb) (state_part st) ≡ true

  pub all_ready : (st : List ℕ) → (table_words ≤ length tb) × (state_words ≤ length st) × (good_table (table_part tb) ≡ true) × (fits (table_part tb) (state_part st) ≡ true)
      → Ready st
  all_ready st r = record { table = r.0; state = r.1; good = r.2; fit = r.3 }

  -- they are those that are refused with nothing
  pub words_zero : (st : List ℕ) → Ready st → words_reply tb st ≡ 0
  unfolding words_reply first
  words_zero st r = rw (le-ltb (length tb) table_words r.table, le-ltb (length st) state_words r.state, r.good, r.fit)

  pub zero_words : (st : List ℕ) → words_reply tb st ≡ 0 → Ready st
  unfolding words_reply
  zero_words st h =
      let clear = passed _ tt h in
      record {
        table = ltb-false _ _ (clear 0);
        state = ltb-false _ _ (clear 1);
        good = not-false _ (clear 2);
        fit = not-false _ (clear 3);
      }

  module _ (st : List ℕ) (a t : ℕ) where
    pub ready_reply : Ready st → step_reply tb st a t ≡ choice_reply (table_part tb) (state_part st) a t
    unfolding step_reply then
    ready_reply r = rw (words_zero st r)

    pub stepped_by : step_into tb st a t ≡ answer (step_reply tb st a t) (accepted (table_part tb) (state_part st) a t ++ past_state st) st
    unfolding step_into
    stepped_by = go (step_reply tb st a t)
      where
        go : (r : ℕ) → elim r as (λ _. Outcome) [ zero ↦ outcome 0 (accepted (table_part tb) (state_part st) a t ++ past_state st) | suc r ↦ outcome (suc r) st ]
            ≡ answer r (accepted (table_part tb) (state_part st) a t ++ past_state st) st
        go zero = refl
        go (suc r) = refl

    -- an accepted step was taken of such words
    pub was_ready : step_reply tb st a t ≡ 0 → Ready st × (choice_reply (table_part tb) (state_part st) a t ≡ 0)
    unfolding step_reply
    was_ready h = let (w, c) = both_zero (words_reply tb st) _ h in (zero_words st w, c)

  module _ (w rest : List ℕ) (long : length w ≡ 1105) where
    pub make_ready : table_words ≤ length tb → good_table (table_part tb) ≡ true → fits (table_part tb) w ≡ true → Ready (w ++ rest)
    make_ready l g f =
        record {
          table = l;
          state = simp length-append (omega arith);
          good = g;
          fit = rw (part_is w rest long) f;
        }

  module _ (st : List ℕ) (r : Ready st) (a t : ℕ) (c : choice_reply (table_part tb) (state_part st) a t ≡ 0) where
    accepted_long : length (accepted (table_part tb) (state_part st) a t) ≡ 1105
    accepted_long =
        let h = (allowed (table_part tb) (state_part st) a t c).agent in
        let n = few (table_part tb) r.good in
        let l = r.state in
        accepted_length (table_part tb) (state_part st) a t (simp length-take (omega arith)) (omega arith)

    -- so are the words that it leaves
    pub still_ready : Ready (accepted (table_part tb) (state_part st) a t ++ past_state st)
    still_ready =
        let l = r.state in
        make_ready (accepted (table_part tb) (state_part st) a t) (past_state st) accepted_long r.table r.good
        (accepted_fits (table_part tb) (state_part st) r.good (simp length-take (omega arith)) r.fit a t c)

  -- and the start state's
  pub start_ready : (st : List ℕ) → start_reply tb st ≡ 0 → Ready (start_words (table_part tb) ++ past_state st)
  unfolding start_reply
  start_ready st h =
      let clear = passed _ tt h in
      let l : table_words ≤ length tb = ltb-false _ _ (clear 0) in
      let n : length (table_part tb) ≡ table_words = simp length-take (omega arith) in
      let g : good_table (table_part tb) ≡ true = not-false _ (clear 2) in
      make_ready (start_words (table_part tb)) (past_state st) (start_length (table_part tb) (omega arith)) l g
      (start_fits (table_part tb) g n)

  module _ (st : List ℕ) where
    pub started : start_reply tb st ≡ 0 → (start_into tb st).state ≡ start_words (table_part tb) ++ past_state st
    unfolding start_into
    started h =
        ap (λ (x : ℕ). (elim x as (λ _. Outcome) [ zero ↦ outcome 0 (start_words (table_part tb) ++ past_state st) | suc r ↦ outcome (suc r) st ]).state) h

    started_reply : (start_into tb st).reply ≡ start_reply tb st
    unfolding start_into
    started_reply = go (start_reply tb st)
      where
        go : (r : ℕ) → (elim r as (λ _. Outcome) [ zero ↦ outcome 0 (start_words (table_part tb) ++ past_state st) | suc r ↦ outcome (suc r) st ]).reply ≡ r
        go zero = refl
        go (suc r) = refl

    -- the words that `start` leaves are such
    pub started_ready : (start_into tb st).reply ≡ 0 → Ready (start_into tb st).state
    started_ready e = let h = sym started_reply ∙ e in rw (started h) (start_ready st h)

    pub may_start : table_words ≤ length tb → state_words ≤ length st → good_table (table_part tb) ≡ true → start_reply tb st ≡ 0
    unfolding start_reply first
    may_start l m g = rw (le-ltb (length tb) table_words l, le-ltb (length st) state_words m, g)

-- ---- 9

choice_not_nine : (tb st : List ℕ) (a t : ℕ) → choice_reply tb st a t ≢ 9
unfolding choice_reply
choice_not_nine tb st a t = lacking 9 _ refl

module _ (tb : List ℕ) where
  ready_not_nine : (st : List ℕ) → Ready tb st → (a t : ℕ) → step_reply tb st a t ≢ 9
  ready_not_nine st r a t = rw (ready_reply tb st a t r) (choice_not_nine (table_part tb) (state_part st) a t)

  -- a step after `start`, or after a step, that was accepted is never refused with 9
  pub start_then : (st : List ℕ) → start_reply tb st ≡ 0 → (a t : ℕ) → step_reply tb (start_into tb st).state a t ≢ 9
  start_then st h a t = rw (started tb st h) (ready_not_nine (start_words (table_part tb) ++ past_state st) (start_ready tb st h) a t)

  pub step_then : (st : List ℕ) (b u : ℕ) → step_reply tb st b u ≡ 0 → (a t : ℕ) → step_reply tb (step_into tb st b u).state a t ≢ 9
  step_then st b u h a t =
      let w = was_ready tb st b u h in
      let new = accepted (table_part tb) (state_part st) b u ++ past_state st in
      let e : step_into tb st b u ≡ outcome 0 new = stepped_by tb st b u ∙ ap (λ (k : ℕ). answer k new st) h in
      rw e (ready_not_nine new (still_ready tb st w.0 b u w.1) a t)
