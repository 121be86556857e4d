-- Which agent can be run, and which is picked: the first of the least lates. Assumes nothing.
use Rattle.std.proofs.Common.{◌≡◌, ℕ, ◌+◌, ◌<◌, ◌≤◌, Bool, true, false, not, List, ◌≢◌, get_or, sym, refl, ap, ◌∙◌, arith}
use mathlib.Core.Bool.{false≢true}
use native.Mathlib.Decide.{dec_lt, ℕ_discrete}
use Rattle.tables.specs.Layout.{agents, rows, row}
use Rattle.tables.specs.Table.{good_table}
use Rattle.tables.specs.declared.Row.{Row}
use Rattle.tables.proofs.Tests.{and_both}
use Rattle.tables.proofs.Passed.{and_1, and_2, all_below_lem, not_all_below}
use Rattle.tables.proofs.FirstBelow.{first_below_is, first_below_found}
use Rattle.tables.proofs.Good.{few, table_facts, no_count, late_bound}
use Rattle.choices.specs.State.{pos}
use Rattle.choices.specs.Fit.{unfinished, current, in_time}
use Rattle.choices.specs.Step.{InTime, Allowed}
use Rattle.choices.specs.Pick.{soonest, can_go, all_ended, has_least_late, picked_agent}
use Rattle.choices.specs.Lates.{no_late, Lates, Picks}
use Rattle.choices.proofs.Choice.{below_its_rows, is_unfinished, has_ended, in_time_lem, time_in}
use Rattle.choices.proofs.Lates.{late_ended, late_row}

module _ (tb st : List ℕ) (a : ℕ) where
  -- one of them is enough for some to be left
  pub some_left : a < agents tb → pos st a < rows tb a → all_ended tb st ≡ false
  unfolding all_ended
  some_left h l = not_all_below (agents tb) (λ b. not (unfinished tb st b)) a h (rw (is_unfinished tb st a l))

  -- it has the least late where it is not above that of any unfinished agent's row, and the other way round
  pub is_least : pos st a < rows tb a → InTime tb st (current tb st a).late → has_least_late tb st a ≡ true
  unfolding has_least_late
  is_least l h =
      and_both (unfinished tb st a) (in_time tb st (current tb st a).late) (is_unfinished tb st a l) (time_in tb st (current tb st a).late h)

  pub least_is : has_least_late tb st a ≡ true → (pos st a < rows tb a) × InTime tb st (current tb st a).late
  unfolding has_least_late
  least_is h = (
    below_its_rows tb st a (and_1 (unfinished tb st a) (in_time tb st (current tb st a).late) h),
    in_time_lem tb st (current tb st a).late (and_2 (unfinished tb st a) (in_time tb st (current tb st a).late) h),
  )

  -- an agent that may be chosen at some time can go
  pub can_go_lem : (t : ℕ) → Allowed tb st a t → can_go tb st a ≡ true
  unfolding can_go
  can_go_lem t c =
      and_both (unfinished tb st a) (in_time tb st (soonest tb st a)) (is_unfinished tb st a c.unended)
      (time_in tb st (soonest tb st a) (λ b h l. omega (arith, c.late b h l, c.clock, c.early)))

  -- and may then be chosen at the soonest
  pub goes_soonest : a < agents tb → can_go tb st a ≡ true → Allowed tb st a (soonest tb st a)
  unfolding can_go
  goes_soonest low h =
      record {
        agent = low;
        unended = below_its_rows tb st a (and_1 (unfinished tb st a) (in_time tb st (soonest tb st a)) h);
        clock = omega arith;
        early = omega arith;
        late = in_time_lem tb st (soonest tb st a) (and_2 (unfinished tb st a) (in_time tb st (soonest tb st a)) h);
      }

  -- where the position and the row were read as p and r
  pub early_is : (p : ℕ) (r : Row) → p ≡ pos st a → r ≡ row tb a p → r.early ≡ (current tb st a).early
  early_is p r ep er = ap (λ (x : Row). x.early) er ∙ ap (λ (i : ℕ). (row tb a i).early) ep

module _ (tb st : List ℕ) where
  pub all_ended_lem : ((b : ℕ) → b < agents tb → rows tb b ≤ pos st b) → all_ended tb st ≡ true
  unfolding all_ended
  all_ended_lem h = all_below_lem (agents tb) (λ b. not (unfinished tb st b)) (λ b l. rw (has_ended tb st b (h b l)))

  pub each_ended : all_ended tb st ≡ true → (b : ℕ) → b < agents tb → rows tb b ≤ pos st b
  unfolding all_ended
  each_ended e b h = go (dec_lt (pos st b) (rows tb b))
    where
      go : Dec (pos st b < rows tb b) → rows tb b ≤ pos st b
      go (yes l) = absurd (false≢true (sym (some_left tb st b h l) ∙ e))
      go (no n) = omega arith

  -- the one that is picked: none of a lower number has a late that is not greater
  pub first_least : (a : ℕ) → a < agents tb → pos st a < rows tb a → InTime tb st (current tb st a).late
      → ((b : ℕ) → b < a → pos st b < rows tb b → (current tb st a).late < (current tb st b).late) → picked_agent tb st ≡ a
  unfolding picked_agent
  first_least a h k least lowest =
      first_below_is (agents tb) (has_least_late tb st) a h (is_least tb st a k least) (λ b l. go b l (has_least_late tb st b) refl)
    where
      go : (b : ℕ) → b < a → (v : Bool) → has_least_late tb st b ≡ v → v ≡ false
      go b l false e = refl
      go b l true e = let (live, due) = least_is tb st b e in absurd (omega (arith, due a h k, lowest b l live))

  -- an agent is left, and of those that are one has the least late: that one, or one of a lower number with the same late, is picked
  pub picked_is : (a : ℕ) → a < agents tb → has_least_late tb st a ≡ true → (picked_agent tb st < agents tb) × (has_least_late tb st (picked_agent tb st) ≡ true)
  unfolding picked_agent
  picked_is a h l = first_below_found (agents tb) (has_least_late tb st) a h l

-- ---- the first of the least lates

-- of the first b lates none is below least, and a is the first that has it, where there is one at all
pub record FirstLeast (ls : List ℕ) (b a least : ℕ) : Type 0 where
  pub lowest : (j : ℕ) → j < b → least ≤ get_or ls j 0
  pub bounded : least ≤ no_late
  pub found : least < no_late → (a < b) × (get_or ls a 0 ≡ least) × ((j : ℕ) → j < a → least < get_or ls j 0)

module _ (ls : List ℕ) (b a least : ℕ) (f : FirstLeast ls b a least) where
  lowest_on : (least' : ℕ) → least' ≤ least → least' ≤ get_or ls b 0 → (j : ℕ) → j < b + 1 → least' ≤ get_or ls j 0
  lowest_on least' u v j l = go (ℕ_discrete j b)
    where
      go : Dec (j ≡ b) → least' ≤ get_or ls j 0
      go (yes e) = rw e v
      go (no n) = omega (arith, f.lowest j (omega arith))

  pub least_new : (late a' least' : ℕ) → late ≡ get_or ls b 0 → late < least → a' ≡ b → least' ≡ late → FirstLeast ls (b + 1) a' least'
  least_new late a' least' el h ea em = record {
    lowest = lowest_on least' (omega arith) (omega arith);
    bounded = omega (arith, f.bounded);
    found = λ k. (omega arith, rw ea (sym el ∙ sym em), λ j l. omega (arith, f.lowest j (omega arith)));
  }

  pub least_kept : (late a' least' : ℕ) → late ≡ get_or ls b 0 → least ≤ late → a' ≡ a → least' ≡ least → FirstLeast ls (b + 1) a' least'
  least_kept late a' least' el h ea em = record {
    lowest = lowest_on least' (omega arith) (omega arith);
    bounded = omega (arith, f.bounded);
    found = rw (ea, em) (λ k. let (q, e, before) = f.found k in (omega arith, e, before));
  }

module _ (tb st ls : List ℕ) (good : good_table tb ≡ true) (l : Lates tb st ls) where
  -- an agent's late is its row's where it is unfinished, which is below none
  own_late : (a : ℕ) → a < agents tb → pos st a < rows tb a → (get_or ls a 0 ≡ (current tb st a).late) × ((current tb st a).late < no_late)
  own_late a h k =
      (l.each a (omega (arith, few tb good)) ∙ late_row tb a (pos st a) k, omega (arith, late_bound tb good a h (pos st a) k))

  -- an agent of some late is one that there is, and unfinished
  some_late : (a : ℕ) → a < 16 → get_or ls a 0 < no_late → (a < agents tb) × (pos st a < rows tb a)
  some_late a h k = go (dec_lt (pos st a) (rows tb a)) (dec_lt a (agents tb))
    where
      go : Dec (pos st a < rows tb a) → Dec (a < agents tb) → (a < agents tb) × (pos st a < rows tb a)
      go (yes p) (yes q) = (q, p)
      go (yes p) (no q) = absurd (omega (arith, no_count tb (table_facts tb good) a (omega arith) h))
      go (no p) q = absurd (omega (arith, l.each a h ∙ late_ended tb a (pos st a) (omega arith)))

  none_late : ((a : ℕ) → a < 16 → no_late ≤ get_or ls a 0) → all_ended tb st ≡ true
  none_late h = all_ended_lem tb st (λ a k. go a k (dec_lt (pos st a) (rows tb a)))
    where
      go : (a : ℕ) → a < agents tb → Dec (pos st a < rows tb a) → rows tb a ≤ pos st a
      go a k (yes p) = let q = own_late a k p in absurd (omega (arith, q.0, q.1, h a (omega (arith, few tb good))))
      go a k (no p) = omega arith

  -- what the loop has found once all are passed
  module _ (a least : ℕ) (f : FirstLeast ls 16 a least) where
    pub all_have_ended : least ≡ no_late → all_ended tb st ≡ true
    all_have_ended e = none_late (λ j h. omega (arith, f.lowest j h))

    pub one_picked : least ≢ no_late → Picks tb st a
    one_picked n =
        let (h, e, before) = f.found (omega (arith, f.bounded)) in
        let (q, p) = some_late a h (omega (arith, f.bounded)) in
        let late = (own_late a q p).0 in
        record {
          left = some_left tb st a q p;
          agent = q;
          unended = p;
          is = sym (first_least tb st a q p (λ b x y. omega (arith, (own_late b x y).0, f.lowest b (omega (arith, few tb good)))) (λ b x y. omega (arith, before b x, (own_late b (omega arith) y).0)));
        }
