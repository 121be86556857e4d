-- The lates of the agents' current rows, in a list of their own: a time is in time where it is above none of them, the least of them is the deadline, and a step changes one.
-- Assumes nothing.
use Rattle.std.proofs.Common.{◌≡◌, ℕ, zero, suc, ◌+◌, min, take, add-one, ◌^◌, ◌<◌, ◌≤◌, true, not, ◌&&◌, ◌||◌, leb, ◌≢◌, List, length, get_or, set, sym, ap, ◌∙◌, arith, length-set, get_or-set_other, get_or-set_same, le-leb, leb-true}
use Rattle.std.specs.List.{fold}
use Rattle.std.proofs.lemmas.List.Sums.{fold-append}
use Rattle.std.proofs.Math.Seq.{take-suc}
use mathlib.Core.Bool.{and-false}
use native.Mathlib.Decide.{dec_le, dec_lt, ℕ_discrete}
use borrow.Author.Tests.{lt-leb}
use Rattle.tables.proofs.Passed.{below, all_below_lem, below_suc, below_more, below_same}
use Rattle.tables.specs.Basics.{all_below}
use Rattle.tables.specs.Layout.{agents, rows, row}
use Rattle.tables.specs.Table.{good_table}
use Rattle.tables.proofs.Good.{few, few_rows, table_facts, no_count}
use Rattle.choices.specs.State.{pos}
use Rattle.choices.specs.Fit.{unfinished, current, in_time}
use Rattle.choices.specs.Lates.{no_late, late_at, Lates, above_none}
use Rattle.choices.proofs.Choice.{is_unfinished, has_ended}

-- ---- the deadline: the least of the lates, agent by agent

-- d is the deadline of the first n lates
abbrev pub Deadline : (ls : List ℕ) (n d : ℕ) → Type 0
Deadline ls n d = (t : ℕ) → t < 2 ^ 32 → all_below n (λ a. leb t (get_or ls a 0)) ≡ leb t d

-- the lesser of two limits
leb_less : (t d e : ℕ) → e < d → (leb t d && leb t e) ≡ leb t e
leb_less t d e h = go (dec_le t e)
  where
    go : Dec (t ≤ e) → (leb t d && leb t e) ≡ leb t e
    go (yes l) = rw (le-leb t d (omega arith))
    go (no n) = rw (lt-leb t e (omega arith)) (and-false (leb t d))

leb_more : (t d e : ℕ) → d ≤ e → (leb t d && leb t e) ≡ leb t d
leb_more t d e h = go (dec_le t d)
  where
    go : Dec (t ≤ d) → (leb t d && leb t e) ≡ leb t d
    go (yes l) = rw (le-leb t d l, le-leb t e (omega arith))
    go (no n) = rw (lt-leb t d (omega arith))

module _ (ls : List ℕ) where
  pub deadline_none : Deadline ls 0 no_late
  unfolding all_below
  deadline_none t w = sym (le-leb t no_late (omega arith))

  module _ (n d : ℕ) (h : Deadline ls n d) where
    pub deadline_new : (e : ℕ) → get_or ls n 0 < d → e ≡ get_or ls n 0 → Deadline ls (n + 1) e
    deadline_new e l p t w = below_suc n _ ∙ ap (λ b. b && leb t (get_or ls n 0)) (h t w) ∙ leb_less t d (get_or ls n 0) l ∙ ap (leb t) (sym p)

    pub deadline_kept : (e : ℕ) → d ≤ get_or ls n 0 → e ≡ d → Deadline ls (n + 1) e
    deadline_kept e l p t w = below_suc n _ ∙ ap (λ b. b && leb t (get_or ls n 0)) (h t w) ∙ leb_more t d (get_or ls n 0) l ∙ ap (leb t) (sym p)

    deadline_next : Deadline ls (n + 1) (min d (get_or ls n 0))
    deadline_next = go (dec_lt (get_or ls n 0) d)
      where
        go : Dec (get_or ls n 0 < d) → Deadline ls (n + 1) (min d (get_or ls n 0))
        go (yes l) = deadline_new (min d (get_or ls n 0)) l (omega arith)
        go (no l) = deadline_kept (min d (get_or ls n 0)) (omega arith) (omega arith)

  -- the least of the first n lates is their deadline
  pub deadline_least : (n : ℕ) → n ≤ length ls → Deadline ls n (fold (λ d l. min d l) no_late (take n ls))
  deadline_least zero h = deadline_none
  deadline_least (suc n) h =
      let d : ℕ = fold (λ d l. min d l) no_late (take n ls) in
      rw (take-suc ls n 0 (omega arith), fold-append {A = ℕ} {B = ℕ}, ← add-one n) (deadline_next n d (deadline_least n (omega arith)))

  -- a time not above one that is above none of the lates is above none
  pub above_none_lem : (d t : ℕ) → above_none ls d ≡ true → t ≤ d → above_none ls t ≡ true
  unfolding above_none
  above_none_lem d t h l = all_below_lem 16 _ (λ a k. le-leb t (get_or ls a 0) (let m = leb-true d (get_or ls a 0) (below 16 _ h a k) in omega arith))

  pub zero_above_none : above_none ls 0 ≡ true
  unfolding above_none
  zero_above_none = all_below_lem 16 _ (λ a k. le-leb 0 (get_or ls a 0) (omega arith))

  -- a late that rises keeps it so
  pub still_above_none : (d a v : ℕ) → a < length ls → above_none ls d ≡ true → (a < 16 → get_or ls a 0 ≤ v) → above_none (set ls a v) d ≡ true
  unfolding above_none
  still_above_none d a v low h up = all_below_lem 16 _ (λ b k. go b k (ℕ_discrete b a))
    where
      go : (b : ℕ) → b < 16 → Dec (b ≡ a) → leb d (get_or (set ls a v) b 0) ≡ true
      go b k (yes e) =
          let m = leb-true d (get_or ls b 0) (below 16 (λ c. leb d (get_or ls c 0)) h b k) in
          let u : get_or ls b 0 ≤ v = rw e (up (rw e at k)) in
          rw (e, get_or-set_same ls a v 0 low) (le-leb d v (omega arith))
      go b k (no n) = rw (get_or-set_other ls a b v 0 n) (below 16 (λ c. leb d (get_or ls c 0)) h b k)

-- ---- one agent's late

module _ (tb : List ℕ) (a p : ℕ) where
  -- an agent that has ended sets no limit; one that has not, the late of its row
  pub late_ended : rows tb a ≤ p → late_at tb a p ≡ no_late
  unfolding late_at
  late_ended h = rw (le-leb (rows tb a) p h)

  pub late_row : p < rows tb a → late_at tb a p ≡ (row tb a p).late
  unfolding late_at
  late_row h = rw (lt-leb (rows tb a) p h)

module _ (tb st : List ℕ) (a t : ℕ) where
  ended_free : rows tb a ≤ pos st a → (not (unfinished tb st a) || leb t (current tb st a).late) ≡ true
  ended_free h = rw (has_ended tb st a h)

  row_limit : pos st a < rows tb a → (not (unfinished tb st a) || leb t (current tb st a).late) ≡ leb t (current tb st a).late
  row_limit h = rw (is_unfinished tb st a h)

  -- the greatest word is no limit to a word
  limit : t < 2 ^ 32 → leb t (late_at tb a (pos st a)) ≡ (not (unfinished tb st a) || leb t (current tb st a).late)
  limit w = go (dec_lt (pos st a) (rows tb a))
    where
      go : Dec (pos st a < rows tb a) → leb t (late_at tb a (pos st a)) ≡ (not (unfinished tb st a) || leb t (current tb st a).late)
      go (yes h) = ap (leb t) (late_row tb a (pos st a) h) ∙ sym (row_limit h)
      go (no n) = ap (leb t) (late_ended tb a (pos st a) (omega arith)) ∙ le-leb t no_late (omega arith) ∙ sym (ended_free (omega arith))

-- ---- all 16 places of agents

module _ (tb : List ℕ) (good : good_table tb ≡ true) where
  pub short : (b : ℕ) → b < 16 → rows tb b ≤ 32
  short b h = go (dec_le (agents tb) b)
    where
      go : Dec (agents tb ≤ b) → rows tb b ≤ 32
      go (yes l) = omega (arith, no_count tb (table_facts tb good) b l h)
      go (no n) = few_rows tb good b (omega arith)

  -- an agent past the count has ended, so that all 16 may be looked at
  pub in_time_lates : (st ls : List ℕ) → Lates tb st ls → (t : ℕ) → t < 2 ^ 32 → in_time tb st t ≡ above_none ls t
  unfolding in_time above_none
  in_time_lates st ls l t w =
      sym
      (below_same 16 (λ a. leb t (get_or ls a 0)) (λ a. not (unfinished tb st a) || leb t (current tb st a).late)
      (λ a h. ap (leb t) (l.each a h) ∙ limit tb st a t w)
      ∙ below_more (agents tb) 16 (λ a. not (unfinished tb st a) || leb t (current tb st a).late) (few tb good)
      (λ a h k. ended_free tb st a t (omega (arith, no_count tb (table_facts tb good) a h k))))

-- ---- a step of agent a changes its late and no other

pub late_changed : (tb st st' ls : List ℕ) (a p v : ℕ) → a < 16 → Lates tb st ls → v ≡ late_at tb a p → pos st' a ≡ p
    → ((b : ℕ) → b < 16 → b ≢ a → pos st' b ≡ pos st b) → Lates tb st' (set ls a v)
late_changed tb st st' ls a p v low l e own other = record {
  size = length-set ls a v ∙ l.size;
  each = λ b h. go b h (ℕ_discrete b a);
}
  where
    go : (b : ℕ) → b < 16 → Dec (b ≡ a) → get_or (set ls a v) b 0 ≡ late_at tb b (pos st' b)
    go b h (yes d) = rw d (get_or-set_same ls a v 0 (omega (arith, l.size)) ∙ e ∙ ap (late_at tb a) (sym own))
    go b h (no n) = get_or-set_other ls a b v 0 n ∙ l.each b h ∙ ap (late_at tb b) (sym (other b h n))
