-- One place looked at, where the lates that go before the best so far are those from a least one on. Assumes nothing.
use Rattle.std.proofs.Common.{◌≡◌, ℕ, ◌+◌, ◌<◌, ◌≤◌, Bool, true, false, cond, ◌&&◌, eqb, ltb, leb, List, sym, refl, ap, ◌∙◌, add-one, arith, ltb-true, le-ltb, lt-ltb, eq-eqb, ne_eqb, le-leb, Option, None, Some}
use mathlib.Core.Bool.{and-true, and_comm}
use native.Mathlib.Decide.{dec_lt, ℕ_discrete}
use borrow.Author.Tests.{lt-leb}
use Rattle.tables.specs.Layout.{row}
use Rattle.tables.specs.declared.Row.{Row}
use Rattle.tables.proofs.Tests.{and_right}
use Rattle.tables.proofs.Passed.{and_2}
use Rattle.choices.specs.State.{Pool}
use Rattle.choices.specs.Messages.{visible, beats, message_at, look, look_rows}
use Rattle.choices.specs.declared.Message.{Message}

-- ---- the least late that goes before the best so far

-- of the messages of agent b from row i on, those of late least and later go before m
abbrev pub LeastFrom : (b i least : ℕ) → Option Message → Type 0
LeastFrom b i least m = (l j : ℕ) → i ≤ j → beats l b j m ≡ leb least l

-- of the messages of agents from b on, those of late least and later go before m
abbrev pub LeastAfter : (b least : ℕ) → Option Message → Type 0
LeastAfter b least m = (l c j : ℕ) → b ≤ c → beats l c j m ≡ leb least l

pub none_taken : (b : ℕ) → LeastAfter b 0 None
unfolding beats
none_taken b l c j h = sym (le-leb 0 l (omega arith))

module _ (m : Message) where
  -- a higher row of the same agent goes before it with the same late
  pub of_its_agent : LeastFrom m.agent (m.row + 1) m.late (Some m)
  unfolding beats
  of_its_agent k j h = go (dec_lt m.late k) (ℕ_discrete k m.late)
    where
      go : Dec (m.late < k) → Dec (k ≡ m.late) → beats k m.agent j (Some m) ≡ leb m.late k
      go (yes d) e = rw (lt-ltb m.late k d, le-leb m.late k (omega arith))
      go (no d) (yes e) =
          rw (le-ltb m.late k (omega arith), eq-eqb k m.late e, le-ltb m.agent m.agent (omega arith), eq-eqb m.agent m.agent refl, lt-ltb m.row j (omega arith), le-leb m.late k (omega arith))
      go (no d) (no e) = rw (le-ltb m.late k (omega arith), ne_eqb k m.late e, lt-leb m.late k (omega arith))

  -- another agent's only with a later one
  pub of_later_agents : LeastAfter (m.agent + 1) (m.late + 1) (Some m)
  unfolding beats
  of_later_agents k c j h = go (dec_lt m.late k) (ℕ_discrete k m.late)
    where
      go : Dec (m.late < k) → Dec (k ≡ m.late) → beats k c j (Some m) ≡ leb (m.late + 1) k
      go (yes d) e = rw (lt-ltb m.late k d, le-leb (m.late + 1) k (omega arith))
      go (no d) (yes e) =
          rw (le-ltb m.late k (omega arith), eq-eqb k m.late e, le-ltb c m.agent (omega arith), ne_eqb c m.agent (λ x. omega arith), lt-leb (m.late + 1) k (omega arith))
      go (no d) (no e) = rw (le-ltb m.late k (omega arith), ne_eqb k m.late e, lt-leb (m.late + 1) k (omega arith))

module _ (tb : List ℕ) (p : Pool) (r : Row) (b i least : ℕ) where
  abbrev late : ℕ
  late = (row tb b i).late

  -- visible, and of late least or later
  abbrev pub Better : Bool → Type 0
  Better q = q ≡ (leb least late && visible tb p r b i)

  pub too_late : r.early ≤ late → Better false
  unfolding visible
  too_late h =
      sym (and_right (leb least late) (visible tb p r b i) (and_right (eqb (p.mark b i) 1 && eqb (row tb b i).k r.k) (ltb late r.early) (le-ltb _ _ h)))

  pub sent : least ≤ late → late < r.early → p.mark b i ≡ 1 → Better (eqb (row tb b i).k r.k)
  unfolding visible
  sent h l e = rw (le-leb _ _ h, eq-eqb _ _ e, lt-ltb _ _ l) (sym (and-true (eqb (row tb b i).k r.k)))

  seen_early : visible tb p r b i ≡ true → late < r.early
  unfolding visible
  seen_early v =
      ltb-true _ _ (and_2 (eqb (p.mark b i) 1 && eqb (row tb b i).k r.k) (ltb late r.early) v)

  pub better_early : Better true → late < r.early
  better_early h = seen_early (and_2 (leb least late) (visible tb p r b i) (sym h))

  module _ (m : Option Message) (from : LeastFrom b i least m) where
    looked : (q : Bool) → Better q → look tb p r b i m ≡ cond q (Some (message_at tb p b i)) m
    unfolding look
    looked q h =
        ap (λ (v : Bool). cond v (Some (message_at tb p b i)) m)
        (ap (◌&&◌ (visible tb p r b i)) (from late i (omega arith)) ∙ and_comm (visible tb p r b i) (leb least late) ∙ sym h)

-- ---- the search so far

-- the places below i of agent b are looked at, after m₀ of the agents below: m is the best, least the least late of this agent that goes before it, next
-- that of the agents after it
abbrev pub Looked : (tb : List ℕ) (p : Pool) (r : Row) (b : ℕ) (m₀ : Option Message) (i : ℕ) (m : Option Message) (next least : ℕ) → Type 0
Looked tb p r b m₀ i m next least = (m ≡ look_rows tb p r b i m₀) × LeastFrom b i least m × LeastAfter (b + 1) next m

module _ (tb : List ℕ) (p : Pool) (r : Row) (b : ℕ) (m₀ : Option Message) (i : ℕ) (m : Option Message) (next least : ℕ) (so_far : Looked tb p r b m₀ i m next least) where
  module _ (m' : Option Message) (next' least' : ℕ) where
    pub one_better : m' ≡ Some (message_at tb p b i) → next' ≡ (row tb b i).late + 1 → least' ≡ (row tb b i).late → Better tb p r b i least true
        → Looked tb p r b m₀ (i + 1) m' next' least'
    unfolding look_rows
    one_better e f g h =
        rw (e, f, g) (
          rw (add-one i) (sym (looked tb p r b i least m so_far.1 true h) ∙ ap (look tb p r b i) so_far.0),
          of_its_agent (message_at tb p b i),
          of_later_agents (message_at tb p b i),
        )

    pub one_left : m' ≡ m → next' ≡ next → least' ≡ least → Better tb p r b i least false → Looked tb p r b m₀ (i + 1) m' next' least'
    unfolding look_rows
    one_left e f g h =
        rw (e, f, g) (
          rw (add-one i) (sym (looked tb p r b i least m so_far.1 false h) ∙ ap (look tb p r b i) so_far.0),
          λ l j k. so_far.1 l j (omega arith),
          so_far.2,
        )
