-- Where a row goes on: at one of the rows that it can go on to, whatever its agent holds and whatever message it takes. Assumes nothing.
use Rattle.std.proofs.Common.{◌≡◌, ℕ, ◌+◌, ◌<◌, ◌≤◌, true, eqb, List, [], ◌∷◌, length, get_or, replicate, sym, refl, ap, ◌∙◌, subst, inl, inr, arith, ne_eqb, Option, None, Some}
use native.Mathlib.Decide.{dec_lt, ℕ_discrete}
use lib.ListN.{get_or-replicate}
use Rattle.tables.specs.Basics.{OneOf}
use Rattle.tables.specs.Layout.{rows}
use Rattle.tables.specs.Rows.{goes_on_to}
use Rattle.tables.specs.Table.{good_table}
use Rattle.tables.specs.declared.Row.{Row}
use Rattle.tables.proofs.Tests.{either}
use Rattle.tables.proofs.Families.{Plain}
use Rattle.tables.proofs.Good.{late_bound, window_on}
use Rattle.tables.proofs.Onward.{Onward, both, far, near, onward, rises}
use Rattle.choices.specs.declared.Agent.{Agent}
use Rattle.choices.specs.declared.Message.{Message}
use Rattle.choices.specs.State.{pos, agent_at, pool}
use Rattle.choices.specs.Messages.{best}
use Rattle.choices.specs.Effect.{after, receive}
use Rattle.choices.specs.Fit.{current}
use Rattle.choices.specs.Step.{accepted, Allowed}
use Rattle.choices.specs.Lates.{late_at}
use Rattle.choices.proofs.After.{accepted_pos}
use Rattle.choices.proofs.Lates.{late_ended, late_row}
use Rattle.choices.proofs.Effects.{after_skip, after_stay, after_jump, after_receive}

module _ (r : Row) (m : Option Message) (s : Agent) where
  abbrev next : ℕ
  next = s.pos + 1

  -- a row that is no SKIP, JUMP or RECV goes on at p+1
  goes_near : Plain r.op → (after r m s).pos ≡ next
  unfolding after
  goes_near p =
      rw (ne_eqb r.op 0x10 p.0, ne_eqb r.op 0x11 p.1, ne_eqb r.op 0x30 p.2)
      (either at (eqb r.op 0x00) _ _ refl
      (either at (eqb r.op 0x01) _ _ refl
      (either at (eqb r.op 0x02) _ _ refl
      (either at (eqb r.op 0x03) _ _ refl
      (either at (eqb r.op 0x04) _ _ refl refl)))))
    where
      at : Agent → Type 0
      at g = g.pos ≡ next

  skips : r.op ≡ 0x10 → Dec (get_or s.regs r.x 0 ≡ 0) → OneOf (after r m s).pos (next ∷ (next + r.n) ∷ [])
  skips k (yes z) = inr (inl (ap (λ (g : Agent). g.pos) (sym (after_skip r m s k z))))
  skips k (no z) = inl (ap (λ (g : Agent). g.pos) (sym (after_stay r m s k z)))

  received : (b : Option Message) → OneOf (receive r b s).pos (next ∷ (next + r.n) ∷ [])
  unfolding receive
  received None = inr (inl refl)
  received (Some m) = inl refl

  pub after_goes : OneOf (after r m s).pos (goes_on_to r s.pos)
  after_goes = go (goes_on_to r s.pos) (onward r s.pos)
    where
      go : (js : List ℕ) → Onward r s.pos js → OneOf (after r m s).pos js
      go js (both (inl k)) = skips k (ℕ_discrete (get_or s.regs r.x 0) 0)
      go js (both (inr v)) = subst (λ (g : Agent). OneOf g.pos js) (after_receive r m s v) (received m)
      go js (far j) = inl (ap (λ (g : Agent). g.pos) (sym (after_jump r m s j)))
      go js (near o) = inl (goes_near o)

-- ---- and each of them is come to by some agent

-- a way that row r takes an agent at p, to j
abbrev Way : Row → (p j : ℕ) → Type 0
Way r p j = (s : Agent) × (m : Option Message) × (s.pos ≡ p) × ((after r m s).pos ≡ j)

pub way_taken : (r : Row) (p j : ℕ) → OneOf j (goes_on_to r p) → Way r p j
unfolding receive
way_taken r p j one = go (goes_on_to r p) (onward r p) one
  where
    -- an agent at p whose registers hold v
    holding : ℕ → Agent
    holding v = record { pos = p; regs = replicate (r.x + 1) v }

    a_message : Message
    a_message = record { late = 0; agent = 0; row = 0; value = 0 }

    held : (v : ℕ) → get_or (holding v).regs r.x 0 ≡ v
    held v = get_or-replicate (r.x + 1) r.x v 0 (omega arith)

    -- its way, by what the row makes of it
    way : (v : ℕ) (m : Option Message) (g : Agent) → g ≡ after r m (holding v) → j ≡ g.pos → Way r p j
    way v m g made e = (holding v, m, refl, ap (λ (h : Agent). h.pos) (sym made) ∙ sym e)

    go : (js : List ℕ) → Onward r p js → OneOf j js → Way r p j
    go js (both (inl k)) (inl e) = way 1 None _ (after_stay r None (holding 1) k (λ z. let h = held 1 in omega arith)) e
    go js (both (inl k)) (inr (inl e)) = way 0 None _ (after_skip r None (holding 0) k (held 0)) e
    go js (both (inl k)) (inr (inr none)) = absurd none
    go js (both (inr v)) (inl e) = way 0 (Some a_message) _ (after_receive r (Some a_message) (holding 0) v) e
    go js (both (inr v)) (inr (inl e)) = way 0 None _ (after_receive r None (holding 0) v) e
    go js (both (inr v)) (inr (inr none)) = absurd none
    go js (far o) (inl e) = way 0 None _ (after_jump r None (holding 0) o) e
    go js (far o) (inr none) = absurd none
    go js (near o) (inl e) = way 0 None _ refl (e ∙ sym (goes_near r None (holding 0) o))
    go js (near o) (inr none) = absurd none

-- ---- the agent of an accepted step

module _ (tb st : List ℕ) (a t : ℕ) (long : length st ≡ 1105) (low : a < 16) where
  pub pos_goes : OneOf (pos (accepted tb st a t) a) (goes_on_to (current tb st a) (pos st a))
  pos_goes = rw (accepted_pos tb st a t long low) (after_goes (current tb st a) (best tb (pool st) (current tb st a)) (agent_at st a))

  pub pos_rises : pos st a < pos (accepted tb st a t) a
  pos_rises = (rises (current tb st a) (pos st a) _ pos_goes).0

  pub pos_within : pos (accepted tb st a t) a ≤ pos st a + 1 + (current tb st a).n
  pos_within = (rises (current tb st a) (pos st a) _ pos_goes).1

  -- windows climb, so that its late does not fall
  pub late_rises : good_table tb ≡ true → Allowed tb st a t → late_at tb a (pos st a) ≤ late_at tb a (pos (accepted tb st a t) a)
  late_rises good c = go (dec_lt (pos (accepted tb st a t) a) (rows tb a))
    where
      own : late_at tb a (pos st a) ≡ (current tb st a).late
      own = late_row tb a (pos st a) c.unended

      go : Dec (pos (accepted tb st a t) a < rows tb a) → late_at tb a (pos st a) ≤ late_at tb a (pos (accepted tb st a t) a)
      go (yes h) =
          let (_, up) = window_on tb good a c.agent (pos st a) c.unended (pos (accepted tb st a t) a) pos_goes h in
          omega (arith, own, late_row tb a (pos (accepted tb st a t) a) h)
      go (no n) = omega (arith, own, late_bound tb good a c.agent (pos st a) c.unended, late_ended tb a (pos (accepted tb st a t) a) (omega arith))
