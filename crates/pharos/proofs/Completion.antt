-- Completion: where each step brings an agent nearer to its end, every way of going on ends every agent in a bounded number of steps.
use mathlib.Core.Path.{refl, subst}
use mathlib.Core.Logic.{⊎_elim, if_pos}
use Prim.Native.Nat.{ℕ, zero, suc, ◌≤◌, ◌<◌}
use native.Mathlib.Nat.{eq-or-lt_of_le, le_of_suc-le-suc}
use native.Mathlib.Decide.{ℕ_discrete}
use native.Mathlib.Omega.{arith}
use Rattle.pharos.specs.Model.{Model, System, slices, Good, stepped, step, Run, start, ◌▸◌}
use Rattle.pharos.specs.Runs.{total, Ended, Ready, work, Windows, Nearer, Bounded, StopsEnded, Completion}
use Rattle.pharos.proofs.Determinacy.{by_step}
use Rattle.pharos.proofs.Progress.{progress, ready_step, ready_run, least}

module _ (f g : ℕ → ℕ) (le : (b : ℕ) → f b ≤ g b) where
  pub total_le : (n : ℕ) → total f n ≤ total g n
  unfolding total
  total_le zero = omega arith
  total_le (suc n) = omega (arith, le n, total_le n)

  total_less : (a n : ℕ) → a < n → f a < g a → total f n < total g n
  unfolding total
  total_less a zero l less = absurd (omega arith)
  total_less a (suc n) l less =
      ⊎_elim (λ e. omega (arith, total_le n, subst (λ b. f b < g b) e less))
      (λ l. omega (arith, le n, total_less a n l less))
      (eq-or-lt_of_le (le_of_suc-le-suc l))

module _ {M : Model} where
  open M use {State, agents, ended, late}

  pub stops_ended : {g h : System M} → StopsEnded M g h
  stops_ended {h = h} windows r ready stuck =
      ⊎_elim (λ all. all)
      (λ (b, real, live, _). let (a, t, ok) = progress h (ready_run r ready) windows b real live in absurd (stuck a t ok))
      (least (λ b. ended b (h.agent b).state) (λ b. late b (h.agent b).state) agents)

  module _ (left : ℕ → State → ℕ) (nearer : Nearer M left) where
    work_less : {g : System M} {a t : ℕ} → Good g a t → work left (step g a t) < work left g
    work_less {g} {a} {t} ok =
        total_less _ _
        (λ b. by_step start ok b (λ y _. left b y.state ≤ left b (g.agent b).state)
        (λ mine. omega (arith, nearer b (g.agent b).state mine.real mine.live (slices g))) (omega arith))
        a agents ok.real
        (rw (if_pos (ℕ_discrete a a) refl (stepped g a) (g.agent a)) (nearer a (g.agent a).state ok.real ok.live (slices g)))

    finish : Windows M → (k : ℕ) {g h : System M} → Run g h → Ready h → work left h < k → (f : System M) × Run g f × Ended f
    finish windows zero r ready l = absurd (omega arith)
    finish windows (suc k) {h = h} r ready l =
        ⊎_elim (λ all. (h, r, all))
        (λ (b, real, live, _). let (a, t, ok) = progress h ready windows b real live in
        finish windows k (r ▸ ok) (ready_step ok) (omega (arith, work_less ok)))
        (least (λ b. ended b (h.agent b).state) (λ b. late b (h.agent b).state) agents)

  pub bounded : (left : ℕ → State → ℕ) {g h : System M} → Bounded M left g h
  bounded left nearer start = omega arith
  bounded left nearer (r ▸ ok) = omega (arith, bounded left nearer r, work_less left nearer ok)

  pub completion : (left : ℕ → State → ℕ) → Completion M left
  completion left nearer windows g ready = finish left nearer windows (suc (work left g)) start ready (omega arith)
