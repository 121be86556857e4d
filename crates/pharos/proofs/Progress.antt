-- Progress: while the clock has passed no window, some agent may step, and a good step keeps it so.
use mathlib.Core.Path.{◌≡◌, refl, subst, sym, ◌∙◌}
use mathlib.Core.Bool.{Bool, true, false, true≢false}
use mathlib.Core.Logic.{◌⊎◌, inl, inr, ⊎_elim, by_cases}
use Prim.Native.Nat.{ℕ, zero, suc, ◌≤◌, ◌<◌}
use native.Mathlib.Nat.{eq-or-lt_of_le, le_of_suc-le-suc}
use native.Mathlib.Decide.{dec_le}
use native.Mathlib.Omega.{arith}
use Rattle.pharos.specs.Model.{Model, System, slices, Live, Good, step, Run, start, ◌▸◌}
use Rattle.pharos.specs.Runs.{Ready, soonest, LeastMay, Progress, NoneToCome}
use Rattle.pharos.proofs.Determinacy.{by_step}

pub below_suc : (P : ℕ → Type 0) {n : ℕ} → ((k : ℕ) → k < n → P k) → P n → (k : ℕ) → k < suc n → P k
below_suc P all here k l = ⊎_elim (λ e. subst P (sym e) here) (all k) (eq-or-lt_of_le (le_of_suc-le-suc l))

-- Of the numbers below `n` that are not done, none, or one of least value.
module _ (done : ℕ → Bool) (value : ℕ → ℕ) where
  abbrev pub Least : ℕ → Type 0
  Least n = (a : ℕ) × (a < n) × (done a ≡ false) × ((b : ℕ) → b < n → done b ≡ false → value a ≤ value b)

  pub least : (n : ℕ) → ((b : ℕ) → b < n → done b ≡ true) ⊎ Least n
  least zero = inl (λ b l. absurd (omega arith))
  least (suc n) = go (done n) refl (least n)
    where
      P : ℕ → ℕ → Type 0
      P a b = done b ≡ false → value a ≤ value b

      go : (d : Bool) → done n ≡ d → ((b : ℕ) → b < n → done b ≡ true) ⊎ Least n
          → ((b : ℕ) → b < suc n → done b ≡ true) ⊎ Least (suc n)
      go true e (inl all) = inl (below_suc (λ b. done b ≡ true) all e)
      go true e (inr (a, l, live, low)) = inr (a, omega arith, live, below_suc (P a) low (λ live. absurd (true≢false (cc))))
      go false e (inl all) = inr (n, omega arith, e, below_suc (P n) (λ b l live. absurd (true≢false (sym (all b l) ∙ live))) (λ _. omega arith))
      go false e (inr (a, l, live, low)) = by_cases (dec_le (value a) (value n))
          (λ le. inr (a, omega arith, live, below_suc (P a) low (λ _. le)))
          (λ gt. inr (n, omega arith, e, below_suc (P n) (λ b l live. omega (arith, low b l live)) (λ _. omega arith)))

module _ {M : Model} where
  open M use {agents, ended, early, late, forward}

  -- An agent that may step at some time may step at the soonest.
  pub sooner : {g : System M} {a t : ℕ} → Good g a t → Good g a (soonest g a)
  sooner ok = record {
    real = ok.real;
    live = ok.live;
    after = omega arith;
    begun = omega arith;
    fits = λ c real live. omega (arith, ok.after, ok.begun, ok.fits c real live);
  }

  pub least_may : LeastMay M
  least_may g ready window a real alive low = record {
    real = real;
    live = alive;
    after = omega arith;
    begun = omega arith;
    fits = λ c real' live. omega (arith, ready c real' live, low c real' live, window a (g.agent a).state real alive);
  }

  pub progress : Progress M
  progress g ready window b l live =
      ⊎_elim (λ none. absurd (true≢false (sym (none b l) ∙ live)))
      (λ (a, real, alive, low). (a, soonest g a, least_may g ready window a real alive low))
      (least (λ a. ended a (g.agent a).state) (λ a. late a (g.agent a).state) agents)

  pub ready_step : {g : System M} {a t : ℕ} → Good g a t → Ready (step g a t)
  ready_step {g} {a} {t} ok b real =
      by_step start ok b (λ y _. Live b y → t ≤ late b y.state)
      (λ mine live. omega (arith, mine.fits b real mine.live, forward b (g.agent b).state real mine.live (slices g) live))
      (ok.fits b real)

  pub ready_run : {g h : System M} → Run g h → Ready g → Ready h
  ready_run start ready = ready
  ready_run (r ▸ ok) ready = ready_step ok

  -- No agent that goes on stands in a window that closes before `T`, once none does.
  abbrev pub Past : ℕ → System M → Type 0
  Past T g = (b : ℕ) → b < agents → Live b (g.agent b) → T ≤ late b (g.agent b).state

  pub past_run : {g h : System M} (T : ℕ) → Run g h → Past T g → Past T h
  past_run T start all b real = all b real
  past_run T (◌▸◌ {h} {a} {t} r ok) all b real =
      by_step r ok b (λ y _. Live b y → T ≤ late b y.state)
      (λ mine live. omega (arith, past_run T r all b real mine.live, forward b (h.agent b).state real mine.live (slices h) live))
      (past_run T r all b real)

  pub none_to_come : {g h : System M} {a t : ℕ} → NoneToCome M g h a t
  none_to_come {g} {a = a} {t} ok r b real live =
      past_run (early a (g.agent a).state) r (λ c l alive. omega (arith, ok.begun, ok.fits c l alive)) b real live
