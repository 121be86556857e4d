-- Reply 0 is given exactly where the model allows the step, of any published system.
use Rattle.std.proofs.lemmas.Bool.{false_from_ne_true}
use mathlib.Core.Path.{◌≡◌, refl, sym, ◌∙◌}
use mathlib.Core.Bool.{false, true≢false}
use mathlib.Core.Logic.{◌↔◌, ◌⊎◌, inl, inr, by_cases}
use Prim.Native.Nat.{ℕ, ◌<◌}
use native.Mathlib.Decide.{dec_lt}
use native.Mathlib.Omega.{arith}
use Rattle.pharos.specs.Published.{Types, instr_of, SystemState, GoodNextTime, except, exec}
use Rattle.pharos.proofs.Search.{receives}
use Rattle.demands.specs.Reasons.{ModelAllows, Reply, ZeroIsAllowed}

-- where the number is 0, the first reason does not hold
past : {P Q : Type 0} {k : ℕ} → 0 < k → (P × (0 ≡ k)) ⊎ Q → Q
past l (inl x) = absurd (omega (arith, x.1))
past l (inr y) = y

module _ {T : Types} where
  open T use {agents, ended}

  -- A good next time of an unfinished agent is allowed: a receive always gets something, or nothing.
  pub allowed : {g : SystemState T} {a t : ℕ} → a < agents → ended a (g.st a) ≡ false → GoodNextTime T g a t → ModelAllows g a t
  allowed {g} {a} {t} real live good =
      let (got, received) = receives T g.msgs (instr_of T a (g.st a)) in
      let after = exec T a (g.st a) g.msgs got in (
        record { st = except g.st a after.0; msgs = after.1; t = t },
        refl,
        record { real = real; live = live; good = good; got = got; received = received; st = refl; msgs = refl },
      )

  zero_here : (g : SystemState T) (a t : ℕ) → Reply g a t 0 ↔ ModelAllows g a t
  zero_here g a t = (to, from)
    where
      to : Reply g a t 0 → ModelAllows g a t
      to r =
          let (real, r) = past (omega arith) r in
          let (live, r) = past (omega arith) r in
          let (after, r) = past (omega arith) r in
          let (begun, r) = past (omega arith) r in
          let (due, _) = past (omega arith) r in
          allowed (omega arith) (false_from_ne_true _ live) (record { after = omega arith; begun = omega arith; fits = λ b l n. by_cases (dec_lt (instr_of T b (g.st b)).late t) (λ over. absurd (due (b, l, n, omega arith))) (λ over. omega arith) })

      from : ModelAllows g a t → Reply g a t 0
      from r =
          let (post, at, e) = r in
          let good = e.good in
          inr (
            λ l. omega (arith, e.real),
            inr (
              λ h. true≢false (sym h ∙ e.live),
              inr (
                λ l. omega (arith, good.after),
                inr (
                  λ l. omega (arith, good.begun),
                  inr (λ (b, l, live, over). omega (arith, good.fits b l live), refl),
                ),
              ),
            ),
          )

pub zero_is_allowed : ZeroIsAllowed
zero_is_allowed T g a t = zero_here g a t
