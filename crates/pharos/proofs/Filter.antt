-- 002's filter is unstutter[project(history, a)]. Where each step raises the position, that is `filter` of the published model.
use mathlib.Core.Path.{◌≡◌, refl, ap, sym, ◌∙◌}
use mathlib.Core.List.{List, [], ◌∷◌, ◌++◌, reverse, reverse-cons}
use mathlib.Core.Logic.{ite}
use Prim.Native.Nat.{ℕ}
use native.Mathlib.Decide.{ℕ_discrete}
use native.Mathlib.Omega.{arith}
use Rattle.pharos.specs.Published.{Types, SystemState, exec, Behaviour, no_steps, append, filter}
use Rattle.pharos.specs.Histories.{Unstutters, single, again, changed, history, project, Raises}
use Rattle.pharos.specs.Theorems.{UnstuttersOnce, FilterIs002's}

pub unstutters_once : {A : Type 0} {s u v : List A} → UnstuttersOnce A s u v
unstutters_once single single = refl
unstutters_once (again e p) (again f q) = unstutters_once p q
unstutters_once (again e p) (changed n q) = absurd (n e)
unstutters_once (changed n p) (again e q) = absurd (n e)
unstutters_once (changed {x} n p) (changed m q) = ap (x ∷◌) (unstutters_once p q)

module _ (T : Types) where
  -- `filter`, the latest first.
  abbrev states : {g h : SystemState T} → Behaviour T g h → ℕ → List (Types.State T)
  states {g} no_steps b = g.st b ∷ []
  states (append {f = f} {a} r e) b = ite (ℕ_discrete a b) (f.st b ∷ states r b) (states r b)

  filter_states : {g h : SystemState T} (r : Behaviour T g h) (b : ℕ) → filter T r b ≡ reverse (states r b)
  filter_states no_steps b = refl
  filter_states (append {h} {f} {a} r e) b = go (ℕ_discrete a b) (filter_states r b)
    where
      go : (d : Dec (a ≡ b)) → filter T r b ≡ reverse (states r b)
          → ite d (filter T r b ++ (f.st b ∷ [])) (filter T r b) ≡ reverse (ite d (f.st b ∷ states r b) (states r b))
      go (yes p) same = ap (◌++ (f.st b ∷ [])) same ∙ sym (reverse-cons (f.st b) (states r b))
      go (no n) same = same

  module _ (raises : Raises T) where
    unstutters : {g h : SystemState T} (r : Behaviour T g h) (b : ℕ) → Unstutters (project T (history T r) b) (states r b)
    unstutters no_steps b = single
    unstutters (append {h} {f} {a} r e) b = go (ℕ_discrete a b) (ap (λ x. x b) e.st) (unstutters r b)
      where
        after : Types.State T
        after = (exec T a (h.st a) h.msgs e.got).0

        go : (d : Dec (a ≡ b)) → f.st b ≡ ite d after (h.st b) → Unstutters (project T (history T r) b) (states r b)
            → Unstutters (f.st b ∷ project T (history T r) b) (ite d (f.st b ∷ states r b) (states r b))
        go (yes p) now before = changed (λ (same : f.st b ≡ h.st b). omega (arith, raises a h f e, ap (Types.place T) (ap f.st p ∙ same ∙ ap h.st (sym p)))) before
        go (no n) now before = again now before

  pub filter_is_002's : {g h : SystemState T} → FilterIs002's T g h
  filter_is_002's raises r b = (states r b, unstutters raises r b, filter_states r b)
