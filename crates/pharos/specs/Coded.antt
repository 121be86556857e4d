-- Records of words that stand for systems: what is asked of them, and what they then have. proofs/Coded proves each statement.
use Rattle.std.specs.Prelude.{◌≡◌, Bool, true, false, List, [], ◌∷◌, ◌++◌, ℕ}
use Rattle.std.proofs.Math.Logic.{ite}
use Rattle.std.proofs.Math.Decide.{ℕ_discrete}
use Rattle.pharos.specs.Prefix.{OneBegins}
use Rattle.pharos.specs.Model.{Model, System, Good, step}
use Rattle.pharos.specs.Runs.{Ended}

pub record Coded (M : Model) : Type 1 where
  pub Words : Type 0
  pub Fit : Words → Type 0
  pub system : Words → System M
  -- accepted choices, and the words after one; fewer may be accepted than the model allows
  pub accepts : Words → ℕ → ℕ → Bool
  pub move : Words → ℕ → ℕ → Words
  pub good : (w : Words) (a t : ℕ) → Fit w → accepts w a t ≡ true → Good (system w) a t
  pub moves : (w : Words) (a t : ℕ) → Fit w → accepts w a t ≡ true → system (move w a t) ≡ step (system w) a t
  pub stays : (w : Words) (a t : ℕ) → Fit w → accepts w a t ≡ true → Fit (move w a t)

module _ {M : Model} (C : Coded M) where
  open C use {Words, Fit, system, accepts, move}

  abbrev pub at : Words → ℕ → Model.State M
  at w b = ((system w).agent b).state

  -- The words after the choices up to the first refusal; and the states that agent b comes to, the oldest first.
  unfoldable pub walk : Words → List (ℕ × ℕ) → Words
  walk w [] = w
  walk w (c ∷ cs) = elim (accepts w c.0 c.1) [ true ↦ walk (move w c.0 c.1) cs | false ↦ w ]

  unfoldable pub comes : Words → List (ℕ × ℕ) → ℕ → List (Model.State M)
  comes w [] b = []
  comes w (c ∷ cs) b =
      elim (accepts w c.0 c.1) [
        | true ↦ ite (ℕ_discrete c.0 b) (at (move w c.0 c.1) b ∷ comes (move w c.0 c.1) cs b) (comes (move w c.0 c.1) cs b)
        | false ↦ []
      ]

  -- All choices are accepted.
  unfoldable pub whole : Words → List (ℕ × ℕ) → Bool
  whole w [] = true
  whole w (c ∷ cs) = elim (accepts w c.0 c.1) [ true ↦ whole (move w c.0 c.1) cs | false ↦ false ]

  -- 8. For any two lists of choices from one state that fits, the states that an agent passes through in one begin those in the other.
  abbrev pub DeterminacyOfWords : Type 0
  DeterminacyOfWords = (w : Words) → Fit w → (cs ds : List (ℕ × ℕ)) (b : ℕ) → OneBegins (at w b ∷ comes w cs b) (at w b ∷ comes w ds b)

  -- 9. Two lists that end every agent leave the same states and the same slices.
  abbrev pub WordsEndAlike : Type 0
  WordsEndAlike = (w : Words) → Fit w → (cs ds : List (ℕ × ℕ)) → Ended (system (walk w cs)) → Ended (system (walk w ds))
      → (system (walk w cs)).agent ≡ (system (walk w ds)).agent

  -- 10. A list cut in two, the first part accepted whole.
  abbrev pub Cut : Type 0
  Cut = (cs ds : List (ℕ × ℕ)) (w : Words) → whole w cs ≡ true → walk w (cs ++ ds) ≡ walk (walk w cs) ds
