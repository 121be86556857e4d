-- A run over a list of choices: it stops at the first refusal. Assumes nothing.
use Rattle.std.specs.Prelude.{List, [], ◌∷◌, ℕ, zero, suc, ◌+◌}
use Rattle.choices.specs.Step.{choice_reply, accepted}

-- how a run ends: its reply, the count of accepted steps, and the state's words
pub record RunOutcome : Type 0 where
  pub reply : ℕ
  pub count : ℕ
  pub state : List ℕ

abbrev pub ended : ℕ → ℕ → List ℕ → RunOutcome
ended r n st = record { reply = r; count = n; state = st }

-- "A choice is two words, agent then time." The choices from the state st, after n accepted steps; a last word alone is no choice.
unfoldable pub run_from : (tb st : List ℕ) (n : ℕ) → List ℕ → RunOutcome
run_from tb st n [] = ended 0 n st
run_from tb st n (a ∷ []) = ended 0 n st
run_from tb st n (a ∷ t ∷ cs) =
    elim (choice_reply tb st a t) [
      | zero ↦ run_from tb (accepted tb st a t) (n + 1) cs
      | suc r ↦ ended (suc r) n st
    ]
