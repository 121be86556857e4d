-- What a call's result says of its reply: accepted is 0, and no refusal is; and what `?` gives back. Assumes nothing.
use Rattle.std.proofs.Common.{◌≡◌, ◌≢◌, ℕ, List, [], ◌∷◌, ◌++◌, true, false, Result, Ok, Err, sym, ap, ◌∙◌}
use Rattle.std.specs.Result.{IsErrAnd}
use Rattle.tables.specs.Basics.{first, Rule, ◌⇒◌}
use Rattle.tables.specs.Replies.{number_of, reply}
use Rattle.tables.proofs.Refusals.{no_zero}
use Rattle.tables.specs.declared.replies.Refusal.{Refusal}

module _ {r : Result Unit Refusal} {n : ℕ} (e : reply r ≡ n) where
  pub accepted_is_0 : {u : Unit} → r ≡ Ok u → n ≡ 0
  unfolding reply
  accepted_is_0 h = sym e ∙ ap reply h

  pub refused_is : {x : Refusal} → r ≡ Err x → n ≡ number_of x
  unfolding reply
  refused_is h = sym e ∙ ap reply h

-- the refusal of a call that was passed on
pub given_back : (x : Refusal) {n : ℕ} (r : Result Unit Refusal) → IsErrAnd r (λ e. e ≡ x) → number_of x ≡ n → (reply r ≡ n) × (reply r ≢ 0)
unfolding reply
given_back x (Ok _) h k = absurd h
given_back x (Err e) h k = (ap number_of h ∙ k, no_zero e)

-- a refusal by the first of the rules is that by all of them
pub first_of : (rs ss : List Rule) {n : ℕ} → n ≡ first rs → n ≢ 0 → n ≡ first (rs ++ ss)
unfolding first
first_of [] ss e k = absurd (k e)
first_of ((true ⇒ r) ∷ rs) ss e k = e
first_of ((false ⇒ r) ∷ rs) ss e k = first_of rs ss e k
