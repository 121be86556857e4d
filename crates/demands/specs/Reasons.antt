-- The reply to a choice in the published model's own words: 0 where the model allows the step, else the number of the first reason against it.
-- Of any published system: nothing of the tables or of the executive is named here.
use Rattle.std.specs.Prelude.{◌≡◌, true, false, List, [], ◌∷◌, ◌↔◌, ◌⊎◌, ℕ, ◌≤◌, ◌<◌}
use Rattle.std.proofs.Common.{sym, ◌∙◌, inl, inr}
use Rattle.pharos.specs.Published.{Types, instr_of, SystemState, executes}

infix 20 ◌⇒◌
-- a reason against a choice, and the number of the reply that it calls for
pub data Reason : Type 1 where
  ◌⇒◌ : Type 0 → ℕ → Reason

-- n is the number of the first reason that holds, 0 where none does
abbrev pub First : List Reason → ℕ → Type 0
First [] n = n ≡ 0
First ((P ⇒ k) ∷ rs) n = (P × (n ≡ k)) ⊎ ((P → ⊥) × First rs n)

pub first_once : (rs : List Reason) {m n : ℕ} → First rs m → First rs n → m ≡ n
first_once [] p q = p ∙ sym q
first_once ((P ⇒ k) ∷ rs) (inl x) (inl y) = x.1 ∙ sym y.1
first_once ((P ⇒ k) ∷ rs) (inl x) (inr y) = absurd (y.0 x.0)
first_once ((P ⇒ k) ∷ rs) (inr x) (inl y) = absurd (x.0 y.0)
first_once ((P ⇒ k) ∷ rs) (inr x) (inr y) = first_once rs x.1 y.1

module _ {T : Types} where
  open T use {agents, ended}

  -- The model allows agent a a step at time t.
  abbrev pub ModelAllows : SystemState T → (a t : ℕ) → Type 0
  ModelAllows g a t = (post : SystemState T) × (post.t ≡ t) × executes T a g post

  -- The time is above the late of an unfinished agent's instruction.
  abbrev pub Overdue : SystemState T → ℕ → Type 0
  Overdue g t = (b : ℕ) × (b < agents) × (ended b (g.st b) ≡ false) × ((instr_of T b (g.st b)).late < t)

  -- 01's replies 10 to 15, in 01's order; 14 is reserved: its reason cannot be met in a state that fits its table (specs/Ends).
  abbrev pub reasons : SystemState T → (a t : ℕ) → List Reason
  reasons g a t =
      ((agents ≤ a) ⇒ 10)  -- no such agent
      ∷ ((ended a (g.st a) ≡ true) ⇒ 11)  -- the agent has ended
      ∷ ((t < g.t) ⇒ 12)  -- time below the clock
      ∷ ((t < (instr_of T a (g.st a)).early) ⇒ 13)  -- time below the row's early
      ∷ (Overdue g t ⇒ 15)  -- time above some unfinished agent's late
      ∷ []

  abbrev pub Reply : SystemState T → (a t : ℕ) → ℕ → Type 0
  Reply g a t n = First (reasons g a t) n

-- A choice has no two replies.
pub one_reply : (T : Types) (g : SystemState T) (a t : ℕ) {m n : ℕ} → Reply g a t m → Reply g a t n → m ≡ n
one_reply T g a t p q = first_once (reasons g a t) p q

-- Reply 0: there is no reason against a choice if and only if the model allows it. proofs/Allowed proves it.
abbrev pub ZeroIsAllowed : Type 1
ZeroIsAllowed = (T : Types) (g : SystemState T) (a t : ℕ) → Reply g a t 0 ↔ ModelAllows g a t
