-- The accepted steps of a list of choices, one choice at a time; and that they are those of the run. Assumes nothing.
use mathlib.Core.Path.{◌≡◌, refl, sym, ap, ap₂, ◌∙◌}
use mathlib.Core.Logic.{◌≢◌}
use mathlib.Core.Bool.{cond}
use mathlib.Core.List.{List, [], ◌∷◌}
use Prim.Native.Nat.{ℕ, zero, suc, ◌+◌, ◌*◌, ◌≤◌, ◌<◌}
use native.Mathlib.Nat.{add-zero}
use native.Mathlib.Decide.{ℕ_discrete}
use native.Mathlib.Omega.{arith}
use lib.Dec.{eqb}
use lib.ListN.{length, take, get_or}
use borrow.Author.Tests.{eq-eqb, ne_eqb}
use Rattle.tables.specs.Layout.{agents}
use Rattle.choices.specs.declared.Agent.{Agent}
use Rattle.choices.specs.State.{agent_at}
use Rattle.choices.specs.Step.{choice_reply, accepted}
use Rattle.choices.proofs.Choice.{allowed}
use Rattle.choices.proofs.After.{accepted_agent_other}
use Rattle.executive.specs.Run.{RunOutcome, run_from}
use Rattle.executive.proofs.Runs.{run_go, run_stop}
use Rattle.demands.specs.Demand2.{Table, Fitting}
use Rattle.demands.specs.Steps.{Step, step, steps_from, comes_to, agents_and_times, last_of}
use Rattle.demands.proofs.Step.{low}
use Rattle.demands.proofs.Demand2.{choice_is_models}

module _ (tb st : List ℕ) (a t : ℕ) (cs : List ℕ) where
  steps_by : (r : ℕ) → choice_reply tb st a t ≡ r
      → steps_from tb st (a ∷ t ∷ cs) ≡ elim r [ zero ↦ step a t (agent_at (accepted tb st a t) a) ∷ steps_from tb (accepted tb st a t) cs | suc r ↦ [] ]
  unfolding steps_from
  steps_by r h = ap (λ (x : ℕ). elim x as (λ _. List Step) [ zero ↦ step a t (agent_at (accepted tb st a t) a) ∷ steps_from tb (accepted tb st a t) cs | suc r ↦ [] ]) h

  pub steps_go : choice_reply tb st a t ≡ 0 → steps_from tb st (a ∷ t ∷ cs) ≡ step a t (agent_at (accepted tb st a t) a) ∷ steps_from tb (accepted tb st a t) cs
  steps_go h = steps_by 0 h

  pub steps_stop : (r : ℕ) → choice_reply tb st a t ≡ suc r → steps_from tb st (a ∷ t ∷ cs) ≡ []
  steps_stop r h = steps_by (suc r) h

-- ---- the steps of a run, after n others

pub steps_counted : (cs tb st : List ℕ) (n : ℕ) → n + length (steps_from tb st cs) ≡ (run_from tb st n cs).count
unfolding steps_from run_from
steps_counted [] tb st n = add-zero n
steps_counted (a ∷ []) tb st n = add-zero n
steps_counted (a ∷ t ∷ cs) tb st n = go (choice_reply tb st a t) refl (steps_counted cs tb (accepted tb st a t) (n + 1))
  where
    go : (r : ℕ) → choice_reply tb st a t ≡ r → n + 1 + length (steps_from tb (accepted tb st a t) cs) ≡ (run_from tb (accepted tb st a t) (n + 1) cs).count
        → n + length (steps_from tb st (a ∷ t ∷ cs)) ≡ (run_from tb st n (a ∷ t ∷ cs)).count
    go zero e rest = rw (steps_go tb st a t cs e, run_go tb st n a t cs e, ← rest) (omega arith)
    go (suc r) e rest = rw (steps_stop tb st a t cs r e, run_stop tb st n a t cs r e) (add-zero n)

-- they are on the first of the choices
pub steps_chosen : (cs tb st : List ℕ) → agents_and_times (steps_from tb st cs) ≡ take (2 * length (steps_from tb st cs)) cs
unfolding steps_from agents_and_times
steps_chosen [] tb st = refl
steps_chosen (a ∷ []) tb st = refl
steps_chosen (a ∷ t ∷ cs) tb st = go (choice_reply tb st a t) refl (steps_chosen cs tb (accepted tb st a t))
  where
    go : (r : ℕ) → choice_reply tb st a t ≡ r → agents_and_times (steps_from tb (accepted tb st a t) cs) ≡ take (2 * length (steps_from tb (accepted tb st a t) cs)) cs
        → agents_and_times (steps_from tb st (a ∷ t ∷ cs)) ≡ take (2 * length (steps_from tb st (a ∷ t ∷ cs))) (a ∷ t ∷ cs)
    go zero e rest =
        let n = length (steps_from tb (accepted tb st a t) cs) in
        let twice : 2 * suc n ≡ suc (suc (2 * n)) = omega arith in
        rw (steps_go tb st a t cs e, twice, rest)
    go (suc r) e rest = rw (steps_stop tb st a t cs r e)

-- each leaves its agent as the run over the choices up to it does
pub steps_each : (cs tb st : List ℕ) (n : ℕ) (s : Step) (k : ℕ) → k < length (steps_from tb st cs)
    → (get_or (steps_from tb st cs) k s).left ≡ agent_at (run_from tb st n (take (2 * suc k) cs)).state (get_or cs (2 * k) 0)
unfolding steps_from run_from
steps_each [] tb st n s k l = absurd (omega arith)
steps_each (a ∷ []) tb st n s k l = absurd (omega arith)
steps_each (a ∷ t ∷ cs) tb st n s k l = go k (choice_reply tb st a t) refl l (λ j. steps_each cs tb (accepted tb st a t) (n + 1) s j)
  where
    new : List ℕ
    new = accepted tb st a t

    go : (k r : ℕ) → choice_reply tb st a t ≡ r → k < length (steps_from tb st (a ∷ t ∷ cs))
        → ((j : ℕ) → j < length (steps_from tb new cs) → (get_or (steps_from tb new cs) j s).left ≡ agent_at (run_from tb new (n + 1) (take (2 * suc j) cs)).state (get_or cs (2 * j) 0))
        → (get_or (steps_from tb st (a ∷ t ∷ cs)) k s).left ≡ agent_at (run_from tb st n (take (2 * suc k) (a ∷ t ∷ cs))).state (get_or (a ∷ t ∷ cs) (2 * k) 0)
    go k (suc r) e l rest = absurd (let z = ap length (steps_stop tb st a t cs r e) in omega arith)
    go zero zero e l rest = rw (steps_go tb st a t cs e, run_go tb st n a t [] e)
    go (suc k) zero e l rest =
        let z = ap length (steps_go tb st a t cs e) in
        let here : 2 * suc k ≡ suc (suc (2 * k)) = omega arith in
        let on : 2 * suc (suc k) ≡ suc (suc (2 * suc k)) = omega arith in
        ap (λ (l : List Step). (get_or l (suc k) s).left) (steps_go tb st a t cs e)
        ∙ rest k (omega arith)
        ∙ ap₂ (λ (q : RunOutcome) (b : ℕ). agent_at q.state b) (sym (run_go tb st n a t (take (2 * suc k) cs) e)) (ap (λ (i : ℕ). get_or (a ∷ t ∷ cs) i 0) (sym here))
        ∙ ap (λ (i : ℕ). agent_at (run_from tb st n (take i (a ∷ t ∷ cs))).state (get_or (a ∷ t ∷ cs) (2 * suc k) 0)) (sym on)

-- ---- of an accepted table, from a state that fits it

module _ (tb : List ℕ) (table : Table tb) where
  -- the last state that an agent has come to is the one that it is left in
  pub steps_last : (cs st : List ℕ) (n : ℕ) → Fitting tb st → (b : ℕ) → b < agents tb
      → agent_at (run_from tb st n cs).state b ≡ last_of (agent_at st b) (comes_to b (steps_from tb st cs))
  unfolding steps_from run_from comes_to last_of
  steps_last [] st n fit b h = refl
  steps_last (a ∷ []) st n fit b h = refl
  steps_last (a ∷ t ∷ cs) st n fit b h =
      go (choice_reply tb st a t) refl (λ e. steps_last cs (accepted tb st a t) (n + 1) ((choice_is_models tb st table fit a t).state e) b h)
    where
      new : List ℕ
      new = accepted tb st a t

      rest : List Agent
      rest = comes_to b (steps_from tb new cs)

      own : choice_reply tb st a t ≡ 0 → Dec (a ≡ b) → last_of (agent_at new b) rest ≡ last_of (agent_at st b) (cond (eqb a b) (agent_at new a ∷ rest) rest)
      own e (yes p) = rw (eq-eqb a b p) (ap (λ (c : ℕ). last_of (agent_at new c) rest) (sym p))
      own e (no m) = rw (ne_eqb a b m)
          (ap (λ (s : Agent). last_of s rest) (accepted_agent_other tb st a t fit.long (low tb st table.good (allowed tb st a t e).agent) b (low tb st table.good h) (λ p. m (sym p))))

      go : (r : ℕ) → choice_reply tb st a t ≡ r → (choice_reply tb st a t ≡ 0 → agent_at (run_from tb new (n + 1) cs).state b ≡ last_of (agent_at new b) rest)
          → agent_at (run_from tb st n (a ∷ t ∷ cs)).state b ≡ last_of (agent_at st b) (comes_to b (steps_from tb st (a ∷ t ∷ cs)))
      go zero e next =
          ap (λ (q : RunOutcome). agent_at q.state b) (run_go tb st n a t cs e)
          ∙ next e
          ∙ own e (ℕ_discrete a b)
          ∙ ap (λ (l : List Step). last_of (agent_at st b) (comes_to b l)) (sym (steps_go tb st a t cs e))
      go (suc r) e next =
          ap (λ (q : RunOutcome). agent_at q.state b) (run_stop tb st n a t cs r e)
          ∙ ap (λ (l : List Step). last_of (agent_at st b) (comes_to b l)) (sym (steps_stop tb st a t cs r e))

  -- the agent of an accepted choice is one that there is
  pub chosen_low : (cs st : List ℕ) (k : ℕ) → Fitting tb st → k < length (steps_from tb st cs) → get_or cs (2 * k) 0 < agents tb
  unfolding steps_from
  chosen_low [] st k fit l = absurd (omega arith)
  chosen_low (a ∷ []) st k fit l = absurd (omega arith)
  chosen_low (a ∷ t ∷ cs) st k fit l =
      go k (choice_reply tb st a t) refl l (λ e j. chosen_low cs (accepted tb st a t) j ((choice_is_models tb st table fit a t).state e))
    where
      go : (k r : ℕ) → choice_reply tb st a t ≡ r → k < length (steps_from tb st (a ∷ t ∷ cs))
          → (choice_reply tb st a t ≡ 0 → (j : ℕ) → j < length (steps_from tb (accepted tb st a t) cs) → get_or cs (2 * j) 0 < agents tb)
          → get_or (a ∷ t ∷ cs) (2 * k) 0 < agents tb
      go k (suc r) e l rest = absurd (let z = ap length (steps_stop tb st a t cs r e) in omega arith)
      go zero zero e l rest = (allowed tb st a t e).agent
      go (suc k) zero e l rest =
          let z = ap length (steps_go tb st a t cs e) in
          let here : 2 * suc k ≡ suc (suc (2 * k)) = omega arith in
          rw here (rest e k (omega arith))

-- a number that names no agent comes to no state
pub comes_nowhere : (cs tb st : List ℕ) (b : ℕ) → agents tb ≤ b → comes_to b (steps_from tb st cs) ≡ []
unfolding steps_from comes_to
comes_nowhere [] tb st b h = refl
comes_nowhere (a ∷ []) tb st b h = refl
comes_nowhere (a ∷ t ∷ cs) tb st b h = go (choice_reply tb st a t) refl (comes_nowhere cs tb (accepted tb st a t) b h)
  where
    go : (r : ℕ) → choice_reply tb st a t ≡ r → comes_to b (steps_from tb (accepted tb st a t) cs) ≡ [] → comes_to b (steps_from tb st (a ∷ t ∷ cs)) ≡ []
    go zero e rest =
        let other : a ≢ b = λ p. omega (arith, (allowed tb st a t e).agent) in
        ap (comes_to b) (steps_go tb st a t cs e) ∙ rw (ne_eqb a b other) rest
    go (suc r) e rest = ap (comes_to b) (steps_stop tb st a t cs r e)
