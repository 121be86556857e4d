-- Demand 2 of a run, proved: the choices are made one after another, and each accepted one is a step of the model.
use mathlib.Core.Path.{◌≡◌, refl, sym, ap, subst, ◌∙◌}
use mathlib.Core.Bool.{cond}
use mathlib.Core.List.{List, [], ◌∷◌, ◌++◌, append-nil, append_assoc}
use mathlib.Core.Logic.{ite}
use Prim.Native.Nat.{ℕ, zero, suc, ◌+◌, ◌*◌, ◌<◌}
use native.Mathlib.Nat.{add-zero, zero-add}
use native.Mathlib.Decide.{ℕ_discrete}
use native.Mathlib.Omega.{arith}
use lib.Dec.{eqb}
use lib.ListN.{take, drop}
use borrow.Author.Tests.{eq-eqb, ne_eqb}
use Rattle.pharos.specs.Published.{SystemState, Behaviour, no_steps, append, filter}
use Rattle.tables.proofs.Good.{few}
use Rattle.choices.specs.declared.Agent.{Agent}
use Rattle.choices.specs.State.{agent_at}
use Rattle.choices.specs.Step.{choice_reply, accepted}
use Rattle.executive.specs.Run.{RunOutcome, ended, run_from}
use Rattle.executive.proofs.Runs.{run_go, run_stop}
use Rattle.demands.specs.Instance.{published, decode, state_of}
use Rattle.demands.specs.Demand2.{Table, Fitting, Choice}
use Rattle.demands.specs.Steps.{Step, steps_from, comes_to}
use Rattle.demands.specs.Runs.{count_of, choices_of, Stops, at_end, at_word, at_reason, RunIsModels}
use Rattle.demands.proofs.Decode.{state_low}
use Rattle.demands.proofs.Demand2.{choice_is_models}
use Rattle.demands.proofs.Made.{steps_go, steps_stop}

-- a step adds to what its own agent has passed through
grows : (tb st : List ℕ) (a b : ℕ) → b < 16 → (h z : List Agent) (d : Dec (a ≡ b))
    → ite d (h ++ (state_of tb st b ∷ [])) h ++ z ≡ h ++ cond (eqb a b) (agent_at st a ∷ z) z
grows tb st a b low h z (yes e) = rw (eq-eqb a b e, state_low tb st b low, e) (append_assoc h (agent_at st b ∷ []) z)
grows tb st a b low h z (no n) = rw (ne_eqb a b n)

module _ (tb : List ℕ) (table : Table tb) where
  -- how a run of n accepted steps, the behaviour r, goes on: with the choices cs from the state st to the outcome `out`
  record Goes {g h : SystemState (published tb)} (r : Behaviour (published tb) g h) (n : ℕ) (st cs : List ℕ) (out : RunOutcome) : Type 0 where
    steps : ℕ
    counted : out.count ≡ n + steps
    stops : Stops (decode tb out.state) (drop (2 * steps) cs) out.reply
    state : Fitting tb out.state
    behaviour : Behaviour (published tb) g (decode tb out.state)
    stepped : count_of behaviour ≡ count_of r + steps
    chosen : choices_of behaviour ≡ choices_of r ++ take (2 * steps) cs
    filtered : (b : ℕ) → b < 16 → filter (published tb) behaviour b ≡ filter (published tb) r b ++ comes_to b (steps_from tb st cs)

  -- it is at its end
  stays : {g : SystemState (published tb)} (st : List ℕ) (n x : ℕ) (cs : List ℕ) → Fitting tb st → steps_from tb st cs ≡ []
      → (r : Behaviour (published tb) g (decode tb st)) → Stops (decode tb st) cs x → Goes r n st cs (ended x n st)
  unfolding comes_to
  stays st n x cs state none_left_lem r stops = record {
    steps = 0;
    counted = sym (add-zero n);
    stops = stops;
    state = state;
    behaviour = r;
    stepped = sym (add-zero _);
    chosen = sym (append-nil _);
    filtered = λ b _. rw none_left_lem (sym (append-nil _));
  }

  goes : (cs st : List ℕ) (n : ℕ) → Fitting tb st → {g : SystemState (published tb)} (r : Behaviour (published tb) g (decode tb st))
      → Goes r n st cs (run_from tb st n cs)
  unfolding run_from steps_from comes_to
  goes [] st n state r = stays st n 0 [] state refl r at_end
  goes (a ∷ []) st n state r = stays st n 0 (a ∷ []) state refl r at_word
  goes (a ∷ t ∷ cs) st n state r =
      go (choice_reply tb st a t) refl (λ e. goes cs (accepted tb st a t) (n + 1) (c.state e) (append r (c.step e)))
    where
      c : Choice tb st a t
      c = choice_is_models tb st table state a t

      new : List ℕ
      new = accepted tb st a t

      go : (x : ℕ) → choice_reply tb st a t ≡ x
          → ((e : choice_reply tb st a t ≡ 0) → Goes (append r (c.step e)) (n + 1) new cs (run_from tb new (n + 1) cs))
          → Goes r n st (a ∷ t ∷ cs) (run_from tb st n (a ∷ t ∷ cs))
      go zero e next =
          let x = next e in
          let twice : 2 * suc x.steps ≡ suc (suc (2 * x.steps)) = omega arith in
          subst (Goes r n st (a ∷ t ∷ cs)) (sym (run_go tb st n a t cs e)) (record {
            steps = suc x.steps;
            counted = x.counted ∙ omega arith;
            stops = rw twice x.stops;
            state = x.state;
            behaviour = x.behaviour;
            stepped = x.stepped ∙ omega arith;
            chosen = x.chosen
                ∙ append_assoc (choices_of r) (a ∷ (decode tb new).t ∷ []) (take (2 * x.steps) cs)
                ∙ ap (λ (u : ℕ). choices_of r ++ (a ∷ u ∷ take (2 * x.steps) cs)) (c.time e)
                ∙ ap (λ (i : ℕ). choices_of r ++ take i (a ∷ t ∷ cs)) (sym twice);
            filtered = λ b low. x.filtered b low
                ∙ grows tb new a b low (filter (published tb) r b) (comes_to b (steps_from tb new cs)) (ℕ_discrete a b)
                ∙ ap (λ (l : List Step). filter (published tb) r b ++ comes_to b l) (sym (steps_go tb st a t cs e));
          })
      go (suc x) e next = subst (Goes r n st (a ∷ t ∷ cs)) (sym (run_stop tb st n a t cs x e)) (stays st n (suc x) (a ∷ t ∷ cs) state (steps_stop tb st a t cs x e) r (at_reason (rw e at c.reason) (λ z. omega arith)))

pub run_is_models : RunIsModels
unfolding run_from
run_is_models tb st cs table state =
    let x = goes tb table cs st 0 state {g = decode tb st} no_steps in
    let count : (run_from tb st 0 cs).count ≡ x.steps = x.counted ∙ zero-add _ in
    record {
      state = x.state;
      behaviour = x.behaviour;
      counted = x.stepped ∙ zero-add _ ∙ sym count;
      chosen = rw count x.chosen;
      stops = rw count x.stops;
      filtered = λ b h.
          let low : b < 16 = omega (arith, few tb table.good) in
          x.filtered b low ∙ ap (λ (s : Agent). s ∷ comes_to b (steps_from tb st cs)) (state_low tb st b low);
    }
