-- An agent's next state depends on its own state and on the messages visible to its row, and on nothing else. Assumes nothing.
use mathlib.Core.Path.{◌≡◌, refl, sym, ap, ◌∙◌}
use mathlib.Core.Logic.{⊎_elim}
use mathlib.Core.Bool.{Bool, true, false}
use mathlib.Core.List.{List}
use Prim.Native.Nat.{ℕ, zero, suc, ◌<◌, ◌≤◌}
use native.Mathlib.Decide.{dec_lt}
use native.Mathlib.Omega.{arith}
use lib.ListN.{length}
use Rattle.tables.specs.Layout.{agents, rows, row}
use Rattle.tables.specs.Table.{good_table}
use Rattle.tables.specs.declared.Row.{Row}
use Rattle.choices.specs.State.{mark, Pool, pool, agent_at}
use Rattle.choices.specs.Messages.{visible, look, look_rows, look_agents, best}
use Rattle.choices.specs.Effect.{after}
use Rattle.choices.specs.Fit.{fits, current}
use Rattle.choices.specs.Step.{choice_reply, accepted}
use Rattle.choices.specs.declared.Agent.{Agent}
use Rattle.std.specs.Prelude.{Option}
use Rattle.choices.specs.declared.Message.{Message}
use Rattle.executive.specs.Laws.{SameSeen}
use Rattle.tables.proofs.Good.{few}
use Rattle.choices.proofs.After.{next, accepted_self}
use Rattle.choices.proofs.Choice.{allowed}
use Rattle.executive.proofs.Fitting.{Fits, fits_says}

module _ (tb : List ℕ) (p q : Pool) (r : Row) (same : SameSeen tb (λ b. 32) p q r) where
  look_same : (b i : ℕ) (m : Option Message) → b < agents tb → i < 32 → look tb p r b i m ≡ look tb q r b i m
  unfolding look
  look_same b i m hb hi = go (visible tb p r b i) refl
    where
      go : (v : Bool) → visible tb p r b i ≡ v → look tb p r b i m ≡ look tb q r b i m
      go true e = rw (← same.seen b i hb hi, ← same.told b i hb hi e)
      go false e = rw (← same.seen b i hb hi, e)

  rows_same : (b i : ℕ) (m : Option Message) → b < agents tb → i ≤ 32 → look_rows tb p r b i m ≡ look_rows tb q r b i m
  unfolding look_rows
  rows_same b zero m hb hi = refl
  rows_same b (suc i) m hb hi = look_same b i _ hb hi ∙ ap (look tb q r b i) (rows_same b i m hb (omega arith))

  agents_same : (b : ℕ) → b ≤ agents tb → look_agents tb p r b ≡ look_agents tb q r b
  unfolding look_agents
  agents_same zero hb = refl
  agents_same (suc b) hb = rows_same b 32 _ hb (omega arith) ∙ ap (look_rows tb q r b 32) (agents_same b (omega arith))

  pub best_same : best tb p r ≡ best tb q r
  unfolding best
  best_same = agents_same (agents tb) (omega arith)

-- the next state of two records that agree on the agent's state and on what its row sees
pub next_same : (tb st st' : List ℕ) (a : ℕ) → agent_at st a ≡ agent_at st' a → SameSeen tb (λ b. 32) (pool st) (pool st') (current tb st a)
    → next tb st a ≡ next tb st' a
next_same tb st st' a e s =
    ap (λ (m : Option Message). after (current tb st a) m (agent_at st a)) (best_same tb (pool st) (pool st') (current tb st a) s)
    ∙ ap (λ (g : Agent). after (row tb a g.pos) (best tb (pool st') (row tb a g.pos)) g) e

-- past an agent's rows nothing is visible in a state that fits
unseen : (tb st : List ℕ) → Fits tb st → (r : Row) (b i : ℕ) → b < agents tb → i < 32 → rows tb b ≤ i → visible tb (pool st) r b i ≡ false
unfolding visible
unseen tb st f r b i hb hi past =
    let m : mark st b i ≡ 0 = ⊎_elim {C = mark st b i ≡ 0} (λ u. u.0) (λ s. absurd (let p = f.position b hb in let l = s.2 in omega arith)) (f.message b i hb hi) in
    rw m

-- "two state records of one table that agree on these, and both accept a step of that agent, give it the same next state"
pub depends : (tb st st' : List ℕ) → good_table tb ≡ true → length st ≡ 1105 → length st' ≡ 1105 → fits tb st ≡ true → fits tb st' ≡ true
    → (a t t' : ℕ) → choice_reply tb st a t ≡ 0 → choice_reply tb st' a t' ≡ 0
    → agent_at st a ≡ agent_at st' a → SameSeen tb (rows tb) (pool st) (pool st') (current tb st a)
    → agent_at (accepted tb st a t) a ≡ agent_at (accepted tb st' a t') a
depends tb st st' good long long' fit fit' a t t' c c' e s =
    accepted_self tb st a t long low
    ∙ next_same tb st st' a e (record { seen = λ b i hb hi. seen b i hb hi (dec_lt i (rows tb b)); told = λ b i hb hi v. told b i hb hi v (dec_lt i (rows tb b)) })
    ∙ sym (accepted_self tb st' a t' long' low)
  where
    low : a < 16
    low = let h = (allowed tb st a t c).agent in omega (arith, few tb good)

    seen : (b i : ℕ) → b < agents tb → i < 32 → Dec (i < rows tb b) → visible tb (pool st) (current tb st a) b i ≡ visible tb (pool st') (current tb st a) b i
    seen b i hb hi (yes l) = s.seen b i hb l
    seen b i hb hi (no n) =
        unseen tb st (fits_says tb st fit) (current tb st a) b i hb hi (omega arith)
        ∙ sym (unseen tb st' (fits_says tb st' fit') (current tb st a) b i hb hi (omega arith))

    told : (b i : ℕ) → b < agents tb → i < 32 → visible tb (pool st) (current tb st a) b i ≡ true → Dec (i < rows tb b) → (pool st).value b i ≡ (pool st').value b i
    told b i hb hi v (yes l) = s.told b i hb l v
    told b i hb hi v (no n) =
        let u = unseen tb st (fits_says tb st fit) (current tb st a) b i hb hi (omega arith) in
        let z : ◌≡◌ {A = Bool} false true = sym u ∙ v in
        absurd (mathlib.Core.Bool.false≢true z)
