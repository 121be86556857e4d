-- What is read after an accepted step: the clock, the agents, the marks and values, and that every other word is as before. Assumes nothing.
use Rattle.std.proofs.Common.{◌≡◌, ℕ, ◌+◌, ◌%◌, ◌^◌, ◌<◌, Bool, true, false, cond, eqb, ◌≢◌, List, length, get_or, take, drop, set, refl, ap, ◌∙◌, arith, length-drop, length-set, length-take, get_or-set_other, get_or-set_same, eq-eqb, ne_eqb, Option, None, Some}
use lib.Count.{ones_in, count_trailing_zeros}
use lib.Seq.{length-sets}
use Rattle.tables.specs.declared.Row.{Row}
use Rattle.choices.specs.declared.Agent.{Agent}
use Rattle.choices.specs.declared.Message.{Message}
use Rattle.choices.specs.State.{clock, pos, mark, value, agent_at, pool, pos_place, reg_place, mark_place, value_place}
use Rattle.choices.specs.Messages.{best}
use Rattle.choices.specs.Effect.{after, receive, go_to, put}
use Rattle.choices.specs.Fit.{current}
use Rattle.choices.specs.Step.{accepted, with_agent, with_sent}
use Rattle.tables.proofs.Tests.{either}
use Rattle.tables.proofs.Stored.{get_or-sets_other}
use Rattle.choices.proofs.Lists.{part_same, part_sets}

-- ---- a row's effect on its agent

-- the value of the message that a RECV takes, where it takes one
abbrev pub Carries : (ℕ → Type 0) → Option Message → Type 0
Carries W None = Unit
Carries W (Some m) = W m.value

-- a row only puts a value into a register, one of those of which W is shown here, or goes on; where to is `after_goes` in Onward
module _ (P : Agent → Type 0) (W : ℕ → Type 0) (r : Row) (s : Agent) (puts : (x v : ℕ) → W v → P (put x v s)) (goes : (p : ℕ) → P (go_to p s))
    (k : W r.k) (remainder : (n : ℕ) → W (n % 2 ^ 32)) (ones : (y : ℕ) → W (ones_in 32 y)) (low : (y : ℕ) → W (count_trailing_zeros 32 y)) where
  receives : (m : Option Message) → Carries W m → P (receive r m s)
  unfolding receive
  receives None c = goes (s.pos + 1 + r.n)
  receives (Some m) c = puts r.x m.value c

  pub after_made : (m : Option Message) → Carries W m → P (after r m s)
  unfolding after
  after_made m c = search (either P, puts, goes, receives, k, remainder, ones, low, c) depth 14

pub after_four : (r : Row) (m : Option Message) (s : Agent) → length s.regs ≡ 4 → length (after r m s).regs ≡ 4
after_four r m s four =
    after_made (λ g. length g.regs ≡ 4) (λ v. Unit) r s (λ x v t. length-set s.regs x v ∙ four) (λ p. four) tt (λ n. tt) (λ y. tt) (λ y. tt) m (any m)
  where
    -- whatever the value
    any : (m : Option Message) → Carries (λ v. Unit) m
    any None = tt
    any (Some m) = tt

-- ---- the words after a step

module _ (st : List ℕ) (a t : ℕ) (s : Agent) where
  -- a word of no agent's
  with_other : (j : ℕ) → j ≢ 0 → j ≢ pos_place a → ((i : ℕ) → i < length s.regs → j ≢ reg_place a + i)
      → get_or (with_agent (set st 0 t) a s) j 0 ≡ get_or st j 0
  unfolding with_agent
  with_other j h0 hp hr =
      get_or-sets_other s.regs (set (set st 0 t) (pos_place a) s.pos) (reg_place a) j hr
      ∙ get_or-set_other (set st 0 t) (pos_place a) j s.pos 0 hp
      ∙ get_or-set_other st 0 j t 0 h0

  module _ (long : length st ≡ 1105) (low : a < 16) (four : length s.regs ≡ 4) where
    with_clock : get_or (with_agent (set st 0 t) a s) 0 0 ≡ t
    unfolding with_agent
    with_clock =
        get_or-sets_other s.regs (set (set st 0 t) (pos_place a) s.pos) (reg_place a) 0 (λ i h e. omega arith)
        ∙ get_or-set_other (set st 0 t) (pos_place a) 0 s.pos 0 (λ e. omega arith)
        ∙ get_or-set_same st 0 t 0 (omega arith)

    with_pos : get_or (with_agent (set st 0 t) a s) (pos_place a) 0 ≡ s.pos
    unfolding with_agent
    with_pos =
        get_or-sets_other s.regs (set (set st 0 t) (pos_place a) s.pos) (reg_place a) (pos_place a) (λ i h e. omega arith)
        ∙ get_or-set_same (set st 0 t) (pos_place a) s.pos 0 (simp length-set (omega arith))

    with_regs : take 4 (drop (reg_place a) (with_agent (set st 0 t) a s)) ≡ s.regs
    unfolding with_agent
    with_regs =
        part_sets (set (set st 0 t) (pos_place a) s.pos) s.regs 4 (reg_place a) four (simp length-set (omega arith))

    with_length : length (with_agent (set st 0 t) a s) ≡ 1105
    unfolding with_agent
    with_length = simp (length-sets, length-set) long

module _ (st : List ℕ) (a : ℕ) (r : Row) (s : Agent) where
  sent_length : length (with_sent st a r s) ≡ length st
  unfolding with_sent
  sent_length = go (eqb r.op 0x20)
    where
      go : (b : Bool) → length (cond b (set (set st (mark_place a s.pos) 1) (value_place a s.pos) (get_or s.regs r.x 0)) st) ≡ length st
      go true = simp length-set
      go false = refl

  sent_other : (j : ℕ) → j ≢ mark_place a s.pos → j ≢ value_place a s.pos → get_or (with_sent st a r s) j 0 ≡ get_or st j 0
  unfolding with_sent
  sent_other j hm hv = go (eqb r.op 0x20)
    where
      go : (b : Bool) → get_or (cond b (set (set st (mark_place a s.pos) 1) (value_place a s.pos) (get_or s.regs r.x 0)) st) j 0 ≡ get_or st j 0
      go true =
          get_or-set_other (set st (mark_place a s.pos) 1) (value_place a s.pos) j (get_or s.regs r.x 0) 0 hv
          ∙ get_or-set_other st (mark_place a s.pos) j 1 0 hm
      go false = refl

  module _ (send : r.op ≡ 0x20) (fit : value_place a s.pos < length st) where
    sent_mark : get_or (with_sent st a r s) (mark_place a s.pos) 0 ≡ 1
    unfolding with_sent
    sent_mark =
        rw (eq-eqb r.op 0x20 send)
        (get_or-set_other (set st (mark_place a s.pos) 1) (value_place a s.pos) (mark_place a s.pos) (get_or s.regs r.x 0) 0 (λ e. omega arith)
        ∙ get_or-set_same st (mark_place a s.pos) 1 0 (omega arith))

    sent_value : get_or (with_sent st a r s) (value_place a s.pos) 0 ≡ get_or s.regs r.x 0
    unfolding with_sent
    sent_value =
        rw (eq-eqb r.op 0x20 send)
        (get_or-set_same (set st (mark_place a s.pos) 1) (value_place a s.pos) (get_or s.regs r.x 0) 0 (simp length-set (omega arith)))

  unsent : r.op ≢ 0x20 → with_sent st a r s ≡ st
  unfolding with_sent
  unsent other = rw (ne_eqb r.op 0x20 other)

-- the state of agent a after a step of its own
abbrev pub next : (tb st : List ℕ) (a : ℕ) → Agent
next tb st a = after (current tb st a) (best tb (pool st) (current tb st a)) (agent_at st a)

module _ (tb st : List ℕ) (a t : ℕ) (long : length st ≡ 1105) (low : a < 16) where
  pub agent_four : length (agent_at st a).regs ≡ 4
  agent_four = simp (length-take, length-drop) (omega arith)

  pub next_four : length (next tb st a).regs ≡ 4
  next_four = after_four (current tb st a) (best tb (pool st) (current tb st a)) (agent_at st a) agent_four

  abbrev put_in : List ℕ
  put_in = with_agent (set st 0 t) a (next tb st a)

  -- the words whose agent's state is put in have the length of a state
  put_length : length put_in ≡ 1105
  put_length = with_length st a t (next tb st a) long low next_four

  pub accepted_length : length (accepted tb st a t) ≡ 1105
  unfolding accepted
  accepted_length = sent_length put_in a (current tb st a) (agent_at st a) ∙ put_length

  -- a word that is neither the clock, nor the agent's position or register, nor its row's mark or value
  pub accepted_other : (j : ℕ) → j ≢ 0 → j ≢ pos_place a → ((i : ℕ) → i < 4 → j ≢ reg_place a + i)
      → j ≢ mark_place a (pos st a) → j ≢ value_place a (pos st a) → get_or (accepted tb st a t) j 0 ≡ get_or st j 0
  unfolding accepted
  accepted_other j h0 hp hr hm hv =
      sent_other put_in a (current tb st a) (agent_at st a) j hm hv
      ∙ with_other st a t (next tb st a) j h0 hp (λ i h. hr i (omega (arith, next_four)))

  pub accepted_clock : clock (accepted tb st a t) ≡ t
  unfolding accepted
  accepted_clock =
      sent_other put_in a (current tb st a) (agent_at st a) 0 (λ e. omega arith) (λ e. omega arith)
      ∙ with_clock st a t (next tb st a) long low next_four

  pub accepted_pos : pos (accepted tb st a t) a ≡ (next tb st a).pos
  unfolding accepted
  accepted_pos =
      sent_other put_in a (current tb st a) (agent_at st a) (pos_place a) (λ e. omega arith) (λ e. omega arith)
      ∙ with_pos st a t (next tb st a) long low next_four

  accepted_regs : take 4 (drop (reg_place a) (accepted tb st a t)) ≡ (next tb st a).regs
  unfolding accepted
  accepted_regs =
      part_same (accepted tb st a t) put_in 4 (reg_place a) (reg_place a) (omega (arith, accepted_length)) (omega (arith, put_length))
      (λ i h. sent_other put_in a (current tb st a) (agent_at st a) (reg_place a + i) (λ e. omega arith) (λ e. omega arith))
      ∙ with_regs st a t (next tb st a) long low next_four

  -- the agent's own state
  pub accepted_self : agent_at (accepted tb st a t) a ≡ next tb st a
  accepted_self = λ i. record { pos = accepted_pos i; regs = accepted_regs i }

  -- the other agents' states
  module _ (b : ℕ) (high : b < 16) (other : b ≢ a) where
    pub accepted_pos_other : pos (accepted tb st a t) b ≡ pos st b
    accepted_pos_other =
        accepted_other (pos_place b) (λ e. omega arith) (λ e. other (omega arith)) (λ i h e. omega arith) (λ e. omega arith) (λ e. omega arith)

    pub accepted_agent_other : agent_at (accepted tb st a t) b ≡ agent_at st b
    accepted_agent_other = λ i. record { pos = accepted_pos_other i; regs = regs_other i }
      where
        regs_other : take 4 (drop (reg_place b) (accepted tb st a t)) ≡ take 4 (drop (reg_place b) st)
        regs_other =
            part_same (accepted tb st a t) st 4 (reg_place b) (reg_place b) (omega (arith, accepted_length)) (omega arith)
            (λ i h. accepted_other (reg_place b + i) (λ e. omega arith) (λ e. omega arith) (λ k l e. other (omega arith)) (λ e. omega arith) (λ e. omega arith))

  -- the messages
  module _ (within : pos st a < 32) where
    -- "A SEND sets its own mark and value"
    module _ (send : (current tb st a).op ≡ 0x20) where
      pub sent_own_mark : mark (accepted tb st a t) a (pos st a) ≡ 1
      unfolding accepted
      sent_own_mark = sent_mark put_in a (current tb st a) (agent_at st a) send (omega (arith, put_length))

      pub sent_own_value : value (accepted tb st a t) a (pos st a) ≡ get_or (agent_at st a).regs (current tb st a).x 0
      unfolding accepted
      sent_own_value = sent_value put_in a (current tb st a) (agent_at st a) send (omega (arith, put_length))

    module _ (b i : ℕ) (high : b < 16) (short : i < 32) where
      -- a place that is not the row's
      module _ (away : (b ≡ a) × (i ≡ pos st a) → ⊥) where
        pub mark_away : mark (accepted tb st a t) b i ≡ mark st b i
        mark_away =
            accepted_other (mark_place b i) (λ e. omega arith) (λ e. omega arith) (λ k h e. omega arith)
            (λ e. away (omega arith, omega arith)) (λ e. omega arith)

        pub value_away : value (accepted tb st a t) b i ≡ value st b i
        value_away =
            accepted_other (value_place b i) (λ e. omega arith) (λ e. omega arith) (λ k h e. omega arith)
            (λ e. omega arith) (λ e. away (omega arith, omega arith))

      -- a row that is no SEND
      module _ (other : (current tb st a).op ≢ 0x20) where
        pub mark_unsent : mark (accepted tb st a t) b i ≡ mark st b i
        unfolding accepted
        mark_unsent =
            ap (λ (l : List ℕ). mark l b i) (unsent put_in a (current tb st a) (agent_at st a) other)
            ∙ with_other st a t (next tb st a) (mark_place b i) (λ e. omega arith) (λ e. omega arith) (λ k h e. omega (arith, next_four))

        pub value_unsent : value (accepted tb st a t) b i ≡ value st b i
        unfolding accepted
        value_unsent =
            ap (λ (l : List ℕ). value l b i) (unsent put_in a (current tb st a) (agent_at st a) other)
            ∙ with_other st a t (next tb st a) (value_place b i) (λ e. omega arith) (λ e. omega arith) (λ k h e. omega (arith, next_four))
