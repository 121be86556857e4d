-- A choice worked out with the registers beside the state's words is the choice of the whole state. Assumes nothing.
use Rattle.std.proofs.Common.{◌≡◌, ℕ, ◌+◌, ◌-◌, ◌*◌, ◌/◌, ◌%◌, ◌<◌, ◌≤◌, Bool, true, false, cond, not, ◌||◌, eqb, ltb, leb, List, [], length, get_or, take, drop, set, sym, refl, ap, ◌∙◌, ap₂, arith, length-drop, length-set, length-take, ext_get_or, le-leb}
use mathlib.Core.Path.{fun_ext}
use native.Mathlib.Decide.{dec_lt}
use lib.Seq.{length-sets}
use Rattle.tables.specs.Basics.{first}
use Rattle.tables.specs.Layout.{agents, rows, row}
use Rattle.tables.specs.Rows.{well_formed}
use Rattle.tables.specs.Table.{good_table}
use Rattle.tables.specs.declared.Row.{Row}
use Rattle.tables.proofs.Passed.{below_same}
use Rattle.tables.proofs.Good.{few, few_rows, formed}
use Rattle.choices.specs.declared.Agent.{Agent}
use Rattle.choices.specs.State.{Pool, pos, pool, agent_at, pos_place, reg_place, mark_place, value_place}
use Rattle.choices.specs.Messages.{best}
use Rattle.choices.specs.Effect.{after}
use Rattle.choices.specs.Fit.{unfinished, in_time}
use Rattle.choices.specs.Step.{choice_reply, accepted, with_agent, with_sent}
use Rattle.choices.specs.Registers.{around, listed, register, with_regs, acted, act_into}
use Rattle.choices.proofs.Lists.{get_d_part}
use Rattle.choices.proofs.Around.{listed_length, listed_at, around_length, around_low, around_mid, around_high, around_own, around_around, around_set, around_sets}
use Rattle.choices.proofs.Choice.{allowed}
use Rattle.choices.proofs.After.{next, after_four, accepted_self}

-- ---- the reply goes by the clock and the positions alone

module _ (tb st st' : List ℕ) (few : agents tb ≤ 16) (same : (j : ℕ) → j < 17 → get_or st j 0 ≡ get_or st' j 0) where
  in_time_same : (t : ℕ) → in_time tb st t ≡ in_time tb st' t
  unfolding in_time unfinished
  in_time_same t =
      below_same (agents tb) _ _ (λ b h. ap (λ (p : ℕ). not (ltb p (rows tb b)) || leb t (row tb b p).late) (same (pos_place b) (omega arith)))

  pub reply_same : (a t : ℕ) → choice_reply tb st a t ≡ choice_reply tb st' a t
  unfolding choice_reply first
  reply_same a t = go (dec_lt a 16)
    where
      go : Dec (a < 16) → choice_reply tb st a t ≡ choice_reply tb st' a t
      go (yes h) = rw (same (pos_place a) (omega arith), same 0 (omega arith), in_time_same t)
      go (no n) = rw (le-leb (agents tb) a (omega arith))

-- ---- an accepted choice's agent and row

module _ (tb st : List ℕ) (good : good_table tb ≡ true) (a t : ℕ) (h : choice_reply tb st a t ≡ 0) where
  pub chosen_low : a < 16
  chosen_low = let c = (allowed tb st a t h).agent in omega (arith, few tb good)

  pub chosen_within : pos st a < 32
  chosen_within = let c = allowed tb st a t h in let l = c.unended in omega (arith, few_rows tb good a c.agent)

  pub chosen_formed : well_formed (row tb a (pos st a)) ≡ true
  chosen_formed = let c = allowed tb st a t h in formed tb good a c.agent (pos st a) c.unended

-- ---- the whole state, read word by word

module _ (st : List ℕ) (g : List (List ℕ)) (long : length st ≡ 1105) where
  abbrev whole : List ℕ
  whole = with_regs st g

  gs_length : length (listed (register g) 64) ≡ 64
  gs_length = listed_length (register g) 64

  pub whole_length : length whole ≡ 1105
  whole_length = around_length st (listed (register g) 64) (omega arith) gs_length ∙ long

  pub whole_low : (j : ℕ) → j < 17 → get_or whole j 0 ≡ get_or st j 0
  whole_low = around_low st (listed (register g) 64) (omega arith) gs_length

  whole_high : (j : ℕ) → 81 ≤ j → get_or whole j 0 ≡ get_or st j 0
  whole_high = around_high st (listed (register g) 64) (omega arith) gs_length

  pub whole_register : (i : ℕ) → i < 64 → get_or whole (17 + i) 0 ≡ register g i
  whole_register i h =
      let e : 17 + i - 17 ≡ i = omega arith in
      around_mid st (listed (register g) 64) (omega arith) gs_length (17 + i) (omega arith) (omega arith)
      ∙ ap (λ (n : ℕ). get_or (listed (register g) 64) n 0) e
      ∙ listed_at (register g) 64 i 0 h

  -- the messages are the same
  whole_pool : pool whole ≡ pool st
  whole_pool = λ i. record {
    mark = fun_ext (λ b. fun_ext (λ k. whole_high (mark_place b k) (omega arith))) i;
    value = fun_ext (λ b. fun_ext (λ k. whole_high (value_place b k) (omega arith))) i;
  }

  module _ (a : ℕ) (low : a < 16) (four : length (get_or g a []) ≡ 4) where
    -- agent a, its position out of the words and its registers out of g
    abbrev self : Agent
    self = record { pos = pos st a; regs = get_or g a [] }

    whole_self : agent_at whole a ≡ self
    whole_self = λ i. record { pos = whole_low (pos_place a) (omega arith) i; regs = own i }
      where
        own : take 4 (drop (reg_place a) whole) ≡ get_or g a []
        own =
            let n : length (take 4 (drop (reg_place a) whole)) ≡ 4 = simp (length-take, length-drop) (omega (arith, whole_length)) in
            ext_get_or 0 (take 4 (drop (reg_place a) whole)) (get_or g a []) (n ∙ sym four) (λ i h.
            let k : i < 4 = omega arith in
            let p : reg_place a + i ≡ 17 + (4 * a + i) = omega arith in
            let q : (4 * a + i) / 4 ≡ a = omega arith in
            let r : (4 * a + i) % 4 ≡ i = omega arith in
            get_d_part whole 4 (reg_place a) i k ∙ ap (λ (j : ℕ). get_or whole j 0) p ∙ whole_register (4 * a + i) (omega arith) ∙ rw (q, r))

    module _ (tb : List ℕ) (t : ℕ) where
      abbrev own_row : Row
      own_row = row tb a (pos st a)

      -- its state after its row
      abbrev moved : Agent
      moved = after own_row (best tb (pool st) own_row) self

      moved_four : length moved.regs ≡ 4
      moved_four = after_four own_row (best tb (pool st) own_row) self four

      next_moved : next tb whole a ≡ moved
      next_moved =
          ap₂ (λ (s : Agent) (p : Pool). after (row tb a s.pos) (best tb p (row tb a s.pos)) s) whole_self whole_pool

      accepted_moved : accepted tb whole a t ≡ with_sent (with_agent (set whole 0 t) a moved) a own_row self
      unfolding accepted
      accepted_moved =
          ap₂
          (λ (s : Agent) (p : Pool).
          with_sent (with_agent (set whole 0 t) a (after (row tb a s.pos) (best tb p (row tb a s.pos)) s)) a (row tb a s.pos) s)
          whole_self whole_pool

      pub self_after : agent_at (accepted tb whole a t) a ≡ moved
      self_after = accepted_self tb whole a t whole_length low ∙ next_moved

-- ---- the words around the registers after a step

module _ (ws m : List ℕ) (long : length ws ≡ 1105) (full : length m ≡ 64) (a : ℕ) (low : a < 16) where
  around_sent : (r : Row) (s : Agent) → s.pos < 32 → around (with_sent ws a r s) m ≡ with_sent (around ws m) a r s
  unfolding with_sent
  around_sent r s h = go (eqb r.op 0x20)
    where
      v : ℕ
      v = get_or s.regs r.x 0

      go : (b : Bool) → around (cond b (set (set ws (mark_place a s.pos) 1) (value_place a s.pos) (get_or s.regs r.x 0)) ws) m
          ≡ cond b (set (set (around ws m) (mark_place a s.pos) 1) (value_place a s.pos) (get_or s.regs r.x 0)) (around ws m)
      go true =
          let n = length-set ws (mark_place a s.pos) 1 in
          around_set (set ws (mark_place a s.pos) 1) m (value_place a s.pos) (get_or s.regs r.x 0) (omega arith) full (omega arith) (λ d. omega arith)
          ∙ ap (λ (l : List ℕ). set l (value_place a s.pos) (get_or s.regs r.x 0))
          (around_set ws m (mark_place a s.pos) 1 (omega arith) full (omega arith) (λ d. omega arith))
      go false = refl

  around_agent : (q : Agent) → length q.regs ≡ 4 → around (with_agent ws a q) m ≡ set (around ws m) (pos_place a) q.pos
  unfolding with_agent
  around_agent q four =
      let n = length-set ws (pos_place a) q.pos in
      around_sets (set ws (pos_place a) q.pos) m q.regs (reg_place a) (omega arith) full (omega arith) (omega arith)
      ∙ around_set ws m (pos_place a) q.pos (omega arith) full (omega arith) (λ d. omega arith)

  with_agent_length : (q : Agent) → length (with_agent ws a q) ≡ 1105
  unfolding with_agent
  with_agent_length q = simp (length-sets, length-set) long

-- ---- the choice

module _ (tb st : List ℕ) (g : List (List ℕ)) (long : length st ≡ 1105) (few : agents tb ≤ 16) (a t : ℕ) where
  abbrev own : List ℕ
  own = take 64 (drop 17 st)

  own_length : length own ≡ 64
  own_length = simp (length-take, length-drop) (omega arith)

  pub reply_whole : choice_reply tb (with_regs st g) a t ≡ choice_reply tb st a t
  reply_whole = reply_same tb (with_regs st g) st few (whole_low st g long) a t

  module _ (low : a < 16) (four : length (get_or g a []) ≡ 4) (within : pos st a < 32) where
    around_step : around (accepted tb (with_regs st g) a t) own
        ≡ with_sent (set (set st 0 t) (pos_place a) (moved st g long a low four tb t).pos) a (row tb a (pos st a)) (self st g long a low four)
    around_step =
        let w = with_regs st g in
        let q = moved st g long a low four tb t in
        let r = row tb a (pos st a) in
        let s = self st g long a low four in
        let n = length-set w 0 t ∙ whole_length st g long in
        ap (λ (l : List ℕ). around l own) (accepted_moved st g long a low four tb t)
        ∙ around_sent (with_agent (set w 0 t) a q) own (with_agent_length (set w 0 t) own n own_length a low q) own_length a low r s within
        ∙ ap (λ (l : List ℕ). with_sent l a r s)
        (around_agent (set w 0 t) own n own_length a low q (moved_four st g long a low four tb t)
        ∙ ap (λ (l : List ℕ). set l (pos_place a) q.pos)
        (around_set w own 0 t (omega (arith, whole_length st g long)) own_length (omega (arith, whole_length st g long)) (λ d. omega arith)
        ∙ ap (λ (l : List ℕ). set l 0 t)
        (around_around st (listed (register g) 64) own (omega arith) (listed_length (register g) 64) own_length ∙ around_own st (omega arith))))

    -- what is made on the way, where the agent's registers are o: the row r, the agent q after it, the words ws
    act_made : (o : List ℕ) → get_or g a [] ≡ o → (r : Row) (q : Agent) (ws : List ℕ) → r ≡ row tb a (pos st a)
        → q ≡ after r (best tb (pool st) r) (record { pos = pos st a; regs = o })
        → ws ≡ with_sent (set (set st 0 t) (pos_place a) q.pos) a r (record { pos = pos st a; regs = o }) → acted q ws ≡ act_into tb st g a t
    unfolding act_into
    act_made o k r q ws er eq ew =
        let s = self st g long a low four in
        let fq : q ≡ moved st g long a low four tb t =
        eq ∙ ap₂ (λ (x : Row) (l : List ℕ). after x (best tb (pool st) x) (record { pos = pos st a; regs = l })) er (sym k) in
        let fw : ws ≡ with_sent (set (set st 0 t) (pos_place a) (moved st g long a low four tb t).pos) a (row tb a (pos st a)) s =
        ew
        ∙ ap₂ (λ (x : Row) (y : Agent). with_sent (set (set st 0 t) (pos_place a) y.pos) a x (record { pos = pos st a; regs = o })) er fq
        ∙ ap (λ (l : List ℕ). with_sent (set (set st 0 t) (pos_place a) (moved st g long a low four tb t).pos) a (row tb a (pos st a)) (record { pos = pos st a; regs = l })) (sym k) in
        ap₂ acted (fq ∙ sym (self_after st g long a low four tb t)) (fw ∙ sym around_step)

    -- the same, where the position was read as p
    pub act_read : (p : ℕ) → p ≡ pos st a → (o : List ℕ) → get_or g a [] ≡ o → (r : Row) (q : Agent) (ws : List ℕ) → r ≡ row tb a p
        → q ≡ after r (best tb (pool st) r) (record { pos = p; regs = o })
        → ws ≡ with_sent (set (set st 0 t) (pos_place a) q.pos) a r (record { pos = p; regs = o }) → acted q ws ≡ act_into tb st g a t
    act_read p ep o k r q ws er eq ew = act_made o k r q ws (rw ep at er) (rw ep at eq) (rw ep at ew)
