-- The message that is taken is visible, and no visible message goes before it; there is none exactly where nothing is visible. Assumes nothing.
use mathlib.Core.Path.{◌≡◌, refl, sym, subst, ◌∙◌}
use mathlib.Core.Logic.{◌↔◌, ◌⊎◌, inl, inr}
use mathlib.Core.Bool.{Bool, true, false, ◌&&◌, cond, false≢true}
use mathlib.Core.List.{List}
use Prim.Native.Nat.{ℕ, zero, suc, ◌+◌, ◌*◌, ◌-◌, ◌<◌, ◌≤◌}
use native.Mathlib.Decide.{dec_lt, ℕ_discrete}
use native.Mathlib.Omega.{arith}
use borrow.Author.Tests.{lt-ltb, le-ltb, eq-eqb, ne_eqb}
use Rattle.tables.specs.Layout.{agents, row}
use Rattle.tables.specs.declared.Row.{Row}
use Rattle.choices.specs.State.{Pool}
use Rattle.choices.specs.Messages.{message_at, visible, beats, look, look_rows, look_agents, best}
use Rattle.std.specs.Prelude.{Option, None, Some}
use Rattle.choices.specs.declared.Message.{Message}
use Rattle.executive.specs.Laws.{Visible, GoesBefore, NoneVisible, Taken}

-- the order in one number: a greater late, then a lower agent, then a higher row
abbrev rank : (l b i : ℕ) → ℕ
rank l b i = l * 512 + (15 - b) * 32 + i

module _ (l b i : ℕ) (g : Message) where
  abbrev Wins : Type 0
  Wins = (beats l b i (Some g) ≡ true) × (rank g.late g.agent g.row ≤ rank l b i)

  abbrev Loses : Type 0
  Loses = (beats l b i (Some g) ≡ false) × (rank l b i ≤ rank g.late g.agent g.row)

  compared : b < 16 → i < 32 → g.agent < 16 → g.row < 32 → Wins ⊎ Loses
  unfolding beats
  compared hb hi ha hr = go (dec_lt g.late l) (ℕ_discrete l g.late) (dec_lt b g.agent) (ℕ_discrete b g.agent) (dec_lt g.row i)
    where
      go : Dec (g.late < l) → Dec (l ≡ g.late) → Dec (b < g.agent) → Dec (b ≡ g.agent) → Dec (g.row < i) → Wins ⊎ Loses
      go (yes d) e f q h = inl (rw (lt-ltb g.late l d), omega arith)
      go (no d) (no e) f q h = inr (rw (le-ltb g.late l (omega arith), ne_eqb l g.late e), omega arith)
      go (no d) (yes e) (yes f) q h = inl (rw (le-ltb g.late l (omega arith), eq-eqb l g.late e, lt-ltb b g.agent f), omega arith)
      go (no d) (yes e) (no f) (no q) h =
          inr (rw (le-ltb g.late l (omega arith), eq-eqb l g.late e, le-ltb b g.agent (omega arith), ne_eqb b g.agent q), omega arith)
      go (no d) (yes e) (no f) (yes q) (yes h) =
          inl (rw (le-ltb g.late l (omega arith), eq-eqb l g.late e, le-ltb b g.agent (omega arith), eq-eqb b g.agent q, lt-ltb g.row i h), omega arith)
      go (no d) (yes e) (no f) (yes q) (no h) =
          inr (rw (le-ltb g.late l (omega arith), eq-eqb l g.late e, le-ltb b g.agent (omega arith), eq-eqb b g.agent q, le-ltb g.row i (omega arith)), omega arith)

module _ (tb : List ℕ) (p : Pool) (r : Row) where
  abbrev late : ℕ → ℕ → ℕ
  late b i = (row tb b i).late

  -- of the places before place n, in the order of the table, m is the best
  abbrev Top : ℕ → Option Message → Type 0
  Top n None = (c j : ℕ) → j < 32 → 32 * c + j < n → Visible tb p r c j → ⊥
  Top n (Some m) =
      (m.row < 32) × (32 * m.agent + m.row < n) × Visible tb p r m.agent m.row × (m.late ≡ late m.agent m.row) × (m.value ≡ p.value m.agent m.row)
      × ((c j : ℕ) → j < 32 → 32 * c + j < n → Visible tb p r c j → rank (late c j) c j ≤ rank m.late m.agent m.row)

  -- one place more
  module _ (b i : ℕ) (hb : b < 16) (hi : i < 32) where
    -- what holds of the places before this one, and of this one
    upto : (P : ℕ → ℕ → Type 0) → ((c j : ℕ) → j < 32 → 32 * c + j < 32 * b + i → P c j) → P b i → (c j : ℕ) → j < 32 → 32 * c + j < suc (32 * b + i) → P c j
    upto P h k c j hj l = go (dec_lt (32 * c + j) (32 * b + i))
      where
        go : Dec (32 * c + j < 32 * b + i) → P c j
        go (yes d) = h c j hj d
        go (no d) = let e : c ≡ b = omega arith in let f : j ≡ i = omega arith in rw (e, f) k

    abbrev new : Option Message
    new = Some (message_at tb p b i)

    hidden : (m : Option Message) → Top (32 * b + i) m → (Visible tb p r b i → ⊥) → Top (suc (32 * b + i)) m
    hidden None top h = upto (λ c j. Visible tb p r c j → ⊥) top h
    hidden (Some g) top h = (
      top.0,
      omega (arith, top.1),
      top.2,
      top.3,
      top.4,
      upto (λ c j. Visible tb p r c j → rank (late c j) c j ≤ rank g.late g.agent g.row) top.5 (λ u. absurd (h u)),
    )

    against : (g : Message) → Top (32 * b + i) (Some g) → Visible tb p r b i → Wins (late b i) b i g ⊎ Loses (late b i) b i g
        → Top (suc (32 * b + i)) (cond (beats (late b i) b i (Some g)) new (Some g))
    against g top v (inl q) =
        rw q.0 (
          hi,
          omega arith,
          v,
          refl,
          refl,
          upto (λ c j. Visible tb p r c j → rank (late c j) c j ≤ rank (late b i) b i) (λ c j hj d u. let t = top.5 c j hj d u in let n = q.1 in omega arith) (λ u. omega arith),
        )
    against g top v (inr q) =
        rw q.0 (
          top.0,
          omega (arith, top.1),
          top.2,
          top.3,
          top.4,
          upto (λ c j. Visible tb p r c j → rank (late c j) c j ≤ rank g.late g.agent g.row) top.5 (λ u. q.1),
        )

    seen : (m : Option Message) → Top (32 * b + i) m → Visible tb p r b i → Top (suc (32 * b + i)) (cond (beats (late b i) b i m) new m)
    unfolding beats
    seen None top v = (
      hi,
      omega arith,
      v,
      refl,
      refl,
      upto (λ c j. Visible tb p r c j → rank (late c j) c j ≤ rank (late b i) b i) (λ c j hj l u. absurd (top c j hj l u)) (λ u. omega arith),
    )
    seen (Some g) top v = against g top v (compared (late b i) b i g hb hi (omega (arith, top.1)) top.0)

    looked : (m : Option Message) → Top (32 * b + i) m → Top (suc (32 * b + i)) (look tb p r b i m)
    unfolding look
    looked m top = go (visible tb p r b i) refl
      where
        go : (v : Bool) → visible tb p r b i ≡ v → Top (suc (32 * b + i)) (cond (visible tb p r b i && beats (late b i) b i m) new m)
        go true v = rw v (seen m top v)
        go false v = rw v (hidden m top (λ u. false≢true (sym v ∙ u)))

  -- all places
  rows_top : (b n : ℕ) (m : Option Message) → b < 16 → n ≤ 32 → Top (32 * b) m → Top (32 * b + n) (look_rows tb p r b n m)
  unfolding look_rows
  rows_top b zero m hb hn top = let e : 32 * b + 0 ≡ 32 * b = omega arith in rw e top
  rows_top b (suc n) m hb hn top =
      let e : 32 * b + suc n ≡ suc (32 * b + n) = omega arith in
      rw e (looked b n hb (omega arith) (look_rows tb p r b n m) (rows_top b n m hb (omega arith) top))

  agents_top : (n : ℕ) → n ≤ 16 → Top (32 * n) (look_agents tb p r n)
  unfolding look_agents
  agents_top zero hn = λ c j hj l v. omega arith
  agents_top (suc n) hn =
      let e : 32 * suc n ≡ 32 * n + 32 = omega arith in
      rw e (rows_top n 32 (look_agents tb p r n) (omega arith) (omega arith) (agents_top n (omega arith)))

  -- ---- in the words of 01

  module _ (few : agents tb ≤ 16) where
    top_taken : (m : Option Message) → Top (32 * agents tb) m → Taken tb p r m
    top_taken None top = λ c j hc hj. top c j hj (omega arith)
    top_taken (Some g) top =
        (omega (arith, top.0, top.1), top.0, top.2, top.3, top.4, λ c j hc hj u. not_before c j hc hj (top.5 c j hj (omega arith) u))
      where
        not_before : (c j : ℕ) → c < agents tb → j < 32 → rank (late c j) c j ≤ rank g.late g.agent g.row → GoesBefore tb c j g.agent g.row → ⊥
        not_before c j hc hj h (inl w) = omega (arith, top.0, top.1, top.3)
        not_before c j hc hj h (inr q) = tie q.1
          where
            tie : (c < g.agent) ⊎ ((c ≡ g.agent) × (g.row < j)) → ⊥
            tie (inl w) = omega (arith, q.0, top.0, top.1, top.3)
            tie (inr w) = omega (arith, q.0, top.0, top.1, top.3)

    pub best_taken : Taken tb p r (best tb p r)
    unfolding best
    best_taken = top_taken (look_agents tb p r (agents tb)) (agents_top (agents tb) few)

    -- "none": exactly where nothing is visible
    pub best_none : best tb p r ≡ None ↔ NoneVisible tb p r
    best_none = (λ e. subst (Taken tb p r) e best_taken, λ h. go (best tb p r) refl h)
      where
        go : (m : Option Message) → best tb p r ≡ m → NoneVisible tb p r → best tb p r ≡ None
        go None e h = e
        go (Some g) e h = let t = subst (Taken tb p r) e best_taken in absurd (h g.agent g.row t.0 t.1 t.2)
