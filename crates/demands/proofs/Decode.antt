-- What the decoded state reads of the words, and that it determines them. Assumes nothing.
use mathlib.Core.Path.{◌≡◌, refl, sym, ap, ◌∙◌}
use mathlib.Core.Logic.{◌≢◌, ◌⊎◌, inl, inr, by_cases}
use mathlib.Core.Bool.{Bool, true, false, ◌&&◌, cond}
use mathlib.Core.Option.{none, some, none-ne-some, some-injective}
use mathlib.Core.List.{List}
use Prim.Native.Nat.{ℕ, ◌+◌, ◌-◌, ◌/◌, ◌%◌, ◌<◌, ◌≤◌}
use native.Mathlib.Decide.{dec_lt, ℕ_discrete}
use native.Mathlib.Omega.{arith}
use lib.Dec.{ltb}
use lib.ListN.{length, get_or, drop, length-drop}
use lib.Seq.{ext_get_or, get_or-drop}
use borrow.Author.Tests.{lt-ltb, le-ltb, ltb-true, ne_eqb}
use Rattle.tables.specs.Layout.{agents}
use Rattle.tables.proofs.Passed.{and_1, and_2}
use Rattle.choices.specs.declared.Agent.{Agent}
use Rattle.choices.specs.State.{mark, value, agent_at, pos_place, reg_place, mark_place, value_place}
use Rattle.choices.proofs.Lists.{get_d_part}
use Rattle.executive.proofs.Fitting.{Fits, Unsent, Sent, any_message}
use Rattle.demands.specs.Instance.{start_of, agent_held, row_held, state_of, sent_of}

-- ---- reads

-- what the words hold
pub held : (b : ℕ) → b < 16 → agent_held b ≡ true
unfolding agent_held
held b h = lt-ltb b _ (omega arith)

pub unheld : (b : ℕ) → 16 ≤ b → agent_held b ≡ false
unfolding agent_held
unheld b h = le-ltb b _ (omega arith)

row_held_lem : (b i : ℕ) → b < 16 → i < 32 → row_held b i ≡ true
unfolding row_held
row_held_lem b i h l = rw (lt-ltb b 16 h, lt-ltb i 32 l)

held_row : (b i : ℕ) → row_held b i ≡ true → (b < 16) × (i < 32)
unfolding row_held
held_row b i e = (ltb-true b 16 (and_1 (ltb b 16) (ltb i 32) e), ltb-true i 32 (and_2 (ltb b 16) (ltb i 32) e))

pub state_low : (tb st : List ℕ) (b : ℕ) → b < 16 → state_of tb st b ≡ agent_at st b
unfolding state_of
state_low tb st b h = rw (held b h)

pub state_high : (tb st : List ℕ) (b : ℕ) → 16 ≤ b → state_of tb st b ≡ start_of tb b
unfolding state_of
state_high tb st b h = rw (unheld b h)

module _ (st : List ℕ) (b i : ℕ) where
  -- a place that the words do not hold
  sent_nowhere : row_held b i ≡ false → sent_of st b i ≡ none
  unfolding sent_of
  sent_nowhere e = rw e

  -- one that they do, by its mark
  pub sent_none : b < 16 → i < 32 → mark st b i ≡ 0 → sent_of st b i ≡ none
  unfolding sent_of
  sent_none h l e = rw (row_held_lem b i h l, e)

  pub sent_some : b < 16 → i < 32 → mark st b i ≡ 1 → sent_of st b i ≡ some (value st b i)
  unfolding sent_of
  sent_some h l e = rw (row_held_lem b i h l, e)

  pub sent_unmarked : mark st b i ≢ 1 → sent_of st b i ≡ none
  unfolding sent_of
  sent_unmarked n = rw (ne_eqb (mark st b i) 1 n) (go (row_held b i))
    where
      go : (v : Bool) → cond (v && false) (some (value st b i)) none ≡ none
      go true = refl
      go false = refl

  -- a message of the pool
  pub record Message (v : ℕ) : Type 0 where
    pub agent : b < 16
    pub row : i < 32
    pub marked : mark st b i ≡ 1
    pub told : value st b i ≡ v

  pub present : {v : ℕ} → sent_of st b i ≡ some v → Message v
  present {v} p = go (row_held b i) refl (ℕ_discrete (mark st b i) 1)
    where
      go : (w : Bool) → row_held b i ≡ w → Dec (mark st b i ≡ 1) → Message v
      go false e d = absurd (none-ne-some _ (sym (sent_nowhere e) ∙ p))
      go true e (no n) = absurd (none-ne-some _ (sym (sent_unmarked n) ∙ p))
      go true e (yes m) =
          let (h, l) = held_row b i e in
          record { agent = h; row = l; marked = m; told = some-injective _ _ (sym (sent_some h l m) ∙ p) }

-- where the mark and the value are the same, if the words hold them, so is the message
pub sent_same : (st other : List ℕ) (b i : ℕ) → (b < 16 → i < 32 → (mark st b i ≡ mark other b i) × (value st b i ≡ value other b i))
    → sent_of st b i ≡ sent_of other b i
unfolding sent_of
sent_same st other b i alike = go (row_held b i) refl
  where
    go : (v : Bool) → row_held b i ≡ v → sent_of st b i ≡ sent_of other b i
    go true e = let (h, l) = held_row b i e in let (m, v) = alike h l in rw (m, v)
    go false e = sent_nowhere st b i e ∙ sym (sent_nowhere other b i e)

-- ---- the same decoded, the same words

module _ (tb st other : List ℕ) (f : Fits tb st) (g : Fits tb other) (long : length st ≡ 1105) (long' : length other ≡ 1105)
    (states : state_of tb st ≡ state_of tb other) (messages : sent_of st ≡ sent_of other) where
  same_agent : (b : ℕ) → b < 16 → agent_at st b ≡ agent_at other b
  same_agent b h = sym (state_low tb st b h) ∙ ap (λ s. s b) states ∙ state_low tb other b h

  -- the mark and the value at one place
  abbrev Alike : ℕ → ℕ → Type 0
  Alike b i = (mark st b i ≡ mark other b i) × (value st b i ≡ value other b i)

  same_message : (b i : ℕ) → b < 16 → i < 32 → Alike b i
  same_message b i h l = go (any_message tb st f b i h l) (any_message tb other g b i h l)
    where
      same : sent_of st b i ≡ sent_of other b i
      same = ap (λ m. m b i) messages

      go : Unsent tb st b i ⊎ ((b < agents tb) × Sent tb st b i) → Unsent tb other b i ⊎ ((b < agents tb) × Sent tb other b i) → Alike b i
      go (inl u) (inl w) = (u.0 ∙ sym w.0, u.1 ∙ sym w.1)
      go (inl u) (inr w) = absurd (none-ne-some _ (sym (sent_none st b i h l u.0) ∙ same ∙ sent_some other b i h l w.1.0))
      go (inr u) (inl w) = absurd (none-ne-some _ (sym (sent_none other b i h l w.0) ∙ sym same ∙ sent_some st b i h l u.1.0))
      go (inr u) (inr w) = (
        u.1.0 ∙ sym w.1.0,
        some-injective _ _ (sym (sent_some st b i h l u.1.0) ∙ same ∙ sent_some other b i h l w.1.0),
      )

  -- a word by its place: position, register, mark, value
  same_word : (k : ℕ) → 0 < k → k < 1105 → get_or st k 0 ≡ get_or other k 0
  same_word k p h = by_cases (dec_lt k 17) position (λ n. by_cases (dec_lt k 81) (register n) (λ n. by_cases (dec_lt k 593) (marked n) (valued)))
    where
      at : (j : ℕ) → j ≡ k → get_or st j 0 ≡ get_or other j 0 → get_or st k 0 ≡ get_or other k 0
      at j e q = rw e at q

      position : k < 17 → get_or st k 0 ≡ get_or other k 0
      position l = at (pos_place (k - 1)) (omega arith) (ap (λ (s : Agent). s.pos) (same_agent (k - 1) (omega arith)))

      register : (k < 17 → ⊥) → k < 81 → get_or st k 0 ≡ get_or other k 0
      register n l =
          let b = (k - 17) / 4 in
          let i = (k - 17) % 4 in
          at (reg_place b + i) (omega arith)
          (sym (get_d_part st 4 (reg_place b) i (omega arith))
          ∙ ap (λ (s : Agent). get_or s.regs i 0) (same_agent b (omega arith))
          ∙ get_d_part other 4 (reg_place b) i (omega arith))

      marked : (k < 81 → ⊥) → k < 593 → get_or st k 0 ≡ get_or other k 0
      marked n l =
          let b = (k - 81) / 32 in
          let i = (k - 81) % 32 in
          at (mark_place b i) (omega arith) (same_message b i (omega arith) (omega arith)).0

      valued : (k < 593 → ⊥) → get_or st k 0 ≡ get_or other k 0
      valued n =
          let b = (k - 593) / 32 in
          let i = (k - 593) % 32 in
          at (value_place b i) (omega arith) (same_message b i (omega arith) (omega arith)).1

  -- all but the clock
  pub same_past_clock : drop 1 st ≡ drop 1 other
  same_past_clock =
      ext_get_or 0 (drop 1 st) (drop 1 other) (simp length-drop (rw (long, long'))) (λ i h.
      get_or-drop 1 st i 0 ∙ same_word (1 + i) (omega arith) (omega (arith, length-drop 1 st)) ∙ sym (get_or-drop 1 other i 0))

  pub same_words : get_or st 0 0 ≡ get_or other 0 0 → st ≡ other
  same_words e = ext_get_or 0 st other (long ∙ sym long') (λ i h. by_place i h (ℕ_discrete i 0))
    where
      by_place : (i : ℕ) → i < length st → Dec (i ≡ 0) → get_or st i 0 ≡ get_or other i 0
      by_place i h (yes z) = rw z e
      by_place i h (no n) = same_word i (omega arith) (omega arith)
