-- A receive always gets something, or nothing: among finitely many places one goes before all the others.
use mathlib.Core.Path.{◌≡◌, refl, ap, sym, subst, subst₂, ◌∙◌}
use mathlib.Core.Bool.{Bool, true, false, true≢false}
use mathlib.Core.Option.{Option, none, some, none-ne-some, some-injective}
use mathlib.Core.Logic.{◌⊎◌, inl, inr, ⊎_elim, by_cases}
use Prim.Native.Nat.{ℕ, zero, suc, ◌≤◌, ◌<◌}
use native.Mathlib.Nat.{eq-or-lt_of_le, le_of_suc-le-suc}
use native.Mathlib.Decide.{ℕ_discrete}
use native.Mathlib.Omega.{arith}
use Rattle.pharos.specs.Published.{msg_sent, msg_awaited, Messages, Dated, Types, CanReceive, Before, later, lower, higher, nothing, found}
use Rattle.pharos.specs.Theorems.{Receives}
use Rattle.pharos.proofs.Functional.{before_total}

module _ (T : Types) where
  pub before_trans : {b i c j d k : ℕ} → Before T b i c j → Before T c j d k → Before T b i d k
  before_trans (later l) (later m) = later (omega arith)
  before_trans (later l) (lower f m) = later (omega arith)
  before_trans (later l) (higher f q m) = later (omega arith)
  before_trans (lower e l) (later m) = later (omega arith)
  before_trans (lower e l) (lower f m) = lower (omega arith) (omega arith)
  before_trans (lower e l) (higher f q m) = lower (omega arith) (omega arith)
  before_trans (higher e p l) (later m) = later (omega arith)
  before_trans (higher e p l) (lower f m) = lower (omega arith) (omega arith)
  before_trans (higher e p l) (higher f q m) = higher (omega arith) (omega arith) (omega arith)

  pub not_before_itself : {b i c j : ℕ} → b ≡ c → i ≡ j → Before T b i c j → ⊥
  not_before_itself {b} {i} {c} {j} p q (later l) = let same : (Types.instr_at T b i).late ≡ (Types.instr_at T c j).late = cc in omega arith
  not_before_itself p q (lower e l) = omega arith
  not_before_itself p q (higher e r l) = omega arith

module _ (T : Types) (msgs : Messages) (di : Dated (Types.State T)) where
  open T use {agents, rows, instr_at, visible}

  abbrev Can : ℕ → ℕ → ℕ → Type 0
  Can b i v = CanReceive T msgs di b i v

  -- Of the places of a region: nothing can be received, or one goes before all the others.
  abbrev Best : (ℕ → ℕ → Type 0) → Type 0
  Best G = ((b i v : ℕ) → G b i → Can b i v → ⊥)
      ⊎ ((b : ℕ) × (i : ℕ) × (v : ℕ) × Can b i v × ((c j w : ℕ) → G c j → Can c j w → Before T c j b i → ⊥))

  -- Two regions together.
  join : {G H K : ℕ → ℕ → Type 0} → ((b i : ℕ) → K b i → G b i ⊎ H b i) → Best G → Best H → Best K
  join split (inl p) (inl q) = inl (λ b i v k m. ⊎_elim (λ g. p b i v g m) (λ h. q b i v h m) (split b i k))
  join split (inl p) (inr (c, j, w, n, top)) =
      inr (c, j, w, n, λ d l x k m. ⊎_elim (λ g _. p d l x g m) (λ h. top d l x h m) (split d l k))
  join split (inr (b, i, v, m, top)) (inl q) =
      inr (b, i, v, m, λ d l x k n. ⊎_elim (λ g. top d l x g n) (λ h _. q d l x h n) (split d l k))
  join split (inr (b, i, v, m, top)) (inr (c, j, w, n, top')) =
      ⊎_elim (λ first. inr (b, i, v, m, λ d l x k o. ⊎_elim (λ g. top d l x g o) (λ h z. top' d l x h o (before_trans T z first)) (split d l k)))
      (⊎_elim (λ second. inr (c, j, w, n, λ d l x k o. ⊎_elim (λ g z. top d l x g o (before_trans T z second)) (λ h. top' d l x h o) (split d l k)))
      (λ (p, q). inr (b, i, v, m, λ d l x k o. ⊎_elim (λ g. top d l x g o) (λ h z. top' d l x h o (subst₂ (λ e f. Before T d l e f) p q z)) (split d l k))))
      (before_total b i c j)

  abbrev Here : ℕ → ℕ → ℕ → ℕ → Type 0
  Here b i c j = (b ≡ c) × (i ≡ j)

  -- Whether the message of a place can be received.
  ask : (b i : ℕ) → b < agents → i < rows b → ((v : ℕ) × Can b i v) ⊎ ((v : ℕ) → Can b i v → ⊥)
  ask b i real row = go (msgs b i) refl (msg_sent (instr_at b i).ins) refl (msg_awaited di.ins) refl (visible (instr_at b i) di) refl
    where
      go : (o : Option ℕ) → msgs b i ≡ o → (x : Option ℕ) → msg_sent (instr_at b i).ins ≡ x → (y : Option ℕ) → msg_awaited di.ins ≡ y
          → (z : Bool) → visible (instr_at b i) di ≡ z → ((v : ℕ) × Can b i v) ⊎ ((v : ℕ) → Can b i v → ⊥)
      go none p x q y r z s = inr (λ v m. none-ne-some v (sym p ∙ m.present))
      go (some v) p none q y r z s = inr (λ _ m. none-ne-some _ (sym q ∙ m.sent))
      go (some v) p (some k) q none r z s = inr (λ _ m. none-ne-some _ (sym r ∙ m.awaited))
      go (some v) p (some k) q (some l) r false s = inr (λ _ m. true≢false (sym m.seen ∙ s))
      go (some v) p (some k) q (some l) r true s = by_cases (ℕ_discrete k l)
          (λ e. inl (v, record { agent = real; row = row; present = p; number = k; sent = q; awaited = r ∙ ap some (sym e); seen = s }))
          (λ n. inr (λ _ m. n (some-injective k l (sym q ∙ m.sent ∙ sym m.awaited ∙ r))))

  -- One place; the rows of one agent; the agents.
  one : (b i : ℕ) → b < agents → i < rows b → Best (Here b i)
  one b i real row =
      ⊎_elim (λ (v, m). inr (b, i, v, m, λ c j w (p, q) _. not_before_itself T (sym p) (sym q)))
      (λ never. inl (λ c j v (p, q) m. never v (subst₂ (λ c j. Can c j v) (sym p) (sym q) m)))
      (ask b i real row)

  up_to : (b n : ℕ) → b < agents → n ≤ rows b → Best (λ c j. (b ≡ c) × (j < n))
  up_to b zero real l = inl (λ c j v (_, k) m. omega arith)
  up_to b (suc n) real l =
      join (λ c j (p, k). ⊎_elim (λ e. inr (p, sym e)) (λ k. inl (p, k)) (eq-or-lt_of_le (le_of_suc-le-suc k)))
      (up_to b n real (omega arith)) (one b n real (omega arith))

  all_up_to : (n : ℕ) → n ≤ agents → Best (λ c j. (c < n) × (j < rows c))
  all_up_to zero l = inl (λ c j v (k, _) m. omega arith)
  all_up_to (suc n) l =
      join (λ c j (k, h). ⊎_elim (λ e. inr (sym e, subst (λ c. j < rows c) e h)) (λ k. inl (k, h)) (eq-or-lt_of_le (le_of_suc-le-suc k)))
      (all_up_to n (omega arith)) (up_to n (rows n) (omega arith) (omega arith))

  pub receives : Receives T msgs di
  receives = go (all_up_to agents (omega arith))
    where
      go : Best (λ c j. (c < agents) × (j < rows c)) → Receives T msgs di
      go (inl no_one) = (none, nothing (λ b i v m. no_one b i v (m.agent, m.row) m))
      go (inr (b, i, v, m, top)) = (some v, found m (λ c j w n. top c j w (n.agent, n.row) n))
