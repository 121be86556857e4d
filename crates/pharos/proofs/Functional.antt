-- What a receive gets, and what a step leaves, is settled by the state before it and the time.
use mathlib.Core.Path.{◌≡◌, refl, ap, ap₂, sym, ◌∙◌, fun_ext}
use mathlib.Core.Option.{Option}
use mathlib.Core.Logic.{◌⊎◌, inl, inr, ⊎_elim, by_cases, if_pos}
use Prim.Native.Nat.{ℕ, ◌<◌}
use native.Mathlib.Decide.{dec_lt, ℕ_discrete}
use native.Mathlib.Omega.{arith}
use Rattle.pharos.specs.Published.{Instruction, local, send, receive, Messages, Dated, Types, instr_of, except, SystemState, CanReceive, Before, later, lower, higher, Received, nothing, found, exec_ins, exec}
use Rattle.pharos.specs.Theorems.{ReceivedOnce, InitOnce, ExecutesOnce, OwnStep}

less_or_more : {C : Type 0} (m n : ℕ) → (m < n → C) → (n < m → C) → (m ≡ n → C) → C
less_or_more m n less more same = by_cases (dec_lt m n) less (λ p. by_cases (dec_lt n m) more (λ q. same (omega arith)))

-- [f EXCEPT ![a] = x][a]
pub except_at : {A : Type 0} (f : ℕ → A) (a : ℕ) (x : A) → except f a x a ≡ x
except_at f a x = if_pos (ℕ_discrete a a) refl x (f a)

module _ (T : Types) where
  -- The state after an instruction goes by what is got, not by the pool.
  pub exec_state : (a : ℕ) (s : Types.State T) (msgs msgs' : Messages) (got : Option ℕ) → (exec T a s msgs got).0 ≡ (exec T a s msgs' got).0
  exec_state a s msgs msgs' got = go (instr_of T a s).ins
    where
      go : (ins : Instruction (Types.State T)) → (exec_ins T a s msgs got ins).0 ≡ (exec_ins T a s msgs' got ins).0
      go (local upd) = refl
      go (send msg value upd) = refl
      go (receive msg bupd) = refl

  -- The system state that agent a leaves at time t, if it gets `got`.
  abbrev pub left : SystemState T → ℕ → Option ℕ → ℕ → SystemState T
  left g a got t =
      let after : Types.State T × Messages = exec T a (g.st a) g.msgs got in
      record { st = except g.st a after.0; msgs = after.1; t = t }

module _ {T : Types} where
  open T use {State, instr_at}

  -- Of two places one goes before the other, or they are one place.
  pub before_total : (b i c j : ℕ) → Before T b i c j ⊎ Before T c j b i ⊎ ((b ≡ c) × (i ≡ j))
  before_total b i c j =
      less_or_more (instr_at b i).late (instr_at c j).late (λ l. inr (inl (later l))) (λ l. inl (later l))
      (λ e. less_or_more b c (λ l. inl (lower (sym e) (omega arith))) (λ l. inr (inl (lower e (omega arith))))
      (λ same. less_or_more i j (λ l. inr (inl (higher e (sym same) (omega arith)))) (λ l. inl (higher (sym e) same (omega arith)))
      (λ p. inr (inr (same, p)))))

  pub received_once : {msgs : Messages} {di : Dated State} {o p : Option ℕ} → ReceivedOnce T msgs di o p
  received_once (nothing no_one) (nothing no-one') = refl
  received_once (nothing no_one) (found m best) = absurd (no_one _ _ _ m)
  received_once (found m best) (nothing no_one) = absurd (no_one _ _ _ m)
  received_once {msgs} (found {b} {i} {v} m best) (found {b = c} {i = j} {v = w} n best') =
      ⊎_elim (λ x. absurd (best' b i v m x))
      (⊎_elim (λ x. absurd (best c j w n x)) (λ (p, q). sym m.present ∙ ap₂ msgs p q ∙ n.present))
      (before_total b i c j)

  -- Two system states are the same if their parts are.
  pub same_system : {g h : SystemState T} → g.st ≡ h.st → g.msgs ≡ h.msgs → g.t ≡ h.t → g ≡ h
  same_system {g} {h} p q r = λ k. record { st = p k; msgs = q k; t = r k }

  pub init_once : {s s' : SystemState T} → InitOnce T s s'
  init_once i i' = same_system (i.st ∙ sym i'.st) (fun_ext λ b. fun_ext λ k. i.msgs b k ∙ sym (i'.msgs b k)) (i.t ∙ sym i'.t)

  pub executes_once : {a : ℕ} {pre post post' : SystemState T} → ExecutesOnce T a pre post post'
  executes_once {a} {pre} {post} {post'} e e' same-time =
      let same = received_once e.received e'.received in
      let after : Option ℕ → State × Messages = exec T a (pre.st a) pre.msgs in
      same_system (e.st ∙ ap (λ o. except pre.st a (after o).0) same ∙ sym e'.st) (e.msgs ∙ ap (λ o. (after o).1) same ∙ sym e'.msgs) same-time

  -- What a receive gets goes by the messages that it can receive, and by nothing else of the pool.
  pub received_alike : {msgs msgs' : Messages} {di : Dated State} {o : Option ℕ}
      → ((b i v : ℕ) → CanReceive T msgs di b i v → CanReceive T msgs' di b i v)
      → ((b i v : ℕ) → CanReceive T msgs' di b i v → CanReceive T msgs di b i v)
      → Received T msgs di o → Received T msgs' di o
  received_alike to from (nothing no_one) = nothing (λ b i v m. no_one b i v (from b i v m))
  received_alike to from (found m best) = found (to _ _ _ m) (λ c j w n. best c j w (from c j w n))

  pub own_step : {a : ℕ} {pre post pre' post' : SystemState T} → OwnStep T a pre post pre' post'
  own_step {a} {pre} {post} {pre'} {post'} e e' same to from =
      let got_same = received_once (received_alike to from e.received) (rw (← same) at e'.received) in
      ap (λ f. f a) e.st ∙ except_at pre.st a _
      ∙ exec_state T a (pre.st a) pre.msgs pre'.msgs e.got
      ∙ ap₂ (λ s o. (exec T a s pre'.msgs o).0) same got_same
      ∙ sym (ap (λ f. f a) e'.st ∙ except_at pre'.st a _)
