-- 002's Inv and MsgInv, of every behaviour from the start.
use mathlib.Core.Path.{◌≡◌, refl, ap, sym, subst, subst₂, ◌∙◌}
use mathlib.Core.Bool.{false}
use mathlib.Core.Option.{some, none-ne-some}
use mathlib.Core.Logic.{◌⊎◌, inl, inr, ⊎_elim, ite}
use Prim.Native.Nat.{ℕ, ◌≤◌, ◌<◌}
use native.Mathlib.Decide.{ℕ_discrete}
use native.Mathlib.Omega.{arith}
use Rattle.pharos.specs.Published.{Instruction, local, send, receive, Types, instr_of, SystemState, exec, executes, Assumptions, Init, Behaviour, no_steps, append}
use Rattle.pharos.specs.Histories.{◌∈◌, value_sent, history, earlier, project, Raises, DeadlinesMet, ToSend, Expired}
use Rattle.pharos.specs.Theorems.{Invariant, MessageInvariant}
use Rattle.pharos.proofs.Functional.{except_at}
use Rattle.pharos.proofs.Instance.{Sent, send_ins, sends, pool}
use Rattle.pharos.proofs.GoodStates.{init_meets_deadlines, executes_meets_deadlines}

module _ (T : Types) where
  open T use {State, ended, place}

  -- ---- Inv

  met : {g h : SystemState T} → Assumptions T → Init T g → Behaviour T g h → DeadlinesMet T h
  met {g} ok i no_steps = init_meets_deadlines T ok g i
  met ok i (append r e) = executes_meets_deadlines T ok e

  no_later : {g h : SystemState T} (r : Behaviour T g h) (s : SystemState T) → s ∈ history T r → s.t ≤ h.t
  no_later no_steps s (inl p) = omega (arith, ap (λ (s : SystemState T). s.t) p)
  no_later {g = g} no_steps s (inr q) = elim q [ ]
  no_later (append r e) s (inl p) = omega (arith, ap (λ (s : SystemState T). s.t) p)
  no_later (append r e) s (inr q) = omega (arith, no_later r s q, e.good.after)

  pub invariant : {g h : SystemState T} → Invariant T g h
  invariant ok i r = record { last = (earlier T r, refl); no_later = no_later r; deadlines = met ok i r }

  -- ---- MsgInv

  -- A step is agent b's own, or leaves its state and what it has sent as they were.
  by_executes : {a : ℕ} {h f : SystemState T} → executes T a h f → (b : ℕ) (Q : State → Sent → Type 0)
      → (executes T b h f → Q (f.st b) (sends T b (h.st b) (h.msgs b))) → Q (h.st b) (h.msgs b) → Q (f.st b) (f.msgs b)
  by_executes {a} {h} {f} e b Q mine other =
      go (ℕ_discrete a b) (ap (λ x. x b) e.st) (ap (λ x. x b) (e.msgs ∙ pool T a (h.st a) h.msgs e.got))
    where
      go : (d : Dec (a ≡ b)) → f.st b ≡ ite d (exec T a (h.st a) h.msgs e.got).0 (h.st b)
          → f.msgs b ≡ ite d (sends T a (h.st a) (h.msgs a)) (h.msgs b) → Q (f.st b) (f.msgs b)
      go (yes p) s m = subst (Q (f.st b)) (sym (m ∙ ap (λ c. sends T c (h.st c) (h.msgs c)) p)) (mine (subst (λ c. executes T c h f) p e))
      go (no _) s m = subst₂ Q (sym s) (sym m) other

  -- What an agent has sent after an instruction was sent before, or the instruction sends it;
  whence : (ins : Instruction State) (u : State) (x : Sent) (i v : ℕ) → send_ins T u x ins i ≡ some v
      → (x i ≡ some v) ⊎ ((place u ≡ i) × (value_sent ins u ≡ some v))
  whence (local upd) u x i v m = inl m
  whence (send msg value upd) u x i v m = go (ℕ_discrete (place u) i) m
    where
      go : (d : Dec (place u ≡ i)) → ite d (some (value u)) (x i) ≡ some v → (x i ≡ some v) ⊎ ((place u ≡ i) × (some (value u) ≡ some v))
      go (yes p) m = inr (p, m)
      go (no _) m = inl m
  whence (receive msg bupd) u x i v m = inl m

  -- what the instruction sends is there;
  puts : (ins : Instruction State) (u : State) (x : Sent) (v : ℕ) → value_sent ins u ≡ some v → send_ins T u x ins (place u) ≡ some v
  puts (local upd) u x v m = absurd (none-ne-some v m)
  puts (send msg value upd) u x v m = except_at x (place u) (some (value u)) ∙ m
  puts (receive msg bupd) u x v m = absurd (none-ne-some v m)

  -- and what was sent before is there, or another value of the same row.
  remains : (ins : Instruction State) (u : State) (x : Sent) (i w : ℕ) → x i ≡ some w
      → (w' : ℕ) × (send_ins T u x ins i ≡ some w') × ((place u ≡ i) ⊎ (w' ≡ w))
  remains (local upd) u x i w m = (w, m, inr refl)
  remains (send msg value upd) u x i w m = go (ℕ_discrete (place u) i)
    where
      go : (d : Dec (place u ≡ i)) → (w' : ℕ) × (ite d (some (value u)) (x i) ≡ some w') × ((place u ≡ i) ⊎ (w' ≡ w))
      go (yes p) = (value u, refl, inl p)
      go (no _) = (w, m, inr refl)
  remains (receive msg bupd) u x i w m = (w, m, inr refl)

  -- expired ⊆ messages: an instruction of the history is the one that is pending, or it has been executed.
  module _ (b v : ℕ) (s : State) (sending : value_sent (instr_of T b s).ins s ≡ some v) where
    abbrev Executed : State → Sent → Type 0
    Executed u x = (w : ℕ) × (x (place s) ≡ some w) × (Raises T → (place s < place u) × (w ≡ v))

    next : {h f : SystemState T} → executes T b h f → (s ≡ h.st b) ⊎ Executed (h.st b) (h.msgs b) → Executed (f.st b) (sends T b (h.st b) (h.msgs b))
    next {h} {f} e (inl p) = (
      v,
      ap (λ u. sends T b (h.st b) (h.msgs b) (place u)) p ∙ puts (instr_of T b (h.st b)).ins (h.st b) (h.msgs b) v (subst (λ u. value_sent (instr_of T b u).ins u ≡ some v) p sending),
      λ raises. (omega (arith, raises b h f e, ap place p), refl),
    )
    next {h} {f} e (inr (w, m, once)) =
        let (w', m', same) = remains (instr_of T b (h.st b)).ins (h.st b) (h.msgs b) (place s) w m in
        (w', m', λ raises. let (l, k) = once raises in (omega (arith, raises b h f e), ⊎_elim (λ p. absurd (omega arith)) (λ p. p ∙ k) same))

    done : {g h : SystemState T} (r : Behaviour T g h) → s ∈ project T (history T r) b → (s ≡ h.st b) ⊎ Executed (h.st b) (h.msgs b)
    done no_steps (inl p) = inl p
    done {g = g} no_steps (inr q) = elim q [ ]
    done (append r e) (inl p) = inl p
    done (append {h} r e) (inr q) =
        by_executes e b (λ u x. (s ≡ u) ⊎ Executed u x) (λ mine. inr (next mine (done r q))) (done r q)

  expired : {g h : SystemState T} → DeadlinesMet T h → (r : Behaviour T g h) (b i v : ℕ) → Expired T r b i v
      → (w : ℕ) × (h.msgs b i ≡ some w) × (Raises T → w ≡ v)
  expired {h = h} deadlines r b i v x =
      let m = x.to_send in
      ⊎_elim
      (λ p. absurd (omega (arith, x.passed, deadlines b m.agent (subst (λ u. ended b u ≡ false) p m.live), ap (λ j. (Types.instr_at T b j).late) (sym (ap place p) ∙ m.row))))
      (λ (w, there, once). (w, ap (h.msgs b) (sym m.row) ∙ there, λ raises. (once raises).1))
      (done b v m.state m.sends r m.was)

  -- messages ⊆ toSend
  later : {g h f : SystemState T} {a b i v : ℕ} (r : Behaviour T g h) (e : executes T a h f) → ToSend T r b i v → ToSend T (append r e) b i v
  later r e m = record { agent = m.agent; state = m.state; was = inr m.was; live = m.live; row = m.row; sends = m.sends }

  sent : {g h : SystemState T} → Init T g → (r : Behaviour T g h) (b i v : ℕ) → h.msgs b i ≡ some v → ToSend T r b i v
  sent init no_steps b i v = λ m. absurd (none-ne-some v (sym (init.msgs b i) ∙ m))
  sent init (append {h} r e) b i v =
      by_executes e b (λ _ x. x i ≡ some v → ToSend T (append r e) b i v)
      (λ mine m. ⊎_elim (λ m. later r e (sent init r b i v m))
      (λ (p, q). record { agent = mine.real; state = h.st b; was = inr (inl refl); live = mine.live; row = p; sends = q })
      (whence (instr_of T b (h.st b)).ins (h.st b) (h.msgs b) i v m))
      (λ m. later r e (sent init r b i v m))

  pub message_invariant : {g h : SystemState T} → MessageInvariant T g h
  message_invariant ok init r = record { sent = sent init r; expired = expired (met ok init r) r }
