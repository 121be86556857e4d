-- Every published system that meets the assumptions is an instance of the abstract model, and its steps are the abstract steps.
use mathlib.Core.Path.{◌≡◌, refl, ap, sym, ◌∙◌, fun_ext}
use mathlib.Core.Bool.{Bool, true, false, cond, true≢false}
use mathlib.Core.Option.{Option, none, some}
use mathlib.Core.Logic.{ite}
use Prim.Native.Nat.{ℕ, ◌≤◌}
use native.Mathlib.Decide.{ℕ_discrete}
use native.Mathlib.Omega.{arith}
use Rattle.pharos.specs.Published.{Instruction, local, send, receive, Messages, except, Types, instr_of, SystemState, CanReceive, Received, exec_ins, exec, executes, Assumptions}
use Rattle.pharos.proofs.Functional.{received_once, received_alike, exec_state, same_system, left}
use Rattle.pharos.proofs.Search.{receives}
use Rattle.pharos.specs.Model.{Model, Agent, System, Good, step, stepped}

-- What an agent has sent, by row.
abbrev pub Sent : Type 0
Sent = ℕ → Option ℕ

module _ (T : Types) where
  open T use {State, agents, ended, place, instr_at, visible}

  -- What agent a sees, at s, of that which agent b has sent: the messages that are visible to its instruction.
  abbrev pub sight : ℕ → State → ℕ → Sent → Sent
  sight a s b x i = cond (visible (instr_at b i) (instr_of T a s)) (x i) none

  -- What an agent has sent after an instruction: a send adds to it, at its own row.
  abbrev pub send_ins : State → Sent → Instruction State → Sent
  send_ins u x (local upd) = x
  send_ins u x (send msg value upd) = except x (place u) (some (value u))
  send_ins u x (receive msg bupd) = x

  abbrev pub sends : ℕ → State → Sent → Sent
  sends b u x = send_ins u x (instr_of T b u).ins

  -- The pool after a step: the agent's own part has changed, and no other.
  pub pool : (a : ℕ) (s : State) (msgs : Messages) (got : Option ℕ) → (exec T a s msgs got).1 ≡ except msgs a (sends a s (msgs a))
  pool a s msgs got = go (instr_of T a s).ins
    where
      unchanged : msgs ≡ except msgs a (msgs a)
      unchanged = fun_ext λ b. cases b (ℕ_discrete a b)
        where
          cases : (b : ℕ) (d : Dec (a ≡ b)) → msgs b ≡ ite d (msgs a) (msgs b)
          cases b (yes e) = ap msgs (sym e)
          cases b (no _) = refl

      go : (ins : Instruction State) → (exec_ins T a s msgs got ins).1 ≡ except msgs a (send_ins s (msgs a) ins)
      go (local upd) = unchanged
      go (send msg value upd) = refl
      go (receive msg bupd) = unchanged

  -- Where two pools look the same, the same can be received.
  same_sight : (a : ℕ) (s : State) (p q : Messages) → ((b : ℕ) → sight a s b (p b) ≡ sight a s b (q b))
      → (b i v : ℕ) → CanReceive T p (instr_of T a s) b i v → CanReceive T q (instr_of T a s) b i v
  same_sight a s p q alike b i v m = record {
    agent = m.agent;
    row = m.row;
    present = go (visible (instr_at b i) (instr_of T a s)) m.seen (ap (λ x. x i) (alike b));
    number = m.number;
    sent = m.sent;
    awaited = m.awaited;
    seen = m.seen;
  }
    where
      go : (y : Bool) → y ≡ true → cond y (p b i) none ≡ cond y (q b i) none → q b i ≡ some v
      go true e same = sym same ∙ m.present
      go false e same = absurd (true≢false (sym e))

  module _ (ok : Assumptions T) where
    -- The heart of it: a message sent from a window that reaches into mine is not visible to me, so it changes nothing that I see.
    pub unseen : (a : ℕ) (s : State) (b : ℕ) (u : State) (x : Sent) → (instr_of T a s).early ≤ (instr_of T b u).late → sight a s b (sends b u x) ≡ sight a s b x
    unseen a s b u x overlap = fun_ext λ i. go (instr_of T b u).ins i
      where
        at_row : (i : ℕ) (v : Option ℕ) (d : Dec (place u ≡ i)) (y : Bool) → visible (instr_at b i) (instr_of T a s) ≡ y
            → cond y (ite d v (x i)) none ≡ cond y (x i) none
        at_row i v (no _) y e = refl
        at_row i v (yes p) false e = refl
        at_row i v (yes p) true e = absurd (omega (arith, ok.visible_cond _ _ (rw (← p) at e)))

        go : (ins : Instruction State) (i : ℕ) → sight a s b (send_ins u x ins) i ≡ sight a s b x i
        go (local upd) i = refl
        go (send msg value upd) i = at_row i (some (value u)) (ℕ_discrete (place u) i) (visible (instr_at b i) (instr_of T a s)) refl
        go (receive msg bupd) i = refl

  -- What a receive at s gets.
  pub picked : (a : ℕ) → State → Messages → Option ℕ
  picked a s msgs = (receives T msgs (instr_of T a s)).0

  pub picks : (a : ℕ) (s : State) (msgs : Messages) → Received T msgs (instr_of T a s) (picked a s msgs)
  unfolding picked
  picks a s msgs = (receives T msgs (instr_of T a s)).1

  -- The same in sight, the same got.
  pub same_pick : (a : ℕ) (s : State) (p q : Messages) → ((b : ℕ) → sight a s b (p b) ≡ sight a s b (q b)) → picked a s p ≡ picked a s q
  same_pick a s p q alike =
      received_once (received_alike (same_sight a s p q alike) (same_sight a s q p (λ b. sym (alike b))) (picks a s p)) (picks a s q)

module _ (T : Types) (ok : Assumptions T) where
  open T use {State, agents, ended}

  -- The instance, and its three laws.
  abbrev pub model : Model
  model = record {
    State = State;
    Slice = Sent;
    View = Sent;
    agents = agents;
    ended = ended;
    early = λ a s. (instr_of T a s).early;
    late = λ a s. (instr_of T a s).late;
    seen = sight T;
    next = λ a s p. (exec T a s p (picked T a s p)).0;
    post = sends T;
    sees = λ a s _ _ p q alike. exec_state T a s p q (picked T a s p) ∙ ap (λ o. (exec T a s q o).0) (same_pick T a s p q alike);
    forward = λ a s real live p. ok.Update_monotonic a s real live p (picked T a s p);
    keeps = λ a s _ _ b u _ _ x overlap _. unseen T ok a s b u x overlap;
  }

  -- A published system state as the abstract model has it, and back.
  abbrev pub system : SystemState T → System model
  system g = record { clock = g.t; agent = λ b. record { state = g.st b; sent = g.msgs b } }

  abbrev pub system_state : System model → SystemState T
  system_state g = record { st = λ b. (g.agent b).state; msgs = λ b. (g.agent b).sent; t = g.clock }

  -- The system state after agent a's step.
  abbrev moved : SystemState T → ℕ → ℕ → SystemState T
  moved g a t = left T g a (picked T a (g.st a) g.msgs) t

  moved_is_step : (g : SystemState T) (a t : ℕ) → system (moved g a t) ≡ step (system g) a t
  moved_is_step g a t =
      ap (λ m. system (record { st = (moved g a t).st; msgs = m; t = t })) (pool T a (g.st a) g.msgs _)
      ∙ ap (λ f. record { clock = t; agent = f }) (fun_ext λ b. cases b (ℕ_discrete a b))
    where
      after : Agent model
      after = stepped (system g) a

      cases : (b : ℕ) (d : Dec (a ≡ b))
          → record { state = ite d after.state (g.st b); sent = ite d after.sent (g.msgs b) } ≡ ite d (stepped (system g) b) ((system g).agent b)
      cases b (yes e) = ap (stepped (system g)) e
      cases b (no _) = refl

  -- A published step is an abstract step, and the other way round.
  pub executes_is_step : {a : ℕ} {pre post : SystemState T} → executes T a pre post
      → Good (system pre) a post.t × (system post ≡ step (system pre) a post.t)
  executes_is_step {a} {pre} {post} e =
      let same = received_once e.received (picks T a (pre.st a) pre.msgs) in
      let after : Option ℕ → State × Messages = exec T a (pre.st a) pre.msgs in (
        record { real = e.real; live = e.live; after = e.good.after; begun = e.good.begun; fits = e.good.fits },
        ap system (same_system {g = post} {h = moved pre a post.t} (e.st ∙ ap (λ o. except pre.st a (after o).0) same) (e.msgs ∙ ap (λ o. (after o).1) same) refl)
            ∙ moved_is_step pre a post.t,
      )

  pub step_is_executes : {a : ℕ} {pre post : SystemState T} → Good (system pre) a post.t
      → system post ≡ step (system pre) a post.t → executes T a pre post
  step_is_executes {a} {pre} {post} ok e =
      let same : post ≡ moved pre a post.t = ap system_state (e ∙ sym (moved_is_step pre a post.t)) in
      record {
        real = ok.real;
        live = ok.live;
        good = record { after = ok.after; begun = ok.begun; fits = ok.fits };
        got = picked T a (pre.st a) pre.msgs;
        received = picks T a (pre.st a) pre.msgs;
        st = ap (λ g. g.st) same;
        msgs = ap (λ g. g.msgs) same;
      }
