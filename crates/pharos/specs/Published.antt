-- Document 002, Fig. 2 (MODULE Types) and Fig. 3 (MODULE System_Spec), transcribed. A comment names 002's operator first;
-- "01:" marks each place where document 01 narrows the operator or adds to it. docs/DETERMINACY.md has the reasons.
use Rattle.std.specs.Prelude.{◌≡◌, Bool, true, false, List, [], ◌∷◌, ◌++◌, ℕ, ◌≤◌, ◌<◌, ltb}
use Rattle.std.proofs.Math.Option.{Option, none, some}
use Rattle.std.proofs.Math.Logic.{ite}
use Rattle.std.proofs.Math.Decide.{ℕ_discrete}

-- Instruction. 01: "local" and "update" are one kind.
-- 01: a message carries a value: a send says which, and the update of a receive goes by the value found, or none.
pub data Instruction (State : Type 0) : Type 0 where
  local : (upd : State → State) → Instruction State
  send : (msg : ℕ) → (value : State → ℕ) → (upd : State → State) → Instruction State
  receive : (msg : ℕ) → (bupd : Option ℕ → State → State) → Instruction State

-- DatedInstruction. That early < late is among the assumptions, at the end of Fig. 2.
pub record Dated (State : Type 0) : Type 0 where
  pub ins : Instruction State
  pub early : ℕ
  pub late : ℕ

-- i.ins.msg of an i in Message, which is to say of a send; and di.ins.msg of a receive.
abbrev pub msg_sent : {State : Type 0} → Instruction State → Option ℕ
msg_sent (local upd) = none
msg_sent (send msg value upd) = some msg
msg_sent (receive msg bupd) = none

abbrev pub msg_awaited : {State : Type 0} → Instruction State → Option ℕ
msg_awaited (local upd) = none
msg_awaited (send msg value upd) = none
msg_awaited (receive msg bupd) = some msg

-- visible. 01: exactly where 002 only allows it. This is the value that 01 gives to the constant `visible` below.
abbrev pub exact : {State : Type 0} → Dated State → Dated State → Bool
exact di dj = ltb di.late dj.early

-- msgs of a SystemState, a set of sending instructions in 002.
-- 01: kept by place, agent and row, since in a set equal instructions of two agents are one; and with the value sent.
abbrev pub Messages : Type 0
Messages = ℕ → ℕ → Option ℕ

-- [f EXCEPT ![a] = x]
abbrev pub except : {A : Type 0} → (ℕ → A) → ℕ → A → ℕ → A
except f a x b = ite (ℕ_discrete a b) x (f b)

-- The CONSTANTs of Fig. 2. MsgId is ℕ, and Update whatever the instructions hold.
pub record Types : Type 1 where
  pub State : Type 0
  -- Agent: the numbers below this one
  pub agents : ℕ
  pub init_state : ℕ → State
  -- 01: tables are finite, so an agent comes to its end
  pub ended : ℕ → State → Bool
  -- 01: an agent has rows, and a state stands at one of them
  pub rows : ℕ → ℕ
  pub place : State → ℕ
  pub instr_at : ℕ → ℕ → Dated State
  pub visible : Dated State → Dated State → Bool

module _ (T : Types) where
  open T use {State, agents, init_state, ended, rows, place, instr_at, visible}

  -- instrOf(s). 01: a state holds no agent number, so the agent is told.
  abbrev pub instr_of : ℕ → State → Dated State
  instr_of a s = instr_at a (place s)

  -- SystemState
  pub record SystemState : Type 0 where
    pub st : ℕ → State
    pub msgs : Messages
    pub t : ℕ

  -- GoodNextTime(s, a, t). 01: an ended agent has no window.
  pub record GoodNextTime (s : SystemState) (a t : ℕ) : Type 0 where
    pub after : s.t ≤ t
    pub begun : (instr_of a (s.st a)).early ≤ t
    pub fits : (b : ℕ) → b < agents → ended b (s.st b) ≡ false → t ≤ (instr_of b (s.st b)).late

  -- GoodSystemState. 01: the agent is one that there is and has not ended.
  abbrev pub GoodSystemState : SystemState → Type 0
  GoodSystemState s = (a : ℕ) × (t : ℕ) × (a < agents) × (ended a (s.st a) ≡ false) × GoodNextTime s a t

  -- What msgReceived(msgs, di) asks of its i: here, that the message of row i of agent b, with the value v, is in the pool, has the number and is visible.
  pub record CanReceive (msgs : Messages) (di : Dated State) (b i v : ℕ) : Type 0 where
    pub agent : b < agents
    pub row : i < rows b
    pub present : msgs b i ≡ some v
    pub number : ℕ
    pub sent : msg_sent (instr_at b i).ins ≡ some number
    pub awaited : msg_awaited di.ins ≡ some number
    pub seen : visible (instr_at b i) di ≡ true

  -- 01: of several the one with the greatest late is taken, then that of the lower agent, then that of the higher row.
  pub data Before (b i c j : ℕ) : Type 0 where
    later : (instr_at c j).late < (instr_at b i).late → Before b i c j
    lower : (instr_at c j).late ≡ (instr_at b i).late → b < c → Before b i c j
    higher : (instr_at c j).late ≡ (instr_at b i).late → b ≡ c → j < i → Before b i c j

  -- msgReceived(msgs, di), a Boolean in 002. 01: the value of the message taken, or none.
  pub data Received (msgs : Messages) (di : Dated State) : Option ℕ → Type 0 where
    nothing : ((b i v : ℕ) → CanReceive msgs di b i v → ⊥) → Received msgs di none
    found : {b i v : ℕ} → CanReceive msgs di b i v
        → ((c j w : ℕ) → CanReceive msgs di c j w → Before c j b i → ⊥) → Received msgs di (some v)

  -- exec(state, msgs): the state and the pool after an instruction. What a receive gets is told, and is settled in `executes`.
  abbrev pub exec_ins : (a : ℕ) → State → Messages → Option ℕ → Instruction State → State × Messages
  exec_ins a s msgs got (local upd) = (upd s, msgs)
  exec_ins a s msgs got (send msg value upd) = (upd s, except msgs a (except (msgs a) (place s) (some (value s))))
  exec_ins a s msgs got (receive msg bupd) = (bupd got s, msgs)

  abbrev pub exec : (a : ℕ) → State → Messages → Option ℕ → State × Messages
  exec a s msgs got = exec_ins a s msgs got (instr_of a s).ins

  -- executes(a, pre, post). 01: an agent that has ended executes nothing.
  pub record executes (a : ℕ) (pre post : SystemState) : Type 0 where
    pub real : a < agents
    pub live : ended a (pre.st a) ≡ false
    pub good : GoodNextTime pre a post.t
    pub got : Option ℕ
    pub received : Received pre.msgs (instr_of a (pre.st a)) got
    pub st : post.st ≡ except pre.st a (exec a (pre.st a) pre.msgs got).0
    pub msgs : post.msgs ≡ (exec a (pre.st a) pre.msgs got).1

  -- The ASSUMEs instrOf_type, Update_monotonic and visible_cond.
  -- 01: the first two only of agents that there are and states that have not ended; of Update_monotonic only the late half, as the other is not used.
  -- goodInitState follows from these (`InitGood`, Theorems), and TimeProgress has no place where tables are finite.
  pub record Assumptions : Type 0 where
    pub instr_of_type : (a : ℕ) (s : State) → a < agents → ended a s ≡ false → (instr_of a s).early < (instr_of a s).late
    pub Update_monotonic : (a : ℕ) (s : State) → a < agents → ended a s ≡ false → (msgs : Messages) (got : Option ℕ)
        → ended a (exec a s msgs got).0 ≡ false → (instr_of a s).late ≤ (instr_of a (exec a s msgs got).0).late
    pub visible_cond : (di dj : Dated State) → visible di dj ≡ true → di.late < dj.early

  -- Fig. 3. Init
  pub record Init (s : SystemState) : Type 0 where
    pub st : s.st ≡ init_state
    pub msgs : (b i : ℕ) → s.msgs b i ≡ none
    pub t : s.t ≡ 1

  -- Next: Fig. 3 writes out that some agent executes.
  abbrev pub Next : SystemState → SystemState → Type 0
  Next pre post = (a : ℕ) × executes a pre post

  -- Spec, as far as it has come: steps of Next, one after another, from any state.
  pub data Behaviour (g : SystemState) : SystemState → Type 0 where
    no_steps : Behaviour g g
    append : {h f : SystemState} {a : ℕ} → Behaviour g h → executes a h f → Behaviour g f

  -- filter(history, b): the states that agent b passes through, the oldest first.
  -- 01: that at the start and that after each of its own steps. Each step raises the position, so unstutter takes out just the steps of others (`FilterIs002's`, Theorems).
  abbrev pub filter : {g h : SystemState} → Behaviour g h → ℕ → List State
  filter {g} no_steps b = g.st b ∷ []
  filter (append {f = f} {a} r step) b = ite (ℕ_discrete a b) (filter r b ++ (f.st b ∷ [])) (filter r b)
