-- The theorems about the published model, each as a statement: it holds for every value of its parameters. proofs/ proves each under its
-- own name, in small letters, in the file named above it. docs/DETERMINACY.md has them in a table, with the edits that guard each.
use Rattle.std.specs.Prelude.{◌≡◌, false, List, reverse, ◌⊎◌, ℕ, ◌<◌}
use Rattle.std.proofs.Math.Option.{Option}
use Rattle.pharos.specs.Prefix.{OneBegins}
use Rattle.pharos.specs.Published.{Messages, Dated, Types, instr_of, SystemState, GoodSystemState, CanReceive, Received, executes, Assumptions, Init, Next, Behaviour, filter}
use Rattle.pharos.specs.Histories.{Unstutters, history, project, AllEnded, Raises, DeadlinesMet, Inv, MsgInv}

-- A list unstutters to one list only. [Filter]
abbrev pub UnstuttersOnce : (A : Type 0) (s u v : List A) → Type 0
UnstuttersOnce A s u v = Unstutters s u → Unstutters s v → u ≡ v

module _ (T : Types) where
  open T use {State, agents, init_state, ended}

  -- ---- one step [Search, Functional]

  -- A receive gets an answer, and only one.
  abbrev pub Receives : (msgs : Messages) (di : Dated State) → Type 0
  Receives msgs di = (got : Option ℕ) × Received T msgs di got

  abbrev pub ReceivedOnce : (msgs : Messages) (di : Dated State) (o p : Option ℕ) → Type 0
  ReceivedOnce msgs di o p = Received T msgs di o → Received T msgs di p → o ≡ p

  -- There is one start; and agent, time and state before settle the state after.
  abbrev pub InitOnce : (s s' : SystemState T) → Type 0
  InitOnce s s' = Init T s → Init T s' → s ≡ s'

  abbrev pub ExecutesOnce : (a : ℕ) (pre post post' : SystemState T) → Type 0
  ExecutesOnce a pre post post' = executes T a pre post → executes T a pre post' → post.t ≡ post'.t → post ≡ post'

  -- What one pool lets agent a receive at s, the other does.
  abbrev pub ReceivesNoMore : (a : ℕ) (s : State) (msgs msgs' : Messages) → Type 0
  ReceivesNoMore a s msgs msgs' = (b i v : ℕ) → CanReceive T msgs (instr_of T a s) b i v → CanReceive T msgs' (instr_of T a s) b i v

  -- An agent's next state depends on its own state and the messages that it can receive, and on nothing else.
  abbrev pub OwnStep : (a : ℕ) (pre post pre' post' : SystemState T) → Type 0
  OwnStep a pre post pre' post' = executes T a pre post → executes T a pre' post' → pre.st a ≡ pre'.st a
      → ReceivesNoMore a (pre.st a) pre.msgs pre'.msgs → ReceivesNoMore a (pre.st a) pre'.msgs pre.msgs
      → post.st a ≡ post'.st a

  -- ---- determinacy [Behaviours]

  -- Determinacy. Of two behaviours from one system state, reached or not, the states that an agent passes through in one begin those in the other.
  abbrev pub Determinacy : (g h f : SystemState T) → Type 0
  Determinacy g h f = Assumptions T → (r : Behaviour T g h) (q : Behaviour T g f) (b : ℕ) → OneBegins (filter T r b) (filter T q b)

  -- Two behaviours from one system state that end every agent leave the same states and the same messages: only the time may differ;
  abbrev pub BehavioursEndAlike : (g h f : SystemState T) → Type 0
  BehavioursEndAlike g h f = Assumptions T → Behaviour T g h → Behaviour T g f → AllEnded T h → AllEnded T f → (h.st ≡ f.st) × (h.msgs ≡ f.msgs)

  -- and have taken every agent through the same states.
  abbrev pub SameCourses : (g h f : SystemState T) → Type 0
  SameCourses g h f = Assumptions T → (r : Behaviour T g h) (q : Behaviour T g f) → AllEnded T h → AllEnded T f → (b : ℕ) → filter T r b ≡ filter T q b

  -- ---- good states and invariants [GoodStates, Invariants]

  -- No deadline has passed at the start, nor after a step;
  abbrev pub InitMeetsDeadlines : Type 0
  InitMeetsDeadlines = Assumptions T → (s : SystemState T) → Init T s → DeadlinesMet T s

  abbrev pub ExecutesMeetsDeadlines : (a : ℕ) (pre post : SystemState T) → Type 0
  ExecutesMeetsDeadlines a pre post = Assumptions T → executes T a pre post → DeadlinesMet T post

  -- and then some agent can go on, or all have ended.
  abbrev pub GoodOrEnded : Type 0
  GoodOrEnded = Assumptions T → (s : SystemState T) → DeadlinesMet T s → GoodSystemState T s ⊎ AllEnded T s

  -- goodInitState. 01: of tables in which some agent, as 0, has a row.
  abbrev pub InitGood : Type 0
  InitGood = Assumptions T → (b : ℕ) → b < agents → ended b (init_state b) ≡ false → (s : SystemState T) → Init T s → GoodSystemState T s

  -- A good state has a next one.
  abbrev pub GoodNext : Type 0
  GoodNext = (s : SystemState T) → GoodSystemState T s → (post : SystemState T) × Next T s post

  -- Spec ⇒ □Inv and Spec ⇒ □MsgInv.
  abbrev pub Invariant : (g h : SystemState T) → Type 0
  Invariant g h = Assumptions T → Init T g → (r : Behaviour T g h) → Inv T r

  abbrev pub MessageInvariant : (g h : SystemState T) → Type 0
  MessageInvariant g h = Assumptions T → Init T g → (r : Behaviour T g h) → MsgInv T r

  -- ---- filter [Filter]

  -- Where each step raises the position, `filter` is 002's: unstutter[project(history, b)].
  abbrev pub FilterIs002's : (g h : SystemState T) → Type 0
  FilterIs002's g h = Raises T → (r : Behaviour T g h) (b : ℕ) → (u : List State) × Unstutters (project T (history T r) b) u × (filter T r b ≡ reverse u)
