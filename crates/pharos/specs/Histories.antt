-- What 002 says of a behaviour as a whole: its history, `unstutter`, and the invariants Inv and MsgInv.
use Rattle.std.specs.Prelude.{◌≡◌, true, false, List, [], ◌∷◌, map, ◌⊎◌, ℕ, ◌≤◌, ◌<◌}
use Rattle.std.proofs.Math.Option.{Option, none, some}
use Rattle.pharos.specs.Published.{Instruction, local, send, receive, Types, instr_of, SystemState, executes, Behaviour, no_steps, append}

infix 50 ◌∈◌
abbrev pub ◌∈◌ : {A : Type 0} → A → List A → Type 0
x ∈ [] = ⊥
x ∈ (y ∷ l) = (x ≡ y) ⊎ (x ∈ l)

-- unstutter, of sequences with the latest first: of equal neighbours one is kept.
pub data Unstutters {A : Type 0} : List A → List A → Type 0 where
  single : {x : A} → Unstutters (x ∷ []) (x ∷ [])
  again : {x y : A} {s u : List A} → x ≡ y → Unstutters (y ∷ s) u → Unstutters (x ∷ y ∷ s) u
  changed : {x y : A} {s u : List A} → (x ≡ y → ⊥) → Unstutters (y ∷ s) u → Unstutters (x ∷ y ∷ s) (x ∷ u)

-- The value that the instruction of a state sends, if it is a send.
abbrev pub value_sent : {State : Type 0} → Instruction State → State → Option ℕ
value_sent (local upd) s = none
value_sent (send msg value upd) s = some (value s)
value_sent (receive msg bupd) s = none

module _ (T : Types) where
  open T use {State, agents, ended, place}

  -- history, the latest first: what was, and with what is.
  abbrev pub earlier : {g h : SystemState T} → Behaviour T g h → List (SystemState T)
  earlier no_steps = []
  earlier (append {h} r e) = h ∷ earlier r

  abbrev pub history : {g h : SystemState T} → Behaviour T g h → List (SystemState T)
  history {h = h} r = h ∷ earlier r

  -- project
  abbrev pub project : List (SystemState T) → ℕ → List State
  project s b = map (λ g. g.st b) s

  -- 01: every agent that there is has come to its end.
  abbrev pub AllEnded : SystemState T → Type 0
  AllEnded s = (b : ℕ) → b < agents → ended b (s.st b) ≡ true

  -- 01: each step takes its agent to a later row.
  abbrev pub Raises : Type 0
  Raises = (a : ℕ) (pre post : SystemState T) → executes T a pre post → place (pre.st a) < place (post.st a)

  -- Inv, its third line: no deadline has passed. 01: an ended agent has none.
  abbrev pub DeadlinesMet : SystemState T → Type 0
  DeadlinesMet s = (b : ℕ) → b < agents → ended b (s.st b) ≡ false → s.t ≤ (instr_of T b (s.st b)).late

  -- Inv
  pub record Inv {g h : SystemState T} (r : Behaviour T g h) : Type 0 where
    pub last : (l : List (SystemState T)) × (history r ≡ h ∷ l)
    pub no_later : (s : SystemState T) → s ∈ history r → s.t ≤ h.t
    pub deadlines : DeadlinesMet h

  -- m ∈ toSend. 01: m is the message of row i of agent b with the value v: in some state of the history b stood at that row, had not ended,
  -- and its instruction was a send, of v.
  pub record ToSend {g h : SystemState T} (r : Behaviour T g h) (b i v : ℕ) : Type 0 where
    pub agent : b < agents
    pub state : State
    pub was : state ∈ project (history r) b
    pub live : ended b state ≡ false
    pub row : place state ≡ i
    pub sends : value_sent (instr_of T b state).ins state ≡ some v

  -- m ∈ expired
  pub record Expired {g h : SystemState T} (r : Behaviour T g h) (b i v : ℕ) : Type 0 where
    pub to_send : ToSend r b i v
    pub passed : (Types.instr_at T b i).late < h.t

  -- MsgInv: messages ⊆ toSend, and expired ⊆ messages. 01: of two sends of one row the later stays in the pool, so the value need not be the same;
  -- where each step takes its agent to a later row there are no two, and it is.
  pub record MsgInv {g h : SystemState T} (r : Behaviour T g h) : Type 0 where
    pub sent : (b i v : ℕ) → h.msgs b i ≡ some v → ToSend r b i v
    pub expired : (b i v : ℕ) → Expired r b i v → (w : ℕ) × (h.msgs b i ≡ some w) × (Raises → w ≡ v)
