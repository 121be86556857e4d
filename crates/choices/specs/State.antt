-- The 1,105 words of a state: where each thing stands; the start state. Assumes nothing.
use Rattle.std.specs.Prelude.{ℕ, ◌+◌, ◌*◌, List, ◌∷◌, ◌++◌, take, drop, replicate, slice_index}
use Rattle.choices.specs.declared.Agent.{Agent}

abbrev pub state_words : ℕ
state_words = 1105

-- "Clock; 16 positions; 64 registers; 512 sent marks (0 or 1) and then 512 sent values, both at place 32a+i"
abbrev pub clock : List ℕ → ℕ
clock st = slice_index st 0

abbrev pub pos_place : ℕ → ℕ
pos_place a = 1 + a

abbrev pub reg_place : ℕ → ℕ
reg_place a = 17 + 4 * a

abbrev pub mark_place : ℕ → ℕ → ℕ
mark_place a i = 81 + (32 * a + i)

abbrev pub value_place : ℕ → ℕ → ℕ
value_place a i = 593 + (32 * a + i)

abbrev pub pos : List ℕ → ℕ → ℕ
pos st a = slice_index st (pos_place a)

abbrev pub mark : List ℕ → ℕ → ℕ → ℕ
mark st a i = slice_index st (mark_place a i)

abbrev pub value : List ℕ → ℕ → ℕ → ℕ
value st a i = slice_index st (value_place a i)

-- "An agent's state is its position and four registers"
abbrev pub agent_at : List ℕ → ℕ → Agent
agent_at st a = record { pos = pos st a; regs = take 4 (drop (reg_place a) st) }

-- the messages that were sent: the mark and the value at row i of agent b
pub record Pool : Type 0 where
  pub mark : ℕ → ℕ → ℕ
  pub value : ℕ → ℕ → ℕ

abbrev pub pool : List ℕ → Pool
pool st = record { mark = mark st; value = value st }

-- "clock 1, positions 0, table's registers, no marks"
unfoldable pub start_words : List ℕ → List ℕ
start_words tb = (1 ∷ replicate 16 0) ++ (take 64 (drop 17 tb) ++ replicate 1024 0)
