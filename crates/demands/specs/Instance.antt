-- A table as a system of the published model, and a state's words as its state. Assumes nothing.
use Rattle.std.specs.Prelude.{Bool, cond, ◌&&◌, List, ℕ, ◌+◌, ◌%◌, ◌^◌, ltb, leb, eqb, get_or, set, take, drop}
use Rattle.std.proofs.Math.Option.{Option, none, some}
use Rattle.pharos.specs.Published.{Instruction, local, send, receive, Dated, exact, Messages, Types, SystemState}
use Rattle.tables.specs.Basics.{first_below}
use Rattle.tables.specs.Layout.{agents, rows, row, start_place}
use Rattle.tables.specs.declared.Row.{Row}
use Rattle.choices.specs.declared.Agent.{Agent}
use Rattle.choices.specs.State.{clock, mark, value, agent_at}
use Rattle.executive.specs.Numbers.{bit, bits}

-- ---- 01's table of rows, its last column, in words of the model's own: nothing of the executive's `after` is named here

-- what register x of an agent holds
abbrev pub holds : Agent → ℕ → ℕ
holds s x = get_or s.regs x 0

-- "x becomes" v, and "All rows but SKIP, JUMP and an empty RECV go on at p+1"
abbrev pub becomes : (x v : ℕ) → Agent → Agent
becomes x v s = record { pos = s.pos + 1; regs = set s.regs x v }

-- "go on at p+1+n", the registers as they are
abbrev pub goes_on : (n : ℕ) → Agent → Agent
goes_on n s = record { pos = s.pos + 1 + n; regs = s.regs }

-- "x-y modulo 2^32": the number below 2^32 that, with y added, is x modulo 2^32
abbrev pub minus : (x y : ℕ) → ℕ
minus x y = first_below (2 ^ 32) (λ v. eqb ((v + y) % 2 ^ 32) (x % 2 ^ 32))

-- "the number of one bits in y": the sum of its 32 bits
abbrev pub ones : ℕ → ℕ
ones y = bits y 32

-- "the number of zero bits below the lowest one bit of y; 32 where y is 0": the place of the first bit that is 1
abbrev pub lowest : ℕ → ℕ
lowest y = first_below 32 (λ i. eqb (bit y i) 1)

-- the rows that touch their agent alone
unfoldable pub local_row : Row → Agent → Agent
local_row r s =
    let x = holds s r.x in
    let y = holds s r.y in
    cond (eqb r.op 0x00) (becomes r.x r.k s)  -- SET x, k
    (cond (eqb r.op 0x01) (becomes r.x ((x + y) % 2 ^ 32) s)  -- ADD x, y
    (cond (eqb r.op 0x02) (becomes r.x (minus x y) s)  -- SUB x, y
    (cond (eqb r.op 0x03) (becomes r.x (ones y) s)  -- ONES x, y
    (cond (eqb r.op 0x04) (becomes r.x (lowest y) s)  -- LOW x, y
    (cond (eqb r.op 0x10) (cond (eqb x 0) (goes_on r.n s) (goes_on 0 s))  -- SKIP x, n: "where x is 0 go on at p+1+n, else at p+1"
    (cond (eqb r.op 0x11) (goes_on r.n s)  -- JUMP n
    (goes_on 0 s)))))))  -- no table that is accepted has another

-- SEND x, k: "the value of x is sent under message number k"
abbrev pub sending : Row → Instruction Agent
sending r = send r.k (λ s. holds s r.x) (goes_on 0)

-- RECV x, k, n: "message found: x becomes its value, on at p+1; none: x stays, on at p+1+n"
abbrev pub taken : Row → Option ℕ → Agent → Agent
taken r none s = goes_on r.n s
taken r (some v) s = becomes r.x v s

abbrev pub receiving : Row → Instruction Agent
receiving r = receive r.k (taken r)

unfoldable pub instruction_of : Row → Instruction Agent
instruction_of r = cond (eqb r.op 0x20) (sending r) (cond (eqb r.op 0x30) (receiving r) (local (local_row r)))

abbrev pub dated : Row → Dated Agent
dated r = record { ins = instruction_of r; early = r.early; late = r.late }

-- position 0 and the table's registers
abbrev pub start_of : List ℕ → ℕ → Agent
start_of tb a = record { pos = 0; regs = take 4 (drop (start_place a) tb) }

-- The constants of document 002, of a table.
abbrev pub published : List ℕ → Types
published tb = record {
  State = Agent;
  agents = agents tb;
  init_state = start_of tb;
  ended = λ a s. leb (rows tb a) s.pos;
  rows = rows tb;
  place = λ s. s.pos;
  instr_at = λ a i. dated (row tb a i);
  visible = exact;
}

-- The words hold sixteen agents of 32 rows each: by address alone agent 16's position would be register 0 of agent 0.
unfoldable pub agent_held : ℕ → Bool
agent_held b = ltb b 16

unfoldable pub row_held : ℕ → ℕ → Bool
row_held b i = ltb b 16 && ltb i 32

-- An agent's state in the words.
unfoldable pub state_of : (tb st : List ℕ) → ℕ → Agent
state_of tb st b = cond (agent_held b) (agent_at st b) (start_of tb b)

-- The message at row i of agent b: its value, where its mark is set.
unfoldable pub sent_of : List ℕ → Messages
sent_of st b i = cond (row_held b i && eqb (mark st b i) 1) (some (value st b i)) none

-- The published system's state that the words stand for.
abbrev pub decode : (tb st : List ℕ) → SystemState (published tb)
decode tb st = record { st = state_of tb st; msgs = sent_of st; t = clock st }
