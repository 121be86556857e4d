-- What a row does to its agent, in 01's words: one law for each row of its table, of the definition `after` at that op. For every row of the op, every message
-- and every agent: no bound on a register is needed. proofs/Effects.antt proves each under its own name. Assumes nothing.
use Rattle.std.specs.Prelude.{◌≡◌, ◌↔◌, ◌≢◌, ℕ, ◌+◌, ◌%◌, ◌^◌, ◌<◌, get_or, Option, None, Some}
use Rattle.tables.specs.declared.Row.{Row}
use Rattle.choices.specs.declared.Agent.{Agent}
use Rattle.choices.specs.declared.Message.{Message}
use Rattle.choices.specs.Effect.{after, put, go_to}
use Rattle.executive.specs.Numbers.{bit, bits, Lowest}

-- what the row's registers x and y hold
abbrev pub held_x : Row → Agent → ℕ
held_x r s = get_or s.regs r.x 0

abbrev pub held_y : Row → Agent → ℕ
held_y r s = get_or s.regs r.y 0

-- of every row with this op, every message and every agent
abbrev pub OfOp : ℕ → (Row → Option Message → Agent → Type 0) → Type 0
OfOp op law = (r : Row) (m : Option Message) (s : Agent) → r.op ≡ op → law r m s

-- x becomes v, on at p+1
abbrev pub Becomes : Row → Option Message → Agent → ℕ → Type 0
Becomes r m s v = after r m s ≡ put r.x v s

-- the registers stay, on at p
abbrev pub GoesTo : Row → Option Message → Agent → ℕ → Type 0
GoesTo r m s p = after r m s ≡ go_to p s

-- SET x, k: "x becomes k"
abbrev pub SetIsConstant : Type 0
SetIsConstant = OfOp 0x00 (λ r m s. Becomes r m s r.k)

-- ADD x, y: "x becomes x+y modulo 2^32"
abbrev pub AddIsRemainder : Type 0
AddIsRemainder = OfOp 0x01 (λ r m s. Becomes r m s ((held_x r s + held_y r s) % 2 ^ 32))

-- SUB x, y: "x becomes x-y modulo 2^32", the number below 2^32 that, with y added, is x modulo 2^32
abbrev pub SubIsRemainder : Type 0
SubIsRemainder = OfOp 0x02 (λ r m s. (v : ℕ) × Becomes r m s v × (v < 2 ^ 32) × ((v + held_y r s) % 2 ^ 32 ≡ held_x r s % 2 ^ 32))

-- ONES x, y: "x becomes the number of one bits in y"
abbrev pub OnesAreBits : Type 0
OnesAreBits = OfOp 0x03 (λ r m s. Becomes r m s (bits (held_y r s) 32))

-- LOW x, y: "x becomes the number of zero bits below the lowest one bit of y; 32 where y is 0"
abbrev pub LowIsLowest : Type 0
LowIsLowest =
    OfOp 0x04 (λ r m s. (v : ℕ) × Becomes r m s v × Lowest 32 (held_y r s) v × ((v ≡ 32) ↔ ((i : ℕ) → i < 32 → bit (held_y r s) i ≡ 0)))

-- SKIP x, n: "where x is 0 go on at p+1+n, else at p+1"
abbrev pub SkipAtZero : Type 0
SkipAtZero = OfOp 0x10 (λ r m s. held_x r s ≡ 0 → GoesTo r m s (s.pos + 1 + r.n))

abbrev pub SkipElsewhere : Type 0
SkipElsewhere = OfOp 0x10 (λ r m s. held_x r s ≢ 0 → GoesTo r m s (s.pos + 1))

-- JUMP n: "go on at p+1+n"
abbrev pub JumpIsOn : Type 0
JumpIsOn = OfOp 0x11 (λ r m s. GoesTo r m s (s.pos + 1 + r.n))

-- SEND x, k: the agent itself goes on at p+1; its mark and value are `SendIsSent` of Laws
abbrev pub SendIsOn : Type 0
SendIsOn = OfOp 0x20 (λ r m s. GoesTo r m s (s.pos + 1))

-- RECV x, k, n: "message found: x becomes its value, on at p+1; none: x stays, on at p+1+n"
abbrev pub ReceiveFound : Type 0
ReceiveFound = (g : Message) → OfOp 0x30 (λ r m s. m ≡ Some g → Becomes r m s g.value)

abbrev pub ReceiveNone : Type 0
ReceiveNone = OfOp 0x30 (λ r m s. m ≡ None → GoesTo r m s (s.pos + 1 + r.n))
