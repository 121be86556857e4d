-- What a row does to its agent: 01's table of rows, its last column. Assumes nothing.
use Rattle.std.specs.Prelude.{ℕ, ◌+◌, ◌-◌, ◌%◌, ◌^◌, cond, Option, None, Some, ◌==◌, slice_index_or, slice_set}
use Rattle.std.specs.Int.Count.{ones_in, count_trailing_zeros}
use Rattle.tables.specs.declared.Row.{Row}
use Rattle.choices.specs.declared.Agent.{Agent}
use Rattle.choices.specs.declared.Message.{Message}

-- on at position p
abbrev pub go_to : ℕ → Agent → Agent
go_to p s = record { pos = p; regs = s.regs }

-- x becomes v, and on at p+1
abbrev pub put : (x v : ℕ) → Agent → Agent
put x v s = record { pos = s.pos + 1; regs = slice_set s.regs x v }

-- RECV x, k, n: "message found: x becomes its value, on at p+1; none: x stays, on at p+1+n"
unfoldable pub receive : Row → Option Message → Agent → Agent
receive r None s = go_to (s.pos + 1 + r.n) s
receive r (Some m) s = put r.x m.value s

-- the agent after the row r, where m is the message that a RECV takes
unfoldable pub after : Row → Option Message → Agent → Agent
after r m s =
    let x = slice_index_or s.regs r.x 0 in
    let y = slice_index_or s.regs r.y 0 in
    cond (r.op == 0x00) (put r.x r.k s)  -- SET x, k
    (cond (r.op == 0x01) (put r.x ((x + y) % 2 ^ 32) s)  -- ADD x, y
    (cond (r.op == 0x02) (put r.x ((x + 2 ^ 32 - y % 2 ^ 32) % 2 ^ 32) s)  -- SUB x, y
    (cond (r.op == 0x03) (put r.x (ones_in 32 y) s)  -- ONES x, y
    (cond (r.op == 0x04) (put r.x (count_trailing_zeros 32 y) s)  -- LOW x, y
    (cond (r.op == 0x10) (go_to (s.pos + 1 + cond (x == 0) r.n 0) s)  -- SKIP x, n
    (cond (r.op == 0x11) (go_to (s.pos + 1 + r.n) s)  -- JUMP n
    (cond (r.op == 0x30) (receive r m s)  -- RECV x, k, n
    (go_to (s.pos + 1) s))))))))  -- SEND x, k
