-- Which messages a row sees, and which of them it takes. Assumes nothing.
use Rattle.std.specs.Prelude.{ℕ, zero, suc, Bool, true, cond, ◌&&◌, ◌||◌, List, Option, None, Some, ◌==◌, nat_lt}
use Rattle.tables.specs.Layout.{agents, row}
use Rattle.tables.specs.declared.Row.{Row}
use Rattle.choices.specs.State.{Pool}
use Rattle.choices.specs.declared.Message.{Message}

-- The message of row i of agent b is visible to the row r: it is sent, "the message numbers are equal and the late of the sending row
-- is below the early of the receiving row". Neither the clock nor the time of the sending counts.
unfoldable pub visible : List ℕ → Pool → Row → (b i : ℕ) → Bool
visible tb p r b i = p.mark b i == 1 && (row tb b i).k == r.k && nat_lt (row tb b i).late r.early

-- "the one with the greatest late is taken; then the one of the lower agent; then the one of the higher row":
-- the message of late l from row i of agent b goes before the best so far
unfoldable pub beats : (l b i : ℕ) → Option Message → Bool
beats l b i None = true
beats l b i (Some m) = nat_lt m.late l || (l == m.late && (nat_lt b m.agent || (b == m.agent && nat_lt m.row i)))

-- the message of row i of agent b
abbrev pub message_at : List ℕ → Pool → (b i : ℕ) → Message
message_at tb p b i = record { late = (row tb b i).late; agent = b; row = i; value = p.value b i }

-- the best so far, once row i of agent b is looked at too
unfoldable pub look : List ℕ → Pool → Row → (b i : ℕ) → Option Message → Option Message
look tb p r b i m =
    cond (visible tb p r b i && beats (row tb b i).late b i m) (Some (message_at tb p b i)) m

-- once the places below i of agent b are looked at; once those of the agents below b are
unfoldable pub look_rows : List ℕ → Pool → Row → (b i : ℕ) → Option Message → Option Message
look_rows tb p r b zero m = m
look_rows tb p r b (suc i) m = look tb p r b i (look_rows tb p r b i m)

unfoldable pub look_agents : List ℕ → Pool → Row → (b : ℕ) → Option Message
look_agents tb p r zero = None
look_agents tb p r (suc b) = look_rows tb p r b 32 (look_agents tb p r b)

-- of the messages visible to the row, the one that is taken
unfoldable pub best : List ℕ → Pool → Row → Option Message
best tb p r = look_agents tb p r (agents tb)
