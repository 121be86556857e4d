-- What T-03 asks of rows, computed: what is told of agents by their rows. Assumes nothing.
use Rattle.std.specs.Prelude.{Bool, ◌&&◌, List, [], ◌∷◌, ◌++◌, map, ℕ, ◌+◌, T, eqb, replicate}
use Rattle.tables.specs.Basics.{first, every}
use Rattle.tables.specs.Layout.{row_of}
use Rattle.tables.specs.Rows.{names_of, within, fields_fit, well_formed, row_reply, goes_on_to, not_above}
use Rattle.tables.specs.Table.{climbs_to, climbs}
use Rattle.tables.specs.Frames.{Frame, opens, gives, ends}
use Rattle.reading.specs.Reader.{in_place, rows_next, rows_good, loaded, table_of, rows_climb, first_told, agents_climb, table_climbs, frames_reply}

-- ---- a row of each kind with its window

abbrev set : (early late : ℕ) → List ℕ
set e l = 0x00000000 ∷ 1 ∷ e ∷ l ∷ []

abbrev skip : (n early late : ℕ) → List ℕ
skip n e l = (0x10000000 + n) ∷ 0 ∷ e ∷ l ∷ []

abbrev jump : (n early late : ℕ) → List ℕ
jump n e l = (0x11000000 + n) ∷ 0 ∷ e ∷ l ∷ []

abbrev recv : (n early late : ℕ) → List ℕ
recv n e l = (0x30000000 + n) ∷ 7 ∷ e ∷ l ∷ []

-- an op that is not known
abbrev unknown : (early late : ℕ) → List ℕ
unknown e l = 0x05000000 ∷ 0 ∷ e ∷ l ∷ []

-- ---- agents, each by its rows

agent : ℕ → List (List ℕ) → List Frame
agent a rs = opens a (replicate 4 0) ∷ map (gives a) rs

agents : ℕ → List (List (List ℕ)) → List Frame
agents a [] = ends ∷ []
agents a (rs ∷ rss) = agent a rs ++ agents (a + 1) rss

-- agents of these rows are told with this reply and line
asks_all : List (List (List ℕ)) → (reply line : ℕ) → Bool
asks_all rss r n = let t = frames_reply (agents 0 rss) in eqb t.reply r && eqb t.line n

-- one agent
asks : List (List ℕ) → (reply line : ℕ) → Bool
asks rs = asks_all (rs ∷ [])

cases : T (every (
    -- SKIP, one arm, JUMP, the other arm, both in one time
    asks (skip 2 1 5 ∷ set 3 9 ∷ jump 1 5 9 ∷ set 3 9 ∷ set 6 9 ∷ []) 0 0
    -- the row that goes on to an earlier one is told: P12, and by its late alone
    ∷ asks (set 4 8 ∷ set 3 8 ∷ []) 7 2
    ∷ asks (set 4 8 ∷ set 4 7 ∷ []) 7 2
    ∷ asks (set 4 8 ∷ set 4 8 ∷ []) 0 0
    -- each way of a SKIP and of a RECV, and a JUMP's one
    ∷ asks (skip 1 4 8 ∷ set 3 8 ∷ set 4 8 ∷ []) 7 2
    ∷ asks (skip 1 4 8 ∷ jump 1 4 8 ∷ set 3 8 ∷ []) 7 2
    ∷ asks (recv 1 4 8 ∷ set 3 8 ∷ set 4 8 ∷ []) 7 2
    ∷ asks (recv 1 4 8 ∷ jump 1 4 8 ∷ set 3 8 ∷ []) 7 2
    ∷ asks (jump 1 4 8 ∷ set 4 8 ∷ set 3 8 ∷ []) 7 2
    ∷ asks (jump 1 4 8 ∷ set 3 8 ∷ set 4 8 ∷ []) 0 0
    -- a row that no path reaches
    ∷ asks (jump 2 1 8 ∷ set 4 8 ∷ set 3 8 ∷ set 4 8 ∷ []) 7 3
    -- the end has no window
    ∷ asks (skip 0 4 8 ∷ []) 0 0
    ∷ asks (jump 1 4 8 ∷ set 1 2 ∷ []) 0 0
    -- the earliest of two in the order of lines, also where its row to go on to comes later
    ∷ asks (set 4 8 ∷ set 3 8 ∷ set 2 8 ∷ []) 7 2
    ∷ asks (skip 2 4 9 ∷ set 5 9 ∷ set 4 9 ∷ set 3 9 ∷ []) 7 2
    -- a second agent's row, in its line
    ∷ asks_all ((set 4 8 ∷ set 4 8 ∷ []) ∷ (set 4 8 ∷ set 3 8 ∷ []) ∷ []) 7 5
    -- 4 to 6 of every row come first
    ∷ asks (set 4 8 ∷ set 3 8 ∷ unknown 3 8 ∷ []) 4 4
    ∷ asks (set 4 8 ∷ jump 1 3 8 ∷ []) 5 3
    ∷ asks_all ((set 4 8 ∷ set 3 8 ∷ []) ∷ (set 5 5 ∷ []) ∷ []) 6 5
    ∷ []))
unfolding every asks asks_all agents agent first frames_reply first_told in_place rows_next rows_good row_reply well_formed fields_fit names_of within row_of loaded table_of table_climbs agents_climb rows_climb climbs climbs_to not_above goes_on_to
cases = tt
