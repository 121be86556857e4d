-- The table's words break no rule of 01, as 02's T-03 leaves them: what reply 8 denies. Assumes nothing.
use Rattle.std.specs.Prelude.{Bool, ◌&&◌, ◌||◌, List, [], ◌∷◌, map, ℕ, ◌+◌, leb, eqb}
use Rattle.tables.specs.Basics.{every, all_below, zero_from}
use Rattle.tables.specs.Layout.{agents, rows, row, count_place, start_place, row_place, table_words}
use Rattle.tables.specs.Rows.{row_reply, goes_on_to, not_above}

unfoldable pub row_reply_at : List ℕ → (a i : ℕ) → ℕ
row_reply_at tb a i = row_reply (row tb a i) i (rows tb a)

-- from row i to row j: at the row count stands the end, and "the end has no window"
unfoldable pub climbs_to : List ℕ → (a i j : ℕ) → Bool
climbs_to tb a i j = leb (rows tb a) j || not_above (row tb a i) (row tb a j)

-- 02's T-03: "a row's early and late are each not above those of every row it can go on to", which reply 7 denies
unfoldable pub climbs : List ℕ → (a i : ℕ) → Bool
climbs tb a i = every (map (climbs_to tb a i) (goes_on_to (row tb a i) i))

-- row i of agent a is within the rules, 4 to 7
abbrev pub row_passes : List ℕ → (a i : ℕ) → Bool
row_passes tb a i = eqb (row_reply_at tb a i) 0 && climbs tb a i

-- each row of an agent is
unfoldable pub good_rows : List ℕ → ℕ → Bool
good_rows tb a = all_below (rows tb a) (row_passes tb a)

-- an agent: 1 to 32 rows, each within the rules, and 0 in the places past them
unfoldable pub good_agent : List ℕ → ℕ → Bool
good_agent tb a =
    every
    (leb 1 (rows tb a)
    ∷ leb (rows tb a) 32
    ∷ good_rows tb a
    ∷ zero_from tb (row_place a (rows tb a)) (row_place (a + 1) 0)
    ∷ [])

-- 1 to 16 agents, each good, and 0 in the counts, registers and rows past them
unfoldable pub good_table : List ℕ → Bool
good_table tb =
    every
    (leb 1 (agents tb)
    ∷ leb (agents tb) 16
    ∷ all_below (agents tb) (good_agent tb)
    ∷ zero_from tb (count_place (agents tb)) (start_place 0)
    ∷ zero_from tb (start_place (agents tb)) (row_place 0 0)
    ∷ zero_from tb (row_place (agents tb) 0) table_words
    ∷ [])
