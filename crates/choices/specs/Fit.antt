-- "A state fits a table when ..": what reply 9 denies. Assumes nothing.
use Rattle.std.specs.Prelude.{ℕ, ◌+◌, Bool, not, ◌&&◌, ◌||◌, List, [], ◌∷◌, ◌==◌, nat_le, nat_lt}
use Rattle.tables.specs.Basics.{every, all_below, zero_from}
use Rattle.tables.specs.Layout.{agents, rows, row}
use Rattle.tables.specs.declared.Row.{Row}
use Rattle.choices.specs.State.{clock, pos, mark, value, pos_place, reg_place, mark_place, value_place, state_words}

-- "A position equal to the row count means that the agent has ended. An ended agent has no window."
unfoldable pub unfinished : List ℕ → List ℕ → ℕ → Bool
unfinished tb st a = nat_lt (pos st a) (rows tb a)

-- the row that an agent's position is at
abbrev pub current : List ℕ → List ℕ → ℕ → Row
current tb st a = row tb a (pos st a)

-- the time is "not above the late of any unfinished agent's current row"
unfoldable pub in_time : List ℕ → List ℕ → ℕ → Bool
in_time tb st t = all_below (agents tb) (λ b. not (unfinished tb st b) || nat_le t (current tb st b).late)

-- "a mark is set only at a SEND row below its agent's position", and a value is 0 where the mark is 0
unfoldable pub good_mark : List ℕ → List ℕ → ℕ → ℕ → Bool
good_mark tb st a i = (mark st a i == 0 && value st a i == 0) || (mark st a i == 1 && (row tb a i).op == 0x20)

-- one agent's position, marks and values
unfoldable pub good_places : List ℕ → List ℕ → ℕ → Bool
good_places tb st a =
    every
    (nat_le (pos st a) (rows tb a)
    ∷ all_below (pos st a) (good_mark tb st a)
    ∷ zero_from st (mark_place a (pos st a)) (mark_place (a + 1) 0)
    ∷ zero_from st (value_place a (pos st a)) (value_place (a + 1) 0)
    ∷ [])

unfoldable pub fits : List ℕ → List ℕ → Bool
fits tb st =
    every
    (nat_le 1 (clock st)
    ∷ nat_le (clock st) 1000000
    ∷ in_time tb st (clock st)
    ∷ all_below (agents tb) (good_places tb st)
    ∷ zero_from st (pos_place (agents tb)) (reg_place 0)
    ∷ zero_from st (reg_place (agents tb)) (mark_place 0 0)
    ∷ zero_from st (mark_place (agents tb) 0) (value_place 0 0)
    ∷ zero_from st (value_place (agents tb) 0) state_words
    ∷ [])
