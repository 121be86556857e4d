-- What is asked of a pick (DECISIONS 65), computed. Assumes nothing.
use Rattle.std.specs.Prelude.{Bool, ◌&&◌, List, [], ◌∷◌, ◌++◌, ℕ, T, eqb, replicate}
use Rattle.tables.specs.Basics.{first, every, all_below, first_below, all_zero, zero_from}
use Rattle.tables.specs.Layout.{row_of}
use Rattle.tables.specs.Rows.{names_of, within, fields_fit, well_formed, row_reply, goes_on_to, not_above}
use Rattle.tables.specs.Table.{row_reply_at, climbs_to, climbs, good_rows, good_agent, good_table}
use Rattle.choices.specs.Fit.{unfinished, in_time, good_mark, good_places, fits}
use Rattle.choices.specs.Pick.{all_ended, has_least_late, picked_agent}
use Rattle.executive.specs.Calls.{then, words_reply, pick_reply, pick_from}

-- an agent of one row, SET 0, 1, with its window
agent : (early late : ℕ) → List ℕ
agent e l = 0x00000000 ∷ 1 ∷ e ∷ l ∷ replicate 124 0

-- three agents: the last closes at 3, the others both at 9
table : List ℕ
table = (3 ∷ 1 ∷ 1 ∷ 1 ∷ replicate 13 0) ++ replicate 64 0 ++ agent 3 9 ++ agent 2 9 ++ agent 1 3 ++ replicate 1664 0

-- a state of it, by its clock and positions
state : (clock first second third : ℕ) → List ℕ
state c p q r = (c ∷ p ∷ q ∷ r ∷ replicate 13 0) ++ replicate 1088 0

-- a pick answers so
picks : (tb st : List ℕ) (reply agent time : ℕ) → Bool
picks tb st r a t = let o = pick_from tb st in eqb o.reply r && eqb o.agent a && eqb o.time t

cases : T (every (
    -- the least late, though a lower agent could go; at its early, and at the clock where that is later
    picks table (state 1 0 0 0) 0 2 1
    ∷ picks table (state 2 0 0 0) 0 2 2
    -- an agent that has ended is not counted, though its row's late was the least; of equal lates the lowest number, though the other could go sooner
    ∷ picks table (state 2 0 0 1) 0 0 3
    ∷ picks table (state 3 1 0 1) 0 1 3
    ∷ picks table (state 9 1 0 1) 0 1 9
    -- all have ended; the clock is past a late; no table; too few words
    ∷ picks table (state 9 1 1 1) 11 0 0
    ∷ picks table (state 10 1 0 1) 9 0 0
    ∷ picks (replicate 2129 0) (state 2 0 0 1) 8 0 0
    ∷ picks (replicate 2128 0) (state 2 0 0 1) 1 0 0
    ∷ picks table (replicate 1104 0) 1 0 0
    ∷ []))
unfolding agent table state picks first every all_below first_below all_zero zero_from row_of names_of within fields_fit well_formed row_reply goes_on_to not_above row_reply_at climbs_to climbs good_rows good_agent good_table unfinished in_time good_mark good_places fits all_ended has_least_late picked_agent then words_reply pick_reply pick_from
cases = tt
