-- Vocabulary of the code alone, as Registers is: the lates of the agents' current rows, which stand in a list of their own while choices are worked out, and what the search for the
-- agent that is picked finds in them. Assumes nothing.
use Rattle.std.specs.Prelude.{◌≡◌, ℕ, ◌<◌, Bool, false, cond, leb, List, length, nat_le, slice_index}
use Rattle.tables.specs.Basics.{all_below}
use Rattle.tables.specs.Layout.{agents, rows, row}
use Rattle.choices.specs.State.{pos}
use Rattle.choices.specs.Pick.{all_ended, picked_agent}

-- the greatest word, which no time is above: the late of an agent that has ended
abbrev pub no_late : ℕ
no_late = 4294967295

-- the late of agent a at position p
unfoldable pub late_at : (tb : List ℕ) (a p : ℕ) → ℕ
late_at tb a p = cond (nat_le (rows tb a) p) no_late (row tb a p).late

-- the list ls has the late of each agent's current row
pub record Lates (tb st ls : List ℕ) : Type 0 where
  pub size : length ls ≡ 16
  pub each : (a : ℕ) → a < 16 → slice_index ls a ≡ late_at tb a (pos st a)

-- the time is above none of the 16 lates
unfoldable pub above_none : (ls : List ℕ) → ℕ → Bool
above_none ls t = all_below 16 (λ a. leb t (slice_index ls a))

-- some agent is unfinished, and a is the one of them that is picked
pub record Picks (tb st : List ℕ) (a : ℕ) : Type 0 where
  pub left : all_ended tb st ≡ false
  pub agent : a < agents tb
  pub unended : pos st a < rows tb a
  pub is : a ≡ picked_agent tb st
