-- Which agent can be run, and the choice that a caller is given. Assumes nothing.
use Rattle.std.specs.Prelude.{ℕ, max, Bool, not, ◌&&◌, List}
use Rattle.tables.specs.Basics.{all_below, first_below}
use Rattle.tables.specs.Layout.{agents}
use Rattle.choices.specs.State.{clock}
use Rattle.choices.specs.Fit.{unfinished, current, in_time}

-- the later of the clock and its early: the soonest that agent a's row may be run at
abbrev pub soonest : (tb st : List ℕ) → ℕ → ℕ
soonest tb st a = max (clock st) (current tb st a).early

-- some time would be accepted for agent a: the soonest is in time
unfoldable pub can_go : (tb st : List ℕ) → ℕ → Bool
can_go tb st a = unfinished tb st a && in_time tb st (soonest tb st a)

-- all agents have ended
unfoldable pub all_ended : (tb st : List ℕ) → Bool
all_ended tb st = all_below (agents tb) (λ a. not (unfinished tb st a))

-- the unfinished agent with the least late: its row's late is not above that of any unfinished agent's row
unfoldable pub has_least_late : (tb st : List ℕ) → ℕ → Bool
has_least_late tb st a = unfinished tb st a && in_time tb st (current tb st a).late

-- of equal lates the lowest number
unfoldable pub picked_agent : (tb st : List ℕ) → ℕ
picked_agent tb st = first_below (agents tb) (has_least_late tb st)
