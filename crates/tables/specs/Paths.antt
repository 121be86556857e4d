-- Paths of rows: where an agent can come to from a row, whatever its registers hold and whatever is visible to it. proofs/Paths.antt proves each law. Assumes nothing.
use Rattle.std.specs.Prelude.{◌≡◌, true, List, ℕ, ◌+◌, ◌≤◌, ◌<◌}
use Rattle.tables.specs.Basics.{OneOf}
use Rattle.tables.specs.Layout.{agents, rows, row}
use Rattle.tables.specs.Rows.{goes_on_to}
use Rattle.tables.specs.Table.{climbs, good_table}

-- by steps from one place to another, one after the other, or none
pub data Path {A : Type 0} (Goes : A → A → Type 0) : A → A → Type 0 where
  here : {x : A} → Path Goes x x
  on : {x y z : A} → Goes x y → Path Goes y z → Path Goes x z

-- row i of agent a can go on to row j, or to the end
abbrev pub GoesOn : List ℕ → (a i j : ℕ) → Type 0
GoesOn tb a i j = (i < rows tb a) × OneOf j (goes_on_to (row tb a i) i)

-- along any path of rows of an accepted table early and late do not fall
abbrev pub WindowsClimb : Type 0
WindowsClimb = (tb : List ℕ) → good_table tb ≡ true → (a : ℕ) → a < agents tb → (i k : ℕ) → Path (GoesOn tb a) i k → k < rows tb a
    → ((row tb a i).early ≤ (row tb a k).early) × ((row tb a i).late ≤ (row tb a k).late)

-- 01's rule is enough: where no row's early or late is below that of the row before it, no row goes on to an earlier window. So no table that was accepted before T-03 is refused since.
abbrev pub RisingIsEnough : Type 0
RisingIsEnough = (tb : List ℕ) (a : ℕ)
    → ((i : ℕ) → i + 1 < rows tb a → ((row tb a i).early ≤ (row tb a (i + 1)).early) × ((row tb a i).late ≤ (row tb a (i + 1)).late))
    → (i : ℕ) → i < rows tb a → climbs tb a i ≡ true
