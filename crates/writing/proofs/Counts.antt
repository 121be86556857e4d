-- The frames in a table's words, counted: the rows and the agents that come next. Assumes nothing.
use mathlib.Core.Path.{◌≡◌, refl, ap, ◌∙◌}
use mathlib.Core.List.{List, [], ◌∷◌, ◌++◌}
use Prim.Native.Nat.{ℕ, zero, suc}
use Rattle.tables.specs.Layout.{rows}
use Rattle.tables.specs.Frames.{Frame, opens, gives, ends, malformed}
use Rattle.reading.specs.Reader.{rows_next}
use Rattle.writing.specs.Writer.{rows_from, agents_from}

-- the agents that are still to be opened before the end
unfoldable pub agents_next : List Frame → ℕ
agents_next [] = 0
agents_next (opens b ws ∷ fs) = suc (agents_next fs)
agents_next (gives b ws ∷ fs) = agents_next fs
agents_next (ends ∷ fs) = 0
agents_next (malformed w ∷ fs) = 0

-- the rows that come before what n agents begin with
pub rows_counted : (tb : List ℕ) (c a i b n : ℕ) → rows_next (rows_from tb a i c ++ agents_from tb b n) ≡ c
unfolding rows_next rows_from agents_from
rows_counted tb zero a i b zero = refl
rows_counted tb zero a i b (suc n) = refl
rows_counted tb (suc c) a i b n = ap suc (rows_counted tb c a (suc i) b n)

rows_passed : (tb : List ℕ) (c a i : ℕ) (gs : List Frame) → agents_next (rows_from tb a i c ++ gs) ≡ agents_next gs
unfolding agents_next rows_from
rows_passed tb zero a i gs = refl
rows_passed tb (suc c) a i gs = rows_passed tb c a (suc i) gs

pub agents_counted : (tb : List ℕ) (n a : ℕ) → agents_next (agents_from tb a n) ≡ n
unfolding agents_next agents_from
agents_counted tb zero a = refl
agents_counted tb (suc n) a = ap suc (rows_passed tb (rows tb a) a 0 (agents_from tb (suc a) n) ∙ agents_counted tb n (suc a))
