-- The facts of a row that is accepted. Assumes nothing.
use mathlib.Core.Path.{◌≡◌}
use mathlib.Core.Bool.{true}
use mathlib.Core.List.{List}
use Prim.Native.Nat.{ℕ, ◌+◌, ◌≤◌, ◌<◌}
use native.Mathlib.Omega.{arith}
use Rattle.std.proofs.lemmas.Bool.Decides.{nat_tests}
use Rattle.tables.specs.Basics.{first}
use Rattle.tables.specs.Layout.{rows, row}
use Rattle.tables.specs.Rows.{well_formed, row_reply}
use Rattle.tables.specs.Table.{row_reply_at}
use Rattle.tables.specs.declared.Row.{Row}

pub record RowFits (r : Row) (i c : ℕ) : Type 0 where
  pub formed : well_formed r ≡ true
  pub target : i + 1 + r.n ≤ c
  pub window : r.early < r.late
  pub bound : r.late ≤ 1000000

pub row_fits : (r : Row) (i c : ℕ) → row_reply r i c ≡ 0 → RowFits r i c
unfolding row_reply first
row_fits r i c h = record {
  formed = grind (arith, nat_tests);
  target = grind (arith, nat_tests);
  window = grind (arith, nat_tests);
  bound = grind (arith, nat_tests);
}

-- a row of a table that is accepted, 4 to 6
pub passed_formed : (tb : List ℕ) (a i : ℕ) → row_reply_at tb a i ≡ 0 → well_formed (row tb a i) ≡ true
unfolding row_reply_at
passed_formed tb a i h = (row_fits (row tb a i) i (rows tb a) h).formed
