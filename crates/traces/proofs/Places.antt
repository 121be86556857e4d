-- The table's part of an input, a line at a time: how many bytes and lines it has. Assumes nothing.
use mathlib.Core.Path.{◌≡◌, refl, sym, ◌∙◌}
use mathlib.Core.Bool.{true, false}
use mathlib.Core.List.{List}
use Prim.Native.Nat.{ℕ, ◌+◌, ◌≤◌, ◌<◌}
use native.Mathlib.Omega.{arith}
use lib.ListN.{length, take, drop, take-append-drop, drop_of_length-le}
use lib.Seq.{drop-drop}
use Rattle.tables.specs.Lines.{end_line, lines, same}
use Rattle.tables.specs.Heads.{end_at, line_length}
use Rattle.tables.proofs.Lines.{same_eq}
use Rattle.tables.proofs.Newlines.{lines_end, no_end_lem}
use Rattle.tables.proofs.FirstLine.{splits_some, first_line, line_whole, some_left}
use Rattle.traces.specs.Input.{table_bytes, table_text}

-- ---- the table's text

module _ (s : List ℕ) where
  bytes_end : same (take 3 s) end_line ≡ true → table_bytes (lines s) ≡ 3
  unfolding table_bytes same
  bytes_end h = rw (lines_end s h)

  bytes_next : 0 < length s → same (take 3 s) end_line ≡ false → table_bytes (lines s) ≡ line_length s + table_bytes (lines (drop (line_length s) s))
  unfolding table_bytes
  bytes_next h k =
      let n = line_length s in
      let w = line_whole s in
      rw (first_line s h, no_end_lem s (take n s) (drop n s) (sym (take-append-drop n s)) k, w)

  count_end : same (take 3 s) end_line ≡ true → length (lines (table_text s)) ≡ 1
  unfolding table_text lines
  count_end h = rw (bytes_end h, same_eq (take 3 s) end_line h)

  count_next : 0 < length s → same (take 3 s) end_line ≡ false → length (lines (table_text s)) ≡ 1 + length (lines (table_text (drop (line_length s) s)))
  unfolding table_text
  count_next h k =
      let x = table_bytes (lines (drop (line_length s) s)) in
      rw (bytes_next h k, splits_some s x h) (omega arith)

-- the end line, or the first line, at a place of a text
module _ (text : List ℕ) (p : ℕ) (h : p < length text) where
  pub end_bytes : end_at text p ≡ true → p + 3 ≡ p + table_bytes (lines (drop p text))
  unfolding end_at
  end_bytes e = rw (bytes_end (drop p text) e)

  pub end_count : end_at text p ≡ true → 1 ≡ length (lines (table_text (drop p text)))
  unfolding end_at
  end_count e = sym (count_end (drop p text) e)

  pub table_bytes_lem : end_at text p ≡ false
      → p + line_length (drop p text) + table_bytes (lines (drop (p + line_length (drop p text)) text)) ≡ p + table_bytes (lines (drop p text))
  unfolding end_at
  table_bytes_lem e = rw (bytes_next (drop p text) (some_left text p h) e, drop-drop (line_length (drop p text)) p text) (omega arith)

  pub table_count : end_at text p ≡ false
      → 1 + length (lines (table_text (drop (p + line_length (drop p text)) text))) ≡ length (lines (table_text (drop p text)))
  unfolding end_at
  table_count e = sym (count_next (drop p text) (some_left text p h) e ∙ rw (drop-drop (line_length (drop p text)) p text))

pub nothing_left : (text : List ℕ) (p : ℕ) → length text ≤ p → (table_bytes (lines (drop p text)) ≡ 0) × (length (lines (table_text (drop p text))) ≡ 0)
unfolding table_text table_bytes lines
nothing_left text p h = rw (drop_of_length-le text {i = p} h) (refl, refl)
