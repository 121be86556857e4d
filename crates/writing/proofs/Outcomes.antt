-- The outcome of a write, by the reply of `check` and the room that there is. Assumes nothing.
use mathlib.Core.Path.{◌≡◌, refl, ap, ◌∙◌}
use mathlib.Core.Bool.{true}
use mathlib.Core.List.{List, ◌++◌}
use Prim.Native.Nat.{ℕ, zero, suc, ◌≤◌, ◌<◌}
use lib.ListN.{length, take, drop}
use lib.Seq.{length-take-le}
use borrow.Author.Tests.{lt-ltb, le-ltb}
use Rattle.tables.specs.Layout.{table_words}
use Rattle.tables.specs.Table.{good_table}
use Rattle.tables.specs.Calls.{check_reply}
use Rattle.tables.proofs.Good.{checked_good}
use Rattle.writing.specs.Writer.{text_of}
use Rattle.writing.specs.Calls.{WriteOutcome, wrote, write_outcome, bytes_into, write_into}

-- the words of a table that is checked
pub checked_words : (tb : List ℕ) → check_reply tb ≡ 0 → (length (take table_words tb) ≡ table_words) × (good_table (take table_words tb) ≡ true)
checked_words tb ok = let g = checked_good tb ok in (length-take-le table_words tb g.0, g.1)

module _ (bs text : List ℕ) where
  no_room : length text < length bs → bytes_into bs text ≡ write_outcome (wrote 20 (length bs)) text
  unfolding bytes_into
  no_room h = rw (lt-ltb _ _ h, bytes_into)

  with_room : length bs ≤ length text → bytes_into bs text ≡ write_outcome (wrote 0 (length bs)) (bs ++ drop (length bs) text)
  unfolding bytes_into
  with_room h = rw (le-ltb _ _ h, bytes_into)

module _ (tb text : List ℕ) where
  abbrev bytes : List ℕ
  bytes = text_of (take table_words tb)

  abbrev by_reply : ℕ → WriteOutcome
  by_reply m = elim m [ zero ↦ bytes_into bytes text | suc r ↦ write_outcome (wrote (suc r) 0) text ]

  pub table_refused : (r : ℕ) → r ≡ check_reply tb → (r ≡ 0 → ⊥) → write_outcome (wrote r 0) text ≡ write_into tb text
  unfolding write_into
  table_refused zero e k = absurd (k refl)
  table_refused (suc r) e k = ap by_reply e

  module _ (ok : check_reply tb ≡ 0) where
    accepted : write_into tb text ≡ bytes_into bytes text
    unfolding write_into
    accepted = ap by_reply ok

    pub too_long : length text < length bytes → write_into tb text ≡ write_outcome (wrote 20 (length bytes)) text
    too_long h = accepted ∙ no_room bytes text h

    pub all_written : length bytes ≤ length text → write_into tb text ≡ write_outcome (wrote 0 (length bytes)) (bytes ++ drop (length bytes) text)
    all_written h = accepted ∙ with_room bytes text h
