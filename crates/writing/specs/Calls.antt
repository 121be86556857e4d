-- What `write` replies and leaves, as one statement over its inputs, its reply and every lent byte afterwards. Assumes nothing.
use Rattle.std.specs.Prelude.{◌≡◌, true, false, Result, Ok, Err, List, ◌++◌, ℕ, zero, suc, ltb, length, take, drop}
use Rattle.std.proofs.Common.{sym, ◌∙◌}
use Rattle.tables.specs.Layout.{table_words}
use Rattle.tables.specs.Replies.{number_of}
use Rattle.tables.specs.Calls.{check_reply}
use Rattle.writing.specs.Writer.{text_of}
use Rattle.writing.specs.declared.Wrote.{Wrote}
use Rattle.writing.specs.declared.Unwritten.{Unwritten}
use Rattle.writing.specs.declared.Unwritten.TheVariants.{Refused, TooLong}

-- a reply with the length that it tells, and the bytes of the lent text afterwards
pub record WriteOutcome : Type 0 where
  pub wrote : Wrote
  pub text : List ℕ

abbrev pub wrote : (reply length : ℕ) → Wrote
wrote r n = record { reply = r; length = n }

-- what a call tells C, by its result: its text's length, or why it is not written
abbrev pub wrote_of : Result ℕ Unwritten → Wrote
wrote_of (Ok n) = wrote 0 n
wrote_of (Err (Refused r)) = wrote (number_of r) 0
wrote_of (Err (TooLong n)) = wrote 20 n

abbrev pub write_outcome : Wrote → List ℕ → WriteOutcome
write_outcome w text = record { wrote = w; text = text }

-- "20 where the text is longer than the buffer, told with the length needed"; "Bytes after the text stay as they were."
unfoldable pub bytes_into : (bytes text : List ℕ) → WriteOutcome
bytes_into bs text =
    elim (ltb (length text) (length bs)) [
      | true ↦ write_outcome (wrote 20 (length bs)) text
      | false ↦ write_outcome (wrote 0 (length bs)) (bs ++ drop (length bs) text)
    ]

-- "1 for too few table words, 8 for bad ones", as `check` replies, with the length 0; "then 20"
unfoldable pub write_into : (table text : List ℕ) → WriteOutcome
write_into tb text = elim (check_reply tb) [ zero ↦ bytes_into (text_of (take table_words tb)) text | suc r ↦ write_outcome (wrote (suc r) 0) text ]

abbrev pub Written : (table text : List ℕ) (w : Wrote) (after : List ℕ) → Type 0
Written tb text w after = write_outcome w after ≡ write_into tb text

pub only_written : (tb text : List ℕ) (v w : Wrote) (after other : List ℕ) → Written tb text v after → Written tb text w other
    → write_outcome v after ≡ write_outcome w other
only_written tb text v w after other p q = p ∙ sym q
