-- What `read` replies and leaves, as one statement over its inputs, its reply and every lent word afterwards. Assumes nothing.
use Rattle.std.specs.Prelude.{◌≡◌, true, false, List, ◌++◌, ℕ, zero, suc, ltb, length, drop}
use Rattle.std.proofs.Common.{sym, ◌∙◌}
use Rattle.tables.specs.Layout.{table_words}
use Rattle.tables.specs.Frames.{Frame, frames_of}
use Rattle.reading.specs.Reader.{told, frames_reply, table_of}
use Rattle.reading.specs.declared.Told.{Told}

-- a reply with its line, and the words of the lent table afterwards
pub record ReadOutcome : Type 0 where
  pub told : Told
  pub table : List ℕ

abbrev pub read_outcome : Told → List ℕ → ReadOutcome
read_outcome t tb = record { told = t; table = tb }

-- the reply and the line, and the table's words with what stands past them: replaced where the reply is 0, and otherwise as they were
unfoldable pub frames_into : List ℕ → List Frame → ReadOutcome
frames_into tb fs =
    elim (frames_reply fs).reply [
      | zero ↦ read_outcome (frames_reply fs) (table_of fs ++ drop table_words tb)
      | suc r ↦ read_outcome (frames_reply fs) tb
    ]

-- "reading, 1 first, then 2 and 3, then 4 to 7", with T-01's 18 and 19 between 2 and 3, and by T-03 7 once all rows have passed 4 to 6
unfoldable pub read_into : (text table : List ℕ) → ReadOutcome
read_into text tb = elim (ltb (length tb) table_words) [ true ↦ read_outcome (told 1 0) tb | false ↦ frames_into tb (frames_of text) ]

abbrev pub Read : (text table : List ℕ) (t : Told) (after : List ℕ) → Type 0
Read text tb t after = read_outcome t after ≡ read_into text tb

pub only_read : (text tb : List ℕ) (t u : Told) (after other : List ℕ) → Read text tb t after → Read text tb u other
    → read_outcome t after ≡ read_outcome u other
only_read text tb t u after other p q = p ∙ sym q
