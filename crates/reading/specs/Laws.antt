-- A law of two public calls: what `read` accepts, `check` accepts. proofs/Laws.antt proves it. Assumes nothing.
use Rattle.std.specs.Prelude.{◌≡◌, List, ℕ}
use Rattle.tables.specs.Calls.{check_reply}
use Rattle.reading.specs.Calls.{read_into}

-- for every text and all lent words: where `read` replies 0, `check` replies 0 to the words that it leaves
abbrev pub ReadIsChecked : Type 0
ReadIsChecked = (text tb : List ℕ) → (read_into text tb).told.reply ≡ 0 → check_reply (read_into text tb).table ≡ 0
