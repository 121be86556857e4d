-- What `check` replies, as one statement over its input and its reply. Assumes nothing.
use Rattle.std.specs.Prelude.{◌≡◌, not, List, [], ◌∷◌, ℕ, ltb, length, take}
use Rattle.std.proofs.Common.{sym, ◌∙◌}
use Rattle.tables.specs.Basics.{first, ◌⇒◌}
use Rattle.tables.specs.Layout.{table_words}
use Rattle.tables.specs.Table.{good_table}

-- "Check and start, 1 then 8." Words past the table's are not looked at.
unfoldable pub check_reply : List ℕ → ℕ
check_reply tb = first ((ltb (length tb) table_words ⇒ 1) ∷ (not (good_table (take table_words tb)) ⇒ 8) ∷ [])

abbrev pub Checked : (table : List ℕ) (reply : ℕ) → Type 0
Checked tb r = r ≡ check_reply tb

pub only_checked : (tb : List ℕ) (r s : ℕ) → Checked tb r → Checked tb s → r ≡ s
only_checked tb r s p q = p ∙ sym q
