-- What stands where after an agent or a row is put into a table. Assumes nothing.
use mathlib.Core.Path.{◌≡◌, ◌∙◌}
use mathlib.Core.List.{List}
use Prim.Native.Nat.{ℕ, ◌+◌, ◌≤◌, ◌<◌}
use native.Mathlib.Omega.{arith}
use lib.ListN.{length, get_or, set, length-set}
use lib.Seq.{sets, length-sets, get_or-set_same, get_or-set_other}
use Rattle.tables.specs.Layout.{agents_place, agents, count_place, rows, start_place, row_place, table_words}
use Rattle.tables.proofs.Good.{Zero}
use Rattle.tables.proofs.Stored.{sets_below, sets_above}

-- ---- agent b is opened, with the registers ws

abbrev pub with_opened : List ℕ → ℕ → List ℕ → List ℕ
with_opened tb b ws = sets (set tb agents_place (b + 1)) (start_place b) ws

module _ (tb : List ℕ) (b : ℕ) (ws : List ℕ) where
  pub opened_length : length (with_opened tb b ws) ≡ length tb
  opened_length = length-sets (set tb agents_place (b + 1)) (start_place b) ws ∙ length-set tb agents_place (b + 1)

  pub opened_below : (k : ℕ) → 1 ≤ k → k < start_place b → get_or (with_opened tb b ws) k 0 ≡ get_or tb k 0
  opened_below k h l = sets_below (set tb agents_place (b + 1)) (start_place b) ws k l ∙ get_or-set_other tb agents_place k (b + 1) 0 (λ e. omega arith)

  pub opened_above : (k : ℕ) → start_place b + length ws ≤ k → get_or (with_opened tb b ws) k 0 ≡ get_or tb k 0
  opened_above k h = sets_above (set tb agents_place (b + 1)) (start_place b) ws k h ∙ get_or-set_other tb agents_place k (b + 1) 0 (λ e. omega arith)

  opened_count : 0 < length tb → agents (with_opened tb b ws) ≡ b + 1
  opened_count h = sets_below (set tb agents_place (b + 1)) (start_place b) ws 0 (omega arith) ∙ get_or-set_same tb agents_place (b + 1) 0 h

-- ---- row i of agent b is given, with the words ws

abbrev pub with_given : List ℕ → (b i : ℕ) → List ℕ → List ℕ
with_given tb b i ws = sets (set tb (count_place b) (i + 1)) (row_place b i) ws

module _ (tb : List ℕ) (b i : ℕ) (ws : List ℕ) where
  pub given_length : length (with_given tb b i ws) ≡ length tb
  given_length = length-sets (set tb (count_place b) (i + 1)) (row_place b i) ws ∙ length-set tb (count_place b) (i + 1)

  pub given_below : (k : ℕ) → (k ≡ count_place b → ⊥) → k < row_place b i → get_or (with_given tb b i ws) k 0 ≡ get_or tb k 0
  given_below k n h = sets_below (set tb (count_place b) (i + 1)) (row_place b i) ws k h ∙ get_or-set_other tb (count_place b) k (i + 1) 0 n

  pub given_above : b < 16 → (k : ℕ) → row_place b i + length ws ≤ k → get_or (with_given tb b i ws) k 0 ≡ get_or tb k 0
  given_above r k h = sets_above (set tb (count_place b) (i + 1)) (row_place b i) ws k h ∙ get_or-set_other tb (count_place b) k (i + 1) 0 (λ q. omega arith)

  given_count : b < 16 → length tb ≡ table_words → rows (with_given tb b i ws) b ≡ i + 1
  given_count r l = sets_below (set tb (count_place b) (i + 1)) (row_place b i) ws (count_place b) (omega arith) ∙ get_or-set_same tb (count_place b) (i + 1) 0 (omega arith)

-- ---- a table while frames are put into it: agent b is the last, with i rows so far, and the counts of those to come are 0

pub record Now (tb : List ℕ) (b i : ℕ) : Type 0 where
  pub words : length tb ≡ table_words
  pub count : agents tb ≡ b + 1
  pub rows_now : rows tb b ≡ i
  pub counts_past : Zero tb (count_place (b + 1)) 17

pub now_opened : (tb : List ℕ) (b : ℕ) (ws : List ℕ) → length tb ≡ table_words → b < 16 → Zero tb (count_place b) 17
    → Now (with_opened tb b ws) b 0
now_opened tb b ws words room past = record {
  words = opened_length tb b ws ∙ words;
  count = opened_count tb b ws (omega arith);
  rows_now = opened_below tb b ws (count_place b) (omega arith) (omega arith) ∙ past (count_place b) (omega arith) (omega arith);
  counts_past = λ k h l. opened_below tb b ws k (omega arith) (omega arith) ∙ past k (omega arith) l;
}

pub now_given : (tb : List ℕ) (b i : ℕ) (ws : List ℕ) → Now tb b i → b < 16 → Now (with_given tb b i ws) b (i + 1)
now_given tb b i ws t room = record {
  words = given_length tb b i ws ∙ t.words;
  count = given_below tb b i ws 0 (λ q. omega arith) (omega arith) ∙ t.count;
  rows_now = given_count tb b i ws room t.words;
  counts_past = λ k h m. given_below tb b i ws k (λ q. omega arith) (omega arith) ∙ t.counts_past k h m;
}
