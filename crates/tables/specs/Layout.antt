-- The 2,129 words of a table: where each thing stands. Assumes nothing.
use Rattle.std.specs.Prelude.{ℕ, ◌+◌, ◌*◌, ◌/◌, ◌%◌, ◌^◌, List, get_or}
use Rattle.tables.specs.declared.Row.{Row}
use Rattle.tables.specs.declared.RowWords.{RowWords}

abbrev pub table_words : ℕ
table_words = 2129

-- "Word 0 is the number of agents; 16 row counts; 64 starting registers (agent by agent)"
abbrev pub agents_place : ℕ
agents_place = 0

abbrev pub agents : List ℕ → ℕ
agents tb = get_or tb agents_place 0

abbrev pub count_place : ℕ → ℕ
count_place a = 1 + a

abbrev pub rows : List ℕ → ℕ → ℕ
rows tb a = get_or tb (count_place a) 0

abbrev pub start_place : ℕ → ℕ
start_place a = 17 + 4 * a

-- "512 rows of four words, row i of agent a at place 32a+i": where that row begins
abbrev pub row_place : ℕ → ℕ → ℕ
row_place a i = 81 + 4 * (32 * a + i)

-- "code word (bytes op, x, y, n from the highest), k, early, late"
unfoldable pub row_of : ℕ → ℕ → ℕ → ℕ → Row
row_of code k e l = record {
  op = code / 2 ^ 24;
  x = code / 2 ^ 16 % 256;
  y = code / 2 ^ 8 % 256;
  n = code % 256;
  k = k;
  early = e;
  late = l;
}

-- a row from its words
abbrev pub row_from : RowWords → Row
row_from w = row_of w.code w.k w.early w.late

-- the row whose four words stand in a list
abbrev pub row_in : List ℕ → Row
row_in ws = row_of (get_or ws 0 0) (get_or ws 1 0) (get_or ws 2 0) (get_or ws 3 0)

-- row i of agent a, taken apart
abbrev pub row : List ℕ → ℕ → ℕ → Row
row tb a i =
    row_of
    (get_or tb (row_place a i) 0)
    (get_or tb (row_place a i + 1) 0)
    (get_or tb (row_place a i + 2) 0)
    (get_or tb (row_place a i + 3) 0)
