-- The rules of a row, replies 4 to 6, and the rows that it can go on to, of which reply 7 speaks. Assumes nothing.
use Rattle.std.specs.Prelude.{Bool, true, false, not, ◌&&◌, ◌||◌, cond, List, [], ◌∷◌, ℕ, ◌+◌, ltb, leb, eqb}
use Rattle.tables.specs.Basics.{first, ◌⇒◌, every}
use Rattle.tables.specs.declared.Row.{Row}

-- which of x, y, n and k the row of an op names, and whether the op is in 01's table at all
pub record Names : Type 0 where
  pub known : Bool
  pub x : Bool
  pub y : Bool
  pub n : Bool
  pub k : Bool

abbrev names : (known x y n k : Bool) → Names
names o x y n k = record { known = o; x = x; y = y; n = n; k = k }

-- 01's table of rows, its first two columns
unfoldable pub names_of : ℕ → Names
names_of op =
    cond (eqb op 0x00) (names true true false false true)  -- SET x, k
    (cond (eqb op 0x01) (names true true true false false)  -- ADD x, y
    (cond (eqb op 0x02) (names true true true false false)  -- SUB x, y
    (cond (eqb op 0x03) (names true true true false false)  -- ONES x, y
    (cond (eqb op 0x04) (names true true true false false)  -- LOW x, y
    (cond (eqb op 0x10) (names true true false true false)  -- SKIP x, n
    (cond (eqb op 0x11) (names true false false true false)  -- JUMP n
    (cond (eqb op 0x20) (names true true false false true)  -- SEND x, k
    (cond (eqb op 0x30) (names true true false true true)  -- RECV x, k, n
    (names false false false false false)))))))))

-- a field is at most its limit where the row names it, and 0 where it does not
unfoldable pub within : Bool → ℕ → ℕ → Bool
within named limit v = cond named (leb v limit) (eqb v 0)

-- "x and y are registers 0 to 3, n is 0 to 31. Fields not named for a row must be 0."
unfoldable pub fields_fit : Row → (x y n k : Bool) → Bool
fields_fit r x y n k = every (within x 3 r.x ∷ within y 3 r.y ∷ within n 31 r.n ∷ (k || eqb r.k 0) ∷ [])

-- the op is known, and its row's fields are as they must be
unfoldable pub well_formed : Row → Bool
well_formed r = let u = names_of r.op in u.known && fields_fit r u.x u.y u.n u.k

-- A row's refusal, or 0: row r at place i of an agent of c rows.
-- An unused n is 0, so p+1+n is the farthest that any row goes on to.
unfoldable pub row_reply : Row → (i c : ℕ) → ℕ
row_reply r i c =
    first
    ((not (well_formed r) ⇒ 4)
    ∷ (ltb c (i + 1 + r.n) ⇒ 5)
    ∷ (leb r.late r.early ⇒ 6)
    ∷ (ltb 1000000 r.late ⇒ 6)
    ∷ [])

-- The rows that row r at place p can go on to, whatever its agent holds and whatever is visible to it: 01's table of rows, its last column.
unfoldable pub goes_on_to : Row → (p : ℕ) → List ℕ
goes_on_to r p =
    cond (eqb r.op 0x10) ((p + 1) ∷ (p + 1 + r.n) ∷ [])  -- SKIP x, n
    (cond (eqb r.op 0x11) ((p + 1 + r.n) ∷ [])  -- JUMP n
    (cond (eqb r.op 0x30) ((p + 1) ∷ (p + 1 + r.n) ∷ [])  -- RECV x, k, n
    ((p + 1) ∷ [])))  -- "All rows but SKIP, JUMP and an empty RECV go on at p+1"

-- the window of row r is not above that of row q
unfoldable pub not_above : Row → Row → Bool
not_above r q = leb r.early q.early && leb r.late q.late
