-- What the family of an op says of its number, and what a row's op says of its fields. Assumes nothing.
use mathlib.Core.Path.{◌≡◌, refl, sym, subst, ap, ◌∙◌}
use mathlib.Core.Bool.{Bool, true, false, ◌&&◌, ◌||◌, cond, false≢true}
use mathlib.Core.List.{List, [], ◌∷◌}
use Prim.Native.Nat.{ℕ, zero, suc, ◌≤◌}
use native.Mathlib.Omega.{arith}
use lib.Dec.{T, leb, eqb}
use lib.ListN.{get_or}
use borrow.Author.Tests.{leb-true, eqb-true, ne_eqb}
use Rattle.tables.proofs.Tests.{either}
use Rattle.tables.proofs.Passed.{and_1, and_2, each}
use Rattle.tables.specs.Family.{family_of}
use Rattle.tables.specs.Rows.{Names, names_of, within, fields_fit, well_formed}
use Rattle.tables.specs.declared.Row.{Row}
use Rattle.tables.specs.declared.Family.{Family}
use Rattle.tables.specs.declared.Family.TheVariants.{Local, Move, Send, Receive, Unknown}

-- ---- an op from its family

abbrev InFamily : Family → ℕ → Type 0
InFamily Local op = op ≤ 0x04
InFamily Move op = (0x10 ≤ op) × (op ≤ 0x11)
InFamily Send op = op ≡ 0x20
InFamily Receive op = op ≡ 0x30
InFamily Unknown op = Unit {0}

in_family : (op : ℕ) → InFamily (family_of op) op
unfolding family_of
in_family op = go (leb 0 op && leb op 4) (leb 16 op && leb op 17) (eqb op 32) (eqb op 48) refl refl refl refl
  where
    go : (b c d e : Bool) → (leb 0 op && leb op 4) ≡ b → (leb 16 op && leb op 17) ≡ c → eqb op 32 ≡ d → eqb op 48 ≡ e
        → InFamily (cond b Local (cond c Move (cond d Send (cond e Receive Unknown)))) op
    go true c d e hb hc hd he = leb-true op 4 (and_2 (leb 0 op) (leb op 4) hb)
    go false true d e hb hc hd he =
        (leb-true 16 op (and_1 (leb 16 op) (leb op 17) hc), leb-true op 17 (and_2 (leb 16 op) (leb op 17) hc))
    go false false true e hb hc hd he = eqb-true op 32 hd
    go false false false true hb hc hd he = eqb-true op 48 he
    go false false false false hb hc hd he = tt

module _ (op : ℕ) where
  by : (f : Family) → family_of op ≡ f → InFamily f op
  by f h = subst (λ (g : Family). InFamily g op) h (in_family op)

  pub local_op : family_of op ≡ Local → op ≤ 0x04
  local_op = by Local

  pub move_op : family_of op ≡ Move → (0x10 ≤ op) × (op ≤ 0x11)
  move_op = by Move

  pub send_op : family_of op ≡ Send → op ≡ 0x20
  send_op = by Send

  pub receive_op : family_of op ≡ Receive → op ≡ 0x30
  receive_op = by Receive

-- ---- an op that is in no family

abbrev is_known : Family → Bool
is_known Local = true
is_known Move = true
is_known Send = true
is_known Receive = true
is_known Unknown = false

apart : (op n : ℕ) → T (is_known (family_of n)) → family_of op ≡ Unknown → eqb op n ≡ false
apart op n t h = ne_eqb op n (λ e. subst T (ap is_known (ap family_of (sym e) ∙ h)) t)

-- a row of the op `op` is well formed: `well_formed r` is `formed r.op r`
abbrev formed : ℕ → Row → Bool
formed op r = (names_of op).known && fields_fit r (names_of op).x (names_of op).y (names_of op).n (names_of op).k

pub unknown_row : (r : Row) → family_of r.op ≡ Unknown → well_formed r ≡ false
unfolding well_formed names_of family_of
unknown_row r h =
    rw (
      apart r.op 0x00 tt h,
      apart r.op 0x01 tt h,
      apart r.op 0x02 tt h,
      apart r.op 0x03 tt h,
      apart r.op 0x04 tt h,
      apart r.op 0x10 tt h,
      apart r.op 0x11 tt h,
      apart r.op 0x20 tt h,
      apart r.op 0x30 tt h,
    )

-- the op of a well-formed row is in 01's table
pub known_row : (r : Row) → well_formed r ≡ true → family_of r.op ≡ Unknown → ⊥
known_row r w h = false≢true (sym (unknown_row r h) ∙ w)

-- ---- a row's fields by its op

local_formed : (op : ℕ) (r : Row) → op ≤ 0x04 → (op ≡ 0 → ⊥) → formed op r ≡ fields_fit r true true false false
unfolding names_of
local_formed zero r h n = absurd (n refl)
local_formed (suc zero) r h n = refl
local_formed (suc (suc zero)) r h n = refl
local_formed (suc (suc (suc zero))) r h n = refl
local_formed (suc (suc (suc (suc zero)))) r h n = refl
local_formed (suc (suc (suc (suc (suc op))))) r h n = absurd (omega arith)

module _ (r : Row) where
  pub set_row : r.op ≡ 0 → well_formed r ≡ fields_fit r true false false true
  unfolding well_formed names_of
  set_row h = rw h

  pub two_registers_row : family_of r.op ≡ Local → (r.op ≡ 0 → ⊥) → well_formed r ≡ fields_fit r true true false false
  unfolding well_formed
  two_registers_row h n = local_formed r.op r (local_op r.op h) n

  pub skip_row : r.op ≡ 0x10 → well_formed r ≡ fields_fit r true false true false
  unfolding well_formed names_of
  skip_row h = rw h

  pub jump_row : family_of r.op ≡ Move → (r.op ≡ 0x10 → ⊥) → well_formed r ≡ fields_fit r false false true false
  unfolding well_formed names_of
  jump_row h n = let m = move_op r.op h in let op : r.op ≡ 0x11 = omega (arith, n) in rw op

  pub send_row : family_of r.op ≡ Send → well_formed r ≡ fields_fit r true false false true
  unfolding well_formed names_of
  send_row h = rw (send_op r.op h)

  pub receive_row : family_of r.op ≡ Receive → well_formed r ≡ fields_fit r true false true true
  unfolding well_formed names_of
  receive_row h = rw (receive_op r.op h)

-- ---- the ranges of a well-formed row's fields

-- the tests of `fields_fit` at the names of a row's op
abbrev field_tests : Row → List Bool
field_tests r =
    let u = names_of r.op in
    within u.x 3 r.x ∷ within u.y 3 r.y ∷ within u.n 31 r.n ∷ (u.k || eqb r.k 0) ∷ []

within_le : (named : Bool) (limit v : ℕ) → within named limit v ≡ true → v ≤ limit
unfolding within
within_le true limit v h = leb-true v limit h
within_le false limit v h = let e = eqb-true v 0 h in omega arith

-- the op is that of a row that only goes on at p+1: no SKIP, JUMP or RECV
abbrev pub Plain : ℕ → Type 0
Plain op = (op ≡ 0x10 → ⊥) × (op ≡ 0x11 → ⊥) × (op ≡ 0x30 → ⊥)

no_n : (op : ℕ) → Plain op → (names_of op).n ≡ false
unfolding names_of
no_n op p =
    rw (ne_eqb op 0x10 p.0, ne_eqb op 0x11 p.1, ne_eqb op 0x30 p.2)
    (either unnamed (eqb op 0x00) _ _ refl
    (either unnamed (eqb op 0x01) _ _ refl
    (either unnamed (eqb op 0x02) _ _ refl
    (either unnamed (eqb op 0x03) _ _ refl
    (either unnamed (eqb op 0x04) _ _ refl
    (either unnamed (eqb op 0x20) _ _ refl refl))))))
  where
    unnamed : Names → Type 0
    unnamed u = u.n ≡ false

module _ (r : Row) (w : well_formed r ≡ true) where
  field_passes : (k : ℕ) → get_or (field_tests r) k true ≡ true
  unfolding well_formed fields_fit
  field_passes k = each (field_tests r) (and_2 (names_of r.op).known _ w) k

  pub x_range : r.x ≤ 3
  x_range = within_le (names_of r.op).x 3 r.x (field_passes 0)

  pub y_range : r.y ≤ 3
  y_range = within_le (names_of r.op).y 3 r.y (field_passes 1)

  pub n_range : r.n ≤ 31
  n_range = within_le (names_of r.op).n 31 r.n (field_passes 2)

  -- such a row does not name n, which is 0
  pub n_unnamed : Plain r.op → r.n ≡ 0
  unfolding within
  n_unnamed p = eqb-true r.n 0 (subst (λ (b : Bool). within b 31 r.n ≡ true) (no_n r.op p) (field_passes 2))
