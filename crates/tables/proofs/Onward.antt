-- The rows that a row can go on to: where they stand, rule 7 by the two that there are at most, and what it says of each. Assumes nothing.
use mathlib.Core.Path.{◌≡◌, refl, sym, ap, ◌∙◌}
use mathlib.Core.Logic.{◌⊎◌, inl, inr}
use mathlib.Core.Bool.{Bool, true, false, ◌&&◌, cond}
use mathlib.Core.List.{List, [], ◌∷◌, map}
use Prim.Native.Nat.{ℕ, ◌+◌, ◌≤◌, ◌<◌}
use native.Mathlib.Omega.{arith}
use lib.Dec.{leb, eqb}
use borrow.Author.Tests.{leb-true, leb-false, le-leb, lt-leb, eqb-true, eqb-false}
use Rattle.tables.proofs.Tests.{or_left, and_both}
use Rattle.tables.proofs.Passed.{and_1, and_2, every_go, every_stop, every_last}
use Rattle.tables.proofs.Families.{Plain, n_unnamed}
use Rattle.tables.proofs.RowReplies.{passed_formed}
use Rattle.tables.specs.Basics.{OneOf, every}
use Rattle.tables.specs.Layout.{rows, row}
use Rattle.tables.specs.Rows.{well_formed, goes_on_to, not_above}
use Rattle.tables.specs.Table.{row_reply_at, climbs_to, climbs}
use Rattle.tables.specs.declared.Row.{Row}

-- ---- the three kinds of rows

module _ (r : Row) (p : ℕ) where
  pub data Onward : List ℕ → Type 0 where
    -- SKIP and RECV
    both : (r.op ≡ 0x10) ⊎ (r.op ≡ 0x30) → Onward ((p + 1) ∷ (p + 1 + r.n) ∷ [])
    -- JUMP
    far : r.op ≡ 0x11 → Onward ((p + 1 + r.n) ∷ [])
    near : Plain r.op → Onward ((p + 1) ∷ [])

  pub onward : Onward (goes_on_to r p)
  unfolding goes_on_to
  onward = go (eqb r.op 0x10) (eqb r.op 0x11) (eqb r.op 0x30) refl refl refl
    where
      go : (s j v : Bool) → eqb r.op 0x10 ≡ s → eqb r.op 0x11 ≡ j → eqb r.op 0x30 ≡ v
          → Onward (cond s ((p + 1) ∷ (p + 1 + r.n) ∷ []) (cond j ((p + 1 + r.n) ∷ []) (cond v ((p + 1) ∷ (p + 1 + r.n) ∷ []) ((p + 1) ∷ []))))
      go true j v hs hj hv = both (inl (eqb-true r.op 0x10 hs))
      go false true v hs hj hv = far (eqb-true r.op 0x11 hj)
      go false false true hs hj hv = both (inr (eqb-true r.op 0x30 hv))
      go false false false hs hj hv = near (eqb-false r.op 0x10 hs, eqb-false r.op 0x11 hj, eqb-false r.op 0x30 hv)

-- a SKIP or a RECV is no JUMP
no_jump : (op : ℕ) → (op ≡ 0x10) ⊎ (op ≡ 0x30) → op ≡ 0x11 → ⊥
no_jump op (inl e) j = omega arith
no_jump op (inr e) j = omega arith

-- a row goes on to a later one, p+1+n at the farthest
pub rises : (r : Row) (p j : ℕ) → OneOf j (goes_on_to r p) → (p < j) × (j ≤ p + 1 + r.n)
rises r p j one = go (goes_on_to r p) (onward r p) one
  where
    go : (js : List ℕ) → Onward r p js → OneOf j js → (p < j) × (j ≤ p + 1 + r.n)
    go js (both o) (inl e) = (omega arith, omega arith)
    go js (both o) (inr (inl e)) = (omega arith, omega arith)
    go js (both o) (inr (inr none)) = absurd none
    go js (far o) (inl e) = (omega arith, omega arith)
    go js (far o) (inr none) = absurd none
    go js (near o) (inl e) = (omega arith, omega arith)
    go js (near o) (inr none) = absurd none

-- ---- rule 7

-- a test of each of a list's numbers holds of one of them
each_of : (f : ℕ → Bool) (js : List ℕ) → every (map f js) ≡ true → (j : ℕ) → OneOf j js → f j ≡ true
unfolding every
each_of f [] h j one = absurd one
each_of f (i ∷ is) h j (inl e) = ap f e ∙ and_1 (f i) (every (map f is)) h
each_of f (i ∷ is) h j (inr one) = each_of f is (and_2 (f i) (every (map f is)) h) j one

-- and back
all_of : (f : ℕ → Bool) (js : List ℕ) → ((j : ℕ) → OneOf j js → f j ≡ true) → every (map f js) ≡ true
unfolding every
all_of f [] h = refl
all_of f (i ∷ is) h = and_both (f i) (every (map f is)) (h i (inl refl)) (all_of f is (λ j one. h j (inr one)))

module _ (tb : List ℕ) (a i : ℕ) where
  -- the end has no window
  pub to_end : (j : ℕ) → rows tb a ≤ j → true ≡ climbs_to tb a i j
  unfolding climbs_to
  to_end j h = sym (or_left _ _ (le-leb (rows tb a) j h))

  module _ (j : ℕ) (l : j < rows tb a) where
    to_row : not_above (row tb a i) (row tb a j) ≡ climbs_to tb a i j
    unfolding climbs_to
    to_row = rw (lt-leb (rows tb a) j l)

    pub by_late : (row tb a i).early ≤ (row tb a j).early → leb (row tb a i).late (row tb a j).late ≡ climbs_to tb a i j
    unfolding not_above
    by_late h = ap (λ (b : Bool). b && leb (row tb a i).late (row tb a j).late) (sym (le-leb (row tb a i).early (row tb a j).early h)) ∙ to_row

    both_up : climbs_to tb a i j ≡ true → ((row tb a i).early ≤ (row tb a j).early) × ((row tb a i).late ≤ (row tb a j).late)
    unfolding not_above
    both_up h =
        let n = to_row ∙ h in
        let e = leb (row tb a i).early (row tb a j).early in
        let l = leb (row tb a i).late (row tb a j).late in
        (leb-true _ _ (and_1 e l n), leb-true _ _ (and_2 e l n))

  -- what rule 7 says of each row that is gone on to
  pub climbs_on : climbs tb a i ≡ true → (j : ℕ) → OneOf j (goes_on_to (row tb a i) i) → j < rows tb a
      → ((row tb a i).early ≤ (row tb a j).early) × ((row tb a i).late ≤ (row tb a j).late)
  unfolding climbs
  climbs_on h j one l = both_up j l (each_of (climbs_to tb a i) (goes_on_to (row tb a i) i) h j one)

  -- and what it asks
  pub all_climb : ((j : ℕ) → OneOf j (goes_on_to (row tb a i) i) → j < rows tb a → ((row tb a i).early ≤ (row tb a j).early) × ((row tb a i).late ≤ (row tb a j).late))
      → climbs tb a i ≡ true
  unfolding climbs
  all_climb h = all_of (climbs_to tb a i) (goes_on_to (row tb a i) i) (λ j one. go j (h j one) (leb (rows tb a) j) refl)
    where
      go : (j : ℕ) → (j < rows tb a → ((row tb a i).early ≤ (row tb a j).early) × ((row tb a i).late ≤ (row tb a j).late)) → (b : Bool) → leb (rows tb a) j ≡ b
          → climbs_to tb a i j ≡ true
      go j k true e = sym (to_end j (leb-true _ _ e))
      go j k false e = let l = leb-false _ _ e in let (early, late) = k l in sym (by_late j l early) ∙ le-leb _ _ late

  -- ---- by the two rows that there are at most, of the row that was read

  abbrev to : ℕ → Bool
  to = climbs_to tb a i

  module _ (r : Row) (read : r ≡ row tb a i) where
    by_rows : every (map to (goes_on_to r i)) ≡ climbs tb a i
    unfolding climbs
    by_rows = ap (λ (q : Row). every (map to (goes_on_to q i))) read

    -- n is 0: there is one
    pub one_way : r.n ≡ 0 → to (i + 1) ≡ climbs tb a i
    one_way none = of (goes_on_to r i) (onward r i) ∙ by_rows
      where
        same : to (i + 1) ≡ to (i + 1 + r.n)
        same = let e : i + 1 ≡ i + 1 + r.n = omega arith in ap to e

        twice : (b : Bool) → to (i + 1) ≡ b → b ≡ every (to (i + 1) ∷ to (i + 1 + r.n) ∷ [])
        twice true h = every_go _ _ _ h (sym h ∙ same ∙ every_last _)
        twice false h = every_stop _ _ h

        of : (js : List ℕ) → Onward r i js → to (i + 1) ≡ every (map to js)
        of js (both o) = twice (to (i + 1)) refl
        of js (far o) = same ∙ every_last _
        of js (near o) = every_last _

    -- n is not: there is the row at p+1+n, and only a JUMP has no other
    module _ (formed : row_reply_at tb a i ≡ 0) (some : r.n ≡ 0 → ⊥) where
      unnamed : Plain r.op → ⊥
      unnamed o = some (n_unnamed r (ap well_formed read ∙ passed_formed tb a i formed) o)

      pub far_back : to (i + 1 + r.n) ≡ false → false ≡ climbs tb a i
      far_back h = of (goes_on_to r i) (onward r i) ∙ by_rows
        where
          second : (b : Bool) → to (i + 1) ≡ b → false ≡ every (to (i + 1) ∷ to (i + 1 + r.n) ∷ [])
          second true e = every_go _ _ _ e (every_stop _ _ h)
          second false e = every_stop _ _ e

          of : (js : List ℕ) → Onward r i js → false ≡ every (map to js)
          of js (both o) = second (to (i + 1)) refl
          of js (far o) = every_stop _ _ h
          of js (near o) = absurd (unnamed o)

      module _ (on : to (i + 1 + r.n) ≡ true) where
        pub jump_on : r.op ≡ 0x11 → true ≡ climbs tb a i
        jump_on e = of (goes_on_to r i) (onward r i) ∙ by_rows
          where
            of : (js : List ℕ) → Onward r i js → true ≡ every (map to js)
            of js (both o) = absurd (no_jump r.op o e)
            of js (far o) = sym on ∙ every_last _
            of js (near o) = absurd (o.1 e)

        pub both_on : (r.op ≡ 0x11 → ⊥) → to (i + 1) ≡ climbs tb a i
        both_on e = of (goes_on_to r i) (onward r i) ∙ by_rows
          where
            first_on : (b : Bool) → to (i + 1) ≡ b → b ≡ every (to (i + 1) ∷ to (i + 1 + r.n) ∷ [])
            first_on true h = every_go _ _ _ h (sym on ∙ every_last _)
            first_on false h = every_stop _ _ h

            of : (js : List ℕ) → Onward r i js → to (i + 1) ≡ every (map to js)
            of js (both o) = first_on (to (i + 1)) refl
            of js (far o) = absurd (e o)
            of js (near o) = every_last _
