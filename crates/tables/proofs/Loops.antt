-- The loops of the check, each a chain over the numbers below a count: a chain of tests tells whether all of them hold. Assumes nothing.
use mathlib.Core.Path.{◌≡◌, sym, subst}
use mathlib.Core.Bool.{Bool, true, false}
use mathlib.Core.List.{List}
use Prim.Native.Nat.{ℕ, ◌-◌, ◌<◌}
use native.Mathlib.Omega.{arith}
use lib.ListN.{get_or, length}
use Rattle.std.proofs.lemmas.Iterator.{YieldsList, cases_from_all}
use Rattle.std.proofs.lemmas.List.FromFn.{length-range_with_len, get_or-range_with_len}
use Rattle.std.specs.Bool.{MatchBool}
use Rattle.std.specs.Fn.{Mut, Called}
use Rattle.std.specs.Iterator.{ChecksAll}
use Rattle.std.specs.List.{AllWithin, HoldsAt, range_with_len}
use Rattle.std.specs.Prelude.{Option}
use Rattle.tables.proofs.Passed.{all_below_lem, not_all_below}
use Rattle.tables.specs.Basics.{all_below}

-- `(0..n).all(f)`, of a closure that tests P of each number
pub all_passed : {S F : Type 0} {steps : S → Option ℕ → S → Type 0} {g : Mut F (ℕ × Unit {0}) Bool} {s : S} (u : S) (f : F) (r : Bool) (n : ℕ) (P : ℕ → Bool)
    → ChecksAll steps g s f r u → YieldsList steps (λ x. x) s (range_with_len 0 (n - 0))
    → ((x : ℕ) (b : Bool) (q : F) → Called g f (x, tt) b q → (q ≡ f) × (b ≡ P x))
    → r ≡ all_below n P
all_passed {S} {F} {steps} {g} {s} u f r n P ran all tests = by r (cases_from_all u f r Yes No ran (rw whole at all) yes no)
  where
    Yes : ℕ → Type 0
    Yes x = P x ≡ true

    No : ℕ → Type 0
    No x = P x ≡ false

    yes : (x : ℕ) (q : F) → Called g f (x, tt) true q → (q ≡ f) × Yes x
    yes x q h = let t = tests x true q h in (t.0, sym t.1)

    no : (x : ℕ) (q : F) → Called g f (x, tt) false q → No x
    no x q h = sym (tests x false q h).1

    whole : n - 0 ≡ n
    whole = omega arith

    items : List ℕ
    items = range_with_len 0 n

    item : (k : ℕ) → k < n → get_or items k 0 ≡ k
    item k l = omega (arith, get_or-range_with_len 0 n k 0 l)

    by : (b : Bool) → MatchBool b (AllWithin Yes items 0 (length items)) ((k : ℕ) × (k < length items) × HoldsAt No items k) → b ≡ all_below n P
    by true h = sym (all_below_lem n P (λ k l. subst Yes (item k l) (h k 0 (omega arith) (omega (arith, length-range_with_len 0 n)))))
    by false h =
        let l : h.0 < n = omega (arith, length-range_with_len 0 n, h.1) in
        sym (not_all_below n P h.0 l (subst No (item h.0 l) (h.2 0)))
