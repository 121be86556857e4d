-- What a passed test says, and back: each test of a list, each number of a range, each rule of a first refusal. Assumes nothing.
use mathlib.Core.Path.{◌≡◌, refl, sym, ap, ap₂, ◌∙◌}
use mathlib.Core.Bool.{Bool, true, false, ◌&&◌, false≢true, true≢false}
use mathlib.Core.List.{List, [], ◌∷◌}
use Prim.Native.Nat.{ℕ, zero, suc, ◌+◌, ◌≤◌, ◌<◌}
use native.Mathlib.Omega.{arith}
use native.Mathlib.Nat.{not-suc-le-zero}
use native.Mathlib.Decide.{ℕ_discrete}
use native.Mathlib.Numerals.{add-one}
use lib.Dec.{T, eqb, ltb, ltb→lt}
use lib.ListN.{get_or}
use borrow.Author.Tests.{eqb-true, eqb-false, lt-ltb, le-ltb, le-leb, lt-leb, eq-eqb, ne_eqb}
use Rattle.std.proofs.lemmas.Bool.{not_from_true, not_from_false}
use Rattle.tables.proofs.Tests.{and_both, and_yes}
use Rattle.tables.specs.Basics.{every, all_below, first, ◌⇒◌, Rule}

pub and_1 : (a b : Bool) → (a && b) ≡ true → a ≡ true
and_1 true b h = refl
and_1 false b h = h

pub and_2 : (a b : Bool) → (a && b) ≡ true → b ≡ true
and_2 true b h = h
and_2 false b h = absurd (false≢true h)

-- ---- every test of a list

pub each : (bs : List Bool) → every bs ≡ true → (k : ℕ) → get_or bs k true ≡ true
unfolding every
each [] h k = refl
each (b ∷ bs) h zero = and_1 b (every bs) h
each (b ∷ bs) h (suc k) = each bs (and_2 b (every bs) h) k

pub every_none : true ≡ every []
unfolding every
every_none = refl

pub every_last : (b : Bool) → b ≡ every (b ∷ [])
unfolding every
every_last true = refl
every_last false = refl

pub every_stop : (b : Bool) (bs : List Bool) → b ≡ false → false ≡ every (b ∷ bs)
unfolding every
every_stop b bs h = rw h

pub every_go : (b q : Bool) (bs : List Bool) → b ≡ true → q ≡ every bs → q ≡ every (b ∷ bs)
unfolding every
every_go b q bs h e = rw h e

-- ---- every number below n

pub below : (n : ℕ) (f : ℕ → Bool) → all_below n f ≡ true → (i : ℕ) → i < n → f i ≡ true
unfolding all_below
below zero f h i l = absurd (not-suc-le-zero l)
below (suc n) f h i l = go (below n f (and_1 (all_below n f) (f n) h) i) (eqb i n) refl
  where
    go : (i < n → f i ≡ true) → (b : Bool) → eqb i n ≡ b → f i ≡ true
    go rec true e = ap f (eqb-true i n e) ∙ and_2 (all_below n f) (f n) h
    go rec false e = rec (omega (arith, eqb-false i n e))

pub all_below_lem : (n : ℕ) (f : ℕ → Bool) → ((i : ℕ) → i < n → f i ≡ true) → all_below n f ≡ true
unfolding all_below
all_below_lem zero f h = refl
all_below_lem (suc n) f h = and_both (all_below n f) (f n) (all_below_lem n f (λ i l. h i (omega arith))) (h n (omega arith))

-- one number that fails
pub not_all_below : (n : ℕ) (f : ℕ → Bool) (i : ℕ) → i < n → f i ≡ false → all_below n f ≡ false
not_all_below n f i l h = go (all_below n f) refl
  where
    go : (b : Bool) → all_below n f ≡ b → b ≡ false
    go true e = absurd (false≢true (sym h ∙ below n f e i l))
    go false e = refl

-- one number more
pub below_suc : (n : ℕ) (f : ℕ → Bool) → all_below (n + 1) f ≡ (all_below n f && f n)
unfolding all_below
below_suc n f = rw (add-one n)

-- a test that holds from n on
pub below_more : (n m : ℕ) (f : ℕ → Bool) → n ≤ m → ((b : ℕ) → n ≤ b → b < m → f b ≡ true) → all_below m f ≡ all_below n f
unfolding all_below
below_more n zero f h k = let e : n ≡ 0 = omega arith in rw e
below_more n (suc m) f h k = go (ℕ_discrete n (suc m)) (λ l. below_more n m f l (λ b u v. k b u (omega arith)))
  where
    go : Dec (n ≡ suc m) → (n ≤ m → all_below m f ≡ all_below n f) → all_below (suc m) f ≡ all_below n f
    go (yes e) rest = rw e
    go (no d) rest = and_yes (all_below m f) (f m) (k m (omega arith) (omega arith)) ∙ rest (omega arith)

-- two tests of one answer
pub below_same : (n : ℕ) (f g : ℕ → Bool) → ((i : ℕ) → i < n → f i ≡ g i) → all_below n f ≡ all_below n g
unfolding all_below
below_same zero f g h = refl
below_same (suc n) f g h = ap₂ ◌&&◌ (below_same n f g (λ i l. h i (omega arith))) (h n (omega arith))

-- a test that does not hold of each number below n fails at one of them
pub some_fails : (n : ℕ) (f : ℕ → Bool) → all_below n f ≡ false → (b : ℕ) × (b < n) × (f b ≡ false)
unfolding all_below
some_fails zero f e = absurd (true≢false e)
some_fails (suc n) f e = go (all_below n f) (f n) (some_fails n f) refl refl
  where
    go : (v w : Bool) → (all_below n f ≡ false → (b : ℕ) × (b < n) × (f b ≡ false)) → all_below n f ≡ v → f n ≡ w → (b : ℕ) × (b < suc n) × (f b ≡ false)
    go v false less p q = (n, omega arith, q)
    go false true less p q = let (b, h, x) = less p in (b, omega arith, x)
    go true true less p q = absurd (true≢false (sym (and_both (all_below n f) (f n) p q) ∙ e))

-- ---- the first of several refusals

pub first_hit : (b : Bool) (r : ℕ) (rs : List Rule) → b ≡ true → r ≡ first ((b ⇒ r) ∷ rs)
unfolding first
first_hit b r rs h = rw h

pub first_skip : (b : Bool) (r q : ℕ) (rs : List Rule) → b ≡ false → q ≡ first rs → q ≡ first ((b ⇒ r) ∷ rs)
unfolding first
first_skip b r q rs h e = rw h e

pub first_none : 0 ≡ first []
unfolding first
first_none = refl

-- what a reply by the first refusal is shown from: the facts of the branches on the way
pub ruleset refusals = (first_none, first_hit, first_skip, not_from_true, not_from_false, lt-ltb, le-ltb, le-leb, lt-leb, eq-eqb, ne_eqb)

-- the tests of rules, and that no rule has the number 0
abbrev pub test_at : List Rule → ℕ → Bool
test_at [] k = false
test_at ((b ⇒ r) ∷ rs) zero = b
test_at ((b ⇒ r) ∷ rs) (suc k) = test_at rs k

abbrev pub numbered : List Rule → Bool
numbered [] = true
numbered ((b ⇒ r) ∷ rs) = ltb 0 r && numbered rs

T_and_1 : (a b : Bool) → T (a && b) → T a
T_and_1 true b h = tt
T_and_1 false b h = h

T_and_2 : (a b : Bool) → T (a && b) → T b
T_and_2 true b h = h
T_and_2 false b h = absurd h

pub passed : (rs : List Rule) → T (numbered rs) → first rs ≡ 0 → (k : ℕ) → test_at rs k ≡ false
unfolding first
passed [] t h k = refl
passed ((true ⇒ r) ∷ rs) t h k = absurd (let l = ltb→lt 0 r (T_and_1 (ltb 0 r) (numbered rs) t) in omega arith)
passed ((false ⇒ r) ∷ rs) t h zero = refl
passed ((false ⇒ r) ∷ rs) t h (suc k) = passed rs (T_and_2 (ltb 0 r) (numbered rs) t) h k
