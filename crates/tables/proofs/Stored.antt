-- Stores one after the other, each at the next place: written so in the code, as runs that follow each other, and what stands where after them. Assumes nothing.
use mathlib.Core.Path.{◌≡◌, refl, sym, ap, ◌∙◌}
use mathlib.Core.Logic.{◌≢◌}
use mathlib.Core.List.{List, [], ◌∷◌, ◌++◌}
use Prim.Native.Nat.{ℕ, zero, suc, ◌+◌, ◌≤◌, ◌<◌}
use native.Mathlib.Nat.{not-suc-le-zero, le_of_suc-le-suc, add-zero, zero-add}
use native.Mathlib.Numerals.{add-one}
use native.Mathlib.Omega.{arith}
use lib.ListN.{length, set, get_or, drop, length-set}
use lib.Seq.{sets, set_comm, sets-eq, get_or-set_same, get_or-set_other}

-- from place p + k on
abbrev pub stores_from : (l : List ℕ) (p k : ℕ) → List ℕ → List ℕ
stores_from l p k [] = l
stores_from l p k (v ∷ vs) = stores_from (set l (p + k) v) p (k + 1) vs

stores : (vs l : List ℕ) (p k : ℕ) → stores_from l p k vs ≡ sets l (p + k) vs
stores [] l p k = refl
stores (v ∷ vs) l p k =
    let e : p + (k + 1) ≡ suc (p + k) = omega arith in
    stores vs (set l (p + k) v) p (k + 1) ∙ ap (λ (q : ℕ). sets (set l (p + k) v) q vs) e

-- the first of them stands at p itself
pub stored : (v : ℕ) (vs l : List ℕ) (p : ℕ) → stores_from (set l p v) p 1 vs ≡ sets l p (v ∷ vs)
stored v vs l p = stores vs (set l p v) p 1 ∙ rw (add-one p)

-- ---- a run of stores

pub sets_append : (a b l : List ℕ) (i : ℕ) → sets l i (a ++ b) ≡ sets (sets l i a) (i + length a) b
sets_append [] b l i = rw add-zero
sets_append (x ∷ a) b l i =
    let e : suc i + length a ≡ i + suc (length a) = omega arith in
    sets_append a b (set l i x) (suc i) ∙ ap (λ (k : ℕ). sets (sets (set l i x) (suc i) a) k b) e

-- a store past a run of stores may come before it
pub set_past : (vs l : List ℕ) (i j v : ℕ) → i + length vs ≤ j → sets (set l j v) i vs ≡ set (sets l i vs) j v
set_past [] l i j v h = refl
set_past (x ∷ vs) l i j v h =
    let n : j ≡ i → ⊥ = λ e. omega arith in
    rw (set_comm l j i v x n) (set_past vs (set l i x) (suc i) j v (omega arith))

-- a run of stores, and then one that begins where it ends
pub run_then : (a l m r b : List ℕ) (i j : ℕ) → m ≡ sets l i a → i + length a ≡ j → r ≡ sets m j b → r ≡ sets l i (a ++ b)
run_then a l m r b i j e h f = f ∙ rw (e, ← h) (sym (sets_append a b l i))

-- a run from the start of a buffer, and what stands after it
pub from_start : (l bs : List ℕ) → length bs ≤ length l → sets l 0 bs ≡ bs ++ drop (length bs) l
from_start l bs h = sets-eq bs l 0 (rw zero-add h) ∙ rw zero-add

-- ---- what stands where after it

-- a word at none of the places stored to
pub get_or-sets_other : (vs l : List ℕ) (p j : ℕ) → ((i : ℕ) → i < length vs → j ≢ p + i) → get_or (sets l p vs) j 0 ≡ get_or l j 0
get_or-sets_other [] l p j out = refl
get_or-sets_other (v ∷ vs) l p j out =
    get_or-sets_other vs (set l p v) (suc p) j (λ i h e. out (suc i) (omega arith) (omega arith))
    ∙ get_or-set_other l p j v 0 (λ e. out 0 (omega arith) (omega arith))

-- the word at the i-th of the places stored to
pub get_or-sets_same : (vs l : List ℕ) (p i : ℕ) → i < length vs → p + length vs ≤ length l → get_or (sets l p vs) (p + i) 0 ≡ get_or vs i 0
get_or-sets_same [] l p i h fit = absurd (not-suc-le-zero h)
get_or-sets_same (v ∷ vs) l p zero h fit =
    let e : p + 0 ≡ p = omega arith in
    rw e (get_or-sets_other vs (set l p v) (suc p) p (λ i k d. omega arith) ∙ get_or-set_same l p v 0 (omega arith))
get_or-sets_same (v ∷ vs) l p (suc i) h fit =
    let e : p + suc i ≡ suc p + i = omega arith in
    rw e (get_or-sets_same vs (set l p v) (suc p) i (le_of_suc-le-suc h) (simp length-set (omega arith)))

pub sets_below : (l : List ℕ) (p : ℕ) (vs : List ℕ) (k : ℕ) → k < p → get_or (sets l p vs) k 0 ≡ get_or l k 0
sets_below l p vs k h = get_or-sets_other vs l p k (λ i m e. omega arith)

pub sets_above : (l : List ℕ) (p : ℕ) (vs : List ℕ) (k : ℕ) → p + length vs ≤ k → get_or (sets l p vs) k 0 ≡ get_or l k 0
sets_above l p vs k h = get_or-sets_other vs l p k (λ i m e. omega arith)

pub sets_in : (l : List ℕ) (p : ℕ) (vs : List ℕ) (j k : ℕ) → k ≡ p + j → j < length vs → p + length vs ≤ length l → get_or (sets l p vs) k 0 ≡ get_or vs j 0
sets_in l p vs j k e h r = ap (λ (m : ℕ). get_or (sets l p vs) m 0) e ∙ get_or-sets_same vs l p j h r

-- ---- four words

-- one by one
four_of : (l : List ℕ) → length l ≡ 4 → l ≡ get_or l 0 0 ∷ get_or l 1 0 ∷ get_or l 2 0 ∷ get_or l 3 0 ∷ []
four_of [] e = absurd (omega arith)
four_of (a ∷ []) e = absurd (omega arith)
four_of (a ∷ b ∷ []) e = absurd (omega arith)
four_of (a ∷ b ∷ c ∷ []) e = absurd (omega arith)
four_of (a ∷ b ∷ c ∷ d ∷ []) e = refl
four_of (a ∷ b ∷ c ∷ d ∷ f ∷ l) e = absurd (omega arith)

-- a list of four that is told by each of them
pub four_by : (ws : List ℕ) → length ws ≡ 4 → {a b c d : ℕ} → a ≡ get_or ws 0 0 → b ≡ get_or ws 1 0 → c ≡ get_or ws 2 0 → d ≡ get_or ws 3 0 → a ∷ b ∷ c ∷ d ∷ [] ≡ ws
four_by ws four e f g h = (λ i. e i ∷ f i ∷ g i ∷ h i ∷ []) ∙ sym (four_of ws four)
