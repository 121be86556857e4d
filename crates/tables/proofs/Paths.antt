-- What no step lowers no path lowers; so along a path of rows early and late do not fall. And 01's rule is enough. Assumes nothing.
use mathlib.Core.Path.{◌≡◌, ap}
use Prim.Native.Nat.{ℕ, zero, suc, ◌+◌, ◌-◌, ◌≤◌, ◌<◌}
use native.Mathlib.Omega.{arith}
use Rattle.tables.specs.Basics.{OneOf}
use Rattle.tables.specs.Layout.{rows, row}
use Rattle.tables.specs.Rows.{goes_on_to}
use Rattle.tables.specs.Paths.{Path, here, on, WindowsClimb, RisingIsEnough}
use Rattle.tables.proofs.Onward.{rises, all_climb}
use Rattle.tables.proofs.Good.{window_on}

-- steps begin at a real place, and do not lower f where they come to one
module _ {A : Type 0} {Goes : A → A → Type 0} (Real : A → Type 0) (f : A → ℕ) (begins : (x y : A) → Goes x y → Real x)
    (up : (x y : A) → Goes x y → Real y → f x ≤ f y) where
  real_before : {x z : A} → Path Goes x z → Real z → Real x
  real_before here r = r
  real_before (on {x} {y} g p) r = begins x y g

  pub never_lower : {x z : A} → Path Goes x z → Real z → f x ≤ f z
  never_lower here r = omega arith
  never_lower (on {x} {y} g p) r = let u = up x y g (real_before p r) in let l = never_lower p r in omega arith

pub windows_climb : WindowsClimb
windows_climb tb good a h i k p l = (
  never_lower (λ j. j < rows tb a) (λ j. (row tb a j).early) (λ i j g. g.0) (λ i j g m. (window_on tb good a h i g.0 j g.1 m).0) p l,
  never_lower (λ j. j < rows tb a) (λ j. (row tb a j).late) (λ i j g. g.0) (λ i j g m. (window_on tb good a h i g.0 j g.1 m).1) p l,
)

-- ---- 01's rule is enough

-- what does not fall from a row to the next does not fall to any later one
rising : (f : ℕ → ℕ) (n : ℕ) → ((i : ℕ) → i + 1 < n → f i ≤ f (i + 1)) → (k i : ℕ) → i + k < n → f i ≤ f (i + k)
rising f n up zero i h = let e : i + 0 ≡ i = omega arith in let q = ap f e in omega arith
rising f n up (suc k) i h =
    let r = rising f n up k i (omega arith) in
    let u = up (i + k) (omega arith) in
    let e : i + k + 1 ≡ i + suc k = omega arith in
    let q = ap f e in
    omega arith

pub rising_is_enough : RisingIsEnough
rising_is_enough tb a up i l = all_climb tb a i (λ j one m. (to (λ k. (row tb a k).early) (λ k h. (up k h).0) j (before j one) m, to (λ k. (row tb a k).late) (λ k h. (up k h).1) j (before j one) m))
  where
    before : (j : ℕ) → OneOf j (goes_on_to (row tb a i) i) → i < j
    before j one = (rises (row tb a i) i j one).0

    to : (f : ℕ → ℕ) → ((k : ℕ) → k + 1 < rows tb a → f k ≤ f (k + 1)) → (j : ℕ) → i < j → j < rows tb a → f i ≤ f j
    to f step j b m =
        let e : i + (j - i) ≡ j = omega arith in
        let r = rising f (rows tb a) step (j - i) i (omega arith) in
        let q = ap f e in
        omega arith
