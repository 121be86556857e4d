-- The words of a state four by four are the registers of all agents. Assumes nothing.
use Rattle.std.proofs.Common.{◌≡◌, ℕ, zero, suc, ◌+◌, ◌-◌, ◌*◌, ◌/◌, ◌%◌, ◌<◌, ◌≤◌, List, [], ◌∷◌, length, get_or, take, drop, sym, ap, ap₂, ◌∙◌, arith, length-drop, length-take, get_or-drop, get_or-take, ext_get_or}
use native.Mathlib.Decide.{dec_lt}
use Rattle.std.specs.Simd.{first_chunks}
use Rattle.choices.specs.Registers.{around, listed, register, with_regs}
use Rattle.choices.proofs.Around.{listed_length, listed_at, around_own}

-- ---- a register of the first agent, and one of those after it

module _ (own : List ℕ) (rest : List (List ℕ)) (j : ℕ) where
  of_first : j < 4 → register (own ∷ rest) j ≡ get_or own j 0
  of_first h =
      let e : j / 4 ≡ 0 = omega arith in
      let f : j % 4 ≡ j = omega arith in
      ap₂ (λ (a i : ℕ). get_or (get_or (own ∷ rest) a []) i 0) e f

  of_later : 4 ≤ j → register (own ∷ rest) j ≡ register rest (j - 4)
  of_later h =
      let e : j / 4 ≡ suc ((j - 4) / 4) = omega arith in
      let f : j % 4 ≡ (j - 4) % 4 = omega arith in
      ap₂ (λ (a i : ℕ). get_or (get_or (own ∷ rest) a []) i 0) e f

-- ---- the words four by four

chunk_at : (k : ℕ) (m : List ℕ) (j : ℕ) → j < 4 * k → register (first_chunks 4 k m) j ≡ get_or m j 0
chunk_at zero m j h = absurd (omega arith)
chunk_at (suc k) m j h = go (dec_lt j 4) (chunk_at k (drop 4 m) (j - 4))
  where
    go : Dec (j < 4) → (j - 4 < 4 * k → register (first_chunks 4 k (drop 4 m)) (j - 4) ≡ get_or (drop 4 m) (j - 4) 0)
        → register (take 4 m ∷ first_chunks 4 k (drop 4 m)) j ≡ get_or m j 0
    go (yes l) later = of_first (take 4 m) (first_chunks 4 k (drop 4 m)) j l ∙ get_or-take 4 m j 0 l
    go (no n) later =
        let e : 4 + (j - 4) ≡ j = omega arith in
        of_later (take 4 m) (first_chunks 4 k (drop 4 m)) j (omega arith)
        ∙ later (omega arith)
        ∙ get_or-drop 4 m (j - 4) 0
        ∙ ap (λ (i : ℕ). get_or m i 0) e

pub loaded_own : (st : List ℕ) → 81 ≤ length st → with_regs st (first_chunks 4 16 (take 64 (drop 17 st))) ≡ st
loaded_own st long = ap (around st) same ∙ around_own st long
  where
    same : listed (register (first_chunks 4 16 (take 64 (drop 17 st)))) 64 ≡ take 64 (drop 17 st)
    same =
        let m = take 64 (drop 17 st) in
        let n : length m ≡ 64 = simp (length-take, length-drop) (omega arith) in
        let l = listed_length (register (first_chunks 4 16 m)) 64 in
        ext_get_or 0 (listed (register (first_chunks 4 16 m)) 64) m (l ∙ sym n) (λ j h.
        let k : j < 64 = omega arith in
        listed_at (register (first_chunks 4 16 m)) 64 j 0 k ∙ chunk_at 16 m j k)
