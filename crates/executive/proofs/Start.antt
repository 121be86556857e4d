-- The words of the start state, place by place. Assumes nothing.
use mathlib.Core.Path.{◌≡◌, refl, ap, ◌∙◌}
use mathlib.Core.List.{List, ◌∷◌, ◌++◌}
use Prim.Native.Nat.{ℕ, zero, suc, ◌+◌, ◌-◌, ◌<◌, ◌≤◌}
use native.Mathlib.Nat.{not-suc-le-zero}
use native.Mathlib.Omega.{arith}
use lib.ListN.{length, set, take, drop, get_or, replicate, length-append, length-take, length-drop, get_or-append}
use Rattle.choices.specs.State.{start_words}
use Rattle.tables.proofs.Zeros.{get_or-zeros}
use lib.Seq.{get_or-append_right}
use Rattle.choices.proofs.Lists.{get_d_part}

abbrev one : List ℕ
one = 1 ∷ replicate 16 0

abbrev regs : List ℕ → List ℕ
regs tb = take 64 (drop 17 tb)

module _ (tb : List ℕ) (long : 2129 ≤ length tb) where
  regs_length : length (regs tb) ≡ 64
  regs_length = simp (length-take, length-drop) (omega arith)

  rest_length : length (regs tb ++ replicate 1024 0) ≡ 1088
  rest_length = length-append (regs tb) (replicate 1024 0) ∙ ap (λ (n : ℕ). n + 1024) regs_length

  pub start_length : length (start_words tb) ≡ 1105
  unfolding start_words
  start_length = length-append one (regs tb ++ replicate 1024 0) ∙ ap (λ (n : ℕ). 17 + n) rest_length

  pub start_clock : get_or (start_words tb) 0 0 ≡ 1
  unfolding start_words
  start_clock = refl

  pub start_low : (i : ℕ) → 0 < i → i < 17 → get_or (start_words tb) i 0 ≡ 0
  unfolding start_words
  start_low zero p h = absurd (not-suc-le-zero p)
  start_low (suc i) p h = get_or-append one (regs tb ++ replicate 1024 0) 0 (suc i) h ∙ get_or-zeros 16 i

  -- the table's registers stand at the places that the state's stand at
  pub start_register : (i : ℕ) → 17 ≤ i → i < 81 → get_or (start_words tb) i 0 ≡ get_or tb i 0
  unfolding start_words
  start_register i p h =
      get_or-append_right one (regs tb ++ replicate 1024 0) i 0 p
      ∙ get_or-append (regs tb) (replicate 1024 0) 0 (i - 17) (omega (arith, regs_length))
      ∙ get_d_part tb 64 17 (i - 17) (omega arith)
      ∙ ap (λ (n : ℕ). get_or tb n 0) (omega arith)

  pub start_high : (i : ℕ) → 81 ≤ i → get_or (start_words tb) i 0 ≡ 0
  unfolding start_words
  start_high i p =
      get_or-append_right one (regs tb ++ replicate 1024 0) i 0 (omega arith)
      ∙ get_or-append_right (regs tb) (replicate 1024 0) (i - 17) 0 (omega (arith, regs_length))
      ∙ get_or-zeros 1024 (i - 17 - length (regs tb))

-- all words 0, then the clock, then the registers
pub start_put : (tb s v : List ℕ) → s ≡ replicate 1105 0 → v ≡ regs tb → take 17 (set s 0 1) ++ (v ++ drop 64 (drop 17 (set s 0 1))) ≡ start_words tb
unfolding start_words
start_put tb s v e f = rw (e, f) refl
