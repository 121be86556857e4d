-- A number of 64 bits by its blocks: eight bytes, four pairs of bytes, two halves; and a mask that is the same in every block. Assumes nothing.
use mathlib.Core.Path.{◌≡◌, refl, ap, ◌∙◌}
use Prim.Native.Nat.{ℕ, ◌+◌, ◌*◌, ◌^◌, ◌<◌}
use lib.Bits.{bit_and, and_block}

-- the highest first
abbrev pub bytes_of : (c0 c1 c2 c3 c4 c5 c6 c7 : ℕ) → ℕ
bytes_of c0 c1 c2 c3 c4 c5 c6 c7 = ((((((c0 * 256 + c1) * 256 + c2) * 256 + c3) * 256 + c4) * 256 + c5) * 256 + c6) * 256 + c7

abbrev pub pairs_of : (p q r s : ℕ) → ℕ
pairs_of p q r s = ((p * 65536 + q) * 65536 + r) * 65536 + s

abbrev pub fours_of : (p q : ℕ) → ℕ
fours_of p q = p * 4294967296 + q

-- the lowest block, of k bits, and what stands above it
pub block_and : (k a m c s r : ℕ) → c < 2 ^ k → s < 2 ^ k → bit_and a m ≡ r → bit_and (a * 2 ^ k + c) (m * 2 ^ k + s) ≡ r * 2 ^ k + bit_and c s
block_and k a m c s r h l e = and_block k a m c s h l ∙ ap (λ (q : ℕ). q * 2 ^ k + bit_and c s) e

module _ (s : ℕ) (k : s < 256) where
  pub bytes_masked : (c0 c1 c2 c3 c4 c5 c6 c7 : ℕ) → c1 < 256 → c2 < 256 → c3 < 256 → c4 < 256 → c5 < 256 → c6 < 256 → c7 < 256
      → bit_and (bytes_of c0 c1 c2 c3 c4 c5 c6 c7) (bytes_of s s s s s s s s)
      ≡ bytes_of (bit_and c0 s) (bit_and c1 s) (bit_and c2 s) (bit_and c3 s) (bit_and c4 s) (bit_and c5 s) (bit_and c6 s) (bit_and c7 s)
  bytes_masked c0 c1 c2 c3 c4 c5 c6 c7 l1 l2 l3 l4 l5 l6 l7 =
      block_and 8 _ _ c7 s _ l7 k
      (block_and 8 _ _ c6 s _ l6 k
      (block_and 8 _ _ c5 s _ l5 k
      (block_and 8 _ _ c4 s _ l4 k
      (block_and 8 _ _ c3 s _ l3 k
      (block_and 8 _ _ c2 s _ l2 k
      (block_and 8 c0 s c1 s _ l1 k refl))))))

module _ (s : ℕ) (k : s < 65536) where
  pub pairs_masked : (p q r t : ℕ) → q < 65536 → r < 65536 → t < 65536
      → bit_and (pairs_of p q r t) (pairs_of s s s s) ≡ pairs_of (bit_and p s) (bit_and q s) (bit_and r s) (bit_and t s)
  pairs_masked p q r t l m n = block_and 16 _ _ t s _ n k (block_and 16 _ _ r s _ m k (block_and 16 p s q s _ l k refl))

module _ (s : ℕ) (k : s < 4294967296) where
  pub fours_masked : (p q : ℕ) → q < 4294967296 → bit_and (fours_of p q) (fours_of s s) ≡ fours_of (bit_and p s) (bit_and q s)
  fours_masked p q l = and_block 32 p s q s l k
