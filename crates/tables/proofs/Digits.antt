-- Eight digits to a word at once: each byte to its digit, then the digits moved together in pairs. Assumes nothing.
use mathlib.Core.Path.{◌≡◌, ap, ◌∙◌}
use mathlib.Core.List.{List}
use Prim.Native.Nat.{ℕ, ◌+◌, ◌*◌, ◌/◌, ◌%◌, ◌≤◌, ◌<◌}
use native.Mathlib.Omega.{arith}
use lib.ListN.{length, take, drop, get_or}
use lib.Bits.{bit_and, and_mask, and_high}
use mathlib.Core.Bool.{true}
use Rattle.tables.specs.Lines.{hex_digit, all_hex, number, field}
use Rattle.tables.specs.Heads.{eight_bytes}
use Rattle.tables.proofs.Blocks.{bytes_of, pairs_of, fours_of, bytes_masked, pairs_masked, fours_masked}
use Rattle.tables.proofs.Lines.{hex_value, hex_below, hex_in, number_next}

-- ---- a mask, block by block

module _ (c0 c1 c2 c3 c4 c5 c6 c7 : ℕ) (l1 : c1 < 256) (l2 : c2 < 256) (l3 : c3 < 256) (l4 : c4 < 256) (l5 : c5 < 256) (l6 : c6 < 256) (l7 : c7 < 256) where
  low_half : bit_and (bytes_of c0 c1 c2 c3 c4 c5 c6 c7) 0x0F0F0F0F0F0F0F0F ≡ bytes_of (c0 % 16) (c1 % 16) (c2 % 16) (c3 % 16) (c4 % 16) (c5 % 16) (c6 % 16) (c7 % 16)
  low_half =
      bytes_masked 15 (omega arith) c0 c1 c2 c3 c4 c5 c6 c7 l1 l2 l3 l4 l5 l6 l7
      ∙ rw (and_mask c0 4, and_mask c1 4, and_mask c2 4, and_mask c3 4, and_mask c4 4, and_mask c5 4, and_mask c6 4, and_mask c7 4)

  letter_bit : bit_and (bytes_of c0 c1 c2 c3 c4 c5 c6 c7) 0x4040404040404040 ≡ bytes_of (c0 / 64 % 2 * 64) (c1 / 64 % 2 * 64) (c2 / 64 % 2 * 64) (c3 / 64 % 2 * 64) (c4 / 64 % 2 * 64) (c5 / 64 % 2 * 64) (c6 / 64 % 2 * 64) (c7 / 64 % 2 * 64)
  letter_bit =
      bytes_masked 64 (omega arith) c0 c1 c2 c3 c4 c5 c6 c7 l1 l2 l3 l4 l5 l6 l7
      ∙ rw (and_high c0 1 6, and_high c1 1 6, and_high c2 1 6, and_high c3 1 6, and_high c4 1 6, and_high c5 1 6, and_high c6 1 6, and_high c7 1 6)

module _ (p q r s : ℕ) (l : q < 65536) (m : r < 65536) (n : s < 65536) where
  pair_low : bit_and (pairs_of p q r s) 0x00FF00FF00FF00FF ≡ pairs_of (p % 256) (q % 256) (r % 256) (s % 256)
  pair_low = pairs_masked 0x00FF (omega arith) p q r s l m n ∙ rw (and_mask p 8, and_mask q 8, and_mask r 8, and_mask s 8)

four_low : (p q : ℕ) → q < 4294967296 → bit_and (fours_of p q) 0x0000FFFF0000FFFF ≡ fours_of (p % 65536) (q % 65536)
four_low p q l = fours_masked 0xFFFF (omega arith) p q l ∙ rw (and_mask p 16, and_mask q 16)

-- ---- the digits moved together

split_letters : (a0 a1 a2 a3 a4 a5 a6 a7 b0 b1 b2 b3 b4 b5 b6 b7 : ℕ) → bytes_of a0 a1 a2 a3 a4 a5 a6 a7 + 9 * (bytes_of (b0 * 64) (b1 * 64) (b2 * 64) (b3 * 64) (b4 * 64) (b5 * 64) (b6 * 64) (b7 * 64) / 64) ≡ bytes_of (a0 + 9 * b0) (a1 + 9 * b1) (a2 + 9 * b2) (a3 + 9 * b3) (a4 + 9 * b4) (a5 + 9 * b5) (a6 + 9 * b6) (a7 + 9 * b7)
split_letters a0 a1 a2 a3 a4 a5 a6 a7 b0 b1 b2 b3 b4 b5 b6 b7 = omega arith

module _ (h0 h1 h2 h3 h4 h5 h6 h7 : ℕ) (m0 : h0 < 16) (m1 : h1 < 16) (m2 : h2 < 16) (m3 : h3 < 16) (m4 : h4 < 16) (m5 : h5 < 16) (m6 : h6 < 16) (m7 : h7 < 16) where
  digits_move : bytes_of h0 h1 h2 h3 h4 h5 h6 h7 + bytes_of h0 h1 h2 h3 h4 h5 h6 h7 / 16
      ≡ pairs_of (272 * h0 + h1) (4096 * h1 + 272 * h2 + h3) (4096 * h3 + 272 * h4 + h5) (4096 * h5 + 272 * h6 + h7)
  digits_move = omega arith

  to_bytes : bit_and (bytes_of h0 h1 h2 h3 h4 h5 h6 h7 + bytes_of h0 h1 h2 h3 h4 h5 h6 h7 / 16) 0x00FF00FF00FF00FF ≡ pairs_of (16 * h0 + h1) (16 * h2 + h3) (16 * h4 + h5) (16 * h6 + h7)
  to_bytes =
      let e0 : (272 * h0 + h1) % 256 ≡ 16 * h0 + h1 = omega arith in
      let e1 : (4096 * h1 + 272 * h2 + h3) % 256 ≡ 16 * h2 + h3 = omega arith in
      let e2 : (4096 * h3 + 272 * h4 + h5) % 256 ≡ 16 * h4 + h5 = omega arith in
      let e3 : (4096 * h5 + 272 * h6 + h7) % 256 ≡ 16 * h6 + h7 = omega arith in
      ap (λ (n : ℕ). bit_and n 0x00FF00FF00FF00FF) digits_move
      ∙ pair_low (272 * h0 + h1) (4096 * h1 + 272 * h2 + h3) (4096 * h3 + 272 * h4 + h5) (4096 * h5 + 272 * h6 + h7) (omega arith) (omega arith) (omega arith)
      ∙ rw (e0, e1, e2, e3)

module _ (p q r s : ℕ) (k : p < 256) (l : q < 256) (m : r < 256) (n : s < 256) where
  bytes_move : pairs_of p q r s + pairs_of p q r s / 256 ≡ fours_of (65792 * p + q) (16777216 * q + 65792 * r + s)
  bytes_move = omega arith

  to_pairs : bit_and (pairs_of p q r s + pairs_of p q r s / 256) 0x0000FFFF0000FFFF ≡ fours_of (256 * p + q) (256 * r + s)
  to_pairs =
      let e : (65792 * p + q) % 65536 ≡ 256 * p + q = omega arith in
      let f : (16777216 * q + 65792 * r + s) % 65536 ≡ 256 * r + s = omega arith in
      ap (λ (t : ℕ). bit_and t 0x0000FFFF0000FFFF) bytes_move
      ∙ four_low (65792 * p + q) (16777216 * q + 65792 * r + s) (omega arith)
      ∙ rw (e, f)

to_word : (p q : ℕ) → p < 65536 → q < 65536 → (fours_of p q + fours_of p q / 65536) % 4294967296 ≡ 65536 * p + q
to_word p q k l =
    let d : fours_of p q / 65536 ≡ 65536 * p = omega arith in
    let e : fours_of p q + 65536 * p ≡ p * 4294967296 + (65536 * p + q) = omega arith in
    ap (λ (t : ℕ). (fours_of p q + t) % 4294967296) d ∙ ap (λ (t : ℕ). t % 4294967296) e ∙ cut p (65536 * p + q) (omega arith)
  where
    cut : (a r : ℕ) → r < 4294967296 → (a * 4294967296 + r) % 4294967296 ≡ r
    cut a r h = omega arith

-- ---- the word of eight digits

value_of : (c : ℕ) → hex_digit c < 16 → c % 16 + 9 * (c / 64 % 2) ≡ hex_digit c
value_of c h = let u = hex_below c h in let e = hex_value c h in omega arith

byte_below : (c : ℕ) → hex_digit c < 16 → c < 256
byte_below c h = let u = hex_below c h in omega arith

abbrev pub digits_in : ℕ → ℕ
digits_in x = bit_and x 0x0F0F0F0F0F0F0F0F + 9 * (bit_and x 0x4040404040404040 / 64)

abbrev pub bytes_in : ℕ → ℕ
bytes_in n = bit_and (n + n / 16) 0x00FF00FF00FF00FF

abbrev pub pairs_in : ℕ → ℕ
pairs_in y = bit_and (y + y / 256) 0x0000FFFF0000FFFF

abbrev pub word_in : ℕ → ℕ
word_in z = (z + z / 65536) % 4294967296

module _ (c0 c1 c2 c3 c4 c5 c6 c7 : ℕ) (k0 : hex_digit c0 < 16) (k1 : hex_digit c1 < 16) (k2 : hex_digit c2 < 16) (k3 : hex_digit c3 < 16) (k4 : hex_digit c4 < 16) (k5 : hex_digit c5 < 16) (k6 : hex_digit c6 < 16) (k7 : hex_digit c7 < 16) where
  to_digits : digits_in (bytes_of c0 c1 c2 c3 c4 c5 c6 c7) ≡ bytes_of (hex_digit c0) (hex_digit c1) (hex_digit c2) (hex_digit c3) (hex_digit c4) (hex_digit c5) (hex_digit c6) (hex_digit c7)
  to_digits =
      rw (low_half c0 c1 c2 c3 c4 c5 c6 c7 (byte_below c1 k1) (byte_below c2 k2) (byte_below c3 k3) (byte_below c4 k4) (byte_below c5 k5) (byte_below c6 k6) (byte_below c7 k7), letter_bit c0 c1 c2 c3 c4 c5 c6 c7 (byte_below c1 k1) (byte_below c2 k2) (byte_below c3 k3) (byte_below c4 k4) (byte_below c5 k5) (byte_below c6 k6) (byte_below c7 k7))
      (split_letters (c0 % 16) (c1 % 16) (c2 % 16) (c3 % 16) (c4 % 16) (c5 % 16) (c6 % 16) (c7 % 16) (c0 / 64 % 2) (c1 / 64 % 2) (c2 / 64 % 2) (c3 / 64 % 2) (c4 / 64 % 2) (c5 / 64 % 2) (c6 / 64 % 2) (c7 / 64 % 2)
      ∙ rw (value_of c0 k0, value_of c1 k1, value_of c2 k2, value_of c3 k3, value_of c4 k4, value_of c5 k5, value_of c6 k6, value_of c7 k7))

  pub eight_digits : word_in (pairs_in (bytes_in (digits_in (bytes_of c0 c1 c2 c3 c4 c5 c6 c7))))
      ≡ 65536 * (256 * (16 * hex_digit c0 + hex_digit c1) + (16 * hex_digit c2 + hex_digit c3)) + (256 * (16 * hex_digit c4 + hex_digit c5) + (16 * hex_digit c6 + hex_digit c7))
  eight_digits =
      ap (λ (n : ℕ). word_in (pairs_in (bytes_in n))) to_digits
      ∙ ap (λ (n : ℕ). word_in (pairs_in n)) (to_bytes (hex_digit c0) (hex_digit c1) (hex_digit c2) (hex_digit c3) (hex_digit c4) (hex_digit c5) (hex_digit c6) (hex_digit c7) k0 k1 k2 k3 k4 k5 k6 k7)
      ∙ ap word_in (to_pairs (16 * hex_digit c0 + hex_digit c1) (16 * hex_digit c2 + hex_digit c3) (16 * hex_digit c4 + hex_digit c5) (16 * hex_digit c6 + hex_digit c7) (omega arith) (omega arith) (omega arith) (omega arith))
      ∙ to_word (256 * (16 * hex_digit c0 + hex_digit c1) + (16 * hex_digit c2 + hex_digit c3)) (256 * (16 * hex_digit c4 + hex_digit c5) + (16 * hex_digit c6 + hex_digit c7)) (omega arith) (omega arith)

module _ (text : List ℕ) (p : ℕ) (room : p + 8 ≤ length text) where
  in_eight : eight_bytes text p ≡ bytes_of (get_or text (p + 0) 0) (get_or text (p + 1) 0) (get_or text (p + 2) 0) (get_or text (p + 3) 0) (get_or text (p + 4) 0) (get_or text (p + 5) 0) (get_or text (p + 6) 0) (get_or text (p + 7) 0)
  in_eight =
      let z0 : p ≡ p + 0 = omega arith in
      let z3 : p + 2 + 1 ≡ p + 3 = omega arith in
      let z5 : p + 4 + 1 ≡ p + 5 = omega arith in
      let z7 : p + 6 + 1 ≡ p + 7 = omega arith in
      let b0 = ap (λ (k : ℕ). get_or text k 0) z0 in
      let b3 = ap (λ (k : ℕ). get_or text k 0) z3 in
      let b5 = ap (λ (k : ℕ). get_or text k 0) z5 in
      let b7 = ap (λ (k : ℕ). get_or text k 0) z7 in
      omega arith

  pub word_number : all_hex (take 8 (drop p text)) ≡ true → word_in (pairs_in (bytes_in (digits_in (eight_bytes text p)))) ≡ field text p 8
  unfolding field number
  word_number e =
      let n1 : number 0 (take 1 (drop p text)) ≡ 16 * 0 + hex_digit (get_or text (p + 0) 0) = number_next text p 8 0 room (omega arith) in
      let n2 = number_next text p 8 1 room (omega arith) in
      let n3 = number_next text p 8 2 room (omega arith) in
      let n4 = number_next text p 8 3 room (omega arith) in
      let n5 = number_next text p 8 4 room (omega arith) in
      let n6 = number_next text p 8 5 room (omega arith) in
      let n7 = number_next text p 8 6 room (omega arith) in
      let n8 = number_next text p 8 7 room (omega arith) in
      ap (λ (x : ℕ). word_in (pairs_in (bytes_in (digits_in x)))) in_eight
      ∙ eight_digits (get_or text (p + 0) 0) (get_or text (p + 1) 0) (get_or text (p + 2) 0) (get_or text (p + 3) 0) (get_or text (p + 4) 0) (get_or text (p + 5) 0) (get_or text (p + 6) 0) (get_or text (p + 7) 0) (hex_in text p 8 0 room (omega arith) e) (hex_in text p 8 1 room (omega arith) e) (hex_in text p 8 2 room (omega arith) e) (hex_in text p 8 3 room (omega arith) e) (hex_in text p 8 4 room (omega arith) e) (hex_in text p 8 5 room (omega arith) e) (hex_in text p 8 6 room (omega arith) e) (hex_in text p 8 7 room (omega arith) e)
      ∙ omega arith
