-- A word to its eight digits at once: its halves moved apart, then their bytes, then the digits, and each digit to its character. Assumes nothing.
use mathlib.Core.Path.{◌≡◌, ap, ◌∙◌}
use mathlib.Core.List.{[], ◌∷◌}
use mathlib.Core.Logic.{by_cases}
use Prim.Native.Nat.{ℕ, ◌+◌, ◌*◌, ◌/◌, ◌%◌, ◌^◌, ◌<◌}
use native.Mathlib.Decide.{dec_lt}
use native.Mathlib.Omega.{arith}
use lib.Bits.{bit_and, and_mask}
use borrow.Author.Tests.{lt-ltb, le-ltb}
use Rattle.tables.proofs.Blocks.{bytes_of, pairs_of, fours_of, bytes_masked, pairs_masked, fours_masked}
use Rattle.digits.specs.Hex.{hex_char, hex_digits}
use Rattle.digits.specs.Eight.{eight_of}

-- what the code does, step by step
abbrev pub halves_apart : ℕ → ℕ
halves_apart w = w / 65536 + 4294967296 * (w % 65536)

abbrev pub bytes_apart : ℕ → ℕ
bytes_apart x = bit_and (x / 256) 0x000000FF000000FF + 65536 * bit_and x 0x000000FF000000FF

abbrev pub digits_apart : ℕ → ℕ
digits_apart x = bit_and (x / 16) 0x000F000F000F000F + 256 * bit_and x 0x000F000F000F000F

abbrev pub letters_of : ℕ → ℕ
letters_of x = bit_and ((x + 0x0606060606060606) / 16) 0x0101010101010101

abbrev pub chars_of : ℕ → ℕ
chars_of x = x + 0x3030303030303030 + 7 * letters_of x

-- ---- each step, on blocks: what comes first stands lowest

halves : (p q : ℕ) → q < 65536 → halves_apart (p * 65536 + q) ≡ fours_of q p
halves p q l = omega arith

module _ (a b c d : ℕ) (k : a < 256) (l : b < 256) (m : c < 256) (n : d < 256) where
  bytes : bytes_apart (fours_of (256 * c + d) (256 * a + b)) ≡ pairs_of d c b a
  bytes =
      let x = fours_of (256 * c + d) (256 * a + b) in
      let shifted : x / 256 ≡ fours_of c (d * 16777216 + a) = omega arith in
      let c₁ : c % 256 ≡ c = omega arith in
      let a₁ : (d * 16777216 + a) % 256 ≡ a = omega arith in
      let d₁ : (256 * c + d) % 256 ≡ d = omega arith in
      let b₁ : (256 * a + b) % 256 ≡ b = omega arith in
      let high : bit_and (x / 256) 0x000000FF000000FF ≡ fours_of c a =
      ap (λ (y : ℕ). bit_and y 0x000000FF000000FF) shifted
      ∙ fours_masked 0xFF (omega arith) c (d * 16777216 + a) (omega arith)
      ∙ rw (and_mask c 8, and_mask (d * 16777216 + a) 8, c₁, a₁) in
      let low : bit_and x 0x000000FF000000FF ≡ fours_of d b =
      fours_masked 0xFF (omega arith) (256 * c + d) (256 * a + b) (omega arith)
      ∙ rw (and_mask (256 * c + d) 8, and_mask (256 * a + b) 8, d₁, b₁) in
      (λ i. high i + 65536 * low i) ∙ omega arith

-- the character of a digit, without a case
char_of : (h : ℕ) → h < 16 → h + 48 + 7 * ((h + 6) / 16) ≡ hex_char h
unfolding hex_char
char_of h l = by_cases (dec_lt h 10) (λ d. rw (lt-ltb h 10 d) (omega arith)) (λ d. rw (le-ltb h 10 (omega arith)) (omega arith))

char_below : (h : ℕ) → h < 16 → hex_char h < 256
char_below h l = let e = char_of h l in omega arith

module _ (h0 h1 h2 h3 h4 h5 h6 h7 : ℕ) (l0 : h0 < 16) (l1 : h1 < 16) (l2 : h2 < 16) (l3 : h3 < 16) (l4 : h4 < 16) (l5 : h5 < 16) (l6 : h6 < 16) (l7 : h7 < 16) where
  digits : digits_apart (pairs_of (16 * h6 + h7) (16 * h4 + h5) (16 * h2 + h3) (16 * h0 + h1)) ≡ bytes_of h7 h6 h5 h4 h3 h2 h1 h0
  digits =
      let x = pairs_of (16 * h6 + h7) (16 * h4 + h5) (16 * h2 + h3) (16 * h0 + h1) in
      let shifted : x / 16 ≡ pairs_of h6 (h7 * 4096 + h4) (h5 * 4096 + h2) (h3 * 4096 + h0) = omega arith in
      let first : (g h : ℕ) → h < 16 → (g * 4096 + h) % 16 ≡ h = λ g h l. omega arith in
      let second : (g h : ℕ) → h < 16 → (16 * g + h) % 16 ≡ h = λ g h l. omega arith in
      let e6 : h6 % 16 ≡ h6 = omega arith in
      let high : bit_and (x / 16) 0x000F000F000F000F ≡ pairs_of h6 h4 h2 h0 =
      ap (λ (y : ℕ). bit_and y 0x000F000F000F000F) shifted
      ∙ pairs_masked 0xF (omega arith) h6 (h7 * 4096 + h4) (h5 * 4096 + h2) (h3 * 4096 + h0) (omega arith) (omega arith) (omega arith)
      ∙ rw (and_mask h6 4, and_mask (h7 * 4096 + h4) 4, and_mask (h5 * 4096 + h2) 4, and_mask (h3 * 4096 + h0) 4, e6, first h7 h4 l4, first h5 h2 l2, first h3 h0 l0) in
      let low : bit_and x 0x000F000F000F000F ≡ pairs_of h7 h5 h3 h1 =
      pairs_masked 0xF (omega arith) (16 * h6 + h7) (16 * h4 + h5) (16 * h2 + h3) (16 * h0 + h1) (omega arith) (omega arith) (omega arith)
      ∙ rw (and_mask (16 * h6 + h7) 4, and_mask (16 * h4 + h5) 4, and_mask (16 * h2 + h3) 4, and_mask (16 * h0 + h1) 4, second h6 h7 l7, second h4 h5 l5, second h2 h3 l3, second h0 h1 l1) in
      (λ i. high i + 256 * low i) ∙ omega arith

  letters : letters_of (bytes_of h0 h1 h2 h3 h4 h5 h6 h7)
      ≡ bytes_of ((h0 + 6) / 16) ((h1 + 6) / 16) ((h2 + 6) / 16) ((h3 + 6) / 16) ((h4 + 6) / 16) ((h5 + 6) / 16) ((h6 + 6) / 16) ((h7 + 6) / 16)
  letters =
      let next : (g h : ℕ) → ℕ = λ g h. (g + 6) % 16 * 16 + (h + 6) / 16 in
      let shifted : (bytes_of h0 h1 h2 h3 h4 h5 h6 h7 + 0x0606060606060606) / 16
      ≡ bytes_of ((h0 + 6) / 16) (next h0 h1) (next h1 h2) (next h2 h3) (next h3 h4) (next h4 h5) (next h5 h6) (next h6 h7) = omega arith in
      let below : (g h : ℕ) → h < 16 → next g h < 256 = λ g h l. omega arith in
      let head : (h : ℕ) → h < 16 → (h + 6) / 16 % 2 ≡ (h + 6) / 16 = λ h l. omega arith in
      let odd : (g h : ℕ) → h < 16 → next g h % 2 ≡ (h + 6) / 16 = λ g h l. omega arith in
      ap (λ (x : ℕ). bit_and x 0x0101010101010101) shifted
      ∙ bytes_masked 1 (omega arith) ((h0 + 6) / 16) (next h0 h1) (next h1 h2) (next h2 h3) (next h3 h4) (next h4 h5) (next h5 h6) (next h6 h7) (below h0 h1 l1) (below h1 h2 l2) (below h2 h3 l3) (below h3 h4 l4) (below h4 h5 l5) (below h5 h6 l6) (below h6 h7 l7)
      ∙ rw (and_mask ((h0 + 6) / 16) 1, and_mask (next h0 h1) 1, and_mask (next h1 h2) 1, and_mask (next h2 h3) 1, and_mask (next h3 h4) 1, and_mask (next h4 h5) 1, and_mask (next h5 h6) 1, and_mask (next h6 h7) 1)
      (rw (head h0 l0, odd h0 h1 l1, odd h1 h2 l2, odd h2 h3 l3, odd h3 h4 l4, odd h4 h5 l5, odd h5 h6 l6, odd h6 h7 l7))

  chars : chars_of (bytes_of h0 h1 h2 h3 h4 h5 h6 h7) ≡ bytes_of (hex_char h0) (hex_char h1) (hex_char h2) (hex_char h3) (hex_char h4) (hex_char h5) (hex_char h6) (hex_char h7)
  chars =
      ap (λ (x : ℕ). bytes_of h0 h1 h2 h3 h4 h5 h6 h7 + 0x3030303030303030 + 7 * x) letters
      ∙ added ((h0 + 6) / 16) ((h1 + 6) / 16) ((h2 + 6) / 16) ((h3 + 6) / 16) ((h4 + 6) / 16) ((h5 + 6) / 16) ((h6 + 6) / 16) ((h7 + 6) / 16)
      ∙ rw (char_of h0 l0, char_of h1 l1, char_of h2 l2, char_of h3 l3, char_of h4 l4, char_of h5 l5, char_of h6 l6, char_of h7 l7)
    where
      added : (u0 u1 u2 u3 u4 u5 u6 u7 : ℕ) → bytes_of h0 h1 h2 h3 h4 h5 h6 h7 + 0x3030303030303030 + 7 * bytes_of u0 u1 u2 u3 u4 u5 u6 u7
          ≡ bytes_of (h0 + 48 + 7 * u0) (h1 + 48 + 7 * u1) (h2 + 48 + 7 * u2) (h3 + 48 + 7 * u3) (h4 + 48 + 7 * u4) (h5 + 48 + 7 * u5) (h6 + 48 + 7 * u6) (h7 + 48 + 7 * u7)
      added u0 u1 u2 u3 u4 u5 u6 u7 = omega arith

-- ---- the bytes of a number that is given by them

module _ (c0 c1 c2 c3 c4 c5 c6 c7 : ℕ) (l0 : c0 < 256) (l1 : c1 < 256) (l2 : c2 < 256) (l3 : c3 < 256) (l4 : c4 < 256) (l5 : c5 < 256) (l6 : c6 < 256) (l7 : c7 < 256) where
  abbrev whole : ℕ
  whole = bytes_of c0 c1 c2 c3 c4 c5 c6 c7

  apart : eight_of whole ≡ c7 ∷ c6 ∷ c5 ∷ c4 ∷ c3 ∷ c2 ∷ c1 ∷ c0 ∷ []
  apart =
      let e0 : whole / 2 ^ 56 % 256 ≡ c0 = omega arith in
      let e1 : whole / 2 ^ 48 % 256 ≡ c1 = omega arith in
      let e2 : whole / 2 ^ 40 % 256 ≡ c2 = omega arith in
      let e3 : whole / 2 ^ 32 % 256 ≡ c3 = omega arith in
      let e4 : whole / 2 ^ 24 % 256 ≡ c4 = omega arith in
      let e5 : whole / 2 ^ 16 % 256 ≡ c5 = omega arith in
      let e6 : whole / 2 ^ 8 % 256 ≡ c6 = omega arith in
      let e7 : whole % 256 ≡ c7 = omega arith in
      λ i. e7 i ∷ e6 i ∷ e5 i ∷ e4 i ∷ e3 i ∷ e2 i ∷ e1 i ∷ e0 i ∷ []

-- ---- a word

module _ (h0 h1 h2 h3 h4 h5 h6 h7 : ℕ) (l0 : h0 < 16) (l1 : h1 < 16) (l2 : h2 < 16) (l3 : h3 < 16) (l4 : h4 < 16) (l5 : h5 < 16) (l6 : h6 < 16) (l7 : h7 < 16) where
  eight_chars : chars_of (digits_apart (bytes_apart (halves_apart ((256 * (16 * h0 + h1) + (16 * h2 + h3)) * 65536 + (256 * (16 * h4 + h5) + (16 * h6 + h7))))))
      ≡ bytes_of (hex_char h7) (hex_char h6) (hex_char h5) (hex_char h4) (hex_char h3) (hex_char h2) (hex_char h1) (hex_char h0)
  eight_chars =
      ap (λ (x : ℕ). chars_of (digits_apart (bytes_apart x))) (halves (256 * (16 * h0 + h1) + (16 * h2 + h3)) (256 * (16 * h4 + h5) + (16 * h6 + h7)) (omega arith))
      ∙ ap (λ (x : ℕ). chars_of (digits_apart x)) (bytes (16 * h0 + h1) (16 * h2 + h3) (16 * h4 + h5) (16 * h6 + h7) (omega arith) (omega arith) (omega arith) (omega arith))
      ∙ ap chars_of (digits h0 h1 h2 h3 h4 h5 h6 h7 l0 l1 l2 l3 l4 l5 l6 l7)
      ∙ chars h7 h6 h5 h4 h3 h2 h1 h0 l7 l6 l5 l4 l3 l2 l1 l0

  eight_digits : eight_of (chars_of (digits_apart (bytes_apart (halves_apart ((256 * (16 * h0 + h1) + (16 * h2 + h3)) * 65536 + (256 * (16 * h4 + h5) + (16 * h6 + h7)))))))
      ≡ hex_char h0 ∷ hex_char h1 ∷ hex_char h2 ∷ hex_char h3 ∷ hex_char h4 ∷ hex_char h5 ∷ hex_char h6 ∷ hex_char h7 ∷ []
  eight_digits =
      ap eight_of eight_chars
      ∙ apart (hex_char h7) (hex_char h6) (hex_char h5) (hex_char h4) (hex_char h3) (hex_char h2) (hex_char h1) (hex_char h0) (char_below h7 l7) (char_below h6 l6) (char_below h5 l5) (char_below h4 l4) (char_below h3 l3) (char_below h2 l2) (char_below h1 l1) (char_below h0 l0)

pub word_digits : (w : ℕ) → w < 2 ^ 32 → eight_of (chars_of (digits_apart (bytes_apart (halves_apart w)))) ≡ hex_digits 8 w
unfolding hex_digits
word_digits w l =
    let h7 = w % 16 in
    let h6 = w / 16 % 16 in
    let h5 = w / 16 / 16 % 16 in
    let h4 = w / 16 / 16 / 16 % 16 in
    let h3 = w / 16 / 16 / 16 / 16 % 16 in
    let h2 = w / 16 / 16 / 16 / 16 / 16 % 16 in
    let h1 = w / 16 / 16 / 16 / 16 / 16 / 16 % 16 in
    let h0 = w / 16 / 16 / 16 / 16 / 16 / 16 / 16 % 16 in
    let e : w ≡ (256 * (16 * h0 + h1) + (16 * h2 + h3)) * 65536 + (256 * (16 * h4 + h5) + (16 * h6 + h7)) = omega arith in
    ap (λ (x : ℕ). eight_of (chars_of (digits_apart (bytes_apart (halves_apart x))))) e
    ∙ eight_digits h0 h1 h2 h3 h4 h5 h6 h7 (omega arith) (omega arith) (omega arith) (omega arith) (omega arith) (omega arith) (omega arith) (omega arith)
