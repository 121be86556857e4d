-- Digits that were written are read back, and digits that were read are written again: there and back is the same. Assumes nothing.
use mathlib.Core.Path.{◌≡◌, refl, sym, ap, ◌∙◌}
use mathlib.Core.Logic.{by_cases}
use mathlib.Core.Bool.{true}
use mathlib.Core.List.{List, [], ◌∷◌, ◌++◌, append_assoc}
use Prim.Native.Nat.{ℕ, zero, suc, ◌+◌, ◌*◌, ◌/◌, ◌%◌, ◌^◌, ◌≤◌, ◌<◌}
use native.Mathlib.Nat.{pow-succ'}
use native.Mathlib.Decide.{dec_lt}
use native.Mathlib.Omega.{arith}
use lib.Dec.{ltb}
use lib.ListN.{length, take, drop, get_or, length-drop, take-append-drop}
use lib.Seq.{take_at, drop_at, drop-drop, take-suc}
use borrow.Author.Tests.{lt-ltb, le-ltb, le-leb, lt-leb}
use Rattle.tables.specs.Small.{Small}
use Rattle.tables.specs.Lines.{newline, same, lines, hex_digit, all_hex, number, field, digits_line}
use Rattle.tables.proofs.Tests.{and_both}
use Rattle.tables.proofs.Passed.{and_1, and_2}
use Rattle.tables.proofs.Small.{small_tail}
use Rattle.tables.proofs.Lines.{hex_char_lem, hex_at, hex_part, number_suc}
use Rattle.tables.proofs.Newlines.{lines_digits}
use Rattle.digits.specs.Hex.{hex_char, hex_digits, hex_words}
use Rattle.digits.proofs.Writes.{hex_digits_length}

-- ---- written and read

hex_back : (d : ℕ) → d < 16 → hex_digit (hex_char d) ≡ d
unfolding hex_digit hex_char
hex_back d h = by_cases (dec_lt d 10)
    (λ l. rw (lt-ltb d 10 l, le-leb 48 (48 + d) (omega arith), le-leb (48 + d) 57 (omega arith)) (omega arith))
    (λ n. rw (le-ltb d 10 (omega arith), le-leb 48 (55 + d) (omega arith), lt-leb (55 + d) 57 (omega arith), le-leb 65 (55 + d) (omega arith), le-leb (55 + d) 70 (omega arith)) (omega arith))

number_append : (m : ℕ) (xs ys : List ℕ) → number m (xs ++ ys) ≡ number (number m xs) ys
unfolding number
number_append m [] ys = refl
number_append m (x ∷ xs) ys = number_append (16 * m + hex_digit x) xs ys

pub hex_append : (xs ys : List ℕ) → all_hex xs ≡ true → all_hex ys ≡ true → all_hex (xs ++ ys) ≡ true
unfolding all_hex
hex_append [] ys h k = k
hex_append (x ∷ xs) ys h k =
    and_both (ltb (hex_digit x) 16) (all_hex (xs ++ ys)) (and_1 (ltb (hex_digit x) 16) (all_hex xs) h) (hex_append xs ys (and_2 (ltb (hex_digit x) 16) (all_hex xs) h) k)

digits_number : (k v : ℕ) → v < 16 ^ k → number 0 (hex_digits k v) ≡ v
unfolding number hex_digits
digits_number zero v h = omega arith
digits_number (suc k) v h =
    let p = pow-succ' 16 k in
    let e = digits_number k (v / 16) (omega arith) in
    let d = hex_back (v % 16) (omega arith) in
    number_append 0 (hex_digits k (v / 16)) (hex_char (v % 16) ∷ []) ∙ omega arith

pub digits_hex : (k v : ℕ) → all_hex (hex_digits k v) ≡ true
unfolding all_hex hex_digits
digits_hex zero v = refl
digits_hex (suc k) v =
    let d = hex_back (v % 16) (omega arith) in
    hex_append (hex_digits k (v / 16)) (hex_char (v % 16) ∷ []) (digits_hex k (v / 16)) (rw (lt-ltb (hex_digit (hex_char (v % 16))) 16 (omega arith)))

pub words_hex : (ws : List ℕ) → all_hex (hex_words ws) ≡ true
unfolding all_hex hex_words
words_hex [] = refl
words_hex (w ∷ ws) = hex_append (hex_digits 8 w) (hex_words ws) (digits_hex 8 w) (words_hex ws)

-- ---- fields of a line that is put together

module _ (xs ys : List ℕ) where
  field_here : (k : ℕ) → length xs ≡ k → field (xs ++ ys) 0 k ≡ number 0 xs
  unfolding field
  field_here k e = ap (number 0) (take_at xs ys k e)

  field_past : (n i k : ℕ) → length xs ≡ n → field (xs ++ ys) (n + i) k ≡ field ys i k
  unfolding field
  field_past n i k e = ap (λ (l : List ℕ). number 0 (take k l)) (sym (drop-drop i n (xs ++ ys)) ∙ ap (drop i) (drop_at xs ys n e))

-- digits at the front, and behind them
pub digits_field : (k v : ℕ) (ys : List ℕ) → v < 16 ^ k → field (hex_digits k v ++ ys) 0 k ≡ v
digits_field k v ys h = field_here (hex_digits k v) ys k (hex_digits_length k v) ∙ digits_number k v h

pub digits_past : (n v : ℕ) (ys : List ℕ) (i k : ℕ) → field (hex_digits n v ++ ys) (n + i) k ≡ field ys i k
digits_past n v ys i k = field_past (hex_digits n v) ys n i k (hex_digits_length n v)

-- word j of some words that are put one after the other
pub word_field : (ws r : List ℕ) → Small ws → (j : ℕ) → j < length ws → field (hex_words ws ++ r) (8 * j) 8 ≡ get_or ws j 0
unfolding hex_words
word_field [] r s j h = absurd (omega arith)
word_field (w ∷ ws) r s zero h = ap (λ (l : List ℕ). field l 0 8) (append_assoc (hex_digits 8 w) (hex_words ws) r) ∙ digits_field 8 w _ (s.word 0)
word_field (w ∷ ws) r s (suc j) h =
    let e : 8 * suc j ≡ 8 + 8 * j = omega arith in
    (λ i. field (append_assoc (hex_digits 8 w) (hex_words ws) r i) (e i) 8) ∙ digits_past 8 w (hex_words ws ++ r) (8 * j) 8 ∙ word_field ws r (small_tail s) j (omega arith)

-- ---- a line of digits

pub made_line : (n : ℕ) (xs : List ℕ) → length xs ≡ n → all_hex xs ≡ true → digits_line n (xs ++ (newline ∷ [])) ≡ true
unfolding digits_line same
made_line n xs e h = rw (take_at xs (newline ∷ []) n e, drop_at xs (newline ∷ []) n e, h)

-- it is the first of a text that begins with it
pub line_first : (n : ℕ) (l r : List ℕ) → length l ≡ n + 1 → digits_line n l ≡ true → lines (l ++ r) ≡ l ∷ lines r
line_first n l r e h =
    let t = take_at l r (n + 1) e in
    let d = drop_at l r (n + 1) e in
    lines_digits n (l ++ r) (rw t h) ∙ rw (t, d)

-- ---- read and written

char_back : (c : ℕ) → hex_digit c < 16 → hex_char (hex_digit c) ≡ c
unfolding hex_char
char_back c h = sym (hex_char_lem c (hex_digit c) refl h)

number_digits : (l : List ℕ) (n : ℕ) → n ≤ length l → all_hex (take n l) ≡ true → hex_digits n (number 0 (take n l)) ≡ take n l
unfolding hex_digits
number_digits l zero h e = refl
number_digits l (suc n) h e =
    let c = get_or l n 0 in
    let d : hex_digit c < 16 = hex_at l (suc n) n e (omega arith) h in
    let s = number_suc 0 l n h in
    let high : number 0 (take (suc n) l) / 16 ≡ number 0 (take n l) = omega arith in
    let low : number 0 (take (suc n) l) % 16 ≡ hex_digit c = omega arith in
    rw (high, low, char_back c d, number_digits l n (omega arith) (hex_part l (suc n) 0 n e (omega arith))) (sym (take-suc l n 0 h))

-- the number in k digits of a line, written before what follows them
pub field_written : (l : List ℕ) (i k n : ℕ) → i + k ≡ n → n ≤ length l → all_hex (take k (drop i l)) ≡ true → hex_digits k (field l i k) ++ drop n l ≡ drop i l
unfolding field
field_written l i k n e h d =
    let m : k ≤ length (drop i l) = simp length-drop (omega arith) in
    ap (λ (x : List ℕ). x ++ drop n l) (number_digits (drop i l) k m d)
    ∙ ap (λ (j : ℕ). take k (drop i l) ++ drop j l) (sym e)
    ∙ ap (λ (x : List ℕ). take k (drop i l) ++ x) (sym (drop-drop k i l))
    ∙ take-append-drop k (drop i l)
