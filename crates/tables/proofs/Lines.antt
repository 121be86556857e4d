-- Strings of bytes, digits and numbers, a byte at a time; and the lines of a text: they are the text, and each ends at its newline. Assumes nothing.
use mathlib.Core.Path.{◌≡◌, refl, sym, ap, ◌∙◌}
use mathlib.Core.Bool.{Bool, true, false, ◌&&◌, cond, and-true, and_assoc}
use mathlib.Core.Logic.{◌⊎◌, inl, inr}
use mathlib.Core.List.{List, [], ◌∷◌}
use Prim.Native.Nat.{ℕ, zero, suc, ◌+◌, ◌-◌, ◌*◌, ◌/◌, ◌%◌, ◌≤◌, ◌<◌, ◌^◌}
use native.Mathlib.Nat.{pow-succ', pow-le-pow_right, lt_of_lt_of_le}
use native.Mathlib.Numerals.{add-one}
use native.Mathlib.Omega.{arith}
use lib.Dec.{ltb, leb, eqb, lit<}
use lib.ListN.{length, take, drop, get_or, length-take, length-drop, drop_of_length-le}
use lib.Pointwise.{pointwise}
use lib.Seq.{drop_at, drop-drop, take-suc, take-take, length-take-le, get_or-drop}
use borrow.Author.Tests.{eqb-true, eqb-false, eq-eqb, ltb-true, lt-ltb, le-ltb, leb-true, ne_eqb}
use Rattle.std.specs.List.{fold}
use Rattle.tables.specs.Lines.{same, newline, hex_digit, all_hex, number, field, digits_line}
use Rattle.tables.specs.Heads.{digits_at}
use Rattle.std.proofs.lemmas.Bool.{and_left}
use Rattle.tables.proofs.Tests.{and_right}
use Rattle.tables.proofs.Passed.{and_1, and_2}

-- ---- the same string

pub same_eq : (a b : List ℕ) → same a b ≡ true → a ≡ b
unfolding same
same_eq [] [] h = refl
same_eq [] (y ∷ b) h = cc
same_eq (x ∷ a) [] h = cc
same_eq (x ∷ a) (y ∷ b) h =
    rw (eqb-true x y (and_1 (eqb x y) (same a b) h), same_eq a b (and_2 (eqb x y) (same a b) h))

pub same_self : (a : List ℕ) → same a a ≡ true
unfolding same
same_self [] = refl
same_self (x ∷ a) = rw (eq-eqb x x refl, same_self a)

pub other_length : (a b : List ℕ) → (length a ≡ length b → ⊥) → same a b ≡ false
unfolding same
other_length [] [] h = absurd (h refl)
other_length [] (y ∷ b) h = refl
other_length (x ∷ a) [] h = refl
other_length (x ∷ a) (y ∷ b) h = and_right (eqb x y) (same a b) (other_length a b (λ e. h (ap suc e)))

eqb_swap : (x y : ℕ) → eqb x y ≡ eqb y x
eqb_swap x y = go (eqb y x) refl
  where
    go : (b : Bool) → eqb y x ≡ b → eqb x y ≡ b
    go true e = eq-eqb x y (sym (eqb-true y x e))
    go false e = ne_eqb x y (λ f. eqb-false y x e (sym f))

-- it is what std's slices are compared by
pub same_slices : (a b : List ℕ) → same a b ≡ pointwise eqb b a
unfolding same
same_slices [] [] = refl
same_slices [] (y ∷ b) = refl
same_slices (x ∷ a) [] = refl
same_slices (x ∷ a) (y ∷ b) = rw (eqb_swap x y, same_slices a b)

-- ---- digits, and the number that they stand for

-- a digit is one of 0 to 9 or one of A to F
abbrev Digit : ℕ → Type 0
Digit c = ((48 ≤ c) × (c ≤ 57) × (hex_digit c ≡ c - 48)) ⊎ ((65 ≤ c) × (c ≤ 70) × (hex_digit c ≡ c - 55))

hex_either : (c : ℕ) → hex_digit c < 16 → Digit c
unfolding hex_digit
hex_either c h = go (leb 48 c && leb c 57) refl (leb 65 c && leb c 70) refl h
  where
    go : (a : Bool) → (leb 48 c && leb c 57) ≡ a → (b : Bool) → (leb 65 c && leb c 70) ≡ b → cond a (c - 48) (cond b (c - 55) 16) < 16
        → ((48 ≤ c) × (c ≤ 57) × (cond a (c - 48) (cond b (c - 55) 16) ≡ c - 48))
        ⊎ ((65 ≤ c) × (c ≤ 70) × (cond a (c - 48) (cond b (c - 55) 16) ≡ c - 55))
    go true e b f k = inl (leb-true _ _ (and_1 (leb 48 c) (leb c 57) e), leb-true _ _ (and_2 (leb 48 c) (leb c 57) e), refl)
    go false e true f k = inr (leb-true _ _ (and_1 (leb 65 c) (leb c 70) f), leb-true _ _ (and_2 (leb 65 c) (leb c 70) f), refl)
    go false e false f k = absurd (omega arith)

-- the number of a digit, without a case
pub hex_value : (c : ℕ) → hex_digit c < 16 → c % 16 + 9 * (c / 64) ≡ hex_digit c
hex_value c h = go (hex_either c h)
  where
    go : Digit c → c % 16 + 9 * (c / 64) ≡ hex_digit c
    go (inl w) = let l = w.0 in let u = w.1 in let d = w.2 in omega arith
    go (inr w) = let l = w.0 in let u = w.1 in let d = w.2 in omega arith

pub hex_below : (c : ℕ) → hex_digit c < 16 → c < 71
hex_below c h = go (hex_either c h)
  where
    go : Digit c → c < 71
    go (inl w) = let u = w.1 in omega arith
    go (inr w) = let u = w.1 in omega arith

-- the character of a digit, by its number
pub hex_char_lem : (c n : ℕ) → hex_digit c ≡ n → n < 16 → c ≡ cond (ltb n 10) (48 + n) (55 + n)
hex_char_lem c n e k = go (hex_either c (omega arith))
  where
    go : Digit c → c ≡ cond (ltb n 10) (48 + n) (55 + n)
    go (inl w) = let l = w.0 in let u = w.1 in let d = w.2 in rw (lt-ltb n 10 (omega arith)) (omega arith)
    go (inr w) = let l = w.0 in let u = w.1 in let d = w.2 in rw (le-ltb n 10 (omega arith)) (omega arith)

hex_more : (l : List ℕ) (n : ℕ) → n < length l → all_hex (take (suc n) l) ≡ (all_hex (take n l) && ltb (hex_digit (get_or l n 0)) 16)
unfolding all_hex
hex_more [] n h = absurd (omega arith)
hex_more (x ∷ l) zero h = and-true (ltb (hex_digit x) 16)
hex_more (x ∷ l) (suc n) h =
    ap (λ (b : Bool). ltb (hex_digit x) 16 && b) (hex_more l n (omega arith))
    ∙ sym (and_assoc (ltb (hex_digit x) 16) (all_hex (take n l)) (ltb (hex_digit (get_or l n 0)) 16))

-- whether all are digits, as a fold over them
folded : (a : Bool) (l : List ℕ) → fold (λ all b. all && ltb (hex_digit b) 16) a l ≡ (a && all_hex l)
unfolding all_hex
folded a [] = sym (and-true a)
folded a (x ∷ l) = folded (a && ltb (hex_digit x) 16) l ∙ and_assoc a (ltb (hex_digit x) 16) (all_hex l)

pub folded_hex : (l : List ℕ) → fold (λ all b. all && ltb (hex_digit b) 16) true l ≡ all_hex l
folded_hex l = folded true l

-- what some digits say of each of them
pub hex_at : (l : List ℕ) (n i : ℕ) → all_hex (take n l) ≡ true → i < n → i < length l → hex_digit (get_or l i 0) < 16
unfolding all_hex
hex_at [] n i e h k = absurd (omega arith)
hex_at (x ∷ l) zero i e h k = absurd (omega arith)
hex_at (x ∷ l) (suc n) zero e h k = ltb-true (hex_digit x) 16 (and_1 (ltb (hex_digit x) 16) (all_hex (take n l)) e)
hex_at (x ∷ l) (suc n) (suc i) e h k = hex_at l n i (and_2 (ltb (hex_digit x) 16) (all_hex (take n l)) e) (omega arith) (omega arith)

pub number_suc : (m : ℕ) (l : List ℕ) (n : ℕ) → n < length l → number m (take (suc n) l) ≡ 16 * number m (take n l) + hex_digit (get_or l n 0)
unfolding number
number_suc m [] n h = absurd (omega arith)
number_suc m (x ∷ l) zero h = refl
number_suc m (x ∷ l) (suc n) h = number_suc (16 * m + hex_digit x) l n (omega arith)

number_more : (l : List ℕ) (n : ℕ) → n < length l → number 0 (take (n + 1) l) ≡ 16 * number 0 (take n l) + hex_digit (get_or l n 0)
number_more l n h = rw (add-one n) (number_suc 0 l n h)

number_below : (l : List ℕ) (n : ℕ) → n ≤ length l → all_hex (take n l) ≡ true → number 0 (take n l) < 16 ^ n
unfolding number
number_below l zero h e = lit< tt
number_below l (suc n) h e =
    let more = and_1 (all_hex (take n l)) (ltb (hex_digit (get_or l n 0)) 16) in
    let f = sym (hex_more l n h) ∙ e in
    let d : hex_digit (get_or l n 0) < 16 = ltb-true _ _ (and_2 (all_hex (take n l)) (ltb (hex_digit (get_or l n 0)) 16) f) in
    let b : number 0 (take n l) < 16 ^ n = number_below l n (omega arith) (more f) in
    rw (number_suc 0 l n h, pow-succ' 16 n) (omega arith)

number_fits : (l : List ℕ) (n : ℕ) → n ≤ length l → n ≤ 8 → all_hex (take n l) ≡ true → number 0 (take n l) < 2 ^ 32
number_fits l n h k e = lt_of_lt_of_le (number_below l n h e) (pow-le-pow_right {n = 16} (lit< tt) k)

-- a part of some digits is digits
pub hex_part : (l : List ℕ) (n i k : ℕ) → all_hex (take n l) ≡ true → i + k ≤ n → all_hex (take k (drop i l)) ≡ true
unfolding all_hex
hex_part l n i zero e h = refl
hex_part [] n zero (suc k) e h = refl
hex_part [] n (suc i) (suc k) e h = refl
hex_part (x ∷ l) zero i (suc k) e h = absurd (omega arith)
hex_part (x ∷ l) (suc n) zero (suc k) e h =
    rw (and_1 (ltb (hex_digit x) 16) (all_hex (take n l)) e) (hex_part l n zero k (and_2 (ltb (hex_digit x) 16) (all_hex (take n l)) e) (omega arith))
hex_part (x ∷ l) (suc n) (suc i) (suc k) e h =
    hex_part l n i (suc k) (and_2 (ltb (hex_digit x) 16) (all_hex (take n l)) e) (omega arith)

-- the number of some digits of a text, one digit more: eight digits fit a word
module _ (text : List ℕ) (at k j : ℕ) (h : at + k ≤ length text) (i : j < k) where
  pub number_next : number 0 (take (j + 1) (drop at text)) ≡ 16 * number 0 (take j (drop at text)) + hex_digit (get_or text (at + j) 0)
  number_next =
      let n : j < length (drop at text) = simp length-drop (omega arith) in
      rw (number_more (drop at text) j n, get_or-drop)

  pub hex_in : all_hex (take k (drop at text)) ≡ true → hex_digit (get_or text (at + j) 0) < 16
  hex_in e =
      let n : j < length (drop at text) = simp length-drop (omega arith) in
      rw get_or-drop at (hex_at (drop at text) k j e i n)

  pub number_room : k ≤ 8 → all_hex (take k (drop at text)) ≡ true → 16 * number 0 (take j (drop at text)) + hex_digit (get_or text (at + j) 0) < 2 ^ 32
  number_room w e =
      let n : j + 1 ≤ length (drop at text) = simp length-drop (omega arith) in
      rw (← number_next) (number_fits (drop at text) (j + 1) n (omega arith) (hex_part (drop at text) k 0 (j + 1) e (omega arith)))

-- ---- fields: of two digits, of a part of a line, of a line at a place

pub two_digits : (text : List ℕ) (p : ℕ) → p + 2 ≤ length text → field text p 2 ≡ 16 * hex_digit (get_or text p 0) + hex_digit (get_or text (p + 1) 0)
unfolding field number
two_digits text p r =
    let e : number 0 (take 1 (drop p text)) ≡ 16 * 0 + hex_digit (get_or text (p + 0) 0) = number_next text p 2 0 r (omega arith) in
    let f : p + 0 ≡ p = omega arith in
    let g = ap (λ (q : ℕ). hex_digit (get_or text q 0)) f in
    let h = number_next text p 2 1 r (omega arith) in
    omega arith

cut : (n m k : ℕ) (l : List ℕ) → m + n ≤ k → take n (drop m (take k l)) ≡ take n (drop m l)
cut n zero k l h = take-take n k l (omega arith)
cut n (suc m) zero l h = absurd (omega arith)
cut n (suc m) (suc k) [] h = refl
cut n (suc m) (suc k) (x ∷ l) h = cut n m k l (omega arith)

pub field_cut : (l : List ℕ) (n i k : ℕ) → i + k ≤ n → field (take n l) i k ≡ field l i k
unfolding field
field_cut l n i k h = ap (number 0) (cut k i n l h)

-- a field of k digits at place q, which is digit i of the line at place p
pub field_from : (text : List ℕ) (p q i k : ℕ) → q ≡ p + i → field text q k ≡ field (drop p text) i k
unfolding field
field_from text p q i k e = ap (λ (l : List ℕ). number 0 (take k l)) (ap (λ (n : ℕ). drop n text) e ∙ sym (drop-drop i p text))

-- ---- a line of n digits

-- where there is text enough, it is n digits and then a newline
pub digits_line_lem : (n : ℕ) (l : List ℕ) → n < length l → digits_line n (take (n + 1) l) ≡ (all_hex (take n l) && eqb (get_or l n 0) newline)
unfolding digits_line same
digits_line_lem n l h =
    rw (
      take-take n (n + 1) l (omega arith),
      add-one n,
      take-suc l n 0 h,
      drop_at (take n l) (get_or l n 0 ∷ []) n (length-take-le n l (omega arith)),
    )
    (ap (λ (b : Bool). all_hex (take n l) && b) (and-true (eqb (get_or l n 0) newline)))

module _ (n : ℕ) (text : List ℕ) (at : ℕ) where
  pub digits_short : length text - at ≤ n → digits_at n text at ≡ false
  unfolding digits_at digits_line same
  digits_short h =
      let l = drop at text in
      let k : length (take (n + 1) l) ≤ n = simp (length-take, length-drop) (omega arith) in
      rw (drop_of_length-le (take (n + 1) l) k) (and_right (all_hex (take n (take (n + 1) l))) false refl)

  pub digits_last : at ≤ length text → n < length text - at → all_hex (take n (drop at text)) ≡ true
      → digits_at n text at ≡ eqb (get_or text (at + n) 0) newline
  unfolding digits_at
  digits_last g h e =
      let k : n < length (drop at text) = simp length-drop (omega arith) in
      rw (digits_line_lem n (drop at text) k, e, get_or-drop at text n 0)

  pub digits_odd : at ≤ length text → n < length text - at → all_hex (take n (drop at text)) ≡ false → digits_at n text at ≡ false
  unfolding digits_at
  digits_odd g h e =
      let k : n < length (drop at text) = simp length-drop (omega arith) in digits_line_lem n (drop at text) k ∙ and_left _ _ e
