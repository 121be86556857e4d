-- Laws of a line that is judged: by the known lines, one after the other; by its characters; and what a sound one is. Assumes nothing.
use mathlib.Core.Path.{◌≡◌, refl, sym, ap, ◌∙◌}
use mathlib.Core.Bool.{Bool, true, false, not, ◌&&◌, cond}
use mathlib.Core.Logic.{◌⊎◌, inl, inr, by_cases}
use mathlib.Core.List.{List, [], ◌∷◌}
use Prim.Native.Nat.{ℕ, zero, suc, ◌+◌, ◌-◌, ◌*◌, ◌≤◌, ◌<◌, zero-le}
use native.Mathlib.Omega.{arith}
use native.Mathlib.Decide.{dec_lt}
use lib.Dec.{leb, ltb, eqb}
use lib.ListN.{length, take, drop, get_or, length-drop}
use lib.Seq.{drop-cons, drop-drop, get_or-drop, get_or-take, length-take-le}
use borrow.Author.Tests.{eqb-true, eq-eqb, ne_eqb, le-leb, lt-leb, ltb-true, ltb-false, lt-ltb}
use Rattle.std.specs.Prelude.{Ok, Err, Some, None, nat_lt, position}
use Rattle.std.specs.List.{position_or_len}
use Rattle.std.specs.Simd.{first_chunks}
use Rattle.std.proofs.lemmas.List.Quantifiers.{position-Some}
use Rattle.tables.specs.Lines.{newline, hex_digit, all_hex, field, digits_line}
use Rattle.tables.specs.Faults.{fault_reply, only_digits, begins_with, judge_kind, judge}
use Rattle.tables.specs.Heads.{line_length}
use Rattle.tables.specs.declared.faults.Fault.{Fault}
use Rattle.tables.specs.declared.faults.Fault.TheVariants.{Character, Length, FirstByte}
use Rattle.tables.proofs.Lines.{hex_at, digits_line_lem, field_cut}
use Rattle.tables.proofs.Newlines.{newline_none, line_hex, line_end, line_length_lem, lines_digits}
use Rattle.tables.proofs.FirstLine.{line_within, line_whole, first_line}

-- the reply of a fault: never 0, and small
pub fault_some : (w : Fault) → fault_reply w ≡ 0 → ⊥
unfolding fault_reply
fault_some Character e = absurd (omega arith)
fault_some Length e = absurd (omega arith)
fault_some FirstByte e = absurd (omega arith)

pub fault_small : (w : Fault) → fault_reply w ≤ 19
unfolding fault_reply
fault_small Character = omega arith
fault_small Length = omega arith
fault_small FirstByte = omega arith

-- ---- by the known lines, where the line has so many digits and the next known one stands at place i of their list

pub no_first_byte : (known l : List ℕ) → length l < 3 → judge_kind known l ≡ Err FirstByte
unfolding judge_kind begins_with
no_first_byte [] l h = refl
no_first_byte (b ∷ []) l h = refl
no_first_byte (b ∷ n ∷ known) l h = rw (lt-leb 3 (length l) h) (no_first_byte known l h)

module _ (known l : List ℕ) (i : ℕ) where
  next : i + 1 < length known → drop i known ≡ get_or known i 0 ∷ get_or known (i + 1) 0 ∷ drop (i + 2) known
  next h =
      let s : suc i ≡ i + 1 = omega arith in
      let t : suc (i + 1) ≡ i + 2 = omega arith in
      drop-cons known i 0 (omega arith)
      ∙ ap (λ (j : ℕ). get_or known i 0 ∷ drop j known) s
      ∙ ap (λ (k : List ℕ). get_or known i 0 ∷ k) (drop-cons known (i + 1) 0 h)
      ∙ ap (λ (j : ℕ). get_or known i 0 ∷ get_or known (i + 1) 0 ∷ drop j known) t

  kind_one : i + 1 < length known
      → judge_kind (drop i known) l
      ≡ cond (begins_with (get_or known i 0) l) (cond (eqb (length l) (get_or known (i + 1) 0 + 1)) (Ok tt) (Err Length)) (judge_kind (drop (i + 2) known) l)
  unfolding judge_kind
  kind_one h = ap (λ (k : List ℕ). judge_kind k l) (next h)

  kind_none : length known ≤ i + 1 → judge_kind (drop i known) l ≡ Err FirstByte
  unfolding judge_kind
  kind_none h = go (drop i known) (simp length-drop (omega arith))
    where
      go : (k : List ℕ) → length k ≤ 1 → judge_kind k l ≡ Err FirstByte
      go [] e = refl
      go (b ∷ []) e = refl
      go (b ∷ n ∷ k) e = absurd (omega arith)

-- the known lines from place i on judge as all of them do
pub record Left (known l : List ℕ) (digits first i : ℕ) : Type 0 where
  pub within : i ≤ length known
  pub long : length l ≡ digits + 1
  pub two : 2 ≤ digits
  pub begins : first ≡ field l 0 2
  pub rest : judge_kind (drop i known) l ≡ judge_kind known l

module _ {known l : List ℕ} {digits first i : ℕ} (g : Left known l digits first i) where
  pub left_none : length known ≤ i + 1 → Err FirstByte ≡ judge_kind known l
  left_none h = sym (kind_none known l i h) ∙ g.rest

  module _ (h : i + 1 < length known) where
    begins_if : begins_with (get_or known i 0) l ≡ eqb (field l 0 2) (get_or known i 0)
    unfolding begins_with
    begins_if = rw (le-leb 3 (length l) (omega (arith, g.long, g.two)))

    module _ (e : get_or known i 0 ≡ first) where
      begins_so : begins_with (get_or known i 0) l ≡ true
      begins_so = begins_if ∙ eq-eqb (field l 0 2) (get_or known i 0) (sym (e ∙ g.begins))

      pub left_sound : get_or known (i + 1) 0 ≡ digits → Ok tt ≡ judge_kind known l
      left_sound f =
          let d = g.long in
          sym (kind_one known l i h ∙ rw (begins_so, eq-eqb (length l) (get_or known (i + 1) 0 + 1) (omega arith))) ∙ g.rest

      pub left_length : (get_or known (i + 1) 0 ≡ digits → ⊥) → Err Length ≡ judge_kind known l
      left_length f =
          let d = g.long in
          let n : length l ≡ get_or known (i + 1) 0 + 1 → ⊥ = λ k. f (omega arith) in
          sym (kind_one known l i h ∙ rw (begins_so, ne_eqb (length l) (get_or known (i + 1) 0 + 1) n)) ∙ g.rest

    pub left_on : (get_or known i 0 ≡ first → ⊥) → Left known l digits first (i + 2)
    left_on n = record {
      within = omega arith;
      long = g.long;
      two = g.two;
      begins = g.begins;
      rest = sym (kind_one known l i h ∙ rw (begins_if ∙ ne_eqb (field l 0 2) (get_or known i 0) (λ e. n (sym e ∙ sym g.begins)))) ∙ g.rest;
    }

-- the known lines as they are gone through, two numbers at a time
pair : (m k : ℕ) (xs : List ℕ) → k < m → get_or (first_chunks 2 m xs) k [] ≡ take 2 (drop (2 * k) xs)
pair zero k xs h = absurd (omega arith)
pair (suc m) zero xs h = refl
pair (suc m) (suc k) xs h =
    let e : 2 + 2 * k ≡ 2 * suc k = omega arith in
    pair m k (drop 2 xs) (omega arith) ∙ ap (take 2) (drop-drop (2 * k) 2 xs ∙ ap (λ (i : ℕ). drop i xs) e)

module _ (m k : ℕ) (xs : List ℕ) (h : k < m) where
  pair_at : (j : ℕ) → j < 2 → get_or (get_or (first_chunks 2 m xs) k []) j 0 ≡ get_or xs (2 * k + j) 0
  pair_at j i = rw (pair m k xs h) (get_or-take 2 (drop (2 * k) xs) j 0 i ∙ get_or-drop (2 * k) xs j 0)

  pub pair_first : get_or (get_or (first_chunks 2 m xs) k []) 0 0 ≡ get_or xs (2 * k) 0
  pair_first = let e : 2 * k + 0 ≡ 2 * k = omega arith in pair_at 0 (omega arith) ∙ ap (λ (i : ℕ). get_or xs i 0) e

  pub pair_second : get_or (get_or (first_chunks 2 m xs) k []) 1 0 ≡ get_or xs (2 * k + 1) 0
  pair_second = pair_at 1 (omega arith)

-- a line that begins with so many digits: its length, and the number in its first two
module _ (s : List ℕ) (digits : ℕ) (room : digits < length s) where
  pub line_long : length (take (digits + 1) s) ≡ digits + 1
  line_long = length-take-le (digits + 1) s (omega arith)

  pub left_first : (known : List ℕ) (first : ℕ) → 2 ≤ digits → first ≡ field s 0 2 → Left known (take (digits + 1) s) digits first 0
  left_first known first two e = record {
    within = zero-le;
    long = line_long;
    two = two;
    begins = e ∙ sym (field_cut s (digits + 1) 0 2 (omega arith));
    rest = refl;
  }

-- ---- by its characters

pub judge_digits : (known l : List ℕ) (n : ℕ) → digits_line n l ≡ true → judge known l ≡ judge_kind known l
unfolding judge only_digits
judge_digits known l n h =
    let e : length l - 1 ≡ n = let w = line_length_lem n l h in omega arith in
    rw (e, h)

-- the byte is no digit
abbrev pub odd : ℕ → Bool
odd b = ltb 15 (hex_digit b)

digits_first : (s : List ℕ) → all_hex (take (position_or_len odd s) s) ≡ true
unfolding all_hex
digits_first [] = refl
digits_first (x ∷ s) = go (odd x) refl (digits_first s)
  where
    go : (b : Bool) → odd x ≡ b → all_hex (take (position_or_len odd s) s) ≡ true → all_hex (take (cond (not b) (1 + position_or_len odd s) 0) (x ∷ s)) ≡ true
    go true e h = refl
    go false e h =
        let d = ltb-false 15 (hex_digit x) e in
        let k : 1 + position_or_len odd s ≡ suc (position_or_len odd s) = omega arith in
        rw (k, lt-ltb (hex_digit x) 16 (omega arith)) h

-- what is known of the bytes before the first that is none, and of it
pub first_odd : (s : List ℕ) (n : ℕ) → position odd s ≡ Some n → (n < length s) × (15 < hex_digit (get_or s n 0)) × (all_hex (take n s) ≡ true)
first_odd s n e =
    let w = position-Some odd s n 0 e in
    (w.0, ltb-true 15 (hex_digit (get_or s n 0)) w.1, go (nat_lt (position_or_len odd s) (length s)) e)
  where
    go : (b : Bool) → cond b (Some (position_or_len odd s)) None ≡ Some n → all_hex (take n s) ≡ true
    go true q = let r : position_or_len odd s ≡ n = cc in ap (λ (k : ℕ). all_hex (take k s)) (sym r) ∙ digits_first s
    go false q = cc

module _ (s : List ℕ) where
  abbrev line : List ℕ
  line = take (line_length s) s

  -- n digits, and then a newline
  module _ (n : ℕ) (hex : all_hex (take n s) ≡ true) (room : n < length s) (e : get_or s n 0 ≡ newline) where
    is_digits : digits_line n (take (n + 1) s) ≡ true
    is_digits = digits_line_lem n s room ∙ rw (hex, eq-eqb _ _ e)

    line_is : line ≡ take (n + 1) s
    line_is = head (sym (first_line s (omega arith)) ∙ lines_digits n s is_digits)
      where
        head : {l m : List ℕ} {ls ms : List (List ℕ)} → l ∷ ls ≡ m ∷ ms → l ≡ m
        head q = cc

    pub judged_kind : (known : List ℕ) → judge known line ≡ judge_kind known (take (n + 1) s)
    judged_kind known = ap (judge known) line_is ∙ judge_digits known (take (n + 1) s) n is_digits

  -- n digits, and then another byte, or none
  module _ (n : ℕ) (hex : all_hex (take n s) ≡ true) (other : n < length s → (15 < hex_digit (get_or s n 0)) × (get_or s n 0 ≡ newline → ⊥)) where
    -- where the line were digits, its newline would stand before that byte, at it or after it
    none_so : (m : ℕ) → digits_line m line ≡ true → ⊥
    none_so m h = by_cases (dec_lt m n) before (λ a. by_cases (dec_lt n m) after (λ b. same_place (omega arith)))
      where
        long : length line ≡ m + 1
        long = line_length_lem m line h

        short : line_length s ≤ length s
        short = line_within s

        whole : length line ≡ line_length s
        whole = line_whole s

        byte : (i : ℕ) → i ≤ m → get_or line i 0 ≡ get_or s i 0
        byte i k = get_or-take (line_length s) s i 0 (omega (arith, long, whole))

        last : get_or s m 0 ≡ newline
        last =
            let z : m + 0 ≡ m = omega arith in
            sym (byte m (omega arith))
            ∙ ap (λ (j : ℕ). get_or line j 0) (sym z)
            ∙ sym (get_or-drop m line 0 0)
            ∙ ap (λ (l : List ℕ). get_or l 0 0) (line_end m line h)

        reach : m < length s
        reach = omega (arith, long, whole, short)

        before : m < n → ⊥
        before k = newline_none (rw last at (hex_at s n m hex k reach))

        same_place : m ≡ n → ⊥
        same_place e = (other (omega (arith, reach))).1 (ap (λ (j : ℕ). get_or s j 0) (sym e) ∙ last)

        after : n < m → ⊥
        after k =
            let f : hex_digit (get_or s n 0) < 16 = rw (byte n (omega arith)) at (hex_at line m n (line_hex m line h) k (omega (arith, long))) in
            let o = (other (omega (arith, reach))).0 in
            absurd (omega arith)

    pub judged_character : (known : List ℕ) → judge known line ≡ Err Character
    unfolding judge only_digits
    judged_character known = go (only_digits line) refl
      where
        go : (b : Bool) → digits_line (length line - 1) line ≡ b → cond b (judge_kind known line) (Err Character) ≡ Err Character
        go true e = absurd (none_so (length line - 1) e)
        go false e = refl

  -- nothing but digits
  pub judged_open : (known : List ℕ) → position odd s ≡ None → judge known line ≡ Err Character
  judged_open known e = go (nat_lt (position_or_len odd s) (length s)) refl e
    where
      go : (b : Bool) → nat_lt (position_or_len odd s) (length s) ≡ b → cond b (Some (position_or_len odd s)) None ≡ None → judge known line ≡ Err Character
      go true q r = cc
      go false q r = let k = ltb-false _ _ q in judged_character (position_or_len odd s) (digits_first s) (λ h. absurd (omega arith)) known

-- ---- what a sound line is: one of the known

abbrev pub Among : (known line : List ℕ) → Type 0
Among [] l = ⊥
Among (b ∷ []) l = ⊥
Among (b ∷ n ∷ known) l = ((digits_line n l ≡ true) × (field l 0 2 ≡ b)) ⊎ Among known l

sound_kind : (known l : List ℕ) → digits_line (length l - 1) l ≡ true → judge_kind known l ≡ Ok tt → Among known l
unfolding judge_kind begins_with
sound_kind [] l d e = cc
sound_kind (b ∷ []) l d e = cc
sound_kind (b ∷ n ∷ known) l d e = go (leb 3 (length l)) (eqb (field l 0 2) b) refl (eqb (length l) (n + 1)) refl e (sound_kind known l d)
  where
    go : (t k : Bool) → eqb (field l 0 2) b ≡ k → (m : Bool) → eqb (length l) (n + 1) ≡ m
        → cond (t && k) (cond m (Ok tt) (Err Length)) (judge_kind known l) ≡ Ok tt → (judge_kind known l ≡ Ok tt → Among known l) → Among (b ∷ n ∷ known) l
    go true true q true r e rest =
        let f : length l - 1 ≡ n = let w = eqb-true (length l) (n + 1) r in omega arith in
        inl (rw f at d, eqb-true (field l 0 2) b q)
    go true true q false r e rest = cc
    go true false q m r e rest = inr (rest e)
    go false k q m r e rest = inr (rest e)

pub sound_among : (known l : List ℕ) → judge known l ≡ Ok tt → Among known l
unfolding judge only_digits
sound_among known l e = go (only_digits l) refl e
  where
    go : (b : Bool) → digits_line (length l - 1) l ≡ b → cond b (judge_kind known l) (Err Character) ≡ Ok tt → Among known l
    go true d e = sound_kind known l d e
    go false d e = cc
