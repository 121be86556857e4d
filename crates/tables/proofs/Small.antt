-- Words of 32 bits stay words of 32 bits, in lists and in stores; and a line's numbers are such words. Assumes nothing.
use mathlib.Core.Path.{◌≡◌}
use mathlib.Core.Bool.{true}
use mathlib.Core.List.{List, [], ◌∷◌, ◌++◌}
use Prim.Native.Nat.{ℕ, zero, suc, ◌+◌, ◌≤◌, ◌<◌}
use native.Mathlib.Decide.{dec_lt, ℕ_discrete}
use native.Mathlib.Omega.{arith}
use lib.Dec.{lit<}
use lib.ListN.{length, get_or, set, take, drop, replicate}
use lib.Seq.{sets, set_out, get_or-set_same, get_or-set_other, get_or-drop}
use Rattle.tables.specs.Small.{Word, Small}
use Rattle.tables.specs.Lines.{field, digits_line}
use Rattle.tables.specs.Frames.{four_words}
use Rattle.tables.proofs.Lines.{hex_part, number_next, number_room}
use Rattle.tables.proofs.Newlines.{line_hex, line_length_lem}

pub small_nil : Small []
small_nil = record { word = λ i. lit< tt }

pub small_cons : {x : ℕ} {xs : List ℕ} → Word x → Small xs → Small (x ∷ xs)
small_cons {x} {xs} h s = record { word = at }
  where
    at : (i : ℕ) → Word (get_or (x ∷ xs) i 0)
    at zero = h
    at (suc i) = s.word i

pub small_tail : {x : ℕ} {xs : List ℕ} → Small (x ∷ xs) → Small xs
small_tail s = record { word = λ i. s.word (suc i) }

pub small_append : {xs ys : List ℕ} → Small xs → Small ys → Small (xs ++ ys)
small_append {xs} {ys} s t = go xs s
  where
    go : (l : List ℕ) → Small l → Small (l ++ ys)
    go [] s = t
    go (x ∷ l) s = small_cons (s.word 0) (go l (small_tail s))

pub small_zeros : (n : ℕ) → Small (replicate n 0)
small_zeros zero = small_nil
small_zeros (suc n) = small_cons (lit< tt) (small_zeros n)

pub small_drop : (n : ℕ) {l : List ℕ} → Small l → Small (drop n l)
small_drop n {l} s = record { word = λ i. rw (get_or-drop n l i 0) (s.word (n + i)) }

pub small_take : (n : ℕ) {l : List ℕ} → Small l → Small (take n l)
small_take n {l} s = go n l s
  where
    go : (n : ℕ) (l : List ℕ) → Small l → Small (take n l)
    go zero l s = small_nil
    go (suc n) [] s = small_nil
    go (suc n) (x ∷ l) s = small_cons (s.word 0) (go n l (small_tail s))

pub small_set : (l : List ℕ) (i v : ℕ) → Small l → Word v → Small (set l i v)
small_set l i v s h = record { word = λ j. at j (ℕ_discrete j i) (dec_lt i (length l)) }
  where
    at : (j : ℕ) → Dec (j ≡ i) → Dec (i < length l) → Word (get_or (set l i v) j 0)
    at j (no n) d = rw (get_or-set_other l i j v 0 n) (s.word j)
    at j (yes e) (yes l') = rw (e, get_or-set_same l i v 0 l') h
    at j (yes e) (no n) = rw (set_out l i v (omega arith)) (s.word j)

pub small_sets : (vs l : List ℕ) (i : ℕ) → Small l → Small vs → Small (sets l i vs)
small_sets [] l i s t = s
small_sets (v ∷ vs) l i s t = small_sets vs (set l i v) (suc i) (small_set l i v s (t.word 0)) (small_tail t)

-- ---- the words in a line

-- a number of at most eight digits of a line
pub field_word : (n : ℕ) (l : List ℕ) (i k : ℕ) → digits_line n l ≡ true → k < 8 → i + (k + 1) ≤ n → Word (field l i (k + 1))
unfolding field
field_word n l i k h few within =
    let long = line_length_lem n l h in
    let hex = hex_part l n i (k + 1) (line_hex n l h) within in
    rw (number_next l i (k + 1) k (omega arith) (omega arith)) (number_room l i (k + 1) k (omega arith) (omega arith) (omega arith) hex)

pub four_small : (l : List ℕ) → digits_line 36 l ≡ true → Small (four_words l)
unfolding four_words
four_small l h =
    let word : (i : ℕ) → i + 8 ≤ 36 → Word (field l i 8) = λ i within. field_word 36 l i 7 h (omega arith) within in
    small_cons (word 4 (omega arith)) (small_cons (word 12 (omega arith)) (small_cons (word 20 (omega arith)) (small_cons (word 28 (omega arith)) small_nil)))
