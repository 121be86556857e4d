-- Digits are as many as asked, and are put one after the other. Assumes nothing.
use mathlib.Core.Path.{◌≡◌, refl, sym, ap, ◌∙◌}
use mathlib.Core.List.{List, [], ◌∷◌, ◌++◌, append_assoc, append-nil}
use Prim.Native.Nat.{ℕ, zero, suc, ◌+◌, ◌*◌, ◌/◌, ◌%◌, ◌≤◌, ◌<◌}
use native.Mathlib.Numerals.{add-one}
use native.Mathlib.Omega.{arith}
use lib.ListN.{length, set, take, get_or, length-append}
use lib.Seq.{sets, sets-eq, drop-drop, take-suc, length-take-le}
use borrow.Rule.Slice.PartMut.{put_mid}
use Rattle.tables.proofs.Stored.{sets_append, set_past, run_then}
use Rattle.digits.specs.Hex.{hex_char, hex_digits, hex_words}

pub hex_digits_length : (k m : ℕ) → length (hex_digits k m) ≡ k
unfolding hex_digits
hex_digits_length zero m = refl
hex_digits_length (suc k) m = length-append (hex_digits k (m / 16)) _ ∙ rw (hex_digits_length k (m / 16)) (omega arith)

pub digits_then : (k v : ℕ) (l m r b : List ℕ) (i j : ℕ) → m ≡ sets l i (hex_digits k v) → i + k ≡ j → r ≡ sets m j b → r ≡ sets l i (hex_digits k v ++ b)
digits_then k v l m r b i j e h f = run_then (hex_digits k v) l m r b i j e (rw hex_digits_length h) f

pub hex_words_length : (ws : List ℕ) → length (hex_words ws) ≡ 8 * length ws
unfolding hex_words
hex_words_length [] = refl
hex_words_length (w ∷ ws) = length-append (hex_digits 8 w) (hex_words ws) ∙ rw (hex_digits_length 8 w, hex_words_length ws) (omega arith)

-- the lowest digit may be written first
pub lowest_first : (l : List ℕ) (at k m : ℕ) → sets (set l (at + k) (hex_char (m % 16))) at (hex_digits k (m / 16)) ≡ sets l at (hex_digits (k + 1) m)
unfolding hex_digits
lowest_first l at k m =
    let n : length (hex_digits k (m / 16)) ≡ k = hex_digits_length k (m / 16) in
    rw add-one
    (set_past (hex_digits k (m / 16)) l at (at + k) (hex_char (m % 16)) (omega arith)
    ∙ rw (sets_append (hex_digits k (m / 16)) (hex_char (m % 16) ∷ []) l at, n))

-- a part of a buffer that is copied over
pub part_copied : (vs l : List ℕ) (i k : ℕ) → k ≡ length vs → i + length vs ≤ length l → put_mid i k l vs ≡ sets l i vs
part_copied vs l i k e h = rw (e, drop-drop (length vs) i l, ← append_assoc) (sym (sets-eq vs l i h))

-- words that are put one after the other: one more
hex_words_append : (vs ws : List ℕ) → hex_words (vs ++ ws) ≡ hex_words vs ++ hex_words ws
unfolding hex_words
hex_words_append [] ws = refl
hex_words_append (v ∷ vs) ws = ap (λ (l : List ℕ). hex_digits 8 v ++ l) (hex_words_append vs ws) ∙ sym (append_assoc (hex_digits 8 v) (hex_words vs) (hex_words ws))

pub word_more : (ws l m r : List ℕ) (i at : ℕ) → i < length ws → m ≡ sets l at (hex_words (take i ws)) → r ≡ sets m (at + 8 * i) (hex_digits 8 (get_or ws i 0)) → r ≡ sets l at (hex_words (take (i + 1) ws))
unfolding hex_words
word_more ws l m r i at h e f =
    let w = get_or ws i 0 in
    let n = hex_words_length (take i ws) in
    let t = length-take-le i ws (omega arith) in
    let whole : hex_words (take (i + 1) ws) ≡ hex_words (take i ws) ++ hex_digits 8 w = rw (add-one i, take-suc ws i 0 h, hex_words_append (take i ws) (w ∷ []), append-nil (hex_digits 8 w)) in
    run_then (hex_words (take i ws)) l m r (hex_digits 8 w) at (at + 8 * i) e (omega arith) f ∙ ap (sets l at) (sym whole)
