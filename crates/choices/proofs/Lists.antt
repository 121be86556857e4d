-- Parts of a list, told word by word. Assumes nothing.
use Rattle.std.proofs.Common.{◌≡◌, ℕ, ◌+◌, ◌<◌, ◌≤◌, List, length, get_or, take, drop, sym, ◌∙◌, arith, length-drop, length-take, get_or-drop, get_or-take, ext_get_or}
use lib.Seq.{sets, length-sets}
use Rattle.tables.proofs.Stored.{get_or-sets_same}

-- ---- parts

-- a word of a part
pub get_d_part : (l : List ℕ) (n p i : ℕ) → i < n → get_or (take n (drop p l)) i 0 ≡ get_or l (p + i) 0
get_d_part l n p i h = get_or-take n (drop p l) i 0 h ∙ get_or-drop p l i 0

-- parts of one length that agree word by word
pub part_same : (l k : List ℕ) (n p q : ℕ) → p + n ≤ length l → q + n ≤ length k
    → ((i : ℕ) → i < n → get_or l (p + i) 0 ≡ get_or k (q + i) 0) → take n (drop p l) ≡ take n (drop q k)
part_same l k n p q hl hk same =
    let el : length (take n (drop p l)) ≡ n = simp (length-take, length-drop) (omega arith) in
    let ek : length (take n (drop q k)) ≡ n = simp (length-take, length-drop) (omega arith) in
    ext_get_or 0 (take n (drop p l)) (take n (drop q k)) (el ∙ sym ek) (λ i h.
    let b : i < n = omega arith in get_d_part l n p i b ∙ same i b ∙ sym (get_d_part k n q i b))

-- the part that was stored to
pub part_sets : (l vs : List ℕ) (n p : ℕ) → length vs ≡ n → p + n ≤ length l → take n (drop p (sets l p vs)) ≡ vs
part_sets l vs n p e fit =
    let k : length (take n (drop p (sets l p vs))) ≡ n = simp (length-take, length-drop, length-sets) (omega arith) in
    ext_get_or 0 (take n (drop p (sets l p vs))) vs (k ∙ sym e) (λ i h.
    let b : i < n = omega arith in get_d_part (sets l p vs) n p i b ∙ get_or-sets_same vs l p i (omega arith) (omega arith))
