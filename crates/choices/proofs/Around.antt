-- The words of a state with others in the places of the registers: what is read there, and what is stored around them. Assumes nothing.
use Rattle.std.proofs.Common.{◌≡◌, ℕ, zero, suc, ◌+◌, ◌-◌, ◌<◌, ◌≤◌, List, [], ◌∷◌, ◌++◌, length, get_or, take, drop, set, sym, refl, ap, ◌∙◌, le_of_eq, add-one, arith, length-append, length-drop, length-set, length-take, get_or-drop, take_all, drop-cons, get_or-set_other, get_or-take, get_or-set_same, ext_get_or}
use native.Mathlib.Decide.{dec_lt, ℕ_discrete}
use lib.ListN.{get_or-append}
use lib.Seq.{sets, length-sets, set_at, append_snoc, get_or_at, paste, paste-suc}
use Rattle.choices.specs.Registers.{around, listed, register, with_regs}
use Rattle.tables.proofs.Stored.{get_or-sets_other}
use lib.Seq.{get_or-append_right}
use Rattle.choices.proofs.Lists.{get_d_part}

-- ---- a list given by its elements

module _ {A : Type 0} (f : ℕ → A) where
  pub listed_length : (n : ℕ) → length (listed f n) ≡ n
  unfolding listed
  listed_length zero = refl
  listed_length (suc n) = simp (length-append, listed_length n) (add-one n)

  -- a store of f i at i, in a list whose first i elements are done
  pub listed_set : (d : List A) (i : ℕ) (z : A) → i < length d → set (listed f i ++ drop i d) i (f i) ≡ listed f (i + 1) ++ drop (i + 1) d
  unfolding listed
  listed_set d i z h =
      rw (add-one i, drop-cons d i z h)
      (set_at (listed f i) (get_or d i z) (drop (suc i) d) (f i) i (listed_length i) ∙ sym (append_snoc (listed f i) (f i) (drop (suc i) d)))

  pub listed_at : (n i : ℕ) (z : A) → i < n → get_or (listed f n) i z ≡ f i
  unfolding listed
  listed_at zero i z h = absurd (omega arith)
  listed_at (suc n) i z h = last (λ k. listed_at n i z k) (dec_lt i n)
    where
      last : (i < n → get_or (listed f n) i z ≡ f i) → Dec (i < n) → get_or (listed f n ++ (f n ∷ [])) i z ≡ f i
      last g (yes k) = get_or-append (listed f n) (f n ∷ []) z i (rw (listed_length n) k) ∙ g k
      last g (no k) =
          let e : i ≡ n = omega arith in
          rw e (get_or_at (listed f n) (f n) [] z n (listed_length n))

-- ---- words around 64 others

module _ (ws m : List ℕ) (long : 81 ≤ length ws) (full : length m ≡ 64) where
  low_length : length (take 17 ws) ≡ 17
  low_length = simp length-take (omega arith)

  front_length : length (take 17 ws ++ m) ≡ 81
  front_length = length-append (take 17 ws) m ∙ rw (low_length, full)

  pub around_length : length (around ws m) ≡ length ws
  unfolding around
  around_length = length-append (take 17 ws ++ m) (drop 81 ws) ∙ rw (front_length, length-drop) (omega arith)

  pub around_low : (j : ℕ) → j < 17 → get_or (around ws m) j 0 ≡ get_or ws j 0
  unfolding around
  around_low j h =
      get_or-append (take 17 ws ++ m) (drop 81 ws) 0 j (omega (arith, front_length))
      ∙ get_or-append (take 17 ws) m 0 j (omega (arith, low_length))
      ∙ get_or-take 17 ws j 0 h

  pub around_mid : (j : ℕ) → 17 ≤ j → j < 81 → get_or (around ws m) j 0 ≡ get_or m (j - 17) 0
  unfolding around
  around_mid j l h =
      get_or-append (take 17 ws ++ m) (drop 81 ws) 0 j (omega (arith, front_length))
      ∙ get_or-append_right (take 17 ws) m j 0 (omega (arith, low_length))
      ∙ ap (λ (n : ℕ). get_or m (j - n) 0) low_length

  pub around_high : (j : ℕ) → 81 ≤ j → get_or (around ws m) j 0 ≡ get_or ws j 0
  unfolding around
  around_high j l =
      get_or-append_right (take 17 ws ++ m) (drop 81 ws) j 0 (omega (arith, front_length))
      ∙ get_or-drop 81 ws (j - length (take 17 ws ++ m)) 0
      ∙ ap (λ (n : ℕ). get_or ws n 0) (omega (arith, front_length))

  -- lists told apart by the three parts
  around_is : (l : List ℕ) → length l ≡ length ws → ((j : ℕ) → j < 17 → get_or l j 0 ≡ get_or ws j 0)
      → ((j : ℕ) → 17 ≤ j → j < 81 → get_or l j 0 ≡ get_or m (j - 17) 0) → ((j : ℕ) → 81 ≤ j → get_or l j 0 ≡ get_or ws j 0) → l ≡ around ws m
  around_is l e low mid high = ext_get_or 0 l (around ws m) (e ∙ sym around_length) (λ j h. go j (dec_lt j 17) (dec_lt j 81))
    where
      go : (j : ℕ) → Dec (j < 17) → Dec (j < 81) → get_or l j 0 ≡ get_or (around ws m) j 0
      go j (yes h) k = low j h ∙ sym (around_low j h)
      go j (no n) (yes h) = mid j (omega arith) h ∙ sym (around_mid j (omega arith) h)
      go j (no n) (no k) = high j (omega arith) ∙ sym (around_high j (omega arith))

-- a store before or after the registers
same_set : (x y : List ℕ) (j v k : ℕ) → j < length x → j < length y → get_or x k 0 ≡ get_or y k 0 → get_or (set x j v) k 0 ≡ get_or (set y j v) k 0
same_set x y j v k hx hy e = go (ℕ_discrete k j)
  where
    go : Dec (k ≡ j) → get_or (set x j v) k 0 ≡ get_or (set y j v) k 0
    go (yes d) = rw d (get_or-set_same x j v 0 hx ∙ sym (get_or-set_same y j v 0 hy))
    go (no n) = get_or-set_other x j k v 0 n ∙ e ∙ sym (get_or-set_other y j k v 0 n)

pub around_set : (ws m : List ℕ) (j v : ℕ) → 81 ≤ length ws → length m ≡ 64 → j < length ws → ((17 ≤ j) × (j < 81) → ⊥)
    → around (set ws j v) m ≡ set (around ws m) j v
around_set ws m j v long fm hj off =
    let e = around_length ws m long fm in
    let n = length-set ws j v in
    sym (around_is (set ws j v) m (omega arith) fm (set (around ws m) j v) (length-set (around ws m) j v ∙ e ∙ sym n)
    (λ k h. same_set (around ws m) ws j v k (omega arith) hj (around_low ws m long fm k h))
    (λ k l h. get_or-set_other (around ws m) j k v 0 (λ d. off (omega arith, omega arith)) ∙ around_mid ws m long fm k l h)
    (λ k l. same_set (around ws m) ws j v k (omega arith) hj (around_high ws m long fm k l)))

-- what stands there already
pub around_own : (ws : List ℕ) → 81 ≤ length ws → around ws (take 64 (drop 17 ws)) ≡ ws
around_own ws long =
    sym (around_is ws (take 64 (drop 17 ws)) long (simp (length-take, length-drop) (omega arith)) ws refl (λ j h. refl)
    (λ j l h. sym (get_d_part ws 64 17 (j - 17) (omega arith) ∙ ap (λ (n : ℕ). get_or ws n 0) (omega arith)))
    (λ j l. refl))

-- others put there once more
pub around_around : (ws m n : List ℕ) → 81 ≤ length ws → length m ≡ 64 → length n ≡ 64 → around (around ws m) n ≡ around ws n
around_around ws m n long fm fn =
    let e = around_length ws m long fm in
    around_is ws n long fn (around (around ws m) n) (around_length (around ws m) n (omega arith) fn ∙ e)
    (λ j h. around_low (around ws m) n (omega arith) fn j h ∙ around_low ws m long fm j h)
    (λ j l h. around_mid (around ws m) n (omega arith) fn j l h)
    (λ j l. around_high (around ws m) n (omega arith) fn j l ∙ around_high ws m long fm j l)

-- stores into the registers themselves are lost
pub around_sets : (ws m vs : List ℕ) (p : ℕ) → 81 ≤ length ws → length m ≡ 64 → 17 ≤ p → p + length vs ≤ 81
    → around (sets ws p vs) m ≡ around ws m
around_sets ws m vs p long fm lo hi =
    let e = length-sets ws p vs in
    around_is ws m long fm (around (sets ws p vs) m) (around_length (sets ws p vs) m (omega arith) fm ∙ e)
    (λ j h. around_low (sets ws p vs) m (omega arith) fm j h ∙ get_or-sets_other vs ws p j (λ i k d. omega arith))
    (λ j l h. around_mid (sets ws p vs) m (omega arith) fm j l h)
    (λ j l. around_high (sets ws p vs) m (omega arith) fm j l ∙ get_or-sets_other vs ws p j (λ i k d. omega arith))

-- ---- registers read from a state, and stored into it

-- a register more stored
pub stored_next : (st : List ℕ) (g : List (List ℕ)) (j : ℕ) (l : List ℕ) → l ≡ paste st 17 (listed (register g) 64) j → 81 ≤ length st → j < 64
    → set l (17 + j) (register g j) ≡ paste st 17 (listed (register g) 64) (j + 1)
stored_next st g j l e long h =
    rw (e, ← listed_at (register g) 64 j 0 h, add-one j) (paste-suc st 17 (listed (register g) 64) j 0 (omega arith) (omega (arith, listed_length (register g) 64)))

pub stored_all : (st : List ℕ) (g : List (List ℕ)) → paste st 17 (listed (register g) 64) 64 ≡ with_regs st g
unfolding around
stored_all st g = ap (λ (l : List ℕ). take 17 st ++ l ++ drop 81 st) (take_all 64 (listed (register g) 64) (le_of_eq (listed_length (register g) 64)))
