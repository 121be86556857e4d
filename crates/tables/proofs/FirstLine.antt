-- The first line of a text: how long it is, and that the other lines follow it. Assumes nothing.
use mathlib.Core.Path.{◌≡◌, refl, ap, ◌∙◌}
use mathlib.Core.Bool.{Bool, true, false}
use mathlib.Core.List.{List, [], ◌∷◌}
use Prim.Native.Nat.{ℕ, zero, suc, ◌+◌, ◌-◌, ◌≤◌, ◌<◌, zero-le}
use native.Mathlib.Omega.{arith}
use lib.Dec.{eqb}
use lib.ListN.{length, take, drop, length-drop}
use lib.Seq.{take_all, length-take-le}
use Rattle.tables.specs.Lines.{newline, onto, lines}
use Rattle.tables.specs.Heads.{line_length, line_from}
use Rattle.tables.proofs.Newlines.{lines_newline, lines_other}

line_newline : (c : ℕ) (cs : List ℕ) → eqb c newline ≡ true → line_length (c ∷ cs) ≡ 1
unfolding line_length
line_newline c cs e = rw (e, line_length)

line_other : (c : ℕ) (cs : List ℕ) → eqb c newline ≡ false → line_length (c ∷ cs) ≡ suc (line_length cs)
unfolding line_length
line_other c cs e = rw (e, line_length)

-- a part of a text that goes on past n bytes: those are the first line, and then come the lines of the rest
abbrev pub Splits : (s : List ℕ) (n x : ℕ) → Type 0
Splits s n x = lines (take (n + x) s) ≡ take n s ∷ lines (take x (drop n s))

splits_newline : (c : ℕ) (cs : List ℕ) (x : ℕ) → eqb c newline ≡ true → Splits (c ∷ cs) (line_length (c ∷ cs)) x
splits_newline c cs x e =
    let s : 1 + x ≡ suc x = omega arith in
    rw (line_newline c cs e, s) (lines_newline c (take x cs) e)

splits_other : (c : ℕ) (cs : List ℕ) (n x : ℕ) → eqb c newline ≡ false → Splits cs n x → Splits (c ∷ cs) (suc n) x
splits_other c cs n x e h =
    let s : suc n + x ≡ suc (n + x) = omega arith in
    rw s (lines_other c (take (n + x) cs) e ∙ ap (onto c) h)

splits_last : (c : ℕ) (x : ℕ) → eqb c newline ≡ false → Splits (c ∷ []) (line_length (c ∷ [])) x
unfolding lines line_length
splits_last c zero e = rw (line_other c [] e) (lines_other c [] e)
splits_last c (suc x) e = let s : 1 + suc x ≡ suc (suc x) = omega arith in rw (line_other c [] e, s) (lines_other c [] e)

splits : (c : ℕ) (cs : List ℕ) (x : ℕ) → Splits (c ∷ cs) (line_length (c ∷ cs)) x
splits c [] x = go (eqb c newline) refl
  where
    go : (b : Bool) → eqb c newline ≡ b → Splits (c ∷ []) (line_length (c ∷ [])) x
    go true e = splits_newline c [] x e
    go false e = splits_last c x e
splits c (d ∷ ds) x = go (eqb c newline) refl (splits d ds x)
  where
    go : (b : Bool) → eqb c newline ≡ b → Splits (d ∷ ds) (line_length (d ∷ ds)) x → Splits (c ∷ d ∷ ds) (line_length (c ∷ d ∷ ds)) x
    go true e h = splits_newline c (d ∷ ds) x e
    go false e h = rw (line_other c (d ∷ ds) e) (splits_other c (d ∷ ds) (line_length (d ∷ ds)) x e h)

pub line_within : (s : List ℕ) → line_length s ≤ length s
unfolding line_length
line_within [] = zero-le
line_within (c ∷ cs) = go (eqb c newline) refl (line_within cs)
  where
    go : (b : Bool) → eqb c newline ≡ b → line_length cs ≤ length cs → line_length (c ∷ cs) ≤ suc (length cs)
    go true e h = rw (line_newline c cs e) (omega arith)
    go false e h = rw (line_other c cs e) (omega arith)

line_some : (s : List ℕ) → 0 < length s → 0 < line_length s
line_some [] h = absurd (omega arith)
line_some (c ∷ cs) h = go (eqb c newline) refl
  where
    go : (b : Bool) → eqb c newline ≡ b → 0 < line_length (c ∷ cs)
    go true e = rw (line_newline c cs e) (omega arith)
    go false e = rw (line_other c cs e) (omega arith)

pub splits_some : (s : List ℕ) (x : ℕ) → 0 < length s → Splits s (line_length s) x
splits_some [] x h = absurd (omega arith)
splits_some (c ∷ cs) x h = splits c cs x

pub first_line : (s : List ℕ) → 0 < length s → lines s ≡ take (line_length s) s ∷ lines (drop (line_length s) s)
first_line s h =
    let n = line_length s in
    let k : length s ≤ n + length s = omega arith in
    let j : length (drop n s) ≤ length s = simp length-drop (omega arith) in
    rw (take_all (n + length s) s k, take_all (length s) (drop n s) j) at (splits_some s (length s) h)

-- that line is as long as it is said to be
pub line_whole : (s : List ℕ) → length (take (line_length s) s) ≡ line_length s
line_whole s = length-take-le (line_length s) s (line_within s)

-- the same at a place
module _ (text : List ℕ) (p : ℕ) (h : p < length text) where
  pub some_left : 0 < length (drop p text)
  some_left = simp length-drop (omega arith)

  pub first_line_at : lines (drop p text) ≡ line_from text p ∷ lines (drop (line_length (drop p text)) (drop p text))
  first_line_at = first_line (drop p text) some_left

-- the length of the line at a place
module _ (text : List ℕ) (i : ℕ) where
  pub line_room : i ≤ length text → i + line_length (drop i text) ≤ length text
  line_room h = let w : line_length (drop i text) ≤ length text - i = simp length-drop at (line_within (drop i text)) in omega arith

  pub line_past : i < length text → i < i + line_length (drop i text)
  line_past h = let k = line_some (drop i text) (some_left text i h) in omega arith
