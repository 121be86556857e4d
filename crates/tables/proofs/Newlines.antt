-- The lines of a text: they are the text, and each ends at its newline. Assumes nothing.
use mathlib.Core.Path.{◌≡◌, refl, sym, ap, ◌∙◌}
use mathlib.Core.Bool.{Bool, true, false}
use mathlib.Core.List.{List, [], ◌∷◌, ◌++◌, append_assoc}
use Prim.Native.Nat.{ℕ, ◌+◌, ◌-◌, ◌<◌}
use native.Mathlib.Omega.{arith}
use lib.Dec.{ltb, eqb}
use lib.ListN.{length, take, drop, length-drop, take-append-drop}
use borrow.Author.Tests.{ltb-true, ne_eqb}
use Rattle.tables.specs.Lines.{same, newline, end_line, onto, lines, hex_digit, all_hex, digits_line}
use Rattle.tables.proofs.Passed.{and_1, and_2}
use Rattle.tables.proofs.Lines.{same_eq, same_self}

unfoldable pub joined : List (List ℕ) → List ℕ
joined [] = []
joined (l ∷ ls) = l ++ joined ls

joined_onto : (c : ℕ) (ls : List (List ℕ)) → joined (onto c ls) ≡ c ∷ joined ls
unfolding joined
joined_onto c [] = refl
joined_onto c (l ∷ ls) = refl

pub lines_newline : (c : ℕ) (cs : List ℕ) → eqb c newline ≡ true → lines (c ∷ cs) ≡ (c ∷ []) ∷ lines cs
unfolding lines
lines_newline c cs e = rw (e, lines)

pub lines_other : (c : ℕ) (cs : List ℕ) → eqb c newline ≡ false → lines (c ∷ cs) ≡ onto c (lines cs)
unfolding lines
lines_other c cs e = rw (e, lines)

pub joined_lines : (s : List ℕ) → joined (lines s) ≡ s
unfolding joined lines
joined_lines [] = refl
joined_lines (c ∷ cs) = go (eqb c newline) refl (joined_lines cs)
  where
    go : (b : Bool) → eqb c newline ≡ b → joined (lines cs) ≡ cs → joined (lines (c ∷ cs)) ≡ c ∷ cs
    go true e h = ap joined (lines_newline c cs e) ∙ ap (λ (l : List ℕ). c ∷ l) h
    go false e h = ap joined (lines_other c cs e) ∙ joined_onto c (lines cs) ∙ ap (λ (l : List ℕ). c ∷ l) h

-- ---- a line ends at its first newline, and no digit is one

pub newline_none : hex_digit newline < 16 → ⊥
unfolding hex_digit
newline_none h = absurd (omega arith)

hex_newline : (c : ℕ) → hex_digit c < 16 → eqb c newline ≡ false
hex_newline c h = ne_eqb c newline (λ e. newline_none (rw e at h))

lines_break : (l r : List ℕ) → all_hex l ≡ true → lines (l ++ newline ∷ r) ≡ (l ++ newline ∷ []) ∷ lines r
unfolding lines all_hex
lines_break [] r h = refl
lines_break (c ∷ l) r h =
    lines_other c (l ++ newline ∷ r) (hex_newline c (ltb-true _ _ (and_1 (ltb (hex_digit c) 16) (all_hex l) h)))
    ∙ ap (onto c) (lines_break l r (and_2 (ltb (hex_digit c) 16) (all_hex l) h))

module _ (n : ℕ) (l : List ℕ) (h : digits_line n l ≡ true) where
  pub line_hex : all_hex (take n l) ≡ true
  unfolding digits_line
  line_hex = and_1 (all_hex (take n l)) (same (drop n l) (newline ∷ [])) h

  pub line_end : drop n l ≡ newline ∷ []
  unfolding digits_line
  line_end = same_eq (drop n l) (newline ∷ []) (and_2 (all_hex (take n l)) (same (drop n l) (newline ∷ [])) h)

  pub line_length_lem : length l ≡ n + 1
  line_length_lem = let e : length l - n ≡ 1 = sym (length-drop n l) ∙ ap length line_end in omega arith

pub lines_digits : (n : ℕ) (s : List ℕ) → digits_line n (take (n + 1) s) ≡ true → lines s ≡ take (n + 1) s ∷ lines (drop (n + 1) s)
lines_digits n s h =
    let l = take (n + 1) s in
    let e : take n l ++ newline ∷ [] ≡ l = rw (← line_end n l h) (take-append-drop n l) in
    let f : take n l ++ newline ∷ drop (n + 1) s ≡ s =
    sym (append_assoc (take n l) (newline ∷ []) (drop (n + 1) s)) ∙ ap (λ (t : List ℕ). t ++ drop (n + 1) s) e ∙ take-append-drop (n + 1) s in
    ap lines (sym f) ∙ lines_break (take n l) (drop (n + 1) s) (line_hex n l h) ∙ ap (λ (t : List ℕ). t ∷ lines (drop (n + 1) s)) e

pub lines_end : (s : List ℕ) → same (take 3 s) end_line ≡ true → lines s ≡ end_line ∷ lines (drop 3 s)
unfolding lines
lines_end s h = ap lines (sym (take-append-drop 3 s) ∙ ap (λ (l : List ℕ). l ++ drop 3 s) (same_eq (take 3 s) end_line h))

-- where it does not begin a text, it does not begin as its first line either
pub no_end_lem : (s l r : List ℕ) → s ≡ l ++ r → same (take 3 s) end_line ≡ false → same l end_line ≡ false
no_end_lem s l r e h = go (same l end_line) refl
  where
    go : (b : Bool) → same l end_line ≡ b → b ≡ false
    go true q =
        let f : take 3 s ≡ end_line = ap (take 3) (e ∙ ap (λ (t : List ℕ). t ++ r) (same_eq l end_line q)) in
        sym (ap (λ (t : List ℕ). same t end_line) f ∙ same_self end_line) ∙ h
    go false q = refl
