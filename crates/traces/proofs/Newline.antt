-- The first line of a text ends after its first newline, or with the text. Assumes nothing.
use Rattle.std.proofs.Common.{◌≡◌, ℕ, suc, ◌+◌, ◌-◌, ◌<◌, ◌≤◌, List, [], ◌∷◌, Bool, true, false, Option, None, Some, cond, ltb, eqb, refl, arith, length, take, drop, length-drop}
use Rattle.std.specs.List.{position_or_len}
use borrow.Author.Tests.{lt-ltb, le-ltb}
use native.Mathlib.Decide.{dec_lt}
use lib.Seq.{take_all}
use Rattle.tables.specs.Lines.{newline}
use Rattle.tables.specs.Heads.{line_length}

abbrev pub is_newline : ℕ → Bool
is_newline c = eqb c newline

abbrev first_newline : List ℕ → ℕ
first_newline s = position_or_len is_newline s

-- what `position` answers, for the newlines of a text
abbrev pub position_is : List ℕ → Option ℕ
position_is s = cond (ltb (first_newline s) (length s)) (Some (first_newline s)) None

ends_here : (c : ℕ) (cs : List ℕ) → is_newline c ≡ true → line_length (c ∷ cs) ≡ 1
unfolding line_length
ends_here c cs e = rw (e, line_length)

goes_on : (c : ℕ) (cs : List ℕ) → is_newline c ≡ false → line_length (c ∷ cs) ≡ suc (line_length cs)
unfolding line_length
goes_on c cs e = rw (e, line_length)

found : (s : List ℕ) → first_newline s < length s → line_length s ≡ first_newline s + 1
found [] h = absurd (omega arith)
found (c ∷ cs) h = go (is_newline c) refl (found cs) h
  where
    go : (b : Bool) → is_newline c ≡ b → (first_newline cs < length cs → line_length cs ≡ first_newline cs + 1) → first_newline (c ∷ cs) < length (c ∷ cs)
        → line_length (c ∷ cs) ≡ first_newline (c ∷ cs) + 1
    go true e k h = rw (ends_here c cs e, e) refl
    go false e k h = rw (goes_on c cs e, e) (let i : 1 + first_newline cs < suc (length cs) = rw e at h in let j : first_newline cs < length cs = omega arith in omega (arith, k j))

none : (s : List ℕ) → length s ≤ first_newline s → line_length s ≡ length s
unfolding line_length
none [] h = refl
none (c ∷ cs) h = go (is_newline c) refl (none cs) h
  where
    go : (b : Bool) → is_newline c ≡ b → (length cs ≤ first_newline cs → line_length cs ≡ length cs) → length (c ∷ cs) ≤ first_newline (c ∷ cs) → line_length (c ∷ cs) ≡ length (c ∷ cs)
    go true e k h = absurd (let j : suc (length cs) ≤ 0 = rw e at h in omega arith)
    go false e k h = rw (goes_on c cs e) (let i : suc (length cs) ≤ 1 + first_newline cs = rw e at h in let j : length cs ≤ first_newline cs = omega arith in omega (arith, k j))

-- the part of a list from a place to its end
pub to_end : (l : List ℕ) (n : ℕ) → take (length l - n) (drop n l) ≡ drop n l
to_end l n = take_all (length l - n) (drop n l) (omega (arith, length-drop n l))

module _ (text : List ℕ) (at : ℕ) (h : at ≤ length text) where
  pub line_to : (n : ℕ) → position_is (drop at text) ≡ Some n → at + n + 1 ≡ at + line_length (drop at text)
  line_to n e = go (dec_lt (first_newline (drop at text)) (length (drop at text)))
    where
      go : Dec (first_newline (drop at text) < length (drop at text)) → at + n + 1 ≡ at + line_length (drop at text)
      go (yes k) = let i : Some (first_newline (drop at text)) ≡ Some n = rw (lt-ltb _ _ k) at e in let j : first_newline (drop at text) ≡ n = cc in omega (arith, found (drop at text) k)
      go (no k) = absurd (let i : None ≡ Some n = rw (le-ltb (first_newline (drop at text)) (length (drop at text)) (omega arith)) at e in cc)

  pub line_rest : position_is (drop at text) ≡ None → length text ≡ at + line_length (drop at text)
  line_rest e = go (dec_lt (first_newline (drop at text)) (length (drop at text)))
    where
      go : Dec (first_newline (drop at text) < length (drop at text)) → length text ≡ at + line_length (drop at text)
      go (yes k) = absurd (let i : Some (first_newline (drop at text)) ≡ None = rw (lt-ltb _ _ k) at e in cc)
      go (no k) = let l : length (drop at text) ≡ length text - at = length-drop at text in omega (arith, none (drop at text) (omega arith))
