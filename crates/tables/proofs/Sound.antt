-- Where no line up to the end is malformed, two bytes of a line tell which it is. Assumes nothing.
use mathlib.Core.Path.{◌≡◌, refl, sym, ap, subst, ◌∙◌}
use mathlib.Core.Bool.{Bool, true, false, cond}
use mathlib.Core.List.{List, [], ◌∷◌}
use Prim.Native.Nat.{ℕ, ◌+◌, ◌≤◌, ◌<◌}
use native.Mathlib.Omega.{arith}
use lib.Dec.{eqb}
use lib.ListN.{length, take, drop, get_or}
use lib.Seq.{drop-cons}
use borrow.Author.Tests.{eqb-true}
use Rattle.tables.specs.Lines.{end_line, field, hex_digit}
use Rattle.tables.specs.Frames.{Frame, opens, gives, ends, malformed, frames_of}
use Rattle.tables.specs.Heads.{end_at, digits_at, head_line, line_at, sound}
use Rattle.tables.specs.declared.frames.Line.{Line}
use Rattle.tables.specs.declared.frames.Line.TheVariants.{Opens, Gives, Ends, Malformed}
use Rattle.tables.proofs.Lines.{same_eq, two_digits, hex_char_lem}
use Rattle.tables.proofs.Heads.{kind_line, line_digits, framed, ends_at, some_frames}

-- how each line begins
abbrev pub Begins : (text : List ℕ) (p : ℕ) → Line → Type 0
Begins text p (Opens b) = (get_or text p 0 ≡ 48) × (get_or text (p + 1) 0 ≡ 48) × (digits_at 36 text p ≡ true) × (field text (p + 2) 2 ≡ b)
Begins text p (Gives b) = (get_or text p 0 ≡ 48) × (get_or text (p + 1) 0 ≡ 49) × (digits_at 36 text p ≡ true) × (field text (p + 2) 2 ≡ b)
Begins text p Ends = get_or text p 0 ≡ 70
Begins text p Malformed = ⊥

-- the first byte of a line whose kind is known
abbrev OfKind : ℕ → ℕ → Line → Type 0
OfKind k a (Opens b) = (k ≡ 0) × (a ≡ b)
OfKind k a (Gives b) = (k ≡ 1) × (a ≡ b)
OfKind k a Ends = ⊥
OfKind k a Malformed = k ≡ k

of_kind : (k a : ℕ) → OfKind k a (kind_line k a)
of_kind k a = go (eqb k 0) refl (eqb k 1) refl
  where
    go : (z : Bool) → eqb k 0 ≡ z → (o : Bool) → eqb k 1 ≡ o → OfKind k a (cond z (Opens a) (cond o (Gives a) Malformed))
    go true e o f = (eqb-true k 0 e, refl)
    go false e true f = (eqb-true k 1 f, refl)
    go false e false f = refl

module _ (text : List ℕ) (p : ℕ) where
  kind_begins : (ln : Line) → digits_at 36 text p ≡ true → line_at text p ≡ ln → OfKind (field text p 2) (field text (p + 2) 2) ln
  kind_begins ln d e =
      subst (λ (l : Line). OfKind (field text p 2) (field text (p + 2) 2) l) (sym (line_digits text p d) ∙ e) (of_kind (field text p 2) (field text (p + 2) 2))

  module _ (h : p < length text) (s : sound (frames_of (drop p text)) ≡ true) where
    no_malformed : line_at text p ≡ Malformed → ⊥
    unfolding line_at head_line sound
    no_malformed e = go (frames_of (drop p text)) e s (some_frames text p h)
      where
        go : (fs : List Frame) → head_line fs ≡ Malformed → sound fs ≡ true → (fs ≡ [] → ⊥) → ⊥
        go [] e s k = k refl
        go (opens b ws ∷ fs) e s k = cc
        go (gives b ws ∷ fs) e s k = cc
        go (ends ∷ fs) e s k = cc
        go (malformed w ∷ fs) e s k = cc

    begins : (ln : Line) → line_at text p ≡ ln → Begins text p ln
    unfolding end_at
    begins (Opens b) e =
        let w = framed text p (omega arith) (Opens b) e refl in
        let r : p + 2 ≤ length text = let z = w.room in omega arith in
        let k = kind_begins (Opens b) w.digits e in
        let k0 = k.0 in
        let t = two_digits text p r in
        let x : hex_digit (get_or text p 0) ≡ 0 = omega arith in
        let y : hex_digit (get_or text (p + 1) 0) ≡ 0 = omega arith in
        (hex_char_lem _ 0 x (omega arith), hex_char_lem _ 0 y (omega arith), w.digits, k.1)
    begins (Gives b) e =
        let w = framed text p (omega arith) (Gives b) e refl in
        let r : p + 2 ≤ length text = let z = w.room in omega arith in
        let k = kind_begins (Gives b) w.digits e in
        let k0 = k.0 in
        let t = two_digits text p r in
        let x : hex_digit (get_or text p 0) ≡ 0 = omega arith in
        let y : hex_digit (get_or text (p + 1) 0) ≡ 1 = omega arith in
        (hex_char_lem _ 0 x (omega arith), hex_char_lem _ 1 y (omega arith), w.digits, k.1)
    begins Ends e =
        ap (λ (l : List ℕ). get_or l 0 0) (sym (ap (take 3) (drop-cons text p 0 h)) ∙ same_eq (take 3 (drop p text)) end_line (ends_at text p e))
    begins Malformed e = absurd (no_malformed e)

    pub begins_end : get_or text p 0 ≡ 70 → line_at text p ≡ Ends
    begins_end q = go (line_at text p) refl
      where
        go : (ln : Line) → line_at text p ≡ ln → ln ≡ Ends
        go (Opens b) e = let z = (begins (Opens b) e).0 in absurd (omega arith)
        go (Gives b) e = let z = (begins (Gives b) e).0 in absurd (omega arith)
        go Ends e = refl
        go Malformed e = absurd (no_malformed e)

    module _ (other : get_or text p 0 ≡ 70 → ⊥) where
      pub begins_digits : digits_at 36 text p ≡ true
      begins_digits = go (line_at text p) refl
        where
          go : (ln : Line) → line_at text p ≡ ln → digits_at 36 text p ≡ true
          go (Opens b) e = (begins (Opens b) e).2
          go (Gives b) e = (begins (Gives b) e).2
          go Ends e = absurd (other (begins Ends e))
          go Malformed e = absurd (no_malformed e)

      pub begins_opens : get_or text (p + 1) 0 ≡ 48 → line_at text p ≡ Opens (field text (p + 2) 2)
      begins_opens q = go (line_at text p) refl
        where
          go : (ln : Line) → line_at text p ≡ ln → ln ≡ Opens (field text (p + 2) 2)
          go (Opens b) e = ap Opens (sym (begins (Opens b) e).3)
          go (Gives b) e = let z = (begins (Gives b) e).1 in absurd (omega arith)
          go Ends e = absurd (other (begins Ends e))
          go Malformed e = absurd (no_malformed e)

      pub begins_gives : (get_or text (p + 1) 0 ≡ 48 → ⊥) → line_at text p ≡ Gives (field text (p + 2) 2)
      begins_gives q = go (line_at text p) refl
        where
          go : (ln : Line) → line_at text p ≡ ln → ln ≡ Gives (field text (p + 2) 2)
          go (Opens b) e = absurd (q (begins (Opens b) e).1)
          go (Gives b) e = ap Gives (sym (begins (Gives b) e).3)
          go Ends e = absurd (other (begins Ends e))
          go Malformed e = absurd (no_malformed e)
