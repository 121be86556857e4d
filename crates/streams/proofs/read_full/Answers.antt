-- What one more read gave follows what was read before.
use Rattle.std.proofs.Common.{◌≡◌, ℕ, ◌+◌, ◌≤◌, List, ◌++◌, rules, length, take, drop, sym, ap, ◌∙◌, subst, le_refl, drop_at, length-take-le}
use Rattle.std.proofs.lemmas.Slice.{take-put_mid_below}
use Rattle.std.specs.Io.KnownBytes.{Consumes}
use Rattle.std.proofs.KnownBytes.{Consumes-trans}
use borrow.Rule.Slice.PartMut.{put_mid, post_of}
use lib.Seq.{take-add, take-append-le}
use Rattle.streams.proofs.read_full.Goals as goal

-- what stood before the part, and then the front of what it holds now
take_filled : (a k n : ℕ) (xs ys : List ℕ) → a ≤ length xs → n ≤ length ys → take (a + n) (put_mid a k xs ys) ≡ take a xs ++ take n ys
take_filled a k n xs ys within fits =
    let whole = put_mid a k xs ys in
    take-add a n whole
    ∙ ap (λ l. l ++ take n (drop a whole)) (take-put_mid_below a k xs ys a (le_refl a) within)
    ∙ ap (λ l. take a xs ++ take n l) (drop_at (take a xs) (ys ++ post_of a k xs) a (length-take-le a xs within))
    ∙ ap (λ l. take a xs ++ l) (take-append-le n ys (post_of a k xs) fits)

pub loop-at-preserved : goal.loop-at-preserved
loop-at-preserved g c = (
  search rules,
  search rules,
  subst (Consumes _ _) (sym (take_filled _ _ _ _ _ c.loop-at.invariant.1 c.in_ok-n.ensures.bound.0)) (Consumes-trans _ _ _ _ _ c.loop-at.invariant.2 c.in_ok-n.ensures.bytes.0),
)
