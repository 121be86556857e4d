-- When one list begins another.
use Rattle.std.specs.Prelude.{◌≡◌, ◌⊎◌, List, ◌∷◌, ◌++◌}

module _ {A : Type 0} where
  -- IsPrefix(h, k): of lists with the oldest first, k goes on from h.
  abbrev pub Prefix : List A → List A → Type 0
  Prefix h k = (l : List A) × (k ≡ h ++ l)

  abbrev pub OneBegins : List A → List A → Type 0
  OneBegins h k = Prefix h k ⊎ Prefix k h

infix 50 ◌⊑◌
-- Of lists with the latest first: k is h, or h with more put before it.
pub data ◌⊑◌ {A : Type 0} (h : List A) : List A → Type 0 where
  same : h ⊑ h
  more : {x : A} {k : List A} → h ⊑ k → h ⊑ (x ∷ k)

abbrev pub Comparable : {A : Type 0} → List A → List A → Type 0
Comparable h k = (h ⊑ k) ⊎ (k ⊑ h)
