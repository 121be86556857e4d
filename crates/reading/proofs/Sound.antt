-- Frames in their places are sound, and stay so after a line. Assumes nothing.
use mathlib.Core.Path.{◌≡◌, refl, sym, ap, ◌∙◌}
use mathlib.Core.Bool.{true}
use mathlib.Core.List.{List, [], ◌∷◌}
use Prim.Native.Nat.{ℕ, ◌+◌, ◌≤◌}
use lib.ListN.{length, drop}
use Rattle.tables.specs.Frames.{Frame, opens, gives, ends, malformed, frames_of}
use Rattle.tables.specs.Heads.{line_at, sound}
use Rattle.tables.specs.declared.frames.Line.TheVariants.{Gives}
use Rattle.tables.proofs.Heads.{framed}
use Rattle.reading.proofs.Accepted.{Placed, open_on, give_on, fault_placed}

-- frames in their places are sound
pub placed_sound : (fs : List Frame) (n a i : ℕ) → Placed n a i fs → sound fs ≡ true
unfolding sound
placed_sound [] n a i q = refl
placed_sound (opens b ws ∷ fs) n a i q = placed_sound fs (n + 1) (a + 1) 0 (open_on n a i b ws fs q)
placed_sound (gives b ws ∷ fs) n a i q = placed_sound fs (n + 1) a (i + 1) (give_on n a i b ws fs q)
placed_sound (ends ∷ fs) n a i q = refl
placed_sound (malformed w ∷ fs) n a i q = absurd (fault_placed n a i w fs q)

-- after a row's line too
pub sound_next : (text : List ℕ) (p : ℕ) → p ≤ length text → (b : ℕ) → line_at text p ≡ Gives b → sound (frames_of (drop p text)) ≡ true
    → sound (frames_of (drop (p + 37) text)) ≡ true
unfolding sound
sound_next text p i b e s = sym (ap sound (framed text p i (Gives b) e refl).frames) ∙ s
