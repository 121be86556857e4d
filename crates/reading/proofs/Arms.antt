-- Which lines the last arm of a `match` on a line takes. Assumes nothing.
use mathlib.Core.Path.{◌≡◌, refl}
use mathlib.Core.Bool.{false}
use Prim.Native.Nat.{ℕ}
use Rattle.tables.specs.declared.frames.Line.{Line}
use Rattle.tables.specs.declared.frames.Line.TheVariants.{Opens, Gives, Ends, Malformed}
use Rattle.tables.proofs.Heads.{full}
use Rattle.reading.proofs.Places.{is_gives}

-- after an arm for Gives
pub no_gives : (ln : Line) → ((b : ℕ) → ln ≡ Gives b → ⊥) → is_gives ln ≡ false
no_gives (Opens b) g = refl
no_gives (Gives b) g = absurd (g b refl)
no_gives Ends g = refl
no_gives Malformed g = refl

-- after arms for Opens and Gives
pub no_frame : (ln : Line) → ((b : ℕ) → ln ≡ Opens b → ⊥) → ((b : ℕ) → ln ≡ Gives b → ⊥) → full ln ≡ false
no_frame (Opens b) o g = absurd (o b refl)
no_frame (Gives b) o g = absurd (g b refl)
no_frame Ends o g = refl
no_frame Malformed o g = refl
