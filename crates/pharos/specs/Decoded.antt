-- Words that stand for published system states. Where each accepted choice executes, the words are `Coded`, and have all that is proved of
-- that (proofs/Decoded, `coded`).
use Rattle.std.specs.Prelude.{◌≡◌, Bool, true, ℕ}
use Rattle.pharos.specs.Published.{Types, SystemState, executes}

pub record Decoded (T : Types) : Type 1 where
  pub Words : Type 0
  pub Fit : Words → Type 0
  pub decode : Words → SystemState T
  -- accepted choices, and the words after one
  pub accepts : Words → ℕ → ℕ → Bool
  pub move : Words → ℕ → ℕ → Words
  pub does : (w : Words) (a t : ℕ) → Fit w → accepts w a t ≡ true → executes T a (decode w) (decode (move w a t))
  pub at_time : (w : Words) (a t : ℕ) → Fit w → accepts w a t ≡ true → (decode (move w a t)).t ≡ t
  pub stays : (w : Words) (a t : ℕ) → Fit w → accepts w a t ≡ true → Fit (move w a t)
