use mathlib.Core.Path.{◌≡◌, sym, ◌∙◌}
use Prim.Native.Nat.{◌+◌, ◌-◌}
use native.Mathlib.Omega.{arith}
use lib.ListN.{take, drop}
use Rattle.tables.specs.Lines.{all_hex}
use Rattle.tables.proofs.Lines.{digits_short, digits_odd, digits_last}
use Rattle.tables.proofs.frames.is_frame.Goals as goal
use Rattle.tables.proofs.frames.is_frame.Goals.{After-are_digits}

pub returns-then-text-at-lt-FRAME_BYTES : goal.returns-then-text-at-lt-FRAME_BYTES
returns-then-text-at-lt-FRAME_BYTES c = sym (digits_short 36 _ _ (omega arith))

-- what was asked of the 36 bytes
asked : (c : After-are_digits) → let g = c.args in c.are_digits.result ≡ all_hex (take 36 (drop g.at g.text.now))
asked c =
    let e : c.args.at + 36 - c.args.at ≡ 36 = omega arith in
    rw e at c.are_digits.ensures

pub returns-then-are_digits : goal.returns-then-are_digits
returns-then-are_digits c =
    let g = c.args in
    sym (digits_last 36 g.text.now g.at (omega arith) (omega arith) (sym (asked (goal.at.returns-then-are_digits c).After-are_digits) ∙ c.if-are_digits.true))

pub returns-else-are_digits : goal.returns-else-are_digits
returns-else-are_digits c =
    let g = c.args in
    c.if-are_digits.false ∙ sym (digits_odd 36 g.text.now g.at (omega arith) (omega arith) (sym (asked (goal.at.returns-else-are_digits c).After-are_digits) ∙ c.if-are_digits.false))
