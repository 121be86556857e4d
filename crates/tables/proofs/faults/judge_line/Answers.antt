use mathlib.Core.Path.{◌≡◌, sym, ◌∙◌}
use mathlib.Core.Bool.{true}
use Prim.Native.Nat.{◌<◌}
use lib.ListN.{length, take, drop, get_or}
use Rattle.tables.specs.Lines.{hex_digit, all_hex}
use Rattle.tables.specs.declared.faults.Fault.TheVariants.{Character}
use Rattle.std.proofs.lemmas.List.{take_rest}
use Rattle.std.proofs.lemmas.Result.{err_from_is_err_and}
use Rattle.tables.proofs.Judging.{first_odd, judged_kind, judged_character, judged_open}
use Rattle.tables.proofs.faults.judge_line.Goals as goal
use Rattle.tables.proofs.faults.judge_line.Goals.{In_ok-digits}

-- where the digits end
first : (c : In_ok-digits) → let s = drop c.args.at c.args.text.now in
    (c.in_ok-digits.digits < length s) × (15 < hex_digit (get_or s c.in_ok-digits.digits 0)) × (all_hex (take c.in_ok-digits.digits s) ≡ true)
first c = first_odd _ _ (rw (take_rest c.args.text.now c.args.at) at (sym c.digits_first.ensures ∙ c.in_ok-digits.ensures.ok_part))

pub returns-then-line-digits-ne10 : goal.returns-then-line-digits-ne10
returns-then-line-digits-ne10 c =
    let w = first (goal.at.returns-then-line-digits-ne10 c).In_ok-digits in
    sym (judged_character _ c.in_ok-digits.digits w.2 (λ k. (w.1, rw (take_rest c.args.text.now c.args.at) at c.if-line-digits-ne10.true)) _)

pub returns-in_err-digits : goal.returns-in_err-digits
returns-in_err-digits c =
    let none = c.in_err-digits.ensures.ok_part in
    let v = rw none at c.in_err-digits.ensures.value in
    let e : c.in_err-digits.field-0.0 ≡ Character = cc in
    let p = err_from_is_err_and c.from_residual.result c.from_residual.ensures.1 in
    rw (p.1, p.2, e) (sym (judged_open _ _ (rw (take_rest c.args.text.now c.args.at) at (sym c.digits_first.ensures ∙ none))))

pub returns : goal.returns
returns c =
    let w = first (goal.at.returns c).In_ok-digits in
    let p = take_rest c.args.text.now c.args.at in
    rw p at c.judge_kind.ensures ∙ sym (judged_kind _ c.in_ok-digits.digits w.2 w.0 (rw p at c.if-line-digits-ne10.false) _)

pub judge_kind-requires : goal.judge_kind-requires
judge_kind-requires c =
    let w = first (goal.at.judge_kind-requires c).In_ok-digits in
    rw (take_rest c.args.text.now c.args.at) (w.0, w.2)
