use mathlib.Core.Path.{◌≡◌, refl, sym, ap, ◌∙◌}
use Prim.Native.Nat.{◌+◌, ◌≤◌}
use native.Mathlib.Omega.{arith}
use lib.ListN.{length, drop}
use Rattle.tables.specs.Frames.{frames_of}
use Rattle.reading.specs.Reader.{rows_next}
use Rattle.tables.specs.declared.frames.Line.TheVariants.{Gives}
use Rattle.reading.proofs.Arms.{no_gives}
use Rattle.tables.proofs.Heads.{framed}
use Rattle.reading.proofs.Places.{is_gives, row_next, no_row_next, no_row_left}
use Rattle.reading.proofs.Sound.{sound_next}
use Rattle.reading.proofs.reading.rows_next.Goals as goal
use Rattle.reading.proofs.reading.rows_next.Goals.{In-Gives}

-- one row more, and its line's room
row : (c : In-Gives)
    → let l = c.loop-p in
    let s = c.args.text.now in
    (rows_next (frames_of (drop l.p s)) ≡ 1 + rows_next (frames_of (drop (l.p + 37) s))) × (l.p + 37 ≤ length s)
row c =
    let l = c.loop-p in
    let s = c.args.text.now in
    let e = sym c.sound_line.ensures ∙ c.in-Gives.is in
    (row_next s l.p l.invariant.0 _ e, (framed s l.p l.invariant.0 (Gives _) e refl).room)

pub loop-p-preserved : goal.loop-p-preserved
loop-p-preserved c =
    let l = c.loop-p in
    let s = c.args.text.now in
    let e = sym c.sound_line.ensures ∙ c.in-Gives.is in
    ((row (goal.at.loop-p-preserved c).In-Gives).1, sound_next s l.p l.invariant.0 _ e l.invariant.1, omega (arith, row (goal.at.loop-p-preserved c).In-Gives))

pub returns-in_default : goal.returns-in_default
returns-in_default c =
    let l = c.loop-p in
    let q = c.sound_line in
    let e = ap is_gives (sym q.ensures) ∙ no_gives q.result c.in_default.not-Gives in
    let z = no_row_next c.args.text.now l.p l.invariant.0 e in
    omega arith

pub returns : goal.returns
returns c =
    let l = c.loop-p in
    let z = no_row_left c.args.text.now l.p l.invariant.0 c.loop-p-test.false in
    omega arith

pub returns-in-Gives : goal.returns-in-Gives
returns-in-Gives c =
    let l = c.loop-p in
    let r = row (goal.at.returns-in-Gives c).In-Gives in
    let z = no_row_left c.args.text.now (l.p + 37) r.1 (omega (arith, r.1)) in
    omega (arith, r.0)
