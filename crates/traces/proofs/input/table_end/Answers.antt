use Rattle.tables.proofs.Heads.{end_room}
use native.Mathlib.Omega.{arith}
use mathlib.Core.Path.{◌≡◌, sym, ◌∙◌}
use mathlib.Core.Bool.{true, false}
use Prim.Native.Nat.{◌+◌, ◌≤◌}
use lib.ListN.{length}
use Rattle.tables.specs.Heads.{end_at}
use Rattle.traces.proofs.Places.{end_bytes, end_count, table_bytes_lem, table_count, nothing_left}
use Rattle.tables.proofs.FirstLine.{line_room, line_past}
use Rattle.traces.proofs.input.table_end.Goals as goal

pub returns-then-is_end : goal.returns-then-is_end
returns-then-is_end c =
    let l = c.loop-at in
    let s = c.args.input.now in
    let h = c.loop-at-test.true in
    let e : end_at s l.at ≡ true = sym c.is_end.ensures ∙ c.if-is_end.true in
    let k : l.at + 3 ≤ length s = end_room s l.at e l.invariant.0 in
    let m = end_count s l.at h e in
    (end_bytes s l.at h e ∙ l.invariant.2, omega arith, k, omega arith)

pub loop-at-smaller : goal.loop-at-smaller
loop-at-smaller c =
    let l = c.loop-at in
    let s = c.args.input.now in
    let h = c.loop-at-test.true in
    let p = line_past s l.at h in
    let q = line_room s l.at (omega arith) in
    let e = c.next_line-at.ensures in
    omega arith

pub loop-at-preserved : goal.loop-at-preserved
loop-at-preserved c =
    let l = c.loop-at in
    let s = c.args.input.now in
    let h = c.loop-at-test.true in
    let e : end_at s l.at ≡ false = sym c.is_end.ensures ∙ c.if-is_end.false in
    let p = line_past s l.at h in
    let q = line_room s l.at (omega arith) in
    let b = table_bytes_lem s l.at h e in
    let m = table_count s l.at h e in
    rw c.next_line-at.ensures (omega arith, omega arith, b ∙ l.invariant.2, omega arith)

pub returns : goal.returns
returns c =
    let l = c.loop-at in
    let s = c.args.input.now in
    let z = nothing_left s l.at c.loop-at-test.false in
    (omega arith, omega arith, omega arith, omega arith)
