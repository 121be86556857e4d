-- `read` meets its contract: each pass's refusal is the reply, and where none refuses the words are the table's. Assumes nothing.
use mathlib.Core.Path.{◌≡◌, refl, sym, ap, ◌∙◌}
use mathlib.Core.List.{List}
use Prim.Native.Nat.{ℕ}
use native.Mathlib.Omega.{arith}
use Rattle.std.proofs.lemmas.Result.{err_from_is_err_and}
use Rattle.tables.specs.Frames.{frames_of}
use Rattle.tables.specs.Replies.{number_of}
use Rattle.tables.proofs.Refusals.{no_zero}
use Rattle.reading.specs.Reader.{told, in_place, rows_good, table_climbs, frames_reply}
use Rattle.reading.specs.Calls.{read_outcome}
use Rattle.reading.specs.declared.Told.{Told}
use Rattle.reading.proofs.Outcomes.{short_table, not_placed, not_passed, all_passed, read_refused, read_accepted}
use Rattle.reading.proofs.ReadGood.{climbs_ready}
use Rattle.reading.proofs.reading.read.Goals as goal
use Rattle.reading.proofs.reading.read.Goals.{In_ok-in_place, In_ok-take_rows}

pub returns-then-table-lt-TABLE_WORDS : goal.returns-then-table-lt-TABLE_WORDS
unfolding number_of
returns-then-table-lt-TABLE_WORDS c = let g = c.args in short_table g.text.now g.table.now c.if-table-lt-TABLE_WORDS.true

pub returns-in_err-in_place : goal.returns-in_err-in_place
returns-in_err-in_place c =
    let g = c.args in
    let p = err_from_is_err_and c.from_residual.result c.from_residual.ensures.1 in
    rw (p.1, p.2) (read_refused g.text.now g.table.now c.if-table-lt-TABLE_WORDS.false _ (not_placed _ _ c.in_err-in_place.ensures (no_zero _)) (no_zero _))

-- the lines are in their places
placed : (c : In_ok-in_place) → (in_place 1 0 0 (frames_of c.args.text.now)).reply ≡ 0
placed c = ap (λ (t : Told). t.reply) (sym c.in_ok-in_place.ensures)

pub returns-in_err-take_rows : goal.returns-in_err-take_rows
returns-in_err-take_rows c =
    let g = c.args in
    let p = err_from_is_err_and c.from_residual-in_err-take_rows.result c.from_residual-in_err-take_rows.ensures.1 in
    rw (p.1, p.2)
    (read_refused g.text.now g.table.now c.if-table-lt-TABLE_WORDS.false _
    (not_passed _ (placed (goal.at.returns-in_err-take_rows c).In_ok-in_place) _ c.in_err-take_rows.ensures.0 (no_zero _)) (no_zero _))

-- every row has passed 4 to 6, and the words are the table's
passed : (c : In_ok-take_rows) → (rows_good 1 0 0 (frames_of c.args.text.now)).reply ≡ 0
passed c = ap (λ (t : Told). t.reply) (sym c.in_ok-take_rows.ensures.0)

pub table_climbs-requires : goal.table_climbs-requires
table_climbs-requires c =
    let (n, few, most, pass) = climbs_ready _ _ (placed (goal.at.table_climbs-requires c).In_ok-in_place) (passed (goal.at.table_climbs-requires c).In_ok-take_rows) (c.in_ok-take_rows.ensures.1 refl) in
    (n, omega arith, few, most, pass)

-- so what is told of their windows is the reply
climbing_is : (c : In_ok-take_rows) → (in_place 1 0 0 (frames_of c.args.text.now)).reply ≡ 0
    → (t : Told) → t ≡ table_climbs c.take_rows.new.table 1 → t ≡ frames_reply (frames_of c.args.text.now)
climbing_is c p t e =
    e ∙ ap (λ (words : List ℕ). table_climbs words 1) (c.in_ok-take_rows.ensures.1 refl) ∙ all_passed _ p (passed c)

pub returns-in_err-table_climbs : goal.returns-in_err-table_climbs
returns-in_err-table_climbs c =
    let g = c.args in
    let p = err_from_is_err_and c.from_residual-in_err-table_climbs.result c.from_residual-in_err-table_climbs.ensures.1 in
    let t = climbing_is (goal.at.returns-in_err-table_climbs c).In_ok-take_rows (placed (goal.at.returns-in_err-table_climbs c).In_ok-in_place) _ c.in_err-table_climbs.ensures in
    rw (p.1, p.2) (read_refused g.text.now g.table.now c.if-table-lt-TABLE_WORDS.false _ t (no_zero _))

pub returns : goal.returns
returns c =
    let g = c.args in
    let w = c.in_ok-take_rows.ensures.1 refl in
    let t = climbing_is (goal.at.returns c).In_ok-take_rows (placed (goal.at.returns c).In_ok-in_place) _ c.in_ok-table_climbs.ensures in
    ap (read_outcome (told 0 0)) c.put_table.ensures ∙ read_accepted g.text.now g.table.now c.if-table-lt-TABLE_WORDS.false _ t refl _ w
