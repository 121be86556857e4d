use native.Mathlib.Omega.{arith}
use mathlib.Core.Path.{◌≡◌, refl, sym, ap, ◌∙◌}
use mathlib.Core.List.{List}
use Prim.Native.Nat.{ℕ, ◌+◌, ◌-◌, ◌≤◌}
use lib.ListN.{length, set}
use lib.Seq.{sets}
use Rattle.tables.specs.Layout.{count_place, row_place}
use Rattle.tables.specs.Heads.{line_at}
use Rattle.std.proofs.lemmas.Result.{err_from_is_err_and}
use Rattle.tables.proofs.Refusals.{no_zero}
use Rattle.reading.proofs.Outcomes.{told_refused, answer_accepted, answer_refused}
use Rattle.tables.specs.declared.frames.Line.TheVariants.{Opens, Gives}
use Rattle.reading.proofs.Arms.{no_frame}
use Rattle.tables.proofs.Heads.{full}
use Rattle.reading.proofs.Accepted.{agent_below, agent_open}
use Rattle.reading.proofs.Accepted as Accepted
use Rattle.reading.proofs.Sound.{placed_sound}
use Rattle.reading.proofs.RowsRead.{Turn, first_turn, opens_line, open_rows, open_turn, gives_line, line_replies, row_below, row_turn, row_refused, no_line, no_text}
use Rattle.reading.proofs.Loads.{Filling, first_words, open_words, row_words, all_words, no_words_left}
use Rattle.reading.proofs.reading.take_rows.Goals as goal
use Rattle.reading.proofs.reading.take_rows.Goals.{Joined-sound_line, In-Gives, In-Opens, in-Opens, in-Gives+in_ok-at_line-in-Gives}

pub loop-p-init : goal.loop-p-init
loop-p-init c = (
  first_turn c.args.text.now c.requires.0,
  first_words c.args.text.now _ c.requires.0 c.requires.1 c.requires.2,
)

pub sound_line-requires : goal.sound_line-requires
sound_line-requires c = (c.loop-p-test.true, placed_sound _ _ _ _ c.loop-p.invariant.0.placed)

-- ---- an agent is opened

opens_here : (c : In-Opens) → line_at c.args.text.now c.loop-p.p ≡ Opens c.in-Opens.field-0
opens_here c = sym c.sound_line.ensures ∙ c.in-Opens.is

room : (c : In-Opens) → c.loop-p.p + 37 ≤ length c.args.text.now
room c = (opens_line c.loop-p.invariant.0 (opens_here c)).room

pub put_agent-requires : goal.put_agent-requires
put_agent-requires c =
    let t = c.loop-p.invariant in
    let o = opens_here (goal.at.put_agent-requires c).In-Opens in
    (t.1.within, (opens_line t.0 o).digits, t.1.words, agent_below _ _ t.1.within t.1.placed o)

pub rows_next-c-requires : goal.rows_next-c-requires
rows_next-c-requires c =
    let t = c.loop-p.invariant.0 in
    let o = opens_here (goal.at.rows_next-c-requires c).In-Opens in
    (room (goal.at.rows_next-c-requires c).In-Opens, placed_sound _ _ _ _ (open_turn t o).placed, open_rows t o)

-- ---- a row is given

gives_here : (c : In-Gives) → line_at c.args.text.now c.loop-p.p ≡ Gives c.in-Gives.field-0
gives_here c = sym c.sound_line.ensures ∙ c.in-Gives.is

pub words_of-words-requires : goal.words_of-words-requires
words_of-words-requires c =
    let t = c.loop-p.invariant.0 in
    (t.within, (gives_line t (gives_here (goal.at.words_of-words-requires c).In-Gives)).digits)

pub row_reply-requires : goal.row_reply-requires
row_reply-requires c = (row_below c.loop-p.invariant.0 (gives_here (goal.at.row_reply-requires c).In-Gives)).0

pub returns-in_err-at_line-in-Gives : goal.returns-in_err-at_line-in-Gives
returns-in_err-at_line-in-Gives c =
    let p = err_from_is_err_and c.from_residual.result c.from_residual.ensures.1 in
    let k = answer_refused c.loop-p.n c.row_reply.result _ c.in_err-at_line-in-Gives.ensures in
    rw (p.1, p.2) (
      c.in_err-at_line-in-Gives.ensures ∙ told_refused _ _ _ refl k
          ∙ sym (row_refused c.loop-p.invariant.0 (gives_here (goal.at.returns-in_err-at_line-in-Gives c).In-Gives) _ (line_replies _ _ c.words_of-words.ensures c.from.ensures c.row_reply.ensures) k),
      λ z. absurd (no_zero _ z),
    )

pub put_row-requires : goal.put_row-requires
put_row-requires c =
    let t = c.loop-p.invariant.1 in
    let g = gives_here (goal.at.put_row-requires c).In-Gives in
    (t.words, agent_open _ _ t.within t.placed g, t.placed.agents, Accepted.row_below _ _ t.within t.placed g)

-- ---- after a line of either kind

passed : (c : Joined-sound_line)
    → let l = c.loop-p in
    let m = c.match-sound_line in
    let text = c.args.text.now in
    Turn text (l.p + 37) (l.n + 1) m.c m.i × Filling text m.table (l.p + 37) m.a m.i
passed c =
    let l = c.loop-p in
    let t = l.invariant in
    elim c.match-sound_line.branch [
      | in-Opens w ↦
          let o = sym c.sound_line.ensures ∙ w.in-Opens.is in
          rw (w.table-is, w.a-is, w.c-is, w.i-is, w.rows_next-c.ensures) (open_turn t.0 o, open_words t.1 o _ w.put_agent.ensures)
      | in-Gives+in_ok-at_line-in-Gives w ↦
          let g = sym c.sound_line.ensures ∙ w.in-Gives.is in
          let ok = answer_accepted l.n w.row_reply.result w.in_ok-at_line-in-Gives.ensures in
          rw (w.table-is, w.a-is, w.c-is, w.i-is) (
            row_turn t.0 g (line_replies _ _ w.words_of-words.ensures w.from.ensures w.row_reply.ensures ∙ ok),
            row_words t.1 g _
                (w.put_row.ensures
                ∙ ap (λ (ws : List ℕ). sets (set l.table (count_place (l.a - 1)) (l.i + 1)) (row_place (l.a - 1) l.i) ws) w.words_of-words.ensures),
          )
    ]

pub loop-p-preserved : goal.loop-p-preserved
loop-p-preserved c = passed (goal.at.loop-p-preserved c).Joined-sound_line

-- ---- the end

pub returns-in_default : goal.returns-in_default
returns-in_default c =
    let q = c.sound_line in
    let t = c.loop-p.invariant in
    let f = ap full (sym q.ensures) ∙ no_frame q.result c.in_default.not-Opens c.in_default.not-Gives in
    (sym (no_line t.0 f), λ z. all_words t.1 f)

pub returns : goal.returns
returns c =
    let t = c.loop-p.invariant in
    (sym (no_text t.0 c.loop-p-test.false), λ z. no_words_left t.1 c.loop-p-test.false)

-- the text stops after a line
pub returns-after-sound_line : goal.returns-after-sound_line
returns-after-sound_line c =
    let t = passed (goal.at.returns-after-sound_line c).Joined-sound_line in
    (sym (no_text t.0 (omega arith)), λ z. no_words_left t.1 (omega arith))
