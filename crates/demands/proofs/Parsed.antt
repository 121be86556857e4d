-- Lines that were written are read back: step lines to their steps. Assumes nothing.
use mathlib.Core.Path.{◌≡◌, refl, sym, ap, ◌∙◌}
use mathlib.Core.Bool.{true, false}
use mathlib.Core.List.{List, [], ◌∷◌, ◌++◌, append_assoc, append-nil}
use Prim.Native.Nat.{ℕ, ◌+◌, ◌*◌, ◌^◌, ◌<◌}
use native.Mathlib.Omega.{arith}
use lib.Dec.{lit<}
use lib.ListN.{length, get_or, length-append}
use Rattle.tables.specs.Small.{Small}
use Rattle.tables.specs.Lines.{newline, lines, all_hex, field, digits_line}
use Rattle.tables.proofs.Tests.{and_right}
use Rattle.digits.specs.Hex.{hex_digits, hex_words}
use Rattle.tables.proofs.Stored.{four_by}
use Rattle.digits.proofs.Writes.{hex_digits_length, hex_words_length}
use Rattle.digits.proofs.Back.{hex_append, digits_hex, words_hex, digits_field, digits_past, word_field, made_line, line_first}
use Rattle.traces.specs.Output.{step_line, last_line}
use Rattle.traces.proofs.Steps.{step_line_length, last_line_length}
use Rattle.demands.specs.Steps.{Step, step}
use Rattle.demands.specs.Traces.{is_step_line, step_in, steps_shown, step_lines}

-- ---- the line of a step

-- a step that a line can tell of
pub record Plain (s : Step) : Type 0 where
  pub agent : s.agent < 16 ^ 2
  pub time : s.time < 16 ^ 8
  pub position : s.left.pos < 16 ^ 2
  pub four : length s.left.regs ≡ 4
  pub small : Small s.left.regs

module _ (a t p : ℕ) (ws : List ℕ) where
  abbrev body : List ℕ
  body = hex_digits 2 0x03 ++ (hex_digits 2 a ++ (hex_digits 2 p ++ (hex_digits 8 t ++ hex_words ws)))

  abbrev line : List ℕ
  line = step_line a t (record { pos = p; regs = ws })

  with_newline : line ≡ body ++ (newline ∷ [])
  unfolding step_line
  with_newline = simp append_assoc

  body_length : length ws ≡ 4 → length body ≡ 46
  body_length four = simp (length-append, hex_digits_length, hex_words_length, four)

  body_hex : all_hex body ≡ true
  body_hex =
      hex_append (hex_digits 2 0x03) _ (digits_hex 2 0x03)
      (hex_append (hex_digits 2 a) _ (digits_hex 2 a)
      (hex_append (hex_digits 2 p) _ (digits_hex 2 p)
      (hex_append (hex_digits 8 t) _ (digits_hex 8 t) (words_hex ws))))

  line_digits : length ws ≡ 4 → digits_line 46 line ≡ true
  line_digits four = ap (digits_line 46) with_newline ∙ made_line 46 body (body_length four) body_hex

  line_kind : field line 0 2 ≡ 0x03
  unfolding step_line
  line_kind = digits_field 2 0x03 _ (lit< tt)

  line_is_step : length ws ≡ 4 → is_step_line line ≡ true
  unfolding is_step_line
  line_is_step four = rw (line_digits four, line_kind)

-- its fields
module _ (a t p : ℕ) (ws : List ℕ) where
  abbrev registers : List ℕ
  registers = hex_words ws ++ (newline ∷ [])

  abbrev from_time : List ℕ
  from_time = hex_digits 8 t ++ registers

  abbrev from_position : List ℕ
  from_position = hex_digits 2 p ++ from_time

  agent_at_lem : a < 16 ^ 2 → field (line a t p ws) 2 2 ≡ a
  unfolding step_line
  agent_at_lem h = digits_past 2 0x03 _ 0 2 ∙ digits_field 2 a from_position h

  past_agent : (i k : ℕ) → field (line a t p ws) (4 + i) k ≡ field from_position i k
  unfolding step_line
  past_agent i k =
      let e : 4 + i ≡ 2 + (2 + i) = omega arith in
      ap (λ (j : ℕ). field (hex_digits 2 0x03 ++ (hex_digits 2 a ++ from_position)) j k) e ∙ digits_past 2 0x03 _ (2 + i) k ∙ digits_past 2 a from_position i k

  position_at : p < 16 ^ 2 → field (line a t p ws) 4 2 ≡ p
  position_at h = past_agent 0 2 ∙ digits_field 2 p from_time h

  time_at : t < 16 ^ 8 → field (line a t p ws) 6 8 ≡ t
  time_at h = past_agent 2 8 ∙ digits_past 2 p from_time 0 8 ∙ digits_field 8 t registers h

  register_at : length ws ≡ 4 → Small ws → (j i : ℕ) → i ≡ 14 + 8 * j → j < 4 → field (line a t p ws) i 8 ≡ get_or ws j 0
  register_at four small j i e h =
      let q : i ≡ 4 + (2 + (8 + 8 * j)) = omega arith in
      ap (λ (k : ℕ). field (line a t p ws) k 8) q
      ∙ past_agent (2 + (8 + 8 * j)) 8 ∙ digits_past 2 p from_time (8 + 8 * j) 8 ∙ digits_past 8 t registers (8 * j) 8
      ∙ word_field ws (newline ∷ []) small j (omega arith)

-- the step in the line of a step
line_shows : (s : Step) → Plain s → step_in (step_line s.agent s.time s.left) ≡ s
unfolding step_in
line_shows s h =
    let at = register_at s.agent s.time s.left.pos s.left.regs h.four h.small in
    let regs = four_by s.left.regs h.four (at 0 14 (omega arith) (omega arith)) (at 1 22 (omega arith) (omega arith)) (at 2 30 (omega arith) (omega arith)) (at 3 38 (omega arith) (omega arith)) in
    let a = agent_at_lem s.agent s.time s.left.pos s.left.regs h.agent in
    let t = time_at s.agent s.time s.left.pos s.left.regs h.time in
    let p = position_at s.agent s.time s.left.pos s.left.regs h.position in
    λ i. step (a i) (t i) (record { pos = p i; regs = regs i })

-- ---- the last line

module _ (r n : ℕ) where
  abbrev told : List ℕ
  told = hex_digits 2 0xFE ++ (hex_digits 2 r ++ hex_digits 4 n)

  told_line : last_line r n ≡ told ++ (newline ∷ [])
  unfolding last_line
  told_line = simp append_assoc

  told_length : length told ≡ 8
  told_length = simp (length-append, hex_digits_length)

  told_hex : all_hex told ≡ true
  told_hex = hex_append (hex_digits 2 0xFE) _ (digits_hex 2 0xFE) (hex_append (hex_digits 2 r) (hex_digits 4 n) (digits_hex 2 r) (digits_hex 4 n))

  last_alone : lines (last_line r n) ≡ last_line r n ∷ []
  unfolding lines
  last_alone =
      ap lines (sym (append-nil (last_line r n)))
      ∙ line_first 8 (last_line r n) [] (last_line_length r n) (ap (digits_line 8) told_line ∙ made_line 8 told told_length told_hex)

  last_kind : field (last_line r n) 0 2 ≡ 0xFE
  unfolding last_line
  last_kind = digits_field 2 0xFE _ (lit< tt)

  last_no_step : is_step_line (last_line r n) ≡ false
  unfolding is_step_line
  last_no_step = rw last_kind (and_right (digits_line 46 (last_line r n)) false refl)

  pub last_shows : steps_shown (lines (last_line r n)) ≡ []
  unfolding steps_shown
  last_shows = rw (last_alone, last_no_step)

-- ---- an output

abbrev pub AllPlain : List Step → Type 0
AllPlain [] = Unit
AllPlain (s ∷ ss) = Plain s × AllPlain ss

-- the steps that are written are the steps that are shown
pub shown_back : (ss : List Step) (r n : ℕ) → AllPlain ss → steps_shown (lines (step_lines ss ++ last_line r n)) ≡ ss
unfolding step_lines steps_shown
shown_back [] r n plain = last_shows r n
shown_back (s ∷ ss) r n (h, plain) =
    let l = step_line s.agent s.time s.left in
    let rest = step_lines ss ++ last_line r n in
    let first : lines ((l ++ step_lines ss) ++ last_line r n) ≡ l ∷ lines rest =
    ap lines (append_assoc l (step_lines ss) (last_line r n))
    ∙ line_first 46 l rest (step_line_length s.agent s.time s.left h.four) (line_digits s.agent s.time s.left.pos s.left.regs h.four) in
    rw (first, line_is_step s.agent s.time s.left.pos s.left.regs h.four, line_shows s h, shown_back ss r n plain)
