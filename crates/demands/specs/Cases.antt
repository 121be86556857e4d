-- 01's first example, computed: the states that its two agents pass through, whole, cut short by a refusal, and in a list of an odd number of words; and what its output shows.
use Rattle.std.specs.Prelude.{◌≡◌, refl, List, [], ◌∷◌, ◌++◌, ℕ, replicate}
use Rattle.tables.specs.Basics.{first, every, all_below, all_zero, zero_from}
use Rattle.tables.specs.Layout.{row_of}
use Rattle.tables.specs.Lines.{lines, same, hex_digit, all_hex, number, field, digits_line}
use Rattle.tables.specs.Rows.{row_reply, well_formed, fields_fit, names_of, within, goes_on_to, not_above}
use Rattle.tables.specs.Cases.{example_table}
use Rattle.tables.specs.Table.{good_table, good_agent, good_rows, row_reply_at, climbs_to, climbs}
use Rattle.choices.specs.declared.Agent.{Agent}
use Rattle.choices.specs.State.{start_words}
use Rattle.choices.specs.Messages.{best, look_agents, look_rows, look, visible, beats}
use Rattle.choices.specs.Effect.{after, receive}
use Rattle.choices.specs.Fit.{in_time, unfinished}
use Rattle.choices.specs.Step.{choice_reply, accepted, with_agent, with_sent}
use Rattle.executive.specs.Calls.{run_refusal}
use Rattle.digits.specs.Hex.{hex_char, hex_digits, hex_line}
use Rattle.demands.specs.Steps.{step, steps_from, comes_to, passed_in_run}
use Rattle.demands.specs.Traces.{is_step_line, step_in, steps_shown}

abbrev at : (p : ℕ) → List ℕ → Agent
at p r = record { pos = p; regs = r }

abbrev sender : ℕ → Agent
sender p = at p (5 ∷ 0 ∷ 0 ∷ 0 ∷ [])

-- what an agent passes through in a run of the table, made in lent words that are all 9
through : List ℕ → ℕ → List Agent
through cs b = passed_in_run example_table (replicate 1106 9) cs b

record Example : Type 0 where
  sends : through (0 ∷ 3 ∷ 1 ∷ 4 ∷ []) 0 ≡ sender 0 ∷ sender 1 ∷ []
  receives : through (0 ∷ 3 ∷ 1 ∷ 4 ∷ []) 1 ≡ at 0 (0 ∷ 0 ∷ 0 ∷ 0 ∷ []) ∷ at 1 (0 ∷ 5 ∷ 0 ∷ 0 ∷ []) ∷ []
  cut : through (0 ∷ 3 ∷ 0 ∷ 3 ∷ 1 ∷ 4 ∷ []) 1 ≡ at 0 (0 ∷ 0 ∷ 0 ∷ 0 ∷ []) ∷ []
  odd : through (0 ∷ 3 ∷ 1 ∷ []) 0 ≡ sender 0 ∷ []

example : Example
unfolding example_table through steps_from comes_to first every run_refusal start_words choice_reply in_time unfinished accepted with_agent with_sent after receive best look_agents look_rows look visible beats good_table good_agent good_rows row_reply_at climbs climbs_to row_reply goes_on_to not_above well_formed fields_fit names_of within row_of zero_from all_zero all_below
example = record { sends = refl; receives = refl; cut = refl; odd = refl }

-- the output that 01 gives
output : List ℕ
unfolding hex_line hex_digits hex_char
output =
    hex_line 46 0x0300010000000300000005000000000000000000000000
    ++ (hex_line 46 0x0301010000000400000000000000050000000000000000
    ++ hex_line 8 0xFE000002)

shown_steps : steps_shown (lines output) ≡ step 0 3 (sender 1) ∷ step 1 4 (at 1 (0 ∷ 5 ∷ 0 ∷ 0 ∷ [])) ∷ []
unfolding output lines steps_shown is_step_line step_in digits_line all_hex same field number hex_digit
shown_steps = refl
