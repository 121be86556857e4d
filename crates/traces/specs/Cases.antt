-- From input bytes to output bytes, computed: 01's example, and lines that T-01 speaks of. Assumes nothing.
use Rattle.std.specs.Prelude.{List, [], ◌∷◌, ◌++◌, ℕ, Bool, T, eqb}
use Rattle.std.specs.Int.Count.{ones_in, count_trailing_zeros}
use Rattle.tables.specs.Basics.{first, every, all_below, all_zero, zero_from}
use Rattle.tables.specs.Layout.{row_of}
use Rattle.tables.specs.Rows.{row_reply, well_formed, fields_fit, names_of, within, goes_on_to, not_above}
use Rattle.tables.specs.Table.{climbs_to, climbs}
use Rattle.tables.specs.Lines.{lines, same, hex_digit, all_hex, number, field, digits_line, newline}
use Rattle.tables.specs.Faults.{fault_reply, judged_reply, only_digits, begins_with, judge_kind, judge}
use Rattle.tables.specs.Frames.{frame_of, frames_of, four_words}
use Rattle.reading.specs.Reader.{in_place, rows_good, rows_next, frames_reply, loaded, table_of, rows_climb, first_told, agents_climb, table_climbs}
use Rattle.reading.specs.Calls.{read_into, frames_into}
use Rattle.choices.specs.State.{start_words}
use Rattle.choices.specs.Messages.{best, look_agents, look_rows, look, visible, beats}
use Rattle.choices.specs.Effect.{after, receive}
use Rattle.choices.specs.Fit.{in_time, unfinished}
use Rattle.choices.specs.Step.{choice_reply, accepted, with_agent, with_sent}
use Rattle.traces.specs.Input.{table_bytes, table_text, choice_lines, known_in_choices, bad_choice, bad_choice_of, choices_in}
use Rattle.digits.specs.Cases.{example_text}
use Rattle.digits.specs.Hex.{hex_char, hex_digits, hex_words, hex_line}
use Rattle.traces.specs.Output.{step_line, last_line, trace_from, trace_choices, refused_or, trace_of}

opens_0 : List ℕ
opens_0 = hex_line 36 0x000000000005000000000000000000000000

sends : List ℕ
sends = hex_line 36 0x010020000000000000070000000100000003

-- the trace of this input is this output
gives : (input output : List ℕ) → Bool
unfolding first every same start_words choice_reply in_time unfinished accepted with_agent with_sent after receive best look_agents look_rows look visible beats row_reply goes_on_to not_above well_formed fields_fit names_of within row_of zero_from all_zero all_below read_into frames_into frames_reply frames_of frame_of four_words judge judge_kind only_digits begins_with fault_reply digits_line all_hex field number hex_digit lines in_place rows_good rows_climb climbs climbs_to first_told agents_climb table_climbs rows_next loaded table_of ones_in count_trailing_zeros table_bytes table_text choice_lines bad_choice bad_choice_of choices_in hex_char hex_digits hex_words step_line last_line trace_from trace_choices refused_or trace_of
gives input output = same (trace_of input).bytes output

cases : T (every (
    -- 01's example
    gives (example_text ++ (hex_line 12 0x020000000003 ++ hex_line 12 0x020100000004))
    (hex_line 46 0x0300010000000300000005000000000000000000000000 ++ (hex_line 46 0x0301010000000400000000000000050000000000000000 ++ hex_line 8 0xFE000002))
    -- a choice line is cut: 18, "its line number in the whole input .. before any step"
    ∷ gives (example_text ++ (hex_line 12 0x020000000003 ++ hex_line 10 0x0201000000)) (hex_line 8 0xFE120007)
    -- the earliest line counts: 19 for an empty one, though a letter follows
    ∷ gives (opens_0 ++ (sends ++ (newline ∷ 103 ∷ newline ∷ []))) (hex_line 8 0xFE130003)
    -- "all before 3 on one line": a row with no open agent that is cut too
    ∷ gives (hex_line 34 0x0100200000000000000700000001000000) (hex_line 8 0xFE120001)
    ∷ []))
unfolding opens_0 sends example_text gives hex_line every
cases = tt

-- "in choice lines only `02` is known"
asks : List ℕ → ℕ → Bool
asks l r = eqb (judged_reply (judge known_in_choices l)) r

choices : T (every (
    asks (hex_line 12 0x020000000003) 0
    ∷ asks (hex_line 2 0x02) 18
    ∷ asks (hex_line 14 0x02000000000300) 18
    ∷ asks (hex_line 2 0xFF) 19
    ∷ asks (hex_line 36 0x000000000005000000000000000000000000) 19
    ∷ []))
unfolding asks hex_line every judged_reply fault_reply judge judge_kind only_digits begins_with digits_line same all_hex field number hex_digit hex_digits hex_char
choices = tt
