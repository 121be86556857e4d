-- The proved table: the cases P1 to P12 of 01, as one list with one statement, from the text of a table to the reply and the agents' states.
-- The cases' numbers are written from 01; nothing here is taken from a run. Assumes nothing.
use Rattle.std.specs.Prelude.{Bool, true, ◌&&◌, List, [], ◌∷◌, ◌++◌, ℕ, zero, suc, ◌+◌, ◌/◌, eqb, T, get_or, length, take, drop, replicate}
use Rattle.std.specs.Int.Count.{ones_in, count_trailing_zeros}
use Rattle.tables.specs.Basics.{first, every, all_below, all_zero, zero_from}
use Rattle.tables.specs.Layout.{table_words, row_of}
use Rattle.tables.specs.Rows.{row_reply, well_formed, fields_fit, names_of, within, goes_on_to, not_above}
use Rattle.tables.specs.Table.{good_table, good_agent, good_rows, row_reply_at, climbs_to, climbs}
use Rattle.tables.specs.Lines.{lines, same, end_line, hex_digit, all_hex, number, field, digits_line}
use Rattle.tables.specs.Faults.{fault_reply, only_digits, begins_with, judge_kind, judge}
use Rattle.tables.specs.Frames.{frame_of, frames_of, four_words}
use Rattle.reading.specs.Reader.{in_place, rows_good, rows_next, frames_reply, loaded, table_of, rows_climb, first_told, agents_climb, table_climbs}
use Rattle.reading.specs.Calls.{read_into, frames_into}
use Rattle.choices.specs.State.{state_words, pos_place, reg_place, start_words}
use Rattle.choices.specs.Messages.{best, look_agents, look_rows, look, visible, beats}
use Rattle.choices.specs.Effect.{after, receive}
use Rattle.choices.specs.Fit.{in_time, unfinished}
use Rattle.choices.specs.Step.{choice_reply, accepted, with_agent, with_sent}
use Rattle.executive.specs.Run.{run_from}
use Rattle.executive.specs.Calls.{run_into, run_refusal}
use Rattle.digits.specs.Hex.{hex_char, hex_digits, hex_line}

-- a text of lines, 36 digits each, from the numbers that they stand for, with its end line
text : List ℕ → List ℕ
unfolding hex_line hex_digits hex_char
text [] = end_line
text (m ∷ ms) = hex_line 36 m ++ text ms

-- A table's lines with the choices of a run, its reply, its count and each agent's position and registers after it; or lines with the reply and the line told.
pub data Case : Type 0 where
  runs : (lines choices : List ℕ) (reply count : ℕ) (agents : List ℕ) → Case
  reads : (lines : List ℕ) (reply line : ℕ) → Case

-- the positions and registers of n agents from agent a on
agents_from : List ℕ → ℕ → ℕ → List ℕ
agents_from st a zero = []
agents_from st a (suc n) = get_or st (pos_place a) 0 ∷ take 4 (drop (reg_place a) st) ++ agents_from st (a + 1) n

holds : Case → Bool
unfolding first every same text agents_from run_into run_refusal run_from start_words choice_reply in_time unfinished accepted with_agent with_sent after receive best look_agents look_rows look visible beats good_table good_agent good_rows row_reply_at climbs climbs_to row_reply goes_on_to not_above well_formed fields_fit names_of within row_of zero_from all_zero all_below read_into frames_into frames_reply frames_of frame_of four_words judge judge_kind only_digits begins_with fault_reply digits_line all_hex field number hex_digit lines in_place rows_good rows_climb first_told agents_climb table_climbs rows_next loaded table_of ones_in count_trailing_zeros
holds (runs ls cs r n ss) =
    let q = run_into (read_into (text ls) (replicate table_words 0)).table (replicate state_words 0) cs in
    eqb q.reply r && eqb q.count n && same (agents_from q.state 0 (length ss / 5)) ss
holds (reads ls r n) =
    let q = (read_into (text ls) (replicate table_words 0)).told in
    eqb q.reply r && eqb q.line n

all : List Case → Bool
unfolding holds
all [] = true
all (c ∷ cs) = holds c && all cs

-- ---- the cases

cases : List Case
cases =
    -- P1
    runs
    (0x000000000005000000000000000000000000
    ∷ 0x010020000000000000070000000100000003
    ∷ 0x000100000000000000000000000000000000
    ∷ 0x010130010000000000070000000400000008
    ∷ [])
    (0 ∷ 3 ∷ 1 ∷ 4 ∷ []) 0 2
    (1 ∷ 5 ∷ 0 ∷ 0 ∷ 0 ∷ 1 ∷ 0 ∷ 5 ∷ 0 ∷ 0 ∷ [])
    ∷
    -- P2
    runs
    (0x000000000005000000000000000000000000
    ∷ 0x010020000000000000070000000100000003
    ∷ 0x000100000000000000000000000000000000
    ∷ 0x010130010000000000070000000400000008
    ∷ [])
    (1 ∷ 4 ∷ []) 15 0
    (0 ∷ 5 ∷ 0 ∷ 0 ∷ 0 ∷ 0 ∷ 0 ∷ 0 ∷ 0 ∷ 0 ∷ [])
    ∷
    -- P3
    runs
    (0x000000000005000000000000000000000000
    ∷ 0x010020000000000000070000000100000003
    ∷ 0x000100000000000000000000000000000000
    ∷ 0x010130010000000000070000000300000008
    ∷ [])
    (0 ∷ 1 ∷ 1 ∷ 5 ∷ []) 0 2
    (1 ∷ 5 ∷ 0 ∷ 0 ∷ 0 ∷ 1 ∷ 0 ∷ 0 ∷ 0 ∷ 0 ∷ [])
    ∷
    -- P4
    runs
    (0x000000000005000000000000000000000000
    ∷ 0x010020000000000000070000000100000003
    ∷ 0x000100000000000000000000000000000000
    ∷ 0x010130010000000000070000000300000008
    ∷ [])
    (1 ∷ 3 ∷ 0 ∷ 3 ∷ []) 0 2
    (1 ∷ 5 ∷ 0 ∷ 0 ∷ 0 ∷ 1 ∷ 0 ∷ 0 ∷ 0 ∷ 0 ∷ [])
    ∷
    -- P5
    runs
    (0x000000000005000000000000000000000000
    ∷ 0x010020000000000000070000000100000003
    ∷ 0x000100000000000000000000000000000000
    ∷ 0x010130010000000000070000000400000008
    ∷ 0x000200000006000000000000000000000000
    ∷ 0x010220000000000000070000000100000003
    ∷ [])
    (0 ∷ 1 ∷ 2 ∷ 2 ∷ 1 ∷ 4 ∷ []) 0 3
    (1 ∷ 5 ∷ 0 ∷ 0 ∷ 0 ∷ 1 ∷ 0 ∷ 5 ∷ 0 ∷ 0 ∷ 1 ∷ 6 ∷ 0 ∷ 0 ∷ 0 ∷ [])
    ∷
    -- P6
    runs
    (0x000000000005000000000000000000000000
    ∷ 0x010020000000000000070000000100000002
    ∷ 0x000100000000000000000000000000000000
    ∷ 0x010130010000000000070000000400000008
    ∷ 0x000200000006000000000000000000000000
    ∷ 0x010220000000000000070000000100000003
    ∷ [])
    (0 ∷ 1 ∷ 2 ∷ 2 ∷ 1 ∷ 4 ∷ []) 0 3
    (1 ∷ 5 ∷ 0 ∷ 0 ∷ 0 ∷ 1 ∷ 0 ∷ 6 ∷ 0 ∷ 0 ∷ 1 ∷ 6 ∷ 0 ∷ 0 ∷ 0 ∷ [])
    ∷
    -- P7
    runs
    (0x000000000002000000050000000000000000
    ∷ 0x010002000100000000000000000000000001
    ∷ [])
    (0 ∷ 1 ∷ []) 0 1
    (1 ∷ 4294967293 ∷ 5 ∷ 0 ∷ 0 ∷ [])
    ∷
    -- P8
    runs
    (0x000000000009FFFFFFFF0000000000000000
    ∷ 0x010003000100000000000000000000000001
    ∷ [])
    (0 ∷ 1 ∷ []) 0 1
    (1 ∷ 32 ∷ 4294967295 ∷ 0 ∷ 0 ∷ [])
    ∷
    -- P8
    runs
    (0x000000000009000000000000000000000000
    ∷ 0x010003000100000000000000000000000001
    ∷ [])
    (0 ∷ 1 ∷ []) 0 1
    (1 ∷ 0 ∷ 0 ∷ 0 ∷ 0 ∷ [])
    ∷
    -- P9
    runs
    (0x000000000009000004040000000000000000
    ∷ 0x010004000100000000000000000000000001
    ∷ [])
    (0 ∷ 1 ∷ []) 0 1
    (1 ∷ 2 ∷ 1028 ∷ 0 ∷ 0 ∷ [])
    ∷
    -- P9
    runs
    (0x000000000009000000000000000000000000
    ∷ 0x010004000100000000000000000000000001
    ∷ [])
    (0 ∷ 1 ∷ []) 0 1
    (1 ∷ 32 ∷ 0 ∷ 0 ∷ 0 ∷ [])
    ∷
    -- P10
    reads
    (0x000000000000000000000000000000000000
    ∷ 0x010010000002000000000000000000000001
    ∷ 0x010000000000000000010000000000000001
    ∷ 0x010000000000000000010000000000000001
    ∷ [])
    0 0
    ∷
    -- P10
    reads
    (0x000000000000000000000000000000000000
    ∷ 0x010010000003000000000000000000000001
    ∷ 0x010000000000000000010000000000000001
    ∷ 0x010000000000000000010000000000000001
    ∷ [])
    5 2
    ∷
    -- P11
    reads
    (0x000000000000000000000000000000000000
    ∷ 0x010000000000000000010000000300000003
    ∷ [])
    6 2
    ∷
    -- P11
    reads
    (0x000000000000000000000000000000000000
    ∷ 0x0100000000000000000100000003000F4240
    ∷ [])
    0 0
    ∷
    -- P11
    reads
    (0x000000000000000000000000000000000000
    ∷ 0x0100000000000000000100000003000F4241
    ∷ [])
    6 2
    ∷
    -- P12
    reads
    (0x000000000000000000000000000000000000
    ∷ 0x010000000000000000010000000400000008
    ∷ 0x010000000000000000010000000400000008
    ∷ [])
    0 0
    ∷
    -- P12
    reads
    (0x000000000000000000000000000000000000
    ∷ 0x010000000000000000010000000400000008
    ∷ 0x010000000000000000010000000300000008
    ∷ [])
    7 2
    ∷
    []

proved : T (all cases)
unfolding all cases
proved = tt
