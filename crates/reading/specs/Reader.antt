-- The reader of frames: replies 2, 18, 19 and 3 with their line, then 4 to 6, then 7, and the table's words. Assumes nothing.
use Rattle.std.specs.Prelude.{Bool, true, false, not, ◌&&◌, List, [], ◌∷◌, Result, Ok, Err, ℕ, zero, suc, ◌+◌, ◌-◌, ltb, leb, eqb, set, replicate}
use Rattle.std.proofs.lemmas.List.Edits.{sets}
use Rattle.tables.specs.Basics.{first, ◌⇒◌, Rule}
use Rattle.tables.specs.Faults.{fault_reply}
use Rattle.tables.specs.Frames.{Frame, opens, gives, ends, malformed}
use Rattle.tables.specs.Layout.{agents, rows, row_in, agents_place, count_place, start_place, row_place, table_words}
use Rattle.tables.specs.Replies.{number_of}
use Rattle.tables.specs.Rows.{row_reply}
use Rattle.tables.specs.Table.{climbs}
use Rattle.tables.specs.declared.replies.Refusal.{Refusal}
use Rattle.reading.specs.declared.Refused.{Refused}
use Rattle.reading.specs.declared.Told.{Told}

abbrev pub told : ℕ → ℕ → Told
told r n = record { reply = r; line = n }

-- what C is told of a call that may refuse: 0 and no line where it is accepted, else the number of the refusal with its line
abbrev pub told_of : Result Unit Refused → Told
told_of (Ok _) = told 0 0
told_of (Err e) = told (number_of e.refusal) e.line

-- what is told of an answer to line n
abbrev pub told_at : ℕ → Result Unit Refusal → Told
told_at n (Ok _) = told 0 0
told_at n (Err r) = told (number_of r) n

abbrev pub none_left : List Frame → Bool
none_left [] = true
none_left (f ∷ fs) = false

-- ---- "Out of place (3) are:" a rule for each phrase, where a agents were opened and the last of them, the open one, has i rows so far

-- "a wrong agent number": b, where number c is due
abbrev pub wrong_agent : (b c : ℕ) → Rule
wrong_agent b c = not (eqb b c) ⇒ 3

-- "a row with no open agent"
abbrev pub no_open_agent : ℕ → Rule
no_open_agent a = eqb a 0 ⇒ 3

-- "an agent left without rows", by the line that opens the next agent or by the end line
abbrev pub no_rows : (a i : ℕ) → Rule
no_rows a i = ltb 0 a && eqb i 0 ⇒ 3

-- "an end with no agent"
abbrev pub no_agent : ℕ → Rule
no_agent a = eqb a 0 ⇒ 3

-- "a 17th agent"
abbrev pub agent17 : ℕ → Rule
agent17 a = leb 16 a ⇒ 3

-- "a 33rd row"
abbrev pub row33 : ℕ → Rule
row33 i = leb 32 i ⇒ 3

-- "anything after the end line (not read further, so 3 even where malformed)": the frames that are left
abbrev pub past_end : List Frame → Rule
past_end fs = not (none_left fs) ⇒ 3

-- "text that stops without it, told as the line after the last"
abbrev pub no_end : List Frame → Rule
no_end fs = none_left fs ⇒ 3

-- ---- which of them a line is held to

abbrev pub opening_rules : (b a i : ℕ) → List Rule
opening_rules b a i = wrong_agent b a ∷ agent17 a ∷ no_rows a i ∷ []

abbrev pub row_rules : (b a i : ℕ) → List Rule
row_rules b a i = no_open_agent a ∷ wrong_agent b (a - 1) ∷ row33 i ∷ []

abbrev pub end_rules : (a i : ℕ) → List Rule
end_rules a i = no_agent a ∷ no_rows a i ∷ []

-- what is told of line n where nothing is read further: the first rule that it breaks, or 0
abbrev pub told_by : List Rule → ℕ → Told
told_by rs n = elim (first rs) [ zero ↦ told 0 0 | suc r ↦ told (suc r) n ]

-- 2, 18, 19 and 3 ("all before 3 on one line"). Line n is next, a agents were opened, and the last of them has i rows so far.
unfoldable pub in_place : (n a i : ℕ) → List Frame → Told
in_place n a i [] = told_by (no_end [] ∷ []) n
in_place n a i (malformed w ∷ fs) = told (fault_reply w) n
in_place n a i (opens b ws ∷ fs) =
    elim (first (opening_rules b a i)) [ zero ↦ in_place (n + 1) (a + 1) 0 fs | suc r ↦ told (suc r) n ]
in_place n a i (gives b ws ∷ fs) =
    elim (first (row_rules b a i)) [ zero ↦ in_place (n + 1) a (i + 1) fs | suc r ↦ told (suc r) n ]
in_place n a i (ends ∷ fs) =
    elim (first (end_rules a i)) [ zero ↦ told_by (past_end fs ∷ []) (n + 1) | suc r ↦ told (suc r) n ]

-- the rows that come before the next agent or the end: an agent's row count, where its opening line is passed
unfoldable pub rows_next : List Frame → ℕ
rows_next [] = 0
rows_next (opens b ws ∷ fs) = 0
rows_next (gives b ws ∷ fs) = suc (rows_next fs)
rows_next (ends ∷ fs) = 0
rows_next (malformed w ∷ fs) = 0

-- 4 to 6. Line n is next, in an agent of c rows of which i were taken.
unfoldable pub rows_good : (n c i : ℕ) → List Frame → Told
rows_good n c i [] = told 0 0
rows_good n c i (opens b ws ∷ fs) = rows_good (n + 1) (rows_next fs) 0 fs
rows_good n c i (gives b ws ∷ fs) =
    elim (row_reply (row_in ws) i c) [
      | zero ↦ rows_good (n + 1) c (i + 1) fs
      | suc r ↦ told (suc r) n
    ]
rows_good n c i (ends ∷ fs) = told 0 0
rows_good n c i (malformed w ∷ fs) = told 0 0

-- the words tb once the frames are put in, after a agents of which the last has i rows
unfoldable pub loaded : List ℕ → (a i : ℕ) → List Frame → List ℕ
loaded tb a i [] = tb
loaded tb a i (opens b ws ∷ fs) = loaded (sets (set tb agents_place (a + 1)) (start_place a) ws) (a + 1) 0 fs
loaded tb a i (gives b ws ∷ fs) = loaded (sets (set tb (count_place (a - 1)) (i + 1)) (row_place (a - 1) i) ws) a (i + 1) fs
loaded tb a i (ends ∷ fs) = tb
loaded tb a i (malformed w ∷ fs) = tb

-- the 2,129 words of a table that was read: "On success the unused words of the table are set to 0"
unfoldable pub table_of : List Frame → List ℕ
table_of fs = loaded (replicate table_words 0) 0 0 fs

-- ---- 7: "names the earliest row that breaks this", the row that goes on to an earlier window

-- of the k rows of agent a from row i on, whose line is line n
unfoldable pub rows_climb : (tb : List ℕ) (n a i k : ℕ) → Told
rows_climb tb n a i zero = told 0 0
rows_climb tb n a i (suc k) = elim (climbs tb a i) [ true ↦ rows_climb tb (n + 1) a (i + 1) k | false ↦ told 7 n ]

-- what is told first of two
unfoldable pub first_told : Told → Told → Told
first_told t u = elim t.reply [ zero ↦ u | suc r ↦ t ]

-- of the m agents from agent a on, which line n opens: its rows' lines follow it, and then the next agent's
unfoldable pub agents_climb : (tb : List ℕ) (n a m : ℕ) → Told
agents_climb tb n a zero = told 0 0
agents_climb tb n a (suc m) = first_told (rows_climb tb (n + 1) a 0 (rows tb a)) (agents_climb tb (n + (1 + rows tb a)) (a + 1) m)

-- of all agents, the first of which line n opens
unfoldable pub table_climbs : (tb : List ℕ) (n : ℕ) → Told
table_climbs tb n = agents_climb tb n 0 (agents tb)

-- ---- the reply to the frames of a text, with its line

-- "First all lines are read for 2 and 3", and by T-01 for 18 and 19 between them, ".. Then rows are taken in order for 4, 5, 6", and by T-03 7 "is tested once all rows have passed 4 to 6".
unfoldable pub frames_reply : List Frame → Told
frames_reply fs = first_told (in_place 1 0 0 fs) (first_told (rows_good 1 0 0 fs) (table_climbs (table_of fs) 1))
