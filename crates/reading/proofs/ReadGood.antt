-- What `read` accepts, `check` accepts. Assumes nothing.
use mathlib.Core.Path.{◌≡◌, refl, sym, ap, subst, ◌∙◌}
use mathlib.Core.Bool.{true}
use mathlib.Core.List.{List, [], ◌∷◌, ◌++◌, map}
use Prim.Native.Nat.{ℕ, zero, suc, ◌+◌, ◌-◌, ◌≤◌, ◌<◌}
use native.Mathlib.Omega.{arith}
use lib.ListN.{length, take, drop, replicate, length-append, length-replicate}
use lib.Seq.{take_at}
use Rattle.tables.specs.Layout.{agents, rows, table_words}
use Rattle.tables.specs.Rows.{row_reply}
use Rattle.tables.specs.Table.{row_reply_at, good_table}
use Rattle.tables.specs.Lines.{lines}
use Rattle.tables.specs.Frames.{Frame, opens, gives, ends, malformed, four_words, frame_of, frames_of}
use Rattle.tables.specs.Layout.{row_in}
use Rattle.reading.specs.Reader.{in_place, rows_next, rows_good, frames_reply, loaded, table_of}
use Rattle.tables.specs.Calls.{Checked}
use Rattle.tables.proofs.Zeros.{get_or-zeros}
use Rattle.tables.proofs.TableLine.{Tells, tells}
use Rattle.reading.specs.Calls.{Read}
use Rattle.reading.specs.declared.Told.{Told}
use Rattle.tables.proofs.Good.{TableFacts, table_good, good_checked}
use Rattle.reading.proofs.Accepted.{Placed, placed_first, open_agent, open_rows, open_on, give_agent, give_row, give_on, ends_rows, none_placed, fault_placed}
use Rattle.reading.proofs.Outcomes.{accepted_placed, accepted_rows, accepted_climbs, accepted_read, blank, blank_length}
use Rattle.reading.proofs.Climbs.{told_climbing}
use Rattle.reading.proofs.RowsRead.{good_row, bad_row}
use Rattle.reading.proofs.Stores.{with_opened, opened_length, with_given, given_length}
use Rattle.reading.proofs.Growing.{Closed, Open, opened, given, closed, all_facts}

-- opening lines and rows have four words
abbrev pub Four : Frame → Type 0
Four (opens b ws) = length ws ≡ 4
Four (gives b ws) = length ws ≡ 4
Four ends = Unit
Four (malformed w) = Unit

abbrev pub Fours : List Frame → Type 0
Fours [] = Unit
Fours (f ∷ fs) = Four f × Fours fs

built : (fs tb : _) (n b i c : ℕ) → Fours fs → Open tb b i c → Placed n (b + 1) i fs → i + rows_next fs ≡ c → (rows_good n c i fs).reply ≡ 0
    → TableFacts (loaded tb (b + 1) i fs)
unfolding rows_next rows_good loaded
built [] tb n b i c f t q k z = absurd (none_placed n (b + 1) i q)
built (malformed w ∷ fs) tb n b i c f t q k z = absurd (fault_placed n (b + 1) i w fs q)
built (ends ∷ fs) tb n b i c f t q k z =
    all_facts tb b i c t (omega (arith, q.agents)) (ends_rows n (b + 1) i fs q) q.rows (omega arith)
built (opens b' ws ∷ fs) tb n b i c f t q k z =
    let some = open_rows n (b + 1) i b' ws fs q (omega arith) in
    let d = closed tb b i c t (omega (arith, q.agents)) some q.rows (omega arith) in
    let r = open_agent n (b + 1) i b' ws fs q in
    built fs (with_opened tb (b + 1) ws) (n + 1) (b + 1) 0 (rows_next fs) f.1
    (opened tb (b + 1) ws d r f.0 (rows_next fs)) (open_on n (b + 1) i b' ws fs q) (omega arith) z
built (gives b' ws ∷ fs) tb n b i c f t q k z =
    let r : b < 16 = omega (arith, q.agents) in
    let m = give_row n (b + 1) i b' ws fs q in
    let s : b ≡ b + 1 - 1 = omega arith in
    go (row_reply (row_in ws) i c) refl
    (λ h.
    subst (λ (a : ℕ). TableFacts (loaded (with_given tb a i ws) (b + 1) (i + 1) fs)) s
    (built fs (with_given tb b i ws) (n + 1) b (i + 1) c f.1
    (given tb b i c ws t r m f.0 h) (give_on n (b + 1) i b' ws fs q) (omega arith)
    (ap (λ (v : Told). v.reply) (sym (good_row n c i b' ws fs h)) ∙ z)))
  where
    go : (r : ℕ) → row_reply (row_in ws) i c ≡ r → (row_reply (row_in ws) i c ≡ 0 → TableFacts (loaded tb (b + 1) i (gives b' ws ∷ fs)))
        → TableFacts (loaded tb (b + 1) i (gives b' ws ∷ fs))
    go zero h rec = rec h
    go (suc r) h rec =
        let y = ap (λ (v : Told). v.reply) (sym (bad_row n c i b' ws fs (suc r) h (λ u. omega arith))) ∙ z in absurd (omega arith)

-- the first line opens agent 0
first_built : (tb : List ℕ) (fs : List Frame) → Closed tb 0 → Fours fs → Placed 1 0 0 fs → (rows_good 1 0 0 fs).reply ≡ 0 → TableFacts (loaded tb 0 0 fs)
unfolding rows_good loaded
first_built tb [] t f q z = absurd (none_placed 1 0 0 q)
first_built tb (malformed w ∷ fs) t f q z = absurd (fault_placed 1 0 0 w fs q)
first_built tb (ends ∷ fs) t f q z = absurd (let y = ends_rows 1 0 0 fs q in omega arith)
first_built tb (gives b ws ∷ fs) t f q z = absurd (let y = give_agent 1 0 0 b ws fs q in omega arith)
first_built tb (opens b ws ∷ fs) t f q z =
    let r = open_agent 1 0 0 b ws fs q in
    built fs (with_opened tb 0 ws) 2 0 0 (rows_next fs) f.1
    (opened tb 0 ws t r f.0 (rows_next fs)) (open_on 1 0 0 b ws fs q) (omega arith) z

no_agents : (n : ℕ) → n ≡ table_words → Closed (replicate n 0) 0
no_agents n e = record {
  words = length-replicate {A = ℕ} n 0 ∙ e;
  done = λ b h. absurd (omega arith);
  counts_past = λ k h l. get_or-zeros n k;
  registers_past = λ k h l. get_or-zeros n k;
  rows_past = λ k h l. get_or-zeros n k;
}

frame_four : (l : List ℕ) → Four (frame_of l)
unfolding four_words
frame_four l = go (frame_of l) (tells l)
  where
    go : (f : Frame) → Tells l f → Four f
    go (opens b ws) t = ap length t.2
    go (gives b ws) t = ap length t.2
    go ends t = tt
    go (malformed w) t = tt

pub frames_four : (ls : List (List ℕ)) → Fours (map frame_of ls)
frames_four [] = tt
frames_four (l ∷ ls) = (frame_four l, frames_four ls)

-- ---- what `read` accepts, `check` accepts

loaded_length : (fs : List Frame) (tb : List ℕ) (a i : ℕ) → length (loaded tb a i fs) ≡ length tb
unfolding loaded
loaded_length [] tb a i = refl
loaded_length (opens b ws ∷ fs) tb a i = loaded_length fs (with_opened tb a ws) (a + 1) 0 ∙ opened_length tb a ws
loaded_length (gives b ws ∷ fs) tb a i = loaded_length fs (with_given tb (a - 1) i ws) a (i + 1) ∙ given_length tb (a - 1) i ws
loaded_length (ends ∷ fs) tb a i = refl
loaded_length (malformed w ∷ fs) tb a i = refl

pub table_length : (fs : List Frame) → length (table_of fs) ≡ table_words
unfolding table_of
table_length fs = loaded_length fs blank 0 0 ∙ blank_length

-- where the lines are in their places and each row has passed 4 to 6
pub rows_facts : (text : List ℕ) → (in_place 1 0 0 (frames_of text)).reply ≡ 0 → (rows_good 1 0 0 (frames_of text)).reply ≡ 0 → TableFacts (table_of (frames_of text))
unfolding table_of frames_of
rows_facts text p z =
    let fs = frames_of text in first_built (replicate table_words 0) fs (no_agents table_words refl) (frames_four (lines text)) (placed_first fs p) z

-- its words can be passed for 7
pub climbs_ready : (text words : List ℕ) → (in_place 1 0 0 (frames_of text)).reply ≡ 0 → (rows_good 1 0 0 (frames_of text)).reply ≡ 0 → words ≡ table_of (frames_of text)
    → (length words ≡ table_words) × (agents words ≤ 16) × ((a : ℕ) → a < agents words → rows words a ≤ 32)
    × ((a i : ℕ) → a < agents words → i < rows words a → row_reply_at words a i ≡ 0)
climbs_ready text words p z w =
    let f = subst TableFacts (sym w) (rows_facts text p z) in
    (ap length w ∙ table_length (frames_of text), f.few_agents, λ a h. (f.each_agent a h).rows_few, λ a i h l. (f.each_agent a h).rows_pass i l)

pub read_good : (text : List ℕ) → (frames_reply (frames_of text)).reply ≡ 0 → good_table (table_of (frames_of text)) ≡ true
read_good text h =
    let fs = frames_of text in
    table_good (table_of fs) (rows_facts text (accepted_placed fs h) (accepted_rows fs h)) (told_climbing (table_of fs) 1 (accepted_climbs fs h))

pub read_checked : (text tb : List ℕ) (t : Told) (after : List ℕ) → Read text tb t after → t.reply ≡ 0 → Checked after 0
read_checked text tb t after r z =
    let q = accepted_read text tb t after r z in
    let n = table_length (frames_of text) in
    let w : after ≡ table_of (frames_of text) ++ drop table_words tb = q.1 in
    let k : take table_words after ≡ table_of (frames_of text) = ap (take table_words) w ∙ take_at (table_of (frames_of text)) (drop table_words tb) table_words n in
    let m : length after ≡ length (table_of (frames_of text)) + length (drop table_words tb) = ap length w ∙ length-append (table_of (frames_of text)) (drop table_words tb) in
    sym (good_checked after (omega arith) (ap good_table k ∙ read_good text q.0))
