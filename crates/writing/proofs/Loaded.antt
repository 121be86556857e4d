-- The frames in the words of a table that was read are the frames that it was read from. Assumes nothing.
use mathlib.Core.Path.{◌≡◌, refl, sym, ap, subst, ◌∙◌}
use mathlib.Core.List.{List, [], ◌∷◌, ◌++◌}
use Prim.Native.Nat.{ℕ, suc, ◌+◌, ◌-◌, ◌≤◌, ◌<◌}
use native.Mathlib.Numerals.{add-one}
use native.Mathlib.Omega.{arith}
use lib.ListN.{length, get_or, set, length-set}
use lib.Seq.{sets}
use Rattle.tables.specs.Layout.{agents_place, agents, count_place, rows, start_place, row_place, table_words}
use Rattle.tables.specs.Frames.{Frame, opens, gives, ends, malformed}
use Rattle.reading.specs.Reader.{in_place, rows_next, loaded, table_of}
use Rattle.tables.proofs.Stored.{sets_in, four_by}
use Rattle.reading.proofs.Stores.{with_opened, opened_below, opened_above, with_given, given_below, Now, now_opened, now_given}
use Rattle.reading.proofs.Outcomes.{blank, blank_length}
use Rattle.reading.proofs.Accepted.{Placed, placed_first, open_agent, open_next, open_on, give_agent, give_row, give_on, ends_rows, ends_last, none_placed, fault_placed}
use Rattle.reading.proofs.ReadGood.{Fours}
use Rattle.tables.proofs.Zeros.{get_or-zeros}
use Rattle.writing.specs.Writer.{four_at, rows_from, agents_from, frames_in}
use Rattle.writing.proofs.Counts.{agents_next}

-- ---- a run of four stores

four_stored : (l ws other : List ℕ) (p : ℕ) → length ws ≡ 4 → p + 4 ≤ length l
    → ((k : ℕ) → p ≤ k → k < p + 4 → get_or other k 0 ≡ get_or (sets l p ws) k 0) → four_at other p ≡ ws
four_stored l ws other p four room same =
    let at : (j k : ℕ) → k ≡ p + j → j < 4 → get_or other k 0 ≡ get_or ws j 0 =
    λ j k e h. same k (omega arith) (omega arith) ∙ sets_in l p ws j k e (omega arith) (omega arith) in
    four_by ws four (at 0 p (omega arith) (omega arith)) (at 1 (p + 1) refl (omega arith)) (at 2 (p + 2) refl (omega arith)) (at 3 (p + 3) refl (omega arith))

-- ---- what the frames that are left do not touch, and what they come to

record Kept (tb end : List ℕ) (b i : ℕ) (fs : List Frame) : Type 0 where
  counts : (k : ℕ) → 1 ≤ k → k < count_place b → get_or end k 0 ≡ get_or tb k 0
  registers : (k : ℕ) → 17 ≤ k → k < start_place (b + 1) → get_or end k 0 ≡ get_or tb k 0
  words : (k : ℕ) → 81 ≤ k → k < row_place b i → get_or end k 0 ≡ get_or tb k 0
  count : rows end b ≡ i + rows_next fs
  agents_all : agents end ≡ b + 1 + agents_next fs
  frames : rows_from end b i (rows_next fs) ++ agents_from end (b + 1) (agents_next fs) ≡ fs

-- an agent whose words are those of its frame, and whose rows and successors are known
agent_frames : (end : List ℕ) (b m : ℕ) (ws : List ℕ) (fs : List Frame) → four_at end (start_place b) ≡ ws → rows end b ≡ rows_next fs
    → rows_from end b 0 (rows_next fs) ++ agents_from end (b + 1) m ≡ fs → agents_from end b (suc m) ≡ opens b ws ∷ fs
unfolding agents_from
agent_frames end b m ws fs e r f =
    (λ k. opens b (e k) ∷ (rows_from end b 0 (r k) ++ agents_from end (suc b) m))
    ∙ ap (λ (c : ℕ). opens b ws ∷ (rows_from end b 0 (rows_next fs) ++ agents_from end c m)) (sym (add-one b))
    ∙ ap (λ (l : List Frame). opens b ws ∷ l) f

kept : (fs : List Frame) (tb : List ℕ) (n b i : ℕ) → Fours fs → Now tb b i → Placed n (b + 1) i fs → Kept tb (loaded tb (b + 1) i fs) b i fs
unfolding loaded rows_next agents_next rows_from agents_from
kept [] tb n b i f t q = absurd (none_placed n (b + 1) i q)
kept (malformed w ∷ fs) tb n b i f t q = absurd (fault_placed n (b + 1) i w fs q)
kept (ends ∷ fs) tb n b i f t q = record {
  counts = λ k h l. refl;
  registers = λ k h l. refl;
  words = λ k h l. refl;
  count = t.rows_now ∙ omega arith;
  agents_all = t.count ∙ omega arith;
  frames = ap (λ (l : List Frame). ends ∷ l) (sym (ends_last n (b + 1) i fs q));
}
kept (opens b' ws ∷ fs) tb n b i f t q =
    let c = b + 1 in
    let room = open_agent n c i b' ws fs q in
    let few = q.rows in
    let four = f.0 in
    let tb' = with_opened tb c ws in
    let s = now_opened tb c ws t.words room t.counts_past in
    let below = opened_below tb c ws in
    let above = opened_above tb c ws in
    let r = kept fs tb' (n + 1) c 0 f.1 s (open_on n c i b' ws fs q) in
    let end = loaded tb' (c + 1) 0 fs in
    record {
      counts = λ k h l. r.counts k h (omega arith) ∙ below k h (omega arith);
      registers = λ k h l. r.registers k h (omega arith) ∙ below k (omega arith) (omega arith);
      words = λ k h l. r.words k h (omega arith) ∙ above k (omega arith);
      count = r.counts (count_place b) (omega arith) (omega arith) ∙ below (count_place b) (omega arith) (omega arith) ∙ t.rows_now ∙ omega arith;
      agents_all = r.agents_all ∙ omega arith;
      frames =
          agent_frames end c (agents_next fs) ws fs
          (four_stored (set tb agents_place (c + 1)) ws end (start_place c) four (omega (arith, length-set tb agents_place (c + 1), t.words)) (λ k h l. r.registers k (omega arith) (omega arith)))
          (r.count ∙ omega arith) r.frames
          ∙ ap (λ (m : ℕ). opens m ws ∷ fs) (sym (open_next n c i b' ws fs q));
    }
kept (gives b' ws ∷ fs) tb n b i f t q =
    let room : b < 16 = omega (arith, q.agents) in
    let below = give_row n (b + 1) i b' ws fs q in
    let four = f.0 in
    let tb' = with_given tb b i ws in
    let s = now_given tb b i ws t room in
    let under = given_below tb b i ws in
    let end = loaded tb' (b + 1) (i + 1) fs in
    let r = kept fs tb' (n + 1) b (i + 1) f.1 s (give_on n (b + 1) i b' ws fs q) in
    let z : b ≡ b + 1 - 1 = omega arith in
    let m : b' ≡ b = omega (arith, give_agent n (b + 1) i b' ws fs q) in
    let w = four_stored (set tb (count_place b) (i + 1)) ws end (row_place b i) four (omega (arith, length-set tb (count_place b) (i + 1), t.words)) (λ k h l. r.words k (omega arith) (omega arith)) in
    subst (λ (a : ℕ). Kept tb (loaded (with_given tb a i ws) (b + 1) (i + 1) fs) b i (gives b' ws ∷ fs)) z
    (record {
      counts = λ k h l. r.counts k h l ∙ under k (λ e. omega arith) (omega arith);
      registers = λ k h l. r.registers k h l ∙ under k (λ e. omega arith) (omega arith);
      words = λ k h l. r.words k h (omega arith) ∙ under k (λ e. omega arith) l;
      count = r.count ∙ omega arith;
      agents_all = r.agents_all;
      frames =
          ap (λ (j : ℕ). gives b (four_at end (row_place b i)) ∷ (rows_from end b j (rows_next fs) ++ agents_from end (b + 1) (agents_next fs))) (sym (add-one i))
          ∙ (λ k. gives (sym m k) (w k) ∷ r.frames k);
    })

-- ---- a whole table

from_first : (fs : List Frame) (tb : List ℕ) → length tb ≡ table_words → ((k : ℕ) → get_or tb k 0 ≡ 0) → Fours fs → Placed 1 0 0 fs → frames_in (loaded tb 0 0 fs) ≡ fs
unfolding loaded frames_in
from_first [] tb long zero_words f q = absurd (none_placed 1 0 0 q)
from_first (malformed w ∷ fs) tb long zero_words f q = absurd (fault_placed 1 0 0 w fs q)
from_first (ends ∷ fs) tb long zero_words f q = absurd (let y = ends_rows 1 0 0 fs q in omega arith)
from_first (gives b ws ∷ fs) tb long zero_words f q = absurd (let y = give_agent 1 0 0 b ws fs q in omega arith)
from_first (opens b ws ∷ fs) tb long zero_words f q =
    let room = open_agent 1 0 0 b ws fs q in
    let four = f.0 in
    let tb' = with_opened tb 0 ws in
    let s = now_opened tb 0 ws long room (λ k h l. zero_words k) in
    let r = kept fs tb' 2 0 0 f.1 s (open_on 1 0 0 b ws fs q) in
    let end = loaded tb' 1 0 fs in
    ap (agents_from end 0) (r.agents_all ∙ omega arith)
    ∙ agent_frames end 0 (agents_next fs) ws fs
    (four_stored (set tb agents_place 1) ws end (start_place 0) four (omega (arith, length-set tb agents_place 1, long)) (λ k h l. r.registers k (omega arith) (omega arith)))
    (r.count ∙ omega arith) r.frames
    ∙ ap (λ (m : ℕ). opens m ws ∷ fs) (sym (open_next 1 0 0 b ws fs q))

pub table_frames : (fs : List Frame) → Fours fs → (in_place 1 0 0 fs).reply ≡ 0 → frames_in (table_of fs) ≡ fs
unfolding table_of
table_frames fs f h = from_first fs blank blank_length (get_or-zeros table_words) f (placed_first fs h)
