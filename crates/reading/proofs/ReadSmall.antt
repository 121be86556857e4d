-- The words of a table that was read are words of 32 bits. Assumes nothing.
use mathlib.Core.Path.{◌≡◌}
use mathlib.Core.List.{List, [], ◌∷◌, map}
use Prim.Native.Nat.{ℕ, ◌+◌}
use native.Mathlib.Omega.{arith}
use Rattle.tables.specs.Small.{Small}
use Rattle.tables.specs.Layout.{table_words}
use Rattle.tables.specs.Lines.{lines}
use Rattle.tables.specs.Frames.{Frame, opens, gives, ends, malformed, frame_of, frames_of}
use Rattle.tables.proofs.TableLine.{Tells, tells}
use Rattle.tables.proofs.Small.{small_zeros, small_set, small_sets, four_small}
use Rattle.reading.specs.Reader.{frames_reply, loaded, table_of}
use Rattle.reading.proofs.Accepted.{Placed, placed_first, open_agent, open_on, give_row, give_on}
use Rattle.reading.proofs.Outcomes.{accepted_placed}

table_small : (ls : List (List ℕ)) (tb : List ℕ) (n a i : ℕ) → Small tb → Placed n a i (map frame_of ls) → Small (loaded tb a i (map frame_of ls))
unfolding loaded
table_small [] tb n a i s q = s
table_small (l ∷ ls) tb n a i s q = go (frame_of l) (tells l) q (λ tb n a i. table_small ls tb n a i)
  where
    go : (f : Frame) → Tells l f → Placed n a i (f ∷ map frame_of ls)
        → ((tb : List ℕ) (n a i : ℕ) → Small tb → Placed n a i (map frame_of ls) → Small (loaded tb a i (map frame_of ls)))
        → Small (loaded tb a i (f ∷ map frame_of ls))
    go (opens b ws) t q rest =
        let m = open_agent n a i b ws (map frame_of ls) q in
        rest _ (n + 1) (a + 1) 0 (small_sets ws _ _ (small_set tb _ (a + 1) s (omega arith)) (rw t.2 (four_small l t.1))) (open_on n a i b ws (map frame_of ls) q)
    go (gives b ws) t q rest =
        let m = give_row n a i b ws (map frame_of ls) q in
        rest _ (n + 1) a (i + 1) (small_sets ws _ _ (small_set tb _ (i + 1) s (omega arith)) (rw t.2 (four_small l t.1))) (give_on n a i b ws (map frame_of ls) q)
    go ends t q rest = s
    go (malformed w) t q rest = s

pub words_small : (text : List ℕ) → (frames_reply (frames_of text)).reply ≡ 0 → Small (table_of (frames_of text))
unfolding table_of frames_of
words_small text h = table_small (lines text) _ 1 0 0 (small_zeros table_words) (placed_first (frames_of text) (accepted_placed (frames_of text) h))
