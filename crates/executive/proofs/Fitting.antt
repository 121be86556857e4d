-- What a state that fits its table says, place by place, and back. Assumes nothing.
use mathlib.Core.Path.{◌≡◌, refl}
use mathlib.Core.Logic.{◌≢◌, ◌⊎◌, inl, inr, ⊎_elim}
use mathlib.Core.Bool.{Bool, true, false, ◌&&◌, ◌||◌}
use mathlib.Core.List.{List}
use Prim.Native.Nat.{ℕ, ◌+◌, ◌*◌, ◌-◌, ◌<◌, ◌≤◌}
use native.Mathlib.Decide.{dec_lt}
use native.Mathlib.Omega.{arith}
use lib.Dec.{eqb}
use lib.ListN.{get_or}
use borrow.Author.Tests.{leb-true, le-leb, eqb-true, eq-eqb}
use Rattle.tables.specs.Basics.{every}
use Rattle.tables.specs.Layout.{agents, rows, row}
use Rattle.tables.specs.Table.{good_table}
use Rattle.std.proofs.lemmas.Bool.{or_left, or_right}
use Rattle.tables.proofs.Tests.{and_both}
use Rattle.tables.proofs.Passed.{and_1, and_2, each, below, all_below_lem}
use Rattle.choices.specs.State.{clock, pos, mark, value, pos_place, reg_place, mark_place, value_place}
use Rattle.choices.specs.Fit.{fits, good_places, good_mark}
use Rattle.tables.proofs.Zeros.{zero_at, zero_all}
use Rattle.tables.proofs.Good.{few_rows}
use Rattle.choices.specs.Step.{InTime}
use Rattle.choices.proofs.Choice.{in_time_lem, time_in}

module _ (tb st : List ℕ) where
  -- nothing is sent from row i of agent b; or it is a SEND row below its agent's position, and is sent
  abbrev pub Unsent : ℕ → ℕ → Type 0
  Unsent b i = (mark st b i ≡ 0) × (value st b i ≡ 0)

  abbrev pub Sent : ℕ → ℕ → Type 0
  Sent b i = (mark st b i ≡ 1) × ((row tb b i).op ≡ 0x20) × (i < pos st b)

  -- the word at each place from i up to j is 0
  abbrev Zero : ℕ → ℕ → Type 0
  Zero i j = (k : ℕ) → i ≤ k → k < j → get_or st k 0 ≡ 0

  -- "A state fits a table when .."
  pub record Fits : Type 0 where
    pub clock_from : 1 ≤ clock st
    pub clock_to : clock st ≤ 1000000
    pub late : InTime tb st (clock st)
    pub position : (b : ℕ) → b < agents tb → pos st b ≤ rows tb b
    pub message : (b i : ℕ) → b < agents tb → i < 32 → Unsent b i ⊎ Sent b i
    pub no_position : Zero (pos_place (agents tb)) 17
    pub no_register : Zero (reg_place (agents tb)) 81
    pub no_mark : Zero (mark_place (agents tb) 0) 593
    pub no_value : Zero (value_place (agents tb) 0) 1105

  -- ---- from the tests

  or_either : (a b : Bool) → (a || b) ≡ true → (a ≡ true) ⊎ (b ≡ true)
  or_either true b h = inl refl
  or_either false b h = inr h

  module _ (b : ℕ) (here : good_places tb st b ≡ true) where
    at_message : (i : ℕ) → i < 32 → Dec (i < pos st b) → Unsent b i ⊎ Sent b i
    unfolding good_places good_mark
    at_message i h (yes l) =
        ⊎_elim {C = Unsent b i ⊎ Sent b i}
        (λ u. inl (eqb-true _ _ (and_1 (eqb (mark st b i) 0) (eqb (value st b i) 0) u), eqb-true _ _ (and_2 (eqb (mark st b i) 0) (eqb (value st b i) 0) u)))
        (λ u. inr (eqb-true _ _ (and_1 (eqb (mark st b i) 1) (eqb (row tb b i).op 0x20) u), eqb-true _ _ (and_2 (eqb (mark st b i) 1) (eqb (row tb b i).op 0x20) u), l))
        (or_either (eqb (mark st b i) 0 && eqb (value st b i) 0) (eqb (mark st b i) 1 && eqb (row tb b i).op 0x20)
        (below (pos st b) (good_mark tb st b) (each _ here 1) i l))
    at_message i h (no n) =
        inl (
          zero_at st (mark_place b (pos st b)) (mark_place (b + 1) 0) (each _ here 2) (mark_place b i) (omega arith) (omega arith),
          zero_at st (value_place b (pos st b)) (value_place (b + 1) 0) (each _ here 3) (value_place b i) (omega arith) (omega arith),
        )

  pub fits_says : fits tb st ≡ true → Fits
  unfolding fits good_places
  fits_says h =
      let good : (b : ℕ) → b < agents tb → good_places tb st b ≡ true = below (agents tb) (good_places tb st) (each _ h 3) in
      record {
        clock_from = leb-true _ _ (each _ h 0);
        clock_to = leb-true _ _ (each _ h 1);
        late = in_time_lem tb st (clock st) (each _ h 2);
        position = λ b hb. leb-true _ _ (each _ (good b hb) 0);
        message = λ b i hb hi. at_message b (good b hb) i hi (dec_lt i (pos st b));
        no_position = zero_at st (pos_place (agents tb)) 17 (each _ h 4);
        no_register = zero_at st (reg_place (agents tb)) 81 (each _ h 5);
        no_mark = zero_at st (mark_place (agents tb) 0) 593 (each _ h 6);
        no_value = zero_at st (value_place (agents tb) 0) 1105 (each _ h 7);
      }

  -- ---- and back
  module _ (good : good_table tb ≡ true) (f : Fits) where
    message_mark : (b i : ℕ) → Unsent b i ⊎ Sent b i → good_mark tb st b i ≡ true
    unfolding good_mark
    message_mark b i (inl u) =
        or_left (eqb (mark st b i) 0 && eqb (value st b i) 0) _ (and_both _ _ (eq-eqb _ _ u.0) (eq-eqb _ _ u.1))
    message_mark b i (inr u) =
        or_right (eqb (mark st b i) 0 && eqb (value st b i) 0) (eqb (mark st b i) 1 && eqb (row tb b i).op 0x20)
        (and_both _ _ (eq-eqb _ _ u.0) (eq-eqb _ _ u.1))

    past : (b i : ℕ) → pos st b ≤ i → Unsent b i ⊎ Sent b i → Unsent b i
    past b i l (inl u) = u
    past b i l (inr u) = absurd (omega arith)

    module _ (b : ℕ) (hb : b < agents tb) where
      -- the places of agent b past its position
      past_zero : (base k : ℕ) → base + (32 * b + pos st b) ≤ k → k < base + (32 * (b + 1) + 0)
          → ((i : ℕ) → Unsent b i → get_or st (base + (32 * b + i)) 0 ≡ 0) → get_or st k 0 ≡ 0
      past_zero base k l m word =
          let i = k - (base + 32 * b) in
          let e : base + (32 * b + i) ≡ k = omega arith in
          let u = past b i (omega arith) (f.message b i hb (omega arith)) in
          rw e at (word i u)

      places : good_places tb st b ≡ true
      unfolding good_places every
      places =
          let p = f.position b hb in
          let r = few_rows tb good b hb in
          rw (
            le-leb (pos st b) (rows tb b) p,
            all_below_lem (pos st b) (good_mark tb st b) (λ i l. message_mark b i (f.message b i hb (omega arith))),
            zero_all st (mark_place b (pos st b)) (mark_place (b + 1) 0) (λ k l m. past_zero 81 k l m (λ i u. u.0)),
            zero_all st (value_place b (pos st b)) (value_place (b + 1) 0) (λ k l m. past_zero 593 k l m (λ i u. u.1)),
          )

    pub fits_holds : fits tb st ≡ true
    unfolding fits every
    fits_holds =
        rw (
          le-leb 1 (clock st) f.clock_from,
          le-leb (clock st) 1000000 f.clock_to,
          time_in tb st (clock st) f.late,
          all_below_lem (agents tb) (good_places tb st) places,
          zero_all st (pos_place (agents tb)) 17 f.no_position,
          zero_all st (reg_place (agents tb)) 81 f.no_register,
          zero_all st (mark_place (agents tb) 0) 593 f.no_mark,
          zero_all st (value_place (agents tb) 0) 1105 f.no_value,
        )

  -- ---- the same of any place of the state, used or not

  module _ (f : Fits) (b i : ℕ) (high : b < 16) (short : i < 32) where
    pub any_message : Unsent b i ⊎ ((b < agents tb) × Sent b i)
    any_message = go (dec_lt b (agents tb))
      where
        used : b < agents tb → Unsent b i ⊎ Sent b i → Unsent b i ⊎ ((b < agents tb) × Sent b i)
        used h (inl u) = inl u
        used h (inr s) = inr (h, s)

        go : Dec (b < agents tb) → Unsent b i ⊎ ((b < agents tb) × Sent b i)
        go (yes h) = used h (f.message b i h short)
        go (no n) = inl (f.no_mark (mark_place b i) (omega arith) (omega arith), f.no_value (value_place b i) (omega arith) (omega arith))

    -- "a mark is set only at a SEND row below its agent's position"
    pub marked : mark st b i ≢ 0 → (b < agents tb) × Sent b i
    marked n = ⊎_elim {C = (b < agents tb) × Sent b i} (λ u. absurd (n u.0)) (λ s. s) any_message

    -- a value whose mark is 0 is 0
    pub silent : mark st b i ≡ 0 → value st b i ≡ 0
    silent e = ⊎_elim {C = value st b i ≡ 0} (λ u. u.1) (λ s. absurd (let w = s.1.0 in omega arith)) any_message
