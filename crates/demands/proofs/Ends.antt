-- What a caller's loop can rely on, proved: a state that fits is a ready system of the model, so that the model's progress and completion are its own.
use mathlib.Core.Path.{◌≡◌, refl, sym, ap, ap₂, subst, ◌∙◌}
use mathlib.Core.Bool.{Bool, true, false, not, cond, true≢false}
use mathlib.Core.List.{List, [], ◌∷◌}
use mathlib.Core.Logic.{⊎_elim}
use Prim.Native.Nat.{ℕ, zero, suc, zero-le, max, ◌-◌, ◌≤◌, ◌<◌}
use native.Mathlib.Omega.{arith}
use lib.Dec.{leb}
use borrow.Author.Tests.{leb-true, leb-false, lt-leb, not-false}
use Rattle.pharos.specs.Model.{Model, System, Good, start, ◌▸◌}
use Rattle.pharos.specs.Runs.{total, Ready, work, Windows, Nearer}
use Rattle.pharos.proofs.Instance.{model, system, picked, executes_is_step}
use Rattle.pharos.proofs.Progress.{least, least_may, progress}
use Rattle.pharos.proofs.Completion.{total_le, bounded, stops_ended}
use Rattle.tables.specs.Layout.{agents, rows, row}
use Rattle.tables.specs.declared.Row.{Row}
use Rattle.tables.proofs.Good.{few, few_rows}
use Rattle.tables.proofs.Onward.{rises}
use Rattle.tables.proofs.Passed.{some_fails}
use Rattle.choices.specs.declared.Agent.{Agent}
use Rattle.choices.specs.State.{clock, pos}
use Rattle.choices.specs.Fit.{unfinished, current}
use Rattle.choices.specs.Step.{choice_reply, accepted, InTime}
use Rattle.choices.specs.Pick.{soonest, all_ended, has_least_late, picked_agent}
use Rattle.choices.proofs.Choice.{below_its_rows, is_unfinished, allowed as permitted}
use Rattle.choices.proofs.Pick.{some_left, is_least, least_is, all_ended_lem, each_ended, picked_is}
use Rattle.executive.specs.Calls.{table_part, state_part, words_reply, start_into, step_into, PickOutcome, pick_reply, pick_from}
use Rattle.executive.proofs.Fitting.{Fits, fits_says}
use Rattle.executive.proofs.Ready.{both_zero, zero_words, started_ready}
use Rattle.executive.proofs.PickedBy.{picked_by, pick_ready, replied}
use Rattle.demands.specs.Instance.{published, decode}
use Rattle.demands.specs.Demand2.{Table, Fitting}
use Rattle.demands.specs.Demand3.{AllAtTheirEnd}
use Rattle.demands.specs.Ends.{Usable, SomeUnfinished, StepAccepts, StartIsUsable, StepKeepsUsable, LeastLateAccepted, SomeAccepted, PickIsAccepted, PickWhileUnfinished, PickAtTheEnd, rows_of, rows_left, LeftAreRows, NoLongerList, loop, TakesAccepted, EveryLoopEnds, by_pick, PickingEnds, StartedEnds}
use Rattle.demands.proofs.Allowed.{allowed}
use Rattle.demands.proofs.Rows.{goes_on_lem}
use Rattle.demands.proofs.Decode.{state_low}
use Rattle.demands.proofs.Step.{low}
use Rattle.demands.proofs.Demand2.{choice_is_models}
use Rattle.demands.proofs.Assumed.{assumptions_hold}
use Rattle.demands.proofs.Call.{ready, ready_table, ready_state, reply_is, was, left_words}
use Rattle.demands.proofs.Lent.{agents_part, rows_part, row_part, pos_part, clock_part}

total_same : (f g : ℕ → ℕ) (n : ℕ) → ((b : ℕ) → b < n → f b ≡ g b) → total f n ≡ total g n
unfolding total
total_same f g zero h = refl
total_same f g (suc n) h = let e = h n (omega arith) in let r = total_same f g n (λ b l. h b (omega arith)) in omega arith

-- ---- words of their full length: a system of the model

module _ (tb : List ℕ) (table : Table tb) where
  abbrev M : Model
  M = model (published tb) (assumptions_hold tb table)

  abbrev here : List ℕ → System M
  here st = system (published tb) (assumptions_hold tb table) (decode tb st)

  windows : Windows M
  windows a s real live = let w = (assumptions_hold tb table).instr_of_type a s real live in omega arith

  -- what an agent has still before it: each step leaves it less
  abbrev before_it : ℕ → Agent → ℕ
  before_it b s = rows tb b - s.pos

  nearer : Nearer M before_it
  nearer a s real live p =
      let (up, _) = rises (row tb a s.pos) _ _ (goes_on_lem tb a s p (row tb a s.pos) (picked (published tb) a s p)) in
      let unended : s.pos < rows tb a = leb-false _ _ live in
      omega arith

  module _ (st : List ℕ) (state : Fitting tb st) where
    fit : Fits tb st
    fit = fits_says tb st state.fit

    ready_here : Ready (here st)
    ready_here b real live =
        let in_words = state_low tb st b (low tb st table.good real) in
        rw in_words (fit.late b real (leb-false _ _ (rw in_words at live)))

    live : (b : ℕ) → b < agents tb → pos st b < rows tb b → leb (rows tb b) ((decode tb st).st b).pos ≡ false
    live b h l = rw (state_low tb st b (low tb st table.good h)) (lt-leb (rows tb b) (pos st b) l)

    good_accepted : (a t : ℕ) → Good (here st) a t → choice_reply tb st a t ≡ 0
    good_accepted a t g =
        (choice_is_models tb st table state a t).exact.1 (allowed {g = decode tb st} g.real g.live (record { after = g.after; begun = g.begun; fits = g.fits }))

    some_choice : (b : ℕ) → b < agents tb → pos st b < rows tb b → (a t : ℕ) × (choice_reply tb st a t ≡ 0)
    some_choice b h l =
        let (a, t, g) = progress (here st) ready_here windows b h (live b h l) in
        (a, t, good_accepted a t g)

    -- where no choice is accepted, all have ended
    stopped : ((a t : ℕ) → choice_reply tb st a t ≡ 0 → ⊥) → AllAtTheirEnd tb st
    stopped none b h =
        let end = stops_ended {g = here st} windows start ready_here (λ a t g. none a t (good_accepted a t g)) b h in
        let over : rows tb b ≤ pos st b = leb-true _ _ (rw (state_low tb st b (low tb st table.good h)) at end) in
        omega (arith, fit.position b h)

    work_is : work before_it (here st) ≡ rows_left tb st
    work_is = total_same _ _ (agents tb) (λ b h. ap (λ (s : Agent). rows tb b - s.pos) (state_low tb st b (low tb st table.good h)))

  -- an accepted choice leaves less to do
  nears : (st : List ℕ) → Fitting tb st → (a t : ℕ) → choice_reply tb st a t ≡ 0 → rows_left tb (accepted tb st a t) < rows_left tb st
  nears st state a t c =
      let choice = choice_is_models tb st table state a t in
      let (may, lands) = executes_is_step (published tb) (assumptions_hold tb table) (choice.step c) in
      let less = bounded before_it nearer (start ▸ may) in
      let after = ap (work before_it) lands in
      omega (arith, less, after, work_is st state, work_is (accepted tb st a t) (choice.state c))

  -- ---- the agent that is picked

  module _ (st : List ℕ) (state : Fitting tb st) where
    some_least : all_ended tb st ≡ false → (a : ℕ) × (a < agents tb) × (has_least_late tb st a ≡ true)
    unfolding all_ended
    some_least e =
        let (b, h, fails) = some_fails (agents tb) _ e in
        ⊎_elim
        (λ none. absurd (true≢false (sym (none b h) ∙ fails)))
        (λ (a, real, left, lowest). (
          a,
          real,
          is_least tb st a (below_its_rows tb st a (not-false _ left)) (λ c l k. lowest c l (rw (is_unfinished tb st c k))),
        ))
        (least (λ b. not (unfinished tb st b)) (λ b. (current tb st b).late) (agents tb))

    -- an unfinished agent of the least late may be run at the soonest
    least_accepted : (a : ℕ) → a < agents tb → pos st a < rows tb a → InTime tb st (current tb st a).late → choice_reply tb st a (soonest tb st a) ≡ 0
    least_accepted a h unended due =
        let own = state_low tb st a (low tb st table.good h) in
        let may = least_may (here st) (ready_here st state) windows a h (live st state a h unended) (λ b k living.
        let other = state_low tb st b (low tb st table.good k) in rw (own, other) (due b k (leb-false _ _ (rw other at living)))) in
        good_accepted st state a (soonest tb st a) (subst (Good (here st) a) (ap (λ (s : Agent). max (clock st) (row tb a s.pos).early) own) may)

    pick_accepted : all_ended tb st ≡ false → choice_reply tb st (picked_agent tb st) (soonest tb st (picked_agent tb st)) ≡ 0
    pick_accepted e =
        let (a, real, l) = some_least e in
        let (h, k) = picked_is tb st a real l in
        let (unended, due) = least_is tb st (picked_agent tb st) k in
        least_accepted (picked_agent tb st) h unended due

-- ---- the lent words

module _ (tb st : List ℕ) (usable : Usable tb st) where
  abbrev rules : List ℕ
  rules = table_part tb

  abbrev words : List ℕ
  words = state_part st

  low_lent : (b : ℕ) → b < agents tb → b < 16
  low_lent b h = omega (arith, few rules usable.0.good, agents_part tb)

  position_part : (b : ℕ) → b < agents tb → pos words b ≡ pos st b
  position_part b h = pos_part st b (low_lent b h)

  -- an agent that is unfinished in the lent words is so in the state's own
  unfinished_part : SomeUnfinished tb st → SomeUnfinished rules words
  unfinished_part (b, h, l) = (b, omega (arith, agents_part tb), omega (arith, position_part b h, rows_part tb b (low_lent b h)))

  ended_part : AllAtTheirEnd rules words → AllAtTheirEnd tb st
  ended_part end b h = sym (position_part b h) ∙ end b (omega (arith, agents_part tb)) ∙ rows_part tb b (low_lent b h)

  left_part : rows_left rules words ≡ rows_left tb st
  left_part =
      ap (total (λ b. rows rules b - pos words b)) (agents_part tb)
      ∙ total_same _ _ (agents tb) (λ b h. let p = position_part b h in let r = rows_part tb b (low_lent b h) in omega arith)

  -- `step` replies to a choice what the state's own words do
  accepts : (a t : ℕ) → choice_reply rules words a t ≡ 0 → StepAccepts tb st a t
  accepts a t c = reply_is tb st a t (ready tb st usable.0 usable.1) ∙ c

  -- an unfinished agent's row
  current_part : (b : ℕ) → b < agents tb → pos st b < rows tb b → current rules words b ≡ current tb st b
  current_part b h l =
      let low = low_lent b h in
      let short = few_rows rules usable.0.good b (omega (arith, agents_part tb)) in
      ap (row rules b) (position_part b h) ∙ row_part tb b (pos st b) low (omega (arith, rows_part tb b low))

pub least_late_accepted : LeastLateAccepted
least_late_accepted tb st usable a h l due =
    let rules = table_part tb in
    let words = state_part st in
    let real : a < agents rules = omega (arith, agents_part tb) in
    let unended : pos words a < rows rules a = omega (arith, position_part tb st usable a h, rows_part tb a (low_lent tb st usable a h)) in
    let own = current_part tb st usable a h l in
    let c = least_accepted rules usable.0 words usable.1 a real unended (λ b k n.
    let k' : b < agents tb = omega (arith, agents_part tb) in
    let n' : pos st b < rows tb b = omega (arith, position_part tb st usable b k', rows_part tb b (low_lent tb st usable b k')) in
    rw (own, current_part tb st usable b k' n') (due b k' n')) in
    accepts tb st usable a (max (clock st) (current tb st a).early) (subst (λ t. choice_reply rules words a t ≡ 0) (ap₂ (λ (x : ℕ) (r : Row). max x r.early) (clock_part st) own) c)

-- words that an accepted step was taken of
was_usable : (tb st : List ℕ) (a t : ℕ) → StepAccepts tb st a t → Usable tb st × (choice_reply (table_part tb) (state_part st) a t ≡ 0)
was_usable tb st a t e = let (r, c) = was tb st a t e in ((ready_table tb st r, ready_state tb st r), c)

-- and those that it leaves
pub step_keeps_usable : StepKeepsUsable
step_keeps_usable tb st a t e =
    let ((table, state), c) = was_usable tb st a t e in
    (table, subst (Fitting (table_part tb)) (sym (left_words tb st a t e)) ((choice_is_models (table_part tb) (state_part st) table state a t).state c))

step_nears : (tb st : List ℕ) (a t : ℕ) → StepAccepts tb st a t → rows_left tb (step_into tb st a t).state < rows_left tb st
step_nears tb st a t e =
    let (usable, c) = was_usable tb st a t e in
    let less = nears (table_part tb) usable.0 (state_part st) usable.1 a t c in
    let new = left_part tb (step_into tb st a t).state (step_keeps_usable tb st a t e) in
    let same = ap (rows_left (table_part tb)) (left_words tb st a t e) in
    omega (arith, less, new, same, left_part tb st usable)

pub some_accepted : SomeAccepted
some_accepted tb st usable some =
    let (b, h, l) = unfinished_part tb st usable some in
    let (a, t, c) = some_choice (table_part tb) usable.0 (state_part st) usable.1 b h l in
    (a, t, accepts tb st usable a t c)

-- ---- pick

module _ (tb st : List ℕ) where
  -- where it replies 0 the words are not refused, and some agent is left
  passes : pick_reply tb st ≡ 0 → Usable tb st × (all_ended (table_part tb) (state_part st) ≡ false)
  unfolding pick_reply
  passes e =
      let (w, some) = both_zero (words_reply tb st) _ e in
      let r = zero_words tb st w in
      ((ready_table tb st r, ready_state tb st r), go (all_ended (table_part tb) (state_part st)) some)
    where
      go : (b : Bool) → ◌≡◌ {A = ℕ} (cond b 11 0) 0 → b ≡ false
      go true h = absurd (omega arith)
      go false h = refl

  by_end : Usable tb st → (b : Bool) → all_ended (table_part tb) (state_part st) ≡ b → pick_reply tb st ≡ cond b 11 0
  by_end usable = pick_ready tb st (ready tb st usable.0 usable.1)

pub pick_is_accepted : PickIsAccepted
pick_is_accepted tb st e = go (pick_reply tb st) refl
  where
    go : (r : ℕ) → pick_reply tb st ≡ r → StepAccepts tb st (pick_from tb st).agent (pick_from tb st).time
    go zero z =
        let (usable, some) = passes tb st z in
        subst (λ (o : PickOutcome). StepAccepts tb st o.agent o.time) (sym (picked_by tb st 0 z))
        (accepts tb st usable _ _ (pick_accepted (table_part tb) usable.0 (state_part st) usable.1 some))
    go (suc r) z = absurd (omega (arith, e, replied tb st (suc r) z))

pub pick_while_unfinished : PickWhileUnfinished
pick_while_unfinished tb st usable some =
    let (b, h, l) = unfinished_part tb st usable some in
    replied tb st 0 (by_end tb st usable false (some_left (table_part tb) (state_part st) b h l))

pub pick_at_the_end : PickAtTheEnd
pick_at_the_end tb st usable = (told (all_ended rules words) refl, λ end. replied tb st 11 (by_end tb st usable true (all_ended_lem rules words (over end))))
  where
    rules : List ℕ
    rules = table_part tb

    words : List ℕ
    words = state_part st

    -- the lent words' counts and positions, in the state's own
    over : AllAtTheirEnd tb st → (b : ℕ) → b < agents rules → rows rules b ≤ pos words b
    over end b h =
        let k : b < agents tb = omega (arith, agents_part tb) in
        omega (arith, end b k, position_part tb st usable b k, rows_part tb b (low_lent tb st usable b k))

    told : (v : Bool) → all_ended rules words ≡ v → (pick_from tb st).reply ≡ 11 → AllAtTheirEnd tb st
    told true e _ = ended_part tb st usable (λ b h. omega (arith, each_ended rules words e b h, (fit rules usable.0 words usable.1).position b h))
    told false e r = absurd (omega (arith, r, replied tb st 0 (by_end tb st usable false e)))

-- ---- lists and loops

pub left_are_rows : LeftAreRows
left_are_rows tb st = total_le (λ b. rows tb b - pos st b) (rows tb) (λ b. omega arith) (agents tb)

pub no_longer_list : NoLongerList
no_longer_list tb st cs zero b = zero-le
no_longer_list tb st [] (suc k) b = absurd b
no_longer_list tb st (a ∷ []) (suc k) b = absurd b
no_longer_list tb st (a ∷ t ∷ cs) (suc k) (e, b) = omega (arith, no_longer_list tb (step_into tb st a t).state cs k b, step_nears tb st a t e)

module _ (choose : ℕ → List ℕ → ℕ × ℕ) (tb : List ℕ) where
  -- a turn, by its reply
  turn : (n : ℕ) (st : List ℕ) (r : ℕ) → (step_into tb st (choose n st).0 (choose n st).1).reply ≡ r
      → loop choose tb (suc n) st ≡ elim r as (λ _. List ℕ) [ zero ↦ loop choose tb n (step_into tb st (choose n st).0 (choose n st).1).state | suc r ↦ st ]
  unfolding loop
  turn n st r e = ap (λ (x : ℕ). elim x as (λ _. List ℕ) [ zero ↦ loop choose tb n (step_into tb st (choose n st).0 (choose n st).1).state | suc r ↦ st ]) e

  none_accepted : (st : List ℕ) → Usable tb st → ((a t : ℕ) → StepAccepts tb st a t → ⊥) → AllAtTheirEnd tb st
  none_accepted st usable none =
      ended_part tb st usable (stopped (table_part tb) usable.0 (state_part st) usable.1 (λ a t c. none a t (accepts tb st usable a t c)))

  ends : (n : ℕ) (st : List ℕ) → TakesAccepted choose tb n st → Usable tb st → rows_left tb st ≤ n → AllAtTheirEnd tb (loop choose tb n st)
  unfolding loop
  ends zero st takes usable few = none_accepted st usable (λ a t e. omega (arith, step_nears tb st a t e))
  ends (suc n) st takes usable few =
      go (step_into tb st a t).reply refl (λ e. ends n (step_into tb st a t).state takes.1 (step_keeps_usable tb st a t e) (omega (arith, step_nears tb st a t e)))
    where
      a : ℕ
      a = (choose n st).0

      t : ℕ
      t = (choose n st).1

      go : (r : ℕ) → (step_into tb st a t).reply ≡ r → (StepAccepts tb st a t → AllAtTheirEnd tb (loop choose tb n (step_into tb st a t).state))
          → AllAtTheirEnd tb (loop choose tb (suc n) st)
      go zero e rest = subst (AllAtTheirEnd tb) (sym (turn n st 0 e)) (rest e)
      go (suc r) e rest = subst (AllAtTheirEnd tb) (sym (turn n st (suc r) e)) (none_accepted st usable (λ b u y. omega (arith, takes.0 b u y, e)))

pub every_loop_ends : EveryLoopEnds
every_loop_ends choose tb st n takes usable few = ends choose tb n st takes usable few

-- ---- the loop that goes by `pick`

picks_accepted : (tb : List ℕ) (n : ℕ) (st : List ℕ) → TakesAccepted (by_pick tb) tb n st
picks_accepted tb zero st = tt
picks_accepted tb (suc n) st = (taken, picks_accepted tb n _)
  where
    taken : (a t : ℕ) → StepAccepts tb st a t → StepAccepts tb st (pick_from tb st).agent (pick_from tb st).time
    taken a t e =
        let (usable, c) = was_usable tb st a t e in
        let may = permitted (table_part tb) (state_part st) a t c in
        let h : a < agents tb = omega (arith, may.agent, agents_part tb) in
        let l : pos st a < rows tb a = omega (arith, may.unended, position_part tb st usable a h, rows_part tb a (low_lent tb st usable a h)) in
        pick_is_accepted tb st (pick_while_unfinished tb st usable (a, h, l))

pub picking_ends : PickingEnds
picking_ends tb st usable = every_loop_ends (by_pick tb) tb st (rows_of tb) (picks_accepted tb (rows_of tb) st) usable (left_are_rows tb st)

pub start_is_usable : StartIsUsable
start_is_usable tb st e =
    let r = started_ready tb st e in
    (ready_table tb (start_into tb st).state r, ready_state tb (start_into tb st).state r)

pub started_ends : StartedEnds
started_ends tb st e = picking_ends tb (start_into tb st).state (start_is_usable tb st e)
