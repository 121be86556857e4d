-- A run worked out with the registers and the lates beside the state: what one choice makes of what is left to run, and of the lates. Assumes nothing.
use mathlib.Core.Path.{◌≡◌, refl, sym, ap, ap₂, ◌∙◌}
use mathlib.Core.Bool.{true, cond}
use mathlib.Core.List.{List, [], ◌∷◌, ◌++◌}
use Prim.Native.Nat.{ℕ, zero, suc, ◌+◌, ◌/◌, ◌%◌, ◌*◌, ◌≤◌, ◌<◌}
use native.Mathlib.Decide.{ℕ_discrete}
use native.Mathlib.Omega.{arith}
use borrow.Author.Tests.{eq-eqb, ne_eqb}
use lib.Dec.{eqb}
use lib.ListN.{length, take, drop, get_or, set, length-take, length-drop}
use lib.Seq.{get_or-set_same, get_or-set_other, ext_get_or}
use Rattle.tables.specs.Table.{good_table}
use Rattle.choices.specs.declared.Agent.{Agent}
use Rattle.choices.specs.State.{pos, agent_at, pos_place, reg_place}
use Rattle.choices.specs.Fit.{fits}
use Rattle.choices.specs.Step.{choice_reply, accepted}
use Rattle.choices.specs.Registers.{around, listed, register, with_regs, Acted, acted, act_into}
use Rattle.choices.specs.Lates.{late_at, Lates, above_none}
use Rattle.executive.specs.Run.{RunOutcome, ended, run_from}
use Rattle.choices.proofs.Lists.{get_d_part}
use Rattle.choices.proofs.After.{accepted_length, accepted_other, accepted_pos_other}
use Rattle.choices.proofs.Lates.{late_changed, still_above_none}
use Rattle.choices.proofs.Onward.{late_rises}
use Rattle.choices.proofs.Choice.{allowed}
use Rattle.executive.proofs.Fitting.{fits_says}
use Rattle.std.proofs.Common.{Result, Ok, Err}
use Rattle.std.specs.Result.{IsErrAnd}
use Rattle.tables.specs.declared.replies.Refusal.{Refusal}
use Rattle.tables.specs.Replies.{number_of}
use Rattle.executive.specs.InTurn.{Takes}
use Rattle.executive.specs.Calls.{outcome, table_part, state_part, past_state, step_into}
use Rattle.executive.proofs.Outcomes.{words_after, step_ends}
use Rattle.executive.proofs.Ready.{Ready, ready_reply}
use Rattle.executive.proofs.Runs.{run_go, run_stop, count_within}
use Rattle.choices.proofs.Around.{listed_length, listed_at, around_length, around_low, around_own, around_around}
use Rattle.choices.proofs.Choosing.{whole_length, whole_low, whole_register}

-- ---- the choices left

pub none_left_lem : (tb st : List ℕ) (n : ℕ) (cs : List ℕ) → length cs < 2 → ended 0 n st ≡ run_from tb st n cs
unfolding run_from
none_left_lem tb st n [] h = refl
none_left_lem tb st n (a ∷ []) h = refl
none_left_lem tb st n (a ∷ t ∷ cs) h = absurd (omega arith)

-- ---- one choice

module _ (tb st : List ℕ) (g : List (List ℕ)) (a t : ℕ) where
  -- an accepted choice goes on with its agent's registers put in
  module _ (q : Agent) (ws : List ℕ) (e : acted q ws ≡ act_into tb st g a t) where
    abbrev after : List ℕ
    after = accepted tb (with_regs st g) a t

    pub agent_is : q ≡ agent_at after a
    unfolding act_into
    agent_is = ap (λ (o : Acted). o.agent) e

    words_are : ws ≡ around after (take 64 (drop 17 st))
    unfolding act_into
    words_are = ap (λ (o : Acted). o.state) e

    module _ (long : length st ≡ 1105) (wide : length g ≡ 16) (low : a < 16) where
      after_length : length after ≡ 1105
      after_length = accepted_length tb (with_regs st g) a t (whole_length st g long) low

      own_length : length (take 64 (drop 17 st)) ≡ 64
      own_length = simp (length-take, length-drop) (omega arith)

      pub words_length : length ws ≡ 1105
      words_length = ap length words_are ∙ around_length after (take 64 (drop 17 st)) (omega (arith, after_length)) own_length ∙ after_length

      -- each register afterwards
      registers_are : (i : ℕ) → i < 64 → register (set g a (agent_at after a).regs) i ≡ get_or after (17 + i) 0
      registers_are i h = go (ℕ_discrete (i / 4) a)
        where
          go : Dec (i / 4 ≡ a) → register (set g a (agent_at after a).regs) i ≡ get_or after (17 + i) 0
          go (yes d) =
              let p : reg_place a + i % 4 ≡ 17 + i = omega arith in
              ap (λ (k : ℕ). get_or (get_or (set g a (agent_at after a).regs) k []) (i % 4) 0) d
              ∙ ap (λ (l : List ℕ). get_or l (i % 4) 0) (get_or-set_same g a (agent_at after a).regs [] (omega arith))
              ∙ get_d_part after 4 (reg_place a) (i % 4) (omega arith)
              ∙ ap (λ (k : ℕ). get_or after k 0) p
          go (no n) =
              ap (λ (l : List ℕ). get_or l (i % 4) 0) (get_or-set_other g a (i / 4) (agent_at after a).regs [] n)
              ∙ sym (whole_register st g long i h)
              ∙ sym (accepted_other tb (with_regs st g) a t (whole_length st g long) low (17 + i) (λ d. omega arith) (λ d. omega arith)
              (λ k l d. n (omega arith)) (λ d. omega arith) (λ d. omega arith))

      listed_are : listed (register (set g a (agent_at after a).regs)) 64 ≡ take 64 (drop 17 after)
      listed_are =
          let x = set g a (agent_at after a).regs in
          let m = listed_length (register x) 64 in
          let k : length (take 64 (drop 17 after)) ≡ 64 = simp (length-take, length-drop) (omega (arith, after_length)) in
          ext_get_or 0 (listed (register x) 64) (take 64 (drop 17 after)) (m ∙ sym k) (λ i h.
          let l : i < 64 = omega arith in
          listed_at (register x) 64 i 0 l ∙ registers_are i l ∙ sym (get_d_part after 64 17 i l))

      pub whole_after : with_regs ws (set g a q.regs) ≡ after
      whole_after =
          ap₂ (λ (l : List ℕ) (s : Agent). with_regs l (set g a s.regs)) words_are agent_is
          ∙ around_around after (take 64 (drop 17 st)) (listed (register (set g a (agent_at after a).regs)) 64) (omega (arith, after_length)) own_length
          (listed_length (register (set g a (agent_at after a).regs)) 64)
          ∙ ap (around after) listed_are
          ∙ around_own after (omega (arith, after_length))

      -- the lates afterwards
      pub lates_after : (ls : List ℕ) → Lates tb st ls → (late : ℕ) → late ≡ late_at tb a q.pos → Lates tb ws (set ls a late)
      lates_after ls l late e =
          let same : (b : ℕ) → b < 16 → pos ws b ≡ pos after b = λ b h. ap (λ (w : List ℕ). pos w b) words_are ∙ around_low after (take 64 (drop 17 st)) (omega (arith, after_length)) own_length (pos_place b) (omega arith) in
          late_changed tb st ws ls a q.pos late low l e (same a low ∙ sym (ap (λ (s : Agent). s.pos) agent_is))
          (λ b h n. same b h ∙ accepted_pos_other tb (with_regs st g) a t (whole_length st g long) low b h n ∙ whole_low st g long (pos_place b) (omega arith))

      -- and a deadline stays one
      pub deadline_after : good_table tb ≡ true → choice_reply tb (with_regs st g) a t ≡ 0 → (ls : List ℕ) → Lates tb st ls → (d : ℕ) → above_none ls d ≡ true
          → (late : ℕ) → late ≡ late_at tb a q.pos → above_none (set ls a late) d ≡ true
      deadline_after good c ls l d h late e =
          let up = late_rises tb (with_regs st g) a t (whole_length st g long) low good (allowed tb (with_regs st g) a t c) in
          let was = l.each a low ∙ ap (late_at tb a) (sym (whole_low st g long (pos_place a) (omega arith))) in
          let is = e ∙ ap (λ (s : Agent). late_at tb a s.pos) agent_is in
          still_above_none ls d a late (omega (arith, l.size)) h (λ k. omega arith)

-- ---- one choice alone

module _ (tb st : List ℕ) (a t : ℕ) where
  pub alone_reply : (run_from tb st 0 (a ∷ t ∷ [])).reply ≡ choice_reply tb st a t
  alone_reply = go (choice_reply tb st a t) refl
    where
      go : (r : ℕ) → choice_reply tb st a t ≡ r → (run_from tb st 0 (a ∷ t ∷ [])).reply ≡ r
      go zero h = ap (λ (o : RunOutcome). o.reply) (run_go tb st 0 a t [] h ∙ sym (none_left_lem tb (accepted tb st a t) 1 [] (omega arith)))
      go (suc r) h = ap (λ (o : RunOutcome). o.reply) (run_stop tb st 0 a t [] r h)

  pub alone_words : (run_from tb st 0 (a ∷ t ∷ [])).state ≡ words_after tb st a t
  unfolding words_after
  alone_words = go (choice_reply tb st a t) refl
    where
      go : (r : ℕ) → choice_reply tb st a t ≡ r → (run_from tb st 0 (a ∷ t ∷ [])).state ≡ cond (eqb (choice_reply tb st a t) 0) (accepted tb st a t) st
      go zero h = ap (λ (o : RunOutcome). o.state) (run_go tb st 0 a t [] h ∙ sym (none_left_lem tb (accepted tb st a t) 1 [] (omega arith))) ∙ rw (eq-eqb (choice_reply tb st a t) 0 h)
      go (suc r) h = ap (λ (o : RunOutcome). o.state) (run_stop tb st 0 a t [] r h) ∙ rw (ne_eqb (choice_reply tb st a t) 0 (λ z. absurd (omega arith)))

-- a run of one choice, on from words that a step takes, is that step
pub alone_step : (tb st : List ℕ) (a t r n : ℕ) (ws : List ℕ) → Ready tb st → ended r n ws ≡ run_from (table_part tb) (state_part st) 0 (a ∷ t ∷ [])
    → outcome r (ws ++ past_state st) ≡ step_into tb st a t
alone_step tb st a t r n ws ready e =
    let c = ap (λ (o : RunOutcome). o.reply) e ∙ alone_reply (table_part tb) (state_part st) a t in
    step_ends tb st a t r ws (c ∙ sym (ready_reply tb st a t ready)) c (ap (λ (o : RunOutcome). o.state) e ∙ alone_words (table_part tb) (state_part st) a t)

-- ---- the count is at most 512

pub count_least : (tb st : List ℕ) (n : ℕ) (cs : List ℕ) → n ≤ (run_from tb st n cs).count
unfolding run_from
count_least tb st n [] = omega arith
count_least tb st n (a ∷ []) = omega arith
count_least tb st n (a ∷ t ∷ cs) = go (choice_reply tb st a t) refl (count_least tb (accepted tb st a t) (n + 1) cs)
  where
    go : (r : ℕ) → choice_reply tb st a t ≡ r → n + 1 ≤ (run_from tb (accepted tb st a t) (n + 1) cs).count → n ≤ (run_from tb st n (a ∷ t ∷ cs)).count
    go zero h l = let e = ap (λ (o : RunOutcome). o.count) (run_go tb st n a t cs h) in omega arith
    go (suc r) h l = let e = ap (λ (o : RunOutcome). o.count) (run_stop tb st n a t cs r h) in omega arith

pub count_bound : (tb : List ℕ) → good_table tb ≡ true → (from : List ℕ) → length from ≡ 1105 → fits tb from ≡ true → (cs st ds : List ℕ) (n : ℕ)
    → run_from tb st n ds ≡ run_from tb from 0 cs → n ≤ 512
count_bound tb good from long fit cs st ds n e =
    let b = count_within tb good from 0 cs long (fits_says tb from fit) in
    let l = count_least tb st n ds in
    let q = ap (λ (o : RunOutcome). o.count) e in
    omega arith

-- ---- what taking a choice tells

-- a refusal that is passed on
pub takes_refusal : (tb st : List ℕ) (a t : ℕ) (x : Refusal) (r : Result Agent Refusal) → IsErrAnd r (λ e. e ≡ x) → choice_reply tb st a t ≡ number_of x → Takes tb st st a t r
unfolding Takes
takes_refusal tb st a t x (Ok _) h e = absurd h
takes_refusal tb st a t x (Err y) h e = (e ∙ ap number_of (sym h), refl)

pub takes_ok : (tb old new : List ℕ) (a t : ℕ) {r : Result Agent Refusal} {s : Agent} → Takes tb old new a t r → r ≡ Ok s
    → (choice_reply tb old a t ≡ 0) × (new ≡ accepted tb old a t) × (s ≡ agent_at new a)
unfolding Takes
takes_ok tb old new a t h e = rw e at h

pub takes_err : (tb old new : List ℕ) (a t : ℕ) {r : Result Agent Refusal} {x : Refusal} → Takes tb old new a t r → r ≡ Err x
    → (choice_reply tb old a t ≡ number_of x) × (new ≡ old)
unfolding Takes
takes_err tb old new a t h e = rw e at h

pub ended_as : {r n : ℕ} {ws known : List ℕ} {o : RunOutcome} → ended r n known ≡ o → ws ≡ known → ended r n ws ≡ o
ended_as {r = r} {n = n} e is = ap (ended r n) is ∙ e

-- ---- one turn of the loop over the choices cs, in pairs

-- the choices behind the first k
abbrev pub behind : ℕ → List ℕ → List ℕ
behind k cs = drop (2 * k) cs

drop_at : (n : ℕ) (cs : List ℕ) → n < length cs → drop n cs ≡ get_or cs n 0 ∷ drop (n + 1) cs
drop_at n [] h = absurd (omega arith)
drop_at zero (x ∷ cs) h = refl
drop_at (suc n) (x ∷ cs) h = let e : suc n + 1 ≡ suc (n + 1) = omega arith in rw e (drop_at n cs (omega arith))

first_left : (k : ℕ) (cs : List ℕ) → k < length cs / 2 → behind k cs ≡ get_or cs (2 * k) 0 ∷ get_or cs (2 * k + 1) 0 ∷ behind (k + 1) cs
first_left k cs h =
    let e : 2 * k + 1 + 1 ≡ 2 * (k + 1) = omega arith in
    drop_at (2 * k) cs (omega arith)
    ∙ ap (λ (l : List ℕ). get_or cs (2 * k) 0 ∷ l) (drop_at (2 * k + 1) cs (omega arith) ∙ ap (λ (m : ℕ). get_or cs (2 * k + 1) 0 ∷ drop m cs) e)

-- k are accepted, and those behind them end, from the words st, as all of cs do from the words `from`
pub record Left (tb from cs st : List ℕ) (n k : ℕ) : Type 0 where
  pub count : n ≡ k
  pub ends : run_from tb st k (behind k cs) ≡ run_from tb from 0 cs

module _ (tb from cs st : List ℕ) (n k : ℕ) (l : Left tb from cs st n k) where
  pub none_more : length cs / 2 ≤ k → ended 0 n st ≡ run_from tb from 0 cs
  none_more h = ap (λ (m : ℕ). ended 0 m st) l.count ∙ none_left_lem tb st k (behind k cs) (simp (length-drop) (omega arith)) ∙ l.ends

  module _ (more : k < length cs / 2) (a t : ℕ) (ea : a ≡ get_or cs (2 * k) 0) (et : t ≡ get_or cs (2 * k + 1) 0) where
    from_here : run_from tb st k (a ∷ t ∷ behind (k + 1) cs) ≡ run_from tb from 0 cs
    from_here = rw (ea, et) (ap (run_from tb st k) (sym (first_left k cs more)) ∙ l.ends)

    pub turn_ends : (r : ℕ) → choice_reply tb st a t ≡ r → (r ≡ 0 → ⊥) → ended r n st ≡ run_from tb from 0 cs
    turn_ends zero h z = absurd (z refl)
    turn_ends (suc r) h z = ap (λ (m : ℕ). ended (suc r) m st) l.count ∙ sym (run_stop tb st k a t (behind (k + 1) cs) r h) ∙ from_here

    module _ (h : choice_reply tb st a t ≡ 0) (new : List ℕ) (is : new ≡ accepted tb st a t) where
      next_ends : run_from tb new (k + 1) (behind (k + 1) cs) ≡ run_from tb from 0 cs
      next_ends = ap (λ (w : List ℕ). run_from tb w (k + 1) (behind (k + 1) cs)) is ∙ sym (run_go tb st k a t (behind (k + 1) cs) h) ∙ from_here

      pub turn_count : good_table tb ≡ true → length from ≡ 1105 → fits tb from ≡ true → n + 1 ≤ 512
      turn_count good long fit = let b = count_bound tb good from long fit cs new (behind (k + 1) cs) (k + 1) next_ends in let e = l.count in omega arith

      pub turn_goes : Left tb from cs new (n + 1) (k + 1)
      turn_goes = record { count = ap (λ (m : ℕ). m + 1) l.count; ends = next_ends }
