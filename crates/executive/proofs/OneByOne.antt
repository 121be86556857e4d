-- What a run replies and leaves is what its steps made one by one reply and leave, starting from `start`. Assumes nothing.
use mathlib.Core.Path.{◌≡◌, refl, sym, ap, ap₂, ◌∙◌}
use mathlib.Core.Bool.{true}
use mathlib.Core.List.{List, [], ◌∷◌, ◌++◌}
use Prim.Native.Nat.{ℕ, zero, suc, ◌+◌, ◌≤◌}
use native.Mathlib.Omega.{arith}
use lib.ListN.{length, length-take}
use borrow.Author.Tests.{ltb-false, not-false}
use Rattle.tables.specs.Layout.{table_words}
use Rattle.tables.specs.Table.{good_table}
use Rattle.tables.proofs.Passed.{passed}
use Rattle.choices.specs.State.{start_words}
use Rattle.choices.specs.Fit.{fits}
use Rattle.choices.specs.Step.{choice_reply, accepted}
use Rattle.executive.specs.Run.{RunOutcome, ended, run_from}
use Rattle.executive.specs.Calls.{table_part, state_part, past_state, Outcome, start_into, step_into, run_refusal, run_into, before}
use Rattle.executive.specs.Laws.{one_by_one}
use Rattle.tables.proofs.Good.{few}
use Rattle.choices.proofs.After.{accepted_length}
use Rattle.choices.proofs.Choice.{allowed}
use Rattle.executive.proofs.Start.{start_length}
use Rattle.executive.proofs.Fits.{start_fits, accepted_fits}
use Rattle.executive.proofs.Runs.{run_go, run_stop}
use Rattle.executive.proofs.Ready.{answer, ready_reply, stepped_by, part_is, past_is, make_ready, started, may_start}

module _ (tb : List ℕ) where
  one_by : (st : List ℕ) (n a t : ℕ) (cs : List ℕ) (o : Outcome) → step_into tb st a t ≡ o
      → one_by_one tb st n (a ∷ t ∷ cs) ≡ elim o.reply [ zero ↦ one_by_one tb o.state (n + 1) cs | suc r ↦ ended (suc r) n st ]
  unfolding one_by_one
  one_by st n a t cs o h =
      ap (λ (x : Outcome). elim x.reply as (λ _. RunOutcome) [ zero ↦ one_by_one tb x.state (n + 1) cs | suc r ↦ ended (suc r) n st ]) h

  pub one_reply : (st : List ℕ) (n a t : ℕ) (cs : List ℕ) (k : ℕ) → (step_into tb st a t).reply ≡ k
      → one_by_one tb st n (a ∷ t ∷ cs) ≡ elim k [ zero ↦ one_by_one tb (step_into tb st a t).state (n + 1) cs | suc r ↦ ended (suc r) n st ]
  one_reply st n a t cs k h =
      one_by st n a t cs (step_into tb st a t) refl
      ∙ ap (λ (x : ℕ). elim x as (λ _. RunOutcome) [ zero ↦ one_by_one tb (step_into tb st a t).state (n + 1) cs | suc r ↦ ended (suc r) n st ]) h

  module _ (table : table_words ≤ length tb) (good : good_table (table_part tb) ≡ true) (rest : List ℕ) where
    from_ready : (w : List ℕ) (n : ℕ) (cs : List ℕ) → length w ≡ 1105 → fits (table_part tb) w ≡ true
        → before (run_from (table_part tb) w n cs) rest ≡ one_by_one tb (w ++ rest) n cs
    unfolding run_from one_by_one
    from_ready w n [] long fit = refl
    from_ready w n (a ∷ []) long fit = refl
    from_ready w n (a ∷ t ∷ cs) long fit = go (choice_reply (table_part tb) w a t) refl (λ h. from_ready (accepted (table_part tb) w a t) (n + 1) cs (next_long h) (accepted_fits (table_part tb) w good long fit a t h))
      where
        next_long : choice_reply (table_part tb) w a t ≡ 0 → length (accepted (table_part tb) w a t) ≡ 1105
        next_long h =
            let l = (allowed (table_part tb) w a t h).agent in
            let m = few (table_part tb) good in
            accepted_length (table_part tb) w a t long (omega arith)

        -- the step's answer, in terms of the state's own words
        answered : step_into tb (w ++ rest) a t ≡ answer (choice_reply (table_part tb) w a t) (accepted (table_part tb) w a t ++ rest) (w ++ rest)
        answered =
            stepped_by tb (w ++ rest) a t
            ∙ ap (λ (k : ℕ). answer k (accepted (table_part tb) (state_part (w ++ rest)) a t ++ past_state (w ++ rest)) (w ++ rest)) (ready_reply tb (w ++ rest) a t (make_ready tb w rest long table good fit))
            ∙ ap₂ (λ (x y : List ℕ). answer (choice_reply (table_part tb) x a t) (accepted (table_part tb) x a t ++ y) (w ++ rest)) (part_is w rest long) (past_is w rest long)

        go : (r : ℕ) → choice_reply (table_part tb) w a t ≡ r
            → (choice_reply (table_part tb) w a t ≡ 0 → before (run_from (table_part tb) (accepted (table_part tb) w a t) (n + 1) cs) rest ≡ one_by_one tb (accepted (table_part tb) w a t ++ rest) (n + 1) cs)
            → before (run_from (table_part tb) w n (a ∷ t ∷ cs)) rest ≡ one_by_one tb (w ++ rest) n (a ∷ t ∷ cs)
        go zero e later =
            ap (λ (q : RunOutcome). before q rest) (run_go (table_part tb) w n a t cs e)
            ∙ later e
            ∙ sym (one_by (w ++ rest) n a t cs _ (answered ∙ ap (λ (k : ℕ). answer k (accepted (table_part tb) w a t ++ rest) (w ++ rest)) e))
        go (suc r) e later =
            ap (λ (q : RunOutcome). before q rest) (run_stop (table_part tb) w n a t cs r e)
            ∙ sym (one_by (w ++ rest) n a t cs _ (answered ∙ ap (λ (k : ℕ). answer k (accepted (table_part tb) w a t ++ rest) (w ++ rest)) e))

  module _ (st : List ℕ) where
    pub ran : (cs : List ℕ) → run_refusal tb st cs ≡ 0 → run_into tb st cs ≡ before (run_from (table_part tb) (start_words (table_part tb)) 0 cs) (past_state st)
    unfolding run_into
    ran cs h =
        ap (λ (x : ℕ). elim x as (λ _. RunOutcome) [
          | zero ↦ before (run_from (table_part tb) (start_words (table_part tb)) 0 cs) (past_state st)
          | suc r ↦ ended (suc r) 0 st
        ]) h

    -- "A run starts from the start state", and replies and leaves what the same steps made one by one reply and leave
    pub run_is_steps : (cs : List ℕ) → run_refusal tb st cs ≡ 0 → run_into tb st cs ≡ one_by_one tb (start_into tb st).state 0 cs
    unfolding run_refusal
    run_is_steps cs h =
        let clear = passed _ tt h in
        let l : table_words ≤ length tb = ltb-false _ _ (clear 0) in
        let n : length (table_part tb) ≡ table_words = simp length-take (omega arith) in
        let g : good_table (table_part tb) ≡ true = not-false _ (clear 3) in
        ran cs h
        ∙ from_ready l g (past_state st) (start_words (table_part tb)) 0 cs (start_length (table_part tb) (omega arith)) (start_fits (table_part tb) g n)
        ∙ ap (λ (x : List ℕ). one_by_one tb x 0 cs) (sym (started tb st (may_start tb st l (ltb-false _ _ (clear 1)) g)))
