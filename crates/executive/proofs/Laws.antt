-- The laws of specs/Laws.antt, each under its own name. Assumes nothing.
use mathlib.Core.Path.{◌≡◌, refl, sym, subst}
use mathlib.Core.List.{[], ◌∷◌}
use Prim.Native.Nat.{ℕ, zero, suc, ◌+◌, ◌<◌}
use native.Mathlib.Decide.{ℕ_discrete}
use native.Mathlib.Omega.{arith}
use Rattle.tables.specs.Paths.{GoesOn, Path, here, on}
use Rattle.tables.proofs.Good.{few, few_rows}
use Rattle.tables.proofs.Paths.{windows_climb}
use Rattle.executive.specs.Laws.{BestIsTaken, NoneIsTaken, NextDepends, AcceptedExactly, CanGoExactly, PickedExactly, FourteenIsReserved, StartFits, StepKeepsFit, GoesOnExactly, StepGoesOn, RunIsPath, EarlierNeverComes, SendIsSent, RunIsSteps, RunCounts}
use Rattle.choices.specs.State.{pos}
use Rattle.choices.specs.Step.{choice_reply, accepted}
use Rattle.choices.specs.Pick.{soonest}
use Rattle.executive.specs.Run.{RunOutcome, run_from}
use Rattle.choices.proofs.After.{accepted_length, accepted_pos_other, sent_own_mark, sent_own_value}
use Rattle.choices.proofs.Onward.{after_goes, way_taken, pos_goes}
use Rattle.choices.proofs.Choice.{allowed, allowed_reply}
use Rattle.choices.proofs.Pick.{can_go_lem, goes_soonest}
use Rattle.executive.proofs.Start.{start_length}
use Rattle.executive.proofs.Runs.{run_go, run_stop}
use Rattle.executive.proofs.Fits.{start_fits, accepted_fits}
use Rattle.executive.proofs.OneByOne.{run_is_steps as steps}
use Rattle.executive.proofs.Counted.{run_count, run_few}
use Rattle.executive.proofs.Taken.{best_taken, best_none}
use Rattle.executive.proofs.Depends.{depends}
use Rattle.executive.proofs.PickedBy.{picked_first, first_picked}
use Rattle.executive.proofs.Reserved.{step_not, run_not, pick_not}

pub best_is_taken : BestIsTaken
best_is_taken = best_taken

pub none_is_taken : NoneIsTaken
none_is_taken = best_none

pub next_depends : NextDepends
next_depends tb st st' s s' a t t' c c' same seen =
    depends tb st st' s.good s.state s'.state s.fit s'.fit a t t' c c' same seen

pub accepted_exactly : AcceptedExactly
accepted_exactly tb st a t = (allowed tb st a t, allowed_reply tb st a t)

pub can_go_exactly : CanGoExactly
can_go_exactly tb st a low = (λ h. (soonest tb st a, goes_soonest tb st a low h), λ w. can_go_lem tb st a w.0 w.1)

pub picked_exactly : PickedExactly
picked_exactly tb st a = (picked_first tb st a, first_picked tb st a)

pub fourteen_is_reserved : FourteenIsReserved
fourteen_is_reserved = (step_not, run_not, pick_not)

pub start_fits_its_table : StartFits
start_fits_its_table tb good long = record {
  good = good;
  table = long;
  fit = start_fits tb good long;
  state = start_length tb (omega arith);
}

pub step_keeps_fit : StepKeepsFit
step_keeps_fit tb st a t s c =
    let low : a < 16 = let h = (allowed tb st a t c).agent in omega (arith, few tb s.good) in
    record {
      good = s.good;
      table = s.table;
      fit = accepted_fits tb st s.good s.state s.fit a t c;
      state = accepted_length tb st a t s.state low;
    }

pub goes_on_exactly : GoesOnExactly
goes_on_exactly r p j = (way_taken r p j, λ w. rw (← w.3, ← w.2) (after_goes r w.1 w.0))

pub step_goes_on : StepGoesOn
step_goes_on tb st a t s c =
    let h = (allowed tb st a t c).agent in
    let low : a < 16 = omega (arith, few tb s.good) in
    (((allowed tb st a t c).unended, pos_goes tb st a t s.state low), λ b l n. accepted_pos_other tb st a t s.state low b (omega (arith, few tb s.good)) n)

pub run_is_path : RunIsPath
unfolding run_from
run_is_path tb st n [] s b h = here
run_is_path tb st n (a ∷ []) s b h = here
run_is_path tb st n (a ∷ t ∷ cs) s b h = go (choice_reply tb st a t) refl (λ c. run_is_path tb (accepted tb st a t) (n + 1) cs (step_keeps_fit tb st a t s c) b h)
  where
    after_step : choice_reply tb st a t ≡ 0 → {k : ℕ} → Dec (b ≡ a) → Path (GoesOn tb b) (pos (accepted tb st a t) b) k → Path (GoesOn tb b) (pos st b) k
    after_step c (yes e) p = on (subst (λ (d : ℕ). GoesOn tb d (pos st d) (pos (accepted tb st a t) d)) (sym e) (step_goes_on tb st a t s c).0) p
    after_step c {k} (no n) p = subst (λ (i : ℕ). Path (GoesOn tb b) i k) ((step_goes_on tb st a t s c).1 b h n) p

    go : (r : ℕ) → choice_reply tb st a t ≡ r → (choice_reply tb st a t ≡ 0 → Path (GoesOn tb b) (pos (accepted tb st a t) b) (pos (run_from tb (accepted tb st a t) (n + 1) cs).state b))
        → Path (GoesOn tb b) (pos st b) (pos (run_from tb st n (a ∷ t ∷ cs)).state b)
    go zero c rec =
        subst (λ (o : RunOutcome). Path (GoesOn tb b) (pos st b) (pos o.state b)) (sym (run_go tb st n a t cs c)) (after_step c (ℕ_discrete b a) (rec c))
    go (suc r) c rec = subst (λ (o : RunOutcome). Path (GoesOn tb b) (pos st b) (pos o.state b)) (sym (run_stop tb st n a t cs r c)) here

pub earlier_never_comes : EarlierNeverComes
earlier_never_comes tb st n cs s b h i l m e =
    let (_, up) = windows_climb tb s.good b h (pos st b) i (subst (Path (GoesOn tb b) (pos st b)) e (run_is_path tb st n cs s b h)) l in omega arith

pub send_is_sent : SendIsSent
send_is_sent tb st a t s c send =
    let h = allowed tb st a t c in
    let low : a < 16 = omega (arith, h.agent, few tb s.good) in
    let within : pos st a < 32 = omega (arith, h.unended, few_rows tb s.good a h.agent) in
    (sent_own_mark tb st a t s.state low within send, sent_own_value tb st a t s.state low within send)

pub run_is_steps : RunIsSteps
run_is_steps = steps

pub run_counts : RunCounts
run_counts tb st cs h = let c = run_count tb st cs h in (c.0, c.1, run_few tb st cs h)
