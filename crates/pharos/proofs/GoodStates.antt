-- 002's good states: no deadline has passed at the start, every step keeps it so, and then some agent can go on, or all have ended.
use mathlib.Core.Path.{◌≡◌, refl, sym, subst, ap, ◌∙◌}
use mathlib.Core.Bool.{false}
use mathlib.Core.Option.{Option}
use mathlib.Core.Logic.{inl, inr, ⊎_elim}
use Prim.Native.Nat.{ℕ, ◌<◌}
use native.Mathlib.Omega.{arith}
use Rattle.pharos.specs.Published.{Types, instr_of, SystemState, GoodNextTime, GoodSystemState, Received, executes, Assumptions}
use Rattle.pharos.specs.Histories.{DeadlinesMet}
use Rattle.pharos.specs.Theorems.{InitMeetsDeadlines, ExecutesMeetsDeadlines, GoodOrEnded, InitGood, GoodNext}
use Rattle.pharos.specs.Runs.{Ready}
use Rattle.pharos.proofs.Functional.{left}
use Rattle.pharos.proofs.Search.{receives}
use Rattle.pharos.proofs.Progress.{least, progress, ready_step}
use Rattle.pharos.proofs.Instance.{system, executes_is_step}

module _ (T : Types) where
  pub init_meets_deadlines : InitMeetsDeadlines T
  init_meets_deadlines ok s i b real live = let w = ok.instr_of_type b (s.st b) real live in omega (arith, i.t)

  pub executes_meets_deadlines : {a : ℕ} {pre post : SystemState T} → ExecutesMeetsDeadlines T a pre post
  executes_meets_deadlines ok e = let (may, lands) = executes_is_step T ok e in subst (λ s. Ready s) (sym lands) (ready_step may)

  -- Some agent can go on, if one has not ended.
  goes_on_lem : Assumptions T → (s : SystemState T) → DeadlinesMet T s → (b : ℕ) → b < Types.agents T → Types.ended T b (s.st b) ≡ false → GoodSystemState T s
  goes_on_lem ok s met b real live =
      let (a, t, may) = progress (system T ok s) met (λ a u r l. let w = ok.instr_of_type a u r l in omega arith) b real live in
      (a, t, may.real, may.live, record { after = may.after; begun = may.begun; fits = may.fits })

  pub good_or_ended : GoodOrEnded T
  good_or_ended ok s met =
      ⊎_elim inr (λ (b, real, live, _). inl (goes_on_lem ok s met b real live)) (least (λ b. Types.ended T b (s.st b)) (λ b. 0) (Types.agents T))

  pub init_good : InitGood T
  init_good ok b real live s i = goes_on_lem ok s (init_meets_deadlines ok s i) b real (ap (λ f. Types.ended T b (f b)) i.st ∙ live)

-- An agent that may execute does.
pub leaves : (T : Types) (g : SystemState T) (a : ℕ) (got : Option ℕ) (t : ℕ) → a < Types.agents T → Types.ended T a (g.st a) ≡ false
    → GoodNextTime T g a t → Received T g.msgs (instr_of T a (g.st a)) got → executes T a g (left T g a got t)
leaves T g a got t real live good received =
    record { real = real; live = live; good = good; got = got; received = received; st = refl; msgs = refl }

pub good_next : (T : Types) → GoodNext T
good_next T s (a, t, real, live, good) =
    let (got, received) = receives T s.msgs (instr_of T a (s.st a)) in
    (left T s a got t, (a, leaves T s a got t real live good received))
