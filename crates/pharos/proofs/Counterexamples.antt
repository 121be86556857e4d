-- The statements of specs/Counterexamples, proved: the behaviours are written out.
use mathlib.Core.Path.{◌≡◌, refl, ap, sym, ◌∙◌}
use mathlib.Core.Bool.{Bool, true, true≢false}
use mathlib.Core.Option.{Option, none, some, none-ne-some}
use Prim.Native.Nat.{ℕ, zero, suc, ◌≤◌, ◌<◌}
use native.Mathlib.Decide.{ℕ_discrete}
use native.Mathlib.Omega.{arith}
use lib.Dec.{leb}
use borrow.Author.Tests.{ltb-true}
use Rattle.pharos.specs.Published.{msg_sent, Dated, exact, Messages, Types, SystemState, GoodNextTime, Received, nothing, found, exec, no_steps, append}
use Rattle.pharos.specs.Histories.{AllEnded}
use Rattle.pharos.specs.Counterexamples.{Differ, Local, sending, receiving, row, table, NeverDiffer, ExactNeverDiffers, ShownDiffers, TouchingDiffers, AtOnceDiffers}
use Rattle.pharos.proofs.Functional.{left}
use Rattle.pharos.proofs.GoodStates.{leaves}
use Rattle.pharos.proofs.Search.{not_before_itself}
use Rattle.pharos.proofs.Behaviours.{behaviours_end_alike}

pub never_differ : (T : Types) → NeverDiffer T
never_differ T ok d = d.differ (ap (λ f. f d.agent) (behaviours_end_alike T ok d.run d.run' d.ends d.ends').0)

pub exact_never_differs : ExactNeverDiffers
exact_never_differs e l = never_differ (table exact e) (record {
  instr_of_type = λ a s _ _. let w = window a in omega arith;
  Update_monotonic = λ a s _ _ msgs got goes_on. absurd (true≢false (sym (one_row a s msgs got) ∙ goes_on));
  visible_cond = λ di dj. ltb-true di.late dj.early;
})
  where
    window : (a : ℕ) → (row e a).early < (row e a).late
    window zero = omega arith
    window (suc b) = omega arith

    one_row : (a : ℕ) (s : Local) (msgs : Messages) (got : Option ℕ) → leb 1 (exec (table exact e) a s msgs got).0.position ≡ true
    one_row zero s msgs got = refl
    one_row (suc b) s msgs got = refl

-- A rule that shows the message to the receive, although the windows meet at 3.
module _ (visible : Dated Local → Dated Local → Bool) (e : ℕ) (meet : e ≤ 3) (shown : visible sending (receiving e) ≡ true) where
  abbrev T : Types
  T = table visible e

  -- At 3 both windows are open.
  good : (g : SystemState T) (a : ℕ) → g.t ≤ 3 → GoodNextTime T g a 3
  good g a clock = record { after = clock; begun = opens a; fits = λ b _ _. closes b }
    where
      opens : (a : ℕ) → (row e a).early ≤ 3
      opens zero = omega arith
      opens (suc b) = omega arith

      closes : (a : ℕ) → 3 ≤ (row e a).late
      closes zero = omega arith
      closes (suc b) = omega arith

  abbrev initial : SystemState T
  initial = record { st = λ b. record { position = 0; register = 0 }; msgs = λ b i. none; t = 1 }

  abbrev sent_first : SystemState T
  sent_first = left T initial 0 none 3

  abbrev received_first : SystemState T
  received_first = left T initial 1 none 3

  abbrev received_last : SystemState T
  received_last = left T sent_first 1 (some 5) 3

  abbrev sent_last : SystemState T
  sent_last = left T received_first 0 none 3

  -- A send awaits nothing, an empty pool has nothing, and after the send there is one message.
  idle : (msgs : Messages) → Received T msgs sending none
  idle msgs = nothing (λ b i v m. none-ne-some _ m.awaited)

  empty : Received T initial.msgs (receiving e) none
  empty = nothing (λ b i v m. none-ne-some _ m.present)

  there : Received T sent_first.msgs (receiving e) (some 5)
  unfolding ℕ_discrete
  there = found {b = 0} {i = 0} (record { agent = omega arith; row = omega arith; present = refl; number = 7; sent = refl; awaited = refl; seen = shown })
      (λ c j w m. not_before_itself T (sender c m.sent) (omega (arith, m.row)))
    where
      sender : (c : ℕ) {k : ℕ} → msg_sent (row e c).ins ≡ some k → c ≡ 0
      sender zero p = refl
      sender (suc b) p = absurd (none-ne-some _ p)

  all_ended_lem : (g : SystemState T) → leb 1 (g.st 0).position ≡ true → leb 1 (g.st 1).position ≡ true → AllEnded T g
  all_ended_lem g p q zero l = p
  all_ended_lem g p q (suc zero) l = q
  all_ended_lem g p q (suc (suc b)) l = absurd (omega arith)

  differs : Differ T
  unfolding ℕ_discrete
  differs = record {
    start = initial;
    one = received_last;
    other = sent_last;
    init = record { st = refl; msgs = λ b i. refl; t = omega arith };
    run = append (append no_steps (leaves T initial 0 none 3 (omega arith) refl (good initial 0 (omega arith)) (idle _)))
        (leaves T sent_first 1 (some 5) 3 (omega arith) refl (good sent_first 1 (omega arith)) there);
    run' = append (append no_steps (leaves T initial 1 none 3 (omega arith) refl (good initial 1 (omega arith)) empty))
        (leaves T received_first 0 none 3 (omega arith) refl (good received_first 0 (omega arith)) (idle _));
    ends = all_ended_lem received_last refl refl;
    ends' = all_ended_lem sent_last refl refl;
    agent = 1;
    differ = λ same. let z : ◌≡◌ {A = ℕ} 5 0 = ap (λ s. s.register) same in omega arith;
  }

pub shown_differs : ShownDiffers
shown_differs visible e meet shown = differs visible e (omega arith) shown

pub touching_differs : TouchingDiffers
touching_differs = shown_differs (λ di dj. leb di.late dj.early) 3 (omega arith) refl

pub at_once_differs : AtOnceDiffers
at_once_differs = shown_differs (λ di dj. true) 2 (omega arith) refl
