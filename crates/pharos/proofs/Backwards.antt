-- The statements of specs/Backwards, proved: the behaviours are written out.
use mathlib.Core.Path.{◌≡◌, refl, ap}
use mathlib.Core.Bool.{false, true≢false}
use mathlib.Core.Option.{none, some, none-ne-some}
use mathlib.Core.List.{List, [], ◌∷◌}
use mathlib.Core.Logic.{⊎_elim}
use Prim.Native.Nat.{ℕ, zero, suc, ◌≤◌, ◌<◌}
use native.Mathlib.Decide.{ℕ_discrete}
use native.Mathlib.Omega.{arith}
use lib.Dec.{leb}
use borrow.Author.Tests.{ltb-true}
use Rattle.pharos.specs.Prefix.{OneBegins}
use Rattle.pharos.specs.Published.{msg_sent, Types, instr_of, SystemState, GoodNextTime, Received, nothing, found, Behaviour, no_steps, append, filter}
use Rattle.pharos.specs.Counterexamples.{Local, receiving}
use Rattle.pharos.specs.Backwards.{back_row, back_rows, back_table, OtherAssumptions, BackDiffers}
use Rattle.pharos.proofs.Functional.{left}
use Rattle.pharos.proofs.GoodStates.{leaves}
use Rattle.pharos.proofs.Search.{not_before_itself}

abbrev T : Types
T = back_table

pub other_assumptions : OtherAssumptions
other_assumptions = (window, λ di dj. ltb-true di.late dj.early)
  where
    window : (a i : ℕ) → (back_row a i).early < (back_row a i).late
    window zero zero = omega arith
    window zero (suc i) = omega arith
    window (suc b) i = omega arith

abbrev initial : SystemState T
initial = record { st = λ b. record { position = 0; register = 0 }; msgs = λ b i. none; t = 1 }

abbrev moved : SystemState T
moved = left T initial 0 none 1

abbrev sent : SystemState T
sent = left T moved 0 none 2

good : (g : SystemState T) (a t : ℕ) → g.t ≤ t → (instr_of T a (g.st a)).early ≤ t
    → (leb 2 (g.st 0).position ≡ false → t ≤ (back_row 0 (g.st 0).position).late) → t ≤ 8 → GoodNextTime T g a t
good g a t clock opens mine his = record { after = clock; begun = opens; fits = closes }
  where
    closes : (b : ℕ) → b < 2 → leb (back_rows b) (g.st b).position ≡ false → t ≤ (back_row b (g.st b).position).late
    closes zero l live = mine live
    closes (suc b) l live = his

-- Agent 1 goes at 4, before agent 0 does anything: its back_row 0 is open till 9. Nothing is found.
abbrev at_once : Behaviour T initial (left T initial 1 none 4)
at_once = append no_steps (leaves T initial 1 none 4 (omega arith) refl (good initial 1 4 (omega arith) (omega arith) (λ _. omega arith) (omega arith))
    (nothing (λ b i v m. none-ne-some _ m.present)))

there : Received T sent.msgs (receiving 4) (some 5)
unfolding ℕ_discrete
there = found {b = 0} {i = 1} (record { agent = omega arith; row = omega arith; present = refl; number = 7; sent = refl; awaited = refl; seen = refl })
    (λ c j w m. let (p, q) = sender c j m.sent m.row in not_before_itself T p q)
  where
    sender : (c j : ℕ) {k : ℕ} → msg_sent (back_row c j).ins ≡ some k → j < back_rows c → (c ≡ 0) × (j ≡ 1)
    sender zero zero p l = absurd (none-ne-some _ p)
    sender zero (suc j) p l = (refl, omega arith)
    sender (suc b) j p l = absurd (none-ne-some _ p)

-- Agent 0 goes at 1 and sends at 2, then agent 1 goes at 4, and finds it.
unfoldable at_last : Behaviour T initial (left T sent 1 (some 5) 4)
unfolding ℕ_discrete
at_last =
    append (append (append no_steps
    (leaves T initial 0 none 1 (omega arith) refl (good initial 0 1 (omega arith) (omega arith) (λ _. omega arith) (omega arith))
    (nothing (λ b i v m. none-ne-some _ m.awaited))))
    (leaves T moved 0 none 2 (omega arith) refl (good moved 0 2 (omega arith) (omega arith) (λ _. omega arith) (omega arith))
    (nothing (λ b i v m. none-ne-some _ m.awaited))))
    (leaves T sent 1 (some 5) 4 (omega arith) refl (good sent 1 4 (omega arith) (omega arith) (λ live. absurd (true≢false live)) (omega arith)) there)

-- The states that agent 1 passes through: neither begins the other.
neither : OneBegins (filter T at_once 1) (filter T at_last 1) → ⊥
unfolding ℕ_discrete at_last
neither = ⊎_elim
    (λ (l, e). let z : ◌≡◌ {A = ℕ} 5 0 = ap second e in omega arith)
    (λ (l, e). let z : ◌≡◌ {A = ℕ} 0 5 = ap second e in omega arith)
  where
    second : List Local → ℕ
    second [] = 0
    second (x ∷ []) = 0
    second (x ∷ y ∷ l) = y.register

pub back_differs : BackDiffers
back_differs = record {
  start = initial;
  one = left T initial 1 none 4;
  other = left T sent 1 (some 5) 4;
  init = record { st = refl; msgs = λ b i. refl; t = refl };
  run = at_once;
  run' = at_last;
  agent = 1;
  neither = neither;
}
