-- Demand 3, proved: a corollary of the published model's determinacy, since runs are its behaviours.
use mathlib.Core.Path.{◌≡◌, sym, subst₂, ◌∙◌}
use mathlib.Core.Bool.{true}
use mathlib.Core.List.{List}
use Prim.Native.Nat.{ℕ, ◌<◌}
use native.Mathlib.Omega.{arith}
use lib.Dec.{leb}
use borrow.Author.Tests.{le-leb}
use Rattle.pharos.proofs.Behaviours.{determinacy, behaviours_end_alike, same_courses}
use Rattle.tables.specs.Layout.{agents, rows}
use Rattle.choices.specs.State.{pos}
use Rattle.executive.specs.Run.{run_from}
use Rattle.tables.proofs.Good.{few}
use Rattle.executive.proofs.Fitting.{fits_says}
use Rattle.demands.specs.Instance.{published, state_of}
use Rattle.demands.specs.Demand2.{Table}
use Rattle.pharos.specs.Prefix.{OneBegins}
use Rattle.demands.specs.Demand3.{DeterministicFrom, AllAtTheirEnd, SameEndsFrom, SameCoursesFrom}
use Rattle.demands.proofs.Assumed.{assumptions_hold}
use Rattle.demands.proofs.Decode.{state_low, same_past_clock}
use Rattle.demands.proofs.Behaves.{run_is_models}

pub deterministic_from : DeterministicFrom
deterministic_from tb st cs ds table state b h =
    let x = run_is_models tb st cs table state in
    let y = run_is_models tb st ds table state in
    subst₂ OneBegins (x.filtered b h) (y.filtered b h) (determinacy (published tb) (assumptions_hold tb table) x.behaviour y.behaviour b)

-- an agent whose position is its row count has ended
all_ended_lem : (tb st : List ℕ) → Table tb → AllAtTheirEnd tb st → (b : ℕ) → b < agents tb → leb (rows tb b) (state_of tb st b).pos ≡ true
all_ended_lem tb st table end b h =
    let e = end b h in
    rw (state_low tb st b (omega (arith, few tb table.good))) (le-leb (rows tb b) (pos st b) (omega arith))

pub same_ends_from : SameEndsFrom
same_ends_from tb st cs ds table state end end' =
    let out = (run_from tb st 0 cs).state in
    let out' = (run_from tb st 0 ds).state in
    let x = run_is_models tb st cs table state in
    let y = run_is_models tb st ds table state in
    let (states, messages) = behaviours_end_alike (published tb) (assumptions_hold tb table) x.behaviour y.behaviour (all_ended_lem tb out table end) (all_ended_lem tb out' table end') in
    same_past_clock tb out out' (fits_says tb out x.state.fit) (fits_says tb out' y.state.fit) x.state.long y.state.long states messages

pub same_courses_from : SameCoursesFrom
same_courses_from tb st cs ds table state end end' b h =
    let out = (run_from tb st 0 cs).state in
    let out' = (run_from tb st 0 ds).state in
    let x = run_is_models tb st cs table state in
    let y = run_is_models tb st ds table state in
    sym (x.filtered b h)
    ∙ same_courses (published tb) (assumptions_hold tb table) x.behaviour y.behaviour (all_ended_lem tb out table end) (all_ended_lem tb out' table end') b
    ∙ y.filtered b h
