-- Demand 3: the executive is deterministic. The statements; proofs/Demand3 proves them of any state that fits, proofs/Lent of the public call.
use Rattle.std.specs.Prelude.{◌≡◌, List, ℕ, ◌<◌, drop}
use Rattle.pharos.specs.Prefix.{OneBegins}
use Rattle.tables.specs.Layout.{agents, rows}
use Rattle.choices.specs.State.{pos}
use Rattle.executive.specs.Run.{run_from}
use Rattle.executive.specs.Calls.{state_part, run_refusal, run_into}
use Rattle.demands.specs.Demand2.{Table, Fitting}
use Rattle.demands.specs.Steps.{passed, passed_in_run}

-- For one table and any two lists of choices, the states that an agent passes through in one run begin those in the other, whatever lent words the runs are made in.
-- A run that is refused before it begins has no accepted step, and neither has one that is refused at its first choice.
abbrev pub Deterministic : Type 0
Deterministic = (tb st st' cs ds : List ℕ) (b : ℕ) → b < agents tb → OneBegins (passed_in_run tb st cs b) (passed_in_run tb st' ds b)

-- The same from any state that fits its table.
abbrev pub DeterministicFrom : Type 0
DeterministicFrom = (tb st cs ds : List ℕ) → Table tb → Fitting tb st → (b : ℕ) → b < agents tb → OneBegins (passed tb st cs b) (passed tb st ds b)

-- all agents have come to their end
abbrev pub AllAtTheirEnd : (tb st : List ℕ) → Type 0
AllAtTheirEnd tb st = (b : ℕ) → b < agents tb → pos st b ≡ rows tb b

-- Where both runs bring all agents to their end, the two records of 1,105 words that they leave agree in every word but the clock.
-- Neither run is refused before it begins (1, 16, 8); that further choices are refused after the end changes nothing.
abbrev pub SameEnds : Type 0
SameEnds = (tb st st' cs ds : List ℕ) → run_refusal tb st cs ≡ 0 → run_refusal tb st' ds ≡ 0
    → AllAtTheirEnd tb (run_into tb st cs).state → AllAtTheirEnd tb (run_into tb st' ds).state
    → drop 1 (state_part (run_into tb st cs).state) ≡ drop 1 (state_part (run_into tb st' ds).state)

abbrev pub SameEndsFrom : Type 0
SameEndsFrom = (tb st cs ds : List ℕ) → Table tb → Fitting tb st
    → AllAtTheirEnd tb (run_from tb st 0 cs).state → AllAtTheirEnd tb (run_from tb st 0 ds).state
    → drop 1 (run_from tb st 0 cs).state ≡ drop 1 (run_from tb st 0 ds).state

-- And then every agent has passed through the same states in both.
abbrev pub SameCoursesFrom : Type 0
SameCoursesFrom = (tb st cs ds : List ℕ) → Table tb → Fitting tb st
    → AllAtTheirEnd tb (run_from tb st 0 cs).state → AllAtTheirEnd tb (run_from tb st 0 ds).state
    → (b : ℕ) → b < agents tb → passed tb st cs b ≡ passed tb st ds b
