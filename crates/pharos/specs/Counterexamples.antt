-- Why visibility asks for late < early: two weaker rules, each with two behaviours of one table that end in different states.
-- The rule is the constant `visible` of the published model, and nothing else in the model is changed. proofs/Counterexamples proves each statement.
use Rattle.std.specs.Prelude.{◌≡◌, Bool, true, ℕ, zero, suc, ◌≤◌, ◌<◌, leb}
use Rattle.std.proofs.Math.Option.{get_or}
use Rattle.pharos.specs.Published.{send, receive, Dated, exact, Types, SystemState, Assumptions, Init, Behaviour}
use Rattle.pharos.specs.Histories.{AllEnded}

-- Two behaviours from the start that end every agent, one agent in different states.
pub record Differ (T : Types) : Type 0 where
  pub start : SystemState T
  pub one : SystemState T
  pub other : SystemState T
  pub init : Init T start
  pub run : Behaviour T start one
  pub run' : Behaviour T start other
  pub ends : AllEnded T one
  pub ends' : AllEnded T other
  pub agent : ℕ
  pub differ : one.st agent ≡ other.st agent → ⊥

-- The table of 01's cases P3 and P4: agent 0 sends 5 under number 7 in the window 1 .. 3, agent 1 receives number 7 in the window e .. 8.
pub record Local : Type 0 where
  pub position : ℕ
  pub register : ℕ

abbrev pub sending : Dated Local
sending = record { ins = send 7 (λ s. 5) (λ s. record { position = 1; register = s.register }); early = 1; late = 3 }

abbrev pub receiving : ℕ → Dated Local
receiving e = record { ins = receive 7 (λ got s. record { position = 1; register = get_or got s.register }); early = e; late = 8 }

abbrev pub row : ℕ → ℕ → Dated Local
row e zero = sending
row e (suc b) = receiving e

abbrev pub table : (Dated Local → Dated Local → Bool) → ℕ → Types
table visible e = record {
  State = Local;
  agents = 2;
  init_state = λ a. record { position = 0; register = 0 };
  ended = λ a s. leb 1 s.position;
  rows = λ a. 1;
  place = λ s. s.position;
  instr_at = λ a i. row e a;
  visible = visible;
}

-- Under the assumptions of 002 no behaviours differ so; and under the true rule this table meets them.
abbrev pub NeverDiffer : Types → Type 0
NeverDiffer T = Assumptions T → Differ T → ⊥

abbrev pub ExactNeverDiffers : Type 0
ExactNeverDiffers = (e : ℕ) → e < 8 → Differ (table exact e) → ⊥

-- A rule that shows the message to the receive, although the windows meet at 3: at that time either may go first.
abbrev pub ShownDiffers : Type 0
ShownDiffers = (visible : Dated Local → Dated Local → Bool) (e : ℕ) → e ≤ 3 → visible sending (receiving e) ≡ true → Differ (table visible e)

-- Visible where late ≤ early: the receive of window 3 .. 8 sees what is sent at 3, if the sender is picked first.
abbrev pub TouchingDiffers : Type 0
TouchingDiffers = Differ (table (λ di dj. leb di.late dj.early) 3)

-- Visible at once, with no test of windows: so does that of window 2 .. 8.
abbrev pub AtOnceDiffers : Type 0
AtOnceDiffers = Differ (table (λ di dj. true) 2)
