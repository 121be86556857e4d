-- Why windows must not move back: under the exact rule, a table whose agent 0 goes on to a window that closes before the last one did.
-- An agent that waits in a late window promises nothing about an earlier one, so the receiver of agent 1 can come before or after the send.
-- proofs/Backwards proves each statement.
use Rattle.std.specs.Prelude.{◌≡◌, true, ℕ, zero, suc, ◌<◌, leb}
use Rattle.pharos.specs.Prefix.{OneBegins}
use Rattle.pharos.specs.Published.{local, send, Dated, exact, Types, SystemState, Init, Behaviour, filter}
use Rattle.pharos.specs.Counterexamples.{Local, receiving}

-- Two behaviours from the start: of the states that one agent passes through in the two, neither begins the other.
pub record PartWays (T : Types) : Type 0 where
  pub start : SystemState T
  pub one : SystemState T
  pub other : SystemState T
  pub init : Init T start
  pub run : Behaviour T start one
  pub run' : Behaviour T start other
  pub agent : ℕ
  pub neither : OneBegins (filter T run agent) (filter T run' agent) → ⊥

-- Agent 0: a local row in 1 .. 9, then a send of 5 in 1 .. 3. Agent 1: a receive in 4 .. 8.
abbrev pub back_row : ℕ → ℕ → Dated Local
back_row zero zero = record { ins = local (λ s. record { position = 1; register = s.register }); early = 1; late = 9 }
back_row zero (suc i) = record { ins = send 7 (λ s. 5) (λ s. record { position = 2; register = s.register }); early = 1; late = 3 }
back_row (suc b) i = receiving 4

abbrev pub back_rows : ℕ → ℕ
back_rows zero = 2
back_rows (suc b) = 1

abbrev pub back_table : Types
back_table = record {
  State = Local;
  agents = 2;
  init_state = λ a. record { position = 0; register = 0 };
  ended = λ a s. leb (back_rows a) s.position;
  rows = back_rows;
  place = λ s. s.position;
  instr_at = back_row;
  visible = exact;
}

-- All else that 002 assumes holds.
abbrev pub OtherAssumptions : Type 0
OtherAssumptions = ((a i : ℕ) → (back_row a i).early < (back_row a i).late) × ((di dj : Dated Local) → exact di dj ≡ true → di.late < dj.early)

abbrev pub BackDiffers : Type 0
BackDiffers = PartWays back_table
