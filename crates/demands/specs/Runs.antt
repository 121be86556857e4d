-- Demand 2 of a run: it is a behaviour of the published model. The statements; proofs/Behaves proves that of any state that fits, proofs/Lent that of the public call.
use Rattle.std.specs.Prelude.{◌≡◌, List, [], ◌∷◌, ◌++◌, ◌≢◌, ℕ, suc, ◌*◌, ◌<◌, take, drop}
use Rattle.pharos.specs.Published.{Types, SystemState, Behaviour, no_steps, append, filter}
use Rattle.tables.specs.Layout.{agents}
use Rattle.choices.specs.State.{start_words}
use Rattle.executive.specs.Run.{RunOutcome, ended, run_from}
use Rattle.executive.specs.Calls.{table_part, state_part, past_state, run_refusal, run_into}
use Rattle.demands.specs.Reasons.{Reply}
use Rattle.demands.specs.Instance.{published, decode}
use Rattle.demands.specs.Demand2.{Table, Fitting}
use Rattle.demands.specs.Steps.{passed}

module _ {T : Types} where
  -- the number of a behaviour's steps; and the agent and the time of each, the oldest first
  abbrev pub count_of : {g h : SystemState T} → Behaviour T g h → ℕ
  count_of no_steps = 0
  count_of (append r step) = suc (count_of r)

  abbrev pub choices_of : {g h : SystemState T} → Behaviour T g h → List ℕ
  choices_of no_steps = []
  choices_of (append {f = f} {a} r step) = choices_of r ++ (a ∷ f.t ∷ [])

  -- Why a run stops in the state g, with the words that are left, and its reply: at the end, or at a choice against which the model has a reason.
  pub data Stops (g : SystemState T) : List ℕ → ℕ → Type 0 where
    at_end : Stops g [] 0
    at_word : {a : ℕ} → Stops g (a ∷ []) 0
    at_reason : {a t n : ℕ} {cs : List ℕ} → Reply g a t n → n ≢ 0 → Stops g (a ∷ t ∷ cs) n

-- how a run ends, without the words past the state's
abbrev pub without_past : RunOutcome → RunOutcome
without_past q = ended q.reply q.count (state_part q.state)

-- A run over the choices cs from the state st that ends so.
pub record Behaves (tb st cs : List ℕ) (out : RunOutcome) : Type 0 where
  pub state : Fitting tb out.state
  pub behaviour : Behaviour (published tb) (decode tb st) (decode tb out.state)
  -- it has as many steps as are counted, and step k of it is choice k's agent's at choice k's time
  pub counted : count_of behaviour ≡ out.count
  pub chosen : choices_of behaviour ≡ take (2 * out.count) cs
  -- it stops only where the model does
  pub stops : Stops (decode tb out.state) (drop (2 * out.count) cs) out.reply
  -- the states that an agent passes through are document 002's filter of it
  pub filtered : (b : ℕ) → b < agents tb → filter (published tb) behaviour b ≡ passed tb st cs b

abbrev pub RunIsModels : Type 0
RunIsModels = (tb st cs : List ℕ) → Table tb → Fitting tb st → Behaves tb st cs (run_from tb st 0 cs)

-- The public call: a run that begins is such a run from the table's start state, and the words past the state's are as they were.
abbrev pub RunCallIsModels : Type 0
RunCallIsModels = (tb st cs : List ℕ) → run_refusal tb st cs ≡ 0
    → Behaves (table_part tb) (start_words (table_part tb)) cs (without_past (run_into tb st cs)) × (past_state (run_into tb st cs).state ≡ past_state st)
