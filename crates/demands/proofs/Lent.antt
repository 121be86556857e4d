-- Demand 3 of the public call `run`, proved, whatever lent words it is made in; and demand 2 of it.
use mathlib.Core.Path.{◌≡◌, refl, sym, ap, subst, ◌∙◌}
use mathlib.Core.Logic.{inl, inr}
use mathlib.Core.Bool.{true, false}
use mathlib.Core.List.{List, []}
use Prim.Native.Nat.{ℕ, zero, suc, ◌+◌, ◌*◌, ◌%◌, ◌≤◌, ◌<◌}
use native.Mathlib.Nat.{zero-add}
use native.Mathlib.Omega.{arith}
use lib.Dec.{ltb}
use lib.ListN.{length, take, drop, get_or, length-take}
use lib.Seq.{get_or-take}
use borrow.Author.Tests.{ltb-false, ne_eqb, eqb-false, not-false}
use Rattle.tables.specs.Basics.{first}
use Rattle.tables.specs.Layout.{agents, rows, row, row_place, table_words}
use Rattle.tables.specs.Table.{good_table}
use Rattle.tables.proofs.Passed.{passed as passes}
use Rattle.choices.specs.declared.Agent.{Agent}
use Rattle.choices.specs.State.{agent_at, clock, pos, state_words, start_words, pos_place, reg_place}
use Rattle.executive.specs.Run.{RunOutcome, ended, run_from}
use Rattle.executive.specs.Calls.{table_part, state_part, past_state, run_refusal, run_into}
use Rattle.tables.proofs.Good.{few}
use Rattle.choices.proofs.Lists.{part_same}
use Rattle.executive.proofs.Ready.{part_is, past_is}
use Rattle.executive.proofs.OneByOne.{ran}
use Rattle.demands.specs.Demand2.{Table, Fitting}
use Rattle.demands.specs.Steps.{Step, steps_from, comes_to, passed, begun, steps_in_run, agents_and_times, last_of, RunMakes}
use Rattle.demands.specs.Runs.{without_past, Behaves, RunCallIsModels}
use Rattle.pharos.specs.Prefix.{OneBegins}
use Rattle.demands.specs.Demand3.{Deterministic, AllAtTheirEnd, SameEnds}
use Rattle.demands.proofs.Demand2.{start_is_models}
use Rattle.demands.proofs.Made.{steps_counted, steps_chosen, steps_each, steps_last, chosen_low}
use Rattle.demands.proofs.Behaves.{run_is_models}
use Rattle.demands.proofs.Demand3.{deterministic_from, same_ends_from}

-- an agent in words with others behind them
pub pos_part : (st : List ℕ) (b : ℕ) → b < 16 → pos (state_part st) b ≡ pos st b
pos_part st b h = get_or-take state_words st (pos_place b) 0 (omega arith)

pub clock_part : (st : List ℕ) → clock (state_part st) ≡ clock st
clock_part st = get_or-take state_words st 0 0 (omega arith)

agent_part : (st : List ℕ) (b : ℕ) → state_words ≤ length st → b < 16 → agent_at (state_part st) b ≡ agent_at st b
agent_part st b long h = λ k. record { pos = pos_part st b h k; regs = registers k }
  where
    registers : take 4 (drop (reg_place b) (state_part st)) ≡ take 4 (drop (reg_place b) st)
    registers = part_same (state_part st) st 4 (reg_place b) (reg_place b) (simp length-take (omega arith)) (omega arith)
        (λ i l. get_or-take state_words st (reg_place b + i) 0 (omega arith))

module _ (tb st : List ℕ) (table : Table (table_part tb)) (long : state_words ≤ length st) where
  abbrev rules : List ℕ
  rules = table_part tb

  abbrev begin : List ℕ
  begin = start_words rules

  starts : Fitting rules begin
  starts = (start_is_models rules table).0

  -- the record of a run that begins is that of the run from the start state
  record_is : (cs : List ℕ) → run_refusal tb st cs ≡ 0 → state_part (run_into tb st cs).state ≡ (run_from rules begin 0 cs).state
  record_is cs e =
      ap (λ (q : RunOutcome). state_part q.state) (ran tb st cs e)
      ∙ part_is (run_from rules begin 0 cs).state (past_state st) (run_is_models rules begin cs table starts).state.long

  module _ (b : ℕ) (low : b < 16) where
    agent_is : (cs : List ℕ) → run_refusal tb st cs ≡ 0 → agent_at (run_into tb st cs).state b ≡ agent_at (run_from rules begin 0 cs).state b
    agent_is cs e =
        let same = record_is cs e in
        let n = length-take 1105 (run_into tb st cs).state in
        let l = ap length same ∙ (run_is_models rules begin cs table starts).state.long in
        sym (agent_part (run_into tb st cs).state b (omega arith) low) ∙ ap (λ (w : List ℕ). agent_at w b) same

-- the table's counts, read in the lent words
module _ (tb : List ℕ) where
  pub agents_part : agents (table_part tb) ≡ agents tb
  agents_part = get_or-take table_words tb 0 0 (omega arith)

  pub rows_part : (b : ℕ) → b < 16 → rows (table_part tb) b ≡ rows tb b
  rows_part b h = get_or-take table_words tb (1 + b) 0 (omega arith)

  pub row_part : (b i : ℕ) → b < 16 → i < 32 → row (table_part tb) b i ≡ row tb b i
  row_part b i h l =
      let word : (k : ℕ) → k < 4 → get_or (table_part tb) (row_place b i + k) 0 ≡ get_or tb (row_place b i + k) 0 = λ k m. get_or-take table_words tb (row_place b i + k) 0 (omega arith) in
      rw (get_or-take table_words tb (row_place b i) 0 (omega arith), word 1 (omega arith), word 2 (omega arith), word 3 (omega arith))

-- a run that has ended every agent in the lent words has done so from the start state
ended_from : (tb st : List ℕ) (table : Table (table_part tb)) → state_words ≤ length st → (cs : List ℕ) → run_refusal tb st cs ≡ 0
    → AllAtTheirEnd tb (run_into tb st cs).state → AllAtTheirEnd (table_part tb) (run_from (table_part tb) (start_words (table_part tb)) 0 cs).state
ended_from tb st table long cs e end b h =
    let low : b < 16 = omega (arith, few (table_part tb) table.good) in
    ap (λ (s : Agent). s.pos) (sym (agent_is tb st table long b low cs e)) ∙ end b (omega (arith, agents_part tb)) ∙ sym (rows_part tb b low)

-- a run that begins has a good table, and room for its state
run_table : (tb st cs : List ℕ) → run_refusal tb st cs ≡ 0 → Table (table_part tb) × (state_words ≤ length st)
unfolding run_refusal
run_table tb st cs e =
    let clear = passes _ tt e in
    let l : table_words ≤ length tb = ltb-false _ _ (clear 0) in
    (record { long = simp length-take (omega arith); good = not-false _ (clear 3) }, ltb-false _ _ (clear 1))

-- Of two lists of which one may be empty, where the table need not be good.
pub deterministic : Deterministic
unfolding steps_from comes_to
deterministic tb st st' cs ds b h = go (run_refusal tb st cs) (run_refusal tb st' ds) refl refl
  where
    rules : List ℕ
    rules = table_part tb

    at : List ℕ → List Agent
    at l = passed rules (start_words rules) l b

    go : (x y : ℕ) → run_refusal tb st cs ≡ x → run_refusal tb st' ds ≡ y
        → OneBegins (at (elim x [ zero ↦ cs | suc r ↦ [] ])) (at (elim y [ zero ↦ ds | suc r ↦ [] ]))
    go (suc x) y e f = inl (comes_to b (steps_from rules (start_words rules) (elim y [ zero ↦ ds | suc r ↦ [] ])), refl)
    go zero (suc y) e f = inr (comes_to b (steps_from rules (start_words rules) cs), refl)
    go zero zero e f =
        let (table, _) = run_table tb st cs e in
        deterministic_from rules (start_words rules) cs ds table (start_is_models rules table).0 b (omega (arith, agents_part tb))

pub same_ends : SameEnds
same_ends tb st st' cs ds e e' end end' =
    let (table, long) = run_table tb st cs e in
    let (_, long') = run_table tb st' ds e' in
    ap (drop 1) (record_is tb st table long cs e)
    ∙ same_ends_from (table_part tb) (start_words (table_part tb)) cs ds table (start_is_models (table_part tb) table).0 (ended_from tb st table long cs e end) (ended_from tb st' table long' ds e' end')
    ∙ sym (ap (drop 1) (record_is tb st' table long' ds e'))

-- ---- what a run that begins makes

-- a beginning of an even list is even
even_take : (n : ℕ) (cs : List ℕ) → length cs % 2 ≡ 0 → length (take (2 * n) cs) % 2 ≡ 0
even_take n cs even = let l = length-take (2 * n) cs in omega arith

-- so a run over it begins too
pub begins_by : (tb st cs : List ℕ) → ltb (length tb) table_words ≡ false → ltb (length st) state_words ≡ false → length cs % 2 ≡ 0 → good_table (table_part tb) ≡ true
    → run_refusal tb st cs ≡ 0
unfolding run_refusal first
begins_by tb st cs table state even good = rw (table, state, ne_eqb (length cs % 2) 1 (λ x. omega arith), good)

begins_too : (tb st cs : List ℕ) (n : ℕ) → run_refusal tb st cs ≡ 0 → run_refusal tb st (take (2 * n) cs) ≡ 0
unfolding run_refusal
begins_too tb st cs n e =
    let clear = passes _ tt e in
    let odd = eqb-false (length cs % 2) 1 (clear 2) in
    begins_by tb st (take (2 * n) cs) (clear 0) (clear 1) (even_take n cs (omega arith)) (not-false _ (clear 3))

pub begun_whole : (tb st cs : List ℕ) → run_refusal tb st cs ≡ 0 → begun tb st cs ≡ cs
begun_whole tb st cs e = ap (λ (x : ℕ). elim x as (λ _. List ℕ) [ zero ↦ cs | suc r ↦ [] ]) e

pub run_makes : RunMakes
run_makes tb st cs e =
    let (table, long) = run_table tb st cs e in
    let rules = table_part tb in
    let start = start_words rules in
    let count : (run_into tb st cs).count ≡ length (steps_from rules start cs) =
    ap (λ (q : RunOutcome). q.count) (ran tb st cs e) ∙ sym (steps_counted cs rules start 0) ∙ zero-add _ in
    let low : (b : ℕ) → b < agents tb → b < 16 = λ b h. omega (arith, few rules table.good, agents_part tb) in
    let accepted-agent : (k : ℕ) → k < length (steps_from rules start cs) → get_or cs (2 * k) 0 < 16 = λ k l. omega (arith, chosen_low rules table cs start k (start_is_models rules table).0 l, few rules table.good) in
    let whole : steps_in_run tb st cs ≡ steps_from rules start cs = ap (steps_from rules start) (begun_whole tb st cs e) in
    record {
      counted = ap length whole ∙ sym count;
      chosen = ap agents_and_times whole ∙ steps_chosen cs rules start ∙ ap (λ (n : ℕ). take (2 * n) cs) (sym count);
      each = λ s k l.
          let l' : k < length (steps_from rules start cs) = omega arith in
          ap (λ (l : List Step). (get_or l k s).left) whole
          ∙ steps_each cs rules start 0 s k l'
          ∙ sym (agent_is tb st table long (get_or cs (2 * k) 0) (accepted-agent k l') (take (2 * suc k) cs) (begins_too tb st cs (suc k) e));
      last = λ b h. agent_is tb st table long b (low b h) cs e
          ∙ steps_last rules table cs start 0 (start_is_models rules table).0 b (omega (arith, agents_part tb))
          ∙ ap (λ (l : List Step). last_of (agent_at start b) (comes_to b l)) (sym whole);
    }

pub run_call_is_models : RunCallIsModels
run_call_is_models tb st cs e =
    let (table, long) = run_table tb st cs e in
    let rules = table_part tb in
    let out = run_from rules (start_words rules) 0 cs in
    let whole = run_is_models rules (start_words rules) cs table (start_is_models rules table).0 in
    let same : out ≡ without_past (run_into tb st cs) =
    (λ k. ended out.reply out.count (sym (part_is out.state (past_state st) whole.state.long) k))
    ∙ ap without_past (sym (ran tb st cs e)) in (
      subst (Behaves rules (start_words rules) cs) same whole,
      ap (λ (q : RunOutcome). past_state q.state) (ran tb st cs e) ∙ past_is out.state (past_state st) whole.state.long,
    )
