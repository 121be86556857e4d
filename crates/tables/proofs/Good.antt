-- What an accepted table is, fact by fact, `TableFacts` and with rule 7 `Climbing`, and that both make one: what the executive and the reader use, so that
-- neither opens the table rule. Assumes nothing.
use mathlib.Core.Path.{◌≡◌, refl, sym}
use mathlib.Core.Bool.{Bool, true, false}
use mathlib.Core.List.{List}
use Prim.Native.Nat.{ℕ, ◌+◌, ◌≤◌, ◌<◌}
use native.Mathlib.Omega.{arith}
use lib.Dec.{eqb, ltb}
use lib.ListN.{get_or, length, take}
use borrow.Author.Tests.{leb-true, le-leb, eqb-true, ltb-true, ltb-false, le-ltb, eq-eqb, not-false}
use Rattle.tables.proofs.Passed.{and_1, and_2, each, every_go, every_none, below, all_below_lem, passed, first_skip, first_none}
use Rattle.std.proofs.lemmas.Bool.{not_from_true}
use Rattle.tables.proofs.Tests.{and_both}
use Rattle.tables.proofs.Zeros.{zero_at, zero_all}
use Rattle.tables.proofs.RowReplies.{RowFits, row_fits}
use Rattle.tables.proofs.Onward.{climbs_on}
use Rattle.tables.specs.Basics.{OneOf}
use Rattle.tables.specs.Layout.{agents, rows, row, row_place, start_place, table_words}
use Rattle.tables.specs.Rows.{well_formed, goes_on_to}
use Rattle.tables.specs.Calls.{check_reply}
use Rattle.tables.specs.Table.{row_passes, row_reply_at, climbs, good_rows, good_agent, good_table}

-- the words from place i up to place j are 0
abbrev pub Zero : List ℕ → ℕ → ℕ → Type 0
Zero tb i j = (k : ℕ) → i ≤ k → k < j → get_or tb k 0 ≡ 0

-- ---- the facts

pub record AgentFacts (tb : List ℕ) (a : ℕ) : Type 0 where
  pub rows_some : 1 ≤ rows tb a
  pub rows_few : rows tb a ≤ 32
  -- 4 to 6; what rule 7 adds is `Climbing`
  pub rows_pass : (i : ℕ) → i < rows tb a → row_reply_at tb a i ≡ 0
  pub rows_past : Zero tb (row_place a (rows tb a)) (row_place (a + 1) 0)

pub record TableFacts (tb : List ℕ) : Type 0 where
  pub some_agents : 1 ≤ agents tb
  pub few_agents : agents tb ≤ 16
  pub each_agent : (a : ℕ) → a < agents tb → AgentFacts tb a
  pub counts_past : Zero tb (1 + agents tb) 17
  pub registers_past : Zero tb (start_place (agents tb)) 81
  pub agents_past : Zero tb (row_place (agents tb) 0) table_words

-- rule 7, of every row
abbrev pub Climbing : List ℕ → Type 0
Climbing tb = (a i : ℕ) → a < agents tb → i < rows tb a → climbs tb a i ≡ true

-- ---- the facts make a good table

module _ (tb : List ℕ) where
  rows_good_lem : (a : ℕ) → ((i : ℕ) → i < rows tb a → row_reply_at tb a i ≡ 0) → ((i : ℕ) → i < rows tb a → climbs tb a i ≡ true) → good_rows tb a ≡ true
  unfolding good_rows
  rows_good_lem a h k = all_below_lem (rows tb a) (row_passes tb a) (λ i l. and_both _ _ (eq-eqb _ 0 (h i l)) (k i l))

  agent_good : (a : ℕ) → AgentFacts tb a → ((i : ℕ) → i < rows tb a → climbs tb a i ≡ true) → good_agent tb a ≡ true
  unfolding good_agent
  agent_good a f k =
      sym
      (every_go _ _ _ (le-leb _ _ f.rows_some)
      (every_go _ _ _ (le-leb _ _ f.rows_few)
      (every_go _ _ _ (rows_good_lem a f.rows_pass k)
      (every_go _ _ _ (zero_all _ _ _ f.rows_past) every_none))))

  pub table_good : TableFacts tb → Climbing tb → good_table tb ≡ true
  unfolding good_table
  table_good f k =
      sym
      (every_go _ _ _ (le-leb _ _ f.some_agents)
      (every_go _ _ _ (le-leb _ _ f.few_agents)
      (every_go _ _ _ (all_below_lem (agents tb) (good_agent tb) (λ a h. agent_good a (f.each_agent a h) (λ i l. k a i h l)))
      (every_go _ _ _ (zero_all _ _ _ f.counts_past)
      (every_go _ _ _ (zero_all _ _ _ f.registers_past)
      (every_go _ _ _ (zero_all _ _ _ f.agents_past) every_none))))))

  -- ---- a good table has the facts

  module _ (a : ℕ) (good : good_agent tb a ≡ true) where
    row_passed : (i : ℕ) → i < rows tb a → row_passes tb a i ≡ true
    unfolding good_agent good_rows
    row_passed i l = below (rows tb a) (row_passes tb a) (each _ good 2) i l

    agent_facts : AgentFacts tb a
    unfolding good_agent
    agent_facts = record {
      rows_some = leb-true _ _ (each _ good 0);
      rows_few = leb-true _ _ (each _ good 1);
      rows_pass = λ i l. eqb-true _ 0 (and_1 (eqb (row_reply_at tb a i) 0) (climbs tb a i) (row_passed i l));
      rows_past = zero_at _ _ _ (each _ good 3);
    }

    agent_climbs : (i : ℕ) → i < rows tb a → climbs tb a i ≡ true
    agent_climbs i l = and_2 (eqb (row_reply_at tb a i) 0) (climbs tb a i) (row_passed i l)

  pub good_climbs : good_table tb ≡ true → Climbing tb
  unfolding good_table
  good_climbs good a i h l = agent_climbs a (below (agents tb) (good_agent tb) (each _ good 2) a h) i l

  pub table_facts : good_table tb ≡ true → TableFacts tb
  unfolding good_table
  table_facts good = record {
    some_agents = leb-true _ _ (each _ good 0);
    few_agents = leb-true _ _ (each _ good 1);
    each_agent = λ a h. agent_facts a (below (agents tb) (good_agent tb) (each _ good 2) a h);
    counts_past = zero_at _ _ _ (each _ good 3);
    registers_past = zero_at _ _ _ (each _ good 4);
    agents_past = zero_at _ _ _ (each _ good 5);
  }

-- ---- the unused words, whatever the windows

module _ (tb : List ℕ) (f : TableFacts tb) where
  -- 0 in the counts, the registers and the rows past the agents
  pub no_count : (a : ℕ) → agents tb ≤ a → a < 16 → rows tb a ≡ 0
  no_count a h l = f.counts_past (1 + a) (omega arith) (omega arith)

  pub no_register : (a x : ℕ) → agents tb ≤ a → a < 16 → x < 4 → get_or tb (start_place a + x) 0 ≡ 0
  no_register a x h l m = f.registers_past (start_place a + x) (omega arith) (omega arith)

  -- 0 in every row that no agent has: past an agent's count, or past the agents
  pub no_such_row : (a i w : ℕ) → a < 16 → i < 32 → w < 4 → (a < agents tb → rows tb a ≤ i) → get_or tb (row_place a i + w) 0 ≡ 0
  no_such_row a i w l m n past = go (ltb a (agents tb)) refl
    where
      go : (b : Bool) → ltb a (agents tb) ≡ b → get_or tb (row_place a i + w) 0 ≡ 0
      go true e = let h = ltb-true a (agents tb) e in let r = past h in (f.each_agent a h).rows_past (row_place a i + w) (omega arith) (omega arith)
      go false e = let h = ltb-false a (agents tb) e in f.agents_past (row_place a i + w) (omega arith) (omega arith)

-- ---- an accepted table

module _ (tb : List ℕ) (good : good_table tb ≡ true) where
  pub some : 1 ≤ agents tb
  some = (table_facts tb good).some_agents

  pub few : agents tb ≤ 16
  few = (table_facts tb good).few_agents

  module _ (a : ℕ) (h : a < agents tb) where
    agent : AgentFacts tb a
    agent = (table_facts tb good).each_agent a h

    pub some_rows : 1 ≤ rows tb a
    some_rows = agent.rows_some

    pub few_rows : rows tb a ≤ 32
    few_rows = agent.rows_few

    module _ (i : ℕ) (l : i < rows tb a) where
      pub row_passes_lem : row_reply_at tb a i ≡ 0
      row_passes_lem = agent.rows_pass i l

      fits : RowFits (row tb a i) i (rows tb a)
      unfolding row_reply_at
      fits = row_fits (row tb a i) i (rows tb a) row_passes_lem

      pub formed : well_formed (row tb a i) ≡ true
      formed = fits.formed

      pub target : i + 1 + (row tb a i).n ≤ rows tb a
      target = fits.target

      pub window : (row tb a i).early < (row tb a i).late
      window = fits.window

      pub late_bound : (row tb a i).late ≤ 1000000
      late_bound = fits.bound

      -- a row that it can go on to has no earlier window
      pub window_on : (j : ℕ) → OneOf j (goes_on_to (row tb a i) i) → j < rows tb a
          → ((row tb a i).early ≤ (row tb a j).early) × ((row tb a i).late ≤ (row tb a j).late)
      window_on = climbs_on tb a i (good_climbs tb good a i h l)

-- ---- reply 0 of `check`

module _ (tb : List ℕ) where
  pub checked_good : check_reply tb ≡ 0 → (table_words ≤ length tb) × (good_table (take table_words tb) ≡ true)
  unfolding check_reply
  checked_good h =
      let clear = passed _ tt h in
      (ltb-false _ _ (clear 0), not-false _ (clear 1))

  pub good_checked : table_words ≤ length tb → good_table (take table_words tb) ≡ true → check_reply tb ≡ 0
  unfolding check_reply
  good_checked h good = sym (first_skip _ _ _ _ (le-ltb _ _ h) (first_skip _ _ _ _ (not_from_true _ good) first_none))
