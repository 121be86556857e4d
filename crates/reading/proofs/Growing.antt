-- The words of a table while a text is taken in: what holds of them after each line. Assumes nothing.
use mathlib.Core.Path.{◌≡◌, refl, ap, ◌∙◌}
use mathlib.Core.List.{List}
use Prim.Native.Nat.{ℕ, ◌+◌, ◌≤◌, ◌<◌}
use native.Mathlib.Omega.{arith}
use lib.ListN.{length, get_or, set, length-set}
use borrow.Author.Count.{below_more}
use Rattle.tables.specs.Layout.{count_place, rows, row, row_place, start_place, table_words}
use Rattle.tables.specs.Rows.{row_reply}
use Rattle.tables.specs.Table.{row_reply_at}
use Rattle.tables.specs.Layout.{row_in}
use Rattle.tables.specs.declared.Row.{Row}
use Rattle.tables.proofs.Good.{Zero, AgentFacts, TableFacts}
use Rattle.tables.proofs.Stored.{sets_in}
use Rattle.reading.proofs.Stores.{with_opened, opened_below, opened_above, with_given, given_below, given_above, Now, now_opened, now_given}

-- the reply of row j of agent a, where its agent has c rows
abbrev reply_in : List ℕ → ℕ → ℕ → ℕ → ℕ
reply_in tb a c j = row_reply (row tb a j) j c

-- ---- two tables that agree on the first m rows of an agent

module _ (tb other : List ℕ) (a m : ℕ) (same : (k : ℕ) → row_place a 0 ≤ k → k < row_place a m → get_or other k 0 ≡ get_or tb k 0) where
  row_same : (i : ℕ) → i < m → row other a i ≡ row tb a i
  row_same i h =
      rw (
        same (row_place a i) (omega arith) (omega arith),
        same (row_place a i + 1) (omega arith) (omega arith),
        same (row_place a i + 2) (omega arith) (omega arith),
        same (row_place a i + 3) (omega arith) (omega arith),
      )

  reply_same : (c i : ℕ) → i < m → reply_in other a c i ≡ reply_in tb a c i
  reply_same c i h = ap (λ (r : Row). row_reply r i c) (row_same i h)

agent_same : (tb other : List ℕ) (a : ℕ) → rows other a ≡ rows tb a → ((k : ℕ) → row_place a 0 ≤ k → k < row_place a 32 → get_or other k 0 ≡ get_or tb k 0)
    → AgentFacts tb a → AgentFacts other a
unfolding row_reply_at
agent_same tb other a n same f =
    let some = f.rows_some in
    let few = f.rows_few in
    record {
      rows_some = omega arith;
      rows_few = omega arith;
      rows_pass =
          λ i l.
          reply_same tb other a 32 same (rows other a) i (omega arith) ∙ ap (λ (c : ℕ). reply_in tb a c i) n ∙ f.rows_pass i (omega arith);
      rows_past = λ k h l. same k (omega arith) (omega arith) ∙ f.rows_past k (omega arith) l;
    }

-- ---- the words while a text is taken in

-- a agents are there, each with all its rows
pub record Closed (tb : List ℕ) (a : ℕ) : Type 0 where
  pub words : length tb ≡ table_words
  pub done : (b : ℕ) → b < a → AgentFacts tb b
  pub counts_past : Zero tb (count_place a) 17
  pub registers_past : Zero tb (start_place a) 81
  pub rows_past : Zero tb (row_place a 0) table_words

-- agent b is open, with i of its c rows so far
pub record Open (tb : List ℕ) (b i c : ℕ) : Type 0 where
  pub now : Now tb b i
  pub done : (a : ℕ) → a < b → AgentFacts tb a
  pub pass : (j : ℕ) → j < i → reply_in tb b c j ≡ 0
  pub registers_past : Zero tb (start_place (b + 1)) 81
  pub rows_past : Zero tb (row_place b i) table_words

-- an agent is opened
module _ (tb : List ℕ) (b : ℕ) (ws : List ℕ) (t : Closed tb b) (room : b < 16) (four : length ws ≡ 4) where
  pub opened : (c : ℕ) → Open (with_opened tb b ws) b 0 c
  opened c = record {
    now = now_opened tb b ws t.words room t.counts_past;
    done =
        λ a h.
        agent_same tb (with_opened tb b ws) a (opened_below tb b ws (count_place a) (omega arith) (omega arith)) (λ k g l. opened_above tb b ws k (omega arith)) (t.done a h);
    pass = λ j h. absurd (omega arith);
    registers_past = λ k h l. opened_above tb b ws k (omega arith) ∙ t.registers_past k (omega arith) l;
    rows_past = λ k h l. opened_above tb b ws k (omega arith) ∙ t.rows_past k h l;
  }

-- a row is given
module _ (tb : List ℕ) (b i c : ℕ) (ws : List ℕ) (t : Open tb b i c) (room : b < 16) (below : i < 32) (four : length ws ≡ 4) where
  abbrev after : List ℕ
  after = with_given tb b i ws

  fits : row_place b i + length ws ≤ length (set tb (count_place b) (i + 1))
  fits = let n = length-set tb (count_place b) (i + 1) in omega (arith, t.now.words)

  rows_kept : (a : ℕ) (k : ℕ) → row_place a 0 ≤ k → k < row_place b i → get_or after k 0 ≡ get_or tb k 0
  rows_kept a k g h = given_below tb b i ws k (λ q. omega arith) h

  new_row : row after b i ≡ row_in ws
  new_row =
      let at : (j k : ℕ) → k ≡ row_place b i + j → j < 4 → get_or after k 0 ≡ get_or ws j 0
      = λ j k q h. sets_in (set tb (count_place b) (i + 1)) (row_place b i) ws j k q (omega arith) fits in
      rw (
        at 0 (row_place b i) (omega arith) (omega arith),
        at 1 (row_place b i + 1) refl (omega arith),
        at 2 (row_place b i + 2) refl (omega arith),
        at 3 (row_place b i + 3) refl (omega arith),
      )

  pub given : row_reply (row_in ws) i c ≡ 0 → Open after b (i + 1) c
  given passes = record {
    now = now_given tb b i ws t.now room;
    done =
        λ a h.
        agent_same tb after a (given_below tb b i ws (count_place a) (λ q. omega arith) (omega arith)) (λ k g m. rows_kept a k g (omega arith)) (t.done a h);
    pass =
        below_more
        (λ (j : ℕ). reply_in after b c j ≡ 0)
        i
        (λ j h. reply_same tb after b i (rows_kept b) c j h ∙ t.pass j h)
        (ap (λ (r : Row). row_reply r i c) new_row ∙ passes);
    registers_past = λ k h m. given_below tb b i ws k (λ q. omega arith) (omega arith) ∙ t.registers_past k h m;
    rows_past = λ k h m. given_above tb b i ws room k (omega arith) ∙ t.rows_past k (omega arith) m;
  }

-- an agent has all its rows
module _ (tb : List ℕ) (b i c : ℕ) (t : Open tb b i c) (room : b < 16) (some : 0 < i) (few : i ≤ 32) (all : i ≡ c) where
  last_agent : AgentFacts tb b
  unfolding row_reply_at
  last_agent =
      let n = t.now.rows_now in
      record {
        rows_some = omega arith;
        rows_few = omega arith;
        rows_pass = λ j h. ap (λ (k : ℕ). reply_in tb b k j) (n ∙ all) ∙ t.pass j (omega arith);
        rows_past = λ k h m. t.rows_past k (omega arith) (omega arith);
      }

  pub closed : Closed tb (b + 1)
  closed = record {
    words = t.now.words;
    done = below_more (AgentFacts tb) b t.done last_agent;
    counts_past = λ k h m. t.now.counts_past k (omega arith) m;
    registers_past = t.registers_past;
    rows_past = λ k h m. t.rows_past k (omega arith) m;
  }

  pub all_facts : TableFacts tb
  all_facts =
      let n = t.now.count in
      let d = closed in
      record {
        some_agents = omega arith;
        few_agents = omega arith;
        each_agent = λ a h. d.done a (omega arith);
        counts_past = λ k h m. d.counts_past k (omega arith) m;
        registers_past = λ k h m. d.registers_past k (omega arith) m;
        agents_past = λ k h m. d.rows_past k (omega arith) m;
      }
