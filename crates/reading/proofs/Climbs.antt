-- Reply 7 over the rows of a table, a row and an agent at a time; that it is 0 exactly where every row climbs. Assumes nothing.
use mathlib.Core.Path.{◌≡◌, refl, sym, ap, ◌∙◌}
use mathlib.Core.Bool.{Bool, true, false}
use mathlib.Core.List.{List}
use Prim.Native.Nat.{ℕ, zero, suc, ◌+◌, ◌-◌, ◌≤◌, ◌<◌}
use native.Mathlib.Omega.{arith}
use native.Mathlib.Decide.{ℕ_discrete}
use Rattle.tables.specs.Layout.{agents, rows}
use Rattle.tables.specs.Table.{climbs}
use Rattle.tables.proofs.Good.{Climbing}
use Rattle.reading.specs.Reader.{told, rows_climb, first_told, agents_climb, table_climbs}
use Rattle.reading.specs.declared.Told.{Told}
use Rattle.reading.proofs.Outcomes.{told_then, told_first, told_neither}

module _ (tb : List ℕ) where
  -- ---- a row

  module _ (n a i k : ℕ) where
    row_by : (b : Bool) → climbs tb a i ≡ b → rows_climb tb n a i (suc k) ≡ elim b as (λ _. Told) [ true ↦ rows_climb tb (n + 1) a (i + 1) k | false ↦ told 7 n ]
    unfolding rows_climb
    row_by b h = ap {B = Told} (λ (t : Bool). elim t as (λ _. Told) [ true ↦ rows_climb tb (n + 1) a (i + 1) k | false ↦ told 7 n ]) h

    pub row_on : climbs tb a i ≡ true → rows_climb tb n a i (suc k) ≡ rows_climb tb (n + 1) a (i + 1) k
    row_on h = row_by true h

    pub row_back : climbs tb a i ≡ false → rows_climb tb n a i (suc k) ≡ told 7 n
    row_back h = row_by false h

  -- ---- the c rows of agent a, the first of them in line n: before row i

  module _ (n a c : ℕ) where
    abbrev pub RowsLeft : ℕ → Type 0
    RowsLeft i = rows_climb tb n a 0 c ≡ rows_climb tb (n + i) a i (c - i)

    module _ (i : ℕ) (t : RowsLeft i) (l : i < c) where
      one_more : rows_climb tb n a 0 c ≡ rows_climb tb (n + i) a i (suc (c - (i + 1)))
      one_more = let e : c - i ≡ suc (c - (i + 1)) = omega arith in t ∙ ap (rows_climb tb (n + i) a i) e

      pub next_row : climbs tb a i ≡ true → RowsLeft (i + 1)
      next_row h =
          let e : n + i + 1 ≡ n + (i + 1) = omega arith in
          one_more ∙ row_on (n + i) a i (c - (i + 1)) h ∙ ap (λ (m : ℕ). rows_climb tb m a (i + 1) (c - (i + 1))) e

      pub goes_back : climbs tb a i ≡ false → told 7 (n + i) ≡ rows_climb tb n a 0 c
      goes_back h = sym (one_more ∙ row_back (n + i) a i (c - (i + 1)) h)

    pub no_row : (i : ℕ) → RowsLeft i → c ≤ i → told 0 0 ≡ rows_climb tb n a 0 c
    unfolding rows_climb
    no_row i t h = let e : c - i ≡ 0 = omega arith in sym (t ∙ ap (rows_climb tb (n + i) a i) e)

  -- ---- all agents, the first of which line m opens: before agent a, which line n opens

  module _ (m : ℕ) where
    abbrev pub AgentsLeft : (n a : ℕ) → Type 0
    AgentsLeft n a = table_climbs tb m ≡ agents_climb tb n a (agents tb - a)

    pub first_agent : AgentsLeft m 0
    unfolding table_climbs
    first_agent = let e : agents tb ≡ agents tb - 0 = omega arith in ap (agents_climb tb m 0) e

    -- q is told of its c rows
    module _ (n a c : ℕ) (t : AgentsLeft n a) (l : a < agents tb) (count : c ≡ rows tb a) (q : Told) (its : q ≡ rows_climb tb (n + 1) a 0 c) where
      abbrev rest : Told
      rest = agents_climb tb (n + (1 + c)) (a + 1) (agents tb - (a + 1))

      agent_first : table_climbs tb m ≡ first_told q rest
      unfolding agents_climb
      agent_first =
          let e : agents tb - a ≡ suc (agents tb - (a + 1)) = omega arith in
          t ∙ ap (agents_climb tb n a) e ∙ rw (its, count)

      pub next_agent : q.reply ≡ 0 → AgentsLeft (n + (1 + c)) (a + 1)
      next_agent h = agent_first ∙ told_then q rest h

      pub agent_back : (q.reply ≡ 0 → ⊥) → q ≡ table_climbs tb m
      agent_back k = sym (agent_first ∙ told_first q rest k)

    pub no_agent_lem : (n a : ℕ) → AgentsLeft n a → agents tb ≤ a → told 0 0 ≡ table_climbs tb m
    unfolding agents_climb
    no_agent_lem n a t h = let e : agents tb - a ≡ 0 = omega arith in sym (t ∙ ap (agents_climb tb n a) e)

  -- ---- 0 exactly where every row climbs

  rows_on : (k n a i : ℕ) → (rows_climb tb n a i k).reply ≡ 0 → (j : ℕ) → i ≤ j → j < i + k → climbs tb a j ≡ true
  rows_on zero n a i z j h l = absurd (omega arith)
  rows_on (suc k) n a i z j h l = go (climbs tb a i) refl (ℕ_discrete j i) (λ y. rows_on k (n + 1) a (i + 1) y j)
    where
      go : (b : Bool) → climbs tb a i ≡ b → Dec (j ≡ i) → ((rows_climb tb (n + 1) a (i + 1) k).reply ≡ 0 → i + 1 ≤ j → j < i + 1 + k → climbs tb a j ≡ true)
          → climbs tb a j ≡ true
      go true c (yes e) rec = ap (climbs tb a) e ∙ c
      go true c (no d) rec = rec (ap (λ (u : Told). u.reply) (sym (row_on n a i k c)) ∙ z) (omega (arith, d)) (omega arith)
      go false c d rec = let y = ap (λ (u : Told). u.reply) (sym (row_back n a i k c)) ∙ z in absurd (omega arith)

  agents_on : (m n a : ℕ) → (agents_climb tb n a m).reply ≡ 0 → (b i : ℕ) → a ≤ b → b < a + m → i < rows tb b → climbs tb b i ≡ true
  unfolding agents_climb
  agents_on zero n a z b i h l r = absurd (omega arith)
  agents_on (suc m) n a z b i h l r =
      let (x, y) = told_neither (rows_climb tb (n + 1) a 0 (rows tb a)) (agents_climb tb (n + (1 + rows tb a)) (a + 1) m) z in
      go (ℕ_discrete b a) x (agents_on m (n + (1 + rows tb a)) (a + 1) y b i)
    where
      go : Dec (b ≡ a) → (rows_climb tb (n + 1) a 0 (rows tb a)).reply ≡ 0 → (a + 1 ≤ b → b < a + 1 + m → i < rows tb b → climbs tb b i ≡ true) → climbs tb b i ≡ true
      go (yes e) x rec =
          let c : rows tb b ≡ rows tb a = ap (rows tb) e in
          ap (λ (d : ℕ). climbs tb d i) e ∙ rows_on (rows tb a) (n + 1) a 0 x i (omega arith) (omega arith)
      go (no d) x rec = rec (omega (arith, d)) (omega arith) r

  pub told_climbing : (n : ℕ) → (table_climbs tb n).reply ≡ 0 → Climbing tb
  unfolding table_climbs
  told_climbing n z a i h l = agents_on (agents tb) n 0 z a i (omega arith) (omega arith) l

  rows_all : (k n a i : ℕ) → ((j : ℕ) → j < i + k → climbs tb a j ≡ true) → rows_climb tb n a i k ≡ told 0 0
  unfolding rows_climb
  rows_all zero n a i c = refl
  rows_all (suc k) n a i c = row_on n a i k (c i (omega arith)) ∙ rows_all k (n + 1) a (i + 1) (λ j l. c j (omega arith))

  agents_all : (m n a : ℕ) → a + m ≡ agents tb → Climbing tb → agents_climb tb n a m ≡ told 0 0
  unfolding agents_climb
  agents_all zero n a e c = refl
  agents_all (suc m) n a e c =
      let r = rows_all (rows tb a) (n + 1) a 0 (λ i l. c a i (omega arith) (omega arith)) in
      told_then _ _ (ap (λ (u : Told). u.reply) r) ∙ agents_all m (n + (1 + rows tb a)) (a + 1) (omega arith) c

  pub climbing_told : (n : ℕ) → Climbing tb → table_climbs tb n ≡ told 0 0
  unfolding table_climbs
  climbing_told n c = agents_all (agents tb) n 0 (omega arith) c
