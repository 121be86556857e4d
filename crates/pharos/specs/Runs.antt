-- The theorems about every abstract model, each as a statement: it holds for every value of its parameters. proofs/ proves each under its
-- own name, in small letters, in the file named above it.
use Rattle.std.specs.Prelude.{◌≡◌, true, false, List, map, reverse, ℕ, zero, suc, max, ◌+◌, ◌≤◌, ◌<◌}
use Rattle.pharos.specs.Prefix.{Comparable, OneBegins}
use Rattle.pharos.specs.Model.{Model, System, slices, Live, Good, stepped, Run, start, ◌▸◌, trace}

-- The sum of f over the numbers below n.
unfoldable pub total : (ℕ → ℕ) → ℕ → ℕ
total f zero = 0
total f (suc n) = f n + total f n

module _ {M : Model} where
  open M use {State, agents, ended, early, late}

  -- The states that agent b has been in, the oldest first [filter(history, b)].
  abbrev pub course : {g h : System M} → Run g h → ℕ → List State
  course r b = reverse (map (λ x. x.state) (trace r b))

  -- How many steps a run has.
  abbrev pub steps : {g h : System M} → Run g h → ℕ
  steps start = 0
  steps (r ▸ ok) = suc (steps r)

  abbrev pub Ended : System M → Type 0
  Ended g = (b : ℕ) → b < agents → ended b (g.agent b).state ≡ true

  -- The clock has passed no window.
  abbrev pub Ready : System M → Type 0
  Ready g = (b : ℕ) → b < agents → Live b (g.agent b) → g.clock ≤ late b (g.agent b).state

  -- The earliest time at which an agent could step.
  abbrev pub soonest : System M → ℕ → ℕ
  soonest g a = max g.clock (early a (g.agent a).state)

  -- What is left to do, if `left` says it of each agent.
  abbrev pub work : (left : ℕ → State → ℕ) → System M → ℕ
  work left g = total (λ b. left b (g.agent b).state) agents

module _ (M : Model) where
  open M use {State, Slice, agents, ended, early, late, seen, next}

  -- ---- determinacy [Determinacy]

  -- 1. What an agent does is settled by where it stands and what it sees.
  abbrev pub LocalDeterminacy : Type 0
  LocalDeterminacy = (g h : System M) (a : ℕ) → g.agent a ≡ h.agent a → a < agents → Live a (g.agent a)
      → ((b : ℕ) → seen a (g.agent a).state b (slices g b) ≡ seen a (g.agent a).state b (slices h b))
      → stepped g a ≡ stepped h a

  -- 2. Of two runs from one state, each agent's trace in one begins its trace in the other; and so do its states.
  abbrev pub DeterminacyOfTraces : (g h f : System M) → Type 0
  DeterminacyOfTraces g h f = (r : Run g h) (q : Run g f) (b : ℕ) → Comparable (trace r b) (trace q b)

  abbrev pub DeterminacyOfCourses : (g h f : System M) → Type 0
  DeterminacyOfCourses g h f = (r : Run g h) (q : Run g f) (b : ℕ) → OneBegins (course r b) (course q b)

  -- What an agent that may step sees does not depend on the order of the steps before.
  abbrev pub SameViews : (g h f : System M) (a t v : ℕ) → Type 0
  SameViews g h f a t v = (r : Run g h) (q : Run g f) → Good h a t → Good f a v → trace r a ≡ trace q a
      → (c : ℕ) → seen a (h.agent a).state c (slices h c) ≡ seen a (h.agent a).state c (slices f c)

  -- 3. Two runs from one state that end every agent leave all agents in the same states, with the same slices;
  abbrev pub RunsEndAlike : (g h f : System M) → Type 0
  RunsEndAlike g h f = Run g h → Run g f → Ended h → Ended f → h.agent ≡ f.agent

  -- and have the same traces: whatever is counted over the steps agrees.
  abbrev pub SameTraces : (g h f : System M) → Type 0
  SameTraces g h f = (r : Run g h) (q : Run g f) → Ended h → Ended f → (b : ℕ) → trace r b ≡ trace q b

  -- ---- progress [Progress]

  -- Windows are not empty.
  abbrev pub Windows : Type 0
  Windows = (a : ℕ) (s : State) → a < agents → ended a s ≡ false → early a s ≤ late a s

  -- 4. While the clock has passed no window, an unfinished agent of least late may step,
  abbrev pub LeastMay : Type 0
  LeastMay = (g : System M) → Ready g → Windows → (a : ℕ) → a < agents → Live a (g.agent a)
      → ((b : ℕ) → b < agents → Live b (g.agent b) → late a (g.agent a).state ≤ late b (g.agent b).state)
      → Good g a (soonest g a)

  -- so some agent may, if any is unfinished.
  abbrev pub Progress : Type 0
  Progress = (g : System M) → Ready g → Windows → (b : ℕ) → b < agents → Live b (g.agent b) → (a : ℕ) × (t : ℕ) × Good g a t

  -- Once agent `a` may step, no agent comes to a window that closes before that of `a` opens.
  abbrev pub NoneToCome : (g h : System M) (a t : ℕ) → Type 0
  NoneToCome g h a t = Good g a t → Run g h → (b : ℕ) → b < agents → Live b (h.agent b) → early a (g.agent a).state ≤ late b (h.agent b).state

  -- ---- completion [Completion]

  -- Each step brings its agent nearer to its end.
  abbrev pub Nearer : (left : ℕ → State → ℕ) → Type 0
  Nearer left = (a : ℕ) (s : State) → a < agents → ended a s ≡ false → (p : ℕ → Slice) → left a (next a s p) < left a s

  -- 5. No run has more steps than the work that is left at its start.
  abbrev pub Bounded : (left : ℕ → State → ℕ) (g h : System M) → Type 0
  Bounded left g h = Nearer left → (r : Run g h) → steps r + work left h ≤ work left g

  -- 6. A run from a ready system that cannot go on has ended every agent.
  abbrev pub StopsEnded : (g h : System M) → Type 0
  StopsEnded g h = Windows → Run g h → Ready g → ((a t : ℕ) → Good h a t → ⊥) → Ended h

  -- 7. A ready system has a run that ends every agent; by 3, all its runs that do so end alike.
  abbrev pub Completion : (left : ℕ → State → ℕ) → Type 0
  Completion left = Nearer left → Windows → (g : System M) → Ready g → (h : System M) × Run g h × Ended h
