-- Determinacy: what each agent does, and what it has sent, does not depend on the order and the times of the steps.
use mathlib.Core.Path.{◌≡◌, refl, ap, sym, subst, ◌∙◌, fun_ext}
use mathlib.Core.Bool.{true, false, true≢false}
use mathlib.Core.List.{List, [], ◌∷◌, ◌++◌, map, reverse, reverse-cons}
use mathlib.Core.Logic.{inl, inr, ⊎_elim, ⊎_map, ite, by_cases}
use Prim.Native.Nat.{ℕ, ◌≤◌, ◌<◌}
use native.Mathlib.Decide.{ℕ_discrete, dec_lt}
use native.Mathlib.Omega.{arith}
use Rattle.pharos.specs.Prefix.{◌⊑◌, same, more, Comparable}
use Rattle.pharos.specs.Model.{Model, Agent, System, slices, Live, Good, stepped, step, Run, start, ◌▸◌, past, trace}
use Rattle.pharos.specs.Runs.{course, LocalDeterminacy, DeterminacyOfTraces, SameViews, DeterminacyOfCourses, RunsEndAlike, SameTraces}
use Rattle.pharos.proofs.Tail.{split, top, not_below, both, prefix, map_⊑}

module _ {M : Model} where
  open M use {agents, ended, early, late, seen, sees, forward, keeps}

  pub local_determinacy : LocalDeterminacy M
  local_determinacy g h a e real live views = cc (sees a (g.agent a).state real live (slices g) (slices h) views)

  -- A step is the agent `b`'s own, or leaves it as it was.
  pub by_step : {g h : System M} {a t : ℕ} (r : Run g h) (ok : Good h a t) (b : ℕ) (Q : Agent M → List (Agent M) → Type 0)
      → (Good h b t → Q (stepped h b) (trace r b)) → Q (h.agent b) (past r b)
      → Q ((step h a t).agent b) (past (r ▸ ok) b)
  by_step {h = h} {a} {t} r ok b Q mine not = go (ℕ_discrete a b)
    where
      go : (d : Dec (a ≡ b)) → Q (ite d (stepped h b) (h.agent b)) (ite d (trace r b) (past r b))
      go (yes e) = mine (subst (λ c. Good h c t) e ok)
      go (no _) = not

  -- What holds of an agent at some point of its trace, and outlives its steps up to the time `T`, holds of it at the end.
  module _ (b T : ℕ) (P : Agent M → Type 0)
      (keep : (g : System M) (t : ℕ) → Good g b t → t ≤ T → P (g.agent b) → P (stepped g b)) where
    onward : {g h : System M} {x : Agent M} {k : List (Agent M)} (r : Run g h) → h.clock ≤ T
        → x ∷ k ⊑ trace r b → P x → P (h.agent b)
    onward start l p px = ⊎_elim (λ e. subst P e px) (λ q. absurd (not_below q)) (top p)
    onward {x = x} {k} (◌▸◌ {h} {a} {t} r ok) l p px =
        by_step r ok b (λ y ys. x ∷ k ⊑ y ∷ ys → P y)
        (λ good q. ⊎_elim (λ e. subst P e px) (λ q. keep h t good l (onward r (omega arith) q px)) (top q))
        (λ q. onward r (omega arith) q px) p

  -- What `f` shows `s` of `c` is what `h` shows of it, if `c` went on from `h` to `f` in windows that meet that of `s`.
  quiet : {g h f : System M} (a : ℕ) (s : Model.State M) (c t : ℕ) (r : Run g h) (q : Run g f) → a < agents → ended a s ≡ false
      → trace r c ⊑ trace q c
      → (c < agents → Live c (h.agent c) → t ≤ late c (h.agent c).state) → early a s ≤ t → f.clock ≤ late a s
      → seen a s c (slices h c) ≡ seen a s c (slices f c)
  quiet {h = h} a s c t r q real alive p fits e l = (onward c (late a s) P keep q l p (refl, fits)).0
    where
      P : Agent M → Type 0
      P y = (seen a s c (slices h c) ≡ seen a s c y.sent) × (c < agents → Live c y → t ≤ late c y.state)

      keep : (g : System M) (t : ℕ) → Good g c t → t ≤ late a s → P (g.agent c) → P (stepped g c)
      keep g _ ok l (same_view, bound) =
          let u = (g.agent c).state in
          let b = bound ok.real ok.live in (
            same_view ∙ sym (keeps a s real alive c u ok.real ok.live (slices g c) (omega arith) (omega arith)),
            λ _ live. omega (arith, forward c u ok.real ok.live (slices g) live),
          )

  -- Agents that both may step, and that have the same trace, see the same if all traces are comparable; so they step alike.
  views_alike : {g h f : System M} {a t v : ℕ} (r : Run g h) (q : Run g f) → Good h a t → Good f a v
      → ((b : ℕ) → Comparable (trace r b) (trace q b)) → trace r a ≡ trace q a
      → (c : ℕ) → seen a (h.agent a).state c (slices h c) ≡ seen a (h.agent a).state c (slices f c)
  views_alike {h = h} {f} {a} {t} {v} r q ok ok' compared e c =
      let s = (h.agent a).state in
      let here : h.agent a ≡ f.agent a = cc in
      let same-early = ap (λ x. early a x.state) here in
      let same-late = ap (λ x. late a x.state) here in
      let in_time = ok.fits a ok.real ok.live in
      let in-time' = ok'.fits a ok'.real ok'.live in
      ⊎_elim (λ p. quiet a s c t r q ok.real ok.live p (ok.fits c) ok.begun (omega arith))
      (λ p. sym (quiet a s c v q r ok.real ok.live p (ok'.fits c) (omega arith) (omega arith)))
      (compared c)

  alike : {g h f : System M} {a t v : ℕ} (r : Run g h) (q : Run g f) → Good h a t → Good f a v
      → ((b : ℕ) → Comparable (trace r b) (trace q b)) → trace r a ≡ trace q a → stepped h a ≡ stepped f a
  alike {h = h} {f} {a} r q ok ok' compared e =
      let here : h.agent a ≡ f.agent a = cc in
      local_determinacy h f a here ok.real ok.live (views_alike r q ok ok' compared e)

  begins : {g h : System M} (r : Run g h) (b : ℕ) → g.agent b ∷ [] ⊑ trace r b
  begins start b = same
  begins {g} (r ▸ ok) b = by_step r ok b (λ y ys. g.agent b ∷ [] ⊑ y ∷ ys) (λ _. more (begins r b)) (begins r b)

  -- If a run has comparable traces with every other, so has that run with one step more.
  module _ {g h : System M} {a t : ℕ} (r : Run g h) (ok : Good h a t)
      (compared : (f : System M) (q : Run g f) (b : ℕ) → Comparable (trace r b) (trace q b)) where
    one_more : {f : System M} (q : Run g f) (b : ℕ) → Comparable (trace (r ▸ ok) b) (trace q b)
    one_more start b = inr (begins (r ▸ ok) b)
    one_more (q ▸ ok') b =
        by_step r ok b (λ x xs. Comparable (x ∷ xs) (trace q b) → Comparable (x ∷ xs) (trace (q ▸ ok') b))
        (λ mine c. by_step q ok' b (λ y ys. Comparable (trace r b) (y ∷ ys) → Comparable (stepped h b ∷ trace r b) (y ∷ ys))
        (λ mine' d. both (alike r q mine mine' (compared _ q)) d c)
        (λ _. c)
        (compared _ (q ▸ ok') b))
        (λ _. compared _ (q ▸ ok') b)
        (one_more q b)

  pub determinacy_of_traces : {g h f : System M} → DeterminacyOfTraces M g h f
  determinacy_of_traces start q b = inl (begins q b)
  determinacy_of_traces (r ▸ ok) q b = one_more r ok (λ _ p c. determinacy_of_traces r p c) q b

  pub same_views : {g h f : System M} {a t v : ℕ} → SameViews M g h f a t v
  same_views r q ok ok' e = views_alike r q ok ok' (determinacy_of_traces r q) e

  -- A step adds to the course of its own agent.
  pub course_step : {g h : System M} {a t : ℕ} (r : Run g h) (ok : Good h a t) (b : ℕ)
      → course (r ▸ ok) b ≡ ite (ℕ_discrete a b) (course r b ++ (((step h a t).agent b).state ∷ [])) (course r b)
  course_step {h = h} {a} r ok b = go (ℕ_discrete a b)
    where
      go : (d : Dec (a ≡ b))
          → reverse (map (λ x. x.state) (ite d (stepped h b) (h.agent b) ∷ ite d (trace r b) (past r b)))
          ≡ ite d (course r b ++ ((ite d (stepped h b) (h.agent b)).state ∷ [])) (course r b)
      go (yes e) = reverse-cons (stepped h b).state (map (λ x. x.state) (trace r b))
      go (no n) = refl

  pub determinacy_of_courses : {g h f : System M} → DeterminacyOfCourses M g h f
  determinacy_of_courses r q b = ⊎_map (λ p. prefix (map_⊑ _ p)) (λ p. prefix (map_⊑ _ p)) (determinacy_of_traces r q b)

  -- An agent that has ended makes no step more, and there are no agents past the last.
  module _ {g h f : System M} (r : Run g h) (q : Run g f) (b : ℕ) where
    stays : trace r b ⊑ trace q b → ended b (h.agent b).state ≡ true → h.agent b ≡ f.agent b
    stays p end = onward b f.clock (λ y. h.agent b ≡ y) (λ g t ok _ e. let l = ok.live in cc) q (omega arith) p refl

  idle : {g h : System M} (r : Run g h) (b : ℕ) → agents ≤ b → g.agent b ≡ h.agent b
  idle {g} {h} r b past-last =
      onward b h.clock (λ y. g.agent b ≡ y) (λ g t ok _ e. absurd (omega arith)) r (omega arith) (begins r b) refl

  pub runs_end_alike : {g h f : System M} → RunsEndAlike M g h f
  runs_end_alike {h = h} {f} r q end end' = fun_ext λ b. by_cases (dec_lt b agents)
      (λ l. ⊎_elim (λ p. stays r q b p (end b l)) (λ p. sym (stays q r b p (end' b l))) (determinacy_of_traces r q b))
      (λ l. sym (idle r b (omega arith)) ∙ idle q b (omega arith))

  -- An agent that has ended has made all its steps.
  module _ (b : ℕ) (x : Agent M) (k : List (Agent M)) (end : ended b x.state ≡ true) where
    grown : {g f : System M} (q : Run g f) → x ∷ k ⊑ trace q b → x ∷ k ≡ trace q b
    grown start p = ⊎_elim (λ e. e) (λ n. absurd (not_below n)) (split p)
    grown (◌▸◌ {h} q ok) p =
        by_step q ok b (λ y ys. x ∷ k ⊑ y ∷ ys → x ∷ k ≡ y ∷ ys)
        (λ mine p. ⊎_elim (λ e. e) (λ p. absurd (let e = grown q p in let l = mine.live in
        let here : x ≡ h.agent b = cc in true≢false (sym end ∙ ap (λ y. ended b y.state) here ∙ l))) (split p))
        (λ p. grown q p) p

  alone : {g h : System M} (r : Run g h) (b : ℕ) → agents ≤ b → trace r b ≡ g.agent b ∷ []
  alone start b l = refl
  alone {g} (r ▸ ok) b l = by_step r ok b (λ y ys. y ∷ ys ≡ g.agent b ∷ []) (λ mine. absurd (omega (arith, mine.real))) (alone r b l)

  pub same_traces : {g h f : System M} → SameTraces M g h f
  same_traces r q end end' b = by_cases (dec_lt b agents)
      (λ l. ⊎_elim (λ p. grown b _ _ (end b l) q p) (λ p. sym (grown b _ _ (end' b l) r p)) (determinacy_of_traces r q b))
      (λ l. alone r b (omega arith) ∙ sym (alone q b (omega arith)))
