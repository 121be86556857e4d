-- Determinacy of the published model: a corollary, since its steps are the abstract model's.
use mathlib.Core.Path.{◌≡◌, refl, ap, sym, subst, subst₂, ◌∙◌, fun_ext}
use mathlib.Core.List.{List, [], ◌∷◌, ◌++◌, map, reverse}
use mathlib.Core.Logic.{ite}
use Prim.Native.Nat.{ℕ}
use native.Mathlib.Decide.{ℕ_discrete}
use Rattle.pharos.specs.Published.{Types, SystemState, Assumptions, Behaviour, no_steps, append, filter}
use Rattle.pharos.specs.Prefix.{OneBegins}
use Rattle.pharos.specs.Theorems.{Determinacy, BehavioursEndAlike, SameCourses}
use Rattle.pharos.specs.Model.{Agent, System, Good, step, Run, start, ◌▸◌}
use Rattle.pharos.specs.Runs.{course, Ended}
use Rattle.pharos.proofs.Determinacy.{course_step, determinacy_of_courses, runs_end_alike, same_traces}
use Rattle.pharos.proofs.Instance.{model, system, executes_is_step}

module _ (T : Types) (ok : Assumptions T) where
  -- A behaviour as a run of the abstract model: it comes to the same, through the same states.
  record Abstract {g h : SystemState T} (r : Behaviour T g h) : Type 0 where
    end : System (model T ok)
    run : Run (system T ok g) end
    here : system T ok h ≡ end
    passed : (b : ℕ) → filter T r b ≡ course run b

  abstracted : {g h : SystemState T} (r : Behaviour T g h) → Abstract r
  abstracted {g} no_steps = record { end = system T ok g; run = start; here = refl; passed = λ b. refl }
  abstracted (append {h} {f} {a} r e) =
      let x = abstracted r in
      let (may, lands) = executes_is_step T ok e in
      let good = subst (λ s. Good s a f.t) x.here may in
      let there : system T ok f ≡ step x.end a f.t = lands ∙ ap (λ s. step s a f.t) x.here in
      record {
        end = step x.end a f.t;
        run = x.run ▸ good;
        here = there;
        passed = λ b. ap (λ l. ite (ℕ_discrete a b) (l ++ (f.st b ∷ [])) l) (x.passed b)
            ∙ ap (λ (s : System (model T ok)). ite (ℕ_discrete a b) (course x.run b ++ ((s.agent b).state ∷ [])) (course x.run b)) there
            ∙ sym (course_step x.run good b);
      }

module _ (T : Types) where
  pub determinacy : {g h f : SystemState T} → Determinacy T g h f
  determinacy ok r q b =
      let x = abstracted T ok r in
      let y = abstracted T ok q in
      subst₂ OneBegins (sym (x.passed b)) (sym (y.passed b)) (determinacy_of_courses x.run y.run b)

  pub behaviours_end_alike : {g h f : SystemState T} → BehavioursEndAlike T g h f
  behaviours_end_alike {h = h} {f} ok r q end end' =
      let x = abstracted T ok r in
      let y = abstracted T ok q in
      let agents_same : (system T ok h).agent ≡ (system T ok f).agent =
      ap (λ (g : System (model T ok)). g.agent) x.here
      ∙ runs_end_alike x.run y.run (subst (λ g. Ended g) x.here end) (subst (λ g. Ended g) y.here end')
      ∙ sym (ap (λ (g : System (model T ok)). g.agent) y.here) in (
        fun_ext λ b. ap (λ (x : ℕ → Agent (model T ok)). (x b).state) agents_same,
        fun_ext λ b. ap (λ (x : ℕ → Agent (model T ok)). (x b).sent) agents_same,
      )

  pub same_courses : {g h f : SystemState T} → SameCourses T g h f
  same_courses ok r q end end' b =
      let x = abstracted T ok r in
      let y = abstracted T ok q in
      x.passed b
      ∙ ap (λ (l : List (Agent (model T ok))). reverse (map (λ x. x.state) l)) (same_traces x.run y.run (subst (λ g. Ended g) x.here end) (subst (λ g. Ended g) y.here end') b)
      ∙ sym (y.passed b)
