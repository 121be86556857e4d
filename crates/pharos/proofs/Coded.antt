-- Words that stand for systems: the choices that are accepted make a run.
use mathlib.Core.Path.{◌≡◌, refl, ap, sym, subst, subst₂, ◌∙◌}
use mathlib.Core.Bool.{Bool, true, false, true≢false}
use mathlib.Core.List.{List, [], ◌∷◌, ◌++◌, append-nil, append_assoc}
use mathlib.Core.Logic.{ite}
use Prim.Native.Nat.{ℕ}
use native.Mathlib.Decide.{ℕ_discrete}
use Rattle.pharos.specs.Prefix.{OneBegins}
use Rattle.pharos.specs.Model.{Model, System, Good, step, Run, start, ◌▸◌}
use Rattle.pharos.specs.Runs.{course, Ended}
use Rattle.pharos.specs.Coded.{Coded, at, walk, comes, whole, DeterminacyOfWords, WordsEndAlike, Cut}
use Rattle.pharos.proofs.Determinacy.{course_step, determinacy_of_courses, runs_end_alike}

module _ {M : Model} (C : Coded M) where
  open C use {Words, Fit, system, accepts, move, good, moves, stays}

  pub record Walked {g h : System M} (r : Run g h) (w : Words) (cs : List (ℕ × ℕ)) : Type 0 where
    pub end : System M
    pub run : Run g end
    pub here : system (walk C w cs) ≡ end
    pub passed : (b : ℕ) → course run b ≡ course r b ++ comes C w cs b

  one_step : {g h : System M} {a t : ℕ} (r : Run g h) (ok : Good h a t) (b : ℕ) (w : Words) (z : List (Model.State M)) → system w ≡ step h a t
      → course (r ▸ ok) b ++ z ≡ course r b ++ ite (ℕ_discrete a b) (at C w b ∷ z) z
  one_step {h = h} {a} {t} r ok b w z e =
      ap (◌++ z) (course_step r ok b) ∙ go _ (ℕ_discrete a b)
      ∙ ap (λ (f : System M). course r b ++ ite (ℕ_discrete a b) ((f.agent b).state ∷ z) z) (sym e)
    where
      go : (x : Model.State M) (d : Dec (a ≡ b)) → ite d (course r b ++ (x ∷ [])) (course r b) ++ z ≡ course r b ++ ite d (x ∷ z) z
      go x (yes p) = append_assoc (course r b) (x ∷ []) z
      go x (no n) = refl

  pub walked : (cs : List (ℕ × ℕ)) (w : Words) → Fit w → {g h : System M} (r : Run g h) → system w ≡ h → Walked r w cs
  unfolding walk comes
  walked [] w fit {h = h} r e = record { end = h; run = r; here = e; passed = λ b. sym (append-nil _) }
  walked (c ∷ cs) w fit {g} {h} r e = go (accepts w c.0 c.1) refl (λ y ok. walked cs (move w c.0 c.1) (stays w c.0 c.1 fit y) (r ▸ ok) (moves w c.0 c.1 fit y ∙ ap (λ h. step h c.0 c.1) e))
    where
      a : ℕ
      a = c.0

      t : ℕ
      t = c.1

      rest : Words
      rest = move w a t

      go : (y : Bool) → accepts w a t ≡ y → (accepts w a t ≡ true → (ok : Good h a t) → Walked (r ▸ ok) rest cs) → Walked r w (c ∷ cs)
      go true y next =
          let ok = subst (λ h. Good h a t) e (good w a t fit y) in
          let n = next y ok in
          record {
            end = n.end;
            run = n.run;
            here = rw (walk, y) n.here;
            passed = λ b. rw (comes, y) (n.passed b ∙ one_step r ok b rest (comes C rest cs b) (moves w a t fit y ∙ ap (λ h. step h a t) e));
          }
      go false y next = record { end = h; run = r; here = rw (walk, y) e; passed = λ b. rw (comes, y) (sym (append-nil _)) }

  pub determinacy_of_words : DeterminacyOfWords C
  determinacy_of_words w fit cs ds b =
      let x = walked cs w fit start refl in
      let y = walked ds w fit start refl in
      subst₂ OneBegins (x.passed b) (y.passed b) (determinacy_of_courses x.run y.run b)

  pub words_end_alike : WordsEndAlike C
  words_end_alike w fit cs ds e f =
      let x = walked cs w fit start refl in
      let y = walked ds w fit start refl in
      ap (λ (g : System M). g.agent) x.here
      ∙ runs_end_alike x.run y.run (subst (λ g. Ended g) x.here e) (subst (λ g. Ended g) y.here f)
      ∙ sym (ap (λ (g : System M). g.agent) y.here)

  pub cut : Cut C
  unfolding walk whole
  cut [] ds w e = refl
  cut (c ∷ cs) ds w e = go (accepts w c.0 c.1) refl (λ e. cut cs ds (move w c.0 c.1) e)
    where
      rest : Words
      rest = move w c.0 c.1

      go : (y : Bool) → accepts w c.0 c.1 ≡ y → (whole C rest cs ≡ true → walk C rest (cs ++ ds) ≡ walk C (walk C rest cs) ds)
          → walk C w (c ∷ (cs ++ ds)) ≡ walk C (walk C w (c ∷ cs)) ds
      go true y next = rw (walk, y) (next (rw (whole, y) at e))
      go false y next = absurd (true≢false (sym (rw (whole, y) at e)))
