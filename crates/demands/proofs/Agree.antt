-- Demand 3 of the bytes that the release desk compares, proved: two traces of one table agree.
use mathlib.Core.Path.{◌≡◌, refl, sym, ap, subst₂, ◌∙◌}
use mathlib.Core.Logic.{inl, ⊎_map, by_cases}
use mathlib.Core.List.{List, [], ◌∷◌, ◌++◌}
use Prim.Native.Nat.{ℕ, ◌<◌}
use native.Mathlib.Decide.{dec_lt}
use native.Mathlib.Omega.{arith}
use lib.ListN.{drop}
use Rattle.tables.specs.Layout.{agents, rows}
use Rattle.tables.specs.Frames.{frames_of}
use Rattle.tables.proofs.Good.{few}
use Rattle.reading.specs.Reader.{table_of}
use Rattle.choices.specs.declared.Agent.{Agent}
use Rattle.choices.specs.State.{start_words, agent_at, pos, pos_place}
use Rattle.executive.specs.Run.{run_from}
use Rattle.executive.proofs.Start.{start_low}
use Rattle.demands.specs.Demand2.{Table, Fitting}
use Rattle.demands.specs.Steps.{Step, steps_from, comes_to, last_of}
use Rattle.pharos.specs.Prefix.{OneBegins}
use Rattle.demands.specs.Demand3.{AllAtTheirEnd}
use Rattle.demands.specs.Traces.{trace_steps, choices_of_input, last_position, AcceptedText, TracesAgree, TracesEndAlike}
use Rattle.demands.proofs.Demand2.{start_is_models}
use Rattle.demands.proofs.Demand3.{deterministic_from, same_courses_from}
use Rattle.demands.proofs.Made.{steps_last, comes_nowhere}
use Rattle.demands.proofs.TableText.{frames_accepted, words_read, table_read, table_text_lem}
use Rattle.demands.proofs.Traced.{Gives, no_step, all_steps, gives, shown_steps}

-- lists that begin with the same state
tails : {s : Agent} {h k : List Agent} → OneBegins (s ∷ h) (s ∷ k) → OneBegins h k
tails = ⊎_map (λ (l, e). (l, ap (drop 1) e)) (λ (l, e). (l, ap (drop 1) e))

-- the last position goes by the position at the start alone
last_from : (l : List Agent) (s r : Agent) → s.pos ≡ r.pos → (last_of s l).pos ≡ (last_of r l).pos
unfolding last_of
last_from [] s r e = e
last_from (x ∷ l) s r e = refl

module _ (text : List ℕ) (ok : AcceptedText text) where
  abbrev rules : List ℕ
  rules = table_of (frames_of text)

  abbrev begin : List ℕ
  begin = start_words rules

  table : Table rules
  table = table_read text ok

  starts : Fitting rules begin
  starts = (start_is_models rules table).0

  -- what a trace shows is a run of the table over some choices: over none where it shows no step
  run_of : (more out : List ℕ) → (cs : List ℕ) × (trace_steps (text ++ more) out ≡ steps_from rules begin cs)
  unfolding steps_from
  run_of more out = go (gives (text ++ more) out)
    where
      go : Gives (text ++ more) out → (cs : List ℕ) × (trace_steps (text ++ more) out ≡ steps_from rules begin cs)
      go (no_step e) = ([], e)
      go (all_steps a) =
          let cs = choices_of_input (text ++ more) in
          (cs, shown_steps (text ++ more) out a ∙ ap (λ (t : List ℕ). steps_from (table_of (frames_of t)) (start_words (table_of (frames_of t))) cs) (table_text_lem text more (frames_accepted text ok)))

  agree : (cs ds : List ℕ) (b : ℕ) → OneBegins (comes_to b (steps_from rules begin cs)) (comes_to b (steps_from rules begin ds))
  agree cs ds b = by_cases (dec_lt b (agents rules))
      (λ h. tails (deterministic_from rules begin cs ds table starts b h))
      (λ n. inl (comes_to b (steps_from rules begin ds), ap (◌++ comes_to b (steps_from rules begin ds)) (sym (comes_nowhere cs rules begin b (omega arith)))))

  -- a run whose last positions are the row counts has ended all agents
  ends : (cs : List ℕ) → ((b : ℕ) → b < agents rules → last_position (comes_to b (steps_from rules begin cs)) ≡ rows rules b)
      → AllAtTheirEnd rules (run_from rules begin 0 cs).state
  ends cs last b h =
      let low : b < 16 = omega (arith, few rules table.good) in
      let zero-first : pos begin b ≡ 0 = start_low rules (omega (arith, table.long)) (pos_place b) (omega arith) (omega arith) in
      ap (λ (s : Agent). s.pos) (steps_last rules table cs begin 0 starts b h)
      ∙ last_from (comes_to b (steps_from rules begin cs)) (agent_at begin b) (record { pos = 0; regs = [] }) zero-first
      ∙ last b h

  alike : (cs ds : List ℕ) → AllAtTheirEnd rules (run_from rules begin 0 cs).state → AllAtTheirEnd rules (run_from rules begin 0 ds).state
      → (b : ℕ) → comes_to b (steps_from rules begin cs) ≡ comes_to b (steps_from rules begin ds)
  alike cs ds end end' b = by_cases (dec_lt b (agents rules))
      (λ h. ap (drop 1) (same_courses_from rules begin cs ds table starts end end' b h))
      (λ n. comes_nowhere cs rules begin b (omega arith) ∙ sym (comes_nowhere ds rules begin b (omega arith)))

pub traces_agree : TracesAgree
traces_agree text more other out out' ok b =
    let (cs, e) = run_of text ok more out in
    let (ds, f) = run_of text ok other out' in
    subst₂ (λ (k l : List Step). OneBegins (comes_to b k) (comes_to b l)) (sym e) (sym f) (agree text ok cs ds b)

pub traces_end_alike : TracesEndAlike
traces_end_alike text more other out out' ok end end' b =
    let (cs, e) = run_of text ok more out in
    let (ds, f) = run_of text ok other out' in
    let w = words_read text ok in
    let all : AllAtTheirEnd (rules text ok) (run_from (rules text ok) (begin text ok) 0 cs).state =
    ends text ok cs (λ c h. ap (λ (k : List Step). last_position (comes_to c k)) (sym e) ∙ (rw w at (end c (rw w h)))) in
    let all' : AllAtTheirEnd (rules text ok) (run_from (rules text ok) (begin text ok) 0 ds).state =
    ends text ok ds (λ c h. ap (λ (k : List Step). last_position (comes_to c k)) (sym f) ∙ (rw w at (end' c (rw w h)))) in
    ap (comes_to b) e ∙ alike text ok cs ds all all' b ∙ sym (ap (comes_to b) f)
