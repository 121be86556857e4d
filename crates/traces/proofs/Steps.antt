-- The output of a run of choices, a line at a time: what is left of it, put where the line before ended, makes the whole. Assumes nothing.
use mathlib.Core.Path.{◌≡◌, ap}
use mathlib.Core.List.{List, ◌∷◌}
use Prim.Native.Nat.{ℕ, zero, suc, ◌+◌, ◌≤◌}
use native.Mathlib.Nat.{add_assoc}
use native.Mathlib.Omega.{arith}
use lib.ListN.{length, length-append}
use lib.Seq.{sets}
use Rattle.choices.specs.declared.Agent.{Agent}
use Rattle.choices.specs.State.{agent_at}
use Rattle.choices.specs.Step.{choice_reply, accepted}
use Rattle.traces.specs.Output.{Traced, traced, after, step_line, last_line, trace_from}
use Rattle.traces.specs.Calls.{written}
use Rattle.traces.specs.Places.{placed}
use Rattle.tables.proofs.Stored.{sets_append, from_start}
use Rattle.digits.proofs.Writes.{hex_digits_length, hex_words_length}

-- ---- lengths

pub step_line_length : (a t : ℕ) (s : Agent) → length s.regs ≡ 4 → length (step_line a t s) ≡ 47
unfolding step_line
step_line_length a t s h = simp (length-append, hex_digits_length, hex_words_length, h)

pub last_line_length : (r n : ℕ) → length (last_line r n) ≡ 9
unfolding last_line
last_line_length r n = simp (length-append, hex_digits_length)

-- ---- what is put from a place on

pub placed_after : (b : List ℕ) (q : Traced) (at : ℕ) (out : List ℕ) → placed (after b q) at out ≡ placed q (at + length b) (sets out at b)
placed_after b q at out = rw (length-append b q.bytes, sets_append b q.bytes out at, ← add_assoc)

pub placed_start : (q : Traced) (out : List ℕ) → length q.bytes ≤ length out → placed q 0 out ≡ written q out
placed_start q out h = let e : 0 + length q.bytes ≡ length q.bytes = omega arith in rw (e, from_start out q.bytes h)

-- ---- one choice

module _ (tb st : List ℕ) (n a t : ℕ) (cs : List ℕ) where
  trace_by : (r : ℕ) → choice_reply tb st a t ≡ r → trace_from tb st n (a ∷ t ∷ cs)
      ≡ elim r [
        | zero ↦ after (step_line a t (agent_at (accepted tb st a t) a)) (trace_from tb (accepted tb st a t) (n + 1) cs)
        | suc r ↦ traced (suc r) (last_line (suc r) n)
      ]
  unfolding trace_from
  trace_by r h =
      ap
      (λ (x : ℕ). elim x as (λ _. Traced) [
        | zero ↦ after (step_line a t (agent_at (accepted tb st a t) a)) (trace_from tb (accepted tb st a t) (n + 1) cs)
        | suc r ↦ traced (suc r) (last_line (suc r) n)
      ])
      h

  pub trace_go : choice_reply tb st a t ≡ 0 → trace_from tb st n (a ∷ t ∷ cs) ≡ after (step_line a t (agent_at (accepted tb st a t) a)) (trace_from tb (accepted tb st a t) (n + 1) cs)
  trace_go h = trace_by 0 h

  pub trace_stop : (r : ℕ) → choice_reply tb st a t ≡ suc r → trace_from tb st n (a ∷ t ∷ cs) ≡ traced (suc r) (last_line (suc r) n)
  trace_stop r h = trace_by (suc r) h
