-- A choice of an agent and a time: its reply 10 to 13 or 15, and the state's words after an accepted one. Assumes nothing.
use Rattle.std.specs.Prelude.{ℕ, ◌<◌, ◌≤◌, cond, not, List, [], ◌∷◌, ◌==◌, nat_le, nat_lt, slice_index, slice_set}
use Rattle.std.proofs.lemmas.List.Edits.{sets}
use Rattle.tables.specs.Basics.{first, ◌⇒◌}
use Rattle.tables.specs.Layout.{agents, rows, row}
use Rattle.tables.specs.declared.Row.{Row}
use Rattle.choices.specs.declared.Agent.{Agent}
use Rattle.choices.specs.State.{clock, pos, pool, agent_at, pos_place, reg_place, mark_place, value_place}
use Rattle.choices.specs.Messages.{best}
use Rattle.choices.specs.Effect.{after}
use Rattle.choices.specs.Fit.{current, in_time}

-- the reply to a choice, of a table and a state that are good; 14 is reserved, and no choice gets it
unfoldable pub choice_reply : (tb st : List ℕ) (a t : ℕ) → ℕ
choice_reply tb st a t =
    first
    ((nat_le (agents tb) a ⇒ 10)
    ∷ (nat_le (rows tb a) (pos st a) ⇒ 11)
    ∷ (nat_lt t (clock st) ⇒ 12)
    ∷ (nat_lt t (current tb st a).early ⇒ 13)
    ∷ (not (in_time tb st t) ⇒ 15)
    ∷ [])

-- ---- the same, as facts

-- the time is "not above the late of any unfinished agent's current row"
abbrev pub InTime : (tb st : List ℕ) → ℕ → Type 0
InTime tb st t = (b : ℕ) → b < agents tb → pos st b < rows tb b → t ≤ (current tb st b).late

-- "It is accepted exactly when .."
pub record Allowed (tb st : List ℕ) (a t : ℕ) : Type 0 where
  pub agent : a < agents tb
  pub unended : pos st a < rows tb a
  pub clock : clock st ≤ t
  pub early : (current tb st a).early ≤ t
  pub late : InTime tb st t

-- ---- the words after an accepted choice

-- the words with the state of agent a put in, whole
unfoldable pub with_agent : List ℕ → ℕ → Agent → List ℕ
with_agent st a s = sets (slice_set st (pos_place a) s.pos) (reg_place a) s.regs

-- "A SEND sets its own mark and value": s is the agent's state before the row
unfoldable pub with_sent : List ℕ → ℕ → Row → Agent → List ℕ
with_sent st a r s =
    cond (r.op == 0x20) (slice_set (slice_set st (mark_place a s.pos) 1) (value_place a s.pos) (slice_index s.regs r.x)) st

-- "Then the row takes effect and the clock becomes t. .. Nothing else changes."
unfoldable pub accepted : (tb st : List ℕ) (a t : ℕ) → List ℕ
accepted tb st a t =
    let s = agent_at st a in
    let r = row tb a s.pos in
    with_sent (with_agent (slice_set st 0 t) a (after r (best tb (pool st) r) s)) a r s
