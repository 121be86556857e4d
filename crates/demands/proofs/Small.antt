-- Words of 32 bits stay words of 32 bits: of every state that the steps of a table of such words lead to. Assumes nothing.
use mathlib.Core.Bool.{Bool, true, false, cond}
use mathlib.Core.List.{List}
use Prim.Native.Nat.{ℕ, zero, suc, ◌+◌, ◌/◌, ◌%◌, ◌^◌, ◌≤◌}
use native.Mathlib.Omega.{arith}
use lib.Dec.{eqb, lit<}
use lib.ListN.{get_or, set}
use lib.Count.{ones_in, count_trailing_zeros, trailing_le}
use Rattle.tables.specs.Small.{Word, Small}
use Rattle.tables.specs.declared.Row.{Row}
use Rattle.tables.specs.Layout.{agents, row, row_of, row_place}
use Rattle.tables.proofs.Small.{small_cons, small_append, small_zeros, small_drop, small_take, small_set, small_sets}
use Rattle.choices.specs.declared.Agent.{Agent}
use Rattle.choices.specs.declared.Message.{Message}
use Rattle.std.specs.Prelude.{Option as Maybe, None, Some}
use Rattle.choices.specs.State.{pool, agent_at, start_words, pos_place, reg_place, mark_place, value_place}
use Rattle.choices.specs.Messages.{best}
use Rattle.choices.specs.Effect.{after}
use Rattle.choices.specs.Step.{accepted, with_agent, with_sent}
use Rattle.choices.proofs.After.{Carries, after_made}
use Rattle.executive.specs.Laws.{Taken}
use Rattle.executive.proofs.Taken.{best_taken}

-- ---- a row's effect

remainder_small : (n : ℕ) → Word (n % 2 ^ 32)
remainder_small n = omega arith

ones_most : (n y : ℕ) → ones_in n y ≤ n
unfolding ones_in
ones_most zero y = omega arith
ones_most (suc n) y = let m = ones_most n (y / 2) in omega arith

ones_small : (y : ℕ) → Word (ones_in 32 y)
ones_small y = let m = ones_most 32 y in omega arith

low_small : (y : ℕ) → Word (count_trailing_zeros 32 y)
low_small y = let m = trailing_le 32 y in omega arith

after_small : (r : Row) (s : Agent) → Word r.k → Small s.regs → (m : Maybe Message) → Carries Word m → Small (after r m s).regs
after_small r s k regs m c =
    after_made (λ g. Small g.regs) Word r s (λ x v h. small_set s.regs x v regs h) (λ p. regs) k remainder_small ones_small low_small m c

-- ---- a step

carried : (tb st : List ℕ) (r : Row) → Small st → (m : Maybe Message) → Taken tb (pool st) r m → Carries Word m
carried tb st r s None t = tt
carried tb st r s (Some m) t = rw t.4 (s.word (value_place m.agent m.row))

module _ (tb st : List ℕ) (few : agents tb ≤ 16) (table : Small tb) (state : Small st) (a t : ℕ) (time : Word t) where
  abbrev s : Agent
  s = agent_at st a

  abbrev r : Row
  r = row tb a s.pos

  own_small : Small s.regs
  own_small = small_take 4 (small_drop (reg_place a) state)

  next_small : Small (after r (best tb (pool st) r) s).regs
  unfolding row_of
  next_small = after_small r s (table.word (row_place a s.pos + 1)) own_small (best tb (pool st) r) (carried tb st r state (best tb (pool st) r) (best_taken tb (pool st) r few))

  sent_small : (l : List ℕ) → Small l → Small (with_sent l a r s)
  unfolding with_sent
  sent_small l h = go (eqb r.op 0x20)
    where
      go : (b : Bool) → Small (cond b (set (set l (mark_place a s.pos) 1) (value_place a s.pos) (get_or s.regs r.x 0)) l)
      go true = small_set _ (value_place a s.pos) (get_or s.regs r.x 0) (small_set l (mark_place a s.pos) 1 h (lit< tt)) (own_small.word r.x)
      go false = h

  pub accepted_small : Word (after r (best tb (pool st) r) s).pos → Small (accepted tb st a t)
  unfolding accepted with_agent
  accepted_small position =
      let q = after r (best tb (pool st) r) s in
      sent_small _ (small_sets q.regs (set (set st 0 t) (pos_place a) q.pos) (reg_place a)
      (small_set (set st 0 t) (pos_place a) q.pos (small_set st 0 t state time) position) next_small)

pub start_small : (tb : List ℕ) → Small tb → Small (start_words tb)
unfolding start_words
start_small tb table = small_append (small_cons (lit< tt) (small_zeros 16)) (small_append (small_take 64 (small_drop 17 table)) (small_zeros 1024))
