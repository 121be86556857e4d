-- What a row does to its agent, by its op. Assumes nothing.
use Rattle.std.proofs.Common.{◌≡◌, ℕ, zero, suc, ◌+◌, ◌-◌, ◌/◌, ◌%◌, ◌^◌, ◌<◌, get_or, ap, ◌∙◌, pow-suc, arith, ne_eqb, Option}
use lib.Arith.{lt-one}
use lib.Count.{ones, ones_step, ones_in, count_trailing_zeros}
use Rattle.tables.specs.declared.Row.{Row}
use Rattle.choices.specs.declared.Agent.{Agent}
use Rattle.choices.specs.declared.Message.{Message}
use Rattle.choices.specs.Effect.{after, put, go_to, receive}

-- the language's count of one bits is that of 32 bits
pub ones_of_word : (d n : ℕ) → n < 2 ^ d → ones n ≡ ones_in d n
unfolding ones ones_in
ones_of_word zero n h = ap ones (lt-one h)
ones_of_word (suc d) n h = ones_step n ∙ ap (λ (x : ℕ). n % 2 + x) (ones_of_word d (n / 2) (omega (arith, pow-suc 2 d)))

-- a local row, where its registers hold x and y
module _ (r : Row) (x y : ℕ) (s : Agent) (m : Option Message) (hx : get_or s.regs r.x 0 ≡ x) (hy : get_or s.regs r.y 0 ≡ y) where
  pub after_set : r.op ≡ 0x00 → put r.x r.k s ≡ after r m s
  unfolding after
  after_set e = rw e

  pub after_add : r.op ≡ 0x01 → (v : ℕ) → v ≡ (x + y) % 2 ^ 32 → put r.x v s ≡ after r m s
  unfolding after
  after_add e v q = rw (q, ← hx, ← hy, e)

  pub after_sub : r.op ≡ 0x02 → (v : ℕ) → v ≡ (x + 2 ^ 32 - y % 2 ^ 32) % 2 ^ 32 → put r.x v s ≡ after r m s
  unfolding after
  after_sub e v q = rw (q, ← hx, ← hy, e)

  pub after_ones : r.op ≡ 0x03 → (v : ℕ) → v ≡ ones_in 32 y → put r.x v s ≡ after r m s
  unfolding after
  after_ones e v q = rw (q, ← hy, e)

  pub after_low : r.op ≡ 0x04 → put r.x (count_trailing_zeros 32 y) s ≡ after r m s
  unfolding after
  after_low e = rw (← hy, e)

module _ (r : Row) (m : Option Message) (s : Agent) where
  abbrev x : ℕ
  x = get_or s.regs r.x 0

  pub after_skip : r.op ≡ 0x10 → x ≡ 0 → go_to (s.pos + 1 + r.n) s ≡ after r m s
  unfolding after
  after_skip e z = rw (e, z)

  pub after_stay : r.op ≡ 0x10 → (x ≡ 0 → ⊥) → go_to (s.pos + 1) s ≡ after r m s
  unfolding after
  after_stay e z =
      let k : s.pos + 1 ≡ s.pos + 1 + 0 = omega arith in
      rw (e, ne_eqb x 0 z) (ap (λ (p : ℕ). go_to p s) k)

  pub after_jump : r.op ≡ 0x11 → go_to (s.pos + 1 + r.n) s ≡ after r m s
  unfolding after
  after_jump e = rw e

  pub after_send : r.op ≡ 0x20 → go_to (s.pos + 1) s ≡ after r m s
  unfolding after
  after_send e = rw e

  pub after_receive : r.op ≡ 0x30 → receive r m s ≡ after r m s
  unfolding after
  after_receive e = rw e
