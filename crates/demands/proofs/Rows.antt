-- A row's instruction: what it sends and awaits, and that it does what the executive's row does. Assumes nothing.
use mathlib.Core.Path.{◌≡◌, refl, sym, ap, ◌∙◌}
use mathlib.Core.Logic.{◌≢◌}
use mathlib.Core.Bool.{Bool, true, false, cond}
use mathlib.Core.Option.{Option, none, some, none-ne-some, some-injective}
use mathlib.Core.List.{List}
use Prim.Native.Nat.{ℕ, ◌+◌}
use native.Mathlib.Nat.{add-zero}
use lib.Dec.{eqb}
use lib.ListN.{get_or}
use borrow.Author.Tests.{eqb-true, eqb-false, eq-eqb, ne_eqb}
use Rattle.pharos.specs.Published.{Instruction, local, msg_sent, msg_awaited, Messages, except, exec_ins}
use Rattle.tables.specs.Basics.{OneOf}
use Rattle.tables.specs.Rows.{goes_on_to}
use Rattle.tables.specs.declared.Row.{Row}
use Rattle.choices.specs.declared.Agent.{Agent}
use Rattle.choices.specs.declared.Message.{Message}
use Rattle.std.specs.Prelude.{Option as Maybe, None, Some}
use Rattle.choices.specs.Effect.{go_to, after}
use Rattle.choices.proofs.Onward.{after_goes}
use Rattle.demands.specs.Demand2.{RowsAreModels}
use Rattle.executive.proofs.Effects.{send_is_on, receive_found, receive_none}
use Rattle.executive.proofs.Numbers.{ones_bits, low_first, sub_first}
use Rattle.demands.specs.Instance.{goes_on, local_row, sending, receiving, instruction_of, published}

-- ---- a row is a SEND, a RECV or another, and so is its instruction

pub data Kind (r : Row) : Instruction Agent → Type 0 where
  sends : r.op ≡ 0x20 → Kind r (sending r)
  receives : r.op ≡ 0x30 → Kind r (receiving r)
  others : r.op ≢ 0x20 → r.op ≢ 0x30 → Kind r (local (local_row r))

pub kind : (r : Row) → Kind r (instruction_of r)
unfolding instruction_of
kind r = go (eqb r.op 0x20) (eqb r.op 0x30) refl refl
  where
    go : (b c : Bool) → eqb r.op 0x20 ≡ b → eqb r.op 0x30 ≡ c
        → Kind r (cond b (sending r) (cond c (receiving r) (local (local_row r))))
    go true c d e = sends (eqb-true r.op 0x20 d)
    go false true d e = receives (eqb-true r.op 0x30 e)
    go false false d e = others (eqb-false r.op 0x20 d) (eqb-false r.op 0x30 e)

-- ---- message numbers

sent_kind : {r : Row} {i : Instruction Agent} {n : ℕ} → Kind r i → msg_sent i ≡ some n → (r.op ≡ 0x20) × (r.k ≡ n)
sent_kind (sends op) e = (op, some-injective _ _ e)
sent_kind (receives op) e = absurd (none-ne-some _ e)
sent_kind (others p q) e = absurd (none-ne-some _ e)

pub sent_number : (r : Row) {n : ℕ} → msg_sent (instruction_of r) ≡ some n → (r.op ≡ 0x20) × (r.k ≡ n)
sent_number r = sent_kind (kind r)

awaited_kind : {r : Row} {i : Instruction Agent} {n : ℕ} → Kind r i → msg_awaited i ≡ some n → (r.op ≡ 0x30) × (r.k ≡ n)
awaited_kind (sends op) e = absurd (none-ne-some _ e)
awaited_kind (receives op) e = (op, some-injective _ _ e)
awaited_kind (others p q) e = absurd (none-ne-some _ e)

pub awaited_number : (r : Row) {n : ℕ} → msg_awaited (instruction_of r) ≡ some n → (r.op ≡ 0x30) × (r.k ≡ n)
awaited_number r = awaited_kind (kind r)

module _ (r : Row) where
  pub sends_number : r.op ≡ 0x20 → msg_sent (instruction_of r) ≡ some r.k
  unfolding instruction_of
  sends_number e = rw (eq-eqb r.op 0x20 e)

  pub awaits_number : r.op ≡ 0x30 → msg_awaited (instruction_of r) ≡ some r.k
  unfolding instruction_of
  awaits_number e = rw e

-- ---- the effect

-- what a receive gets of the message that the executive takes
abbrev pub value_of : Maybe Message → Option ℕ
value_of None = none
value_of (Some m) = some m.value

-- the message matters to a RECV alone
pub after_other : (r : Row) (m : Maybe Message) (s : Agent) → r.op ≢ 0x30 → after r None s ≡ after r m s
unfolding after
after_other r m s other = rw (ne_eqb r.op 0x30 other)

-- A local row of the model does what the executive's row does.
skips : (b : Bool) (n : ℕ) (s : Agent) → cond b (goes_on n s) (goes_on 0 s) ≡ go_to (s.pos + 1 + cond b n 0) s
skips true n s = refl
skips false n s = refl

pub rows_are_models : RowsAreModels
unfolding local_row after
rows_are_models r s other =
    let x = get_or s.regs r.x 0 in
    let y = get_or s.regs r.y 0 in
    let on : s.pos + 1 + 0 ≡ s.pos + 1 = add-zero (s.pos + 1) in
    rw (sub_first x y, ones_bits y, low_first y, skips (eqb x 0) r.n s, ne_eqb r.op 0x30 other, on)

module _ (T : List ℕ) (a : ℕ) (s : Agent) (msgs : Messages) where
  effect_kind : {r : Row} {i : Instruction Agent} (m : Maybe Message) → Kind r i → (exec_ins (published T) a s msgs (value_of m) i).0 ≡ after r m s
  effect_kind {r} m (sends op) = ap (λ (p : ℕ). go_to p s) (add-zero (s.pos + 1)) ∙ sym (send_is_on r m s op)
  effect_kind {r} None (receives op) = sym (receive_none r None s op refl)
  effect_kind {r} (Some m) (receives op) = sym (receive_found m r (Some m) s op refl)
  effect_kind {r} m (others p q) = rows_are_models r s q ∙ after_other r m s q

  pub effect : (r : Row) (m : Maybe Message) → (exec_ins (published T) a s msgs (value_of m) (instruction_of r)).0 ≡ after r m s
  effect r m = effect_kind m (kind r)

  -- a SEND adds to the pool at its own row, and no other row touches it
  posted_kind : {r : Row} {i : Instruction Agent} (got : Option ℕ) → Kind r i → (exec_ins (published T) a s msgs got i).1
      ≡ cond (eqb r.op 0x20) (except msgs a (except (msgs a) s.pos (some (get_or s.regs r.x 0)))) msgs
  posted_kind got (sends op) = rw op
  posted_kind got (receives op) = rw op
  posted_kind {r} got (others p q) = rw (ne_eqb r.op 0x20 p)

  pub posted : (r : Row) (got : Option ℕ) → (exec_ins (published T) a s msgs got (instruction_of r)).1
      ≡ cond (eqb r.op 0x20) (except msgs a (except (msgs a) s.pos (some (get_or s.regs r.x 0)))) msgs
  posted r got = posted_kind got (kind r)

  -- whatever is got, a row goes on at one of the rows that it can go on to
  pub goes_on_lem : (r : Row) (got : Option ℕ) → OneOf (exec_ins (published T) a s msgs got (instruction_of r)).0.pos (goes_on_to r s.pos)
  goes_on_lem r none = rw (effect r None) (after_goes r None s)
  goes_on_lem r (some v) = let m : Maybe Message = Some (record { late = 0; agent = 0; row = 0; value = v }) in rw (effect r m) (after_goes r m s)
