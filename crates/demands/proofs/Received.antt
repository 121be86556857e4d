-- The message that the executive takes is the one that the published model's receive gets. Assumes nothing.
use mathlib.Core.Path.{◌≡◌, sym, ap, subst, ◌∙◌}
use mathlib.Core.Logic.{◌≢◌, inl, inr}
use mathlib.Core.Bool.{true, ◌&&◌}
use mathlib.Core.Option.{none, some}
use mathlib.Core.List.{List}
use Prim.Native.Nat.{ℕ, ◌<◌}
use native.Mathlib.Omega.{arith}
use lib.Dec.{eqb}
use borrow.Author.Tests.{eq-eqb, eqb-true}
use Rattle.pharos.specs.Published.{CanReceive, Before, later, lower, higher, Received, nothing, found}
use Rattle.tables.specs.Layout.{agents, row}
use Rattle.tables.specs.Table.{good_table}
use Rattle.tables.specs.declared.Row.{Row}
use Rattle.tables.proofs.Tests.{and_both}
use Rattle.tables.proofs.Passed.{and_1, and_2}
use Rattle.choices.specs.declared.Message.{Message}
use Rattle.std.specs.Prelude.{Option as Maybe, None, Some}
use Rattle.choices.specs.State.{mark, value, pool}
use Rattle.choices.specs.Messages.{visible, best}
use Rattle.tables.proofs.Good.{few}
use Rattle.executive.proofs.Fitting.{Fits, marked}
use Rattle.executive.specs.Laws.{GoesBefore, Taken}
use Rattle.executive.proofs.Taken.{best_taken}
use Rattle.demands.specs.Instance.{published, dated, sent_of}
use Rattle.demands.proofs.Rows.{sent_number, awaited_number, sends_number, awaits_number, value_of}
use Rattle.demands.proofs.Decode.{sent_some, present}

module _ (tb st : List ℕ) (good : good_table tb ≡ true) (f : Fits tb st) (r : Row) where
  abbrev Can : ℕ → ℕ → ℕ → Type 0
  Can b i v = CanReceive (published tb) (sent_of st) (dated r) b i v

  -- What can be received is visible to the row, which is a RECV;
  pub can_visible : {b i v : ℕ} → Can b i v → (r.op ≡ 0x30) × (visible tb (pool st) r b i ≡ true) × (i < 32) × (value st b i ≡ v)
  unfolding visible
  can_visible {b} {i} m =
      let here = present st b i m.present in
      let (_, sent) = sent_number (row tb b i) m.sent in
      let (receives, awaited) = awaited_number r m.awaited in (
        receives,
        and_both (eqb (mark st b i) 1 && eqb (row tb b i).k r.k) _ (and_both (eqb (mark st b i) 1) _ (eq-eqb _ _ here.marked) (eq-eqb _ _ (sent ∙ sym awaited))) m.seen,
        here.row,
        here.told,
      )

  -- and what is visible to a RECV can be received.
  pub visible_can : r.op ≡ 0x30 → {b i : ℕ} → b < agents tb → i < 32 → visible tb (pool st) r b i ≡ true → Can b i (value st b i)
  unfolding visible
  visible_can receives {b} {i} h l v =
      let two = and_1 (eqb (mark st b i) 1 && eqb (row tb b i).k r.k) _ v in
      let mark_set : mark st b i ≡ 1 = eqb-true _ _ (and_1 (eqb (mark st b i) 1) _ two) in
      let (_, sent) = marked tb st f b i (omega (arith, few tb good)) l (λ e. omega arith) in
      record {
        agent = h;
        row = omega (arith, f.position b h, sent.2);
        present = sent_some st b i (omega (arith, few tb good)) l mark_set;
        number = r.k;
        sent = sends_number (row tb b i) sent.1 ∙ ap some (eqb-true _ _ (and_2 (eqb (mark st b i) 1) _ two));
        awaited = awaits_number r receives;
        seen = and_2 (eqb (mark st b i) 1 && eqb (row tb b i).k r.k) _ v;
      }

  before : {c j b i : ℕ} → Before (published tb) c j b i → GoesBefore tb c j b i
  before (later l) = inl l
  before (lower e l) = inr (sym e, inl l)
  before (higher e same l) = inr (sym e, inr (same, l))

  taken_gets : (m : Maybe Message) → Taken tb (pool st) r m → r.op ≡ 0x30 → Received (published tb) (sent_of st) (dated r) (value_of m)
  taken_gets None no_one op = nothing (λ b i v m. let (_, seen, l, _) = can_visible m in no_one b i m.agent l seen)
  taken_gets (Some g) (h, short, seen, _, told, ahead) op =
      found (subst (Can g.agent g.row) (sym told) (visible_can op h short seen))
      (λ c j w m goes. let (_, seen, l, _) = can_visible m in ahead c j m.agent l seen (before goes))

  -- A RECV gets the message that the executive takes,
  pub gets : r.op ≡ 0x30 → Received (published tb) (sent_of st) (dated r) (value_of (best tb (pool st) r))
  gets = taken_gets (best tb (pool st) r) (best_taken tb (pool st) r (few tb good))

  -- and a row that is no RECV gets nothing.
  pub gets_none : r.op ≢ 0x30 → Received (published tb) (sent_of st) (dated r) none
  gets_none other = nothing (λ b i v m. other (can_visible m).0)
