-- Demand 2 of the public calls `check` and `step`, proved.
use mathlib.Core.Path.{◌≡◌, refl, sym, ap, subst, ◌∙◌}
use mathlib.Core.Logic.{◌≢◌, by_cases}
use mathlib.Core.List.{List, ◌++◌}
use Prim.Native.Nat.{ℕ, zero, suc}
use native.Mathlib.Decide.{ℕ_discrete}
use native.Mathlib.Omega.{arith}
use lib.ListN.{length, length-take}
use Rattle.tables.proofs.Good.{checked_good, good_checked}
use Rattle.choices.specs.State.{state_words}
use Rattle.choices.specs.Step.{choice_reply, accepted}
use Rattle.executive.specs.Calls.{table_part, state_part, past_state, Outcome, step_reply, step_into}
use Rattle.executive.proofs.Ready.{Ready, answer, ready_reply, was_ready, stepped_by, part_is, past_is}
use Rattle.demands.specs.Reasons.{Reply}
use Rattle.demands.specs.Instance.{decode}
use Rattle.demands.specs.Demand2.{Table, Fitting, Choice, TableIsChecked, CallIsModels}
use Rattle.demands.proofs.Demand2.{choice_is_models}

-- a table that `check` accepts
pub table_is_checked : TableIsChecked
table_is_checked tb = (
  λ e. let (l, good) = checked_good tb e in record { long = simp length-take (omega arith); good = good },
  λ table. good_checked tb (let n = length-take 2129 tb in let l = table.long in omega arith) table.good,
)

module _ (tb st : List ℕ) where
  pub ready : Table (table_part tb) → Fitting (table_part tb) (state_part st) → Ready tb st
  ready table state = record {
    table = let n = length-take 2129 tb in let l = table.long in omega arith;
    state = let n = length-take 1105 st in let l = state.long in omega arith;
    good = table.good;
    fit = state.fit;
  }

  pub ready_table : Ready tb st → Table (table_part tb)
  ready_table r = record { long = let l = r.table in simp length-take (omega arith); good = r.good }

  pub ready_state : Ready tb st → Fitting (table_part tb) (state_part st)
  ready_state r = record { long = let l = r.state in simp length-take (omega arith); fit = r.fit }

module _ (tb st : List ℕ) (a t : ℕ) where
  abbrev rules : List ℕ
  rules = table_part tb

  abbrev words : List ℕ
  words = state_part st

  abbrev new : List ℕ
  new = accepted rules words a t

  answered : {r : ℕ} → step_reply tb st a t ≡ r → step_into tb st a t ≡ answer r (new ++ past_state st) st
  answered e = stepped_by tb st a t ∙ ap (λ (r : ℕ). answer r (new ++ past_state st) st) e

  replied : (step_into tb st a t).reply ≡ step_reply tb st a t
  replied = ap (λ (o : Outcome). o.reply) (answered refl) ∙ go (step_reply tb st a t)
    where
      go : (r : ℕ) → (answer r (new ++ past_state st) st).reply ≡ r
      go zero = refl
      go (suc r) = refl

  module _ (r : Ready tb st) where
    here : Choice rules words a t
    here = choice_is_models rules words (ready_table tb st r) (ready_state tb st r) a t

    pub reply_is : (step_into tb st a t).reply ≡ choice_reply rules words a t
    reply_is = replied ∙ ready_reply tb st a t r

  module _ (e : (step_into tb st a t).reply ≡ 0) where
    pub was : Ready tb st × (choice_reply rules words a t ≡ 0)
    was = was_ready tb st a t (sym replied ∙ e)

    long : length new ≡ state_words
    long = ((here was.0).state was.1).long

    left : (step_into tb st a t).state ≡ new ++ past_state st
    left = ap (λ (o : Outcome). o.state) (answered (sym replied ∙ e))

    pub left_words : state_part (step_into tb st a t).state ≡ new
    left_words = ap state_part left ∙ part_is new (past_state st) long

    left_past : past_state (step_into tb st a t).state ≡ past_state st
    left_past = ap past_state left ∙ past_is new (past_state st) long

  refused : (step_into tb st a t).reply ≢ 0 → (step_into tb st a t).state ≡ st
  refused n = go (step_reply tb st a t) refl
    where
      go : (r : ℕ) → step_reply tb st a t ≡ r → (step_into tb st a t).state ≡ st
      go zero e = absurd (n (replied ∙ e))
      go (suc r) e = ap (λ (o : Outcome). o.state) (answered e)

pub call_is_models : CallIsModels
call_is_models tb st a t = record {
  exact = (
    λ e. let (r, c) = was tb st a t e in (ready_table tb st r, ready_state tb st r, (here tb st a t r).exact.0 c),
    λ (table, state, x). let r = ready tb st table state in reply_is tb st a t r ∙ (here tb st a t r).exact.1 x,
  );
  reason = λ table state. let r = ready tb st table state in subst (Reply (decode (table_part tb) (state_part st)) a t) (sym (reply_is tb st a t r)) (here tb st a t r).reason;
  step = λ e. let (r, c) = was tb st a t e in rw (left_words tb st a t e) ((here tb st a t r).step c);
  time = λ e. let (r, c) = was tb st a t e in rw (left_words tb st a t e) ((here tb st a t r).time c);
  past = by_cases (ℕ_discrete (step_into tb st a t).reply 0) (left_past tb st a t) (λ n. ap past_state (refused tb st a t n));
  refused = refused tb st a t;
}
