-- A run accepts at most 512 steps: each raises its agent's position, and there are at most 16 agents of 32 rows. Assumes nothing.
use mathlib.Core.Path.{◌≡◌, refl, sym, ap}
use mathlib.Core.Bool.{true}
use mathlib.Core.List.{List, [], ◌∷◌}
use Prim.Native.Nat.{ℕ, zero, suc, ◌+◌, ◌*◌, ◌<◌, ◌≤◌}
use native.Mathlib.Decide.{ℕ_discrete}
use native.Mathlib.Nat.{not-suc-le-zero}
use native.Mathlib.Omega.{arith}
use lib.ListN.{length}
use Rattle.tables.specs.Layout.{agents}
use Rattle.tables.specs.Table.{good_table}
use Rattle.choices.specs.State.{pos, start_words}
use Rattle.choices.specs.Step.{choice_reply, accepted, Allowed}
use Rattle.executive.specs.Run.{RunOutcome, ended, run_from}
use Rattle.tables.proofs.Good.{few, few_rows}
use Rattle.choices.proofs.After.{accepted_length}
use Rattle.choices.proofs.Onward.{pos_rises}
use Rattle.choices.proofs.Choice.{allowed}
use Rattle.executive.proofs.Fitting.{Fits}
use Rattle.executive.proofs.Start.{start_length}
use Rattle.executive.proofs.Fits.{start_is, accepted_is, new_position}

-- ---- one choice of a run

module _ (tb st : List ℕ) (n a t : ℕ) (cs : List ℕ) where
  -- by the reply to its first choice
  run_by : (r : ℕ) → choice_reply tb st a t ≡ r
      → run_from tb st n (a ∷ t ∷ cs) ≡ elim r [ zero ↦ run_from tb (accepted tb st a t) (n + 1) cs | suc r ↦ ended (suc r) n st ]
  unfolding run_from
  run_by r h = ap (λ (x : ℕ). elim x as (λ _. RunOutcome) [ zero ↦ run_from tb (accepted tb st a t) (n + 1) cs | suc r ↦ ended (suc r) n st ]) h

  pub run_go : choice_reply tb st a t ≡ 0 → run_from tb st n (a ∷ t ∷ cs) ≡ run_from tb (accepted tb st a t) (n + 1) cs
  run_go h = run_by 0 h

  pub run_stop : (r : ℕ) → choice_reply tb st a t ≡ suc r → run_from tb st n (a ∷ t ∷ cs) ≡ ended (suc r) n st
  run_stop r h = run_by (suc r) h

-- ---- the count

-- the sum of the positions of the agents below n
abbrev pub walked : List ℕ → ℕ → ℕ
walked st zero = 0
walked st (suc b) = walked st b + pos st b

walked_most : (st : List ℕ) (n : ℕ) → ((b : ℕ) → b < n → pos st b ≤ 32) → walked st n ≤ 32 * n
walked_most st zero h = omega arith
walked_most st (suc n) h =
    let l = walked_most st n (λ b m. h b (omega arith)) in
    let k = h n (omega arith) in
    omega arith

module _ (st new : List ℕ) where
  walked_up : (n : ℕ) → ((b : ℕ) → b < n → pos st b ≤ pos new b) → walked st n ≤ walked new n
  walked_up zero h = omega arith
  walked_up (suc n) h =
      let l = walked_up n (λ b m. h b (omega arith)) in
      let k = h n (omega arith) in
      omega arith

  walked_more : (n a : ℕ) → ((b : ℕ) → b < n → pos st b ≤ pos new b) → a < n → pos st a < pos new a → walked st n < walked new n
  walked_more zero a h l m = absurd (not-suc-le-zero l)
  walked_more (suc n) a h l m = go (ℕ_discrete a n) (λ k. walked_more n a (λ b q. h b (omega arith)) k m)
    where
      go : Dec (a ≡ n) → (a < n → walked st n < walked new n) → walked st n + pos st n < walked new n + pos new n
      go (yes e) rest =
          let u = walked_up n (λ b q. h b (omega arith)) in
          let k : pos st n < pos new n = rw (sym e) m in
          omega arith
      go (no d) rest =
          let r = rest (omega arith) in
          let k = h n (omega arith) in
          omega arith

module _ (tb : List ℕ) (good : good_table tb ≡ true) where
  walked_within : (st : List ℕ) → Fits tb st → walked st (agents tb) ≤ 512
  walked_within st f =
      let l = walked_most st (agents tb) (λ b h. let p = f.position b h in let r = few_rows tb good b h in omega arith) in
      let n = few tb good in
      omega arith

  walked_on : (st : List ℕ) → length st ≡ 1105 → Fits tb st → (a t : ℕ) → Allowed tb st a t → walked st (agents tb) < walked (accepted tb st a t) (agents tb)
  walked_on st long f a t c =
      walked_more st (accepted tb st a t) (agents tb) a (λ b h. (new_position tb st good long f a t c b h).0) c.agent
      (pos_rises tb st a t long (let h = c.agent in let n = few tb good in omega arith))

  -- the accepted steps and the positions that they begin at are at most 512 together
  pub count_within : (st : List ℕ) (n : ℕ) (cs : List ℕ) → length st ≡ 1105 → Fits tb st → (run_from tb st n cs).count + walked st (agents tb) ≤ n + 512
  unfolding run_from
  count_within st n [] long f = let w = walked_within st f in omega arith
  count_within st n (a ∷ []) long f = let w = walked_within st f in omega arith
  count_within st n (a ∷ t ∷ cs) long f = go (choice_reply tb st a t) refl (λ h. count_within (accepted tb st a t) (n + 1) cs (accepted_long h) (accepted_is tb st good long f a t (allowed tb st a t h)))
    where
      accepted_long : choice_reply tb st a t ≡ 0 → length (accepted tb st a t) ≡ 1105
      accepted_long h = let c = (allowed tb st a t h).agent in accepted_length tb st a t long (omega (arith, few tb good))

      go : (r : ℕ) → choice_reply tb st a t ≡ r
          → (choice_reply tb st a t ≡ 0 → (run_from tb (accepted tb st a t) (n + 1) cs).count + walked (accepted tb st a t) (agents tb) ≤ n + 1 + 512)
          → (run_from tb st n (a ∷ t ∷ cs)).count + walked st (agents tb) ≤ n + 512
      go zero e rest =
          let l = rest e in
          let w = walked_on st long f a t (allowed tb st a t e) in
          rw (run_go tb st n a t cs e) (omega arith)
      go (suc r) e rest = let w = walked_within st f in rw (run_stop tb st n a t cs r e) (omega arith)

  pub count_from_start : length tb ≡ 2129 → (cs : List ℕ) → (run_from tb (start_words tb) 0 cs).count ≤ 512
  count_from_start long cs =
      let h = count_within (start_words tb) 0 cs (start_length tb (omega arith)) (start_is tb good long) in
      omega arith
