-- An accepted step of the words is the published model's step of what they stand for. Assumes nothing.
use mathlib.Core.Path.{◌≡◌, refl, sym, ap, subst, ◌∙◌, fun_ext}
use mathlib.Core.Logic.{ite, by_cases}
use mathlib.Core.Bool.{true, false, cond}
use mathlib.Core.Option.{some}
use mathlib.Core.List.{List}
use Prim.Native.Nat.{ℕ, ◌<◌}
use native.Mathlib.Decide.{dec_lt, ℕ_discrete}
use native.Mathlib.Omega.{arith}
use lib.Dec.{leb, eqb}
use lib.ListN.{length, get_or}
use borrow.Author.Tests.{lt-leb, leb-false, eq-eqb, ne_eqb}
use Rattle.pharos.specs.Published.{except, GoodNextTime, Received, exec, executes}
use Rattle.tables.specs.Layout.{agents, rows}
use Rattle.tables.specs.Table.{good_table}
use Rattle.choices.specs.declared.Agent.{Agent}
use Rattle.choices.specs.declared.Message.{Message}
use Rattle.std.specs.Prelude.{Option as Maybe, None}
use Rattle.choices.specs.State.{pos, pool, agent_at}
use Rattle.choices.specs.Messages.{best}
use Rattle.choices.specs.Effect.{after}
use Rattle.choices.specs.Fit.{current}
use Rattle.choices.specs.Step.{accepted, Allowed as Accepts}
use Rattle.tables.proofs.Good.{few, few_rows}
use Rattle.executive.proofs.Fitting.{Fits}
use Rattle.choices.proofs.After.{next, accepted_clock, accepted_self, accepted_agent_other, sent_own_mark, sent_own_value, mark_away, value_away, mark_unsent, value_unsent}
use Rattle.demands.specs.Reasons.{ModelAllows}
use Rattle.demands.proofs.Allowed.{allowed}
use Rattle.demands.specs.Instance.{published, dated, state_of, sent_of, decode}
use Rattle.demands.proofs.Rows.{value_of, effect, posted, after_other}
use Rattle.demands.proofs.Decode.{state_low, state_high, sent_some, sent_same}
use Rattle.demands.proofs.Received.{gets, gets_none}

-- ---- what the executive accepts is what the model allows

module _ (tb st : List ℕ) (good : good_table tb ≡ true) where
  pub low : {b : ℕ} → b < agents tb → b < 16
  low h = omega (arith, few tb good)

  module _ (a t : ℕ) where
    pub live : Accepts tb st a t → leb (rows tb a) (state_of tb st a).pos ≡ false
    live c = rw (state_low tb st a (low c.agent)) (lt-leb _ _ c.unended)

    pub good_time : Accepts tb st a t → GoodNextTime (published tb) (decode tb st) a t
    good_time c = record {
      after = c.clock;
      begun = rw (state_low tb st a (low c.agent)) c.early;
      fits = λ b h unended. rw (state_low tb st b (low h)) (c.late b h (leb-false _ _ (rw (state_low tb st b (low h)) at unended)));
    }

    pub accepts_allowed : Accepts tb st a t → ModelAllows (decode tb st) a t
    accepts_allowed c = allowed c.agent (live c) (good_time c)

    pub allowed_accepts : ModelAllows (decode tb st) a t → Accepts tb st a t
    allowed_accepts (post, at, e) =
        let in_words = state_low tb st a (low e.real) in
        let g = subst (GoodNextTime (published tb) (decode tb st) a) at e.good in
        record {
          agent = e.real;
          unended = leb-false _ _ (rw in_words at e.live);
          clock = g.after;
          early = rw in_words at g.begun;
          late = λ b h unended. rw (state_low tb st b (low h)) at (g.fits b h (rw (state_low tb st b (low h)) (lt-leb _ _ unended)));
        }

-- ---- the step

module _ (tb st : List ℕ) (good : good_table tb ≡ true) (long : length st ≡ 1105) (f : Fits tb st) (a t : ℕ) (c : Accepts tb st a t) where
  low_agent : a < 16
  low_agent = low tb st good c.agent

  within : pos st a < 32
  within = let h = c.unended in omega (arith, few_rows tb good a c.agent)

  abbrev new : List ℕ
  new = accepted tb st a t

  -- the agents' states
  new_state : (x : Agent) → x ≡ next tb st a → (b : ℕ) (d : Dec (a ≡ b)) → state_of tb new b ≡ ite d x (state_of tb st b)
  new_state x e b (yes p) =
      ap (state_of tb new) (sym p) ∙ state_low tb new a low_agent ∙ accepted_self tb st a t long low_agent ∙ sym e
  new_state x e b (no n) =
      by_cases (dec_lt b 16)
      (λ h. state_low tb new b h ∙ accepted_agent_other tb st a t long low_agent b h (λ p. n (sym p)) ∙ sym (state_low tb st b h))
      (λ h. state_high tb new b (omega arith) ∙ sym (state_high tb st b (omega arith)))

  -- the messages
  abbrev register : ℕ
  register = get_or (agent_at st a).regs (current tb st a).x 0

  away : (b i : ℕ) → ((b ≡ a) × (i ≡ pos st a) → ⊥) → sent_of new b i ≡ sent_of st b i
  away b i n = sent_same new st b i (λ h l. (mark_away tb st a t long low_agent within b i h l n, value_away tb st a t long low_agent within b i h l n))

  own_sent : (current tb st a).op ≡ 0x20 → (i : ℕ) (d : Dec (pos st a ≡ i)) → sent_of new a i ≡ ite d (some register) (sent_of st a i)
  own_sent op i (yes p) =
      ap (sent_of new a) (sym p)
      ∙ sent_some new a (pos st a) low_agent within (sent_own_mark tb st a t long low_agent within op)
      ∙ ap some (sent_own_value tb st a t long low_agent within op)
  own_sent op i (no n) = away a i (λ q. n (sym q.1))

  new_sent : (current tb st a).op ≡ 0x20 → (b i : ℕ) (d : Dec (a ≡ b))
      → sent_of new b i ≡ ite d (except (sent_of st a) (pos st a) (some register)) (sent_of st b) i
  new_sent op b i (yes p) = ap (λ c. sent_of new c i) (sym p) ∙ own_sent op i (ℕ_discrete (pos st a) i)
  new_sent op b i (no n) = away b i (λ q. n (sym q.0))

  new_messages : sent_of new ≡ cond (eqb (current tb st a).op 0x20) (except (sent_of st) a (except (sent_of st a) (pos st a) (some register))) (sent_of st)
  new_messages = by_cases (ℕ_discrete (current tb st a).op 0x20)
      (λ op. rw (eq-eqb _ _ op) (fun_ext λ b. fun_ext λ i. new_sent op b i (ℕ_discrete a b)))
      (λ other. rw (ne_eqb _ _ other) (fun_ext λ b. fun_ext λ i. sent_same new st b i (λ h l.
      (mark_unsent tb st a t long low_agent within b i h l other, value_unsent tb st a t long low_agent within b i h l other))))

  abbrev Does : Type 0
  Does = executes (published tb) a (decode tb st) (decode tb new)

  -- where the model's receive gets what the message m is to the executive
  by_message : (m : Maybe Message) → Received (published tb) (sent_of st) (dated (current tb st a)) (value_of m)
      → after (current tb st a) m (agent_at st a) ≡ next tb st a → Does
  by_message m received same =
      let in_words = state_low tb st a low_agent in
      record {
        real = c.agent;
        live = live tb st good a t c;
        good = subst (GoodNextTime (published tb) (decode tb st) a) (sym (accepted_clock tb st a t long low_agent)) (good_time tb st good a t c);
        got = value_of m;
        received = rw in_words received;
        st = fun_ext λ b. new_state _ (ap (λ s. (exec (published tb) a s (sent_of st) (value_of m)).0) in_words ∙ effect tb a (agent_at st a) (sent_of st) (current tb st a) m ∙ same) b (ℕ_discrete a b);
        msgs = new_messages ∙ sym (posted tb a (agent_at st a) (sent_of st) (current tb st a) (value_of m)) ∙ ap (λ s. (exec (published tb) a s (sent_of st) (value_of m)).1) (sym in_words);
      }

  pub does : Does
  does =
      let m = best tb (pool st) (current tb st a) in
      by_cases (ℕ_discrete (current tb st a).op 0x30)
      (λ op. by_message m (gets tb st good f (current tb st a) op) refl)
      (λ other. by_message None (gets_none tb st good f (current tb st a) other) (after_other (current tb st a) m (agent_at st a) other))
