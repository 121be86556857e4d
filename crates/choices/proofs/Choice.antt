-- A choice is accepted exactly when 01 says so: its reply is 0 where these facts hold, and nowhere else. Assumes nothing.
use Rattle.std.proofs.Common.{◌≡◌, ℕ, ◌<◌, ◌≤◌, Bool, true, false, not, ◌&&◌, ◌||◌, eqb, ltb, leb, ◌≢◌, List, [], ◌∷◌, sym, refl, ◌∙◌, ltb-false, ltb-true, le-ltb, lt-ltb, eq-eqb, le-leb, leb-false, leb-true}
use mathlib.Core.Bool.{false≢true}
use borrow.Author.Tests.{lt-leb, eqb-false, not-false, not-true}
use Rattle.tables.specs.Basics.{first, ◌⇒◌, Rule}
use Rattle.tables.specs.Layout.{agents, rows}
use Rattle.tables.proofs.Tests.{and_both}
use Rattle.tables.proofs.Passed.{and_1, and_2, below, all_below_lem, passed}
use Rattle.choices.specs.State.{clock, pos}
use Rattle.choices.specs.Fit.{unfinished, current, in_time}
use Rattle.choices.specs.Step.{choice_reply, InTime, Allowed}

-- no rule of the list whose test holds has the number n
abbrev pub lacks : ℕ → List Rule → Bool
lacks n [] = not (eqb 0 n)
lacks n ((b ⇒ r) ∷ rs) = not (eqb r n && b) && lacks n rs

pub lacking : (n : ℕ) (rs : List Rule) → lacks n rs ≡ true → first rs ≢ n
unfolding first
lacking n [] h e = eqb-false 0 n (not-true (eqb 0 n) h) e
lacking n ((true ⇒ r) ∷ rs) h e =
    false≢true (sym (not-true (eqb r n && true) (and_1 (not (eqb r n && true)) (lacks n rs) h)) ∙ and_both (eqb r n) true (eq-eqb r n e) refl)
lacking n ((false ⇒ r) ∷ rs) h e = lacking n rs (and_2 (not (eqb r n && false)) (lacks n rs) h) e

module _ (tb st : List ℕ) (a : ℕ) where
  -- an unfinished agent's position is below its row count, and the other way round
  pub below_its_rows : unfinished tb st a ≡ true → pos st a < rows tb a
  unfolding unfinished
  below_its_rows h = ltb-true (pos st a) (rows tb a) h

  pub is_unfinished : pos st a < rows tb a → unfinished tb st a ≡ true
  unfolding unfinished
  is_unfinished h = lt-ltb (pos st a) (rows tb a) h

  pub has_ended : rows tb a ≤ pos st a → unfinished tb st a ≡ false
  unfolding unfinished
  has_ended h = le-ltb (pos st a) (rows tb a) h

module _ (tb st : List ℕ) where
  pub in_time_lem : (t : ℕ) → in_time tb st t ≡ true → InTime tb st t
  unfolding in_time unfinished
  in_time_lem t h b hb live =
      let w : (not (ltb (pos st b) (rows tb b)) || leb t (current tb st b).late) ≡ true = below (agents tb) _ h b hb in
      leb-true t (current tb st b).late (rw (lt-ltb (pos st b) (rows tb b) live) at w)

  pub time_in : (t : ℕ) → InTime tb st t → in_time tb st t ≡ true
  unfolding in_time unfinished
  time_in t h = all_below_lem (agents tb) _ (λ b hb. go b hb (ltb (pos st b) (rows tb b)) refl)
    where
      go : (b : ℕ) → b < agents tb → (v : Bool) → ltb (pos st b) (rows tb b) ≡ v
          → (not (ltb (pos st b) (rows tb b)) || leb t (current tb st b).late) ≡ true
      go b hb true e = rw e (le-leb t (current tb st b).late (h b hb (ltb-true (pos st b) (rows tb b) e)))
      go b hb false e = rw e

  module _ (a t : ℕ) where
    pub allowed : choice_reply tb st a t ≡ 0 → Allowed tb st a t
    unfolding choice_reply
    allowed h =
        let clear = passed _ tt h in
        record {
          agent = leb-false _ _ (clear 0);
          unended = leb-false _ _ (clear 1);
          clock = ltb-false _ _ (clear 2);
          early = ltb-false _ _ (clear 3);
          late = in_time_lem t (not-false _ (clear 4));
        }

    pub allowed_reply : Allowed tb st a t → choice_reply tb st a t ≡ 0
    unfolding choice_reply first
    allowed_reply c =
        rw (
          lt-leb (agents tb) a c.agent,
          lt-leb (rows tb a) (pos st a) c.unended,
          le-ltb t (clock st) c.clock,
          le-ltb t (current tb st a).early c.early,
          time_in t c.late,
        )

    -- the first two refusals, which make no use of the agent's row
    pub reply_10 : agents tb ≤ a → choice_reply tb st a t ≡ 10
    unfolding choice_reply first
    reply_10 h = rw (le-leb (agents tb) a h)

    pub reply_11 : a < agents tb → rows tb a ≤ pos st a → choice_reply tb st a t ≡ 11
    unfolding choice_reply first
    reply_11 h e = rw (lt-leb (agents tb) a h, le-leb (rows tb a) (pos st a) e)

    -- the others, each where those before it do not apply
    module _ (low : a < agents tb) (live : pos st a < rows tb a) where
      pub reply_12 : t < clock st → choice_reply tb st a t ≡ 12
      unfolding choice_reply first
      reply_12 h = rw (lt-leb (agents tb) a low, lt-leb (rows tb a) (pos st a) live, lt-ltb t (clock st) h)

      module _ (on : clock st ≤ t) where
        pub reply_13 : t < (current tb st a).early → choice_reply tb st a t ≡ 13
        unfolding choice_reply first
        reply_13 h =
            rw (lt-leb (agents tb) a low, lt-leb (rows tb a) (pos st a) live, le-ltb t (clock st) on, lt-ltb t (current tb st a).early h)

        module _ (opened : (current tb st a).early ≤ t) where
          pub reply_15 : in_time tb st t ≡ false → choice_reply tb st a t ≡ 15
          unfolding choice_reply first
          reply_15 h =
              rw (lt-leb (agents tb) a low, lt-leb (rows tb a) (pos st a) live, le-ltb t (clock st) on, le-ltb t (current tb st a).early opened, h)

          pub reply_0 : in_time tb st t ≡ true → choice_reply tb st a t ≡ 0
          unfolding choice_reply first
          reply_0 h =
              rw (lt-leb (agents tb) a low, lt-leb (rows tb a) (pos st a) live, le-ltb t (clock st) on, le-ltb t (current tb st a).early opened, h)
