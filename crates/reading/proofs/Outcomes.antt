-- The outcome of a read, by the replies of its three passes. Assumes nothing.
use mathlib.Core.Path.{◌≡◌, refl, sym, ap, ◌∙◌}
use mathlib.Core.Bool.{Bool, true, false}
use mathlib.Core.List.{List, ◌++◌, append-nil}
use Prim.Native.Nat.{ℕ, zero, suc, ◌≤◌, ◌<◌}
use lib.ListN.{length, drop, replicate, length-replicate, drop_of_length-le}
use lib.Dec.{ltb}
use native.Mathlib.Omega.{arith}
use borrow.Author.Tests.{lt-ltb, le-ltb, ltb-true, ltb-false}
use Rattle.std.specs.Prelude.{Result, Ok, Err}
use Rattle.tables.specs.Replies.{reply}
use Rattle.tables.specs.declared.replies.Refusal.{Refusal}
use Rattle.tables.proofs.Refusals.{no_zero}
use Rattle.tables.specs.Layout.{table_words}
use Rattle.tables.specs.Frames.{Frame, frames_of}
use Rattle.reading.specs.Reader.{told, told_of, told_at, in_place, rows_good, table_climbs, first_told, frames_reply, table_of}
use Rattle.reading.specs.Calls.{ReadOutcome, read_outcome, frames_into, read_into, Read}
use Rattle.reading.specs.declared.Refused.{Refused}
use Rattle.reading.specs.declared.Told.{Told}

-- ---- an answer to line n, by what it replies

module _ (n : ℕ) (q : Result Unit Refusal) where
  pub told_refused : (r : ℕ) → reply q ≡ r → (r ≡ 0 → ⊥) → told_at n q ≡ told r n
  unfolding reply
  told_refused r e k = go q e
    where
      go : (q : Result Unit Refusal) → reply q ≡ r → told_at n q ≡ told r n
      go (Ok _) e = absurd (k (sym e))
      go (Err f) e = ap (λ (m : ℕ). told m n) e

  pub answer_accepted : told 0 0 ≡ told_at n q → reply q ≡ 0
  unfolding reply
  answer_accepted e = go q e
    where
      go : (q : Result Unit Refusal) → told 0 0 ≡ told_at n q → reply q ≡ 0
      go (Ok _) e = refl
      go (Err f) e = ap (λ (t : Told). t.reply) (sym e)

  pub answer_refused : (f : Refused) → told_of (Err f) ≡ told_at n q → reply q ≡ 0 → ⊥
  unfolding reply
  answer_refused f e z = go q e z
    where
      go : (q : Result Unit Refusal) → told_of (Err f) ≡ told_at n q → reply q ≡ 0 → ⊥
      go (Ok _) e z = no_zero f.refusal (ap (λ (t : Told). t.reply) e)
      go (Err g) e z = no_zero g z

-- ---- the first of two that are told

module _ (t u : Told) where
  by : (r : ℕ) → t.reply ≡ r → first_told t u ≡ elim r as (λ _. Told) [ zero ↦ u | suc q ↦ t ]
  unfolding first_told
  by r h = ap {B = Told} (λ (m : ℕ). elim m as (λ _. Told) [ zero ↦ u | suc q ↦ t ]) h

  pub told_then : t.reply ≡ 0 → first_told t u ≡ u
  told_then h = by 0 h

  pub told_first : (t.reply ≡ 0 → ⊥) → first_told t u ≡ t
  told_first k = go t.reply refl
    where
      go : (r : ℕ) → t.reply ≡ r → first_told t u ≡ t
      go zero h = absurd (k h)
      go (suc r) h = by (suc r) h

  pub told_neither : (first_told t u).reply ≡ 0 → (t.reply ≡ 0) × (u.reply ≡ 0)
  told_neither z = go t.reply refl
    where
      go : (r : ℕ) → t.reply ≡ r → (r ≡ 0) × (u.reply ≡ 0)
      go zero h = (refl, ap (λ (v : Told). v.reply) (sym (told_then h)) ∙ z)
      go (suc r) h = absurd (let y = ap (λ (v : Told). v.reply) (by (suc r) h) in omega arith)

-- ---- the reply to frames, by the first pass that refuses

module _ (fs : List Frame) where
  pub not_placed : (t : Told) → t ≡ in_place 1 0 0 fs → (t.reply ≡ 0 → ⊥) → t ≡ frames_reply fs
  unfolding frames_reply
  not_placed t e k = e ∙ sym (told_first _ _ (λ z. k (ap (λ (u : Told). u.reply) e ∙ z)))

  module _ (placed : (in_place 1 0 0 fs).reply ≡ 0) where
    pub not_passed : (t : Told) → t ≡ rows_good 1 0 0 fs → (t.reply ≡ 0 → ⊥) → t ≡ frames_reply fs
    unfolding frames_reply
    not_passed t e k = e ∙ sym (told_then _ _ placed ∙ told_first _ _ (λ z. k (ap (λ (u : Told). u.reply) e ∙ z)))

    pub all_passed : (rows_good 1 0 0 fs).reply ≡ 0 → table_climbs (table_of fs) 1 ≡ frames_reply fs
    unfolding frames_reply
    all_passed h = sym (told_then _ _ placed ∙ told_then _ _ h)

  module _ (h : (frames_reply fs).reply ≡ 0) where
    neither : ((in_place 1 0 0 fs).reply ≡ 0) × ((first_told (rows_good 1 0 0 fs) (table_climbs (table_of fs) 1)).reply ≡ 0)
    unfolding frames_reply
    neither = told_neither _ _ h

    pub accepted_placed : (in_place 1 0 0 fs).reply ≡ 0
    accepted_placed = neither.0

    pub accepted_rows : (rows_good 1 0 0 fs).reply ≡ 0
    accepted_rows = (told_neither _ _ neither.1).0

    pub accepted_climbs : (table_climbs (table_of fs) 1).reply ≡ 0
    accepted_climbs = (told_neither _ _ neither.1).1

-- ---- what a read leaves, by the reply to its frames

module _ (fs : List Frame) where
  abbrev by_reply : List ℕ → ℕ → ReadOutcome
  by_reply tb m =
      elim m [
        | zero ↦ read_outcome (frames_reply fs) (table_of fs ++ drop table_words tb)
        | suc q ↦ read_outcome (frames_reply fs) tb
      ]

  refused : (tb : List ℕ) (r : ℕ) → (frames_reply fs).reply ≡ r → (r ≡ 0 → ⊥) → frames_into tb fs ≡ read_outcome (frames_reply fs) tb
  unfolding frames_into
  refused tb zero h k = absurd (k refl)
  refused tb (suc r) h k = ap (by_reply tb) h

  accepted : (tb : List ℕ) → (frames_reply fs).reply ≡ 0 → frames_into tb fs ≡ read_outcome (frames_reply fs) (table_of fs ++ drop table_words tb)
  unfolding frames_into
  accepted tb h = ap (by_reply tb) h

module _ (text tb : List ℕ) where
  pub short_table : length tb < table_words → read_outcome (told 1 0) tb ≡ read_into text tb
  unfolding read_into
  short_table h = rw (lt-ltb _ _ h, read_into)

  module _ (long : table_words ≤ length tb) where
    into : read_into text tb ≡ frames_into tb (frames_of text)
    unfolding read_into
    into = rw (le-ltb _ _ long, read_into)

    module _ (t : Told) (e : t ≡ frames_reply (frames_of text)) where
      pub read_refused : (t.reply ≡ 0 → ⊥) → read_outcome t tb ≡ read_into text tb
      read_refused k =
          ap (λ (u : Told). read_outcome u tb) e ∙ sym (into ∙ refused (frames_of text) tb t.reply (ap (λ (u : Told). u.reply) (sym e)) k)

      pub read_accepted : t.reply ≡ 0 → (words : List ℕ) → words ≡ table_of (frames_of text) → read_outcome t (words ++ drop table_words tb) ≡ read_into text tb
      read_accepted z words w =
          (λ k. read_outcome (e k) (w k ++ drop table_words tb)) ∙ sym (into ∙ accepted (frames_of text) tb (ap (λ (u : Told). u.reply) (sym e) ∙ z))

-- ---- a read that was accepted

module _ (text tb : List ℕ) (t : Told) (after : List ℕ) (r : Read text tb t after) (z : t.reply ≡ 0) where
  accepted_into : ltb (length tb) table_words ≡ false
  unfolding read_into
  accepted_into = go (ltb (length tb) table_words) refl
    where
      go : (b : Bool) → ltb (length tb) table_words ≡ b → b ≡ false
      go true e =
          let y = ap (λ (o : ReadOutcome). o.told.reply) (r ∙ sym (short_table text tb (ltb-true _ _ e))) in absurd (omega arith)
      go false e = refl

  pub accepted_read : ((frames_reply (frames_of text)).reply ≡ 0) × (after ≡ table_of (frames_of text) ++ drop table_words tb)
  accepted_read = go (frames_reply (frames_of text)).reply refl
    where
      go : (n : ℕ) → (frames_reply (frames_of text)).reply ≡ n → (n ≡ 0) × (after ≡ table_of (frames_of text) ++ drop table_words tb)
      go zero e =
          (refl, ap (λ (o : ReadOutcome). o.table) (r ∙ into text tb (ltb-false _ _ accepted_into) ∙ accepted (frames_of text) tb e))
      go (suc n) e =
          let q = r ∙ into text tb (ltb-false _ _ accepted_into) ∙ refused (frames_of text) tb (suc n) e (λ u. omega arith) in
          let y = ap (λ (o : ReadOutcome). o.told.reply) q in
          absurd (omega arith)

-- ---- a blank table to read into

abbrev pub blank : List ℕ
blank = replicate table_words 0

pub blank_length : length blank ≡ table_words
blank_length = length-replicate {A = ℕ} table_words 0

-- ---- the reply of a read, whatever it is, and the table that it gives a buffer of just its words

pub read_told : (text tb : List ℕ) → table_words ≤ length tb → (read_into text tb).told ≡ frames_reply (frames_of text)
read_told text tb long = ap (λ (o : ReadOutcome). o.told) (into text tb long) ∙ go (frames_reply (frames_of text)).reply refl
  where
    go : (n : ℕ) → (frames_reply (frames_of text)).reply ≡ n → (frames_into tb (frames_of text)).told ≡ frames_reply (frames_of text)
    go zero e = ap (λ (o : ReadOutcome). o.told) (accepted (frames_of text) tb e)
    go (suc n) e = ap (λ (o : ReadOutcome). o.told) (refused (frames_of text) tb (suc n) e (λ u. omega arith))

pub read_table : (text tb : List ℕ) → length tb ≡ table_words → (frames_reply (frames_of text)).reply ≡ 0 → (read_into text tb).table ≡ table_of (frames_of text)
read_table text tb long h =
    ap (λ (o : ReadOutcome). o.table) (into text tb (omega arith) ∙ accepted (frames_of text) tb h)
    ∙ ap (λ (l : List ℕ). table_of (frames_of text) ++ l) (drop_of_length-le tb {i = table_words} (omega arith))
    ∙ append-nil (table_of (frames_of text))
