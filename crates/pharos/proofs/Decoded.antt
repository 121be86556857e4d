-- Words that stand for published system states have all that is proved of `Coded`.
use mathlib.Core.Path.{subst, ap, ◌∙◌}
use Rattle.pharos.specs.Published.{Types, Assumptions}
use Rattle.pharos.specs.Model.{Good, step}
use Rattle.pharos.specs.Coded.{Coded}
use Rattle.pharos.specs.Decoded.{Decoded}
use Rattle.pharos.proofs.Instance.{model, system, executes_is_step}

module _ {T : Types} (ok : Assumptions T) (D : Decoded T) where
  open D use {Words, Fit, decode, accepts, move, does, at_time, stays}

  abbrev pub coded : Coded (model T ok)
  coded = record {
    Words = Words;
    Fit = Fit;
    system = λ w. system T ok (decode w);
    accepts = accepts;
    move = move;
    good = λ w a t fit y. subst (λ u. Good (system T ok (decode w)) a u) (at_time w a t fit y) (executes_is_step T ok (does w a t fit y)).0;
    moves = λ w a t fit y. (executes_is_step T ok (does w a t fit y)).1 ∙ ap (step (system T ok (decode w)) a) (at_time w a t fit y);
    stays = stays;
  }
