use mathlib.Core.Path.{sym, ◌∙◌}
use lib.ListN.{take, drop}
use Rattle.tables.specs.Lines.{end_line}
use Rattle.tables.specs.Heads.{end_at}
use Rattle.std.proofs.lemmas.List.{take_rest}
use Rattle.tables.proofs.Lines.{same_slices}
use Rattle.tables.proofs.frames.is_end.Goals as goal

pub returns : goal.returns
unfolding end_at
returns c =
    let g = c.args in
    rw (take_rest g.text.now g.at) at c.starts_with.ensures.value ∙ sym (same_slices (take 3 (drop g.at g.text.now)) end_line)
