-- `put_table` meets its contract: the words before the table's end are new, and those past it stay. Assumes nothing.
use mathlib.Core.Path.{sym, ◌∙◌}
use lib.Seq.{length-take-le}
use Rattle.tables.specs.Layout.{table_words}
use Rattle.reading.proofs.reading.put_table.Goals as goal

pub copy-requires : goal.copy-requires
copy-requires c = length-take-le table_words c.args.table.now c.requires.1 ∙ sym c.requires.0
