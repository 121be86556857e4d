-- What `read` accepts, `check` accepts. Assumes nothing.
use mathlib.Core.Path.{refl, sym}
use Rattle.reading.specs.Calls.{read_into}
use Rattle.reading.specs.Laws.{ReadIsChecked}
use Rattle.reading.proofs.ReadGood.{read_checked}

pub read_is_checked : ReadIsChecked
read_is_checked text tb accepted = sym (read_checked text tb (read_into text tb).told (read_into text tb).table refl accepted)
