-- 01's example as text: the lines of its table. Assumes nothing.
use Rattle.std.specs.Prelude.{List, ◌++◌, ℕ}
use Rattle.tables.specs.Lines.{end_line}
use Rattle.digits.specs.Hex.{hex_line}

unfoldable pub example_text : List ℕ
example_text =
    hex_line 36 0x000000000005000000000000000000000000
    ++ (hex_line 36 0x010020000000000000070000000100000003
    ++ (hex_line 36 0x000100000000000000000000000000000000
    ++ (hex_line 36 0x010130010000000000070000000400000008
    ++ end_line)))
