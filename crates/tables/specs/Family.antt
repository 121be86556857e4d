-- "They fall in families by range: 00 to 0F, 10 to 1F, 20 to 2F, 30 to 3F; an op not in the table is refused." Assumes nothing.
use Rattle.std.specs.Prelude.{ℕ, ◌&&◌, cond, leb, eqb}
use Rattle.tables.specs.declared.Family.{Family}
use Rattle.tables.specs.declared.Family.TheVariants.{Local, Move, Send, Receive, Unknown}

unfoldable pub family_of : ℕ → Family
family_of op =
    cond (leb 0x00 op && leb op 0x04) Local
    (cond (leb 0x10 op && leb op 0x11) Move
    (cond (eqb op 0x20) Send
    (cond (eqb op 0x30) Receive
    Unknown)))
