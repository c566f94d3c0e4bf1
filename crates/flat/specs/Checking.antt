-- What every call asks of the tables first (document 01, "Where each refusal is checked"). Assumes nothing.
use Rattle.std.specs.Prelude.{cond, ⊤, Result, Ok, Err}
use Rattle.tables.specs.Limits.{Limits}
use Rattle.tables.specs.Tables.{Tables, full_size}
use Rattle.sound.specs.Sound.{sound}
use Rattle.flat.specs.declared.replies.TablesFault.{TablesFault}
use Rattle.flat.specs.declared.replies.TablesFault.TheVariants.{TooSmall, NotSound}

-- "41 a lent table is below full size", then "40 not sound"
unfoldable pub tables_check_of : Limits → Tables → Result ⊤ TablesFault
tables_check_of L t = cond (full_size L t) (cond (sound L t) (Ok tt) (Err NotSound)) (Err TooSmall)
