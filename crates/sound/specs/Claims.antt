-- What is claimed of sound tables. Assumes nothing.
use Rattle.std.specs.Prelude.{◌≡◌, true, false, ℕ, ◌<◌}
use Rattle.tables.specs.Limits.{Limits}
use Rattle.tables.specs.Tables.{Tables, drones}
use Rattle.lines.specs.Names.{is_capital}
use Rattle.sound.specs.Sound.{name_byte, sound}

-- "The tables hold the small form, and with a capital in a name they are not sound"
abbrev pub CapitalNotSound : Limits → Type 0
CapitalNotSound L = (t : Tables) (d i : ℕ) → d < drones t.plan → i < L.name → is_capital (name_byte L t.plan.names d i) ≡ true → sound L t ≡ false
