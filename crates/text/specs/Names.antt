-- Where the names of a text stand, and the text with its names in small letters. Assumes nothing.
use Rattle.std.specs.Prelude.{ℕ, zero, suc, ◌+◌, List, Bool, cond, ◌&&◌, leb, eqb, length}
use Rattle.below.specs.Below.{list_below}
use Rattle.lines.specs.Keys.{line_feed, name_key}
use Rattle.lines.specs.Bytes.{byte_at, is_at}
use Rattle.lines.specs.Names.{small_byte}

-- where the line of byte i begins: after the last line feed before it
unfoldable pub line_start : List ℕ → ℕ → ℕ
line_start text zero = zero
line_start text (suc i) = cond (eqb (byte_at text i) line_feed) (suc i) (line_start text i)

-- byte i stands in a name: its line begins with `name=`, and it comes after that
unfoldable pub in_name : List ℕ → ℕ → Bool
in_name text i = is_at text (line_start text i) name_key && leb (line_start text i + length name_key) i

-- the text with its names in small letters
unfoldable pub names_small : List ℕ → List ℕ
names_small text = list_below (length text) (λ i. cond (in_name text i) (small_byte (byte_at text i)) (byte_at text i))
