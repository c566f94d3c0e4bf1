-- Bytes of the text at a position, and bytes written into a buffer. Assumes nothing.
use Rattle.std.specs.Prelude.{ℕ, ◌+◌, ◌≡◌, List, [], ◌∷◌, Bool, true, ◌&&◌, eqb, length, get_or}
use Rattle.std.proofs.lemmas.List.Edits.{sets}

-- the byte at a position, and 256, which is no byte, past the end
unfoldable pub byte_at : List ℕ → ℕ → ℕ
byte_at text at = get_or text at 256

-- these bytes stand in the text from a position on
unfoldable pub is_at : List ℕ → ℕ → List ℕ → Bool
is_at text at [] = true
is_at text at (b ∷ bytes) = eqb (byte_at text at) b && is_at text (at + 1) bytes

-- the buffer holds these bytes from a position on, as far as it reaches; the rest of it is as it was
pub record Put (before : List ℕ) (at : ℕ) (bytes after : List ℕ) (next : ℕ) : Type 0 where
  pub next_is : next ≡ at + length bytes
  pub written : after ≡ sets before at bytes
