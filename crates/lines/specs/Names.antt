-- The line `name=TEXT`, and the rows of the table of names. "name: 1 to 24 bytes from a-z, 0-9, hyphen"; "Names are compared over all their bytes." "Capitals A to Z are to
-- be allowed, and a capital is the same letter as its small form everywhere names are compared. The tables hold the small form." Assumes nothing.
use Rattle.std.specs.Prelude.{ℕ, zero, suc, ◌+◌, ◌-◌, ◌≡◌, ◌↔◌, List, [], ◌∷◌, ◌++◌, Bool, true, false, cond, ◌&&◌, ◌||◌, leb, eqb, length, take, drop, replicate, Result, Ok, Err}
use Rattle.std.proofs.lemmas.List.Edits.{sets}
use Rattle.tables.specs.Limits.{Limits}
use Rattle.lines.specs.Keys.{line_feed, name_key}
use Rattle.lines.specs.Bytes.{is_at}
use Rattle.lines.specs.declared.refusal.Refusal.{Refusal}
use Rattle.lines.specs.declared.refusal.Refusal.TheVariants.{Form, Name}
use Rattle.lines.specs.declared.names.NameSpan.{NameSpan}

-- how many bytes stand before the first line feed
unfoldable pub until_feed : List ℕ → ℕ
until_feed [] = 0
until_feed (b ∷ s) = cond (eqb b line_feed) 0 (suc (until_feed s))

-- the first line feed at or after a position, or the end of the text
unfoldable pub line_end : List ℕ → ℕ → ℕ
line_end text at = at + until_feed (drop at text)

-- the bytes from a position up to another
abbrev pub part : List ℕ → ℕ → ℕ → List ℕ
part text start end = take (end - start) (drop start text)

-- ---- letters

-- A to Z
unfoldable pub is_capital : ℕ → Bool
is_capital b = leb 65 b && leb b 90

-- the small form of a byte: a capital's small letter, any other byte itself
unfoldable pub small_byte : ℕ → ℕ
small_byte b = cond (is_capital b) (b + 32) b

-- .. and of a text
unfoldable pub small_form : List ℕ → List ℕ
small_form [] = []
small_form (b ∷ s) = small_byte b ∷ small_form s

-- ---- names

-- a byte of a name in the tables: a-z, 0-9, hyphen
unfoldable pub is_name_byte : ℕ → Bool
is_name_byte b = cond (leb 97 b) (leb b 122) (cond (leb 48 b) (leb b 57) (eqb b 45))

unfoldable pub name_bytes : List ℕ → Bool
name_bytes [] = true
name_bytes (b ∷ s) = is_name_byte b && name_bytes s

unfoldable pub good_name : Limits → List ℕ → Bool
good_name L s = leb 1 (length s) && (leb (length s) L.name && name_bytes s)

-- a byte of a name in a text: A-Z too
unfoldable pub is_text_byte : ℕ → Bool
is_text_byte b = is_capital b || is_name_byte b

unfoldable pub text_bytes : List ℕ → Bool
text_bytes [] = true
text_bytes (b ∷ s) = is_text_byte b && text_bytes s

unfoldable pub text_name : Limits → List ℕ → Bool
text_name L s = leb 1 (length s) && (leb (length s) L.name && text_bytes s)

-- where the text of a name that was read starts and ends
abbrev pub name_span : ℕ → ℕ → Result NameSpan Refusal
name_span s e = Ok (record { start = s; end = e })

-- a line `name=TEXT` whose text passes a test: where the text starts and ends. A line without its line feed is no line
abbrev pub named_at : (List ℕ → Bool) → List ℕ → ℕ → Result NameSpan Refusal
named_at good text at =
    let start = at + length name_key in
    let end = line_end text start in
    cond (is_at text at name_key)
    (cond (eqb end (length text)) (Err (Form at)) (cond (good (part text start end)) (name_span start end) (Err (Name at))))
    (Err (Form at))

unfoldable pub name_at : Limits → List ℕ → ℕ → Result NameSpan Refusal
name_at L text at = named_at (text_name L) text at

abbrev pub name_line : List ℕ → List ℕ
name_line name = name_key ++ name ++ line_feed ∷ []

-- ---- rows of the table of names

-- a row: the name, and zeros up to the longest name's length
abbrev pub row_of : Limits → List ℕ → List ℕ
row_of L name = sets (replicate L.name 0) 0 name

-- the name in a row: the bytes before the first zero
unfoldable pub name_of : List ℕ → List ℕ
name_of [] = []
name_of (b ∷ row) = cond (eqb b 0) [] (b ∷ name_of row)

-- "Names are compared over all their bytes": names have equal rows exactly when they are equal, so comparing rows compares names
abbrev pub RowsTellNames : Limits → Type 0
RowsTellNames L = (a b : List ℕ) → good_name L a ≡ true → good_name L b ≡ true → (row_of L a ≡ row_of L b) ↔ (a ≡ b)

-- one of the n rows from a position on is this row, over all its bytes
unfoldable pub among : Limits → ℕ → List ℕ → ℕ → List ℕ → Bool
among L zero names at row = false
among L (suc n) names at row = is_at names at row || among L n names (at + L.name) row
