-- The plan's form, as the first line of the text names it (request 14). Assumes nothing.
use Rattle.std.specs.Prelude.{ℕ, List, cond, ◌&&◌, leb}
use Rattle.tables.specs.Limits.{Limits}
use Rattle.lines.specs.Keys.{first_line}
use Rattle.lines.specs.Bytes.{is_at}

-- 1 of a `plan=1` text, 2 of a `plan=2` text, each if the board knows that form; 0 of any other text. "Older boards refuse `plan=2` with 2"
unfoldable pub form_at : Limits → List ℕ → ℕ
form_at L text = cond (leb 1 L.form && is_at text 0 (first_line 1)) 1 (cond (leb 2 L.form && is_at text 0 (first_line 2)) 2 0)
