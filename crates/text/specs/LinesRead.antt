-- The plan text as a whole, read line by line: what was read before the first fault, and the answer. Each is a function of the text alone, or of the text and its form. Assumes nothing.
use Rattle.std.specs.Prelude.{ℕ, zero, suc, ◌+◌, ◌*◌, ◌≡◌, List, [], ◌∷◌, ◌++◌, Bool, true, false, cond, ◌&&◌, ◌||◌, ltb, eqb, length, Err, Ok, Result}
use Rattle.std.proofs.lemmas.List.Edits.{sets}
use Rattle.tables.specs.Limits.{Limits}
use Rattle.lines.specs.Keys.{first_line, agents_key, stops_key, last_line}
use Rattle.lines.specs.Forms.{form_at}
use Rattle.lines.specs.Bytes.{is_at}
use Rattle.lines.specs.Stops.{count_at, StopList, stops_at}
use Rattle.lines.specs.Names.{small_form, part, name_at, row_of}
use Rattle.lines.specs.declared.refusal.Refusal.TheVariants.{Form, TooManyStops, SameName}
use Rattle.lines.specs.declared.names.NameSpan.{NameSpan}
use Rattle.text.specs.declared.reader.DroneLines.{DroneLines}
use Rattle.lines.specs.declared.refusal.Refusal.{Refusal}
use Rattle.lines.specs.declared.numbers.Number.{Number}

-- the plan's form, 0 where the first line is at fault; rows of names, counts of stops, locations, times and legs, in the order of the text and up to the first fault; and the answer
pub record LinesRead (A : Type 0) : Type 0 where
  pub form : ℕ
  pub rows : List (List ℕ)
  pub counts : List ℕ
  pub locations : List ℕ
  pub times : List ℕ
  pub legs : List ℕ
  pub answer : A

abbrev pub nothing : {A : Type 0} → ℕ → A → LinesRead A
nothing form r = record { form = form; rows = []; counts = []; locations = []; times = []; legs = []; answer = r }

-- the lines of drones were read up to a position, with so many stops so far
abbrev pub read_to : ℕ → ℕ → Result DroneLines Refusal
read_to e t = Ok (record { next = e; total = t })

-- ---- the lines `stops=` and `go=` of a drone, after `total` stops of earlier drones

abbrev pub stops_end : ℕ → Result ℕ Refusal → Result DroneLines Refusal
stops_end total (Ok e) = read_to e total
stops_end total (Err r) = Err r

-- m stops of a drone
abbrev pub stops_given : (form m total : ℕ) → StopList → LinesRead (Result DroneLines Refusal)
stops_given form m total s = record { form = form; rows = []; counts = m ∷ []; locations = s.locations; times = s.times; legs = s.legs; answer = stops_end (total + m) s.answer }

-- "6 at a `stops=` line, the M read so far, this one included, add up to more than the limit for all drones"
abbrev pub stops_of : Limits → ℕ → List ℕ → ℕ → ℕ → Result Number Refusal → LinesRead (Result DroneLines Refusal)
stops_of L form text at total (Err r) = nothing form (Err r)
stops_of L form text at total (Ok count) = cond (ltb L.stops (total + count.value)) (nothing form (Err (TooManyStops at))) (stops_given form count.value total (stops_at L form 0 count.value text count.next))

unfoldable pub stops_read : Limits → ℕ → List ℕ → ℕ → ℕ → LinesRead (Result DroneLines Refusal)
stops_read L form text at total = stops_of L form text at total (count_at text at stops_key L.stops)

-- ---- the lines of a drone, where `earlier` tells the rows of earlier drones

abbrev pub with_row : List ℕ → LinesRead (Result DroneLines Refusal) → LinesRead (Result DroneLines Refusal)
with_row row f = record { form = f.form; rows = row ∷ []; counts = f.counts; locations = f.locations; times = f.times; legs = f.legs; answer = f.answer }

-- "5 name equal to an earlier one": rows are compared, and `RowsTellNames` says that rows are equal exactly when names are; "The tables hold the small form", and "The rule of one name for one drone follows the new comparison"
abbrev pub drone_of : Limits → ℕ → List ℕ → ℕ → ℕ → (List ℕ → Bool) → Result NameSpan Refusal → LinesRead (Result DroneLines Refusal)
drone_of L form text at total earlier (Err r) = nothing form (Err r)
drone_of L form text at total earlier (Ok span) =
    cond (earlier (row_of L (small_form (part text span.start span.end)))) (nothing form (Err (SameName at))) (with_row (row_of L (small_form (part text span.start span.end))) (stops_read L form text (span.end + 1) total))

unfoldable pub drone_at : Limits → ℕ → List ℕ → ℕ → ℕ → (List ℕ → Bool) → LinesRead (Result DroneLines Refusal)
drone_at L form text at total earlier = drone_of L form text at total earlier (name_at L text at)

-- ---- the lines of n drones, after those of the earlier rows, which had `total` stops

-- two lists of bytes are equal
unfoldable pub same : List ℕ → List ℕ → Bool
same [] [] = true
same [] (b ∷ y) = false
same (a ∷ x) [] = false
same (a ∷ x) (b ∷ y) = eqb a b && same x y

unfoldable pub elem : List (List ℕ) → List ℕ → Bool
elem [] row = false
elem (r ∷ rs) row = same r row || elem rs row

-- what was read first, and then
abbrev pub joined : LinesRead (Result DroneLines Refusal) → LinesRead (Result DroneLines Refusal) → LinesRead (Result DroneLines Refusal)
joined f g = record {
  form = f.form;
  rows = f.rows ++ g.rows;
  counts = f.counts ++ g.counts;
  locations = f.locations ++ g.locations;
  times = f.times ++ g.times;
  legs = f.legs ++ g.legs;
  answer = g.answer;
}

abbrev pub and_then : LinesRead (Result DroneLines Refusal) → Result DroneLines Refusal → (ℕ → ℕ → LinesRead (Result DroneLines Refusal)) → LinesRead (Result DroneLines Refusal)
and_then f (Ok lines) more = joined f (more lines.next lines.total)
and_then f (Err r) more = f

unfoldable pub drones_at : Limits → (form n : ℕ) → List ℕ → ℕ → List (List ℕ) → ℕ → LinesRead (Result DroneLines Refusal)
drones_at L form zero text at earlier total = nothing form (read_to at total)
drones_at L form (suc n) text at earlier total =
    and_then (drone_at L form text at total (elem earlier)) (drone_at L form text at total (elem earlier)).answer
    (λ e t. drones_at L form n text e (earlier ++ (drone_at L form text at total (elem earlier)).rows) t)

-- ---- the whole text

-- "last `end=plan`", "Nothing follows the last line."
abbrev pub ending : List ℕ → ℕ → Result DroneLines Refusal → Result ℕ Refusal
ending text n (Err r) = Err r
ending text n (Ok lines) =
    cond (is_at text lines.next last_line) (cond (eqb (lines.next + length last_line) (length text)) (Ok n) (Err (Form (lines.next + length last_line)))) (Err (Form lines.next))

abbrev pub with_answer : ℕ → Result ℕ Refusal → LinesRead (Result DroneLines Refusal) → LinesRead (Result ℕ Refusal)
with_answer form a f = record { form = form; rows = f.rows; counts = f.counts; locations = f.locations; times = f.times; legs = f.legs; answer = a }

abbrev pub finish : ℕ → List ℕ → ℕ → LinesRead (Result DroneLines Refusal) → LinesRead (Result ℕ Refusal)
finish form text n f = with_answer form (ending text n f.answer) f

abbrev pub agents_of : Limits → ℕ → List ℕ → Result Number Refusal → LinesRead (Result ℕ Refusal)
agents_of L form text (Err r) = nothing form (Err r)
agents_of L form text (Ok count) = finish form text count.value (drones_at L form count.value text count.next [] 0)

-- the lines after the first, which names the form; where it names none that the board knows, 2 at the text's start
unfoldable pub lines_of_form : Limits → ℕ → List ℕ → LinesRead (Result ℕ Refusal)
lines_of_form L form text = cond (eqb form 0) (nothing form (Err (Form 0))) (agents_of L form text (count_at text (length (first_line form)) agents_key L.drones))

unfoldable pub lines_at : Limits → List ℕ → LinesRead (Result ℕ Refusal)
lines_at L text = lines_of_form L (form_at L text) text

-- ---- what was read, stored into tables

-- the rows of names, one after another
abbrev pub flat : List (List ℕ) → List ℕ
flat [] = []
flat (r ∷ rs) = r ++ flat rs

-- the stops of a drone, after `total` stops of earlier drones
pub record StopsStored (f : LinesRead (Result DroneLines Refusal)) (drone total : ℕ) (cs ls ts gs cs' ls' ts' gs' : List ℕ) (r : Result DroneLines Refusal) : Type 0 where
  pub answer_is : r ≡ f.answer
  pub counts_are : cs' ≡ sets cs drone f.counts
  pub locations_are : ls' ≡ sets ls total f.locations
  pub times_are : ts' ≡ sets ts total f.times
  pub legs_are : gs' ≡ sets gs total f.legs

-- drones from this one on
pub record LinesStored {A : Type 0} (L : Limits) (f : LinesRead A) (drone total : ℕ) (ns cs ls ts gs ns' cs' ls' ts' gs' : List ℕ) (r : A) : Type 0 where
  pub answer_is : r ≡ f.answer
  pub names_are : ns' ≡ sets ns (drone * L.name) (flat f.rows)
  pub counts_are : cs' ≡ sets cs drone f.counts
  pub locations_are : ls' ≡ sets ls total f.locations
  pub times_are : ts' ≡ sets ts total f.times
  pub legs_are : gs' ≡ sets gs total f.legs
