-- What is wrong with the line at which a plan text is refused by 2 to 6, in the bytes of that line and in what the lines before it say (document 01, "Plan text" and "Where each refusal is checked";
-- requests 5 and 14). The lines are those that the writer would write: `first_line`, `count_line`, `name_line`, `stop_line` of Keys, Stops and Names of crate `lines`; nothing of the reader goes into them.
-- Assumes nothing.
use Rattle.std.specs.Prelude.{◌≡◌, ◌≢◌, ◌⊎◌, true, false, List, [], ◌∷◌, ◌++◌, ℕ, zero, suc, ◌+◌, ◌^◌, ◌≤◌, ◌<◌, length}
use Rattle.below.specs.Below.{is_in}
use Rattle.tables.specs.Limits.{Limits}
use Rattle.lines.specs.Keys.{line_feed, first_line, agents_key, stops_key, last_line}
use Rattle.lines.specs.Stops.{count_line, stop_line, stop_lines, StopsInRange}
use Rattle.lines.specs.Names.{small_form, text_name, name_line}
use Rattle.text.specs.Written.{Route, route_lines, routes_text, small_names, locations_of, InLimitsFrom, InLimits}

-- ---- the lines before a line

-- what they say: nothing yet; the plan's form; besides the number n of drones and the first of them, fewer than n, with all their lines; besides the next one's name; besides its number m of stops and
-- itself with the first of them, fewer than m; all drones; all drones and `end=plan`. So the line that is due is the first; `agents=N`; `name=TEXT`; `stops=M`; `go=..`; `end=plan`; and none
pub data LinesBefore : Type 0 where
  at_first : LinesBefore
  after_form : ℕ → LinesBefore
  after_drones : ℕ → ℕ → List Route → LinesBefore
  after_name : ℕ → ℕ → List Route → List ℕ → LinesBefore
  after_stops : ℕ → ℕ → List Route → ℕ → Route → LinesBefore
  after_all : ℕ → List Route → LinesBefore
  after_end : ℕ → List Route → LinesBefore

-- their bytes: "in this order: `plan=1`; `agents=N`; for each drone `name=TEXT`, `stops=M`, then M lines `go=LOCATION@TIME`; last `end=plan`"
abbrev pub bytes_of : LinesBefore → List ℕ
bytes_of at_first = []
bytes_of (after_form form) = first_line form
bytes_of (after_drones form n ds) = first_line form ++ count_line agents_key n ++ route_lines form ds
bytes_of (after_name form n ds x) = first_line form ++ count_line agents_key n ++ route_lines form ds ++ name_line x
bytes_of (after_stops form n ds m d) = first_line form ++ count_line agents_key n ++ route_lines form ds ++ name_line d.name ++ count_line stops_key m ++ stop_lines form d.locations d.times d.legs
bytes_of (after_all form ds) = first_line form ++ count_line agents_key (length ds) ++ route_lines form ds
bytes_of (after_end form ds) = routes_text form ds

-- a name is that of one of these drones: "a capital is the same letter as its small form everywhere names are compared"
abbrev pub NamedIn : List Route → List ℕ → Type 0
NamedIn [] x = ⊥
NamedIn (d ∷ ds) x = (small_form d.name ≡ small_form x) ⊎ NamedIn ds x

-- the first of n drones are within the limits
pub record DronesRight (L : Limits) (form n : ℕ) (ds : List Route) : Type 0 where
  pub form_some : 1 ≤ form
  pub form_known : form ≤ L.form
  pub many : n ≤ L.drones
  pub more : length ds < n
  pub within : InLimitsFrom L form [] 0 (small_names ds)

-- .. and the next one's name, and its number of stops and the first of them
pub record NameRight (L : Limits) (ds : List Route) (x : List ℕ) : Type 0 where
  pub good : text_name L x ≡ true
  pub new : NamedIn ds x → ⊥

pub record StopsRight (L : Limits) (form : ℕ) (ds : List Route) (m : ℕ) (d : Route) : Type 0 where
  pub some : 1 ≤ m
  pub few : length (locations_of ds) + m ≤ L.stops
  pub range : StopsInRange L form 0 d.locations d.times d.legs
  pub more : length d.locations < m

-- the lines before are right
abbrev pub LinesRight : Limits → LinesBefore → Type 0
LinesRight L at_first = Unit {0}
LinesRight L (after_form form) = (1 ≤ form) × (form ≤ L.form)
LinesRight L (after_drones form n ds) = DronesRight L form n ds
LinesRight L (after_name form n ds x) = DronesRight L form n ds × NameRight L ds x
LinesRight L (after_stops form n ds m d) = DronesRight L form n ds × NameRight L ds d.name × StopsRight L form ds m d
LinesRight L (after_all form ds) = InLimits L form (small_names ds)
LinesRight L (after_end form ds) = InLimits L form (small_names ds)

-- ---- what is wrong with the line that is due, where `rest` is the text from it on

-- the rest of the text begins with a line
abbrev pub Begins : List ℕ → List ℕ → Type 0
Begins rest line = (more : List ℕ) × (rest ≡ line ++ more)

-- "one to seven digits": `digits_of` writes such a number "without sign or leading zero (zero is `0`)"
abbrev pub SevenDigit : ℕ → Type 0
SevenDigit v = v < 10 ^ 7

-- 2, "form, key, order or missing line": no line of the key and form that is due stands there; "Nothing follows the last line."
abbrev pub NoLine : Limits → LinesBefore → List ℕ → Type 0
NoLine L at_first rest = (form : ℕ) → 1 ≤ form → form ≤ L.form → Begins rest (first_line form) → ⊥
NoLine L (after_form form) rest = (n : ℕ) → SevenDigit n → Begins rest (count_line agents_key n) → ⊥
NoLine L (after_drones form n ds) rest = (x : List ℕ) → is_in line_feed x ≡ false → Begins rest (name_line x) → ⊥
NoLine L (after_name form n ds x) rest = (m : ℕ) → SevenDigit m → Begins rest (count_line stops_key m) → ⊥
NoLine L (after_stops form n ds m d) rest = (l t g : ℕ) → SevenDigit l → SevenDigit t → SevenDigit g → Begins rest (stop_line form l t g) → ⊥
NoLine L (after_all form ds) rest = Begins rest last_line → ⊥
NoLine L (after_end form ds) rest = rest ≢ []

-- "LEG 0 at stop 0 and 1 to 60 rounds elsewhere": a leg into stop s that is none of these
abbrev pub LegOut : Limits → ℕ → ℕ → Type 0
LegOut L zero g = 1 ≤ g
LegOut L (suc s) g = (g ≡ 0) ⊎ (L.leg < g)

-- a count of 1 to `most` that is outside its range, and a stop
pub record CountOut (most : ℕ) (key rest : List ℕ) : Type 0 where
  pub value : ℕ
  pub digits : SevenDigit value
  pub line : Begins rest (count_line key value)
  pub out : (value ≡ 0) ⊎ (most < value)

pub record StopOut (L : Limits) (form s : ℕ) (rest : List ℕ) : Type 0 where
  pub location : ℕ
  pub time : ℕ
  pub leg : ℕ
  pub location_digits : SevenDigit location
  pub time_digits : SevenDigit time
  pub leg_digits : SevenDigit leg
  pub line : Begins rest (stop_line form location time leg)
  -- `plan=1` has no leg in its lines
  pub out : (L.location < location) ⊎ ((L.time < time) ⊎ ((form ≡ 2) × LegOut L s leg))

-- 4, "number outside its range": a line of that key and form, with such a number
abbrev pub OutOfRange : Limits → LinesBefore → List ℕ → Type 0
OutOfRange L at_first rest = ⊥
OutOfRange L (after_form form) rest = CountOut L.drones agents_key rest
OutOfRange L (after_drones form n ds) rest = ⊥
OutOfRange L (after_name form n ds x) rest = CountOut L.stops stops_key rest
OutOfRange L (after_stops form n ds m d) rest = StopOut L form (length d.locations) rest
OutOfRange L (after_all form ds) rest = ⊥
OutOfRange L (after_end form ds) rest = ⊥

-- 3, "name": not "1 to 24 bytes from a-z, 0-9, hyphen", "Capitals A to Z are to be allowed"
pub record BadNameLine (L : Limits) (rest : List ℕ) : Type 0 where
  pub text : List ℕ
  pub one_line : is_in line_feed text ≡ false
  pub line : Begins rest (name_line text)
  pub bad : text_name L text ≡ false

abbrev pub BadName : Limits → LinesBefore → List ℕ → Type 0
BadName L at_first rest = ⊥
BadName L (after_form form) rest = ⊥
BadName L (after_drones form n ds) rest = BadNameLine L rest
BadName L (after_name form n ds x) rest = ⊥
BadName L (after_stops form n ds m d) rest = ⊥
BadName L (after_all form ds) rest = ⊥
BadName L (after_end form ds) rest = ⊥

-- 5, "name equal to an earlier one": a name as it should be, and that of an earlier drone
pub record SameNameLine (L : Limits) (ds : List Route) (rest : List ℕ) : Type 0 where
  pub text : List ℕ
  pub line : Begins rest (name_line text)
  pub good : text_name L text ≡ true
  pub same : NamedIn ds text

abbrev pub EarlierName : Limits → LinesBefore → List ℕ → Type 0
EarlierName L at_first rest = ⊥
EarlierName L (after_form form) rest = ⊥
EarlierName L (after_drones form n ds) rest = SameNameLine L ds rest
EarlierName L (after_name form n ds x) rest = ⊥
EarlierName L (after_stops form n ds m d) rest = ⊥
EarlierName L (after_all form ds) rest = ⊥
EarlierName L (after_end form ds) rest = ⊥

-- 6, "at a `stops=` line, the M read so far, this one included, add up to more than the limit for all drones": M itself is in its range
pub record SumOverLine (L : Limits) (ds : List Route) (rest : List ℕ) : Type 0 where
  pub value : ℕ
  pub line : Begins rest (count_line stops_key value)
  pub some : 1 ≤ value
  pub most : value ≤ L.stops
  pub over : L.stops < length (locations_of ds) + value

abbrev pub SumOver : Limits → LinesBefore → List ℕ → Type 0
SumOver L at_first rest = ⊥
SumOver L (after_form form) rest = ⊥
SumOver L (after_drones form n ds) rest = ⊥
SumOver L (after_name form n ds x) rest = SumOverLine L ds rest
SumOver L (after_stops form n ds m d) rest = ⊥
SumOver L (after_all form ds) rest = ⊥
SumOver L (after_end form ds) rest = ⊥

-- the lines before an offset are right, and this is wrong with the line there: "the start of the line (the text's length if the line is absent)"
pub record AtLine (text : List ℕ) (offset : ℕ) (L : Limits) (Wrong : LinesBefore → List ℕ → Type 0) : Type 0 where
  pub before : LinesBefore
  pub rest : List ℕ
  pub text_is : text ≡ bytes_of before ++ rest
  pub offset_is : offset ≡ length (bytes_of before)
  pub right : LinesRight L before
  pub wrong : Wrong before rest
