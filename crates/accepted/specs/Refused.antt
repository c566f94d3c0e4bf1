-- Which refusal a plan text gets by its lines (2 to 6), and when it gets 11, with a site text or without: exactly (document 01, "Where each refusal is checked"; requests 5, 7 and 14). What the plan
-- check says (7 to 10, 12) is in Reported. Assumes nothing.
use Rattle.std.specs.Prelude.{◌≡◌, ◌↔◌, true, List, [], ◌∷◌, ℕ, ◌≤◌, ◌<◌, length}
use Rattle.below.specs.Below.{is_in}
use Rattle.tables.specs.Limits.{Limits}
use Rattle.tables.specs.Tables.{Tables, full_size}
use Rattle.text.specs.Written.{Route, routes_text, small_names, InLimits}
use Rattle.plan.specs.Claims.{StopsChecked, Collides, Never}
use Rattle.reading.specs.Replies.{refused_by, refused_at, reading_number}
use Rattle.reading.specs.Reading.{Site, site_read, read_plan}
use Rattle.accepted.specs.TextPlan.{text_plan}
use Rattle.accepted.specs.Reported.{ComesToCheck}
use Rattle.accepted.specs.LineFaults.{NoLine, OutOfRange, BadName, EarlierName, SumOver, AtLine}
use Rattle.std.specs.Prelude.{Ok}

-- the reading comes to the lines: no table is below full size (41), no line of the site text is refused (13, 14), and the text is not too long (1)
pub record ComesToLines (L : Limits) (s : Site) (text : List ℕ) (t : Tables) : Type 0 where
  pub full : full_size L t ≡ true
  pub site : (site_read L s).answer ≡ Ok tt
  pub short : length text ≤ L.text

-- no plan within the limits has this text, whatever capitals stand in the names
abbrev pub NoPlanText : Limits → List ℕ → Type 0
NoPlanText L text = (form : ℕ) (typed : List Route) → text ≡ routes_text form typed → InLimits L form (small_names typed) → ⊥

-- "reading, line by line, at one line in this order": of any texts and any tables a number and an offset are said exactly when the reading comes to the lines, those before the offset are right, and
-- this is wrong with the line there. What is wrong by a later number is in order by the earlier ones
pub record LinesRefusedExactly (L : Limits) : Type 0 where
  -- "2 form, key, order or missing line"
  pub form_2 : (s : Site) (text : List ℕ) (t : Tables) (o : ℕ) → ((read_plan L s text t).reply ≡ refused_at 2 o) ↔ (ComesToLines L s text t × AtLine text o L (NoLine L))
  -- "4 number outside its range"
  pub range_4 : (s : Site) (text : List ℕ) (t : Tables) (o : ℕ) → ((read_plan L s text t).reply ≡ refused_at 4 o) ↔ (ComesToLines L s text t × AtLine text o L (OutOfRange L))
  -- "3 name"
  pub name_3 : (s : Site) (text : List ℕ) (t : Tables) (o : ℕ) → ((read_plan L s text t).reply ≡ refused_at 3 o) ↔ (ComesToLines L s text t × AtLine text o L (BadName L))
  -- "5 name equal to an earlier one"
  pub same_name_5 : (s : Site) (text : List ℕ) (t : Tables) (o : ℕ) → ((read_plan L s text t).reply ≡ refused_at 5 o) ↔ (ComesToLines L s text t × AtLine text o L (EarlierName L))
  -- "6 at a `stops=` line, the M read so far, this one included, add up to more than the limit for all drones"
  pub too_many_6 : (s : Site) (text : List ℕ) (t : Tables) (o : ℕ) → ((read_plan L s text t).reply ≡ refused_at 6 o) ↔ (ComesToLines L s text t × AtLine text o L (SumOver L))
  -- by one of them exactly when it is no plan's text within the limits
  pub by_lines : (s : Site) (text : List ℕ) (t : Tables) → (is_in (reading_number (read_plan L s text t).reply) (2 ∷ 3 ∷ 4 ∷ 5 ∷ 6 ∷ []) ≡ true) ↔ (ComesToLines L s text t × NoPlanText L text)

-- "building: 11 too many dependencies": exactly when the reading comes to the plan check, no stop is at fault, no two drones collide, and the text's plan has more dependencies than the limit
abbrev pub DependenciesRefusedExactly : Limits → Type 0
DependenciesRefusedExactly L = (s : Site) (text : List ℕ) (t : Tables) → ((read_plan L s text t).reply ≡ refused_by 11)
    ↔ (ComesToCheck L s text t × StopsChecked (text_plan L s text) × Never (text_plan L s text) (Collides (text_plan L s text)) × (L.dependencies < (text_plan L s text).count))
