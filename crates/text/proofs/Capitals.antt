-- A plan's text with every capital made small is the text of the plan with its names in small letters.
use Prim.Native.Nat.{ℕ, suc, ◌+◌, ◌≤◌}
use mathlib.Core.Path.{◌≡◌, refl, ap, ◌∙◌}
use mathlib.Core.List.{List, [], ◌∷◌, ◌++◌}
use lib.ListN.{length}
use Rattle.tables.specs.Limits.{Limits}
use Rattle.lines.specs.Keys.{first_line, agents_key, stops_key, last_line}
use Rattle.lines.specs.Stops.{count_line, stop_lines}
use Rattle.lines.specs.Names.{small_form, name_line, row_of}
use Rattle.lines.proofs.Letters.{good_own}
use Rattle.lines.proofs.SmallLines.{small_parts, plan_own, agents_own, stops_key-own, end_own, count_own, stops_own, name_line-small}
use Rattle.text.specs.Written.{Route, route_line, route_lines, routes_text, small_named, small_names, InLimitsFrom, InLimits}

pub names_many : (ds : List Route) → length (small_names ds) ≡ length ds
names_many [] = refl
names_many (d ∷ ds) = ap suc (names_many ds)

line_small : (form : ℕ) (d : Route) → small_form (route_line form d) ≡ route_line form (small_named d)
line_small form d =
    let C = count_line stops_key (length d.locations) in
    let S = stop_lines form d.locations d.times d.legs in
    small_parts (name_line d.name) (C ++ S) (name_line-small d.name)
    (small_parts C S (count_own stops_key (length d.locations) stops_key-own) (stops_own form d.locations d.times d.legs))

lines_small : (form : ℕ) (ds : List Route) → small_form (route_lines form ds) ≡ route_lines form (small_names ds)
unfolding route_lines small_form
lines_small form [] = refl
lines_small form (d ∷ ds) = small_parts (route_line form d) (route_lines form ds) (line_small form d) (lines_small form ds)

pub text_small : (form : ℕ) (ds : List Route) → form ≤ 2 → small_form (routes_text form ds) ≡ routes_text form (small_names ds)
text_small form ds most =
    let C = count_line agents_key (length ds) in
    small_parts (first_line form ++ C ++ route_lines form ds) last_line
    (small_parts (first_line form ++ C) (route_lines form ds) (small_parts (first_line form) C (plan_own form most) (count_own agents_key (length ds) agents_own)) (lines_small form ds)) end_own
    ∙ rw (names_many ds) refl

-- a valid plan has its names in small letters
named-own : (d : Route) → small_form d.name ≡ d.name → small_named d ≡ d
named-own d e i = record { name = e i; locations = d.locations; times = d.times; legs = d.legs }

from_own : (L : Limits) (form : ℕ) (ds : List Route) (earlier : List (List ℕ)) (total : ℕ) → InLimitsFrom L form earlier total ds → small_names ds ≡ ds
from_own L form [] earlier total v = refl
from_own L form (d ∷ ds) earlier total v =
    let e = named-own d (good_own L d.name v.0) in
    let f = from_own L form ds (earlier ++ row_of L d.name ∷ []) (total + length d.locations) v.5 in
    λ i. e i ∷ f i

pub valid_own : (L : Limits) (form : ℕ) (ds : List Route) → InLimits L form ds → small_names ds ≡ ds
valid_own L form ds v = from_own L form ds [] 0 v.2
