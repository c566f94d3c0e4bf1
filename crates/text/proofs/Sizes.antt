-- How many numbers a plan by drones lays into each table, by recursion over the drones.
use mathlib.Core.Path.{◌≡◌, refl, sym, ap, ◌∙◌}
use mathlib.Core.List.{List, [], ◌∷◌, ◌++◌, append-nil}
use Prim.Native.Nat.{ℕ, suc, ◌+◌, ◌*◌, ◌≤◌}
use native.Mathlib.Omega.{arith}
use lib.ListN.{length, length-append}
use Rattle.below.specs.Below.{at, sum_below}
use Rattle.below.proofs.Sum.{sum_first}
use Rattle.tables.specs.Limits.{Limits}
use Rattle.lines.specs.Names.{row_of}
use Rattle.lines.proofs.NameRoundTrip.{row_long}
use Rattle.text.specs.LinesRead.{flat}
use Rattle.text.specs.Written.{Route, rows_of, counts_of, locations_of, times_of, legs_of, InLimitsFrom, InLimits}
use Rattle.text.proofs.Rows.{AllLong, flat_long}
use Rattle.text.proofs.DroneTaken.{range_long}

pub rows_long : (L : Limits) (ds : List Route) → AllLong L (rows_of L ds)
rows_long L [] = tt
rows_long L (d ∷ ds) = (row_long L d.name, rows_long L ds)

pub rows_many : (L : Limits) (ds : List Route) → length (rows_of L ds) ≡ length ds
rows_many L [] = refl
rows_many L (d ∷ ds) = ap suc (rows_many L ds)

pub names_many : (L : Limits) (ds : List Route) → length (flat (rows_of L ds)) ≡ length ds * L.name
names_many L ds = flat_long L (rows_of L ds) (rows_long L ds) ∙ ap (λ (k : ℕ). k * L.name) (rows_many L ds)

pub counts_many : (ds : List Route) → length (counts_of ds) ≡ length ds
counts_many [] = refl
counts_many (d ∷ ds) = ap suc (counts_many ds)

-- the counts, whatever stands behind them, add up to the stops of all drones
pub counts_begin : (ds : List Route) (rest : List ℕ) → sum_below (length ds) (at (counts_of ds ++ rest)) ≡ length (locations_of ds)
unfolding sum_below
counts_begin [] rest = refl
counts_begin (d ∷ ds) rest =
    sum_first (length ds) (at (length d.locations ∷ counts_of ds ++ rest))
    ∙ (ap (λ (k : ℕ). length d.locations + k) (counts_begin ds rest) ∙ sym (length-append d.locations (locations_of ds)))

pub counts_total : (ds : List Route) → sum_below (length ds) (at (counts_of ds)) ≡ length (locations_of ds)
counts_total ds = ap (λ (l : List ℕ). sum_below (length ds) (at l)) (sym (append-nil (counts_of ds))) ∙ counts_begin ds []

within : (L : Limits) (form : ℕ) (ds : List Route) (earlier : List (List ℕ)) (total : ℕ) → InLimitsFrom L form earlier total ds → total ≤ L.stops → total + length (locations_of ds) ≤ L.stops
within L form [] earlier total v h = omega arith
within L form (d ∷ ds) earlier total v h =
    let ih = within L form ds (earlier ++ row_of L d.name ∷ []) (total + length d.locations) v.5 v.3 in
    rw (length-append d.locations (locations_of ds)) (omega (arith, ih))

pub stops_within : (L : Limits) (form : ℕ) (ds : List Route) → InLimits L form ds → length (locations_of ds) ≤ L.stops
stops_within L form ds v = omega (arith, within L form ds [] 0 v.2 (omega arith))

same_many : (L : Limits) (form : ℕ) (ds : List Route) (earlier : List (List ℕ)) (total : ℕ) → InLimitsFrom L form earlier total ds
    → (length (times_of ds) ≡ length (locations_of ds)) × (length (legs_of ds) ≡ length (locations_of ds))
same_many L form [] earlier total v = (refl, refl)
same_many L form (d ∷ ds) earlier total v =
    let ih = same_many L form ds (earlier ++ row_of L d.name ∷ []) (total + length d.locations) v.5 in
    let m = range_long L form 0 d.locations d.times d.legs v.4 in
    let l = length-append d.locations (locations_of ds) in
    (length-append d.times (times_of ds) ∙ omega (arith, ih.0, m.0, l), length-append d.legs (legs_of ds) ∙ omega (arith, ih.1, m.1, l))

pub times_many : (L : Limits) (form : ℕ) (ds : List Route) → InLimits L form ds → length (times_of ds) ≡ length (locations_of ds)
times_many L form ds v = (same_many L form ds [] 0 v.2).0

pub legs_many : (L : Limits) (form : ℕ) (ds : List Route) → InLimits L form ds → length (legs_of ds) ≡ length (locations_of ds)
legs_many L form ds v = (same_many L form ds [] 0 v.2).1
