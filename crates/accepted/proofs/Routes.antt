-- What a valid plan says of its routes: each drone has a stop, and its locations, times and legs are in range, by recursion over the drones.
use mathlib.Core.Path.{◌≡◌, subst}
use mathlib.Core.Bool.{true}
use mathlib.Core.List.{List, [], ◌∷◌, ◌++◌}
use Prim.Native.Nat.{ℕ, zero, suc, ◌+◌, ◌≤◌, ◌<◌}
use native.Mathlib.Omega.{arith}
use lib.ListN.{length}
use Rattle.below.specs.Below.{at}
use Rattle.tables.specs.Limits.{Limits}
use Rattle.tables.specs.Legs.{leg_right}
use Rattle.lines.specs.Names.{row_of}
use Rattle.lines.specs.Stops.{StopsInRange}
use Rattle.text.specs.Written.{Route, counts_of, InLimitsFrom}
use Rattle.accepted.specs.TextPlan.{route_at}

-- each drone has a stop
pub counts_some : (L : Limits) (form : ℕ) (ds : List Route) (earlier : List (List ℕ)) (total : ℕ) → InLimitsFrom L form earlier total ds → (d : ℕ) → d < length ds → 1 ≤ at (counts_of ds) d
counts_some L form [] earlier total v d l = absurd (omega arith)
counts_some L form (r ∷ ds) earlier total v zero l = v.2
counts_some L form (r ∷ ds) earlier total v (suc d) l = counts_some L form ds (earlier ++ row_of L r.name ∷ []) (total + length r.locations) v.5 d (omega arith)

-- ---- locations, times and legs

-- the stops of each drone are in range
pub route_range : (L : Limits) (form : ℕ) (ds : List Route) (earlier : List (List ℕ)) (total : ℕ) → InLimitsFrom L form earlier total ds
    → (d : ℕ) → d < length ds → StopsInRange L form 0 (route_at ds d).locations (route_at ds d).times (route_at ds d).legs
route_range L form [] earlier total v d l = absurd (omega arith)
route_range L form (r ∷ ds) earlier total v zero l = v.4
route_range L form (r ∷ ds) earlier total v (suc d) l = route_range L form ds (earlier ++ row_of L r.name ∷ []) (total + length r.locations) v.5 d (omega arith)

-- a location, a time and the leg into a drone's stop s are in range
abbrev pub InRange : Limits → (form s l t g : ℕ) → Type 0
InRange L form s l t g = (l ≤ L.location) × (t ≤ L.time) × (leg_right L form s g ≡ true)

-- stops from s on, entry by entry, and back
pub range_at : (L : Limits) (form s : ℕ) (ls ts gs : List ℕ) → StopsInRange L form s ls ts gs → (i : ℕ) → i < length ls → InRange L form (s + i) (at ls i) (at ts i) (at gs i)
range_at L form s [] ts gs a i l = absurd (omega arith)
range_at L form s (x ∷ ls) [] gs a i l = absurd a
range_at L form s (x ∷ ls) (t ∷ ts) [] a i l = absurd a
range_at L form s (x ∷ ls) (t ∷ ts) (g ∷ gs) a zero l = let e : s ≡ s + 0 = omega arith in subst (λ (k : ℕ). InRange L form k x t g) e (a.0, a.1, a.2)
range_at L form s (x ∷ ls) (t ∷ ts) (g ∷ gs) a (suc i) l = let e : suc s + i ≡ s + suc i = omega arith in subst (λ (k : ℕ). InRange L form k (at ls i) (at ts i) (at gs i)) e (range_at L form (suc s) ls ts gs a.3 i (omega arith))

pub range_each : (L : Limits) (form s : ℕ) (ls ts gs : List ℕ) → length ts ≡ length ls → length gs ≡ length ls → ((i : ℕ) → i < length ls → InRange L form (s + i) (at ls i) (at ts i) (at gs i)) → StopsInRange L form s ls ts gs
range_each L form s [] [] [] a b h = tt
range_each L form s [] [] (g ∷ gs) a b h = absurd (omega arith)
range_each L form s [] (t ∷ ts) gs a b h = absurd (omega arith)
range_each L form s (l ∷ ls) [] gs a b h = absurd (omega arith)
range_each L form s (l ∷ ls) (t ∷ ts) [] a b h = absurd (omega arith)
range_each L form s (l ∷ ls) (t ∷ ts) (g ∷ gs) a b h =
    let e : s + 0 ≡ s = omega arith in
    let z : InRange L form s l t g = subst (λ (k : ℕ). InRange L form k l t g) e (h zero (omega arith)) in
    (z.0, z.1, z.2, range_each L form (suc s) ls ts gs (omega arith) (omega arith) (λ i k. let e : s + suc i ≡ suc s + i = omega arith in subst (λ (n : ℕ). InRange L form n (at ls i) (at ts i) (at gs i)) e (h (suc i) (omega arith))))
