-- The tables with the values of a text that is taken: the plan in them keeps the limits, since the text is that of a valid plan. Assumes nothing.
use Rattle.std.specs.Prelude.{Result, Ok}
use Rattle.lines.specs.declared.refusal.Refusal.{Refusal as LineRefusal}
use mathlib.Core.Path.{◌≡◌, refl, ap}
use mathlib.Core.List.{List, [], ◌∷◌, ◌++◌}
use Prim.Native.Nat.{ℕ, suc, ◌+◌, ◌≤◌}
use native.Mathlib.Omega.{arith}
use lib.ListN.{length}
use lib.Seq.{sets}
use Rattle.below.specs.Below.{sum_below, at, laid}
use Rattle.below.proofs.Sum.{sum-none, sum_ext}
use Rattle.below.proofs.Picks.{get_d_laid}
use Rattle.tables.specs.Limits.{Limits}
use Rattle.lines.specs.Names.{row_of}
use Rattle.text.specs.LinesRead.{LinesRead, lines_at}
use Rattle.text.specs.Written.{Route, counts_of, lines_of, InLimitsFrom, InLimits}
use Rattle.text.proofs.TakenIsWritten.{text_taken}
use Rattle.text.proofs.TextCases.{taken_range}
use Rattle.plan.specs.Stops.{start}
use Rattle.below.proofs.Sum.{sum_first}

-- the stops of some drones and of the earlier ones
counts_within : (L : Limits) (form : ℕ) (earlier : List (List ℕ)) (total : ℕ) (ds : List Route) → total ≤ L.stops → InLimitsFrom L form earlier total ds → total + sum_below (length ds) (at (counts_of ds)) ≤ L.stops
counts_within L form earlier total [] h v = omega (arith, sum-none (at []) 0)
counts_within L form earlier total (d ∷ ds) h v =
    let s : sum_below (suc (length ds)) (at (counts_of (d ∷ ds))) ≡ length d.locations + sum_below (length ds) (at (counts_of ds)) = sum_first (length ds) (at (counts_of (d ∷ ds))) in
    omega (arith, s, counts_within L form (earlier ++ row_of L d.name ∷ []) (total + length d.locations) ds v.3 v.5)

counts_many : (ds : List Route) → length (counts_of ds) ≡ length ds
counts_many [] = refl
counts_many (d ∷ ds) = ap suc (counts_many ds)

-- the counts in their table
start_sets : (l counts : List ℕ) → length counts ≤ length l → start (sets l 0 counts) (length counts) ≡ sum_below (length counts) (at counts)
unfolding start laid
start_sets l counts h = sum_ext (length counts) (at (sets l 0 counts)) (at counts) (λ i k. get_d_laid l counts i k h)

total-within : (L : Limits) (form : ℕ) (l : List ℕ) (ds : List Route) → L.drones ≤ length l → InLimits L form ds → start (sets l 0 (counts_of ds)) (length ds) ≤ L.stops
total-within L form l ds h v =
    let m = counts_many ds in
    let s : start (sets l 0 (counts_of ds)) (length ds) ≡ sum_below (length ds) (at (counts_of ds)) = rw m at (start_sets l (counts_of ds) (omega (arith, m, h, v.1))) in
    omega (arith, s, counts_within L form [] 0 ds (omega arith) v.2)

found_within : (L : Limits) (form : ℕ) (l : List ℕ) (n : ℕ) (f : LinesRead (Result ℕ LineRefusal)) (ds : List Route) → f ≡ lines_of L form ds → length ds ≡ n → L.drones ≤ length l → InLimits L form ds → start (sets l 0 f.counts) n ≤ L.stops
found_within L form l n f ds r m h v = rw (r, ← m) (total-within L form l ds h v)

module _ (L : Limits) (text : List ℕ) (n : ℕ) (h : (lines_at L text).answer ≡ Ok n) where
  pub drones_in : n ≤ L.drones
  drones_in = (taken_range L text n h).1

  pub stops_in_lem : (l : List ℕ) → L.drones ≤ length l → start (sets l 0 (lines_at L text).counts) n ≤ L.stops
  stops_in_lem l k = let w = text_taken L text n h in found_within L w.form l n (lines_at L text) w.routes w.read w.many k w.in_limits
