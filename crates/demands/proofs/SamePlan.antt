-- The lists that a plan is written and cut into routes from are the same in tables that agree up to their full sizes, where they are sound. Assumes nothing.
use mathlib.Core.Path.{◌≡◌, ap, ◌∙◌}
use mathlib.Core.Bool.{true}
use mathlib.Core.List.{List}
use Prim.Native.Nat.{ℕ, ◌*◌, ◌≤◌}
use native.Mathlib.Nat.{mul-le-mul_right}
use lib.ListN.{take}
use Rattle.below.specs.Below.{at, sum_below}
use Rattle.tables.specs.Limits.{Limits}
use Rattle.tables.specs.Tables.{PlanLists, Tables, drones, form_of}
use Rattle.text.specs.TextWritten.{rows_in}
use Rattle.plan.specs.Stops.{start}
use Rattle.sound.specs.Sound.{sound}
use Rattle.sound.proofs.Clauses.{sound-says}
use Rattle.call_log.proofs.SoundParts.{drones_in, stops_in_lem}
use Rattle.demands.specs.FullSizes.{AgreeUpToFull}
use Rattle.demands.proofs.Entries.{first_same, rows_same}
use Rattle.demands.proofs.SameNumbering.{stops}
use Rattle.demands.proofs.SameCalls.{same_tables}

-- the number of stops of all drones
abbrev pub total : PlanLists → ℕ
total p = sum_below (drones p) (at p.stop_counts)

pub record PlanSame (L : Limits) (p p' : PlanLists) : Type 0 where
  pub many : drones p ≡ drones p'
  pub form : form_of p ≡ form_of p'
  pub rows : rows_in L (drones p) p.names ≡ rows_in L (drones p') p'.names
  pub counts : take (drones p) p.stop_counts ≡ take (drones p') p'.stop_counts
  pub locations : take (total p) p.locations ≡ take (total p') p'.locations
  pub times : take (total p) p.times ≡ take (total p') p'.times
  pub legs : take (total p) p.legs ≡ take (total p') p'.legs

-- the first entries of two lists that agree up to a full size, as many of them in both
first_both : (m m' full : ℕ) (l l' : List ℕ) → take full l ≡ take full l' → m ≤ full → m ≡ m' → take m l ≡ take m' l'
first_both m m' full l l' e h q = first_same m full l l' e h ∙ ap (λ (n : ℕ). take n l') q

pub plan_same : (L : Limits) (t t' : Tables) → AgreeUpToFull L t t' → sound L t ≡ true → PlanSame L t.plan t'.plan
unfolding start
plan_same L t t' e h =
    let p : PlanLists = t.plan in
    let p' : PlanLists = t'.plan in
    let few : drones p ≤ L.drones = drones_in L p (sound-says L t h).accepted in
    let room : total p ≤ L.stops = stops_in_lem L p (sound-says L t h).accepted in
    let many : drones p ≡ drones p' = (same_tables L t t' e).plan_same.drone_count_lem in
    let all : total p ≡ total p' = stops L p p' (same_tables L t t' e).plan_same few in
    record {
      many = many;
      form = (same_tables L t t' e).plan_same.form;
      rows = rows_same L (drones p) p.names p'.names (first_same (drones p * L.name) (L.drones * L.name) p.names p'.names (ap (λ (x : Tables). x.plan.names) e) (mul-le-mul_right L.name few))
          ∙ ap (λ (n : ℕ). rows_in L n p'.names) many;
      counts = first_both (drones p) (drones p') L.drones p.stop_counts p'.stop_counts (ap (λ (x : Tables). x.plan.stop_counts) e) few many;
      locations = first_both (total p) (total p') L.stops p.locations p'.locations (ap (λ (x : Tables). x.plan.locations) e) room all;
      times = first_both (total p) (total p') L.stops p.times p'.times (ap (λ (x : Tables). x.plan.times) e) room all;
      legs = first_both (total p) (total p') L.stops p.legs p'.legs (ap (λ (x : Tables). x.plan.legs) e) room all;
    }
