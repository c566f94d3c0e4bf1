-- What tables of full size that are sound give to code that reads them: room for each index, and numbers that stay small. Assumes nothing.
use mathlib.Core.Path.{◌≡◌}
use mathlib.Core.Bool.{true, not, ◌&&◌}
use Prim.Native.Nat.{ℕ, suc, ◌+◌, ◌-◌, ◌≤◌, ◌<◌}
use native.Mathlib.Omega.{arith}
use lib.Dec.{leb}
use borrow.Author.Tests.{leb-true, leb-false, not-true}
use Rattle.below.specs.Below.{at}
use Rattle.below.proofs.Tests.{and_left, and_right}
use Rattle.below.proofs.Every.{all_below-at}
use Rattle.tables.specs.Limits.{Limits}
use Rattle.tables.specs.Tables.{Tables, drones, dependencies, Sizes}
use Rattle.tables.specs.Flags.{under_way_bit}
use Rattle.tables.proofs.SizeLaws.{full_sizes}
use Rattle.plan.specs.Field.{plan_of, Meeting}
use Rattle.plan.specs.Status.{within_stops}
use Rattle.plan.specs.Columns.{Columns, columns_with}
use Rattle.plan.specs.Room.{WaitsRoom}
use Rattle.plan.proofs.Numbering.{start-suc, start_mono}
use Rattle.call_log.specs.Claims.{Usable}
use Rattle.sound.proofs.Clauses.{Sound, sound-says}
use Rattle.call_log.proofs.SoundParts.{drones_in, have_stops, stops_in_lem, dependencies_in, accepted_plan}

pub record Facts (L : Limits) (t : Tables) : Type 0 where
  pub sizes : Sizes L t
  pub drones_few : drones t.plan ≤ L.drones
  pub dependencies_few : dependencies t.plan ≤ L.dependencies
  pub has_stops : (d : ℕ) → d < drones t.plan → 1 ≤ at t.plan.stop_counts d
  pub stops_few : (d : ℕ) → d < drones t.plan → at t.plan.stop_counts d ≤ L.stops
  pub place_in : (d : ℕ) → d < drones t.plan → at t.visited d < at t.plan.stop_counts d
  -- a drone that is under way has a next stop
  pub next_in : (d : ℕ) → d < drones t.plan → under_way_bit (at t.drone_flags d) ≡ true → at t.visited d + 1 < at t.plan.stop_counts d
  pub first_in : (w : ℕ) → w < dependencies t.plan → at t.plan.first_drones w < drones t.plan
  pub second_in : (w : ℕ) → w < dependencies t.plan → at t.plan.second_drones w < drones t.plan

module _ (L : Limits) (t : Tables) (u : Usable L t) where
  parts : Sound L t
  parts = sound-says L t u.1

  within : (d : ℕ) → d < drones t.plan → (leb (at t.visited d) (at t.plan.stop_counts d - 1) && not (under_way_bit (at t.drone_flags d) && leb (at t.plan.stop_counts d - 1) (at t.visited d))) ≡ true
  unfolding within_stops
  within d l = all_below-at (drones t.plan) _ parts.within d l

  counts_few : (d : ℕ) → d < drones t.plan → at t.plan.stop_counts d ≤ L.stops
  counts_few d l = omega (arith, start-suc t.plan.stop_counts d, start_mono t.plan.stop_counts (suc d) (drones t.plan) l, stops_in_lem L t.plan parts.accepted)

  place : (d : ℕ) → d < drones t.plan → at t.visited d ≤ at t.plan.stop_counts d - 1
  place d l = leb-true (at t.visited d) (at t.plan.stop_counts d - 1) (and_left _ _ (within d l))

  next : (d : ℕ) → d < drones t.plan → under_way_bit (at t.drone_flags d) ≡ true → at t.visited d < at t.plan.stop_counts d - 1
  next d l e =
      leb-false (at t.plan.stop_counts d - 1) (at t.visited d) (rw e at (not-true (under_way_bit (at t.drone_flags d) && leb (at t.plan.stop_counts d - 1) (at t.visited d)) (and_right (leb (at t.visited d) (at t.plan.stop_counts d - 1)) (not (under_way_bit (at t.drone_flags d) && leb (at t.plan.stop_counts d - 1) (at t.visited d))) (within d l))))

  meeting : (w : ℕ) → w < dependencies t.plan → Meeting (plan_of t.plan) ((plan_of t.plan).dependency w)
  meeting w l = (accepted_plan L t.plan parts.accepted parts.dependencies_own).each w l

  pub facts : Facts L t
  facts = record {
    sizes = full_sizes L t u.0;
    drones_few = drones_in L t.plan parts.accepted;
    dependencies_few = dependencies_in L t.plan parts.accepted parts.dependencies_own;
    has_stops = have_stops L t.plan parts.accepted;
    stops_few = counts_few;
    place_in = λ d l. omega (arith, place d l, have_stops L t.plan parts.accepted d l);
    next_in = λ d l e. omega (arith, next d l e);
    first_in = λ w l. (meeting w l).first_in;
    second_in = λ w l. (meeting w l).second_in;
  }

-- the columns of the dependencies
abbrev pub columns_in : Tables → Columns
columns_in t = columns_with t.plan.first_drones t.plan.first_stops t.plan.second_drones t.plan.second_stops t.flags

-- what the search for an unmet dependency asks of the tables
pub waits_room : (L : Limits) (t : Tables) → Facts L t → L.dependencies ≤ 65536 → (d : ℕ) → d < drones t.plan → WaitsRoom (dependencies t.plan) t.visited t.drone_flags (columns_in t) d
waits_room L t f fit d l = record {
  entries = record {
    has_first_drones = omega (arith, f.dependencies_few, f.sizes.first_drones_lem);
    has_first_stops = omega (arith, f.dependencies_few, f.sizes.first_stops_lem);
    has_second_drones = omega (arith, f.dependencies_few, f.sizes.second_drones_lem);
    has_second_stops = omega (arith, f.dependencies_few, f.sizes.second_stops_lem);
    has_flags = omega (arith, f.dependencies_few, f.sizes.flags);
    dependencies_fit = omega (arith, f.dependencies_few);
  };
  first_in = λ w k. omega (arith, f.first_in w k, f.drones_few, f.sizes.visited);
  second_in = λ w k. omega (arith, f.second_in w k, f.drones_few, f.sizes.visited);
  drone_in = omega (arith, f.drones_few, f.sizes.visited);
  first_marked = λ w k. omega (arith, f.first_in w k, f.drones_few, f.sizes.drone_flags);
  second_marked = λ w k. omega (arith, f.second_in w k, f.drones_few, f.sizes.drone_flags);
}
