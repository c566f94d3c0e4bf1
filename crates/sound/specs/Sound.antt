-- When lent tables are sound: the clauses of document 01, "Tables and what is sound", in its order, with request 14's form and legs and request 7's pairs. Assumes nothing.
use Rattle.std.specs.Prelude.{Bool, true, cond, not, ◌&&◌, ◌||◌, List, [], ◌∷◌, ℕ, ◌+◌, ◌*◌, ◌/◌, ltb, leb, eqb, get_or, take, drop}
use Rattle.below.specs.Below.{first_below, all_below, at, pick}
use Rattle.tables.specs.Limits.{Limits, most_pairs}
use Rattle.tables.specs.Legs.{leg_right}
use Rattle.tables.specs.Tables.{PlanLists, Tables, drones, dependencies, form_of}
use Rattle.tables.specs.Flags.{only_two_bits}
use Rattle.lines.specs.Names.{is_name_byte}
use Rattle.near.specs.Near.{pair_count, pairs_sound}
use Rattle.precedence.specs.Graph.{cyclic}
use Rattle.plan.specs.Check.{first_fault, apart}
use Rattle.plan.specs.Claims.{stop_total, owner_in, number_in, leg_in, visits_in, planned_total, planned_list}
use Rattle.plan.specs.Field.{plan_of, graph, fixed}
use Rattle.plan.specs.Status.{status_in, fixed_unturned, within_stops, waits_kept}

-- the entries from `used` on, up to the full size, pass a test; x stands for those that a shorter list lacks
abbrev pub passes_from : {A : Type 0} → (A → Bool) → A → ℕ → ℕ → List A → Bool
passes_from test x used full l = all_below full (λ i. ltb i used || test (get_or l i x))

-- the entries from `used` on, up to the full size, are zero
unfoldable pub zero_from : ℕ → ℕ → List ℕ → Bool
zero_from used full l = all_below full (λ i. ltb i used || eqb (at l i) 0)

-- the entries of a list are zero: the same, said of the entries themselves
unfoldable pub zeros : List ℕ → Bool
zeros [] = true
zeros (x ∷ xs) = eqb x 0 && zeros xs

-- ---- names

module _ (L : Limits) (names : List ℕ) where
  -- byte i of the row of drone d
  abbrev pub name_byte : ℕ → ℕ → ℕ
  name_byte d i = at names (d * L.name + i)

  -- how many bytes stand before the first zero
  unfoldable pub name_length : ℕ → ℕ
  name_length d = first_below L.name (λ i. eqb (name_byte d i) 0)

  -- "name: 1 to 24 bytes from a-z, 0-9, hyphen", and zeros after it
  unfoldable pub name_sound : ℕ → Bool
  name_sound d = leb 1 (name_length d) && all_below L.name (λ i. cond (ltb i (name_length d)) (is_name_byte (name_byte d i)) (eqb (name_byte d i) 0))

  -- "Names are compared over all their bytes"
  unfoldable pub same_name : ℕ → ℕ → Bool
  same_name d e = all_below L.name (λ i. eqb (name_byte d i) (name_byte e i))

  -- "name equal to an earlier one": none of n is
  unfoldable pub names_differ : ℕ → Bool
  names_differ n = all_below n (λ d. all_below d (λ e. not (same_name d e)))

-- ---- the site pairs

-- the entries that follow the pairs, up to the full size
abbrev pub after_pairs : List ℕ → List ℕ
after_pairs pairs = drop (2 * pair_count pairs) (take (2 * most_pairs) pairs)

-- ---- the plan in the tables

module _ (L : Limits) (p : PlanLists) where
  -- every number is in its range; "sound tables of a `plan=1` form have just these legs", those of one
  unfoldable pub in_range : Bool
  in_range =
      (leb 1 (drones p) && leb (drones p) L.drones)
      && ((leb 1 (form_of p) && leb (form_of p) L.form)
      && (all_below (drones p) (λ d. leb 1 (at p.stop_counts d))
      && (leb (stop_total p) L.stops
      && all_below (stop_total p) (λ v. leb (at p.locations v) L.location && (leb (at p.times v) L.time && leg_right L (form_of p) (number_in p v) (leg_in p v))))))

  -- the names are names, each of one drone
  unfoldable pub names_sound : Bool
  names_sound = all_below (drones p) (name_sound L p.names) && names_differ L p.names (drones p)

  -- "The site pairs .. are part of what sound means (they must be a list that a site text could give)", and the entries after them are zero
  unfoldable pub site_sound : Bool
  site_sound = pairs_sound L p.pairs && zeros (after_pairs p.pairs)

  -- names and pairs: what is asked of these two tables, apart from all others
  unfoldable pub lists_sound : Bool
  lists_sound = names_sound && site_sound

  -- the plan check finds nothing
  unfoldable pub passes_check : Bool
  passes_check = eqb (first_fault (visits_in p) (leg_in p)) (stop_total p) && apart (visits_in p)

  -- "the plan in them would be accepted"
  unfoldable pub plan_accepted_lem : Bool
  plan_accepted_lem = in_range && (lists_sound && (passes_check && leb (planned_total p) L.dependencies))

  -- "the dependencies are exactly its own, in order"
  unfoldable pub dependencies_sound : Bool
  dependencies_sound =
      eqb (dependencies p) (planned_total p)
      && all_below (dependencies p) (λ k.
      eqb (at p.first_drones k) (get_or (planned_list p (λ v w. owner_in p v)) k 0)
      && (eqb (at p.first_stops k) (get_or (planned_list p (λ v w. number_in p v)) k 0)
      && (eqb (at p.second_drones k) (get_or (planned_list p (λ v w. owner_in p w)) k 0)
      && eqb (at p.second_stops k) (get_or (planned_list p (λ v w. number_in p w)) k 0))))

  -- "unused entries are zero", of the tables that no call writes
  unfoldable pub plan_unused_lem : Bool
  plan_unused_lem =
      zero_from (drones p * L.name) (L.drones * L.name) p.names
      && (zero_from (drones p) L.drones p.stop_counts
      && (zero_from (stop_total p) L.stops p.locations
      && (zero_from (stop_total p) L.stops p.times
      && (zero_from (stop_total p) L.stops p.legs
      && (zero_from (dependencies p) L.dependencies p.first_drones
      && (zero_from (dependencies p) L.dependencies p.first_stops
      && (zero_from (dependencies p) L.dependencies p.second_drones
      && zero_from (dependencies p) L.dependencies p.second_stops)))))))

-- ---- the tables

module _ (L : Limits) (t : Tables) where
  -- "with right fixed bits", and "the other six bits are zero": a flag byte less its bit 0
  unfoldable pub flags_sound : Bool
  flags_sound = all_below (dependencies t.plan) (λ k. eqb (at t.flags k / 2) (pick (fixed (plan_of t.plan) k) 1 0))

  -- a drone's flag byte has no bit but bits 0 and 1
  unfoldable pub drone_flags_sound : Bool
  drone_flags_sound = all_below (drones t.plan) (λ d. only_two_bits (at t.drone_flags d))

  -- "unused entries are zero", of the tables that calls write
  unfoldable pub progress_unused : Bool
  progress_unused =
      zero_from (drones t.plan) L.drones t.visited
      && (zero_from (drones t.plan) L.drones t.drone_flags && zero_from (dependencies t.plan) L.dependencies t.flags)

  -- "Tables are sound when: .."
  unfoldable pub sound : Bool
  sound =
      plan_accepted_lem L t.plan
      && (dependencies_sound L t.plan
      && (flags_sound
      && (fixed_unturned (plan_of t.plan) (status_in t)
      && (not (cyclic (graph (plan_of t.plan) (status_in t)))
      && (drone_flags_sound
      && (within_stops (plan_of t.plan) (status_in t)
      && (waits_kept (plan_of t.plan) (status_in t)
      && (plan_unused_lem L t.plan && progress_unused))))))))
