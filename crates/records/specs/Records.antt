-- The lent table of dependency records as a list: what is spread out of it into columns and stored back (document 01, "Tables and what is sound"). Assumes nothing.
use Rattle.std.specs.Prelude.{◌≡◌, Bool, true, false, ◌||◌, List, [], ◌∷◌, ◌++◌, map, ℕ, ◌+◌, ◌≤◌, min, ltb, eqb, length, get_or, set, take, drop, replicate}
use Rattle.below.specs.Below.{at, all_below, list_below}
use Rattle.tables.specs.Limits.{Limits}
use Rattle.tables.specs.Tables.{Tables, tables_of}
use Rattle.tables.specs.Entries.{zero_dependency, flip_dependency}
use Rattle.tables.specs.declared.entries.Dependency.{Dependency}
use Rattle.tables.specs.declared.lent.Plan.{Plan}
use Rattle.tables.specs.declared.lent.Sides.{Sides}

-- record i, the zero record past the end
abbrev pub record_at : List Dependency → ℕ → Dependency
record_at ds i = get_or ds i zero_dependency

-- the first k entries of xs, and after them those of t
unfoldable pub overlaid {ℓ} : {A : Type ℓ} → ℕ → (xs t : List A) → List A
overlaid k xs t = take k xs ++ drop k t

-- "Turn: flips bit 0 of one dependency"
abbrev pub flip_if : Bool → ℕ → List Dependency → List Dependency
flip_if true i ds = set ds i (flip_dependency (record_at ds i))
flip_if false i ds = ds

-- "a turn of a list of dependencies, all at once"
unfoldable pub flip_all_if : Bool → List ℕ → List Dependency → List Dependency
flip_all_if turns [] ds = ds
flip_all_if turns (w ∷ ws) ds = flip_all_if turns ws (flip_if turns w ds)

-- ---- the columns: "Each record holds these four and a flag byte"

abbrev pub first_drones_of : List Dependency → List ℕ
first_drones_of ds = map (λ (d : Dependency). d.first_drone) ds

abbrev pub first_stops_of : List Dependency → List ℕ
first_stops_of ds = map (λ (d : Dependency). d.first_stop) ds

abbrev pub second_drones_of : List Dependency → List ℕ
second_drones_of ds = map (λ (d : Dependency). d.second_drone) ds

abbrev pub second_stops_of : List Dependency → List ℕ
second_stops_of ds = map (λ (d : Dependency). d.second_stop) ds

abbrev pub flags_of : List Dependency → List ℕ
flags_of ds = map (λ (d : Dependency). d.flags) ds

-- columns of the full size
pub record ColumnSizes (L : Limits) (first_drones first_stops second_drones second_stops flags : List ℕ) : Type 0 where
  pub first_drones_lem : length first_drones ≡ L.dependencies
  pub first_stops_lem : length first_stops ≡ L.dependencies
  pub second_drones_lem : length second_drones ≡ L.dependencies
  pub second_stops_lem : length second_stops ≡ L.dependencies
  pub flag_bytes : length flags ≡ L.dependencies

-- the columns of these records
pub record ColumnsOf (ds : List Dependency) (first_drones first_stops second_drones second_stops flags : List ℕ) : Type 0 where
  pub first_drones_lem : first_drones ≡ first_drones_of ds
  pub first_stops_lem : first_stops ≡ first_stops_of ds
  pub second_drones_lem : second_drones ≡ second_drones_of ds
  pub second_stops_lem : second_stops ≡ second_stops_of ds
  pub flag_bytes : flags ≡ flags_of ds

-- the record whose fields stand at i of the columns, and the table of them: a record that is made has no reserved bit set
abbrev pub record_of : (first_drones first_stops second_drones second_stops flags : List ℕ) → ℕ → Dependency
record_of first_drones first_stops second_drones second_stops flags i = record {
  first_stop = at first_stops i;
  second_stop = at second_stops i;
  first_drone = at first_drones i;
  second_drone = at second_drones i;
  flags = at flags i;
  reserved = 0;
}

unfoldable pub gathered : Limits → (first_drones first_stops second_drones second_stops flags : List ℕ) → List Dependency
gathered L first_drones first_stops second_drones second_stops flags = list_below L.dependencies (record_of first_drones first_stops second_drones second_stops flags)

-- the records after a table of the full size was stored into them, where `stores` says so: "Entries past a full size are never read or written"
unfoldable pub store_if : Limits → (stores : Bool) → (table ds : List Dependency) → List Dependency
store_if L true table ds = overlaid (min L.dependencies (length ds)) table ds
store_if L false table ds = ds

-- ---- used and unused records

-- the full size of zero records: the columns of these are zeroed columns
unfoldable pub zero_records : Limits → List Dependency
zero_records L = replicate L.dependencies zero_dependency

-- the first `used` records, at most the full size, and zero records after them
unfoldable pub used_records : Limits → (used : ℕ) → List Dependency → List Dependency
used_records L used ds = overlaid (min used (min L.dependencies (length ds))) ds (zero_records L)

-- the sum of a record's five fields: 0 just where each of them is. The reserved byte is no part of document 01's tables
abbrev pub field_sum : Dependency → ℕ
field_sum d = d.first_stop + d.second_stop + d.first_drone + d.second_drone + d.flags

-- "unused entries are zero": of the records from one on up to another
unfoldable pub zero_between : (from to : ℕ) → List Dependency → Bool
zero_between from to ds = all_below to (λ i. ltb i from || eqb (field_sum (record_at ds i)) 0)

-- ---- the tables with the dependencies lent as records

-- "Entries past a full size are never read or written": the records that a call sees
unfoldable pub seen : Limits → List Dependency → List Dependency
seen L ds = take L.dependencies ds

abbrev pub tables_of_records : Limits → (drone_count dependency_count form names stop_counts locations times legs visited drone_flags : List ℕ) → List Dependency → (pairs : List ℕ) → Tables
tables_of_records L drone_count dependency_count form names stop_counts locations times legs visited drone_flags ds pairs =
    tables_of drone_count dependency_count form names stop_counts locations times legs visited drone_flags
    (first_drones_of (seen L ds))
    (first_stops_of (seen L ds))
    (second_drones_of (seen L ds))
    (second_stops_of (seen L ds))
    (flags_of (seen L ds))
    pairs

-- the same of a lent plan, the drones' progress and the lent records
abbrev pub records_in : Limits → Plan → (visited drone_flags : List ℕ) → List Dependency → Tables
records_in L plan visited drone_flags ds =
    tables_of_records
    L
    plan.drone_count.now
    plan.dependency_count.now
    plan.form.now
    plan.names.now
    plan.stop_counts.now
    plan.locations.now
    plan.times.now
    plan.legs.now
    visited
    drone_flags
    ds
    plan.pairs.now

-- ---- the columns of a call: the two drones and the two stops of a record each in a table of two columns

abbrev pub two : (first second : List ℕ) → List (List ℕ)
two first second = first ∷ second ∷ []

-- entry i of both columns of a table
abbrev pub put_two : ℕ → (first second : ℕ) → List (List ℕ) → List (List ℕ)
put_two i first second t =
    let t' : List (List ℕ) = set t 0 (set (get_or t 0 []) i first) in
    set t' 1 (set (get_or t' 1 []) i second)

-- the columns of these records
pub record InColumns (ds : List Dependency) (stops drones : List (List ℕ)) (flags : List ℕ) : Type 0 where
  pub both_stops : stops ≡ two (first_stops_of ds) (second_stops_of ds)
  pub both_drones : drones ≡ two (first_drones_of ds) (second_drones_of ds)
  pub flag_bytes : flags ≡ flags_of ds

-- the sides of the dependencies, lent from a call's columns
pub record SidesIn (stops drones : List (List ℕ)) (sides : Sides) : Type 0 where
  pub first_drones_lem : sides.first_drones.now ≡ get_or drones 0 []
  pub first_stops_lem : sides.first_stops.now ≡ get_or stops 0 []
  pub second_drones_lem : sides.second_drones.now ≡ get_or drones 1 []
  pub second_stops_lem : sides.second_stops.now ≡ get_or stops 1 []

-- what a call knows of the lent records ds: how many there are, and the columns of those that it sees if there are enough
pub record Spread (L : Limits) (ds : List Dependency) (lent : ℕ) (stops drones : List (List ℕ)) (flags : List ℕ) : Type 0 where
  pub lent_records : lent ≡ length ds
  pub columns : L.dependencies ≤ length ds → InColumns (seen L ds) stops drones flags
