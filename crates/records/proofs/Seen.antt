-- The tables that a call sees: by the columns of the records, by records that were stored, and of a lent table that is too short.
--     tables-spread, tables-in-columns, seen_tables    the columns of the records that are seen are the tables' own
--     full-spread    only the lengths count for the full sizes
--     tables-short    a lent table below its full size makes the tables too small
--     stored_is, stored-rest, tables-stored    records that were stored: what is seen of them, and what lies past the full size is as it was
-- Assumes nothing.
use mathlib.Core.Path.{◌≡◌, refl, sym, ap, ◌∙◌}
use mathlib.Core.Bool.{Bool, true, false}
use mathlib.Core.List.{List, [], map}
use Prim.Native.Nat.{ℕ, ◌≤◌, ◌<◌, min}
use native.Mathlib.Omega.{arith}
use lib.Dec.{leb}
use lib.ListN.{length, get_or, take, drop, length-map, length-take, drop_of_length-le}
use lib.Seq.{take_all, take_at, drop_at, length-take-le}
use borrow.Author.Tests.{leb-true, leb-false}
use Rattle.below.specs.Below.{pick}
use Rattle.below.proofs.Tests.{by_cases}
use Rattle.tables.specs.Limits.{Limits}
use Rattle.tables.specs.Tables.{Tables, tables_of, full_size}
use Rattle.tables.specs.declared.entries.Dependency.{Dependency}
use Rattle.tables.proofs.SizeLaws.{full_sizes, full_size_lengths}
use Rattle.tables.specs.Lent.{lent_tables}
use Rattle.tables.specs.declared.lent.Plan.{Plan}
use Rattle.tables.specs.declared.lent.Sides.{Sides}
use Rattle.records.specs.Records.{overlaid, ColumnSizes, ColumnsOf, InColumns, SidesIn, Spread, gathered, store_if, zero_records, seen, tables_of_records, records_in, flags_of}
use Rattle.records.proofs.ColumnLaws.{zero-length, column_sizes, gathered-length, gathered_columns}
use Rattle.records.proofs.Overlaid.{overlaid-none, overlaid-length}

module _ (L : Limits) where
  seen-field : (f : Dependency → ℕ) (ds : List Dependency) → L.dependencies ≤ length ds → length (map f (seen L ds)) ≡ L.dependencies
  unfolding seen
  seen-field f ds l = length-map (take L.dependencies ds) f ∙ length-take L.dependencies ds ∙ omega arith

  seen-short : (ds : List Dependency) → length ds < L.dependencies → length (flags_of (seen L ds)) < L.dependencies
  unfolding seen
  seen-short ds l = omega (arith, length-map (take L.dependencies ds) (λ (d : Dependency). d.flags), length-take L.dependencies ds)

  pub tables_short : (t : Tables) (ds : List Dependency) → t.flags ≡ flags_of (seen L ds) → length ds < L.dependencies → full_size L t ≡ false
  tables_short t ds e l = by_cases (full_size L t) (λ f. absurd (omega (arith, seen-short ds l, ap length e, (full_sizes L t f).flags))) (λ f. f)

  -- ---- records that were stored

  pub stored_is : (stores : Bool) (table ds out : List Dependency) (n i : ℕ) → n ≡ pick stores (min L.dependencies (length ds)) 0 → i ≡ n → out ≡ overlaid i table ds → out ≡ store_if L stores table ds
  unfolding store_if
  stored_is true table ds out n i last all e = e ∙ rw (all, last)
  stored_is false table ds out n i last all e = e ∙ rw (all, last) (sym (overlaid-none table ds))

  stored-seen : (table ds : List Dependency) → length table ≡ L.dependencies → L.dependencies ≤ length ds → seen L (store_if L true table ds) ≡ table
  unfolding store_if overlaid seen
  stored-seen table ds e l =
      let m : min L.dependencies (length ds) ≡ L.dependencies = omega arith in
      rw m (take_at (take L.dependencies table) (drop L.dependencies ds) L.dependencies (length-take-le L.dependencies table (omega arith)))
      ∙ take_all L.dependencies table (omega arith)

  -- as many as are lent and no more
  stored_some : (table ds : List Dependency) → length table ≡ L.dependencies → drop L.dependencies (overlaid (min L.dependencies (length ds)) table ds) ≡ drop L.dependencies ds
  unfolding overlaid
  stored_some table ds e = by_cases (leb (length ds) L.dependencies)
      (λ b. let l : length ds ≤ L.dependencies = leb-true (length ds) L.dependencies b in
      drop_of_length-le (overlaid (min L.dependencies (length ds)) table ds) {i = L.dependencies} (omega (arith, overlaid-length table ds (min L.dependencies (length ds)) (omega arith) (omega arith)))
      ∙ sym (drop_of_length-le ds l))
      (λ b. let l : L.dependencies < length ds = leb-false (length ds) L.dependencies b in
      let m : min L.dependencies (length ds) ≡ L.dependencies = omega arith in
      rw m (drop_at (take L.dependencies table) (drop L.dependencies ds) L.dependencies (length-take-le L.dependencies table (omega arith))))

  pub stored_rest : (stores : Bool) (table ds after : List Dependency) → length table ≡ L.dependencies → after ≡ store_if L stores table ds → drop L.dependencies after ≡ drop L.dependencies ds
  unfolding store_if
  stored_rest true table ds after e is = ap (drop L.dependencies) is ∙ stored_some table ds e
  stored_rest false table ds after e is = ap (drop L.dependencies) is

  module _ {drone_count dependency_count form names stop_counts locations times legs visited drone_flags first_drones first_stops second_drones second_stops flags pairs : List ℕ} where
    pub tables_spread : (ds : List Dependency) → ColumnsOf (seen L ds) first_drones first_stops second_drones second_stops flags → tables_of drone_count dependency_count form names stop_counts locations times legs visited drone_flags first_drones first_stops second_drones second_stops flags pairs ≡ tables_of_records L drone_count dependency_count form names stop_counts locations times legs visited drone_flags ds pairs
    tables_spread ds c = rw (c.first_drones_lem, c.first_stops_lem, c.second_drones_lem, c.second_stops_lem, c.flag_bytes) refl

    pub tables_stored : (ds after : List Dependency) → ColumnSizes L first_drones first_stops second_drones second_stops flags → L.dependencies ≤ length ds → after ≡ store_if L true (gathered L first_drones first_stops second_drones second_stops flags) ds → tables_of drone_count dependency_count form names stop_counts locations times legs visited drone_flags first_drones first_stops second_drones second_stops flags pairs ≡ tables_of_records L drone_count dependency_count form names stop_counts locations times legs visited drone_flags after pairs
    tables_stored ds after s l is =
        let made : List Dependency = gathered L first_drones first_stops second_drones second_stops flags in
        let all : seen L after ≡ made = ap (seen L) is ∙ stored-seen made ds (gathered-length L first_drones first_stops second_drones second_stops flags) l in
        tables_spread after (rw all (gathered_columns L first_drones first_stops second_drones second_stops flags s))

  pub tables_in_columns : {drone_count dependency_count form names stop_counts locations times legs visited drone_flags flags pairs : List ℕ} {stops drones : List (List ℕ)} (ds : List Dependency) → InColumns (seen L ds) stops drones flags → tables_of drone_count dependency_count form names stop_counts locations times legs visited drone_flags (get_or drones 0 []) (get_or stops 0 []) (get_or drones 1 []) (get_or stops 1 []) flags pairs ≡ tables_of_records L drone_count dependency_count form names stop_counts locations times legs visited drone_flags ds pairs
  tables_in_columns ds c = rw (c.both_drones, c.both_stops, c.flag_bytes) refl

  -- columns of the full size, and as many records
  module _ (drone_count dependency_count form names stop_counts locations times legs visited drone_flags pairs : List ℕ) {first_drones first_stops second_drones second_stops flags : List ℕ} where
    pub full_spread : (ds : List Dependency) → L.dependencies ≤ length ds → ColumnsOf (zero_records L) first_drones first_stops second_drones second_stops flags → full_size L (tables_of drone_count dependency_count form names stop_counts locations times legs visited drone_flags first_drones first_stops second_drones second_stops flags pairs) ≡ full_size L (tables_of_records L drone_count dependency_count form names stop_counts locations times legs visited drone_flags ds pairs)
    full_spread ds l c =
        let s : ColumnSizes L first_drones first_stops second_drones second_stops flags = column_sizes L (zero_records L) (zero-length L) c in
        full_size_lengths L _ _ (record {
          drone_count_lem = refl;
          dependency_count = refl;
          form = refl;
          names = refl;
          stop_counts_lem = refl;
          locations = refl;
          times = refl;
          legs = refl;
          first_drones_lem = s.first_drones_lem ∙ sym (seen-field (λ (d : Dependency). d.first_drone) ds l);
          first_stops_lem = s.first_stops_lem ∙ sym (seen-field (λ (d : Dependency). d.first_stop) ds l);
          second_drones_lem = s.second_drones_lem ∙ sym (seen-field (λ (d : Dependency). d.second_drone) ds l);
          second_stops_lem = s.second_stops_lem ∙ sym (seen-field (λ (d : Dependency). d.second_stop) ds l);
          visited = refl;
          drone_flags = refl;
          flags = s.flag_bytes ∙ sym (seen-field (λ (d : Dependency). d.flags) ds l);
          pairs = refl;
        })

  -- the same of lent sides
  pub seen_tables : {ds : List Dependency} {lent : ℕ} {stops drones : List (List ℕ)} {flags : List ℕ} {sides : Sides} → Spread L ds lent stops drones flags → L.dependencies ≤ length ds → SidesIn stops drones sides → (plan : Plan) (visited drone_flags : List ℕ) → lent_tables plan visited drone_flags sides flags ≡ records_in L plan visited drone_flags ds
  seen_tables {ds} s l e plan visited drone_flags = rw (e.first_drones_lem, e.first_stops_lem, e.second_drones_lem, e.second_stops_lem) (tables_in_columns ds (s.columns l))
