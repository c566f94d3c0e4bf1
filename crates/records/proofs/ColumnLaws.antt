-- The columns of records.
--     column-entry    an entry of a column
--     zero-columns, zero-in-columns    zeroed columns are those of zero records
--     in-none, in-more, in-used, in-first, in-same    the columns of a call as records are put into them
--     column-sizes    columns are as long as their records
--     gathered-record, gathered-length, gathered-columns    the records that are made of columns have those columns
-- Assumes nothing.
use mathlib.Core.Path.{◌≡◌, refl, sym, ap, subst, ◌∙◌}
use mathlib.Core.List.{List, [], ◌∷◌, map}
use Prim.Native.Nat.{ℕ, zero, suc, ◌+◌, ◌<◌, min}
use native.Mathlib.Omega.{arith}
use lib.ListN.{length, get_or, set, replicate, length-map, length-replicate, get_or-map}
use lib.Seq.{ext_get_or}
use Rattle.below.specs.Below.{at, list_below}
use Rattle.below.proofs.Index.{length-list_below, get_d_list_below}
use Rattle.tables.specs.Limits.{Limits}
use Rattle.tables.specs.Entries.{zero_dependency}
use Rattle.tables.specs.declared.entries.Dependency.{Dependency}
use Rattle.records.specs.Records.{record_at, overlaid, ColumnSizes, ColumnsOf, record_of, gathered, zero_records, used_records, two, put_two, InColumns}
use Rattle.records.proofs.Overlaid.{overlaid-none, overlaid-more}

-- entry k of a column is the field of record k
pub column_entry : (f : Dependency → ℕ) (ds : List Dependency) (k : ℕ) → f zero_dependency ≡ 0 → at (map f ds) k ≡ f (record_at ds k)
column_entry f ds k z = ap (λ (d : ℕ). get_or (map f ds) k d) (sym z) ∙ get_or-map f ds k zero_dependency

pub map-set {ℓ} : {A : Type ℓ} (f : A → ℕ) (l : List A) (i : ℕ) (y : A) → map f (set l i y) ≡ set (map f l) i (f y)
map-set f [] i y = refl
map-set f (x ∷ l) zero y = refl
map-set f (x ∷ l) (suc i) y = ap (λ (u : List ℕ). f x ∷ u) (map-set f l i y)

map-replicate : (f : Dependency → ℕ) (n : ℕ) (d : Dependency) → replicate n (f d) ≡ map f (replicate n d)
map-replicate f zero d = refl
map-replicate f (suc n) d = ap (λ (u : List ℕ). f d ∷ u) (map-replicate f n d)

pub two-same : {a b c d : List ℕ} → a ≡ b → c ≡ d → two a c ≡ two b d
two-same {a} {b} {c} {d} e f = ap (λ (u : List ℕ). two u c) e ∙ ap (two b) f

-- a record more, in both columns of a table
two_put : (f g : Dependency → ℕ) (es : List Dependency) (i : ℕ) (d : Dependency) (t t' : List (List ℕ)) → t' ≡ put_two i (f d) (g d) t → t ≡ two (map f es) (map g es) → t' ≡ two (map f (set es i d)) (map g (set es i d))
two_put f g es i d t t' e c = e ∙ ap (put_two i (f d) (g d)) c ∙ two-same (sym (map-set f es i d)) (sym (map-set g es i d))

module _ (L : Limits) where
  pub zero_columns : ColumnsOf (zero_records L) (replicate L.dependencies 0) (replicate L.dependencies 0) (replicate L.dependencies 0) (replicate L.dependencies 0) (replicate L.dependencies 0)
  unfolding zero_records
  zero_columns = record {
    first_drones_lem = map-replicate (λ (d : Dependency). d.first_drone) L.dependencies zero_dependency;
    first_stops_lem = map-replicate (λ (d : Dependency). d.first_stop) L.dependencies zero_dependency;
    second_drones_lem = map-replicate (λ (d : Dependency). d.second_drone) L.dependencies zero_dependency;
    second_stops_lem = map-replicate (λ (d : Dependency). d.second_stop) L.dependencies zero_dependency;
    flag_bytes = map-replicate (λ (d : Dependency). d.flags) L.dependencies zero_dependency;
  }

  pub zero-length : length (zero_records L) ≡ L.dependencies
  unfolding zero_records
  zero-length = length-replicate L.dependencies zero_dependency

  pub zero_in_columns : InColumns (zero_records L) (replicate 2 (replicate L.dependencies 0)) (replicate 2 (replicate L.dependencies 0)) (replicate L.dependencies 0)
  unfolding zero_records
  zero_in_columns = record {
    both_stops = two-same zero_columns.first_stops_lem zero_columns.second_stops_lem;
    both_drones = two-same zero_columns.first_drones_lem zero_columns.second_drones_lem;
    flag_bytes = zero_columns.flag_bytes;
  }

  -- ---- the used records one after the other

  module _ {stops drones : List (List ℕ)} {flags : List ℕ} where
    pub in_used : (used : ℕ) (ds : List Dependency) (i : ℕ) → i ≡ min used (min L.dependencies (length ds)) → InColumns (overlaid i ds (zero_records L)) stops drones flags → InColumns (used_records L used ds) stops drones flags
    unfolding used_records
    in_used used ds i e c = subst (λ (k : ℕ). InColumns (overlaid k ds (zero_records L)) stops drones flags) e c

    pub in_first : (used : ℕ) (ds : List Dependency) (i : ℕ) → i ≡ min used (min L.dependencies (length ds)) → InColumns (used_records L used ds) stops drones flags → InColumns (overlaid i ds (zero_records L)) stops drones flags
    unfolding used_records
    in_first used ds i e c = subst (λ (k : ℕ). InColumns (overlaid k ds (zero_records L)) stops drones flags) (sym e) c

    pub in_none : (ds : List Dependency) → InColumns (zero_records L) stops drones flags → InColumns (used_records L 0 ds) stops drones flags
    in_none ds c = in_used 0 ds 0 (omega arith) (subst (λ (x : List Dependency). InColumns x stops drones flags) (overlaid-none ds (zero_records L)) c)

    -- as many are used of two numbers
    pub in_same : (ds : List Dependency) (i j : ℕ) → min i (min L.dependencies (length ds)) ≡ min j (min L.dependencies (length ds)) → InColumns (used_records L i ds) stops drones flags → InColumns (used_records L j ds) stops drones flags
    in_same ds i j e c = in_used j ds (min i (min L.dependencies (length ds))) e (in_first i ds (min i (min L.dependencies (length ds))) refl c)

    pub in_more : {stops' drones' : List (List ℕ)} {flags' : List ℕ} (ds : List Dependency) (i : ℕ) → i < length ds → i < L.dependencies
        → stops' ≡ put_two i (record_at ds i).first_stop (record_at ds i).second_stop stops
        → drones' ≡ put_two i (record_at ds i).first_drone (record_at ds i).second_drone drones
        → flags' ≡ set flags i (record_at ds i).flags
        → InColumns (overlaid i ds (zero_records L)) stops drones flags → InColumns (overlaid (i + 1) ds (zero_records L)) stops' drones' flags'
    in_more {stops'} {drones'} {flags'} ds i l m a b g c =
        let es : List Dependency = overlaid i ds (zero_records L) in
        let d : Dependency = record_at ds i in
        subst (λ (x : List Dependency). InColumns x stops' drones' flags') (overlaid-more ds (zero_records L) es i d zero_dependency l (omega (arith, zero-length)) refl refl)
        (record {
          both_stops = two_put (λ (x : Dependency). x.first_stop) (λ (x : Dependency). x.second_stop) es i d stops stops' a c.both_stops;
          both_drones = two_put (λ (x : Dependency). x.first_drone) (λ (x : Dependency). x.second_drone) es i d drones drones' b c.both_drones;
          flag_bytes = g ∙ ap (λ (u : List ℕ). set u i d.flags) c.flag_bytes ∙ sym (map-set (λ (x : Dependency). x.flags) es i d);
        })

  module _ {first_drones first_stops second_drones second_stops flags : List ℕ} where
    pub column_sizes : (ds : List Dependency) → length ds ≡ L.dependencies → ColumnsOf ds first_drones first_stops second_drones second_stops flags → ColumnSizes L first_drones first_stops second_drones second_stops flags
    column_sizes ds e c = record {
      first_drones_lem = ap length c.first_drones_lem ∙ length-map ds (λ (d : Dependency). d.first_drone) ∙ e;
      first_stops_lem = ap length c.first_stops_lem ∙ length-map ds (λ (d : Dependency). d.first_stop) ∙ e;
      second_drones_lem = ap length c.second_drones_lem ∙ length-map ds (λ (d : Dependency). d.second_drone) ∙ e;
      second_stops_lem = ap length c.second_stops_lem ∙ length-map ds (λ (d : Dependency). d.second_stop) ∙ e;
      flag_bytes = ap length c.flag_bytes ∙ length-map ds (λ (d : Dependency). d.flags) ∙ e;
    }

  -- ---- the records that are made of columns

  -- field f of the records that are made of columns is the column that it was taken from
  field : (f : Dependency → ℕ) (of : ℕ → Dependency) (column : List ℕ) → length column ≡ L.dependencies → ((k : ℕ) → f (of k) ≡ at column k) → f zero_dependency ≡ 0 → column ≡ map f (list_below L.dependencies of)
  field f of column e h z =
      let made : List Dependency = list_below L.dependencies of in
      ext_get_or 0 column (map f made) (e ∙ sym (length-map made f ∙ length-list_below L.dependencies of))
      (λ k l. sym (column_entry f made k z ∙ ap f (get_d_list_below L.dependencies of zero_dependency k (omega arith)) ∙ h k))

  module _ (first_drones first_stops second_drones second_stops flags : List ℕ) where
    pub gathered_record : (i : ℕ) → i < L.dependencies → record_of first_drones first_stops second_drones second_stops flags i ≡ record_at (gathered L first_drones first_stops second_drones second_stops flags) i
    unfolding gathered
    gathered_record i l = sym (get_d_list_below L.dependencies (record_of first_drones first_stops second_drones second_stops flags) zero_dependency i l)

    pub gathered-length : length (gathered L first_drones first_stops second_drones second_stops flags) ≡ L.dependencies
    unfolding gathered
    gathered-length = length-list_below L.dependencies (record_of first_drones first_stops second_drones second_stops flags)

    pub gathered_columns : ColumnSizes L first_drones first_stops second_drones second_stops flags → ColumnsOf (gathered L first_drones first_stops second_drones second_stops flags) first_drones first_stops second_drones second_stops flags
    unfolding gathered
    gathered_columns s =
        let of : ℕ → Dependency = record_of first_drones first_stops second_drones second_stops flags in
        record {
          first_drones_lem = field (λ (d : Dependency). d.first_drone) of first_drones s.first_drones_lem (λ k. refl) refl;
          first_stops_lem = field (λ (d : Dependency). d.first_stop) of first_stops s.first_stops_lem (λ k. refl) refl;
          second_drones_lem = field (λ (d : Dependency). d.second_drone) of second_drones s.second_drones_lem (λ k. refl) refl;
          second_stops_lem = field (λ (d : Dependency). d.second_stop) of second_stops s.second_stops_lem (λ k. refl) refl;
          flag_bytes = field (λ (d : Dependency). d.flags) of flags s.flag_bytes (λ k. refl) refl;
        }
