-- A call that fills the lent tables, a reading or a joining, made on columns that came in zeroed: what it writes does not depend on what the records held, and where it writes nothing the records stay.
--     Twice, same-written, unwritten    its answers to tables that differ only in what is zeroed
--     answered-stored    the answer over the lent records
--     reserved-stored    and their reserved bytes
-- Assumes nothing.
use mathlib.Core.Path.{◌≡◌, refl, sym, ap, ◌∙◌}
use mathlib.Core.Bool.{Bool, true, false, not, cond}
use mathlib.Core.List.{List, map}
use Prim.Native.Nat.{ℕ, ◌≤◌}
use native.Mathlib.Omega.{arith}
use lib.ListN.{length, take, length-map, length-take, drop_of_length-le}
use Rattle.below.proofs.Tests.{true_or_false}
use Rattle.tables.specs.Limits.{Limits}
use Rattle.tables.specs.Tables.{Tables, tables_of, full_size}
use Rattle.tables.specs.Zero.{zeroed, zeroed_tables}
use Rattle.tables.specs.declared.entries.Dependency.{Dependency}
use Rattle.tables.proofs.Zero.{zeroed-same}
use Rattle.reading.specs.Replies.{ReadingReply, reading_number}
use Rattle.reading.specs.Reading.{ReadingAnswer, with_reply, AnsweredAs}
use Rattle.records.specs.Records.{ColumnSizes, ColumnsOf, gathered, store_if, zero_records, seen, tables_of_records}
use Rattle.records.proofs.ColumnLaws.{zero-length, column_sizes}
use Rattle.records.proofs.Seen.{full_spread, tables_stored}
use Rattle.conductor.specs.Changes.{reserved_of, ReservedBy}
use Rattle.conductor.proofs.Reserved.{reserved_zeroed}

-- ---- two answers x and x₀, to tables t and t₀ that differ only in what is zeroed

module _ (isKept : ℕ → Bool) (t t₀ : Tables) where
  -- by whether the number is one that writes nothing: written, the same answer; not written, each as it was
  pub record Twice (x x₀ : ReadingAnswer) : Type 0 where
    pub answer : isKept (reading_number x₀.reply) ≡ false → x₀ ≡ x
    pub reply : x₀.reply ≡ x.reply
    pub kept : isKept (reading_number x₀.reply) ≡ true → (x₀.tables ≡ t₀) × (x.tables ≡ t)

  pub same-written : {x x₀ : ReadingAnswer} → x₀ ≡ x → isKept (reading_number x₀.reply) ≡ false → Twice x x₀
  same-written e k = record { answer = λ w. e; reply = ap (λ (x : ReadingAnswer). x.reply) e; kept = λ w. true_or_false w k }

  pub unwritten : (r : ReadingReply) → isKept (reading_number r) ≡ true → Twice (with_reply r t) (with_reply r t₀)
  unwritten r k = record { answer = λ w. true_or_false k w; reply = refl; kept = λ w. (refl, refl) }

-- ---- the columns that came in zeroed, and those of the records

other_way : (u b : Bool) (x y : List ℕ) → b ≡ not u → cond b x y ≡ cond u y x
other_way true b x y e = rw e refl
other_way false b x y e = rw e refl

stays : (u : Bool) → false ≡ not u → u ≡ true
stays true e = refl
stays false e = true_or_false e refl

changes : (u : Bool) → true ≡ not u → u ≡ false
changes true e = true_or_false refl e
changes false e = refl

module _ (L : Limits) where
  seen-zeroed : (f : Dependency → ℕ) (ds : List Dependency) (column : List ℕ) → L.dependencies ≤ length ds → length column ≡ L.dependencies → zeroed L.dependencies column ≡ zeroed L.dependencies (map f (seen L ds))
  unfolding seen
  seen-zeroed f ds column l e =
      let s : length (map f (take L.dependencies ds)) ≡ L.dependencies = length-map (take L.dependencies ds) f ∙ length-take L.dependencies ds ∙ omega arith in
      zeroed-same L.dependencies column (map f (take L.dependencies ds)) (e ∙ sym s)
      (drop_of_length-le column {i = L.dependencies} (omega arith) ∙ sym (drop_of_length-le (map f (take L.dependencies ds)) {i = L.dependencies} (omega (arith, s))))

  -- records that were stored or not, by their reserved bytes
  reserved_by : (first_drones first_stops second_drones second_stops flags : List ℕ) (ds after : List Dependency) → L.dependencies ≤ length ds → (b : Bool) → after ≡ store_if L b (gathered L first_drones first_stops second_drones second_stops flags) ds → reserved_of after ≡ cond b (zeroed L.dependencies (reserved_of ds)) (reserved_of ds)
  unfolding store_if
  reserved_by first_drones first_stops second_drones second_stops flags ds after l true is = ap reserved_of is ∙ reserved_zeroed L first_drones first_stops second_drones second_stops flags ds l
  reserved_by first_drones first_stops second_drones second_stops flags ds after l false is = ap reserved_of is

  pub reserved_stored : (first_drones first_stops second_drones second_stops flags : List ℕ) (ds after : List Dependency) (u b : Bool) → L.dependencies ≤ length ds → b ≡ not u → after ≡ store_if L b (gathered L first_drones first_stops second_drones second_stops flags) ds → ReservedBy L u ds after
  reserved_stored first_drones first_stops second_drones second_stops flags ds after u b l w is =
      reserved_by first_drones first_stops second_drones second_stops flags ds after l b is ∙ other_way u b (zeroed L.dependencies (reserved_of ds)) (reserved_of ds) w

  module _ (isKept : ℕ → Bool) (program : Tables → ReadingAnswer) (twice : (t t₀ : Tables) → full_size L t₀ ≡ full_size L t → zeroed_tables L t₀ ≡ zeroed_tables L t → Twice isKept t t₀ (program t) (program t₀)) (drone_count dependency_count form names stop_counts locations times legs visited drone_flags pairs : List ℕ) (ds : List Dependency) (first_drones first_stops second_drones second_stops flags : List ℕ) (l : L.dependencies ≤ length ds) (z : ColumnsOf (zero_records L) first_drones first_stops second_drones second_stops flags) where
    abbrev Lent : Tables
    Lent = tables_of_records L drone_count dependency_count form names stop_counts locations times legs visited drone_flags ds pairs

    abbrev Zeroed : Tables
    Zeroed = tables_of drone_count dependency_count form names stop_counts locations times legs visited drone_flags first_drones first_stops second_drones second_stops flags pairs

    same-zeroed : zeroed_tables L Zeroed ≡ zeroed_tables L Lent
    same-zeroed =
        let sizes = column_sizes L (zero_records L) (zero-length L) z in
        rw (
          seen-zeroed (λ (d : Dependency). d.first_drone) ds first_drones l sizes.first_drones_lem,
          seen-zeroed (λ (d : Dependency). d.first_stop) ds first_stops l sizes.first_stops_lem,
          seen-zeroed (λ (d : Dependency). d.second_drone) ds second_drones l sizes.second_drones_lem,
          seen-zeroed (λ (d : Dependency). d.second_stop) ds second_stops l sizes.second_stops_lem,
          seen-zeroed (λ (d : Dependency). d.flags) ds flags l sizes.flag_bytes,
        ) refl

    both : Twice isKept Lent Zeroed (program Lent) (program Zeroed)
    both = twice Lent Zeroed (full_spread L drone_count dependency_count form names stop_counts locations times legs visited drone_flags pairs ds l z) same-zeroed

    -- the other tables of u, with the records
    abbrev with_records : Tables → Tables
    with_records u = tables_of_records L u.plan.drone_count u.plan.dependency_count u.plan.form u.plan.names u.plan.stop_counts u.plan.locations u.plan.times u.plan.legs u.visited u.drone_flags ds u.plan.pairs

    module _ (r : ReadingReply) (droneCount' dependencyCount' form' names' stopCounts' locations' times' legs' visited' droneFlags' firstDrones' firstStops' secondDrones' secondStops' flags' pairs' : List ℕ) (after : List Dependency) where
      abbrev Left : Tables
      Left = tables_of droneCount' dependencyCount' form' names' stopCounts' locations' times' legs' visited' droneFlags' firstDrones' firstStops' secondDrones' secondStops' flags' pairs'

      abbrev After : Tables
      After = tables_of_records L droneCount' dependencyCount' form' names' stopCounts' locations' times' legs' visited' droneFlags' after pairs'

      -- by whether it writes
      left_is : (b : Bool) → ColumnSizes L firstDrones' firstStops' secondDrones' secondStops' flags' → AnsweredAs (program Zeroed) r Left → b ≡ not (isKept (reading_number (program Zeroed).reply)) → after ≡ store_if L b (gathered L firstDrones' firstStops' secondDrones' secondStops' flags') ds → After ≡ (program Lent).tables
      unfolding store_if
      left_is true z' a w is = sym (tables_stored L ds after z' l is) ∙ a.left ∙ ap (λ (x : ReadingAnswer). x.tables) (both.answer (changes (isKept (reading_number (program Zeroed).reply)) w))
      left_is false z' a w is =
          let kept = both.kept (stays (isKept (reading_number (program Zeroed).reply)) w) in
          ap (λ (x : List Dependency). tables_of_records L droneCount' dependencyCount' form' names' stopCounts' locations' times' legs' visited' droneFlags' x pairs') is ∙ ap with_records (a.left ∙ kept.0) ∙ sym kept.1

      pub answered_stored : (b : Bool) → ColumnSizes L firstDrones' firstStops' secondDrones' secondStops' flags' → AnsweredAs (program Zeroed) r Left → b ≡ not (isKept (reading_number r)) → after ≡ store_if L b (gathered L firstDrones' firstStops' secondDrones' secondStops' flags') ds → AnsweredAs (program Lent) r After
      answered_stored b z' a w is = record {
        replied = a.replied ∙ both.reply;
        left = left_is b z' a (w ∙ ap (λ (x : ReadingReply). not (isKept (reading_number x))) a.replied) is;
      }
