-- The reserved bytes of the records.
--     reserved-zeroed    records that were stored have none set, and those past the full size keep theirs
--     reserved-flip, reserved-flips    a turn, of one and of a list, keeps them all
-- Assumes nothing.
use mathlib.Core.Path.{◌≡◌, refl, sym, ap, ◌∙◌}
use mathlib.Core.Bool.{Bool, true, false}
use mathlib.Core.List.{List, [], ◌∷◌}
use Prim.Native.Nat.{ℕ, ◌≤◌, ◌<◌, min}
use native.Mathlib.Omega.{arith}
use lib.Dec.{ltb}
use lib.ListN.{length, length-map}
use lib.Seq.{ext_get_or}
use borrow.Author.Tests.{ltb-true, ltb-false}
use Rattle.below.specs.Below.{at}
use Rattle.below.proofs.Tests.{by_cases}
use Rattle.tables.specs.Limits.{Limits}
use Rattle.tables.specs.Entries.{zero_dependency}
use Rattle.tables.specs.Zero.{zeroed}
use Rattle.tables.specs.declared.entries.Dependency.{Dependency}
use Rattle.tables.proofs.Zero.{zeroed-length, zeroed-below, zeroed-past}
use Rattle.records.specs.Records.{record_at, overlaid, gathered, store_if, flip_if, flip_all_if}
use Rattle.records.proofs.ColumnLaws.{column_entry, gathered_record, gathered-length}
use Rattle.records.proofs.Flips.{field_stays}
use Rattle.records.proofs.Overlaid.{overlaid-length, overlaid-below, overlaid_above}
use Rattle.conductor.specs.Changes.{reserved_of}

-- entry k of the reserved bytes is that of record k
reserved_at : (ds : List Dependency) (k : ℕ) → at (reserved_of ds) k ≡ (record_at ds k).reserved
reserved_at ds k = column_entry (λ (d : Dependency). d.reserved) ds k refl

module _ (L : Limits) (first_drones first_stops second_drones second_stops flags : List ℕ) (ds : List Dependency) (l : L.dependencies ≤ length ds) where
  abbrev made : List Dependency
  made = gathered L first_drones first_stops second_drones second_stops flags

  abbrev full : ℕ
  full = L.dependencies

  long : length made ≡ full
  long = gathered-length L first_drones first_stops second_drones second_stops flags

  abbrev after : List Dependency
  after = overlaid full made ds

  below-full : (k : ℕ) → k < full → at (reserved_of after) k ≡ at (zeroed full (reserved_of ds)) k
  below-full k h =
      reserved_at after k
      ∙ ap (λ (d : Dependency). d.reserved) (overlaid-below made ds full k zero_dependency (omega (arith, long)) h ∙ sym (gathered_record L first_drones first_stops second_drones second_stops flags k h))
      ∙ sym (zeroed-below full (reserved_of ds) k h)

  past-full : (k : ℕ) → full ≤ k → at (reserved_of after) k ≡ at (zeroed full (reserved_of ds)) k
  past-full k h =
      reserved_at after k
      ∙ ap (λ (d : Dependency). d.reserved) (overlaid_above made ds full k zero_dependency (omega (arith, long)) h)
      ∙ sym (reserved_at ds k)
      ∙ sym (zeroed-past full (reserved_of ds) k 0 h)

  same_bytes : reserved_of after ≡ zeroed full (reserved_of ds)
  same_bytes = ext_get_or 0 (reserved_of after) (zeroed full (reserved_of ds))
      (length-map after (λ (d : Dependency). d.reserved) ∙ overlaid-length made ds full (omega (arith, long)) l ∙ sym (zeroed-length full (reserved_of ds) ∙ length-map ds (λ (d : Dependency). d.reserved)))
      (λ k h. by_cases (ltb k full) (λ e. below-full k (ltb-true k full e)) (λ e. past-full k (ltb-false k full e)))

  pub reserved_zeroed : reserved_of (store_if L true made ds) ≡ zeroed full (reserved_of ds)
  unfolding store_if
  reserved_zeroed = let m : min full (length ds) ≡ full = omega arith in rw m same_bytes

pub reserved_flip : (turns : Bool) (w : ℕ) (ds : List Dependency) → reserved_of (flip_if turns w ds) ≡ reserved_of ds
reserved_flip true w ds = field_stays (λ (d : Dependency). d.reserved) (λ d. refl) ds w
reserved_flip false w ds = refl

pub reserved_flips : (turns : Bool) (ws : List ℕ) (ds : List Dependency) → reserved_of (flip_all_if turns ws ds) ≡ reserved_of ds
unfolding flip_all_if
reserved_flips turns [] ds = refl
reserved_flips turns (w ∷ ws) ds = reserved_flips turns ws (flip_if turns w ds) ∙ reserved_flip turns w ds
