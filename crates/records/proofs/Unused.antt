-- Records that are zero: the loop that sums their fields, and what it says of the columns.
--     unused-none, unused-more, unused-end    the sum of a block of records
--     in-zero    records that are zero are in zeroed columns already
--     in_all    the columns of all are those of the records that a call sees
-- Assumes nothing.
use mathlib.Core.Path.{◌≡◌, refl, sym, ap, subst, ◌∙◌}
use mathlib.Core.Bool.{Bool, true, ◌&&◌, ◌||◌}
use mathlib.Core.List.{List, ◌++◌, map, append-nil}
use Prim.Native.Nat.{ℕ, zero, suc, ◌+◌, ◌≤◌, ◌<◌, min}
use native.Mathlib.Numerals.{add-one}
use native.Mathlib.Omega.{arith}
use lib.Dec.{ltb, eqb}
use lib.ListN.{length, take, replicate, length-map, length-replicate, drop_of_length-le, get_or-replicate}
use lib.Seq.{ext_get_or}
use borrow.Author.Tests.{ltb-true, ltb-false, lt-ltb, le-ltb, ne_eqb, eqb-true}
use Rattle.below.specs.Below.{all_below}
use Rattle.below.proofs.Every.{all_below-at, all_below_all}
use Rattle.below.proofs.Tests.{by_cases}
use Rattle.tables.specs.Limits.{Limits}
use Rattle.tables.specs.Entries.{zero_dependency}
use Rattle.tables.specs.declared.entries.Dependency.{Dependency}
use Rattle.records.specs.Records.{record_at, overlaid, InColumns, zero_records, used_records, field_sum, zero_between, seen}
use Rattle.records.proofs.Overlaid.{overlaid-length, overlaid-below, overlaid_above}
use Rattle.records.proofs.ColumnLaws.{column_entry, zero-length, two-same}

sum-zero : (s x : ℕ) → eqb (s + x) 0 ≡ eqb s 0 && eqb x 0
sum-zero zero x = let e : 0 + x ≡ x = omega arith in ap (λ (k : ℕ). eqb k 0) e
sum-zero (suc s) x = rw (ne_eqb (suc s + x) 0 (λ e. omega arith), ne_eqb (suc s) 0 (λ e. omega arith)) refl

-- record i is one before, or zero
abbrev pub clear : ℕ → List Dependency → ℕ → Bool
clear from ds i = ltb i from || eqb (field_sum (record_at ds i)) 0

module _ (from : ℕ) (ds : List Dependency) where
  pub unused_none : (i : ℕ) → i ≤ from → true ≡ all_below i (clear from ds)
  unused_none i l = sym (all_below_all i (clear from ds) (λ k h. rw (lt-ltb k from (omega arith)) refl))

  pub unused_more : (i s x : ℕ) → from ≤ i → x ≡ field_sum (record_at ds i) → eqb s 0 ≡ all_below i (clear from ds) → eqb (s + x) 0 ≡ all_below (i + 1) (clear from ds)
  unfolding all_below
  unused_more i s x l e h = rw (add-one, sym h, le-ltb i from l) (sum-zero s x ∙ ap (λ (k : ℕ). eqb s 0 && eqb k 0) e)

  pub unused_end : (to i s : ℕ) → i ≡ to → eqb s 0 ≡ all_below i (clear from ds) → eqb s 0 ≡ zero_between from to ds
  unfolding zero_between
  unused_end to i s e h = h ∙ ap (λ (k : ℕ). all_below k (clear from ds)) e

module _ (L : Limits) (ds : List Dependency) where
  used_length : (used : ℕ) → length (used_records L used ds) ≡ L.dependencies
  unfolding used_records
  used_length used = overlaid-length ds (zero_records L) (min used (min L.dependencies (length ds))) (omega arith) (omega (arith, zero-length L)) ∙ zero-length L

  used_below : (used k : ℕ) → k < min used (min L.dependencies (length ds)) → record_at (used_records L used ds) k ≡ record_at ds k
  unfolding used_records
  used_below used k b = overlaid-below ds (zero_records L) (min used (min L.dependencies (length ds))) k zero_dependency (omega arith) b

  used_above : (used k : ℕ) → min used (min L.dependencies (length ds)) ≤ k → k < L.dependencies → record_at (used_records L used ds) k ≡ zero_dependency
  unfolding used_records zero_records
  used_above used k a b =
      overlaid_above ds (zero_records L) (min used (min L.dependencies (length ds))) k zero_dependency (omega arith) a
      ∙ get_or-replicate L.dependencies k zero_dependency zero_dependency b

  module _ (from to : ℕ) (z : zero_between from to ds ≡ true) (a : from ≤ to) (b : to ≤ min L.dependencies (length ds)) where
    -- the sum of the fields of a record of the block
    block_sum : (k : ℕ) → from ≤ k → k < to → field_sum (record_at ds k) ≡ 0
    unfolding zero_between
    block_sum k l m = eqb-true (field_sum (record_at ds k)) 0 (rw (le-ltb k from l) at (all_below-at to (clear from ds) z k m))

    module _ (f : Dependency → ℕ) (zero_field : f zero_dependency ≡ 0) (part : (d : Dependency) → f d ≤ field_sum d) where
      block_entry : (k : ℕ) → k < L.dependencies → f (record_at (used_records L from ds) k) ≡ f (record_at (used_records L to ds) k)
      block_entry k l = by_cases (ltb k from)
          (λ e. let h : k < from = ltb-true k from e in ap f (used_below from k (omega arith) ∙ sym (used_below to k (omega arith))))
          (λ e. let h : from ≤ k = ltb-false k from e in
          by_cases (ltb k to)
          (λ g. let m : k < to = ltb-true k to g in
          ap f (used_above from k (omega arith) l) ∙ zero_field ∙ sym (ap f (used_below to k (omega arith)) ∙ omega (arith, part (record_at ds k), block_sum k h m)))
          (λ g. let m : to ≤ k = ltb-false k to g in ap f (used_above from k (omega arith) l ∙ sym (used_above to k (omega arith) l))))

      block_field : map f (used_records L from ds) ≡ map f (used_records L to ds)
      block_field = ext_get_or 0 (map f (used_records L from ds)) (map f (used_records L to ds))
          (length-map (used_records L from ds) f ∙ used_length from ∙ sym (length-map (used_records L to ds) f ∙ used_length to))
          (λ k h. let l : k < L.dependencies = omega (arith, length-map (used_records L from ds) f, used_length from) in
          column_entry f (used_records L from ds) k zero_field ∙ block_entry k l ∙ sym (column_entry f (used_records L to ds) k zero_field))

    pub in_zero : {stops drones : List (List ℕ)} {flags : List ℕ} → InColumns (used_records L from ds) stops drones flags → InColumns (used_records L to ds) stops drones flags
    in_zero c = record {
      both_stops = c.both_stops ∙ two-same (block_field (λ (d : Dependency). d.first_stop) refl (λ d. omega arith)) (block_field (λ (d : Dependency). d.second_stop) refl (λ d. omega arith));
      both_drones = c.both_drones ∙ two-same (block_field (λ (d : Dependency). d.first_drone) refl (λ d. omega arith)) (block_field (λ (d : Dependency). d.second_drone) refl (λ d. omega arith));
      flag_bytes = c.flag_bytes ∙ block_field (λ (d : Dependency). d.flags) refl (λ d. omega arith);
    }

module _ (L : Limits) (ds : List Dependency) (l : L.dependencies ≤ length ds) where
  all_used : used_records L (length ds) ds ≡ seen L ds
  unfolding used_records overlaid zero_records seen
  all_used =
      let m : min (length ds) (min L.dependencies (length ds)) ≡ L.dependencies = omega arith in
      rw m (ap (λ (u : List Dependency). take L.dependencies ds ++ u) (drop_of_length-le (replicate L.dependencies zero_dependency) {i = L.dependencies} (omega (arith, length-replicate L.dependencies zero_dependency))) ∙ append-nil (take L.dependencies ds))

  pub in_all : {stops drones : List (List ℕ)} {flags : List ℕ} → InColumns (used_records L (length ds) ds) stops drones flags → InColumns (seen L ds) stops drones flags
  in_all {stops} {drones} {flags} c = subst (λ (x : List Dependency). InColumns x stops drones flags) all_used c
