-- One record flipped: its flag byte is flipped in its column, and the other columns stay. Then the records of a list, flipped one after the other.
--     flip-none    no flip
--     seen-flip    what is seen of the flipped table is the flip of what was seen
--     field-stays, flags-flip    the columns
--     group-none, group-more, group-end    no flip, one more of the list, and its end
-- Assumes nothing.
use mathlib.Core.Path.{◌≡◌, refl, sym, ap, ◌∙◌}
use mathlib.Core.Bool.{Bool, true, false}
use mathlib.Core.List.{List, [], ◌∷◌, map}
use Prim.Native.Nat.{ℕ, ◌+◌, ◌≤◌, ◌<◌}
use native.Mathlib.Numerals.{add-one}
use native.Mathlib.Omega.{arith}
use lib.Dec.{leb}
use lib.ListN.{length, set, take, drop, length-take, drop_of_length-le}
use lib.Seq.{drop-cons, take-set-lt, take-set-le, set_out, get_or-take, map-set_same}
use borrow.Author.Tests.{leb-true, leb-false}
use Rattle.below.specs.Below.{at}
use Rattle.below.proofs.Tests.{by_cases}
use Rattle.tables.specs.Limits.{Limits}
use Rattle.tables.specs.Flags.{flip_bit}
use Rattle.tables.specs.Entries.{zero_dependency, flip_dependency}
use Rattle.tables.specs.declared.entries.Dependency.{Dependency}
use Rattle.records.specs.Records.{record_at, flip_if, flip_all_if, flags_of, seen}
use Rattle.records.proofs.ColumnLaws.{column_entry, map-set}

pub flip-none : (turns : Bool) (i : ℕ) (ds : List Dependency) → turns ≡ false → ds ≡ flip_if turns i ds
flip-none turns i ds t = rw t

-- a field that a flip keeps
pub field_stays : (f : Dependency → ℕ) → ((d : Dependency) → f (flip_dependency d) ≡ f d) → (ds : List Dependency) (w : ℕ) → map f (flip_if true w ds) ≡ map f ds
field_stays f same ds w = map-set_same f ds w (flip_dependency (record_at ds w)) zero_dependency (same (record_at ds w))

pub flags_flip : (ds : List Dependency) (w : ℕ) → flags_of (flip_if true w ds) ≡ set (flags_of ds) w (flip_bit (at (flags_of ds) w))
flags_flip ds w =
    map-set (λ (d : Dependency). d.flags) ds w (flip_dependency (record_at ds w))
    ∙ ap (λ (x : ℕ). set (flags_of ds) w (flip_bit x)) (sym (column_entry (λ (d : Dependency). d.flags) ds w refl))

module _ (L : Limits) where
  pub seen-flip : (ds : List Dependency) (w : ℕ) → seen L (flip_if true w ds) ≡ flip_if true w (seen L ds)
  unfolding seen
  seen-flip ds w = by_cases (leb L.dependencies w)
      (λ e. let l : L.dependencies ≤ w = leb-true L.dependencies w e in
      take-set-le L.dependencies ds w (flip_dependency (record_at ds w)) l
      ∙ sym (set_out (take L.dependencies ds) w (flip_dependency (record_at (take L.dependencies ds) w)) (omega (arith, length-take L.dependencies ds))))
      (λ e. let l : w < L.dependencies = leb-false L.dependencies w e in
      take-set-lt L.dependencies ds w (flip_dependency (record_at ds w)) l
      ∙ ap (λ (d : Dependency). set (take L.dependencies ds) w (flip_dependency d)) (sym (get_or-take L.dependencies ds w zero_dependency l)))

-- ---- the records of a list

pub group_none : (turns : Bool) (ws : List ℕ) (ds : List Dependency) → turns ≡ false → ds ≡ flip_all_if turns ws ds
unfolding flip_all_if
group_none turns [] ds t = refl
group_none turns (w ∷ ws) ds t = flip-none turns w ds t ∙ group_none turns ws (flip_if turns w ds) t

-- ds: the records with the first k of the list flipped
module _ (ws : List ℕ) (ds₀ : List Dependency) (k : ℕ) (ds : List Dependency) (e : flip_all_if true (drop k ws) ds ≡ flip_all_if true ws ds₀) where
  pub group_more : (ds' : List Dependency) → k < length ws → ds' ≡ flip_if true (at ws k) ds → flip_all_if true (drop (k + 1) ws) ds' ≡ flip_all_if true ws ds₀
  unfolding flip_all_if
  group_more ds' l f = rw (f, add-one) (sym (ap (λ (v : List ℕ). flip_all_if true v ds) (drop-cons ws k 0 l)) ∙ e)

  pub group_end : (turns : Bool) → turns ≡ true → length ws ≤ k → ds ≡ flip_all_if turns ws ds₀
  unfolding flip_all_if
  group_end turns t l = rw t (sym (ap (λ (v : List ℕ). flip_all_if true v ds) (drop_of_length-le ws l)) ∙ e)
