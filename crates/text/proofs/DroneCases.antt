-- Which case of the definitions of one drone's lines holds, by what was read.
use Prim.Native.Nat.{ℕ, ◌+◌, ◌-◌, ◌^◌, ◌≤◌, ◌<◌}
use native.Mathlib.Omega.{arith}
use mathlib.Core.Path.{◌≡◌, refl, ap}
use mathlib.Core.List.{List, [], ◌∷◌, append-nil}
use mathlib.Core.Bool.{Bool, true, false}
use borrow.Author.Tests.{lt-ltb, le-ltb}
use lib.ListN.{length, drop, length-take}
use lib.Seq.{sets}
use Rattle.tables.specs.Limits.{Limits}
use Rattle.lines.specs.Bytes.{Put}
use Rattle.lines.specs.Keys.{stops_key}
use Rattle.lines.specs.Stops.{stops_at, count_at, count_read}
use Rattle.lines.specs.Names.{small_form, part, name_at, row_of, name_span}
use Rattle.text.specs.LinesRead.{read_to, nothing, stops_given, stops_read, with_row, drone_at, flat, StopsStored, LinesStored}
use Rattle.lines.specs.declared.names.NameSpan.{NameSpan}
use Rattle.lines.specs.declared.refusal.Refusal.{Refusal}
use Rattle.text.specs.declared.reader.DroneLines.{DroneLines}
use Rattle.lines.specs.declared.refusal.Refusal.TheVariants.{TooManyStops, SameName}
use Rattle.std.specs.Prelude.{Err, Result}
use Rattle.lines.specs.declared.numbers.Number.{Number}

-- positions and sums that were read and are equal
pub read_to_same : {e t e' t' : ℕ} → read_to e t ≡ read_to e' t' → (e ≡ e') × (t ≡ t')
read_to_same {e} {t} {e'} {t'} h =
    let r : ◌≡◌ {A = DroneLines} (record { next = e; total = t }) (record { next = e'; total = t' }) = cc h in
    (ap (λ (d : DroneLines). d.next) r, ap (λ (d : DroneLines). d.total) r)

-- nothing was stored
pub stored-none : (form drone total : ℕ) (cs ls ts gs : List ℕ) (r : Result DroneLines Refusal) → StopsStored (nothing form r) drone total cs ls ts gs cs ls ts gs r
stored-none form drone total cs ls ts gs r = record { answer_is = refl; counts_are = refl; locations_are = refl; times_are = refl; legs_are = refl }

module _ (L : Limits) (form : ℕ) (text : List ℕ) (at total : ℕ) (n : Result Number Refusal) (e : n ≡ count_at text at stops_key L.stops) where
  pub stops_refused : (r : Refusal) → n ≡ Err r → stops_read L form text at total ≡ nothing form (Err r)
  unfolding stops_read
  stops_refused r k = rw (← e, k)

  pub stops_over_lem : (m p : ℕ) → n ≡ count_read m p → L.stops - total < m → stops_read L form text at total ≡ nothing form (Err (TooManyStops at))
  unfolding stops_read
  stops_over_lem m p k h = rw (← e, k, lt-ltb L.stops (total + m) (omega (arith, h)))

  pub stops_in_lem : (m p : ℕ) → n ≡ count_read m p → total + m ≤ L.stops → stops_read L form text at total ≡ stops_given form m total (stops_at L form 0 m text p)
  unfolding stops_read
  stops_in_lem m p k h = rw (← e, k, le-ltb L.stops (total + m) h)

-- ---- the lines of a drone

pub whole-none : {A : Type 0} (L : Limits) (form drone total : ℕ) (ns cs ls ts gs : List ℕ) (r : A) → LinesStored L (nothing form r) drone total ns cs ls ts gs ns cs ls ts gs r
whole-none L form drone total ns cs ls ts gs r = record { answer_is = refl; names_are = refl; counts_are = refl; locations_are = refl; times_are = refl; legs_are = refl }

module _ (L : Limits) (form : ℕ) (text : List ℕ) (at total : ℕ) (taken : List ℕ → Bool) (n : Result NameSpan Refusal) (e : n ≡ name_at L text at) where
  pub drone_unnamed : (r : Refusal) → n ≡ Err r → drone_at L form text at total taken ≡ nothing form (Err r)
  unfolding drone_at
  drone_unnamed r k = rw (← e, k)

  pub drone_same : (s p : ℕ) (row : List ℕ) → n ≡ name_span s p → row ≡ row_of L (small_form (part text s p)) → taken row ≡ true → drone_at L form text at total taken ≡ nothing form (Err (SameName at))
  unfolding drone_at
  drone_same s p row k q t = rw (← e, k, ← q, t)

  pub drone_in : (s p : ℕ) (row : List ℕ) → n ≡ name_span s p → row ≡ row_of L (small_form (part text s p)) → taken row ≡ false → drone_at L form text at total taken ≡ with_row row (stops_read L form text (p + 1) total)
  unfolding drone_at
  drone_in s p row k q t = rw (← e, k, ← q, t)

pub part-short : (L : Limits) (text : List ℕ) (s e : ℕ) → L.name < 2 ^ 32 → e - s ≤ L.name → 0 + length (part text s e) < 2 ^ 32
part-short L text s e w h = omega (arith, length-take (e - s) (drop s text))

pub one_row : {ns row ns' : List ℕ} {at n : ℕ} → Put ns at row ns' n → ns' ≡ sets ns at (flat (row ∷ []))
one_row h = rw append-nil h.written
