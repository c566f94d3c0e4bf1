-- A drone copied from tables: which case of the reckoning holds, by the tests that the code makes, and what was stored.
use Prim.Native.Nat.{ℕ, ◌+◌, ◌-◌, ◌*◌, ◌≤◌, ◌<◌}
use native.Mathlib.Omega.{arith}
use mathlib.Core.Path.{◌≡◌, refl, sym, ap, ◌∙◌}
use mathlib.Core.List.{List, ◌++◌, append-nil}
use mathlib.Core.Bool.{Bool, true, false}
use borrow.Author.Tests.{lt-ltb, le-ltb}
use lib.ListN.{length, take, drop, set, length-append, length-drop}
use lib.Seq.{sets, sets-eq, paste, take-length, length-take-le}
use borrow.Rule.Slice.PartMut.{put_mid}
use Rattle.std.proofs.lemmas.Slice.{put_mid-paste}
use Rattle.tables.specs.Limits.{Limits}
use Rattle.lines.specs.Keys.{agents_key, stops_key}
use Rattle.lines.specs.Stops.{count_line, stop_lines}
use Rattle.lines.specs.Names.{name_line, row_of}
use Rattle.lines.specs.declared.refusal.Refusal.TheVariants.{TooManyStops, SameName}
use Rattle.text.specs.LinesRead.{StopsStored, LinesStored, read_to}
use Rattle.text.specs.Written.{Route}
use Rattle.text.specs.declared.reader.DroneLines.{DroneLines}
use Rattle.text.proofs.DroneCases.{stored-none, whole-none}
use Rattle.copying.specs.Reckoned.{stops_reckoned, route_reckoned, lines_from}
use Rattle.std.specs.Prelude.{Err, Result}
use Rattle.lines.specs.declared.refusal.Refusal.{Refusal}

-- where the lines of drones begin
pub from_is : (form n : ℕ) {r : ℕ} → r ≡ 7 + length (count_line agents_key n) → r ≡ lines_from form n
unfolding lines_from
from_is form n e = e

-- ---- entries

pub part_long : (from : List ℕ) (first count : ℕ) → first + count ≤ length from → length (take count (drop first from)) ≡ count
part_long from first count room = length-take-le count (drop first from) (simp length-drop (omega arith))

pasted : (into part : List ℕ) (at n : ℕ) → n ≡ length part → at + n ≤ length into → paste into at part n ≡ sets into at part
pasted into part at n e room = rw (e, take-length) (sym (sets-eq part into at (omega arith)))

-- entries of one table copied into another
pub part_copied : (from into copied : List ℕ) (first at count : ℕ) → first + count ≤ length from → at + count ≤ length into → copied ≡ take (first + count - first) (drop first from)
    → put_mid at (at + count - at) into copied ≡ sets into at (take count (drop first from))
part_copied from into copied first at count room fits e =
    let m : first + count - first ≡ count = omega arith in
    let n : at + count - at ≡ count = omega arith in
    let part : List ℕ = take count (drop first from) in
    let l : count ≡ length part = sym (part_long from first count room) in
    rw n (put_mid-paste at count into copied part count (rw m at e) refl l) ∙ pasted into part at count l fits

-- ---- the stops of a drone

module _ (L : Limits) (form at total count from drone : ℕ) (ls ts gs : List ℕ) (room : from + count ≤ length ls) where
  pub stops_many : L.stops - total < count → {cs ls₀ ts₀ gs₀ : List ℕ}
      → StopsStored (stops_reckoned L form at total (take count (drop from ls)) (take count (drop from ts)) (take count (drop from gs))) drone total cs ls₀ ts₀ gs₀ cs ls₀ ts₀ gs₀ (Err (TooManyStops at))
  unfolding stops_reckoned
  stops_many h = rw (part_long ls from count room, lt-ltb L.stops (total + count) (omega arith)) (stored-none _ _ _ _ _ _ _ _)

  pub stops_copied : total + count ≤ L.stops → {cs ls₀ ts₀ gs₀ ls' ts' gs' : List ℕ} {e : ℕ} → ls' ≡ sets ls₀ total (take count (drop from ls)) → ts' ≡ sets ts₀ total (take count (drop from ts)) → gs' ≡ sets gs₀ total (take count (drop from gs))
      → e ≡ at + length (count_line stops_key count ++ stop_lines form (take count (drop from ls)) (take count (drop from ts)) (take count (drop from gs)))
      → StopsStored (stops_reckoned L form at total (take count (drop from ls)) (take count (drop from ts)) (take count (drop from gs))) drone total cs ls₀ ts₀ gs₀ (set cs drone count) ls' ts' gs' (read_to e (total + count))
  unfolding stops_reckoned
  stops_copied h el et eg ee =
      rw (part_long ls from count room, le-ltb L.stops (total + count) h) (record { answer_is = ap (λ (k : ℕ). read_to k (total + count)) ee; counts_are = refl; locations_are = el; times_are = et; legs_are = eg })

-- ---- a drone

name_line_long : (x : List ℕ) → length (name_line x) ≡ 5 + length x + 1
name_line_long x = simp length-append (omega arith)

module _ (L : Limits) (form at total drone : ℕ) (taken : List ℕ → Bool) (d : Route) (row : List ℕ) (row_is : row ≡ row_of L d.name) where
  pub name_same : taken row ≡ true → {ns cs ls ts gs : List ℕ} → LinesStored L (route_reckoned L form at total taken d) drone total ns cs ls ts gs ns cs ls ts gs (Err (SameName at))
  unfolding route_reckoned
  name_same h = rw (← row_is, h) (whole-none L form drone total _ _ _ _ _ _)

  pub drone_copied : taken row ≡ false → {next len : ℕ} → len ≡ length d.name → next ≡ at + 5 + len + 1 → {ns cs ls ts gs ns' cs' ls' ts' gs' : List ℕ} {r : Result DroneLines Refusal}
      → ns' ≡ sets ns (drone * L.name) row → StopsStored (stops_reckoned L form next total d.locations d.times d.legs) drone total cs ls ts gs cs' ls' ts' gs' r
      → LinesStored L (route_reckoned L form at total taken d) drone total ns cs ls ts gs ns' cs' ls' ts' gs' r
  unfolding route_reckoned
  drone_copied h {next} long is en s =
      let m : at + length (name_line d.name) ≡ next = omega (arith, name_line_long d.name, long, is) in
      rw (← row_is, h, m) (record { answer_is = s.answer_is; names_are = rw append-nil en; counts_are = s.counts_are; locations_are = s.locations_are; times_are = s.times_are; legs_are = s.legs_are })
