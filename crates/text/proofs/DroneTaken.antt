-- The lines of a drone that were taken give a route: in range, and standing there as it would be written.
use Prim.Native.Nat.{ℕ, zero, suc, ◌+◌, ◌≤◌}
use native.Mathlib.Omega.{arith}
use mathlib.Core.Path.{◌≡◌, refl, sym, ap, ◌∙◌}
use mathlib.Core.List.{List, [], ◌∷◌, ◌++◌}
use mathlib.Core.Bool.{Bool, true, false, cond}
use lib.Dec.{ltb}
use borrow.Author.Tests.{ltb-false}
use lib.ListN.{length}
use Rattle.tables.specs.Limits.{Limits}
use Rattle.lines.specs.Keys.{stops_key}
use Rattle.lines.specs.Stops.{go_at, StopList, stops_from, stops_at, stop_lines, count_at, count_line, StopsInRange, count_read}
use Rattle.lines.specs.Names.{small_form, part, good_name, name_at, row_of, name_span}
use Rattle.lines.proofs.ByteLaws.{Stands, stands_join}
use Rattle.lines.proofs.StopCases.{go_read, count_range}
use Rattle.lines.proofs.StopRoundTrip.{stops_stand, stops_many, count_stands}
use Rattle.lines.proofs.Letters.{text_name_lem}
use Rattle.lines.proofs.NameRoundTrip.{name_read, name_stands}
use Rattle.text.specs.LinesRead.{LinesRead, nothing, stops_end, stops_given, stops_of, stops_read, with_row, drone_of, drone_at, read_to}
use Rattle.text.specs.Written.{Route, route_line}
use Rattle.lines.specs.declared.stops.GoLine.{GoLine}
use Rattle.lines.specs.declared.names.NameSpan.{NameSpan}
use Rattle.text.specs.declared.reader.DroneLines.{DroneLines}
use Rattle.lines.specs.declared.refusal.Refusal.TheVariants.{TooManyStops, SameName}
use Rattle.std.specs.Prelude.{Err, Ok, Result}
use Rattle.lines.specs.declared.refusal.Refusal.{Refusal}
use Rattle.lines.specs.declared.numbers.Number.{Number}
use Rattle.text.proofs.DroneCases.{read_to_same}

-- ---- the stops of a drone

-- stops that were taken are in range
stops_range : (L : Limits) (form s n : ℕ) (text : List ℕ) (at e : ℕ) → (stops_at L form s n text at).answer ≡ Ok e
    → StopsInRange L form s (stops_at L form s n text at).locations (stops_at L form s n text at).times (stops_at L form s n text at).legs
unfolding stops_at
stops_range L form s zero text at e h = tt
stops_range L form s (suc n) text at e h = by_line (go_at L form s text at) refl (λ e'. stops_at L form (suc s) n text e') h (λ e' h'. stops_range L form (suc s) n text e' e h')
  where
    by_line : (x : Result GoLine Refusal) → go_at L form s text at ≡ x → (more : ℕ → StopList) → (stops_from x more).answer ≡ Ok e
        → ((e' : ℕ) → (more e').answer ≡ Ok e → StopsInRange L form (suc s) (more e').locations (more e').times (more e').legs)
        → StopsInRange L form s (stops_from x more).locations (stops_from x more).times (stops_from x more).legs
    by_line (Ok stop) f more h ih = let r = go_read L form s text at stop.location stop.time stop.leg stop.next f in (r.near, r.early, r.right, ih stop.next h)
    by_line (Err r) f more h ih = absurd (let z : ◌≡◌ {A = ℕ} 0 1 = cc h in omega arith)

-- as many times as locations, and as many legs
pub range_long : (L : Limits) (form s : ℕ) (ls ts gs : List ℕ) → StopsInRange L form s ls ts gs → (length ts ≡ length ls) × (length gs ≡ length ls)
range_long L form s [] [] [] r = (refl, refl)
range_long L form s [] [] (g ∷ gs) r = absurd r
range_long L form s [] (t ∷ ts) gs r = absurd r
range_long L form s (l ∷ ls) [] gs r = absurd r
range_long L form s (l ∷ ls) (t ∷ ts) [] r = absurd r
range_long L form s (l ∷ ls) (t ∷ ts) (g ∷ gs) r = let w = range_long L form (suc s) ls ts gs r.3 in (ap suc w.0, ap suc w.1)

pub record StopsTake (L : Limits) (form : ℕ) (text : List ℕ) (at e total t : ℕ) (f : LinesRead (Result DroneLines Refusal)) : Type 0 where
  pub counts_are : f.counts ≡ length f.locations ∷ []
  pub total_is : t ≡ total + length f.locations
  pub some : 1 ≤ length f.locations
  pub within : total + length f.locations ≤ L.stops
  pub range : StopsInRange L form 0 f.locations f.times f.legs
  pub there : Stands text at (count_line stops_key (length f.locations) ++ stop_lines form f.locations f.times f.legs) e

stops_taken : (L : Limits) (form : ℕ) (text : List ℕ) (at total e t : ℕ) → (stops_read L form text at total).answer ≡ read_to e t → StopsTake L form text at e total t (stops_read L form text at total)
unfolding stops_read
stops_taken L form text at total e t h = by_count (count_at text at stops_key L.stops) refl h
  where
    by_lines : (m p : ℕ) → count_at text at stops_key L.stops ≡ count_read m p → total + m ≤ L.stops → (x : Result ℕ Refusal) → (stops_at L form 0 m text p).answer ≡ x → stops_end (total + m) x ≡ read_to e t
        → StopsTake L form text at e total t (stops_given form m total (stops_at L form 0 m text p))
    by_lines m p c b (Ok q) x h =
        let ee : q ≡ e = (read_to_same h).0 in
        let et : total + m ≡ t = (read_to_same h).1 in
        let many : length (stops_at L form 0 m text p).locations ≡ m = (stops_many L form 0 m text p q x).0 in
        let low : 1 ≤ m = (count_range text at stops_key L.stops m p c).0 in
        record {
          counts_are = ap (λ (k : ℕ). k ∷ []) (sym many);
          total_is = rw many (sym et);
          some = rw many low;
          within = rw many b;
          range = stops_range L form 0 m text p q x;
          there = rw many (stands_join (count_stands text at stops_key L.stops m p c) (rw ee at (stops_stand L form 0 m text p q x)));
        }
    by_lines m p c b (Err r) x h = absurd (let z : ◌≡◌ {A = ℕ} 0 1 = cc h in omega arith)

    by_test : (m p : ℕ) → count_at text at stops_key L.stops ≡ count_read m p → (b : Bool) → ltb L.stops (total + m) ≡ b
        → (cond b (nothing form (Err (TooManyStops at))) (stops_given form m total (stops_at L form 0 m text p))).answer ≡ read_to e t
        → StopsTake L form text at e total t (cond b (nothing form (Err (TooManyStops at))) (stops_given form m total (stops_at L form 0 m text p)))
    by_test m p c true b h = absurd (let z : ◌≡◌ {A = ℕ} 0 1 = cc h in omega arith)
    by_test m p c false b h = by_lines m p c (ltb-false _ _ b) (stops_at L form 0 m text p).answer refl h

    by_count : (n : Result Number Refusal) → count_at text at stops_key L.stops ≡ n → (stops_of L form text at total n).answer ≡ read_to e t → StopsTake L form text at e total t (stops_of L form text at total n)
    by_count (Err r) c h = absurd (let z : ◌≡◌ {A = ℕ} 0 1 = cc h in omega arith)
    by_count (Ok count) c h = by_test count.value count.next c (ltb L.stops (total + count.value)) refl h

-- ---- one drone: the route as its lines have it, its name perhaps with capitals

pub record DroneTake (L : Limits) (form : ℕ) (text : List ℕ) (at e total t : ℕ) (taken : List ℕ → Bool) (f : LinesRead (Result DroneLines Refusal)) : Type 0 where
  pub route : Route
  pub rows_are : f.rows ≡ row_of L (small_form route.name) ∷ []
  pub counts_are : f.counts ≡ length route.locations ∷ []
  pub locations_are : f.locations ≡ route.locations
  pub times_are : f.times ≡ route.times
  pub legs_are : f.legs ≡ route.legs
  pub total_is : t ≡ total + length route.locations
  pub good : good_name L (small_form route.name) ≡ true
  pub new : taken (row_of L (small_form route.name)) ≡ false
  pub some : 1 ≤ length route.locations
  pub within : total + length route.locations ≤ L.stops
  pub range : StopsInRange L form 0 route.locations route.times route.legs
  pub there : Stands text at (route_line form route) e

pub drone_taken : (L : Limits) (form : ℕ) (text : List ℕ) (at total : ℕ) (taken : List ℕ → Bool) (e t : ℕ) → (drone_at L form text at total taken).answer ≡ read_to e t → DroneTake L form text at e total t taken (drone_at L form text at total taken)
unfolding drone_at
drone_taken L form text at total taken e t h = by_name (name_at L text at) refl h
  where
    by_test : (s p : ℕ) → name_at L text at ≡ name_span s p → (b : Bool) → taken (row_of L (small_form (part text s p))) ≡ b → (cond b (nothing form (Err (SameName at))) (with_row (row_of L (small_form (part text s p))) (stops_read L form text (p + 1) total))).answer ≡ read_to e t
        → DroneTake L form text at e total t taken (cond b (nothing form (Err (SameName at))) (with_row (row_of L (small_form (part text s p))) (stops_read L form text (p + 1) total)))
    by_test s p q true u h = absurd (let z : ◌≡◌ {A = ℕ} 0 1 = cc h in omega arith)
    by_test s p q false u h =
        let r = name_read L text at s p q in
        let k = stops_taken L form text (p + 1) total e t h in
        record {
          route = record { name = part text s p; locations = (stops_read L form text (p + 1) total).locations; times = (stops_read L form text (p + 1) total).times; legs = (stops_read L form text (p + 1) total).legs };
          rows_are = refl;
          counts_are = k.counts_are;
          locations_are = refl;
          times_are = refl;
          legs_are = refl;
          total_is = k.total_is;
          good = sym (text_name_lem L (part text s p)) ∙ r.good;
          new = u;
          some = k.some;
          within = k.within;
          range = k.range;
          there = stands_join (name_stands L text at s p r) k.there;
        }

    by_name : (n : Result NameSpan Refusal) → name_at L text at ≡ n → (drone_of L form text at total taken n).answer ≡ read_to e t → DroneTake L form text at e total t taken (drone_of L form text at total taken n)
    by_name (Err r) q h = absurd (let z : ◌≡◌ {A = ℕ} 0 1 = cc h in omega arith)
    by_name (Ok span) q h = by_test span.start span.end q (taken (row_of L (small_form (part text span.start span.end)))) refl h
