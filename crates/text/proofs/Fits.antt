-- What was read fits the tables, whatever the answer: at most a row for each drone, and stops up to the limit.
use Prim.Native.Nat.{ℕ, zero, suc, ◌+◌, ◌*◌, ◌≤◌}
use native.Mathlib.Nat.{mul-le-mul_right, suc-mul}
use native.Mathlib.Omega.{arith}
use mathlib.Core.Path.{◌≡◌, refl}
use mathlib.Core.List.{List, [], ◌++◌, append-nil}
use mathlib.Core.Bool.{Bool, true, false, cond}
use lib.Dec.{ltb, eqb}
use borrow.Author.Tests.{ltb-false}
use lib.ListN.{length, length-append}
use Rattle.tables.specs.Limits.{Limits}
use Rattle.lines.specs.Forms.{form_at}
use Rattle.lines.specs.Keys.{stops_key, agents_key}
use Rattle.lines.specs.Stops.{stops_at, count_at}
use Rattle.lines.specs.Names.{small_form, part, name_at, row_of}
use Rattle.lines.proofs.StopCases.{count_range}
use Rattle.lines.proofs.StopRoundTrip.{stops_most}
use Rattle.lines.proofs.NameRoundTrip.{row_long}
use Rattle.text.specs.LinesRead.{LinesRead, nothing, stops_given, stops_of, stops_read, with_row, drone_of, drone_at, elem, and_then, drones_at, agents_of, lines_of_form, lines_at, flat, read_to}
use Rattle.text.proofs.Rows.{flat_append}
use Rattle.text.proofs.DroneLoop.{DroneAdded, drone_added}
use Rattle.lines.specs.declared.names.NameSpan.{NameSpan}
use Rattle.text.specs.declared.reader.DroneLines.{DroneLines}
use Rattle.lines.specs.declared.refusal.Refusal.TheVariants.{Form, TooManyStops, SameName}
use Rattle.std.specs.Prelude.{Err, Ok, Result}
use Rattle.lines.specs.declared.refusal.Refusal.{Refusal}
use Rattle.lines.specs.declared.numbers.Number.{Number}

pub record Fits (L : Limits) (f : LinesRead (Result DroneLines Refusal)) (n total : ℕ) : Type 0 where
  pub rows : length (flat f.rows) ≤ n * L.name
  pub counts : length f.counts ≤ n
  pub locations : total + length f.locations ≤ L.stops
  pub times : total + length f.times ≤ L.stops
  pub legs : total + length f.legs ≤ L.stops

fits-none : (L : Limits) (form : ℕ) (r : Result DroneLines Refusal) (n total : ℕ) → total ≤ L.stops → Fits L (nothing form r) n total
fits-none L form r n total h = record { rows = omega arith; counts = omega arith; locations = omega arith; times = omega arith; legs = omega arith }

stops_fit : (L : Limits) (form : ℕ) (text : List ℕ) (at total : ℕ) → total ≤ L.stops → Fits L (stops_read L form text at total) 1 total
unfolding stops_read
stops_fit L form text at total h = by_count (count_at text at stops_key L.stops)
  where
    by_test : (m p : ℕ) (b : Bool) → ltb L.stops (total + m) ≡ b
        → Fits L (cond b (nothing form (Err (TooManyStops at))) (stops_given form m total (stops_at L form 0 m text p))) 1 total
    by_test m p true b = fits-none L form _ 1 total h
    by_test m p false b =
        let w = stops_most L form 0 m text p in
        let k = ltb-false L.stops (total + m) b in
        let lo : total + length (stops_at L form 0 m text p).locations ≤ L.stops = omega (arith, w.0) in
        let tm : total + length (stops_at L form 0 m text p).times ≤ L.stops = omega (arith, w.1) in
        let lg : total + length (stops_at L form 0 m text p).legs ≤ L.stops = omega (arith, w.2) in
        record { rows = omega arith; counts = omega arith; locations = lo; times = tm; legs = lg }

    by_count : (n : Result Number Refusal) → Fits L (stops_of L form text at total n) 1 total
    by_count (Err r) = fits-none L form _ 1 total h
    by_count (Ok count) = by_test count.value count.next (ltb L.stops (total + count.value)) refl

drone_fits : (L : Limits) (form : ℕ) (text : List ℕ) (at total : ℕ) (taken : List ℕ → Bool) → total ≤ L.stops → Fits L (drone_at L form text at total taken) 1 total
unfolding drone_at
drone_fits L form text at total taken h = by_name (name_at L text at)
  where
    by_test : (row : List ℕ) (p : ℕ) → length row ≡ L.name → (b : Bool) → Fits L (cond b (nothing form (Err (SameName at))) (with_row row (stops_read L form text (p + 1) total))) 1 total
    by_test row p l true = fits-none L form _ 1 total h
    by_test row p l false =
        let s = stops_fit L form text (p + 1) total h in
        record { rows = rw append-nil (omega arith); counts = s.counts; locations = s.locations; times = s.times; legs = s.legs }

    by_name : (n : Result NameSpan Refusal) → Fits L (drone_of L form text at total taken n) 1 total
    by_name (Err r) = fits-none L form _ 1 total h
    by_name (Ok span) = by_test (row_of L (small_form (part text span.start span.end))) span.end (row_long L (small_form (part text span.start span.end))) (taken (row_of L (small_form (part text span.start span.end))))

pub drones_fit : (L : Limits) (form n : ℕ) (text : List ℕ) (at : ℕ) (earlier : List (List ℕ)) (total : ℕ) → total ≤ L.stops → Fits L (drones_at L form n text at earlier total) n total
unfolding drones_at
drones_fit L form zero text at earlier total h = fits-none L form _ 0 total h
drones_fit L form (suc n) text at earlier total h =
    by_answer (drone_at L form text at total (elem earlier)) (drone_fits L form text at total (elem earlier) h) (λ e t q. drone_added L form text at total (elem earlier) e t q)
    (drone_at L form text at total (elem earlier)).answer refl (λ e t k. drones_fit L form n text e (earlier ++ (drone_at L form text at total (elem earlier)).rows) t k)
  where
    by_answer : (f : LinesRead (Result DroneLines Refusal)) → Fits L f 1 total → ((e t : ℕ) → f.answer ≡ read_to e t → DroneAdded L f total t) → (r : Result DroneLines Refusal) → f.answer ≡ r
        → {more : ℕ → ℕ → LinesRead (Result DroneLines Refusal)} → ((e t : ℕ) → t ≤ L.stops → Fits L (more e t) n t) → Fits L (and_then f r more) (suc n) total
    by_answer f w a (Err x) q ih = record { rows = omega (arith, w.rows, suc-mul n L.name); counts = omega (arith, w.counts); locations = w.locations; times = w.times; legs = w.legs }
    by_answer f w a (Ok lines) q ih =
        let d = a lines.next lines.total q in
        let g = ih lines.next lines.total d.within in
        record {
          rows = rw flat_append (simp length-append (omega (arith, w.rows, g.rows, suc-mul n L.name)));
          counts = simp length-append (omega (arith, w.counts, g.counts));
          locations = simp length-append (omega (arith, d.places, g.locations));
          times = simp length-append (omega (arith, d.moments, g.times));
          legs = simp length-append (omega (arith, d.lengths, g.legs));
        }

-- all that was read fits the tables
pub record FitsAll (L : Limits) (w : LinesRead (Result ℕ Refusal)) : Type 0 where
  pub rows : length (flat w.rows) ≤ L.drones * L.name
  pub counts : length w.counts ≤ L.drones
  pub locations : length w.locations ≤ L.stops
  pub times : length w.times ≤ L.stops
  pub legs : length w.legs ≤ L.stops

fit_in : (L : Limits) (form : ℕ) (text : List ℕ) → FitsAll L (lines_of_form L form text)
unfolding lines_of_form
fit_in L form text = by_form (eqb form 0)
  where
    small : (r : Result ℕ Refusal) → FitsAll L (nothing form r)
    small r = record { rows = omega arith; counts = omega arith; locations = omega arith; times = omega arith; legs = omega arith }

    by_count : (n : Result Number Refusal) → count_at text 7 agents_key L.drones ≡ n → FitsAll L (agents_of L form text n)
    by_count (Err r) e = small _
    by_count (Ok count) e =
        let f = drones_fit L form count.value text count.next [] 0 (omega arith) in
        let r = (count_range text 7 agents_key L.drones count.value count.next e).1 in
        record {
          rows = omega (arith, f.rows, mul-le-mul_right L.name r);
          counts = omega (arith, f.counts);
          locations = omega (arith, f.locations);
          times = omega (arith, f.times);
          legs = omega (arith, f.legs);
        }

    by_form : (k : Bool) → FitsAll L (cond k (nothing form (Err (Form 0))) (agents_of L form text (count_at text 7 agents_key L.drones)))
    by_form true = small _
    by_form false = by_count (count_at text 7 agents_key L.drones) refl

pub lines_fit : (L : Limits) (text : List ℕ) → FitsAll L (lines_at L text)
unfolding lines_at
lines_fit L text = fit_in L (form_at L text) text
