-- The drones that are left, copied from here on, give what all of them give from the start.
use Prim.Native.Nat.{ℕ, zero, suc, ◌+◌, ◌-◌, ◌*◌, ◌≤◌, ◌<◌}
use native.Mathlib.Nat.{sub-zero, sub_self, zero-mul, suc-mul, add-mul, one-mul}
use native.Mathlib.Omega.{arith}
use mathlib.Core.Path.{◌≡◌, refl, sym, ap, ◌∙◌}
use mathlib.Core.List.{List, [], ◌∷◌, ◌++◌, append-nil}
use mathlib.Core.Bool.{Bool, true}
use lib.Dec.{ltb}
use borrow.Author.Tests.{ltb-false}
use lib.ListN.{length, get_or, take, drop, length-append, length-drop, length-take}
use lib.Seq.{sets, drop-drop, length-take-le}
use Rattle.below.specs.Below.{sum_below, at as entry}
use Rattle.below.proofs.Tests.{by_cases}
use Rattle.below.proofs.Sum.{sum_more, sum_past, sum-none}
use Rattle.tables.specs.Limits.{Limits}
use Rattle.lines.specs.Bytes.{is_at}
use Rattle.lines.specs.Keys.{stops_key}
use Rattle.lines.specs.Stops.{count_line, stop_lines}
use Rattle.lines.specs.Names.{name_line, row_of, among}
use Rattle.lines.specs.declared.refusal.Refusal.{Refusal}
use Rattle.lines.proofs.ByteLaws.{part_at, is_at-append}
use Rattle.lines.proofs.NumberCases.{digits-length}
use Rattle.lines.proofs.NameRoundTrip.{row_long}
use Rattle.text.specs.LinesRead.{LinesRead, elem, joined, flat, LinesStored, read_to}
use Rattle.text.specs.TextWritten.{rows_in, Writable}
use Rattle.text.specs.Written.{Route, route_line, routes_from}
use Rattle.text.specs.declared.reader.DroneLines.{DroneLines}
use Rattle.text.proofs.DroneCases.{read_to_same, whole-none}
use Rattle.text.proofs.DroneLoop.{Lengths, shift, stand_more}
use Rattle.text.proofs.NameInRow.{name_short}
use Rattle.text.proofs.Rows.{AllLong, flat_append, long_snoc, among-elem}
use Rattle.text.proofs.WriteLoop.{counts_next, rows_next, stops_short}
use Rattle.copying.specs.Reckoned.{route_in, routes_in, stops_reckoned, route_reckoned, routes_reckoned}
use Rattle.copying.proofs.CopyLaws.{part_long}
use Rattle.std.specs.Prelude.{Err, Result}

-- ---- one route

-- the most bytes that the lines of a drone with as many stops as there may be take
abbrev pub most_bytes : Limits → ℕ
most_bytes L = 20 + L.name + 27 * L.stops

-- what a drone that was copied adds to the tables
pub record RouteAdded (L : Limits) (form here total : ℕ) (d : Route) (f : LinesRead (Result DroneLines Refusal)) (e t : ℕ) : Type 0 where
  pub rows_are : f.rows ≡ row_of L d.name ∷ []
  pub one : length f.counts ≡ 1
  pub places : total + length f.locations ≡ t
  pub moments : total + length f.times ≡ t
  pub lengths : total + length f.legs ≡ t
  pub within : t ≤ L.stops
  pub near : e ≤ here + most_bytes L
  pub ends : e ≡ here + length (route_line form d)

route_long : (L : Limits) (form here : ℕ) (d : Route) → length d.name ≤ L.name → length d.locations ≤ L.stops
    → here + length (name_line d.name) + length (count_line stops_key (length d.locations) ++ stop_lines form d.locations d.times d.legs) ≤ here + most_bytes L
route_long L form here d n s = simp length-append (omega (arith, n, s, digits-length 7 (length d.locations), stops_short form d.locations d.times d.legs))

module _ (L : Limits) (form here total : ℕ) (taken : List ℕ → Bool) (d : Route) (named : length d.name ≤ L.name) (paired : (length d.times ≡ length d.locations) × (length d.legs ≡ length d.locations)) where
  pub route_added : (e t : ℕ) → (route_reckoned L form here total taken d).answer ≡ read_to e t → RouteAdded L form here total d (route_reckoned L form here total taken d) e t
  unfolding route_reckoned stops_reckoned
  route_added e t h = by_cases (taken (row_of L d.name))
      (λ p. absurd (let z : ◌≡◌ {A = ℕ} 0 1 = cc (rw p at h) in omega arith))
      (λ p. by_cases (ltb L.stops (total + length d.locations))
      (λ o. absurd (let z : ◌≡◌ {A = ℕ} 0 1 = cc (rw (p, o) at h) in omega arith))
      (λ o.
      let r = rw (p, o) at h in
      let ee : here + length (name_line d.name) + length (count_line stops_key (length d.locations) ++ stop_lines form d.locations d.times d.legs) ≡ e = (read_to_same r).0 in
      let et : total + length d.locations ≡ t = (read_to_same r).1 in
      let few : total + length d.locations ≤ L.stops = ltb-false L.stops (total + length d.locations) o in
      rw (p, o) (record {
        rows_are = refl;
        one = refl;
        places = et;
        moments = omega (arith, et, paired.0);
        lengths = omega (arith, et, paired.1);
        within = omega (arith, et, few);
        near = omega (arith, ee, route_long L form here d named (omega (arith, few)));
        ends = sym ee ∙ simp length-append (omega arith);
      })))

-- only what `taken` says of rows as long as the longest name matters
pub route_by : (L : Limits) (form here total : ℕ) (t u : List ℕ → Bool) (d : Route) → ((row : List ℕ) → length row ≡ L.name → t row ≡ u row) → route_reckoned L form here total t d ≡ route_reckoned L form here total u d
unfolding route_reckoned
route_by L form here total t u d h = rw (h (row_of L d.name) (row_long L d.name)) refl

-- one route further
routes_bad : (L : Limits) (form here : ℕ) (earlier : List (List ℕ)) (total : ℕ) (d : Route) (ds : List Route) (f : LinesRead (Result DroneLines Refusal)) (r : Refusal) → f ≡ route_reckoned L form here total (elem earlier) d → f.answer ≡ Err r
    → routes_reckoned L form here earlier total (d ∷ ds) ≡ f
unfolding routes_reckoned
routes_bad L form here earlier total d ds f r e h = rw (← e, h) refl

routes_next : (L : Limits) (form here : ℕ) (earlier : List (List ℕ)) (total : ℕ) (d : Route) (ds : List Route) (f : LinesRead (Result DroneLines Refusal)) (p t : ℕ) → f ≡ route_reckoned L form here total (elem earlier) d → f.answer ≡ read_to p t
    → routes_reckoned L form here earlier total (d ∷ ds) ≡ joined f (routes_reckoned L form p (earlier ++ row_of L d.name ∷ []) t ds)
unfolding routes_reckoned
routes_next L form here earlier total d ds f p t e h = rw (← e, h) refl

-- ---- what is left from drone i on, whose stops stand from entry `from` on

unfoldable pub routes_left : Limits → ℕ → (names counts ls ts gs : List ℕ) → ℕ → ℕ → List Route
routes_left L n names counts ls ts gs i from = routes_from (rows_in L (n - i) (drop (i * L.name) names)) (take (n - i) (drop i counts)) (drop from ls) (drop from ts) (drop from gs)

module _ (L : Limits) (n : ℕ) (names counts ls ts gs : List ℕ) where
  left_all : routes_left L n names counts ls ts gs 0 0 ≡ routes_in L n names counts ls ts gs
  unfolding routes_left
  left_all = rw (sub-zero, zero-mul) refl

  left-next : (i from : ℕ) → i < n → i < length counts
      → routes_left L n names counts ls ts gs i from ≡ route_in L (i * L.name) names (get_or counts i 0) from ls ts gs ∷ routes_left L n names counts ls ts gs (i + 1) (from + get_or counts i 0)
  unfolding routes_left
  left-next i from h k = rw (counts_next counts n i h k, rows_next L names n i h, drop-drop (get_or counts i 0) from ls, drop-drop (get_or counts i 0) from ts, drop-drop (get_or counts i 0) from gs) refl

  left-none : (i from : ℕ) → i ≡ n → routes_left L n names counts ls ts gs i from ≡ []
  unfolding routes_left rows_in
  left-none i from e = rw (e, sub_self) refl

-- ---- rows of a table of names

pub rows_many : (L : Limits) (n : ℕ) (names : List ℕ) → length (rows_in L n names) ≡ n
unfolding rows_in
rows_many L zero names = refl
rows_many L (suc n) names = ap suc (rows_many L n (drop L.name names))

rows_long : (L : Limits) (n : ℕ) (names : List ℕ) → n * L.name ≤ length names → AllLong L (rows_in L n names)
unfolding rows_in
rows_long L zero names h = tt
rows_long L (suc n) names h =
    let m = suc-mul n L.name in
    (length-take-le L.name names (omega (arith, m)), rows_long L n (drop L.name names) (simp length-drop (omega (arith, m))))

-- the rows stand where they were found
rows_stand : (L : Limits) (n : ℕ) (names : List ℕ) (k : ℕ) → k + n * L.name ≤ length names → is_at names k (flat (rows_in L n (drop k names))) ≡ true
unfolding rows_in is_at
rows_stand L zero names k h = refl
rows_stand L (suc n) names k h =
    let m = suc-mul n L.name in
    let l : length (take L.name (drop k names)) ≡ L.name = length-take-le L.name (drop k names) (simp length-drop (omega (arith, m))) in
    rw (is_at-append names k (take L.name (drop k names)) (flat (rows_in L n (drop L.name (drop k names)))), part_at names k L.name (omega (arith, m)), l, drop-drop L.name k names) (rows_stand L n names (k + L.name) (omega (arith, m)))

-- ---- the loop

-- what is left, stored from here on, and the whole, stored from the start
pub record Onward (L : Limits) (left whole : LinesRead (Result DroneLines Refusal)) (d total d₀ total₀ : ℕ) (ns cs ls ts gs ns₀ cs₀ ls₀ ts₀ gs₀ : List ℕ) : Type 0 where
  pub answers : left.answer ≡ whole.answer
  pub names : sets ns (d * L.name) (flat left.rows) ≡ sets ns₀ (d₀ * L.name) (flat whole.rows)
  pub counts : sets cs d left.counts ≡ sets cs₀ d₀ whole.counts
  pub locations : sets ls total left.locations ≡ sets ls₀ total₀ whole.locations
  pub times : sets ts total left.times ≡ sets ts₀ total₀ whole.times
  pub legs : sets gs total left.legs ≡ sets gs₀ total₀ whole.legs

pub onward-stored : {L : Limits} {f whole : LinesRead (Result DroneLines Refusal)} {d total d₀ total₀ : ℕ} {ns cs ls ts gs ns₀ cs₀ ls₀ ts₀ gs₀ ns' cs' ls' ts' gs' : List ℕ} {r : Result DroneLines Refusal}
    → Onward L f whole d total d₀ total₀ ns cs ls ts gs ns₀ cs₀ ls₀ ts₀ gs₀ → LinesStored L f d total ns cs ls ts gs ns' cs' ls' ts' gs' r → LinesStored L whole d₀ total₀ ns₀ cs₀ ls₀ ts₀ gs₀ ns' cs' ls' ts' gs' r
onward-stored a s = record {
  answer_is = s.answer_is ∙ a.answers;
  names_are = s.names_are ∙ a.names;
  counts_are = s.counts_are ∙ a.counts;
  locations_are = s.locations_are ∙ a.locations;
  times_are = s.times_are ∙ a.times;
  legs_are = s.legs_are ∙ a.legs;
}

-- i drones of a source have been copied behind d₀ drones that had total₀ stops
pub record Copying (L : Limits) (form n : ℕ) (names counts locations times legs : List ℕ) (at d₀ total₀ : ℕ) (i from here total : ℕ) (ns cs ls ts gs ns₀ cs₀ ls₀ ts₀ gs₀ : List ℕ) : Type 0 where
  pub within : i ≤ n
  pub stops : from ≡ sum_below i (entry counts)
  pub few : total ≤ L.stops
  pub near : here ≤ at + i * most_bytes L
  pub lengths : Lengths ns cs ls ts gs ns₀ cs₀ ls₀ ts₀ gs₀
  pub earlier : List (List ℕ)
  pub many : length earlier ≡ d₀ + i
  pub long : AllLong L earlier
  pub stand : is_at ns 0 (flat earlier) ≡ true
  pub going : Onward L (routes_reckoned L form here earlier total (routes_left L n names counts locations times legs i from))
      (routes_reckoned L form at (rows_in L d₀ ns₀) total₀ (routes_in L n names counts locations times legs)) (d₀ + i) total d₀ total₀ ns cs ls ts gs ns₀ cs₀ ls₀ ts₀ gs₀

pub copying_start : (L : Limits) (form n : ℕ) (names counts locations times legs : List ℕ) (at d₀ total₀ : ℕ) (ns cs ls ts gs : List ℕ) → d₀ * L.name ≤ length ns → total₀ ≤ L.stops
    → Copying L form n names counts locations times legs at d₀ total₀ 0 0 at total₀ ns cs ls ts gs ns cs ls ts gs
copying_start L form n names counts locations times legs at d₀ total₀ ns cs ls ts gs room few =
    let z : d₀ + 0 ≡ d₀ = omega arith in
    record {
      within = omega arith;
      stops = sum-none (entry counts) 0;
      few = few;
      near = omega (arith, zero-mul (most_bytes L));
      lengths = record { names = refl; counts = refl; locations = refl; times = refl; legs = refl };
      earlier = rows_in L d₀ ns;
      many = rows_many L d₀ ns ∙ sym z;
      long = rows_long L d₀ ns room;
      stand = rows_stand L d₀ ns 0 (omega (arith, room));
      going = rw (left_all L n names counts locations times legs, z) (record { answers = refl; names = refl; counts = refl; locations = refl; times = refl; legs = refl });
    }

module _ {L : Limits} {form n : ℕ} {names counts locations times legs : List ℕ} {at d₀ total₀ i from here total : ℕ} {ns cs ls ts gs ns₀ cs₀ ls₀ ts₀ gs₀ : List ℕ}
    (g : Copying L form n names counts locations times legs at d₀ total₀ i from here total ns cs ls ts gs ns₀ cs₀ ls₀ ts₀ gs₀) (more : i < n) (w : Writable L form n names counts locations times legs) where
  -- the next drone of the source
  abbrev pub next_route : Route
  next_route = route_in L (i * L.name) names (get_or counts i 0) from locations times legs

  -- its stops are among those of all
  pub next_stops : from + get_or counts i 0 ≤ L.stops
  next_stops = omega (arith, g.stops, sum_past i n (entry counts) more, w.stops_in_lem)

  next_paired : (length next_route.times ≡ length next_route.locations) × (length next_route.legs ≡ length next_route.locations)
  next_paired =
      let m : length next_route.locations ≡ get_or counts i 0 = part_long locations from (get_or counts i 0) (omega (arith, next_stops, w.locations_full)) in (
        part_long times from (get_or counts i 0) (omega (arith, next_stops, w.times_full)) ∙ sym m,
        part_long legs from (get_or counts i 0) (omega (arith, next_stops, w.legs_full)) ∙ sym m,
      )

  next-named : length next_route.name ≤ L.name
  next-named = omega (arith, name_short (take L.name (drop (i * L.name) names)), length-take L.name (drop (i * L.name) names))

  left_is : routes_left L n names counts locations times legs i from ≡ next_route ∷ routes_left L n names counts locations times legs (i + 1) (from + get_or counts i 0)
  left_is = left-next L n names counts locations times legs i from more (omega (arith, w.drones_in, w.counts_full))

  route_is : route_reckoned L form here total (among L (d₀ + i) ns 0) next_route ≡ route_reckoned L form here total (elem g.earlier) next_route
  route_is = route_by L form here total _ _ next_route (λ row l. rw (← g.many) (among-elem L g.earlier ns 0 row g.long g.stand l))

  module _ {ns' cs' ls' ts' gs' : List ℕ} {r : Result DroneLines Refusal} (s : LinesStored L (route_reckoned L form here total (among L (d₀ + i) ns 0) next_route) (d₀ + i) total ns cs ls ts gs ns' cs' ls' ts' gs' r) where
    -- one is at fault: nothing is left
    pub copying_bad : (x : Refusal) → r ≡ Err x
        → LinesStored L (routes_reckoned L form at (rows_in L d₀ ns₀) total₀ (routes_in L n names counts locations times legs)) d₀ total₀ ns₀ cs₀ ls₀ ts₀ gs₀ ns' cs' ls' ts' gs' (Err x)
    copying_bad x e =
        let f : LinesRead (Result DroneLines Refusal) = route_reckoned L form here total (among L (d₀ + i) ns 0) next_route in
        let q = ap (routes_reckoned L form here g.earlier total) left_is ∙ routes_bad L form here g.earlier total next_route _ f x route_is (sym s.answer_is ∙ e) in
        rw e at (onward-stored (rw q at g.going) s)

    pub copying_more : (e t : ℕ) → r ≡ read_to e t → d₀ + n ≤ L.drones → L.drones * L.name ≤ length ns₀ → Lengths ns' cs' ls' ts' gs' ns cs ls ts gs
        → Copying L form n names counts locations times legs at d₀ total₀ (i + 1) (from + get_or counts i 0) e t ns' cs' ls' ts' gs' ns₀ cs₀ ls₀ ts₀ gs₀
    copying_more e t h fits room k =
        let f : LinesRead (Result DroneLines Refusal) = route_reckoned L form here total (among L (d₀ + i) ns 0) next_route in
        let fa : f.answer ≡ read_to e t = sym s.answer_is ∙ h in
        let a : RouteAdded L form here total next_route f e t = route_added L form here total (among L (d₀ + i) ns 0) next_route next-named next_paired e t fa in
        let row : List ℕ = row_of L next_route.name in
        let rest : LinesRead (Result DroneLines Refusal) = routes_reckoned L form e (g.earlier ++ row ∷ []) t (routes_left L n names counts locations times legs (i + 1) (from + get_or counts i 0)) in
        let q : routes_reckoned L form here g.earlier total (routes_left L n names counts locations times legs i from) ≡ joined f rest =
        ap (routes_reckoned L form here g.earlier total) left_is ∙ routes_next L form here g.earlier total next_route _ f e t route_is fa in
        let v = rw q at g.going in
        let z : d₀ + (i + 1) ≡ d₀ + i + 1 = omega arith in
        let rl : length row ≡ L.name = row_long L next_route.name in
        let fl : (d₀ + i) * L.name + length (flat f.rows) ≡ (d₀ + i + 1) * L.name = rw (a.rows_are, append-nil) (omega (arith, rl, add-mul (d₀ + i) 1 L.name, one-mul L.name)) in
        let l = g.lengths in
        record {
          within = omega (arith, more);
          stops = omega (arith, g.stops, sum_more i (entry counts));
          few = a.within;
          near = omega (arith, a.near, g.near, add-mul i 1 (most_bytes L), one-mul (most_bytes L));
          lengths = record { names = k.names ∙ l.names; counts = k.counts ∙ l.counts; locations = k.locations ∙ l.locations; times = k.times ∙ l.times; legs = k.legs ∙ l.legs };
          earlier = g.earlier ++ row ∷ [];
          many = simp length-append (omega (arith, g.many));
          long = long_snoc L g.earlier row g.long rl;
          stand = rw (s.names_are, a.rows_are) (stand_more L ns (d₀ + i) g.earlier row g.many g.long rl (omega (arith, more, fits)) (omega (arith, l.names, room)) g.stand);
          going = rw z (record {
            answers = v.answers;
            names = shift ns ns' (flat f.rows) _ _ ((d₀ + i) * L.name) ((d₀ + i + 1) * L.name) s.names_are fl (rw flat_append at v.names);
            counts = shift cs cs' f.counts _ _ (d₀ + i) (d₀ + i + 1) s.counts_are (omega (arith, a.one)) v.counts;
            locations = shift ls ls' f.locations _ _ total t s.locations_are a.places v.locations;
            times = shift ts ts' f.times _ _ total t s.times_are a.moments v.times;
            legs = shift gs gs' f.legs _ _ total t s.legs_are a.lengths v.legs;
          });
        }

-- all were copied
pub copying_end : {L : Limits} {form n : ℕ} {names counts locations times legs : List ℕ} {at d₀ total₀ i from here total : ℕ} {ns cs ls ts gs ns₀ cs₀ ls₀ ts₀ gs₀ : List ℕ}
    → Copying L form n names counts locations times legs at d₀ total₀ i from here total ns cs ls ts gs ns₀ cs₀ ls₀ ts₀ gs₀ → n ≤ i
    → LinesStored L (routes_reckoned L form at (rows_in L d₀ ns₀) total₀ (routes_in L n names counts locations times legs)) d₀ total₀ ns₀ cs₀ ls₀ ts₀ gs₀ ns cs ls ts gs (read_to here total)
unfolding routes_reckoned
copying_end {L} {form} {n} {names} {counts} {locations} {times} {legs} {at} {d₀} {total₀} {i} {from} {here} {total} g h =
    let e : i ≡ n = omega (arith, g.within) in
    onward-stored (rw (left-none L n names counts locations times legs i from e) at g.going) (whole-none L form (d₀ + i) total _ _ _ _ _ _)
