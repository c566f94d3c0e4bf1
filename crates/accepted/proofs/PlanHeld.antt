-- Tables that hold a valid plan's values, entry by entry, are in range, have good names, and are zero past the plan.
use mathlib.Core.Path.{◌≡◌, refl, sym, ap, ◌∙◌}
use mathlib.Core.Bool.{Bool, true, false, cond, not, ◌&&◌}
use mathlib.Core.List.{List, []}
use Prim.Native.Nat.{ℕ, ◌+◌, ◌*◌, ◌<◌}
use native.Mathlib.Omega.{arith}
use lib.Dec.{ltb, leb, eqb}
use borrow.Author.Tests.{ltb-true, ltb-false, le-leb, eqb-true, eq-eqb}
use lib.ListN.{length, get_or}
use Rattle.below.specs.Below.{at, all_below}
use Rattle.below.proofs.Tests.{by_cases, true_or_false, and_both}
use Rattle.below.proofs.Every.{all_below-at, all_below_all}
use Rattle.below.proofs.Search.{first_below_is}
use Rattle.tables.specs.Limits.{Limits}
use Rattle.tables.specs.Legs.{leg_right}
use Rattle.tables.specs.Tables.{PlanLists, drones, form_of}
use Rattle.lines.specs.Names.{is_name_byte, good_name}
use Rattle.lines.proofs.NameRoundTrip.{good_length, good_bytes, row_long}
use Rattle.text.specs.LinesRead.{flat}
use Rattle.text.specs.Written.{Route, rows_of, counts_of, locations_of, times_of, legs_of, InLimits}
use Rattle.text.proofs.Rows.{row_fits}
use Rattle.plan.specs.Field.{meets_of}
use Rattle.plan.specs.Claims.{HaveStops, stop_total, number_in, leg_in}
use Rattle.sound.specs.Sound.{zero_from, name_byte, name_length, name_sound, same_name, names_differ, in_range, names_sound}
use Rattle.call_log.proofs.SoundParts.{zero_from_lem}
use Rattle.accepted.proofs.Stored.{at-past}
use Rattle.text.proofs.Sizes.{rows_long, rows_many, names_many, counts_many, stops_within, times_many, legs_many}
use Rattle.accepted.proofs.RoutesPlan.{HoldsStops, stop-in_range, stops_many, held_stops, numbers_are, stops_are}
use Rattle.accepted.proofs.RowNames.{row_at, name_byte_lem, byte_some, flat-at, GoodRow, good_rows, rows_differ, same_all}

-- up to the full sizes the tables hold the plan's values, and 0 past them
pub record HoldsRoutes (L : Limits) (form : ℕ) (ds : List Route) (p : PlanLists) : Type 0 where
  pub drones_are : drones p ≡ length ds
  pub form_is : form_of p ≡ form
  pub names_are : (i : ℕ) → i < L.drones * L.name → at p.names i ≡ at (flat (rows_of L ds)) i
  pub counts_are : (i : ℕ) → i < L.drones → at p.stop_counts i ≡ at (counts_of ds) i
  pub locations_are : (i : ℕ) → i < L.stops → at p.locations i ≡ at (locations_of ds) i
  pub times_are : (i : ℕ) → i < L.stops → at p.times i ≡ at (times_of ds) i
  pub legs_are : (i : ℕ) → i < L.stops → at p.legs i ≡ at (legs_of ds) i

-- .. so they hold the stops of the routes
pub holds_stops : (L : Limits) (form : ℕ) (ds : List Route) → InLimits L form ds → (meets : ℕ → ℕ → Bool) (p : PlanLists) → ((a b : ℕ) → meets_of p a b ≡ meets a b) → HoldsRoutes L form ds p → HoldsStops meets ds p
holds_stops L form ds v meets p m h =
    let w = stops_within L form ds v in
    record {
      meets_are = m;
      drones_are = h.drones_are;
      counts_are = λ d l. h.counts_are d (omega (arith, v.1));
      locations_are = λ u l. h.locations_are u (omega (arith, w));
      times_are = λ u l. h.times_are u (omega (arith, w));
      legs_are = λ u l. h.legs_are u (omega (arith, w));
    }

-- the first entries of one table are the list's, the others 0
pub zero-past : (used full : ℕ) (l xs : List ℕ) → length xs ≡ used → ((i : ℕ) → i < full → at l i ≡ at xs i) → zero_from used full l ≡ true
zero-past used full l xs e h = zero_from_lem used full l (λ i a b. h i b ∙ at-past xs i (omega arith))

-- ---- a name in its row

module _ (L : Limits) (names : List ℕ) (d : ℕ) (x : List ℕ) (good : good_name L x ≡ true) (bytes : (i : ℕ) → i < L.name → name_byte L names d i ≡ at x i) where
  name_length_lem : name_length L names d ≡ length x
  unfolding name_length
  name_length_lem = first_below_is (record {
    within = (good_length L x good).1;
    skipped = λ i l. let k : i < L.name = omega (arith, (good_length L x good).1) in ap (λ (b : ℕ). eqb b 0) (bytes i k) ∙ byte_some (at x i) (name_byte_lem x (good_bytes L x good) i l);
    found = λ l. eq-eqb _ 0 (bytes (length x) l ∙ at-past x (length x) (omega arith));
  })

  name_sound_lem : name_sound L names d ≡ true
  unfolding name_sound
  name_sound_lem = rw name_length_lem (and_both (leb 1 (length x)) _ (le-leb 1 (length x) (good_length L x good).0) (all_below_all L.name _ byte_right))
    where
      byte_right : (i : ℕ) → i < L.name → cond (ltb i (length x)) (is_name_byte (name_byte L names d i)) (eqb (name_byte L names d i) 0) ≡ true
      byte_right i l = by_cases (ltb i (length x))
          (λ e. rw (e, bytes i l) (name_byte_lem x (good_bytes L x good) i (ltb-true i (length x) e)))
          (λ e. rw (e, bytes i l) (eq-eqb (at x i) 0 (at-past x i (ltb-false i (length x) e))))

-- ---- the whole plan

module _ (L : Limits) (form : ℕ) (ds : List Route) (v : InLimits L form ds) (p : PlanLists) (h : HoldsRoutes L form ds p) where
  own_stops : HoldsStops (meets_of p) ds p
  own_stops = holds_stops L form ds v (meets_of p) p (λ a b. refl) h

  pub have_stops : HaveStops p
  have_stops = held_stops L form ds v p own_stops

  pub total_is : stop_total p ≡ length (locations_of ds)
  total_is = stops_are L form ds v p own_stops ∙ stops_many L form ds v

  -- one stop: its numbers are those of the routes
  one_in_range : (i : ℕ) → i < stop_total p → leb (at p.locations i) L.location && (leb (at p.times i) L.time && leg_right L (form_of p) (number_in p i) (leg_in p i)) ≡ true
  one_in_range i l =
      let w = stops_within L form ds v in
      let n : i < L.stops = omega (arith, total_is) in
      let (a, b, c) = stop-in_range L form ds v i (omega (arith, total_is, stops_many L form ds v)) in
      let g : leg_right L (form_of p) (number_in p i) (leg_in p i) ≡ true = rw (h.form_is, numbers_are L form ds v p own_stops i, h.legs_are i n) c in
      and_both _ _ (le-leb (at p.locations i) L.location (omega (arith, a, h.locations_are i n))) (and_both _ _ (le-leb (at p.times i) L.time (omega (arith, b, h.times_are i n))) g)

  pub in_range_lem : in_range L p ≡ true
  unfolding in_range
  in_range_lem =
      let n = h.drones_are in
      let f = h.form_is in
      let w = stops_within L form ds v in
      and_both _ _ (and_both _ _ (le-leb 1 (drones p) (omega (arith, n, v.0))) (le-leb (drones p) L.drones (omega (arith, n, v.1))))
      (and_both _ _ (and_both _ _ (le-leb 1 (form_of p) (omega (arith, f, v.3))) (le-leb (form_of p) L.form (omega (arith, f, v.4))))
      (and_both _ _ (all_below_all (drones p) _ (λ d l. le-leb 1 (at p.stop_counts d) (have_stops d l)))
      (and_both _ _ (le-leb (stop_total p) L.stops (omega (arith, w, total_is)))
      (all_below_all (stop_total p) _ one_in_range))))

  -- byte i of drone d's row in the table is that of the row
  byte_is : (d i : ℕ) → d < length ds → i < L.name → name_byte L p.names d i ≡ at (get_or (rows_of L ds) d []) i
  byte_is d i l k =
      let f = row_fits d L.drones L.name (omega (arith, v.1)) in
      h.names_are (d * L.name + i) (omega (arith, f)) ∙ flat-at L (rows_of L ds) (rows_long L ds) d i (omega (arith, rows_many L ds)) k

  one_sound : (d : ℕ) → d < length ds → name_sound L p.names d ≡ true
  one_sound d l =
      let g : GoodRow L (get_or (rows_of L ds) d []) = good_rows L form ds [] 0 v.2 d l in
      name_sound_lem L p.names d g.name g.good (λ i k. byte_is d i l k ∙ (ap (λ (r : List ℕ). at r i) g.row_is ∙ row_at L g.name (good_length L g.name g.good).1 i))

  row_length : (d : ℕ) → d < length ds → length (get_or (rows_of L ds) d []) ≡ L.name
  row_length d l = let g : GoodRow L (get_or (rows_of L ds) d []) = good_rows L form ds [] 0 v.2 d l in ap (λ (r : List ℕ). length r) g.row_is ∙ row_long L g.name

  two_differ : (d e : ℕ) → d < length ds → e < d → same_name L p.names d e ≡ false
  unfolding same_name
  two_differ d e l k = by_cases (same_name L p.names d e) (λ q. true_or_false (same_all _ _ (row_length e (omega arith) ∙ sym (row_length d l)) (equal q)) (rows_differ L form ds v d e l k)) (λ q. q)
    where
      equal : all_below L.name (λ i. eqb (name_byte L p.names d i) (name_byte L p.names e i)) ≡ true → (i : ℕ) → i < length (get_or (rows_of L ds) e []) → at (get_or (rows_of L ds) e []) i ≡ at (get_or (rows_of L ds) d []) i
      equal q i m =
          let w : i < L.name = omega (arith, row_length e (omega arith)) in
          sym (byte_is e i (omega arith) w) ∙ (sym (eqb-true _ _ (all_below-at L.name _ q i w)) ∙ byte_is d i l w)

  pub names_sound_lem : names_sound L p ≡ true
  unfolding names_sound names_differ
  names_sound_lem = and_both _ _
      (all_below_all (drones p) _ (λ d l. one_sound d (omega (arith, h.drones_are))))
      (all_below_all (drones p) _ (λ d l. all_below_all d _ (λ e k. ap not (two_differ d e (omega (arith, h.drones_are)) k))))

  -- ---- unused entries are zero

  pub names_zero : zero_from (drones p * L.name) (L.drones * L.name) p.names ≡ true
  names_zero = zero-past _ _ p.names (flat (rows_of L ds)) (names_many L ds ∙ ap (λ (n : ℕ). n * L.name) (sym h.drones_are)) h.names_are

  pub counts_zero : zero_from (drones p) L.drones p.stop_counts ≡ true
  counts_zero = zero-past _ _ p.stop_counts (counts_of ds) (counts_many ds ∙ sym h.drones_are) h.counts_are

  pub locations_zero : zero_from (stop_total p) L.stops p.locations ≡ true
  locations_zero = zero-past _ _ p.locations (locations_of ds) (sym total_is) h.locations_are

  pub times_zero : zero_from (stop_total p) L.stops p.times ≡ true
  times_zero = zero-past _ _ p.times (times_of ds) (times_many L form ds v ∙ sym total_is) h.times_are

  pub legs_zero : zero_from (stop_total p) L.stops p.legs ≡ true
  legs_zero = zero-past _ _ p.legs (legs_of ds) (legs_many L form ds v ∙ sym total_is) h.legs_are
