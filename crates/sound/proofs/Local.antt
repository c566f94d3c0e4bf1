-- The local tables hold the numbering of the stops, so what is tested over them is what the definitions say: the stops, the flag bytes, the dependencies and the
-- graph. Assumes nothing.
use mathlib.Core.Path.{◌≡◌, refl, sym, ap, ◌∙◌, subst}
use mathlib.Core.Logic.{◌≢◌}
use mathlib.Core.List.{List}
use mathlib.Core.Bool.{Bool, true, false, not, ◌&&◌, ◌||◌}
use Prim.Native.Nat.{ℕ, suc, ◌+◌, ◌-◌, ◌/◌, ◌≤◌, ◌<◌}
use native.Mathlib.Omega.{arith}
use lib.Dec.{leb, eqb}
use lib.ListN.{length}
use borrow.Author.Tests.{eqb-true, eqb-false}
use Rattle.below.specs.Below.{all_below, fill_below, at, pick}
use Rattle.below.proofs.Tests.{by_cases, true_or_false, and_left, and_right, or_left, or_right}
use Rattle.below.proofs.Every.{all_below-at, all_below_ext}
use Rattle.below.proofs.Fill.{get_d_fill, fill_length}
use Rattle.tables.specs.Limits.{Limits}
use Rattle.tables.specs.Legs.{leg_right}
use Rattle.tables.specs.Flags.{turned_bit}
use Rattle.precedence.specs.Graph.{Plan, Wait, cyclic}
use Rattle.precedence.proofs.Agreement.{awaited_in, cyclic_agree}
use Rattle.plan.specs.Stops.{start, owner, stop_number}
use Rattle.near.specs.Near.{meets_in}
use Rattle.near.proofs.NearLaws.{meets_symmetric}
use Rattle.plan.specs.Visits.{Visits, Symmetric, visits_of}
use Rattle.plan.specs.Check.{fault_at}
use Rattle.plan.specs.Dependencies.{right}
use Rattle.plan.specs.Field.{Dependency, FieldPlan, Status, in_force, wait_of, wait_unless, graph, fixed}
use Rattle.plan.specs.Waits.{withdrawn_in}
use Rattle.plan.specs.Claims.{Numbered}
use Rattle.plan.proofs.Numbering.{numbered, next_number, stays}
use Rattle.plan.proofs.Conditions.{Passes, fault_says}
use Rattle.meetings.specs.Meetings.{Steady}
use Rattle.meetings.proofs.Right.{Entry, right_entry}
use Rattle.cycles.specs.Flat.{flat_plan, Shape, PlacedWaits}
use Rattle.cycles.specs.Waits.{from_of, into_of, turned_in, kept_from, KeptEdges, UnfixedTurns, Given, graph_sound}
use Rattle.cycles.proofs.Placed.{formed}
use Rattle.cycles.proofs.Aside.{kept_placed, kept_wait}
use Rattle.cycles.proofs.Directed.{right_placed}
use Rattle.sound.specs.Parts.{stop_sound, stop_in_lem, flag_right, fixed_at, turns_in, field_of, visits_by, graph_part}
use Rattle.sound.specs.Asked.{Counted, ColumnRoom, Numbers, GraphTables, Scratch, Through}
use Rattle.sound.proofs.Asking.{stop_drone, stop_number_lem}
use Rattle.plan.proofs.Agree.{right-same}

-- a table that was filled holds the function
pub filled_at : (n : ℕ) (f : ℕ → ℕ) (l l₀ : List ℕ) → l ≡ fill_below n f l₀ → n ≤ length l₀ → (v : ℕ) → v < n → at l v ≡ f v
filled_at n f l l₀ e r v h = rw e (get_d_fill f l₀ n v h r)

-- .. the four local tables
pub numbers_filled : {L : Limits} (drones n m : ℕ) (counts owners₀ numbers₀ starts₀ lasts₀ owners numbers starts lasts : List ℕ) → Counted L drones n m counts → Scratch L owners₀ numbers₀ starts₀ lasts₀
    → owners ≡ fill_below n (owner drones counts) owners₀ → numbers ≡ fill_below n (stop_number drones counts) numbers₀ → starts ≡ fill_below drones (start counts) starts₀ → lasts ≡ fill_below drones (λ d. at counts d - 1) lasts₀
    → Numbers L drones n counts owners numbers starts lasts
numbers_filled drones n m counts owners₀ numbers₀ starts₀ lasts₀ owners numbers starts lasts C S a b c d = record {
  owners_size = fill_length _ _ _ _ a ∙ S.owners_room;
  numbers_size = fill_length _ _ _ _ b ∙ S.numbers_room;
  owners_are = filled_at n _ owners owners₀ a (omega (arith, S.owners_room, C.few_stops));
  numbers_are = filled_at n _ numbers numbers₀ b (omega (arith, S.numbers_room, C.few_stops));
  starts_are = filled_at drones _ starts starts₀ c (omega (arith, S.starts_room, C.few_drones));
  lasts_are = filled_at drones _ lasts lasts₀ d (omega (arith, S.lasts_room, C.few_drones));
}

-- ---- what the tests of single entries say

pub flag_unfixed : (b : Bool) (f : ℕ) → flag_right b f ≡ true → turned_bit f ≡ true → b ≡ false
unfolding flag_right
flag_unfixed b f h t = by_cases b (λ e. true_or_false (and_right (eqb (f / 2) (pick b 1 0)) _ h) (rw (t, e) refl)) (λ e. e)

pub wait_is : {a b c d a' b' c' d' : ℕ} → a ≡ a' → b ≡ b' → c ≡ c' → d ≡ d' → ◌≡◌ {A = Wait} (record { waiter = a; stop = b; awaited = c; until = d }) (record { waiter = a'; stop = b'; awaited = c'; until = d' })
wait_is p q r s = rw (p, q, r, s) refl

-- who is withdrawn on either side, in either order
either_order : (x : ℕ → Bool) (b : Bool) (e : Dependency) → (x (wait_of (in_force b e)).awaited || x (wait_of (in_force b e)).waiter) ≡ (x e.first || x e.second)
either_order x false e = refl
either_order x true e = go (x e.second) (x e.first)
  where
    go : (a c : Bool) → (a || c) ≡ (c || a)
    go true true = refl
    go true false = refl
    go false true = refl
    go false false = refl

module _ {L : Limits} (drones n m form : ℕ) (counts locations times legs first_drones first_stops second_drones second_stops pairs drone_flags flags : List ℕ) (C : Counted L drones n m counts) where
  abbrev own : ℕ → ℕ
  own = owner drones counts

  abbrev num : ℕ → ℕ
  num = stop_number drones counts

  abbrev last : ℕ → ℕ
  last d = at counts d - 1

  abbrev F : FieldPlan
  F = field_of drones n m counts locations times legs first_drones first_stops second_drones second_stops pairs

  abbrev S : Visits
  S = visits_by drones n m counts locations times legs first_drones first_stops second_drones second_stops pairs

  abbrev meets : ℕ → ℕ → Bool
  meets = meets_in pairs

  meets_either : Symmetric meets
  meets_either = meets_symmetric pairs

  abbrev turned : ℕ → Bool
  turned k = turned_bit (at flags k)

  abbrev s : Status
  s = turns_in drone_flags flags

  abbrev x : ℕ → Bool
  x = withdrawn_in drone_flags

  abbrev xs : ℕ → ℕ
  xs k = start counts (at first_drones k) + at first_stops k

  abbrev ys : ℕ → ℕ
  ys k = start counts (at second_drones k) + at second_stops k

  pub N : Numbered own num (start counts) last drones n
  N = subst (λ (z : ℕ). Numbered own num (start counts) last drones z) (sym C.total) (numbered drones counts C.have_stops)

  -- ---- the tests over the local tables

  pub stops_same : (meets : ℕ → ℕ → Bool) (owners numbers : List ℕ) → ((v : ℕ) → v < n → at numbers v ≡ num v) → all_below n (stop_sound L form (visits_of meets owners numbers locations times n) (at legs)) ≡ all_below n (stop_sound L form S (at legs))
  unfolding stop_sound fault_at
  stops_same meets owners numbers are = all_below_ext n _ _ (λ v l. rw (are v l) refl)

  pub flags_same : (lasts : List ℕ) → ((d : ℕ) → d < drones → at lasts d ≡ last d) → all_below m (stop_in_lem drones counts (at second_drones) (at second_stops)) ≡ true
      → all_below m (λ k. flag_right (fixed_at (at lasts) (at first_stops) (at second_drones) (at second_stops) k) (at flags k)) ≡ all_below m (λ k. flag_right (fixed F k) (at flags k))
  unfolding fixed_at
  flags_same lasts are h = all_below_ext m _ _ (λ k l. rw (are (at second_drones k) (stop_drone drones counts (at second_drones) (at second_stops) k (all_below-at m (stop_in_lem drones counts (at second_drones) (at second_stops)) h k l))) refl)

  -- ---- what is known when the tests of single entries have passed
  module _ (stops_fine : all_below n (stop_sound L form S (at legs)) ≡ true) (firsts_in : all_below m (stop_in_lem drones counts (at first_drones) (at first_stops)) ≡ true) (seconds_in : all_below m (stop_in_lem drones counts (at second_drones) (at second_stops)) ≡ true) (flags_fine : all_below m (λ k. flag_right (fixed F k) (at flags k)) ≡ true) where
    passes : (v : ℕ) → v < n → Passes S (at legs) v
    unfolding stop_sound
    passes v l = fault_says S (at legs) v (eqb-true _ _ (and_right (leg_right L form (num v) (at legs v)) _ (and_right (leb (at times v) L.time) _ (and_right (leb (at locations v) L.location) _ (all_below-at n (stop_sound L form S (at legs)) stops_fine v l)))))

    steady : Steady own (at locations) (at times) n
    steady v l e =
        let q : num (v + 1) ≡ num v + 1 = next_number N v l e in
        let z : v + 1 - 1 ≡ v = omega arith in
        rw z at ((passes (v + 1) l).rises (omega (arith, q)))

    first_drone : (k : ℕ) → k < m → at first_drones k < drones
    first_drone k l = stop_drone drones counts (at first_drones) (at first_stops) k (all_below-at m (stop_in_lem drones counts (at first_drones) (at first_stops)) firsts_in k l)

    first_stop : (k : ℕ) → k < m → at first_stops k ≤ last (at first_drones k)
    first_stop k l = omega (arith, stop_number_lem drones counts (at first_drones) (at first_stops) k (all_below-at m (stop_in_lem drones counts (at first_drones) (at first_stops)) firsts_in k l))

    second_drone : (k : ℕ) → k < m → at second_drones k < drones
    second_drone k l = stop_drone drones counts (at second_drones) (at second_stops) k (all_below-at m (stop_in_lem drones counts (at second_drones) (at second_stops)) seconds_in k l)

    second_stop : (k : ℕ) → k < m → at second_stops k ≤ last (at second_drones k)
    second_stop k l = omega (arith, stop_number_lem drones counts (at second_drones) (at second_stops) k (all_below-at m (stop_in_lem drones counts (at second_drones) (at second_stops)) seconds_in k l))

    unfixed : (k : ℕ) → k < m → turned k ≡ true → (at first_stops k ≢ 0) × (at second_stops k ≢ last (at second_drones k))
    unfixed k l t =
        let h : (eqb (at first_stops k) 0 || eqb (at second_stops k) (last (at second_drones k))) ≡ false = flag_unfixed (fixed F k) (at flags k) (all_below-at m (λ k. flag_right (fixed F k) (at flags k)) flags_fine k l) t in
        (eqb-false _ _ (or_left (eqb (at first_stops k) 0) _ h), eqb-false _ _ (or_right (eqb (at first_stops k) 0) _ h))

    pub first_flat : (k : ℕ) → k < m → xs k < n
    first_flat k l = N.place_in (at first_drones k) (at first_stops k) (first_drone k l) (first_stop k l)

    pub second_flat : (k : ℕ) → k < m → ys k < n
    second_flat k l = N.place_in (at second_drones k) (at second_stops k) (second_drone k l) (second_stop k l)

    -- ---- the graph test over the local tables
    module _ (owners numbers starts lasts firsts seconds : List ℕ) (T : Numbers L drones n counts owners numbers starts lasts) (A : Through L starts first_drones first_stops m firsts) (B : Through L starts second_drones second_stops m seconds) where
      first_is : (k : ℕ) → k < m → at firsts k ≡ xs k
      first_is k l = A.are k l ∙ ap (λ (z : ℕ). z + at first_stops k) (T.starts_are (at first_drones k) (first_drone k l))

      second_is : (k : ℕ) → k < m → at seconds k ≡ ys k
      second_is k l = B.are k l ∙ ap (λ (z : ℕ). z + at second_stops k) (T.starts_are (at second_drones k) (second_drone k l))

      -- stop s of drone d, numbered through
      module _ (d s x : ℕ) (l : d < drones) (h : s ≤ last d) (e : x ≡ start counts d + s) where
        spot_in : x < n
        spot_in = rw e (N.place_in d s l h)

        spot_owner : at owners x ≡ d
        spot_owner = T.owners_are x spot_in ∙ ap own e ∙ N.place_own d s l h

        spot_start : at starts (at owners x) ≡ start counts d
        spot_start = rw spot_owner (T.starts_are d l)

        spot_number : x - at starts (at owners x) ≡ s
        spot_number = omega (arith, spot_start)

      local_steady : Steady (at owners) (at locations) (at times) n
      local_steady v l e = steady v l (sym (T.owners_are (v + 1) l) ∙ e ∙ T.owners_are v (omega arith))

      local_shape : Shape (at owners) (at starts) (at lasts) drones n
      local_shape = record {
        own_in = λ v l. rw (T.owners_are v l) (N.own_in v l);
        off_le = λ v l. rw (T.owners_are v l, T.starts_are (own v) (N.own_in v l)) (omega (arith, N.number_is v l));
        number_in_lem = λ v l. rw (T.owners_are v l, T.starts_are (own v) (N.own_in v l), T.lasts_are (own v) (N.own_in v l)) (omega (arith, N.number_is v l, N.number_in_lem v l));
        place_in = λ d s l h. rw (T.starts_are d l) (N.place_in d s l (rw (← T.lasts_are d l) h));
        place_own = λ d s l h. spot_owner d s (at starts d + s) l (rw (← T.lasts_are d l) h) (rw (T.starts_are d l) refl);
      }

      local_zero : (v : ℕ) → v < n → v ≡ at starts (at owners v) → at times v ≡ 0
      local_zero v l e =
          let q : at starts (at owners v) ≡ start counts (own v) = rw (T.owners_are v l, T.starts_are (own v) (N.own_in v l)) refl in
          (passes v l).starts (omega (arith, N.number_is v l))

      local_unfixed : UnfixedTurns (at owners) (at starts) n m (at firsts) (at seconds) (turned_in flags)
      local_unfixed k l t =
          let (a, b) = unfixed k l t in
          let q : at starts (at owners (at firsts k)) ≡ start counts (at first_drones k) = spot_start (at first_drones k) (at first_stops k) (at firsts k) (first_drone k l) (first_stop k l) (first_is k l) in
          (λ z. a (omega (arith, first_is k l)), omega (arith, second_is k l, second_stop k l, N.place_in (at second_drones k) (at second_stops k + 1) (second_drone k l) (omega (arith, second_stop k l, b))))

      pub given : n ≤ length locations → n ≤ length times → ColumnRoom m first_drones first_stops second_drones second_stops flags → Given L owners locations times starts lasts firsts seconds flags drones n m
      given a b columns = record {
        stops = record {
          has_owners = omega (arith, T.owners_size, C.few_stops);
          has_locations = a;
          has_times = b;
          few = C.few_stops;
          grouped = λ v w l k. rw (T.owners_are v (omega arith), T.owners_are w k) (N.grouped v w l k);
          steady = local_steady;
        };
        table = record { has_firsts = omega (arith, A.size, C.few_dependencies); has_seconds = omega (arith, B.size, C.few_dependencies) };
        shape = local_shape;
        zero_time = local_zero;
        unfixed = local_unfixed;
        has_flags = columns.has_flags;
        few_drones = C.few_drones;
        few_waits = C.few_dependencies;
      }

      abbrev local_right : Bool
      local_right = right (visits_of meets owners numbers locations times n) m (at firsts) (at seconds)

      -- every wait as if nobody were withdrawn, and those of withdrawn drones left out
      abbrev Q : Plan
      Q = flat_plan (at owners) (at starts) (at lasts) drones (from_of (at firsts) (at seconds) turned) (into_of (at firsts) (at seconds) turned) m

      abbrev from_kept : ℕ → ℕ
      from_kept = kept_from (at owners) (at starts) x (from_of (at firsts) (at seconds) turned) (into_of (at firsts) (at seconds) turned)

      abbrev R : Plan
      R = flat_plan (at owners) (at starts) (at lasts) drones from_kept (into_of (at firsts) (at seconds) turned) m

      module _ (e : local_right ≡ true) where
        entry : (k : ℕ) → k < m → Entry meets meets_either (at owners) (at numbers) (at locations) (at times) n local_steady m (at firsts) (at seconds) k
        entry k l = right_entry meets meets_either (at owners) (at numbers) (at locations) (at times) n local_steady m (at firsts) (at seconds) e k l

        -- the first drone goes on from its stop
        first_goes : (k : ℕ) → k < m → at first_stops k < last (at first_drones k)
        first_goes k l =
            let q : xs k + 1 ≡ at firsts k + 1 = omega (arith, first_is k l) in
            let o : own (xs k + 1) ≡ own (xs k) = rw (q, ← first_is k l, ← T.owners_are (at firsts k + 1) (entry k l).next_in, ← T.owners_are (at firsts k) (entry k l).first_in) (entry k l).next-own in
            let s : num (xs k) < last (own (xs k)) = stays N (xs k) (rw q (entry k l).next_in) o in
            rw (N.place_own (at first_drones k) (at first_stops k) (first_drone k l) (first_stop k l), N.place_number (at first_drones k) (at first_stops k) (first_drone k l) (first_stop k l)) at s

        base_wait : (k : ℕ) → k < m → Q.wait k ≡ wait_of (in_force (turned k) (F.dependency k))
        base_wait k l = by_cases (turned k)
            (λ t. let (a, b) = unfixed k l t in
            let f : at seconds k + 1 ≡ start counts (at second_drones k) + suc (at second_stops k) = omega (arith, second_is k l) in
            let g : suc (at second_stops k) ≤ last (at second_drones k) = omega (arith, second_stop k l, b) in
            rw t (wait_is
            (spot_owner (at first_drones k) (at first_stops k) (at firsts k) (first_drone k l) (first_stop k l) (first_is k l))
            (spot_number (at first_drones k) (at first_stops k) (at firsts k) (first_drone k l) (first_stop k l) (first_is k l))
            (spot_owner (at second_drones k) (suc (at second_stops k)) (at seconds k + 1) (second_drone k l) g f)
            (spot_number (at second_drones k) (suc (at second_stops k)) (at seconds k + 1) (second_drone k l) g f)))
            (λ t. let f : at firsts k + 1 ≡ start counts (at first_drones k) + suc (at first_stops k) = omega (arith, first_is k l) in
            rw t (wait_is
            (spot_owner (at second_drones k) (at second_stops k) (at seconds k) (second_drone k l) (second_stop k l) (second_is k l))
            (spot_number (at second_drones k) (at second_stops k) (at seconds k) (second_drone k l) (second_stop k l) (second_is k l))
            (spot_owner (at first_drones k) (suc (at first_stops k)) (at firsts k + 1) (first_drone k l) (first_goes k l) f)
            (spot_number (at first_drones k) (suc (at first_stops k)) (at firsts k + 1) (first_drone k l) (first_goes k l) f)))

        base_placed : PlacedWaits (at owners) (at starts) (at lasts) drones n (from_of (at firsts) (at seconds) turned) (into_of (at firsts) (at seconds) turned) m
        base_placed = right_placed meets meets_either (at owners) (at numbers) (at starts) (at lasts) (at locations) (at times) drones n m (at firsts) (at seconds) turned local_shape local_steady local_zero e local_unfixed

        placed : PlacedWaits (at owners) (at starts) (at lasts) drones n from_kept (into_of (at firsts) (at seconds) turned) m
        placed = kept_placed (at owners) (at starts) (at lasts) drones n m _ _ x base_placed

        pub same_wait : (k : ℕ) → k < m → R.wait k ≡ (graph F s).wait k
        same_wait k l =
            kept_wait (at owners) (at starts) (at lasts) drones n m _ _ x base_placed k l
            ∙ ap (λ (w : Wait). wait_unless (x w.awaited || x w.waiter) w) (base_wait k l)
            ∙ ap (λ (b : Bool). wait_unless b (wait_of (in_force (turned k) (F.dependency k)))) (either_order x (turned k) (F.dependency k))

        same-cyclic : cyclic R ≡ cyclic (graph F s)
        same-cyclic = cyclic_agree R (graph F s) (record { drones_agree = refl; lasts_agree = λ d l. T.lasts_are d l; counts_agree = refl; waits_agree = same_wait }) (awaited_in R (formed (at owners) (at starts) (at lasts) drones n _ _ m placed))

        -- a stop is the first of its drone and its number there
        numbered_from : (v : ℕ) → v < n → v ≡ start counts (at owners v) + (v - at starts (at owners v))
        numbered_from v l = let q : at starts (at owners v) ≡ start counts (at owners v) = T.starts_are (at owners v) (local_shape.own_in v l) in omega (arith, q, local_shape.off_le v l)

        pub laid : (from into : List ℕ) → KeptEdges L owners starts drone_flags firsts seconds flags m from into → GraphTables L counts (graph F s) owners starts lasts from into
        laid from into E = record {
          owners_size = T.owners_size;
          from_size = E.from_size;
          into_size = E.into_size;
          owners_are = λ v l. T.owners_are v (omega (arith, C.total));
          starts_are = T.starts_are;
          lasts_are = T.lasts_are;
          from_are = λ k l. E.from_is k l ∙ numbered_from (from_kept k) (placed.from_in k l) ∙ ap (λ (w : Wait). start counts w.awaited + w.until) (same_wait k l);
          into_are = λ k l. E.into_is k l ∙ numbered_from (into_of (at firsts) (at seconds) turned k) (placed.into_in k l) ∙ ap (λ (w : Wait). start counts w.waiter + w.stop) (same_wait k l);
        }

      pub graph_same : graph_sound (visits_of meets owners numbers locations times n) (at starts) (at lasts) drones m (at firsts) (at seconds) turned x ≡ (right S m xs ys && not (cyclic (graph F s)))
      unfolding graph_sound
      graph_same =
          let r : local_right ≡ right S m xs ys = right-same (visits_of meets owners numbers locations times n) own num (at locations) (at times) T.owners_are (λ v l. refl) (λ v l. refl) m (at firsts) xs (at seconds) ys first_is second_is in
          by_cases local_right (λ e. rw (← r, e, same-cyclic e) refl) (λ e. rw (← r, e) refl)

  abbrev stops_test : Bool
  stops_test = all_below n (stop_sound L form S (at legs))

  abbrev pub records_test : (last : ℕ → ℕ) → Bool
  records_test last = all_below m (stop_in_lem drones counts (at first_drones) (at first_stops))
      && (all_below m (stop_in_lem drones counts (at second_drones) (at second_stops)) && all_below m (λ k. flag_right (fixed_at last (at first_stops) (at second_drones) (at second_stops) k) (at flags k)))

  module _ (owners numbers starts lasts : List ℕ) (T : Numbers L drones n counts owners numbers starts lasts) where
    -- the stops, as the code tests them
    pub stops_say : (b : Bool) → ((meets : ℕ → ℕ → Bool) (owners : List ℕ) → b ≡ all_below n (stop_sound L form (visits_of meets owners numbers locations times n) (at legs))) → b ≡ stops_test
    stops_say b e = e meets owners ∙ stops_same meets owners numbers T.numbers_are

    -- the records, as the code tests them
    pub record Sides : Type 0 where
      pub firsts_in : all_below m (stop_in_lem drones counts (at first_drones) (at first_stops)) ≡ true
      pub seconds_in : all_below m (stop_in_lem drones counts (at second_drones) (at second_stops)) ≡ true
      pub flags_fine : all_below m (λ k. flag_right (fixed F k) (at flags k)) ≡ true

    pub record Known : Type 0 where
      pub stops_fine : stops_test ≡ true
      pub both_sides : Sides

    pub sides : records_test (at lasts) ≡ true → Sides
    sides e =
        let r = and_right (all_below m (stop_in_lem drones counts (at first_drones) (at first_stops))) _ e in
        let s = and_left (all_below m (stop_in_lem drones counts (at second_drones) (at second_stops))) _ r in
        record { firsts_in = and_left _ _ e; seconds_in = s; flags_fine = sym (flags_same lasts T.lasts_are s) ∙ and_right (all_below m (stop_in_lem drones counts (at second_drones) (at second_stops))) _ r }

    pub part_stops : stops_test ≡ false → false ≡ graph_part drones n m counts locations times legs first_drones first_stops second_drones second_stops pairs L form drone_flags flags
    unfolding graph_part
    part_stops e = rw e refl

    pub part_records : stops_test ≡ true → records_test (at lasts) ≡ false → false ≡ graph_part drones n m counts locations times legs first_drones first_stops second_drones second_stops pairs L form drone_flags flags
    unfolding graph_part
    part_records e h = by_cases (all_below m (stop_in_lem drones counts (at first_drones) (at first_stops)))
        (λ a. by_cases (all_below m (stop_in_lem drones counts (at second_drones) (at second_stops)))
        (λ b. rw (e, a, b, sym (flags_same lasts T.lasts_are b) ∙ (rw (a, b) at h)) refl)
        (λ b. rw (e, a, b) refl))
        (λ a. rw (e, a) refl)

    pub part-graph : (r : Bool) → stops_test ≡ true → Sides → r ≡ (right S m xs ys && not (cyclic (graph F s)))
        → r ≡ graph_part drones n m counts locations times legs first_drones first_stops second_drones second_stops pairs L form drone_flags flags
    unfolding graph_part
    part-graph r e h q = rw (e, h.firsts_in, h.seconds_in, h.flags_fine) q

    -- ---- as the code asks

    module _ (a : Bool) (ea : (meets : ℕ → ℕ → Bool) (owners : List ℕ) → a ≡ all_below n (stop_sound L form (visits_of meets owners numbers locations times n) (at legs))) where
      pub code_stops : a ≡ false → false ≡ graph_part drones n m counts locations times legs first_drones first_stops second_drones second_stops pairs L form drone_flags flags
      code_stops h = part_stops (sym (stops_say a ea) ∙ h)

      module _ (b : Bool) (eb : b ≡ records_test (at lasts)) (h : a ≡ true) where
        pub code_records : b ≡ false → false ≡ graph_part drones n m counts locations times legs first_drones first_stops second_drones second_stops pairs L form drone_flags flags
        code_records k = part_records (sym (stops_say a ea) ∙ h) (sym eb ∙ k)

        pub known : b ≡ true → Known
        known k = record { stops_fine = sym (stops_say a ea) ∙ h; both_sides = sides (sym eb ∙ k) }

    module _ (K : Known) where
      pub first_limit : (k : ℕ) → k < m → at first_drones k < L.drones
      first_limit k l = omega (arith, C.few_drones, first_drone K.stops_fine K.both_sides.firsts_in K.both_sides.seconds_in K.both_sides.flags_fine k l)

      pub second_limit : (k : ℕ) → k < m → at second_drones k < L.drones
      second_limit k l = omega (arith, C.few_drones, second_drone K.stops_fine K.both_sides.firsts_in K.both_sides.seconds_in K.both_sides.flags_fine k l)

      pub first_number : (k : ℕ) → k < m → at starts (at first_drones k) + at first_stops k < L.stops
      first_number k l = rw (T.starts_are (at first_drones k) (first_drone K.stops_fine K.both_sides.firsts_in K.both_sides.seconds_in K.both_sides.flags_fine k l)) (omega (arith, C.few_stops, first_flat K.stops_fine K.both_sides.firsts_in K.both_sides.seconds_in K.both_sides.flags_fine k l))

      pub second_number : (k : ℕ) → k < m → at starts (at second_drones k) + at second_stops k < L.stops
      second_number k l = rw (T.starts_are (at second_drones k) (second_drone K.stops_fine K.both_sides.firsts_in K.both_sides.seconds_in K.both_sides.flags_fine k l)) (omega (arith, C.few_stops, second_flat K.stops_fine K.both_sides.firsts_in K.both_sides.seconds_in K.both_sides.flags_fine k l))

      module _ (firsts seconds : List ℕ) (A : Through L starts first_drones first_stops m firsts) (B : Through L starts second_drones second_stops m seconds) where
        pub code_given : n ≤ length locations → n ≤ length times → ColumnRoom m first_drones first_stops second_drones second_stops flags → Given L owners locations times starts lasts firsts seconds flags drones n m
        code_given = given K.stops_fine K.both_sides.firsts_in K.both_sides.seconds_in K.both_sides.flags_fine owners numbers starts lasts firsts seconds T A B

        pub code_graph : (r : Bool) → ((numbers : List ℕ) → r ≡ graph_sound (visits_of meets owners numbers locations times n) (at starts) (at lasts) drones m (at firsts) (at seconds) (turned_in flags) x) → r ≡ graph_part drones n m counts locations times legs first_drones first_stops second_drones second_stops pairs L form drone_flags flags
        code_graph r e = part-graph r K.stops_fine K.both_sides (e numbers ∙ graph_same K.stops_fine K.both_sides.firsts_in K.both_sides.seconds_in K.both_sides.flags_fine owners numbers starts lasts firsts seconds T A B)

        -- where the code's test says true the table is right, and so are the waits
        pub code_laid : (r : Bool) → ((numbers : List ℕ) → r ≡ graph_sound (visits_of meets owners numbers locations times n) (at starts) (at lasts) drones m (at firsts) (at seconds) (turned_in flags) x) → r ≡ true → (from into : List ℕ) → KeptEdges L owners starts drone_flags firsts seconds flags m from into → GraphTables L counts (graph F s) owners starts lasts from into
        unfolding graph_sound
        code_laid r e h = laid K.stops_fine K.both_sides.firsts_in K.both_sides.seconds_in K.both_sides.flags_fine owners numbers starts lasts firsts seconds T A B (and_left _ _ (sym (e numbers) ∙ h))
