-- The steps of a walk: a drone moves, the waits for its stop are met one by one, and what holds before each step holds after it. Assumes nothing.
use mathlib.Core.Path.{◌≡◌, refl, sym, ap, ◌∙◌, subst}
use mathlib.Core.Logic.{◌≢◌}
use mathlib.Core.List.{List}
use mathlib.Core.Bool.{Bool, true, false}
use Prim.Native.Nat.{ℕ, suc, ◌+◌, ◌*◌, ◌-◌, ◌≤◌, ◌<◌, max}
use native.Mathlib.Nat.{mul-le-mul_left, mul-suc}
use native.Mathlib.Omega.{arith}
use lib.Dec.{ltb, leb, eqb}
use lib.ListN.{length, set, length-set}
use lib.Seq.{get_or-set_same, get_or-set_other}
use borrow.Author.Tests.{ltb-true, lt-ltb, leb-true, leb-false, eqb-true, eqb-false, eq-eqb}
use Rattle.below.specs.Below.{at, pick}
use Rattle.below.proofs.Tests.{by_cases, true_or_false, and_left, and_right, and_both}
use Rattle.below.proofs.Sum.{sum_less}
use Rattle.tables.specs.Limits.{Limits}
use Rattle.precedence.specs.Graph.{Plan, Formed, free, play, at_start}
use Rattle.precedence.proofs.Rounds.{round-free, round_le, free-unfinished, free_if, free_open}
use Rattle.precedence.proofs.Ahead.{round_ahead, fewer_refl}
use Rattle.cycles.specs.Flat.{PlacedWaits}
use Rattle.cycles.specs.Walk.{Course, course_plan, progress, left, WithinRounds, met_at, met_from, latest_met, can_move, Stacked, RoundTable, Places, Needs, Entries, Walking, Begun, Walked}
use Rattle.cycles.proofs.Placed.{formed}
use Rattle.cycles.proofs.StackLaws.{stacked-same, stacked_empty, stacked-at, stacked-room, stacked_push, stacked_pop}
use Rattle.cycles.proofs.MetLaws.{met_is, is_met, met_moved, met_keeps, needs-same, needs-none, needs-zero, needs_meet, latest_raised, latest_stays, latest-same, latest_all, latest-zero}

-- a free drone goes on by one stop
reached_move : (P : Plan) → Formed P → (p q : ℕ → ℕ) (d : ℕ) → WithinRounds P p → free P p d ≡ true → q d ≡ suc (p d) → ((c : ℕ) → c < P.drones → c ≢ d → q c ≡ p c) → WithinRounds P q
unfolding play
reached_move P formed p q d (k, a) f e o = (
  suc k,
  λ c l. by_cases (eqb c d)
      (λ s. let z : c ≡ d = eqb-true c d s in omega (arith, rw (← z) at e, rw (← z) at (round-free P p d f), round_ahead P P formed (fewer_refl P) p (play P at_start k) a c l))
      (λ s. omega (arith, o c l (eqb-false c d s), round_le P p c, round_ahead P P formed (fewer_refl P) p (play P at_start k) a c l)),
)

module _ (C : Course) (placed : PlacedWaits C.own C.off C.last C.drones C.stops C.from C.into C.waits) where
  open C use {own, off, last, drones, stops, from, into, waits}

  abbrev P-formed : Formed (course_plan C)
  P-formed = formed own off last drones stops from into waits placed

  -- ---- who can move

  module _ (cur need : ℕ → ℕ) (d : ℕ) where
    pub can_open : can_move off last cur need d ≡ true → cur d < off d + last d
    unfolding can_move
    can_open e = ltb-true _ _ (and_left _ _ e)

    pub can_zero : can_move off last cur need d ≡ true → need (cur d + 1) ≡ 0
    unfolding can_move
    can_zero e = eqb-true _ _ (and_right (ltb (cur d) (off d + last d)) _ e)

    pub can_if : cur d < off d + last d → need (cur d + 1) ≡ 0 → can_move off last cur need d ≡ true
    unfolding can_move
    can_if h z = and_both _ _ (lt-ltb _ _ h) (eq-eqb _ _ z)

    pub can_not : need (cur d + 1) ≢ 0 → can_move off last cur need d ≡ false
    unfolding can_move
    can_not h = by_cases (can_move off last cur need d) (λ e. absurd (h (can_zero e))) (λ e. e)

  -- the test asks only for the drone's place and for its next stop, if it has one
  pub can_same : (cur cur' need need' : ℕ → ℕ) (d : ℕ) → cur d ≡ cur' d → (cur d < off d + last d → need (cur d + 1) ≡ need' (cur d + 1)) → can_move off last cur need d ≡ can_move off last cur' need' d
  unfolding can_move
  can_same cur cur' need need' d e h = by_cases (ltb (cur d) (off d + last d))
      (λ t. rw (← e, t, h (ltb-true _ _ t)) refl)
      (λ t. rw (← e, t) refl)

  -- the next stop of a drone that is short of its last one
  module _ (cur : ℕ → ℕ) (low : (d : ℕ) → d < drones → off d ≤ cur d) (d : ℕ) (l : d < drones) (h : cur d < off d + last d) where
    next-at : off d + (cur d + 1 - off d) ≡ cur d + 1
    next-at = omega (arith, low d l)

    pub next_in : cur d + 1 < stops
    next_in = subst (λ (v : ℕ). v < stops) next-at (placed.shape.place_in d (cur d + 1 - off d) l (omega (arith, low d l)))

    pub next-own : own (cur d + 1) ≡ d
    next-own = subst (λ (v : ℕ). own v ≡ d) next-at (placed.shape.place_own d (cur d + 1 - off d) l (omega (arith, low d l)))

  -- where a drone stands
  pub here-own : (cur : ℕ → ℕ) (d : ℕ) → d < drones → off d ≤ cur d → cur d ≤ off d + last d → own (cur d) ≡ d
  here-own cur d l a b = let e : off d + (cur d - off d) ≡ cur d = omega arith in subst (λ (v : ℕ). own v ≡ d) e (placed.shape.place_own d (cur d - off d) l (omega arith))

  -- the test is that of the plan's rounds
  module _ {L : Limits} {start cur need : List ℕ} (S : Places L C start cur) (N : Needs L C (met_at own from (at cur)) need) (d : ℕ) (l : d < drones) where
    pub can_free : can_move off last (at cur) (at need) d ≡ true → free (course_plan C) (progress C cur) d ≡ true
    can_free e = free_if (course_plan C) (progress C cur) d (omega (arith, S.low d l, o)) (λ w h a b.
        let q : into w ≡ at cur d + 1 = omega (arith, b, ap off a, S.low d l, placed.into_later w h) in
        let i : own (from w) < drones = placed.shape.own_in (from w) (placed.from_in w h) in
        omega (arith, is_met C (at cur) w (needs-none C N (at cur d + 1) (next_in (at cur) S.low d l o) (can_zero (at cur) (at need) d e) w h q)))
      where
        o : at cur d < off d + last d
        o = can_open (at cur) (at need) d e

    pub free_can : free (course_plan C) (progress C cur) d ≡ true → can_move off last (at cur) (at need) d ≡ true
    free_can f = can_if (at cur) (at need) d o (needs-zero C N (at cur d + 1) (next_in (at cur) S.low d l o) (λ k h q.
        let a : own (into k) ≡ d = ap own q ∙ next-own (at cur) S.low d l o in
        let i : own (from k) < drones = placed.shape.own_in (from k) (placed.from_in k h) in
        met_is C (at cur) k (omega (arith, S.low (own (from k)) i, free_open (course_plan C) (progress C cur) d f k h a (omega (arith, q, ap off a, S.low d l))))))
      where
        o : at cur d < off d + last d
        o = omega (arith, S.low d l, free-unfinished (course_plan C) (progress C cur) d f)

  -- ---- a drone moves

  module _ {L : Limits} {leg : ℕ → ℕ} {g b : ℕ} (legs : (v : ℕ) → v < stops → leg v ≤ g) (few : stops ≤ L.stops) (few_drones : drones ≤ L.drones) {start cur need stack t : List ℕ} {top : ℕ} (W : Walking L C leg g b start (met_at own from (at cur)) cur need stack top t)
      (room : 0 < top) (d x y : ℕ) (ed : d ≡ at stack (top - 1)) (ex : x ≡ at cur d + 1) where
    S : Places L C start cur
    S = W.places

    pub mover_in : d < drones
    mover_in = omega (arith, W.stacked.within (top - 1) (omega arith))

    pub mover_can : can_move off last (at cur) (at need) d ≡ true
    mover_can = rw ed (stacked-at drones W.stacked (top - 1) (omega arith))

    pub mover_open : at cur d < off d + last d
    mover_open = can_open (at cur) (at need) d mover_can

    pub mover_next : x < stops
    mover_next = rw ex (next_in (at cur) S.low d mover_in mover_open)

    pub own-next : own x ≡ d
    own-next = rw ex (next-own (at cur) S.low d mover_in mover_open)

    pub here : at (set cur d x) d ≡ x
    here = get_or-set_same cur d x 0 (omega (arith, S.size, mover_in))

    elsewhere : (c : ℕ) → c ≢ d → at (set cur d x) c ≡ at cur c
    elsewhere c ne = get_or-set_other cur d c x 0 ne

    each : (K : ℕ → ℕ → Type 0) → K d x → ((c : ℕ) → K c (at cur c)) → (c : ℕ) → K c (at (set cur d x) c)
    each K p q c = by_cases (eqb c d)
        (λ s. let z : c ≡ d = eqb-true c d s in subst (λ (y : ℕ). K y (at (set cur d x) y)) (sym z) (rw here p))
        (λ s. rw (elsewhere c (eqb-false c d s)) (q c))

    pub places_move : Places L C start (set cur d x)
    places_move = record {
      size = length-set cur d x ∙ S.size;
      low = λ c k. each (λ c y. c < drones → off c ≤ y) (λ q. omega (arith, S.low d q)) (λ c q. S.low c q) c k;
      high = λ c k. each (λ c y. c < drones → y ≤ off c + last c) (λ q. omega (arith, mover_open)) (λ c q. S.high c q) c k;
      onward = λ c k. each (λ c y. c < drones → at start c ≤ y) (λ q. omega (arith, S.onward d q)) (λ c q. S.onward c q) c k;
      reached = λ r. reached_move (course_plan C) P-formed (progress C cur) (progress C (set cur d x)) d (S.reached r) (can_free S W.needs d mover_in mover_can) (omega (arith, here, S.low d mover_in)) (λ c k ne. omega (arith, elsewhere c ne));
    }

    pub left_falls : left C (at (set cur d x)) < left C (at cur)
    left_falls = sum_less drones (λ c. off c + last c - at (set cur d x) c) (λ c. off c + last c - at cur c) (λ c k. each (λ c y. off c + last c - y ≤ off c + last c - at cur c) (omega arith) (λ c. omega arith) c) d mover_in (omega (arith, here, mover_open))

    met-after : (k : ℕ) → k < waits → met_at own from (at cur) k ≡ met_from C (at (set cur d x)) x waits k
    met-after = met_moved C (at cur) (at (set cur d x)) d x own-next ex here elsewhere

    stacked_move : (r : ℕ) → r ≡ pick (can_move off last (at (set cur d x)) (at need) d) top (top - 1) → Stacked L drones (can_move off last (at (set cur d x)) (at need)) stack r
    stacked_move r er = by_cases (can_move off last (at (set cur d x)) (at need) d)
        (λ e. let z : r ≡ top = rw e at er in
        rw z (stacked-same drones _ _ (λ c k. by_cases (eqb c d) (λ s. rw (eqb-true c d s) (mover_can ∙ sym e)) (λ s. same c (eqb-false c d s))) W.stacked))
        (λ e. let z : r ≡ top - 1 = rw e at er in
        rw z (stacked_pop drones W.stacked (can_move off last (at (set cur d x)) (at need)) room (rw (← ed) e) (λ c k ne. same c (λ q. ne (q ∙ ed)))))
      where
        same : (c : ℕ) → c ≢ d → can_move off last (at cur) (at need) c ≡ can_move off last (at (set cur d x)) (at need) c
        same c ne = can_same (at cur) (at (set cur d x)) (at need) (at need) c (sym (elsewhere c ne)) (λ h. refl)

    -- every wait into the stop is met
    all_met : (k : ℕ) → k < waits → into k ≡ x → met_at own from (at cur) k ≡ true
    all_met = needs-none C W.needs x mover_next (rw ex (can_zero (at cur) (at need) d mover_can))

    -- a stop that is visited now is this one, or was visited
    was_visited : (v : ℕ) → v ≢ x → v ≤ at (set cur d x) (own v) → v ≤ at cur (own v)
    was_visited v ne = each (λ c y. v ≤ y → v ≤ at cur c) (λ h. omega arith) (λ c h. h) (own v)

    E : Entries L C leg g b start (met_at own from (at cur)) cur t
    E = W.entries

    reserve : g * left C (at (set cur d x)) + g ≤ g * left C (at cur)
    reserve = omega (arith, mul-suc g (left C (at (set cur d x))), mul-le-mul_left g left_falls)

    module _ (ey : y ≡ leg x + max (at t x) (at t (x - 1))) where
      small_y : y + g * left C (at (set cur d x)) ≤ b
      small_y = omega (arith, ey, legs x mover_next, E.small x, E.small (x - 1), reserve)

      stored : (K : ℕ → ℕ → Type 0) → K x y → (v : ℕ) → (v ≢ x → K v (at t v)) → K v (at (set t x y) v)
      stored K new v old = by_cases (eqb v x)
          (λ e. let q : v ≡ x = eqb-true v x e in subst (λ (j : ℕ). K j (at (set t x y) j)) (sym q) (rw (get_or-set_same t x y 0 (omega (arith, E.size, mover_next))) new))
          (λ e. rw (get_or-set_other t x v y 0 (eqb-false v x e)) (old (eqb-false v x e)))

      right-here : (T : ℕ → ℕ) → RoundTable C leg (at start) T → y ≡ T x
      right-here T R = omega (
        arith,
        ey,
        R.at_unvisited x mover_next (rw own-next (omega (arith, S.onward d mover_in))),
        E.awaiting T R x mover_next (rw own-next (omega arith)),
        latest_all C (met_at own from (at cur)) T x all_met,
        E.visited T R (x - 1) (omega (arith, mover_next)) (let q : x - 1 ≡ at cur d = omega arith in rw (q, here-own (at cur) d mover_in (S.low d mover_in) (S.high d mover_in)) (omega arith)),
      )

      entries_move : Entries L C leg g b start (met_at own from (at cur)) (set cur d x) (set t x y)
      entries_move = record {
        size = length-set t x y ∙ E.size;
        past = λ v h. stored (λ v z. stops ≤ v → z ≡ 0) (λ h. absurd (omega (arith, mover_next))) v (λ ne h. E.past v h) h;
        small = λ v. stored (λ v z. z + g * left C (at (set cur d x)) ≤ b) small_y v (λ ne. omega (arith, E.small v, reserve));
        kept = λ k h i. by_cases (eqb (into k) x) (λ e. all_met k h (eqb-true _ _ e)) (λ e. E.kept k h (was_visited (into k) (eqb-false _ _ e) i));
        visited = λ T R v h i. stored (λ v z. v < stops → v ≤ at (set cur d x) (own v) → z ≡ T v) (λ h i. right-here T R) v (λ ne h i. E.visited T R v h (was_visited v ne i)) h i;
        awaiting = λ T R v h i. stored (λ v z. v < stops → at (set cur d x) (own v) < v → z ≡ latest_met C (met_at own from (at cur)) T v)
            (λ h i. absurd (let q : at (set cur d x) (own x) ≡ x = rw own-next here in omega arith)) v
            (λ ne h i. E.awaiting T R v h (each (λ c y. y < v → at cur c < v) (λ j. omega arith) (λ c j. j) (own v) i)) h i;
      }

      entries-after : Entries L C leg g b start (met_from C (at (set cur d x)) x waits) (set cur d x) (set t x y)
      entries-after = let M : Entries L C leg g b start (met_at own from (at cur)) (set cur d x) (set t x y) = entries_move in
          record { size = M.size; past = M.past; small = M.small; kept = λ k h i. sym (met-after k h) ∙ M.kept k h i; visited = M.visited; awaiting = λ T R v h i. M.awaiting T R v h i ∙ latest-same C _ _ T v met-after }

      pub walking_move : (r : ℕ) → r ≡ pick (can_move off last (at (set cur d x)) (at need) d) top (top - 1) → Walking L C leg g b start (met_from C (at (set cur d x)) x waits) (set cur d x) need stack r (set t x y)
      walking_move r er = record { places = places_move; needs = needs-same C _ _ met-after W.needs; stacked = stacked_move r er; entries = entries-after }

  -- ---- the same waits are met

  pub walking-same : {L : Limits} {leg : ℕ → ℕ} {g b : ℕ} {start cur need stack t : List ℕ} {top : ℕ} (met met' : ℕ → Bool) → ((k : ℕ) → k < waits → met k ≡ met' k) → Walking L C leg g b start met cur need stack top t → Walking L C leg g b start met' cur need stack top t
  walking-same met met' same W = record {
    places = W.places;
    needs = needs-same C met met' same W.needs;
    stacked = W.stacked;
    entries = let E = W.entries in record { size = E.size; past = E.past; small = E.small; kept = λ k h i. sym (same k h) ∙ E.kept k h i; visited = E.visited; awaiting = λ T R v h i. E.awaiting T R v h i ∙ latest-same C met met' T v same };
  }

  -- ---- wait j is met, which is for the visited stop v

  module _ {L : Limits} {leg : ℕ → ℕ} {g b : ℕ} (few : stops ≤ L.stops) (few_drones : drones ≤ L.drones) (met met' : ℕ → Bool) (j : ℕ) (l : j < waits) (was : met j ≡ false) (now : met' j ≡ true) (others : (k : ℕ) → k < waits → k ≢ j → met k ≡ met' k)
      {start cur need stack t : List ℕ} {top : ℕ} (W : Walking L C leg g b start met cur need stack top t) (w x y z : ℕ) (ew : w ≡ into j) (ex : x + 1 ≡ at need w) (ez : z ≡ at t (from j)) (ey : y ≡ max (at t w) z) (seen : from j ≤ at cur (own (from j))) where
    F : Entries L C leg g b start met cur t
    F = W.entries

    waiter_in : w < stops
    waiter_in = rw ew (placed.into_in j l)

    -- the stop into which it is is not visited
    waiter_open : at cur (own w) < w
    waiter_open = by_cases (leb w (at cur (own w)))
        (λ e. true_or_false (F.kept j l (rw ew at (leb-true w (at cur (own w)) e))) was)
        (λ e. leb-false w (at cur (own w)) e)

    put_in : (K : ℕ → ℕ → Type 0) → K w y → (v : ℕ) → (v ≢ w → K v (at t v)) → K v (at (set t w y) v)
    put_in K new v old = by_cases (eqb v w)
        (λ e. let q : v ≡ w = eqb-true v w e in subst (λ (j : ℕ). K j (at (set t w y) j)) (sym q) (rw (get_or-set_same t w y 0 (omega (arith, F.size, waiter_in))) new))
        (λ e. rw (get_or-set_other t w v y 0 (eqb-false v w e)) (old (eqb-false v w e)))

    entries_meet : Entries L C leg g b start met' cur (set t w y)
    entries_meet = record {
      size = length-set t w y ∙ F.size;
      past = λ v h. put_in (λ v u. stops ≤ v → u ≡ 0) (λ h. absurd (omega (arith, waiter_in))) v (λ ne h. F.past v h) h;
      small = λ v. put_in (λ v u. u + g * left C (at cur) ≤ b) (omega (arith, F.small w, F.small (from j))) v (λ ne. F.small v);
      kept = λ k h i. met_keeps C met met' j l was now others k h (F.kept k h i);
      visited = λ T R v h i. put_in (λ v u. v < stops → v ≤ at cur (own v) → u ≡ T v) (λ h i. absurd (omega (arith, waiter_open))) v (λ ne h i. F.visited T R v h i) h i;
      awaiting = λ T R v h i. put_in (λ v u. v < stops → at cur (own v) < v → u ≡ latest_met C met' T v)
          (λ h i. let e : latest_met C met' T w ≡ max (latest_met C met T w) (T (from j)) = rw (← ew) at (latest_raised C met met' j l was now others T) in
          omega (arith, e, F.awaiting T R w h i, F.visited T R (from j) (placed.from_in j l) seen)) v
          (λ ne h i. F.awaiting T R v h i ∙ latest_stays C met met' j l was now others T v (λ q. ne (q ∙ sym ew))) h i;
    }

    needs-after : Needs L C met' (set need w x)
    needs-after = needs_meet C met met' j l was now others W.needs w x ew waiter_in few ex

    need_here : at (set need w x) w ≡ x
    need_here = get_or-set_same need w x 0 (omega (arith, W.needs.size, waiter_in))

    waiter_drone : own w < drones
    waiter_drone = placed.shape.own_in w waiter_in

    -- who is not at the stop before it is not concerned
    can_others : (c : ℕ) → c < drones → (c ≡ own w → at cur c + 1 ≢ w) → can_move off last (at cur) (at need) c ≡ can_move off last (at cur) (at (set need w x)) c
    can_others c k ne = can_same (at cur) (at cur) (at need) (at (set need w x)) c refl (λ h. sym (get_or-set_other need w (at cur c + 1) x 0 (λ q. ne (sym (next-own (at cur) W.places.low c k h) ∙ ap own q) q)))

    -- nobody can move that could not
    pub walking_quiet : (at cur (own w) + 1 ≡ w → x ≢ 0) → Walking L C leg g b start met' cur (set need w x) stack top (set t w y)
    walking_quiet still = record { places = W.places; needs = needs-after; stacked = stacked-same drones _ _ same W.stacked; entries = entries_meet }
      where
        same : (c : ℕ) → c < drones → can_move off last (at cur) (at need) c ≡ can_move off last (at cur) (at (set need w x)) c
        same c k = by_cases (eqb (at cur c + 1) w)
            (λ s. by_cases (eqb c (own w))
            (λ o. let q : at cur c + 1 ≡ w = eqb-true _ _ s in
            let no : x ≢ 0 = still (rw (← eqb-true c (own w) o) q) in
            can_not (at cur) (at need) c (rw q (λ u. omega arith)) ∙ sym (can_not (at cur) (at (set need w x)) c (rw (q, need_here) no)))
            (λ o. can_others c k (λ e. absurd (eqb-false c (own w) o e))))
            (λ s. can_others c k (λ e. eqb-false _ _ s))

    -- its drone can move
    pub walking_wake : at cur (own w) + 1 ≡ w → x ≡ 0 → (top < L.drones) × Walking L C leg g b start met' cur (set need w x) (set stack top (own w)) (top + 1) (set t w y)
    walking_wake e z = (
      omega (arith, stacked-room drones W.stacked (own w) waiter_drone could_not),
      record { places = W.places; needs = needs-after; stacked = stacked_push drones W.stacked _ (own w) few_drones waiter_drone could_not can (λ c k ne. can_others c k (λ q. absurd (ne q))); entries = entries_meet },
    )
      where
        could_not : can_move off last (at cur) (at need) (own w) ≡ false
        could_not = can_not (at cur) (at need) (own w) (rw e (λ u. omega arith))

        can : can_move off last (at cur) (at (set need w x)) (own w) ≡ true
        can = can_if (at cur) (at (set need w x)) (own w) (omega (arith, placed.shape.number_in_lem w waiter_in)) (rw (e, need_here) z)

  -- ---- the start and the end

  pub walking_start : {L : Limits} {leg : ℕ → ℕ} {g b : ℕ} {start need stack t : List ℕ} {top : ℕ} → Begun L C start → Needs L C (met_at own from (at start)) need → Stacked L drones (can_move off last (at start) (at need)) stack top → length t ≡ L.stops → ((v : ℕ) → at t v ≡ 0) → g * left C (at start) ≤ b
      → Walking L C leg g b start (met_at own from (at start)) start need stack top t
  walking_start {start = start} B N K size zeros h = record {
    places = record { size = B.size; low = B.low; high = B.high; onward = λ d l. omega arith; reached = λ r. r };
    needs = N;
    stacked = K;
    entries = record {
      size = size;
      past = λ v i. zeros v;
      small = λ v. omega (arith, zeros v);
      kept = B.kept;
      visited = λ T R v l i. zeros v ∙ sym (R.at_visited v l i);
      awaiting = λ T R v l i. zeros v ∙ sym (latest-zero C (met_at own from (at start)) T v (λ k j e. R.at_visited (from k) (placed.from_in k j) (is_met C (at start) k e)));
    };
  }

  pub walking_end : {L : Limits} {leg : ℕ → ℕ} {g b : ℕ} {start cur need stack t : List ℕ} {top : ℕ} → top ≤ 0 → Walking L C leg g b start (met_at own from (at cur)) cur need stack top t → Walked L C leg b start cur t
  walking_end {cur = cur} h W = record {
    places = W.places;
    none_free = λ d l. by_cases (free (course_plan C) (progress C cur) d) (λ e. true_or_false (free_can W.places W.needs d l e) (stacked_empty drones W.stacked h d l)) (λ e. e);
    size = W.entries.size;
    past = W.entries.past;
    small = λ v. omega (arith, W.entries.small v);
    visited = W.entries.visited;
  }
