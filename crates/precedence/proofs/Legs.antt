-- Rounds with legs: after k of them the visited stops are those whose entry in the table of rounds is at most k, whatever the legs; so `reached` is that table,
-- remaining rounds are longest chains, and rounds finish within the sum of the legs. With legs of one they are the rounds as played. Assumes nothing.
use mathlib.Core.Path.{◌≡◌, refl, ap, ◌∙◌}
use mathlib.Core.Logic.{◌↔◌}
use mathlib.Core.Bool.{true, false, ◌&&◌}
use Prim.Native.Nat.{ℕ, zero, suc, ◌+◌, ◌*◌, ◌-◌, ◌≤◌, ◌<◌}
use native.Mathlib.Nat.{mul-add, mul-suc}
use native.Mathlib.Omega.{arith}
use lib.Dec.{ltb, leb}
use borrow.Author.Tests.{ltb-true, ltb-false, leb-true, leb-false, lt-ltb, le-ltb, lt-leb, le-leb}
use Rattle.below.proofs.Greatest.{max-at, max_least}
use Rattle.below.proofs.Search.{first_below_first}
use Rattle.below.proofs.Sum.{sum_bound, sum_ext, sum_less}
use Rattle.below.proofs.Tests.{by_cases, true_or_false}
use Rattle.below.specs.Below.{pick, first_below, First, max_below, sum_below}
use Rattle.precedence.proofs.Rounds.{blocked, free-unfinished, finished-at, finished_if, dep-at}
use Rattle.precedence.proofs.Table.{latest_ge, latest-edge, arrival, arrival_table, table_same, chain, chain_le, entry_bound}
use Rattle.precedence.proofs.Visits.{left, open_edge}
use Rattle.precedence.specs.Graph.{Plan, Headway, Formed, free, round, play, finished, unvisited, latest, own, Cycle, Table, Longest}
use Rattle.precedence.specs.Graph.{legs_ahead, legs_left, to_fly, fills, fly_round, fly, visited_after, reached, remaining, cost, makespan, NoEmptyLeg, one_round}

module _ (P : Plan) (leg : ℕ → ℕ → ℕ) where
  open P use {drones, last, count, wait}

  -- ---- what a round changes

  module _ (h : Headway) (d : ℕ) where
    pub fly_waits : free P h.place d ≡ false → ((fly_round P leg h).place d ≡ h.place d) × ((fly_round P leg h).flown d ≡ h.flown d)
    unfolding fly_round
    fly_waits e = (rw e, rw e)

    fly-on : free P h.place d ≡ true → fills P leg h d ≡ false → ((fly_round P leg h).place d ≡ h.place d) × ((fly_round P leg h).flown d ≡ suc (h.flown d))
    unfolding fly_round
    fly-on e f = (rw (e, f), rw (e, f))

    fly_lands : free P h.place d ≡ true → fills P leg h d ≡ true → ((fly_round P leg h).place d ≡ suc (h.place d)) × ((fly_round P leg h).flown d ≡ 0)
    unfolding fly_round
    fly_lands e f = (rw (e, f), rw (e, f))

    -- .. by the numbers that code compares
    pub flies-on : free P h.place d ≡ true → suc (h.flown d) < leg d (suc (h.place d)) → ((fly_round P leg h).place d ≡ h.place d) × ((fly_round P leg h).flown d ≡ suc (h.flown d))
    unfolding fills
    flies-on e o = fly-on e (lt-leb _ _ o)

    pub flies_home : free P h.place d ≡ true → leg d (suc (h.place d)) ≤ suc (h.flown d) → ((fly_round P leg h).place d ≡ suc (h.place d)) × ((fly_round P leg h).flown d ≡ 0)
    unfolding fills
    flies_home e o = fly_lands e (le-leb _ _ o)

    full : fills P leg h d ≡ true → leg d (suc (h.place d)) ≤ suc (h.flown d)
    unfolding fills
    full e = leb-true _ _ e

    not_full : fills P leg h d ≡ false → suc (h.flown d) < leg d (suc (h.place d))
    unfolding fills
    not_full e = leb-false _ _ e

  -- ---- the visited stops after k rounds, by a table of rounds

  module _ (p : ℕ → ℕ) (some : NoEmptyLeg P leg p) {t : ℕ → ℕ → ℕ} (table : Table P leg p t) where
    -- entries rise along a drone's own unvisited stops
    rise : (d a b : ℕ) → d < drones → p d < a → a ≤ b → b ≤ last d → t d a ≤ t d b
    rise d a zero l o h m = absurd (omega arith)
    rise d a (suc b) l o h m = by_cases (leb a b)
        (λ e. omega (arith, rise d a b l o (leb-true _ _ e) (omega arith), latest_ge P t (own d b l m), table.at_unvisited d (suc b) l m (omega (arith, leb-true a b e))))
        (λ e. let q : a ≡ suc b = omega (arith, leb-false a b e) in rw q (omega arith))

    -- drone d has visited its stop x and flown y rounds towards the next, after k rounds
    record Flying (d x y k : ℕ) : Type 0 where
      onward : p d ≤ x
      arrived : (s : ℕ) → s ≤ last d → s ≤ x → t d s ≤ k
      ahead : x < last d → k < t d (suc x)
      counted : x < last d → y ≡ k - latest P t d (suc x)

    entry : {x : ℕ} (d : ℕ) → d < drones → p d ≤ x → x < last d → t d (suc x) ≡ leg d (suc x) + latest P t d (suc x)
    entry {x} d l o h = table.at_unvisited d (suc x) l (omega arith) (omega arith)

    flying-start : (d : ℕ) → d < drones → Flying d (p d) 0 0
    flying-start d l = record {
      onward = omega arith;
      arrived = λ s h v. omega (arith, table.at_visited d s l h v);
      ahead = λ h. omega (arith, entry d l (let o : p d ≤ p d = omega arith in o) h, some d (suc (p d)) l (omega arith) (omega arith));
      counted = λ h. omega arith;
    }

    module _ (h : Headway) (k : ℕ) (flying : (d : ℕ) → d < drones → Flying d (h.place d) (h.flown d) k) (formed : Formed P) (d : ℕ) (l : d < drones) where
      x : ℕ
      x = h.place d

      here : Flying d x (h.flown d) k
      unfolding x
      here = flying d l

      -- a drone that waits has an entry of what it awaits to come
      waiting : free P h.place d ≡ false → x < last d → k < latest P t d (suc x)
      unfolding x
      waiting e o =
          let (w, i, b) = blocked P h.place d o e in
          let in-plan : (wait w).awaited < drones = (formed w i).awaited_in in
          let stop_in : (wait w).until ≤ last (wait w).awaited = (formed w i).until_in in
          let a : Flying (wait w).awaited (h.place (wait w).awaited) (h.flown (wait w).awaited) k = flying (wait w).awaited in-plan in
          let open-still : h.place (wait w).awaited < (wait w).until = b.is_open in
          omega (
            arith,
            a.ahead (omega arith),
            rise (wait w).awaited (suc (h.place (wait w).awaited)) (wait w).until in-plan (omega (arith, a.onward)) (omega arith) stop_in,
            latest_ge P t (dep-at P w i b.is_waiter b.is_next),
          )

      stays : free P h.place d ≡ false → Flying d x (h.flown d) (suc k)
      stays e = record {
        onward = here.onward;
        arrived = λ s m v. omega (arith, here.arrived s m v);
        ahead = λ o. omega (arith, waiting e o, entry d l here.onward o, some d (suc x) l (omega (arith, here.onward)) (omega arith));
        counted = λ o. omega (arith, waiting e o, here.counted o);
      }

      -- a drone that flies has all that it awaits behind it
      met : free P h.place d ≡ true → latest P t d (suc x) ≤ k
      unfolding x
      met e =
          let (u, a, q) = latest-edge P t d (suc (h.place d)) l (omega arith) (free-unfinished P h.place d e) in
          let (c, b) = left P formed a in
          omega (arith, (flying u.drone c).arrived u.stop b (open_edge P h.place a e refl))

      flies : free P h.place d ≡ true → suc (h.flown d) < leg d (suc x) → Flying d x (suc (h.flown d)) (suc k)
      unfolding x
      flies e f =
          let o : h.place d < last d = free-unfinished P h.place d e in record {
            onward = here.onward;
            arrived = λ s m v. omega (arith, here.arrived s m v);
            ahead = λ _. omega (arith, here.counted o, met e, entry d l here.onward o);
            counted = λ _. omega (arith, here.counted o, met e);
          }

      lands : free P h.place d ≡ true → leg d (suc x) ≤ suc (h.flown d) → Flying d (suc x) 0 (suc k)
      unfolding x
      lands e f =
          let o : h.place d < last d = free-unfinished P h.place d e in
          let v : t d (suc (h.place d)) ≡ suc k = omega (arith, here.counted o, met e, entry d l here.onward o, here.ahead o) in
          record {
            onward = omega (arith, here.onward);
            arrived = λ s m i. by_cases (leb s (h.place d))
                (λ b. omega (arith, here.arrived s m (leb-true _ _ b)))
                (λ b. let q : s ≡ suc (h.place d) = omega (arith, leb-false s (h.place d) b) in rw q (omega arith));
            ahead = λ i. omega (arith, entry d l (let w : p d ≤ suc (h.place d) = omega (arith, here.onward) in w) i, latest_ge P t (own d (suc (h.place d)) l i), some d (suc (suc (h.place d))) l (omega (arith, here.onward)) i);
            counted = λ i. omega (arith, latest_ge P t (own d (suc (h.place d)) l i));
          }

      flying-round : Flying d ((fly_round P leg h).place d) ((fly_round P leg h).flown d) (suc k)
      unfolding x
      flying-round = by_cases (free P h.place d)
          (λ e. by_cases (fills P leg h d)
          (λ f. rw ((fly_lands h d e f).0, (fly_lands h d e f).1) (lands e (full h d f)))
          (λ f. rw ((fly-on h d e f).0, (fly-on h d e f).1) (flies e (not_full h d f))))
          (λ e. rw ((fly_waits h d e).0, (fly_waits h d e).1) (stays e))

    module _ (formed : Formed P) where
      flying_all : (k d : ℕ) → d < drones → Flying d ((fly P leg p k).place d) ((fly P leg p k).flown d) k
      unfolding fly
      flying_all zero d l = flying-start d l
      flying_all (suc k) d l = flying-round (fly P leg p k) k (flying_all k) formed d l

      -- a stop is visited after k rounds exactly if its entry is at most k
      pub visited_iff : (d s k : ℕ) → d < drones → s ≤ last d → (s ≤ visited_after P leg p k d) ↔ (t d s ≤ k)
      visited_iff d s k l h = (λ v. (flying_all k d l).arrived s h v, back)
        where
          back : t d s ≤ k → s ≤ visited_after P leg p k d
          back e = by_cases (leb s (visited_after P leg p k d))
              (λ b. leb-true _ _ b)
              (λ b. let o : visited_after P leg p k d < s = leb-false _ _ b in
              absurd (omega (arith, (flying_all k d l).ahead (omega arith), rise d (suc (visited_after P leg p k d)) s l (omega (arith, (flying_all k d l).onward)) (omega arith) h)))

  -- ---- the legs ahead

  none_above : (f : ℕ → ℕ) (x n : ℕ) → n ≤ suc x → sum_below n (λ s. pick (ltb x s) (f s) 0) ≡ 0
  unfolding sum_below
  none_above f x zero h = refl
  none_above f x (suc n) h = rw (le-ltb x n (omega arith)) (omega (arith, none_above f x n (omega arith)))

  module _ (f : ℕ → ℕ) (x : ℕ) where
    next_above : (n : ℕ) → suc x < n → sum_below n (λ s. pick (ltb x s) (f s) 0) ≡ f (suc x) + sum_below n (λ s. pick (ltb (suc x) s) (f s) 0)
    unfolding sum_below
    next_above zero h = absurd (omega arith)
    next_above (suc n) h = by_cases (ltb (suc x) n)
        (λ e. let o : suc x < n = ltb-true _ _ e in rw (e, lt-ltb x n (omega arith)) (omega (arith, next_above n o)))
        (λ e. let q : n ≡ suc x = omega (arith, ltb-false (suc x) n e) in rw (q, lt-ltb x (suc x) (omega arith), le-ltb (suc x) (suc x) (omega arith)) (omega (arith, none_above f x (suc x) (omega arith), none_above f (suc x) (suc x) (omega arith))))

  ahead_next : (d x : ℕ) → x < last d → legs_ahead P leg d x ≡ leg d (suc x) + legs_ahead P leg d (suc x)
  ahead_next d x h = next_above (leg d) x (suc (last d)) (omega arith)

  -- a round in which somebody flies leaves less to fly: the measure of a loop that plays rounds
  pub to_fly_falls : (h : Headway) → ((d : ℕ) → d < drones → h.place d < last d → h.flown d < leg d (suc (h.place d))) → (e : ℕ) → e < drones → free P h.place e ≡ true → to_fly P leg (fly_round P leg h) < to_fly P leg h
  unfolding to_fly
  to_fly_falls h short e l f = sum_less drones _ _ each e l (less e l f)
    where
      less : (d : ℕ) → d < drones → free P h.place d ≡ true → legs_ahead P leg d ((fly_round P leg h).place d) - (fly_round P leg h).flown d < legs_ahead P leg d (h.place d) - h.flown d
      less d l f =
          let o : h.place d < last d = free-unfinished P h.place d f in
          by_cases (fills P leg h d)
          (λ g. rw ((fly_lands h d f g).0, (fly_lands h d f g).1) (omega (arith, ahead_next d (h.place d) o, short d l o)))
          (λ g. rw ((fly-on h d f g).0, (fly-on h d f g).1) (omega (arith, ahead_next d (h.place d) o, short d l o)))

      each : (d : ℕ) → d < drones → legs_ahead P leg d ((fly_round P leg h).place d) - (fly_round P leg h).flown d ≤ legs_ahead P leg d (h.place d) - h.flown d
      each d l = by_cases (free P h.place d)
          (λ f. omega (arith, less d l f))
          (λ f. rw ((fly_waits h d f).0, (fly_waits h d f).1) (omega arith))

  -- legs of at most g rounds are at most g for each unvisited stop
  module _ (g : ℕ) (p : ℕ → ℕ) (short : (d s : ℕ) → d < drones → 0 < s → s ≤ last d → leg d s ≤ g) where
    drone_bound : (d : ℕ) → d < drones → (n : ℕ) → n ≤ suc (last d) → sum_below n (λ s. pick (ltb (p d) s) (leg d s) 0) ≤ g * (n - suc (p d))
    unfolding sum_below
    drone_bound d l zero h = omega arith
    drone_bound d l (suc n) h = by_cases (ltb (p d) n)
        (λ e. let o : p d < n = ltb-true _ _ e in
        let q : suc n - suc (p d) ≡ suc (n - suc (p d)) = omega arith in
        rw (e, q, mul-suc g (n - suc (p d))) (omega (arith, drone_bound d l n (omega arith), short d n l (omega arith) (omega arith))))
        (λ e. let q : suc n - suc (p d) ≡ n - suc (p d) = omega (arith, ltb-false (p d) n e) in rw (e, q) (omega (arith, drone_bound d l n (omega arith))))

    drones-bound : (n : ℕ) → n ≤ drones → sum_below n (λ d. legs_ahead P leg d (p d)) ≤ g * sum_below n (λ d. last d - p d)
    unfolding sum_below
    drones-bound zero h = omega arith
    drones-bound (suc n) h =
        let q : suc (last n) - suc (p n) ≡ last n - p n = omega arith in
        rw (mul-add g (sum_below n (λ d. last d - p d)) (last n - p n)) (omega (arith, drones-bound n (omega arith), rw q at (drone_bound n (omega arith) (suc (last n)) (omega arith))))

    pub legs_bound : legs_left P leg p ≤ g * unvisited P p
    unfolding legs_left unvisited
    legs_bound = drones-bound drones (omega arith)

  -- ---- the rounds of stops are their entries

  module _ (formed : Formed P) (acyclic : Cycle P → ⊥) (p : ℕ → ℕ) (some : NoEmptyLeg P leg p) where
    abbrev A : ℕ → ℕ → ℕ
    A = arrival P leg p

    made : Table P leg p A
    made = arrival_table P leg p formed acyclic

    arrived_iff : (d s k : ℕ) → d < drones → s ≤ last d → (s ≤ visited_after P leg p k d) ↔ (A d s ≤ k)
    arrived_iff = visited_iff p some made formed

    reached_is : (d s : ℕ) → d < drones → s ≤ last d → reached P leg p d s ≡ A d s
    unfolding reached
    reached_is d s l h = by_cases (ltb r (A d s))
        (λ e. absurd (omega (arith, ltb-true r (A d s) e, (arrived_iff d s r l h).0 (leb-true s (visited_after P leg p r d) (first.found (omega (arith, ltb-true r (A d s) e, bound)))))))
        (λ e. by_cases (ltb (A d s) r)
        (λ f. absurd (omega (arith, leb-false s (visited_after P leg p (A d s) d) (first.skipped (A d s) (ltb-true _ _ f)), (arrived_iff d s (A d s) l h).1 (omega arith))))
        (λ f. omega (arith, ltb-false r (A d s) e, ltb-false (A d s) r f)))
      where
        r : ℕ
        r = first_below (legs_left P leg p) (λ k. leb s (visited_after P leg p k d))

        first : First (legs_left P leg p) (λ k. leb s (visited_after P leg p k d)) r
        first = first_below_first (legs_left P leg p) (λ k. leb s (visited_after P leg p k d))

        bound : A d s ≤ legs_left P leg p
        bound = entry_bound P leg p formed acyclic made d s l h

    pub reached-table : Table P leg p (reached P leg p)
    reached-table = table_same P leg p formed acyclic made reached_is

    pub reached_iff : (d s k : ℕ) → d < drones → s ≤ last d → (s ≤ visited_after P leg p k d) ↔ (reached P leg p d s ≤ k)
    reached_iff = visited_iff p some reached-table formed

    -- a drone on its way has not flown its whole leg
    pub flown_short : (k d : ℕ) → d < drones → visited_after P leg p k d < last d → (fly P leg p k).flown d < leg d (suc (visited_after P leg p k d))
    flown_short k d l o =
        let f : Flying p some made d ((fly P leg p k).place d) ((fly P leg p k).flown d) k = flying_all p some made formed k d l in
        omega (arith, f.counted o, f.ahead o, entry p some made d l f.onward o, some d (suc (visited_after P leg p k d)) l (omega (arith, f.onward)) (omega arith))

    pub reached-visited : (d s : ℕ) → d < drones → s ≤ last d → s ≤ visited_after P leg p (reached P leg p d s) d
    reached-visited d s l h = (reached_iff d s (reached P leg p d s) l h).1 (omega arith)

    -- ---- remaining rounds

    pub remaining_iff : (d k : ℕ) → d < drones → (last d ≤ visited_after P leg p k d) ↔ (remaining P leg p d ≤ k)
    unfolding remaining
    remaining_iff d k l = reached_iff d (last d) k l (omega arith)

    pub remaining-none : (d : ℕ) → d < drones → last d ≤ p d → remaining P leg p d ≡ 0
    unfolding fly
    remaining-none d l h = let z : remaining P leg p d ≤ 0 = (remaining_iff d 0 l).0 h in omega arith

    -- they are the largest sum of legs over the chains to the last stop
    pub longest_chain : (d : ℕ) → d < drones → p d < last d → Longest P leg p d (remaining P leg p d)
    unfolding remaining
    longest_chain d l o = record { chain = chain P leg p formed acyclic reached-table d (last d) l o (omega arith); none_longer = λ m c. chain_le P leg p formed acyclic reached-table l (omega arith) c }

    -- ---- the rounds until everybody is finished

    pub finished_iff : (k : ℕ) → (finished P (visited_after P leg p k) ≡ true) ↔ (max_below drones (remaining P leg p) ≤ k)
    finished_iff k = (
      λ e. max_least drones (remaining P leg p) k (λ d l. (remaining_iff d k l).0 (finished-at P _ e d l)),
      λ h. finished_if P _ (λ d l. (remaining_iff d k l).1 (omega (arith, max-at drones (remaining P leg p) d l))),
    )

    remaining-bound : (d : ℕ) → d < drones → remaining P leg p d ≤ legs_left P leg p
    unfolding remaining
    remaining-bound d l = entry_bound P leg p formed acyclic reached-table d (last d) l (omega arith)

    -- rounds finish everybody within the sum of the legs to unvisited stops
    pub flights-finish : finished P (visited_after P leg p (legs_left P leg p)) ≡ true
    flights-finish = (finished_iff (legs_left P leg p)).1 (max_least drones (remaining P leg p) (legs_left P leg p) remaining-bound)

    -- the first of them
    makespan_first : First (legs_left P leg p) (λ k. finished P (visited_after P leg p k)) (makespan P leg p)
    unfolding makespan
    makespan_first = first_below_first (legs_left P leg p) (λ k. finished P (visited_after P leg p k))

    pub makespan-bound : makespan P leg p ≤ legs_left P leg p
    makespan-bound = makespan_first.within

    pub makespan_is : makespan P leg p ≡ max_below drones (remaining P leg p)
    makespan_is = by_cases (ltb (makespan P leg p) (max_below drones (remaining P leg p)))
        (λ e. absurd (omega (arith, ltb-true (makespan P leg p) (max_below drones (remaining P leg p)) e, (finished_iff (makespan P leg p)).0 (late (ltb-true _ _ e)))))
        (λ e. by_cases (ltb (max_below drones (remaining P leg p)) (makespan P leg p))
        (λ h. true_or_false ((finished_iff (max_below drones (remaining P leg p))).1 (omega arith)) (makespan_first.skipped (max_below drones (remaining P leg p)) (ltb-true _ _ h)))
        (λ h. omega (arith, ltb-false (makespan P leg p) (max_below drones (remaining P leg p)) e, ltb-false (max_below drones (remaining P leg p)) (makespan P leg p) h)))
      where
        late : makespan P leg p < max_below drones (remaining P leg p) → finished P (visited_after P leg p (makespan P leg p)) ≡ true
        late l = makespan_first.found (omega (arith, (finished_iff (legs_left P leg p)).0 flights-finish))

    pub makespan_iff : (k : ℕ) → (finished P (visited_after P leg p k) ≡ true) ↔ (makespan P leg p ≤ k)
    makespan_iff k = (λ e. omega (arith, makespan_is, (finished_iff k).0 e), λ h. (finished_iff k).1 (omega (arith, makespan_is)))

  -- the cost is at most the legs left for each drone
  pub cost-bound : (p : ℕ → ℕ) → cost P leg p ≤ drones * legs_left P leg p
  unfolding cost remaining reached
  cost-bound p = sum_bound drones _ (legs_left P leg p) (λ d l. (first_below_first (legs_left P leg p) _).within)

-- ---- legs of one: the rounds as played

module _ (P : Plan) where
  open P use {drones, last}

  pub one_no_empty : (p : ℕ → ℕ) → NoEmptyLeg P one_round p
  one_no_empty p d s l o h = omega arith

  one_round_lem : (q : ℕ → ℕ) → fly_round P one_round (record { place = q; flown = λ d. 0 }) ≡ record { place = round P q; flown = λ d. 0 }
  unfolding fly_round fills round
  one_round_lem q = λ i. record { place = λ d. place_is d i; flown = λ d. flown_is d i }
    where
      place_is : (d : ℕ) → pick (free P q d && leb 1 1) (suc (q d)) (q d) ≡ pick (free P q d) (suc (q d)) (q d)
      place_is d = by_cases (free P q d) (λ e. rw e) (λ e. rw e)

      flown_is : (d : ℕ) → pick (free P q d) (pick (leb 1 1) 0 1) 0 ≡ 0
      flown_is d = by_cases (free P q d) (λ e. rw e) (λ e. rw e)

  one_flown : (p : ℕ → ℕ) (k : ℕ) → fly P one_round p k ≡ record { place = play P p k; flown = λ d. 0 }
  unfolding fly play
  one_flown p zero = refl
  one_flown p (suc k) = ap (fly_round P one_round) (one_flown p k) ∙ one_round_lem (play P p k)

  pub one_played : (p : ℕ → ℕ) (k : ℕ) → visited_after P one_round p k ≡ play P p k
  one_played p k = ap (λ (h : Headway). h.place) (one_flown p k)

  -- the stops of a drone above its place
  stops_above : (x n : ℕ) → sum_below n (λ s. pick (ltb x s) 1 0) ≡ n - suc x
  unfolding sum_below
  stops_above x zero = omega arith
  stops_above x (suc n) = by_cases (ltb x n)
      (λ e. rw e (omega (arith, stops_above x n, ltb-true x n e)))
      (λ e. rw e (omega (arith, stops_above x n, ltb-false x n e)))

  pub one_left : (p : ℕ → ℕ) → legs_left P one_round p ≡ unvisited P p
  unfolding legs_left unvisited
  one_left p = sum_ext drones _ _ (λ d l. stops_above (p d) (suc (last d)) ∙ (let e : suc (last d) - suc (p d) ≡ last d - p d = omega arith in e))
