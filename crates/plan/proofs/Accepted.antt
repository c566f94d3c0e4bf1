-- A plan in which the check finds nothing is as document 01 asks, and the listed pairs of its stops are its dependencies: stop s of drone d is stop
-- `off d + s`, and the order of the pairs is that of drones and stops. Assumes nothing.
use mathlib.Core.Path.{◌≡◌, refl, sym, ap, ◌∙◌, subst}
use mathlib.Core.Logic.{◌≢◌, inl, inr, ◌↔◌}
use mathlib.Core.Bool.{Bool, true, cond, ◌&&◌, ◌||◌}
use Prim.Native.Nat.{ℕ, suc, ◌+◌, ◌-◌, ◌≤◌, ◌<◌}
use native.Mathlib.Omega.{arith}
use lib.Dec.{ltb, eqb}
use borrow.Author.Tests.{ltb-true, lt-ltb, eqb-true, eqb-false, eq-eqb}
use Rattle.below.specs.Below.{at, rank, pair_before}
use Rattle.below.proofs.Tests.{by_cases, and_left, and_right}
use Rattle.below.proofs.Pairs.{listed_at, rank_below, rank_find, rank_order}
use Rattle.tables.specs.Tables.{PlanLists, drones, dependencies}
use Rattle.plan.specs.Stops.{start}
use Rattle.near.proofs.NearLaws.{meets_symmetric}
use Rattle.plan.specs.Visits.{Visits, Symmetric}
use Rattle.plan.specs.Check.{first_fault, apart}
use Rattle.plan.specs.Dependencies.{follows, is_fixed, flag_of, dependency_total, column}
use Rattle.plan.specs.Field.{Dependency, FieldPlan, before, fixed, GoneBefore, Checked, Meeting, AcceptedPlan, meets_of, plan_of}
use Rattle.plan.specs.Claims.{Numbered, pair, owner_in, number_in, stop_total, leg_in, visits_in, HaveStops, HaveLegs, NoFault, NoCollision, planned, HoldsPlanned, StopsChecked}
use Rattle.plan.proofs.Numbering.{numbered, stays, last_is, order_number}
use Rattle.plan.proofs.Conditions.{Passes, first_fault-says, says-first_fault, Over, apart-says, says-apart, Follows, follows-says, says-follows}
use Rattle.plan.proofs.Turns.{gone-before}

-- ---- dependencies in order

-- by the first key, or by the rest where the first keys are equal
by_key : (a b : ℕ) (rest : Bool) → a < b → ltb a b || rest ≡ true
by_key a b rest l = rw (lt-ltb a b l) refl

by_rest : (a b : ℕ) (rest : Bool) → a ≡ b → rest ≡ true → ltb a b || eqb a b && rest ≡ true
by_rest a b rest e h = by_cases (ltb a b) (λ l. rw l refl) (λ l. rw (l, eq-eqb a b e) h)

before_drone : (x y : Dependency) → x.first < y.first → before x y ≡ true
before_drone x y a = by_key x.first y.first _ a

before-stop : (x y : Dependency) → x.first ≡ y.first → x.first_stop < y.first_stop → before x y ≡ true
before-stop x y a b = by_rest x.first y.first _ a (by_key x.first_stop y.first_stop _ b)

before_second : (x y : Dependency) → x.first ≡ y.first → x.first_stop ≡ y.first_stop → x.second < y.second → before x y ≡ true
before_second x y a b c = by_rest x.first y.first _ a (by_rest x.first_stop y.first_stop _ b (by_key x.second y.second _ c))

before_last : (x y : Dependency) → x.first ≡ y.first → x.first_stop ≡ y.first_stop → x.second ≡ y.second → x.second_stop < y.second_stop → before x y ≡ true
before_last x y a b c d = by_rest x.first y.first _ a (by_rest x.first_stop y.first_stop _ b (by_rest x.second y.second _ c (lt-ltb x.second_stop y.second_stop d)))

module _ {own num off last : ℕ → ℕ} {drones n : ℕ} (N : Numbered own num off last drones n) where
  -- the order of the pairs of stops is that of their dependencies
  pub pair_order : (v w x y : ℕ) → v < n → w < n → x < n → y < n → pair_before v w x y ≡ true → before (pair own num v w) (pair own num x y) ≡ true
  unfolding pair_before
  pair_order v w x y a b c d e = by_cases (ltb v x) (λ h. first (ltb-true v x h)) (λ h. let t : (eqb v x && ltb w y) ≡ true = rw h at e in second (eqb-true v x (and_left _ _ t)) (ltb-true w y (and_right (eqb v x) _ t)))
    where
      first : v < x → before (pair own num v w) (pair own num x y) ≡ true
      first l = by_cases (eqb (own v) (own x))
          (λ h. let q : own v ≡ own x = eqb-true _ _ h in before-stop (pair own num v w) (pair own num x y) q (order_number N v x a c q l))
          (λ h. let q : own v ≢ own x = eqb-false _ _ h in before_drone (pair own num v w) (pair own num x y) (omega (arith, N.grouped v x (omega arith) c)))

      second : v ≡ x → w < y → before (pair own num v w) (pair own num x y) ≡ true
      second s l = by_cases (eqb (own w) (own y))
          (λ h. let q : own w ≡ own y = eqb-true _ _ h in before_last (pair own num v w) (pair own num x y) (ap own s) (ap num s) q (order_number N w y b d q l))
          (λ h. let q : own w ≢ own y = eqb-false _ _ h in before_second (pair own num v w) (pair own num x y) (ap own s) (ap num s) (omega (arith, N.grouped w y (omega arith) d)))

-- the same locations meet, whichever is named first
pub plan_symmetric : (p : PlanLists) → Symmetric (meets_of p)
plan_symmetric p = meets_symmetric p.pairs

-- ---- a plan whose stops are numbered through

module _ (S : Visits) (leg off last : ℕ → ℕ) (drones count : ℕ) (dependency : ℕ → Dependency) (N : Numbered S.own S.num off last drones S.n) where
  open S use {own, num, loc, time, meets, n}

  abbrev pub plan : FieldPlan
  plan = record { drones = drones; last = last; location = λ d s. loc (off d + s); time = λ d s. time (off d + s); leg = λ d s. leg (off d + s); meets = meets; count = count; dependency = dependency }

  -- stop v as its drone's
  location_of : (v : ℕ) → v < n → loc (off (own v) + num v) ≡ loc v
  location_of v l = ap loc (N.number_is v l)

  time_of : (v : ℕ) → v < n → time (off (own v) + num v) ≡ time v
  time_of v l = ap time (N.number_is v l)

  -- ---- the plan check

  pub over-gone : (d s t : ℕ) → d < drones → s ≤ last d → Over own time n (off d + s) t → (s < last d) × (time (off d + suc s) < t)
  over-gone d s t l k o =
      let q : off d + s + 1 ≡ off d + suc s = omega arith in
      (rw (N.place_number d s l k, N.place_own d s l k) at (stays N (off d + s) o.next o.same_drone), rw q at o.leaves)

  pub gone-over : (d s t : ℕ) → d < drones → s < last d → time (off d + suc s) < t → Over own time n (off d + s) t
  gone-over d s t l k h =
      let q : off d + s + 1 ≡ off d + suc s = omega arith in
      record { next = rw q (N.place_in d (suc s) l k); same_drone = rw q (N.place_own d (suc s) l k ∙ sym (N.place_own d s l (omega arith))); leaves = rw q h }

  pub passes_stops : first_fault S leg ≡ n → StopsChecked plan
  passes_stops e = record {
    starts = λ d l. (passes (off d + 0) (N.place_in d 0 l (omega arith))).starts (N.place_number d 0 l (omega arith));
    rises = λ d s l k. rw (back d s) at (later d s l k).0;
    rises_by_leg = λ d s l k. rw (back d s) at (later d s l k).1;
    moves = λ d s l k q. rw (back d s) at (later d s l k).2 (sym q);
  }
    where
      passes : (v : ℕ) → v < n → Passes S leg v
      passes = first_fault-says S leg e

      back : (d s : ℕ) → off d + suc s - 1 ≡ off d + s
      back d s = omega arith

      later : (d s : ℕ) → d < drones → s < last d → (time (off d + suc s - 1) < time (off d + suc s)) × (time (off d + suc s - 1) + leg (off d + suc s) ≤ time (off d + suc s)) × (loc (off d + suc s) ≢ loc (off d + suc s - 1))
      later d s l k =
          let ne : num (off d + suc s) ≢ 0 = λ z. omega (arith, N.place_number d (suc s) l k) in
          let h = passes (off d + suc s) (N.place_in d (suc s) l k) in
          (h.rises ne, h.rises_by_leg ne, h.moves ne)

  pub passes_checked : Symmetric meets → first_fault S leg ≡ n → apart S ≡ true → Checked plan
  passes_checked symmetric e a =
      let c : StopsChecked plan = passes_stops e in
      record {
        starts = c.starts;
        rises = c.rises;
        rises_by_leg = c.rises_by_leg;
        moves = c.moves;
        symmetric = symmetric;
        no_collision = λ d s f k l m x y ne q. elim (apart-says S symmetric a (off d + s) (off f + k) (N.place_in d s l m) (N.place_in f k x y) (λ z. ne (sym (N.place_own d s l m) ∙ z ∙ N.place_own f k x y)) q) [
          | inl o ↦ let g = over-gone d s _ l m o in inl (record { goes_on = g.0; in_time = g.1 })
          | inr o ↦ let g = over-gone f k _ x y o in inr (record { goes_on = g.0; in_time = g.1 })
        ];
      }

  -- the other way round
  pub stops_pass : StopsChecked plan → first_fault S leg ≡ n
  stops_pass c = says-first_fault S leg (λ v l. record {
    starts = λ z. sym (time_of v l) ∙ rw z (c.starts (own v) (N.own_in v l));
    rises = λ z. (step v l z).0;
    rises_by_leg = λ z. (step v l z).1;
    moves = λ z. (step v l z).2;
  })
    where
      step : (v : ℕ) → v < n → num v ≢ 0 → (time (v - 1) < time v) × (time (v - 1) + leg v ≤ time v) × (loc v ≢ loc (v - 1))
      step v l z =
          let p : off (own v) + (num v - 1) ≡ v - 1 = omega (arith, N.number_is v l) in
          let q : off (own v) + suc (num v - 1) ≡ v = omega (arith, N.number_is v l) in
          let k : num v - 1 < last (own v) = omega (arith, N.number_in_lem v l) in
          let m : loc (v - 1) ≢ loc v = rw (p, q) at (c.moves (own v) (num v - 1) (N.own_in v l) k) in
          (rw (p, q) at (c.rises (own v) (num v - 1) (N.own_in v l) k), rw (p, q) at (c.rises_by_leg (own v) (num v - 1) (N.own_in v l) k), λ e. m (sym e))

  pub checked_passes : Checked plan → first_fault S leg ≡ n
  checked_passes c = stops_pass (record { starts = c.starts; rises = c.rises; rises_by_leg = c.rises_by_leg; moves = c.moves })

  pub checked-apart : Checked plan → apart S ≡ true
  checked-apart c = says-apart S (λ v w l k ne q. elim (c.no_collision (own v) (num v) (own w) (num w) (N.own_in v l) (N.number_in_lem v l) (N.own_in w k) (N.number_in_lem w k) ne (rw (location_of v l, location_of w k) q)) [
    | inl g ↦ inl (rw (N.number_is v l, N.number_is w k) at (gone-over (own v) (num v) _ (N.own_in v l) g.goes_on g.in_time))
    | inr g ↦ inr (rw (N.number_is v l, N.number_is w k) at (gone-over (own w) (num w) _ (N.own_in w k) g.goes_on g.in_time))
  ])

  -- ---- the dependencies

  pub meeting_if : (v w : ℕ) → v < n → w < n → follows S v w ≡ true → Meeting plan (pair own num v w)
  meeting_if v w l k e =
      let f : Follows S v w = follows-says S v w e in
      record {
        first_in = N.own_in v l;
        first_stop_in = N.number_in_lem v l;
        second_in = N.own_in w k;
        second_stop_in = N.number_in_lem w k;
        different = f.others;
        one_location = rw (location_of v l, location_of w k) f.place;
        there_first = omega (arith, time_of v l, time_of w k, f.earlier);
      }

  -- the first is gone before the second comes, so their times differ
  pub meeting_follows : Checked plan → (x : Dependency) → Meeting plan x → follows S (off x.first + x.first_stop) (off x.second + x.second_stop) ≡ true
  meeting_follows c x m =
      let g : GoneBefore plan x.first x.first_stop x.second x.second_stop = gone-before plan c x m in
      says-follows S _ _ (record {
        others = λ q. m.different (sym (N.place_own x.first x.first_stop m.first_in m.first_stop_in) ∙ q ∙ N.place_own x.second x.second_stop m.second_in m.second_stop_in);
        place = m.one_location;
        earlier = omega (arith, c.rises x.first x.first_stop m.first_in g.goes_on, g.in_time);
      })

  pub pair_place : (x : Dependency) → Meeting plan x → pair own num (off x.first + x.first_stop) (off x.second + x.second_stop) ≡ x
  pair_place x m = λ i. record {
    first = N.place_own x.first x.first_stop m.first_in m.first_stop_in i;
    first_stop = N.place_number x.first x.first_stop m.first_in m.first_stop_in i;
    second = N.place_own x.second x.second_stop m.second_in m.second_stop_in i;
    second_stop = N.place_number x.second x.second_stop m.second_in m.second_stop_in i;
  }

  fixed-pair : (v w : ℕ) → w < n → is_fixed own num n v w ≡ eqb (num v) 0 || eqb (num w) (last (own w))
  unfolding is_fixed
  fixed-pair v w l = ap (λ (b : Bool). eqb (num v) 0 || b) (last_is N w l)

  -- the table holds, at k, a pair of stops of which the second follows the first
  abbrev Entry : ℕ → Type 0
  Entry k = (v : ℕ) × (w : ℕ) × (v < n) × (w < n) × (follows S v w ≡ true) × (rank (follows S) n v w ≡ k) × (dependency k ≡ pair own num v w)

  -- the four columns of the table are the plan's
  module _ (total : count ≡ dependency_total S)
      (first_drones_lem : (k : ℕ) → k < count → (dependency k).first ≡ at (column S (λ v w. own v)) k)
      (first_stops_lem : (k : ℕ) → k < count → (dependency k).first_stop ≡ at (column S (λ v w. num v)) k)
      (second_drones_lem : (k : ℕ) → k < count → (dependency k).second ≡ at (column S (λ v w. own w)) k)
      (second_stops_lem : (k : ℕ) → k < count → (dependency k).second_stop ≡ at (column S (λ v w. num w)) k) where
    -- a pair stands at its rank
    stands : (v w : ℕ) → v < n → w < n → follows S v w ≡ true → (rank (follows S) n v w < count) × (dependency (rank (follows S) n v w) ≡ pair own num v w)
    stands v w a b e =
        let l : rank (follows S) n v w < count = rw total (rank_below (follows S) n v w a b e) in
        let column-at : (f : ℕ → ℕ → ℕ) → at (column S f) (rank (follows S) n v w) ≡ f v w = λ f. listed_at (follows S) n f v w a b e in (
          l,
          λ i. record {
            first = (first_drones_lem _ l ∙ column-at (λ v w. own v)) i;
            first_stop = (first_stops_lem _ l ∙ column-at (λ v w. num v)) i;
            second = (second_drones_lem _ l ∙ column-at (λ v w. own w)) i;
            second_stop = (second_stops_lem _ l ∙ column-at (λ v w. num w)) i;
          },
        )

    entry : (k : ℕ) → k < count → Entry k
    entry k l =
        let (v, w, a, b, e, r) = rank_find (follows S) n k (omega arith) in
        (v, w, a, b, e, r, subst (λ (k : ℕ). dependency k ≡ pair own num v w) r (stands v w a b e).1)

    pub accepted_if : Checked plan → ((v : ℕ) → v < n → num v ≢ 0 → 1 ≤ leg v) → AcceptedPlan plan
    accepted_if c fly = record {
      checked = c;
      each = λ k l. let (v, w, a, b, e, r, q) = entry k l in subst (Meeting plan) (sym q) (meeting_if v w a b e);
      every = every;
      ordered = λ i j l k.
          let (v, w, a, b, e, r, q) = entry i (omega arith) in
          let (x, y, f, g, h, s, t) = entry j k in
          rw (q, t) (pair_order N v w x y a b f g (rank_order (follows S) n v w x y a b f g e h (omega arith)));
      flies = λ d s l h. fly (off d + suc s) (N.place_in d (suc s) l h) (λ z. omega (arith, N.place_number d (suc s) l h));
    }
      where
        every : (x : Dependency) → Meeting plan x → (k : ℕ) × (k < count) × (dependency k ≡ x)
        every x m =
            let a : off x.first + x.first_stop < n = N.place_in x.first x.first_stop m.first_in m.first_stop_in in
            let b : off x.second + x.second_stop < n = N.place_in x.second x.second_stop m.second_in m.second_stop_in in
            let h = stands (off x.first + x.first_stop) (off x.second + x.second_stop) a b (meeting_follows c x m) in
            (rank (follows S) n (off x.first + x.first_stop) (off x.second + x.second_stop), h.0, h.1 ∙ pair_place x m)

    -- the flag byte of a new dependency has bit 1 where the plan says "fixed"
    pub flag_is : (k : ℕ) → k < count → at (column S (flag_of own num n)) k ≡ cond (fixed plan k) 2 0
    unfolding flag_of
    flag_is k l =
        let (v, w, a, b, e, r, q) = entry k l in
        let h : at (column S (flag_of own num n)) k ≡ flag_of own num n v w = rw r at (listed_at (follows S) n (flag_of own num n) v w a b e) in
        h ∙ ap (λ (f : Bool). cond f 2 0) (fixed-pair v w b ∙ ap (λ (x : Dependency). eqb x.first_stop 0 || eqb x.second_stop (last x.second)) (sym q))

-- ---- the plan in the tables

module _ (p : PlanLists) (have : HaveStops p) where
  pub stops_numbered : Numbered (owner_in p) (number_in p) (start p.stop_counts) (plan_of p).last (drones p) (stop_total p)
  stops_numbered = numbered (drones p) p.stop_counts have

  pub stops_checked : NoFault p → StopsChecked (plan_of p)
  stops_checked = passes_stops (visits_in p) (leg_in p) _ _ _ _ _ stops_numbered

  pub taken_exactly : (NoFault p × NoCollision p) ↔ Checked (plan_of p)
  taken_exactly = (λ (e, a). passes_checked (visits_in p) (leg_in p) _ _ _ _ _ stops_numbered (plan_symmetric p) e a, λ c. (checked_passes (visits_in p) (leg_in p) _ _ _ _ _ stops_numbered c, checked-apart (visits_in p) (leg_in p) _ _ _ _ _ stops_numbered c))

  -- no leg of an accepted plan is empty
  pub accepted-flies : AcceptedPlan (plan_of p) → HaveLegs p
  accepted-flies A v l z =
      let N = stops_numbered in
      let q : start p.stop_counts (owner_in p v) + suc (number_in p v - 1) ≡ v = omega (arith, N.number_is v l) in
      rw q at (A.flies (owner_in p v) (number_in p v - 1) (N.own_in v l) (omega (arith, N.number_in_lem v l)))

  module _ (holds : HoldsPlanned p) where
    pub accepted : NoFault p → NoCollision p → HaveLegs p → AcceptedPlan (plan_of p)
    accepted e a = accepted_if (visits_in p) (leg_in p) _ _ _ _ _ stops_numbered holds.total holds.first_drones_lem holds.first_stops_lem holds.second_drones_lem holds.second_stops_lem (taken_exactly.0 (e, a))

    -- the flag byte that is planned for dependency k
    pub right_flag : (k : ℕ) → k < dependencies p → planned p (flag_of (owner_in p) (number_in p) (stop_total p)) k ≡ cond (fixed (plan_of p) k) 2 0
    right_flag = flag_is (visits_in p) (leg_in p) _ _ _ _ _ stops_numbered holds.total holds.first_drones_lem holds.first_stops_lem holds.second_drones_lem holds.second_stops_lem
