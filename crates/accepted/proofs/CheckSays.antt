-- What the plan check says of a plan in lists: its answer names a stop exactly when that stop is the first at fault, and two exactly when they are the lowest pair that
-- collides. Plans that agree have the same. Assumes nothing.
use mathlib.Core.Path.{◌≡◌, refl, sym, ap, ◌∙◌, subst}
use mathlib.Core.Logic.{◌≢◌, ◌⊎◌, inl, inr, ◌↔◌}
use mathlib.Core.Bool.{Bool, true, false, cond, not}
use Prim.Native.Nat.{ℕ, zero, suc, ◌+◌, ◌-◌, ◌≤◌, ◌<◌, max}
use native.Mathlib.Omega.{arith}
use lib.Dec.{ltb, leb, eqb}
use borrow.Author.Tests.{ltb-true, ltb-false, lt-ltb, le-ltb, le-leb, leb-true, leb-false, eqb-true, eqb-false, eq-eqb, ne_eqb, not-true, not-false}
use Rattle.below.specs.Below.{First}
use Rattle.below.proofs.Tests.{by_cases, true_or_false}
use Rattle.below.proofs.Search.{first_below_first, first_is, first_low}
use Rattle.tables.specs.Tables.{PlanLists}
use Rattle.plan.specs.declared.check.StopAt.{StopAt}
use Rattle.plan.specs.Stops.{start}
use Rattle.plan.specs.Visits.{Visits}
use Rattle.plan.specs.Check.{fault_at, first_fault, collide, partner, collider}
use Rattle.plan.specs.Answers.{pick_check, stop_at, fault_case, check_of}
use Rattle.plan.specs.Field.{Dependency, FieldPlan, PlansAgree, before, plan_of}
use Rattle.plan.specs.Claims.{Numbered, pair, stop_total, owner_in, number_in, time_in, leg_in, visits_in, collider_in, HaveStops, Reported, StopsChecked, Occupies}
use Rattle.plan.proofs.Numbering.{order_number}
use Rattle.plan.proofs.Conditions.{Over, OneOver, collide-not, not-collide}
use Rattle.plan.proofs.Accepted.{over-gone as over-gone-in, gone-over as gone-over-in, stops_numbered, stops_checked, stops_pass}
use Rattle.plan.proofs.Exact.{before_asym}
use Rattle.plan.proofs.PlansAgree.{agree_back}
use Rattle.plan.proofs.Claims.{accepted_claims}
use Rattle.reading.specs.Replies.{refused_stop, refused_stops, check_meant}
use Rattle.reading.specs.Reading.{check_in}
use Rattle.accepted.specs.Reported.{rule_place, Breaks, FirstAtFault, StopsCollide, LowestPair, stop_pair}
use Rattle.accepted.proofs.RulePlaces.{places}
use Rattle.plan.specs.declared.check.PlanFault.TheVariants as check
use Rattle.std.specs.Prelude.{Ok, Err}

-- ---- the rules of a single stop

-- the number of the first rule that stop s of drone d breaks, 0 where it breaks none
unfoldable fault_of_lem : FieldPlan → ℕ → ℕ → ℕ
fault_of_lem F d zero = cond (eqb (F.time d 0) 0) 0 7
fault_of_lem F d (suc s) =
    cond (leb (F.time d (suc s)) (F.time d s)) 8
    (cond (ltb (F.time d (suc s)) (F.time d s + F.leg d (suc s))) 12
    (cond (eqb (F.location d (suc s)) (F.location d s)) 9 0))

fault_none : (F : FieldPlan) (d s m : ℕ) → fault_of_lem F d s ≡ 0 → Breaks F m d s → ⊥
unfolding fault_of_lem
fault_none F d zero m h (q, x) = by_cases (eqb (F.time d 0) 0) (λ e. x (eqb-true _ _ e)) (λ e. let z : ◌≡◌ {A = ℕ} 7 0 = rw e at h in omega arith)
fault_none F d (suc s) m h b = by_cases (leb (F.time d (suc s)) (F.time d s))
    (λ e. let z : ◌≡◌ {A = ℕ} 8 0 = rw e at h in omega arith)
    (λ e. by_cases (ltb (F.time d (suc s)) (F.time d s + F.leg d (suc s)))
    (λ f. let z : ◌≡◌ {A = ℕ} 12 0 = rw (e, f) at h in omega arith)
    (λ f. by_cases (eqb (F.location d (suc s)) (F.location d s))
    (λ g. let z : ◌≡◌ {A = ℕ} 9 0 = rw (e, f, g) at h in omega arith)
    (λ g. elim b [
      | inl (q, x) ↦ omega (arith, leb-false (F.time d (suc s)) (F.time d s) e)
      | inr (inl (q, x)) ↦ omega (arith, ltb-false (F.time d (suc s)) (F.time d s + F.leg d (suc s)) f)
      | inr (inr (q, x)) ↦ eqb-false _ _ g x
    ])))

fault_some : (F : FieldPlan) (d s : ℕ) → fault_of_lem F d s ≢ 0 → Breaks F (fault_of_lem F d s) d s × ((m : ℕ) → rule_place m < rule_place (fault_of_lem F d s) → Breaks F m d s → ⊥)
unfolding fault_of_lem
fault_some F d zero h = by_cases (eqb (F.time d 0) 0) (λ e. absurd (h (rw e refl))) (λ e. rw e ((refl, eqb-false _ _ e), λ m l (q, x). omega (arith, l, ap rule_place q)))
fault_some F d (suc s) h = by_cases (leb (F.time d (suc s)) (F.time d s))
    (λ e. rw e (
      inl (refl, leb-true _ _ e),
      λ m l b. elim b [
        | inl (q, x) ↦ omega (arith, l, ap rule_place q)
        | inr (inl (q, x)) ↦ omega (arith, l, ap rule_place q, places.1, places.2)
        | inr (inr (q, x)) ↦ omega (arith, l, ap rule_place q, places.1, places.3)
      ],
    ))
    (λ e. by_cases (ltb (F.time d (suc s)) (F.time d s + F.leg d (suc s)))
    (λ f. rw (e, f) (
      inr (inl (refl, ltb-true _ _ f)),
      λ m l b. elim b [
        | inl (q, x) ↦ omega (arith, leb-false (F.time d (suc s)) (F.time d s) e)
        | inr (inl (q, x)) ↦ omega (arith, l, ap rule_place q)
        | inr (inr (q, x)) ↦ omega (arith, l, ap rule_place q, places.2, places.3)
      ],
    ))
    (λ f. by_cases (eqb (F.location d (suc s)) (F.location d s))
    (λ g. rw (e, f, g) (
      inr (inr (refl, eqb-true _ _ g)),
      λ m l b. elim b [
        | inl (q, x) ↦ omega (arith, leb-false (F.time d (suc s)) (F.time d s) e)
        | inr (inl (q, x)) ↦ omega (arith, ltb-false (F.time d (suc s)) (F.time d s + F.leg d (suc s)) f)
        | inr (inr (q, x)) ↦ omega (arith, l, ap rule_place q)
      ],
    ))
    (λ g. absurd (h (rw (e, f, g) refl)))))

-- it is the one that is broken and has none before it
fault_is : (F : FieldPlan) (n d s : ℕ) → Breaks F n d s → ((m : ℕ) → rule_place m < rule_place n → Breaks F m d s → ⊥) → fault_of_lem F d s ≡ n
unfolding fault_of_lem
fault_is F n d zero (q, x) low = rw (q, ne_eqb (F.time d 0) 0 x) refl
fault_is F n d (suc s) (inl (q, x)) low = rw (q, le-leb (F.time d (suc s)) (F.time d s) x) refl
fault_is F n d (suc s) (inr (inl (q, x))) low = by_cases (leb (F.time d (suc s)) (F.time d s))
    (λ e. absurd (low 8 (omega (arith, ap rule_place q, places.1, places.2)) (inl (refl, leb-true _ _ e))))
    (λ e. rw (q, e, lt-ltb (F.time d (suc s)) (F.time d s + F.leg d (suc s)) x) refl)
fault_is F n d (suc s) (inr (inr (q, x))) low = by_cases (leb (F.time d (suc s)) (F.time d s))
    (λ e. absurd (low 8 (omega (arith, ap rule_place q, places.1, places.3)) (inl (refl, leb-true _ _ e))))
    (λ e. by_cases (ltb (F.time d (suc s)) (F.time d s + F.leg d (suc s)))
    (λ f. absurd (low 12 (omega (arith, ap rule_place q, places.2, places.3)) (inr (inl (refl, ltb-true _ _ f)))))
    (λ f. rw (q, e, f, eq-eqb (F.location d (suc s)) (F.location d s) x) refl))

-- the rules are 7, 8, 12 and 9
abbrev Rule : ℕ → Type 0
Rule n = (n ≡ 7) ⊎ ((n ≡ 8) ⊎ ((n ≡ 12) ⊎ (n ≡ 9)))

rule_numbers : (F : FieldPlan) (n d s : ℕ) → Breaks F n d s → Rule n
rule_numbers F n d zero b = inl b.0
rule_numbers F n d (suc s) b = elim b [ inl (q, x) ↦ inr (inl q) | inr (inl (q, x)) ↦ inr (inr (inl q)) | inr (inr (q, x)) ↦ inr (inr (inr q)) ]

-- ---- what the check of lists says

-- an answer with one stop comes of the first search, one with two of the second
stop-found : (a b : Bool) (k : ℕ) (s x y : StopAt) (n : ℕ) (u : StopAt) → check_meant (pick_check a (fault_case k s) (pick_check b (Err (check.Collision x y)) (Ok tt))) ≡ refused_stop n u → (a ≡ true) × (check_meant (fault_case k s) ≡ refused_stop n u)
stop-found true b k s x y n u h = (refl, h)
stop-found false true k s x y n u h = absurd (let z : ◌≡◌ {A = ℕ} 0 1 = cc h in omega arith)
stop-found false false k s x y n u h = absurd (let z : ◌≡◌ {A = ℕ} 0 1 = cc h in omega arith)

one_stop : (a b c : Bool) (s : StopAt) (n : ℕ) (x y : StopAt)
    → check_meant (pick_check a (Err (check.StartsLate s)) (pick_check b (Err (check.NotRising s)) (pick_check c (Err (check.LegTooLong s)) (Err (check.SameLocation s))))) ≡ refused_stops n x y → ⊥
one_stop true b c s n x y h = let z : ◌≡◌ {A = ℕ} 0 1 = cc h in omega arith
one_stop false true c s n x y h = let z : ◌≡◌ {A = ℕ} 0 1 = cc h in omega arith
one_stop false false true s n x y h = let z : ◌≡◌ {A = ℕ} 0 1 = cc h in omega arith
one_stop false false false s n x y h = let z : ◌≡◌ {A = ℕ} 0 1 = cc h in omega arith

stops_found : (a b : Bool) (k : ℕ) (s x y : StopAt) (n : ℕ) (u w : StopAt) → check_meant (pick_check a (fault_case k s) (pick_check b (Err (check.Collision x y)) (Ok tt))) ≡ refused_stops n u w
    → (a ≡ false) × (b ≡ true) × (refused_stops 10 x y ≡ refused_stops n u w)
unfolding fault_case
stops_found true b k s x y n u w h = absurd (one_stop (eqb k 7) (eqb k 8) (eqb k 12) s n u w h)
stops_found false true k s x y n u w h = (refl, refl, h)
stops_found false false k s x y n u w h = absurd (let z : ◌≡◌ {A = ℕ} 0 1 = cc h in omega arith)

fault_meant : (k : ℕ) (s : StopAt) → Rule k → check_meant (fault_case k s) ≡ refused_stop k s
unfolding fault_case
fault_meant k s (inl e) = rw e refl
fault_meant k s (inr (inl e)) = rw e refl
fault_meant k s (inr (inr (inl e))) = rw e refl
fault_meant k s (inr (inr (inr e))) = rw e refl

same_stop : (n m : ℕ) (s u : StopAt) → refused_stop n s ≡ refused_stop m u → (n ≡ m) × (s ≡ u)
same_stop n m s u h = (cc h, cc h)

same_stops : (n m : ℕ) (s u x y : StopAt) → refused_stops n s u ≡ refused_stops m x y → (n ≡ m) × (s ≡ x) × (u ≡ y)
same_stops n m s u x y h = (cc h, cc h, cc h)

-- a span is that of the stop that it is known by
span_of : (F : FieldPlan) (d s l t : ℕ) (o : Occupies F d l t) → o.stop ≡ s → (s ≤ F.last d) × (F.location d s ≡ l) × (F.time d s ≤ t) × (s < F.last d → t ≤ F.time d (suc s))
span_of F d s l t o e = subst (λ (k : ℕ). (k ≤ F.last d) × (F.location d k ≡ l) × (F.time d k ≤ t) × (k < F.last d → t ≤ F.time d (suc k))) e (o.stop_in, o.here, o.since, o.until)

-- the stops of a pair are there
record PairIn (F : FieldPlan) (x : Dependency) : Type 0 where
  first_in : x.first < F.drones
  first_stop_in : x.first_stop ≤ F.last x.first
  second_in : x.second < F.drones
  second_stop_in : x.second_stop ≤ F.last x.second

pair_in : (F : FieldPlan) (x : Dependency) → StopsCollide F x → PairIn F x
pair_in F x c = record {
  first_in = omega (arith, c.lower_first, c.second_in);
  first_stop_in = (span_of F x.first x.first_stop c.first_location c.timestep c.first_there c.of_first).0;
  second_in = c.second_in;
  second_stop_in = (span_of F x.second x.second_stop c.second_location c.timestep c.second_there c.of_second).0;
}

module _ (p : PlanLists) (have : HaveStops p) where
  abbrev F : FieldPlan
  F = plan_of p

  abbrev S : Visits
  S = visits_in p

  abbrev G : ℕ → ℕ
  G = leg_in p

  N : Numbered (owner_in p) (number_in p) (start p.stop_counts) F.last F.drones (stop_total p)
  N = stops_numbered p have

  -- stop s of drone d, numbered through
  abbrev place : ℕ → ℕ → ℕ
  place d s = start p.stop_counts d + s

  earlier_place : (e k d s : ℕ) → e < F.drones → k ≤ F.last e → d < F.drones → s ≤ F.last d → (e < d) ⊎ ((e ≡ d) × (k < s)) → place e k < place d s
  earlier_place e k d s l m x y (inl h) = by_cases (ltb (place e k) (place d s)) (λ g. ltb-true _ _ g)
      (λ g. absurd (omega (arith, N.grouped (place d s) (place e k) (ltb-false (place e k) (place d s) g) (N.place_in e k l m), N.place_own d s x y, N.place_own e k l m)))
  earlier_place e k d s l m x y (inr (q, h)) = rw q (omega arith)

  earlier-stop : (u v : ℕ) → u < v → v < stop_total p → (owner_in p u < owner_in p v) ⊎ ((owner_in p u ≡ owner_in p v) × (number_in p u < number_in p v))
  earlier-stop u v l k = by_cases (eqb (owner_in p u) (owner_in p v))
      (λ e. let q : owner_in p u ≡ owner_in p v = eqb-true _ _ e in inr (q, order_number N u v (omega arith) k q l))
      (λ e. let q : owner_in p u ≢ owner_in p v = eqb-false _ _ e in inl (omega (arith, N.grouped u v (omega arith) k)))

  -- ---- stop by stop

  fault_place : (d s : ℕ) → d < F.drones → s ≤ F.last d → fault_at S G (place d s) ≡ fault_of_lem F d s
  unfolding fault_at fault_of_lem
  fault_place d zero l k = rw (N.place_number d 0 l k) refl
  fault_place d (suc s) l k = let q : place d (suc s) - 1 ≡ place d s = omega arith in rw (ne_eqb (number_in p (place d (suc s))) 0 (λ z. omega (arith, N.place_number d (suc s) l k)), q) refl

  fault_of : (v : ℕ) → v < stop_total p → fault_at S G v ≡ fault_of_lem F (owner_in p v) (number_in p v)
  fault_of v l = ap (fault_at S G) (sym (N.number_is v l)) ∙ fault_place (owner_in p v) (number_in p v) (N.own_in v l) (N.number_in_lem v l)

  -- the search for a stop at fault
  fault_first : First (stop_total p) (λ v. not (eqb (fault_at S G v) 0)) (first_fault S G)
  unfolding first_fault
  fault_first = first_below_first (stop_total p) (λ v. not (eqb (fault_at S G v) 0))

  first_at_fault : first_fault S G < stop_total p → FirstAtFault F (fault_at S G (first_fault S G)) (owner_in p (first_fault S G)) (number_in p (first_fault S G))
  first_at_fault l =
      let v : ℕ = first_fault S G in
      let d : ℕ = owner_in p v in
      let s : ℕ = number_in p v in
      let ne : fault_at S G v ≢ 0 = eqb-false _ _ (not-true _ (fault_first.found l)) in
      let (b, low) = fault_some F d s (λ z. ne (fault_of v l ∙ z)) in
      record {
        drone_in = N.own_in v l;
        stop_in = N.number_in_lem v l;
        broken = rw (fault_of v l) b;
        first_rule = λ m h. low m (omega (arith, h, ap rule_place (fault_of v l)));
        first_stop = λ m e k x y h.
            let q : place e k < v = omega (arith, earlier_place e k d s x y (N.own_in v l) (N.number_in_lem v l) h, N.number_is v l) in
            fault_none F e k m (sym (fault_place e k x y) ∙ eqb-true _ _ (not-false _ (fault_first.skipped (place e k) q)));
      }

  fault_says : (n : ℕ) (s : StopAt) → check_in p ≡ refused_stop n s → FirstAtFault F n s.drone s.stop
  unfolding check_of
  fault_says n s h =
      let v : ℕ = first_fault S G in
      let w : ℕ = collider_in p in
      let (l, e) = stop-found (ltb v (stop_total p)) (ltb w (stop_total p)) (fault_at S G v) (stop_at (owner_in p) (number_in p) v) (stop_at (owner_in p) (number_in p) w) (stop_at (owner_in p) (number_in p) (partner S w)) n s h in
      let f = first_at_fault (ltb-true _ _ l) in
      let (q, r) = same_stop (fault_at S G v) n (stop_at (owner_in p) (number_in p) v) s (sym (fault_meant _ _ (rule_numbers F (fault_at S G v) (owner_in p v) (number_in p v) f.broken)) ∙ e) in
      subst (λ (x : StopAt). FirstAtFault F n x.drone x.stop) r (subst (λ (m : ℕ). FirstAtFault F m (owner_in p v) (number_in p v)) q f)

  says_fault : (n : ℕ) (s : StopAt) → FirstAtFault F n s.drone s.stop → check_in p ≡ refused_stop n s
  unfolding check_of first_fault
  says_fault n s f =
      let d : ℕ = s.drone in
      let k : ℕ = s.stop in
      let v : ℕ = place d k in
      let l : v < stop_total p = N.place_in d k f.drone_in f.stop_in in
      let is : fault_at S G v ≡ n = fault_place d k f.drone_in f.stop_in ∙ fault_is F n d k f.broken f.first_rule in
      let some : n ≢ 0 = λ z. elim (rule_numbers F n d k f.broken) [ inl q ↦ omega arith | inr (inl q) ↦ omega arith | inr (inr (inl q)) ↦ omega arith | inr (inr (inr q)) ↦ omega arith ] in
      let found : first_fault S G ≡ v = first_is (λ v. not (eqb (fault_at S G v) 0)) (stop_total p) v l (ap not (ne_eqb (fault_at S G v) 0 (λ z. some (sym is ∙ z)))) (λ u h. ap not (eq-eqb (fault_at S G u) 0 (none u h l))) in
      rw (found, lt-ltb v (stop_total p) l, is, N.place_own d k f.drone_in f.stop_in, N.place_number d k f.drone_in f.stop_in) (fault_meant n s (rule_numbers F n d k f.broken))
    where
      none : (u : ℕ) → u < place s.drone s.stop → place s.drone s.stop < stop_total p → fault_at S G u ≡ 0
      none u h l =
          let m : u < stop_total p = omega arith in
          by_cases (eqb (fault_of_lem F (owner_in p u) (number_in p u)) 0)
          (λ e. fault_of u m ∙ eqb-true _ _ e)
          (λ e. absurd (f.first_stop _ (owner_in p u) (number_in p u) (N.own_in u m) (N.number_in_lem u m)
          (rw (N.place_own s.drone s.stop f.drone_in f.stop_in, N.place_number s.drone s.stop f.drone_in f.stop_in) at (earlier-stop u (place s.drone s.stop) h l))
          (fault_some F (owner_in p u) (number_in p u) (eqb-false _ _ e)).0))

  -- ---- after all stops

  -- a span that is over before t
  over-gone : (d s t : ℕ) → d < F.drones → s ≤ F.last d → Over (owner_in p) (time_in p) (stop_total p) (place d s) t → (s < F.last d) × (F.time d (suc s) < t)
  over-gone = over-gone-in S G (start p.stop_counts) F.last F.drones F.count F.dependency N

  gone-over : (d s t : ℕ) → d < F.drones → s < F.last d → F.time d (suc s) < t → Over (owner_in p) (time_in p) (stop_total p) (place d s) t
  gone-over = gone-over-in S G (start p.stop_counts) F.last F.drones F.count F.dependency N

  -- the two stops of a pair, numbered through, and the pair of two such stops
  abbrev first_place_lem : Dependency → ℕ
  first_place_lem x = place x.first x.first_stop

  abbrev second_place_lem : Dependency → ℕ
  second_place_lem x = place x.second x.second_stop

  first_place : (x : Dependency) → PairIn F x → first_place_lem x < stop_total p
  first_place x i = N.place_in x.first x.first_stop i.first_in i.first_stop_in

  second_place : (x : Dependency) → PairIn F x → second_place_lem x < stop_total p
  second_place x i = N.place_in x.second x.second_stop i.second_in i.second_stop_in

  pair_is : (x : Dependency) → PairIn F x → pair (owner_in p) (number_in p) (first_place_lem x) (second_place_lem x) ≡ x
  pair_is x j = λ i. record {
    first = N.place_own x.first x.first_stop j.first_in j.first_stop_in i;
    first_stop = N.place_number x.first x.first_stop j.first_in j.first_stop_in i;
    second = N.place_own x.second x.second_stop j.second_in j.second_stop_in i;
    second_stop = N.place_number x.second x.second_stop j.second_in j.second_stop_in i;
  }

  -- two spans that share a timestep are found to collide
  share_found : (x : Dependency) → StopsCollide F x → collide S (first_place_lem x) (second_place_lem x) ≡ true
  share_found x c =
      let t : ℕ = c.timestep in
      let i : PairIn F x = pair_in F x c in
      let (a, here-first, since-first, until-first) = span_of F x.first x.first_stop c.first_location t c.first_there c.of_first in
      let (b, here-second, since-second, until-second) = span_of F x.second x.second_stop c.second_location t c.second_there c.of_second in
      let lower : owner_in p (first_place_lem x) < owner_in p (second_place_lem x) = omega (arith, c.lower_first, N.place_own x.first x.first_stop i.first_in a, N.place_own x.second x.second_stop i.second_in b) in
      let meet : F.meets (F.location x.first x.first_stop) (F.location x.second x.second_stop) ≡ true = rw (here-first, here-second) c.one_location in
      by_cases (collide S (first_place_lem x) (second_place_lem x)) (λ h. h) (λ h. absurd (elim (collide-not S (first_place_lem x) (second_place_lem x) lower meet h) [
        | inl o ↦ let (k, g) = over-gone x.first x.first_stop (F.time x.second x.second_stop) i.first_in a o in omega (arith, g, until-first k, since-second)
        | inr o ↦ let (k, g) = over-gone x.second x.second_stop (F.time x.first x.first_stop) i.second_in b o in omega (arith, g, until-second k, since-first)
      ]))

  -- .. and the other way round, of a plan whose single stops pass: they share the later of their first timesteps
  found_share : StopsChecked F → (x : Dependency) → PairIn F x → collide S (first_place_lem x) (second_place_lem x) ≡ true → StopsCollide F x
  found_share c x i h =
      let d : ℕ = x.first in
      let s : ℕ = x.first_stop in
      let e : ℕ = x.second in
      let k : ℕ = x.second_stop in
      let t : ℕ = max (F.time d s) (F.time e k) in
      let lower : d < e = by_cases (ltb d e) (λ g. ltb-true _ _ g) (λ g. true_or_false h (not-collide S (first_place_lem x) (second_place_lem x) (λ o q. absurd (omega (arith, o, ltb-false d e g, N.place_own d s i.first_in i.first_stop_in, N.place_own e k i.second_in i.second_stop_in))))) in
      let meet : F.meets (F.location d s) (F.location e k) ≡ true = by_cases (F.meets (F.location d s) (F.location e k)) (λ g. g) (λ g. true_or_false h (not-collide S (first_place_lem x) (second_place_lem x) (λ o q. true_or_false q g))) in
      let neither : OneOver S (first_place_lem x) (second_place_lem x) → ⊥ = λ o. true_or_false h (not-collide S (first_place_lem x) (second_place_lem x) (λ m q. o)) in
      let first : Occupies F d (F.location d s) t = record {
        stop = s;
        stop_in = i.first_stop_in;
        here = refl;
        since = omega arith;
        until = λ l. by_cases (ltb (F.time d (suc s)) (F.time e k)) (λ g. absurd (neither (inl (gone-over d s (F.time e k) i.first_in l (ltb-true _ _ g))))) (λ g. omega (arith, ltb-false (F.time d (suc s)) (F.time e k) g, c.rises d s i.first_in l));
      } in
      let second : Occupies F e (F.location e k) t = record {
        stop = k;
        stop_in = i.second_stop_in;
        here = refl;
        since = omega arith;
        until = λ l. by_cases (ltb (F.time e (suc k)) (F.time d s)) (λ g. absurd (neither (inr (gone-over e k (F.time d s) i.second_in l (ltb-true _ _ g))))) (λ g. omega (arith, ltb-false (F.time e (suc k)) (F.time d s) g, c.rises e k i.second_in l));
      } in
      record {
        lower_first = lower;
        second_in = i.second_in;
        first_location = F.location d s;
        second_location = F.location e k;
        timestep = t;
        one_location = meet;
        first_there = first;
        second_there = second;
        of_first = refl;
        of_second = refl;
      }

  -- the pair that is found
  module _ (c : StopsChecked F) (l : collider_in p < stop_total p) where
    abbrev found : Dependency
    found = pair (owner_in p) (number_in p) (collider_in p) (partner S (collider_in p))

    R : Reported p (collider_in p) (partner S (collider_in p))
    R = accepted_claims.reported p have l

    found-collides : StopsCollide F found
    found-collides = found_share c found (record {
      first_in = N.own_in (collider_in p) l;
      first_stop_in = N.number_in_lem (collider_in p) l;
      second_in = N.own_in (partner S (collider_in p)) R.second_in;
      second_stop_in = N.number_in_lem (partner S (collider_in p)) R.second_in;
    }) (rw (N.number_is (collider_in p) l, N.number_is (partner S (collider_in p)) R.second_in) R.collision)

    -- each pair that collides is this one, or stands after it
    found-least : (y : Dependency) → StopsCollide F y → ((collider_in p ≡ first_place_lem y) × (partner S (collider_in p) ≡ second_place_lem y)) ⊎ (before found y ≡ true)
    found-least y k =
        let i : PairIn F y = pair_in F y k in
        elim (R.lowest (first_place_lem y) (second_place_lem y) (first_place y i) (second_place y i) (share_found y k)) [ inl q ↦ inl q | inr q ↦ inr (subst (λ (z : Dependency). before found z ≡ true) (pair_is y i) q) ]

    found-lowest : LowestPair F found
    found-lowest = record {
      collide = found-collides;
      lowest = λ y k h. elim (found-least y k) [
        | inl (q, r) ↦ let same : found ≡ y = rw (r, q) (pair_is y (pair_in F y k)) in let z : before y y ≡ true = subst (λ (w : Dependency). before y w ≡ true) same h in before_asym y y z z
        | inr g ↦ before_asym found y g h
      ];
    }

  pair-says : (n : ℕ) (s u : StopAt) → check_in p ≡ refused_stops n s u → (n ≡ 10) × StopsChecked F × LowestPair F (stop_pair s u)
  unfolding check_of
  pair-says n s u h =
      let v : ℕ = first_fault S G in
      let w : ℕ = collider_in p in
      let (a, b, e) = stops_found (ltb v (stop_total p)) (ltb w (stop_total p)) (fault_at S G v) (stop_at (owner_in p) (number_in p) v) (stop_at (owner_in p) (number_in p) w) (stop_at (owner_in p) (number_in p) (partner S w)) n s u h in
      let (q, x, y) = same_stops 10 n (stop_at (owner_in p) (number_in p) w) (stop_at (owner_in p) (number_in p) (partner S w)) s u e in
      let c : StopsChecked F = stops_checked p have (omega (arith, ltb-false v (stop_total p) a, fault_first.within)) in
      (sym q, c, subst (λ (z : StopAt). LowestPair F (stop_pair s z)) y (subst (λ (z : StopAt). LowestPair F (stop_pair z (stop_at (owner_in p) (number_in p) (partner S w)))) x (found-lowest c (ltb-true _ _ b))))

  -- where a pair collides, one is found
  collider_in_lem : (x : Dependency) → StopsCollide F x → collider_in p < stop_total p
  unfolding collider
  collider_in_lem x k =
      let i : PairIn F x = pair_in F x k in
      let next : partner S (first_place_lem x) ≤ second_place_lem x = first_low (collide S (first_place_lem x)) (second_place_lem x) (stop_total p) (share_found x k) in
      let low : collider_in p ≤ first_place_lem x = first_low (λ v. ltb (partner S v) (stop_total p)) (first_place_lem x) (stop_total p) (lt-ltb (partner S (first_place_lem x)) (stop_total p) (omega (arith, next, second_place x i))) in
      omega (arith, low, first_place x i)

  says-pair : (s u : StopAt) → StopsChecked F → LowestPair F (stop_pair s u) → check_in p ≡ refused_stops 10 s u
  unfolding check_of
  says-pair s u c k =
      let x : Dependency = stop_pair s u in
      let i : PairIn F x = pair_in F x k.collide in
      let l : collider_in p < stop_total p = collider_in_lem x k.collide in
      let e : first_fault S G ≡ stop_total p = stops_pass S G _ _ _ _ _ N c in
      let (q, r) : (collider_in p ≡ first_place_lem x) × (partner S (collider_in p) ≡ second_place_lem x) = elim (found-least c l x k.collide) [ inl z ↦ z | inr g ↦ absurd (k.lowest (found c l) (found-collides c l) g) ] in
      rw (
        le-ltb (first_fault S G) (stop_total p) (omega (arith, e)),
        lt-ltb (collider_in p) (stop_total p) l,
        r,
        q,
        N.place_own s.drone s.stop i.first_in i.first_stop_in,
        N.place_number s.drone s.stop i.first_in i.first_stop_in,
        N.place_own u.drone u.stop i.second_in i.second_stop_in,
        N.place_number u.drone u.stop i.second_in i.second_stop_in,
      ) refl

  -- ---- both ways

  pub fault_exactly : (n : ℕ) (s : StopAt) → (check_in p ≡ refused_stop n s) ↔ FirstAtFault F n s.drone s.stop
  fault_exactly n s = (fault_says n s, says_fault n s)

  pub pair_exactly : (n : ℕ) (s u : StopAt) → (check_in p ≡ refused_stops n s u) ↔ ((n ≡ 10) × StopsChecked F × LowestPair F (stop_pair s u))
  pair_exactly n s u = (pair-says n s u, λ (q, c, k). rw q (says-pair s u c k))

-- ---- plans that agree

module _ (F G : FieldPlan) (A : PlansAgree F G) where
  breaks_agrees : (n d s : ℕ) → d < F.drones → s ≤ F.last d → Breaks F n d s → Breaks G n d s
  breaks_agrees n d zero l k (q, x) = (q, λ z. x (A.times_agree d 0 l k ∙ z))
  breaks_agrees n d (suc s) l k b = elim b [
    | inl (q, x) ↦ inl (q, omega (arith, x, A.times_agree d (suc s) l k, A.times_agree d s l (omega arith)))
    | inr (inl (q, x)) ↦ inr (inl (q, omega (arith, x, A.times_agree d (suc s) l k, A.times_agree d s l (omega arith), A.legs_agree d (suc s) l k)))
    | inr (inr (q, x)) ↦ inr (inr (q, sym (A.locations_agree d (suc s) l k) ∙ (x ∙ A.locations_agree d s l (omega arith))))
  ]

  occupies_agrees : (d l t : ℕ) → d < F.drones → Occupies F d l t → Occupies G d l t
  occupies_agrees d l t i a = record {
    stop = a.stop;
    stop_in = omega (arith, A.lasts_agree d i, a.stop_in);
    here = sym (A.locations_agree d a.stop i a.stop_in) ∙ a.here;
    since = omega (arith, A.times_agree d a.stop i a.stop_in, a.since);
    until = λ k. let m : a.stop < F.last d = omega (arith, A.lasts_agree d i) in omega (arith, A.times_agree d (suc a.stop) i m, a.until m);
  }

  collide-agrees : (x : Dependency) → StopsCollide F x → StopsCollide G x
  unfolding occupies_agrees
  collide-agrees x c = record {
    lower_first = c.lower_first;
    second_in = omega (arith, A.drones_agree, c.second_in);
    first_location = c.first_location;
    second_location = c.second_location;
    timestep = c.timestep;
    one_location = sym (A.meets_agree c.first_location c.second_location) ∙ c.one_location;
    first_there = occupies_agrees x.first c.first_location c.timestep (omega (arith, c.lower_first, c.second_in)) c.first_there;
    second_there = occupies_agrees x.second c.second_location c.timestep c.second_in c.second_there;
    of_first = c.of_first;
    of_second = c.of_second;
  }

pub fault_agrees : (F G : FieldPlan) → PlansAgree F G → (n d s : ℕ) → FirstAtFault F n d s → FirstAtFault G n d s
fault_agrees F G A n d s f =
    let B : PlansAgree G F = agree_back A in
    let l : d < G.drones = omega (arith, A.drones_agree, f.drone_in) in
    let k : s ≤ G.last d = omega (arith, A.lasts_agree d f.drone_in, f.stop_in) in
    record {
      drone_in = l;
      stop_in = k;
      broken = breaks_agrees F G A n d s f.drone_in f.stop_in f.broken;
      first_rule = λ m h b. f.first_rule m h (breaks_agrees G F B m d s l k b);
      first_stop = λ m e j x y h b. f.first_stop m e j (omega (arith, A.drones_agree)) (omega (arith, B.lasts_agree e x)) h (breaks_agrees G F B m e j x y b);
    }

pub lowest-agrees : (F G : FieldPlan) → PlansAgree F G → (x : Dependency) → LowestPair F x → LowestPair G x
lowest-agrees F G A x k = record { collide = collide-agrees F G A x k.collide; lowest = λ y c. k.lowest y (collide-agrees G F (agree_back A) y c) }
