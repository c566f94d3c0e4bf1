-- Parts of the raising, one after another. Assumes nothing.
use mathlib.Core.Path.{◌≡◌, refl, sym, ◌∙◌, subst}
use mathlib.Core.Logic.{◌⊎◌, inl, inr}
use mathlib.Core.List.{List, []}
use mathlib.Core.Bool.{Bool, true, false}
use Prim.Native.Nat.{ℕ, ◌+◌, ◌-◌, ◌≤◌, ◌<◌}
use native.Mathlib.Omega.{arith}
use lib.Dec.{ltb, eqb}
use borrow.Author.Tests.{ltb-true, ltb-false, eqb-true, eqb-false, eq-eqb}
use Rattle.below.specs.Below.{at, last_below}
use Rattle.below.proofs.Tests.{by_cases, true_or_false}
use Rattle.below.proofs.Links.{last_le, last_found, last_above}
use Rattle.precedence.specs.Graph.{Edge, dep, Cycle}
use Rattle.tables.specs.Limits.{Limits}
use Rattle.cycles.specs.Flat.{PlacedWaits}
use Rattle.cycles.specs.Walk.{Course, course_plan, course_with, RoundTable}
use Rattle.raising.specs.Lifting.{log_room, LogAt, LogsOn, Raisable, ToLookAt, none_left, first_waits, Quiet, NoRoom, Lifted, Offered, stop_vertex, FromStop, latest_into, Lifting, PartRaised, OutBefore, Logged, RaisedTable}
use Rattle.raising.proofs.LogLaws.{logged_more, log_now}
use Rattle.raising.proofs.LiftLaws.{latest-own, latest_wait, own-edge, from_edge, lift_begun, lift_more, more-kept, lift_narrow, lift_taken}

-- an edge that was offered, whatever came of it
pub offered_logs : (L : Limits) {own leg start : ℕ → ℕ} {u w top : ℕ} {t ls lo : List ℕ} {full : Bool} {r : ℕ} {t' ls' lo' : List ℕ} → Offered log_room own leg start u w top t ls lo full r t' ls' lo' → w < L.stops → leg w ≤ L.leg → LogsOn L top t ls lo r t' ls' lo'
offered_logs L {own} {leg} {start} {u} {w} {top} {t} {ls} {lo} {full} {r} {t'} {ls'} {lo'} F i short base t₀ G = go F.came
  where
    go : Quiet own leg start u w top t ls lo full r t' ls' lo' ⊎ (NoRoom top t ls lo full r t' ls' lo' ⊎ Lifted log_room own leg start u w top t ls lo full r t' ls' lo') → Logged L.leg L.stops log_room base t₀ r t' ls' lo'
    go (inl (f, er, et, es, eo, k)) = rw (er, et, es, eo) G
    go (inr (inl (f, er, et, es, eo))) = rw (er, et, es, eo) G
    go (inr (inr (f, l, er, o, low, et, es, eo))) = rw (er, et, es, eo) (logged_more L.leg L.stops log_room G w (leg w + at t u) l i (omega (arith, G.small u)))

-- the waits for a stop, linked

pub link_falls : (from : ℕ → ℕ) {wait link : ℕ} → 0 < wait → link ≡ last_below (wait - 1) (λ k. eqb (from k) (from (wait - 1))) → link < wait
link_falls from {wait} pos e = omega (arith, last_le (wait - 1) (λ k. eqb (from k) (from (wait - 1))))

pub link-found : (from : ℕ → ℕ) {u wait link : ℕ} → 0 < wait → ((j : ℕ) → wait ≡ j + 1 → from j ≡ u) → link ≡ last_below (wait - 1) (λ k. eqb (from k) (from (wait - 1))) → (j : ℕ) → link ≡ j + 1 → from j ≡ u
link-found from {u} {wait} pos found e j f =
    let z : wait ≡ wait - 1 + 1 = omega arith in
    eqb-true (from j) (from (wait - 1)) (last_found (wait - 1) (λ k. eqb (from k) (from (wait - 1))) j (sym e ∙ f)) ∙ found (wait - 1) z

pub head_found : (from : ℕ → ℕ) (m : ℕ) {u link : ℕ} → link ≡ last_below m (λ k. eqb (from k) u) → (j : ℕ) → link ≡ j + 1 → from j ≡ u
head_found from m {u} e j f = eqb-true (from j) u (last_found m (λ k. eqb (from k) u) j (sym e ∙ f))

module _ {L : Limits} {owners starts lasts : List ℕ} {drones n : ℕ} {fs is : List ℕ} {waits : ℕ} {legs cur : List ℕ} (R : Raisable L owners starts lasts drones n fs is waits legs cur) where
  abbrev C : Course
  C = course_with owners starts lasts drones n fs is waits

  abbrev own : ℕ → ℕ
  own = at owners

  abbrev leg : ℕ → ℕ
  leg = at legs

  abbrev start : ℕ → ℕ
  start = at cur

  abbrev from : ℕ → ℕ
  from = at fs

  abbrev into : ℕ → ℕ
  into = at is

  abbrev placed : PlacedWaits own (at starts) (at lasts) drones n from into waits
  placed = R.tables.placed

  -- the leg into a stop that is waited for
  pub short-into : (k : ℕ) → k < waits → leg (into k) ≤ L.leg
  short-into k l = R.short_legs (into k) (placed.into_in k l)

  offered_lifts : {u w top : ℕ} {t ls lo : List ℕ} {full : Bool} {r : ℕ} {t' ls' lo' : List ℕ} {p : List ℕ} {b base h : ℕ} {o q : ℕ → Type 0} → Offered log_room own leg start u w top t ls lo full r t' ls' lo' → full ≡ false → w < n → LogAt L top t ls lo → at t u ≤ latest_into C (at t) w → (start (own w) < w → FromStop C b w) → Lifting C leg start p b base h top o q t ls
      → Lifting C leg start p b base h r o q t' ls' × (start (own w) < w → ToLookAt p ls' h r u ⊎ (leg w + at t' u ≤ at t' w))
  offered_lifts {u} {w} {top} {t} {ls} {lo} {full} {r} {t'} {ls'} {lo'} {p} {b} {base} {h} {o} {q} F e i G al reach S = go F.came
    where
      quiet : (w ≤ start (own w)) ⊎ (leg w + at t u ≤ at t w) → start (own w) < w → ToLookAt p ls h top u ⊎ (leg w + at t u ≤ at t w)
      quiet (inl z) l = absurd (omega arith)
      quiet (inr z) l = inr z

      go : Quiet own leg start u w top t ls lo full r t' ls' lo' ⊎ (NoRoom top t ls lo full r t' ls' lo' ⊎ Lifted log_room own leg start u w top t ls lo full r t' ls' lo') → Lifting C leg start p b base h r o q t' ls' × (start (own w) < w → ToLookAt p ls' h r u ⊎ (leg w + at t' u ≤ at t' w))
      go (inl (f, er, et, es, eo, k)) = rw (er, et, es) (S, quiet k)
      go (inr (inl (f, er, et, es, eo))) = true_or_false f e
      go (inr (inr (f, l, er, out, low, et, es, eo))) = rw (er, et, es) (lift_more C placed leg start R.stands S u w i (omega (arith, R.tables.few_stops, G.table_size)) (omega (arith, G.stops_size)) out low al (reach out), λ z. more-kept C placed leg start R.stands S u w i (omega (arith, R.tables.few_stops, G.table_size)) (omega (arith, G.stops_size)) out low al (reach out))

  -- ---- one part after another, and parts in which nothing is stored

  pub goes_then : {u : ℕ} {o q o₁ q₁ o₂ q₂ : ℕ → Type 0} {top r₁ r₂ : ℕ} {t ls lo t₁ ls₁ lo₁ t₂ ls₂ lo₂ : List ℕ} {full : Bool}
      → PartRaised C leg start L u o q o₁ q₁ top t ls lo false r₁ t₁ ls₁ lo₁ → PartRaised C leg start L u o₁ q₁ o₂ q₂ r₁ t₁ ls₁ lo₁ full r₂ t₂ ls₂ lo₂ → PartRaised C leg start L u o q o₂ q₂ top t ls lo full r₂ t₂ ls₂ lo₂
  goes_then A B = record {
    logs = λ base t₀ G. B.logs base t₀ (A.logs base t₀ G);
    lifts = λ e p b base h reach S. B.lifts e p b base h reach (A.lifts refl p b base h reach S);
  }

  pub goes_stay : {u : ℕ} {o q : ℕ → Type 0} {top : ℕ} {t ls lo : List ℕ} → PartRaised C leg start L u o q o q top t ls lo false top t ls lo
  goes_stay = record { logs = λ base t₀ G. G; lifts = λ e p b base h reach S. S }

  pub goes-past : {u : ℕ} {q : ℕ → Type 0} {top : ℕ} {t ls lo : List ℕ} → n ≤ u + 1 → PartRaised C leg start L u (λ v. v ≡ u) q none_left q top t ls lo false top t ls lo
  goes-past {u} {q} le = record {
    logs = λ base t₀ G. G;
    lifts = λ e p b base h reach S. lift_narrow C placed leg start R.stands S none_left q (λ v l z. absurd (omega arith)) (λ k l z. inl z);
  }

  pub goes_first : {u link : ℕ} {top : ℕ} {t ls lo : List ℕ} → link ≡ last_below waits (λ k. eqb (from k) u) → PartRaised C leg start L u none_left (λ k. from k ≡ u) none_left (OutBefore C u link) top t ls lo false top t ls lo
  goes_first {u} {link} e = record {
    logs = λ base t₀ G. G;
    lifts = λ f p b base h reach S. lift_narrow C placed leg start R.stands S none_left (OutBefore C u link) (λ v l z. inl z)
        (λ k l z. inl (
          z,
          by_cases (ltb k link)
              (λ y. ltb-true k link y)
              (λ y. true_or_false (eq-eqb (from k) u z) (last_above waits (λ k. eqb (from k) u) k (omega (arith, ltb-false k link y)) l)),
        ));
  }

  pub goes_last : {u link : ℕ} {top : ℕ} {t ls lo : List ℕ} → link ≡ 0 → PartRaised C leg start L u none_left (OutBefore C u link) none_left none_left top t ls lo false top t ls lo
  goes_last {u} {link} e = record {
    logs = λ base t₀ G. G;
    lifts = λ f p b base h reach S. lift_narrow C placed leg start R.stands S none_left none_left (λ v l z. inl z) (λ k l z. absurd (let y : k < link = z.1 in omega arith));
  }

  -- ---- an edge

  module _ {top : ℕ} {t ls lo : List ℕ} (G : LogAt L top t ls lo) {full : Bool} {r : ℕ} {t' ls' lo' : List ℕ} where
    pub goes-own : {u : ℕ} {q : ℕ → Type 0} → Offered log_room own leg start u (u + 1) top t ls lo full r t' ls' lo' → u + 1 < n → PartRaised C leg start L u (λ v. v ≡ u) q none_left q top t ls lo full r t' ls' lo'
    goes-own {u} {q} F l = record {
      logs = offered_logs L F (omega (arith, R.tables.few_stops)) (R.short_legs (u + 1) l);
      lifts = λ e p b base h reach S.
          let before : u + 1 - 1 ≡ u = omega arith in
          let (A, k) = offered_lifts F e l G (subst (λ (z : ℕ). at t z ≤ latest_into C (at t) (u + 1)) before (latest-own C (at t) (u + 1))) (λ z. from_edge C placed leg start R.stands reach (own-edge C placed leg start R.stands u l z)) S in
          lift_narrow C placed leg start R.stands A none_left q (λ v i g. inr (subst (λ (z : ℕ). start (own (z + 1)) < z + 1 → ToLookAt p ls' h r z ⊎ (leg (z + 1) + at t' z ≤ at t' (z + 1))) (sym g) k)) (λ k i g. inl g);
    }

    pub goes_wait : {u w j link : ℕ} → Offered log_room own leg start u w top t ls lo full r t' ls' lo' → j < waits → from j ≡ u → into j ≡ w → link ≡ last_below j (λ k. eqb (from k) (from j)) → PartRaised C leg start L u none_left (OutBefore C u (j + 1)) none_left (OutBefore C u link) top t ls lo full r t' ls' lo'
    goes_wait {u} {w} {j} {link} F l ef ei el = record {
      logs = offered_logs L F (omega (arith, placed.into_in j l, R.tables.few_stops)) (subst (λ (z : ℕ). leg z ≤ L.leg) ei (short-into j l));
      lifts = λ e p b base h reach S.
          let al : at t u ≤ latest_into C (at t) w = subst (λ (z : ℕ). at t z ≤ latest_into C (at t) w) ef (subst (λ (z : ℕ). at t (from j) ≤ latest_into C (at t) z) ei (latest_wait C (at t) j l)) in
          let leads : Edge (course_plan C) (stop_vertex C u) (stop_vertex C w) = subst (λ (z : ℕ). Edge (course_plan C) (stop_vertex C z) (stop_vertex C w)) ef (subst (λ (z : ℕ). Edge (course_plan C) (stop_vertex C (from j)) (stop_vertex C z)) ei (dep j l)) in
          let (A, k) = offered_lifts F e (omega (arith, placed.into_in j l)) G al (λ z. from_edge C placed leg start R.stands reach leads) S in
          lift_narrow C placed leg start R.stands A none_left (OutBefore C u link) (λ v i g. inl g) (λ y i g. dealt y g p b base h k);
    }
      where
        dealt : (y : ℕ) → OutBefore C u (j + 1) y → (p : List ℕ) (b base h : ℕ) → (start (own w) < w → ToLookAt p ls' h r u ⊎ (leg w + at t' u ≤ at t' w)) → OutBefore C u link y ⊎ (start (own (into y)) < into y → ToLookAt p ls' h r (from y) ⊎ (leg (into y) + at t' (from y) ≤ at t' (into y)))
        dealt y (f, lt) p b base h k = by_cases (ltb y link)
            (λ c. inl (f, ltb-true y link c))
            (λ c. by_cases (eqb y j)
            (λ d. let z : y ≡ j = eqb-true y j d in inr (subst (λ (x : ℕ). start (own (into x)) < into x → ToLookAt p ls' h r (from x) ⊎ (leg (into x) + at t' (from x) ≤ at t' (into x))) (sym z)
            (subst (λ (x : ℕ). start (own x) < x → ToLookAt p ls' h r (from j) ⊎ (leg x + at t' (from j) ≤ at t' x)) (sym ei) (subst (λ (x : ℕ). start (own w) < w → ToLookAt p ls' h r x ⊎ (leg w + at t' x ≤ at t' w)) (sym ef) k))))
            (λ d. true_or_false (eq-eqb (from y) (from j) (f ∙ sym ef)) (last_above j (λ k. eqb (from k) (from j)) y (omega (arith, ltb-false y link c)) (omega (arith, eqb-false y j d)))))

  -- ---- a turn of the loop over the waits for a stop

  pub goes-turn : {u wait w link : ℕ} {top : ℕ} {t ls lo : List ℕ} {top₁ : ℕ} {t₁ ls₁ lo₁ : List ℕ} {full : Bool} {r : ℕ} {t' ls' lo' : List ℕ} → LogAt L top t ls lo
      → PartRaised C leg start L u none_left (λ k. from k ≡ u) none_left (OutBefore C u wait) top t ls lo false top₁ t₁ ls₁ lo₁ → Offered log_room own leg start u w top₁ t₁ ls₁ lo₁ full r t' ls' lo' → 0 < wait → wait ≤ waits → ((j : ℕ) → wait ≡ j + 1 → from j ≡ u) → w ≡ into (wait - 1) → link ≡ last_below (wait - 1) (λ k. eqb (from k) (from (wait - 1)))
      → PartRaised C leg start L u none_left (λ k. from k ≡ u) none_left (OutBefore C u link) top t ls lo full r t' ls' lo'
  goes-turn {u} {wait} {w} {link} {top} {t} {ls} {lo} {top₁} {t₁} {ls₁} {lo₁} G A F pos le found ew el =
      let e : wait ≡ wait - 1 + 1 = omega arith in
      goes_then (subst (λ (z : ℕ). PartRaised C leg start L u none_left (λ k. from k ≡ u) none_left (OutBefore C u z) top t ls lo false top₁ t₁ ls₁ lo₁) e A) (goes_wait (log_now L A.logs G) F (omega arith) (found (wait - 1) e) (sym ew) el)

  pub goes-full : {u : ℕ} {o q o' q' o'' q'' : ℕ → Type 0} {top : ℕ} {t ls lo : List ℕ} {full : Bool} {r : ℕ} {t' ls' lo' : List ℕ} → full ≡ true → PartRaised C leg start L u o q o' q' top t ls lo full r t' ls' lo' → PartRaised C leg start L u o q o'' q'' top t ls lo full r t' ls' lo'
  goes-full e A = record { logs = A.logs; lifts = λ f. true_or_false e f }

  -- ---- the whole raising: the new wait offered first, then stops are taken from the worklist

  module _ (m : ℕ) (last_one : waits ≡ m + 1) {top : ℕ} {t ls lo : List ℕ} (G : LogAt L top t ls lo) (T : RoundTable (first_waits C m) leg start (at t)) {a b : ℕ} (ea : a ≡ from m) (eb : b ≡ into m) where
    pub raise_begun : {full : Bool} {r : ℕ} {t' ls' lo' : List ℕ} → Offered log_room own leg start a b top t ls lo full r t' ls' lo' → full ≡ false → Lifting C leg start [] b top top r none_left none_left t' ls'
    raise_begun {full} {r} {t'} {ls'} {lo'} F e =
        let l : m < waits = omega arith in
        let al : at t a ≤ latest_into C (at t) b = subst (λ (z : ℕ). at t z ≤ latest_into C (at t) b) (sym ea) (subst (λ (z : ℕ). at t (from m) ≤ latest_into C (at t) z) (sym eb) (latest_wait C (at t) m l)) in
        let (A, k) = offered_lifts F e (omega (arith, placed.into_in m l)) G al (λ z. inl refl) (lift_begun C placed leg start R.stands m b top t ls last_one T) in
        lift_narrow C placed leg start R.stands A none_left none_left (λ v i g. inl g) (λ y i g. inr (subst (λ (z : ℕ). start (own (into z)) < into z → ToLookAt [] ls' top r (from z) ⊎ (leg (into z) + at t' (from z) ≤ at t' (into z))) (sym g) (subst (λ (z : ℕ). start (own z) < z → ToLookAt [] ls' top r (from m) ⊎ (leg z + at t' (from m) ≤ at t' z)) eb (subst (λ (z : ℕ). start (own b) < b → ToLookAt [] ls' top r z ⊎ (leg b + at t' z ≤ at t' b)) ea k))))

  pub raise_taken : {p : List ℕ} {u b base h end : ℕ} {t ls lo : List ℕ} {r : ℕ} {t' ls' lo' : List ℕ} {full : Bool} → Lifting C leg start p b base h end none_left none_left t ls → h < end → u ≡ at ls h → PartRaised C leg start L u (λ v. v ≡ u) (λ k. from k ≡ u) none_left none_left end t ls lo full r t' ls' lo' → full ≡ false → Lifting C leg start p b base (h + 1) r none_left none_left t' ls'
  raise_taken {p} {u} {b} {base} {h} {end} {t} {ls} S l e A f = A.lifts f p b base (h + 1) (subst (FromStop C b) (sym e) (S.reached h S.from_base l).1) (lift_taken C placed leg start R.stands S l u e)

  -- ---- what the raising tells

  module _ {top : ℕ} {t ls lo : List ℕ} {r : ℕ} {t' ls' lo' : List ℕ} (logs : LogsOn L top t ls lo r t' ls' lo') where
    pub raised_full : {cy : Bool} → RaisedTable C leg start L top t ls lo true cy r t' ls' lo'
    raised_full = record { logs = logs; settles = λ e. true_or_false refl e; finds = λ e. true_or_false refl e }

    pub raised_cyclic : Cycle (course_plan C) → RaisedTable C leg start L top t ls lo false true r t' ls' lo'
    raised_cyclic x = record { logs = logs; settles = λ e f. true_or_false refl f; finds = λ e f. x }

    pub raised_settled : RoundTable C leg start (at t') → RaisedTable C leg start L top t ls lo false false r t' ls' lo'
    raised_settled T = record { logs = logs; settles = λ e f. T; finds = λ e f. true_or_false f refl }
