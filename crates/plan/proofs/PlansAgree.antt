-- Plans that agree are checked, accepted and collide alike; counts of stops that agree number the stops alike. Assumes nothing.
use mathlib.Core.Path.{◌≡◌, refl, sym, ap, ◌∙◌, subst}
use mathlib.Core.Logic.{inl, inr, ◌↔◌}
use mathlib.Core.Bool.{true}
use mathlib.Core.List.{List}
use Prim.Native.Nat.{ℕ, suc, ◌≤◌, ◌<◌}
use native.Mathlib.Omega.{arith}
use lib.Dec.{ltb}
use Rattle.below.specs.Below.{at}
use Rattle.below.proofs.Search.{first_below_ext}
use Rattle.below.proofs.Sum.{sum_ext}
use Rattle.tables.specs.Tables.{PlanLists}
use Rattle.plan.specs.Stops.{start, owner, stop_number}
use Rattle.plan.specs.Field.{Dependency, FieldPlan, GoneBefore, Checked, Meeting, AcceptedPlan, PlansAgree, plan_of}
use Rattle.plan.specs.Claims.{leg_in, visits_in, HaveStops, NoFault, NoCollision, StopsChecked, LocatedAt, Leaves, Enters, Collides, Never}
use Rattle.plan.proofs.Numbering.{owner_le}
use Rattle.plan.proofs.Accepted.{stops_numbered, stops_checked, stops_pass}
use Rattle.plan.proofs.Definition1.{definition_1}

-- ---- plans that agree

pub agree_back : {F G : FieldPlan} → PlansAgree F G → PlansAgree G F
agree_back {F} {G} A = record {
  drones_agree = sym A.drones_agree;
  lasts_agree = λ d l. sym (A.lasts_agree d (here d l));
  locations_agree = λ d s l k. sym (A.locations_agree d s (here d l) (there d s l k));
  times_agree = λ d s l k. sym (A.times_agree d s (here d l) (there d s l k));
  legs_agree = λ d s l k. sym (A.legs_agree d s (here d l) (there d s l k));
  meets_agree = λ a b. sym (A.meets_agree a b);
  counts_agree = sym A.counts_agree;
  dependencies_agree = λ w l. sym (A.dependencies_agree w (omega (arith, A.counts_agree)));
}
  where
    here : (d : ℕ) → d < G.drones → d < F.drones
    here d l = omega (arith, A.drones_agree)

    there : (d s : ℕ) → d < G.drones → s ≤ G.last d → s ≤ F.last d
    there d s l k = omega (arith, A.lasts_agree d (here d l))

module _ (F G : FieldPlan) (A : PlansAgree F G) where
  -- a drone and a stop of the one are there in the other
  drone_there : (d : ℕ) → d < F.drones → d < G.drones
  drone_there d l = omega (arith, A.drones_agree)

  stop-there : (d s : ℕ) → d < F.drones → s ≤ F.last d → s ≤ G.last d
  stop-there d s l k = omega (arith, A.lasts_agree d l)

  meets_there : (a b : ℕ) → F.meets a b ≡ true → G.meets a b ≡ true
  meets_there a b q = sym (A.meets_agree a b) ∙ q

  meets_here : (a b : ℕ) → G.meets a b ≡ true → F.meets a b ≡ true
  meets_here a b q = A.meets_agree a b ∙ q

  -- ---- the plan check

  pub agree_stops : StopsChecked G → StopsChecked F
  agree_stops c = record {
    starts = λ d l. A.times_agree d 0 l (omega arith) ∙ c.starts d (drone_there d l);
    rises = λ d s l k. omega (arith, A.times_agree d s l (omega arith), A.times_agree d (suc s) l k, c.rises d s (drone_there d l) (stop-there d (suc s) l k));
    rises_by_leg = λ d s l k. omega (arith, A.times_agree d s l (omega arith), A.times_agree d (suc s) l k, A.legs_agree d (suc s) l k, c.rises_by_leg d s (drone_there d l) (stop-there d (suc s) l k));
    moves = λ d s l k q. c.moves d s (drone_there d l) (stop-there d (suc s) l k) (sym (A.locations_agree d s l (omega arith)) ∙ q ∙ A.locations_agree d (suc s) l k);
  }

  at-agrees : (d l t : ℕ) → d < F.drones → LocatedAt F d l t → LocatedAt G d l t
  at-agrees d l t i a = record {
    stop = a.stop;
    stop_in = stop-there d a.stop i a.stop_in;
    here = sym (A.locations_agree d a.stop i a.stop_in) ∙ a.here;
    since = omega (arith, A.times_agree d a.stop i a.stop_in, a.since);
    until = λ k. let m : a.stop < F.last d = omega (arith, A.lasts_agree d i) in omega (arith, A.times_agree d (suc a.stop) i m, a.until m);
  }

  leaves-agrees : (d l t : ℕ) → d < F.drones → Leaves F d l t → Leaves G d l t
  leaves-agrees d l t i a = record {
    stop = a.stop;
    goes_on = stop-there d (suc a.stop) i a.goes_on;
    here = sym (A.locations_agree d a.stop i (omega (arith, a.goes_on))) ∙ a.here;
    then = sym (A.times_agree d (suc a.stop) i a.goes_on) ∙ a.then;
  }

  enters_agrees : (d l t : ℕ) → d < F.drones → Enters F d l t → Enters G d l t
  enters_agrees d l t i a = record {
    stop = a.stop;
    goes_on = stop-there d (suc a.stop) i a.goes_on;
    here = sym (A.locations_agree d (suc a.stop) i a.goes_on) ∙ a.here;
    then = sym (A.times_agree d (suc a.stop) i a.goes_on) ∙ a.then;
  }

  pub agree_never : Never G (Collides G) → Never F (Collides F)
  agree_never never i j x y ne (l, m, t, q, c) = elim c [
    | inl (a, b) ↦ never i j (drone_there i x) (drone_there j y) ne (l, m, t, meets_there l m q, inl (at-agrees i l t x a, at-agrees j m t y b))
    | inr (a, b) ↦ never i j (drone_there i x) (drone_there j y) ne (l, m, t, meets_there l m q, inr (leaves-agrees i l t x a, enters_agrees j m t y b))
  ]

  -- ---- the dependencies

  gone-agrees : (d s e k : ℕ) → d < F.drones → e < F.drones → k ≤ F.last e → GoneBefore G d s e k → GoneBefore F d s e k
  gone-agrees d s e k l x y g =
      let m : s < F.last d = omega (arith, A.lasts_agree d l, g.goes_on) in
      record { goes_on = m; in_time = omega (arith, A.times_agree d (suc s) l m, A.times_agree e k x y, g.in_time) }

  pub agree_checked : Checked G → Checked F
  agree_checked c =
      let stops : StopsChecked F = agree_stops (record { starts = c.starts; rises = c.rises; rises_by_leg = c.rises_by_leg; moves = c.moves }) in
      record {
        starts = stops.starts;
        rises = stops.rises;
        rises_by_leg = stops.rises_by_leg;
        moves = stops.moves;
        symmetric = λ a b q. meets_here b a (c.symmetric a b (meets_there a b q));
        no_collision = λ d s e k l m x y ne q. elim (c.no_collision d s e k (drone_there d l) (stop-there d s l m) (drone_there e x) (stop-there e k x y) ne (rw (A.locations_agree d s l m, A.locations_agree e k x y) at (meets_there _ _ q))) [
          | inl g ↦ inl (gone-agrees d s e k l x y g)
          | inr g ↦ inr (gone-agrees e k d s x l m g)
        ];
      }

  meeting_agrees : (x : Dependency) → Meeting F x → Meeting G x
  meeting_agrees x m = record {
    first_in = drone_there x.first m.first_in;
    first_stop_in = stop-there x.first x.first_stop m.first_in m.first_stop_in;
    second_in = drone_there x.second m.second_in;
    second_stop_in = stop-there x.second x.second_stop m.second_in m.second_stop_in;
    different = m.different;
    one_location = rw (A.locations_agree x.first x.first_stop m.first_in m.first_stop_in, A.locations_agree x.second x.second_stop m.second_in m.second_stop_in) at (meets_there _ _ m.one_location);
    there_first = omega (arith, A.times_agree x.first x.first_stop m.first_in m.first_stop_in, A.times_agree x.second x.second_stop m.second_in m.second_stop_in, m.there_first);
  }

-- a plan that agrees with an accepted one is accepted
pub agree_accepted : (F G : FieldPlan) → PlansAgree F G → AcceptedPlan G → AcceptedPlan F
agree_accepted F G A accepted = record {
  checked = agree_checked F G A accepted.checked;
  each = λ w l. subst (Meeting F) (sym (A.dependencies_agree w l)) (meeting_agrees G F (agree_back A) (G.dependency w) (accepted.each w (omega (arith, A.counts_agree))));
  every = λ x m. let (w, l, e) = accepted.every x (meeting_agrees F G A x m) in let k : w < F.count = omega (arith, A.counts_agree) in (w, k, A.dependencies_agree w k ∙ e);
  ordered = λ v w l k. rw (A.dependencies_agree v (omega arith), A.dependencies_agree w k) (accepted.ordered v w l (omega (arith, A.counts_agree)));
  flies = λ d s l k. omega (arith, A.legs_agree d (suc s) l k, accepted.flies d s (drone_there F G A d l) (stop-there F G A d (suc s) l k));
}

-- ---- numberings that agree

-- counts of stops that are equal for n drones number the stops alike
module _ (n : ℕ) (cs ds : List ℕ) (same : (d : ℕ) → d < n → at cs d ≡ at ds d) where
  pub start-same : (d : ℕ) → d ≤ n → start cs d ≡ start ds d
  unfolding start
  start-same d l = sum_ext d (at cs) (at ds) (λ i k. same i (omega arith))

  pub owner-same : (v : ℕ) → owner n cs v ≡ owner n ds v
  unfolding owner
  owner-same v = first_below_ext n _ _ (λ d l. ap (ltb v) (start-same (suc d) l))

  pub number_same : (v : ℕ) → stop_number n cs v ≡ stop_number n ds v
  unfolding stop_number
  number_same v = rw (owner-same v, start-same (owner n ds v) (owner_le n ds v)) refl

-- ---- the check of a plan in lists

-- the single stops' rules and 004's Definition 1 are what the check finds nothing against
module _ (p : PlanLists) (have : HaveStops p) where
  pub passes_exactly : (NoFault p × NoCollision p) ↔ (StopsChecked (plan_of p) × Never (plan_of p) (Collides (plan_of p)))
  passes_exactly = (λ (e, a). (stops_checked p have e, (definition_1.collisions p have e).0 a), λ (c, never). let e : NoFault p = stops_pass (visits_in p) (leg_in p) _ _ _ _ _ (stops_numbered p have) c in (e, (definition_1.collisions p have e).1 never))
