-- Storing a plan, case by case. The local tables hold the plan's own drones and numbers of the stops, so the plan check and the building answer as for the plan itself.
-- Assumes nothing.
use Rattle.std.specs.Prelude.{⊤, Option, Some, None, Result, Ok, Err}
use Rattle.plan.specs.declared.check.PlanFault.{PlanFault}
use mathlib.Core.Path.{◌≡◌, refl, sym, ap, ap₂, ◌∙◌}
use mathlib.Core.Bool.{Bool, true, false, cond}
use mathlib.Core.List.{List, [], ◌∷◌}
use Prim.Native.Nat.{ℕ, ◌≤◌, ◌<◌}
use native.Mathlib.Omega.{arith}
use lib.Dec.{leb}
use lib.ListN.{length}
use lib.Seq.{sets}
use borrow.Author.Tests.{leb-true}
use Rattle.below.specs.Below.{at, fill_below}
use Rattle.below.proofs.Fill.{get_d_fill}
use Rattle.tables.specs.Limits.{Limits}
use Rattle.tables.specs.Tables.{PlanLists, Tables, drones}
use Rattle.plan.specs.Stops.{start, owner, stop_number}
use Rattle.plan.specs.Answers.{check_of}
use Rattle.plan.specs.Visits.{Visits, visits_with, visits_of}
use Rattle.plan.specs.Field.{meets_of}
use Rattle.plan.specs.Claims.{stop_total, owner_in, number_in, location_in, time_in, visits_in, planned_total}
use Rattle.plan.specs.Dependencies.{flag_of, dependency_total, column}
use Rattle.plan.specs.Columns.{Columns, columns_with, written, pick_columns, pick_built, built_of, built_in}
use Rattle.reading.specs.Replies.{ReadingReply, taken, refused_by, is_taken, refusal_meant, check_meant}
use Rattle.reading.specs.Reading.{ReadingAnswer, with_reply, AnsweredAs, with_dependencies, check_in, built, after_check, stored}
use Rattle.reading.specs.declared.replies.Refusal.{Refusal}
use Rattle.reading.proofs.ReplyLaws.{refusal_not_taken}
use Rattle.plan.proofs.Agree.{total-same, column-same, flag_same, check_same}

-- ---- the local tables

-- they hold the drone and the number of each of the plan's n stops
pub record Filled (p : PlanLists) (n : ℕ) (os ns : List ℕ) : Type 0 where
  pub total_is : n ≡ stop_total p
  pub owners : (v : ℕ) → v < n → at os v ≡ owner_in p v
  pub numbers : (v : ℕ) → v < n → at ns v ≡ number_in p v

pub fills : (p : PlanLists) (d n : ℕ) (os ns os' ns' : List ℕ) → d ≡ drones p → n ≡ start p.stop_counts d → os' ≡ fill_below n (owner d p.stop_counts) os → ns' ≡ fill_below n (stop_number d p.stop_counts) ns → stop_total p ≤ length os → stop_total p ≤ length ns
    → Filled p n os' ns'
fills p d n os ns os' ns' ed e eo en ro rn = record {
  total_is = total;
  owners = λ v l. rw eo (get_d_fill (owner d p.stop_counts) os n v l (omega (arith, total, ro))) ∙ ap (λ (k : ℕ). owner k p.stop_counts v) ed;
  numbers = λ v l. rw en (get_d_fill (stop_number d p.stop_counts) ns n v l (omega (arith, total, rn))) ∙ ap (λ (k : ℕ). stop_number k p.stop_counts v) ed;
}
  where
    total : n ≡ stop_total p
    total = e ∙ ap (start p.stop_counts) ed

-- the visits by the local tables, and n visits by the plan
abbrev local_visits : PlanLists → ℕ → (os ns : List ℕ) → Visits
local_visits p n os ns = visits_of (meets_of p) os ns p.locations p.times n

abbrev plan_visits : PlanLists → ℕ → Visits
plan_visits p n = visits_with (meets_of p) (owner_in p) (number_in p) (location_in p) (time_in p) n

module _ (p : PlanLists) {n : ℕ} {os ns : List ℕ} (f : Filled p n os ns) where
  check_is : check_of (local_visits p n os ns) (at p.legs) ≡ check_of (visits_in p) (at p.legs)
  check_is =
      check_same (local_visits p n os ns) (owner_in p) (number_in p) (location_in p) (time_in p) f.owners (λ v l. refl) (λ v l. refl) f.numbers (at p.legs) (at p.legs) (λ v l. refl)
      ∙ ap (λ (k : ℕ). check_of (plan_visits p k) (at p.legs)) f.total_is

  count_is : dependency_total (local_visits p n os ns) ≡ planned_total p
  count_is =
      total-same (local_visits p n os ns) (owner_in p) (number_in p) (location_in p) (time_in p) f.owners (λ v l. refl) (λ v l. refl)
      ∙ ap (λ (k : ℕ). dependency_total (plan_visits p k)) f.total_is

  written_is : (c : Columns) → written (local_visits p n os ns) (column (local_visits p n os ns)) 0 c ≡ written (visits_in p) (column (visits_in p)) 0 c
  written_is c =
      let same = column-same (local_visits p n os ns) (owner_in p) (number_in p) (location_in p) (time_in p) f.owners (λ v l. refl) (λ v l. refl) in
      let fd = same (λ v w. at os v) (λ v w. owner_in p v) (λ v w l k. f.owners v l) in
      let fs = same (λ v w. at ns v) (λ v w. number_in p v) (λ v w l k. f.numbers v l) in
      let sd = same (λ v w. at os w) (λ v w. owner_in p w) (λ v w l k. f.owners w k) in
      let ss = same (λ v w. at ns w) (λ v w. number_in p w) (λ v w l k. f.numbers w k) in
      let fl = same (flag_of (at os) (at ns) n) (flag_of (owner_in p) (number_in p) n) (flag_same (local_visits p n os ns) (owner_in p) (number_in p) (location_in p) (time_in p) f.owners (λ v l. refl) (λ v l. refl) f.numbers) in
      rw (fd, fs, sd, ss, fl) (ap (λ (k : ℕ). written (plan_visits p k) (column (plan_visits p k)) 0 c) f.total_is)

-- ---- the building's answer

built_many : (m : ℕ) (b : Bool) → pick_built b (Some m) None ≡ None → b ≡ false
built_many m true h = absurd (let z : ◌≡◌ {A = ℕ} 0 1 = cc h in omega arith)
built_many m false h = refl

built_some : (m k : ℕ) (b : Bool) → pick_built b (Some m) None ≡ Some k → (b ≡ true) × (k ≡ m)
built_some m k true h = (refl, cc h)
built_some m k false h = absurd (let z : ◌≡◌ {A = ℕ} 0 1 = cc h in omega arith)

-- a count that was built is within the limit
pub built-within : (limit : ℕ) (S : Visits) (b : Option ℕ) → b ≡ built_of limit S → (m : ℕ) → b ≡ Some m → m ≤ limit
unfolding built_of
built-within limit S b e m h =
    let (o, em) = built_some (dependency_total S) m (leb (dependency_total S) limit) (sym e ∙ h) in
    rw em (leb-true (dependency_total S) limit o)

-- ---- the answer of storing

pub answered_as : (a : ReadingAnswer) (r : ReadingReply) (t t' : Tables) → a ≡ with_reply r t → t' ≡ t → AnsweredAs a r t'
answered_as a r t t' e h = record { replied = sym (ap (λ (x : ReadingAnswer). x.reply) e); left = h ∙ sym (ap (λ (x : ReadingAnswer). x.tables) e) }

module _ (L : Limits) (z t : Tables) (k : ReadingReply) where
  pub checked_refused : is_taken k ≡ false → after_check L z t k ≡ with_reply k z
  checked_refused h = ap (λ (b : Bool). cond b (built L z t) (with_reply k z)) h

  pub checked_many : is_taken k ≡ true → leb (planned_total t.plan) L.dependencies ≡ false → after_check L z t k ≡ with_reply (refused_by 11) z
  checked_many h o = ap (λ (b : Bool). cond b (built L z t) (with_reply k z)) h ∙ ap (λ (q : Bool). cond q (with_reply taken (with_dependencies t)) (with_reply (refused_by 11) z)) o

  pub checked-taken : is_taken k ≡ true → leb (planned_total t.plan) L.dependencies ≡ true → after_check L z t k ≡ with_reply taken (with_dependencies t)
  checked-taken h o = ap (λ (b : Bool). cond b (built L z t) (with_reply k z)) h ∙ ap (λ (q : Bool). cond q (with_reply taken (with_dependencies t)) (with_reply (refused_by 11) z)) o

-- ---- the tables with other dependencies

abbrev pub columns_of : Tables → Columns
columns_of t = columns_with t.plan.first_drones t.plan.first_stops t.plan.second_drones t.plan.second_stops t.flags

abbrev pub with_columns : Tables → List ℕ → Columns → Tables
with_columns t count c = record {
  plan = record {
    drone_count = t.plan.drone_count;
    dependency_count = count;
    form = t.plan.form;
    names = t.plan.names;
    stop_counts = t.plan.stop_counts;
    locations = t.plan.locations;
    times = t.plan.times;
    legs = t.plan.legs;
    first_drones = c.first_drones;
    first_stops = c.first_stops;
    second_drones = c.second_drones;
    second_stops = c.second_stops;
    pairs = t.plan.pairs;
  };
  visited = t.visited;
  drone_flags = t.drone_flags;
  flags = c.flags;
}

module _ (L : Limits) (t : Tables) {n : ℕ} {os ns : List ℕ} (f : Filled t.plan n os ns) (answer : Result ⊤ PlanFault) (ea : answer ≡ check_of (local_visits t.plan n os ns) (at t.plan.legs)) where
  reply_is : check_meant answer ≡ check_in t.plan
  reply_is = ap check_meant (ea ∙ check_is t.plan f)

  pub store_refused : (e : PlanFault) → answer ≡ Err e → (x : Refusal) → refusal_meant x ≡ check_meant (Err e) → AnsweredAs (stored L t) (refusal_meant x) t
  unfolding stored
  store_refused e h x ex =
      let k : check_in t.plan ≡ refusal_meant x = sym reply_is ∙ ap check_meant h ∙ sym ex in
      answered_as (stored L t) (refusal_meant x) t t (checked_refused L t t (check_in t.plan) (ap is_taken k ∙ refusal_not_taken x) ∙ ap (λ (y : ReadingReply). with_reply y t) k) refl

  passed : answer ≡ Ok tt → is_taken (check_in t.plan) ≡ true
  passed h = ap is_taken (sym reply_is ∙ ap check_meant h)

  module _ (h : answer ≡ Ok tt) (b : Option ℕ) (eb : b ≡ built_of L.dependencies (local_visits t.plan n os ns))
      (c : Columns) (ec : c ≡ built_in L.dependencies (local_visits t.plan n os ns) (columns_of t)) where
    pub store_many : b ≡ None → AnsweredAs (stored L t) (refused_by 11) (with_columns t t.plan.dependency_count c)
    unfolding stored built_of built_in
    store_many k =
        let o : leb (dependency_total (local_visits t.plan n os ns)) L.dependencies ≡ false = built_many _ _ (sym eb ∙ k) in
        let e : c ≡ columns_of t = ec ∙ ap (λ (q : Bool). pick_columns q (written (local_visits t.plan n os ns) (column (local_visits t.plan n os ns)) 0 (columns_of t)) (columns_of t)) o in
        let o' : leb (planned_total t.plan) L.dependencies ≡ false = ap (λ (m : ℕ). leb m L.dependencies) (sym (count_is t.plan f)) ∙ o in
        answered_as (stored L t) (refused_by 11) t _ (checked_many L t t (check_in t.plan) (passed h) o') (ap (with_columns t t.plan.dependency_count) e)

    pub store_taken : (m : ℕ) → b ≡ Some m → AnsweredAs (stored L t) taken (with_columns t (sets t.plan.dependency_count 0 (m ∷ [])) c)
    unfolding stored built_of built_in
    store_taken m k =
        let (o, em) = built_some (dependency_total (local_visits t.plan n os ns)) m (leb (dependency_total (local_visits t.plan n os ns)) L.dependencies) (sym eb ∙ k) in
        let e = ec ∙ ap (λ (q : Bool). pick_columns q (written (local_visits t.plan n os ns) (column (local_visits t.plan n os ns)) 0 (columns_of t)) (columns_of t)) o ∙ written_is t.plan f (columns_of t) in
        let o' : leb (planned_total t.plan) L.dependencies ≡ true = ap (λ (m : ℕ). leb m L.dependencies) (sym (count_is t.plan f)) ∙ o in
        answered_as (stored L t) taken (with_dependencies t) _ (checked-taken L t t (check_in t.plan) (passed h) o')
        (ap₂ (λ (m : ℕ) (c : Columns). with_columns t (sets t.plan.dependency_count 0 (m ∷ [])) c) (em ∙ count_is t.plan f) e)
