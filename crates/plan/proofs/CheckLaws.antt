-- The plan check's two searches as loops make them, and its answers by what the searches found. Assumes nothing.
use mathlib.Core.Path.{◌≡◌, refl, sym, ap, ◌∙◌, subst}
use mathlib.Core.List.{List}
use Rattle.std.specs.List.Sorted.{IsNonDecreasing}
use Rattle.std.proofs.Common.{take, length, MatchBool}
use Rattle.std.proofs.lemmas.List.{length-take-le, get_or-take}
use Rattle.below.specs.Below.{at}
use mathlib.Core.Bool.{Bool, true, false, not, ◌&&◌}
use Prim.Native.Nat.{ℕ, ◌+◌, ◌-◌, ◌≤◌, ◌<◌}
use native.Mathlib.Nat.{le_antisymm}
use native.Mathlib.Omega.{arith}
use lib.Dec.{ltb, leb, eqb}
use borrow.Author.Tests.{lt-ltb, le-ltb, ltb-true, leb-true, eq-eqb}
use Rattle.below.specs.Below.{first_below, pick}
use Rattle.below.proofs.Tests.{by_cases, true_or_false}
use Rattle.below.proofs.Search.{first_hit, first_end, first_below_first, first_below_ext}
use Rattle.plan.specs.declared.check.StopAt.{StopAt}
use Rattle.std.specs.Prelude.{Some, None, Ok, Err, ⊤}
use Rattle.plan.specs.declared.check.Colliders.{Colliders}
use Rattle.plan.specs.declared.check.StopFault.{StopFault}
use Rattle.plan.specs.declared.check.StopFault.TheVariants as fault
use Rattle.plan.specs.declared.check.PlanFault.{PlanFault}
use Rattle.plan.specs.declared.check.PlanFault.TheVariants.{Collision}
use Rattle.plan.specs.Visits.{Visits}
use Rattle.plan.specs.Check.{fault_at, first_fault, clash, OwnersRising, collide, partner, collider}
use Rattle.plan.specs.Answers.{stop_at, stop_fault_number, fault_case, check_of, FirstFaultSaid, FirstCollision}

-- ---- stop by stop: how much a time rises, as the code has it
pub short_rise : (t earlier g : ℕ) → t - earlier < g → ltb t (earlier + g) ≡ true
short_rise t earlier g h = lt-ltb t (earlier + g) (omega arith)

pub long_rise : (t earlier g : ℕ) → earlier < t → g ≤ t - earlier → ltb t (earlier + g) ≡ false
long_rise t earlier g l h = le-ltb t (earlier + g) (omega arith)

number_some : (x : StopFault) → not (eqb (stop_fault_number (Some x)) 0) ≡ true
number_some fault.StartsLate = refl
number_some fault.NotRising = refl
number_some fault.LegTooLong = refl
number_some fault.SameLocation = refl

-- what the stops by themselves say, where no stop before v is at fault
module _ (S : Visits) (leg : ℕ → ℕ) (v : ℕ) where
  open S use {own, num, n}

  pub no_fault : 0 ≡ fault_at S leg v → not (eqb (fault_at S leg v) 0) ≡ false
  no_fault z = ap not (eq-eqb (fault_at S leg v) 0 (sym z))

  module _ (none : first_below v (λ u. not (eqb (fault_at S leg u) 0)) ≡ v) where
    pub said_fault : v < n → (x : StopFault) (e : PlanFault) {s : StopAt} → stop_fault_number (Some x) ≡ fault_at S leg v → Err e ≡ fault_case (stop_fault_number (Some x)) s → s ≡ stop_at own num v → FirstFaultSaid S leg (Err e)
    unfolding first_fault
    said_fault l x e f h es =
        let q : first_fault S leg ≡ v = sym (first_hit _ v n l none (subst (λ (k : ℕ). not (eqb k 0) ≡ true) f (number_some x))) in
        rw q (l, rw (← f, ← es) h)

    pub said_none : v ≤ n → n ≤ v → FirstFaultSaid S leg (Ok tt)
    unfolding first_fault
    said_none a b = sym (first_end _ v n a b none) ∙ le_antisymm a b

-- ---- collisions: w is the partner of v, and no stop before v has one
module _ (S : Visits) (v w : ℕ) (e : w ≡ partner S v) where
  open S use {n}

  pub no_partner : n ≤ w → ltb (partner S v) n ≡ false
  no_partner h = le-ltb (partner S v) n (subst (λ (k : ℕ). n ≤ k) e h)

  pub collision_found : w < n → v < n → first_below v (λ u. ltb (partner S u) n) ≡ v → FirstCollision S (Some (record { first = v; second = w }))
  unfolding collider
  collision_found h l none = (l, first_hit _ v n l none (lt-ltb (partner S v) n (subst (λ (k : ℕ). k < n) e h)), e)

pub no_collision : (S : Visits) (v : ℕ) → v ≤ S.n → S.n ≤ v → first_below v (λ u. ltb (partner S u) S.n) ≡ v → FirstCollision S None
unfolding collider
no_collision S v a b none = sym (first_end _ v S.n a b none) ∙ le_antisymm a b

-- ---- a stop clashes with those of a higher drone only
module _ (own time : ℕ → ℕ) (n v w : ℕ) where
  pub clash_behind : own w ≤ own v → clash own time n v w ≡ false
  unfolding clash
  clash_behind h = rw (le-ltb (own v) (own w) h) refl

-- those of a drone that is not higher do not clash
pub clash-lower : (own time : ℕ → ℕ) (n v w : ℕ) → leb (own w) (own v) ≡ true → (u : ℕ) → own u ≡ own w → clash own time n v u ≡ false
clash-lower own time n v w p u o = clash_behind own time n v u (subst (λ (d : ℕ). d ≤ own v) (sym o) (leb-true (own w) (own v) p))

-- two stops collide where they clash and their locations meet
collide_split : (S : Visits) (v w : ℕ) → S.meets (S.loc v) (S.loc w) && clash S.own S.time S.n v w ≡ collide S v w
unfolding collide clash
collide_split S v w = by_cases (S.meets (S.loc v) (S.loc w)) (λ e. rw e refl) (λ e. by_cases (ltb (S.own v) (S.own w)) (λ f. rw (e, f) refl) (λ f. rw (e, f) refl))

pub partner_is : (S : Visits) (v r : ℕ) → r ≡ first_below S.n (λ u. S.meets (S.loc v) (S.loc u) && clash S.own S.time S.n v u) → r ≡ partner S v
partner_is S v r e = e ∙ first_below_ext S.n _ _ (λ u l. collide_split S v u)

-- the partner of the first stop that has one is a stop
pub partner_in : (S : Visits) (p : Colliders) → FirstCollision S (Some p) → p.second < S.n
unfolding collider
partner_in S p (l, c, d) =
    subst (λ (k : ℕ). k < S.n) (sym d) (ltb-true (partner S p.first) S.n
    (subst (λ (k : ℕ). ltb (partner S k) S.n ≡ true) (sym c) ((first_below_first S.n (λ v. ltb (partner S v) S.n)).found (subst (λ (k : ℕ). k < S.n) c l))))

-- ---- the three answers, by what the stops by themselves said
module _ (S : Visits) (leg : ℕ → ℕ) where
  open S use {own, num, n}

  pub check_fault : (e : PlanFault) → FirstFaultSaid S leg (Err e) → Err e ≡ check_of S leg
  unfolding check_of
  check_fault e h = rw (lt-ltb (first_fault S leg) n h.0) h.1

  module _ (u : ⊤) (none : FirstFaultSaid S leg (Ok u)) where
    pub check_collision : (p : Colliders) (a b : StopAt) → FirstCollision S (Some p) → a ≡ stop_at own num p.first → b ≡ stop_at own num p.second → Err (Collision a b) ≡ check_of S leg
    unfolding check_of
    check_collision p a b (l, c, d) ea eb = rw (none, le-ltb n n (omega arith), ← c, lt-ltb p.first n l, ← d, ea, eb) refl

    pub check_fine : FirstCollision S None → Ok tt ≡ check_of S leg
    unfolding check_of
    check_fine c = rw (none, le-ltb n n (omega arith), c, le-ltb n n (omega arith)) refl

-- ---- drones that rise

-- they do where the list of them is sorted
pub rising_sorted : (owners : List ℕ) (n : ℕ) (r : Bool) (X : Type 0) → MatchBool r (IsNonDecreasing (take n owners)) X → n ≤ length owners → r ≡ true → OwnersRising (at owners) n
rising_sorted owners n false X h l e = true_or_false e refl
rising_sorted owners n true X h l e = record {
  rises = λ u w a b. omega (arith, h u w 0 a (omega (arith, b, length-take-le n owners l)), get_or-take n owners u 0 (omega (arith, a, b)), get_or-take n owners w 0 b);
}

-- nobody before v clashes with it
pub clash-before : (own time : ℕ → ℕ) (n v : ℕ) (rising : Bool) → (rising ≡ true → OwnersRising own n) → v < n → (u : ℕ) → u < pick rising v 0 → clash own time n v u ≡ false
clash-before own time n v true R l u h = clash_behind own time n v u ((R refl).rises u v (omega (arith, h)) l)
clash-before own time n v false R l u h = absurd (omega (arith, h))
