-- What is found by the log after any list of calls: nobody holds a location that meets one of another, somebody can go on, rounds finish. Assumes nothing.
use mathlib.Core.Path.{◌≡◌, sym, ap, ◌∙◌, subst}
use mathlib.Core.Logic.{◌≢◌, inl, inr}
use mathlib.Core.Bool.{Bool, true, false, not, cond, ◌&&◌, ◌||◌}
use mathlib.Core.List.{List}
use Prim.Native.Nat.{ℕ, suc, ◌≤◌, ◌<◌}
use native.Mathlib.Omega.{arith}
use lib.Dec.{eqb, ltb, leb}
use borrow.Author.Tests.{ltb-true, eqb-true, eqb-false, leb-true, leb-false, not-true}
use Rattle.below.proofs.Tests.{by_cases, and_left, and_right, and_both}
use Rattle.below.specs.Below.{first_below}
use Rattle.call_log.proofs.Checks.{or_none, place_counts, grant-accepted, free-flies, free-goes}
use Rattle.call_log.proofs.SameStatus.{no_empty_leg}
use Rattle.call_log.proofs.Log.{arrivals, grants, marks, turns, GoodLog}
use Rattle.call_log.specs.CallLog.{Entry, status_by, holds_location, short, flying}
use Rattle.call_log.specs.Demand.{HeldByOne, GoesOn, Finishes}
use Rattle.plan.proofs.Turns.{graph-formed}
use Rattle.plan.specs.Field.{Dependency, FieldPlan, in_force, wait_of, of_withdrawn, graph, place_of, AcceptedPlan, Status}
use Rattle.precedence.proofs.Rounds.{finished-at, somebody_free}
use Rattle.precedence.proofs.Legs.{flights-finish}
use Rattle.precedence.proofs.Visits.{acyclic_iff}
use Rattle.precedence.specs.Graph.{Cycle, free, finished, legs_left}

module _ (F : FieldPlan) (plan : AcceptedPlan F) (log : List Entry) (good : GoodLog F log) where
  open F use {drones, last, location, count, dependency}

  no_cycle : Cycle (graph F (status_by log)) → ⊥
  no_cycle = (acyclic_iff (graph F (status_by log)) (graph-formed F plan (status_by log) good.unfixed)).0 good.acyclic

  abbrev S : Status
  S = status_by log

  -- where the drones count as standing
  abbrev places : ℕ → ℕ
  places = place_of F S

  pub log_finishes : Finishes F log
  log_finishes = (legs_left (graph F S) F.leg places, omega arith, flights-finish (graph F S) F.leg (graph-formed F plan S good.unfixed) no_cycle places (no_empty_leg F plan S places))

  pub log_goes_on : GoesOn F log
  unfolding short flying
  log_goes_on d l s = by_cases (ltb (arrivals log free_one) (grants log free_one))
      (λ u. inl (free_one, is_free.0, and_both _ _ (ap not (free-flies F S free_one is_free.1)) u))
      (λ u. inr (free_one, is_free.0, (grant-accepted F S free_one).1 (free-goes F S free_one is_free.0 is_free.1 u)))
    where
      free_one : ℕ
      free_one = first_below drones (free (graph F S) places)

      flies : marks log d ≡ false
      flies = not-true _ (and_left _ _ s)

      unfinished : finished (graph F S) places ≡ false
      unfinished = by_cases (finished (graph F S) places)
          (λ e. absurd (omega (arith, place_counts F S d flies, finished-at (graph F S) places e d l, ltb-true (arrivals log d) (last d) (and_right (not (marks log d)) _ s))))
          (λ e. e)

      is_free : (free_one < drones) × (free (graph F S) places free_one ≡ true)
      is_free = somebody_free (graph F S) (graph-formed F plan S good.unfixed) places no_cycle unfinished

  -- drone d holds the location l at its stop s
  record HoldsAt (d l s : ℕ) : Type 0 where
    here : location d s ≡ l
    flies : marks log d ≡ false
    since : s ≤ grants log d
    still : arrivals log d ≤ s

  holds_at : (d l : ℕ) → holds_location F S d l ≡ true → (s : ℕ) × HoldsAt d l s
  unfolding holds_location
  holds_at d l h = by_cases (eqb l (location d (arrivals log d)))
      (λ e. (arrivals log d, record { here = sym (eqb-true _ _ e); flies = flies; since = good.running.behind d; still = omega arith }))
      (λ e. let m : ltb (arrivals log d) (grants log d) && eqb l (location d (suc (arrivals log d))) ≡ true = sym (ap (λ (b : Bool). b || ltb (arrivals log d) (grants log d) && eqb l (location d (suc (arrivals log d)))) e) ∙ and_right (not (marks log d)) _ h in
      (suc (arrivals log d), record { here = sym (eqb-true _ _ (and_right (ltb (arrivals log d) (grants log d)) _ m)); flies = flies; since = ltb-true _ _ (and_left _ _ m); still = omega arith }))
    where
      flies : marks log d ≡ false
      flies = not-true _ (and_left _ _ h)

  -- the two stops of a dependency of drones that are not withdrawn are never held together
  never_both : (x : Dependency) (w : ℕ) → w < count → dependency w ≡ x → marks log x.first ≡ false → marks log x.second ≡ false → x.first_stop ≤ grants log x.first → arrivals log x.first ≤ x.first_stop → x.second_stop ≤ grants log x.second → arrivals log x.second ≤ x.second_stop → ⊥
  never_both x w l q f g a b c d = go (turns log w) (subst (λ (z : Dependency). (wait_of (in_force (turns log w) z)).stop ≤ grants log (wait_of (in_force (turns log w) z)).waiter → (wait_of (in_force (turns log w) z)).until ≤ arrivals log (wait_of (in_force (turns log w) z)).awaited) q kept)
    where
      none : of_withdrawn F S w ≡ false
      none = or_none _ _ (ap (λ (z : Dependency). marks log z.first) q ∙ f) (ap (λ (z : Dependency). marks log z.second) q ∙ g)

      kept : (wait_of (in_force (turns log w) (dependency w))).stop ≤ grants log (wait_of (in_force (turns log w) (dependency w))).waiter → (wait_of (in_force (turns log w) (dependency w))).until ≤ arrivals log (wait_of (in_force (turns log w) (dependency w))).awaited
      kept h = subst (λ (o : Bool). cond o 0 (wait_of (in_force (turns log w) (dependency w))).until ≤ arrivals log (wait_of (in_force (turns log w) (dependency w))).awaited) none (good.running.over w l h)

      go : (t : Bool) → ((wait_of (in_force t x)).stop ≤ grants log (wait_of (in_force t x)).waiter → (wait_of (in_force t x)).until ≤ arrivals log (wait_of (in_force t x)).awaited) → ⊥
      go false k = omega (arith, k c)
      go true k = omega (arith, k a)

  -- drone d at its stop s and drone e at its stop k make a dependency, in one order or the other
  meet : (d e l m s k : ℕ) → d < drones → e < drones → d ≢ e → F.meets l m ≡ true → HoldsAt d l s → HoldsAt e m k → ⊥
  meet d e l m s k dl el n z a b = by_cases (leb (time d s) (time e k))
      (λ t. let (w, wl, q) = plan.every x (record { first_in = dl; first_stop_in = s_in; second_in = el; second_stop_in = k_in; different = n; one_location = one; there_first = leb-true (time d s) (time e k) t }) in
      never_both x w wl q a.flies b.flies a.since a.still b.since b.still)
      (λ t. let (w, wl, q) = plan.every y (record { first_in = el; first_stop_in = k_in; second_in = dl; second_stop_in = s_in; different = λ z. n (sym z); one_location = plan.checked.symmetric _ _ one; there_first = omega (arith, leb-false (time d s) (time e k) t) }) in
      never_both y w wl q b.flies a.flies b.since b.still a.since a.still)
    where
      time : ℕ → ℕ → ℕ
      time = F.time

      x : Dependency
      x = record { first = d; first_stop = s; second = e; second_stop = k }

      y : Dependency
      y = record { first = e; first_stop = k; second = d; second_stop = s }

      s_in : s ≤ last d
      s_in = omega (arith, a.since, good.within d dl)

      k_in : k ≤ last e
      k_in = omega (arith, b.since, good.within e el)

      one : F.meets (location d s) (location e k) ≡ true
      one = rw (a.here, b.here) z

  pub log_held : HeldByOne F log
  log_held d e l m dl el z a b = by_cases (eqb d e) (λ q. eqb-true d e q) (λ q. let (s, x) = holds_at d l a in let (k, y) = holds_at e m b in absurd (meet d e l m s k dl el (eqb-false d e q) z x y))
