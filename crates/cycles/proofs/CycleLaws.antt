-- A walk that has ended: from the first stops everybody is at its last stop exactly where there is no cycle, and where there is none everybody is, whatever the walk began with. Assumes nothing.
use mathlib.Core.Path.{◌≡◌, refl, sym, ap, ◌∙◌}
use mathlib.Core.List.{List}
use mathlib.Core.Bool.{true, false, not}
use Prim.Native.Nat.{ℕ, ◌+◌, ◌≤◌, ◌<◌}
use native.Mathlib.Omega.{arith}
use lib.Dec.{leb}
use lib.ListN.{length}
use borrow.Author.Tests.{leb-true, le-leb}
use Rattle.below.specs.Below.{at, all_below, first_below}
use Rattle.below.proofs.Tests.{by_cases, true_or_false, same_test}
use Rattle.below.proofs.Every.{all_below-at, all_below_all}
use Rattle.tables.specs.Limits.{Limits}
use Rattle.precedence.specs.Graph.{Plan, Formed, free, finished, cyclic, Cycle, play, at_start}
use Rattle.precedence.proofs.Rounds.{finished-at, finished_if, somebody_free}
use Rattle.precedence.proofs.Visits.{acyclic_iff, never, walk_entered}
use Rattle.precedence.proofs.Ahead.{finished_ahead, fewer_refl}
use Rattle.cycles.specs.Flat.{PlacedWaits}
use Rattle.cycles.specs.Walk.{Course, course_plan, progress, WithinRounds, Begun, Walked}
use Rattle.cycles.proofs.Placed.{formed}

module _ (P : Plan) (formed : Formed P) where
  open P use {drones, last}

  reached-start : (p : ℕ → ℕ) → ((d : ℕ) → d < drones → p d ≡ 0) → WithinRounds P p
  unfolding play
  reached-start p z = (0, λ d l. omega (arith, z d l))

  -- nobody on a cycle is ever at its last stop
  reached-finished : (p : ℕ → ℕ) → WithinRounds P p → finished P p ≡ true → cyclic P ≡ false
  unfolding Cycle
  reached-finished p (k, a) e = (acyclic_iff P formed).1 (λ (v, w). omega (arith, never P formed w k, (walk_entered P formed w).2, finished-at P (play P at_start k) (finished_ahead P P formed (fewer_refl P) p (play P at_start k) a e) v.drone (walk_entered P formed w).0))

  -- without a cycle, somebody could move unless everybody is at its last stop
  stuck_finished : (p : ℕ → ℕ) → ((d : ℕ) → d < drones → free P p d ≡ false) → cyclic P ≡ false → finished P p ≡ true
  stuck_finished p none c = by_cases (finished P p) (λ e. e) (λ e.
      let (l, f) = somebody_free P formed p ((acyclic_iff P formed).0 c) e in
      true_or_false f (none (first_below drones (free P p)) l))

  none_free : (p : ℕ → ℕ) → WithinRounds P p → ((d : ℕ) → d < drones → free P p d ≡ false) → not (finished P p) ≡ cyclic P
  none_free p r none = by_cases (finished P p)
      (λ e. rw e (sym (reached-finished p r e)))
      (λ e. by_cases (cyclic P) (λ c. rw (e, c) refl) (λ c. true_or_false (stuck_finished p none c) e))

module _ (C : Course) (placed : PlacedWaits C.own C.off C.last C.drones C.stops C.from C.into C.waits) where
  open C use {own, off, last, drones, stops, from, into, waits}

  abbrev P-formed : Formed (course_plan C)
  P-formed = formed own off last drones stops from into waits placed

  -- a walk can begin at the first stops
  pub begun_first : {L : Limits} (cur : List ℕ) → length cur ≡ L.drones → ((d : ℕ) → d < drones → at cur d ≡ off d) → Begun L C cur
  begun_first cur e s = record {
    size = e;
    low = λ d l. omega (arith, s d l);
    high = λ d l. omega (arith, s d l);
    kept = λ k l h. absurd (omega (arith, placed.into_later k l, s (own (into k)) (placed.shape.own_in (into k) (placed.into_in k l))));
  }

  module _ {L : Limits} {leg : ℕ → ℕ} {b : ℕ} {start cur t : List ℕ} (W : Walked L C leg b start cur t) where
    finished-flat : all_below drones (λ d. leb (off d + last d) (at cur d)) ≡ finished (course_plan C) (progress C cur)
    finished-flat = same_test _ _
        (λ e. finished_if (course_plan C) (progress C cur) (λ d l. omega (arith, W.places.low d l, leb-true (off d + last d) (at cur d) (all_below-at drones (λ d. leb (off d + last d) (at cur d)) e d l))))
        (λ e. all_below_all drones _ (λ d l. le-leb (off d + last d) (at cur d) (omega (arith, W.places.low d l, finished-at (course_plan C) (progress C cur) e d l))))

    -- everybody is at its last stop exactly where there is no cycle, if the walk began where rounds from the first stops come to
    pub walked_judges : WithinRounds (course_plan C) (progress C start) → not (all_below drones (λ d. leb (off d + last d) (at cur d))) ≡ cyclic (course_plan C)
    walked_judges r = ap not finished-flat ∙ none_free (course_plan C) P-formed (progress C cur) (W.places.reached r) W.none_free

    pub walked_cyclic : ((d : ℕ) → d < drones → at start d ≡ off d) → not (all_below drones (λ d. leb (off d + last d) (at cur d))) ≡ cyclic (course_plan C)
    walked_cyclic s = walked_judges (reached-start (course_plan C) P-formed (progress C start) (λ d l. omega (arith, s d l)))

    -- without a cycle every stop is visited
    pub walked_all : cyclic (course_plan C) ≡ false → (v : ℕ) → v < stops → v ≤ at cur (own v)
    walked_all c v l =
        let o : own v < drones = placed.shape.own_in v l in
        omega (arith, placed.shape.number_in_lem v l, W.places.low (own v) o, finished-at (course_plan C) (progress C cur) (stuck_finished (course_plan C) P-formed (progress C cur) W.none_free c) (own v) o)
