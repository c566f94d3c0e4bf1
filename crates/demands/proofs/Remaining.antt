-- Remaining rounds are found by a search from no rounds on; undelayed rounds finish everybody within the legs that are left, so the search finds. Assumes nothing.
use mathlib.Core.Path.{◌≡◌, ap, ◌∙◌}
use Prim.Native.Nat.{ℕ, ◌≤◌, ◌<◌}
use native.Mathlib.Omega.{arith}
use lib.Dec.{leb, ltb}
use borrow.Author.Tests.{leb-true, leb-false, ltb-true, ltb-false}
use Rattle.below.specs.Below.{First, sum_below}
use Rattle.below.proofs.Search.{first_below_first}
use Rattle.below.proofs.Sum.{sum_ext}
use Rattle.below.proofs.Every.{all_below-at}
use Rattle.below.proofs.Tests.{by_cases}
use Rattle.precedence.specs.Graph.{Plan, Formed, Cycle, finished, legs_left, visited_after, reached, remaining, NoEmptyLeg}
use Rattle.precedence.proofs.Theorems.{rounds_end}
use Rattle.tables.specs.Limits.{Limits}
use Rattle.tables.specs.Tables.{Tables}
use Rattle.plan.specs.Field.{FieldPlan, Status, graph, place_of, plan_of}
use Rattle.plan.specs.Status.{status_in}
use Rattle.sound.proofs.Clauses.{Sound, sound-says}
use Rattle.call_log.specs.Calls.{costs, cost_reply}
use Rattle.call_log.specs.Claims.{Usable}
use Rattle.call_log.proofs.Costs.{formed, acyclic, flies, cost_means}
use Rattle.demands.specs.Remaining.{FinishesIn, RemainingCost}

module _ (P : Plan) (leg : ℕ → ℕ → ℕ) (p : ℕ → ℕ) (f : Formed P) (a : Cycle P → ⊥) (some : NoEmptyLeg P leg p) (d : ℕ) (l : d < P.drones) where
  search : First (legs_left P leg p) (λ k. leb (P.last d) (visited_after P leg p k d)) (remaining P leg p d)
  unfolding remaining reached
  search = first_below_first (legs_left P leg p) (λ k. leb (P.last d) (visited_after P leg p k d))

  ends_there : P.last d ≤ visited_after P leg p (legs_left P leg p) d
  unfolding finished
  ends_there = leb-true _ _ (all_below-at P.drones (λ e. leb (P.last e) (visited_after P leg p (legs_left P leg p) e)) (rounds_end P leg f a p some) d l)

  found : P.last d ≤ visited_after P leg p (remaining P leg p d) d
  found = by_cases (ltb (remaining P leg p d) (legs_left P leg p))
      (λ h. leb-true _ _ (search.found (ltb-true _ _ h)))
      (λ h. let e : legs_left P leg p ≡ remaining P leg p d = omega (arith, ltb-false (remaining P leg p d) (legs_left P leg p) h, search.within) in rw (← e) ends_there)

  none_before : (k : ℕ) → k < remaining P leg p d → visited_after P leg p k d < P.last d
  none_before k h = leb-false _ _ (search.skipped k h)

only_one : (F : FieldPlan) (S : Status) (d m n : ℕ) → FinishesIn F S d m → FinishesIn F S d n → m ≡ n
only_one F S d m n x y = by_cases (ltb m n)
    (λ h. absurd (omega (arith, x.finished, y.none_fewer m (ltb-true m n h))))
    (λ h. by_cases (ltb n m)
    (λ k. absurd (omega (arith, y.finished, x.none_fewer n (ltb-true n m k))))
    (λ k. omega (arith, ltb-false m n h, ltb-false n m k)))

module _ (L : Limits) (t : Tables) (u : Usable L t) where
  abbrev F : FieldPlan
  F = plan_of t.plan

  abbrev S : Status
  S = status_in t

  abbrev left : ℕ → ℕ
  left d = remaining (graph F S) F.leg (place_of F S) d

  least : (d : ℕ) → d < F.drones → FinishesIn F S d (left d)
  least d l = let s : Sound L t = sound-says L t u.1 in record {
    finished = found (graph F S) F.leg (place_of F S) (formed L t s) (acyclic L t s) (flies L t s) d l;
    none_fewer = none_before (graph F S) F.leg (place_of F S) (formed L t s) (acyclic L t s) (flies L t s) d l;
  }

  adds_up : (needs : ℕ → ℕ) → ((d : ℕ) → d < F.drones → FinishesIn F S d (needs d)) → cost_reply L t ≡ costs (sum_below F.drones needs)
  adds_up needs h = (cost_means L t).is_sum u ∙ ap costs (sum_ext F.drones left needs (λ d l. only_one F S d (left d) (needs d) (least d l) (h d l)))

pub remaining_cost : (L : Limits) → RemainingCost L
remaining_cost L = record { least = least L; only = λ t d m n x y. only_one (plan_of t.plan) (status_in t) d m n x y; sum = adds_up L }
