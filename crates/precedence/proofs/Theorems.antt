-- The theorems of specs/Theorems.antt, each from the law that has it. Assumes nothing.
use Prim.Native.Nat.{ℕ, ◌≤◌}
use native.Mathlib.Omega.{arith}
use Rattle.precedence.specs.Graph.{Plan, vertex_at, Chain, link, on}
use Rattle.precedence.specs.Theorems.{NobodyStuck, CyclicIsCycle, RisingNoCycle, RoundsFinish, RoundsTable, RemainingIsLongest, FinishedHasNone, CostBound, MakespanIsLargest, LegsOfOne, HeldRoundRaisesNone, HeldRoundsFinish, FewerWaits}
use Rattle.precedence.proofs.Rounds.{somebody_free}
use Rattle.precedence.proofs.Visits.{rising_acyclic, cyclic_iff, acyclic_iff}
use Rattle.precedence.proofs.Table.{table-unique, entry_bound}
use Rattle.precedence.proofs.Legs.{reached-table, remaining-none, longest_chain, flights-finish, makespan_is, cost-bound, one_played, one_left}
use Rattle.precedence.proofs.Ahead.{cyclic_fewer, remaining_ahead}
use Rattle.precedence.proofs.Held.{held_remaining, held_finish}

module _ (P : Plan) where
  open P use {last}

  pub nobody_stuck : NobodyStuck P
  nobody_stuck formed acyclic p e = somebody_free P formed p acyclic e

  pub cyclic_is_cycle : CyclicIsCycle P
  cyclic_is_cycle formed = cyclic_iff P formed

  pub rising_no_cycle : RisingNoCycle P
  rising_no_cycle time rising = rising_acyclic P rising

  module _ (leg : ℕ → ℕ → ℕ) where
    pub rounds_end : RoundsFinish P leg
    rounds_end = flights-finish P leg

    pub rounds-table : RoundsTable P leg
    rounds-table formed acyclic p some = record {
      table = reached-table P leg formed acyclic p some;
      unique = λ t table. table-unique P leg p formed acyclic (reached-table P leg formed acyclic p some) table;
      bound = entry_bound P leg p formed acyclic (reached-table P leg formed acyclic p some);
    }

    pub remaining_is_longest : RemainingIsLongest P leg
    remaining_is_longest = longest_chain P leg

    no_chain : (p : ℕ → ℕ) (d : ℕ) → last d ≤ p d → (n : ℕ) → Chain P leg p (vertex_at d (last d)) n → ⊥
    no_chain p d h n (link o) = omega arith
    no_chain p d h n (on c e o) = omega arith

    pub finished_has_none : FinishedHasNone P leg
    finished_has_none formed acyclic p some d l h = (remaining-none P leg formed acyclic p some d l h, no_chain p d h)

    pub cost_is_bounded : CostBound P leg
    cost_is_bounded = cost-bound P leg

    pub makespan_is_largest : MakespanIsLargest P leg
    makespan_is_largest = makespan_is P leg

  pub legs_of_one : LegsOfOne P
  legs_of_one p = record { same_places = one_played P p; same_bound = one_left P p }

  pub held_raises_none : HeldRoundRaisesNone P
  held_raises_none formed acyclic h p d l = held_remaining P formed acyclic h p d l

  pub held_rounds-finish : HeldRoundsFinish P
  held_rounds-finish formed acyclic held p n h = held_finish P formed acyclic held p n h

pub fewer_waits : (P Q : Plan) (leg : ℕ → ℕ → ℕ) → FewerWaits P Q leg
fewer_waits P Q leg formed formed' fewer acyclic p q some ahead = (cyclic_fewer P Q formed fewer ((acyclic_iff P formed).1 acyclic), remaining_ahead P Q formed fewer formed' acyclic leg p q some ahead)
