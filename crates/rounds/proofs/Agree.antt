-- The two ways agree: whatever numbers are the longest chains to the last stops, 0 where a drone is finished, are the rounds played and add up to the cost.
-- `play_rounds` and `remaining_cost` are both equal to that cost by their contracts. Assumes nothing.
use mathlib.Core.Path.{◌≡◌, sym, ◌∙◌}
use Prim.Native.Nat.{ℕ, ◌≤◌, ◌<◌}
use native.Mathlib.Omega.{arith}
use lib.Dec.{ltb}
use borrow.Author.Tests.{ltb-true, ltb-false}
use Rattle.below.proofs.Sum.{sum_ext}
use Rattle.below.proofs.Tests.{by_cases}
use Rattle.below.specs.Below.{sum_below}
use Rattle.precedence.specs.Graph.{Plan, Formed, Cycle, Longest, remaining, cost, NoEmptyLeg}
use Rattle.precedence.proofs.Legs.{longest_chain, remaining-none}
use Rattle.rounds.specs.Claims.{ByChains, TwoWaysAgree}

module _ (P : Plan) (formed : Formed P) (acyclic : Cycle P → ⊥) (leg : ℕ → ℕ → ℕ) (p : ℕ → ℕ) (some : NoEmptyLeg P leg p) where
  open P use {drones, last}

  played : ByChains P leg p (remaining P leg p)
  played = record { unfinished = longest_chain P leg formed acyclic p some; finished = remaining-none P leg formed acyclic p some }

  module _ (rounds : ℕ → ℕ) (chains : ByChains P leg p rounds) where
    chain-remaining : (d : ℕ) → d < drones → rounds d ≡ remaining P leg p d
    chain-remaining d l = by_cases (ltb (p d) (last d))
        (λ e. let o : p d < last d = ltb-true _ _ e in
        let c : Longest P leg p d (rounds d) = chains.unfinished d l o in
        let r : Longest P leg p d (remaining P leg p d) = longest_chain P leg formed acyclic p some d l o in
        omega (arith, r.none_longer (rounds d) c.chain, c.none_longer (remaining P leg p d) r.chain))
        (λ e. let h : last d ≤ p d = ltb-false _ _ e in
        chains.finished d l h ∙ sym (remaining-none P leg formed acyclic p some d l h))

    chain-cost : sum_below drones rounds ≡ cost P leg p
    unfolding cost
    chain-cost = sum_ext drones rounds (remaining P leg p) chain-remaining

pub two_ways_agree : TwoWaysAgree
two_ways_agree P formed acyclic leg p some = record { played_by_chains = played P formed acyclic leg p some; chains_are_played = chain-remaining P formed acyclic leg p some; same_cost = chain-cost P formed acyclic leg p some }
