-- Remaining rounds, by rounds played and by chains of unvisited stops (document 01, "The calls"): the two ways agree. Assumes nothing.
use Rattle.std.specs.Prelude.{◌≡◌, ℕ, ◌≤◌, ◌<◌}
use Rattle.below.specs.Below.{sum_below}
use Rattle.precedence.specs.Graph.{Plan, Formed, Cycle, Longest, remaining, cost, NoEmptyLeg}

-- `rounds d` is the sum of "the longest chain of unvisited stops that ends at its last stop", 0 for a finished drone
pub record ByChains (P : Plan) (leg : ℕ → ℕ → ℕ) (p rounds : ℕ → ℕ) : Type 0 where
  pub unfinished : (d : ℕ) → d < P.drones → p d < P.last d → Longest P leg p d (rounds d)
  pub finished : (d : ℕ) → d < P.drones → P.last d ≤ p d → rounds d ≡ 0

-- the rounds played are numbers by chains, and no other numbers are, so that the costs are one number
pub record SameRounds (P : Plan) (leg : ℕ → ℕ → ℕ) (p : ℕ → ℕ) : Type 0 where
  pub played_by_chains : ByChains P leg p (remaining P leg p)
  pub chains_are_played : (rounds : ℕ → ℕ) → ByChains P leg p rounds → (d : ℕ) → d < P.drones → rounds d ≡ remaining P leg p d
  pub same_cost : (rounds : ℕ → ℕ) → ByChains P leg p rounds → sum_below P.drones rounds ≡ cost P leg p

-- "The two ways are proved to agree": in every graph without a cycle, from all places, with any legs that are not empty
abbrev pub TwoWaysAgree : Type 0
TwoWaysAgree = (P : Plan) → Formed P → (Cycle P → ⊥) → (leg : ℕ → ℕ → ℕ) (p : ℕ → ℕ) → NoEmptyLeg P leg p → SameRounds P leg p
