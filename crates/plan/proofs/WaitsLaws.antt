-- A wait of the plan graph, read from a dependency's fields; what a drone waits for in the tables' own plan. Assumes nothing.
use mathlib.Core.Path.{◌≡◌, refl, sym, ◌∙◌}
use mathlib.Core.List.{List}
use mathlib.Core.Bool.{Bool, true, false, ◌||◌}
use Prim.Native.Nat.{ℕ, ◌≤◌, ◌<◌}
use native.Mathlib.Nat.{le_antisymm}
use Rattle.below.specs.Below.{first_below, at}
use Rattle.below.proofs.Search.{first_hit, first_end}
use Rattle.tables.specs.Flags.{turned_bit}
use Rattle.precedence.specs.Graph.{departure, blocks}
use Rattle.plan.specs.Field.{graph, wait_unless}
use Rattle.plan.specs.Status.{unmet}
use Rattle.plan.specs.Columns.{Columns}
use Rattle.plan.specs.Waits.{blocks_next, entry_blocks, withdrawn_in, plan_in, status_of}

either_way : (a b : Bool) → a || b ≡ b || a
either_way true true = refl
either_way true false = refl
either_way false true = refl
either_way false false = refl

-- a dependency that is not turned, and one that is
module _ (turned : Bool) (first first_stop second second_stop : ℕ) (p : ℕ → ℕ) (x : ℕ → Bool) (d : ℕ) (r : Bool) where
  pub entry_planned : turned ≡ false → r ≡ blocks_next (wait_unless (x first || x second) (departure first first_stop second second_stop)) p d → r ≡ entry_blocks turned first first_stop second second_stop p x d
  unfolding entry_blocks
  entry_planned t e = rw t e

  pub entry_turned : turned ≡ true → r ≡ blocks_next (wait_unless (x second || x first) (departure second second_stop first first_stop)) p d → r ≡ entry_blocks turned first first_stop second second_stop p x d
  unfolding entry_blocks
  entry_turned t e = rw (t, either_way (x first) (x second)) e

-- ---- the search over the entries: entry w of the columns blocks drone d
unfoldable pub blocks_at_lem : (m : ℕ) (visited drone_flags : List ℕ) (c : Columns) (d w : ℕ) → Bool
blocks_at_lem m visited drone_flags c d w = blocks (graph (plan_in m c) (status_of visited drone_flags c)) (at visited) d w

module _ (m : ℕ) (visited drone_flags : List ℕ) (c : Columns) (d : ℕ) where
  pub blocks_at : (w : ℕ) (r b : Bool) → r ≡ entry_blocks (turned_bit (at c.flags w)) (at c.first_drones w) (at c.first_stops w) (at c.second_drones w) (at c.second_stops w) (at visited) (withdrawn_in drone_flags) d → r ≡ b → blocks_at_lem m visited drone_flags c d w ≡ b
  unfolding blocks_at_lem entry_blocks blocks_next blocks
  blocks_at w r b e h = sym e ∙ h

  pub unmet_hit : (i : ℕ) → i < m → first_below i (blocks_at_lem m visited drone_flags c d) ≡ i → blocks_at_lem m visited drone_flags c d i ≡ true → i ≡ unmet (plan_in m c) (status_of visited drone_flags c) d
  unfolding blocks_at_lem
  unmet_hit i l e h = first_hit _ i m l e h

  pub unmet_end : (i : ℕ) → i ≤ m → m ≤ i → first_below i (blocks_at_lem m visited drone_flags c d) ≡ i → m ≡ unmet (plan_in m c) (status_of visited drone_flags c) d
  unfolding blocks_at_lem
  unmet_end i k l e = le_antisymm l k ∙ first_end _ i m k l e
