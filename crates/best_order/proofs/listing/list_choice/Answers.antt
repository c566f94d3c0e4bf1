use Prim.Native.Nat.{ℕ}
use mathlib.Core.Path.{◌≡◌}
use mathlib.Core.List.{List}
use Rattle.tables.specs.Zero.{front_filled, zeroed}
use native.Mathlib.Omega.{arith}
use lib.ListN.{replicate, length-replicate}
use Rattle.tables.specs.Limits.{limits}
use Rattle.choices.specs.Searching.{choice_in}
use Rattle.best_order.proofs.BestAnswers.{choice-listed}
use Rattle.best_order.proofs.listing.list_choice.Goals as goal

zeroed_is : (n : ℕ) (l : List ℕ) {l' : List ℕ} → l' ≡ front_filled 0 n l → l' ≡ zeroed n l
unfolding zeroed
zeroed_is n l e = e

pub returns : goal.returns
returns c = choice-listed limits _ c.args.opens.now (choice_in c.args.chosen.now c.args.k) (replicate limits.dependencies 0) _ _ _ _ _ (omega (arith, c.requires.0, length-replicate {A = ℕ} limits.dependencies 0)) c.fill_directions.ensures (zeroed_is _ _ c.zero.ensures) c.list_turns.ensures
