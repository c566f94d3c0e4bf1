use mathlib.Core.Path.{refl}
use Rattle.below.proofs.Tests.{true_or_false}
use Rattle.orders.proofs.Arranged.{turned_spot}
use Rattle.orders.proofs.PathLaws.{told_way, way_set, more_judgeable, more_standing, path_told}
use Rattle.orders.proofs.search.decide.Goals as goal

pub in_direction-stop-requires : goal.in_direction-stop-requires
in_direction-stop-requires c = turned_spot _ _ _ _ _ _ _ _ _ _ _ c.requires.searchable.0 c.args.depth c.requires.searchable.2

pub try_wait-trial-requires : goal.try_wait-trial-requires
try_wait-trial-requires c = record { judgeable = (more_judgeable _ _ _ _ _ _ _ _ _ _ _ c.requires.searchable.0 _ c.requires.searchable.1 c.requires.on_path c.requires.searchable.2 c.from.result _ _ (told_way c.args.turned c.from.ensures _ _ c.in_direction-stop.ensures.0) (told_way c.args.turned c.from.ensures _ _ c.in_direction-stop.ensures.1), c.requires.searchable.1); up_to_date = more_standing _ _ _ _ _ _ _ _ _ _ _ c.requires.searchable.0 _ c.requires.searchable.1 c.requires.on_path c.requires.searchable.2 c.from.result _ _ (told_way c.args.turned c.from.ensures _ _ c.in_direction-stop.ensures.0) (told_way c.args.turned c.from.ensures _ _ c.in_direction-stop.ensures.1) }

pub returns-in-Cycle : goal.returns-in-Cycle
returns-in-Cycle c = (path_told _ _ _ _ _ _ _ _ _ _ _ c.requires.searchable.0 _ c.requires.searchable.1 c.requires.on_path c.requires.searchable.2 c.from.result _ _ (told_way c.args.turned c.from.ensures _ _ c.in_direction-stop.ensures.0) (told_way c.args.turned c.from.ensures _ _ c.in_direction-stop.ensures.1) c.in-Cycle.ensures (λ q. refl) (λ q. true_or_false refl q) (λ q. refl) (λ q. true_or_false q refl) refl, way_set c.args.turned c.from.ensures _ _)

pub returns-in-Raised : goal.returns-in-Raised
returns-in-Raised c = (path_told _ _ _ _ _ _ _ _ _ _ _ c.requires.searchable.0 _ c.requires.searchable.1 c.requires.on_path c.requires.searchable.2 c.from.result _ _ (told_way c.args.turned c.from.ensures _ _ c.in_direction-stop.ensures.0) (told_way c.args.turned c.from.ensures _ _ c.in_direction-stop.ensures.1) c.in-Raised.ensures (λ q. true_or_false q refl) (λ q. refl) (λ q. refl) (λ q. true_or_false q refl) refl, way_set c.args.turned c.from.ensures _ _)

pub returns-in-Refilled : goal.returns-in-Refilled
returns-in-Refilled c = (path_told _ _ _ _ _ _ _ _ _ _ _ c.requires.searchable.0 _ c.requires.searchable.1 c.requires.on_path c.requires.searchable.2 c.from.result _ _ (told_way c.args.turned c.from.ensures _ _ c.in_direction-stop.ensures.0) (told_way c.args.turned c.from.ensures _ _ c.in_direction-stop.ensures.1) c.in-Refilled.ensures (λ q. true_or_false q refl) (λ q. refl) (λ q. true_or_false refl q) (λ q. refl) refl, way_set c.args.turned c.from.ensures _ _)
