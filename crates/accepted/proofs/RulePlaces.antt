-- The order in which the rules of a single stop are looked at. Assumes nothing.
use mathlib.Core.Path.{◌≡◌, refl}
use Rattle.accepted.specs.Reported.{rule_place}

pub places : (rule_place 7 ≡ 0) × (rule_place 8 ≡ 1) × (rule_place 12 ≡ 2) × (rule_place 9 ≡ 3)
unfolding rule_place
places = (refl, refl, refl, refl)
