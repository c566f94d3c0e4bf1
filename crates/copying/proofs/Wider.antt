-- The legs of a `plan=1` plan are legs of every form ("A `plan=1` text reads as legs of one, 0 at stop 0"), so a route that is in range of a form is in range of every later one.
use Prim.Native.Nat.{ℕ, suc, ◌≤◌}
use native.Mathlib.Omega.{arith}
use mathlib.Core.Path.{◌≡◌}
use mathlib.Core.List.{List, [], ◌∷◌}
use mathlib.Core.Bool.{Bool, true, false, cond, ◌&&◌}
use lib.Dec.{leb, eqb}
use borrow.Author.Tests.{leb-true, le-leb, eqb-true, eqb-false}
use Rattle.below.proofs.Tests.{by_cases}
use Rattle.tables.specs.Limits.{Limits}
use Rattle.tables.specs.Legs.{longest_leg, leg_right}
use Rattle.lines.specs.Stops.{StopsInRange}
use Rattle.lines.proofs.ByteLaws.{both}
use Rattle.text.specs.Written.{Route}
use Rattle.copying.specs.Reckoned.{RouteInRange, AllInRange}

module _ (L : Limits) (f f' : ℕ) (low : 1 ≤ f) (later : f ≤ f') (some : 1 ≤ L.leg) where
  longest_wider : longest_leg L f ≤ longest_leg L f'
  unfolding longest_leg
  longest_wider =
      by_cases (eqb f 1)
      (λ p. by_cases (eqb f' 1) (λ q. rw (p, q) (omega arith)) (λ q. rw (p, q) (omega (arith, some))))
      (λ p. by_cases (eqb f' 1) (λ q. absurd (eqb-false f 1 p (omega (arith, low, later, eqb-true f' 1 q)))) (λ q. rw (p, q) (omega arith)))

  leg_wider : (s g : ℕ) → leg_right L f s g ≡ true → leg_right L f' s g ≡ true
  unfolding leg_right
  leg_wider s g h = by_stop (eqb s 0) h
    where
      by_stop : (c : Bool) → cond c (eqb g 0) (leb 1 g && leb g (longest_leg L f)) ≡ true → cond c (eqb g 0) (leb 1 g && leb g (longest_leg L f')) ≡ true
      by_stop true k = k
      by_stop false k =
          let w = both (leb 1 g) (leb g (longest_leg L f)) k in
          rw (w.0, le-leb g (longest_leg L f') (omega (arith, leb-true g (longest_leg L f) w.1, longest_wider)))

  stops_wider : (s : ℕ) (ls ts gs : List ℕ) → StopsInRange L f s ls ts gs → StopsInRange L f' s ls ts gs
  stops_wider s [] [] [] r = tt
  stops_wider s [] [] (g ∷ gs) r = absurd r
  stops_wider s [] (t ∷ ts) gs r = absurd r
  stops_wider s (l ∷ ls) [] gs r = absurd r
  stops_wider s (l ∷ ls) (t ∷ ts) [] r = absurd r
  stops_wider s (l ∷ ls) (t ∷ ts) (g ∷ gs) r = (r.0, r.1, leg_wider s g r.2, stops_wider (suc s) ls ts gs r.3)

  -- the law: of one route, and of all
  pub in_range_wider : (d : Route) → RouteInRange L f d → RouteInRange L f' d
  in_range_wider d r = (r.0, r.1, r.2, stops_wider 0 d.locations d.times d.legs r.3)

  pub all_in_range_wider : (ds : List Route) → AllInRange L f ds → AllInRange L f' ds
  all_in_range_wider [] v = tt
  all_in_range_wider (d ∷ ds) v = (in_range_wider d v.0, all_in_range_wider ds v.1)
