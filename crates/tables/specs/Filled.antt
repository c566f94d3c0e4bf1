-- Slices lent for writing: a call that writes them leaves them the slices that were lent. Assumes nothing.
use Rattle.std.specs.Prelude.{◌≡◌, List, [], ◌∷◌, ℕ}
use Rattle.tables.specs.declared.filled.Routes.{Routes}

-- which slices were lent, by the names of their loans
abbrev pub routes_lent : Routes → List ℕ
routes_lent t = t.names.ghost_name ∷ t.stop_counts.ghost_name ∷ t.locations.ghost_name ∷ t.times.ghost_name ∷ t.legs.ghost_name ∷ []

-- the slices are still those that were lent, whatever they hold
abbrev pub SameRoutes : Routes → Routes → Type 0
SameRoutes old new = routes_lent new ≡ routes_lent old
