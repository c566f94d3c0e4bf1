-- The search of a location in the trees of first stops: where it has come to, and how it ends. Assumes nothing.
use Rattle.std.specs.Prelude.{◌≡◌, ◌≢◌, List, ℕ, ◌+◌, ◌*◌, ◌/◌, ◌<◌, Result, Ok, Err}
use Rattle.below.specs.Below.{at}
use Rattle.plan.specs.Sharing.{roots, root_of, first_where, Leads}

-- the search of location l among the first n stops
module _ (loc : ℕ → ℕ) (n l : ℕ) (links : List ℕ) where
  -- it has come to a slot: the first stop there, if there is one, is still to come; and where `links` only grows, a way on from the slot is one from the root
  pub record Searching (slot digits : ℕ) : Type 0 where
    pub within : slot < roots + 2 * n
    pub ahead : first_where loc n l < n → Leads loc links l slot digits (first_where loc n l)
    pub back : (links' : List ℕ) (u : ℕ) → ((t : ℕ) → at links t ≢ 0 → at links' t ≡ at links t) → Leads loc links' l slot digits u → Leads loc links' l (root_of l) (l / roots) u

  -- it ends at the first stop there or, where there is none, at a free slot
  abbrev pub SearchEnds : Result ℕ ℕ → Type 0
  SearchEnds (Ok u) = (u < n) × (u ≡ first_where loc n l)
  SearchEnds (Err slot) = (n ≡ first_where loc n l) × (at links slot ≡ 0) × ((digits : ℕ) × Searching slot digits)
