-- A site text as it is written, from the numbers of its pairs, and which numbers those can be. Assumes nothing.
use Rattle.std.specs.Prelude.{◌≡◌, true, List, [], ◌∷◌, ◌++◌, ℕ, ◌≤◌, ◌<◌}
use Rattle.below.specs.Below.{pair_before}
use Rattle.tables.specs.Limits.{Limits}
use Rattle.lines.specs.Keys.{line_feed}
use Rattle.lines.specs.Numbers.{field}
use Rattle.site.specs.Site.{site_line, pairs_key, near_key, comma, site_end}

abbrev pub near_line : ℕ → ℕ → List ℕ
near_line a b = near_key ++ field a comma ++ field b line_feed

-- the lines of pairs a, b and so on
unfoldable pub near_lines : List ℕ → List ℕ
near_lines [] = []
near_lines (a ∷ []) = []
near_lines (a ∷ (b ∷ numbers)) = near_line a b ++ near_lines numbers

abbrev pub pairs_line : ℕ → List ℕ
pairs_line n = pairs_key ++ field n line_feed

-- the text of n pairs
abbrev pub site_text : ℕ → List ℕ → List ℕ
site_text n numbers = site_line ++ pairs_line n ++ near_lines numbers ++ site_end

-- the pair of a and b may stand after that of c and d: "A below B, in strictly rising order by A and then by B"
pub record OrderedPair (L : Limits) (c d a b : ℕ) : Type 0 where
  pub near : b ≤ L.location
  pub up : a < b
  pub after : pair_before c d a b ≡ true

-- the numbers of pairs in order, after that of c and d; (0, 0) is below every pair
abbrev pub Ordered : Limits → (c d : ℕ) → List ℕ → Type 0
Ordered L c d [] = Unit {0}
Ordered L c d (a ∷ []) = ⊥
Ordered L c d (a ∷ (b ∷ numbers)) = OrderedPair L c d a b × Ordered L a b numbers
