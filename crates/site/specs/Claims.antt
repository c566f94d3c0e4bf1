-- What is claimed of the site text; the proofs are in proofs/. Assumes nothing.
use Rattle.std.specs.Prelude.{◌≡◌, List, ℕ, ◌*◌, ◌^◌, ◌≤◌, ◌<◌, length, Ok}
use Rattle.std.proofs.lemmas.List.Edits.{sets}
use Rattle.below.specs.Below.{at}
use Rattle.tables.specs.Limits.{Limits, most_pairs}
use Rattle.near.specs.Near.{SoundPairs}
use Rattle.site.specs.Site.{site_at}
use Rattle.site.specs.Written.{site_text, Ordered}

-- the numbers are those of n pairs in order, within the limits
pub record SitePairs (L : Limits) (n : ℕ) (numbers : List ℕ) : Type 0 where
  pub ordered : Ordered L 0 0 numbers
  pub many : length numbers ≡ 2 * n
  pub few : n ≤ most_pairs

-- a text that is taken is that of its pairs
pub record SiteTaken (L : Limits) (text : List ℕ) : Type 0 where
  pub n : ℕ
  pub pairs : SitePairs L n (site_at L text).numbers
  pub written : text ≡ site_text n (site_at L text).numbers

pub record SiteClaims (L : Limits) : Type 0 where
  -- "`site=1`, `pairs=N` (0 to 256), lines `near=A,B` with A below B, in strictly rising order by A and then by B, then `end=site`": such a text is taken, and gives its pairs
  pub written_taken : L.location < 10 ^ 7 → most_pairs < 10 ^ 7 → (n : ℕ) (numbers : List ℕ) → SitePairs L n numbers → site_at L (site_text n numbers) ≡ record { numbers = numbers; answer = Ok tt }
  -- and no other
  pub taken_written : (text : List ℕ) → (site_at L text).answer ≡ Ok tt → SiteTaken L text
  -- "they must be a list that a site text could give": what a taken text leaves in a zeroed table is sound
  pub taken_sound : (text table : List ℕ) → 2 * most_pairs ≤ length table → ((j : ℕ) → j < 2 * most_pairs → at table j ≡ 0) → (site_at L text).answer ≡ Ok tt → SoundPairs L (sets table 0 (site_at L text).numbers)
