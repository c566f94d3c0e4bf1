-- What is claimed of near locations, of any limits and any table; the proofs are in proofs/. Assumes nothing.
use Rattle.std.specs.Prelude.{◌≡◌, true, false, List, ℕ, ◌*◌, ◌<◌, eqb}
use Rattle.below.specs.Below.{at}
use Rattle.tables.specs.Limits.{Limits, most_pairs}
use Rattle.near.specs.Near.{lower, upper, pair_count, near, meets_in, SoundPairs}

pub record NearClaims (L : Limits) (pairs : List ℕ) : Type 0 where
  -- which location is named first makes no difference, and every location meets itself
  pub near_either_way : (a b : ℕ) → near pairs a b ≡ near pairs b a
  pub meet_either_way : (a b : ℕ) → meets_in pairs a b ≡ true → meets_in pairs b a ≡ true
  pub meets_itself : (a : ℕ) → meets_in pairs a a ≡ true
  -- "A plan read without a site text behaves as before": with no pairs, only equal locations meet
  pub without_pairs : pair_count pairs ≡ 0 → (a b : ℕ) → meets_in pairs a b ≡ eqb a b
  -- a pair of a sound table is near, and no location is near itself
  pub pairs_near : (i : ℕ) → i < pair_count pairs → near pairs (lower pairs i) (upper pairs i) ≡ true
  pub never_itself : SoundPairs L pairs → (a : ℕ) → near pairs a a ≡ false
  -- "Entries past a full size are never read"
  pub entries_read : (pairs' : List ℕ) → ((j : ℕ) → j < 2 * most_pairs → at pairs j ≡ at pairs' j) → (a b : ℕ) → meets_in pairs a b ≡ meets_in pairs' a b
