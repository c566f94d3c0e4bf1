-- Locations that are near each other (request 7, "Crossings too close together"): the pairs of a site text as their lent table holds them, and when two locations
-- meet. Pair i stands at 2i and 2i + 1. Assumes nothing.
use Rattle.std.specs.Prelude.{◌≡◌, Bool, true, false, ◌&&◌, ◌||◌, List, [], ◌∷◌, ℕ, zero, suc, ◌+◌, ◌*◌, ◌-◌, ◌≤◌, ◌<◌, ltb, leb, eqb, length}
use Rattle.below.specs.Below.{at, first_below, all_below, pair_before}
use Rattle.tables.specs.Limits.{Limits, most_pairs}

-- "lines `near=A,B` with A below B": A and B of pair i
abbrev pub lower : List ℕ → ℕ → ℕ
lower pairs i = at pairs (2 * i)

abbrev pub upper : List ℕ → ℕ → ℕ
upper pairs i = at pairs (2 * i + 1)

-- "A site text .. lists such pairs": the pair of a and b is one of the first n of a table. A is below B, so that no B is zero; the first that is ends the pairs
unfoldable pub listed_in : ℕ → List ℕ → (a b : ℕ) → Bool
listed_in zero pairs a b = false
listed_in (suc n) [] a b = false
listed_in (suc n) (x ∷ []) a b = false
listed_in (suc n) (x ∷ (zero ∷ pairs)) a b = false
listed_in (suc n) (x ∷ (suc y ∷ pairs)) a b = (eqb x a && eqb (suc y) b) || listed_in n pairs a b

module _ (pairs : List ℕ) where
  -- "`pairs=N` (0 to 256)": the pair of a and b is one of them
  abbrev pub is_listed : ℕ → ℕ → Bool
  is_listed a b = listed_in most_pairs pairs a b

  -- two locations are near, whichever is named first
  unfoldable pub near : ℕ → ℕ → Bool
  near a b = is_listed a b || is_listed b a

  -- "when their locations are equal or near"
  unfoldable pub meets_in : ℕ → ℕ → Bool
  meets_in a b = eqb a b || near a b

  -- how many pairs there are
  unfoldable pub pair_count : ℕ
  pair_count = first_below most_pairs (λ i. eqb (upper pairs i) 0)

module _ (L : Limits) (pairs : List ℕ) where
  -- pair i: "A below B, in strictly rising order by A and then by B", both locations
  unfoldable pub pair_sound : ℕ → Bool
  pair_sound i =
      ltb (lower pairs i) (upper pairs i)
      && (leb (upper pairs i) L.location && (eqb i 0 || pair_before (lower pairs (i - 1)) (upper pairs (i - 1)) (lower pairs i) (upper pairs i)))

  -- "they must be a list that a site text could give". That the entries after them are zero is a clause of sound of its own
  unfoldable pub pairs_sound : Bool
  pairs_sound = all_below (pair_count pairs) pair_sound

  -- a table with room for all pairs, which are such a list
  pub record SoundPairs : Type 0 where
    pub has_pairs : 2 * most_pairs ≤ length pairs
    pub sound_pairs : pairs_sound ≡ true

  -- the same as facts, with the number of pairs: what the search of a pair asks for
  pub record Paired (c : ℕ) : Type 0 where
    pub room : 2 * most_pairs ≤ length pairs
    pub counted : c ≡ pair_count pairs
    pub lowers : (i : ℕ) → i < c → lower pairs i < upper pairs i
    pub fits : (i : ℕ) → i < c → upper pairs i ≤ L.location
    pub rises : (i : ℕ) → suc i < c → pair_before (lower pairs i) (upper pairs i) (lower pairs (suc i)) (upper pairs (suc i)) ≡ true

-- pair i as one number, by which the pairs rise
abbrev pub key_at : List ℕ → ℕ → ℕ
key_at pairs i = lower pairs i * 65536 + upper pairs i
