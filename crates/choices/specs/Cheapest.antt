-- What the search is to find, said without a walk: "the least cost of all choices without a cycle, the earliest such choice". Assumes nothing.
use Rattle.std.specs.Prelude.{◌≡◌, Bool, true, false, List, ◌∷◌, ◌++◌, ℕ, ◌≤◌, ◌<◌, length}

-- "in number order, left before turned": at the first dependency where they differ, the earlier choice leaves it
pub data ChosenBefore : List Bool → List Bool → Type 0 where
  leaves : {xs ys : List Bool} → ChosenBefore (false ∷ xs) (true ∷ ys)
  later : {b : Bool} {xs ys : List Bool} → ChosenBefore xs ys → ChosenBefore (b ∷ xs) (b ∷ ys)

module _ (cyclic : List Bool → Bool) (cost : List Bool → ℕ) where
  -- a choice of all k dependencies whose graph has no cycle
  pub record Choice (k : ℕ) (xs : List Bool) : Type 0 where
    pub whole : length xs ≡ k
    pub sound : cyclic xs ≡ false

  -- xs is the earliest of the cheapest choices, and c its cost: none costs less, and each earlier one costs more
  pub record Cheapest (k c : ℕ) (xs : List Bool) : Type 0 where
    pub is_choice : Choice k xs
    pub costs : cost xs ≡ c
    pub least : (ys : List Bool) → Choice k ys → c ≤ cost ys
    pub earliest : (ys : List Bool) → Choice k ys → ChosenBefore ys xs → c < cost ys

  -- a longer choice has the cycles of its beginning, and without a cycle at least its cost
  pub record Growing : Type 0 where
    pub cyclic_stays : (xs ys : List Bool) → cyclic xs ≡ true → cyclic (xs ++ ys) ≡ true
    pub cost_grows : (xs ys : List Bool) → cyclic (xs ++ ys) ≡ false → cost xs ≤ cost (xs ++ ys)
