-- The routes of small plans, in order. Assumes nothing.
use Rattle.std.specs.Prelude.{◌≡◌, Bool, false, cond, ◌&&◌, ◌||◌, List, [], ◌∷◌, ◌++◌, ℕ, zero, suc, ◌≤◌, ◌<◌, ltb, eqb, length}
use Rattle.below.specs.Below.{at, list_below}
use Rattle.tables.specs.Legs.{plain_leg}
use Rattle.text.specs.LinesRead.{same}

-- ---- lists

-- f of each entry, in order
unfoldable pub map : {A B : Type 0} → (A → B) → List A → List B
map f [] = []
map f (x ∷ xs) = f x ∷ map f xs

-- the lists of the entries, one after the other
unfoldable pub flat_map : {A B : Type 0} → List A → (A → List B) → List B
flat_map [] f = []
flat_map (x ∷ xs) f = f x ++ flat_map xs f

-- the entries that pass, in order
unfoldable pub filter : {A : Type 0} → (A → Bool) → List A → List A
filter p [] = []
filter p (x ∷ xs) = cond (p x) (x ∷ filter p xs) (filter p xs)

-- every list of n of these values, ordered by the first entry, then by the second and so on
unfoldable pub tuples : ℕ → List ℕ → List (List ℕ)
tuples zero values = [] ∷ []
tuples (suc n) values = flat_map values (λ a. map (λ l. a ∷ l) (tuples n values))

-- ---- routes

-- the locations and the times of a drone's stops
pub record SmallRoute : Type 0 where
  pub locations : List ℕ
  pub times : List ℕ

abbrev pub route_with : List ℕ → List ℕ → SmallRoute
route_with l t = record { locations = l; times = t }

-- how many stops it has
abbrev pub route_length : SmallRoute → ℕ
route_length x = length x.locations

-- the legs into them: "the box of point 9 keeps to `plan=1`", which "reads as legs of one, 0 at stop 0"
abbrev pub small_legs : SmallRoute → List ℕ
small_legs x = list_below (route_length x) plain_leg

-- every entry is at most this
abbrev pub AtMost : ℕ → List ℕ → Type 0
AtMost most l = (i : ℕ) → i < length l → at l i ≤ most

-- "with locations 0 to 2, one to three stops each and times up to 4"
pub record Within (x : SmallRoute) : Type 0 where
  pub some : 1 ≤ route_length x
  pub few : route_length x ≤ 3
  pub timed : length x.times ≡ route_length x
  pub places : AtMost 2 x.locations
  pub early : AtMost 4 x.times

-- all of them: "ordered by length, then by locations from the first stop on, then by times"
unfoldable pub small_routes : List SmallRoute
small_routes =
    flat_map (1 ∷ 2 ∷ 3 ∷ []) (λ n.
    flat_map (tuples n (0 ∷ 1 ∷ 2 ∷ [])) (λ l.
    map (λ t. route_with l t) (tuples n (0 ∷ 1 ∷ 2 ∷ 3 ∷ 4 ∷ []))))

-- ---- the order

-- of two lists of one length the first is lower where they first differ
unfoldable pub lower_list : List ℕ → List ℕ → Bool
lower_list [] m = false
lower_list (a ∷ l) [] = false
lower_list (a ∷ l) (b ∷ m) = ltb a b || (eqb a b && lower_list l m)

-- "Route lists are ordered by length, then by locations from the first stop on, then by times"
unfoldable pub route_before : SmallRoute → SmallRoute → Bool
route_before x y =
    ltb (route_length x) (route_length y)
    || (eqb (route_length x) (route_length y) && (lower_list x.locations y.locations || (same x.locations y.locations && lower_list x.times y.times)))

unfoldable pub same_route : SmallRoute → SmallRoute → Bool
same_route x y = same x.locations y.locations && same x.times y.times
