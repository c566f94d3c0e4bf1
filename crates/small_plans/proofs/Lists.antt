-- Entries of lists that are made from lists.
use mathlib.Core.Path.{◌≡◌, refl, sym, ap, ◌∙◌, subst}
use mathlib.Core.Logic.{◌⊎◌, inl, inr}
use mathlib.Core.Bool.{Bool, true}
use mathlib.Core.List.{List, [], ◌∷◌, ◌++◌}
use Prim.Native.Nat.{ℕ, zero, suc, ◌<◌}
use native.Mathlib.Omega.{arith}
use lib.ListN.{length, get_or}
use Rattle.below.proofs.Tests.{by_cases}
use Rattle.small_plans.specs.Routes.{map, flat_map, filter}

-- x is one of the entries
unfoldable pub Among : {A : Type 0} → A → List A → Type 0
Among x [] = ⊥
Among x (y ∷ ys) = (x ≡ y) ⊎ Among x ys

-- ---- into a list

pub among-left : {A : Type 0} (x : A) (l m : List A) → Among x l → Among x (l ++ m)
unfolding Among
among-left x [] m h = absurd h
among-left x (y ∷ l) m (inl e) = inl e
among-left x (y ∷ l) m (inr h) = inr (among-left x l m h)

pub among-right : {A : Type 0} (x : A) (l m : List A) → Among x m → Among x (l ++ m)
unfolding Among
among-right x [] m h = h
among-right x (y ∷ l) m h = inr (among-right x l m h)

pub among-map : {A B : Type 0} (f : A → B) (x : A) (l : List A) → Among x l → Among (f x) (map f l)
unfolding Among map
among-map f x [] h = h
among-map f x (y ∷ l) (inl e) = inl (ap f e)
among-map f x (y ∷ l) (inr h) = inr (among-map f x l h)

pub among-flat_map : {A B : Type 0} (f : A → List B) (x : A) (l : List A) (y : B) → Among x l → Among y (f x) → Among y (flat_map l f)
unfolding Among flat_map
among-flat_map f x [] y h k = absurd h
among-flat_map f x (z ∷ l) y (inl e) k = among-left y (f z) (flat_map l f) (subst (λ w. Among y (f w)) e k)
among-flat_map f x (z ∷ l) y (inr h) k = among-right y (f z) (flat_map l f) (among-flat_map f x l y h k)

pub among-filter : {A : Type 0} (p : A → Bool) (x : A) (l : List A) → Among x l → p x ≡ true → Among x (filter p l)
unfolding Among filter
among-filter p x [] h e = h
among-filter p x (y ∷ l) (inl q) e = rw (← q, e) (inl refl)
among-filter p x (y ∷ l) (inr h) e = by_cases (p y) (λ k. rw k (inr (among-filter p x l h e))) (λ k. rw k (among-filter p x l h e))

-- ---- out of a list

pub append-among : {A : Type 0} (x : A) (l m : List A) → Among x (l ++ m) → Among x l ⊎ Among x m
unfolding Among
append-among x [] m h = inr h
append-among x (y ∷ l) m (inl e) = inl (inl e)
append-among x (y ∷ l) m (inr h) = elim (append-among x l m h) [ inl k ↦ inl (inr k) | inr k ↦ inr k ]

pub map-among : {A B : Type 0} (f : A → B) (l : List A) (y : B) → Among y (map f l) → (x : A) × Among x l × (y ≡ f x)
unfolding Among map
map-among f [] y h = absurd h
map-among f (x ∷ l) y (inl e) = (x, inl refl, e)
map-among f (x ∷ l) y (inr h) = let (z, a, e) = map-among f l y h in (z, inr a, e)

pub flat_map-among : {A B : Type 0} (f : A → List B) (l : List A) (y : B) → Among y (flat_map l f) → (x : A) × Among x l × Among y (f x)
unfolding Among flat_map
flat_map-among f [] y h = absurd h
flat_map-among f (x ∷ l) y h = elim (append-among y (f x) (flat_map l f) h) [ inl k ↦ (x, inl refl, k) | inr k ↦ let (z, a, b) = flat_map-among f l y k in (z, inr a, b) ]

kept_first : {A : Type 0} (p : A → Bool) (y : A) (l : List A) (x : A) → (Among x (filter p l) → Among x l × (p x ≡ true)) → p y ≡ true → (x ≡ y) ⊎ Among x (filter p l) → ((x ≡ y) ⊎ Among x l) × (p x ≡ true)
kept_first p y l x more k (inl q) = (inl q, ap p q ∙ k)
kept_first p y l x more k (inr m) = let (a, e) = more m in (inr a, e)

pub filter-among : {A : Type 0} (p : A → Bool) (l : List A) (x : A) → Among x (filter p l) → Among x l × (p x ≡ true)
unfolding Among filter
filter-among p [] x h = absurd h
filter-among p (y ∷ l) x h = by_cases (p y)
    (λ k. kept_first p y l x (filter-among p l x) k (rw k at h))
    (λ k. let (a, e) = filter-among p l x (rw k at h) in (inr a, e))

-- ---- by number

pub among-index : {A : Type 0} (d x : A) (l : List A) → Among x l → (k : ℕ) × (k < length l) × (get_or l k d ≡ x)
unfolding Among
among-index d x [] h = absurd h
among-index d x (y ∷ l) (inl e) = (0, omega arith, sym e)
among-index d x (y ∷ l) (inr h) = let (k, a, e) = among-index d x l h in (suc k, omega arith, e)

pub index-among : {A : Type 0} (d : A) (l : List A) (k : ℕ) → k < length l → Among (get_or l k d) l
unfolding Among
index-among d [] k h = absurd (omega arith)
index-among d (y ∷ l) zero h = inl refl
index-among d (y ∷ l) (suc k) h = inr (index-among d l k (omega arith))
