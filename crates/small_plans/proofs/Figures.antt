-- The routes of the list are just those within the figures.
use mathlib.Core.Path.{◌≡◌, refl, sym, ap, ◌∙◌, subst}
use mathlib.Core.Logic.{inl, inr}
use mathlib.Core.List.{List, [], ◌∷◌}
use Prim.Native.Nat.{ℕ, zero, suc, ◌≤◌, ◌<◌}
use native.Mathlib.Omega.{arith}
use lib.ListN.{length}
use Rattle.below.specs.Below.{at}
use Rattle.small_plans.specs.Routes.{map, flat_map, tuples, SmallRoute, route_with, Within, small_routes}
use Rattle.small_plans.proofs.Lists.{Among, among-map, among-flat_map, map-among, flat_map-among}

-- every entry is one of the values
abbrev pub From : List ℕ → List ℕ → Type 0
From values l = (i : ℕ) → i < length l → Among (at l i) values

pub among-tuples : (values : List ℕ) (l : List ℕ) → From values l → Among l (tuples (length l) values)
unfolding tuples Among
among-tuples values [] h = inl refl
among-tuples values (a ∷ l) h =
    among-flat_map (λ a. map (λ l. a ∷ l) (tuples (length l) values)) a values (a ∷ l) (h 0 (omega arith))
    (among-map (λ l. a ∷ l) l (tuples (length l) values) (among-tuples values l (λ i k. h (suc i) (omega arith))))

pub tuples-among : (values : List ℕ) (n : ℕ) (l : List ℕ) → Among l (tuples n values) → (length l ≡ n) × From values l
unfolding tuples Among
tuples-among values zero l (inl e) = rw e (refl, λ i k. absurd (omega arith))
tuples-among values zero l (inr h) = absurd h
tuples-among values (suc n) l h =
    let (a, u, k) = flat_map-among (λ a. map (λ l. a ∷ l) (tuples n values)) values l h in
    let (m, v, e) = map-among (λ l. a ∷ l) (tuples n values) l k in
    let (q, f) = tuples-among values n m v in
    rw e (ap suc q, from a m u f)
  where
    from : (a : ℕ) (m : List ℕ) → Among a values → From values m → From values (a ∷ m)
    from a m u f zero k = u
    from a m u f (suc i) k = f i (omega arith)

-- ---- the figures

one_of_three : (n : ℕ) → 1 ≤ n → n ≤ 3 → Among n (1 ∷ 2 ∷ 3 ∷ [])
unfolding Among
one_of_three zero a b = absurd (omega arith)
one_of_three (suc zero) a b = inl refl
one_of_three (suc (suc zero)) a b = inr (inl refl)
one_of_three (suc (suc (suc zero))) a b = inr (inr (inl refl))
one_of_three (suc (suc (suc (suc n)))) a b = absurd (omega arith)

to_two : (n : ℕ) → n ≤ 2 → Among n (0 ∷ 1 ∷ 2 ∷ [])
unfolding Among
to_two zero b = inl refl
to_two (suc zero) b = inr (inl refl)
to_two (suc (suc zero)) b = inr (inr (inl refl))
to_two (suc (suc (suc n))) b = absurd (omega arith)

to_four : (n : ℕ) → n ≤ 4 → Among n (0 ∷ 1 ∷ 2 ∷ 3 ∷ 4 ∷ [])
unfolding Among
to_four zero b = inl refl
to_four (suc zero) b = inr (inl refl)
to_four (suc (suc zero)) b = inr (inr (inl refl))
to_four (suc (suc (suc zero))) b = inr (inr (inr (inl refl)))
to_four (suc (suc (suc (suc zero)))) b = inr (inr (inr (inr (inl refl))))
to_four (suc (suc (suc (suc (suc n))))) b = absurd (omega arith)

three_of : (n : ℕ) → Among n (1 ∷ 2 ∷ 3 ∷ []) → (1 ≤ n) × (n ≤ 3)
unfolding Among
three_of n (inl e) = (omega arith, omega arith)
three_of n (inr (inl e)) = (omega arith, omega arith)
three_of n (inr (inr (inl e))) = (omega arith, omega arith)
three_of n (inr (inr (inr h))) = absurd h

two_to : (n : ℕ) → Among n (0 ∷ 1 ∷ 2 ∷ []) → n ≤ 2
unfolding Among
two_to n (inl e) = omega arith
two_to n (inr (inl e)) = omega arith
two_to n (inr (inr (inl e))) = omega arith
two_to n (inr (inr (inr h))) = absurd h

four_to : (n : ℕ) → Among n (0 ∷ 1 ∷ 2 ∷ 3 ∷ 4 ∷ []) → n ≤ 4
unfolding Among
four_to n (inl e) = omega arith
four_to n (inr (inl e)) = omega arith
four_to n (inr (inr (inl e))) = omega arith
four_to n (inr (inr (inr (inl e)))) = omega arith
four_to n (inr (inr (inr (inr (inl e))))) = omega arith
four_to n (inr (inr (inr (inr (inr h))))) = absurd h

-- ---- both ways

abbrev places : List ℕ
places = 0 ∷ 1 ∷ 2 ∷ []

abbrev moments : List ℕ
moments = 0 ∷ 1 ∷ 2 ∷ 3 ∷ 4 ∷ []

abbrev timed : ℕ → List ℕ → List SmallRoute
timed n l = map (λ t. route_with l t) (tuples n moments)

abbrev placed : ℕ → List SmallRoute
placed n = flat_map (tuples n places) (timed n)

pub within-among : (x : SmallRoute) → Within x → Among x small_routes
unfolding small_routes
within-among x w =
    let l = x.locations in
    let t = x.times in
    let h : Among t (tuples (length l) moments) = subst (λ (n : ℕ). Among t (tuples n moments)) w.timed (among-tuples moments t (λ i k. to_four (at t i) (w.early i k))) in
    among-flat_map placed (length l) (1 ∷ 2 ∷ 3 ∷ []) x (one_of_three (length l) w.some w.few)
    (among-flat_map (timed (length l)) l (tuples (length l) places) x (among-tuples places l (λ i k. to_two (at l i) (w.places i k)))
    (among-map (λ t. route_with l t) t (tuples (length l) moments) h))

pub among-within : (x : SmallRoute) → Among x small_routes → Within x
unfolding small_routes
among-within x h =
    let (n, a, h₁) = flat_map-among placed (1 ∷ 2 ∷ 3 ∷ []) x h in
    let (l, b, h₂) = flat_map-among (timed n) (tuples n places) x h₁ in
    let (t, c, e) = map-among (λ t. route_with l t) (tuples n moments) x h₂ in
    let (p, f) = tuples-among places n l b in
    let (q, g) = tuples-among moments n t c in
    let (low, high) = three_of n a in
    subst Within (sym e) (record {
      some = omega arith;
      few = omega arith;
      timed = q ∙ sym p;
      places = λ i k. two_to (at l i) (f i k);
      early = λ i k. four_to (at t i) (g i k);
    })
