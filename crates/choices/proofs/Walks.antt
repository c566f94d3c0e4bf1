-- The walk finds the earliest of the cheapest choices: by induction on the number of undecided dependencies, what a walk over the choices that begin with
-- xs leaves is the best so far, if none of them is below it, or else the earliest cheapest one of them. Assumes nothing.
use mathlib.Core.Path.{◌≡◌, refl, ap, subst, fun_ext}
use mathlib.Core.Bool.{Bool, true, false, not}
use mathlib.Core.List.{List, [], ◌∷◌, ◌++◌, append-nil, append_assoc}
use Prim.Native.Nat.{ℕ, zero, suc, ◌≤◌, ◌<◌}
use native.Mathlib.Omega.{arith}
use lib.ListN.{length}
use borrow.Author.Tests.{ltb-true, ltb-false, lt-ltb, not-true}
use Rattle.below.proofs.Tests.{by_cases, true_or_false, and_left, and_right}
use Rattle.choices.specs.Walk.{SoFar, none_yet, cheapest, below, WalkState, at_first, more, is_entered, counted_on, finished_with, walk_over, full_walk}
use Rattle.choices.specs.Cheapest.{ChosenBefore, leaves, later, Choice, Cheapest, Growing}

-- ---- below the best so far

below_less : (c d : ℕ) (b : SoFar) → below c b ≡ true → below d b ≡ false → c < d
unfolding below
below_less c d none_yet p q = true_or_false refl q
below_less c d (cheapest x xs) p q = omega (arith, ltb-true c x p, ltb-false d x q)

below_down : (c d : ℕ) (b : SoFar) → c ≤ d → below d b ≡ true → below c b ≡ true
unfolding below
below_down c d none_yet l p = refl
below_down c d (cheapest x xs) l p = lt-ltb c x (omega (arith, ltb-true d x p))

not-below_up : (c d : ℕ) (b : SoFar) → c ≤ d → below c b ≡ false → below d b ≡ false
not-below_up c d b l p = by_cases (below d b) (λ e. true_or_false (below_down c d b l e) p) (λ e. e)

below-cheapest : (c d : ℕ) (xs : List Bool) → below d (cheapest c xs) ≡ true → d < c
unfolding below
below-cheapest c d xs p = ltb-true d c p

not-below-cheapest : (c d : ℕ) (xs : List Bool) → below d (cheapest c xs) ≡ false → c ≤ d
unfolding below
not-below-cheapest c d xs p = ltb-false d c p

pub below_none : (c : ℕ) → below c none_yet ≡ true
unfolding below
below_none c = refl

earlier_some : {xs ys : List Bool} → ChosenBefore xs ys → 0 < length ys
earlier_some leaves = omega arith
earlier_some (later e) = omega arith

module _ (cyclic : List Bool → Bool) (cost : List Bool → ℕ) where
  -- ---- a step of the walk

  pub enters_acyclic : (xs : List Bool) (b : SoFar) → is_entered cyclic cost xs b ≡ true → cyclic xs ≡ false
  unfolding is_entered
  enters_acyclic xs b e = not-true _ (and_left _ _ e)

  pub enters_below : (xs : List Bool) (b : SoFar) → is_entered cyclic cost xs b ≡ true → below (cost xs) b ≡ true
  unfolding is_entered
  enters_below xs b e = and_right (not (cyclic xs)) _ e

  pub enters_if : (xs : List Bool) (b : SoFar) → cyclic xs ≡ false → below (cost xs) b ≡ true → is_entered cyclic cost xs b ≡ true
  unfolding is_entered
  enters_if xs b p q = rw (p, q) refl

  pub enters_not : (xs : List Bool) (b : SoFar) → is_entered cyclic cost xs b ≡ false → cyclic xs ≡ false → below (cost xs) b ≡ false
  enters_not xs b e p = by_cases (below (cost xs) b) (λ q. true_or_false (enters_if xs b p q) e) (λ q. q)

  pub walk_past : (m : ℕ) (xs : List Bool) (s : WalkState) → is_entered cyclic cost xs s.best ≡ false → walk_over cyclic cost m xs s ≡ s
  unfolding walk_over
  walk_past zero xs s e = rw e refl
  walk_past (suc m) xs s e = rw e refl

  pub walk_last : (xs : List Bool) (s : WalkState) → is_entered cyclic cost xs s.best ≡ true → walk_over cyclic cost 0 xs s ≡ finished_with cyclic cost xs s
  unfolding walk_over
  walk_last xs s e = rw e refl

  pub walk_on : (m : ℕ) (xs : List Bool) (s : WalkState) → is_entered cyclic cost xs s.best ≡ true → walk_over cyclic cost (suc m) xs s ≡ walk_over cyclic cost m (more xs true) (walk_over cyclic cost m (more xs false) (counted_on cyclic cost s))
  unfolding walk_over
  walk_on m xs s e = rw e refl

  -- ---- what a walk leaves: g gives the whole choice for what is added to its beginning
  data Outcome (m : ℕ) (g : List Bool → List Bool) (b : SoFar) : SoFar → Type 0 where
    kept : ((ys : List Bool) → Choice (λ z. cyclic (g z)) (λ z. cost (g z)) m ys → below (cost (g ys)) b ≡ false) → Outcome m g b b
    better : (c : ℕ) (ys : List Bool) → Cheapest (λ z. cyclic (g z)) (λ z. cost (g z)) m c ys → below c b ≡ true → Outcome m g b (cheapest c (g ys))

  module _ (m : ℕ) (g : List Bool → List Bool) where
    abbrev Part : Bool → List Bool → Type 0
    Part d ys = Choice (λ z. cyclic (g (d ∷ z))) (λ z. cost (g (d ∷ z))) m ys

    abbrev Both : List Bool → Type 0
    Both ys = Choice (λ z. cyclic (g z)) (λ z. cost (g z)) (suc m) ys

    part : (d : Bool) (ys : List Bool) → Both (d ∷ ys) → Part d ys
    part d ys h = record { whole = omega (arith, h.whole); sound = h.sound }

    both : (d : Bool) (ys : List Bool) → Part d ys → Both (d ∷ ys)
    both d ys h = record { whole = ap suc h.whole; sound = h.sound }

    -- what holds of each choice that leaves the next one, and of each that turns it, holds of all
    by_next {ℓ} : (C : List Bool → Type ℓ) → ((ys : List Bool) → Part false ys → C (false ∷ ys)) → ((ys : List Bool) → Part true ys → C (true ∷ ys)) → (ys : List Bool) → Both ys → C ys
    by_next C p q [] h = absurd (let e : 0 ≡ suc m = h.whole in omega arith)
    by_next C p q (false ∷ ys) h = p ys (part false ys h)
    by_next C p q (true ∷ ys) h = q ys (part true ys h)

    turned-earlier : (c : ℕ) (zs : List Bool) → ((ys : List Bool) → Part false ys → c < cost (g (false ∷ ys))) → ((ys : List Bool) → Part true ys → ChosenBefore ys zs → c < cost (g (true ∷ ys))) → (ys : List Bool) → Both ys → ChosenBefore ys (true ∷ zs) → c < cost (g ys)
    turned-earlier c zs p q [] h x'' = elim x'' [ ]
    turned-earlier c zs p q (false ∷ ys) h leaves = p ys (part false ys h)
    turned-earlier c zs p q (true ∷ ys) h (later e) = q ys (part true ys h) e

    left-earlier : (c : ℕ) (zs : List Bool) → ((ys : List Bool) → Part false ys → ChosenBefore ys zs → c < cost (g (false ∷ ys))) → (ys : List Bool) → Both ys → ChosenBefore ys (false ∷ zs) → c < cost (g ys)
    left-earlier c zs p [] h x'' = elim x'' [ ]
    left-earlier c zs p (false ∷ ys) h (later e) = p ys (part false ys h) e
    left-earlier c zs p (true ∷ ys) h x6 = elim x6 [ ]

    joined : {b b₁ b₂ : SoFar} → Outcome m (λ z. g (false ∷ z)) b b₁ → Outcome m (λ z. g (true ∷ z)) b₁ b₂ → Outcome (suc m) g b b₂
    joined (kept p) (kept q) = kept (by_next (λ ys. below (cost (g ys)) _ ≡ false) p q)
    joined {b} (kept p) (better c zs q l) = better c (true ∷ zs) (record {
      is_choice = both true zs q.is_choice;
      costs = q.costs;
      least = by_next (λ ys. c ≤ cost (g ys)) (λ ys h. let k : c < cost (g (false ∷ ys)) = below_less c (cost (g (false ∷ ys))) b l (p ys h) in omega arith) q.least;
      earliest = turned-earlier c zs (λ ys h. below_less c (cost (g (false ∷ ys))) b l (p ys h)) q.earliest;
    }) l
    joined (better a ys p l) (kept q) = better a (false ∷ ys) (record {
      is_choice = both false ys p.is_choice;
      costs = p.costs;
      least = by_next (λ zs. a ≤ cost (g zs)) p.least (λ zs h. not-below-cheapest a (cost (g (true ∷ zs))) (g (false ∷ ys)) (q zs h));
      earliest = left-earlier a ys p.earliest;
    }) l
    joined {b} (better a ys p l) (better c zs q k) = let less : c < a = below-cheapest a c (g (false ∷ ys)) k in better c (true ∷ zs) (record {
      is_choice = both true zs q.is_choice;
      costs = q.costs;
      least = by_next (λ xs. c ≤ cost (g xs)) (λ xs h. omega (arith, p.least xs h)) q.least;
      earliest = turned-earlier c zs (λ xs h. omega (arith, p.least xs h)) q.earliest;
    }) (below_down c a b (omega arith) l)

  module _ (growing : Growing cyclic cost) where
    -- ---- the walk over the choices that begin with xs

    -- not entered: nothing that begins with xs is a choice below the best so far
    none_below : (m : ℕ) (xs : List Bool) (b : SoFar) → is_entered cyclic cost xs b ≡ false → Outcome m (λ ys. xs ++ ys) b b
    none_below m xs b e = kept each
      where
        each : (ys : List Bool) → Choice (λ z. cyclic (xs ++ z)) (λ z. cost (xs ++ z)) m ys → below (cost (xs ++ ys)) b ≡ false
        each ys h = by_cases (cyclic xs)
            (λ c. true_or_false (growing.cyclic_stays xs ys c) h.sound)
            (λ c. not-below_up (cost xs) (cost (xs ++ ys)) b (growing.cost_grows xs ys h.sound) (enters_not xs b e c))

    -- a finished choice that is entered
    last_one : (xs : List Bool) (b : SoFar) → is_entered cyclic cost xs b ≡ true → Outcome 0 (λ ys. xs ++ ys) b (cheapest (cost xs) xs)
    last_one xs b e = subst (λ (z : List Bool). Outcome 0 (λ ys. xs ++ ys) b (cheapest (cost xs) z)) (append-nil xs) (better (cost xs) [] alone (enters_below xs b e))
      where
        least : (ys : List Bool) → Choice (λ z. cyclic (xs ++ z)) (λ z. cost (xs ++ z)) 0 ys → cost xs ≤ cost (xs ++ ys)
        least ys h = growing.cost_grows xs ys h.sound

        none-earlier : (ys : List Bool) → Choice (λ z. cyclic (xs ++ z)) (λ z. cost (xs ++ z)) 0 ys → ChosenBefore ys [] → cost xs < cost (xs ++ ys)
        none-earlier ys h e = absurd (let l : 0 < 0 = earlier_some e in omega arith)

        alone : Cheapest (λ z. cyclic (xs ++ z)) (λ z. cost (xs ++ z)) 0 (cost xs) []
        alone = record {
          is_choice = record { whole = refl; sound = rw append-nil (enters_acyclic xs b e) };
          costs = rw append-nil refl;
          least = least;
          earliest = none-earlier;
        }

    -- the choices that begin with xs and then d
    decided : (m : ℕ) (xs : List Bool) (d : Bool) {b r : SoFar} → Outcome m (λ ys. more xs d ++ ys) b r → Outcome m (λ ys. xs ++ (d ∷ ys)) b r
    decided m xs d {b} {r} o = subst (λ (g : List Bool → List Bool). Outcome m g b r) (fun_ext (λ ys. append_assoc xs (d ∷ []) ys)) o

    outcome : (m : ℕ) (xs : List Bool) (s : WalkState) → Outcome m (λ ys. xs ++ ys) s.best (walk_over cyclic cost m xs s).best
    outcome zero xs s = by_cases (is_entered cyclic cost xs s.best)
        (λ e. rw (walk_last xs s e) (last_one xs s.best e))
        (λ e. rw (walk_past 0 xs s e) (none_below 0 xs s.best e))
    outcome (suc m) xs s = by_cases (is_entered cyclic cost xs s.best)
        (λ e. rw (walk_on m xs s e) (joined m (λ ys. xs ++ ys) (decided m xs false (outcome m (more xs false) (counted_on cyclic cost s))) (decided m xs true (outcome m (more xs true) (walk_over cyclic cost m (more xs false) (counted_on cyclic cost s))))))
        (λ e. rw (walk_past (suc m) xs s e) (none_below (suc m) xs s.best e))

    -- ---- the full walk: its best is the earliest cheapest choice, unless there is no choice at all
    at_end_lem : (k : ℕ) (xs : List Bool) → Choice cyclic cost k xs → {r : SoFar} → Outcome k (λ ys. ys) none_yet r → (c : ℕ) × (ys : List Bool) × (r ≡ cheapest c ys) × Cheapest cyclic cost k c ys
    at_end_lem k xs h (kept p) = true_or_false (below_none (cost xs)) (p xs h)
    at_end_lem k xs h (better c ys q l) = (c, ys, refl, q)

    pub walk_cheapest : (k : ℕ) (xs : List Bool) → Choice cyclic cost k xs → (c : ℕ) × (ys : List Bool) × ((full_walk cyclic cost k).best ≡ cheapest c ys) × Cheapest cyclic cost k c ys
    walk_cheapest k xs h = at_end_lem k xs h (outcome k [] at_first)
