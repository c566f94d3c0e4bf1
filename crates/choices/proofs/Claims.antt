-- The claims of specs/Claims.antt, each from the law that has it. Assumes nothing.
use mathlib.Core.Path.{◌≡◌, refl, sym, ap, ◌∙◌}
use mathlib.Core.Logic.{◌⊎◌, inl, inr}
use mathlib.Core.Bool.{Bool, true, false}
use mathlib.Core.List.{List, [], ◌∷◌}
use Prim.Native.Nat.{ℕ, suc, ◌≤◌, ◌<◌}
use native.Mathlib.Omega.{arith}
use lib.Dec.{ltb}
use lib.ListN.{length, length-replicate}
use borrow.Author.Tests.{ltb-true, ltb-false, lt-ltb, le-ltb}
use Rattle.below.proofs.Tests.{by_cases}
use Rattle.choices.specs.Walk.{SoFar, none_yet, cheapest, WalkState, at_first, full_walk}
use Rattle.choices.specs.Cheapest.{ChosenBefore, leaves, later, Choice}
use Rattle.choices.specs.Budget.{found, over, replied, reply_for, reply_within}
use Rattle.choices.specs.Claims.{all_left, SearchIsRight, StopsAtBudget, OneCheapest, CountBounds, NothingOpen}
use Rattle.choices.proofs.Walks.{walk_cheapest, walk_last, enters_if, below_none}
use Rattle.choices.proofs.Counts.{count_least, count_most, within_is}

-- of two choices of a length one is earlier, unless they are one
in_order_lem : (xs ys : List Bool) → length xs ≡ length ys → (xs ≡ ys) ⊎ (ChosenBefore xs ys ⊎ ChosenBefore ys xs)
in_order_lem [] [] e = inl refl
in_order_lem [] (b ∷ ys) e = absurd (let z : 0 ≡ suc (length ys) = e in omega arith)
in_order_lem (a ∷ xs) [] e = absurd (let z : suc (length xs) ≡ 0 = e in omega arith)
in_order_lem (a ∷ xs) (b ∷ ys) e = go a b (in_order_lem xs ys (omega arith))
  where
    go : (a b : Bool) → (xs ≡ ys) ⊎ (ChosenBefore xs ys ⊎ ChosenBefore ys xs) → (a ∷ xs ≡ b ∷ ys) ⊎ (ChosenBefore (a ∷ xs) (b ∷ ys) ⊎ ChosenBefore (b ∷ ys) (a ∷ xs))
    go false true r = inr (inl leaves)
    go true false r = inr (inr leaves)
    go false false (inl q) = inl (ap (λ (z : List Bool). false ∷ z) q)
    go false false (inr (inl q)) = inr (inl (later q))
    go false false (inr (inr q)) = inr (inr (later q))
    go true true (inl q) = inl (ap (λ (z : List Bool). true ∷ z) q)
    go true true (inr (inl q)) = inr (inl (later q))
    go true true (inr (inr q)) = inr (inr (later q))

module _ (cyclic : List Bool → Bool) (cost : List Bool → ℕ) where
  pub reply_over : (budget k : ℕ) → budget < (full_walk cyclic cost k).count → reply_for cyclic cost budget k ≡ over budget
  unfolding reply_for
  reply_over budget k l = rw (lt-ltb budget (full_walk cyclic cost k).count l) refl

  pub reply_within_lem : (budget k : ℕ) → (full_walk cyclic cost k).count ≤ budget → reply_for cyclic cost budget k ≡ replied (full_walk cyclic cost k).best (full_walk cyclic cost k).count
  unfolding reply_for
  reply_within_lem budget k l = rw (le-ltb budget (full_walk cyclic cost k).count l) refl

  pub reply_found : (budget k c : ℕ) (xs : List Bool) → (full_walk cyclic cost k).count ≤ budget → (full_walk cyclic cost k).best ≡ cheapest c xs → reply_for cyclic cost budget k ≡ found c xs (full_walk cyclic cost k).count
  unfolding replied
  reply_found budget k c xs l e = reply_within_lem budget k l ∙ ap (λ (b : SoFar). replied b (full_walk cyclic cost k).count) e

  -- the graph as it stands is a choice
  pub left-choice : (k : ℕ) → cyclic (all_left k) ≡ false → Choice cyclic cost k (all_left k)
  left-choice k e = record { whole = length-replicate k false; sound = e }

  pub search_is_right : SearchIsRight cyclic cost
  search_is_right growing budget k e = by_cases (ltb budget (full_walk cyclic cost k).count)
      (λ h. inl (ltb-true _ _ h, reply_over budget k (ltb-true _ _ h)))
      (λ h. let (c, xs, b, q) = walk_cheapest cyclic cost growing k (all_left k) (left-choice k e) in inr (ltb-false _ _ h, (c, xs, reply_found budget k c xs (ltb-false _ _ h) b, q)))

  pub stops_at_budget : StopsAtBudget cyclic cost
  unfolding reply_for reply_within
  stops_at_budget budget k = rw (within_is cyclic cost budget k [] at_first (omega arith)) (by_cases (ltb budget (full_walk cyclic cost k).count) (λ e. rw e refl) (λ e. rw e refl))

  pub one_cheapest : OneCheapest cyclic cost
  one_cheapest k c d xs ys p q = (
    omega (arith, p.costs, q.costs, p.least ys q.is_choice, q.least xs p.is_choice),
    elim (in_order_lem xs ys (p.is_choice.whole ∙ sym q.is_choice.whole)) [
      | inl e ↦ e
      | inr (inl e) ↦ absurd (omega (arith, p.costs, q.earliest xs p.is_choice e, p.least ys q.is_choice, q.costs))
      | inr (inr e) ↦ absurd (omega (arith, q.costs, p.earliest ys q.is_choice e, q.least xs p.is_choice, p.costs))
    ],
  )

  pub count_bounds : CountBounds cyclic cost
  count_bounds growing k e = (omega (arith, count_least cyclic cost growing k [] 0 e), omega (arith, count_most cyclic cost k [] at_first))

  pub nothing_open : NothingOpen cyclic cost
  nothing_open e =
      let w : _ ≡ _ = walk_last cyclic cost [] at_first (enters_if cyclic cost [] none_yet e (below_none (cost []))) in
      (ap (λ (w : WalkState). w.count) w, ap (λ (w : WalkState). w.best) w)
