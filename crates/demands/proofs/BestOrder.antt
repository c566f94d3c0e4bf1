-- Best order by where the call ends: its numbers, the lent list after a refusal and after an accepted search, and that nothing past a full size is read or written. Assumes nothing.
use mathlib.Core.Path.{◌≡◌, refl, sym, ap, ◌∙◌}
use mathlib.Core.Logic.{◌≢◌, ◌⊎◌, inl, inr}
use mathlib.Core.Bool.{Bool, true, false, cond, ◌&&◌}
use mathlib.Core.List.{List, [], ◌∷◌}
use Prim.Native.Nat.{ℕ, suc, ◌≤◌, ◌<◌}
use native.Mathlib.Omega.{arith}
use lib.Dec.{ltb, leb}
use lib.ListN.{length, take, drop, length-take}
use lib.Seq.{get_or-take, ext_get_or}
use borrow.Author.Tests.{ltb-true, ltb-false, leb-true, leb-false, le-leb, lt-leb}
use Rattle.below.specs.Below.{at, is_in, laid}
use Rattle.below.proofs.Tests.{by_cases, and_left, and_right}
use Rattle.choices.proofs.Turns.{at_in}
use Rattle.below.proofs.Picks.{laid-length}
use Rattle.tables.specs.Limits.{Limits}
use Rattle.tables.specs.Tables.{Tables, full_size}
use Rattle.tables.specs.Zero.{zeroed}
use Rattle.tables.proofs.Zero.{zeroed-length, zeroed-drop}
use Rattle.plan.specs.Field.{plan_of}
use Rattle.plan.specs.Status.{status_in}
use Rattle.sound.specs.Sound.{sound}
use Rattle.sound.proofs.Clauses.{sound-says}
use Rattle.choices.specs.Budget.{SearchReply, found, no_choice, over}
use Rattle.choices.specs.Cheapest.{Cheapest}
use Rattle.call_log.specs.Claims.{Usable, Group, AllTurnable}
use Rattle.call_log.specs.BestOrder.{most_budget, budget_in, BestOutcome, best_is, too_many, best_refused, BestAnswer, best_unlisted, turns_listed, best_by, best_order, cycle_in, cost_in, open_in, list_in, BestFound, Searches}
use Rattle.call_log.proofs.BestOrder.{over_exactly, found_exactly, applies_to, stands_as, previews_as, nothing_to_choose}
use Rattle.call_log.proofs.Claims.{demand2}
use Rattle.call_log.proofs.SoundParts.{dependencies_in}
use Rattle.accepted.proofs.SameOrder.{searched, turns_few}
use Rattle.accepted.proofs.Stored.{at-past, stored_at}
use Rattle.demands.specs.BestOrder.{best_number, walk_count, BestNumbers, ListGiven, BestOrderClaims}
use Rattle.demands.proofs.Entries.{size_same, take-laid, drop-laid, take-zeroed}

-- ---- the list that is given

module _ (L : Limits) (t : Tables) (u : Usable L t) (xs : List Bool) where
  list_fits : length (list_in t xs) ≤ L.dependencies
  list_fits =
      let k = sound-says L t u.1 in
      omega (arith, turns_few (plan_of t.plan) (status_in t) xs, dependencies_in L t.plan k.accepted k.dependencies_own)

  module _ (l : List ℕ) (room : L.dependencies ≤ length l) where
    given-at : (i : ℕ) → i < L.dependencies → at (turns_listed L l (list_in t xs)) i ≡ at (list_in t xs) i
    unfolding turns_listed laid
    given-at i a = stored_at L.dependencies l (list_in t xs) list_fits room i a

    given-length : length (turns_listed L l (list_in t xs)) ≡ length l
    unfolding turns_listed
    given-length = laid-length _ (zeroed L.dependencies l) 0 (list_in t xs) refl ∙ zeroed-length L.dependencies l

    given_first : take (length (list_in t xs)) (turns_listed L l (list_in t xs)) ≡ list_in t xs
    given_first =
        let n : ℕ = length (list_in t xs) in
        let q : length (take n (turns_listed L l (list_in t xs))) ≡ n = length-take n (turns_listed L l (list_in t xs)) ∙ omega (arith, given-length, room, list_fits) in
        ext_get_or 0 (take n (turns_listed L l (list_in t xs))) (list_in t xs) q
        (λ i h. let k : i < n = omega (arith, h, q) in get_or-take n (turns_listed L l (list_in t xs)) i 0 k ∙ given-at i (omega (arith, k, list_fits)))

    -- the list of the earliest cheapest choice, in the lent list
    module _ (least : ℕ) (best : Cheapest (cycle_in t) (cost_in t) (open_in t) least xs) where
      turns_made : 0 < length (list_in t xs) → Group (list_in t xs) × AllTurnable (plan_of t.plan) (status_in t) (list_in t xs)
      turns_made some = let (v, (g, (all, acyclic))) = (demand2.group_exactly L t (list_in t xs)).0 (applies_to L t u least xs best some).0 in (g, all)

      given : ListGiven L t least (length (list_in t xs)) (turns_listed L l (list_in t xs))
      given =
          let fits = list_fits in
          record {
            rising = λ i h. rw (given-at i (omega (arith, h, fits)), given-at (suc i) (omega (arith, h, fits))) ((turns_made (omega arith)).0.rising i h);
            open_ones = λ i h. rw (given-at i (omega (arith, h, fits))) ((turns_made (omega arith)).1 (at (list_in t xs) i) (at_in (list_in t xs) i h));
            zeros = λ i h a. given-at i a ∙ at-past (list_in t xs) i h;
            applied = λ some. rw given_first (applies_to L t u least xs best some);
          }

-- ---- where the call ends

module _ (L : Limits) (t : Tables) (l : List ℕ) (budget : ℕ) where
  data Ends : Type 0 where
    small : (full_size L t ≡ false) ⊎ (length l < L.dependencies) → best_order L t l budget ≡ best_unlisted (best_refused 41) l → Ends
    unsound : (full_size L t ≡ true) × (L.dependencies ≤ length l) × (sound L t ≡ false) → best_order L t l budget ≡ best_unlisted (best_refused 40) l → Ends
    out_of_range : Usable L t × (L.dependencies ≤ length l) × ((budget < 1) ⊎ (most_budget < budget)) → best_order L t l budget ≡ best_unlisted (best_refused 38) l → Ends
    over_budget : Searches L t l budget × (budget < walk_count t) → best_order L t l budget ≡ best_unlisted (too_many budget) l → Ends
    finds : Searches L t l budget × (walk_count t ≤ budget) → BestFound L t l budget → Ends

  at_41 : (full_size L t ≡ false) ⊎ (length l < L.dependencies) → best_order L t l budget ≡ best_unlisted (best_refused 41) l
  unfolding best_order
  at_41 (inl f) = rw f refl
  at_41 (inr h) = by_cases (full_size L t) (λ f. rw (f, lt-leb L.dependencies (length l) h) refl) (λ f. rw f refl)

  at_40 : (full_size L t ≡ true) × (L.dependencies ≤ length l) × (sound L t ≡ false) → best_order L t l budget ≡ best_unlisted (best_refused 40) l
  unfolding best_order
  at_40 (f, r, s) = rw (f, le-leb L.dependencies (length l) r, s) refl

  out : (budget < 1) ⊎ (most_budget < budget) → budget_in budget ≡ false
  unfolding budget_in
  out (inl h) = rw (lt-leb 1 budget h) refl
  out (inr h) = by_cases (leb 1 budget) (λ e. rw (e, lt-leb budget most_budget h) refl) (λ e. rw e refl)

  at_38 : Usable L t × (L.dependencies ≤ length l) × ((budget < 1) ⊎ (most_budget < budget)) → best_order L t l budget ≡ best_unlisted (best_refused 38) l
  unfolding best_order
  at_38 (u, r, b) = rw (u.0, le-leb L.dependencies (length l) r, u.1, out b) refl

  in_range_lem : budget_in budget ≡ true → (1 ≤ budget) × (budget ≤ most_budget)
  unfolding budget_in
  in_range_lem e = (leb-true 1 budget (and_left (leb 1 budget) _ e), leb-true budget most_budget (and_right (leb 1 budget) _ e))

  out_is : budget_in budget ≡ false → (budget < 1) ⊎ (most_budget < budget)
  unfolding budget_in
  out_is e = by_cases (leb 1 budget) (λ a. inr (leb-false budget most_budget (rw a at e))) (λ a. inl (leb-false 1 budget a))

  searching : Searches L t l budget → Ends
  searching s = by_cases (ltb budget (walk_count t))
      (λ e. let h : budget < walk_count t = ltb-true budget (walk_count t) e in over_budget (s, h) (over_exactly L t l budget s h))
      (λ e. let h : walk_count t ≤ budget = ltb-false budget (walk_count t) e in finds (s, h) (found_exactly L t l budget s h))

  ends : Ends
  ends = by_cases (full_size L t)
      (λ f. by_cases (leb L.dependencies (length l))
      (λ a. let r : L.dependencies ≤ length l = leb-true L.dependencies (length l) a in
      by_cases (sound L t)
      (λ s. by_cases (budget_in budget)
      (λ b. searching ((f, s), r, (in_range_lem b).0, (in_range_lem b).1))
      (λ b. out_of_range ((f, s), r, out_is b) (at_38 ((f, s), r, out_is b))))
      (λ s. unsound (f, r, s) (at_40 (f, r, s))))
      (λ a. let c : length l < L.dependencies = leb-false L.dependencies (length l) a in small (inr c) (at_41 (inr c))))
      (λ f. small (inl f) (at_41 (inl f)))

  -- ---- its number

  said : {o : BestOutcome} → best_order L t l budget ≡ best_unlisted o l → best_number (best_order L t l budget).outcome ≡ best_number o
  said q = ap (λ (a : BestAnswer). best_number a.outcome) q

  said_0 : BestFound L t l budget → best_number (best_order L t l budget).outcome ≡ 0
  said_0 b = ap best_number b.outcome_is

  only_41 : Ends → best_number (best_order L t l budget).outcome ≡ 41 → (full_size L t ≡ false) ⊎ (length l < L.dependencies)
  only_41 (small c q) e = c
  only_41 (unsound c q) e = absurd (omega (arith, said q, e))
  only_41 (out_of_range c q) e = absurd (omega (arith, said q, e))
  only_41 (over_budget c q) e = absurd (omega (arith, said q, e))
  only_41 (finds c b) e = absurd (omega (arith, said_0 b, e))

  only_40 : Ends → best_number (best_order L t l budget).outcome ≡ 40 → (full_size L t ≡ true) × (L.dependencies ≤ length l) × (sound L t ≡ false)
  only_40 (small c q) e = absurd (omega (arith, said q, e))
  only_40 (unsound c q) e = c
  only_40 (out_of_range c q) e = absurd (omega (arith, said q, e))
  only_40 (over_budget c q) e = absurd (omega (arith, said q, e))
  only_40 (finds c b) e = absurd (omega (arith, said_0 b, e))

  only_38 : Ends → best_number (best_order L t l budget).outcome ≡ 38 → Usable L t × (L.dependencies ≤ length l) × ((budget < 1) ⊎ (most_budget < budget))
  only_38 (small c q) e = absurd (omega (arith, said q, e))
  only_38 (unsound c q) e = absurd (omega (arith, said q, e))
  only_38 (out_of_range c q) e = c
  only_38 (over_budget c q) e = absurd (omega (arith, said q, e))
  only_38 (finds c b) e = absurd (omega (arith, said_0 b, e))

  only_37 : Ends → best_number (best_order L t l budget).outcome ≡ 37 → (Searches L t l budget × (budget < walk_count t)) × ((best_order L t l budget).outcome ≡ too_many budget)
  only_37 (small c q) e = absurd (omega (arith, said q, e))
  only_37 (unsound c q) e = absurd (omega (arith, said q, e))
  only_37 (out_of_range c q) e = absurd (omega (arith, said q, e))
  only_37 (over_budget c q) e = (c, ap (λ (a : BestAnswer). a.outcome) q)
  only_37 (finds c b) e = absurd (omega (arith, said_0 b, e))

  only_0 : Ends → best_number (best_order L t l budget).outcome ≡ 0 → (Searches L t l budget × (walk_count t ≤ budget)) × BestFound L t l budget
  only_0 (small c q) e = absurd (omega (arith, said q, e))
  only_0 (unsound c q) e = absurd (omega (arith, said q, e))
  only_0 (out_of_range c q) e = absurd (omega (arith, said q, e))
  only_0 (over_budget c q) e = absurd (omega (arith, said q, e))
  only_0 (finds c b) e = (c, b)

  one_of : Ends → is_in (best_number (best_order L t l budget).outcome) (0 ∷ 37 ∷ 38 ∷ 40 ∷ 41 ∷ []) ≡ true
  unfolding is_in
  one_of (small c q) = rw (said q) refl
  one_of (unsound c q) = rw (said q) refl
  one_of (out_of_range c q) = rw (said q) refl
  one_of (over_budget c q) = rw (said q) refl
  one_of (finds c b) = rw (said_0 b) refl

  pub best_numbers : BestNumbers L t l budget
  best_numbers = record {
    exactly_41 = (only_41 ends, λ c. said (at_41 c));
    exactly_40 = (only_40 ends, λ c. said (at_40 c));
    exactly_38 = (only_38 ends, λ c. said (at_38 c));
    exactly_37 = (λ e. (only_37 ends e).0, λ c. said (over_exactly L t l budget c.0 c.1));
    count_37 = λ e. (only_37 ends e).1;
    exactly_0 = (λ e. (only_0 ends e).0, λ c. said_0 (found_exactly L t l budget c.0 c.1));
    no_other = one_of ends;
  }

  -- ---- a refusal leaves the list

  left : Ends → best_number (best_order L t l budget).outcome ≢ 0 → (best_order L t l budget).list ≡ l
  left (small c q) h = ap (λ (a : BestAnswer). a.list) q
  left (unsound c q) h = ap (λ (a : BestAnswer). a.list) q
  left (out_of_range c q) h = ap (λ (a : BestAnswer). a.list) q
  left (over_budget c q) h = ap (λ (a : BestAnswer). a.list) q
  left (finds c b) h = absurd (h (said_0 b))

  pub best-left : best_number (best_order L t l budget).outcome ≢ 0 → (best_order L t l budget).list ≡ l
  best-left = left ends

  -- ---- nothing past the list's full size is written

  past : Ends → drop L.dependencies (best_order L t l budget).list ≡ drop L.dependencies l
  unfolding turns_listed
  past (small c q) = ap (λ (a : BestAnswer). drop L.dependencies a.list) q
  past (unsound c q) = ap (λ (a : BestAnswer). drop L.dependencies a.list) q
  past (out_of_range c q) = ap (λ (a : BestAnswer). drop L.dependencies a.list) q
  past (over_budget c q) = ap (λ (a : BestAnswer). drop L.dependencies a.list) q
  past (finds c b) =
      ap (drop L.dependencies) b.list_is
      ∙ drop-laid L.dependencies (list_in t b.choice) (zeroed L.dependencies l) (list_fits L t c.0.0 b.choice)
      ∙ zeroed-drop L.dependencies l

  pub best_keeps : drop L.dependencies (best_order L t l budget).list ≡ drop L.dependencies l
  best_keeps = past ends

module _ (L : Limits) (t : Tables) where
  found-given : (l : List ℕ) (budget least size count : ℕ) → L.dependencies ≤ length l → Usable L t → BestFound L t l budget → (best_order L t l budget).outcome ≡ best_is least size count → ListGiven L t least size (best_order L t l budget).list
  found-given l budget least size count room u b e =
      let q : best_is b.least (length (list_in t b.choice)) (walk_count t) ≡ best_is least size count = sym b.outcome_is ∙ e in
      let same : b.least ≡ least = cc in
      let long : length (list_in t b.choice) ≡ size = cc in
      rw (b.list_is, ← same, ← long) (given L t u b.choice l room b.least b.cheapest_is)

  pub best_order_claims : BestOrderClaims L t
  best_order_claims = record {
    found_exactly = found_exactly L t;
    over_exactly = over_exactly L t;
    applies_to = applies_to L t;
    stands_as = stands_as L t;
    previews_as = previews_as L t;
    nothing_to_choose = nothing_to_choose L t;
    list_given = λ l budget least size count e. let (c, b) = only_0 L t l budget (ends L t l budget) (ap best_number e) in found-given l budget least size count c.0.1 c.0.0 b e;
  }

-- ---- nothing past the list's full size is read

module _ (L : Limits) (t : Tables) (budget : ℕ) where
  -- the same outcome, and the same first entries
  pub record SameAnswer (a a' : BestAnswer) : Type 0 where
    pub outcomes : a.outcome ≡ a'.outcome
    pub lists : take L.dependencies a.list ≡ take L.dependencies a'.list

  module _ (l l' : List ℕ) (e : take L.dependencies l ≡ take L.dependencies l') where
    listed_same : (ws : List ℕ) → take L.dependencies (turns_listed L l ws) ≡ take L.dependencies (turns_listed L l' ws)
    unfolding turns_listed
    listed_same ws =
        let D : ℕ = L.dependencies in
        take-laid D ws (zeroed D l) ∙ ap (λ (x : List ℕ). laid x 0 ws) (take-zeroed D l ∙ ap (zeroed D) e ∙ sym (take-zeroed D l')) ∙ sym (take-laid D ws (zeroed D l'))

    unlisted : (o : BestOutcome) → SameAnswer (best_unlisted o l) (best_unlisted o l')
    unlisted o = record { outcomes = refl; lists = e }

    replies : (r : SearchReply) → SameAnswer (best_by L (plan_of t.plan) (status_in t) l r) (best_by L (plan_of t.plan) (status_in t) l' r)
    replies (found least xs count) = record { outcomes = refl; lists = listed_same (list_in t xs) }
    replies (over count) = unlisted (too_many count)
    replies (no_choice count) = unlisted (best_refused 40)

    tested : (a b c : Bool) (r : SearchReply)
        → SameAnswer (cond a (cond b (cond c (best_by L (plan_of t.plan) (status_in t) l r) (best_unlisted (best_refused 38) l)) (best_unlisted (best_refused 40) l)) (best_unlisted (best_refused 41) l))
        (cond a (cond b (cond c (best_by L (plan_of t.plan) (status_in t) l' r) (best_unlisted (best_refused 38) l')) (best_unlisted (best_refused 40) l')) (best_unlisted (best_refused 41) l'))
    tested true true true r = replies r
    tested true true false r = unlisted (best_refused 38)
    tested true false c r = unlisted (best_refused 40)
    tested false b c r = unlisted (best_refused 41)

    pub lists_agree : SameAnswer (best_order L t l budget) (best_order L t l' budget)
    unfolding best_order
    lists_agree = rw (size_same L.dependencies l l' e) (tested (full_size L t && leb L.dependencies (length l')) (sound L t) (budget_in budget) (searched (plan_of t.plan) (status_in t) budget))
