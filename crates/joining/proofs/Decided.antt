-- Which case a joining is, by the tests in their order. Assumes nothing.
use mathlib.Core.Path.{◌≡◌, refl, sym, ap, ◌∙◌}
use mathlib.Core.Logic.{◌⊎◌, inl, inr}
use mathlib.Core.Bool.{true, false, not, ◌&&◌}
use mathlib.Core.List.{List}
use Prim.Native.Nat.{ℕ, ◌+◌, ◌*◌, ◌^◌, ◌≤◌, ◌<◌}
use native.Mathlib.Omega.{arith}
use lib.Dec.{eqb, ltb}
use lib.ListN.{length, take}
use lib.Seq.{length-take-le, get_or-take, ext_get_or}
use borrow.Author.Tests.{eqb-true, eqb-false, eq-eqb, ltb-true, ltb-false, not-true, not-false}
use Rattle.below.specs.Below.{all_below, at}
use Rattle.below.proofs.Tests.{by_cases, true_or_false, and_left, and_right, and_both}
use Rattle.below.proofs.Every.{all_below-at, all_below_all, all_below_fails}
use Rattle.below.proofs.Search.{first_below_ext}
use Rattle.tables.specs.Limits.{Limits, most_pairs}
use Rattle.tables.specs.Tables.{Tables, full_size}
use Rattle.tables.proofs.SizeLaws.{full_sizes}
use Rattle.near.specs.Near.{pair_count}
use Rattle.near.proofs.NearLaws.{count_within}
use Rattle.site.specs.Site.{PairList, site_at}
use Rattle.site.specs.Written.{site_text}
use Rattle.plan.specs.Field.{FieldPlan, Status, plan_of}
use Rattle.plan.specs.Status.{status_in}
use Rattle.sound.specs.Sound.{sound}
use Rattle.sound.proofs.Clauses.{sound-says}
use Rattle.call_log.specs.Claims.{Usable}
use Rattle.reading.specs.Replies.{refused_by}
use Rattle.reading.specs.Reading.{given, with_reply, read_plan}
use Rattle.accepted.specs.Claims.{own_site}
use Rattle.accepted.proofs.SoundAccepted.{numbers, pairs_are, own_site_lem}
use Rattle.joining.specs.Joining.{joined_text, unstarted, not_started, same_pairs, can_join, join_plans}
use Rattle.joining.specs.Claims.{HasStarted, StartedIn, Joinable, FitTogether}
use Rattle.site.specs.declared.SiteRefusal.{SiteRefusal}
use Rattle.std.specs.Prelude.{⊤, Result}

-- ---- when a plan has been started

pub none_started : (F : FieldPlan) (s : Status) → unstarted F s ≡ true → HasStarted F s → ⊥
unfolding unstarted
none_started F s h (inl (d, l, k)) = moved k
  where
    at-start : eqb (s.place d) 0 && (not (s.under_way d) && not (s.withdrawn d)) ≡ true
    at-start = all_below-at F.drones _ (and_left _ _ h) d l

    idle : (not (s.under_way d) && not (s.withdrawn d)) ≡ true
    idle = and_right (eqb (s.place d) 0) _ at-start

    moved : (1 ≤ s.place d) ⊎ ((s.under_way d ≡ true) ⊎ (s.withdrawn d ≡ true)) → ⊥
    moved (inl m) = let e : s.place d ≡ 0 = eqb-true _ _ (and_left _ _ at-start) in omega (arith, e, m)
    moved (inr (inl m)) = true_or_false m (not-true _ (and_left _ _ idle))
    moved (inr (inr m)) = true_or_false m (not-true _ (and_right (not (s.under_way d)) _ idle))
none_started F s h (inr (w, l, k)) =
    let q = all_below-at F.count _ (and_right (all_below F.drones (λ d. eqb (s.place d) 0 && (not (s.under_way d) && not (s.withdrawn d)))) _ h) w l in
    true_or_false k (not-true _ q)

not-zero : (n : ℕ) → (n ≡ 0 → ⊥) → 1 ≤ n
not-zero n h = by_cases (ltb 0 n) (λ l. omega (arith, ltb-true 0 n l)) (λ l. absurd (h (omega (arith, ltb-false 0 n l))))

some_drone : (s : Status) (d : ℕ) → (eqb (s.place d) 0 && (not (s.under_way d) && not (s.withdrawn d))) ≡ false → (1 ≤ s.place d) ⊎ ((s.under_way d ≡ true) ⊎ (s.withdrawn d ≡ true))
some_drone s d h = by_cases (eqb (s.place d) 0)
    (λ e. by_cases (s.under_way d)
    (λ u. inr (inl u))
    (λ u. inr (inr (not-false _ (rw (e, u) at h)))))
    (λ e. inl (not-zero (s.place d) (eqb-false (s.place d) 0 e)))

pub some_started : (F : FieldPlan) (s : Status) → unstarted F s ≡ false → HasStarted F s
unfolding unstarted
some_started F s h = by_cases (all_below F.drones (λ d. eqb (s.place d) 0 && (not (s.under_way d) && not (s.withdrawn d))))
    (λ e. let (w, l, k) = all_below_fails F.count (λ w. not (s.turned w)) (rw e at h) in inr (w, l, not-false _ k))
    (λ e. let (d, l, k) = all_below_fails F.drones (λ d. eqb (s.place d) 0 && (not (s.under_way d) && not (s.withdrawn d))) e in inl (d, l, some_drone s d k))

-- not started, as the test has it
fresh : (t : Tables) → (StartedIn t → ⊥) → not_started t ≡ true
fresh t h = by_cases (not_started t) (λ e. e) (λ e. absurd (h (some_started (plan_of t.plan) (status_in t) e)))

-- ---- when two plans have one site

-- tables with the same entries hold the same pairs
module _ (pairs others : List ℕ) (same : (i : ℕ) → i < 2 * most_pairs → at pairs i ≡ at others i) where
  same_count : pair_count pairs ≡ pair_count others
  unfolding pair_count
  same_count = first_below_ext most_pairs _ _ (λ i l. ap (λ (x : ℕ). eqb x 0) (same (2 * i + 1) (omega arith)))

  module _ (room : 2 * most_pairs ≤ length pairs) (room' : 2 * most_pairs ≤ length others) where
    same_numbers : take (2 * pair_count pairs) pairs ≡ take (2 * pair_count pairs) others
    same_numbers =
        let c : ℕ = 2 * pair_count pairs in
        let most : c ≤ 2 * most_pairs = omega (arith, count_within pairs) in
        let long : length (take c pairs) ≡ c = length-take-le c pairs (omega (arith, most, room)) in
        let long' : length (take c others) ≡ c = length-take-le c others (omega (arith, most, room')) in
        ext_get_or 0 (take c pairs) (take c others) (long ∙ sym long') (λ i l.
        let k : i < c = omega (arith, l, long) in
        get_or-take c pairs i 0 k ∙ same i (omega (arith, k, most)) ∙ sym (get_or-take c others i 0 k))

    pub same_text : site_text (pair_count pairs) (take (2 * pair_count pairs) pairs) ≡ site_text (pair_count others) (take (2 * pair_count others) others)
    same_text = ap (site_text (pair_count pairs)) same_numbers ∙ ap (λ (n : ℕ). site_text n (take (2 * n) others)) same_count

module _ (L : Limits) (a b : Tables) (first : Usable L a) (second : Usable L b) where
  one_site : same_pairs a.plan.pairs b.plan.pairs ≡ true → own_site a ≡ own_site b
  unfolding same_pairs
  one_site h = same_text a.plan.pairs b.plan.pairs (λ i l. eqb-true _ _ (all_below-at (2 * most_pairs) _ h i l)) (full_sizes L a first.0).pairs (full_sizes L b second.0).pairs

  -- the pairs of sound tables are those of their site text, and zeros after them
  same_pairs_lem : L.location < 10 ^ 7 → own_site a ≡ own_site b → same_pairs a.plan.pairs b.plan.pairs ≡ true
  unfolding same_pairs
  same_pairs_lem u e =
      let s = sound-says L a first.1 in
      let s' = sound-says L b second.1 in
      let n : numbers L a first.0 s ≡ numbers L b second.0 s' =
      ap (λ (x : PairList (Result ⊤ SiteRefusal)). x.numbers) (sym (own_site_lem L a first.0 s u) ∙ ap (site_at L) e ∙ own_site_lem L b second.0 s' u) in
      all_below_all (2 * most_pairs) _ (λ i l. eq-eqb _ _ (pairs_are L a first.0 s i l ∙ ap (λ (x : List ℕ). at x i) n ∙ sym (pairs_are L b second.0 s' i l)))

-- ---- which case a joining is

-- why two plans do not fit together
abbrev pub Unfit : Tables → Tables → Type 0
Unfit a b = StartedIn a ⊎ (StartedIn b ⊎ (own_site a ≡ own_site b → ⊥))

pub data Decided (L : Limits) (a b t : Tables) : Type 0 where
  small : join_plans L a b t ≡ with_reply (refused_by 41) t → (Joinable L a b t → ⊥) → Decided L a b t
  unsound : join_plans L a b t ≡ with_reply (refused_by 40) t → (Joinable L a b t → ⊥) → Decided L a b t
  unfit : join_plans L a b t ≡ with_reply (refused_by 16) t → Joinable L a b t → Unfit a b → Decided L a b t
  ready : join_plans L a b t ≡ read_plan L (given (own_site a)) (joined_text L a.plan b.plan) t → Joinable L a b t → FitTogether a b → Decided L a b t

module _ (L : Limits) (u : L.location < 10 ^ 7) (a b t : Tables) where
  -- the tests that 16 is said by
  abbrev Tested : Type 0
  Tested = ((can_join a b ≡ true) × FitTogether a b) ⊎ ((can_join a b ≡ false) × Unfit a b)

  tested : Joinable L a b t → Tested
  tested j = by_cases (not_started a)
      (λ x. by_cases (not_started b)
      (λ y. by_cases (same_pairs a.plan.pairs b.plan.pairs)
      (λ z. inl (rw (x, y, z) refl, record { first = none_started (plan_of a.plan) (status_in a) x; second = none_started (plan_of b.plan) (status_in b) y; one_site = one_site L a b j.first j.second z }))
      (λ z. inr (rw (x, y, z) refl, inr (inr (λ e. true_or_false (same_pairs_lem L a b j.first j.second u e) z)))))
      (λ y. inr (rw (x, y) refl, inr (inl (some_started (plan_of b.plan) (status_in b) y)))))
      (λ x. inr (rw x refl, inl (some_started (plan_of a.plan) (status_in a) x)))

  pub decided : Decided L a b t
  unfolding join_plans
  decided = by_cases (full_size L a && (full_size L b && full_size L t))
      (λ f.
      let fa = and_left _ _ f in
      let fb = and_left _ _ (and_right (full_size L a) _ f) in
      let ft = and_right (full_size L b) _ (and_right (full_size L a) _ f) in
      by_cases (sound L a && sound L b)
      (λ s.
      let j : Joinable L a b t = record { first = (fa, and_left _ _ s); second = (fb, and_right (sound L a) _ s); third = ft } in
      elim (tested j) [ inl (x, y) ↦ ready (rw (f, s, x) refl) j y | inr (x, y) ↦ unfit (rw (f, s, x) refl) j y ])
      (λ s. unsound (rw (f, s) refl) (λ j. true_or_false (and_both (sound L a) (sound L b) j.first.1 j.second.1) s)))
      (λ f. small (rw f refl) (λ j. true_or_false (and_both (full_size L a) _ j.first.0 (and_both (full_size L b) (full_size L t) j.second.0 j.third)) f))

  pub as_read : Joinable L a b t → FitTogether a b → join_plans L a b t ≡ read_plan L (given (own_site a)) (joined_text L a.plan b.plan) t
  unfolding join_plans
  as_read j x =
      rw (j.first.0, j.second.0, j.third, j.first.1, j.second.1, fresh a x.first, fresh b x.second, same_pairs_lem L a b j.first j.second u x.one_site) refl
