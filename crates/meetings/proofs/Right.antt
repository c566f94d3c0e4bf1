-- A table whose entries are clear pairs of stops in rising order, as many as there are meetings, is the list of the plan's dependencies, and nothing collides; and the
-- other way round. Every clear pair follows, every pair that follows is a meeting; so equal counts make the three one. Assumes nothing.
use mathlib.Core.Path.{◌≡◌, refl, sym, ap, ◌∙◌, subst}
use mathlib.Core.Logic.{◌≢◌, ◌⊎◌, inl, inr}
use mathlib.Core.Bool.{Bool, true, false, not, ◌&&◌, ◌||◌, false≢true}
use Prim.Native.Nat.{ℕ, zero, suc, ◌+◌, ◌-◌, ◌≤◌, ◌<◌}
use native.Mathlib.Omega.{arith}
use lib.Dec.{ltb, eqb}
use lib.ListN.{get_or}
use borrow.Author.Tests.{ltb-true, ltb-false, eqb-true, eqb-false, lt-ltb, eq-eqb, ne_eqb, not-true}
use Rattle.below.specs.Below.{pick, all_below, count_below, sum_below, pairs_of, listed, pair_before, triangle}
use Rattle.below.proofs.Tests.{by_cases, true_or_false, and_left, and_right, and_both, same_test}
use Rattle.below.proofs.Every.{all_below-at, all_below_all}
use Rattle.below.proofs.Sum.{sum_ext, count_sum}
use Rattle.below.proofs.Pairs.{Climbs, climbs_few, climbs_all, all_climbs}
use Rattle.below.proofs.Triangle.{pairs_triangle, triangle_mono, triangle_ext, triangle-same}
use Rattle.plan.specs.Visits.{Visits, Symmetric, visits_with}
use Rattle.plan.specs.Check.{over, collide, apart}
use Rattle.plan.specs.Dependencies.{follows, exact, right}
use Rattle.meetings.specs.Meetings.{meeting_visits, meeting_total, clear, entry_right, Steady}

-- a test as a summand
abbrev one : Bool → ℕ
one b = pick b 1 0

-- what the code tests
unfoldable pub quick : (meets : ℕ → ℕ → Bool) (own loc time : ℕ → ℕ) (n m : ℕ) (xs ys : ℕ → ℕ) → Bool
quick meets own loc time n m xs ys = eqb m (meeting_total meets own loc n) && all_below m (entry_right meets own loc time n xs ys)

module _ (meets : ℕ → ℕ → Bool) (symmetric : Symmetric meets) (own num loc time : ℕ → ℕ) (n : ℕ) where
  abbrev S : Visits
  S = visits_with meets own num loc time n

  -- ---- what the tests say
  pub record Follows (v w : ℕ) : Type 0 where
    pub others : own v ≢ own w
    pub place : meets (loc v) (loc w) ≡ true
    pub earlier : time v < time w

  follows-says : (v w : ℕ) → follows S v w ≡ true → Follows v w
  unfolding follows
  follows-says v w e =
      let r : (meets (loc v) (loc w) && ltb (time v) (time w)) ≡ true = and_right (not (eqb (own v) (own w))) _ e in
      record { others = eqb-false _ _ (not-true _ (and_left _ _ e)); place = and_left _ _ r; earlier = ltb-true _ _ (and_right (meets (loc v) (loc w)) _ r) }

  says-follows : (v w : ℕ) → Follows v w → follows S v w ≡ true
  unfolding follows
  says-follows v w f = rw (ne_eqb (own v) (own w) f.others, f.place, lt-ltb (time v) (time w) f.earlier) refl

  follows_self : (v : ℕ) → follows S v v ≡ false
  unfolding follows
  follows_self v = rw (eq-eqb (own v) (own v) refl) refl

  pub record Over (v t : ℕ) : Type 0 where
    pub next : v + 1 < n
    pub same_drone : own (v + 1) ≡ own v
    pub leaves : time (v + 1) < t

  over-says : (v t : ℕ) → over own time n v t ≡ true → Over v t
  unfolding over
  over-says v t e =
      let r : (eqb (own (v + 1)) (own v) && ltb (time (v + 1)) t) ≡ true = and_right (ltb (v + 1) n) _ e in
      record { next = ltb-true _ _ (and_left _ _ e); same_drone = eqb-true _ _ (and_left _ _ r); leaves = ltb-true _ _ (and_right (eqb (own (v + 1)) (own v)) _ r) }

  pub record Meeting (v w : ℕ) : Type 0 where
    pub others : own v ≢ own w
    pub place : meets (loc v) (loc w) ≡ true

  meeting_says : (v w : ℕ) → meeting_visits meets own loc v w ≡ true → Meeting v w
  unfolding meeting_visits
  meeting_says v w e = record { others = eqb-false _ _ (not-true _ (and_left _ _ e)); place = and_right (not (eqb (own v) (own w))) _ e }

  says_meeting : (v w : ℕ) → own v ≢ own w → meets (loc v) (loc w) ≡ true → meeting_visits meets own loc v w ≡ true
  unfolding meeting_visits
  says_meeting v w a b = rw (ne_eqb (own v) (own w) a, b) refl

  pub record Clear (v w : ℕ) : Type 0 where
    pub others : own v ≢ own w
    pub place : meets (loc v) (loc w) ≡ true
    pub gone : over own time n v (time w) ≡ true

  clear-says : (v w : ℕ) → clear meets own loc time n v w ≡ true → Clear v w
  unfolding clear
  clear-says v w e =
      let r : (meets (loc v) (loc w) && over own time n v (time w)) ≡ true = and_right (not (eqb (own v) (own w))) _ e in
      record { others = eqb-false _ _ (not-true _ (and_left _ _ e)); place = and_left _ _ r; gone = and_right (meets (loc v) (loc w)) _ r }

  says-clear : (v w : ℕ) → Clear v w → clear meets own loc time n v w ≡ true
  unfolding clear
  says-clear v w c = rw (ne_eqb (own v) (own w) c.others, c.place, c.gone) refl

  clear_self : (v : ℕ) → clear meets own loc time n v v ≡ false
  unfolding clear
  clear_self v = rw (eq-eqb (own v) (own v) refl) refl

  -- two that meeting and do not collide, in either order: one is over before the other
  apart-over : (v w : ℕ) → apart S ≡ true → v < n → w < n → meeting_visits meets own loc v w ≡ true → (over own time n v (time w) ≡ true) ⊎ (over own time n w (time v) ≡ true)
  unfolding apart collide
  apart-over v w e l k m =
      let q : Meeting v w = meeting_says v w m in
      let first-lower : (x y : ℕ) → x < n → y < n → own x < own y → meets (loc x) (loc y) ≡ true → (over own time n x (time y) ≡ true) ⊎ (over own time n y (time x) ≡ true) =
      λ x y a b o p. by_cases (over own time n x (time y)) (λ h. inl h) (λ h. by_cases (over own time n y (time x)) (λ g. inr g) (λ g.
      let all : not (collide S x y) ≡ true = all_below-at n (λ w. not (collide S x w)) (all_below-at n (λ v. all_below n (λ w. not (collide S v w))) e x a) y b in
      absurd (false≢true (rw (lt-ltb (own x) (own y) o, p, h, g) at all)))) in
      by_cases (ltb (own v) (own w))
      (λ h. first-lower v w l k (ltb-true _ _ h) q.place)
      (λ h. elim (first-lower w v k l (omega (arith, ltb-false (own v) (own w) h, q.others)) (symmetric _ _ q.place)) [ inl a ↦ inr a | inr a ↦ inl a ])

  pub record Collide (v w : ℕ) : Type 0 where
    pub lower : own v < own w
    pub place : meets (loc v) (loc w) ≡ true
    pub stays : over own time n v (time w) ≡ false
    pub stays_too : over own time n w (time v) ≡ false

  collide-says : (v w : ℕ) → collide S v w ≡ true → Collide v w
  unfolding collide
  collide-says v w e =
      let r = and_right (ltb (own v) (own w)) _ e in
      let s = and_right (meets (loc v) (loc w)) _ r in
      record { lower = ltb-true _ _ (and_left _ _ e); place = and_left _ _ r; stays = not-true _ (and_left _ _ s); stays_too = not-true _ (and_right (not (over own time n v (time w))) _ s) }

  not-over : (v w : ℕ) → over own time n v (time w) ≡ false → clear meets own loc time n v w ≡ false
  not-over v w e = by_cases (clear meets own loc time n v w) (λ h. true_or_false (clear-says v w h).gone e) (λ h. h)

  -- ---- the entries of a table
  module _ (m : ℕ) (xs ys : ℕ → ℕ) where
    entries_climb : ((k : ℕ) → k < m → entry_right meets own loc time n xs ys k ≡ true) → Climbs (clear meets own loc time n) n m xs ys
    unfolding entry_right
    entries_climb h =
        record {
          first_in = λ k l. ltb-true _ _ (and_left _ _ (h k l));
          second_in = λ k l. ltb-true _ _ (and_left _ _ (rest k l));
          passes = λ k l. and_left _ _ (last k l);
          rises = λ k l.
              let r : (eqb (suc k) 0 || pair_before (xs (suc k - 1)) (ys (suc k - 1)) (xs (suc k)) (ys (suc k))) ≡ true = and_right (clear meets own loc time n (xs (suc k)) (ys (suc k))) _ (last (suc k) l) in
              let q : suc k - 1 ≡ k = omega arith in
              rw (ne_eqb (suc k) 0 (λ z. omega arith), q) at r;
        }
      where
        rest : (k : ℕ) → k < m → (ltb (ys k) n && (clear meets own loc time n (xs k) (ys k) && (eqb k 0 || pair_before (xs (k - 1)) (ys (k - 1)) (xs k) (ys k)))) ≡ true
        rest k l = and_right (ltb (xs k) n) _ (h k l)

        last : (k : ℕ) → k < m → (clear meets own loc time n (xs k) (ys k) && (eqb k 0 || pair_before (xs (k - 1)) (ys (k - 1)) (xs k) (ys k))) ≡ true
        last k l = and_right (ltb (ys k) n) _ (rest k l)

    climb_entries : Climbs (clear meets own loc time n) n m xs ys → (k : ℕ) → k < m → entry_right meets own loc time n xs ys k ≡ true
    unfolding entry_right
    climb_entries c k l = rw (lt-ltb (xs k) n (c.first_in k l), lt-ltb (ys k) n (c.second_in k l), c.passes k l) (go k l)
      where
        go : (k : ℕ) → k < m → (eqb k 0 || pair_before (xs (k - 1)) (ys (k - 1)) (xs k) (ys k)) ≡ true
        go zero l = refl
        go (suc k) l = let q : suc k - 1 ≡ k = omega arith in rw (ne_eqb (suc k) 0 (λ z. omega arith), q) (c.rises k l)

  module _ (steady : Steady own loc time n) where
    over-earlier : (v t : ℕ) → over own time n v t ≡ true → time v < t
    over-earlier v t e = let o : Over v t = over-says v t e in omega (arith, steady v o.next o.same_drone, o.leaves)

    clear-follows : (v w : ℕ) → clear meets own loc time n v w ≡ true → follows S v w ≡ true
    clear-follows v w e = let c : Clear v w = clear-says v w e in says-follows v w (record { others = c.others; place = c.place; earlier = over-earlier v (time w) c.gone })

    -- two stops of which one follows the other, in either order, meeting, and only one follows
    once : (v w : ℕ) → one (follows S v w) + one (follows S w v) ≤ one (meeting_visits meets own loc v w)
    once v w = by_cases (follows S v w)
        (λ e. let f : Follows v w = follows-says v w e in by_cases (follows S w v)
        (λ g. absurd (omega (arith, f.earlier, (follows-says w v g).earlier)))
        (λ g. rw (e, g, says_meeting v w f.others f.place) (omega arith)))
        (λ e. by_cases (follows S w v)
        (λ g. let f : Follows w v = follows-says w v g in rw (e, g, says_meeting v w (λ q. f.others (sym q)) (symmetric _ _ f.place)) (omega arith))
        (λ g. rw (e, g) (omega arith)))

    clear_less : (v w : ℕ) → one (clear meets own loc time n v w) ≤ one (follows S v w)
    clear_less v w = by_cases (clear meets own loc time n v w) (λ e. rw (e, clear-follows v w e) (omega arith)) (λ e. rw e (omega arith))

    total-triangle : meeting_total meets own loc n ≡ triangle n (λ v w. one (meeting_visits meets own loc v w))
    unfolding meeting_total triangle
    total-triangle = sum_ext n (λ w. count_below w (λ v. meeting_visits meets own loc v w)) (λ w. sum_below w (λ v. one (meeting_visits meets own loc v w))) (λ w l. count_sum w (λ v. meeting_visits meets own loc v w))

    follows-total : pairs_of (follows S) n ≤ meeting_total meets own loc n
    follows-total = rw (total-triangle, pairs_triangle (follows S) follows_self n) (triangle_mono n _ _ (λ v w k l. once v w))

    -- nothing collides: of two that meeting one is clear of the other, and the follower is the one that comes later
    apart-follows : apart S ≡ true → pairs_of (follows S) n ≡ meeting_total meets own loc n
    apart-follows a = rw (total-triangle, pairs_triangle (follows S) follows_self n) (triangle_ext n _ _ (λ v w k l. each v w (omega arith) l))
      where
        each : (v w : ℕ) → v < n → w < n → one (follows S v w) + one (follows S w v) ≡ one (meeting_visits meets own loc v w)
        each v w l k = by_cases (meeting_visits meets own loc v w)
            (λ e. let q : Meeting v w = meeting_says v w e in
            let some : 1 ≤ one (follows S v w) + one (follows S w v) =
            elim (apart-over v w a l k e) [
              | inl o ↦ rw (says-follows v w (record { others = q.others; place = q.place; earlier = over-earlier v (time w) o })) (omega arith)
              | inr o ↦ rw (says-follows w v (record { others = λ z. q.others (sym z); place = symmetric _ _ q.place; earlier = over-earlier w (time v) o })) (omega arith)
            ] in
            let most : one (follows S v w) + one (follows S w v) ≤ 1 = rw e at (once v w) in
            rw e (omega arith))
            (λ e. let most : one (follows S v w) + one (follows S w v) ≤ 0 = rw e at (once v w) in rw e (omega arith))

    apart-clear : apart S ≡ true → (v w : ℕ) → v < n → w < n → follows S v w ≡ true → clear meets own loc time n v w ≡ true
    apart-clear a v w l k e =
        let f : Follows v w = follows-says v w e in
        elim (apart-over v w a l k (says_meeting v w f.others f.place)) [
          | inl o ↦ says-clear v w (record { others = f.others; place = f.place; gone = o })
          | inr o ↦ absurd (omega (arith, over-earlier w (time v) o, f.earlier))
        ]

    -- as many clear pairs as meeting: nothing collides
    clear_apart : meeting_total meets own loc n ≤ pairs_of (clear meets own loc time n) n → apart S ≡ true
    unfolding apart
    clear_apart h = all_below_all n _ (λ v l. all_below_all n _ (λ w k. not-collide v w l k))
      where
        all : (v w : ℕ) → v < w → w < n → one (clear meets own loc time n v w) + one (clear meets own loc time n w v) ≡ one (meeting_visits meets own loc v w)
        all = triangle-same n (λ v w. one (clear meets own loc time n v w) + one (clear meets own loc time n w v)) (λ v w. one (meeting_visits meets own loc v w))
            (λ v w k l. omega (arith, clear_less v w, clear_less w v, once v w))
            (rw (total-triangle, pairs_triangle (clear meets own loc time n) clear_self n) at h)

        not-collide : (v w : ℕ) → v < n → w < n → not (collide S v w) ≡ true
        not-collide v w l k = by_cases (collide S v w)
            (λ e. let c : Collide v w = collide-says v w e in
            let o : own v ≢ own w = omega (arith, c.lower) in
            let a : clear meets own loc time n v w ≡ false = not-over v w c.stays in
            let b : clear meets own loc time n w v ≡ false = not-over w v c.stays_too in
            by_cases (ltb v w)
            (λ t. absurd (omega (arith, rw (a, b, says_meeting v w o c.place) at (all v w (ltb-true v w t) k))))
            (λ t. let ne : v ≢ w = λ z. o (ap own z) in
            absurd (omega (arith, rw (a, b, says_meeting w v (λ z. o (sym z)) (symmetric _ _ c.place)) at (all w v (omega (arith, ltb-false v w t)) l)))))
            (λ e. rw e refl)

    -- ---- the two tests are one
    quick_right : (m : ℕ) (xs ys : ℕ → ℕ) → quick meets own loc time n m xs ys ≡ true → right S m xs ys ≡ true
    unfolding quick right exact
    quick_right m xs ys e = and_both _ _ (clear_apart (omega (arith, many, climbs_few (clear meets own loc time n) n climbs))) (and_both _ _ (eq-eqb _ _ total) (all_below_all m _ (λ k l.
        and_both _ _
        (eq-eqb _ _ (sym (climbs_all (follows S) n climbs_follows total (λ v w. v) k l)))
        (eq-eqb _ _ (sym (climbs_all (follows S) n climbs_follows total (λ v w. w) k l))))))
      where
        many : m ≡ meeting_total meets own loc n
        many = eqb-true _ _ (and_left _ _ e)

        climbs : Climbs (clear meets own loc time n) n m xs ys
        climbs = entries_climb m xs ys (all_below-at m (entry_right meets own loc time n xs ys) (and_right (eqb m (meeting_total meets own loc n)) _ e))

        climbs_follows : Climbs (follows S) n m xs ys
        climbs_follows = record { first_in = climbs.first_in; second_in = climbs.second_in; passes = λ k l. clear-follows _ _ (climbs.passes k l); rises = climbs.rises }

        total : m ≡ pairs_of (follows S) n
        total = omega (arith, many, follows-total, climbs_few (follows S) n climbs_follows)

    right_quick : (m : ℕ) (xs ys : ℕ → ℕ) → right S m xs ys ≡ true → quick meets own loc time n m xs ys ≡ true
    unfolding quick right exact
    right_quick m xs ys e = and_both _ _ (eq-eqb _ _ (total ∙ apart-follows free)) (all_below_all m _ (climb_entries m xs ys (record { first_in = climbs.first_in; second_in = climbs.second_in; passes = λ k l. apart-clear free _ _ (climbs.first_in k l) (climbs.second_in k l) (climbs.passes k l); rises = climbs.rises })))
      where
        free : apart S ≡ true
        free = and_left _ _ e

        listed-right : exact S m xs ys ≡ true
        listed-right = and_right (apart S) _ e

        total : m ≡ pairs_of (follows S) n
        total = eqb-true _ _ (and_left _ _ listed-right)

        entry : (k : ℕ) → k < m → (xs k ≡ get_or (listed (follows S) n (λ v w. v)) k 0) × (ys k ≡ get_or (listed (follows S) n (λ v w. w)) k 0)
        entry k l = let q = all_below-at m _ (and_right (eqb m (pairs_of (follows S) n)) _ listed-right) k l in (eqb-true _ _ (and_left _ _ q), eqb-true _ _ (and_right (eqb (xs k) (get_or (listed (follows S) n (λ v w. v)) k 0)) _ q))

        climbs : Climbs (follows S) n m xs ys
        climbs = subst (λ (z : ℕ). Climbs (follows S) n z xs ys) (sym total) (all_climbs (follows S) n xs ys (λ k l. (entry k (omega (arith, total))).0) (λ k l. (entry k (omega (arith, total))).1))

    -- the quick test answers what the definition says
    pub quick_is : (m : ℕ) (xs ys : ℕ → ℕ) → quick meets own loc time n m xs ys ≡ right S m xs ys
    quick_is m xs ys = same_test _ _ (quick_right m xs ys) (right_quick m xs ys)

    -- .. as the code asks it
    module _ (m : ℕ) (xs ys : ℕ → ℕ) where
      pub right-not : all_below m (entry_right meets own loc time n xs ys) ≡ false → false ≡ right S m xs ys
      unfolding quick
      right-not e = by_cases (eqb m (meeting_total meets own loc n)) (λ h. rw (h, e) at (quick_is m xs ys)) (λ h. rw h at (quick_is m xs ys))

      pub right_count : (k : ℕ) → all_below m (entry_right meets own loc time n xs ys) ≡ true → k ≡ meeting_total meets own loc n → eqb k m ≡ right S m xs ys
      unfolding quick
      right_count k e q = by_cases (eqb k m)
          (λ h. rw h (rw (eq-eqb m (meeting_total meets own loc n) (sym (eqb-true k m h) ∙ q), e) at (quick_is m xs ys)))
          (λ h. rw h (rw (ne_eqb m (meeting_total meets own loc n) (λ z. eqb-false k m h (q ∙ sym z))) at (quick_is m xs ys)))

      -- .. or where the meetings are counted first
      pub right_miscounted : (k : ℕ) → k ≡ meeting_total meets own loc n → k ≢ m → false ≡ right S m xs ys
      right_miscounted k q ne = by_cases (all_below m (entry_right meets own loc time n xs ys)) (λ h. sym (ne_eqb k m ne) ∙ right_count k h q) (λ h. right-not h)

      pub right-entries : (k : ℕ) (r : Bool) → k ≡ meeting_total meets own loc n → k ≡ m → r ≡ all_below m (entry_right meets own loc time n xs ys) → r ≡ right S m xs ys
      right-entries k r q e er = by_cases (all_below m (entry_right meets own loc time n xs ys)) (λ h. er ∙ h ∙ sym (eq-eqb k m e) ∙ right_count k h q) (λ h. er ∙ h ∙ right-not h)

      -- what a right table says of each entry
      pub record Entry (k : ℕ) : Type 0 where
        pub first_in : xs k < n
        pub second_in : ys k < n
        pub others : own (xs k) ≢ own (ys k)
        pub place : meets (loc (xs k)) (loc (ys k)) ≡ true
        pub next_in : xs k + 1 < n
        pub next-own : own (xs k + 1) ≡ own (xs k)
        pub leaves : time (xs k + 1) < time (ys k)
        pub later : time (xs k) < time (ys k)

      pub right_entry : right S m xs ys ≡ true → (k : ℕ) → k < m → Entry k
      unfolding quick
      right_entry e k l =
          let c : Climbs (clear meets own loc time n) n m xs ys = entries_climb m xs ys (all_below-at m (entry_right meets own loc time n xs ys) (and_right (eqb m (meeting_total meets own loc n)) _ (right_quick m xs ys e))) in
          let q : Clear (xs k) (ys k) = clear-says (xs k) (ys k) (c.passes k l) in
          let o : Over (xs k) (time (ys k)) = over-says (xs k) (time (ys k)) q.gone in
          record { first_in = c.first_in k l; second_in = c.second_in k l; others = q.others; place = q.place; next_in = o.next; next-own = o.same_drone; leaves = o.leaves; later = over-earlier (xs k) (time (ys k)) q.gone }
