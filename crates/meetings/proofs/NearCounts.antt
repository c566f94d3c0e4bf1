-- The meetings at near locations are counted by a histogram over the numbers of the pairs: for each stop, over the pairs that name its location, the stops of earlier
-- drones at the other location of the pair. No pair stands twice, so that each meeting is counted once. Assumes nothing.
use mathlib.Core.Path.{◌≡◌, refl, sym, ap, ◌∙◌, subst}
use mathlib.Core.Logic.{◌≢◌}
use mathlib.Core.List.{List}
use mathlib.Core.Bool.{Bool, true, false, not, ◌&&◌, ◌||◌}
use Prim.Native.Nat.{ℕ, zero, suc, ◌+◌, ◌*◌, ◌≤◌, ◌<◌}
use native.Mathlib.Omega.{arith}
use lib.Dec.{ltb, eqb}
use lib.ListN.{length}
use borrow.Author.Tests.{ltb-true, ltb-false, eqb-true, eqb-false, eq-eqb, ne_eqb, not-true, not-false}
use Rattle.below.specs.Below.{at, pick, count_below, sum_below, fill_below, all_below, any_below, First}
use Rattle.below.proofs.Tests.{by_cases, true_or_false, and_left, and_right, and_both, same_test}
use Rattle.below.proofs.Every.{all_below_fails, any_below-none}
use Rattle.below.proofs.Count.{count_le, count_zero}
use Rattle.below.proofs.Same.{count_ext}
use Rattle.below.proofs.Sum.{sum_ext, sum_plus, sum_swap, sum-zero, sum-suc, sum_more, sum-none, sum_end, count_sum}
use Rattle.below.proofs.Search.{first_below_first, first_below_ext}
use Rattle.below.proofs.Fill.{fill_at, fill_length}
use Rattle.below.proofs.Gaps.{over_gap}
use Rattle.tables.specs.Limits.{Limits, most_pairs}
use Rattle.near.specs.Near.{lower, upper, is_listed, near, meets_in, Paired, key_at}
use Rattle.near.proofs.NearLaws.{count_within, listed_order, near_apart, key_rises, meets_either, listed_at, at_listed}
use Rattle.plan.specs.Visits.{same_location}
use Rattle.plan.specs.Sharing.{first_where, first_at, next_at, Groups, other_end}
use Rattle.plan.proofs.SharingLaws.{first_within, first_shares, first_alike, first_same, firsts_at, of_within, of_there, of_is, walk_more}
use Rattle.plan.proofs.NearLists.{other_even, other_odd, other_in}
use Rattle.meetings.specs.Meetings.{meeting_visits, meeting_total}
use Rattle.meetings.specs.Histogram.{Indexed, Tally, Run, NumberHeads, near_sum}
use Rattle.meetings.proofs.Tallies.{run_count, meetings_bound, meetings_split}

abbrev one : Bool → ℕ
one b = pick b 1 0

-- ---- sums and counts

-- two numbers at a time
sum_pairs : (f : ℕ → ℕ) (c : ℕ) → sum_below (2 * c) f ≡ sum_below c (λ i. f (2 * i) + f (2 * i + 1))
sum_pairs f zero = sym (sum-none f 0) ∙ sum-none (λ i. f (2 * i) + f (2 * i + 1)) 0
sum_pairs f (suc c) =
    let e : 2 * suc c ≡ suc (suc (2 * c)) = omega arith in
    let o : suc (2 * c) ≡ 2 * c + 1 = omega arith in
    rw (e, sum-suc (suc (2 * c)) f, sum-suc (2 * c) f, sum-suc c (λ i. f (2 * i) + f (2 * i + 1)), o, sum_pairs f c) (omega arith)

-- where no two pass, as many pass as there is one that does
count_once : (c : ℕ) (p : ℕ → Bool) → ((i j : ℕ) → i < j → j < c → p i ≡ true → p j ≡ true → ⊥) → count_below c p ≡ one (any_below c p)
unfolding count_below all_below
count_once zero p h = refl
count_once (suc c) p h = by_cases (p c)
    (λ e. rw (e, count_zero c p (λ i l. by_cases (p i) (λ q. absurd (h i c l (omega arith) q e)) (λ q. q))) (by_cases (all_below c (λ i. not (p i))) (λ a. rw a refl) (λ a. rw a refl)))
    (λ e. rw (e, count_once c p (λ i j a b. h i j a (omega arith))) (by_cases (all_below c (λ i. not (p i))) (λ a. rw a refl) (λ a. rw a refl)))

-- ---- which numbers of the pairs are a location
module _ (pairs : List ℕ) (ends : ℕ) where
  -- a location and a number have one entry exactly where the number is that location
  pub entry_same : (l j : ℕ) → j < ends → eqb (first_where (at pairs) ends l) (first_at (at pairs) j) ≡ eqb l (at pairs j)
  entry_same l j k = same_test _ _
      (λ e. let q : first_where (at pairs) ends l ≡ first_at (at pairs) j = eqb-true _ _ e in
      eq-eqb l (at pairs j) (sym (of_there (at pairs) ends l (omega (arith, q, first_within (at pairs) j))) ∙ ap (at pairs) q ∙ first_shares (at pairs) j))
      (λ e. let q : l ≡ at pairs j = eqb-true _ _ e in
      eq-eqb _ _ (sym (of_is (at pairs) ends l (first_at (at pairs) j) (omega (arith, first_within (at pairs) j)) (first_shares (at pairs) j ∙ sym q) (first_alike (at pairs) (first_at (at pairs) j) j (first_shares (at pairs) j)))))

-- ---- how often a pair is named

flip : (a b : ℕ) → eqb a b ≡ eqb b a
flip a b = same_test _ _ (λ e. eq-eqb b a (sym (eqb-true a b e))) (λ e. eq-eqb a b (sym (eqb-true b a e)))

pick_and : (a b : Bool) → pick a (one b) 0 ≡ one (a && b)
pick_and true b = refl
pick_and false b = refl

pick_swap : (a b : Bool) → pick b (one a) 0 ≡ one (a && b)
pick_swap true true = refl
pick_swap true false = refl
pick_swap false true = refl
pick_swap false false = refl

or_none : (b : Bool) → one b ≡ one (b || false)
or_none true = refl
or_none false = refl

module _ {L : Limits} {pairs : List ℕ} {c : ℕ} (P : Paired L pairs c) (small : L.location < 65536) where
  abbrev named : ℕ → ℕ → ℕ → Bool
  named a b i = eqb (lower pairs i) a && eqb (upper pairs i) b

  -- the pair of a and b is one of those that are counted
  named_any : (a b : ℕ) → any_below c (named a b) ≡ is_listed pairs a b
  named_any a b = same_test _ _ there back
    where
      there : any_below c (named a b) ≡ true → is_listed pairs a b ≡ true
      there e =
          let (i, l, h) = all_below_fails c (λ i. not (named a b i)) (not-true _ e) in
          let g : named a b i ≡ true = not-false _ h in
          at_listed pairs a b i (omega (arith, l, P.counted)) (eqb-true (lower pairs i) a (and_left _ _ g)) (eqb-true (upper pairs i) b (and_right (eqb (lower pairs i) a) _ g))

      back : is_listed pairs a b ≡ true → any_below c (named a b) ≡ true
      back e =
          let (i, l, p, q) = listed_at pairs a b e in
          let g : named a b i ≡ true = and_both _ _ (eq-eqb (lower pairs i) a p) (eq-eqb (upper pairs i) b q) in
          by_cases (any_below c (named a b)) (λ h. h) (λ h. true_or_false g (any_below-none c (named a b) h i (omega (arith, l, P.counted))))

  named_once : (a b : ℕ) → count_below c (named a b) ≡ one (is_listed pairs a b)
  named_once a b =
      count_once c (named a b) (λ i j k m p q.
      let s : key_at pairs i ≡ key_at pairs j = omega (arith, eqb-true (lower pairs i) a (and_left _ _ p), eqb-true (upper pairs i) b (and_right (eqb (lower pairs i) a) _ p), eqb-true (lower pairs j) a (and_left _ _ q), eqb-true (upper pairs j) b (and_right (eqb (lower pairs j) a) _ q)) in
      omega (arith, key_rises P small i j k m, s))
      ∙ ap one (named_any a b)

  -- only the lower location of a pair stands first
  listed-near : (x l : ℕ) → one (is_listed pairs l x) + one (is_listed pairs x l) ≡ one (near pairs x l)
  unfolding near
  listed-near x l = by_cases (ltb l x)
      (λ h. let n : is_listed pairs x l ≡ false = listed_order P x l (omega (arith, ltb-true l x h)) in rw n (omega arith))
      (λ h. let n : is_listed pairs l x ≡ false = listed_order P l x (ltb-false l x h) in rw n (omega (arith, or_none (is_listed pairs x l))))

  -- over all numbers of the pairs that are l, those paired with x: one where x and l are near, else none
  pub named-near : (x l : ℕ) → sum_below (2 * c) (λ k. pick (eqb (at pairs k) l) (one (eqb x (at pairs (other_end k)))) 0) ≡ one (near pairs x l)
  named-near x l = sum_pairs _ c ∙ sum_ext c _ (λ i. one (named l x i) + one (named x l i)) (λ i k. both i) ∙ sum_plus c _ _ ∙ rw (← count_sum c (named l x), ← count_sum c (named x l), named_once l x, named_once x l) (listed-near x l)
    where
      both : (i : ℕ) → pick (eqb (at pairs (2 * i)) l) (one (eqb x (at pairs (other_end (2 * i))))) 0 + pick (eqb (at pairs (2 * i + 1)) l) (one (eqb x (at pairs (other_end (2 * i + 1))))) 0 ≡ one (named l x i) + one (named x l i)
      both i = rw (other_even i, other_odd i, flip x (at pairs (2 * i + 1)), flip x (at pairs (2 * i)), pick_and (eqb (lower pairs i) l) (eqb (upper pairs i) x), pick_swap (eqb (lower pairs i) x) (eqb (upper pairs i) l)) refl

  -- the counts at the locations paired with l are one count of the stops near l
  module _ (loc : ℕ → ℕ) (lo l : ℕ) where
    abbrev paired : ℕ → ℕ → ℕ
    paired k u = pick (eqb (at pairs k) l) (one (eqb (loc u) (at pairs (other_end k)))) 0

    spread : (k : ℕ) → pick (eqb (at pairs k) l) (count_below lo (λ u. eqb (loc u) (at pairs (other_end k)))) 0 ≡ sum_below lo (λ u. pick (eqb (at pairs k) l) (one (eqb (loc u) (at pairs (other_end k)))) 0)
    spread k = by_cases (eqb (at pairs k) l) (λ e. rw e (count_sum lo (λ u. eqb (loc u) (at pairs (other_end k))))) (λ e. rw e (sym (sum-zero lo)))

    pub counted-near : sum_below (2 * c) (λ k. pick (eqb (at pairs k) l) (count_below lo (λ u. eqb (loc u) (at pairs (other_end k)))) 0) ≡ count_below lo (λ u. near pairs (loc u) l)
    counted-near = sum_ext (2 * c) _ (λ k. sum_below lo (paired k)) (λ k m. spread k) ∙ sum_swap paired (2 * c) lo ∙ sum_ext lo _ (λ u. one (near pairs (loc u) l)) (λ u m. named-near (loc u) l) ∙ sym (count_sum lo (λ u. near pairs (loc u) l))

  -- the sum at w is the number of stops before w that are near it
  module _ (few : 2 * c ≤ L.stops) (owners locations first heads counts : List ℕ) (n lo w : ℕ)
      (F : (j : ℕ) → j < 2 * c → at first j ≡ first_at (at pairs) j) (H : (v : ℕ) → v < n → at heads v ≡ first_where (at pairs) (2 * c) (at locations v)) (T : Tally L heads counts n lo) where
    here : lo ≤ n → (j : ℕ) → j < 2 * c → at counts (at first j) ≡ count_below lo (λ u. eqb (at locations u) (at pairs j))
    here b j l =
        T.here (at first j) (omega (arith, F j l, first_within (at pairs) j))
        ∙ count_ext lo _ _ (λ u m. rw (H u (omega arith), F j l) (entry_same pairs (2 * c) (at locations u) j l))

    pub near_meetings : Run (at owners) lo (w + 1) → lo ≤ w → w < n → near_sum pairs first counts (2 * c) (at locations w) ≡ count_below w (λ v. meeting_visits (near pairs) (at owners) (at locations) v w)
    unfolding near_sum
    near_meetings r b m =
        sum_ext (2 * c) _ _ (λ k l. ap (λ (z : ℕ). pick (eqb (at pairs k) (at locations w)) z 0) (here (omega arith) (other_end k) (other_in k c l)))
        ∙ counted-near (at locations) lo (at locations w)
        ∙ run_count (near pairs) (at owners) (at locations) lo w r b

-- ---- the walk of the numbers that are location l
module _ (pairs first counts : List ℕ) (ends l : ℕ) where
  abbrev term : ℕ → ℕ
  term k = pick (eqb (at pairs k) l) (at counts (at first (other_end k))) 0

  term_none : (u s : ℕ) → at pairs u ≢ l → s ≡ sum_below u term → s ≡ sum_below (u + 1) term
  term_none u s ne e = e ∙ sym (sum_more u term ∙ rw (ne_eqb (at pairs u) l ne) (omega arith))

  pub summed_start : (k : ℕ) → k ≡ first_where (at pairs) ends l → (0 ≡ sum_below k term) × (k < ends → at pairs k ≡ l)
  unfolding first_where
  summed_start k e =
      let F : First ends (λ u. eqb (at pairs u) l) k = subst (λ (z : ℕ). First ends (λ u. eqb (at pairs u) l) z) (sym e) (first_below_first ends (λ u. eqb (at pairs u) l)) in
      (over_gap (λ (u : ℕ). 0 ≡ sum_below u term) 0 k (omega arith) (λ u a b h. term_none u 0 (eqb-false _ _ (F.skipped u b)) h) (sum-none term 0), λ h. eqb-true _ _ (F.found h))

  pub summed_more : (next : List ℕ) → Groups (at pairs) ends first next → (k s x j : ℕ) → k < ends → at pairs k ≡ l → s ≡ sum_below k term → x ≡ at counts (at first (other_end k)) → j ≡ at next k
      → (s + x ≡ sum_below j term) × (j < ends → at pairs j ≡ l)
  summed_more next G k s x j m e h ex ej =
      let q : s + x ≡ sum_below (k + 1) term = rw (sum_more k term, eq-eqb (at pairs k) l e, h, ex) refl in
      let (a, b, d) = walk_more (at pairs) ends first next G (λ (u : ℕ). s + x ≡ sum_below u term) k k j m refl (λ u ne h. term_none u (s + x) (λ z. ne (z ∙ sym e)) h) q ej in
      (b, λ t. d t ∙ e)

  pub summed_end : (k s : ℕ) → k ≤ ends → ends ≤ k → s ≡ sum_below k term → s ≡ near_sum pairs first counts ends l
  unfolding near_sum
  summed_end k s a b e = sum_end term k s ends a b e

-- where nothing is near, nothing meets
pub meetings_never : (near : ℕ → ℕ → Bool) (own loc : ℕ → ℕ) (n : ℕ) → ((a b : ℕ) → near a b ≡ false) → 0 ≡ meeting_total near own loc n
unfolding meeting_total meeting_visits
meetings_never near own loc n h = sym (sum_ext n _ (λ w. 0) (λ w l. count_zero w _ (λ v k. by_cases (eqb (own v) (own w)) (λ e. rw e refl) (λ e. rw (e, h (loc v) (loc w)) refl))) ∙ sum-zero n)

-- what is counted of the stops before w is no more than w
pub row_bound : (near : ℕ → ℕ → Bool) (own loc : ℕ → ℕ) (w : ℕ) {x : ℕ} → x ≡ count_below w (λ v. meeting_visits near own loc v w) → x ≤ w
row_bound near own loc w e = omega (arith, e, count_le w (λ v. meeting_visits near own loc v w))

pub total-bound : (meets : ℕ → ℕ → Bool) (own loc : ℕ → ℕ) (n b : ℕ) {x : ℕ} → x ≡ meeting_total meets own loc n → n ≤ b → x ≤ n * b
total-bound meets own loc n b e l = omega (arith, e, meetings_bound meets own loc n b l)

-- there are no more numbers than the full size of their table
pub ends_few : {L : Limits} {pairs : List ℕ} {c : ℕ} → Paired L pairs c → 2 * c ≤ 2 * most_pairs
ends_few {L} {pairs} {c} P = omega (arith, P.counted, count_within pairs)

-- the first numbers of the stops' locations are entries of the histogram
pub ends_indexed : {L : Limits} {pairs locations first heads : List ℕ} {c n : ℕ} → NumberHeads pairs locations first heads c n → 2 * c < L.stops → n ≤ L.stops → Indexed L heads n
ends_indexed {L} {pairs} {locations} {first} {heads} {c} {n} E few small = record {
  has_firsts = E.has_heads;
  few = small;
  within = λ v l. omega (arith, E.heads_are v l, of_within (at pairs) (2 * c) (at locations v));
}

-- the first numbers as they were filled
pub ends_filled : (L : Limits) (pairs locations : List ℕ) (c n : ℕ) (first₀ first heads₀ heads : List ℕ) → 2 * c ≤ length first₀ → length heads₀ ≡ L.stops → n ≤ L.stops
    → first ≡ fill_below (2 * c) (first_at (at pairs)) first₀ → heads ≡ fill_below n (λ v. first_where (at pairs) (2 * c) (at locations v)) heads₀ → NumberHeads pairs locations first heads c n
ends_filled L pairs locations c n first₀ first heads₀ heads a b small ef eh = record {
  has_firsts = omega (arith, a, fill_length (first_at (at pairs)) first₀ (2 * c) first ef);
  firsts = firsts_at (at pairs) (2 * c) first₀ first a ef;
  has_heads = omega (arith, fill_length (λ v. first_where (at pairs) (2 * c) (at locations v)) heads₀ n heads eh);
  heads_are = fill_at (λ v. first_where (at pairs) (2 * c) (at locations v)) heads₀ n heads eh (omega arith);
}

-- the numbers linked by their locations, where the first ones are known
ends_next : (loc : ℕ → ℕ) (n : ℕ) (first : List ℕ) → ((v : ℕ) → v < n → at first v ≡ first_at loc v) → (v : ℕ) → v < n → next_at (at first) n v ≡ next_at loc n v
unfolding next_at
ends_next loc n first F v l = first_below_ext n _ _ (λ u k. ap (λ (b : Bool). ltb v u && b) (rw (F u k, F v l) (first_same loc u v)))

pub ends_linked : (loc : ℕ → ℕ) (n : ℕ) (first next₀ next : List ℕ) → ((v : ℕ) → v < n → at first v ≡ first_at loc v) → n ≤ length next₀ → next ≡ fill_below n (next_at (at first) n) next₀ → Groups loc n first next
ends_linked loc n first next₀ next F s q = record { firsts = F; nexts = λ v l. fill_at (next_at (at first) n) next₀ n next q s v l ∙ ends_next loc n first F v l }

-- the meetings at one location and those at near ones are all
pub total_split : {L : Limits} {pairs : List ℕ} {c : ℕ} (own loc : ℕ → ℕ) (n a b : ℕ) → Paired L pairs c → a ≡ meeting_total same_location own loc n → b ≡ meeting_total (near pairs) own loc n → a + b ≡ meeting_total (meets_in pairs) own loc n
total_split {L} {pairs} own loc n a b P p q = rw (p, q) (meetings_split (meets_in pairs) (near pairs) own loc n (meets_either pairs) (near_apart P))
