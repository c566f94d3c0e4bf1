-- The first stop that passes a test among those whose locations meet: along the list of the stops at one location, and least over the lists of all locations that are
-- near it. Assumes nothing.
use mathlib.Core.Path.{◌≡◌, refl, sym, ap, ◌∙◌, subst}
use mathlib.Core.Logic.{◌≢◌, ◌⊎◌, inl, inr}
use mathlib.Core.List.{List}
use mathlib.Core.Bool.{Bool, true, false, ◌&&◌}
use Rattle.std.specs.Prelude.{min}
use Prim.Native.Nat.{ℕ, ◌+◌, ◌*◌, ◌/◌, ◌%◌, ◌≤◌, ◌<◌}
use native.Mathlib.Omega.{arith}
use lib.Dec.{ltb, leb, eqb}
use borrow.Author.Tests.{lt-ltb, lt-leb, leb-false, ltb-true, ltb-false, eqb-true, eqb-false, eq-eqb, ne_eqb}
use lib.ListN.{length, set, length-set, take, drop, get_or-append}
use mathlib.Core.List.{◌++◌}
use Rattle.std.proofs.lemmas.List.{length-append, length-take-le, length-drop, get_or-take}
use lib.Seq.{get_or-set_same, get_or-set_other}
use Rattle.below.specs.Below.{at, first_below, fill_below, pick, First}
use Rattle.below.proofs.Fill.{fill_at}
use Rattle.below.proofs.Tests.{by_cases, true_or_false, and_left, and_right}
use Rattle.below.proofs.Search.{first_below_first, first_more, first_hit, first_all, first_is, first_low}
use Rattle.tables.specs.Limits.{most_pairs}
use Rattle.near.specs.Near.{pair_count, is_listed, near, meets_in}
use Rattle.near.proofs.NearLaws.{count_within, listed_at, at_listed, meets_cases, near_cases, meets_same, meets_either}
use Rattle.plan.specs.Sharing.{first_where, first_at, next_at, after_stop, StopsLinked, MayBegin, there, other_end, pair_ends, NumbersLinked, Placed, PlacedAhead}
use Rattle.plan.proofs.SharingLaws.{first_within, first_shares, first_alike, of_there, of_is}
use Rattle.plan.proofs.StretchLaws.{walk_after}

pub and_true : (a b : Bool) → a ≡ true → b ≡ true → a && b ≡ true
and_true a b p q = rw (p, q) refl

-- the lesser of two numbers
min-first : (a b : ℕ) → a ≤ b → min a b ≡ a
min-first a b h = omega (arith, h)

min-second : (a b : ℕ) → b ≤ a → min a b ≡ b
min-second a b h = omega (arith, h)

-- ---- the stops at one location

-- a walk may begin at the first stop of all there
pub begun_first : (loc : ℕ → ℕ) (n l : ℕ) (q : ℕ → Bool) (start : ℕ) → start ≡ first_where loc n l → MayBegin loc n l q start
unfolding first_where
begun_first loc n l q start e = let F : First n (λ u. eqb (loc u) l) start = subst (First n (λ u. eqb (loc u) l)) (sym e) (first_below_first n (λ u. eqb (loc u) l)) in record {
  within = F.within;
  passed_over = λ u k s. true_or_false (eq-eqb (loc u) l s) (F.skipped u k);
  belongs = λ k. eqb-true (loc start) l (F.found k);
}

-- .. which is the first stop at a stop's location
pub begun_own : (loc : ℕ → ℕ) (n v : ℕ) (q : ℕ → Bool) (start : ℕ) → v < n → start ≡ first_at loc v → MayBegin loc n (loc v) q start
begun_own loc n v q start l e = begun_first loc n (loc v) q start (e ∙ of_is loc n (loc v) (first_at loc v) (omega (arith, first_within loc v)) (first_shares loc v) (first_alike loc (first_at loc v) v (first_shares loc v)))

-- .. or, after stop w there, at the next one, if none up to w passes
pub begun_next : (loc : ℕ → ℕ) (n w l : ℕ) (q : ℕ → Bool) (start : ℕ) → loc w ≡ l → start ≡ next_at loc n w → ((u : ℕ) → u ≤ w → q u ≡ false) → MayBegin loc n l q start
unfolding next_at
begun_next loc n w l q start s e none = let F : First n (λ u. ltb w u && eqb (loc u) (loc w)) start = subst (First n (λ u. ltb w u && eqb (loc u) (loc w))) (sym e) (first_below_first n (λ u. ltb w u && eqb (loc u) (loc w))) in record {
  within = F.within;
  passed_over = λ u k h. by_cases (ltb w u)
      (λ c. true_or_false (and_true (ltb w u) (eqb (loc u) (loc w)) c (eq-eqb (loc u) (loc w) (h ∙ sym s))) (F.skipped u k))
      (λ c. none u (ltb-false w u c));
  belongs = λ k. eqb-true (loc start) (loc w) (and_right (ltb w start) _ (F.found k)) ∙ s;
}

-- .. or at the first that passes
pub begun_found : (loc : ℕ → ℕ) (n l : ℕ) (q : ℕ → Bool) (start : ℕ) → start ≡ first_below n (there loc l q) → MayBegin loc n l q start
begun_found loc n l q start e = let F : First n (there loc l q) start = subst (First n (there loc l q)) (sym e) (first_below_first n (there loc l q)) in record {
  within = F.within;
  passed_over = λ u k s. by_cases (q u) (λ p. true_or_false (and_true (eqb (loc u) l) (q u) (eq-eqb (loc u) l s) p) (F.skipped u k)) (λ p. p);
  belongs = λ k. eqb-true (loc start) l (and_left _ (q start) (F.found k));
}

-- .. also for a test that fewer stops pass
pub begun_fewer : (loc : ℕ → ℕ) (n l : ℕ) (q q' : ℕ → Bool) (start : ℕ) → ((u : ℕ) → q u ≡ false → q' u ≡ false) → MayBegin loc n l q start → MayBegin loc n l q' start
begun_fewer loc n l q q' start fewer B = record { within = B.within; passed_over = λ u k s. fewer u (B.passed_over u k s); belongs = B.belongs }

there_else : (loc : ℕ → ℕ) (g : ℕ) (q : ℕ → Bool) (u : ℕ) → loc u ≢ g → there loc g q u ≡ false
there_else loc g q u ne = rw (ne_eqb (loc u) g ne) refl

there-not : (loc : ℕ → ℕ) (g : ℕ) (q : ℕ → Bool) (u : ℕ) → q u ≡ false → there loc g q u ≡ false
there-not loc g q u h = by_cases (eqb (loc u) g) (λ e. rw (e, h) refl) (λ e. rw e refl)

module _ (loc : ℕ → ℕ) (n g : ℕ) (q : ℕ → Bool) where
  -- as far as w, which is at g, no stop there passes
  abbrev pub Sought : ℕ → Type 0
  Sought w = (w ≤ n) × (first_below w (there loc g q) ≡ w) × (w < n → loc w ≡ g)

  pub sought_start : (start : ℕ) → MayBegin loc n g q start → Sought start
  sought_start start B = (
    B.within,
    first_all (there loc g q) start (λ u l. by_cases (eqb (loc u) g)
        (λ e. there-not loc g q u (B.passed_over u l (eqb-true (loc u) g e)))
        (λ e. there_else loc g q u (eqb-false (loc u) g e))),
    B.belongs,
  )

  module _ (w : ℕ) (S : Sought w) where
    pub sought_hit : w < n → q w ≡ true → w ≡ first_below n (there loc g q)
    sought_hit l h = first_hit (there loc g q) w n l S.1 (and_true (eqb (loc w) g) (q w) (eq-eqb (loc w) g (S.2 l)) h)

    pub sought_more : (own : ℕ → ℕ) (first next skip : List ℕ) → StopsLinked own loc n first next skip → (x : ℕ) (past : Bool) → w < n → q w ≡ false → (past ≡ true → (u : ℕ) → own u ≡ own w → q u ≡ false)
        → x ≡ after_stop next skip w past → Sought x
    sought_more own first next skip G x past l h o e = walk_after own loc n first next skip G.groups G.stretches w x l (λ w. first_below w (there loc g q) ≡ w) g past (S.2 l)
        (λ u k ne c. first_more (there loc g q) u c (there_else loc g q u ne))
        (λ p u s c. first_more (there loc g q) u c (there-not loc g q u (o p u s)))
        (first_more (there loc g q) w S.1 (there-not loc g q w h)) e

-- ---- the other number of a pair

pub other_even : (i : ℕ) → other_end (2 * i) ≡ 2 * i + 1
unfolding other_end
other_even i = rw (eq-eqb (2 * i % 2) 0 (omega arith)) refl

pub other_odd : (i : ℕ) → other_end (2 * i + 1) ≡ 2 * i
unfolding other_end
other_odd i = rw (ne_eqb ((2 * i + 1) % 2) 0 (omega arith)) (omega arith)

pub other_in : (k c : ℕ) → k < 2 * c → other_end k < 2 * c
unfolding other_end
other_in k c l = by_cases (eqb (k % 2) 0)
    (λ e. rw e (omega (arith, eqb-true (k % 2) 0 e)))
    (λ e. rw e (omega arith))

halves : (k : ℕ) → (k ≡ 2 * (k / 2)) ⊎ (k ≡ 2 * (k / 2) + 1)
halves k = by_cases (eqb (k % 2) 0) (λ e. inl (omega (arith, eqb-true (k % 2) 0 e))) (λ e. let d : k % 2 ≢ 0 = eqb-false (k % 2) 0 e in inr (omega (arith, d)))

module _ (pairs : List ℕ) where
  near-listed : (a b : ℕ) → is_listed pairs a b ≡ true → near pairs a b ≡ true
  unfolding near
  near-listed a b e = rw e refl

  near-turned : (a b : ℕ) → is_listed pairs b a ≡ true → near pairs a b ≡ true
  unfolding near
  near-turned a b e = by_cases (is_listed pairs a b) (λ h. rw h refl) (λ h. rw (h, e) refl)

  meets_near : (a b : ℕ) → near pairs a b ≡ true → meets_in pairs a b ≡ true
  meets_near a b e = meets_either pairs a b ∙ by_cases (eqb a b) (λ h. rw h refl) (λ h. rw (h, e) refl)

  -- the locations of the two numbers of a pair meet
  ends_meet : (k a b : ℕ) → k < pair_ends pairs → at pairs k ≡ a → at pairs (other_end k) ≡ b → meets_in pairs a b ≡ true
  ends_meet k a b l p q = elim (halves k) [
    | inl e ↦ meets_near a b (near-listed a b (at_listed pairs a b (k / 2) (omega arith) (ap (at pairs) (sym e) ∙ p) (ap (at pairs) (sym (ap other_end e ∙ other_even (k / 2))) ∙ q)))
    | inr e ↦ meets_near a b (near-turned a b (at_listed pairs b a (k / 2) (omega arith) (ap (at pairs) (sym (ap other_end e ∙ other_odd (k / 2))) ∙ q) (ap (at pairs) (sym e) ∙ p)))
  ]

  -- a number from k on is a, and b is near it by that number's pair
  pub record Pending (k a b : ℕ) : Type 0 where
    pub number : ℕ
    pub onward : k ≤ number
    pub within : number < pair_ends pairs
    pub one : at pairs number ≡ a
    pub other : at pairs (other_end number) ≡ b

  -- near locations are so by some number
  pending_listed : (a b : ℕ) → is_listed pairs a b ≡ true → Pending 0 a b
  pending_listed a b e =
      let (i, l, p, q) = listed_at pairs a b e in
      record { number = 2 * i; onward = omega arith; within = omega arith; one = p; other = ap (at pairs) (other_even i) ∙ q }

  pending_turned : (a b : ℕ) → is_listed pairs b a ≡ true → Pending 0 a b
  pending_turned a b e =
      let (i, l, p, q) = listed_at pairs b a e in
      record { number = 2 * i + 1; onward = omega arith; within = omega arith; one = q; other = ap (at pairs) (other_odd i) ∙ p }

  pending_near : (a b : ℕ) → near pairs a b ≡ true → Pending 0 a b
  pending_near a b e = elim (near_cases pairs a b e) [ inl h ↦ pending_listed a b h | inr h ↦ pending_turned a b h ]

  -- .. and not before the first number that is a
  pending_first : (k a b : ℕ) → (0 < pair_ends pairs → k ≡ first_where (at pairs) (pair_ends pairs) a) → Pending 0 a b → Pending k a b
  unfolding first_where
  pending_first k a b e P = record {
    number = P.number;
    onward = omega (arith, e (omega (arith, P.within)), first_low (λ u. eqb (at pairs u) a) P.number (pair_ends pairs) (eq-eqb (at pairs P.number) a P.one));
    within = P.within;
    one = P.one;
    other = P.other;
  }

  -- number k is done: the next that is a
  pending_next : (k j a b : ℕ) → at pairs k ≡ a → j ≡ next_at (at pairs) (pair_ends pairs) k → at pairs (other_end k) ≢ b → Pending k a b → Pending j a b
  unfolding next_at
  pending_next k j a b h e ne P =
      let d : P.number ≢ k = λ z. ne (ap (λ (x : ℕ). at pairs (other_end x)) (sym z) ∙ P.other) in
      record {
        number = P.number;
        onward = omega (arith, e, first_low (λ u. ltb k u && eqb (at pairs u) (at pairs k)) P.number (pair_ends pairs) (and_true _ _ (lt-ltb k P.number (omega (arith, P.onward, d))) (eq-eqb (at pairs P.number) (at pairs k) (P.one ∙ sym h))));
        within = P.within;
        one = P.one;
        other = P.other;
      }

  -- the first number that is the location of v is so, and so is the next one
  pub number_first : (loc : ℕ → ℕ) (v k : ℕ) → (0 < pair_ends pairs → k ≡ first_where (at pairs) (pair_ends pairs) (loc v)) → k < pair_ends pairs → at pairs k ≡ loc v
  number_first loc v k e l = ap (at pairs) (e (omega arith)) ∙ of_there (at pairs) (pair_ends pairs) (loc v) (subst (λ (z : ℕ). z < pair_ends pairs) (e (omega arith)) l)

  pub number_next : (loc : ℕ → ℕ) (v k j : ℕ) → j ≡ next_at (at pairs) (pair_ends pairs) k → at pairs k ≡ loc v → j < pair_ends pairs → at pairs j ≡ loc v
  unfolding next_at
  number_next loc v k j e h l = ap (at pairs) e ∙ eqb-true _ _ (and_right (ltb k _) _ ((first_below_first (pair_ends pairs) (λ u. ltb k u && eqb (at pairs u) (at pairs k))).found (subst (λ (z : ℕ). z < pair_ends pairs) e l))) ∙ h

-- ---- the least over the lists
module _ (pairs : List ℕ) (loc : ℕ → ℕ) (n v : ℕ) (q : ℕ → Bool) where
  -- a stop whose location meets that of v, and which passes
  abbrev pub meeting : ℕ → Bool
  meeting u = meets_in pairs (loc v) (loc u) && q u

  -- m is the least of those found; whoever is before it is at a location that is near by a number from k on
  pub record Leading (k m : ℕ) : Type 0 where
    pub within : m ≤ n
    pub found : m < n → meeting m ≡ true
    pub here : k < pair_ends pairs → at pairs k ≡ loc v
    pub rest : (u : ℕ) → u < m → meeting u ≡ true → Pending pairs k (loc v) (loc u)

  pub leading_start : (k m : ℕ) → (0 < pair_ends pairs → k ≡ first_where (at pairs) (pair_ends pairs) (loc v)) → m ≡ first_below n (there loc (loc v) q) → Leading k m
  leading_start k m e em = let F : First n (there loc (loc v) q) m = subst (First n (there loc (loc v) q)) (sym em) (first_below_first n (there loc (loc v) q)) in
      record {
        within = F.within;
        found = λ l. and_true _ (q m) (subst (λ (z : ℕ). meets_in pairs (loc v) z ≡ true) (sym (eqb-true (loc m) (loc v) (and_left _ (q m) (F.found l)))) (meets_same pairs (loc v))) (and_right (eqb (loc m) (loc v)) (q m) (F.found l));
        here = number_first pairs loc v k e;
        rest = λ u l h. pending_first pairs k (loc v) (loc u) e (elim (meets_cases pairs (loc v) (loc u) (and_left _ (q u) h)) [
          | inl s ↦ true_or_false (and_true (eqb (loc u) (loc v)) (q u) (eq-eqb (loc u) (loc v) (sym s)) (and_right (meets_in pairs (loc v) (loc u)) (q u) h)) (F.skipped u l)
          | inr s ↦ pending_near pairs (loc v) (loc u) s
        ]);
      }

  pub leading_more : (k m x j y : ℕ) → Leading k m → k < pair_ends pairs → x ≡ first_below n (there loc (at pairs (other_end k)) q) → j ≡ next_at (at pairs) (pair_ends pairs) k → y ≡ min x m → Leading j y
  unfolding next_at
  leading_more k m x j y L l ex ej ey = let F : First n (there loc (at pairs (other_end k)) q) x = subst (First n (there loc (at pairs (other_end k)) q)) (sym ex) (first_below_first n (there loc (at pairs (other_end k)) q)) in
      by_cases (ltb x m)
      (λ c. subst (Leading j) (sym (ey ∙ min-first x m (omega (arith, ltb-true x m c)))) (record {
        within = F.within;
        found = λ h. and_true _ (q x) (ends_meet pairs k (loc v) (loc x) l (L.here l) (sym (eqb-true (loc x) _ (and_left _ (q x) (F.found h))))) (and_right (eqb (loc x) (at pairs (other_end k))) (q x) (F.found h));
        here = number_next pairs loc v k j ej (L.here l);
        rest = λ u h p. later F u h (omega (arith, h, ltb-true x m c)) p;
      }))
      (λ c. subst (Leading j) (sym (ey ∙ min-second x m (ltb-false x m c))) (record {
        within = L.within;
        found = L.found;
        here = number_next pairs loc v k j ej (L.here l);
        rest = λ u h p. later F u (omega (arith, h, ltb-false x m c)) h p;
      }))
    where
      later : First n (there loc (at pairs (other_end k)) q) x → (u : ℕ) → u < x → u < m → meeting u ≡ true → Pending pairs j (loc v) (loc u)
      later F u hx hm p = pending_next pairs k j (loc v) (loc u) (L.here l) ej (λ s. true_or_false (and_true (eqb (loc u) (at pairs (other_end k))) (q u) (eq-eqb (loc u) (at pairs (other_end k)) (sym s)) (and_right (meets_in pairs (loc v) (loc u)) (q u) p)) (F.skipped u hx)) (L.rest u hm p)

  pub leading_end : (k m : ℕ) → Leading k m → pair_ends pairs ≤ k → m ≡ first_below n meeting
  leading_end k m L e = sym (by_cases (ltb m n)
      (λ c. first_is meeting n m (ltb-true m n c) (L.found (ltb-true m n c)) none)
      (λ c. let z : m ≡ n = omega (arith, L.within, ltb-false m n c) in first_all meeting n (λ u h. none u (omega arith)) ∙ sym z))
    where
      none : (u : ℕ) → u < m → meeting u ≡ false
      none u h = by_cases (meeting u) (λ p. absurd (omega (arith, e, (L.rest u h p).onward, (L.rest u h p).within))) (λ p. p)

-- the next number is a later one
pub number_later : (loc : ℕ → ℕ) (n k j : ℕ) → k < n → j ≡ next_at loc n k → k < j
unfolding next_at
number_later loc n k j l e = let F : First n (λ u. ltb k u && eqb (loc u) (loc k)) j = subst (First n (λ u. ltb k u && eqb (loc u) (loc k))) (sym e) (first_below_first n (λ u. ltb k u && eqb (loc u) (loc k))) in
    by_cases (ltb j n)
    (λ c. ltb-true k j (and_left _ _ (F.found (ltb-true j n c))))
    (λ c. omega (arith, ltb-false j n c))

-- .. and no number in between is the same location
number_between : (loc : ℕ → ℕ) (n k j i : ℕ) → j ≡ next_at loc n k → i < j → loc i ≡ loc k → i ≤ k
unfolding next_at
number_between loc n k j i e l s = let F : First n (λ u. ltb k u && eqb (loc u) (loc k)) j = subst (First n (λ u. ltb k u && eqb (loc u) (loc k))) (sym e) (first_below_first n (λ u. ltb k u && eqb (loc u) (loc k))) in
    by_cases (ltb k i)
    (λ c. true_or_false (and_true (ltb k i) (eqb (loc i) (loc k)) c (eq-eqb (loc i) (loc k) s)) (F.skipped i l))
    (λ c. ltb-false k i c)

-- ---- where the walks at the near locations may begin

-- for the numbers before k or, where it was so from the start, for all
module _ (pairs : List ℕ) (loc : ℕ → ℕ) (n v : ℕ) (q : ℕ → Bool) (from : ℕ) where
  pub record Placing (k : ℕ) (places : List ℕ) : Type 0 where
    pub size : length places ≡ 2 * most_pairs
    pub begun : (j : ℕ) → j < pair_ends pairs → at pairs j ≡ loc v → (j < k) ⊎ (0 < from) → MayBegin loc n (at pairs (other_end j)) q (at places j)

  pub placing_start : (k : ℕ) (places : List ℕ) → length places ≡ 2 * most_pairs → (0 < from → Placed pairs loc n v q places) → (0 < pair_ends pairs → k ≡ first_where (at pairs) (pair_ends pairs) (loc v)) → Placing k places
  unfolding first_where
  placing_start k places s P e = record {
    size = s;
    begun = λ j l h w. elim w [
      | inl b ↦ absurd (omega (arith, b, e (omega (arith, l)), first_low (λ u. eqb (at pairs u) (loc v)) j (pair_ends pairs) (eq-eqb (at pairs j) (loc v) h)))
      | inr b ↦ (P b).begun j l h
    ];
  }

  -- the walk that goes by number k begins
  pub placing_at : (k : ℕ) (places starts : List ℕ) (start : ℕ) → Placing k places → k < pair_ends pairs → at pairs k ≡ loc v → at starts k ≡ first_where loc n (at pairs (other_end k)) → start ≡ pick (eqb from 0) (at starts k) (at places k)
      → MayBegin loc n (at pairs (other_end k)) q start
  placing_at k places starts start P l h e es = by_cases (eqb from 0)
      (λ c. begun_first loc n (at pairs (other_end k)) q start (es ∙ ap (λ (b : Bool). pick b (at starts k) (at places k)) c ∙ e))
      (λ c. let d : from ≢ 0 = eqb-false from 0 c in
      subst (MayBegin loc n (at pairs (other_end k)) q) (sym (es ∙ ap (λ (b : Bool). pick b (at starts k) (at places k)) c)) (P.begun k l h (inr (omega (arith, d)))))

  -- .. and has come to x
  pub placing_more : (k j x : ℕ) (places : List ℕ) → Placing k places → k < pair_ends pairs → at pairs k ≡ loc v → x ≡ first_below n (there loc (at pairs (other_end k)) q) → j ≡ next_at (at pairs) (pair_ends pairs) k → Placing j (set places k x)
  placing_more k j x places P l h ex ej = record {
    size = length-set places k x ∙ P.size;
    begun = λ i a s w. by_cases (eqb i k)
        (λ c. let z : i ≡ k = eqb-true i k c in
        subst (λ (y : ℕ). MayBegin loc n (at pairs (other_end y)) q (at (set places k x) y)) (sym z) (subst (MayBegin loc n (at pairs (other_end k)) q) (sym (get_or-set_same places k x 0 (omega (arith, l, P.size, count_within pairs)))) (begun_found loc n (at pairs (other_end k)) q x ex)))
        (λ c. let ne : i ≢ k = eqb-false i k c in
        subst (MayBegin loc n (at pairs (other_end i)) q) (sym (get_or-set_other places k i x 0 ne)) (P.begun i a s (elim w [
          | inl b ↦ inl (omega (arith, ne, number_between (at pairs) (pair_ends pairs) k j i ej b (s ∙ sym h)))
          | inr b ↦ inr b
        ])));
  }

  pub placing_end : (k : ℕ) (places : List ℕ) → Placing k places → pair_ends pairs ≤ k → Placed pairs loc n v q places
  placing_end k places P e = record { size = P.size; begun = λ j l h. P.begun j l h (inl (omega (arith, l, e))) }

-- ---- the same for every number, of the stops that are not before another

other_other : (k : ℕ) → other_end (other_end k) ≡ k
other_other k = elim (halves k) [
  | inl e ↦ ap (λ (z : ℕ). other_end (other_end z)) e ∙ ap other_end (other_even (k / 2)) ∙ other_odd (k / 2) ∙ sym e
  | inr e ↦ ap (λ (z : ℕ). other_end (other_end z)) e ∙ ap other_end (other_odd (k / 2)) ∙ other_even (k / 2) ∙ sym e
]

module _ (pairs : List ℕ) (loc : ℕ → ℕ) (n : ℕ) where
  pub ahead_start : (ends : ℕ) (heads after starts places₀ places : List ℕ) → ends ≡ pair_ends pairs → NumbersLinked pairs loc n heads after starts → ends ≤ length starts → length places₀ ≡ 2 * most_pairs → places ≡ take ends starts ++ drop ends places₀ → PlacedAhead pairs loc n 0 places
  ahead_start ends heads after starts places₀ places c N r s e = record {
    size = ap length e ∙ omega (arith, length-append (take ends starts) (drop ends places₀), length-take-le ends starts r, length-drop ends places₀, c, s, count_within pairs);
    begun = λ k l. begun_first loc n (at pairs (other_end k)) (leb 0) (at places k) (ap (λ (x : List ℕ). at x k) e ∙ get_or-append (take ends starts) (drop ends places₀) 0 k (omega (arith, length-take-le ends starts r, c, l)) ∙ get_or-take ends starts k 0 (omega (arith, c, l)) ∙ N.opposite k l);
  }

  pub ahead_later : (from to : ℕ) (places : List ℕ) → from ≤ to → PlacedAhead pairs loc n from places → PlacedAhead pairs loc n to places
  ahead_later from to places l A = record {
    size = A.size;
    begun = λ k h. begun_fewer loc n (at pairs (other_end k)) (leb from) (leb to) (at places k) (λ u e. lt-leb to u (omega (arith, l, leb-false from u e))) (A.begun k h);
  }

  pub ahead_go : (rising : Bool) (v : ℕ) (places : List ℕ) → rising ≡ true → PlacedAhead pairs loc n (pick rising v 0) places → PlacedAhead pairs loc n (v + 1) places
  ahead_go rising v places e A = ahead_later v (v + 1) places (omega arith) (subst (λ (b : Bool). PlacedAhead pairs loc n (pick b v 0) places) e A)

  pub ahead_from : (rising : Bool) (places : List ℕ) → PlacedAhead pairs loc n 0 places → PlacedAhead pairs loc n (pick rising 0 0) places
  ahead_from true places A = A
  ahead_from false places A = A

  -- whoever is before is of no interest
  pub ahead_placed : (from v : ℕ) (q : ℕ → Bool) (places : List ℕ) → ((u : ℕ) → u < from → q u ≡ false) → PlacedAhead pairs loc n from places → Placed pairs loc n v q places
  ahead_placed from v q places none A = record {
    size = A.size;
    begun = λ k h e. begun_fewer loc n (at pairs (other_end k)) (leb from) q (at places k) (λ u s. none u (leb-false from u s)) (A.begun k h);
  }

  -- the walks at the location of v, which number k is, begin after v
  pub ahead_more : (v k j x : ℕ) (places : List ℕ) → k < pair_ends pairs → at pairs k ≡ loc v → j ≡ other_end k → x ≡ next_at loc n v → PlacedAhead pairs loc n (v + 1) places → PlacedAhead pairs loc n (v + 1) (set places j x)
  ahead_more v k j x places l h ej ex A = record {
    size = length-set places j x ∙ A.size;
    begun = λ i a. by_cases (eqb i j)
        (λ c. let z : i ≡ j = eqb-true i j c in
        let o : other_end i ≡ k = ap other_end (z ∙ ej) ∙ other_other k in
        subst (MayBegin loc n (at pairs (other_end i)) (leb (v + 1))) (sym (ap (at (set places j x)) z ∙ get_or-set_same places j x 0 (omega (arith, z, a, A.size, count_within pairs)))) (begun_next loc n v (at pairs (other_end i)) (leb (v + 1)) x (sym (ap (at pairs) o ∙ h)) ex (λ u b. lt-leb (v + 1) u (omega (arith, b)))))
        (λ c. subst (MayBegin loc n (at pairs (other_end i)) (leb (v + 1))) (sym (get_or-set_other places j i x 0 (eqb-false i j c))) (A.begun i a));
  }

-- the links as they were filled
pub linked_filled : (pairs : List ℕ) (loc : ℕ → ℕ) (n c : ℕ) (heads₀ heads after₀ after starts₀ starts : List ℕ) → c ≡ pair_count pairs → n ≤ length heads₀ → 2 * c ≤ length after₀ → 2 * c ≤ length starts₀
    → heads ≡ fill_below n (λ v. first_where (at pairs) (2 * c) (loc v)) heads₀ → after ≡ fill_below (2 * c) (next_at (at pairs) (2 * c)) after₀ → starts ≡ fill_below (2 * c) (λ k. first_where loc n (at pairs (other_end k))) starts₀
    → NumbersLinked pairs loc n heads after starts
linked_filled pairs loc n c heads₀ heads after₀ after starts₀ starts e r s t eh ea es = record {
  head = λ v l z. fill_at (λ v. first_where (at pairs) (2 * c) (loc v)) heads₀ n heads eh r v l ∙ ap (λ (m : ℕ). first_where (at pairs) (2 * m) (loc v)) e;
  following = λ k l. fill_at (next_at (at pairs) (2 * c)) after₀ (2 * c) after ea s k (omega (arith, e, l)) ∙ ap (λ (m : ℕ). next_at (at pairs) (2 * m) k) e;
  opposite = λ k l. fill_at (λ k. first_where loc n (at pairs (other_end k))) starts₀ (2 * c) starts es t k (omega (arith, e, l));
}

-- without pairs there is nothing to link
pub linked_none : (pairs : List ℕ) (loc : ℕ → ℕ) (n : ℕ) (heads after starts : List ℕ) → pair_count pairs ≡ 0 → NumbersLinked pairs loc n heads after starts
linked_none pairs loc n heads after starts e = record {
  head = λ v l z. absurd (omega (arith, e, z));
  following = λ k l. absurd (omega (arith, e, l));
  opposite = λ k l. absurd (omega (arith, e, l));
}
