-- The meetings are counted by a histogram over the locations: for each stop, the stops of earlier drones at its location. Assumes nothing.
use mathlib.Core.Path.{◌≡◌, refl, sym, ap, subst, ◌∙◌}
use mathlib.Core.Logic.{◌≢◌}
use mathlib.Core.List.{List}
use mathlib.Core.Bool.{Bool, false, not, ◌&&◌, ◌||◌}
use Prim.Native.Nat.{ℕ, ◌+◌, ◌-◌, ◌*◌, ◌≤◌, ◌<◌}
use Rattle.std.specs.Prelude.{min}
use borrow.Rule.Slice.PartMut.{mid_of}
use Rattle.std.proofs.lemmas.List.{length-take, get_or-take, get_or-drop}
use native.Mathlib.Omega.{arith}
use native.Mathlib.Numerals.{add-one}
use lib.Dec.{eqb}
use lib.ListN.{length, get_or, set, drop, length-set}
use lib.Seq.{get_or-set_same, get_or-set_other}
use borrow.Author.Tests.{eqb-true, eqb-false, eq-eqb, ne_eqb}
use Rattle.below.specs.Below.{at, pick, count_below, sum_below, fill_below}
use Rattle.below.proofs.Tests.{by_cases}
use Rattle.below.proofs.Count.{count_le, count_yes, count_no}
use Rattle.below.proofs.Fill.{fill_length}
use Rattle.below.proofs.Same.{count_ext}
use Rattle.below.proofs.Gaps.{over_gap}
use Rattle.below.proofs.Sum.{sum_bound, sum_ext, sum_plus, count_sum}
use Rattle.tables.specs.Limits.{Limits}
use Rattle.plan.specs.Visits.{same_location}
use Rattle.plan.specs.Sharing.{first_at}
use Rattle.plan.proofs.SharingLaws.{first_same, firsts_back}
use Rattle.meetings.specs.Meetings.{meeting_visits, meeting_total}
use Rattle.meetings.specs.Histogram.{Indexed, Tally, Run}

-- where a count ends: the later ones do not pass
pub count_cut : (lo w : ℕ) (f g : ℕ → Bool) → lo ≤ w → ((v : ℕ) → v < lo → f v ≡ g v) → ((v : ℕ) → lo ≤ v → v < w → f v ≡ false) → count_below w f ≡ count_below lo g
count_cut lo w f g l same none = over_gap (λ (k : ℕ). count_below k f ≡ count_below lo g) lo w l (λ u a b e. count_no u f (none u a b) ∙ e) (count_ext lo f g same)

module _ {L : Limits} where
  -- the first stops as they were filled
  pub indexed_filled : (loc : ℕ → ℕ) (n : ℕ) (first₀ first : List ℕ) → length first₀ ≡ L.stops → n ≤ L.stops → first ≡ fill_below n (first_at loc) first₀ → Indexed L first n
  indexed_filled loc n first₀ first size few e = record { has_firsts = omega (arith, fill_length (first_at loc) first₀ n first e); few = few; within = λ v l. omega (arith, firsts_back loc n first₀ first (omega arith) e v l) }

  -- a stop's entry is within the histogram
  pub index_in : (firsts counts : List ℕ) (n lo v : ℕ) → Indexed L firsts n → Tally L firsts counts n lo → v < n → at firsts v < length counts
  index_in firsts counts n lo v i t l = omega (arith, i.within v l, t.size)

  -- every entry is zero
  pub tally_none : (firsts counts : List ℕ) (n : ℕ) → length counts ≡ L.stops → ((f : ℕ) → at counts f ≡ 0) → Tally L firsts counts n 0
  unfolding count_below
  tally_none firsts counts n e z = record { size = e; here = λ f l. z f }

  -- one more stop, with its entry raised
  pub tally_more : (firsts counts : List ℕ) (n v f x : ℕ) → Tally L firsts counts n v → f < length counts → f ≡ at firsts v → x ≡ at counts f + 1 → Tally L firsts (set counts f x) n (v + 1)
  tally_more firsts counts n v f x t b e q =
      record {
        size = length-set counts f x ∙ t.size;
        here = λ g h. by_cases (eqb g f)
            (λ s. let z : g ≡ f = eqb-true g f s in
            rw z (get_or-set_same counts f x 0 b ∙ q ∙ sym (count_yes v (λ u. eqb (at firsts u) f) (eq-eqb _ _ (sym e)) ∙ omega (arith, t.here f (omega (arith, t.size))))))
            (λ s. let z : g ≢ f = eqb-false g f s in
            get_or-set_other counts f g x 0 z ∙ t.here g h ∙ sym (count_no v (λ u. eqb (at firsts u) g) (ne_eqb _ _ (λ y. z (sym y ∙ sym e)))));
      }

  -- the same after some more from lo on
  pub tally_on : (firsts counts : List ℕ) (n lo i f : ℕ) → Tally L firsts counts n (lo + i) → f < length counts → f ≡ at firsts (lo + i) → Tally L firsts (set counts f (at counts f + 1)) n (lo + (i + 1))
  tally_on firsts counts n lo i f t b e = let z : lo + i + 1 ≡ lo + (i + 1) = omega arith in subst (Tally L firsts (set counts f (at counts f + 1)) n) z (tally_more firsts counts n (lo + i) f _ t b e refl)

  pub tally_bound : (firsts counts : List ℕ) (n lo v : ℕ) → Indexed L firsts n → Tally L firsts counts n lo → v < n → at counts (at firsts v) ≤ lo
  tally_bound firsts counts n lo v i t b = omega (arith, t.here (at firsts v) (i.within v b), count_le lo (λ u. eqb (at firsts u) (at firsts v)))

-- a part of a list
pub part_at : (l : List ℕ) (lo hi i : ℕ) → hi ≤ length l → i < length (mid_of lo (hi - lo) l) → (lo + i < hi) × (get_or (mid_of lo (hi - lo) l) i 0 ≡ at l (lo + i))
part_at l lo hi i h k =
    let size : length (mid_of lo (hi - lo) l) ≡ min (hi - lo) (length (drop lo l)) = length-take (hi - lo) (drop lo l) in
    let b : lo + i < hi = omega (arith, k, size) in
    (b, get_or-take (hi - lo) (drop lo l) i 0 (omega (arith, b)) ∙ get_or-drop lo l i 0)

pub run_none : (own : ℕ → ℕ) → Run own 0 0
run_none own = record { starts = omega arith; lower = λ v l. absurd (omega arith); alike = λ v a b. absurd (omega arith) }

-- a count over the stops of earlier drones is one over the stops before w that meet it
pub run_count : (meets : ℕ → ℕ → Bool) (own loc : ℕ → ℕ) (lo w : ℕ) → Run own lo (w + 1) → lo ≤ w → count_below lo (λ v. meets (loc v) (loc w)) ≡ count_below w (λ v. meeting_visits meets own loc v w)
unfolding meeting_visits
run_count meets own loc lo w r l = sym (count_cut lo w (λ v. meeting_visits meets own loc v w) (λ v. meets (loc v) (loc w)) l
    (λ v k. rw (ne_eqb (own v) (own w) (λ e. omega (arith, r.lower v k, r.alike w l (omega arith)))) refl)
    (λ v a k. rw (eq-eqb (own v) (own w) (r.alike v a (omega arith) ∙ sym (r.alike w l (omega arith)))) refl))

-- the entry of w is the number of stops before w that are at its location
pub run_meetings : {L : Limits} (owners firsts counts : List ℕ) (n lo w : ℕ) → Indexed L firsts n → Run (at owners) lo (w + 1) → lo ≤ w → Tally L firsts counts n lo → w < n
    → at counts (at firsts w) ≡ count_below w (λ v. meeting_visits same_location (at owners) (at firsts) v w)
run_meetings owners firsts counts n lo w i r l t b = t.here (at firsts w) (i.within w b) ∙ run_count same_location (at owners) (at firsts) lo w r l

-- the running sum
pub meetings_none : (meets : ℕ → ℕ → Bool) (own loc : ℕ → ℕ) → 0 ≡ meeting_total meets own loc 0
unfolding meeting_total sum_below
meetings_none meets own loc = refl

pub meetings_more : (meets : ℕ → ℕ → Bool) (own loc : ℕ → ℕ) (w k x : ℕ) → k ≡ meeting_total meets own loc w → x ≡ count_below w (λ v. meeting_visits meets own loc v w) → k + x ≡ meeting_total meets own loc (w + 1)
unfolding meeting_total sum_below
meetings_more meets own loc w k x e q = rw add-one (omega arith)

pub meetings_bound : (meets : ℕ → ℕ → Bool) (own loc : ℕ → ℕ) (w b : ℕ) → w ≤ b → meeting_total meets own loc w ≤ w * b
unfolding meeting_total
meetings_bound meets own loc w b l = sum_bound w (λ w. count_below w (λ v. meeting_visits meets own loc v w)) b (λ u k. omega (arith, count_le u (λ v. meeting_visits meets own loc v u)))

-- stops at one location are those with one first stop
pub meetings_shared : (own loc first : ℕ → ℕ) (n : ℕ) → ((v : ℕ) → v < n → first v ≡ first_at loc v) → meeting_total same_location own first n ≡ meeting_total same_location own loc n
unfolding meeting_total meeting_visits
meetings_shared own loc first n e = sum_ext n _ _ (λ w l. count_ext w _ _ (λ v k. ap (λ (b : Bool). not (eqb (own v) (own w)) && b) (same v w (omega arith) l)))
  where
    same : (v w : ℕ) → v < n → w < n → eqb (first v) (first w) ≡ eqb (loc v) (loc w)
    same v w k l = rw (e v k, e w l) (first_same loc v w)

meeting_pair : (meets near : ℕ → ℕ → Bool) (own loc : ℕ → ℕ) (v w : ℕ) → ((a b : ℕ) → meets a b ≡ eqb a b || near a b) → ((a : ℕ) → near a a ≡ false)
    → pick (meeting_visits meets own loc v w) 1 0 ≡ pick (meeting_visits same_location own loc v w) 1 0 + pick (meeting_visits near own loc v w) 1 0
unfolding meeting_visits
meeting_pair meets near own loc v w split never = rw (split (loc v) (loc w)) (by_cases (eqb (own v) (own w))
    (λ o. rw o refl)
    (λ o. by_cases (eqb (loc v) (loc w))
    (λ e. let z : loc v ≡ loc w = eqb-true _ _ e in rw (o, e, z, never (loc w)) refl)
    (λ e. rw (o, e) (omega arith))))

-- what meets is equal or near, and never both: the meetings are those at one location and those at near ones
pub meetings_split : (meets near : ℕ → ℕ → Bool) (own loc : ℕ → ℕ) (n : ℕ) → ((a b : ℕ) → meets a b ≡ eqb a b || near a b) → ((a : ℕ) → near a a ≡ false)
    → meeting_total same_location own loc n + meeting_total near own loc n ≡ meeting_total meets own loc n
unfolding meeting_total
meetings_split meets near own loc n split never = sym (sum_ext n _ _ (λ w l. each w) ∙ sum_plus n _ _)
  where
    pair : (v w : ℕ) → pick (meeting_visits meets own loc v w) 1 0 ≡ pick (meeting_visits same_location own loc v w) 1 0 + pick (meeting_visits near own loc v w) 1 0
    pair v w = meeting_pair meets near own loc v w split never

    each : (w : ℕ) → count_below w (λ v. meeting_visits meets own loc v w) ≡ count_below w (λ v. meeting_visits same_location own loc v w) + count_below w (λ v. meeting_visits near own loc v w)
    each w = count_sum w _ ∙ sum_ext w _ _ (λ v k. pair v w) ∙ sum_plus w _ _ ∙ sym (ap (λ (k : ℕ). k + count_below w (λ v. meeting_visits near own loc v w)) (count_sum w (λ v. meeting_visits same_location own loc v w)) ∙ ap (λ (k : ℕ). sum_below w (λ v. pick (meeting_visits same_location own loc v w) 1 0) + k) (count_sum w (λ v. meeting_visits near own loc v w)))
