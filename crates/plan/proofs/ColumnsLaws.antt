-- The five columns as the building's loops write them: a turn of a row adds an entry or skips it, a turn of the outer loop adds a row. Assumes nothing.
use mathlib.Core.Path.{◌≡◌, refl, sym, ap, ◌∙◌, subst}
use Rattle.std.specs.Prelude.{Some, None}
use mathlib.Core.List.{List}
use mathlib.Core.Bool.{Bool, true, false, ◌&&◌}
use Prim.Native.Nat.{ℕ, ◌+◌, ◌≤◌, ◌<◌}
use native.Mathlib.Omega.{arith}
use lib.ListN.{length, set}
use lib.Dec.{ltb, leb, eqb}
use borrow.Author.Tests.{le-leb, lt-leb, leb-true, leb-false, ltb-true, ltb-false, eq-eqb, eqb-true}
use Rattle.below.specs.Below.{at, count_below, sum_below, picks, rows_below, first_below, First}
use Rattle.below.proofs.Tests.{by_cases, true_or_false, and_left, and_right}
use Rattle.below.proofs.Search.{first_below_first}
use Rattle.below.proofs.Gaps.{over_gap}
use Rattle.below.proofs.Count.{count_le, count_start, count_yes, count_no, count_past, count_miss}
use Rattle.below.proofs.Sum.{sum_past, sum-turn, sum_end}
use Rattle.below.proofs.Picks.{length-picks, length_rows, laid_none, laid-length, pick_store, pick_skip, row_store}
use Rattle.near.specs.Near.{meets_in}
use Rattle.plan.specs.Visits.{Visits, visits_of}
use Rattle.plan.specs.Dependencies.{later, later_from, follows, flag_of, dependency_total, counted_to, column}
use Rattle.plan.specs.Columns.{Columns, columns_with, written, row_written, rows_written, built_of, built_in}
use Rattle.plan.specs.Room.{ColumnsRoom}
use Rattle.plan.proofs.NearLists.{and_true}

columns_same : {fd fs sd ss fl fd' fs' sd' ss' fl' : List ℕ} → fd ≡ fd' → fs ≡ fs' → sd ≡ sd' → ss ≡ ss' → fl ≡ fl' → columns_with fd fs sd ss fl ≡ columns_with fd' fs' sd' ss' fl'
columns_same a b c d e = rw (a, b, c, d, e) refl

-- the columns keep their lengths
pub record SameLengths (c c₀ : Columns) : Type 0 where
  pub same_first_drones : length c.first_drones ≡ length c₀.first_drones
  pub same_first_stops : length c.first_stops ≡ length c₀.first_stops
  pub same_second_drones : length c.second_drones ≡ length c₀.second_drones
  pub same_second_stops : length c.second_stops ≡ length c₀.second_stops
  pub same_flags : length c.flags ≡ length c₀.flags

written_lengths : (S : Visits) (list : (ℕ → ℕ → ℕ) → List ℕ) (k : ℕ) (c c₀ : Columns) → c ≡ written S list k c₀ → SameLengths c c₀
written_lengths S list k c c₀ e =
    record {
      same_first_drones = laid-length _ _ _ _ (ap (λ (x : Columns). x.first_drones) e);
      same_first_stops = laid-length _ _ _ _ (ap (λ (x : Columns). x.first_stops) e);
      same_second_drones = laid-length _ _ _ _ (ap (λ (x : Columns). x.second_drones) e);
      same_second_stops = laid-length _ _ _ _ (ap (λ (x : Columns). x.second_stops) e);
      same_flags = laid-length _ _ _ _ (ap (λ (x : Columns). x.flags) e);
    }

room_in : (m m₀ : ℕ) (c c₀ : Columns) → SameLengths c c₀ → m ≤ m₀ → ColumnsRoom m₀ c₀ → ColumnsRoom m c
room_in m m₀ c c₀ s l r =
    record {
      has_first_drones = omega (arith, s.same_first_drones, r.has_first_drones);
      has_first_stops = omega (arith, s.same_first_stops, r.has_first_stops);
      has_second_drones = omega (arith, s.same_second_drones, r.has_second_drones);
      has_second_stops = omega (arith, s.same_second_stops, r.has_second_stops);
      has_flags = omega (arith, s.same_flags, r.has_flags);
      dependencies_fit = omega (arith, r.dependencies_fit);
    }

-- a row is no longer than the stops
pub row_few : (n : ℕ) (f : ℕ → Bool) (r : ℕ) → r ≡ count_below n f → r ≤ n
row_few n f r e = omega (arith, count_le n f)

-- ---- the cursor k, where those of a row that pass q are written from the entry c on
module _ (q : ℕ → Bool) (c : ℕ) where
  pub cursor_none : c ≡ c + count_below 0 q
  cursor_none = omega (arith, count_start q)

  module _ (w k : ℕ) (e : k ≡ c + count_below w q) where
    pub cursor_skip : q w ≡ false → k ≡ c + count_below (w + 1) q
    cursor_skip h = omega (arith, count_no w q h)

    pub cursor_take : q w ≡ true → k + 1 ≡ c + count_below (w + 1) q
    cursor_take h = omega (arith, count_yes w q h)

-- ---- the row of the first stop v, written from the entry c on
module _ (S : Visits) (v c : ℕ) (c₀ : Columns) where
  open S use {own, num, n}

  abbrev q : ℕ → Bool
  q = follows S v

  pub row_none : c₀ ≡ row_written S v 0 c c₀
  unfolding row_written picks
  row_none = columns_same (laid_none _ _) (laid_none _ _) (laid_none _ _) (laid_none _ _) (laid_none _ _)

  module _ (w : ℕ) (fd fs sd ss fl : List ℕ) (e : columns_with fd fs sd ss fl ≡ row_written S v w c c₀) where
    pub row_skip : q w ≡ false → columns_with fd fs sd ss fl ≡ row_written S v (w + 1) c c₀
    unfolding row_written
    row_skip h =
        columns_same
        (pick_skip q w _ _ _ _ (ap (λ (x : Columns). x.first_drones) e) h)
        (pick_skip q w _ _ _ _ (ap (λ (x : Columns). x.first_stops) e) h)
        (pick_skip q w _ _ _ _ (ap (λ (x : Columns). x.second_drones) e) h)
        (pick_skip q w _ _ _ _ (ap (λ (x : Columns). x.second_stops) e) h)
        (pick_skip q w _ _ _ _ (ap (λ (x : Columns). x.flags) e) h)

    pub row_lengths : SameLengths (columns_with fd fs sd ss fl) c₀
    unfolding row_written
    row_lengths = written_lengths S (λ f. picks w (follows S v) (f v)) c _ c₀ e

    module _ (k : ℕ) (ek : k ≡ c + count_below w q) where
      pub row_take : (flag : ℕ) → q w ≡ true → flag ≡ flag_of own num n v w
          → columns_with (set fd k (own v)) (set fs k (num v)) (set sd k (own w)) (set ss k (num w)) (set fl k flag) ≡ row_written S v (w + 1) c c₀
      unfolding row_written
      row_take flag h ef =
          columns_same
          (pick_store q w _ _ _ _ (ap (λ (x : Columns). x.first_drones) e) k _ h ek refl)
          (pick_store q w _ _ _ _ (ap (λ (x : Columns). x.first_stops) e) k _ h ek refl)
          (pick_store q w _ _ _ _ (ap (λ (x : Columns). x.second_drones) e) k _ h ek refl)
          (pick_store q w _ _ _ _ (ap (λ (x : Columns). x.second_stops) e) k _ h ek refl)
          (pick_store q w _ _ _ _ (ap (λ (x : Columns). x.flags) e) k _ h ek ef)

      -- where w follows v, the cursor is within the columns
      pub row_room : q w ≡ true → w < n → ColumnsRoom (c + count_below n q) c₀ → ColumnsRoom (k + 1) (columns_with fd fs sd ss fl)
      row_room h l r = room_in (k + 1) (c + count_below n q) _ c₀ row_lengths (omega (arith, count_past w n q l h)) r

-- ---- whether w, not before `from`, is later than v, test by test
module _ (own time : ℕ → ℕ) (from v w : ℕ) where
  pub later-before : w < from → later_from own time from v w ≡ false
  unfolding later_from
  later-before h = rw (lt-leb from w h) refl

  pub later-own : own v ≡ own w → later_from own time from v w ≡ false
  unfolding later_from later
  later-own e = by_cases (leb from w) (λ h. rw (h, eq-eqb (own v) (own w) e) refl) (λ h. rw h refl)

  pub later_from_lem : later_from own time from v w ≡ true → from ≤ w
  unfolding later_from
  later_from_lem h = leb-true from w (and_left (leb from w) _ h)

-- those of v's own drone are not
pub later_with : (own time : ℕ → ℕ) (from v w : ℕ) → eqb (own w) (own v) ≡ true → (u : ℕ) → own u ≡ own w → later_from own time from v u ≡ false
later_with own time from v w p u o = later-own own time from v u (sym (o ∙ eqb-true (own w) (own v) p))

-- w follows v where it is later and their locations meet
follows_split : (S : Visits) (v w : ℕ) → S.meets (S.loc v) (S.loc w) && later S.own S.time v w ≡ follows S v w
unfolding follows later
follows_split S v w = by_cases (S.meets (S.loc v) (S.loc w)) (λ e. rw e refl) (λ e. by_cases (eqb (S.own v) (S.own w)) (λ f. rw (e, f) refl) (λ f. rw (e, f) refl))

pub follows_meets : (S : Visits) (v w : ℕ) → follows S v w ≡ true → S.meets (S.loc v) (S.loc w) ≡ true
follows_meets S v w h = and_left _ (later S.own S.time v w) (follows_split S v w ∙ h)

module _ (S : Visits) (v c : ℕ) (c₀ : Columns) (k : ℕ) (fd fs sd ss fl : List ℕ) where
  -- the cursor and the columns with the dependencies of v whose second stop is below w
  abbrev pub RowTo : ℕ → Type 0
  RowTo w = (k ≡ c + count_below w (follows S v)) × (columns_with fd fs sd ss fl ≡ row_written S v w c c₀)

  row_over : (u : ℕ) → follows S v u ≡ false → RowTo u → RowTo (u + 1)
  row_over u none (a, b) = (cursor_skip (follows S v) c u k a none, row_skip S v c c₀ u fd fs sd ss fl b none)

-- ---- x is the first stop not before `from` that follows v
module _ (S : Visits) (v from x : ℕ) (e : x ≡ first_below S.n (λ u. S.meets (S.loc v) (S.loc u) && later_from S.own S.time from v u)) where
  open S use {own, loc, time, meets, n}

  F : First n (λ u. meets (loc v) (loc u) && later_from own time from v u) x
  F = subst (First n (λ u. meets (loc v) (loc u) && later_from own time from v u)) (sym e) (first_below_first n (λ u. meets (loc v) (loc u) && later_from own time from v u))

  pub next-within : x ≤ n
  next-within = F.within

  pub next_past : from ≤ n → from ≤ x
  next_past l = by_cases (ltb x n)
      (λ k. later_from_lem own time from v x (and_right (meets (loc v) (loc x)) _ (F.found (ltb-true x n k))))
      (λ k. omega (arith, l, ltb-false x n k))

  pub next-follows : x < n → follows S v x ≡ true
  unfolding later_from
  next-follows l = sym (follows_split S v x) ∙ and_true _ _ (and_left (meets (loc v) (loc x)) _ (F.found l)) (and_right (leb from x) _ (and_right (meets (loc v) (loc x)) _ (F.found l)))

  next-none : (u : ℕ) → from ≤ u → u < x → follows S v u ≡ false
  unfolding later_from
  next-none u a b = by_cases (follows S v u)
      (λ h. let s : meets (loc v) (loc u) && later own time v u ≡ true = follows_split S v u ∙ h in
      true_or_false (and_true _ _ (and_left (meets (loc v) (loc u)) _ s) (and_true _ _ (le-leb from u a) (and_right (meets (loc v) (loc u)) _ s))) (F.skipped u b))
      (λ h. h)

  -- what stays over those that do not follow
  next_gap : (C : ℕ → Type 0) → from ≤ n → ((u : ℕ) → follows S v u ≡ false → C u → C (u + 1)) → C from → C x
  next_gap C l h c = over_gap C from x (next_past l) (λ u a b. h u (next-none u a b)) c

  pub count_next : (k : ℕ) → from ≤ n → k ≡ count_below from (follows S v) → k ≡ count_below x (follows S v)
  count_next k l h = next_gap (λ z. k ≡ count_below z (follows S v)) l (λ u none c. count_miss (follows S v) u k c none) h

  pub row_next : (c : ℕ) (c₀ : Columns) (k : ℕ) (fd fs sd ss fl : List ℕ) → from ≤ n → RowTo S v c c₀ k fd fs sd ss fl from → RowTo S v c c₀ k fd fs sd ss fl x
  row_next c c₀ k fd fs sd ss fl l h = next_gap (RowTo S v c c₀ k fd fs sd ss fl) l (row_over S v c c₀ k fd fs sd ss fl) h

-- ---- a row, from one stop that follows v to the next
module _ (pairs owners numbers locations times : List ℕ) (n v : ℕ) where
  abbrev Row : Visits
  Row = visits_of (meets_in pairs) owners numbers locations times n

  -- x is the first stop from `from` on that follows v, as it is found
  abbrev pub NextIs : (from x : ℕ) → Type 0
  NextIs from x = x ≡ first_below n (λ u. meets_in pairs (at locations v) (at locations u) && later_from (at owners) (at times) from v u)

  pub next-later : (w x : ℕ) → w < n → NextIs (w + 1) x → w < x
  next-later w x l e = omega (arith, next_past Row v (w + 1) x e (omega arith))

  -- .. counted as far as w
  abbrev pub Counting : (c w : ℕ) → Type 0
  Counting c w = (w ≤ n) × (c ≡ count_below w (follows Row v)) × (w < n → follows Row v w ≡ true)

  pub counting_start : (x : ℕ) → NextIs 0 x → Counting 0 x
  counting_start x e = (next-within Row v 0 x e, count_next Row v 0 x e 0 (omega arith) (sym (count_start (follows Row v))), next-follows Row v 0 x e)

  pub counting_more : (c w x : ℕ) → Counting c w → w < n → NextIs (w + 1) x → Counting (c + 1) x
  counting_more c w x C l e = (next-within Row v (w + 1) x e, count_next Row v (w + 1) x e (c + 1) (omega arith) (omega (arith, C.1, count_yes w (follows Row v) (C.2 l))), next-follows Row v (w + 1) x e)

  -- .. and written
  module _ (c : ℕ) (c₀ : Columns) (k : ℕ) (fd fs sd ss fl : List ℕ) where
    abbrev pub Rowing : ℕ → Type 0
    Rowing w = (w ≤ n) × RowTo Row v c c₀ k fd fs sd ss fl w × (w < n → follows Row v w ≡ true)

    pub rowing_start : (x : ℕ) → RowTo Row v c c₀ k fd fs sd ss fl 0 → NextIs 0 x → Rowing x
    rowing_start x R e = (next-within Row v 0 x e, row_next Row v 0 x e c c₀ k fd fs sd ss fl (omega arith) R, next-follows Row v 0 x e)

    pub rowing_more : (w x : ℕ) → w < n → RowTo Row v c c₀ k fd fs sd ss fl (w + 1) → NextIs (w + 1) x → Rowing x
    rowing_more w x l R e = (next-within Row v (w + 1) x e, row_next Row v (w + 1) x e c c₀ k fd fs sd ss fl (omega arith) R, next-follows Row v (w + 1) x e)

-- ---- the rows of all first stops
module _ (S : Visits) (c₀ : Columns) where
  open S use {own, num, n}

  abbrev in_row : ℕ → ℕ
  in_row u = count_below n (follows S u)

  pub rows_none : c₀ ≡ rows_written S 0 c₀
  unfolding rows_written rows_below
  rows_none = columns_same (laid_none _ _) (laid_none _ _) (laid_none _ _) (laid_none _ _) (laid_none _ _)

  module _ (v : ℕ) (c : Columns) (e : c ≡ rows_written S v c₀) where
    pub rows_lengths : SameLengths c c₀
    unfolding rows_written
    rows_lengths = written_lengths S (λ f. rows_below v (λ u. picks n (follows S u) (f u))) 0 c c₀ e

    module _ (k : ℕ) (ek : k ≡ sum_below v in_row) where
      -- the cursor is the length of what was written
      at_end_lem : (f : ℕ → ℕ → ℕ) → k ≡ length (rows_below v (λ u. picks n (follows S u) (f u)))
      at_end_lem f = ek ∙ sym (length_rows _ in_row (λ u. length-picks _ (f u) n) v)

      pub rows_more : (fd fs sd ss fl : List ℕ) → columns_with fd fs sd ss fl ≡ row_written S v n k c → columns_with fd fs sd ss fl ≡ rows_written S (v + 1) c₀
      unfolding row_written rows_written
      rows_more fd fs sd ss fl r =
          columns_same
          (row_store _ _ _ _ _ _ (ap (λ (x : Columns). x.first_drones) e) (at_end_lem (λ v w. own v)) (ap (λ (x : Columns). x.first_drones) r))
          (row_store _ _ _ _ _ _ (ap (λ (x : Columns). x.first_stops) e) (at_end_lem (λ v w. num v)) (ap (λ (x : Columns). x.first_stops) r))
          (row_store _ _ _ _ _ _ (ap (λ (x : Columns). x.second_drones) e) (at_end_lem (λ v w. own w)) (ap (λ (x : Columns). x.second_drones) r))
          (row_store _ _ _ _ _ _ (ap (λ (x : Columns). x.second_stops) e) (at_end_lem (λ v w. num w)) (ap (λ (x : Columns). x.second_stops) r))
          (row_store _ _ _ _ _ _ (ap (λ (x : Columns). x.flags) e) (at_end_lem (flag_of own num n)) (ap (λ (x : Columns). x.flags) r))

      pub rows_cursor : (k' : ℕ) → k' ≡ k + in_row v → k' ≡ sum_below (v + 1) in_row
      rows_cursor k' r = r ∙ sum-turn in_row v k (in_row v) ek refl

      -- the row of v is within the columns
      pub rows_room : v < n → ColumnsRoom (sum_below n in_row) c₀ → ColumnsRoom (k + in_row v) c
      rows_room l r = room_in (k + in_row v) (sum_below n in_row) c c₀ rows_lengths (omega (arith, sum_past v n in_row l)) r

-- ---- the count, which stops where it passes the limit

-- as a loop over v counts: k is the sum so far, r the summand of v
pub counted-past : (limit v n k r : ℕ) (f : ℕ → ℕ) → v < n → k ≡ sum_below v f → r ≡ f v → limit < k + r → limit + 1 ≡ counted_to limit (sum_below n f)
unfolding counted_to
counted-past limit v n k r f l e s h = rw (lt-leb (sum_below n f) limit (omega (arith, sum_past v n f l))) refl

pub counted_end : (limit v n k : ℕ) (f : ℕ → ℕ) → v ≤ n → n ≤ v → k ≡ sum_below v f → k ≤ limit → k ≡ counted_to limit (sum_below n f)
unfolding counted_to
counted_end limit v n k f a b e h = let q : k ≡ sum_below n f = sum_end f v k n a b e in rw (← q, le-leb k limit h) refl

module _ (limit total m : ℕ) (e : m ≡ counted_to limit total) where
  counted-more : limit < m → limit < total
  unfolding counted_to
  counted-more h = by_cases (leb total limit) (λ k. absurd (omega (arith, rw k at e, leb-true total limit k))) (λ k. leb-false total limit k)

  counted_all : m ≤ limit → m ≡ total
  unfolding counted_to
  counted_all h = by_cases (leb total limit) (λ k. rw k at e) (λ k. absurd (omega (arith, rw k at e)))

-- ---- the building's two answers; m is the count
module _ (limit : ℕ) (S : Visits) (m : ℕ) (c₀ : Columns) (e : m ≡ counted_to limit (dependency_total S)) where
  pub built-refused : limit < m → (None ≡ built_of limit S) × (c₀ ≡ built_in limit S c₀)
  unfolding built_of built_in
  built-refused h = let l : limit < dependency_total S = counted-more limit (dependency_total S) m e h in (rw (lt-leb (dependency_total S) limit l) refl, rw (lt-leb (dependency_total S) limit l) refl)

  -- dependencies that are no more than the limit have room where that many have
  pub total-room : m ≤ limit → ColumnsRoom limit c₀ → ColumnsRoom (dependency_total S) c₀
  total-room h r = room_in (dependency_total S) limit c₀ c₀ (record { same_first_drones = refl; same_first_stops = refl; same_second_drones = refl; same_second_stops = refl; same_flags = refl }) (omega (arith, counted_all limit (dependency_total S) m e h)) r

  pub built_done : (c : Columns) → m ≤ limit → c ≡ rows_written S S.n c₀ → (Some m ≡ built_of limit S) × (c ≡ built_in limit S c₀)
  unfolding built_of built_in rows_written
  built_done c h r = let q : m ≡ dependency_total S = counted_all limit (dependency_total S) m e h in (rw (← q, le-leb m limit h) refl, rw (← q, le-leb m limit h) r)

-- what the columns hold where the dependencies fit
pub built-taken : (limit : ℕ) (S : Visits) (c c₀ : Columns) → dependency_total S ≤ limit → c ≡ built_in limit S c₀ → c ≡ written S (column S) 0 c₀
unfolding built_in
built-taken limit S c c₀ h e = rw (le-leb (dependency_total S) limit h) at e
