-- The parts of the sound test in the order in which the code asks them: a law for each return. Assumes nothing.
use mathlib.Core.Path.{◌≡◌, refl, sym, ap, ◌∙◌, subst}
use mathlib.Core.Logic.{◌≢◌}
use mathlib.Core.List.{List}
use mathlib.Core.Bool.{Bool, true, false, not, cond, ◌&&◌, ◌||◌}
use Prim.Native.Nat.{ℕ, zero, suc, ◌+◌, ◌*◌, ◌/◌, ◌≤◌, ◌<◌}
use native.Mathlib.Nat.{le_antisymm}
use native.Mathlib.Numerals.{add-one}
use native.Mathlib.Omega.{arith}
use lib.Dec.{ltb, eqb}
use lib.ListN.{length, get_or}
use borrow.Author.Tests.{ltb-true, ltb-false, eqb-true, eqb-false, le-ltb, le-leb, lt-leb, ne_eqb}
use Rattle.below.specs.Below.{all_below, first_below, fill_below, sum_below, at, pick}
use Rattle.below.proofs.Tests.{by_cases, and_left, and_right}
use Rattle.below.proofs.Every.{all_below-at, all_below_all, all_miss}
use Rattle.below.proofs.Sum.{sum_ext}
use Rattle.tables.specs.Limits.{Limits}
use Rattle.tables.specs.Flags.{turned_bit, fixed_bit, only_two_bits}
use Rattle.lines.specs.Names.{is_name_byte}
use Rattle.plan.specs.Visits.{Visits}
use Rattle.plan.specs.Check.{fault_at}
use Rattle.plan.specs.Answers.{stop_fault_number}
use Rattle.plan.specs.declared.check.StopFault.{StopFault}
use Rattle.plan.specs.declared.check.StopFault.TheVariants as fault
use Rattle.std.specs.Prelude.{Option, Some, None, is_some}
use Rattle.sound.specs.Sound.{passes_from, name_length, name_sound, same_name, names_differ}
use Rattle.std.specs.Int.{from_bool}
use Rattle.std.proofs.lemmas.List.{get_or_default}
use Rattle.sound.specs.Parts.{name_sum, stop_sound, stop_in_lem, flag_right, fixed_at, record_right}

-- ---- names

module _ (L : Limits) (names : List ℕ) (d row : ℕ) (e : row ≡ d * L.name) where
  pub length_is : first_below L.name (λ i. eqb (at names (row + i)) 0) ≡ name_length L names d
  unfolding name_length
  length_is = rw e refl

  -- byte i of a row with `used` bytes of name
  abbrev pub byte_sound : ℕ → ℕ → Bool
  byte_sound used i = cond (ltb i used) (is_name_byte (at names (row + i))) (eqb (at names (row + i)) 0)

  pub name_bytes_lem : (used : ℕ) → used ≡ name_length L names d → 1 ≤ used → all_below L.name (byte_sound used) ≡ name_sound L names d
  unfolding name_sound
  name_bytes_lem used q h = rw (← q, le-leb 1 used h, e) refl

  pub same_is : (c other : ℕ) → other ≡ c * L.name → all_below L.name (λ i. eqb (at names (row + i)) (at names (other + i))) ≡ same_name L names d c
  unfolding same_name
  same_is c other q = rw (e, q) refl

  pub key_is : sum_below L.name (λ i. at names (row + i)) ≡ name_sum L names d
  unfolding name_sum
  key_is = rw e refl

-- equal names have equal sums
pub keys_differ : (L : Limits) (names : List ℕ) (d e x y : ℕ) → x ≡ name_sum L names d → y ≡ name_sum L names e → x ≢ y → false ≡ same_name L names d e
unfolding name_sum same_name
keys_differ L names d e x y p q ne = by_cases (same_name L names d e)
    (λ h. absurd (ne (p ∙ sum_ext L.name _ _ (λ i l. eqb-true _ _ (all_below-at L.name _ h i l)) ∙ sym q)))
    (λ h. sym h)

pub sum-start : (f : ℕ → ℕ) → sum_below 0 f ≡ 0
unfolding sum_below
sum-start f = refl

pub sum_more : (f : ℕ → ℕ) (i s x : ℕ) → s ≡ sum_below i f → x ≡ f i → s + x ≡ sum_below (i + 1) f
unfolding sum_below
sum_more f i s x e q = rw (add-one, e, q) refl

pub sum_end : (f : ℕ → ℕ) (i n : ℕ) {s : ℕ} → i ≤ n → n ≤ i → s ≡ sum_below i f → s ≡ sum_below n f
sum_end f i n {s} a b e = subst (λ (k : ℕ). s ≡ sum_below k f) (le_antisymm a b) e

pub name_empty : (L : Limits) (names : List ℕ) (d used : ℕ) → used ≡ name_length L names d → used < 1 → false ≡ name_sound L names d
unfolding name_sound
name_empty L names d used e h = rw (← e, lt-leb 1 used h) refl

pub differ_is : (L : Limits) (names : List ℕ) (n : ℕ) → all_below n (λ d. all_below d (λ e. not (same_name L names d e))) ≡ names_differ L names n
unfolding names_differ
differ_is L names n = refl

-- ---- a stop by itself

-- a stop without a fault
pub fault_none : (f : Option StopFault) (r : Bool) → is_some f ≡ not r → r ≡ eqb (stop_fault_number f) 0
fault_none None true h = refl
fault_none None false h = h
fault_none (Some fault.StartsLate) true h = h
fault_none (Some fault.StartsLate) false h = refl
fault_none (Some fault.NotRising) true h = h
fault_none (Some fault.NotRising) false h = refl
fault_none (Some fault.LegTooLong) true h = h
fault_none (Some fault.LegTooLong) false h = refl
fault_none (Some fault.SameLocation) true h = h
fault_none (Some fault.SameLocation) false h = refl

-- the stops' drones are not read
pub stops_any : (L : Limits) (form : ℕ) (S : Visits) (meets : ℕ → ℕ → Bool) (leg own : ℕ → ℕ) (m : ℕ) → all_below m (stop_sound L form (record { own = own; num = S.num; loc = S.loc; time = S.time; meets = meets; n = S.n }) leg) ≡ all_below m (stop_sound L form S leg)
unfolding stop_sound fault_at
stops_any L form S meets leg own m = refl

-- ---- records

and_swap : (a b x y : Bool) → ((a && b) && (x && y)) ≡ ((a && x) && (b && y))
and_swap true true x y = refl
and_swap true false true y = refl
and_swap true false false y = refl
and_swap false b x y = refl

-- two tests of every index, in one pass
pub all_and : (n : ℕ) (f g : ℕ → Bool) → all_below n (λ k. f k && g k) ≡ (all_below n f && all_below n g)
unfolding all_below
all_and zero f g = refl
all_and (suc n) f g = rw (all_and n f g) (and_swap (all_below n f) (all_below n g) (f n) (g n))

module _ (drones : ℕ) (counts : List ℕ) (ds ss : ℕ → ℕ) (k : ℕ) (h : stop_in_lem drones counts ds ss k ≡ true) where
  pub stop_drone : ds k < drones
  unfolding stop_in_lem
  stop_drone = ltb-true _ _ (and_left _ _ h)

  pub stop_number_lem : ss k < at counts (ds k)
  unfolding stop_in_lem
  stop_number_lem = ltb-true _ _ (and_right (ltb (ds k) drones) _ h)

module _ (last first_stop second second_stop : ℕ → ℕ) (k : ℕ) where
  pub fixed_is : (eqb (first_stop k) 0 || eqb (second_stop k) (last (second k))) ≡ fixed_at last first_stop second second_stop k
  unfolding fixed_at
  fixed_is = refl

below_four : (C : ℕ → Type 0) → C 0 → C 1 → C 2 → C 3 → (f : ℕ) → f < 4 → C f
below_four C a b c d zero l = a
below_four C a b c d (suc zero) l = b
below_four C a b c d (suc (suc zero)) l = c
below_four C a b c d (suc (suc (suc zero))) l = d
below_four C a b c d (suc (suc (suc (suc f)))) l = absurd (omega arith)

-- a flag byte by its bits
pub flag_bits : (b : Bool) (f : ℕ) → only_two_bits f ≡ true → flag_right b f ≡ cond b (fixed_bit f && not (turned_bit f)) (not (fixed_bit f))
unfolding only_two_bits flag_right fixed_bit turned_bit
flag_bits b f h = below_four (λ f. flag_right b f ≡ cond b (fixed_bit f && not (turned_bit f)) (not (fixed_bit f)))
    (by_cases b (λ e. rw e refl) (λ e. rw e refl))
    (by_cases b (λ e. rw e refl) (λ e. rw e refl))
    (by_cases b (λ e. rw e refl) (λ e. rw e refl))
    (by_cases b (λ e. rw e refl) (λ e. rw e refl))
    f (ltb-true f 4 h)

pub flag_more : (b : Bool) (f : ℕ) → only_two_bits f ≡ false → false ≡ flag_right b f
unfolding only_two_bits flag_right
flag_more b f h = rw (ne_eqb (f / 2) (pick b 1 0) (by_cases b (λ e. rw e (λ q. omega (arith, ltb-false f 4 h))) (λ e. rw e (λ q. omega (arith, ltb-false f 4 h))))) refl

module _ (b : Bool) (f : ℕ) (two : only_two_bits f ≡ true) where
  pub flag_unmarked : (x : Bool) → b ≡ true → x ≡ fixed_bit f → x ≡ false → x ≡ flag_right b f
  flag_unmarked x e h q = rw (flag_bits b f two, e, ← h, q) refl

  pub flag_marked : (t : Bool) → b ≡ true → fixed_bit f ≡ true → t ≡ turned_bit f → not t ≡ flag_right b f
  flag_marked t e h q = rw (flag_bits b f two, e, h, q) refl

  pub flag_free : (x : Bool) → b ≡ false → x ≡ fixed_bit f → not x ≡ flag_right b f
  flag_free x e h = rw (flag_bits b f two, e, h) refl

-- every record by its tests
module _ (drones : ℕ) (counts lasts first_drones first_stops second_drones second_stops flags : List ℕ) where
  pub records_all : (m : ℕ) → all_below m (record_right drones counts lasts first_drones first_stops second_drones second_stops flags)
      ≡ (all_below m (stop_in_lem drones counts (at first_drones) (at first_stops))
      && (all_below m (stop_in_lem drones counts (at second_drones) (at second_stops))
      && all_below m (λ k. flag_right (fixed_at (at lasts) (at first_stops) (at second_drones) (at second_stops) k) (at flags k))))
  unfolding record_right
  records_all m = all_and m _ _ ∙ ap (λ (b : Bool). all_below m (stop_in_lem drones counts (at first_drones) (at first_stops)) && b) (all_and m _ _)

-- ---- unused entries

bit_is : (b : Bool) → from_bool b ≡ pick b 1 0
bit_is true = refl
bit_is false = refl

module _ {A : Type 0} (test : A → Bool) (x : A) (used full : ℕ) (l : List A) where
  abbrev fits_at : ℕ → Bool
  fits_at i = ltb i used || test (get_or l i x)

  -- no entry below i is used and fails; i may be past the full size
  abbrev FitTo : ℕ → Type 0
  FitTo i = (j : ℕ) → j < i → j < full → fits_at j ≡ true

  fit_more : (i : ℕ) → used ≤ i → FitTo i → test (get_or l i x) ≡ true → FitTo (i + 1)
  fit_more i h z e j k f = by_cases (ltb j i)
      (λ q. z j (ltb-true j i q) f)
      (λ q. let same : j ≡ i = omega (arith, ltb-false j i q) in rw (same, le-ltb i used h, e) refl)

  fit_end : (i : ℕ) → full ≤ i → FitTo i → true ≡ passes_from test x used full l
  fit_end i h z = sym (all_below_all full fits_at (λ j k. z j (omega arith) k))

  fit_not : (i : ℕ) → used ≤ i → i < full → test (get_or l i x) ≡ false → false ≡ passes_from test x used full l
  fit_not i h k e = all_miss fits_at i full k (rw (le-ltb i used h, e) refl)

  -- `total` of the entries from `used` to i fail
  pub record Failing (i total : ℕ) : Type 0 where
    pub none : total ≡ 0 → FitTo i
    pub some : total ≢ 0 → false ≡ passes_from test x used full l
    pub small : total + used ≤ i

  pub failing_more : (i total y : ℕ) (b : Bool) (z : A) → i < full → full ≤ length l → Failing i total → z ≡ get_or l i z → b ≡ not (test z) → y ≡ from_bool b → Failing (i + 1) (total + y)
  failing_more i total y b z k h c ez et eo =
      let eb : b ≡ not (test (get_or l i x)) = et ∙ ap (λ (w : A). not (test w)) (ez ∙ get_or_default l i z x (omega arith)) in
      let ey : y ≡ pick b 1 0 = eo ∙ bit_is b in
      by_cases (test (get_or l i x))
      (λ e. let n₀ : y ≡ 0 = ey ∙ rw (eb, e) refl in record {
        none = λ h. fit_more i (omega (arith, c.small)) (c.none (omega (arith, n₀))) e;
        some = λ n. c.some (λ h. n (omega (arith, n₀)));
        small = omega (arith, c.small, n₀);
      })
      (λ e. let o : y ≡ 1 = ey ∙ rw (eb, e) refl in record {
        none = λ h. absurd (omega (arith, o));
        some = λ n. fit_not i (omega (arith, c.small)) k e;
        small = omega (arith, c.small, o);
      })

  pub failing_end : (i total : ℕ) → full ≤ i → Failing i total → eqb total 0 ≡ passes_from test x used full l
  failing_end i total h c = by_cases (eqb total 0)
      (λ e. e ∙ fit_end i h (c.none (eqb-true total 0 e)))
      (λ e. e ∙ c.some (eqb-false total 0 e))

-- ---- filling begins
pub fill_none : (f : ℕ → ℕ) (l : List ℕ) → l ≡ fill_below 0 f l
unfolding fill_below
fill_none f l = refl

-- two tests one after the other
pub and_yes : (a b r : Bool) → a ≡ true → r ≡ b → r ≡ (a && b)
and_yes a b r e h = rw e h
