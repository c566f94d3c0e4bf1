-- Which case of the definitions of lines with numbers holds, by what was read; and the loop over the lines of one drone.
use Prim.Native.Nat.{ℕ, zero, suc, ◌+◌, ◌-◌, ◌≤◌, ◌<◌}
use native.Mathlib.Nat.{add-zero, not-suc-le-zero}
use native.Mathlib.Numerals.{sub-one}
use native.Mathlib.Omega.{arith}
use mathlib.Core.Path.{◌≡◌, refl, ap}
use mathlib.Core.List.{List, [], ◌∷◌, ◌++◌}
use mathlib.Core.Bool.{Bool, true, false, cond, ◌&&◌}
use lib.Dec.{leb}
use borrow.Author.Tests.{leb-true, le-leb, lt-leb}
use lib.ListN.{length, get_or, drop, take, set, length-append}
use lib.Seq.{drop-cons, sets}
use Rattle.tables.specs.Limits.{Limits}
use Rattle.tables.specs.Legs.{leg_right}
use Rattle.lines.specs.Bytes.{is_at}
use Rattle.lines.specs.Numbers.{field_at, number}
use Rattle.lines.specs.Keys.{go_key}
use Rattle.lines.specs.Stops.{time_end, leg_at, go_leg, go_time, go_place, go_at, StopList, stops_from, stops_at, stop_line, stop_lines, count_in, count_at, count_read, go_stop}
use Rattle.lines.proofs.NumberCases.{digits-length}
use Rattle.lines.proofs.LegLaws.{leg_short}
use Rattle.lines.specs.declared.numbers.Number.{Number}
use Rattle.lines.specs.declared.refusal.Refusal.{Refusal}
use Rattle.lines.specs.declared.stops.GoLine.{GoLine}
use Rattle.lines.specs.declared.refusal.Refusal.TheVariants.{Form, Range}
use Rattle.std.specs.Prelude.{Err, None, Ok, Option, Result, Some}

-- stops that are equal, part by part
pub record SameStop (l t g e l' t' g' e' : ℕ) : Type 0 where
  pub location : l ≡ l'
  pub time : t ≡ t'
  pub leg : g ≡ g'
  pub next : e ≡ e'

pub go_stop_same : {l t g e l' t' g' e' : ℕ} → go_stop l t g e ≡ go_stop l' t' g' e' → SameStop l t g e l' t' g' e'
go_stop_same {l} {t} {g} {e} {l'} {t'} {g'} {e'} h =
    let r : ◌≡◌ {A = GoLine} (record { location = l; time = t; leg = g; next = e }) (record { location = l'; time = t'; leg = g'; next = e' }) = cc h in
    record { location = ap (λ (s : GoLine). s.location) r; time = ap (λ (s : GoLine). s.time) r; leg = ap (λ (s : GoLine). s.leg) r; next = ap (λ (s : GoLine). s.next) r }

-- counts that are equal, part by part
pub counted_same : {v e v' e' : ℕ} → count_read v e ≡ count_read v' e' → (v ≡ v') × (e ≡ e')
counted_same {v} {e} {v'} {e'} h =
    let r : ◌≡◌ {A = Number} (record { value = v; next = e }) (record { value = v'; next = e' }) = cc h in
    (ap (λ (n : Number). n.value) r, ap (λ (n : Number). n.next) r)

pub go-none : (L : Limits) (form s : ℕ) (text : List ℕ) (at : ℕ) → is_at text at go_key ≡ false → go_at L form s text at ≡ Err (Form at)
unfolding go_at
go-none L form s text at h = rw h

-- past the key, with the first number, past it, with the second, past it, with the leg
module _ (L : Limits) (form s : ℕ) (text : List ℕ) (at : ℕ) (h : is_at text at go_key ≡ true) (m : Option Number) (e : m ≡ field_at text (at + 3) 64) where
  pub go_first : m ≡ None → go_at L form s text at ≡ Err (Form at)
  unfolding go_at
  go_first k = rw (h, ← e, k)

  module _ (l p : ℕ) (k : m ≡ number l p) (n : Option Number) (f : n ≡ field_at text p (time_end form)) where
    pub go_second : n ≡ None → go_at L form s text at ≡ Err (Form at)
    unfolding go_at
    go_second q = rw (h, ← e, k, ← f, q)

    module _ (t i : ℕ) (q : n ≡ number t i) (o : Option Number) (d : o ≡ leg_at form s text i) where
      pub go_third : o ≡ None → go_at L form s text at ≡ Err (Form at)
      unfolding go_at
      go_third x = rw (h, ← e, k, ← f, q, ← d, x)

      module _ (g next : ℕ) (x : o ≡ number g next) where
        pub go_far : L.location < l → go_at L form s text at ≡ Err (Range at)
        unfolding go_at
        go_far a = rw (h, ← e, k, ← f, q, ← d, x, lt-leb l L.location a)

        pub go_late : l ≤ L.location → L.time < t → go_at L form s text at ≡ Err (Range at)
        unfolding go_at
        go_late a b = rw (h, ← e, k, ← f, q, ← d, x, le-leb l L.location a, lt-leb t L.time b)

        pub go_long : l ≤ L.location → t ≤ L.time → leg_right L form s g ≡ false → go_at L form s text at ≡ Err (Range at)
        unfolding go_at
        go_long a b c = rw (h, ← e, k, ← f, q, ← d, x, le-leb l L.location a, le-leb t L.time b, c)

        pub go_in : l ≤ L.location → t ≤ L.time → leg_right L form s g ≡ true → go_at L form s text at ≡ go_stop l t g next
        unfolding go_at
        go_in a b c = rw (h, ← e, k, ← f, q, ← d, x, le-leb l L.location a, le-leb t L.time b, c)

-- what a stop that was read says of the text: the key, the fields, their ranges
pub record GoRead (L : Limits) (form s : ℕ) (text : List ℕ) (at l t g e : ℕ) : Type 0 where
  pub middle : ℕ
  pub last : ℕ
  pub key : is_at text at go_key ≡ true
  pub first : field_at text (at + 3) 64 ≡ number l middle
  pub second : field_at text middle (time_end form) ≡ number t last
  pub third : leg_at form s text last ≡ number g e
  pub near : l ≤ L.location
  pub early : t ≤ L.time
  pub right : leg_right L form s g ≡ true

module _ (L : Limits) (form s : ℕ) (text : List ℕ) (at l t g e : ℕ) where
  inv_range : (l' t' g' e' p q : ℕ) → is_at text at go_key ≡ true → field_at text (at + 3) 64 ≡ number l' p → field_at text p (time_end form) ≡ number t' q → leg_at form s text q ≡ number g' e'
      → (a : Bool) → leb l' L.location ≡ a → (b : Bool) → leb t' L.time ≡ b → (c : Bool) → leg_right L form s g' ≡ c
      → cond (a && b && c) (go_stop l' t' g' e') (Err (Range at)) ≡ go_stop l t g e → GoRead L form s text at l t g e
  inv_range l' t' g' e' p q k f i d true x true y true z h =
      let same = go_stop_same h in
      let el : l' ≡ l = same.location in
      let et : t' ≡ t = same.time in
      let eg : g' ≡ g = same.leg in
      let ee : e' ≡ e = same.next in
      record {
        middle = p;
        last = q;
        key = k;
        first = rw el at f;
        second = rw et at i;
        third = rw (eg, ee) at d;
        near = rw el at (leb-true l' L.location x);
        early = rw et at (leb-true t' L.time y);
        right = rw eg at z;
      }
  inv_range l' t' g' e' p q k f i d true x true y false z h = absurd (let z : ◌≡◌ {A = ℕ} 0 1 = cc h in omega arith)
  inv_range l' t' g' e' p q k f i d true x false y c z h = absurd (let z : ◌≡◌ {A = ℕ} 0 1 = cc h in omega arith)
  inv_range l' t' g' e' p q k f i d false x b y c z h = absurd (let z : ◌≡◌ {A = ℕ} 0 1 = cc h in omega arith)

  inv_leg : (l' t' p q : ℕ) → is_at text at go_key ≡ true → field_at text (at + 3) 64 ≡ number l' p → field_at text p (time_end form) ≡ number t' q
      → (n : Option Number) → leg_at form s text q ≡ n → go_leg L form s at l' t' n ≡ go_stop l t g e → GoRead L form s text at l t g e
  inv_leg l' t' p q k f i None d h = absurd (let z : ◌≡◌ {A = ℕ} 0 1 = cc h in omega arith)
  inv_leg l' t' p q k f i (Some n) d h = inv_range l' t' n.value n.next p q k f i d (leb l' L.location) refl (leb t' L.time) refl (leg_right L form s n.value) refl h

  inv_time : (l' p : ℕ) → is_at text at go_key ≡ true → field_at text (at + 3) 64 ≡ number l' p → (n : Option Number) → field_at text p (time_end form) ≡ n → go_time L form s text at l' n ≡ go_stop l t g e → GoRead L form s text at l t g e
  inv_time l' p k f None i h = absurd (let z : ◌≡◌ {A = ℕ} 0 1 = cc h in omega arith)
  inv_time l' p k f (Some n) i h = inv_leg l' n.value p n.next k f i (leg_at form s text n.next) refl h

  inv_place : is_at text at go_key ≡ true → (m : Option Number) → field_at text (at + 3) 64 ≡ m → go_place L form s text at m ≡ go_stop l t g e → GoRead L form s text at l t g e
  inv_place k None f h = absurd (let z : ◌≡◌ {A = ℕ} 0 1 = cc h in omega arith)
  inv_place k (Some n) f h = inv_time n.value n.next k f (field_at text n.next (time_end form)) refl h

  inv_key : (b : Bool) → is_at text at go_key ≡ b → cond b (go_place L form s text at (field_at text (at + 3) 64)) (Err (Form at)) ≡ go_stop l t g e → GoRead L form s text at l t g e
  inv_key true k h = inv_place k (field_at text (at + 3) 64) refl h
  inv_key false k h = absurd (let z : ◌≡◌ {A = ℕ} 0 1 = cc h in omega arith)

  pub go_read : go_at L form s text at ≡ go_stop l t g e → GoRead L form s text at l t g e
  unfolding go_at
  go_read h = inv_key (is_at text at go_key) refl h

-- the lines that are left: none, one at fault, one more
pub stops_none : (L : Limits) (form s n : ℕ) (text : List ℕ) (at : ℕ) → n ≡ 0 → stops_at L form s n text at ≡ record { locations = []; times = []; legs = []; answer = Ok at }
unfolding stops_at
stops_none L form s n text at e = rw e

pub stops_bad : (L : Limits) (form s n : ℕ) (text : List ℕ) (at : ℕ) (x : Result GoLine Refusal) (r : Refusal) → 0 < n → x ≡ go_at L form s text at → x ≡ Err r
    → stops_at L form s n text at ≡ record { locations = []; times = []; legs = []; answer = Err r }
unfolding stops_at
stops_bad L form s zero text at x r h e k = absurd (not-suc-le-zero h)
stops_bad L form s (suc n) text at x r h e k = rw (← e, k)

pub stops_more : (L : Limits) (form s n : ℕ) (text : List ℕ) (at : ℕ) (x : Result GoLine Refusal) (l t g e : ℕ) → 0 < n → x ≡ go_at L form s text at → x ≡ go_stop l t g e
    → stops_at L form s n text at ≡ stops_from (go_stop l t g e) (λ p. stops_at L form (suc s) (n - 1) text p)
unfolding stops_at
stops_more L form s zero text at x l t g e h f k = absurd (not-suc-le-zero h)
stops_more L form s (suc n) text at x l t g e h f k = rw (← f, k, sub-one)

-- the stops that are left, stored from here on, are those of the whole, stored from the start
pub record Going (left whole : StopList) (here from : ℕ) (ls ts gs ls₀ ts₀ gs₀ : List ℕ) : Type 0 where
  pub answers : left.answer ≡ whole.answer
  pub locations : sets ls here left.locations ≡ sets ls₀ from whole.locations
  pub times : sets ts here left.times ≡ sets ts₀ from whole.times
  pub legs : sets gs here left.legs ≡ sets gs₀ from whole.legs

-- at the start, and one line further
pub going_start : (r : StopList) (from : ℕ) (ls ts gs : List ℕ) → Going r r (from + 0) from ls ts gs ls ts gs
going_start r from ls ts gs = rw add-zero (record { answers = refl; locations = refl; times = refl; legs = refl })

pub going_on : (L : Limits) (form : ℕ) (whole : StopList) (from n i : ℕ) (text ls ts gs ls₀ ts₀ gs₀ : List ℕ) (at l t g e : ℕ) (x : Result GoLine Refusal) → i < n → x ≡ go_at L form i text at → x ≡ go_stop l t g e
    → Going (stops_at L form i (n - i) text at) whole (from + i) from ls ts gs ls₀ ts₀ gs₀
    → Going (stops_at L form (i + 1) (n - (i + 1)) text e) whole (from + (i + 1)) from (set ls (from + i) l) (set ts (from + i) t) (set gs (from + i) g) ls₀ ts₀ gs₀
going_on L form whole from n i text ls ts gs ls₀ ts₀ gs₀ at l t g e x h f k w =
    let m = stops_more L form i (n - i) text at x l t g e (omega arith) f k in
    let q : n - i - 1 ≡ n - (i + 1) = omega arith in
    let p : suc (from + i) ≡ from + (i + 1) = omega arith in
    let o : suc i ≡ i + 1 = omega arith in
    record {
      answers = rw (m, q, o) at w.answers;
      locations = rw (← p) (rw (m, q, o) at w.locations);
      times = rw (← p) (rw (m, q, o) at w.times);
      legs = rw (← p) (rw (m, q, o) at w.legs);
    }

-- ---- a line of a key and a number

pub count_none : (text : List ℕ) (at : ℕ) (key : List ℕ) (most : ℕ) → is_at text at key ≡ false → count_at text at key most ≡ Err (Form at)
unfolding count_at
count_none text at key most h = rw h

module _ (text : List ℕ) (at : ℕ) (key : List ℕ) (most : ℕ) (h : is_at text at key ≡ true) (n : Option Number) (e : n ≡ field_at text (at + length key) 10) where
  pub count_form : n ≡ None → count_at text at key most ≡ Err (Form at)
  unfolding count_at
  count_form k = rw (h, ← e, k)

  pub count_low : (v p : ℕ) → n ≡ number v p → v ≡ 0 → count_at text at key most ≡ Err (Range at)
  unfolding count_at
  count_low v p k z = rw (h, ← e, k, lt-leb 1 v (omega arith))

  pub count_high : (v p : ℕ) → n ≡ number v p → (v ≡ 0 → ⊥) → most < v → count_at text at key most ≡ Err (Range at)
  unfolding count_at
  count_high v p k z m = rw (h, ← e, k, le-leb 1 v (omega arith), lt-leb v most m)

  pub count_in_lem : (v p : ℕ) → n ≡ number v p → (v ≡ 0 → ⊥) → v ≤ most → count_at text at key most ≡ count_read v p
  unfolding count_at
  count_in_lem v p k z m = rw (h, ← e, k, le-leb 1 v (omega arith), le-leb v most m)

-- a count that was read is in range
pub count_range : (text : List ℕ) (at : ℕ) (key : List ℕ) (most v p : ℕ) → count_at text at key most ≡ count_read v p → (1 ≤ v) × (v ≤ most)
unfolding count_at
count_range text at key most v p h = by_key (is_at text at key) h
  where
    by_tests : (v' p' : ℕ) (a b : Bool) → leb 1 v' ≡ a → leb v' most ≡ b → cond (a && b) (count_read v' p') (Err (Range at)) ≡ count_read v p → (1 ≤ v) × (v ≤ most)
    by_tests v' p' true true x y h = let q : v' ≡ v = (counted_same h).0 in (rw q at (leb-true 1 v' x), rw q at (leb-true v' most y))
    by_tests v' p' true false x y h = absurd (let z : ◌≡◌ {A = ℕ} 0 1 = cc h in omega arith)
    by_tests v' p' false b x y h = absurd (let z : ◌≡◌ {A = ℕ} 0 1 = cc h in omega arith)

    by_number : (n : Option Number) → count_in at most n ≡ count_read v p → (1 ≤ v) × (v ≤ most)
    by_number None h = absurd (let z : ◌≡◌ {A = ℕ} 0 1 = cc h in omega arith)
    by_number (Some n) h = by_tests n.value n.next (leb 1 n.value) (leb n.value most) refl refl h

    by_key : (k : Bool) → cond k (count_in at most (field_at text (at + length key) 10)) (Err (Form at)) ≡ count_read v p → (1 ≤ v) × (v ≤ most)
    by_key true h = by_number (field_at text (at + length key) 10) h
    by_key false h = absurd (let z : ◌≡◌ {A = ℕ} 0 1 = cc h in omega arith)

-- ---- the lines that are left to write

-- the first of the entries that are left
pub part-cons : (l : List ℕ) (from n i : ℕ) → i < n → from + i < length l → take (n - i) (drop (from + i) l) ≡ get_or l (from + i) 0 ∷ take (n - (i + 1)) (drop (from + (i + 1)) l)
part-cons l from n i h k =
    let p : n - i ≡ suc (n - (i + 1)) = omega arith in
    let q : suc (from + i) ≡ from + (i + 1) = omega arith in
    rw (p, drop-cons l (from + i) 0, q)

-- a line is short
pub stop-short : (form l t g : ℕ) → length (stop_line form l t g) ≤ 27
stop-short form l t g = simp length-append (omega (arith, digits-length 7 l, digits-length 7 t, leg_short form g))

-- the lines that are left to write
pub lines_step : (form : ℕ) (ls ts gs : List ℕ) (from n i : ℕ) → i < n → from + i < length ls → from + i < length ts → from + i < length gs
    → stop_lines form (take (n - i) (drop (from + i) ls)) (take (n - i) (drop (from + i) ts)) (take (n - i) (drop (from + i) gs))
    ≡ stop_line form (get_or ls (from + i) 0) (get_or ts (from + i) 0) (get_or gs (from + i) 0)
    ++ stop_lines form (take (n - (i + 1)) (drop (from + (i + 1)) ls)) (take (n - (i + 1)) (drop (from + (i + 1)) ts)) (take (n - (i + 1)) (drop (from + (i + 1)) gs))
unfolding stop_lines
lines_step form ls ts gs from n i h p q r = rw (part-cons ls from n i h p, part-cons ts from n i h q, part-cons gs from n i h r)

pub lines_done : (form : ℕ) (ls ts gs : List ℕ) (n : ℕ) → n ≡ 0 → stop_lines form (take n ls) ts gs ≡ []
unfolding stop_lines
lines_done form ls ts gs n e = rw e
