-- Lines with numbers are read back as written, and written as read.
use Prim.Native.Nat.{ℕ, zero, suc, ◌+◌, ◌^◌, ◌≤◌, ◌<◌, suc-le-suc}
use native.Mathlib.Nat.{add-zero}
use native.Mathlib.Omega.{arith}
use mathlib.Core.Path.{◌≡◌, refl, sym, ap, ◌∙◌}
use mathlib.Core.List.{List, [], ◌∷◌, ◌++◌}
use mathlib.Core.Bool.{Bool, true, false, cond, ◌&&◌}
use lib.Dec.{leb}
use lib.ListN.{length, length-append}
use Rattle.tables.specs.Limits.{Limits}
use Rattle.tables.specs.Legs.{leg_right}
use Rattle.lines.specs.Bytes.{is_at}
use Rattle.lines.specs.Numbers.{is_digit, field_at, field, SevenDigits, number}
use Rattle.lines.specs.Keys.{go_key}
use Rattle.lines.specs.Stops.{time_end, go_at, leg_field, StopList, stops_from, stops_at, stop_line, stop_lines, count_in, count_at, count_line, StopsInRange, count_read, go_stop}
use Rattle.lines.proofs.ByteLaws.{Stands, stands_join, stands_parts}
use Rattle.lines.proofs.NumberRoundTrip.{field-stands, field_back}
use Rattle.lines.proofs.LegLaws.{time_end_open, leg_stands, leg_back, stop_front_lem, stop_front}
use Rattle.lines.proofs.StopCases.{counted_same, go_in, go_read, count_in_lem}
use Rattle.lines.specs.declared.numbers.Number.{Number}
use Rattle.lines.specs.declared.stops.GoLine.{GoLine}
use Rattle.lines.specs.declared.refusal.Refusal.TheVariants.{Form, Range}
use Rattle.std.specs.Prelude.{Err, None, Ok, Option, Result, Some}
use Rattle.lines.specs.declared.refusal.Refusal.{Refusal}

-- a line `go=` that was read, and one that was written
pub go-stands : (L : Limits) (form s : ℕ) (text : List ℕ) (at l t g e : ℕ) → go_at L form s text at ≡ go_stop l t g e → Stands text at (stop_line form l t g) e
go-stands L form s text at l t g e h =
    let r = go_read L form s text at l t g e h in
    stands_join
    (stands_join (stands_join (record { there = r.key; next_is = refl }) (field-stands text (at + 3) 64 l r.middle r.first)) (field-stands text r.middle (time_end form) t r.last r.second))
    (leg_stands form s text r.last g e r.third)

-- .. up to its line feed, and that
pub go_line_stands : (L : Limits) (form s : ℕ) (text : List ℕ) (at l t g e : ℕ) → go_at L form s text at ≡ go_stop l t g e → Stands text at (stop_front_lem form l t g ++ 10 ∷ []) e
go_line_stands L form s text at l t g e h = rw (← stop_front form l t g) (go-stands L form s text at l t g e h)

pub go_back : (L : Limits) (form s : ℕ) (text : List ℕ) (at l t g : ℕ) → SevenDigits L → l ≤ L.location → t ≤ L.time → leg_right L form s g ≡ true → is_at text at (stop_line form l t g) ≡ true
    → go_at L form s text at ≡ go_stop l t g (at + length (stop_line form l t g))
unfolding is_digit
go_back L form s text at l t g u p q r h =
    let v = stands_parts text at (go_key ++ field l 64 ++ field t (time_end form)) (leg_field form g) h in
    let w = stands_parts text at (go_key ++ field l 64) (field t (time_end form)) v.0 in
    let k = stands_parts text at go_key (field l 64) w.0 in
    let m : at + length (go_key ++ field l 64) ≡ at + 3 + length (field l 64) = simp length-append (omega arith) in
    let n : at + length (go_key ++ field l 64 ++ field t (time_end form)) ≡ at + 3 + length (field l 64) + length (field t (time_end form)) = simp length-append (omega arith) in
    let second : is_at text (at + 3 + length (field l 64)) (field t (time_end form)) ≡ true = rw m at w.1 in
    let third : is_at text (at + 3 + length (field l 64) + length (field t (time_end form))) (leg_field form g) ≡ true = rw n at v.1 in
    go_in L form s text at k.0 _ refl l _ (field_back text (at + 3) 64 l refl (omega (arith, u.location)) k.1) _ refl t _ (field_back text _ (time_end form) t (time_end_open form) (omega (arith, u.time)) second) _ refl g _
    (leg_back L form s text _ g u r third) p q r
    ∙ ap (go_stop l t g) (simp length-append (omega arith))

-- the stops that were read
pub stops_stand : (L : Limits) (form s n : ℕ) (text : List ℕ) (at e : ℕ) → (stops_at L form s n text at).answer ≡ Ok e
    → Stands text at (stop_lines form (stops_at L form s n text at).locations (stops_at L form s n text at).times (stops_at L form s n text at).legs) e
unfolding stops_at stop_lines is_at
stops_stand L form s zero text at e h = let p : at ≡ e = cc h in rw (← p) (record { there = refl; next_is = sym (add-zero at) })
stops_stand L form s (suc n) text at e h = by_line (go_at L form s text at) refl (λ e'. stops_at L form (suc s) n text e') h (λ e' h'. stops_stand L form (suc s) n text e' e h')
  where
    by_line : (x : Result GoLine Refusal) → go_at L form s text at ≡ x → (more : ℕ → StopList) → (stops_from x more).answer ≡ Ok e
        → ((e' : ℕ) → (more e').answer ≡ Ok e → Stands text e' (stop_lines form (more e').locations (more e').times (more e').legs) e)
        → Stands text at (stop_lines form (stops_from x more).locations (stops_from x more).times (stops_from x more).legs) e
    by_line (Ok stop) f more h ih = stands_join (go-stands L form s text at stop.location stop.time stop.leg stop.next f) (ih stop.next h)
    by_line (Err r) f more h ih = absurd (let z : ◌≡◌ {A = ℕ} 0 1 = cc h in omega arith)

-- stops that were written are read back
pub stops_back : (L : Limits) (form s : ℕ) (ls ts gs text : List ℕ) (at : ℕ) → SevenDigits L → StopsInRange L form s ls ts gs → is_at text at (stop_lines form ls ts gs) ≡ true
    → stops_at L form s (length ls) text at ≡ record { locations = ls; times = ts; legs = gs; answer = Ok (at + length (stop_lines form ls ts gs)) }
unfolding stops_at stop_lines is_at
stops_back L form s [] [] [] text at u r h = rw add-zero
stops_back L form s [] [] (g ∷ gs) text at u r h = absurd r
stops_back L form s [] (t ∷ ts) gs text at u r h = absurd r
stops_back L form s (l ∷ ls) [] gs text at u r h = absurd r
stops_back L form s (l ∷ ls) (t ∷ ts) [] text at u r h = absurd r
stops_back L form s (l ∷ ls) (t ∷ ts) (g ∷ gs) text at u r h =
    let w = stands_parts text at (stop_line form l t g) (stop_lines form ls ts gs) h in
    let x = go_back L form s text at l t g u r.0 r.1 r.2 w.0 in
    let m : at + length (stop_line form l t g) + length (stop_lines form ls ts gs) ≡ at + length (stop_line form l t g ++ stop_lines form ls ts gs) = simp length-append (omega arith) in
    rw (x, stops_back L form (suc s) ls ts gs text (at + length (stop_line form l t g)) u r.3 w.1, m)

-- as many stops as lines, if all were taken
pub stops_many : (L : Limits) (form s n : ℕ) (text : List ℕ) (at e : ℕ) → (stops_at L form s n text at).answer ≡ Ok e
    → (length (stops_at L form s n text at).locations ≡ n) × (length (stops_at L form s n text at).times ≡ n) × (length (stops_at L form s n text at).legs ≡ n)
unfolding stops_at
stops_many L form s zero text at e h = (refl, refl, refl)
stops_many L form s (suc n) text at e h = by_line (go_at L form s text at) (λ e'. stops_at L form (suc s) n text e') h (λ e' h'. stops_many L form (suc s) n text e' e h')
  where
    by_line : (x : Result GoLine Refusal) → (more : ℕ → StopList) → (stops_from x more).answer ≡ Ok e
        → ((e' : ℕ) → (more e').answer ≡ Ok e → (length (more e').locations ≡ n) × (length (more e').times ≡ n) × (length (more e').legs ≡ n))
        → (length (stops_from x more).locations ≡ suc n) × (length (stops_from x more).times ≡ suc n) × (length (stops_from x more).legs ≡ suc n)
    by_line (Ok stop) more h ih = let w = ih stop.next h in (ap suc w.0, ap suc w.1, ap suc w.2)
    by_line (Err r) more h ih = absurd (let z : ◌≡◌ {A = ℕ} 0 1 = cc h in omega arith)

-- at most as many stops as lines, whatever the answer
pub stops_most : (L : Limits) (form s n : ℕ) (text : List ℕ) (at : ℕ)
    → (length (stops_at L form s n text at).locations ≤ n) × (length (stops_at L form s n text at).times ≤ n) × (length (stops_at L form s n text at).legs ≤ n)
unfolding stops_at
stops_most L form s zero text at = (omega arith, omega arith, omega arith)
stops_most L form s (suc n) text at = by_line (go_at L form s text at) (λ e'. stops_at L form (suc s) n text e') (λ e'. stops_most L form (suc s) n text e')
  where
    by_line : (x : Result GoLine Refusal) → (more : ℕ → StopList) → ((e' : ℕ) → (length (more e').locations ≤ n) × (length (more e').times ≤ n) × (length (more e').legs ≤ n))
        → (length (stops_from x more).locations ≤ suc n) × (length (stops_from x more).times ≤ suc n) × (length (stops_from x more).legs ≤ suc n)
    by_line (Ok stop) more ih = let w = ih stop.next in (suc-le-suc w.0, suc-le-suc w.1, suc-le-suc w.2)
    by_line (Err r) more ih = (omega arith, omega arith, omega arith)

-- a count line that was read
pub count_stands : (text : List ℕ) (at : ℕ) (key : List ℕ) (most v p : ℕ) → count_at text at key most ≡ count_read v p → Stands text at (count_line key v) p
unfolding count_at
count_stands text at key most v p h = by_key (is_at text at key) refl h
  where
    by_test : (v' p' : ℕ) → is_at text at key ≡ true → field_at text (at + length key) 10 ≡ number v' p' → (b : Bool) → cond b (count_read v' p') (Err (Range at)) ≡ count_read v p → Stands text at (count_line key v) p
    by_test v' p' k f true h =
        let ev : v' ≡ v = (counted_same h).0 in
        let ep : p' ≡ p = (counted_same h).1 in
        rw (← ev, ← ep) (stands_join (record { there = k; next_is = refl }) (field-stands text (at + length key) 10 v' p' f))
    by_test v' p' k f false h = absurd (let z : ◌≡◌ {A = ℕ} 0 1 = cc h in omega arith)

    by_number : is_at text at key ≡ true → (n : Option Number) → field_at text (at + length key) 10 ≡ n → count_in at most n ≡ count_read v p → Stands text at (count_line key v) p
    by_number k None f h = absurd (let z : ◌≡◌ {A = ℕ} 0 1 = cc h in omega arith)
    by_number k (Some n) f h = by_test n.value n.next k f (leb 1 n.value && leb n.value most) h

    by_key : (k : Bool) → is_at text at key ≡ k → cond k (count_in at most (field_at text (at + length key) 10)) (Err (Form at)) ≡ count_read v p → Stands text at (count_line key v) p
    by_key true k h = by_number k (field_at text (at + length key) 10) refl h
    by_key false k h = absurd (let z : ◌≡◌ {A = ℕ} 0 1 = cc h in omega arith)

pub count_back : (text : List ℕ) (at : ℕ) (key : List ℕ) (most v : ℕ) → 1 ≤ v → v ≤ most → v < 10 ^ 7 → is_at text at (count_line key v) ≡ true → count_at text at key most ≡ count_read v (at + length (count_line key v))
unfolding is_digit
count_back text at key most v a b s h =
    let w = stands_parts text at key (field v 10) h in
    count_in_lem text at key most w.0 _ refl v _ (field_back text (at + length key) 10 v refl s w.1) (λ (z : v ≡ 0). omega arith) b
    ∙ ap (count_read v) (simp length-append (omega arith))
