-- Two plans as one text: how long it is, and that copying the first and then the second stores what reading it stores.
use Prim.Native.Nat.{ℕ, zero, suc, ◌+◌, ◌*◌, ◌^◌, ◌≤◌, ◌<◌}
use native.Mathlib.Nat.{zero-mul, mul-le-mul_right}
use native.Mathlib.Omega.{arith}
use mathlib.Core.Path.{◌≡◌, refl, sym, ap, ◌∙◌, subst}
use mathlib.Core.List.{List, [], ◌∷◌, ◌++◌, append-nil, append_assoc}
use mathlib.Core.Bool.{Bool}
use lib.Dec.{ltb}
use borrow.Author.Tests.{le-leb, lt-leb}
use lib.ListN.{length, take, drop, length-append, length-drop}
use lib.Seq.{sets, sets-eq, take_at, drop_at, length-take-le}
use Rattle.below.specs.Below.{sum_below, at as entry}
use Rattle.below.proofs.Tests.{by_cases}
use Rattle.tables.specs.Limits.{Limits}
use Rattle.lines.specs.Keys.{first_line, agents_key, last_line}
use Rattle.lines.specs.Bytes.{Put}
use Rattle.lines.specs.Numbers.{SevenDigits}
use Rattle.lines.specs.Stops.{count_line}
use Rattle.lines.specs.Names.{row_of}
use Rattle.lines.specs.declared.refusal.Refusal.{Refusal}
use Rattle.lines.specs.declared.refusal.Refusal.TheVariants.{Range}
use Rattle.lines.proofs.Letters.{good_own}
use Rattle.lines.proofs.NumberCases.{digits-length}
use Rattle.lines.proofs.NameRoundTrip.{good_length, row_long}
use Rattle.lines.proofs.WriteLaws.{sets_append}
use Rattle.text.specs.LinesRead.{LinesRead, nothing, elem, joined, and_then, lines_at, flat, LinesStored, read_to}
use Rattle.text.specs.TextRead.{drone_count, plan_form, TextRead}
use Rattle.text.specs.TextWritten.{rows_in, Writable}
use Rattle.text.specs.Written.{drone_lines, Route, route_line, route_lines, routes_text, small_names, rows_of}
use Rattle.text.specs.declared.reader.DroneLines.{DroneLines}
use Rattle.text.proofs.DroneCases.{read_to_same}
use Rattle.text.proofs.DroneTaken.{range_long}
use Rattle.text.proofs.Rows.{AllLong, flat_long, flat_append}
use Rattle.text.proofs.WriteLoop.{sum_front, lines_near}
use Rattle.copying.specs.Reckoned.{routes_in, stops_reckoned, route_reckoned, routes_reckoned, lines_from, closed_by, whole_of, text_reckoned, AllInRange, Copyable}
use Rattle.copying.proofs.ReadLaws.{read_as_reckoned}
use Rattle.copying.proofs.LoopLaws.{RouteAdded, route_added}
use Rattle.std.specs.Prelude.{Err, Ok, Result}

-- ---- the routes of tables, and their lines

pub routes_many : (L : Limits) (n : ℕ) (names counts ls ts gs : List ℕ) → n ≤ length counts → length (routes_in L n names counts ls ts gs) ≡ n
unfolding rows_in
routes_many L zero names counts ls ts gs h = refl
routes_many L (suc n) names [] ls ts gs h = absurd (omega arith)
routes_many L (suc n) names (m ∷ counts) ls ts gs h = ap suc (routes_many L n (drop L.name names) counts (drop m ls) (drop m ts) (drop m gs) (omega arith))

pub lines_of_routes : (L : Limits) (form n : ℕ) (names counts ls ts gs : List ℕ) → n ≤ length counts → sum_below n (entry counts) ≤ length ls
    → route_lines form (routes_in L n names counts ls ts gs) ≡ drone_lines form (rows_in L n names) (take n counts) ls ts gs
unfolding rows_in route_lines drone_lines
lines_of_routes L form zero names counts ls ts gs h s = refl
lines_of_routes L form (suc n) names [] ls ts gs h s = absurd (omega arith)
lines_of_routes L form (suc n) names (m ∷ counts) ls ts gs h s =
    let f = sum_front n m counts in
    let k : length (take m ls) ≡ m = length-take-le m ls (omega (arith, f, s)) in
    let ih = lines_of_routes L form n (drop L.name names) counts (drop m ls) (drop m ts) (drop m gs) (omega arith) (simp length-drop (omega (arith, f, s))) in
    rw (k, ih) refl

pub lines_append : (form : ℕ) (ds es : List Route) → route_lines form (ds ++ es) ≡ route_lines form ds ++ route_lines form es
unfolding route_lines
lines_append form [] es = refl
lines_append form (d ∷ ds) es = rw (lines_append form ds es) (sym (append_assoc (route_line form d) (route_lines form ds) (route_lines form es)))

-- ---- the text's length

pub from_near : (form n : ℕ) → lines_from form n ≤ 22
unfolding lines_from
from_near form n = simp length-append (omega (arith, digits-length 7 n))

-- where the writer comes
pub end_near : (L : Limits) (form n : ℕ) (names counts ls ts gs : List ℕ) (at : ℕ) → Writable L form n names counts ls ts gs
    → at + length (drone_lines form (rows_in L n names) (take n counts) ls ts gs) ≤ at + (L.drones * (L.name + 20) + 27 * L.stops)
end_near L form n names counts ls ts gs at w =
    let p : Put [] at (drone_lines form (rows_in L n names) (take n counts) ls ts gs) _ (at + length (drone_lines form (rows_in L n names) (take n counts) ls ts gs)) = record { next_is = refl; written = refl } in
    omega (arith, lines_near L form n names counts ls ts gs p, w.stops_in_lem, mul-le-mul_right (L.name + 20) w.drones_in)

pub ended-near : {L : Limits} {form n : ℕ} {names counts ls ts gs : List ℕ} (at : ℕ) {next : ℕ} → Writable L form n names counts ls ts gs → next ≡ at + length (drone_lines form (rows_in L n names) (take n counts) ls ts gs)
    → next ≤ at + (L.drones * (L.name + 20) + 27 * L.stops)
ended-near {L} {form} {n} {names} {counts} {ls} {ts} {gs} at w e = omega (arith, e, end_near L form n names counts ls ts gs at w)

-- .. and so the lines of routes that were copied
pub routes_near : {L : Limits} {form n : ℕ} {names counts ls ts gs : List ℕ} (at : ℕ) {next : ℕ} → Writable L form n names counts ls ts gs → next ≡ at + length (route_lines form (routes_in L n names counts ls ts gs))
    → next ≤ at + (L.drones * (L.name + 20) + 27 * L.stops)
routes_near {L} {form} {n} {names} {counts} {ls} {ts} {gs} at w e =
    let f = ap length (lines_of_routes L form n names counts ls ts gs (omega (arith, w.drones_in, w.counts_full)) (omega (arith, w.stops_in_lem, w.locations_full))) in
    omega (arith, e, f, end_near L form n names counts ls ts gs at w)

parts_long : (form : ℕ) (C X Y : List ℕ) → length (first_line form ++ C ++ (X ++ Y) ++ last_line) ≡ 7 + length C + length X + length Y + 9
parts_long form C X Y = simp length-append (omega arith)

text_parts : (form : ℕ) (ds es : List Route) (n : ℕ) → length (ds ++ es) ≡ n → length (routes_text form (ds ++ es)) ≡ lines_from form n + length (route_lines form ds) + length (route_lines form es) + 9
unfolding lines_from
text_parts form ds es n m = rw (lines_append form ds es, m) (parts_long form (count_line agents_key n) (route_lines form ds) (route_lines form es))

module _ (L : Limits) (form n₁ : ℕ) (ns₁ cs₁ ls₁ ts₁ gs₁ : List ℕ) (n₂ : ℕ) (ns₂ cs₂ ls₂ ts₂ gs₂ : List ℕ) (w₁ : Writable L form n₁ ns₁ cs₁ ls₁ ts₁ gs₁) (w₂ : Writable L form n₂ ns₂ cs₂ ls₂ ts₂ gs₂) where
  pub both_many : length (routes_in L n₁ ns₁ cs₁ ls₁ ts₁ gs₁ ++ routes_in L n₂ ns₂ cs₂ ls₂ ts₂ gs₂) ≡ n₁ + n₂
  both_many =
      simp length-append (omega (arith, routes_many L n₁ ns₁ cs₁ ls₁ ts₁ gs₁ (omega (arith, w₁.drones_in, w₁.counts_full)), routes_many L n₂ ns₂ cs₂ ls₂ ts₂ gs₂ (omega (arith, w₂.drones_in, w₂.counts_full))))

  pub text_long : {start next last : ℕ} → start ≡ lines_from form (n₁ + n₂) → next ≡ start + length (drone_lines form (rows_in L n₁ ns₁) (take n₁ cs₁) ls₁ ts₁ gs₁)
      → last ≡ next + length (drone_lines form (rows_in L n₂ ns₂) (take n₂ cs₂) ls₂ ts₂ gs₂) → last + 9 ≡ length (routes_text form (routes_in L n₁ ns₁ cs₁ ls₁ ts₁ gs₁ ++ routes_in L n₂ ns₂ cs₂ ls₂ ts₂ gs₂))
  text_long a b c =
      let e = text_parts form (routes_in L n₁ ns₁ cs₁ ls₁ ts₁ gs₁) (routes_in L n₂ ns₂ cs₂ ls₂ ts₂ gs₂) (n₁ + n₂) both_many in
      let f = ap length (lines_of_routes L form n₁ ns₁ cs₁ ls₁ ts₁ gs₁ (omega (arith, w₁.drones_in, w₁.counts_full)) (omega (arith, w₁.stops_in_lem, w₁.locations_full))) in
      let g = ap length (lines_of_routes L form n₂ ns₂ cs₂ ls₂ ts₂ gs₂ (omega (arith, w₂.drones_in, w₂.counts_full)) (omega (arith, w₂.stops_in_lem, w₂.locations_full))) in
      omega (arith, a, b, c, e, f, g)

-- ---- routes one after another

join_three : (f g h : LinesRead (Result DroneLines Refusal)) → joined f (joined g h) ≡ joined (joined f g) h
join_three f g h = rw (append_assoc, append_assoc, append_assoc, append_assoc, append_assoc) refl

join_then : (f g : LinesRead (Result DroneLines Refusal)) (a : Result DroneLines Refusal) (more : ℕ → ℕ → LinesRead (Result DroneLines Refusal)) → joined f (and_then g a more) ≡ and_then (joined f g) a more
join_then f g (Ok lines) more = join_three f g (more lines.next lines.total)
join_then f g (Err r) more = refl

-- the form stays that of the lines before
route_form : (L : Limits) (form at total : ℕ) (taken : List ℕ → Bool) (d : Route) → (route_reckoned L form at total taken d).form ≡ form
unfolding route_reckoned stops_reckoned
route_form L form at total taken d =
    by_cases (taken (row_of L d.name))
    (λ p. rw p refl)
    (λ p. by_cases (ltb L.stops (total + length d.locations)) (λ o. rw (p, o) refl) (λ o. rw (p, o) refl))

then_form : (f : LinesRead (Result DroneLines Refusal)) (a : Result DroneLines Refusal) (more : ℕ → ℕ → LinesRead (Result DroneLines Refusal)) → (and_then f a more).form ≡ f.form
then_form f (Ok lines) more = refl
then_form f (Err r) more = refl

routes_form : (L : Limits) (form : ℕ) (ds : List Route) (at : ℕ) (earlier : List (List ℕ)) (total : ℕ) → (routes_reckoned L form at earlier total ds).form ≡ form
unfolding routes_reckoned
routes_form L form [] at earlier total = refl
routes_form L form (d ∷ ds) at earlier total = then_form _ (route_reckoned L form at total (elem earlier) d).answer _ ∙ route_form L form at total (elem earlier) d

-- nothing before: what was read then is the whole
none_before : (f : LinesRead (Result DroneLines Refusal)) (form : ℕ) (a : Result DroneLines Refusal) → f.form ≡ form → f ≡ joined (nothing form a) f
none_before f form a e = rw (← e) refl

pub routes_append : (L : Limits) (form : ℕ) (ds es : List Route) (at : ℕ) (earlier : List (List ℕ)) (total : ℕ)
    → routes_reckoned L form at earlier total (ds ++ es) ≡ and_then (routes_reckoned L form at earlier total ds) (routes_reckoned L form at earlier total ds).answer (λ e t. routes_reckoned L form e (earlier ++ rows_of L ds) t es)
unfolding routes_reckoned
routes_append L form [] es at earlier total = rw append-nil (none_before _ form (read_to at total) (routes_form L form es at earlier total))
routes_append L form (d ∷ ds) es at earlier total =
    by_answer (route_reckoned L form at total (elem earlier) d) (route_reckoned L form at total (elem earlier) d).answer refl
    (λ e t. routes_append L form ds es e (earlier ++ row_of L d.name ∷ []) t ∙ ap (λ (x : List (List ℕ)). after e t x) (append_assoc earlier (row_of L d.name ∷ []) (rows_of L ds)))
  where
    one : ℕ → ℕ → LinesRead (Result DroneLines Refusal)
    one e t = routes_reckoned L form e (earlier ++ row_of L d.name ∷ []) t ds

    after : ℕ → ℕ → List (List ℕ) → LinesRead (Result DroneLines Refusal)
    after e t x = and_then (one e t) (one e t).answer (λ e' t'. routes_reckoned L form e' x t' es)

    by_answer : (f : LinesRead (Result DroneLines Refusal)) (a : Result DroneLines Refusal) → f.answer ≡ a
        → ((e t : ℕ) → routes_reckoned L form e (earlier ++ row_of L d.name ∷ []) t (ds ++ es) ≡ after e t (earlier ++ row_of L d.name ∷ rows_of L ds))
        → and_then f a (λ e t. routes_reckoned L form e (earlier ++ row_of L d.name ∷ []) t (ds ++ es))
        ≡ and_then (and_then f a one) (and_then f a one).answer (λ e' t'. routes_reckoned L form e' (earlier ++ row_of L d.name ∷ rows_of L ds) t' es)
    by_answer f (Err r) q ih = rw q refl
    by_answer f (Ok lines) q ih = ap (joined f) (ih lines.next lines.total) ∙ join_then f (one lines.next lines.total) (one lines.next lines.total).answer (λ e' t'. routes_reckoned L form e' (earlier ++ row_of L d.name ∷ rows_of L ds) t' es)

-- what routes that are not at fault give
pub record RoutesGiven (L : Limits) (form at total : ℕ) (ds : List Route) (f : LinesRead (Result DroneLines Refusal)) (e t : ℕ) : Type 0 where
  pub rows_are : f.rows ≡ rows_of L ds
  pub many : length f.counts ≡ length ds
  pub places : total + length f.locations ≡ t
  pub moments : total + length f.times ≡ t
  pub lengths : total + length f.legs ≡ t
  pub within : t ≤ L.stops
  pub ends : e ≡ at + length (route_lines form ds)

pub routes_given : (L : Limits) (form : ℕ) (ds : List Route) (at : ℕ) (earlier : List (List ℕ)) (total e t : ℕ) → AllInRange L form ds → total ≤ L.stops → (routes_reckoned L form at earlier total ds).answer ≡ read_to e t
    → RoutesGiven L form at total ds (routes_reckoned L form at earlier total ds) e t
unfolding routes_reckoned route_lines
routes_given L form [] at earlier total e t v few h =
    let ee : at ≡ e = (read_to_same h).0 in
    let et : total ≡ t = (read_to_same h).1 in
    record { rows_are = refl; many = refl; places = omega (arith, et); moments = omega (arith, et); lengths = omega (arith, et); within = omega (arith, et, few); ends = omega (arith, ee) }
routes_given L form (d ∷ ds) at earlier total e t v few h =
    by_answer (route_reckoned L form at total (elem earlier) d) (route_reckoned L form at total (elem earlier) d).answer refl
    (λ p s. route_added L form at total (elem earlier) d (good_length L d.name v.0.0).1 (range_long L form 0 d.locations d.times d.legs v.0.3) p s)
    (λ p s k q. routes_given L form ds p (earlier ++ row_of L d.name ∷ []) s e t v.1 k q) h
  where
    rest : ℕ → ℕ → LinesRead (Result DroneLines Refusal)
    rest p s = routes_reckoned L form p (earlier ++ row_of L d.name ∷ []) s ds

    by_answer : (f : LinesRead (Result DroneLines Refusal)) (a : Result DroneLines Refusal) → f.answer ≡ a → ((p s : ℕ) → f.answer ≡ read_to p s → RouteAdded L form at total d f p s)
        → ((p s : ℕ) → s ≤ L.stops → (rest p s).answer ≡ read_to e t → RoutesGiven L form p s ds (rest p s) e t) → (and_then f a rest).answer ≡ read_to e t
        → RoutesGiven L form at total (d ∷ ds) (and_then f a rest) e t
    by_answer f (Err r) q added ih h = absurd (let z : ◌≡◌ {A = ℕ} 0 1 = cc (sym q ∙ h) in omega arith)
    by_answer f (Ok lines) q added ih h =
        let a = added lines.next lines.total q in
        let g = ih lines.next lines.total a.within h in
        record {
          rows_are = rw (a.rows_are, g.rows_are) refl;
          many = simp length-append (omega (arith, a.one, g.many));
          places = simp length-append (omega (arith, a.places, g.places));
          moments = simp length-append (omega (arith, a.moments, g.moments));
          lengths = simp length-append (omega (arith, a.lengths, g.lengths));
          within = g.within;
          ends = rw (length-append (route_line form d) (route_lines form ds)) (omega (arith, g.ends, a.ends));
        }

-- ---- the rows of the first plan in the table of names

rows_of-flat : (L : Limits) (rs : List (List ℕ)) (rest : List ℕ) → AllLong L rs → rows_in L (length rs) (flat rs ++ rest) ≡ rs
unfolding rows_in
rows_of-flat L [] rest a = refl
rows_of-flat L (r ∷ rs) rest a =
    rw (append_assoc r (flat rs) rest, take_at r (flat rs ++ rest) L.name a.0, drop_at r (flat rs ++ rest) L.name a.0, rows_of-flat L rs rest a.1) refl

rows_all_long : (L : Limits) (ds : List Route) → AllLong L (rows_of L ds)
rows_all_long L [] = tt
rows_all_long L (d ∷ ds) = (row_long L d.name, rows_all_long L ds)

rows_as_many : (L : Limits) (ds : List Route) → length (rows_of L ds) ≡ length ds
rows_as_many L [] = refl
rows_as_many L (d ∷ ds) = ap suc (rows_as_many L ds)

rows_found : (L : Limits) (ds : List Route) (n : ℕ) (ns ns' : List ℕ) → length ds ≡ n → n * L.name ≤ length ns → ns' ≡ sets ns 0 (flat (rows_of L ds)) → rows_in L n ns' ≡ rows_of L ds
rows_found L ds n ns ns' m room e =
    let l : length (flat (rows_of L ds)) ≡ n * L.name = flat_long L (rows_of L ds) (rows_all_long L ds) ∙ ap (λ (k : ℕ). k * L.name) (rows_as_many L ds ∙ m) in
    let q : sets ns 0 (flat (rows_of L ds)) ≡ flat (rows_of L ds) ++ drop (0 + length (flat (rows_of L ds))) ns = sets-eq (flat (rows_of L ds)) ns 0 (omega (arith, l, room)) in
    rw (e, q, ← m, ← rows_as_many L ds) (rows_of-flat L (rows_of L ds) _ (rows_all_long L ds))

-- ---- both plans copied

stored-then : (b xs ys : List ℕ) (i j : ℕ) {b₁ b₂ : List ℕ} → b₁ ≡ sets b i xs → b₂ ≡ sets b₁ j ys → i + length xs ≡ j → b₂ ≡ sets b i (xs ++ ys)
stored-then b xs ys i j p q e = q ∙ rw (p, ← e) (sets_append b i xs ys)

module _ (L : Limits) (form at : ℕ) (ds : List Route) {ns cs ls ts gs ns₁ cs₁ ls₁ ts₁ gs₁ : List ℕ} {r : Result DroneLines Refusal} (s : LinesStored L (routes_reckoned L form at (rows_in L 0 ns) 0 ds) 0 0 ns cs ls ts gs ns₁ cs₁ ls₁ ts₁ gs₁ r) (v : AllInRange L form ds) where
  -- one of the first plan is at fault
  pub first_bad : (es : List Route) (x : Refusal) → r ≡ Err x → LinesStored L (routes_reckoned L form at [] 0 (ds ++ es)) 0 0 ns cs ls ts gs ns₁ cs₁ ls₁ ts₁ gs₁ r
  unfolding rows_in
  first_bad es x h =
      let q : routes_reckoned L form at [] 0 (ds ++ es) ≡ routes_reckoned L form at [] 0 ds = routes_append L form ds es at [] 0 ∙ rw (sym s.answer_is ∙ h) refl in
      rw q s

  pub first_given : (e t : ℕ) → r ≡ read_to e t → RoutesGiven L form at 0 ds (routes_reckoned L form at [] 0 ds) e t
  unfolding rows_in
  first_given e t h = routes_given L form ds at [] 0 e t v (omega arith) (sym s.answer_is ∙ h)

  pub both_copied : (e t : ℕ) → r ≡ read_to e t → (n : ℕ) → length ds ≡ n → n * L.name ≤ length ns → (es : List Route) {ns₂ cs₂ ls₂ ts₂ gs₂ : List ℕ} {r₂ : Result DroneLines Refusal}
      → LinesStored L (routes_reckoned L form e (rows_in L n ns₁) t es) n t ns₁ cs₁ ls₁ ts₁ gs₁ ns₂ cs₂ ls₂ ts₂ gs₂ r₂ → LinesStored L (routes_reckoned L form at [] 0 (ds ++ es)) 0 0 ns cs ls ts gs ns₂ cs₂ ls₂ ts₂ gs₂ r₂
  unfolding rows_in
  both_copied e t h n m room es s₂ =
      let g = first_given e t h in
      let f : LinesRead (Result DroneLines Refusal) = routes_reckoned L form at [] 0 ds in
      let b : LinesRead (Result DroneLines Refusal) = routes_reckoned L form e (rows_in L n ns₁) t es in
      let en : ns₁ ≡ sets ns 0 (flat (rows_of L ds)) = s.names_are ∙ rw (g.rows_are, zero-mul) refl in
      let found = rows_found L ds n ns ns₁ m room en in
      let q : routes_reckoned L form at [] 0 (ds ++ es) ≡ joined f (routes_reckoned L form e (rows_in L n ns₁) t es) = routes_append L form ds es at [] 0 ∙ rw (sym s.answer_is ∙ h, found) refl in
      let fl : 0 * L.name + length (flat f.rows) ≡ n * L.name = rw g.rows_are (omega (arith, flat_long L (rows_of L ds) (rows_all_long L ds), rows_as_many L ds, m, ap (λ (k : ℕ). k * L.name) (rows_as_many L ds ∙ m), zero-mul L.name)) in
      rw q (record {
        answer_is = s₂.answer_is;
        names_are = rw (flat_append f.rows (routes_reckoned L form e (rows_in L n ns₁) t es).rows) (stored-then ns (flat f.rows) (flat b.rows) (0 * L.name) (n * L.name) s.names_are s₂.names_are fl);
        counts_are = stored-then cs f.counts b.counts 0 n s.counts_are s₂.counts_are (omega (arith, g.many, m));
        locations_are = stored-then ls f.locations b.locations 0 t s.locations_are s₂.locations_are g.places;
        times_are = stored-then ts f.times b.times 0 t s.times_are s₂.times_are g.moments;
        legs_are = stored-then gs f.legs b.legs 0 t s.legs_are s₂.legs_are g.lengths;
      })

-- ---- what reading the text of both stores

range_own : (L : Limits) (form : ℕ) (ds : List Route) → AllInRange L form ds → small_names ds ≡ ds
range_own L form [] v = refl
range_own L form (d ∷ ds) v =
    let e = good_own L d.name v.0.0 in
    let f = range_own L form ds v.1 in
    λ i. record { name = e i; locations = d.locations; times = d.times; legs = d.legs } ∷ f i

pub range_append : (L : Limits) (form : ℕ) (ds es : List Route) → AllInRange L form ds → AllInRange L form es → AllInRange L form (ds ++ es)
range_append L form [] es v w = w
range_append L form (d ∷ ds) es v w = (v.0, range_append L form ds es v.1 w)

-- the text of routes that are in range by themselves, with their names as the tables hold them
pub read_reckoned : (L : Limits) → SevenDigits L → (form : ℕ) (ds : List Route) → 1 ≤ form → form ≤ L.form → 1 ≤ length ds → length ds < 10 ^ 7 → AllInRange L form ds → lines_at L (routes_text form ds) ≡ text_reckoned L form ds
read_reckoned L u form ds low high some few v = read_as_reckoned L u form ds low high some few (subst (AllInRange L form) (sym (range_own L form ds v)) v) ∙ ap (text_reckoned L form) (range_own L form ds v)

text_stored : {L : Limits} {text : List ℕ} (w : LinesRead (Result ℕ Refusal)) {dc fm ns cs ls ts gs dc' fm' ns' cs' ls' ts' gs' : List ℕ} {a : Result ℕ Refusal} → lines_at L text ≡ w → a ≡ w.answer → dc' ≡ sets dc 0 (drone_count a)
    → fm' ≡ sets fm 0 (plan_form w.form a) → ns' ≡ sets ns 0 (flat w.rows) → cs' ≡ sets cs 0 w.counts → ls' ≡ sets ls 0 w.locations → ts' ≡ sets ts 0 w.times → gs' ≡ sets gs 0 w.legs
    → TextRead L text dc fm ns cs ls ts gs dc' fm' ns' cs' ls' ts' gs' a
text_stored w e ea ed ef en ec el et eg = record {
  answer_is = rw e ea;
  count_is = ed;
  form_is = rw e ef;
  names_are = rw e en;
  counts_are = rw e ec;
  locations_are = rw e el;
  times_are = rw e et;
  legs_are = rw e eg;
}

module _ (L : Limits) (u : SevenDigits L) (form n₁ : ℕ) (ns₁ cs₁ ls₁ ts₁ gs₁ : List ℕ) (n₂ : ℕ) (ns₂ cs₂ ls₂ ts₂ gs₂ : List ℕ) (w₁ : Copyable L form n₁ ns₁ cs₁ ls₁ ts₁ gs₁) (w₂ : Copyable L form n₂ ns₂ cs₂ ls₂ ts₂ gs₂) where
  abbrev pub both_routes : List Route
  both_routes = routes_in L n₁ ns₁ cs₁ ls₁ ts₁ gs₁ ++ routes_in L n₂ ns₂ cs₂ ls₂ ts₂ gs₂

  many : length both_routes ≡ n₁ + n₂
  many = both_many L form n₁ ns₁ cs₁ ls₁ ts₁ gs₁ n₂ ns₂ cs₂ ls₂ ts₂ gs₂ w₁.writable w₂.writable

  pub both_read : n₁ + n₂ < 10 ^ 7 → lines_at L (routes_text form both_routes) ≡ text_reckoned L form both_routes
  both_read few = read_reckoned L u form both_routes w₁.known w₁.writable.form_in (omega (arith, many, w₁.some)) (omega (arith, many, few)) (range_append L form (routes_in L n₁ ns₁ cs₁ ls₁ ts₁ gs₁) (routes_in L n₂ ns₂ cs₂ ls₂ ts₂ gs₂) w₁.each w₂.each)

  pub drones-over : n₁ + n₂ < 10 ^ 7 → L.drones < n₁ + n₂ → {dc fm ns cs ls ts gs : List ℕ} → TextRead L (routes_text form both_routes) dc fm ns cs ls ts gs dc fm ns cs ls ts gs (Err (Range 7))
  unfolding text_reckoned
  drones-over few h = text_stored (nothing form (Err (Range 7))) (both_read few ∙ rw (lt-leb (length both_routes) L.drones (omega (arith, many, h))) refl) refl refl refl refl refl refl refl refl

  pub both_stored : n₁ + n₂ < 10 ^ 7 → n₁ + n₂ ≤ L.drones → {at : ℕ} → at ≡ lines_from form (n₁ + n₂) → {dc fm ns cs ls ts gs ns' cs' ls' ts' gs' : List ℕ} {r : Result DroneLines Refusal}
      → LinesStored L (routes_reckoned L form at [] 0 both_routes) 0 0 ns cs ls ts gs ns' cs' ls' ts' gs' r → (a : Result ℕ Refusal) → a ≡ closed_by (n₁ + n₂) r
      → TextRead L (routes_text form both_routes) dc fm ns cs ls ts gs (sets dc 0 (drone_count a)) (sets fm 0 (plan_form form a)) ns' cs' ls' ts' gs' a
  unfolding text_reckoned
  both_stored few h {at} start s a e =
      let z : lines_from form (length both_routes) ≡ at = ap (lines_from form) many ∙ sym start in
      let q : lines_at L (routes_text form both_routes) ≡ whole_of form (n₁ + n₂) (routes_reckoned L form at [] 0 both_routes) =
      both_read few ∙ rw (le-leb (length both_routes) L.drones (omega (arith, many, h)), z, many) refl in
      text_stored _ q (e ∙ ap (closed_by (n₁ + n₂)) s.answer_is) refl refl (rw zero-mul at s.names_are) s.counts_are s.locations_are s.times_are s.legs_are
