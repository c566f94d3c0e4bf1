-- A plan text is refused at the line that is wrong, by what is wrong with it, and only so: the reader walks over the lines that are right to the first that is not. Assumes nothing.
use mathlib.Core.Path.{◌≡◌, refl, sym, ap, subst, ◌∙◌}
use mathlib.Core.Bool.{Bool, true, false≢true}
use mathlib.Core.List.{List, [], ◌++◌}
use Prim.Native.Nat.{ℕ, ◌+◌, ◌≤◌, ◌<◌}
use native.Mathlib.Nat.{zero-add}
use native.Mathlib.Omega.{arith}
use lib.Dec.{ltb, eqb}
use borrow.Author.Tests.{lt-ltb, ltb-true, ltb-false, eqb-true, eqb-false}
use lib.ListN.{length, drop, length-drop, length-append}
use lib.Seq.{drop-drop, drop-append_seam}
use Rattle.below.proofs.Tests.{by_cases}
use Rattle.tables.specs.Limits.{Limits}
use Rattle.lines.specs.Bytes.{is_at}
use Rattle.lines.specs.Keys.{first_line, agents_key, stops_key, last_line}
use Rattle.lines.specs.Forms.{form_at}
use Rattle.lines.specs.Numbers.{SevenDigits}
use Rattle.lines.specs.Refusals.{refusal_offset}
use Rattle.lines.specs.Stops.{go_at, stops_at, stop_line, stop_lines, count_at, count_line}
use Rattle.lines.specs.Names.{small_form, part, name_at, name_line, row_of}
use Rattle.lines.proofs.ByteLaws.{small, Stands}
use Rattle.lines.proofs.FormLaws.{FormRead, form_some, form_back}
use Rattle.lines.proofs.Letters.{text_name_lem}
use Rattle.lines.specs.declared.refusal.Refusal.{Refusal}
use Rattle.lines.specs.declared.refusal.Refusal.TheVariants.{Form, Range, Name, SameName, TooManyStops}
use Rattle.text.specs.LinesRead.{LinesRead, stops_end, stops_read as stops_lines_read, drone_at, elem, drones_at, ending, agents_of, lines_of_form, lines_at}
use Rattle.text.specs.Written.{Route, route_lines, small_names, rows_of, locations_of, InLimitsFrom, InLimits}
use Rattle.text.proofs.Capitals.{names_many}
use Rattle.text.proofs.DroneCases.{stops_refused, stops_over_lem, stops_in_lem, drone_unnamed, drone_same, drone_in}
use Rattle.accepted.specs.LineFaults.{LinesBefore, at_first, after_form, after_drones, after_name, after_stops, after_all, after_end, bytes_of, DronesRight, NameRight, StopsRight, LinesRight, NoLine, OutOfRange, BadName, EarlierName, SumOver, AtLine}
use Rattle.accepted.proofs.LinePlaces.{Upto, upto_start, upto_more, begins_at, at_begins, count_small, CountSaid, no_count, count_out_lem, count_is_lem, count_said}
use Rattle.accepted.proofs.StopPlaces.{stop-small, StopSaid, no_stop_lem, stop_out_lem, stop_is, stop_said}
use Rattle.accepted.proofs.NamePlaces.{name_part, name_there, NameSaid, no_name, name_bad_lem, name_good, name_said, named-elem, elem-named}
use Rattle.accepted.proofs.DroneWalk.{StopsSaid, stops_up_to, stops_each, stops_said, stops_small, routes_small, DronesSaid, drones_up_to, drones_each, drones_said}
use Rattle.lines.specs.Names.{name_span}
use Rattle.std.specs.Prelude.{Result, Err}
use Rattle.text.specs.LinesRead.{read_to}
use Rattle.text.specs.declared.reader.DroneLines.{DroneLines}

-- ---- from a refusal to what is wrong

-- what each refusal says of the line
abbrev pub Wrong : Limits → Refusal → LinesBefore → List ℕ → Type 0
Wrong L (Form o) = NoLine L
Wrong L (Range o) = OutOfRange L
Wrong L (Name o) = BadName L
Wrong L (SameName o) = EarlierName L
Wrong L (TooManyStops o) = SumOver L

abbrev pub Explained : Limits → List ℕ → Refusal → Type 0
Explained L text r = AtLine text (refusal_offset r) L (Wrong L r)

-- the line at a place
here : (L : Limits) (text : List ℕ) (o : ℕ) (b : LinesBefore) (W : LinesBefore → List ℕ → Type 0) → Upto text o (bytes_of b) → LinesRight L b → W b (drop o text) → AtLine text o L W
here L text o b W u r w = record { before = b; rest = drop o text; text_is = u.is; offset_is = u.long; right = r; wrong = w }

-- a place within the text
upto_in : (text : List ℕ) (o : ℕ) (pre : List ℕ) → Upto text o pre → o ≤ length text
upto_in text o pre u = omega (arith, u.long, ap length u.is ∙ length-append pre (drop o text))

-- bytes that stand at a place follow what was read
upto_line : {text : List ℕ} {o : ℕ} {pre : List ℕ} (line : List ℕ) → small line ≡ true → is_at text o line ≡ true → Upto text o pre → Upto text (o + length line) (pre ++ line)
upto_line {text} {o} {pre} line s h u = upto_more (o + length line) line u (at_begins text o line s h) refl

-- the refusal of an answer is that which was said
drone_said : {r x : Refusal} → ◌≡◌ {A = Result DroneLines Refusal} (Err x) (Err r) → x ≡ r
drone_said h = cc h

-- .. at the lines of a drone after its name
module _ (L : Limits) (form n : ℕ) (ds : List Route) (x : List ℕ) (text : List ℕ) (o : ℕ) (right : DronesRight L form n ds) (two : form ≤ 2) (named : NameRight L ds x) (u : Upto text o (bytes_of (after_name form n ds x))) where
  abbrev total : ℕ
  total = length (locations_of ds)

  inside : o ≤ length text
  inside = upto_in text o (bytes_of (after_name form n ds x)) u

  module _ (m : ℕ) (some : 1 ≤ m) (few : total + m ≤ L.stops) (there : is_at text o (count_line stops_key m) ≡ true) where
    abbrev place : ℕ
    place = o + length (count_line stops_key m)

    -- at a line `go=` after those that are right
    stop_explained : (ls ts gs : List ℕ) → StopsRight L form ds m (record { name = x; locations = ls; times = ts; legs = gs }) → (e : ℕ) → Stands text place (stop_lines form ls ts gs) e → (r : Refusal) → go_at L form (0 + length ls) text e ≡ Err r → Explained L text r
    stop_explained ls ts gs stops e w r h = go (stop_said L form (length ls) text e right.form_some two)
      where
        d : Route
        d = record { name = x; locations = ls; times = ts; legs = gs }

        before : Upto text e (bytes_of (after_stops form n ds m d))
        before = subst (λ (k : ℕ). Upto text k (bytes_of (after_stops form n ds m d))) (sym w.next_is) (upto_line (stop_lines form ls ts gs) (stops_small form ls ts gs) w.there (upto_line (count_line stops_key m) (count_small stops_key m refl) there u))

        said : go_at L form (length ls) text e ≡ Err r
        said = ap (λ (k : ℕ). go_at L form k text e) (sym (zero-add (length ls))) ∙ h

        in_text : e ≤ length text
        in_text = upto_in text e (bytes_of (after_stops form n ds m d)) before

        go : StopSaid L form (length ls) text e → Explained L text r
        go (no_stop_lem q none) =
            let z : Form e ≡ r = cc (q, said) in
            subst (Explained L text) z (here L text e (after_stops form n ds m d) (NoLine L) before (right, named, stops) (λ l t g a b c (more, k). none l t g a b c (begins_at text e (stop_line form l t g) more in_text k)))
        go (stop_out_lem l t g a b c k out q) =
            let z : Range e ≡ r = cc (q, said) in
            subst (Explained L text) z (here L text e (after_stops form n ds m d) (OutOfRange L) before (right, named, stops)
            (record { location = l; time = t; leg = g; location_digits = a; time_digits = b; leg_digits = c; line = (drop (e + length (stop_line form l t g)) text, at_begins text e (stop_line form l t g) (stop-small form l t g) k); out = out }))
        go (stop_is l t g p a b c k q) = absurd (let z : ◌≡◌ {A = ℕ} 0 1 = cc (q, said) in omega arith)

    stops_explained : (r : Refusal) → stops_end (total + m) (stops_at L form 0 m text place).answer ≡ Err r → Explained L text r
    stops_explained r h = go (stops_said L form 0 m text place)
      where
        go : StopsSaid L form 0 m text place → Explained L text r
        go (stops_up_to ls ts gs less range e w r' said whole) =
            let z : r' ≡ r = drone_said (ap (stops_end (total + m)) (sym whole) ∙ h) in
            stop_explained ls ts gs (record { some = some; few = few; range = range; more = less }) e w r (said ∙ ap Err z)
        go (stops_each e whole) = absurd (let z : ◌≡◌ {A = ℕ} 0 1 = cc (ap (stops_end (total + m)) (sym whole) ∙ h) in omega arith)

  -- at the line `stops=`
  count_explained : (r : Refusal) → (stops_lines_read L form text o total).answer ≡ Err r → Explained L text r
  count_explained r h = go (count_said text o stops_key L.stops)
    where
      answered : (f : LinesRead (Result DroneLines Refusal)) → stops_lines_read L form text o total ≡ f → f.answer ≡ Err r
      answered f q = ap (λ (k : LinesRead (Result DroneLines Refusal)). k.answer) (sym q) ∙ h

      go : CountSaid text o stops_key L.stops → Explained L text r
      go (no_count q none) =
          let z = drone_said (answered _ (stops_refused L form text o total _ refl (Form o) q)) in
          subst (Explained L text) z (here L text o (after_name form n ds x) (NoLine L) u (right, named) (λ v a (more, k). none v a (begins_at text o (count_line stops_key v) more inside k)))
      go (count_out_lem v a k out q) =
          let z = drone_said (answered _ (stops_refused L form text o total _ refl (Range o) q)) in
          subst (Explained L text) z (here L text o (after_name form n ds x) (OutOfRange L) u (right, named)
          (record { value = v; digits = a; line = (drop (o + length (count_line stops_key v)) text, at_begins text o (count_line stops_key v) (count_small stops_key v refl) k); out = out }))
      go (count_is_lem v a k some most q) = by_cases (ltb L.stops (total + v))
          (λ over.
          let high : L.stops < total + v = ltb-true L.stops (total + v) over in
          let z = drone_said (answered _ (stops_over_lem L form text o total _ refl v (o + length (count_line stops_key v)) q (omega (arith, high)))) in
          subst (Explained L text) z (here L text o (after_name form n ds x) (SumOver L) u (right, named)
          (record { value = v; line = (drop (o + length (count_line stops_key v)) text, at_begins text o (count_line stops_key v) (count_small stops_key v refl) k); some = some; most = most; over = high })))
          (λ few. let low = ltb-false L.stops (total + v) few in
          stops_explained v some low k r (answered _ (stops_in_lem L form text o total _ refl v (o + length (count_line stops_key v)) q low)))

-- at the lines of a drone
drone_explained : (L : Limits) (form n : ℕ) (ds : List Route) (text : List ℕ) (o : ℕ) → DronesRight L form n ds → form ≤ 2 → Upto text o (bytes_of (after_drones form n ds)) → (r : Refusal)
    → (drone_at L form text o (length (locations_of ds)) (elem (rows_of L (small_names ds)))).answer ≡ Err r → Explained L text r
drone_explained L form n ds text o right two u r h = go (name_said L text o inside)
  where
    inside : o ≤ length text
    inside = upto_in text o (bytes_of (after_drones form n ds)) u

    total : ℕ
    total = length (locations_of ds)

    earlier : List ℕ → Bool
    earlier = elem (rows_of L (small_names ds))

    answered : (f : LinesRead (Result DroneLines Refusal)) → drone_at L form text o total earlier ≡ f → f.answer ≡ Err r
    answered f q = ap (λ (k : LinesRead (Result DroneLines Refusal)). k.answer) (sym q) ∙ h

    go : NameSaid L text o → Explained L text r
    go (no_name q none) =
        let z = drone_said (answered _ (drone_unnamed L form text o total earlier _ refl (Form o) q)) in
        subst (Explained L text) z (here L text o (after_drones form n ds) (NoLine L) u right none)
    go (name_bad_lem x more one e bad q) =
        let z = drone_said (answered _ (drone_unnamed L form text o total earlier _ refl (Name o) q)) in
        subst (Explained L text) z (here L text o (after_drones form n ds) (BadName L) u right (record { text = x; one_line = one; line = (more, e); bad = bad }))
    go (name_good x more one e good) = by_cases (earlier row)
        (λ t.
        let z = drone_said (answered _ (drone_same L form text o total earlier _ refl (o + 5) (o + 5 + length x) row is part_is t)) in
        subst (Explained L text) z (here L text o (after_drones form n ds) (EarlierName L) u right (record { text = x; line = (more, e); good = good; same = elem-named L form ds [] 0 x right.within (sym (text_name_lem L x) ∙ good) t })))
        (λ t.
        count_explained L form n ds x text (o + length (name_line x)) right two (record { good = good; new = λ k. false≢true (sym t ∙ named-elem L ds x k) }) after r
        (ap (λ (k : ℕ). (stops_lines_read L form text k total).answer) place ∙ answered _ (drone_in L form text o total earlier _ refl (o + 5) (o + 5 + length x) row is part_is t)))
      where
        row : List ℕ
        row = row_of L (small_form x)

        is : name_at L text o ≡ name_span (o + 5) (o + 5 + length x)
        is = name_there L text o x more inside one e good

        part_is : row_of L (small_form x) ≡ row_of L (small_form (part text (o + 5) (o + 5 + length x)))
        part_is = ap (λ (k : List ℕ). row_of L (small_form k)) (sym (name_part L text o x more inside one e))

        place : o + length (name_line x) ≡ o + 5 + length x + 1
        place = simp length-append (omega arith)

        after : Upto text (o + length (name_line x)) (bytes_of (after_name form n ds x))
        after = upto_more (o + length (name_line x)) (name_line x) u (e ∙ ap (λ (k : List ℕ). name_line x ++ k) (sym (sym (drop-drop (length (name_line x)) o text) ∙ ap (drop (length (name_line x))) e ∙ drop-append_seam (name_line x) more))) refl

-- at the whole text
lines_said : {r x : Refusal} → ◌≡◌ {A = Result ℕ Refusal} (Err x) (Err r) → x ≡ r
lines_said h = cc h

module _ (L : Limits) (seven : SevenDigits L) (text : List ℕ) where
  first_small : (form : ℕ) → form ≤ 2 → small (first_line form) ≡ true
  first_small form two = rw (lt-ltb (48 + form) 256 (omega (arith, two))) refl

  start_explained : eqb (form_at L text) 0 ≡ true → Explained L text (Form 0)
  start_explained z = here L text 0 at_first (NoLine L) (upto_start text) tt (λ form some known (more, e).
      let f = form_back L text form some (omega (arith, known, seven.form)) known (begins_at text 0 (first_line form) more (omega arith) e) in
      omega (arith, some, f, eqb-true (form_at L text) 0 z))

  module _ (form : ℕ) (k : FormRead L text form) where
    upto_form : Upto text 7 (bytes_of (after_form form))
    upto_form = upto_line (first_line form) (first_small form k.most) k.there (upto_start text)

    -- after the line `agents=`
    module _ (v : ℕ) (some : 1 ≤ v) (most : v ≤ L.drones) (there : is_at text 7 (count_line agents_key v) ≡ true) where
      abbrev first_drone : ℕ
      first_drone = 7 + length (count_line agents_key v)

      upto_drones : (ds : List Route) → InLimitsFrom L form [] 0 (small_names ds) → (e : ℕ) → Stands text first_drone (route_lines form ds) e → Upto text e (bytes_of (after_drones form v ds))
      upto_drones ds within e w = subst (λ (i : ℕ). Upto text i (bytes_of (after_drones form v ds))) (sym w.next_is)
          (upto_line (route_lines form ds) (routes_small L form ds [] 0 within) w.there (upto_line (count_line agents_key v) (count_small agents_key v refl) there upto_form))

      all_in_lem : (ds : List Route) → length ds ≡ v → InLimitsFrom L form [] 0 (small_names ds) → InLimits L form (small_names ds)
      all_in_lem ds many within = let m = names_many ds in (omega (arith, m, many, some), omega (arith, m, many, most), within, k.some, k.known)

      end_explained : (ds : List Route) → length ds ≡ v → InLimitsFrom L form [] 0 (small_names ds) → (e t : ℕ) → Stands text first_drone (route_lines form ds) e → (r : Refusal) → ending text v (read_to e t) ≡ Err r → Explained L text r
      end_explained ds many within e t w r h = by_cases (is_at text e last_line)
          (λ last. by_cases (eqb (e + 9) (length text))
          (λ q. absurd (let z : ◌≡◌ {A = ℕ} 0 1 = cc (rw (last, q) at h) in omega arith))
          (λ q. let z : Form (e + 9) ≡ r = lines_said (rw (last, q) at h) in
          subst (Explained L text) z (here L text (e + 9) (after_end form ds) (NoLine L) (upto_line last_line refl last before) (all_in_lem ds many within) (λ none. let g = eqb-false (e + 9) (length text) q in
          g (ends (upto_line last_line refl last before) none)))))
          (λ last. let z : Form e ≡ r = lines_said (rw last at h) in
          subst (Explained L text) z (here L text e (after_all form ds) (NoLine L) before (all_in_lem ds many within) (λ (more, q). false≢true (sym last ∙ begins_at text e last_line more (upto_in text e _ before) q))))
        where
          before : Upto text e (bytes_of (after_all form ds))
          before = subst (λ (i : ℕ). Upto text e (first_line form ++ count_line agents_key i ++ route_lines form ds)) (sym many) (upto_drones ds within e w)

          ends : Upto text (e + 9) (bytes_of (after_end form ds)) → drop (e + 9) text ≡ [] → e + 9 ≡ length text
          ends u none = omega (arith, upto_in text (e + 9) _ u, sym (length-drop (e + 9) text) ∙ ap length none)

      drones_explained : (r : Refusal) → ending text v (drones_at L form v text first_drone [] 0).answer ≡ Err r → Explained L text r
      drones_explained r h = go (drones_said L form v text first_drone [] 0)
        where
          go : DronesSaid L form v text first_drone [] 0 → Explained L text r
          go (drones_up_to ds few within e w r' said whole) =
              let z : r' ≡ r = lines_said (ap (ending text v) (sym whole) ∙ h) in
              drone_explained L form v ds text e (record { form_some = k.some; form_known = k.known; many = most; more = few; within = within }) k.most (upto_drones ds within e w) r
              (ap (λ (i : ℕ). (drone_at L form text e i (elem (rows_of L (small_names ds)))).answer) (sym (zero-add (length (locations_of ds)))) ∙ said ∙ ap Err z)
          go (drones_each ds many within e t w whole) = end_explained ds many within e t w r (ap (ending text v) (sym whole) ∙ h)

    agents_explained : (r : Refusal) → (agents_of L form text (count_at text 7 agents_key L.drones)).answer ≡ Err r → Explained L text r
    agents_explained r h = go (count_said text 7 agents_key L.drones)
      where
        inside : 7 ≤ length text
        inside = upto_in text 7 (bytes_of (after_form form)) upto_form

        go : CountSaid text 7 agents_key L.drones → Explained L text r
        go (no_count q none) =
            let z : Form 7 ≡ r = lines_said (rw q at h) in
            subst (Explained L text) z (here L text 7 (after_form form) (NoLine L) upto_form (k.some, k.known) (λ v a (more, e). none v a (begins_at text 7 (count_line agents_key v) more inside e)))
        go (count_out_lem v a there out q) =
            let z : Range 7 ≡ r = lines_said (rw q at h) in
            subst (Explained L text) z (here L text 7 (after_form form) (OutOfRange L) upto_form (k.some, k.known)
            (record { value = v; digits = a; line = (drop (7 + length (count_line agents_key v)) text, at_begins text 7 (count_line agents_key v) (count_small agents_key v refl) there); out = out }))
        go (count_is_lem v a there some most q) = drones_explained v some most there r (rw q at h)

  pub lines_explained : (r : Refusal) → (lines_at L text).answer ≡ Err r → Explained L text r
  unfolding lines_at lines_of_form
  lines_explained r h = by_cases (eqb (form_at L text) 0)
      (λ z. let q : Form 0 ≡ r = lines_said (rw z at h) in subst (Explained L text) q (start_explained z))
      (λ z. agents_explained (form_at L text) (form_some L text (form_at L text) refl z) r (rw z at h))
