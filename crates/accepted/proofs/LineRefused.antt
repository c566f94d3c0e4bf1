-- Lines that are right are read through, and the line after them is refused by what is wrong with it. Assumes nothing.
use mathlib.Core.Path.{◌≡◌, refl, sym, ap, subst, ◌∙◌}
use mathlib.Core.Bool.{Bool, true, false}
use mathlib.Core.List.{List, [], ◌∷◌, ◌++◌, append_assoc}
use Prim.Native.Nat.{ℕ, suc, ◌+◌, ◌-◌, ◌≤◌, ◌<◌}
use native.Mathlib.Nat.{add-zero, zero-add}
use native.Mathlib.Omega.{arith}
use lib.Dec.{eqb}
use borrow.Author.Tests.{lt-ltb, ne_eqb}
use lib.ListN.{length, drop, length-append}
use Rattle.below.proofs.Tests.{by_cases}
use Rattle.tables.specs.Limits.{Limits}
use Rattle.lines.specs.Bytes.{is_at}
use Rattle.lines.specs.Keys.{first_line, agents_key, stops_key, last_line}
use Rattle.lines.specs.Forms.{form_at}
use Rattle.lines.specs.Numbers.{SevenDigits}
use Rattle.lines.specs.Refusals.{refusal_offset}
use Rattle.lines.specs.Stops.{go_at, StopList, stops_at, stop_line, stop_lines, count_at, count_line}
use Rattle.lines.specs.Names.{small_form, name_line, row_of}
use Rattle.lines.proofs.ByteLaws.{stands_parts}
use Rattle.lines.proofs.FormLaws.{form_some, form_back}
use Rattle.lines.proofs.Letters.{text_name_lem}
use Rattle.lines.proofs.StopCases.{stops_bad}
use Rattle.lines.proofs.StopRoundTrip.{count_back}
use Rattle.lines.specs.declared.refusal.Refusal.{Refusal}
use Rattle.lines.specs.declared.refusal.Refusal.TheVariants.{Form, Range, Name, SameName, TooManyStops}
use Rattle.text.specs.LinesRead.{LinesRead, stops_end, stops_read as stops_lines_read, drone_at, elem, drones_at, ending, agents_of, lines_of_form, lines_at}
use Rattle.text.specs.Written.{Route, route_lines, small_names, rows_of, locations_of, InLimitsFrom, InLimits}
use Rattle.text.proofs.Capitals.{names_many}
use Rattle.text.proofs.DroneCases.{stops_refused, stops_over_lem, stops_in_lem, drone_unnamed, drone_same, drone_in}
use Rattle.accepted.specs.LineFaults.{LinesBefore, at_first, after_form, after_drones, after_name, after_stops, after_all, after_end, bytes_of, DronesRight, NameRight, StopsRight, LinesRight, Begins, NoLine, CountOut, StopOut, OutOfRange, BadNameLine, BadName, SameNameLine, EarlierName, SumOverLine, SumOver, AtLine}
use Rattle.accepted.proofs.LinePlaces.{parts_long, parts_drop, parts_at, begins_at, at_begins, count_small, count_out, CountSaid, no_count, count_out_lem, count_is_lem, count_said}
use Rattle.accepted.proofs.StopPlaces.{stop-small, stop_out, StopSaid, no_stop_lem, stop_out_lem, stop_is, stop_said}
use Rattle.accepted.proofs.NamePlaces.{name_one_line, name_part, name_there, name_wrong, NameSaid, no_name, name_bad_lem, name_good, name_said, named-elem, elem-named}
use Rattle.accepted.proofs.LineFaults.{Wrong}
use Rattle.accepted.proofs.DroneWalk.{stops_through, drones-refused, drones_through}
use Rattle.lines.specs.Stops.{count_read}
use Rattle.lines.specs.declared.numbers.Number.{Number}
use Rattle.std.specs.Prelude.{Result, Err}
use Rattle.text.specs.LinesRead.{read_to}
use Rattle.text.specs.declared.reader.DroneLines.{DroneLines}

-- ---- the lines that are right

-- what is left of a text after some bytes
after-bytes : (text pre line rest : List ℕ) → text ≡ (pre ++ line) ++ rest → text ≡ pre ++ (line ++ rest)
after-bytes text pre line rest e = e ∙ append_assoc pre line rest

module _ (L : Limits) (seven : SevenDigits L) (text : List ℕ) where
  -- the first line
  module _ (form : ℕ) (some : 1 ≤ form) (known : form ≤ L.form) where
    form_through : is_at text 0 (first_line form) ≡ true → (lines_at L text).answer ≡ (agents_of L form text (count_at text 7 agents_key L.drones)).answer
    unfolding lines_at lines_of_form
    form_through h = rw (form_back L text form some (omega (arith, known, seven.form)) known h, ne_eqb form 0 (λ z. omega (arith, z, some))) refl

    -- .. and the lines up to some of the drones
    module _ (n : ℕ) (low : 1 ≤ n) (high : n ≤ L.drones) (ds : List Route) (rest : List ℕ) (within : InLimitsFrom L form [] 0 (small_names ds)) (e : text ≡ (first_line form ++ count_line agents_key n ++ route_lines form ds) ++ rest) where
      abbrev place : ℕ
      place = length (first_line form ++ count_line agents_key n ++ route_lines form ds)

      drones-reached : (k : ℕ) → n ≡ length ds + k → (lines_at L text).answer ≡ ending text n (drones_at L form k text place (rows_of L (small_names ds)) (length (locations_of ds))).answer
      drones-reached k many =
          let i = parts_at text (first_line form ++ count_line agents_key n ++ route_lines form ds) rest e in
          let w = stands_parts text 0 (first_line form ++ count_line agents_key n) (route_lines form ds) i in
          let y = stands_parts text 0 (first_line form) (count_line agents_key n) w.0 in
          let m : 0 + length (first_line form ++ count_line agents_key n) ≡ 7 + length (count_line agents_key n) = simp length-append (omega arith) in
          let o : 7 + length (count_line agents_key n) + length (route_lines form ds) ≡ place = simp length-append (omega arith) in
          let c = count_back text 7 agents_key L.drones n low high (omega (arith, high, seven.drones)) y.1 in
          let t = drones_through L form k ds text (7 + length (count_line agents_key n)) [] 0 seven within (rw m at w.1) in
          form_through y.0
          ∙ ap (λ (x : Result Number Refusal). (agents_of L form text x).answer) c
          ∙ ap (ending text n) (ap (λ (x : ℕ). (drones_at L form x text (7 + length (count_line agents_key n)) [] 0).answer) many ∙ t ∙ (λ j. (drones_at L form k text (o j) (rows_of L (small_names ds)) (zero-add (length (locations_of ds)) j)).answer))

      drone_reached : length ds < n → (r : Refusal) → (drone_at L form text place (length (locations_of ds)) (elem (rows_of L (small_names ds)))).answer ≡ Err r → (lines_at L text).answer ≡ Err r
      drone_reached more r h =
          drones-reached (suc (n - length ds - 1)) (omega (arith, more))
          ∙ ap (ending text n) (drones-refused L form (n - length ds - 1) text place (rows_of L (small_names ds)) (length (locations_of ds)) r h)

-- ---- the lines of a drone

module _ (L : Limits) (seven : SevenDigits L) (text : List ℕ) (form n : ℕ) (ds : List Route) (right : DronesRight L form n ds) where
  abbrev pre : List ℕ
  pre = bytes_of (after_drones form n ds)

  abbrev total : ℕ
  total = length (locations_of ds)

  abbrev earlier : List ℕ → Bool
  earlier = elem (rows_of L (small_names ds))

  reached : (rest : List ℕ) → text ≡ pre ++ rest → (r : Refusal) → (drone_at L form text (length pre) total earlier).answer ≡ Err r → (lines_at L text).answer ≡ Err r
  reached rest e = drone_reached L seven text form right.form_some right.form_known n (omega (arith, right.more)) right.many ds rest right.within e right.more

  -- at the line `name=`
  module _ (rest : List ℕ) (e : text ≡ pre ++ rest) where
    there : drop (length pre) text ≡ rest
    there = parts_drop text pre rest e

    in_text : length pre ≤ length text
    in_text = omega (arith, parts_long text pre rest e)

    name_form : NoLine L (after_drones form n ds) rest → (lines_at L text).answer ≡ Err (Form (length pre))
    name_form wrong = reached rest e (Form (length pre)) (go (name_said L text (length pre) in_text))
      where
        go : NameSaid L text (length pre) → (drone_at L form text (length pre) total earlier).answer ≡ Err (Form (length pre))
        go (no_name q none) = ap (λ (k : LinesRead (Result DroneLines Refusal)). k.answer) (drone_unnamed L form text (length pre) total earlier _ refl (Form (length pre)) q)
        go (name_bad_lem x more one k bad q) = absurd (wrong x one (more, sym there ∙ k))
        go (name_good x more one k good) = absurd (wrong x one (more, sym there ∙ k))

    name_bad : BadNameLine L rest → (lines_at L text).answer ≡ Err (Name (length pre))
    name_bad b = let (more, k) = b.line in
        reached rest e (Name (length pre)) (ap (λ (f : LinesRead (Result DroneLines Refusal)). f.answer)
        (drone_unnamed L form text (length pre) total earlier _ refl (Name (length pre)) (name_wrong L text (length pre) b.text more in_text b.one_line (there ∙ k) b.bad)))

    name_same : SameNameLine L ds rest → (lines_at L text).answer ≡ Err (SameName (length pre))
    name_same b = let (more, k) = b.line in
        let one = name_one_line L b.text b.good in
        let q = name_there L text (length pre) b.text more in_text one (there ∙ k) b.good in
        let p = name_part L text (length pre) b.text more in_text one (there ∙ k) in
        reached rest e (SameName (length pre)) (ap (λ (f : LinesRead (Result DroneLines Refusal)). f.answer)
        (drone_same L form text (length pre) total earlier _ refl (length pre + 5) (length pre + 5 + length b.text) (row_of L (small_form b.text)) q (ap (λ (i : List ℕ). row_of L (small_form i)) (sym p)) (named-elem L ds b.text b.same)))

  -- after it
  module _ (x : List ℕ) (named : NameRight L ds x) (rest : List ℕ) (e : text ≡ (pre ++ name_line x) ++ rest) where
    abbrev count_place : ℕ
    count_place = length (pre ++ name_line x)

    new : earlier (row_of L (small_form x)) ≡ false
    new = by_cases (earlier (row_of L (small_form x))) (λ t. absurd (named.new (elem-named L form ds [] 0 x right.within (sym (text_name_lem L x) ∙ named.good) t))) (λ t. t)

    named-there : drop (length pre) text ≡ name_line x ++ rest
    named-there = parts_drop text pre (name_line x ++ rest) (after-bytes text pre (name_line x) rest e)

    stops_reached : (r : Refusal) → (stops_lines_read L form text count_place total).answer ≡ Err r → (lines_at L text).answer ≡ Err r
    stops_reached r h =
        let in_text : length pre ≤ length text = omega (arith, parts_long text pre (name_line x ++ rest) (after-bytes text pre (name_line x) rest e)) in
        let one = name_one_line L x named.good in
        let q = name_there L text (length pre) x rest in_text one named-there named.good in
        let p = name_part L text (length pre) x rest in_text one named-there in
        let o : length pre + 5 + length x + 1 ≡ count_place = simp length-append (omega arith) in
        reached (name_line x ++ rest) (after-bytes text pre (name_line x) rest e) r
        (ap (λ (f : LinesRead (Result DroneLines Refusal)). f.answer) (drone_in L form text (length pre) total earlier _ refl (length pre + 5) (length pre + 5 + length x) (row_of L (small_form x)) q (ap (λ (i : List ℕ). row_of L (small_form i)) (sym p)) new)
        ∙ ap (λ (i : ℕ). (stops_lines_read L form text i total).answer) o ∙ h)

    count_there : drop count_place text ≡ rest
    count_there = parts_drop text (pre ++ name_line x) rest e

    count_in_text : count_place ≤ length text
    count_in_text = omega (arith, parts_long text (pre ++ name_line x) rest e)

    -- at the line `stops=`
    stops_form : NoLine L (after_name form n ds x) rest → (lines_at L text).answer ≡ Err (Form count_place)
    stops_form wrong = stops_reached (Form count_place) (go (count_said text count_place stops_key L.stops))
      where
        begun : (v : ℕ) → is_at text count_place (count_line stops_key v) ≡ true → Begins rest (count_line stops_key v)
        begun v k = (drop (count_place + length (count_line stops_key v)) text, sym count_there ∙ at_begins text count_place (count_line stops_key v) (count_small stops_key v refl) k)

        go : CountSaid text count_place stops_key L.stops → (stops_lines_read L form text count_place total).answer ≡ Err (Form count_place)
        go (no_count q none) = ap (λ (f : LinesRead (Result DroneLines Refusal)). f.answer) (stops_refused L form text count_place total _ refl (Form count_place) q)
        go (count_out_lem v a k out q) = absurd (wrong v a (begun v k))
        go (count_is_lem v a k some most q) = absurd (wrong v a (begun v k))

    stops_range : CountOut L.stops stops_key rest → (lines_at L text).answer ≡ Err (Range count_place)
    stops_range c = let (more, k) = c.line in
        stops_reached (Range count_place) (ap (λ (f : LinesRead (Result DroneLines Refusal)). f.answer) (stops_refused L form text count_place total _ refl (Range count_place)
        (count_out text count_place stops_key L.stops c.value c.digits (begins_at text count_place (count_line stops_key c.value) more count_in_text (count_there ∙ k)) c.out)))

    count_is : (v : ℕ) → 1 ≤ v → v ≤ L.stops → Begins rest (count_line stops_key v) → count_at text count_place stops_key L.stops ≡ count_read v (count_place + length (count_line stops_key v))
    count_is v some most (more, k) = count_back text count_place stops_key L.stops v some most (omega (arith, most, seven.stops)) (begins_at text count_place (count_line stops_key v) more count_in_text (count_there ∙ k))

    stops_sum : SumOverLine L ds rest → (lines_at L text).answer ≡ Err (TooManyStops count_place)
    stops_sum c = stops_reached (TooManyStops count_place) (ap (λ (f : LinesRead (Result DroneLines Refusal)). f.answer)
        (stops_over_lem L form text count_place total _ refl c.value (count_place + length (count_line stops_key c.value)) (count_is c.value c.some c.most c.line) (omega (arith, c.over, c.most))))

  -- at a line `go=`
  module _ (m : ℕ) (d : Route) (named : NameRight L ds d.name) (stops : StopsRight L form ds m d) (rest : List ℕ)
      (e : text ≡ (pre ++ name_line d.name ++ count_line stops_key m ++ stop_lines form d.locations d.times d.legs) ++ rest) where
    abbrev before : List ℕ
    before = pre ++ name_line d.name

    abbrev lines : List ℕ
    lines = stop_lines form d.locations d.times d.legs

    abbrev go_place_lem : ℕ
    go_place_lem = length (before ++ count_line stops_key m ++ lines)

    counted_here : text ≡ before ++ (count_line stops_key m ++ (lines ++ rest))
    counted_here = after-bytes text (before ++ count_line stops_key m) lines rest e ∙ append_assoc before (count_line stops_key m) (lines ++ rest)

    go-reached : (r : Refusal) → go_at L form (length d.locations) text go_place_lem ≡ Err r → (lines_at L text).answer ≡ Err r
    go-reached r h =
        let s = length d.locations in
        let k = m - s - 1 in
        let few : total + m ≤ L.stops = stops.few in
        let c = count_is d.name named (count_line stops_key m ++ (lines ++ rest)) counted_here m stops.some (omega (arith, few)) (lines ++ rest, refl) in
        let b : List ℕ = before ++ count_line stops_key m in
        let p : length before + length (count_line stops_key m) ≡ length b = sym (length-append before (count_line stops_key m)) in
        let q : length b + length lines ≡ go_place_lem = sym (length-append b lines) in
        let stand = (stands_parts text 0 b lines (parts_at text (b ++ lines) rest e)).1 in
        let t = stops_through L form 0 (suc k) d.locations d.times d.legs text (length before + length (count_line stops_key m)) seven stops.range (subst (λ (i : ℕ). is_at text i lines ≡ true) (zero-add (length b) ∙ sym p) stand) in
        let last = ap (λ (f : StopList). f.answer) (stops_bad L form s (suc k) text go_place_lem _ r (omega arith) refl h) in
        let enough : m ≡ s + suc k = omega (arith, stops.more) in
        stops_reached d.name named (count_line stops_key m ++ (lines ++ rest)) counted_here r
        (ap (λ (f : LinesRead (Result DroneLines Refusal)). f.answer) (stops_in_lem L form text (length before) total _ refl m (length before + length (count_line stops_key m)) c few)
        ∙ ap (stops_end (total + m))
        (ap (λ (i : ℕ). (stops_at L form 0 i text (length before + length (count_line stops_key m))).answer) enough
        ∙ t ∙ (λ i. (stops_at L form (zero-add s i) (suc k) text (ap (λ (j : ℕ). j + length lines) p i)).answer) ∙ ap (λ (i : ℕ). (stops_at L form s (suc k) text i).answer) q ∙ last))

    go-there : drop go_place_lem text ≡ rest
    go-there = parts_drop text (before ++ count_line stops_key m ++ lines) rest e

    go_in_text : go_place_lem ≤ length text
    go_in_text = omega (arith, parts_long text (before ++ count_line stops_key m ++ lines) rest e)

    go_form : NoLine L (after_stops form n ds m d) rest → (lines_at L text).answer ≡ Err (Form go_place_lem)
    go_form wrong = go-reached (Form go_place_lem) (go (stop_said L form (length d.locations) text go_place_lem right.form_some (omega (arith, right.form_known, seven.form))))
      where
        begun : (l t g : ℕ) → is_at text go_place_lem (stop_line form l t g) ≡ true → Begins rest (stop_line form l t g)
        begun l t g k = (drop (go_place_lem + length (stop_line form l t g)) text, sym go-there ∙ at_begins text go_place_lem (stop_line form l t g) (stop-small form l t g) k)

        go : StopSaid L form (length d.locations) text go_place_lem → go_at L form (length d.locations) text go_place_lem ≡ Err (Form go_place_lem)
        go (no_stop_lem q none) = q
        go (stop_out_lem l t g a b c k out q) = absurd (wrong l t g a b c (begun l t g k))
        go (stop_is l t g p a b c k q) = absurd (wrong l t g a b c (begun l t g k))

    go_range : StopOut L form (length d.locations) rest → (lines_at L text).answer ≡ Err (Range go_place_lem)
    go_range c = let (more, k) = c.line in
        go-reached (Range go_place_lem) (stop_out L form (length d.locations) text go_place_lem c.location c.time c.leg c.location_digits c.time_digits c.leg_digits
        (begins_at text go_place_lem (stop_line form c.location c.time c.leg) more go_in_text (go-there ∙ k)) c.out)

-- ---- the other lines

module _ (L : Limits) (seven : SevenDigits L) (text : List ℕ) where
  -- the first line
  start_form : NoLine L at_first text → (lines_at L text).answer ≡ Err (Form 0)
  unfolding lines_at lines_of_form
  start_form wrong = by_cases (eqb (form_at L text) 0)
      (λ z. rw z refl)
      (λ z. let k = form_some L text (form_at L text) refl z in
      absurd (wrong (form_at L text) k.some k.known (drop 7 text, at_begins text 0 (first_line (form_at L text)) (rw (lt-ltb (48 + form_at L text) 256 (omega (arith, k.most))) refl) k.there)))

  -- the line `agents=`
  module _ (form : ℕ) (some : 1 ≤ form) (known : form ≤ L.form) (rest : List ℕ) (e : text ≡ first_line form ++ rest) where
    agents_reached : (lines_at L text).answer ≡ (agents_of L form text (count_at text 7 agents_key L.drones)).answer
    agents_reached = form_through L seven text form some known (parts_at text (first_line form) rest e)

    agents_there : drop 7 text ≡ rest
    agents_there = parts_drop text (first_line form) rest e

    agents_in_text : 7 ≤ length text
    agents_in_text = omega (arith, parts_long text (first_line form) rest e)

    agents_form : NoLine L (after_form form) rest → (lines_at L text).answer ≡ Err (Form 7)
    agents_form wrong = agents_reached ∙ go (count_said text 7 agents_key L.drones)
      where
        begun : (v : ℕ) → is_at text 7 (count_line agents_key v) ≡ true → Begins rest (count_line agents_key v)
        begun v k = (drop (7 + length (count_line agents_key v)) text, sym agents_there ∙ at_begins text 7 (count_line agents_key v) (count_small agents_key v refl) k)

        go : CountSaid text 7 agents_key L.drones → (agents_of L form text (count_at text 7 agents_key L.drones)).answer ≡ Err (Form 7)
        go (no_count q none) = rw q refl
        go (count_out_lem v a k out q) = absurd (wrong v a (begun v k))
        go (count_is_lem v a k low high q) = absurd (wrong v a (begun v k))

    agents_range : CountOut L.drones agents_key rest → (lines_at L text).answer ≡ Err (Range 7)
    agents_range c = let (more, k) = c.line in
        let q = count_out text 7 agents_key L.drones c.value c.digits (begins_at text 7 (count_line agents_key c.value) more agents_in_text (agents_there ∙ k)) c.out in
        agents_reached ∙ rw q refl

  -- the last line, and what follows it
  module _ (form : ℕ) (ds : List Route) (within : InLimits L form (small_names ds)) where
    abbrev all : List ℕ
    all = bytes_of (after_all form ds)

    all_reached : (rest : List ℕ) → text ≡ all ++ rest → (lines_at L text).answer ≡ ending text (length ds) (read_to (length all) (length (locations_of ds)))
    unfolding drones_at
    all_reached rest e = let m = names_many ds in
        drones-reached L seven text form within.3 within.4 (length ds) (omega (arith, m, within.0)) (omega (arith, m, within.1)) ds rest within.2 e 0 (sym (add-zero (length ds)))

    last_form : (rest : List ℕ) → text ≡ all ++ rest → NoLine L (after_all form ds) rest → (lines_at L text).answer ≡ Err (Form (length all))
    last_form rest e wrong = all_reached rest e ∙ by_cases (is_at text (length all) last_line)
        (λ q. absurd (wrong (drop (length all + 9) text, sym (parts_drop text all rest e) ∙ at_begins text (length all) last_line refl q)))
        (λ q. rw q refl)

    surplus_form : (rest : List ℕ) → text ≡ (all ++ last_line) ++ rest → NoLine L (after_end form ds) rest → (lines_at L text).answer ≡ Err (Form (length (all ++ last_line)))
    surplus_form rest e wrong =
        let k = after-bytes text all last_line rest e in
        let in_text : length all ≤ length text = omega (arith, parts_long text all (last_line ++ rest) k) in
        let q = begins_at text (length all) last_line rest in_text (parts_drop text all (last_line ++ rest) k) in
        let l : length all + 9 ≡ length (all ++ last_line) = sym (length-append all last_line) in
        let far : eqb (length all + 9) (length text) ≡ false = ne_eqb (length all + 9) (length text) (λ z. wrong (none rest (omega (arith, z, l, parts_long text (all ++ last_line) rest e)))) in
        all_reached (last_line ++ rest) k ∙ rw (q, far) (ap (λ (i : ℕ). Err (Form i)) l)
      where
        none : (r : List ℕ) → length r ≡ 0 → r ≡ []
        none [] h = refl
        none (b ∷ r) h = absurd (omega (arith, h))

  -- ---- each refusal

  by_form : (b : LinesBefore) (rest : List ℕ) → text ≡ bytes_of b ++ rest → LinesRight L b → NoLine L b rest → (lines_at L text).answer ≡ Err (Form (length (bytes_of b)))
  by_form at_first rest e right wrong = start_form (subst (NoLine L at_first) (sym e) wrong)
  by_form (after_form form) rest e right wrong = agents_form form right.0 right.1 rest e wrong
  by_form (after_drones form n ds) rest e right wrong = name_form L seven text form n ds right rest e wrong
  by_form (after_name form n ds x) rest e right wrong = stops_form L seven text form n ds right.0 x right.1 rest e wrong
  by_form (after_stops form n ds m d) rest e right wrong = go_form L seven text form n ds right.0 m d right.1 right.2 rest e wrong
  by_form (after_all form ds) rest e right wrong = last_form form ds right rest e wrong
  by_form (after_end form ds) rest e right wrong = surplus_form form ds right rest e wrong

  by_range : (b : LinesBefore) (rest : List ℕ) → text ≡ bytes_of b ++ rest → LinesRight L b → OutOfRange L b rest → (lines_at L text).answer ≡ Err (Range (length (bytes_of b)))
  by_range at_first rest e right wrong = absurd wrong
  by_range (after_form form) rest e right wrong = agents_range form right.0 right.1 rest e wrong
  by_range (after_drones form n ds) rest e right wrong = absurd wrong
  by_range (after_name form n ds x) rest e right wrong = stops_range L seven text form n ds right.0 x right.1 rest e wrong
  by_range (after_stops form n ds m d) rest e right wrong = go_range L seven text form n ds right.0 m d right.1 right.2 rest e wrong
  by_range (after_all form ds) rest e right wrong = absurd wrong
  by_range (after_end form ds) rest e right wrong = absurd wrong

  by_name : (b : LinesBefore) (rest : List ℕ) → text ≡ bytes_of b ++ rest → LinesRight L b → BadName L b rest → (lines_at L text).answer ≡ Err (Name (length (bytes_of b)))
  by_name at_first rest e right wrong = absurd wrong
  by_name (after_form form) rest e right wrong = absurd wrong
  by_name (after_drones form n ds) rest e right wrong = name_bad L seven text form n ds right rest e wrong
  by_name (after_name form n ds x) rest e right wrong = absurd wrong
  by_name (after_stops form n ds m d) rest e right wrong = absurd wrong
  by_name (after_all form ds) rest e right wrong = absurd wrong
  by_name (after_end form ds) rest e right wrong = absurd wrong

  by_same : (b : LinesBefore) (rest : List ℕ) → text ≡ bytes_of b ++ rest → LinesRight L b → EarlierName L b rest → (lines_at L text).answer ≡ Err (SameName (length (bytes_of b)))
  by_same at_first rest e right wrong = absurd wrong
  by_same (after_form form) rest e right wrong = absurd wrong
  by_same (after_drones form n ds) rest e right wrong = name_same L seven text form n ds right rest e wrong
  by_same (after_name form n ds x) rest e right wrong = absurd wrong
  by_same (after_stops form n ds m d) rest e right wrong = absurd wrong
  by_same (after_all form ds) rest e right wrong = absurd wrong
  by_same (after_end form ds) rest e right wrong = absurd wrong

  by_sum : (b : LinesBefore) (rest : List ℕ) → text ≡ bytes_of b ++ rest → LinesRight L b → SumOver L b rest → (lines_at L text).answer ≡ Err (TooManyStops (length (bytes_of b)))
  by_sum at_first rest e right wrong = absurd wrong
  by_sum (after_form form) rest e right wrong = absurd wrong
  by_sum (after_drones form n ds) rest e right wrong = absurd wrong
  by_sum (after_name form n ds x) rest e right wrong = stops_sum L seven text form n ds right.0 x right.1 rest e wrong
  by_sum (after_stops form n ds m d) rest e right wrong = absurd wrong
  by_sum (after_all form ds) rest e right wrong = absurd wrong
  by_sum (after_end form ds) rest e right wrong = absurd wrong

  pub lines_refused : (r : Refusal) → AtLine text (refusal_offset r) L (Wrong L r) → (lines_at L text).answer ≡ Err r
  lines_refused (Form o) a = by_form a.before a.rest a.text_is a.right a.wrong ∙ ap (λ (i : ℕ). Err (Form i)) (sym a.offset_is)
  lines_refused (Range o) a = by_range a.before a.rest a.text_is a.right a.wrong ∙ ap (λ (i : ℕ). Err (Range i)) (sym a.offset_is)
  lines_refused (Name o) a = by_name a.before a.rest a.text_is a.right a.wrong ∙ ap (λ (i : ℕ). Err (Name i)) (sym a.offset_is)
  lines_refused (SameName o) a = by_same a.before a.rest a.text_is a.right a.wrong ∙ ap (λ (i : ℕ). Err (SameName i)) (sym a.offset_is)
  lines_refused (TooManyStops o) a = by_sum a.before a.rest a.text_is a.right a.wrong ∙ ap (λ (i : ℕ). Err (TooManyStops i)) (sym a.offset_is)
