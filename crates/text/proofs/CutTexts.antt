-- Texts cut off where a line begins: the lines before it are read as they were, and it is absent. A text that is refused is cut off at the refusal's offset, a text of well-formed
-- lines at any of its lines.
use Prim.Native.Nat.{ℕ, zero, suc, ◌+◌, ◌^◌, ◌≤◌, ◌<◌}
use native.Mathlib.Omega.{arith}
use mathlib.Core.Path.{◌≡◌, refl, sym, ap, ◌∙◌, subst}
use mathlib.Core.Logic.{◌⊎◌, inl, inr}
use mathlib.Core.List.{List, [], ◌∷◌, ◌++◌}
use mathlib.Core.Bool.{Bool, true, false, cond}
use lib.Dec.{ltb, eqb}
use borrow.Author.Tests.{ltb-true, ltb-false, eqb-true, eq-eqb, ne_eqb}
use lib.ListN.{length, get_or, take, length-append}
use lib.Seq.{get_or-take, length-take-le}
use Rattle.below.proofs.Tests.{by_cases}
use Rattle.tables.specs.Limits.{Limits, limits}
use Rattle.lines.specs.Keys.{first_line, agents_key, name_key, stops_key, go_key, last_line}
use Rattle.lines.specs.Forms.{form_at}
use Rattle.lines.specs.Bytes.{byte_at, is_at}
use Rattle.lines.specs.Numbers.{digits_of, field, SevenDigits}
use Rattle.lines.specs.Refusals.{refusal_offset}
use Rattle.lines.specs.Stops.{go_at, stops_from, stops_at, stop_line, count_at, count_line, count_read, go_stop}
use Rattle.lines.specs.Names.{small_form, part, name_at, name_line, row_of, name_span}
use Rattle.lines.specs.declared.refusal.Refusal.{Refusal}
use Rattle.lines.specs.declared.refusal.Refusal.TheVariants.{Form, TooManyStops, SameName}
use Rattle.lines.specs.declared.stops.GoLine.{GoLine}
use Rattle.lines.specs.declared.names.NameSpan.{NameSpan}
use Rattle.lines.proofs.ByteLaws.{both, none_at, Stands}
use Rattle.lines.proofs.NumberRoundTrip.{limits_seven}
use Rattle.lines.proofs.StopCases.{go_read, count_range}
use Rattle.lines.proofs.FormLaws.{FormRead, form_some, form_back, form_none}
use Rattle.lines.proofs.LegLaws.{stop_front_lem}
use Rattle.lines.proofs.StopRoundTrip.{go-stands, go_line_stands, go_back, count_stands, count_back}
use Rattle.lines.proofs.NameRoundTrip.{name_read, name_stands, name_back}
use Rattle.text.specs.Claims.{CutAtFault, AbsentAtLength}
use Rattle.text.specs.LinesRead.{LinesRead, nothing, stops_end, stops_given, stops_of, stops_read, with_row, drone_of, drone_at, elem, and_then, drones_at, ending, agents_of, lines_of_form, lines_at, read_to}
use Rattle.text.specs.Written.{route_line}
use Rattle.text.specs.declared.reader.DroneLines.{DroneLines}
use Rattle.text.proofs.DroneTaken.{drone_taken}
use Rattle.text.proofs.WrittenIsRead.{drone_back}
use Rattle.text.proofs.LineStarts.{Begins, begins_first, begins_next, no_feed_lem, none_inside, none_in_line, feed_join, digits_feed, name_feed}
use Rattle.text.proofs.SmallTexts.{go-next, count_next, name_next, drone_next, drones-next}
use Rattle.text.proofs.Offsets.{count_told, go_told, name_told, offsets_begin_lines}
use Rattle.std.specs.Prelude.{Err, Ok, Result}
use Rattle.lines.specs.declared.numbers.Number.{Number}
use Rattle.text.proofs.DroneCases.{read_to_same}

-- the first line has no line feed before its end
first_feed : (form : ℕ) → form ≤ 2 → no_feed_lem (112 ∷ 108 ∷ 97 ∷ 110 ∷ 61 ∷ (48 + form) ∷ []) ≡ true
first_feed zero h = refl
first_feed (suc zero) h = refl
first_feed (suc (suc zero)) h = refl
first_feed (suc (suc (suc form))) h = absurd (omega (arith, h))

module _ (L : Limits) (form : ℕ) (u : SevenDigits L) (text : List ℕ) (o : ℕ) (inside : o ≤ length text) where
  abbrev cut : List ℕ
  cut = take o text

  cut_length : length cut ≡ o
  cut_length = length-take-le o text inside

  -- ---- bytes before the cut

  bytes-kept : (at : ℕ) (bytes : List ℕ) → at + length bytes ≤ o → is_at text at bytes ≡ true → is_at cut at bytes ≡ true
  unfolding is_at byte_at
  bytes-kept at [] l h = refl
  bytes-kept at (b ∷ bytes) l h =
      let w = both (eqb (get_or text at 256) b) (is_at text (at + 1) bytes) h in
      rw (get_or-take o text at 256 (omega (arith, l)), w.0) (bytes-kept (at + 1) bytes (omega (arith, l)) w.1)

  line_kept : (at : ℕ) (bytes : List ℕ) (e : ℕ) → e ≤ o → Stands text at bytes e → is_at cut at bytes ≡ true
  line_kept at bytes e l s = bytes-kept at bytes (omega (arith, l, s.next_is)) s.there

  count_kept : (at : ℕ) (key : List ℕ) (most v e : ℕ) → most < 10 ^ 7 → e ≤ o → count_at text at key most ≡ count_read v e → count_at cut at key most ≡ count_read v e
  count_kept at key most v e m l h =
      let s = count_stands text at key most v e h in
      let r = count_range text at key most v e h in
      count_back cut at key most v r.0 r.1 (omega (arith, r.1, m)) (line_kept at (count_line key v) e l s) ∙ ap (count_read v) (sym s.next_is)

  go-kept : (s at l t g e : ℕ) → e ≤ o → go_at L form s text at ≡ go_stop l t g e → go_at L form s cut at ≡ go_stop l t g e
  go-kept s at l t g e q h =
      let w = go-stands L form s text at l t g e h in
      let r = go_read L form s text at l t g e h in
      go_back L form s cut at l t g u r.near r.early r.right (line_kept at (stop_line form l t g) e q w) ∙ ap (go_stop l t g) (sym w.next_is)

  name_kept : (at s p : ℕ) → p + 1 ≤ o → name_at L text at ≡ name_span s p → (name_at L cut at ≡ name_span s p) × (part cut s p ≡ part text s p)
  name_kept at s p l h =
      let r = name_read L text at s p h in
      let w = name_stands L text at s p r in
      let x : List ℕ = part text s p in
      let b = name_back L cut at x r.good (line_kept at (name_line x) (p + 1) l w) in
      let es : at + 5 ≡ s = sym r.start_is in
      let n : at + length (name_line x) ≡ at + 5 + length x + 1 = simp length-append (omega arith) in
      let ee : at + 5 + length x ≡ p = omega (arith, n, w.next_is) in
      (b.0 ∙ (ap (λ (k : ℕ). name_span k (at + 5 + length x)) es ∙ ap (name_span s) ee), ap (λ (k : ℕ). part cut k p) (sym es) ∙ (ap (part cut (at + 5)) (sym ee) ∙ b.1))

  drone_kept : (at total : ℕ) (taken : List ℕ → Bool) (e t : ℕ) → e ≤ o → (drone_at L form text at total taken).answer ≡ read_to e t
      → (at ≤ e) × ((drone_at L form cut at total taken).rows ≡ (drone_at L form text at total taken).rows) × ((drone_at L form cut at total taken).answer ≡ read_to e t)
  drone_kept at total taken e t l h =
      let d = drone_taken L form text at total taken e t h in
      let b = drone_back L form d.route cut at total taken u d.good d.new d.some d.within d.range (line_kept at (route_line form d.route) e l d.there) in (
        omega (arith, d.there.next_is),
        ap (λ (f : LinesRead (Result DroneLines Refusal)). f.rows) b ∙ sym d.rows_are,
        ap (λ (f : LinesRead (Result DroneLines Refusal)). f.answer) b ∙ (ap (λ (k : ℕ). read_to k (total + length d.route.locations)) (sym d.there.next_is) ∙ ap (read_to e) (sym d.total_is)),
      )

  drones_kept : (n at : ℕ) (earlier : List (List ℕ)) (total e t : ℕ) → e ≤ o → (drones_at L form n text at earlier total).answer ≡ read_to e t → (at ≤ e) × ((drones_at L form n cut at earlier total).answer ≡ read_to e t)
  unfolding drones_at
  drones_kept zero at earlier total e t l h = let q : at ≡ e = (read_to_same h).0 in (omega (arith, q), h)
  drones_kept (suc n) at earlier total e t l h = by_answer (drone_at L form text at total (elem earlier)).answer refl h (λ e' t' h'. drones_kept n e' (earlier ++ (drone_at L form text at total (elem earlier)).rows) t' e t l h')
    where
      by_answer : (d : Result DroneLines Refusal) → (drone_at L form text at total (elem earlier)).answer ≡ d
          → (and_then (drone_at L form text at total (elem earlier)) d (λ e' t'. drones_at L form n text e' (earlier ++ (drone_at L form text at total (elem earlier)).rows) t')).answer ≡ read_to e t
          → ((e' t' : ℕ) → (drones_at L form n text e' (earlier ++ (drone_at L form text at total (elem earlier)).rows) t').answer ≡ read_to e t
          → (e' ≤ e) × ((drones_at L form n cut e' (earlier ++ (drone_at L form text at total (elem earlier)).rows) t').answer ≡ read_to e t))
          → (at ≤ e)
          × ((and_then (drone_at L form cut at total (elem earlier)) (drone_at L form cut at total (elem earlier)).answer (λ e' t'. drones_at L form n cut e' (earlier ++ (drone_at L form cut at total (elem earlier)).rows) t')).answer ≡ read_to e t)
      by_answer (Ok lines) q h ih =
          let w = ih lines.next lines.total h in
          let k = drone_kept at total (elem earlier) lines.next lines.total (omega (arith, w.0, l)) q in
          (omega (arith, w.0, k.0), rw (k.1, k.2) w.1)
      by_answer (Err x) q h ih = absurd (let z : ◌≡◌ {A = ℕ} 0 1 = cc (q, h) in omega arith)

  -- ---- the line at the cut is absent

  absent : (b : ℕ) (key : List ℕ) → b < 256 → is_at cut o (b ∷ key) ≡ false
  absent b key l = none_at cut key o b l (omega (arith, cut_length))

  count_absent : (at b : ℕ) (key : List ℕ) (most : ℕ) → b < 256 → at ≡ o → count_at cut at (b ∷ key) most ≡ Err (Form o)
  unfolding count_at
  count_absent at b key most l p = rw (p, absent b key l) refl

  go_absent : (s at : ℕ) → at ≡ o → go_at L form s cut at ≡ Err (Form o)
  unfolding go_at
  go_absent s at p = rw (p, absent 103 (111 ∷ 61 ∷ []) (omega arith)) refl

  name_absent : (at : ℕ) → at ≡ o → name_at L cut at ≡ Err (Form o)
  unfolding name_at
  name_absent at p = rw (p, absent 110 (97 ∷ 109 ∷ 101 ∷ 61 ∷ []) (omega arith)) refl

  -- a refused drone's answer is that of all drones
  then-refused : (f : LinesRead (Result DroneLines Refusal)) (x : Refusal) (more : ℕ → ℕ → LinesRead (Result DroneLines Refusal)) (d : Result DroneLines Refusal) → f.answer ≡ d → d ≡ Err x → (and_then f d more).answer ≡ Err x
  then-refused f x more (Ok lines) q h = absurd (let z : ◌≡◌ {A = ℕ} 0 1 = cc h in omega arith)
  then-refused f x more (Err y) q h = q ∙ h

  -- ---- the whole text: by what its drones' lines give, and without its first lines

  form_kept : FormRead L text form → 7 ≤ o → form_at L cut ≡ form
  form_kept k l = form_back L cut form k.some k.most k.known (bytes-kept 0 (first_line form) (omega (arith, l)) k.there)

  form_is : FormRead L text form → eqb form 0 ≡ false
  form_is k = ne_eqb form 0 (λ z. omega (arith, z, k.some))

  whole : (n e : ℕ) (d : Result DroneLines Refusal) → FormRead L text form → count_at text 7 agents_key L.drones ≡ count_read n e → e ≤ o → (drones_at L form n cut e [] 0).answer ≡ d → (lines_at L cut).answer ≡ ending cut n d
  unfolding lines_at lines_of_form
  whole n e d k f l h =
      let s : e ≡ 7 + length (count_line agents_key n) = (count_stands text 7 agents_key L.drones n e f).next_is in
      rw (form_kept k (omega (arith, s, l)), form_is k, count_kept 7 agents_key L.drones n e u.drones l f, h) refl

  no_first : 0 ≡ o → (lines_at L cut).answer ≡ Err (Form o)
  unfolding lines_at lines_of_form
  no_first p =
      let z : (f : ℕ) → is_at cut 0 (first_line f) ≡ false = λ f. subst (λ (k : ℕ). is_at cut k (first_line f) ≡ false) (sym p) (absent 112 (108 ∷ 97 ∷ 110 ∷ 61 ∷ (48 + f) ∷ 10 ∷ []) (omega arith)) in
      rw (form_none L cut (z 1) (z 2)) (ap (λ (k : ℕ). Err (Form k)) p)

  no_agents : FormRead L text form → 7 ≡ o → (lines_at L cut).answer ≡ Err (Form o)
  unfolding lines_at lines_of_form
  no_agents k p = rw (form_kept k (omega (arith, p)), form_is k, count_absent 7 97 (103 ∷ 101 ∷ 110 ∷ 116 ∷ 115 ∷ 61 ∷ []) L.drones (omega arith) p) refl

  -- ---- the lines one after another, where the refusal carries the cut

  module _ (r : Refusal) (here : refusal_offset r ≡ o) where
    stops_cut : (s n at : ℕ) → (stops_at L form s n text at).answer ≡ Err r → (at ≤ o) × ((stops_at L form s n cut at).answer ≡ Err (Form o))
    unfolding stops_at
    stops_cut s zero at h = absurd (let z : ◌≡◌ {A = ℕ} 0 1 = cc h in omega arith)
    stops_cut s (suc n) at h = by_line (go_at L form s text at) refl h (λ e h'. stops_cut (suc s) n e h')
      where
        by_line : (x : Result GoLine Refusal) → go_at L form s text at ≡ x → (stops_from x (λ e. stops_at L form (suc s) n text e)).answer ≡ Err r
            → ((e : ℕ) → (stops_at L form (suc s) n text e).answer ≡ Err r → (e ≤ o) × ((stops_at L form (suc s) n cut e).answer ≡ Err (Form o)))
            → (at ≤ o) × ((stops_from (go_at L form s cut at) (λ e. stops_at L form (suc s) n cut e)).answer ≡ Err (Form o))
        by_line (Ok stop) f h ih =
            let w = ih stop.next h in
            (omega (arith, w.0, (go-stands L form s text at stop.location stop.time stop.leg stop.next f).next_is), rw (go-kept s at stop.location stop.time stop.leg stop.next w.0 f) w.1)
        by_line (Err x) f h ih =
            let q : x ≡ r = cc h in
            let p : at ≡ o = sym (go_told L form text s at r (f ∙ ap Err q)).0 ∙ here in
            (omega (arith, p), rw (go_absent s at p) refl)

    read_cut : (at total : ℕ) → (stops_read L form text at total).answer ≡ Err r → (at ≤ o) × ((stops_read L form cut at total).answer ≡ Err (Form o))
    unfolding stops_read
    read_cut at total h = by_count (count_at text at stops_key L.stops) refl h
      where
        at_cut : at ≡ o → (at ≤ o) × ((stops_of L form cut at total (count_at cut at stops_key L.stops)).answer ≡ Err (Form o))
        at_cut p = (omega (arith, p), rw (count_absent at 115 (116 ∷ 111 ∷ 112 ∷ 115 ∷ 61 ∷ []) L.stops (omega arith) p) refl)

        by_lines : (m p : ℕ) → count_at text at stops_key L.stops ≡ count_read m p → ltb L.stops (total + m) ≡ false → (x : Result ℕ Refusal) → (stops_at L form 0 m text p).answer ≡ x → stops_end (total + m) x ≡ Err r
            → (at ≤ o) × ((stops_of L form cut at total (count_at cut at stops_key L.stops)).answer ≡ Err (Form o))
        by_lines m p f c (Ok q) x h = absurd (let z : ◌≡◌ {A = ℕ} 0 1 = cc h in omega arith)
        by_lines m p f c (Err y) x h =
            let q : y ≡ r = cc h in
            let w = stops_cut 0 m p (x ∙ ap Err q) in
            (omega (arith, w.0, (count_stands text at stops_key L.stops m p f).next_is), rw (count_kept at stops_key L.stops m p u.stops w.0 f, c, w.1) refl)

        by_test : (m p : ℕ) → count_at text at stops_key L.stops ≡ count_read m p → (c : Bool) → ltb L.stops (total + m) ≡ c
            → (cond c (nothing form (Err (TooManyStops at))) (stops_given form m total (stops_at L form 0 m text p))).answer ≡ Err r
            → (at ≤ o) × ((stops_of L form cut at total (count_at cut at stops_key L.stops)).answer ≡ Err (Form o))
        by_test m p f true c h = let q : TooManyStops at ≡ r = cc h in at_cut (ap refusal_offset q ∙ here)
        by_test m p f false c h = by_lines m p f c (stops_at L form 0 m text p).answer refl h

        by_count : (c : Result Number Refusal) → count_at text at stops_key L.stops ≡ c → (stops_of L form text at total c).answer ≡ Err r
            → (at ≤ o) × ((stops_of L form cut at total (count_at cut at stops_key L.stops)).answer ≡ Err (Form o))
        by_count (Err x) f h = let q : x ≡ r = cc h in at_cut (sym (count_told L form text at 115 (116 ∷ 111 ∷ 112 ∷ 115 ∷ 61 ∷ []) L.stops r (omega arith) (f ∙ ap Err q)).0 ∙ here)
        by_count (Ok count) f h = by_test count.value count.next f (ltb L.stops (total + count.value)) refl h

    drone_cut : (at total : ℕ) (taken : List ℕ → Bool) → (drone_at L form text at total taken).answer ≡ Err r → (at ≤ o) × ((drone_at L form cut at total taken).answer ≡ Err (Form o))
    unfolding drone_at
    drone_cut at total taken h = by_name (name_at L text at) refl h
      where
        at_cut : at ≡ o → (at ≤ o) × ((drone_of L form cut at total taken (name_at L cut at)).answer ≡ Err (Form o))
        at_cut p = (omega (arith, p), rw (name_absent at p) refl)

        by_test : (s p : ℕ) → name_at L text at ≡ name_span s p → (c : Bool) → taken (row_of L (small_form (part text s p))) ≡ c
            → (cond c (nothing form (Err (SameName at))) (with_row (row_of L (small_form (part text s p))) (stops_read L form text (p + 1) total))).answer ≡ Err r
            → (at ≤ o) × ((drone_of L form cut at total taken (name_at L cut at)).answer ≡ Err (Form o))
        by_test s p f true c h = let q : SameName at ≡ r = cc h in at_cut (ap refusal_offset q ∙ here)
        by_test s p f false c h =
            let w = read_cut (p + 1) total h in
            let k = name_kept at s p w.0 f in
            let n : p + 1 ≡ at + length (name_line (part text s p)) = (name_stands L text at s p (name_read L text at s p f)).next_is in
            (omega (arith, w.0, n), rw (k.0, k.1, c) w.1)

        by_name : (n : Result NameSpan Refusal) → name_at L text at ≡ n → (drone_of L form text at total taken n).answer ≡ Err r → (at ≤ o) × ((drone_of L form cut at total taken (name_at L cut at)).answer ≡ Err (Form o))
        by_name (Err x) f h = let q : x ≡ r = cc h in at_cut (sym (name_told L form text at r (f ∙ ap Err q)).0 ∙ here)
        by_name (Ok span) f h = by_test span.start span.end f (taken (row_of L (small_form (part text span.start span.end)))) refl h

    drones_cut : (n at : ℕ) (earlier : List (List ℕ)) (total : ℕ) → (drones_at L form n text at earlier total).answer ≡ Err r → (at ≤ o) × ((drones_at L form n cut at earlier total).answer ≡ Err (Form o))
    unfolding drones_at
    drones_cut zero at earlier total h = absurd (let z : ◌≡◌ {A = ℕ} 0 1 = cc h in omega arith)
    drones_cut (suc n) at earlier total h = by_answer (drone_at L form text at total (elem earlier)).answer refl h (λ e t h'. drones_cut n e (earlier ++ (drone_at L form text at total (elem earlier)).rows) t h')
      where
        by_answer : (d : Result DroneLines Refusal) → (drone_at L form text at total (elem earlier)).answer ≡ d
            → (and_then (drone_at L form text at total (elem earlier)) d (λ e t. drones_at L form n text e (earlier ++ (drone_at L form text at total (elem earlier)).rows) t)).answer ≡ Err r
            → ((e t : ℕ) → (drones_at L form n text e (earlier ++ (drone_at L form text at total (elem earlier)).rows) t).answer ≡ Err r
            → (e ≤ o) × ((drones_at L form n cut e (earlier ++ (drone_at L form text at total (elem earlier)).rows) t).answer ≡ Err (Form o)))
            → (at ≤ o)
            × ((and_then (drone_at L form cut at total (elem earlier)) (drone_at L form cut at total (elem earlier)).answer (λ e t. drones_at L form n cut e (earlier ++ (drone_at L form cut at total (elem earlier)).rows) t)).answer ≡ Err (Form o))
        by_answer (Ok lines) q h ih =
            let w = ih lines.next lines.total h in
            let k = drone_kept at total (elem earlier) lines.next lines.total w.0 q in
            (omega (arith, w.0, k.0), rw (k.1, k.2) w.1)
        by_answer (Err x) q h ih =
            let w = drone_cut at total (elem earlier) h in
            (w.0, then-refused (drone_at L form cut at total (elem earlier)) (Form o) _ (drone_at L form cut at total (elem earlier)).answer refl w.1)

    -- ---- the whole text

    abbrev Cut : Type 0
    Cut = ((lines_at L cut).answer ≡ Err (Form o)) ⊎ ((n : ℕ) × ((lines_at L cut).answer ≡ Ok n))

    by_ending : (n e : ℕ) → FormRead L text form → count_at text 7 agents_key L.drones ≡ count_read n e → (d : Result DroneLines Refusal) → (drones_at L form n text e [] 0).answer ≡ d → ending text n d ≡ Err r → Cut
    by_ending n e k f (Err x) q h =
        let y : x ≡ r = cc h in
        let w = drones_cut n e [] 0 (q ∙ ap Err y) in
        inl (whole n e (Err (Form o)) k f w.0 w.1)
    by_ending n e k f (Ok lines) q h = by_last (is_at text lines.next last_line) refl h
      where
        by_end : is_at text lines.next last_line ≡ true → (c : Bool) → cond c (Ok n) (Err (Form (lines.next + 9))) ≡ Err r → Cut
        by_end y true h = absurd (let z : ◌≡◌ {A = ℕ} 0 1 = cc h in omega arith)
        by_end y false h =
            let x : Form (lines.next + 9) ≡ r = cc h in
            let z : lines.next + 9 ≡ o = ap refusal_offset x ∙ here in
            let w = drones_kept n e [] 0 lines.next lines.total (omega (arith, z)) q in
            inr (n, whole n e (read_to lines.next lines.total) k f (omega (arith, w.0, z)) w.1 ∙ rw (bytes-kept lines.next last_line (omega (arith, z)) y, eq-eqb (lines.next + 9) (length cut) (z ∙ sym cut_length)) refl)

        by_last : (c : Bool) → is_at text lines.next last_line ≡ c → cond c (cond (eqb (lines.next + 9) (length text)) (Ok n) (Err (Form (lines.next + 9)))) (Err (Form lines.next)) ≡ Err r → Cut
        by_last true y h = by_end y (eqb (lines.next + 9) (length text)) h
        by_last false y h =
            let x : Form lines.next ≡ r = cc h in
            let z : lines.next ≡ o = ap refusal_offset x ∙ here in
            let w = drones_kept n e [] 0 lines.next lines.total (omega (arith, z)) q in
            let v : is_at cut lines.next last_line ≡ false = subst (λ (k : ℕ). is_at cut k last_line ≡ false) (sym z) (absent 101 (110 ∷ 100 ∷ 61 ∷ 112 ∷ 108 ∷ 97 ∷ 110 ∷ 10 ∷ []) (omega arith)) in
            inl (whole n e (read_to lines.next lines.total) k f (omega (arith, w.0, z)) w.1 ∙ rw v (ap (λ (k : ℕ). Err (Form k)) z))

    by_agents : FormRead L text form → (c : Result Number Refusal) → count_at text 7 agents_key L.drones ≡ c → (agents_of L form text c).answer ≡ Err r → Cut
    by_agents k (Err x) f h =
        let q : x ≡ r = cc h in
        inl (no_agents k (sym (count_told L form text 7 97 (103 ∷ 101 ∷ 110 ∷ 116 ∷ 115 ∷ 61 ∷ []) L.drones r (omega arith) (f ∙ ap Err q)).0 ∙ here))
    by_agents k (Ok count) f h = by_ending count.value count.next k f (drones_at L form count.value text count.next [] 0).answer refl h

    by_form : form_at L text ≡ form → (c : Bool) → eqb form 0 ≡ c → (cond c (nothing form (Err (Form 0))) (agents_of L form text (count_at text 7 agents_key L.drones))).answer ≡ Err r → Cut
    by_form e true k h = let q : Form 0 ≡ r = cc h in inl (no_first (ap refusal_offset q ∙ here))
    by_form e false k h = by_agents (form_some L text form e k) (count_at text 7 agents_key L.drones) refl h

    lines_cut : form_at L text ≡ form → (lines_of_form L form text).answer ≡ Err r → Cut
    unfolding lines_of_form
    lines_cut e h = by_form e (eqb form 0) refl h

  -- ---- a text of well-formed lines, cut off where a line begins

  module _ (begins : Begins text o) where
    front_feed : (l t g : ℕ) → no_feed_lem (stop_front_lem form l t g) ≡ true
    unfolding stop_front_lem
    front_feed l t g = by_form (eqb form 1)
      where
        place : no_feed_lem (go_key ++ field l 64) ≡ true
        place = feed_join go_key (field l 64) refl (feed_join (digits_of l) (64 ∷ []) (digits_feed 7 l) refl)

        by_form : (c : Bool) → no_feed_lem (cond c (go_key ++ field l 64 ++ digits_of t) (go_key ++ field l 64 ++ field t 64 ++ digits_of g)) ≡ true
        by_form true = feed_join (go_key ++ field l 64) (digits_of t) place (digits_feed 7 t)
        by_form false = feed_join (go_key ++ field l 64 ++ field t 64) (digits_of g) (feed_join (go_key ++ field l 64) (field t 64) place (feed_join (digits_of t) (64 ∷ []) (digits_feed 7 t) refl)) (digits_feed 7 g)

    go-here : (s at l t g e : ℕ) → Begins text at → at ≤ o → o < e → go_at L form s text at ≡ go_stop l t g e → at ≡ o
    go-here s at l t g e b l' m h = none_inside text at e o (stop_front_lem form l t g) b (go_line_stands L form s text at l t g e h) (front_feed l t g) begins l' m

    count_here : (at : ℕ) (key : List ℕ) (most v e : ℕ) → no_feed_lem key ≡ true → Begins text at → at ≤ o → o < e → count_at text at key most ≡ count_read v e → at ≡ o
    count_here at key most v e k b l m h = none_in_line text at e o key (digits_of v) b (count_stands text at key most v e h) (feed_join key (digits_of v) k (digits_feed 7 v)) begins l m

    name_here : (at s p : ℕ) → Begins text at → at ≤ o → o < p + 1 → name_at L text at ≡ name_span s p → at ≡ o
    name_here at s p b l m h =
        let r = name_read L text at s p h in
        none_inside text at (p + 1) o (name_key ++ part text s p) b (name_stands L text at s p r) (feed_join name_key (part text s p) refl (name_feed L (part text s p) r.good)) begins l m

    stops_end_lem : (s n at e : ℕ) → Begins text at → at ≤ o → o < e → (stops_at L form s n text at).answer ≡ Ok e → (stops_at L form s n cut at).answer ≡ Err (Form o)
    unfolding stops_at
    stops_end_lem s zero at e b l m h = let q : at ≡ e = cc h in absurd (omega (arith, q, l, m))
    stops_end_lem s (suc n) at e b l m h = by_line (go_at L form s text at) refl h (λ e' b' l' h'. stops_end_lem (suc s) n e' e b' l' m h')
      where
        by_line : (x : Result GoLine Refusal) → go_at L form s text at ≡ x → (stops_from x (λ e'. stops_at L form (suc s) n text e')).answer ≡ Ok e
            → ((e' : ℕ) → Begins text e' → e' ≤ o → (stops_at L form (suc s) n text e').answer ≡ Ok e → (stops_at L form (suc s) n cut e').answer ≡ Err (Form o))
            → (stops_from (go_at L form s cut at) (λ e'. stops_at L form (suc s) n cut e')).answer ≡ Err (Form o)
        by_line (Ok stop) f h ih = by_cases (ltb o stop.next)
            (λ c. rw (go_absent s at (go-here s at stop.location stop.time stop.leg stop.next b l (ltb-true o stop.next c) f)) refl)
            (λ c. let k = ltb-false o stop.next c in rw (go-kept s at stop.location stop.time stop.leg stop.next k f) (ih stop.next (go-next L form s text at stop.location stop.time stop.leg stop.next f) k h))
        by_line (Err x) f h ih = absurd (let z : ◌≡◌ {A = ℕ} 0 1 = cc h in omega arith)

    read_end : (at total e t : ℕ) → Begins text at → at ≤ o → o < e → (stops_read L form text at total).answer ≡ read_to e t → (stops_read L form cut at total).answer ≡ Err (Form o)
    unfolding stops_read
    read_end at total e t b l n h = by_count (count_at text at stops_key L.stops) refl h
      where
        by_lines : (m p : ℕ) → count_at text at stops_key L.stops ≡ count_read m p → ltb L.stops (total + m) ≡ false → (x : Result ℕ Refusal) → (stops_at L form 0 m text p).answer ≡ x → stops_end (total + m) x ≡ read_to e t
            → (stops_of L form cut at total (count_at cut at stops_key L.stops)).answer ≡ Err (Form o)
        by_lines m p f c (Ok q) x h = by_cases (ltb o p)
            (λ y. rw (count_absent at 115 (116 ∷ 111 ∷ 112 ∷ 115 ∷ 61 ∷ []) L.stops (omega arith) (count_here at stops_key L.stops m p refl b l (ltb-true o p y) f)) refl)
            (λ y.
            let k = ltb-false o p y in
            let w : q ≡ e = (read_to_same h).0 in
            rw (count_kept at stops_key L.stops m p u.stops k f, c, stops_end_lem 0 m p e (count_next text at stops_key L.stops m p f) k n (x ∙ ap Ok w)) refl)
        by_lines m p f c (Err y) x h = absurd (let z : ◌≡◌ {A = ℕ} 0 1 = cc h in omega arith)

        by_test : (m p : ℕ) → count_at text at stops_key L.stops ≡ count_read m p → (c : Bool) → ltb L.stops (total + m) ≡ c
            → (cond c (nothing form (Err (TooManyStops at))) (stops_given form m total (stops_at L form 0 m text p))).answer ≡ read_to e t
            → (stops_of L form cut at total (count_at cut at stops_key L.stops)).answer ≡ Err (Form o)
        by_test m p f true c h = absurd (let z : ◌≡◌ {A = ℕ} 0 1 = cc h in omega arith)
        by_test m p f false c h = by_lines m p f c (stops_at L form 0 m text p).answer refl h

        by_count : (c : Result Number Refusal) → count_at text at stops_key L.stops ≡ c → (stops_of L form text at total c).answer ≡ read_to e t → (stops_of L form cut at total (count_at cut at stops_key L.stops)).answer ≡ Err (Form o)
        by_count (Err x) f h = absurd (let z : ◌≡◌ {A = ℕ} 0 1 = cc h in omega arith)
        by_count (Ok count) f h = by_test count.value count.next f (ltb L.stops (total + count.value)) refl h

    drone_end : (at total : ℕ) (taken : List ℕ → Bool) (e t : ℕ) → Begins text at → at ≤ o → o < e → (drone_at L form text at total taken).answer ≡ read_to e t → (drone_at L form cut at total taken).answer ≡ Err (Form o)
    unfolding drone_at
    drone_end at total taken e t b l m h = by_name (name_at L text at) refl h
      where
        by_test : (s p : ℕ) → name_at L text at ≡ name_span s p → (c : Bool) → taken (row_of L (small_form (part text s p))) ≡ c
            → (cond c (nothing form (Err (SameName at))) (with_row (row_of L (small_form (part text s p))) (stops_read L form text (p + 1) total))).answer ≡ read_to e t
            → (drone_of L form cut at total taken (name_at L cut at)).answer ≡ Err (Form o)
        by_test s p f true c h = absurd (let z : ◌≡◌ {A = ℕ} 0 1 = cc h in omega arith)
        by_test s p f false c h = by_cases (ltb o (p + 1))
            (λ y. rw (name_absent at (name_here at s p b l (ltb-true o (p + 1) y) f)) refl)
            (λ y.
            let i = ltb-false o (p + 1) y in
            let k = name_kept at s p i f in
            rw (k.0, k.1, c) (read_end (p + 1) total e t (name_next L text at s p f) i m h))

        by_name : (n : Result NameSpan Refusal) → name_at L text at ≡ n → (drone_of L form text at total taken n).answer ≡ read_to e t → (drone_of L form cut at total taken (name_at L cut at)).answer ≡ Err (Form o)
        by_name (Err x) f h = absurd (let z : ◌≡◌ {A = ℕ} 0 1 = cc h in omega arith)
        by_name (Ok span) f h = by_test span.start span.end f (taken (row_of L (small_form (part text span.start span.end)))) refl h

    drones_end : (n at : ℕ) (earlier : List (List ℕ)) (total e t : ℕ) → Begins text at → at ≤ o → o < e → (drones_at L form n text at earlier total).answer ≡ read_to e t → (drones_at L form n cut at earlier total).answer ≡ Err (Form o)
    unfolding drones_at
    drones_end zero at earlier total e t b l m h = let q : at ≡ e = (read_to_same h).0 in absurd (omega (arith, q, l, m))
    drones_end (suc n) at earlier total e t b l m h =
        by_answer (drone_at L form text at total (elem earlier)).answer refl h (λ e' t' b' l' h'. drones_end n e' (earlier ++ (drone_at L form text at total (elem earlier)).rows) t' e t b' l' m h')
      where
        by_answer : (d : Result DroneLines Refusal) → (drone_at L form text at total (elem earlier)).answer ≡ d
            → (and_then (drone_at L form text at total (elem earlier)) d (λ e' t'. drones_at L form n text e' (earlier ++ (drone_at L form text at total (elem earlier)).rows) t')).answer ≡ read_to e t
            → ((e' t' : ℕ) → Begins text e' → e' ≤ o → (drones_at L form n text e' (earlier ++ (drone_at L form text at total (elem earlier)).rows) t').answer ≡ read_to e t
            → (drones_at L form n cut e' (earlier ++ (drone_at L form text at total (elem earlier)).rows) t').answer ≡ Err (Form o))
            → (and_then (drone_at L form cut at total (elem earlier)) (drone_at L form cut at total (elem earlier)).answer (λ e' t'. drones_at L form n cut e' (earlier ++ (drone_at L form cut at total (elem earlier)).rows) t')).answer ≡ Err (Form o)
        by_answer (Ok lines) q h ih = by_cases (ltb o lines.next)
            (λ y. then-refused (drone_at L form cut at total (elem earlier)) (Form o) _ (drone_at L form cut at total (elem earlier)).answer refl (drone_end at total (elem earlier) lines.next lines.total b l (ltb-true o lines.next y) q))
            (λ y.
            let i = ltb-false o lines.next y in
            let k = drone_kept at total (elem earlier) lines.next lines.total i q in
            rw (k.1, k.2) (ih lines.next lines.total (drone_next L form text at total (elem earlier) lines.next lines.total q) i h))
        by_answer (Err x) q h ih = absurd (let z : ◌≡◌ {A = ℕ} 0 1 = cc (q, h) in omega arith)

    module _ (n : ℕ) (short : o < length text) where
      end_ending : (v e : ℕ) → FormRead L text form → count_at text 7 agents_key L.drones ≡ count_read v e → e ≤ o → (d : Result DroneLines Refusal) → (drones_at L form v text e [] 0).answer ≡ d → ending text v d ≡ Ok n
          → (lines_at L cut).answer ≡ Err (Form o)
      end_ending v e k f l (Err x) q h = absurd (let z : ◌≡◌ {A = ℕ} 0 1 = cc h in omega arith)
      end_ending v e k f l (Ok lines) q h = by_last (is_at text lines.next last_line) refl (eqb (lines.next + 9) (length text)) refl h
        where
          first : Begins text e
          first = count_next text 7 agents_key L.drones v e f

          by_last : (a : Bool) → is_at text lines.next last_line ≡ a → (c : Bool) → eqb (lines.next + 9) (length text) ≡ c → cond a (cond c (Ok v) (Err (Form (lines.next + 9)))) (Err (Form lines.next)) ≡ Ok n
              → (lines_at L cut).answer ≡ Err (Form o)
          by_last true y true c h = by_cases (ltb o lines.next)
              (λ z. whole v e (Err (Form o)) k f l (drones_end v e [] 0 lines.next lines.total first l (ltb-true o lines.next z) q))
              (λ z.
              let i = ltb-false o lines.next z in
              let m : lines.next + 9 ≡ length text = eqb-true (lines.next + 9) (length text) c in
              let s : lines.next ≡ o = none_inside text lines.next (lines.next + 9) o (101 ∷ 110 ∷ 100 ∷ 61 ∷ 112 ∷ 108 ∷ 97 ∷ 110 ∷ []) (drones-next L form v text e [] 0 lines.next lines.total first q) (record { there = y; next_is = refl }) refl begins i (omega (arith, m, short)) in
              let w = drones_kept v e [] 0 lines.next lines.total i q in
              let x : is_at cut lines.next last_line ≡ false = subst (λ (k : ℕ). is_at cut k last_line ≡ false) (sym s) (absent 101 (110 ∷ 100 ∷ 61 ∷ 112 ∷ 108 ∷ 97 ∷ 110 ∷ 10 ∷ []) (omega arith)) in
              whole v e (read_to lines.next lines.total) k f l w.1 ∙ rw x (ap (λ (k : ℕ). Err (Form k)) s))
          by_last true y false c h = absurd (let z : ◌≡◌ {A = ℕ} 0 1 = cc h in omega arith)
          by_last false y c c' h = absurd (let z : ◌≡◌ {A = ℕ} 0 1 = cc h in omega arith)

      end_agents : FormRead L text form → 7 ≤ o → (c : Result Number Refusal) → count_at text 7 agents_key L.drones ≡ c → (agents_of L form text c).answer ≡ Ok n → (lines_at L cut).answer ≡ Err (Form o)
      end_agents k l (Err x) f h = absurd (let z : ◌≡◌ {A = ℕ} 0 1 = cc h in omega arith)
      end_agents k l (Ok count) f h = by_cases (ltb o count.next)
          (λ y.
          let b = begins_next text 0 7 (112 ∷ 108 ∷ 97 ∷ 110 ∷ 61 ∷ (48 + form) ∷ []) (record { there = k.there; next_is = refl }) in
          no_agents k (count_here 7 agents_key L.drones count.value count.next refl b l (ltb-true o count.next y) f))
          (λ y. end_ending count.value count.next k f (ltb-false o count.next y) (drones_at L form count.value text count.next [] 0).answer refl h)

      end_form : form_at L text ≡ form → (c : Bool) → eqb form 0 ≡ c → (cond c (nothing form (Err (Form 0))) (agents_of L form text (count_at text 7 agents_key L.drones))).answer ≡ Ok n
          → (lines_at L cut).answer ≡ Err (Form o)
      end_form q true k h = absurd (let z : ◌≡◌ {A = ℕ} 0 1 = cc h in omega arith)
      end_form q false k h =
          let w = form_some L text form q k in
          by_cases (ltb o 7)
          (λ y. no_first (none_inside text 0 7 o (112 ∷ 108 ∷ 97 ∷ 110 ∷ 61 ∷ (48 + form) ∷ []) (begins_first text) (record { there = w.there; next_is = refl }) (first_feed form w.most) begins (omega arith) (ltb-true o 7 y)))
          (λ y. end_agents w (ltb-false o 7 y) (count_at text 7 agents_key L.drones) refl h)

      lines_end : form_at L text ≡ form → (lines_of_form L form text).answer ≡ Ok n → (lines_at L cut).answer ≡ Err (Form o)
      unfolding lines_of_form
      lines_end q h = end_form q (eqb form 0) refl h

pub cut_at_fault : (L : Limits) → SevenDigits L → CutAtFault L
unfolding lines_at
cut_at_fault L u text r h = told (lines_cut L (form_at L text) u text o inside r refl refl h)
  where
    o : ℕ
    o = refusal_offset r

    inside : o ≤ length text
    inside = (offsets_begin_lines L text r h).1

    told : ((lines_at L (take o text)).answer ≡ Err (Form o)) ⊎ ((n : ℕ) × ((lines_at L (take o text)).answer ≡ Ok n))
        → ((lines_at L (take o text)).answer ≡ Err (Form (length (take o text)))) ⊎ ((n : ℕ) × ((lines_at L (take o text)).answer ≡ Ok n))
    told (inl e) = inl (e ∙ ap (λ (k : ℕ). Err (Form k)) (sym (length-take-le o text inside)))
    told (inr w) = inr w

pub limits_cut_at_fault : CutAtFault limits
limits_cut_at_fault = cut_at_fault limits limits_seven

pub absent_at_length : (L : Limits) → SevenDigits L → AbsentAtLength L
unfolding lines_at
absent_at_length L u text n p h b l = lines_end L (form_at L text) u text p (omega (arith, l)) b n l refl h

pub limits_absent_at_length : AbsentAtLength limits
limits_absent_at_length = absent_at_length limits limits_seven
