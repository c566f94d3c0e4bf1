-- Every refusal of a text's lines carries the start of a line: each line is judged where the one before it ends.
use Prim.Native.Nat.{ℕ, zero, suc, ◌+◌, ◌≤◌, ◌<◌}
use native.Mathlib.Omega.{arith}
use mathlib.Core.Path.{◌≡◌, refl, sym, ap, ◌∙◌, subst}
use mathlib.Core.List.{List, [], ◌∷◌, ◌++◌}
use mathlib.Core.Bool.{Bool, true, false, cond, ◌&&◌}
use lib.Dec.{leb, ltb, eqb}
use borrow.Author.Tests.{eqb-true}
use lib.ListN.{length}
use Rattle.below.proofs.Tests.{by_cases}
use Rattle.tables.specs.Limits.{Limits}
use Rattle.tables.specs.Legs.{leg_right}
use Rattle.lines.specs.Keys.{agents_key, name_key, stops_key, go_key, last_line}
use Rattle.lines.specs.Forms.{form_at}
use Rattle.lines.specs.Bytes.{byte_at, is_at}
use Rattle.lines.specs.Numbers.{field_at, field}
use Rattle.lines.specs.Refusals.{refusal_number, refusal_offset}
use Rattle.lines.specs.Stops.{time_end, leg_at, go_leg, go_time, go_place, go_at, StopList, stops_from, stops_at, count_in, count_at, count_read, go_stop}
use Rattle.lines.specs.Names.{small_form, line_end, part, text_name, name_at, row_of, name_span}
use Rattle.lines.specs.declared.refusal.Refusal.{Refusal}
use Rattle.lines.specs.declared.refusal.Refusal.TheVariants.{Form, Range, Name, TooManyStops, SameName}
use Rattle.lines.specs.declared.numbers.Number.{Number}
use Rattle.lines.specs.declared.stops.GoLine.{GoLine}
use Rattle.lines.specs.declared.names.NameSpan.{NameSpan}
use Rattle.lines.proofs.ByteLaws.{byte_at_in, stands_parts, stands_head}
use Rattle.lines.proofs.StopRoundTrip.{count_stands}
use Rattle.lines.proofs.NameRoundTrip.{name_read}
use Rattle.text.specs.Claims.{OffsetsBeginLines}
use Rattle.text.specs.LinesRead.{LinesRead, nothing, stops_end, stops_given, stops_of, stops_read, with_row, drone_of, drone_at, elem, and_then, drones_at, ending, agents_of, lines_of_form, lines_at, read_to}
use Rattle.text.specs.Names.{line_start}
use Rattle.text.specs.declared.reader.DroneLines.{DroneLines}
use Rattle.text.proofs.LineStarts.{Begins, begins_first, begins_next}
use Rattle.text.proofs.SmallTexts.{go-next, count_next, name_next, drone_next, drones-next, form_next}
use Rattle.std.specs.Prelude.{Err, None, Ok, Option, Result, Some}

-- ---- a line begins within the text or at its end

start-before : (text : List ℕ) (i : ℕ) → line_start text i ≤ i
unfolding line_start
start-before text zero = omega arith
start-before text (suc i) = by_cases (eqb (byte_at text i) 10) (λ e. rw e (omega arith)) (λ e. rw e (omega (arith, start-before text i)))

begins_within : (text : List ℕ) (p : ℕ) → Begins text p → p ≤ length text
unfolding line_start
begins_within text zero b = omega arith
begins_within text (suc i) b = by_cases (eqb (byte_at text i) 10)
    (λ e. let h = byte_at_in text i 10 (sym (eqb-true (byte_at text i) 10 e)) (omega arith) in omega (arith, h))
    (λ e. let q : line_start text i ≡ suc i = rw e at b in absurd (omega (arith, start-before text i, q)))

module _ (L : Limits) (form : ℕ) (text : List ℕ) where
  -- ---- one line

  -- the refusal carries this position; if the text ends there, it is 2
  abbrev pub Told : ℕ → Refusal → Type 0
  Told at r = (refusal_offset r ≡ at) × (at ≡ length text → refusal_number r ≡ 2)

  form_told : (at : ℕ) (r : Refusal) → Form at ≡ r → Told at r
  form_told at r q = subst (Told at) q (refl, λ e. refl)

  -- where a key stands, the text has not ended
  present : (at b : ℕ) (key : List ℕ) → b < 256 → is_at text at (b ∷ key) ≡ true → at ≡ length text → ⊥
  present at b key l h e = let i = byte_at_in text at b (sym (stands_head text at b key h).0) l in omega (arith, i, e)

  pub count_told : (at b : ℕ) (key : List ℕ) (most : ℕ) (r : Refusal) → b < 256 → count_at text at (b ∷ key) most ≡ Err r → Told at r
  unfolding count_at
  count_told at b key most r l h = by_key (is_at text at (b ∷ key)) refl h
    where
      by_test : (at ≡ length text → ⊥) → (v e : ℕ) (c : Bool) → cond c (count_read v e) (Err (Range at)) ≡ Err r → Told at r
      by_test p v e true h = absurd (let z : ◌≡◌ {A = ℕ} 0 1 = cc h in omega arith)
      by_test p v e false h = let q : Range at ≡ r = cc h in subst (Told at) q (refl, λ e. absurd (p e))

      by_number : (at ≡ length text → ⊥) → (m : Option Number) → count_in at most m ≡ Err r → Told at r
      by_number p None h = form_told at r (cc h)
      by_number p (Some n) h = by_test p n.value n.next (leb 1 n.value && leb n.value most) h

      by_key : (c : Bool) → is_at text at (b ∷ key) ≡ c → cond c (count_in at most (field_at text (at + length (b ∷ key)) 10)) (Err (Form at)) ≡ Err r → Told at r
      by_key true k h = by_number (present at b key l k) (field_at text (at + length (b ∷ key)) 10) h
      by_key false k h = form_told at r (cc h)

  pub go_told : (s at : ℕ) (r : Refusal) → go_at L form s text at ≡ Err r → Told at r
  unfolding go_at
  go_told s at r h = by_key (is_at text at go_key) refl h
    where
      by_test : (at ≡ length text → ⊥) → (l t g e : ℕ) (c : Bool) → cond c (go_stop l t g e) (Err (Range at)) ≡ Err r → Told at r
      by_test p l t g e true h = absurd (let z : ◌≡◌ {A = ℕ} 0 1 = cc h in omega arith)
      by_test p l t g e false h = let q : Range at ≡ r = cc h in subst (Told at) q (refl, λ e. absurd (p e))

      by_leg : (at ≡ length text → ⊥) → (l t : ℕ) (m : Option Number) → go_leg L form s at l t m ≡ Err r → Told at r
      by_leg p l t None h = form_told at r (cc h)
      by_leg p l t (Some n) h = by_test p l t n.value n.next (leb l L.location && leb t L.time && leg_right L form s n.value) h

      by_time : (at ≡ length text → ⊥) → (l : ℕ) (m : Option Number) → go_time L form s text at l m ≡ Err r → Told at r
      by_time p l None h = form_told at r (cc h)
      by_time p l (Some n) h = by_leg p l n.value (leg_at form s text n.next) h

      by_place : (at ≡ length text → ⊥) → (m : Option Number) → go_place L form s text at m ≡ Err r → Told at r
      by_place p None h = form_told at r (cc h)
      by_place p (Some n) h = by_time p n.value (field_at text n.next (time_end form)) h

      by_key : (c : Bool) → is_at text at go_key ≡ c → cond c (go_place L form s text at (field_at text (at + 3) 64)) (Err (Form at)) ≡ Err r → Told at r
      by_key true k h = by_place (present at 103 (111 ∷ 61 ∷ []) (omega arith) k) (field_at text (at + 3) 64) h
      by_key false k h = form_told at r (cc h)

  pub name_told : (at : ℕ) (r : Refusal) → name_at L text at ≡ Err r → Told at r
  unfolding name_at
  name_told at r h = by_key (is_at text at name_key) refl h
    where
      by_test : (at ≡ length text → ⊥) → (c : Bool) → cond c (name_span (at + 5) (line_end text (at + 5))) (Err (Name at)) ≡ Err r → Told at r
      by_test p true h = absurd (let z : ◌≡◌ {A = ℕ} 0 1 = cc h in omega arith)
      by_test p false h = let q : Name at ≡ r = cc h in subst (Told at) q (refl, λ e. absurd (p e))

      by_end : (at ≡ length text → ⊥) → (c : Bool)
          → cond c (Err (Form at)) (cond (text_name L (part text (at + 5) (line_end text (at + 5)))) (name_span (at + 5) (line_end text (at + 5))) (Err (Name at))) ≡ Err r → Told at r
      by_end p true h = form_told at r (cc h)
      by_end p false h = by_test p (text_name L (part text (at + 5) (line_end text (at + 5)))) h

      by_key : (c : Bool) → is_at text at name_key ≡ c
          → cond c (cond (eqb (line_end text (at + 5)) (length text)) (Err (Form at)) (cond (text_name L (part text (at + 5) (line_end text (at + 5)))) (name_span (at + 5) (line_end text (at + 5))) (Err (Name at)))) (Err (Form at)) ≡ Err r
          → Told at r
      by_key true k h = by_end (present at 110 (97 ∷ 109 ∷ 101 ∷ 61 ∷ []) (omega arith) k) (eqb (line_end text (at + 5)) (length text)) h
      by_key false k h = form_told at r (cc h)

  -- a line that was read: the text has not ended where it begins
  name_there : (at s e : ℕ) → name_at L text at ≡ name_span s e → at ≡ length text → ⊥
  name_there at s e h = present at 110 (97 ∷ 109 ∷ 101 ∷ 61 ∷ []) (omega arith) (name_read L text at s e h).key

  count_there : (at b : ℕ) (key : List ℕ) (most v e : ℕ) → b < 256 → count_at text at (b ∷ key) most ≡ count_read v e → at ≡ length text → ⊥
  count_there at b key most v e l h = present at b key l (stands_parts text at (b ∷ key) (field v 10) (count_stands text at (b ∷ key) most v e h).there).0

  -- ---- the lines one after another

  -- the refusal carries the start of a line; if the text ends there, it is 2
  abbrev Fault : Refusal → Type 0
  Fault r = Begins text (refusal_offset r) × (refusal_offset r ≡ length text → refusal_number r ≡ 2)

  fault : (at : ℕ) (r : Refusal) → Begins text at → Told at r → Fault r
  fault at r b t = (subst (Begins text) (sym t.0) b, λ e. t.1 (sym t.0 ∙ e))

  stops_fault : (s n at : ℕ) (r : Refusal) → Begins text at → (stops_at L form s n text at).answer ≡ Err r → Fault r
  unfolding stops_at
  stops_fault s zero at r b h = absurd (let z : ◌≡◌ {A = ℕ} 0 1 = cc h in omega arith)
  stops_fault s (suc n) at r b h = by_line (go_at L form s text at) refl (λ e. stops_at L form (suc s) n text e) h (λ e b' h'. stops_fault (suc s) n e r b' h')
    where
      by_line : (x : Result GoLine Refusal) → go_at L form s text at ≡ x → (more : ℕ → StopList) → (stops_from x more).answer ≡ Err r → ((e : ℕ) → Begins text e → (more e).answer ≡ Err r → Fault r) → Fault r
      by_line (Ok stop) f more h ih = ih stop.next (go-next L form s text at stop.location stop.time stop.leg stop.next f) h
      by_line (Err x) f more h ih = let q : x ≡ r = cc h in fault at r b (go_told s at r (f ∙ ap Err q))

  read_fault : (at total : ℕ) (r : Refusal) → Begins text at → (stops_read L form text at total).answer ≡ Err r → Fault r
  unfolding stops_read
  read_fault at total r b h = by_count (count_at text at stops_key L.stops) refl h
    where
      by_lines : (m p : ℕ) → Begins text p → (x : Result ℕ Refusal) → (stops_at L form 0 m text p).answer ≡ x → stops_end (total + m) x ≡ Err r → Fault r
      by_lines m p b (Ok q) x h = absurd (let z : ◌≡◌ {A = ℕ} 0 1 = cc h in omega arith)
      by_lines m p b (Err y) x h = let q : y ≡ r = cc h in stops_fault 0 m p r b (x ∙ ap Err q)

      by_test : (m p : ℕ) → Begins text p → (at ≡ length text → ⊥) → (c : Bool)
          → (cond c (nothing form (Err (TooManyStops at))) (stops_given form m total (stops_at L form 0 m text p))).answer ≡ Err r
          → Fault r
      by_test m p b' there true h = let q : TooManyStops at ≡ r = cc h in subst Fault q (b, λ e. absurd (there e))
      by_test m p b' there false h = by_lines m p b' (stops_at L form 0 m text p).answer refl h

      by_count : (c : Result Number Refusal) → count_at text at stops_key L.stops ≡ c → (stops_of L form text at total c).answer ≡ Err r → Fault r
      by_count (Err x) f h = let q : x ≡ r = cc h in fault at r b (count_told at 115 (116 ∷ 111 ∷ 112 ∷ 115 ∷ 61 ∷ []) L.stops r (omega arith) (f ∙ ap Err q))
      by_count (Ok count) f h = by_test count.value count.next (count_next text at stops_key L.stops count.value count.next f) (count_there at 115 (116 ∷ 111 ∷ 112 ∷ 115 ∷ 61 ∷ []) L.stops count.value count.next (omega arith) f) (ltb L.stops (total + count.value)) h

  drone_fault : (at total : ℕ) (taken : List ℕ → Bool) (r : Refusal) → Begins text at → (drone_at L form text at total taken).answer ≡ Err r → Fault r
  unfolding drone_at
  drone_fault at total taken r b h = by_name (name_at L text at) refl h
    where
      by_test : (row : List ℕ) (p : ℕ) → Begins text (p + 1) → (at ≡ length text → ⊥) → (c : Bool)
          → (cond c (nothing form (Err (SameName at))) (with_row row (stops_read L form text (p + 1) total))).answer ≡ Err r → Fault r
      by_test row p b' there true h = let q : SameName at ≡ r = cc h in subst Fault q (b, λ e. absurd (there e))
      by_test row p b' there false h = read_fault (p + 1) total r b' h

      by_name : (n : Result NameSpan Refusal) → name_at L text at ≡ n → (drone_of L form text at total taken n).answer ≡ Err r → Fault r
      by_name (Err x) f h = let q : x ≡ r = cc h in fault at r b (name_told at r (f ∙ ap Err q))
      by_name (Ok span) f h = by_test _ span.end (name_next L text at span.start span.end f) (name_there at span.start span.end f) (taken (row_of L (small_form (part text span.start span.end)))) h

  drones_fault : (n at : ℕ) (earlier : List (List ℕ)) (total : ℕ) (r : Refusal) → Begins text at → (drones_at L form n text at earlier total).answer ≡ Err r → Fault r
  unfolding drones_at
  drones_fault zero at earlier total r b h = absurd (let z : ◌≡◌ {A = ℕ} 0 1 = cc h in omega arith)
  drones_fault (suc n) at earlier total r b h =
      by_answer (drone_at L form text at total (elem earlier)) (λ e t q. drone_next L form text at total (elem earlier) e t q) (λ q. drone_fault at total (elem earlier) r b q)
      (drone_at L form text at total (elem earlier)).answer refl (λ e t. drones_at L form n text e (earlier ++ (drone_at L form text at total (elem earlier)).rows) t) h
      (λ e t b' q. drones_fault n e (earlier ++ (drone_at L form text at total (elem earlier)).rows) t r b' q)
    where
      by_answer : (f : LinesRead (Result DroneLines Refusal)) → ((e t : ℕ) → f.answer ≡ read_to e t → Begins text e) → (f.answer ≡ Err r → Fault r) → (d : Result DroneLines Refusal) → f.answer ≡ d
          → (more : ℕ → ℕ → LinesRead (Result DroneLines Refusal)) → (and_then f d more).answer ≡ Err r → ((e t : ℕ) → Begins text e → (more e t).answer ≡ Err r → Fault r) → Fault r
      by_answer f next now (Ok lines) q more h ih = ih lines.next lines.total (next lines.next lines.total q) h
      by_answer f next now (Err x) q more h ih = now h

  -- ---- the whole text

  ending_fault : (n : ℕ) (r : Refusal) (d : Result DroneLines Refusal) → ((e t : ℕ) → d ≡ read_to e t → Begins text e) → (d ≡ Err r → Fault r) → ending text n d ≡ Err r → Fault r
  ending_fault n r (Err x) next now h = let q : x ≡ r = cc h in now (ap Err q)
  ending_fault n r (Ok lines) next now h = by_key (is_at text lines.next last_line) refl h
    where
      by_end : is_at text lines.next last_line ≡ true → (c : Bool) → cond c (Ok n) (Err (Form (lines.next + 9))) ≡ Err r → Fault r
      by_end k true h = absurd (let z : ◌≡◌ {A = ℕ} 0 1 = cc h in omega arith)
      by_end k false h =
          let b = begins_next text lines.next (lines.next + 9) (101 ∷ 110 ∷ 100 ∷ 61 ∷ 112 ∷ 108 ∷ 97 ∷ 110 ∷ []) (record { there = k; next_is = refl }) in
          fault (lines.next + 9) r b (form_told (lines.next + 9) r (cc h))

      by_key : (c : Bool) → is_at text lines.next last_line ≡ c → cond c (cond (eqb (lines.next + 9) (length text)) (Ok n) (Err (Form (lines.next + 9)))) (Err (Form lines.next)) ≡ Err r → Fault r
      by_key true k h = by_end k (eqb (lines.next + 9) (length text)) h
      by_key false k h = fault lines.next r (next lines.next lines.total refl) (form_told lines.next r (cc h))

  agents_fault : (r : Refusal) → Begins text 7 → (c : Result Number Refusal) → count_at text 7 agents_key L.drones ≡ c → (agents_of L form text c).answer ≡ Err r → Fault r
  agents_fault r b (Err x) f h = let q : x ≡ r = cc h in fault 7 r b (count_told 7 97 (103 ∷ 101 ∷ 110 ∷ 116 ∷ 115 ∷ 61 ∷ []) L.drones r (omega arith) (f ∙ ap Err q))
  agents_fault r b (Ok count) f h =
      let b' = count_next text 7 agents_key L.drones count.value count.next f in
      ending_fault count.value r (drones_at L form count.value text count.next [] 0).answer (λ e' t q. drones-next L form count.value text count.next [] 0 e' t b' q) (λ q. drones_fault count.value count.next [] 0 r b' q) h

  lines_fault : form_at L text ≡ form → (r : Refusal) → (lines_of_form L form text).answer ≡ Err r → Fault r
  unfolding lines_of_form
  lines_fault q r h = by_form (eqb form 0) refl h
    where
      by_form : (c : Bool) → eqb form 0 ≡ c → (cond c (nothing form (Err (Form 0))) (agents_of L form text (count_at text 7 agents_key L.drones))).answer ≡ Err r → Fault r
      by_form true k h = fault 0 r (begins_first text) (form_told 0 r (cc h))
      by_form false k h = agents_fault r (form_next L form text q k) (count_at text 7 agents_key L.drones) refl h

pub offsets_begin_lines : (L : Limits) → OffsetsBeginLines L
unfolding lines_at
offsets_begin_lines L text r h =
    let f = lines_fault L (form_at L text) text refl r h in
    (f.0, begins_within text (refusal_offset r) f.0, f.1)
