-- A text and the same with its names in small letters are read alike, whatever the answer: line by line, each where the one before it ends.
use Prim.Native.Nat.{ℕ, zero, suc, ◌+◌, ◌<◌}
use native.Mathlib.Omega.{arith}
use mathlib.Core.Path.{◌≡◌, refl, ap, ◌∙◌, subst}
use mathlib.Core.List.{List, [], ◌∷◌, ◌++◌}
use mathlib.Core.Bool.{Bool, true, false, cond}
use lib.Dec.{ltb, eqb}
use lib.ListN.{length}
use Rattle.tables.specs.Limits.{Limits}
use Rattle.lines.specs.Forms.{form_at}
use Rattle.lines.specs.Keys.{first_line, agents_key, name_key, stops_key, go_key, last_line}
use Rattle.lines.specs.Bytes.{is_at}
use Rattle.lines.specs.Numbers.{digits_of, field_at}
use Rattle.lines.specs.Stops.{time_end, leg_at, go_time, go_place, go_at, StopList, stops_from, stops_at, count_at, count_read, go_stop}
use Rattle.lines.specs.Names.{small_form, line_end, part, name_at, row_of, name_span}
use Rattle.lines.specs.declared.refusal.Refusal.TheVariants.{Form, TooManyStops, SameName}
use Rattle.lines.specs.declared.numbers.Number.{Number}
use Rattle.lines.specs.declared.stops.GoLine.{GoLine}
use Rattle.lines.specs.declared.names.NameSpan.{NameSpan}
use Rattle.lines.proofs.SmallReads.{same_length, same-field, same_end, same-part, same_name}
use Rattle.lines.proofs.FormLaws.{form_some}
use Rattle.lines.proofs.LegLaws.{time_end-low, stop_front_lem}
use Rattle.lines.proofs.StopRoundTrip.{go_line_stands, count_stands}
use Rattle.lines.proofs.NameRoundTrip.{name_read, name_stands}
use Rattle.text.specs.LinesRead.{LinesRead, nothing, stops_end, stops_given, stops_of, stops_read, with_row, drone_of, drone_at, elem, joined, and_then, drones_at, ending, with_answer, finish, agents_of, lines_of_form, lines_at, read_to}
use Rattle.text.specs.Names.{names_small}
use Rattle.text.specs.declared.reader.DroneLines.{DroneLines}
use Rattle.text.proofs.LineStarts.{Begins, begins_first, begins_next, begins_line, one_small_form, name_kept, key_kept}
use Rattle.std.specs.Prelude.{Err, None, Ok, Option, Result, Some}
use Rattle.lines.specs.declared.refusal.Refusal.{Refusal}
use Rattle.text.proofs.DroneCases.{read_to_same}

-- a stop was read up to the start of a line; so were a count and a name
pub go-next : (L : Limits) (form s : ℕ) (text : List ℕ) (at l t g e : ℕ) → go_at L form s text at ≡ go_stop l t g e → Begins text e
go-next L form s text at l t g e h = begins_next text at e (stop_front_lem form l t g) (go_line_stands L form s text at l t g e h)

pub count_next : (text : List ℕ) (at : ℕ) (key : List ℕ) (most v e : ℕ) → count_at text at key most ≡ count_read v e → Begins text e
count_next text at key most v e h = begins_line text at e key (digits_of v) (count_stands text at key most v e h)

pub name_next : (L : Limits) (text : List ℕ) (at s e : ℕ) → name_at L text at ≡ name_span s e → Begins text (e + 1)
name_next L text at s e h = begins_next text at (e + 1) (name_key ++ part text s e) (name_stands L text at s e (name_read L text at s e h))

pub stops_next : (L : Limits) (form s n : ℕ) (text : List ℕ) (at e : ℕ) → Begins text at → (stops_at L form s n text at).answer ≡ Ok e → Begins text e
unfolding stops_at
stops_next L form s zero text at e b h = let q : at ≡ e = cc h in subst (Begins text) q b
stops_next L form s (suc n) text at e b h = by_line (go_at L form s text at) refl (λ e'. stops_at L form (suc s) n text e') h (λ e' b' h'. stops_next L form (suc s) n text e' e b' h')
  where
    by_line : (x : Result GoLine Refusal) → go_at L form s text at ≡ x → (more : ℕ → StopList) → (stops_from x more).answer ≡ Ok e → ((e' : ℕ) → Begins text e' → (more e').answer ≡ Ok e → Begins text e) → Begins text e
    by_line (Ok stop) f more h ih = ih stop.next (go-next L form s text at stop.location stop.time stop.leg stop.next f) h
    by_line (Err r) f more h ih = absurd (let z : ◌≡◌ {A = ℕ} 0 1 = cc h in omega arith)

pub read_next : (L : Limits) (form : ℕ) (text : List ℕ) (at total e t : ℕ) → (stops_read L form text at total).answer ≡ read_to e t → Begins text e
unfolding stops_read
read_next L form text at total e t h = by_count (count_at text at stops_key L.stops) refl h
  where
    by_lines : (m p : ℕ) → Begins text p → (x : Result ℕ Refusal) → (stops_at L form 0 m text p).answer ≡ x → stops_end (total + m) x ≡ read_to e t → Begins text e
    by_lines m p b (Ok q) x h = let w : q ≡ e = (read_to_same h).0 in stops_next L form 0 m text p e b (x ∙ ap Ok w)
    by_lines m p b (Err r) x h = absurd (let z : ◌≡◌ {A = ℕ} 0 1 = cc h in omega arith)

    by_test : (m p : ℕ) → Begins text p → (c : Bool)
        → (cond c (nothing form (Err (TooManyStops at))) (stops_given form m total (stops_at L form 0 m text p))).answer ≡ read_to e t
        → Begins text e
    by_test m p b true h = absurd (let z : ◌≡◌ {A = ℕ} 0 1 = cc h in omega arith)
    by_test m p b false h = by_lines m p b (stops_at L form 0 m text p).answer refl h

    by_count : (c : Result Number Refusal) → count_at text at stops_key L.stops ≡ c → (stops_of L form text at total c).answer ≡ read_to e t → Begins text e
    by_count (Err r) f h = absurd (let z : ◌≡◌ {A = ℕ} 0 1 = cc h in omega arith)
    by_count (Ok count) f h = by_test count.value count.next (count_next text at stops_key L.stops count.value count.next f) (ltb L.stops (total + count.value)) h

pub drone_next : (L : Limits) (form : ℕ) (text : List ℕ) (at total : ℕ) (taken : List ℕ → Bool) (e t : ℕ) → (drone_at L form text at total taken).answer ≡ read_to e t → Begins text e
unfolding drone_at
drone_next L form text at total taken e t h = by_name (name_at L text at) h
  where
    by_test : (row : List ℕ) (p : ℕ) (c : Bool) → (cond c (nothing form (Err (SameName at))) (with_row row (stops_read L form text (p + 1) total))).answer ≡ read_to e t → Begins text e
    by_test row p true h = absurd (let z : ◌≡◌ {A = ℕ} 0 1 = cc h in omega arith)
    by_test row p false h = read_next L form text (p + 1) total e t h

    by_name : (n : Result NameSpan Refusal) → (drone_of L form text at total taken n).answer ≡ read_to e t → Begins text e
    by_name (Err r) h = absurd (let z : ◌≡◌ {A = ℕ} 0 1 = cc h in omega arith)
    by_name (Ok span) h = by_test _ span.end (taken (row_of L (small_form (part text span.start span.end)))) h

pub drones-next : (L : Limits) (form n : ℕ) (text : List ℕ) (at : ℕ) (earlier : List (List ℕ)) (total e t : ℕ) → Begins text at → (drones_at L form n text at earlier total).answer ≡ read_to e t → Begins text e
unfolding drones_at
drones-next L form zero text at earlier total e t b h = let q : at ≡ e = (read_to_same h).0 in subst (Begins text) q b
drones-next L form (suc n) text at earlier total e t b h =
    by_answer (drone_at L form text at total (elem earlier)) (λ e' t' q. drone_next L form text at total (elem earlier) e' t' q) (drone_at L form text at total (elem earlier)).answer refl
    (λ e' t'. drones_at L form n text e' (earlier ++ (drone_at L form text at total (elem earlier)).rows) t') h
    (λ e' t' b' q. drones-next L form n text e' (earlier ++ (drone_at L form text at total (elem earlier)).rows) t' e t b' q)
  where
    by_answer : (f : LinesRead (Result DroneLines Refusal)) → ((e' t' : ℕ) → f.answer ≡ read_to e' t' → Begins text e') → (r : Result DroneLines Refusal) → f.answer ≡ r → (more : ℕ → ℕ → LinesRead (Result DroneLines Refusal))
        → (and_then f r more).answer ≡ read_to e t → ((e' t' : ℕ) → Begins text e' → (more e' t').answer ≡ read_to e t → Begins text e) → Begins text e
    by_answer f d (Ok lines) q more h ih = ih lines.next lines.total (d lines.next lines.total q) h
    by_answer f d (Err x) q more h ih = absurd (let z : ◌≡◌ {A = ℕ} 0 1 = cc (q, h) in omega arith)

-- ---- the two texts

module _ (L : Limits) (form : ℕ) (text : List ℕ) where
  abbrev small : List ℕ
  small = names_small text

  field_alike : (at b : ℕ) → b < 65 → field_at small at b ≡ field_at text at b
  field_alike = same-field small text (one_small_form text)

  count_alike : (at : ℕ) (key : List ℕ) (most : ℕ) → is_at small at key ≡ is_at text at key → count_at small at key most ≡ count_at text at key most
  unfolding count_at
  count_alike at key most k = rw (k, field_alike (at + length key) 10 (omega arith)) refl

  -- ---- stops

  leg_alike : (s at : ℕ) → leg_at form s small at ≡ leg_at form s text at
  unfolding leg_at
  leg_alike s at = rw (field_alike at 10 (omega arith)) refl

  time_alike : (s at l : ℕ) (m : Option Number) → go_time L form s small at l m ≡ go_time L form s text at l m
  time_alike s at l None = refl
  time_alike s at l (Some n) = rw (leg_alike s n.next) refl

  place_alike : (s at : ℕ) (m : Option Number) → go_place L form s small at m ≡ go_place L form s text at m
  place_alike s at None = refl
  place_alike s at (Some n) = rw (field_alike n.next (time_end form) (time_end-low form)) (time_alike s at n.value (field_at text n.next (time_end form)))

  go_alike : (s at : ℕ) → Begins text at → go_at L form s small at ≡ go_at L form s text at
  unfolding go_at
  go_alike s at b =
      let k : is_at small at go_key ≡ is_at text at go_key = key_kept text at b 103 (111 ∷ 61 ∷ []) (λ z. omega (arith, z)) refl in
      rw (k, field_alike (at + 3) 64 (omega arith), place_alike s at (field_at text (at + 3) 64)) refl

  stops_alike : (s n at : ℕ) → Begins text at → stops_at L form s n small at ≡ stops_at L form s n text at
  unfolding stops_at
  stops_alike s zero at b = refl
  stops_alike s (suc n) at b = rw (go_alike s at b) (by_line (go_at L form s text at) refl (λ e b'. stops_alike (suc s) n e b'))
    where
      by_line : (x : Result GoLine Refusal) → go_at L form s text at ≡ x → ((e : ℕ) → Begins text e → stops_at L form (suc s) n small e ≡ stops_at L form (suc s) n text e)
          → stops_from x (λ e. stops_at L form (suc s) n small e) ≡ stops_from x (λ e. stops_at L form (suc s) n text e)
      by_line (Ok stop) f more = rw (more stop.next (go-next L form s text at stop.location stop.time stop.leg stop.next f)) refl
      by_line (Err r) f more = refl

  read_alike : (at total : ℕ) → Begins text at → stops_read L form small at total ≡ stops_read L form text at total
  unfolding stops_read
  read_alike at total b =
      let k : is_at small at stops_key ≡ is_at text at stops_key = key_kept text at b 115 (116 ∷ 111 ∷ 112 ∷ 115 ∷ 61 ∷ []) (λ z. omega (arith, z)) refl in
      rw (count_alike at stops_key L.stops k) (by_count (count_at text at stops_key L.stops) refl)
    where
      by_count : (c : Result Number Refusal) → count_at text at stops_key L.stops ≡ c → stops_of L form small at total c ≡ stops_of L form text at total c
      by_count (Err r) f = refl
      by_count (Ok count) f = rw (stops_alike 0 count.value count.next (count_next text at stops_key L.stops count.value count.next f)) refl

  -- ---- drones

  name_alike : (at : ℕ) → Begins text at → name_at L small at ≡ name_at L text at
  unfolding name_at
  name_alike at b =
      let e = one_small_form text in
      rw (name_kept text at b, same_end small text e (at + 5), same_length small text e, same_name small text e L (at + 5) (line_end text (at + 5))) refl

  drone_alike : (at total : ℕ) (taken : List ℕ → Bool) → Begins text at → drone_at L form small at total taken ≡ drone_at L form text at total taken
  unfolding drone_at
  drone_alike at total taken b = rw (name_alike at b) (by_name (name_at L text at) refl)
    where
      by_name : (n : Result NameSpan Refusal) → name_at L text at ≡ n → drone_of L form small at total taken n ≡ drone_of L form text at total taken n
      by_name (Err r) f = refl
      by_name (Ok span) f = rw (same-part small text (one_small_form text) span.start span.end, read_alike (span.end + 1) total (name_next L text at span.start span.end f)) refl

  drones_alike : (n at : ℕ) (earlier : List (List ℕ)) (total : ℕ) → Begins text at → drones_at L form n small at earlier total ≡ drones_at L form n text at earlier total
  unfolding drones_at
  drones_alike zero at earlier total b = refl
  drones_alike (suc n) at earlier total b =
      let f = drone_at L form text at total (elem earlier) in
      rw (drone_alike at total (elem earlier) b)
      (by_answer f (λ e t q. drone_next L form text at total (elem earlier) e t q) f.answer refl (λ e t b'. drones_alike n e (earlier ++ f.rows) t b'))
    where
      by_answer : (f : LinesRead (Result DroneLines Refusal)) → ((e t : ℕ) → f.answer ≡ read_to e t → Begins text e) → (r : Result DroneLines Refusal) → f.answer ≡ r → {more less : ℕ → ℕ → LinesRead (Result DroneLines Refusal)}
          → ((e t : ℕ) → Begins text e → more e t ≡ less e t) → and_then f r more ≡ and_then f r less
      by_answer f d (Ok lines) q h = ap (joined f) (h lines.next lines.total (d lines.next lines.total q))
      by_answer f d (Err x) q h = refl

  -- ---- the whole text

  ending_alike : (n : ℕ) (r : Result DroneLines Refusal) → ((e t : ℕ) → r ≡ read_to e t → Begins text e) → ending small n r ≡ ending text n r
  ending_alike n (Err x) h = refl
  ending_alike n (Ok lines) h =
      let k : is_at small lines.next last_line ≡ is_at text lines.next last_line = key_kept text lines.next (h lines.next lines.total refl) 101 (110 ∷ 100 ∷ 61 ∷ 112 ∷ 108 ∷ 97 ∷ 110 ∷ 10 ∷ []) (λ z. omega (arith, z)) refl in
      rw (k, same_length small text (one_small_form text)) refl

  finish_alike : (n : ℕ) (f g : LinesRead (Result DroneLines Refusal)) → f ≡ g → ending small n g.answer ≡ ending text n g.answer → finish form small n f ≡ finish form text n g
  finish_alike n f g e h = ap (finish form small n) e ∙ ap (λ (a : Result ℕ Refusal). with_answer form a g) h

  agents_alike : (c : Result Number Refusal) → ((n e : ℕ) → c ≡ count_read n e → Begins text e) → agents_of L form small c ≡ agents_of L form text c
  agents_alike (Err r) b = refl
  agents_alike (Ok count) b =
      finish_alike count.value (drones_at L form count.value small count.next [] 0) (drones_at L form count.value text count.next [] 0) (drones_alike count.value count.next [] 0 (b count.value count.next refl))
      (ending_alike count.value (drones_at L form count.value text count.next [] 0).answer (λ e' t q. drones-next L form count.value text count.next [] 0 e' t (b count.value count.next refl) q))

  -- the first line was read, and the second begins after it
  pub form_next : form_at L text ≡ form → eqb form 0 ≡ false → Begins text 7
  form_next q h = begins_next text 0 7 (112 ∷ 108 ∷ 97 ∷ 110 ∷ 61 ∷ (48 + form) ∷ []) (record { there = (form_some L text form q h).there; next_is = refl })

  in_alike : form_at L text ≡ form → lines_of_form L form small ≡ lines_of_form L form text
  unfolding lines_of_form
  in_alike q = by_form (eqb form 0) refl
    where
      by_form : (c : Bool) → eqb form 0 ≡ c
          → cond c (nothing form (Err (Form 0))) (agents_of L form small (count_at small 7 agents_key L.drones))
          ≡ cond c (nothing form (Err (Form 0))) (agents_of L form text (count_at text 7 agents_key L.drones))
      by_form true h = refl
      by_form false h =
          ap (agents_of L form small) (count_alike 7 agents_key L.drones (key_kept text 7 (form_next q h) 97 (103 ∷ 101 ∷ 110 ∷ 116 ∷ 115 ∷ 61 ∷ []) (λ z. omega (arith, z)) refl))
          ∙ agents_alike (count_at text 7 agents_key L.drones) (λ n e q. count_next text 7 agents_key L.drones n e q)

form_alike : (L : Limits) (text : List ℕ) → form_at L (names_small text) ≡ form_at L text
unfolding form_at
form_alike L text =
    let one : is_at (names_small text) 0 (first_line 1) ≡ is_at text 0 (first_line 1) = key_kept text 0 (begins_first text) 112 (108 ∷ 97 ∷ 110 ∷ 61 ∷ 49 ∷ 10 ∷ []) (λ z. omega (arith, z)) refl in
    let two : is_at (names_small text) 0 (first_line 2) ≡ is_at text 0 (first_line 2) = key_kept text 0 (begins_first text) 112 (108 ∷ 97 ∷ 110 ∷ 61 ∷ 50 ∷ 10 ∷ []) (λ z. omega (arith, z)) refl in
    rw (one, two) refl

pub lines_alike : (L : Limits) (text : List ℕ) → lines_at L (names_small text) ≡ lines_at L text
unfolding lines_at
lines_alike L text = rw (form_alike L text) (in_alike L (form_at L text) text refl)
