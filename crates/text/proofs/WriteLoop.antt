-- The drones that are left to write, written from here on, give what all drones give from the start.
use Prim.Native.Nat.{ℕ, zero, suc, ◌+◌, ◌-◌, ◌*◌, ◌≤◌, ◌<◌}
use native.Mathlib.Nat.{sub-zero, sub_self, zero-mul, suc-mul}
use native.Mathlib.Numerals.{add-one}
use native.Mathlib.Omega.{arith}
use mathlib.Core.Path.{◌≡◌, refl, ◌∙◌}
use mathlib.Core.List.{List, [], ◌∷◌, ◌++◌}
use lib.ListN.{length, get_or, take, drop, length-append, length-take}
use lib.Seq.{drop-cons, drop-drop}
use Rattle.below.specs.Below.{sum_below, at as entry}
use Rattle.below.proofs.Sum.{sum_more, sum_past, sum-none}
use Rattle.tables.specs.Limits.{Limits}
use Rattle.lines.specs.Bytes.{Put}
use Rattle.lines.specs.Stops.{count_line, stop_line, stop_lines}
use Rattle.lines.specs.Names.{name_line, name_of}
use Rattle.lines.proofs.WriteLaws.{Rest, rest_start, rest_step, rest_end}
use Rattle.lines.proofs.NumberCases.{digits-length}
use Rattle.lines.proofs.StopCases.{stop-short}
use Rattle.text.specs.Written.{drone_lines}
use Rattle.text.specs.TextWritten.{drone_text, rows_in}
use Rattle.text.proofs.NameInRow.{name_short}

-- ---- what is left from drone d on, whose stops stand from entry `from` on

pub counts_next : (counts : List ℕ) (n d : ℕ) → d < n → d < length counts → take (n - d) (drop d counts) ≡ get_or counts d 0 ∷ take (n - (d + 1)) (drop (d + 1) counts)
counts_next counts n d h k =
    let p : n - d ≡ suc (n - (d + 1)) = omega arith in
    rw (p, drop-cons counts d 0, add-one)

pub rows_next : (L : Limits) (names : List ℕ) (n d : ℕ) → d < n
    → rows_in L (n - d) (drop (d * L.name) names) ≡ take L.name (drop (d * L.name) names) ∷ rows_in L (n - (d + 1)) (drop ((d + 1) * L.name) names)
unfolding rows_in
rows_next L names n d h =
    let p : n - d ≡ suc (n - (d + 1)) = omega arith in
    rw (p, drop-drop, add-one, suc-mul)

unfoldable pub lines_left : Limits → (form n : ℕ) → (names counts ls ts gs : List ℕ) → (d from : ℕ) → List ℕ
lines_left L form n names counts ls ts gs d from = drone_lines form (rows_in L (n - d) (drop (d * L.name) names)) (take (n - d) (drop d counts)) (drop from ls) (drop from ts) (drop from gs)

module _ (L : Limits) (form n : ℕ) (names counts ls ts gs : List ℕ) where
  left_all : lines_left L form n names counts ls ts gs 0 0 ≡ drone_lines form (rows_in L n names) (take n counts) ls ts gs
  unfolding lines_left
  left_all = rw (sub-zero, zero-mul)

  left-next : (d from : ℕ) → d < n → d < length counts
      → lines_left L form n names counts ls ts gs d from
      ≡ drone_text form (take L.name (drop (d * L.name) names)) (get_or counts d 0) (drop from ls) (drop from ts) (drop from gs) ++ lines_left L form n names counts ls ts gs (d + 1) (from + get_or counts d 0)
  unfolding lines_left drone_lines
  left-next d from h k = rw (counts_next counts n d h k, rows_next L names n d h, drop-drop (get_or counts d 0) from ls, drop-drop (get_or counts d 0) from ts, drop-drop (get_or counts d 0) from gs)

  left-none : (d from : ℕ) → d ≡ n → lines_left L form n names counts ls ts gs d from ≡ []
  unfolding lines_left drone_lines rows_in
  left-none d from e = rw (e, sub_self)

-- ---- how long the lines are

pub stops_short : (form : ℕ) (ls ts gs : List ℕ) → length (stop_lines form ls ts gs) ≤ 27 * length ls
unfolding stop_lines
stops_short form [] ts gs = omega arith
stops_short form (l ∷ ls) [] gs = omega arith
stops_short form (l ∷ ls) (t ∷ ts) [] = omega arith
stops_short form (l ∷ ls) (t ∷ ts) (g ∷ gs) = omega (arith, length-append (stop_line form l t g) (stop_lines form ls ts gs), stop-short form l t g, stops_short form ls ts gs)

drone_short : (form : ℕ) (row : List ℕ) (m : ℕ) (ls ts gs : List ℕ) → length (drone_text form row m ls ts gs) ≤ length row + 20 + 27 * m
drone_short form row m ls ts gs = simp length-append (omega (arith, name_short row, digits-length 7 m, stops_short form (take m ls) (take m ts) (take m gs), length-take m ls))

-- a sum of entries, from the first entry on
pub sum_front : (n m : ℕ) (counts : List ℕ) → sum_below (suc n) (entry (m ∷ counts)) ≡ m + sum_below n (entry counts)
unfolding sum_below
sum_front zero m counts = omega arith
sum_front (suc n) m counts = omega (arith, sum_front n m counts)

lines_short : (L : Limits) (form n : ℕ) (names counts ls ts gs : List ℕ) → length (drone_lines form (rows_in L n names) (take n counts) ls ts gs) ≤ n * (L.name + 20) + 27 * sum_below n (entry counts)
unfolding drone_lines rows_in
lines_short L form zero names counts ls ts gs = omega arith
lines_short L form (suc n) names [] ls ts gs = omega arith
lines_short L form (suc n) names (m ∷ counts) ls ts gs =
    omega (
      arith,
      length-append (drone_text form (take L.name names) m ls ts gs) (drone_lines form (rows_in L n (drop L.name names)) (take n counts) (drop m ls) (drop m ts) (drop m gs)),
      drone_short form (take L.name names) m ls ts gs,
      length-take L.name names,
      lines_short L form n (drop L.name names) counts (drop m ls) (drop m ts) (drop m gs),
      sum_front n m counts,
      suc-mul n (L.name + 20),
    )

-- where a line of a name or a count ends, and the lines of all drones
pub name_near : (L : Limits) (row : List ℕ) {b b' : List ℕ} {at next : ℕ} → Put b at (name_line (name_of (take L.name row))) b' next → next ≤ at + L.name + 6
name_near L row p = omega (arith, p.next_is, length-append (name_of (take L.name row)) (10 ∷ []), name_short (take L.name row), length-take L.name row)

count_short : (key : List ℕ) (n : ℕ) → length (count_line key n) ≤ length key + 8
count_short key n = simp length-append (omega (arith, digits-length 7 n))

pub count_near : (key : List ℕ) (n : ℕ) {b b' : List ℕ} {at next : ℕ} → Put b at (count_line key n) b' next → next ≤ at + length key + 8
count_near key n p = omega (arith, p.next_is, count_short key n)

pub lines_near : (L : Limits) (form n : ℕ) (names counts ls ts gs : List ℕ) {b b' : List ℕ} {at next : ℕ} → Put b at (drone_lines form (rows_in L n names) (take n counts) ls ts gs) b' next
    → next ≤ at + (n * (L.name + 20) + 27 * sum_below n (entry counts))
lines_near L form n names counts ls ts gs p = omega (arith, p.next_is, lines_short L form n names counts ls ts gs)

-- ---- the loop

pub record Writing (L : Limits) (form n : ℕ) (names counts ls ts gs b₀ : List ℕ) (at : ℕ) (b : List ℕ) (d from next : ℕ) : Type 0 where
  pub within : d ≤ n
  pub stops : from ≡ sum_below d (entry counts)
  pub room : length b ≡ length b₀
  pub rest : Rest b next (lines_left L form n names counts ls ts gs d from) b₀ at (drone_lines form (rows_in L n names) (take n counts) ls ts gs)

pub writing_start : (L : Limits) (form n : ℕ) (names counts ls ts gs b : List ℕ) (at : ℕ) → Writing L form n names counts ls ts gs b at b 0 0 at
writing_start L form n names counts ls ts gs b at = record {
  within = omega arith;
  stops = sum-none (entry counts) 0;
  room = refl;
  rest = rw (left_all L form n names counts ls ts gs) (rest_start b at (drone_lines form (rows_in L n names) (take n counts) ls ts gs));
}

module _ {L : Limits} {form n : ℕ} {names counts ls ts gs b₀ : List ℕ} {at : ℕ} {b : List ℕ} {d from next : ℕ} (w : Writing L form n names counts ls ts gs b₀ at b d from next) where
  -- no position is past the end of the whole
  pub writing_near : next ≤ at + (n * (L.name + 20) + 27 * sum_below n (entry counts))
  writing_near = omega (arith, w.rest.ends, lines_short L form n names counts ls ts gs)

  -- the next drone's stops are among those of all
  pub writing_stops : d < n → from + get_or counts d 0 ≤ sum_below n (entry counts)
  writing_stops more = omega (arith, w.stops, sum_past d n (entry counts) more)

  pub writing_more : d < n → n ≤ length counts → {b' : List ℕ} {next' : ℕ} → length b' ≡ length b
      → Put b next (drone_text form (take L.name (drop (d * L.name) names)) (get_or counts d 0) (drop from ls) (drop from ts) (drop from gs)) b' next'
      → Writing L form n names counts ls ts gs b₀ at b' (d + 1) (from + get_or counts d 0) next'
  writing_more more inside l p = record {
    within = omega arith;
    stops = omega (arith, w.stops, sum_more d (entry counts));
    room = l ∙ w.room;
    rest = rest_step p (rw (left-next L form n names counts ls ts gs d from more (omega arith)) at w.rest);
  }

  pub writing_done : n ≤ d → Put b₀ at (drone_lines form (rows_in L n names) (take n counts) ls ts gs) b next
  writing_done h =
      let e : d ≡ n = omega (arith, w.within) in
      rest_end (rw (left-none L form n names counts ls ts gs d from e) at w.rest)
