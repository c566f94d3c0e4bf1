-- The plan that a reading left in the tables is written as the small form of the text that was read.
use Prim.Native.Nat.{ℕ, ◌+◌, ◌*◌, ◌≤◌}
use native.Mathlib.Nat.{mul-le-mul_right}
use native.Mathlib.Omega.{arith}
use mathlib.Core.Path.{◌≡◌, refl, sym}
use mathlib.Core.List.{List, [], ◌∷◌, ◌++◌, append_assoc}
use lib.ListN.{length, get_or, drop}
use lib.Seq.{sets, sets-eq, take_at, drop_at}
use Rattle.tables.specs.Limits.{Limits}
use Rattle.text.specs.LinesRead.{LinesRead, lines_at, flat}
use Rattle.text.specs.TextRead.{TextRead}
use Rattle.text.specs.Written.{Route, routes_text, rows_of, counts_of, locations_of, times_of, legs_of, lines_of, InLimits}
use Rattle.lines.specs.Names.{small_form}
use Rattle.text.proofs.Rows.{AllLong}
use Rattle.text.proofs.Sizes.{rows_long, rows_many, names_many, counts_many, counts_begin, stops_within, times_many, legs_many}
use Rattle.text.proofs.TakenIsWritten.{text_taken}
use Rattle.text.proofs.RoundTrips.{same_text}
use Rattle.text.specs.TextWritten.{rows_in, tables_text}
use Rattle.text.specs.Claims.{ReadAndWritten}
use Rattle.std.specs.Prelude.{Ok, Result}
use Rattle.lines.specs.declared.refusal.Refusal.{Refusal}

-- ---- tables that hold a plan's values from their first entry on

first_of : (l x : List ℕ) → length x ≤ length l → sets l 0 x ≡ x ++ drop (0 + length x) l
first_of l x h = sets-eq x l 0 (omega arith)

-- the rows of a table that begins with rows
rows_back : (L : Limits) (rs : List (List ℕ)) → AllLong L rs → (rest : List ℕ) → rows_in L (length rs) (flat rs ++ rest) ≡ rs
unfolding rows_in
rows_back L [] a rest = refl
rows_back L (r ∷ rs) a rest =
    rw (append_assoc r (flat rs) rest, take_at r (flat rs ++ rest) L.name a.0, drop_at r (flat rs ++ rest) L.name a.0, rows_back L rs a.1 rest)

-- ---- the text of such tables

module _ (L : Limits) (form : ℕ) (ds : List Route) (v : InLimits L form ds) (ns cs ls ts gs : List ℕ) where
  pub tables_kept : L.drones * L.name ≤ length ns → L.drones ≤ length cs → L.stops ≤ length ls → L.stops ≤ length ts → L.stops ≤ length gs
      → tables_text L form (length ds) (sets ns 0 (flat (rows_of L ds))) (sets cs 0 (counts_of ds)) (sets ls 0 (locations_of ds)) (sets ts 0 (times_of ds)) (sets gs 0 (legs_of ds)) ≡ routes_text form ds
  unfolding tables_text
  tables_kept a b c d e =
      let many = rows_many L ds in
      let long : length (flat (rows_of L ds)) ≡ length ds * L.name = names_many L ds in
      let within = stops_within L form ds v in
      let times = times_many L form ds v in
      let legs = legs_many L form ds v in
      let back : rows_in L (length ds) (flat (rows_of L ds) ++ drop (0 + length (flat (rows_of L ds))) ns) ≡ rows_of L ds = rw (← many) (rows_back L (rows_of L ds) (rows_long L ds) _) in
      rw (
        first_of ns (flat (rows_of L ds)) (omega (arith, long, a, mul-le-mul_right L.name v.1)),
        first_of cs (counts_of ds) (omega (arith, counts_many ds, v.1)),
        first_of ls (locations_of ds) (omega (arith, within)),
        first_of ts (times_of ds) (omega (arith, within, times)),
        first_of gs (legs_of ds) (omega (arith, within, legs)),
        back,
        counts_begin ds (drop (0 + length (counts_of ds)) cs),
        take_at (counts_of ds) (drop (0 + length (counts_of ds)) cs) (length ds) (counts_many ds),
        take_at (locations_of ds) (drop (0 + length (locations_of ds)) ls) (length (locations_of ds)) refl,
        take_at (times_of ds) (drop (0 + length (times_of ds)) ts) (length (locations_of ds)) times,
        take_at (legs_of ds) (drop (0 + length (legs_of ds)) gs) (length (locations_of ds)) legs,
      )
      (same_text L form ds v)

-- ---- the text of the tables after a reading

kept_by : (L : Limits) (form : ℕ) (text : List ℕ) (n : ℕ) (w : LinesRead (Result ℕ Refusal)) (ds : List Route) → length ds ≡ n → InLimits L form ds → w ≡ lines_of L form ds → small_form text ≡ routes_text form ds
    → (ns cs ls ts gs : List ℕ) → L.drones * L.name ≤ length ns → L.drones ≤ length cs → L.stops ≤ length ls → L.stops ≤ length ts → L.stops ≤ length gs
    → tables_text L w.form n (sets ns 0 (flat w.rows)) (sets cs 0 w.counts) (sets ls 0 w.locations) (sets ts 0 w.times) (sets gs 0 w.legs) ≡ small_form text
kept_by L form text n w ds m v r t ns cs ls ts gs a b c d e = rw (r, ← m, t) (tables_kept L form ds v ns cs ls ts gs a b c d e)

-- the entry of a table after one value was stored
first_entry : (l : List ℕ) (x : ℕ) → 1 ≤ length l → get_or (sets l 0 (x ∷ [])) 0 0 ≡ x
first_entry l x h = rw (first_of l (x ∷ []) h)

pub read_is_written : (L : Limits) (n : ℕ) {text dc fm ns cs ls ts gs dc' fm' ns' cs' ls' ts' gs' : List ℕ} → TextRead L text dc fm ns cs ls ts gs dc' fm' ns' cs' ls' ts' gs' (Ok n)
    → 1 ≤ length fm → L.drones * L.name ≤ length ns → L.drones ≤ length cs → L.stops ≤ length ls → L.stops ≤ length ts → L.stops ≤ length gs
    → tables_text L (get_or fm' 0 0) n ns' cs' ls' ts' gs' ≡ small_form text
read_is_written L n {text} {dc} {fm} {ns} {cs} {ls} {ts} {gs} {dc'} {fm'} {ns'} {cs'} {ls'} {ts'} {gs'} r o a b c d e =
    let t = text_taken L text n (sym r.answer_is) in
    rw (r.form_is, first_entry fm (lines_at L text).form o, r.names_are, r.counts_are, r.locations_are, r.times_are, r.legs_are)
    (kept_by L t.form text n (lines_at L text) t.routes t.many t.in_limits t.read t.written ns cs ls ts gs a b c d e)

pub read_and_written : (L : Limits) → ReadAndWritten L
read_and_written L = record { text_kept = λ n text dc fm ns cs ls ts gs dc' fm' ns' cs' ls' ts' gs' r o a b c d e. read_is_written L n r o a b c d e }
