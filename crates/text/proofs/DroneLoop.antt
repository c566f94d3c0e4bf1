-- The loop over drones: the drones that are left, read and stored from here on, give what all of them give from the start.
use Prim.Native.Nat.{ℕ, suc, ◌+◌, ◌-◌, ◌*◌, ◌≤◌, ◌<◌}
use native.Mathlib.Nat.{zero-add, sub-zero, add-mul, one-mul}
use native.Mathlib.Omega.{arith}
use mathlib.Core.Path.{◌≡◌, refl, sym, ap, ◌∙◌}
use mathlib.Core.List.{List, [], ◌∷◌, ◌++◌, append-nil}
use mathlib.Core.Bool.{Bool, true}
use lib.ListN.{length, length-append}
use lib.Seq.{sets, length-sets}
use Rattle.tables.specs.Limits.{Limits}
use Rattle.lines.specs.Bytes.{is_at}
use Rattle.lines.specs.Names.{small_form, part, name_at, row_of, among}
use Rattle.lines.proofs.ByteLaws.{is_at-append, small}
use Rattle.lines.proofs.WriteLaws.{sets_append}
use Rattle.lines.proofs.NameRoundTrip.{row_long}
use Rattle.text.specs.LinesRead.{LinesRead, drone_of, drone_at, elem, joined, drones_at, flat, LinesStored, read_to}
use Rattle.text.proofs.DroneCases.{whole-none}
use Rattle.text.proofs.Rows.{AllLong, flat_long, flat_append, long_snoc, among-elem, is_at-below, is_at-here, row_fits}
use Rattle.text.proofs.DroneTaken.{drone_taken, range_long}
use Rattle.lines.specs.declared.names.NameSpan.{NameSpan}
use Rattle.lines.specs.declared.refusal.Refusal.{Refusal}
use Rattle.text.specs.declared.reader.DroneLines.{DroneLines}
use Rattle.std.specs.Prelude.{Err, Ok, Result}

-- what a drone that was taken adds to the tables
pub record DroneAdded (L : Limits) (f : LinesRead (Result DroneLines Refusal)) (total t : ℕ) : Type 0 where
  pub row : List ℕ
  pub rows_are : f.rows ≡ row ∷ []
  pub long : length row ≡ L.name
  pub one : length f.counts ≡ 1
  pub places : total + length f.locations ≡ t
  pub moments : total + length f.times ≡ t
  pub lengths : total + length f.legs ≡ t
  pub within : t ≤ L.stops

pub drone_added : (L : Limits) (form : ℕ) (text : List ℕ) (at total : ℕ) (taken : List ℕ → Bool) (e t : ℕ) → (drone_at L form text at total taken).answer ≡ read_to e t → DroneAdded L (drone_at L form text at total taken) total t
drone_added L form text at total taken e t h =
    let d = drone_taken L form text at total taken e t h in
    let m = range_long L form 0 d.route.locations d.route.times d.route.legs d.range in
    record {
      row = row_of L (small_form d.route.name);
      rows_are = d.rows_are;
      long = row_long L (small_form d.route.name);
      one = ap length d.counts_are;
      places = ap (λ (l : List ℕ). total + length l) d.locations_are ∙ sym d.total_is;
      moments = ap (λ (l : List ℕ). total + length l) d.times_are ∙ ap (λ (k : ℕ). total + k) m.0 ∙ sym d.total_is;
      lengths = ap (λ (l : List ℕ). total + length l) d.legs_are ∙ ap (λ (k : ℕ). total + k) m.1 ∙ sym d.total_is;
      within = rw d.total_is d.within;
    }

-- only what `taken` says of rows as long as the longest name matters
pub drone_by : (L : Limits) (form : ℕ) (text : List ℕ) (at total : ℕ) (t u : List ℕ → Bool) → ((row : List ℕ) → length row ≡ L.name → t row ≡ u row) → drone_at L form text at total t ≡ drone_at L form text at total u
unfolding drone_at
drone_by L form text at total t u h = by_name (name_at L text at)
  where
    by_name : (n : Result NameSpan Refusal) → drone_of L form text at total t n ≡ drone_of L form text at total u n
    by_name (Err r) = refl
    by_name (Ok span) = rw (h (row_of L (small_form (part text span.start span.end))) (row_long L (small_form (part text span.start span.end))))

-- one line of drones further
drones_bad : (L : Limits) (form k : ℕ) (text : List ℕ) (at : ℕ) (earlier : List (List ℕ)) (total : ℕ) (f : LinesRead (Result DroneLines Refusal)) (r : Refusal) → f ≡ drone_at L form text at total (elem earlier) → f.answer ≡ Err r → drones_at L form (suc k) text at earlier total ≡ f
unfolding drones_at
drones_bad L form k text at earlier total f r e h = rw (← e, h)

drones-next : (L : Limits) (form k : ℕ) (text : List ℕ) (at : ℕ) (earlier : List (List ℕ)) (total : ℕ) (f : LinesRead (Result DroneLines Refusal)) (p t : ℕ) → f ≡ drone_at L form text at total (elem earlier) → f.answer ≡ read_to p t
    → drones_at L form (suc k) text at earlier total ≡ joined f (drones_at L form k text p (earlier ++ f.rows) t)
unfolding drones_at
drones-next L form k text at earlier total f p t e h = rw (← e, h)

-- a table from which a run was stored on
pub shift : (b b' xs ys w : List ℕ) (i j : ℕ) → b' ≡ sets b i xs → i + length xs ≡ j → sets b i (xs ++ ys) ≡ w → sets b' j ys ≡ w
shift b b' xs ys w i j e l h = rw (e, ← l) (sets_append b i xs ys ∙ h)

-- the rows stand in the table after one more was stored
pub stand_more : (L : Limits) (ns : List ℕ) (d : ℕ) (earlier : List (List ℕ)) (row : List ℕ) → length earlier ≡ d → AllLong L earlier → length row ≡ L.name → d < L.drones → L.drones * L.name ≤ length ns → is_at ns 0 (flat earlier) ≡ true
    → is_at (sets ns (d * L.name) (flat (row ∷ []))) 0 (flat (earlier ++ row ∷ [])) ≡ true
stand_more L ns d earlier row many long l small room h =
    let f : length (flat earlier) ≡ d * L.name = flat_long L earlier long ∙ ap (λ (k : ℕ). k * L.name) many in
    let z : 0 + d * L.name ≡ d * L.name = zero-add (d * L.name) in
    rw (flat_append earlier (row ∷ []), append-nil row, is_at-append, is_at-below ns (d * L.name) row 0 (flat earlier) (omega (arith, f)), h, f, z) (is_at-here ns (d * L.name) row (omega (arith, l, row_fits d L.drones L.name small)))

pub record Alike (L : Limits) (left whole : LinesRead (Result DroneLines Refusal)) (d total : ℕ) (ns cs ls ts gs ns₀ cs₀ ls₀ ts₀ gs₀ : List ℕ) : Type 0 where
  pub answers : left.answer ≡ whole.answer
  pub names : sets ns (d * L.name) (flat left.rows) ≡ sets ns₀ (0 * L.name) (flat whole.rows)
  pub counts : sets cs d left.counts ≡ sets cs₀ 0 whole.counts
  pub locations : sets ls total left.locations ≡ sets ls₀ 0 whole.locations
  pub times : sets ts total left.times ≡ sets ts₀ 0 whole.times
  pub legs : sets gs total left.legs ≡ sets gs₀ 0 whole.legs

pub record Going (L : Limits) (form n : ℕ) (text : List ℕ) (whole : LinesRead (Result DroneLines Refusal)) (d here total : ℕ) (ns cs ls ts gs ns₀ cs₀ ls₀ ts₀ gs₀ : List ℕ) : Type 0 where
  pub earlier : List (List ℕ)
  pub many : length earlier ≡ d
  pub long : AllLong L earlier
  pub stand : is_at ns 0 (flat earlier) ≡ true
  pub going : Alike L (drones_at L form (n - d) text here earlier total) whole d total ns cs ls ts gs ns₀ cs₀ ls₀ ts₀ gs₀

pub reading_start : (L : Limits) (form n : ℕ) (text : List ℕ) (at : ℕ) (ns cs ls ts gs : List ℕ) → Going L form n text (drones_at L form n text at [] 0) 0 at 0 ns cs ls ts gs ns cs ls ts gs
unfolding is_at
reading_start L form n text at ns cs ls ts gs = record {
  earlier = [];
  many = refl;
  long = tt;
  stand = refl;
  going = rw sub-zero (record { answers = refl; names = refl; counts = refl; locations = refl; times = refl; legs = refl });
}

-- the drone that was read, told by the rows so far
module _ {L : Limits} {form n : ℕ} {text : List ℕ} {whole : LinesRead (Result DroneLines Refusal)} {d here total : ℕ} {ns cs ls ts gs ns₀ cs₀ ls₀ ts₀ gs₀ : List ℕ} (g : Going L form n text whole d here total ns cs ls ts gs ns₀ cs₀ ls₀ ts₀ gs₀) (more : d < n) where
  drone_is : drone_at L form text here total (among L d ns 0) ≡ drone_at L form text here total (elem g.earlier)
  drone_is = drone_by L form text here total _ _ (λ row l. rw (← g.many) (among-elem L g.earlier ns 0 row g.long g.stand l))

  -- one was refused: nothing is left
  pub reading_bad : (f : LinesRead (Result DroneLines Refusal)) (r : Refusal) → f ≡ drone_at L form text here total (among L d ns 0) → f.answer ≡ Err r → Alike L f whole d total ns cs ls ts gs ns₀ cs₀ ls₀ ts₀ gs₀
  reading_bad f r e h =
      let m : n - d ≡ suc (n - (d + 1)) = omega arith in
      let q : drones_at L form (n - d) text here g.earlier total ≡ f = rw m (drones_bad L form (n - (d + 1)) text here g.earlier total f r (e ∙ drone_is) h) in
      rw (← q) g.going

  flat_one : {total t : ℕ} (f : LinesRead (Result DroneLines Refusal)) → DroneAdded L f total t → d * L.name + length (flat f.rows) ≡ (d + 1) * L.name
  flat_one f a = rw (a.rows_are, append-nil) (omega (arith, a.long, add-mul d 1 L.name, one-mul L.name))

  -- one was taken
  pub reading_on : (f : LinesRead (Result DroneLines Refusal)) (e t : ℕ) (ns' cs' ls' ts' gs' : List ℕ) → f ≡ drone_at L form text here total (among L d ns 0) → f.answer ≡ read_to e t → d < L.drones → L.drones * L.name ≤ length ns
      → ns' ≡ sets ns (d * L.name) (flat f.rows) → cs' ≡ sets cs d f.counts → ls' ≡ sets ls total f.locations → ts' ≡ sets ts total f.times → gs' ≡ sets gs total f.legs
      → Going L form n text whole (d + 1) e t ns' cs' ls' ts' gs' ns₀ cs₀ ls₀ ts₀ gs₀
  reading_on f e t ns' cs' ls' ts' gs' fe h small room en ec el et eg =
      let a : DroneAdded L f total t = rw fe (drone_added L form text here total (among L d ns 0) e t (rw fe at h)) in
      let m : n - d ≡ suc (n - (d + 1)) = omega arith in
      let rest : LinesRead (Result DroneLines Refusal) = drones_at L form (n - (d + 1)) text e (g.earlier ++ f.rows) t in
      let q : drones_at L form (n - d) text here g.earlier total ≡ joined f rest = rw m (drones-next L form (n - (d + 1)) text here g.earlier total f e t (fe ∙ drone_is) h) in
      let v = rw q at g.going in
      record {
        earlier = g.earlier ++ f.rows;
        many = simp length-append (rw a.rows_are (omega (arith, g.many)));
        long = rw a.rows_are (long_snoc L g.earlier a.row g.long a.long);
        stand = rw (en, a.rows_are) (stand_more L ns d g.earlier a.row g.many g.long a.long small room g.stand);
        going = record {
          answers = v.answers;
          names = shift ns ns' (flat f.rows) _ _ (d * L.name) ((d + 1) * L.name) en (flat_one f a) (rw flat_append at v.names);
          counts = shift cs cs' f.counts _ _ d (d + 1) ec (omega (arith, a.one)) v.counts;
          locations = shift ls ls' f.locations _ _ total t el a.places v.locations;
          times = shift ts ts' f.times _ _ total t et a.moments v.times;
          legs = shift gs gs' f.legs _ _ total t eg a.lengths v.legs;
        };
      }

-- what was stored from here on is what the whole stores
pub alike_stored : {L : Limits} {f whole : LinesRead (Result DroneLines Refusal)} {d total : ℕ} {ns cs ls ts gs ns₀ cs₀ ls₀ ts₀ gs₀ ns' cs' ls' ts' gs' : List ℕ} {r : Result DroneLines Refusal}
    → Alike L f whole d total ns cs ls ts gs ns₀ cs₀ ls₀ ts₀ gs₀ → LinesStored L f d total ns cs ls ts gs ns' cs' ls' ts' gs' r → LinesStored L whole 0 0 ns₀ cs₀ ls₀ ts₀ gs₀ ns' cs' ls' ts' gs' r
alike_stored a s = record {
  answer_is = s.answer_is ∙ a.answers;
  names_are = s.names_are ∙ a.names;
  counts_are = s.counts_are ∙ a.counts;
  locations_are = s.locations_are ∙ a.locations;
  times_are = s.times_are ∙ a.times;
  legs_are = s.legs_are ∙ a.legs;
}

-- all were taken
pub reading_end : {L : Limits} {form n : ℕ} {text : List ℕ} {whole : LinesRead (Result DroneLines Refusal)} {d here total : ℕ} {ns cs ls ts gs ns₀ cs₀ ls₀ ts₀ gs₀ : List ℕ}
    → Going L form n text whole d here total ns cs ls ts gs ns₀ cs₀ ls₀ ts₀ gs₀ → n ≤ d → LinesStored L whole 0 0 ns₀ cs₀ ls₀ ts₀ gs₀ ns cs ls ts gs (read_to here total)
unfolding drones_at
reading_end {L} {form} {n} {text} {whole} {d} {here} {total} g h =
    let m : n - d ≡ 0 = omega arith in
    alike_stored (rw m at g.going) (whole-none L form d total _ _ _ _ _ _)

-- the tables keep their lengths
pub record Lengths (ns cs ls ts gs ns₀ cs₀ ls₀ ts₀ gs₀ : List ℕ) : Type 0 where
  pub names : length ns ≡ length ns₀
  pub counts : length cs ≡ length cs₀
  pub locations : length ls ≡ length ls₀
  pub times : length ts ≡ length ts₀
  pub legs : length gs ≡ length gs₀

-- storing lines keeps every length
pub lengths-stored : {A : Type 0} {L : Limits} {f : LinesRead A} {d total : ℕ} {ns cs ls ts gs ns₀ cs₀ ls₀ ts₀ gs₀ ns' cs' ls' ts' gs' : List ℕ} {r : A}
    → LinesStored L f d total ns cs ls ts gs ns' cs' ls' ts' gs' r → Lengths ns cs ls ts gs ns₀ cs₀ ls₀ ts₀ gs₀ → Lengths ns' cs' ls' ts' gs' ns₀ cs₀ ls₀ ts₀ gs₀
lengths-stored {A} {L} {f} {d} {total} {ns} {cs} {ls} {ts} {gs} s l = record {
  names = ap length s.names_are ∙ length-sets ns (d * L.name) (flat f.rows) ∙ l.names;
  counts = ap length s.counts_are ∙ length-sets cs d f.counts ∙ l.counts;
  locations = ap length s.locations_are ∙ length-sets ls total f.locations ∙ l.locations;
  times = ap length s.times_are ∙ length-sets ts total f.times ∙ l.times;
  legs = ap length s.legs_are ∙ length-sets gs total f.legs ∙ l.legs;
}

-- the two ends of a turn
module _ {L : Limits} {form n : ℕ} {text : List ℕ} {whole : LinesRead (Result DroneLines Refusal)} {d here total : ℕ} {ns cs ls ts gs ns₀ cs₀ ls₀ ts₀ gs₀ ns' cs' ls' ts' gs' : List ℕ} {r : Result DroneLines Refusal}
    (g : Going L form n text whole d here total ns cs ls ts gs ns₀ cs₀ ls₀ ts₀ gs₀) (more : d < n) (s : LinesStored L (drone_at L form text here total (among L d ns 0)) d total ns cs ls ts gs ns' cs' ls' ts' gs' r) where
  pub turn_bad : (x : Refusal) → r ≡ Err x → LinesStored L whole 0 0 ns₀ cs₀ ls₀ ts₀ gs₀ ns' cs' ls' ts' gs' (Err x)
  turn_bad x e = rw e at (alike_stored (reading_bad g more _ x refl (sym s.answer_is ∙ e)) s)

  pub turn_on : (e t : ℕ) → r ≡ read_to e t → d < L.drones → L.drones * L.name ≤ length ns → Going L form n text whole (d + 1) e t ns' cs' ls' ts' gs' ns₀ cs₀ ls₀ ts₀ gs₀
  turn_on e t q small room = reading_on g more _ e t ns' cs' ls' ts' gs' refl (sym s.answer_is ∙ q) small room s.names_are s.counts_are s.locations_are s.times_are s.legs_are

  pub turn-total : (e t : ℕ) → r ≡ read_to e t → t ≤ L.stops
  turn-total e t q = (drone_added L form text here total (among L d ns 0) e t (sym s.answer_is ∙ q)).within
