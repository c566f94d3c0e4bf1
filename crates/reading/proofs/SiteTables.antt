-- What a site text leaves in its table: no more than the full size, which zeroing takes away again, and of a text that is taken pairs that the reading asks for. Assumes nothing.
use Rattle.std.specs.Prelude.{Result, Ok, Err}
use Rattle.site.specs.declared.SiteRefusal.{SiteRefusal}
use Rattle.lines.specs.declared.numbers.Number.{Number}
use mathlib.Core.Path.{◌≡◌, refl, sym, ap, ◌∙◌}
use mathlib.Core.Bool.{Bool, true, false, cond}
use mathlib.Core.List.{List, []}
use Prim.Native.Nat.{ℕ, zero, suc, ◌*◌, ◌≤◌, ◌<◌}
use native.Mathlib.Omega.{arith}
use lib.ListN.{length}
use lib.Seq.{sets}
use Rattle.below.specs.Below.{at}
use Rattle.tables.specs.Limits.{Limits, most_pairs}
use Rattle.tables.specs.Tables.{Tables}
use Rattle.tables.specs.Zero.{zeroed, zeroed_tables}
use Rattle.tables.proofs.Zero.{zeroed-below, zeroed_twice, zeroed_sets}
use Rattle.tables.proofs.ZeroTables.{each-zeroed}
use Rattle.lines.specs.Bytes.{is_at}
use Rattle.near.specs.Near.{SoundPairs}
use Rattle.site.specs.declared.SiteRefusal.TheVariants.{Form}
use Rattle.site.specs.declared.NearLine.{NearLine}
use Rattle.site.specs.Site.{site_line, near_at, pairs_from, pairs_at, pair_count_at, site_counted, site_at}
use Rattle.site.proofs.SiteCases.{count_range}
use Rattle.site.proofs.SiteSound.{table-sound, taken_sound}
use Rattle.reading.specs.Reading.{Site, without, given, site_read, with_site}
use Rattle.reading.specs.Asked.{ZeroedButPairs}

-- ---- how many numbers

-- n lines have no more than n pairs
lines_few : (L : Limits) (n c d : ℕ) (text : List ℕ) (at : ℕ) → length (pairs_at L n c d text at).numbers ≤ 2 * n
unfolding pairs_at
lines_few L zero c d text at = omega arith
lines_few L (suc n) c d text at = go (near_at L c d text at) (λ a b e. lines_few L n a b text e)
  where
    go : (s : Result NearLine SiteRefusal) → ((a b e : ℕ) → length (pairs_at L n a b text e).numbers ≤ 2 * n) → length (pairs_from s (λ a b e. pairs_at L n a b text e)).numbers ≤ 2 * suc n
    go (Err r) more = omega arith
    go (Ok p) more = omega (arith, more p.lower p.upper p.next)

text_fits : (L : Limits) (text : List ℕ) → length (site_at L text).numbers ≤ 2 * most_pairs
unfolding site_at
text_fits L text = by_line (is_at text 0 site_line)
  where
    by_count : (x : Result Number SiteRefusal) → pair_count_at L text 7 ≡ x → length (site_counted L text x).numbers ≤ 2 * most_pairs
    by_count (Err r) q = omega arith
    by_count (Ok n) q = omega (arith, lines_few L n.value 0 0 text n.next, count_range L text 7 n.value n.next q)

    by_line : (b : Bool) → length (cond b (site_counted L text (pair_count_at L text 7)) (record { numbers = []; answer = Err (Form 0) })).numbers ≤ 2 * most_pairs
    by_line true = by_count (pair_count_at L text 7) refl
    by_line false = omega arith

-- the numbers of a site's pairs fit into their table, whether its text is taken or refused
pub numbers_fit : (L : Limits) (s : Site) → length (site_read L s).numbers ≤ 2 * most_pairs
numbers_fit L without = omega arith
numbers_fit L (given text) = text_fits L text

-- ---- zeroing

-- the tables that zeroing leaves as they are
abbrev pub IsZeroed : Limits → Tables → Type 0
IsZeroed L z = zeroed_tables L z ≡ z

-- zeroed twice is zeroed
pub zeroed_again : (L : Limits) (t : Tables) → IsZeroed L (zeroed_tables L t)
zeroed_again L t =
    sym (each-zeroed L (zeroed_tables L t)
    (sym (zeroed_twice 1 t.plan.drone_count))
    (sym (zeroed_twice 1 t.plan.dependency_count))
    (sym (zeroed_twice 1 t.plan.form))
    (sym (zeroed_twice (L.drones * L.name) t.plan.names))
    (sym (zeroed_twice L.drones t.plan.stop_counts))
    (sym (zeroed_twice L.stops t.plan.locations))
    (sym (zeroed_twice L.stops t.plan.times))
    (sym (zeroed_twice L.stops t.plan.legs))
    (sym (zeroed_twice L.drones t.visited))
    (sym (zeroed_twice L.drones t.drone_flags))
    (sym (zeroed_twice L.dependencies t.plan.first_drones))
    (sym (zeroed_twice L.dependencies t.plan.first_stops))
    (sym (zeroed_twice L.dependencies t.plan.second_drones))
    (sym (zeroed_twice L.dependencies t.plan.second_stops))
    (sym (zeroed_twice L.dependencies t.flags))
    (sym (zeroed_twice (2 * most_pairs) t.plan.pairs)))

-- zeroing takes away what a site text has left
pub site_zeroed : (L : Limits) (numbers : List ℕ) (t : Tables) → length numbers ≤ 2 * most_pairs → zeroed_tables L (with_site numbers t) ≡ zeroed_tables L t
site_zeroed L numbers t h = each-zeroed L t refl refl refl refl refl refl refl refl refl refl refl refl refl refl refl (zeroed_sets (2 * most_pairs) t.plan.pairs numbers h)

-- .. in tables that were zeroed before it
pub zeroed_site : (L : Limits) (numbers : List ℕ) (t : Tables) → length numbers ≤ 2 * most_pairs → zeroed_tables L (with_site numbers (zeroed_tables L t)) ≡ zeroed_tables L t
zeroed_site L numbers t h = site_zeroed L numbers (zeroed_tables L t) h ∙ zeroed_again L t

-- zeroed tables with a site's pairs are zeroed but for these
pub but_pairs : (L : Limits) (numbers : List ℕ) (z : Tables) → IsZeroed L z → ZeroedButPairs L (with_site numbers z)
but_pairs L numbers z is =
    sym (each-zeroed L (with_site numbers z)
    (sym (ap (λ (t : Tables). t.plan.drone_count) is))
    (sym (ap (λ (t : Tables). t.plan.dependency_count) is))
    (sym (ap (λ (t : Tables). t.plan.form) is))
    (sym (ap (λ (t : Tables). t.plan.names) is))
    (sym (ap (λ (t : Tables). t.plan.stop_counts) is))
    (sym (ap (λ (t : Tables). t.plan.locations) is))
    (sym (ap (λ (t : Tables). t.plan.times) is))
    (sym (ap (λ (t : Tables). t.plan.legs) is))
    (sym (ap (λ (t : Tables). t.visited) is))
    (sym (ap (λ (t : Tables). t.drone_flags) is))
    (sym (ap (λ (t : Tables). t.plan.first_drones) is))
    (sym (ap (λ (t : Tables). t.plan.first_stops) is))
    (sym (ap (λ (t : Tables). t.plan.second_drones) is))
    (sym (ap (λ (t : Tables). t.plan.second_stops) is))
    (sym (ap (λ (t : Tables). t.flags) is))
    refl)

-- ---- sound pairs

module _ (L : Limits) (ps : List ℕ) (room : 2 * most_pairs ≤ length ps) (is : zeroed (2 * most_pairs) ps ≡ ps) where
  entries : (j : ℕ) → j < 2 * most_pairs → at ps j ≡ 0
  entries j l = sym (ap (λ (l : List ℕ). at l j) is) ∙ zeroed-below (2 * most_pairs) ps j l

  -- without a site text there are no pairs
  pub none-sound : SoundPairs L ps
  none-sound = table-sound L ps [] 0 room entries tt refl (omega arith)

  -- .. and those of a site text that is taken are sound
  pub site_sound_lem : (s : Site) (ps' : List ℕ) → ps' ≡ sets ps 0 (site_read L s).numbers → (site_read L s).answer ≡ Ok tt → SoundPairs L ps'
  site_sound_lem without ps' e h = rw e none-sound
  site_sound_lem (given text) ps' e h = rw e (taken_sound L text ps room entries h)
