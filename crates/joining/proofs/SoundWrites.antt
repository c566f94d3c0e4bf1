-- Sound tables hold routes that are in range by themselves and pairs that a site text could give: all that a joining asks of a plan.
use mathlib.Core.Path.{◌≡◌, refl, sym, ◌∙◌, subst}
use mathlib.Core.Bool.{Bool, true, false}
use mathlib.Core.List.{List, [], ◌∷◌, ◌++◌}
use Prim.Native.Nat.{ℕ, zero, suc, ◌+◌, ◌≤◌, max}
use native.Mathlib.Omega.{arith}
use lib.ListN.{length, take, drop}
use lib.Seq.{take-take}
use Rattle.below.specs.Below.{sum_below, at as entry}
use Rattle.tables.specs.Limits.{Limits}
use Rattle.tables.specs.Tables.{PlanLists, Tables, drones, dependencies, form_of, full_size}
use Rattle.tables.proofs.SizeLaws.{full_sizes}
use Rattle.lines.specs.Names.{row_of}
use Rattle.text.specs.TextWritten.{rows_in}
use Rattle.text.specs.Written.{Route, routes_from, InLimits, InLimitsFrom}
use Rattle.text.proofs.WriteLoop.{sum_front}
use Rattle.text.proofs.WriteWhole.{drop-take}
use Rattle.plan.specs.Stops.{start}
use Rattle.sound.specs.Sound.{sound}
use Rattle.sound.proofs.Clauses.{Sound, sound-says}
use Rattle.call_log.proofs.SoundParts.{drones_in, stops_in_lem, dependencies_in}
use Rattle.accepted.proofs.SoundAccepted.{routes, many, in_limits, pairs_ready}
use Rattle.copying.specs.Reckoned.{routes_in, AllInRange, Copyable}
use Rattle.copying.proofs.Wider.{all_in_range_wider}
use Rattle.joining.specs.Joining.{routes_of_plan, not_started}
use Rattle.std.specs.Prelude.{⊤, Result, Ok, Err}
use Rattle.joining.specs.declared.tests.StandingFault.{StandingFault}
use Rattle.joining.specs.declared.tests.StandingFault.TheVariants.{Small, Unsound, Started}
use Rattle.joining.specs.Standing.{standing_by, standing_of, earlier, PlanReady}

-- ---- what the test of a started plan reads

module _ (L : Limits) (t : Tables) (full : full_size L t ≡ true) (s : sound L t ≡ true) where
  pub drones-room : (drones t.plan ≤ length t.visited) × (drones t.plan ≤ length t.drone_flags)
  drones-room =
      let z = full_sizes L t full in
      let d = drones_in L t.plan (sound-says L t s).accepted in
      (omega (arith, d, z.visited), omega (arith, d, z.drone_flags))

  pub flags_room : dependencies t.plan ≤ length t.flags
  flags_room =
      let c : Sound L t = sound-says L t s in
      omega (arith, dependencies_in L t.plan c.accepted c.dependencies_own, (full_sizes L t full).flags)

-- ---- what a joining asks of a plan

-- routes within the limits are in range by themselves
pub range_from : (L : Limits) (form : ℕ) (ds : List Route) (before : List (List ℕ)) (total : ℕ) → InLimitsFrom L form before total ds → AllInRange L form ds
range_from L form [] before total v = tt
range_from L form (d ∷ ds) before total v =
    ((v.0, v.2, omega (arith, v.3), v.4), range_from L form ds (before ++ row_of L d.name ∷ []) (total + length d.locations) v.5)

-- the routes take no stop past those of their drones
routes_cut : (rows : List (List ℕ)) (n : ℕ) (counts ls ts gs : List ℕ)
    → routes_from rows (take n counts) (take (sum_below n (entry counts)) ls) (take (sum_below n (entry counts)) ts) (take (sum_below n (entry counts)) gs) ≡ routes_from rows (take n counts) ls ts gs
routes_cut [] n counts ls ts gs = refl
routes_cut (r ∷ rows) zero counts ls ts gs = refl
routes_cut (r ∷ rows) (suc n) [] ls ts gs = refl
routes_cut (r ∷ rows) (suc n) (m ∷ counts) ls ts gs =
    let s = sum_below n (entry counts) in
    let b : m ≤ m + s = omega arith in
    rw (sum_front n m counts, take-take m (m + s) ls b, take-take m (m + s) ts b, take-take m (m + s) gs b, drop-take m s ls, drop-take m s ts, drop-take m s gs, routes_cut rows n counts (drop m ls) (drop m ts) (drop m gs)) refl

module _ (L : Limits) (t : Tables) (full : full_size L t ≡ true) (s : sound L t ≡ true) where
  abbrev p : PlanLists
  p = t.plan

  pub clauses : Sound L t
  clauses = sound-says L t s

  pub routes_are : routes L t full clauses ≡ routes_of_plan L p
  unfolding start
  routes_are = routes_cut (rows_in L (drones p) p.names) (drones p) p.stop_counts p.locations p.times p.legs

  pub plan_in-limits : InLimits L (form_of p) (routes_of_plan L p)
  plan_in-limits = subst (InLimits L (form_of p)) routes_are (in_limits L t full clauses)

  copyable : Copyable L (form_of p) (drones p) p.names p.stop_counts p.locations p.times p.legs
  unfolding start
  copyable =
      let z = full_sizes L t full in
      record {
        known = plan_in-limits.3;
        writable = record {
          form_in = plan_in-limits.4;
          drones_in = drones_in L p clauses.accepted;
          stops_in_lem = stops_in_lem L p clauses.accepted;
          names_full = z.names;
          counts_full = z.stop_counts_lem;
          locations_full = z.locations;
          times_full = z.times;
          legs_full = z.legs;
        };
        some = omega (arith, many L t full clauses, (in_limits L t full clauses).0);
        each = range_from L (form_of p) (routes_of_plan L p) [] 0 plan_in-limits.2;
      }

  pub plan_ready : PlanReady L p.drone_count p.form p.names p.stop_counts p.locations p.times p.legs p.pairs
  plan_ready =
      let z = full_sizes L t full in
      record {
        has_drone_count = z.drone_count_lem;
        has_form = z.form;
        form_some = plan_in-limits.3;
        form_known = plan_in-limits.4;
        routes_ready = copyable;
        pairs_ready = pairs_ready L t full clauses;
      }

-- a plan that comes through its tests is one
abbrev IsReady : Result ⊤ StandingFault → Type 0
IsReady (Err y) = ⊥
IsReady (Ok _) = Unit {0}

standing_ready : (full isSound fresh : Bool) → IsReady (standing_by full isSound fresh) → (full ≡ true) × (isSound ≡ true)
standing_ready true true fresh h = (refl, refl)
standing_ready true false fresh h = absurd h
standing_ready false isSound fresh h = absurd h

tested_ready : (L : Limits) (t : Tables) → IsReady (standing_of L t)
    → PlanReady L t.plan.drone_count t.plan.form t.plan.names t.plan.stop_counts t.plan.locations t.plan.times t.plan.legs t.plan.pairs
unfolding standing_of
tested_ready L t h = let (full, s) = standing_ready (full_size L t) (sound L t) (not_started t) h in plan_ready L t full s

both_ready : (x y : Result ⊤ StandingFault) → IsReady (earlier x y) → IsReady x × IsReady y
both_ready (Ok _) y h = (tt, h)
both_ready (Err Small) y h = absurd h
both_ready (Err Unsound) (Err Small) h = absurd h
both_ready (Err Unsound) (Err Unsound) h = absurd h
both_ready (Err Unsound) (Err Started) h = absurd h
both_ready (Err Unsound) (Ok _) h = absurd h
both_ready (Err Started) (Err Small) h = absurd h
both_ready (Err Started) (Err Unsound) h = absurd h
both_ready (Err Started) (Err Started) h = absurd h
both_ready (Err Started) (Ok _) h = absurd h

-- .. so a caller who made the tests may join
pub plans_ready : (L : Limits) (a b : Tables) (s : Result ⊤ StandingFault) → s ≡ earlier (standing_of L a) (standing_of L b) → s ≡ Ok tt
    → PlanReady L a.plan.drone_count a.plan.form a.plan.names a.plan.stop_counts a.plan.locations a.plan.times a.plan.legs a.plan.pairs
    × PlanReady L b.plan.drone_count b.plan.form b.plan.names b.plan.stop_counts b.plan.locations b.plan.times b.plan.legs b.plan.pairs
plans_ready L a b s e r = let (x, y) = both_ready (standing_of L a) (standing_of L b) (subst IsReady (sym r ∙ e) tt) in (tested_ready L a x, tested_ready L b y)

-- ---- the later form

-- what can be copied in a form can be in every later one
copyable_wider : (L : Limits) (f f' n : ℕ) (names counts ls ts gs : List ℕ) → f ≤ f' → f' ≤ L.form → 1 ≤ L.leg → Copyable L f n names counts ls ts gs → Copyable L f' n names counts ls ts gs
copyable_wider L f f' n names counts ls ts gs later known some c = record {
  known = omega (arith, c.known, later);
  writable = record {
    form_in = known;
    drones_in = c.writable.drones_in;
    stops_in_lem = c.writable.stops_in_lem;
    names_full = c.writable.names_full;
    counts_full = c.writable.counts_full;
    locations_full = c.writable.locations_full;
    times_full = c.writable.times_full;
    legs_full = c.writable.legs_full;
  };
  some = c.some;
  each = all_in_range_wider L f f' c.known later some (routes_in L n names counts ls ts gs) c.each;
}

module _ (L : Limits) (some : 1 ≤ L.leg) {dc fm ns cs ls ts gs ps : List ℕ} (p : PlanReady L dc fm ns cs ls ts gs ps) {dc' fm' ns' cs' ls' ts' gs' ps' : List ℕ} (q : PlanReady L dc' fm' ns' cs' ls' ts' gs' ps')
    (k : ℕ) (e : k ≡ max (entry fm 0) (entry fm' 0)) where
  pub both_copyable : Copyable L k (entry dc 0) ns cs ls ts gs × Copyable L k (entry dc' 0) ns' cs' ls' ts' gs'
  both_copyable =
      let fits : k ≤ L.form = omega (arith, e, p.form_known, q.form_known) in
      (copyable_wider L (entry fm 0) k (entry dc 0) ns cs ls ts gs (omega (arith, e)) fits some p.routes_ready, copyable_wider L (entry fm' 0) k (entry dc' 0) ns' cs' ls' ts' gs' (omega (arith, e)) fits some q.routes_ready)
