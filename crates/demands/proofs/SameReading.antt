-- The reading into tables that agree up to their full sizes, with a site text or without: the same reply, and tables that agree again; and it writes nothing past a full size. Assumes nothing.
use mathlib.Core.Path.{◌≡◌, refl, sym, ap, ap₂, ◌∙◌, subst}
use mathlib.Core.Bool.{Bool, true, false, cond}
use mathlib.Core.List.{List, [], ◌∷◌}
use Prim.Native.Nat.{ℕ, ◌*◌, ◌≤◌}
use native.Mathlib.Nat.{mul-le-mul_right}
use native.Mathlib.Omega.{arith}
use lib.Dec.{ltb, leb}
use lib.ListN.{length, take, drop}
use lib.Seq.{sets}
use borrow.Author.Tests.{leb-true}
use Rattle.below.specs.Below.{laid}
use Rattle.below.proofs.Pairs.{length-listed}
use Rattle.tables.specs.Limits.{Limits, most_pairs}
use Rattle.tables.specs.Tables.{PlanLists, Tables, tables_of, drones, full_size, each_table}
use Rattle.tables.specs.Zero.{zeroed_tables}
use Rattle.tables.proofs.Zero.{zeroed-drop}
use Rattle.text.specs.LinesRead.{LinesRead, lines_at, flat}
use Rattle.text.specs.Written.{rows_of, counts_of, locations_of, times_of, legs_of}
use Rattle.text.proofs.TakenIsWritten.{TextTaken, text_taken}
use Rattle.text.proofs.Sizes.{names_many, counts_many, stops_within, times_many, legs_many}
use Rattle.plan.specs.Dependencies.{follows, flag_of}
use Rattle.plan.specs.Claims.{stop_total, owner_in, number_in, visits_in, planned_total, planned_list}
use Rattle.reading.specs.Replies.{ReadingReply, taken, is_taken, check_meant}
use Rattle.reading.specs.Reading.{Site, site_read, ReadingAnswer, with_reply, with_site, with_text, with_dependencies, check_in, built, after_check, from_lines, read_lines, after_site, read_plan}
use Rattle.accepted.proofs.PlanHeld.{HoldsRoutes, total_is as stops_are}
use Rattle.accepted.proofs.ReadSound.{stored_holds}
use Rattle.accepted.proofs.SiteTexts.{read_pairs, numbers_fit}
use Rattle.demands.specs.FullSizes.{up_to_full, past_full, AgreeUpToFull}
use Rattle.demands.proofs.Entries.{take_sets, drop_sets, take-laid, drop-laid, take-zeroed}
use Rattle.demands.proofs.SameNumbering.{check_is, total_is, column_is}
use Rattle.demands.proofs.SameCalls.{same_tables, full-same}
use Rattle.lines.specs.declared.refusal.Refusal.{Refusal as LineRefusal}
use Rattle.site.specs.declared.SiteRefusal.{SiteRefusal}
use Rattle.std.specs.Prelude.{⊤, Result, Ok, Err}

-- the same reply, and tables that agree
pub record AnswersAgree (L : Limits) (a a' : ReadingAnswer) : Type 0 where
  pub replies : a.reply ≡ a'.reply
  pub leaves : AgreeUpToFull L a.tables a'.tables

-- tables with these entries in the table of pairs
abbrev with_pairs : Tables → List ℕ → Tables
with_pairs t pairs =
    tables_of t.plan.drone_count t.plan.dependency_count t.plan.form t.plan.names t.plan.stop_counts t.plan.locations t.plan.times t.plan.legs t.visited t.drone_flags
    t.plan.first_drones t.plan.first_stops t.plan.second_drones t.plan.second_stops t.flags pairs

-- ---- the steps of a reading on the first entries

module _ (L : Limits) (t : Tables) where
  first_zeroed : up_to_full L (zeroed_tables L t) ≡ zeroed_tables L (up_to_full L t)
  first_zeroed = λ i. each_table (λ n l. take-zeroed n l i) L t

  first_text : (f : LinesRead (Result ℕ LineRefusal)) (n : ℕ) → up_to_full L (with_text f n t) ≡ with_text f n (up_to_full L t)
  first_text f n = λ i.
      tables_of
      (take_sets 1 (n ∷ []) t.plan.drone_count 0 i)
      (take 1 t.plan.dependency_count)
      (take_sets 1 (f.form ∷ []) t.plan.form 0 i)
      (take_sets (L.drones * L.name) (flat f.rows) t.plan.names 0 i)
      (take_sets L.drones f.counts t.plan.stop_counts 0 i)
      (take_sets L.stops f.locations t.plan.locations 0 i)
      (take_sets L.stops f.times t.plan.times 0 i)
      (take_sets L.stops f.legs t.plan.legs 0 i)
      (take L.drones t.visited)
      (take L.drones t.drone_flags)
      (take L.dependencies t.plan.first_drones)
      (take L.dependencies t.plan.first_stops)
      (take L.dependencies t.plan.second_drones)
      (take L.dependencies t.plan.second_stops)
      (take L.dependencies t.flags)
      (take (2 * most_pairs) t.plan.pairs)

  first_site : (ns : List ℕ) → up_to_full L (with_site ns t) ≡ with_site ns (up_to_full L t)
  first_site ns = λ i. with_pairs (up_to_full L t) (take_sets (2 * most_pairs) ns t.plan.pairs 0 i)

-- a column laid into two lists that agree
laid_agree : (n : ℕ) (l l' xs xs' : List ℕ) → take n l ≡ take n l' → xs ≡ xs' → take n (laid l 0 xs) ≡ take n (laid l' 0 xs')
laid_agree n l l' xs xs' e h = take-laid n xs l ∙ ap₂ (λ (x y : List ℕ). laid x 0 y) e h ∙ sym (take-laid n xs' l')

-- ---- plan check and building on tables that agree, with counts in their ranges

module _ (L : Limits) (t t' : Tables) (e : AgreeUpToFull L t t') (few : drones t.plan ≤ L.drones) (room : stop_total t.plan ≤ L.stops) where
  abbrev p : PlanLists
  p = t.plan

  abbrev p' : PlanLists
  p' = t'.plan

  checks : check_in p ≡ check_in p'
  checks = ap check_meant (check_is L p p' (same_tables L t t' e).plan_same few room)

  totals : planned_total p ≡ planned_total p'
  totals = total_is L p p' (same_tables L t t' e).plan_same few room

  -- one column of the dependencies
  column-agrees : (l l' : List ℕ) (f : (own num : ℕ → ℕ) (n : ℕ) → ℕ → ℕ → ℕ) → take L.dependencies l ≡ take L.dependencies l'
      → take L.dependencies (laid l 0 (planned_list p (f (owner_in p) (number_in p) (stop_total p)))) ≡ take L.dependencies (laid l' 0 (planned_list p' (f (owner_in p') (number_in p') (stop_total p'))))
  column-agrees l l' f h = laid_agree L.dependencies l l' _ _ h (column_is L p p' (same_tables L t t' e).plan_same few room f)

  built_agree : AgreeUpToFull L (with_dependencies t) (with_dependencies t')
  built_agree =
      let counts : take 1 (with_dependencies t).plan.dependency_count ≡ take 1 (with_dependencies t').plan.dependency_count = take_sets 1 (planned_total p ∷ []) p.dependency_count 0 ∙ ap₂ (λ (x : List ℕ) (n : ℕ). sets x 0 (n ∷ [])) (ap (λ (x : Tables). x.plan.dependency_count) e) totals ∙ sym (take_sets 1 (planned_total p' ∷ []) p'.dependency_count 0) in
      λ i.
      tables_of
      (e i).plan.drone_count
      (counts i)
      (e i).plan.form
      (e i).plan.names
      (e i).plan.stop_counts
      (e i).plan.locations
      (e i).plan.times
      (e i).plan.legs
      (e i).visited
      (e i).drone_flags
      (column-agrees p.first_drones p'.first_drones (λ own num n v w. own v) (ap (λ (x : Tables). x.plan.first_drones) e) i)
      (column-agrees p.first_stops p'.first_stops (λ own num n v w. num v) (ap (λ (x : Tables). x.plan.first_stops) e) i)
      (column-agrees p.second_drones p'.second_drones (λ own num n v w. own w) (ap (λ (x : Tables). x.plan.second_drones) e) i)
      (column-agrees p.second_stops p'.second_stops (λ own num n v w. num w) (ap (λ (x : Tables). x.plan.second_stops) e) i)
      (column-agrees t.flags t'.flags flag_of (ap (λ (x : Tables). x.flags) e) i)
      (e i).plan.pairs

  module _ (z z' : Tables) (h : AgreeUpToFull L z z') where
    by_total : (n n' : ℕ) → n ≡ n' → (r : ReadingReply) → AnswersAgree L (cond (leb n L.dependencies) (with_reply taken (with_dependencies t)) (with_reply r z)) (cond (leb n' L.dependencies) (with_reply taken (with_dependencies t')) (with_reply r z'))
    by_total n n' q r = rw q (go (leb n' L.dependencies))
      where
        go : (b : Bool) → AnswersAgree L (cond b (with_reply taken (with_dependencies t)) (with_reply r z)) (cond b (with_reply taken (with_dependencies t')) (with_reply r z'))
        go true = record { replies = refl; leaves = built_agree }
        go false = record { replies = refl; leaves = h }

    checked_agree : (r : ReadingReply) → AnswersAgree L (after_check L z t r) (after_check L z' t' r)
    checked_agree r = go (is_taken r)
      where
        go : (b : Bool) → AnswersAgree L (cond b (built L z t) (with_reply r z)) (cond b (built L z' t') (with_reply r z'))
        go true = by_total (planned_total p) (planned_total p') totals _
        go false = record { replies = refl; leaves = h }

-- ---- the text's values in zeroed tables: their counts are in their ranges, and none reaches past a full size

module _ (L : Limits) (t : Tables) (full : full_size L t ≡ true) (ns text : List ℕ) (n : ℕ) (taken : (lines_at L text).answer ≡ Ok n) where
  w : TextTaken L text n (lines_at L text)
  w = text_taken L text n taken

  abbrev after_text : Tables
  after_text = with_text (lines_at L text) n (with_site ns (zeroed_tables L t))

  held : HoldsRoutes L w.form w.routes after_text.plan
  held = stored_holds L t full ns (lines_at L text) n w.form w.routes w.many w.in_limits w.read

  pub drones_few : drones after_text.plan ≤ L.drones
  drones_few = omega (arith, held.drones_are, w.in_limits.1)

  pub stops_few : stop_total after_text.plan ≤ L.stops
  stops_few = omega (arith, stops_are L w.form w.routes w.in_limits after_text.plan held, stops_within L w.form w.routes w.in_limits)

  -- nothing past a full size
  routes_past : past_full L after_text ≡ past_full L (with_site ns (zeroed_tables L t))
  routes_past =
      let z = (zeroed_tables L t).plan in
      let f = lines_at L text in
      let ds = w.routes in
      let rows : flat f.rows ≡ flat (rows_of L ds) = ap (λ (g : LinesRead (Result ℕ LineRefusal)). flat g.rows) w.read in
      let counts : f.counts ≡ counts_of ds = ap (λ (g : LinesRead (Result ℕ LineRefusal)). g.counts) w.read in
      let locations : f.locations ≡ locations_of ds = ap (λ (g : LinesRead (Result ℕ LineRefusal)). g.locations) w.read in
      let times : f.times ≡ times_of ds = ap (λ (g : LinesRead (Result ℕ LineRefusal)). g.times) w.read in
      let legs : f.legs ≡ legs_of ds = ap (λ (g : LinesRead (Result ℕ LineRefusal)). g.legs) w.read in
      let names-fit : length (flat f.rows) ≤ L.drones * L.name = omega (arith, ap length rows, names_many L ds, mul-le-mul_right L.name w.in_limits.1) in
      let counts-fit : length f.counts ≤ L.drones = omega (arith, ap length counts, counts_many ds, w.in_limits.1) in
      let stops_fit : length f.locations ≤ L.stops = omega (arith, ap length locations, stops_within L w.form ds w.in_limits) in
      let times-fit : length f.times ≤ L.stops = omega (arith, ap length times, times_many L w.form ds w.in_limits, stops_within L w.form ds w.in_limits) in
      let legs-fit : length f.legs ≤ L.stops = omega (arith, ap length legs, legs_many L w.form ds w.in_limits, stops_within L w.form ds w.in_limits) in
      λ i.
      tables_of
      (drop_sets 1 (n ∷ []) z.drone_count 0 (omega arith) i)
      (drop 1 z.dependency_count)
      (drop_sets 1 (f.form ∷ []) z.form 0 (omega arith) i)
      (drop_sets (L.drones * L.name) (flat f.rows) z.names 0 (omega arith) i)
      (drop_sets L.drones f.counts z.stop_counts 0 (omega arith) i)
      (drop_sets L.stops f.locations z.locations 0 (omega arith) i)
      (drop_sets L.stops f.times z.times 0 (omega arith) i)
      (drop_sets L.stops f.legs z.legs 0 (omega arith) i)
      (drop L.drones (zeroed_tables L t).visited)
      (drop L.drones (zeroed_tables L t).drone_flags)
      (drop L.dependencies z.first_drones)
      (drop L.dependencies z.first_stops)
      (drop L.dependencies z.second_drones)
      (drop L.dependencies z.second_stops)
      (drop L.dependencies (zeroed_tables L t).flags)
      (drop (2 * most_pairs) (with_site ns (zeroed_tables L t)).plan.pairs)

-- the pairs fit
site_past : (L : Limits) (t : Tables) (ns : List ℕ) → length ns ≤ 2 * most_pairs → past_full L (with_site ns t) ≡ past_full L t
site_past L t ns fit = λ i. with_pairs (past_full L t) (drop_sets (2 * most_pairs) ns t.plan.pairs 0 (omega arith) i)

zeroed-past : (L : Limits) (t : Tables) → past_full L (zeroed_tables L t) ≡ past_full L t
zeroed-past L t = λ i. each_table (λ n l. zeroed-drop n l i) L t

-- the dependencies fit
built-past : (L : Limits) (t : Tables) → planned_total t.plan ≤ L.dependencies → past_full L (with_dependencies t) ≡ past_full L t
built-past L t room =
    let p = t.plan in
    let long : (f : ℕ → ℕ → ℕ) → length (planned_list p f) ≡ planned_total p = length-listed (follows (visits_in p)) (stop_total p) in
    let column : (l : List ℕ) (f : ℕ → ℕ → ℕ) → drop L.dependencies (laid l 0 (planned_list p f)) ≡ drop L.dependencies l = λ l f. drop-laid L.dependencies (planned_list p f) l (omega (arith, long f)) in
    λ i.
    tables_of
    (drop 1 p.drone_count)
    (drop_sets 1 (planned_total p ∷ []) p.dependency_count 0 (omega arith) i)
    (drop 1 p.form)
    (drop (L.drones * L.name) p.names)
    (drop L.drones p.stop_counts)
    (drop L.stops p.locations)
    (drop L.stops p.times)
    (drop L.stops p.legs)
    (drop L.drones t.visited)
    (drop L.drones t.drone_flags)
    (column p.first_drones (λ v w. owner_in p v) i)
    (column p.first_stops (λ v w. number_in p v) i)
    (column p.second_drones (λ v w. owner_in p w) i)
    (column p.second_stops (λ v w. number_in p w) i)
    (column t.flags (flag_of (owner_in p) (number_in p) (stop_total p)) i)
    (drop (2 * most_pairs) p.pairs)

-- ---- the whole reading

module _ (L : Limits) (text : List ℕ) where
  abbrev f : LinesRead (Result ℕ LineRefusal)
  f = lines_at L text

  module _ (t t' : Tables) (e : AgreeUpToFull L t t') (full : full_size L t ≡ true) (ns : List ℕ) where
    -- the tables that the lines are read into
    abbrev z : Tables
    z = with_site ns (zeroed_tables L t)

    abbrev z' : Tables
    z' = with_site ns (zeroed_tables L t')

    zeroed_agree : AgreeUpToFull L (zeroed_tables L t) (zeroed_tables L t')
    zeroed_agree = first_zeroed L t ∙ ap (zeroed_tables L) e ∙ sym (first_zeroed L t')

    site_agree : AgreeUpToFull L z z'
    site_agree = first_site L (zeroed_tables L t) ns ∙ ap (with_site ns) zeroed_agree ∙ sym (first_site L (zeroed_tables L t') ns)

    again_agree : AgreeUpToFull L (zeroed_tables L z) (zeroed_tables L z')
    again_agree = first_zeroed L z ∙ ap (zeroed_tables L) site_agree ∙ sym (first_zeroed L z')

    lines_agree : (a : Result ℕ LineRefusal) → f.answer ≡ a → AnswersAgree L (from_lines L z f a) (from_lines L z' f a)
    lines_agree (Err r) h = record { replies = refl; leaves = again_agree }
    lines_agree (Ok n) h =
        let x = with_text f n z in
        let x' = with_text f n z' in
        let q : AgreeUpToFull L x x' = first_text L z f n ∙ ap (with_text f n) site_agree ∙ sym (first_text L z' f n) in
        let few = drones_few L t full ns text n h in
        let room = stops_few L t full ns text n h in
        subst (λ (r : ReadingReply). AnswersAgree L (after_check L (zeroed_tables L z) x (check_in x.plan)) (after_check L (zeroed_tables L z') x' r)) (checks L x x' q few room)
        (checked_agree L x x' q few room (zeroed_tables L z) (zeroed_tables L z') again_agree (check_in x.plan))

    site_agrees : (a : Result ⊤ SiteRefusal) → AnswersAgree L (after_site L ns text t a) (after_site L ns text t' a)
    unfolding read_lines
    site_agrees (Err r) = record { replies = refl; leaves = zeroed_agree }
    site_agrees (Ok _) = go (ltb L.text (length text)) _
      where
        go : (b : Bool) (long : ReadingReply) → AnswersAgree L (cond b (with_reply long t) (from_lines L z f f.answer)) (cond b (with_reply long t') (from_lines L z' f f.answer))
        go true long = record { replies = refl; leaves = e }
        go false long = lines_agree f.answer refl

  module _ (s : Site) (t t' : Tables) (e : AgreeUpToFull L t t') where
    pub reading_agrees : AnswersAgree L (read_plan L s text t) (read_plan L s text t')
    unfolding read_plan
    reading_agrees = rw (← full-same L t t' e) (go (full_size L t) refl _)
      where
        go : (a : Bool) → full_size L t ≡ a → (small : ReadingReply)
            → AnswersAgree L (cond a (after_site L (site_read L s).numbers text t (site_read L s).answer) (with_reply small t)) (cond a (after_site L (site_read L s).numbers text t' (site_read L s).answer) (with_reply small t'))
        go true h small = site_agrees t t' e h (site_read L s).numbers (site_read L s).answer
        go false h small = record { replies = refl; leaves = e }

  -- ---- nothing past a full size

  built_keeps : (z t : Tables) → past_full L t ≡ past_full L z → past_full L (built L z t).tables ≡ past_full L z
  built_keeps z t h = go (leb (planned_total t.plan) L.dependencies) refl _
    where
      go : (b : Bool) → leb (planned_total t.plan) L.dependencies ≡ b → (r : ReadingReply) → past_full L (cond b (with_reply taken (with_dependencies t)) (with_reply r z)).tables ≡ past_full L z
      go true e r = built-past L t (leb-true _ _ e) ∙ h
      go false e r = refl

  checked-past : (z t : Tables) (r : ReadingReply) → past_full L t ≡ past_full L z → past_full L (after_check L z t r).tables ≡ past_full L z
  checked-past z t r h = go (is_taken r)
    where
      go : (b : Bool) → past_full L (cond b (built L z t) (with_reply r z)).tables ≡ past_full L z
      go true = built_keeps z t h
      go false = refl

  lines_past : (t : Tables) → full_size L t ≡ true → (ns : List ℕ) → (a : Result ℕ LineRefusal) → f.answer ≡ a → past_full L (from_lines L (with_site ns (zeroed_tables L t)) f a).tables ≡ past_full L (with_site ns (zeroed_tables L t))
  lines_past t full ns (Err r) h = zeroed-past L (with_site ns (zeroed_tables L t))
  lines_past t full ns (Ok n) h =
      let z : Tables = with_site ns (zeroed_tables L t) in
      checked-past (zeroed_tables L z) (with_text f n z) (check_in (with_text f n z).plan) (routes_past L t full ns text n h ∙ sym (zeroed-past L z)) ∙ zeroed-past L z

  after-past : (t : Tables) → full_size L t ≡ true → (ns : List ℕ) (a : Result ⊤ SiteRefusal) → (a ≡ Ok tt → length ns ≤ 2 * most_pairs) → past_full L (after_site L ns text t a).tables ≡ past_full L t
  unfolding read_lines
  after-past t full ns (Err r) fit = zeroed-past L t
  after-past t full ns (Ok _) fit = go (ltb L.text (length text)) _
    where
      go : (b : Bool) (long : ReadingReply) → past_full L (cond b (with_reply long t) (from_lines L (with_site ns (zeroed_tables L t)) f f.answer)).tables ≡ past_full L t
      go true long = refl
      go false long = lines_past t full ns f.answer refl ∙ site_past L (zeroed_tables L t) ns (fit refl) ∙ zeroed-past L t

  pub reading_keeps : (s : Site) (t : Tables) → past_full L (read_plan L s text t).tables ≡ past_full L t
  unfolding read_plan
  reading_keeps s t = go (full_size L t) refl _
    where
      go : (a : Bool) → full_size L t ≡ a → (small : ReadingReply) → past_full L (cond a (after_site L (site_read L s).numbers text t (site_read L s).answer) (with_reply small t)).tables ≡ past_full L t
      go true h small = after-past t h (site_read L s).numbers (site_read L s).answer (λ e. let (m, p) = read_pairs L s e in numbers_fit L m (site_read L s).numbers p)
      go false h small = refl
