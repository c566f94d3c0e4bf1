-- A reading that is accepted went through every place of the table of refusals: full sizes, site text, text, plan check, building.
use mathlib.Core.Path.{◌≡◌, refl}
use mathlib.Core.Bool.{Bool, true, false, cond}
use mathlib.Core.List.{List}
use Prim.Native.Nat.{ℕ, ◌≤◌}
use native.Mathlib.Omega.{arith}
use lib.Dec.{ltb, leb, eqb}
use borrow.Author.Tests.{ltb-false, leb-true}
use lib.ListN.{length}
use Rattle.below.specs.Below.{first_below}
use Rattle.below.proofs.Search.{first_below_first}
use Rattle.tables.specs.Limits.{Limits}
use Rattle.tables.specs.Tables.{PlanLists, Tables, full_size}
use Rattle.tables.specs.Zero.{zeroed_tables}
use Rattle.text.specs.LinesRead.{LinesRead, lines_at}
use Rattle.plan.specs.declared.check.StopAt.{StopAt}
use Rattle.plan.specs.Answers.{pick_check, fault_case, check_of}
use Rattle.plan.specs.Check.{first_fault, collider}
use Rattle.plan.specs.Claims.{stop_total, leg_in, visits_in, NoFault, NoCollision, planned_total}
use Rattle.plan.proofs.Claims.{accepted_claims}
use Rattle.reading.specs.Replies.{ReadingReply, taken as Taken, refused_by, refused_at, refused_stop, refused_stops, check_meant}
use Rattle.reading.specs.Reading.{Site, site_read, ReadingAnswer, with_reply, with_site, with_text, with_dependencies, check_in, after_check, from_lines, after_site, read_plan, read_lines}
use Rattle.lines.specs.declared.refusal.Refusal.{Refusal as LineRefusal}
use Rattle.plan.specs.declared.check.PlanFault.TheVariants as check
use Rattle.site.specs.declared.SiteRefusal.{SiteRefusal}
use Rattle.std.specs.Prelude.{⊤, Result, Ok, Err}

-- ---- the plan check

-- no fault's answer is taken
fault_refused : (a b c : Bool) (s : StopAt) → check_meant (pick_check a (Err (check.StartsLate s)) (pick_check b (Err (check.NotRising s)) (pick_check c (Err (check.LegTooLong s)) (Err (check.SameLocation s))))) ≡ Taken → ⊥
fault_refused true b c s h = let z : ◌≡◌ {A = ℕ} 0 1 = cc h in omega arith
fault_refused false true c s h = let z : ◌≡◌ {A = ℕ} 0 1 = cc h in omega arith
fault_refused false false true s h = let z : ◌≡◌ {A = ℕ} 0 1 = cc h in omega arith
fault_refused false false false s h = let z : ◌≡◌ {A = ℕ} 0 1 = cc h in omega arith

passes : (a b : Bool) (k : ℕ) (s x y : StopAt) → check_meant (pick_check a (fault_case k s) (pick_check b (Err (check.Collision x y)) (Ok tt))) ≡ Taken → (a ≡ false) × (b ≡ false)
unfolding fault_case
passes true b k s x y h = absurd (fault_refused (eqb k 7) (eqb k 8) (eqb k 12) s h)
passes false true k s x y h = absurd (let z : ◌≡◌ {A = ℕ} 0 1 = cc h in omega arith)
passes false false k s x y h = (refl, refl)

search_end : (n : ℕ) (f : ℕ → Bool) → ltb (first_below n f) n ≡ false → first_below n f ≡ n
search_end n f e = omega (arith, ltb-false (first_below n f) n e, (first_below_first n f).within)

module _ (p : PlanLists) (h : check_in p ≡ Taken) where
  nothing-found : (ltb (first_fault (visits_in p) (leg_in p)) (stop_total p) ≡ false) × (ltb (collider (visits_in p)) (stop_total p) ≡ false)
  unfolding check_of
  nothing-found = passes _ _ _ _ _ _ h

  pub no_fault : NoFault p
  unfolding first_fault
  no_fault = search_end (stop_total p) _ nothing-found.0

  pub no_collision : NoCollision p
  unfolding collider
  no_collision = (accepted_claims.reported_exactly p).1 (search_end (stop_total p) _ nothing-found.1)

-- ---- the whole reading

-- what an accepted reading went through, where z is the tables that are zeroed but for the site's pairs, f what the text says and `after` the tables afterwards
pub record ReadTaken (L : Limits) (z : Tables) (f : LinesRead (Result ℕ LineRefusal)) (answer : Result ℕ LineRefusal) (after : Tables) : Type 0 where
  pub number : ℕ
  pub lines_taken : answer ≡ Ok number
  pub check_passed : check_in (with_text f number z).plan ≡ Taken
  pub room : planned_total (with_text f number z).plan ≤ L.dependencies
  pub tables_are : after ≡ with_dependencies (with_text f number z)

module _ (L : Limits) where
  built-taken : (z t : Tables) (b : Bool) → leb (planned_total t.plan) L.dependencies ≡ b → (cond b (with_reply Taken (with_dependencies t)) (with_reply (refused_by 11) z)).reply ≡ Taken
      → (planned_total t.plan ≤ L.dependencies) × ((cond b (with_reply Taken (with_dependencies t)) (with_reply (refused_by 11) z)).tables ≡ with_dependencies t)
  built-taken z t true e h = (leb-true _ _ e, refl)
  built-taken z t false e h = absurd (let q : ◌≡◌ {A = ℕ} 0 1 = cc h in omega arith)

  checked-taken : (z t : Tables) (r : ReadingReply) → (after_check L z t r).reply ≡ Taken → (r ≡ Taken) × (planned_total t.plan ≤ L.dependencies) × ((after_check L z t r).tables ≡ with_dependencies t)
  checked-taken z t Taken h = let k = built-taken z t (leb (planned_total t.plan) L.dependencies) refl h in (refl, k.0, k.1)
  checked-taken z t (refused_by n) h = absurd (let q : ◌≡◌ {A = ℕ} 0 1 = cc h in omega arith)
  checked-taken z t (refused_at n o) h = absurd (let q : ◌≡◌ {A = ℕ} 0 1 = cc h in omega arith)
  checked-taken z t (refused_stop n x) h = absurd (let q : ◌≡◌ {A = ℕ} 0 1 = cc h in omega arith)
  checked-taken z t (refused_stops n x y) h = absurd (let q : ◌≡◌ {A = ℕ} 0 1 = cc h in omega arith)

  lines_read : (z : Tables) (f : LinesRead (Result ℕ LineRefusal)) (a : Result ℕ LineRefusal) → (from_lines L z f a).reply ≡ Taken → ReadTaken L z f a (from_lines L z f a).tables
  lines_read z f (Err x) h = absurd (let q : ◌≡◌ {A = ℕ} 0 1 = cc h in omega arith)
  lines_read z f (Ok n) h =
      let k = checked-taken (zeroed_tables L z) (with_text f n z) (check_in (with_text f n z).plan) h in
      record { number = n; lines_taken = refl; check_passed = k.0; room = k.1; tables_are = k.2 }

  -- what it went through after the site text
  site_read_lem : (numbers text : List ℕ) (t : Tables) (a : Result ⊤ SiteRefusal) → (after_site L numbers text t a).reply ≡ Taken
      → (a ≡ Ok tt) × (length text ≤ L.text) × ReadTaken L (with_site numbers (zeroed_tables L t)) (lines_at L text) (lines_at L text).answer (after_site L numbers text t a).tables
  unfolding read_lines
  site_read_lem numbers text t (Err r) h = absurd (let q : ◌≡◌ {A = ℕ} 0 1 = cc h in omega arith)
  site_read_lem numbers text t (Ok _) h =
      let z : Tables = with_site numbers (zeroed_tables L t) in
      by_length (ltb L.text (length text)) refl (from_lines L z (lines_at L text) (lines_at L text).answer) (ReadTaken L z (lines_at L text) (lines_at L text).answer) (λ k. lines_read z (lines_at L text) (lines_at L text).answer k) h
    where
      by_length : (b : Bool) → ltb L.text (length text) ≡ b → (r : ReadingAnswer) (C : Tables → Type 0) → (r.reply ≡ Taken → C r.tables) → (cond b (with_reply (refused_at 1 L.text) t) r).reply ≡ Taken
          → (◌≡◌ {A = Result ⊤ SiteRefusal} (Ok tt) (Ok tt)) × (length text ≤ L.text) × C (cond b (with_reply (refused_at 1 L.text) t) r).tables
      by_length true e r C go h = absurd (let q : ◌≡◌ {A = ℕ} 0 1 = cc h in omega arith)
      by_length false e r C go h = (refl, ltb-false _ _ e, go h)

  -- the whole reading: full sizes, site text, length of the text, and the rest
  read_through : (s : Site) (text : List ℕ) (t : Tables) → (read_plan L s text t).reply ≡ Taken
      → (full_size L t ≡ true) × ((site_read L s).answer ≡ Ok tt) × (length text ≤ L.text) × ReadTaken L (with_site (site_read L s).numbers (zeroed_tables L t)) (lines_at L text) (lines_at L text).answer (read_plan L s text t).tables
  unfolding read_plan
  read_through s text t h =
      by_size (full_size L t) refl (after_site L (site_read L s).numbers text t (site_read L s).answer) (ReadTaken L (with_site (site_read L s).numbers (zeroed_tables L t)) (lines_at L text) (lines_at L text).answer)
      (λ k. site_read_lem (site_read L s).numbers text t (site_read L s).answer k) h
    where
      by_size : (a : Bool) → full_size L t ≡ a → (r : ReadingAnswer) (C : Tables → Type 0) → (r.reply ≡ Taken → ((site_read L s).answer ≡ Ok tt) × (length text ≤ L.text) × C r.tables)
          → (cond a r (with_reply (refused_by 41) t)).reply ≡ Taken → (full_size L t ≡ true) × ((site_read L s).answer ≡ Ok tt) × (length text ≤ L.text) × C (cond a r (with_reply (refused_by 41) t)).tables
      by_size true e r C go h = let (a, b, c) = go h in (e, a, b, c)
      by_size false e r C go h = absurd (let q : ◌≡◌ {A = ℕ} 0 1 = cc h in omega arith)

  pub read_taken : (s : Site) (text : List ℕ) (t : Tables) → (read_plan L s text t).reply ≡ Taken
      → (full_size L t ≡ true) × ReadTaken L (with_site (site_read L s).numbers (zeroed_tables L t)) (lines_at L text) (lines_at L text).answer (read_plan L s text t).tables
  read_taken s text t h = let (a, b, c, d) = read_through s text t h in (a, d)

  -- .. and its text is not too long
  pub read_short : (s : Site) (text : List ℕ) (t : Tables) → (read_plan L s text t).reply ≡ Taken → length text ≤ L.text
  read_short s text t h = (read_through s text t h).2

  -- .. and its site text is taken
  pub read_site : (s : Site) (text : List ℕ) (t : Tables) → (read_plan L s text t).reply ≡ Taken → (site_read L s).answer ≡ Ok tt
  read_site s text t h = (read_through s text t h).1
