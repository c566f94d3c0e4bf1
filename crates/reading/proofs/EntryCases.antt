-- The entries, case by case: the tests in the order of the definition, and tables that were zeroed are zeroed. Assumes nothing.
use Rattle.std.specs.Prelude.{⊤, Result, Ok, Err}
use mathlib.Core.Path.{◌≡◌, refl, sym, ap, subst, ◌∙◌}
use mathlib.Core.Bool.{true, false}
use mathlib.Core.List.{List}
use Prim.Native.Nat.{ℕ, ◌*◌, ◌≤◌, ◌<◌}
use lib.ListN.{length}
use borrow.Author.Tests.{lt-ltb, le-ltb}
use Rattle.tables.specs.Limits.{Limits, most_pairs}
use Rattle.tables.specs.Tables.{Tables, tables_of, full_size, Sizes}
use Rattle.tables.specs.Zero.{zeroed, zeroed_tables}
use Rattle.tables.proofs.Zero.{zeroed_sets}
use Rattle.tables.proofs.SizeLaws.{full_sizes}
use Rattle.tables.proofs.ZeroTables.{zeroed-full_size}
use Rattle.site.specs.Site.{PairsStored}
use Rattle.site.specs.declared.SiteRefusal.{SiteRefusal}
use Rattle.plan.specs.Columns.{Columns}
use Rattle.reading.specs.Reading.{Site, site_read, ReadingAnswer, with_reply, AnsweredAs, with_site, read_lines, after_site, read_plan}
use Rattle.reading.specs.Asked.{LinesAsked, ZeroedButPairs}
use Rattle.reading.specs.Replies.{ReadingReply, refused_by, refused_at, site_meant}
use Rattle.reading.proofs.SiteTables.{IsZeroed, numbers_fit, zeroed_again, but_pairs, none-sound, site_sound_lem}
use Rattle.reading.proofs.StoredPlan.{answered_as, columns_of}

-- ---- what reading the lines asks for

abbrev Asked : Limits → Tables → Type 0
Asked L z = LinesAsked L z.plan.drone_count z.plan.dependency_count z.plan.form z.plan.names z.plan.stop_counts z.plan.locations z.plan.times z.plan.legs (columns_of z) z.plan.pairs

module _ (L : Limits) (t : Tables) (f : full_size L t ≡ true) (z : Tables) (e : z ≡ zeroed_tables L t) where
  pub is_zeroed : IsZeroed L z
  is_zeroed = subst (IsZeroed L) (sym e) (zeroed_again L t)

  pub pairs_zeroed : zeroed (2 * most_pairs) z.plan.pairs ≡ z.plan.pairs
  pairs_zeroed = ap (λ (y : Tables). y.plan.pairs) is_zeroed

  pub lines_asked : L.dependencies ≤ 65536 → Asked L z
  lines_asked few =
      let s : Sizes L z = full_sizes L z (ap (full_size L) e ∙ zeroed-full_size L t ∙ f) in
      record {
        has_drone_count = s.drone_count_lem;
        has_dependency_count = s.dependency_count;
        has_form = s.form;
        has_names = s.names;
        has_stop_counts = s.stop_counts_lem;
        has_locations = s.locations;
        has_times = s.times;
        has_legs = s.legs;
        has_columns = record {
          has_first_drones = s.first_drones_lem;
          has_first_stops = s.first_stops_lem;
          has_second_drones = s.second_drones_lem;
          has_second_stops = s.second_stops_lem;
          has_flags = s.flags;
          dependencies_fit = few;
        };
        has_pairs = none-sound L z.plan.pairs s.pairs pairs_zeroed;
      }

-- .. and after a site text that was taken
pub sited_asked : (L : Limits) (dc dpc fm ns cs ls ts gs : List ℕ) {c : Columns} (ps : List ℕ) → LinesAsked L dc dpc fm ns cs ls ts gs c ps → zeroed (2 * most_pairs) ps ≡ ps
    → (s : Site) {ps' : List ℕ} {a : Result ⊤ SiteRefusal} → PairsStored (site_read L s) ps ps' a → a ≡ Ok tt → LinesAsked L dc dpc fm ns cs ls ts gs c ps'
sited_asked L dc dpc fm ns cs ls ts gs ps q zero s {ps'} w h = record {
  has_drone_count = q.has_drone_count;
  has_dependency_count = q.has_dependency_count;
  has_form = q.has_form;
  has_names = q.has_names;
  has_stop_counts = q.has_stop_counts;
  has_locations = q.has_locations;
  has_times = q.has_times;
  has_legs = q.has_legs;
  has_columns = q.has_columns;
  has_pairs = site_sound_lem L ps q.has_pairs.has_pairs zero s ps' w.pairs_are (sym w.answer_is ∙ h);
}

-- ---- 41

module _ (L : Limits) (s : Site) (text : List ℕ) (t : Tables) where
  pub tables_small : full_size L t ≡ false → AnsweredAs (read_plan L s text t) (refused_by 41) t
  unfolding read_plan
  tables_small f = answered_as (read_plan L s text t) (refused_by 41) t t (rw f refl) refl

  -- tables of full size
  pub after_size : full_size L t ≡ true → (r : ReadingReply) (t' : Tables) → AnsweredAs (after_site L (site_read L s).numbers text t (site_read L s).answer) r t' → AnsweredAs (read_plan L s text t) r t'
  unfolding read_plan
  after_size f r t' a =
      let k : read_plan L s text t ≡ after_site L (site_read L s).numbers text t (site_read L s).answer = rw f refl in
      subst (λ (x : ReadingAnswer). AnsweredAs x r t') (sym k) a

-- ---- with a site text or without

-- the answer after a site text
abbrev sited : Limits → (s : Site) (text : List ℕ) → Tables → ReadingAnswer
sited L s text t = after_site L (site_read L s).numbers text t (site_read L s).answer

-- the tables with other pairs
abbrev pub with_pairs : Tables → List ℕ → Tables
with_pairs t ps =
    tables_of t.plan.drone_count t.plan.dependency_count t.plan.form t.plan.names t.plan.stop_counts t.plan.locations t.plan.times t.plan.legs t.visited t.drone_flags
    t.plan.first_drones t.plan.first_stops t.plan.second_drones t.plan.second_stops t.flags ps

module _ (L : Limits) (s : Site) (text : List ℕ) (t : Tables) (a : Result ⊤ SiteRefusal) (ea : a ≡ (site_read L s).answer) where
  -- a text that is too long
  pub long_taken : L.text < length text → a ≡ Ok tt → AnsweredAs (sited L s text t) (refused_at 1 L.text) t
  long_taken l h =
      answered_as (sited L s text t) (refused_at 1 L.text) t t
      (ap (after_site L (site_read L s).numbers text t) (sym ea ∙ h) ∙ rw (lt-ltb L.text (length text) l) refl) refl

  -- 13 and 14 come before 1
  pub long_refused : (y : SiteRefusal) → a ≡ Err y → (r : ReadingReply) (t' : Tables) → r ≡ site_meant y → t' ≡ zeroed_tables L t → AnsweredAs (sited L s text t) r t'
  long_refused y h r t' er et =
      let k : sited L s text t ≡ with_reply (site_meant y) (zeroed_tables L t) = ap (after_site L (site_read L s).numbers text t) (sym ea ∙ h) in
      record { replied = er ∙ sym (ap (λ (x : ReadingAnswer). x.reply) k); left = et ∙ sym (ap (λ (x : ReadingAnswer). x.tables) k) }

-- the site text read into zeroed tables
module _ (L : Limits) (s : Site) (text : List ℕ) (z : Tables) {ps : List ℕ} {a : Result ⊤ SiteRefusal} (w : PairsStored (site_read L s) z.plan.pairs ps a) (zero : IsZeroed L z) where
  pub site_refused : (y : SiteRefusal) → a ≡ Err y → (r : ReadingReply) (ps' : List ℕ) → r ≡ site_meant y → ps' ≡ zeroed (2 * most_pairs) ps → AnsweredAs (sited L s text z) r (with_pairs z ps')
  site_refused y h r ps' er ep =
      let e : ps' ≡ z.plan.pairs = ep ∙ ap (zeroed (2 * most_pairs)) w.pairs_are ∙ zeroed_sets (2 * most_pairs) z.plan.pairs (site_read L s).numbers (numbers_fit L s) ∙ ap (λ (y : Tables). y.plan.pairs) zero in
      long_refused L s text z a w.answer_is y h r (with_pairs z ps') er (ap (with_pairs z) e ∙ sym zero)

  pub site_taken : a ≡ Ok tt → length text ≤ L.text → (r : ReadingReply) (t' : Tables) → (ZeroedButPairs L (with_pairs z ps) → AnsweredAs (read_lines L text (with_pairs z ps)) r t') → AnsweredAs (sited L s text z) r t'
  site_taken h short r t' b =
      let ns = (site_read L s).numbers in
      let here : with_pairs z ps ≡ with_site ns z = ap (with_pairs z) w.pairs_are in
      let k : sited L s text z ≡ read_lines L text (with_site ns (zeroed_tables L z)) = ap (after_site L ns text z) (sym w.answer_is ∙ h) ∙ rw (le-ltb L.text (length text) short) refl in
      let k' : sited L s text z ≡ read_lines L text (with_pairs z ps) = k ∙ ap (λ (y : Tables). read_lines L text (with_site ns y)) zero ∙ ap (read_lines L text) (sym here) in
      subst (λ (x : ReadingAnswer). AnsweredAs x r t') (sym k') (b (subst (ZeroedButPairs L) (sym here) (but_pairs L ns z zero)))

-- .. which are those of tables of full size
module _ (L : Limits) (s : Site) (text : List ℕ) (t : Tables) (f : full_size L t ≡ true) where
  pub site_read_lem : (short : length text ≤ L.text) (z : Tables) → z ≡ zeroed_tables L t → (r : ReadingReply) (t' : Tables) → (IsZeroed L z → AnsweredAs (sited L s text z) r t') → AnsweredAs (read_plan L s text t) r t'
  site_read_lem short z e r t' a =
      after_size L s text t f r t' (subst (λ (x : ReadingAnswer). AnsweredAs x r t') (same (site_read L s).answer) (a (is_zeroed L t f z e)))
    where
      zeros : zeroed_tables L z ≡ zeroed_tables L t
      zeros = is_zeroed L t f z e ∙ e

      same : (x : Result ⊤ SiteRefusal) → after_site L (site_read L s).numbers text z x ≡ after_site L (site_read L s).numbers text t x
      same (Err r) = ap (with_reply (site_meant r)) zeros
      same (Ok _) = rw (le-ltb L.text (length text) short) (ap (λ (y : Tables). read_lines L text (with_site (site_read L s).numbers y)) zeros)
