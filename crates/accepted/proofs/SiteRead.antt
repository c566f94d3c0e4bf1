-- A site text that is refused: 13 and 14 are its, and no others; without a site text, or with one of no pairs, everything is as before. Assumes nothing.
use mathlib.Core.Path.{◌≡◌, refl, sym, ap, ◌∙◌, fun_ext}
use mathlib.Core.Logic.{inr, ◌↔◌}
use mathlib.Core.Bool.{Bool, true, false, false≢true, cond}
use mathlib.Core.List.{List, [], ◌∷◌}
use Prim.Native.Nat.{ℕ, ◌*◌, ◌≤◌, ◌<◌}
use native.Mathlib.Omega.{arith}
use lib.Dec.{ltb, leb, eqb}
use borrow.Author.Tests.{ltb-true, ltb-false, lt-ltb, le-ltb, eqb-true}
use lib.ListN.{length}
use Rattle.below.specs.Below.{at, is_in}
use Rattle.below.proofs.Tests.{by_cases, true_or_false}
use Rattle.tables.specs.Limits.{Limits, most_pairs}
use Rattle.tables.specs.Tables.{Tables, tables_of, full_size}
use Rattle.tables.specs.Zero.{zeroed, zeroed_tables}
use Rattle.tables.proofs.Zero.{zeroed-below, zeroed_twice, zeroed_sets}
use Rattle.near.specs.Near.{meets_in}
use Rattle.near.proofs.NearLaws.{meets_none}
use Rattle.site.specs.Site.{PairList, site_number, site_offset}
use Rattle.site.specs.declared.SiteRefusal.{SiteRefusal}
use Rattle.site.specs.declared.SiteRefusal.TheVariants.{Form, Range}
use Rattle.text.specs.LinesRead.{LinesRead, lines_at}
use Rattle.plan.specs.Visits.{same_location}
use Rattle.plan.specs.Claims.{planned_total}
use Rattle.reading.specs.Replies.{ReadingReply, taken, refused_by, refused_at, refused_stop, refused_stops, reading_number, is_taken, site_meant}
use Rattle.reading.specs.Reading.{Site, without, given, site_read, ReadingAnswer, with_reply, with_site, with_text, with_dependencies, check_in, after_check, from_lines, read_lines, after_site, read_plan}
use Rattle.reading.proofs.ReplyLaws.{lines_never}
use Rattle.accepted.specs.TextPlan.{routes_plan, text_routes}
use Rattle.accepted.specs.Claims.{WithoutSite, SiteAtFault, SiteRefusedExactly}
use Rattle.accepted.proofs.SiteTexts.{none_written, empty_refused, none-counted, read_pairs, numbers_fit}
use Rattle.lines.specs.declared.refusal.Refusal.{Refusal as LineRefusal}
use Rattle.std.specs.Prelude.{⊤, Result, Ok, Err}

-- ---- where the site text leads

module _ (L : Limits) (s : Site) (text : List ℕ) (t : Tables) (full : full_size L t ≡ true) where
  pub site_refused : (r : SiteRefusal) → (site_read L s).answer ≡ Err r → read_plan L s text t ≡ with_reply (site_meant r) (zeroed_tables L t)
  unfolding read_plan
  site_refused r e = rw (full, e) refl

  pub site_long : (site_read L s).answer ≡ Ok tt → L.text < length text → read_plan L s text t ≡ with_reply (refused_at 1 L.text) t
  unfolding read_plan
  site_long e l = rw (full, e, lt-ltb L.text (length text) l) refl

  pub site_lines : (site_read L s).answer ≡ Ok tt → length text ≤ L.text → read_plan L s text t ≡ read_lines L text (with_site (site_read L s).numbers (zeroed_tables L t))
  unfolding read_plan
  site_lines e l = rw (full, e, le-ltb L.text (length text) l) refl

-- ---- what a refusal by the plan text leaves: the pairs are zeroed with the rest

pub site_zeroed : (L : Limits) (numbers : List ℕ) (t : Tables) → length numbers ≤ 2 * most_pairs → zeroed_tables L (with_site numbers (zeroed_tables L t)) ≡ zeroed_tables L t
site_zeroed L numbers t fit =
    let D = L.dependencies in
    λ i.
    tables_of
    (zeroed_twice 1 t.plan.drone_count i)
    (zeroed_twice 1 t.plan.dependency_count i)
    (zeroed_twice 1 t.plan.form i)
    (zeroed_twice (L.drones * L.name) t.plan.names i)
    (zeroed_twice L.drones t.plan.stop_counts i)
    (zeroed_twice L.stops t.plan.locations i)
    (zeroed_twice L.stops t.plan.times i)
    (zeroed_twice L.stops t.plan.legs i)
    (zeroed_twice L.drones t.visited i)
    (zeroed_twice L.drones t.drone_flags i)
    (zeroed_twice D t.plan.first_drones i)
    (zeroed_twice D t.plan.first_stops i)
    (zeroed_twice D t.plan.second_drones i)
    (zeroed_twice D t.plan.second_stops i)
    (zeroed_twice D t.flags i)
    ((zeroed_sets (2 * most_pairs) (zeroed (2 * most_pairs) t.plan.pairs) numbers fit ∙ zeroed_twice (2 * most_pairs) t.plan.pairs) i)

module _ (L : Limits) (z : Tables) where
  checked_leave : (t : Tables) (r : ReadingReply) → is_taken (after_check L z t r).reply ≡ false → (after_check L z t r).tables ≡ z
  checked_leave t taken e = go (leb (planned_total t.plan) L.dependencies) e
    where
      go : (b : Bool) → is_taken (cond b (with_reply taken (with_dependencies t)) (with_reply (refused_by 11) z)).reply ≡ false → (cond b (with_reply taken (with_dependencies t)) (with_reply (refused_by 11) z)).tables ≡ z
      go true e = true_or_false refl e
      go false e = refl
  checked_leave t (refused_by n) e = refl
  checked_leave t (refused_at n o) e = refl
  checked_leave t (refused_stop n s) e = refl
  checked_leave t (refused_stops n s o) e = refl

lines_leave : (L : Limits) (z : Tables) (f : LinesRead (Result ℕ LineRefusal)) (a : Result ℕ LineRefusal) → is_taken (from_lines L z f a).reply ≡ false → (from_lines L z f a).tables ≡ zeroed_tables L z
lines_leave L z f (Err r) e = refl
lines_leave L z f (Ok n) e = checked_leave L (zeroed_tables L z) (with_text f n z) (check_in (with_text f n z).plan) e

-- every other refusal of a text that is not too long
pub other_readings : (L : Limits) (s : Site) (text : List ℕ) (t : Tables) → full_size L t ≡ true → length text ≤ L.text → is_taken (read_plan L s text t).reply ≡ false → (read_plan L s text t).tables ≡ zeroed_tables L t
unfolding read_lines
other_readings L s text t full short e = go (site_read L s).answer refl
  where
    go : (a : Result ⊤ SiteRefusal) → (site_read L s).answer ≡ a → (read_plan L s text t).tables ≡ zeroed_tables L t
    go (Err r) h = ap (λ (x : ReadingAnswer). x.tables) (site_refused L s text t full r h)
    go (Ok _) h =
        let q = site_lines L s text t full h short in
        let (m, p) = read_pairs L s h in
        ap (λ (x : ReadingAnswer). x.tables) q
        ∙ lines_leave L (with_site (site_read L s).numbers (zeroed_tables L t)) (lines_at L text) (lines_at L text).answer (sym (ap (λ (x : ReadingAnswer). is_taken x.reply) q) ∙ e)
        ∙ site_zeroed L (site_read L s).numbers t (numbers_fit L m (site_read L s).numbers p)

-- ---- 13 and 14

-- the numbers are these two, and no line of a plan text gives them
site_number_lem : (r : SiteRefusal) → is_in (site_number r) (13 ∷ 14 ∷ []) ≡ true
unfolding is_in
site_number_lem (Form o) = refl
site_number_lem (Range o) = refl

past_12 : (n : ℕ) → is_in n (13 ∷ 14 ∷ []) ≡ true → (12 < n) × (n < 15)
unfolding is_in
past_12 n e = by_cases (eqb n 13) (λ h. let q = eqb-true n 13 h in (omega arith, omega arith)) (λ h. by_cases (eqb n 14) (λ k. let q = eqb-true n 14 k in (omega arith, omega arith)) (λ k. absurd (false≢true (rw (h, k) at e))))

same_refusal : (n m o q : ℕ) → refused_at n o ≡ refused_at m q → (n ≡ m) × (o ≡ q)
same_refusal n m o q h = (cc h, cc h)

module _ (L : Limits) (s : Site) (text : List ℕ) (t : Tables) where
  too_small : full_size L t ≡ false → reading_number (read_plan L s text t).reply ≡ 41
  unfolding read_plan
  too_small small = rw small refl

  -- a reply with one of these numbers is the site text's
  pub only_site : (n : ℕ) → is_in n (13 ∷ 14 ∷ []) ≡ true → reading_number (read_plan L s text t).reply ≡ n → (full_size L t ≡ true) × ((r : SiteRefusal) × ((site_read L s).answer ≡ Err r))
  only_site n i e = by_cases (full_size L t)
      (λ full. (full, by_answer full (site_read L s).answer refl))
      (λ small. absurd (let q : reading_number (read_plan L s text t).reply ≡ 41 = too_small small in omega (arith, q, e, (past_12 n i).1)))
    where
      by_answer : full_size L t ≡ true → (a : Result ⊤ SiteRefusal) → (site_read L s).answer ≡ a → (r : SiteRefusal) × ((site_read L s).answer ≡ Err r)
      by_answer full (Err r) h = (r, h)
      by_answer full (Ok _) h = by_cases (ltb L.text (length text))
          (λ l. absurd (let q : reading_number (read_plan L s text t).reply ≡ 1 = ap (λ (x : ReadingAnswer). reading_number x.reply) (site_long L s text t full h (ltb-true _ _ l)) in omega (arith, q, e, (past_12 n i).0)))
          (λ l. absurd (lines_never n (omega (arith, (past_12 n i).0)) (inr (past_12 n i).0) L text (with_site (site_read L s).numbers (zeroed_tables L t))
          (ap (λ (x : ReadingAnswer). reading_number x.reply) (sym (site_lines L s text t full h (ltb-false _ _ l))) ∙ e)))

  exactly : (n o : ℕ) → is_in n (13 ∷ 14 ∷ []) ≡ true → ((read_plan L s text t).reply ≡ refused_at n o) ↔ ((full_size L t ≡ true) × SiteAtFault L s n o)
  exactly n o i = (
    λ e. let (full, fault) = only_site n i (ap reading_number e) in
        let (r, h) = fault in
        let (a, b) = same_refusal (site_number r) n (site_offset r) o (sym (ap (λ (x : ReadingAnswer). x.reply) (site_refused L s text t full r h)) ∙ e) in
        (full, record { refusal = r; said = h; number = a; offset = b }),
    λ (full, f). ap (λ (x : ReadingAnswer). x.reply) (site_refused L s text t full f.refusal f.said) ∙ (λ i. refused_at (f.number i) (f.offset i)),
  )

pub site_refused_exactly : (L : Limits) → SiteRefusedExactly L
site_refused_exactly L = record {
  exactly = exactly L;
  zeroed = λ s text t r full e. site_refused L s text t full r e;
  empty = λ text t full. site_refused L (given []) text t full (Form 0) (empty_refused L);
}

-- ---- without a site text

pub none_meet : (a b : ℕ) → meets_in [] a b ≡ same_location a b
none_meet = meets_none [] none-counted

-- the table of pairs after a reading of lines into tables without any
module _ (L : Limits) (z : Tables) (i : ℕ) (l : i < 2 * most_pairs) (blank : at z.plan.pairs i ≡ 0) where
  zero_again : at (zeroed_tables L z).plan.pairs i ≡ 0
  zero_again = zeroed-below (2 * most_pairs) z.plan.pairs i l

  built_blank : (x : Tables) → x.plan.pairs ≡ z.plan.pairs → (b : Bool) → at (cond b (with_reply taken (with_dependencies x)) (with_reply (refused_by 11) (zeroed_tables L z))).tables.plan.pairs i ≡ 0
  built_blank x e true = ap (λ (y : List ℕ). at y i) e ∙ blank
  built_blank x e false = zero_again

  checked_blank : (x : Tables) → x.plan.pairs ≡ z.plan.pairs → (r : ReadingReply) → at (after_check L (zeroed_tables L z) x r).tables.plan.pairs i ≡ 0
  checked_blank x e taken = built_blank x e (leb (planned_total x.plan) L.dependencies)
  checked_blank x e (refused_by n) = zero_again
  checked_blank x e (refused_at n o) = zero_again
  checked_blank x e (refused_stop n s) = zero_again
  checked_blank x e (refused_stops n s o) = zero_again

  lines_blank : (f : LinesRead (Result ℕ LineRefusal)) (a : Result ℕ LineRefusal) → at (from_lines L z f a).tables.plan.pairs i ≡ 0
  lines_blank f (Err r) = zero_again
  lines_blank f (Ok n) = checked_blank (with_text f n z) refl (check_in (with_text f n z).plan)

no_pairs_lem : (L : Limits) (text : List ℕ) (t : Tables) → full_size L t ≡ true → length text ≤ L.text → (i : ℕ) → i < 2 * most_pairs → at (read_plan L without text t).tables.plan.pairs i ≡ 0
unfolding read_lines
no_pairs_lem L text t full short i l =
    ap (λ (x : ReadingAnswer). at x.tables.plan.pairs i) (site_lines L without text t full refl short)
    ∙ lines_blank L (with_site [] (zeroed_tables L t)) i l (zeroed-below (2 * most_pairs) t.plan.pairs i l) (lines_at L text) (lines_at L text).answer

pub without_site : (L : Limits) → WithoutSite L
unfolding read_plan
without_site L = record {
  no_pairs_lem = no_pairs_lem L;
  same_locations = λ text. none_meet;
  same_plan = λ text. ap (λ (m : ℕ → ℕ → Bool). routes_plan m (text_routes L text)) (fun_ext (λ a. fun_ext (λ b. none_meet a b)));
  as_of_no_pairs = λ text t. ap (λ (x : PairList (Result ⊤ SiteRefusal)). cond (full_size L t) (after_site L x.numbers text t x.answer) (with_reply (refused_by 41) t)) (none_written L);
}
