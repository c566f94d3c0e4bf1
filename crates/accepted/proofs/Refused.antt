-- The replies of the reading by its lines and by building: what the lines say, and the plan that they give. Assumes nothing.
use mathlib.Core.Path.{◌≡◌, refl, sym, ap, ◌∙◌}
use mathlib.Core.Logic.{◌↔◌}
use mathlib.Core.Bool.{Bool, true, false, cond, false≢true}
use mathlib.Core.List.{List, [], ◌∷◌}
use Prim.Native.Nat.{ℕ, ◌≤◌, ◌<◌}
use native.Mathlib.Omega.{arith}
use lib.Dec.{ltb, leb, eqb}
use borrow.Author.Tests.{ltb-false, le-ltb, leb-false, lt-leb}
use lib.ListN.{length}
use Rattle.below.specs.Below.{is_in}
use Rattle.below.proofs.Tests.{by_cases}
use Rattle.tables.specs.Limits.{Limits, limits}
use Rattle.tables.specs.Tables.{PlanLists, Tables, full_size}
use Rattle.tables.specs.Zero.{zeroed_tables}
use Rattle.lines.specs.Numbers.{SevenDigits}
use Rattle.lines.specs.Refusals.{refusal_number, refusal_offset}
use Rattle.lines.proofs.NumberRoundTrip.{limits_seven}
use Rattle.lines.specs.declared.refusal.Refusal.{Refusal}
use Rattle.lines.specs.declared.refusal.Refusal.TheVariants.{Form, Range, Name, SameName, TooManyStops}
use Rattle.site.specs.declared.SiteRefusal.{SiteRefusal}
use Rattle.site.specs.declared.SiteRefusal.TheVariants as site-line
use Rattle.text.specs.LinesRead.{LinesRead, lines_at}
use Rattle.text.proofs.WrittenIsRead.{written_read_back}
use Rattle.plan.specs.Answers.{check_of}
use Rattle.plan.specs.Field.{PlansAgree, plan_of}
use Rattle.plan.specs.Claims.{visits_in, leg_in, StopsChecked, Collides, Never, planned_total}
use Rattle.plan.proofs.PlansAgree.{agree_back, agree_stops, agree_never, passes_exactly}
use Rattle.reading.specs.Replies.{ReadingReply, taken, refused_by, refused_at, refused_stop, refused_stops, reading_number, line_meant, site_meant, check_meant}
use Rattle.reading.specs.Reading.{Site, site_read, ReadingAnswer, with_reply, with_text, with_dependencies, check_in, after_check, from_lines, read_lines, after_site, read_plan}
use Rattle.accepted.specs.TextPlan.{text_plan}
use Rattle.accepted.specs.Reported.{ComesToCheck}
use Rattle.accepted.specs.LineFaults.{AtLine}
use Rattle.accepted.specs.Refused.{ComesToLines, NoPlanText, LinesRefusedExactly, DependenciesRefusedExactly}
use Rattle.accepted.proofs.ReadCases.{no_fault, no_collision}
use Rattle.accepted.proofs.Taken.{check_fine}
use Rattle.accepted.proofs.Reported.{well_formed_plan, plan_well_formed, blank, checked_lists, held_lists, have, agree}
use Rattle.accepted.proofs.SiteRead.{site_lines}
use Rattle.accepted.proofs.LineFaults.{Wrong, lines_explained}
use Rattle.accepted.proofs.LineRefused.{lines_refused}
use Rattle.plan.specs.declared.check.PlanFault.TheVariants as check
use Rattle.plan.specs.declared.check.PlanFault.{PlanFault}
use Rattle.std.specs.Prelude.{⊤, Result, Ok, Err}

-- ---- where a reply of the reading comes from

-- what holds of 41, of 13 and 14, of 1, and of everything that the lines lead to, holds of the reply
module _ (L : Limits) (s : Site) (text : List ℕ) (t : Tables) where
  lines_reply : ComesToLines L s text t → (read_plan L s text t).reply ≡ (read_lines L text (blank L s text t)).reply
  lines_reply c = ap (λ (x : ReadingAnswer). x.reply) (site_lines L s text t c.full c.site c.short)

  by_place : (C : ReadingReply → Type 0) → C (refused_by 41) → ((r : SiteRefusal) → C (site_meant r)) → C (refused_at 1 L.text) → (ComesToLines L s text t → C (read_lines L text (blank L s text t)).reply) → C (read_plan L s text t).reply
  unfolding read_plan
  by_place C small at-site long lines = by_cases (full_size L t)
      (λ full. rw full (by_site full (site_read L s).answer refl))
      (λ e. rw e small)
    where
      by_site : full_size L t ≡ true → (a : Result ⊤ SiteRefusal) → (site_read L s).answer ≡ a → C (after_site L (site_read L s).numbers text t a).reply
      by_site full (Err r) k = at-site r
      by_site full (Ok _) k = by_cases (ltb L.text (length text))
          (λ e. rw e long)
          (λ e. rw e (lines (record { full = full; site = k; short = ltb-false _ _ e })))

-- ---- by the lines

-- the line's refusal with a number and an offset
abbrev line_of : ReadingReply → Refusal
line_of taken = Form 0
line_of (refused_by n) = Form 0
line_of (refused_at n o) = cond (eqb n 2) (Form o) (cond (eqb n 4) (Range o) (cond (eqb n 3) (Name o) (cond (eqb n 5) (SameName o) (TooManyStops o))))
line_of (refused_stop n s) = Form 0
line_of (refused_stops n s u) = Form 0

line_of_lem : (r : Refusal) → line_of (line_meant r) ≡ r
line_of_lem (Form o) = refl
line_of_lem (Range o) = refl
line_of_lem (Name o) = refl
line_of_lem (SameName o) = refl
line_of_lem (TooManyStops o) = refl

line_number : (r : Refusal) → (2 ≤ refusal_number r) × (refusal_number r ≤ 6)
line_number (Form o) = (omega arith, omega arith)
line_number (Range o) = (omega arith, omega arith)
line_number (Name o) = (omega arith, omega arith)
line_number (SameName o) = (omega arith, omega arith)
line_number (TooManyStops o) = (omega arith, omega arith)

site_number_lem : (r : SiteRefusal) → 12 < reading_number (site_meant r)
site_number_lem (site-line.Form o) = omega arith
site_number_lem (site-line.Range o) = omega arith

-- what the plan check and building say is no refusal of a line
abbrev by_line_lem : ReadingReply → Bool
by_line_lem taken = false
by_line_lem (refused_by n) = false
by_line_lem (refused_at n o) = true
by_line_lem (refused_stop n s) = false
by_line_lem (refused_stops n s u) = false

built_no_line : (L : Limits) (z t : Tables) (b : Bool) → by_line_lem (cond b (with_reply taken (with_dependencies t)) (with_reply (refused_by 11) z)).reply ≡ false
built_no_line L z t true = refl
built_no_line L z t false = refl

check_no_line : (L : Limits) (z t : Tables) (k : Result ⊤ PlanFault) → by_line_lem (after_check L z t (check_meant k)).reply ≡ false
check_no_line L z t (Ok _) = built_no_line L z t (leb (planned_total t.plan) L.dependencies)
check_no_line L z t (Err (check.StartsLate s)) = refl
check_no_line L z t (Err (check.NotRising s)) = refl
check_no_line L z t (Err (check.LegTooLong s)) = refl
check_no_line L z t (Err (check.SameLocation s)) = refl
check_no_line L z t (Err (check.Collision s u)) = refl

module _ (L : Limits) (s : Site) (text : List ℕ) (t : Tables) where
  -- the lines are refused, so the reply is theirs; and the other way round
  line_replies : (r : Refusal) → ComesToLines L s text t → (lines_at L text).answer ≡ Err r → (read_plan L s text t).reply ≡ line_meant r
  unfolding read_lines
  line_replies r c h = lines_reply L s text t c ∙ ap (λ (a : Result ℕ Refusal). (from_lines L (blank L s text t) (lines_at L text) a).reply) h

  answer_said : (a : Result ℕ Refusal) (r : Refusal) → (from_lines L (blank L s text t) (lines_at L text) a).reply ≡ line_meant r → a ≡ Err r
  answer_said (Err x) r h = ap Err (sym (line_of_lem x) ∙ ap line_of h ∙ line_of_lem r)
  answer_said (Ok m) r h = absurd (false≢true (sym (check_no_line L (zeroed_tables L z) (with_text (lines_at L text) m z) (check_of (visits_in p) (leg_in p))) ∙ ap by_line_lem h))
    where
      z : Tables
      z = blank L s text t

      p : PlanLists
      p = (with_text (lines_at L text) m z).plan

  replies_line : (r : Refusal) → (read_plan L s text t).reply ≡ line_meant r → ComesToLines L s text t × ((lines_at L text).answer ≡ Err r)
  unfolding read_lines
  replies_line r = by_place L s text t (λ x. x ≡ line_meant r → ComesToLines L s text t × ((lines_at L text).answer ≡ Err r))
      (λ h. absurd (omega (arith, ap reading_number h, line_number r)))
      (λ x h. absurd (omega (arith, ap reading_number h, line_number r, site_number_lem x)))
      (λ h. absurd (omega (arith, ap reading_number h, line_number r)))
      (λ c h. (c, answer_said (lines_at L text).answer r h))

  -- with what is wrong with the line
  line_exactly : SevenDigits L → (r : Refusal) → ((read_plan L s text t).reply ≡ line_meant r) ↔ (ComesToLines L s text t × AtLine text (refusal_offset r) L (Wrong L r))
  line_exactly seven r = (
    λ h. let (c, e) = replies_line r h in (c, lines_explained L seven text r e),
    λ (c, a). line_replies r c (lines_refused L seven text r a),
  )

  -- ---- by any line

  no_plan : SevenDigits L → (r : Refusal) → (lines_at L text).answer ≡ Err r → NoPlanText L text
  no_plan seven r h form typed e v =
      let w : (lines_at L text).answer ≡ Ok _ = ap (λ (x : LinesRead (Result ℕ Refusal)). x.answer) (ap (lines_at L) e ∙ written_read_back L seven form typed v) in
      let z : ◌≡◌ {A = ℕ} 0 1 = cc (w, h) in omega arith

  number_line : (r : Refusal) → is_in (reading_number (line_meant r)) (2 ∷ 3 ∷ 4 ∷ 5 ∷ 6 ∷ []) ≡ true
  unfolding is_in
  number_line (Form o) = refl
  number_line (Range o) = refl
  number_line (Name o) = refl
  number_line (SameName o) = refl
  number_line (TooManyStops o) = refl

  no_number : (z x : Tables) (k : Result ⊤ PlanFault) → is_in (reading_number (after_check L z x (check_meant k)).reply) (2 ∷ 3 ∷ 4 ∷ 5 ∷ 6 ∷ []) ≡ false
  unfolding is_in
  no_number z x (Ok _) = go (leb (planned_total x.plan) L.dependencies)
    where
      go : (b : Bool) → is_in (reading_number (cond b (with_reply taken (with_dependencies x)) (with_reply (refused_by 11) z)).reply) (2 ∷ 3 ∷ 4 ∷ 5 ∷ 6 ∷ []) ≡ false
      go true = refl
      go false = refl
  no_number z x (Err (check.StartsLate u)) = refl
  no_number z x (Err (check.NotRising u)) = refl
  no_number z x (Err (check.LegTooLong u)) = refl
  no_number z x (Err (check.SameLocation u)) = refl
  no_number z x (Err (check.Collision u v)) = refl

  site_no_number : (r : SiteRefusal) → is_in (reading_number (site_meant r)) (2 ∷ 3 ∷ 4 ∷ 5 ∷ 6 ∷ []) ≡ false
  unfolding is_in
  site_no_number (site-line.Form o) = refl
  site_no_number (site-line.Range o) = refl

  lines_number : SevenDigits L → (a : Result ℕ Refusal) → (lines_at L text).answer ≡ a → is_in (reading_number (from_lines L (blank L s text t) (lines_at L text) a).reply) (2 ∷ 3 ∷ 4 ∷ 5 ∷ 6 ∷ []) ≡ true → NoPlanText L text
  lines_number seven (Err r) e h = no_plan seven r e
  lines_number seven (Ok m) e h = absurd (false≢true (sym (no_number (zeroed_tables L (blank L s text t)) (with_text (lines_at L text) m (blank L s text t)) (check_of (visits_in (with_text (lines_at L text) m (blank L s text t)).plan) (leg_in (with_text (lines_at L text) m (blank L s text t)).plan))) ∙ h))

  some_line : SevenDigits L → (is_in (reading_number (read_plan L s text t).reply) (2 ∷ 3 ∷ 4 ∷ 5 ∷ 6 ∷ []) ≡ true) → ComesToLines L s text t × NoPlanText L text
  unfolding read_lines is_in
  some_line seven = by_place L s text t (λ x. is_in (reading_number x) (2 ∷ 3 ∷ 4 ∷ 5 ∷ 6 ∷ []) ≡ true → ComesToLines L s text t × NoPlanText L text)
      (λ h. absurd (false≢true h))
      (λ x h. absurd (false≢true (sym (site_no_number x) ∙ h)))
      (λ h. absurd (false≢true h))
      (λ c h. (c, lines_number seven (lines_at L text).answer refl h))

  line_some : ComesToLines L s text t × NoPlanText L text → is_in (reading_number (read_plan L s text t).reply) (2 ∷ 3 ∷ 4 ∷ 5 ∷ 6 ∷ []) ≡ true
  line_some (c, none) = go (lines_at L text).answer refl
    where
      go : (a : Result ℕ Refusal) → (lines_at L text).answer ≡ a → is_in (reading_number (read_plan L s text t).reply) (2 ∷ 3 ∷ 4 ∷ 5 ∷ 6 ∷ []) ≡ true
      go (Err r) e = ap (λ (x : ReadingReply). is_in (reading_number x) (2 ∷ 3 ∷ 4 ∷ 5 ∷ 6 ∷ [])) (line_replies r c e) ∙ number_line r
      go (Ok m) e = let w = well_formed_plan L text m e in absurd (none w.form w.typed w.as_typed w.in_limits)

pub lines_refused_exactly : (L : Limits) → SevenDigits L → LinesRefusedExactly L
lines_refused_exactly L seven = record {
  form_2 = λ s text t o. line_exactly L s text t seven (Form o);
  range_4 = λ s text t o. line_exactly L s text t seven (Range o);
  name_3 = λ s text t o. line_exactly L s text t seven (Name o);
  same_name_5 = λ s text t o. line_exactly L s text t seven (SameName o);
  too_many_6 = λ s text t o. line_exactly L s text t seven (TooManyStops o);
  by_lines = λ s text t. (some_line L s text t seven, line_some L s text t);
}

pub limits_lines_refused_exactly : LinesRefusedExactly limits
limits_lines_refused_exactly = lines_refused_exactly limits limits_seven

-- ---- by building

module _ (L : Limits) where
  built_many : (z t : Tables) (b : Bool) → leb (planned_total t.plan) L.dependencies ≡ b → (cond b (with_reply taken (with_dependencies t)) (with_reply (refused_by 11) z)).reply ≡ refused_by 11 → L.dependencies < planned_total t.plan
  built_many z t true e h = absurd (let q : ◌≡◌ {A = ℕ} 0 1 = cc h in omega arith)
  built_many z t false e h = leb-false _ _ e

  checked_many : (z t : Tables) (k : Result ⊤ PlanFault) → (after_check L z t (check_meant k)).reply ≡ refused_by 11 → (check_meant k ≡ taken) × (L.dependencies < planned_total t.plan)
  checked_many z t (Ok _) h = (refl, built_many z t (leb (planned_total t.plan) L.dependencies) refl h)
  checked_many z t (Err (check.StartsLate x)) h = absurd (let q : ◌≡◌ {A = ℕ} 0 1 = cc h in omega arith)
  checked_many z t (Err (check.NotRising x)) h = absurd (let q : ◌≡◌ {A = ℕ} 0 1 = cc h in omega arith)
  checked_many z t (Err (check.LegTooLong x)) h = absurd (let q : ◌≡◌ {A = ℕ} 0 1 = cc h in omega arith)
  checked_many z t (Err (check.SameLocation x)) h = absurd (let q : ◌≡◌ {A = ℕ} 0 1 = cc h in omega arith)
  checked_many z t (Err (check.Collision x y)) h = absurd (let q : ◌≡◌ {A = ℕ} 0 1 = cc h in omega arith)

  module _ (s : Site) (text : List ℕ) (t : Tables) where
    -- the check passed, and the dependencies are too many
    abbrev ManyAt : ComesToCheck L s text t → Type 0
    ManyAt c = (check_in (checked_lists L s text t c.number) ≡ taken) × (L.dependencies < planned_total (checked_lists L s text t c.number))

    many_lines : ComesToLines L s text t → (a : Result ℕ Refusal) → (lines_at L text).answer ≡ a → (from_lines L (blank L s text t) (lines_at L text) a).reply ≡ refused_by 11 → (c : ComesToCheck L s text t) × ManyAt c
    many_lines c (Err r) e h = absurd (let q : ◌≡◌ {A = ℕ} 0 1 = cc h in omega arith)
    many_lines c (Ok m) e h =
        let z : Tables = blank L s text t in
        let p : PlanLists = checked_lists L s text t m in
        (record { full = c.full; site = c.site; short = c.short; number = m; lines = well_formed_plan L text m e }, checked_many (zeroed_tables L z) (with_text (lines_at L text) m z) (check_of (visits_in p) (leg_in p)) h)

    many_found : (read_plan L s text t).reply ≡ refused_by 11 → (c : ComesToCheck L s text t) × ManyAt c
    unfolding read_lines
    many_found = by_place L s text t (λ x. x ≡ refused_by 11 → (c : ComesToCheck L s text t) × ManyAt c)
        (λ h. absurd (omega (arith, ap reading_number h)))
        (λ x h. absurd (let q : ◌≡◌ {A = ℕ} 0 1 = cc h in omega arith))
        (λ h. absurd (let q : ◌≡◌ {A = ℕ} 0 1 = cc h in omega arith))
        (λ c h. many_lines c (lines_at L text).answer refl h)

    many_said : (c : ComesToCheck L s text t) → ManyAt c → (read_plan L s text t).reply ≡ refused_by 11
    unfolding read_plan read_lines
    many_said c (passed, many) =
        rw (c.full, c.site, le-ltb L.text (length text) c.short, plan_well_formed L text c.number c.lines, passed, lt-leb (planned_total (checked_lists L s text t c.number)) L.dependencies many) refl

    many_exactly : ((read_plan L s text t).reply ≡ refused_by 11)
        ↔ (ComesToCheck L s text t × StopsChecked (text_plan L s text) × Never (text_plan L s text) (Collides (text_plan L s text)) × (L.dependencies < (text_plan L s text).count))
    many_exactly = (
      λ h. let (c, found) = many_found h in
          let (passed, many) = found in
          let F = text_plan L s text in
          let G = plan_of (held_lists L s text t c) in
          let (stops, never) = (passes_exactly (held_lists L s text t c) (have L s text t c)).0 (no_fault (held_lists L s text t c) passed, no_collision (held_lists L s text t c) passed) in
          let same : PlansAgree F G = agree L s text t c in
          (c, agree_stops F G same stops, agree_never F G same never, omega (arith, same.counts_agree, many)),
      λ (c, stops, never, many). let F = text_plan L s text in
          let G = plan_of (held_lists L s text t c) in
          let same : PlansAgree F G = agree L s text t c in
          let (fine, apart) = (passes_exactly (held_lists L s text t c) (have L s text t c)).1 (agree_stops G F (agree_back same) stops, agree_never G F (agree_back same) never) in
          many_said c (check_fine (held_lists L s text t c) fine apart, omega (arith, same.counts_agree, many)),
    )

pub dependencies-refused_exactly : (L : Limits) → DependenciesRefusedExactly L
dependencies-refused_exactly L s text t = many_exactly L s text t
