-- The number of a joining's reply, by the case that it is, and what the reply leaves. Assumes nothing.
use mathlib.Core.Path.{◌≡◌, refl, sym, ap, ◌∙◌, subst}
use mathlib.Core.Logic.{◌⊎◌, ◌≢◌, inl, inr}
use mathlib.Core.Bool.{true, false, false≢true, ◌&&◌}
use mathlib.Core.List.{List, [], ◌∷◌, ◌++◌}
use Prim.Native.Nat.{ℕ}
use native.Mathlib.Omega.{arith}
use Rattle.below.specs.Below.{is_in}
use Rattle.below.proofs.Tests.{by_cases, true_or_false, and_left, and_right}
use Rattle.tables.specs.Limits.{Limits}
use Rattle.tables.specs.Tables.{Tables, full_size}
use Rattle.tables.specs.Zero.{zeroed_tables}
use Rattle.lines.specs.Refusals.{refusal_number, refusal_offset}
use Rattle.lines.specs.declared.refusal.Refusal.{Refusal}
use Rattle.text.specs.Written.{Route}
use Rattle.sound.specs.Sound.{sound}
use Rattle.reading.specs.Replies.{taken, refused_by, refused_at, reading_number}
use Rattle.reading.specs.Reading.{given, ReadingAnswer, read_plan}
use Rattle.accepted.specs.Claims.{own_site}
use Rattle.joining.specs.Joining.{routes_of_plan, joined_form, joined_text, join_plans}
use Rattle.joining.specs.Claims.{Joinable, all_full, FitTogether, LineAtFault}
use Rattle.joining.proofs.Decided.{Unfit, Decided, small, unsound, unfit, ready, decided}
use Rattle.joining.proofs.Refusals.{Fault, Said, is_taken_lem, too_long, at_line, collided, too_many_lem, Premises, known, joined_said}

-- ---- the number of a reply, and what it leaves

-- the tables x are left with a reply of number n, where t were there before
pub record Left (L : Limits) (t : Tables) (n : ℕ) (x : Tables) : Type 0 where
  pub known : is_in n (0 ∷ 41 ∷ 40 ∷ 16 ∷ 1 ∷ 4 ∷ 5 ∷ 6 ∷ 10 ∷ 11 ∷ []) ≡ true
  pub kept : is_in n (41 ∷ 40 ∷ 16 ∷ []) ≡ true → x ≡ t
  pub kept_1 : n ≡ 1 → x ≡ t
  pub zeroed : is_in n (0 ∷ 41 ∷ 40 ∷ 16 ∷ 1 ∷ []) ≡ false → x ≡ zeroed_tables L t

module _ (L : Limits) (t : Tables) where
  left_taken : (x : Tables) → Left L t 0 x
  unfolding is_in
  left_taken x = record { known = refl; kept = λ h. absurd (false≢true h); kept_1 = λ h. absurd (omega arith); zeroed = λ h. absurd (false≢true (sym h)) }

  left-kept : (n : ℕ) → is_in n (0 ∷ 41 ∷ 40 ∷ 16 ∷ 1 ∷ 4 ∷ 5 ∷ 6 ∷ 10 ∷ 11 ∷ []) ≡ true → is_in n (0 ∷ 41 ∷ 40 ∷ 16 ∷ 1 ∷ []) ≡ true → Left L t n t
  left-kept n known k = record { known = known; kept = λ h. refl; kept_1 = λ h. refl; zeroed = λ h. true_or_false k h }

  left-zeroed : (n : ℕ) → is_in n (0 ∷ 41 ∷ 40 ∷ 16 ∷ 1 ∷ 4 ∷ 5 ∷ 6 ∷ 10 ∷ 11 ∷ []) ≡ true → is_in n (41 ∷ 40 ∷ 16 ∷ []) ≡ false → n ≢ 1 → Left L t n (zeroed_tables L t)
  left-zeroed n known k one = record { known = known; kept = λ h. true_or_false h k; kept_1 = λ h. absurd (one h); zeroed = λ h. refl }

  -- an answer of this number that leaves these tables
  abbrev pub LeftBy : ReadingAnswer → Type 0
  LeftBy v = Left L t (reading_number v.reply) v.tables

  module _ (form : ℕ) (ds : List Route) where
    line_left : (r : Refusal) → Fault L form ds r → Left L t (refusal_number r) (zeroed_tables L t)
    unfolding is_in
    line_left r (inl (l, e)) = rw e (left-zeroed 4 refl refl (λ h. omega arith))
    line_left r (inr (l, f)) = elim f.fault [ inl (x, e) ↦ rw e (left-zeroed 5 refl refl (λ h. omega arith)) | inr (x, y, e) ↦ rw e (left-zeroed 6 refl refl (λ h. omega arith)) ]

    said_left : (v : ReadingAnswer) → Said L form ds t v → LeftBy v
    unfolding is_in
    said_left v (is_taken_lem e) = rw e (left_taken v.tables)
    said_left v (too_long e) = rw e (left-kept 1 refl refl)
    said_left v (at_line r f e) = rw e (line_left r f)
    said_left v (collided s u e) = rw e (left-zeroed 10 refl refl (λ h. omega arith))
    said_left v (too_many_lem e) = rw e (left-zeroed 11 refl refl (λ h. omega arith))

    line_known : (r : Refusal) → Fault L form ds r → is_in (refusal_number r) (0 ∷ 1 ∷ 4 ∷ 5 ∷ 6 ∷ 10 ∷ 11 ∷ []) ≡ true
    unfolding is_in
    line_known r (inl (l, e)) = rw e refl
    line_known r (inr (l, f)) = elim f.fault [ inl (x, e) ↦ rw e refl | inr (x, y, e) ↦ rw e refl ]

    -- reading the text says these numbers and no other
    said_known : (v : ReadingAnswer) → Said L form ds t v → is_in (reading_number v.reply) (0 ∷ 1 ∷ 4 ∷ 5 ∷ 6 ∷ 10 ∷ 11 ∷ []) ≡ true
    unfolding is_in
    said_known v (is_taken_lem e) = rw e refl
    said_known v (too_long e) = rw e refl
    said_known v (at_line r f e) = rw e (line_known r f)
    said_known v (collided s u e) = rw e refl
    said_known v (too_many_lem e) = rw e refl

    said_not : (v : ReadingAnswer) → Said L form ds t v → (n : ℕ) → is_in n (0 ∷ 1 ∷ 4 ∷ 5 ∷ 6 ∷ 10 ∷ 11 ∷ []) ≡ false → v.reply ≡ refused_by n → ⊥
    said_not v s n i h = true_or_false (sym (ap (λ (k : ℕ). is_in k (0 ∷ 1 ∷ 4 ∷ 5 ∷ 6 ∷ 10 ∷ 11 ∷ [])) (ap reading_number h)) ∙ said_known v s) i

    said_offset : (v : ReadingAnswer) → Said L form ds t v → (n o : ℕ) → v.reply ≡ refused_at n o → ((n ≡ 1) × (o ≡ L.text)) ⊎ LineAtFault L form ds n o
    said_offset v (is_taken_lem e) n o h = absurd (let y : ◌≡◌ {A = ℕ} 0 1 = cc (sym e ∙ h) in omega arith)
    said_offset v (too_long e) n o h =
        let q : refused_at 1 L.text ≡ refused_at n o = sym (ap (λ (x : ReadingAnswer). x.reply) e) ∙ h in
        inl (sym (cc q), sym (cc q))
    said_offset v (at_line r f e) n o h =
        let q : refused_at (refusal_number r) (refusal_offset r) ≡ refused_at n o = sym (ap (λ (x : ReadingAnswer). x.reply) e) ∙ h in
        inr (record { refusal = r; number_is = sym (cc q); offset_is = sym (cc q); fault = f })
    said_offset v (collided s u e) n o h = absurd (let y : ◌≡◌ {A = ℕ} 0 1 = cc (sym (ap (λ (x : ReadingAnswer). x.reply) e) ∙ h) in omega arith)
    said_offset v (too_many_lem e) n o h = absurd (let y : ◌≡◌ {A = ℕ} 0 1 = cc (sym (ap (λ (x : ReadingAnswer). x.reply) e) ∙ h) in omega arith)

-- ---- the claims about replies

by_number : {m n : ℕ} → refused_by m ≡ refused_by n → m ≡ n
by_number h = cc h

pub reply_of_lem : {v w : ReadingAnswer} → v ≡ w → v.reply ≡ w.reply
reply_of_lem e = ap (λ (x : ReadingAnswer). x.reply) e

module _ (L : Limits) (p : Premises L) (a b t : Tables) where
  abbrev pub answer : ReadingAnswer
  answer = join_plans L a b t

  abbrev pub joined_both : List Route
  joined_both = routes_of_plan L a.plan ++ routes_of_plan L b.plan

  abbrev pub as_reading : Type 0
  as_reading = answer ≡ read_plan L (given (own_site a)) (joined_text L a.plan b.plan) t

  -- which case it is
  case : Decided L a b t
  case = decided L p.seven.location a b t

  -- plans that fit together get what reading their text says
  said : as_reading → Joinable L a b t → Said L (joined_form a.plan b.plan) joined_both t answer
  said e j = subst (Said L (joined_form a.plan b.plan) joined_both t) (sym e) (joined_said L p a b j.first j.second t j.third)

  pub left : LeftBy L t answer
  unfolding is_in
  left = go case
    where
      go : Decided L a b t → LeftBy L t answer
      go (small e x) = rw e (left-kept L t 41 refl refl)
      go (unsound e x) = rw e (left-kept L t 40 refl refl)
      go (unfit e j x) = rw e (left-kept L t 16 refl refl)
      go (ready e j f) = said_left L t (joined_form a.plan b.plan) joined_both answer (said e j)

  -- no plans that can be joined get this number, if it is neither 16 nor one of a reading
  joinable_not : Joinable L a b t → (n : ℕ) → n ≢ 16 → is_in n (0 ∷ 1 ∷ 4 ∷ 5 ∷ 6 ∷ 10 ∷ 11 ∷ []) ≡ false → answer.reply ≡ refused_by n → ⊥
  joinable_not j n other i h = go case
    where
      go : Decided L a b t → ⊥
      go (small e x) = x j
      go (unsound e x) = x j
      go (unfit e k x) = other (sym (by_number (sym (reply_of_lem e) ∙ h)))
      go (ready e k f) = said_not L t (joined_form a.plan b.plan) joined_both answer (said e k) n i h

  by_tests : (f : all_full L a b t ≡ true) (s : (sound L a && sound L b) ≡ true) → Joinable L a b t
  by_tests f s = record {
    first = (and_left _ _ f, and_left _ _ s);
    second = (and_left _ _ (and_right (full_size L a) _ f), and_right (sound L a) _ s);
    third = and_right (full_size L b) _ (and_right (full_size L a) _ f);
  }

  pub small_one : answer.reply ≡ refused_by 41 → all_full L a b t ≡ false
  unfolding join_plans is_in
  small_one h = by_cases (all_full L a b t)
      (λ f. by_cases (sound L a && sound L b)
      (λ s. absurd (joinable_not (by_tests f s) 41 (λ e. omega (arith, e)) refl h))
      (λ s. absurd (let y : ◌≡◌ {A = ℕ} 40 41 = by_number (rw (f, s) at h) in omega (arith, y))))
      (λ f. f)

  pub small-two : all_full L a b t ≡ false → answer.reply ≡ refused_by 41
  unfolding join_plans
  small-two f = rw f refl

  pub unsound_one : answer.reply ≡ refused_by 40 → (all_full L a b t ≡ true) × ((sound L a && sound L b) ≡ false)
  unfolding join_plans is_in
  unsound_one h = by_cases (all_full L a b t)
      (λ f. by_cases (sound L a && sound L b)
      (λ s. absurd (joinable_not (by_tests f s) 40 (λ e. omega (arith, e)) refl h))
      (λ s. (f, s)))
      (λ f. absurd (let y : ◌≡◌ {A = ℕ} 41 40 = by_number (rw f at h) in omega (arith, y)))

  pub unsound_two : (all_full L a b t ≡ true) × ((sound L a && sound L b) ≡ false) → answer.reply ≡ refused_by 40
  unfolding join_plans
  unsound_two (f, s) = rw (f, s) refl

  pub unfit_one : answer.reply ≡ refused_by 16 → Joinable L a b t × Unfit a b
  unfolding is_in
  unfit_one h = go case
    where
      go : Decided L a b t → Joinable L a b t × Unfit a b
      go (small e x) = absurd (let y : ◌≡◌ {A = ℕ} 41 16 = by_number (sym (reply_of_lem e) ∙ h) in omega (arith, y))
      go (unsound e x) = absurd (let y : ◌≡◌ {A = ℕ} 40 16 = by_number (sym (reply_of_lem e) ∙ h) in omega (arith, y))
      go (unfit e j x) = (j, x)
      go (ready e j f) = absurd (said_not L t (joined_form a.plan b.plan) joined_both answer (said e j) 16 refl h)

  pub unfit_two : Joinable L a b t × Unfit a b → answer.reply ≡ refused_by 16
  unfit_two (j, x) = go case
    where
      not_both : FitTogether a b → Unfit a b → ⊥
      not_both f (inl s) = f.first s
      not_both f (inr (inl s)) = f.second s
      not_both f (inr (inr s)) = s f.one_site

      go : Decided L a b t → answer.reply ≡ refused_by 16
      go (small e n) = absurd (n j)
      go (unsound e n) = absurd (n j)
      go (unfit e k y) = reply_of_lem e
      go (ready e k f) = absurd (not_both f x)

  pub offset : (n o : ℕ) → answer.reply ≡ refused_at n o → ((n ≡ 1) × (o ≡ L.text)) ⊎ LineAtFault L (joined_form a.plan b.plan) joined_both n o
  offset n o h = go case
    where
      go : Decided L a b t → ((n ≡ 1) × (o ≡ L.text)) ⊎ LineAtFault L (joined_form a.plan b.plan) joined_both n o
      go (small e x) = absurd (let y : ◌≡◌ {A = ℕ} 0 1 = cc (sym (reply_of_lem e) ∙ h) in omega arith)
      go (unsound e x) = absurd (let y : ◌≡◌ {A = ℕ} 0 1 = cc (sym (reply_of_lem e) ∙ h) in omega arith)
      go (unfit e j x) = absurd (let y : ◌≡◌ {A = ℕ} 0 1 = cc (sym (reply_of_lem e) ∙ h) in omega arith)
      go (ready e j f) = said_offset L t (joined_form a.plan b.plan) joined_both answer (said e j) n o h

  -- a joining that is taken is a reading that is taken
  pub joined : answer.reply ≡ taken → as_reading × Joinable L a b t × FitTogether a b
  joined h = go case
    where
      go : Decided L a b t → as_reading × Joinable L a b t × FitTogether a b
      go (small e x) = absurd (let y : ◌≡◌ {A = ℕ} 0 1 = cc (sym (reply_of_lem e) ∙ h) in omega arith)
      go (unsound e x) = absurd (let y : ◌≡◌ {A = ℕ} 0 1 = cc (sym (reply_of_lem e) ∙ h) in omega arith)
      go (unfit e j x) = absurd (let y : ◌≡◌ {A = ℕ} 0 1 = cc (sym (reply_of_lem e) ∙ h) in omega arith)
      go (ready e j f) = (e, j, f)

  pub read_taken : answer.reply ≡ taken → (read_plan L (given (own_site a)) (joined_text L a.plan b.plan) t).reply ≡ taken
  read_taken h = sym (reply_of_lem (joined h).0) ∙ h
