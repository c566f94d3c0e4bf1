-- Which refusal, exactly: by the tests of each definition. Assumes nothing.
use mathlib.Core.Path.{◌≡◌, refl, sym, ap, ◌∙◌}
use mathlib.Core.Logic.{◌⊎◌, inl, inr, ◌↔◌}
use mathlib.Core.Bool.{true, false, cond}
use mathlib.Core.List.{List, [], ◌∷◌}
use Prim.Native.Nat.{ℕ, suc, ◌≤◌, ◌<◌}
use native.Mathlib.Omega.{arith}
use lib.Dec.{ltb}
use lib.ListN.{length}
use borrow.Author.Tests.{lt-ltb, le-ltb, ltb-true, ltb-false}
use Rattle.below.specs.Below.{is_in}
use Rattle.below.proofs.Tests.{by_cases}
use Rattle.tables.specs.Limits.{Limits}
use Rattle.tables.specs.Tables.{Tables, full_size}
use Rattle.tables.specs.Zero.{zeroed_tables}
use Rattle.site.specs.Site.{site_number}
use Rattle.site.specs.declared.SiteRefusal.{SiteRefusal}
use Rattle.site.specs.declared.SiteRefusal.TheVariants.{Form, Range}
use Rattle.text.specs.TextWritten.{is_short, write_answer}
use Rattle.plan.specs.Field.{plan_of}
use Rattle.plan.specs.Status.{status_in}
use Rattle.sound.specs.Sound.{sound}
use Rattle.call_log.specs.CallLog.{Call, grant, arrive, withdraw, turn, turn_all, refused, reply_number, reply_in}
use Rattle.call_log.specs.Calls.{reply_of, grant_step, arrive_step, withdraw_step, turn_step, turn_all_step, step, CostOutcome, costs, cost_refused, cost_reply, RoundsOutcome, rounds, rounds_refused, rounds_reply}
use Rattle.call_log.specs.Preview.{would_refuse, preview, preview_all}
use Rattle.call_log.specs.Claims.{Usable}
use Rattle.reading.specs.Replies.{reading_number}
use Rattle.reading.specs.Reading.{Site, site_read, ReadingAnswer, with_site, read_plan}
use Rattle.call_log.proofs.Meaning.{below_37}
use Rattle.call_log.proofs.Preview.{preview_claims}
use Rattle.reading.proofs.ReplyLaws.{lines_never}
use Rattle.accepted.proofs.SiteRead.{site_refused, site_long, site_lines, only_site}
use Rattle.flat.specs.Writing.{wrote, write_refused, text_in, writes}
use Rattle.demands.specs.Numbers.{Unfit, ExactNumbers}
use Rattle.demands.proofs.BestOrder.{best_numbers}
use Rattle.std.specs.Prelude.{⊤, Result, Ok, Err}

-- ---- the reading

-- no number of a site text is 41 or 1
site_number-low : (r : SiteRefusal) → (12 < site_number r) × (site_number r < 15)
site_number-low (Form o) = (omega arith, omega arith)
site_number-low (Range o) = (omega arith, omega arith)

module _ (L : Limits) (s : Site) (text : List ℕ) (t : Tables) where
  small_tables : full_size L t ≡ false → reading_number (read_plan L s text t).reply ≡ 41
  unfolding read_plan
  small_tables f = rw f refl

  -- of tables of full size
  module _ (f : full_size L t ≡ true) where
    site_at_fault : (r : SiteRefusal) → (site_read L s).answer ≡ Err r → reading_number (read_plan L s text t).reply ≡ site_number r
    site_at_fault r e = ap (λ (a : ReadingAnswer). reading_number a.reply) (site_refused L s text t f r e)

    long_text : (site_read L s).answer ≡ Ok tt → L.text < length text → reading_number (read_plan L s text t).reply ≡ 1
    long_text e l = ap (λ (a : ReadingAnswer). reading_number a.reply) (site_long L s text t f e l)

    -- a number that no line gives, where the site text is taken and the text is not too long
    not_by_lines : (n : ℕ) → (0 < n) → (n < 2) ⊎ (12 < n) → (site_read L s).answer ≡ Ok tt → length text ≤ L.text → reading_number (read_plan L s text t).reply ≡ n → ⊥
    not_by_lines n some out k l e =
        lines_never n (omega arith) out L text (with_site (site_read L s).numbers (zeroed_tables L t)) (ap (λ (a : ReadingAnswer). reading_number a.reply) (sym (site_lines L s text t f k l)) ∙ e)

  only_41 : reading_number (read_plan L s text t).reply ≡ 41 → full_size L t ≡ false
  only_41 e = by_cases (full_size L t) (λ f. absurd (go f (site_read L s).answer refl)) (λ f. f)
    where
      go : full_size L t ≡ true → (a : Result ⊤ SiteRefusal) → (site_read L s).answer ≡ a → ⊥
      go f (Err r) k = omega (arith, site_at_fault f r k, e, site_number-low r)
      go f (Ok _) k = by_cases (ltb L.text (length text))
          (λ l. omega (arith, long_text f k (ltb-true L.text (length text) l), e))
          (λ l. not_by_lines f 41 (omega arith) (inr (omega arith)) k (omega (arith, ltb-false L.text (length text) l)) e)

  only_1 : reading_number (read_plan L s text t).reply ≡ 1 → (full_size L t ≡ true) × ((site_read L s).answer ≡ Ok tt) × (L.text < length text)
  only_1 e = by_cases (full_size L t) (λ f. let (k, l) = go f (site_read L s).answer refl in (f, k, l)) (λ f. absurd (omega (arith, small_tables f, e)))
    where
      go : full_size L t ≡ true → (a : Result ⊤ SiteRefusal) → (site_read L s).answer ≡ a → ((site_read L s).answer ≡ Ok tt) × (L.text < length text)
      go f (Err r) k = absurd (omega (arith, site_at_fault f r k, e, site_number-low r))
      go f (Ok _) k = by_cases (ltb L.text (length text))
          (λ l. (k, ltb-true L.text (length text) l))
          (λ l. absurd (not_by_lines f 1 (omega arith) (inl (omega arith)) k (omega (arith, ltb-false L.text (length text) l)) e))

  -- 13 and 14 are the site text's
  by_site : (n : ℕ) → is_in n (13 ∷ 14 ∷ []) ≡ true → (reading_number (read_plan L s text t).reply ≡ n) ↔ ((full_size L t ≡ true) × ((r : SiteRefusal) × ((site_read L s).answer ≡ Err r) × (site_number r ≡ n)))
  by_site n i = (
    λ e. let (f, fault) = only_site L s text t n i e in
        let (r, k) = fault in
        (f, (r, k, sym (site_at_fault f r k) ∙ e)),
    λ (f, fault). let (r, k, q) = fault in site_at_fault f r k ∙ q,
  )

-- ---- 41, then 40, then what is answered on usable tables

module _ (L : Limits) (t : Tables) {A : Type 0} (say : ℕ → A) (x : A) (n : ℕ) where
  abbrev Tested : A
  Tested = cond (full_size L t) (cond (sound L t) x (say 40)) (say 41)

  unfit_says : Unfit L t n → Tested ≡ say n
  unfit_says (inl (e, f)) = rw (f, e) refl
  unfit_says (inr (e, f, s)) = rw (f, s, e) refl

  -- `told` tells the refusals apart, and from x
  only_unfit : (told : A → ℕ) → ((m : ℕ) → told (say m) ≡ suc m) → told x ≡ 0 → Tested ≡ say n → Unfit L t n
  only_unfit told by_number none e = by_cases (full_size L t)
      (λ f. by_cases (sound L t)
      (λ s. let q : told x ≡ told (say n) = ap told (rw (f, s) at e) in absurd (omega (arith, q, none, by_number n)))
      (λ s. let q : told (say 40) ≡ told (say n) = ap told (rw (f, s) at e) in inr (omega (arith, q, by_number 40, by_number n), f, s)))
      (λ f. let q : told (say 41) ≡ told (say n) = ap told (rw f at e) in inl (omega (arith, q, by_number 41, by_number n), f))

-- ---- the calls

module _ (L : Limits) (t : Tables) where
  reply_unfit : (c : Call) (n : ℕ) → Unfit L t n → reply_of L t c ≡ refused n
  unfolding reply_of
  reply_unfit c n u = unfit_says L t refused (reply_in (plan_of t.plan) (status_in t) c) n u

  call_unfit : (c : Call) (n : ℕ) → Unfit L t n → (step L t c).reply ≡ refused n
  unfolding grant_step arrive_step withdraw_step turn_step turn_all_step
  call_unfit (grant d) n u = reply_unfit (grant d) n u
  call_unfit (arrive d) n u = reply_unfit (arrive d) n u
  call_unfit (withdraw d) n u = reply_unfit (withdraw d) n u
  call_unfit (turn w) n u = reply_unfit (turn w) n u
  call_unfit (turn_all ws) n u = reply_unfit (turn_all ws) n u

  reply_usable : (c : Call) → Usable L t → reply_of L t c ≡ reply_in (plan_of t.plan) (status_in t) c
  unfolding reply_of
  reply_usable c (f, s) = rw (f, s) refl

  call_usable : (c : Call) → Usable L t → (step L t c).reply ≡ reply_in (plan_of t.plan) (status_in t) c
  unfolding grant_step arrive_step withdraw_step turn_step turn_all_step
  call_usable (grant d) u = reply_usable (grant d) u
  call_usable (arrive d) u = reply_usable (arrive d) u
  call_usable (withdraw d) u = reply_usable (withdraw d) u
  call_usable (turn w) u = reply_usable (turn w) u
  call_usable (turn_all ws) u = reply_usable (turn_all ws) u

  -- a number from 40 on is none of the table's, so the tables are unfit by it
  call_only : (c : Call) (n : ℕ) → 40 ≤ n → (step L t c).reply ≡ refused n → Unfit L t n
  call_only c n h e = by_cases (full_size L t)
      (λ f. by_cases (sound L t)
      (λ s. let q = below_37 (plan_of t.plan) (status_in t) c in let r : reply_number (reply_in (plan_of t.plan) (status_in t) c) ≡ n = ap reply_number (sym (call_usable c (f, s)) ∙ e) in absurd (omega (arith, q, r, h)))
      (λ s. inr (sym (ap reply_number (sym (call_unfit c 40 (inr (refl, f, s))) ∙ e)), f, s)))
      (λ f. inl (sym (ap reply_number (sym (call_unfit c 41 (inl (refl, f))) ∙ e)), f))

  call_refused : (c : Call) (n : ℕ) → 40 ≤ n → ((step L t c).reply ≡ refused n) ↔ Unfit L t n
  call_refused c n h = (call_only c n h, call_unfit c n)

  preview_refused : (w n : ℕ) → 40 ≤ n → (preview L t w ≡ would_refuse n) ↔ Unfit L t n
  preview_refused w n h = (λ e. call_only (turn w) n h ((preview_claims.preview_refused L t w n).0 e), λ u. (preview_claims.preview_refused L t w n).1 (call_unfit (turn w) n u))

  list_refused : (ws : List ℕ) (n : ℕ) → 40 ≤ n → (preview_all L t ws ≡ would_refuse n) ↔ Unfit L t n
  list_refused ws n h = (λ e. call_only (turn_all ws) n h ((preview_claims.preview_all_refused L t ws n).0 e), λ u. (preview_claims.preview_all_refused L t ws n).1 (call_unfit (turn_all ws) n u))

-- ---- cost and rounds

-- a refusal's number and one, 0 for the others
abbrev cost_told : CostOutcome → ℕ
cost_told (costs n) = 0
cost_told (cost_refused n) = suc n

abbrev rounds_told_lem : RoundsOutcome → ℕ
rounds_told_lem (rounds n) = 0
rounds_told_lem (rounds_refused n) = suc n

module _ (L : Limits) (t : Tables) (n : ℕ) where
  cost_refused_lem : (cost_reply L t ≡ cost_refused n) ↔ Unfit L t n
  unfolding cost_reply
  cost_refused_lem = (only_unfit L t cost_refused _ n cost_told (λ m. refl) refl, unfit_says L t cost_refused _ n)

  rounds_refused_lem : (rounds_reply L t ≡ rounds_refused n) ↔ Unfit L t n
  unfolding rounds_reply
  rounds_refused_lem = (only_unfit L t rounds_refused _ n rounds_told_lem (λ m. refl) refl, unfit_says L t rounds_refused _ n)

-- ---- the writer

module _ (L : Limits) (t : Tables) (buffer : List ℕ) where
  writer_unfit : (n : ℕ) → Unfit L t n → writes L t buffer ≡ write_refused n
  unfolding writes
  writer_unfit n u = unfit_says L t write_refused _ n u

  writer_short : Usable L t → length buffer < length (text_in L t) → writes L t buffer ≡ write_refused 42
  unfolding writes write_answer is_short
  writer_short (f, s) l = rw (f, s, lt-ltb (length buffer) (length (text_in L t)) l) refl

  writer_wrote : Usable L t → length (text_in L t) ≤ length buffer → writes L t buffer ≡ wrote (length (text_in L t))
  unfolding writes write_answer is_short
  writer_wrote (f, s) l = rw (f, s, le-ltb (length buffer) (length (text_in L t)) l) refl

pub exact_numbers : (L : Limits) → ExactNumbers L
exact_numbers L = record {
  reading_41 = λ s text t. (only_41 L s text t, small_tables L s text t);
  reading_site = by_site L;
  reading_1 = λ s text t. (only_1 L s text t, λ (f, k, l). long_text L s text t f k l);
  reading_lines = λ s text t f k l. site_lines L s text t f k l;
  call_refused = call_refused L;
  call_usable = call_usable L;
  preview_refused = preview_refused L;
  list_refused = list_refused L;
  cost_refused_lem = cost_refused_lem L;
  rounds_refused_lem = rounds_refused_lem L;
  best_order_lem = best_numbers L;
  writer_unfit = writer_unfit L;
  writer_short = writer_short L;
  writer_wrote = writer_wrote L;
}
