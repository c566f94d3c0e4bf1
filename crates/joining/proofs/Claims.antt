-- The claims of a joining, over any limits and at the product's. Assumes nothing.
use mathlib.Core.Path.{sym, ap, ◌∙◌, subst}
use mathlib.Core.List.{[], ◌∷◌}
use Prim.Native.Nat.{ℕ}
use native.Mathlib.Omega.{arith}
use Rattle.below.specs.Below.{is_in}
use Rattle.tables.specs.Limits.{Limits, limits}
use Rattle.lines.proofs.NumberRoundTrip.{limits_seven}
use Rattle.call_log.specs.Calls.{step, tables_after}
use Rattle.reading.specs.Replies.{reading_number}
use Rattle.reading.specs.Reading.{given, ReadingAnswer, AnsweredAs}
use Rattle.accepted.specs.Claims.{own_text, own_site}
use Rattle.accepted.proofs.Taken.{taken_exactly, written_back}
use Rattle.accepted.proofs.TextFound.{demand3_of_texts}
use Rattle.joining.specs.Joining.{joined_text}
use Rattle.joining.specs.Claims.{JoiningClaims}
use Rattle.joining.proofs.Decided.{as_read}
use Rattle.joining.proofs.Refusals.{Premises}
use Rattle.joining.proofs.Numbers.{left, small_one, small-two, unsound_one, unsound_two, unfit_one, unfit_two, offset, joined, read_taken, reply_of_lem}
use Rattle.joining.proofs.Texts.{trip, own, joined_small, of_two_texts, held, held_pairs}

pub joining_claims : (L : Limits) → Premises L → JoiningClaims L
joining_claims L p = record {
  own_texts = own L p;
  taken_exactly = λ a b t. (
    λ h. let (e, j, f) = joined L p a b t h in (j, f, ((taken_exactly L (trip L p) p.seven.location (given (own_site a)) (joined_text L a.plan b.plan) t).0 (read_taken L p a b t h)).1),
    λ (j, f, w). reply_of_lem (as_read L p.seven.location a b t j f) ∙ (taken_exactly L (trip L p) p.seven.location (given (own_site a)) (joined_text L a.plan b.plan) t).1 (j.third, w),
  );
  as_reading = as_read L p.seven.location;
  small_exactly = λ a b t. (small_one L p a b t, small-two L p a b t);
  unsound_exactly = λ a b t. (unsound_one L p a b t, unsound_two L p a b t);
  unfit_exactly = λ a b t. (unfit_one L p a b t, unfit_two L p a b t);
  unchanged = λ a b t n i h. (left L p a b t).kept (ap (λ (k : ℕ). is_in k (41 ∷ 40 ∷ 16 ∷ [])) (ap reading_number h) ∙ i);
  too_long_unchanged = λ a b t o h. (left L p a b t).kept_1 (ap reading_number h);
  zeroed = λ a b t. (left L p a b t).zeroed;
  numbers = λ a b t. (left L p a b t).known;
  offsets = offset L p;
  of_texts = of_two_texts L p;
  drones_kept = λ a b t h. (held L p a b t h).1;
  form_kept = λ a b t h. (held L p a b t h).0;
  pairs_kept = held_pairs L p;
  written_out = λ a b t calls h.
      let (e, j, f) = joined L p a b t h in
      ap (λ (v : ReadingAnswer). own_text L (tables_after (step L) v.tables calls)) e
      ∙ written_back L (given (own_site a)) (joined_text L a.plan b.plan) t calls (read_taken L p a b t h)
      ∙ joined_small L p a b j.first j.second;
  demand_3 = λ a b t r t₁ calls got t' w e ran.
      let q = (joined L p a b t (sym w.replied ∙ e)).0 in
      demand3_of_texts L (given (own_site a)) (joined_text L a.plan b.plan) t r t₁ calls got t' (subst (λ (v : ReadingAnswer). AnsweredAs v r t₁) q w) e ran;
}

pub limits_joining : JoiningClaims limits
limits_joining = joining_claims limits (record { seven = limits_seven; few = omega arith; leg = omega arith })
