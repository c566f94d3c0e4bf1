-- The loop of the grants: what holds when the drones below n are asked. Assumes nothing.
use mathlib.Core.Path.{◌≡◌, refl, sym, ap, ◌∙◌, subst}
use mathlib.Core.Bool.{Bool, true, false, cond}
use Prim.Native.Nat.{ℕ, zero, suc, ◌+◌, ◌-◌, ◌*◌, ◌%◌, ◌^◌, ◌≤◌, ◌<◌}
use native.Mathlib.Omega.{arith}
use lib.Dec.{ltb, leb}
use lib.Pow.{shl_exact, pow_mono}
use borrow.Author.Tests.{leb-true}
use Rattle.below.specs.Below.{at, pick, sum_below}
use Rattle.below.proofs.Tests.{by_cases, true_or_false}
use Rattle.tables.specs.Limits.{Limits}
use Rattle.tables.specs.Tables.{Tables, drones, dependencies, full_size}
use Rattle.tables.specs.Flags.{under_way_bit, withdrawn_bit}
use Rattle.sound.specs.Sound.{sound}
use Rattle.plan.specs.Field.{plan_of}
use Rattle.plan.specs.Status.{status_in, unmet}
use Rattle.call_log.specs.CallLog.{grant, arrive, Reply, accepted, refused, must_wait, reply_number, is_accepted, reply_in}
use Rattle.call_log.specs.Calls.{Answer, reply_of, grant_step, step, Answered}
use Rattle.call_log.specs.Claims.{Usable}
use Rattle.call_log.proofs.Steps.{refusal, step_41, step_40, grant_20}
use Rattle.handset.specs.Press.{PressOutcome, press_refused, PressedAs, unusable, ends_asking, reply_with, after_grants, reply_at, bits_below, grant_all_step, after_arrival, press_step}
use Rattle.handset.specs.Press as press
use Rattle.flat.specs.Replies.{fault_number, arrive_meant}
use Rattle.flat.specs.declared.replies.TablesFault.{TablesFault}
use Rattle.flat.specs.declared.replies.TablesFault.TheVariants.{TooSmall, NotSound}
use Rattle.flat.specs.declared.replies.ArriveRefusal.{ArriveRefusal}
use Rattle.flat.specs.declared.replies.ArriveRefusal.TheVariants as arrival
use Rattle.std.specs.Prelude.{Some, None, Err}
use Rattle.handset.proofs.Bits.{bits_low, power_suc}
use Rattle.handset.proofs.Presses.{leaves_41, leaves_40, grants_unchanged}
use Rattle.handset.proofs.Grants.{asked_below}

-- ---- the parts of the reply

-- "built by shifts": nothing is shifted out
pub shifted : (d : ℕ) → d < 64 → (1 * 2 ^ d) % 2 ^ 64 ≡ 2 ^ d
shifted d l = shl_exact 1 d 64 (omega arith) (omega arith) ∙ omega arith

-- and the sum fits
pub bit_fits : (b d : ℕ) → d < 64 → b < 2 ^ d → b + 2 ^ d < 2 ^ 64
bit_fits b d l h = omega (arith, power_suc d, pow_mono {i = suc d} {j = 64} l)

pub bit_added : (b d : ℕ) → d < 64 → b + (1 * 2 ^ d) % 2 ^ 64 ≡ b + pick (is_accepted accepted) (2 ^ d) 0
bit_added b d l = rw (shifted d l) refl

pub bit_kept : (b d : ℕ) → b ≡ b + pick false (2 ^ d) 0
bit_kept b d = omega arith

-- ---- the replies

pub arrive_refused : (e : ArriveRefusal) → is_accepted (arrive_meant (Err e)) ≡ false
arrive_refused (arrival.Tables fault) = refl
arrive_refused arrival.NoDrone = refl
arrive_refused arrival.Withdrawn = refl
arrive_refused arrival.NotUnderWay = refl

-- ---- the loop

-- the number that says whether the tables were usable, after n grants
unfoldable pub unusable_at : Limits → Tables → ℕ → ℕ
unusable_at L t zero = 0
unusable_at L t (suc n) = unusable (reply_at L t n)

pub record Granting (L : Limits) (t₀ : Tables) (n : ℕ) (t : Tables) (bits unusable-by : ℕ) : Type 0 where
  pub tables_are : t ≡ after_grants L t₀ n
  pub bits_are : bits ≡ bits_below L t₀ n
  pub unusable_is : unusable-by ≡ unusable_at L t₀ n

module _ (L : Limits) (t₀ : Tables) where
  pub granting_none : Granting L t₀ 0 t₀ 0 0
  unfolding after_grants bits_below sum_below unusable_at
  granting_none = record { tables_are = refl; bits_are = refl; unusable_is = refl }

  pub granting_low : (n : ℕ) (t : Tables) (bits unusable-by : ℕ) → Granting L t₀ n t bits unusable-by → bits < 2 ^ n
  unfolding bits_below
  granting_low n t b u g = omega (arith, g.bits_are, bits_low (λ d. is_accepted (reply_at L t₀ d)) n)

  granting_suc : (n : ℕ) (t : Tables) (b u : ℕ) (r : Reply) (t' : Tables) (b' u' : ℕ) → Granting L t₀ n t b u → Answered (step L) t (grant n) r t' → b' ≡ b + pick (is_accepted r) (2 ^ n) 0 → u' ≡ unusable r → Granting L t₀ (suc n) t' b' u'
  unfolding after_grants bits_below sum_below unusable_at
  granting_suc n t b u r t' b' u' g a e f = record {
    tables_are = a.left ∙ ap (λ (z : Tables). (grant_step L z n).tables) g.tables_are;
    bits_are = e ∙ rw (g.bits_are, replied) refl;
    unusable_is = f ∙ ap unusable replied;
  }
    where
      replied : r ≡ reply_at L t₀ n
      replied = a.replied ∙ ap (λ (z : Tables). (grant_step L z n).reply) g.tables_are

  -- 41, 40 or neither: the last grant tells as well as any
  unusable_41 : full_size L t₀ ≡ false → (n : ℕ) → unusable_at L t₀ (suc n) ≡ 41
  unfolding unusable_at
  unusable_41 e n = ap (λ (z : Tables). unusable (grant_step L z n).reply) (grants_unchanged L t₀ (leaves_41 L t₀ e) n) ∙ ap (λ (a : Answer). unusable a.reply) (step_41 L t₀ e (grant n))

  unusable_40 : full_size L t₀ ≡ true → sound L t₀ ≡ false → (n : ℕ) → unusable_at L t₀ (suc n) ≡ 40
  unfolding unusable_at
  unusable_40 f e n = ap (λ (z : Tables). unusable (grant_step L z n).reply) (grants_unchanged L t₀ (leaves_40 L t₀ f e) n) ∙ ap (λ (a : Answer). unusable a.reply) (step_40 L t₀ f e (grant n))

-- the reply to a grant on usable tables, by its tests in order
unfoldable by_tests_lem : Bool → Bool → Bool → Bool → Bool → ℕ → Reply
by_tests_lem a x b c e w = elim a [ true ↦ refused 20 | false ↦ elim x [ true ↦ refused 25 | false ↦ elim b [ true ↦ refused 21 | false ↦ elim c [ true ↦ refused 22 | false ↦ elim e [ true ↦ must_wait w | false ↦ accepted ] ] ] ] ]

by_tests : (L : Limits) (t : Tables) → Usable L t → (d : ℕ) → (grant_step L t d).reply ≡ by_tests_lem (leb (drones t.plan) d) (withdrawn_bit (at t.drone_flags d)) (leb ((plan_of t.plan).last d) (at t.visited d)) (under_way_bit (at t.drone_flags d)) (ltb (unmet (plan_of t.plan) (status_in t) d) (dependencies t.plan)) (unmet (plan_of t.plan) (status_in t) d)
unfolding grant_step reply_of reply_in by_tests_lem
by_tests L t u d = rw (u.0, u.1) refl

-- none of these is 41 or 40
tests_0 : (a x b c e : Bool) (w : ℕ) → unusable (by_tests_lem a x b c e w) ≡ 0
unfolding by_tests_lem
tests_0 true x b c e w = refl
tests_0 false true b c e w = refl
tests_0 false false true c e w = refl
tests_0 false false false true e w = refl
tests_0 false false false false true w = refl
tests_0 false false false false false w = refl

usable_0 : (L : Limits) (t : Tables) → Usable L t → (d : ℕ) → unusable (grant_step L t d).reply ≡ 0
usable_0 L t u d = ap unusable (by_tests L t u d) ∙ tests_0 _ _ _ _ _ _

-- and only 20 is every later drone's too
tests_end : (a x b c e : Bool) (w : ℕ) → ends_asking (by_tests_lem a x b c e w) ≡ true → a ≡ true
unfolding by_tests_lem
tests_end true x b c e w h = refl
tests_end false true b c e w h = true_or_false h refl
tests_end false false true c e w h = true_or_false h refl
tests_end false false false true e w h = true_or_false h refl
tests_end false false false false true w h = true_or_false h refl
tests_end false false false false false w h = true_or_false h refl

usable_ends : (L : Limits) (t : Tables) → Usable L t → (d : ℕ) → ends_asking (grant_step L t d).reply ≡ true → drones t.plan ≤ d
usable_ends L t u d e = leb-true (drones t.plan) d (tests_end _ _ _ _ _ _ (sym (ap ends_asking (by_tests L t u d)) ∙ e))

module _ (L : Limits) (t₀ : Tables) where
  unusable-none : Usable L t₀ → (n : ℕ) → unusable_at L t₀ (suc n) ≡ 0
  unfolding unusable_at
  unusable-none u n = usable_0 L (after_grants L t₀ n) (asked_below L t₀ u n).usable n

  reply_is : (n bits : ℕ) → reply_with (unusable_at L t₀ (suc n)) bits ≡ cond (full_size L t₀) (cond (sound L t₀) (press.granted bits) (press_refused 40)) (press_refused 41)
  reply_is n bits = by_cases (full_size L t₀)
      (λ f. by_cases (sound L t₀)
      (λ s. rw (unusable-none (f, s) n, f, s) refl)
      (λ s. rw (unusable_40 L t₀ f s n, f, s) refl))
      (λ f. rw (unusable_41 L t₀ f n, f) refl)

  pub granting_end : (n : ℕ) (t : Tables) (b u : ℕ) (m : PressOutcome) → Granting L t₀ n t b u → 0 < n → n ≡ L.drones → m ≡ reply_with u b → PressedAs (grant_all_step L t₀) m t
  unfolding grant_all_step
  granting_end zero t b u m g h e q = absurd (omega arith)
  granting_end (suc n) t b u m g h e q = record {
    replied = q ∙ ap (λ (x : ℕ). reply_with x b) g.unusable_is ∙ reply_is n b ∙ ap (λ (x : ℕ). cond (full_size L t₀) (cond (sound L t₀) (press.granted x) (press_refused 40)) (press_refused 41)) (g.bits_are ∙ ap (bits_below L t₀) e);
    left = g.tables_are ∙ ap (after_grants L t₀) e;
  }

-- ---- where the asking ends

-- a reply that ends the asking is every later drone's too, and leaves the tables
later_same : (L : Limits) (t : Tables) (n : ℕ) → ends_asking (grant_step L t n).reply ≡ true → (m : ℕ) → n ≤ m → grant_step L t m ≡ refusal t (grant_step L t n).reply
later_same L t n e m l = by_cases (full_size L t)
    (λ f. by_cases (sound L t)
    (λ s. let none = usable_ends L t (f, s) n e in grant_20 L t f s m (omega arith) ∙ same (refused 20) (grant_20 L t f s n none))
    (λ s. step_40 L t f s (grant m) ∙ same (refused 40) (step_40 L t f s (grant n))))
    (λ f. step_41 L t f (grant m) ∙ same (refused 41) (step_41 L t f (grant n)))
  where
    same : (r : Reply) → grant_step L t n ≡ refusal t r → refusal t r ≡ refusal t (grant_step L t n).reply
    same r q = ap (λ (a : Answer). refusal t a.reply) (sym q)

ends_refused : (r : Reply) → ends_asking r ≡ true → is_accepted r ≡ false
ends_refused accepted e = true_or_false e refl
ends_refused (refused n) e = refl
ends_refused (must_wait w) e = refl

module _ (L : Limits) (t₀ : Tables) where
  -- so the k drones that are left to ask change nothing
  granting_past : (n : ℕ) (t : Tables) (b : ℕ) (r : Reply) → is_accepted r ≡ false → ((m : ℕ) → n ≤ m → Answered (step L) t (grant m) r t) → Granting L t₀ n t b (unusable r) → (k m : ℕ) → m ≡ k + n → Granting L t₀ m t b (unusable r)
  granting_past n t b r e later g zero m q = subst (λ (j : ℕ). Granting L t₀ j t b (unusable r)) (omega (arith, q)) g
  granting_past n t b r e later g (suc k) m q = subst (λ (j : ℕ). Granting L t₀ j t b (unusable r)) (omega (arith, q)) (granting_suc L t₀ (k + n) t b (unusable r) r t b (unusable r) (granting_past n t b r e later g k (k + n) refl) (later (k + n) (omega arith)) (rw e (omega arith)) refl)

  -- a reply that does not end the asking
  pub granting_more : (n : ℕ) (t : Tables) (b : ℕ) (r : Reply) (t' : Tables) (b' : ℕ) → Granting L t₀ n t b 0 → Answered (step L) t (grant n) r t' → b' ≡ b + pick (is_accepted r) (2 ^ n) 0 → 0 ≡ unusable r → Granting L t₀ (n + 1) t' b' 0
  granting_more n t b r t' b' g a e f = subst (λ (k : ℕ). Granting L t₀ k t' b' 0) (omega arith) (granting_suc L t₀ n t b 0 r t' b' 0 g a e f)

  -- after one that does, all is as if every drone had been asked
  granting_all : (n : ℕ) (t : Tables) (b : ℕ) (r : Reply) (t' : Tables) → n < L.drones → Granting L t₀ n t b 0 → Answered (step L) t (grant n) r t' → ends_asking r ≡ true → Granting L t₀ L.drones t' b (unusable r)
  granting_all n t b r t' l g a h =
      let none : b ≡ b + pick (is_accepted r) (2 ^ n) 0 = rw (ends_refused r h) (omega arith) in
      let next : Granting L t₀ (suc n) t' b (unusable r) = granting_suc L t₀ n t b 0 r t' b (unusable r) g a none refl in
      let later : (m : ℕ) → n ≤ m → grant_step L t m ≡ refusal t r = λ m o. subst (λ (x : Reply). grant_step L t m ≡ refusal t x) (sym a.replied) (later_same L t n (sym (ap ends_asking a.replied) ∙ h) m o) in
      let kept : t' ≡ t = a.left ∙ ap (λ (x : Answer). x.tables) (later n (omega arith)) in
      rw kept (granting_past (suc n) t b r (ends_refused r h) (λ m o. record { replied = sym (ap (λ (x : Answer). x.reply) (later m (omega arith))); left = sym (ap (λ (x : Answer). x.tables) (later m (omega arith))) }) (rw kept at next) (L.drones - suc n) L.drones (omega arith))

  -- "Refused: 41 and 40 first"
  pub granting_faulted : (n : ℕ) (t : Tables) (b : ℕ) (fault : TablesFault) (t' : Tables) → n < L.drones → Granting L t₀ n t b 0 → Answered (step L) t (grant n) (refused (fault_number fault)) t' → PressedAs (grant_all_step L t₀) (press_refused (fault_number fault)) t'
  granting_faulted n t b TooSmall t' l g a = granting_end L t₀ L.drones t' b _ _ (granting_all n t b _ t' l g a refl) (omega arith) refl refl
  granting_faulted n t b NotSound t' l g a = granting_end L t₀ L.drones t' b _ _ (granting_all n t b _ t' l g a refl) (omega arith) refl refl

  -- no later drone is there
  pub granting_past_all : (n : ℕ) (t : Tables) (b : ℕ) (t' : Tables) → n < L.drones → Granting L t₀ n t b 0 → Answered (step L) t (grant n) (refused 20) t' → PressedAs (grant_all_step L t₀) (press.granted b) t'
  granting_past_all n t b t' l g a = granting_end L t₀ L.drones t' b _ _ (granting_all n t b _ t' l g a refl) (omega arith) refl refl

  -- every drone was asked
  pub granting_done : (n : ℕ) (t : Tables) (b : ℕ) → Granting L t₀ n t b 0 → 0 < n → n ≡ L.drones → PressedAs (grant_all_step L t₀) (press.granted b) t
  granting_done n t b g h e = granting_end L t₀ n t b 0 _ g h e refl

-- ---- a press

pub press_nothing : (L : Limits) (t : Tables) (m : PressOutcome) (t' : Tables) → PressedAs (grant_all_step L t) m t' → PressedAs (press_step L t None) m t'
unfolding press_step
press_nothing L t m t' a = a

module _ (L : Limits) (t : Tables) (d : ℕ) (r : Reply) (t₁ : Tables) (a : Answered (step L) t (arrive d) r t₁) where
  pub press_refused_lem : (m : PressOutcome) → is_accepted r ≡ false → m ≡ press_refused (reply_number r) → PressedAs (press_step L t (Some d)) m t₁
  unfolding press_step after_arrival
  press_refused_lem m e q = rw (ap is_accepted (sym a.replied) ∙ e) (record { replied = q ∙ ap (λ (x : Reply). press_refused (reply_number x)) a.replied; left = a.left })

  pub press_arrived : (m : PressOutcome) (t' : Tables) → is_accepted r ≡ true → PressedAs (grant_all_step L t₁) m t' → PressedAs (press_step L t (Some d)) m t'
  unfolding press_step after_arrival
  press_arrived m t' e p = rw (ap is_accepted (sym a.replied) ∙ e, sym a.left) p
