-- Entries past a full size are never read or written by a joining: tables that agree up to their full sizes hold the same routes and the same pairs, and none or both are started. Assumes nothing.
use mathlib.Core.Path.{◌≡◌, refl, sym, ap, ◌∙◌}
use mathlib.Core.Bool.{Bool, true, false, not, cond, ◌&&◌}
use mathlib.Core.List.{◌++◌}
use Prim.Native.Nat.{ℕ, ◌*◌, ◌≤◌, max}
use native.Mathlib.Omega.{arith}
use lib.Dec.{eqb}
use Rattle.below.specs.Below.{at}
use Rattle.below.proofs.Tests.{and_left, and_right}
use Rattle.below.proofs.Every.{all_below_ext, all_below-same}
use Rattle.tables.specs.Limits.{Limits, most_pairs}
use Rattle.tables.specs.Tables.{PlanLists, Tables, drones, dependencies, form_of, full_size}
use Rattle.tables.specs.Flags.{turned_bit, under_way_bit, withdrawn_bit}
use Rattle.tables.proofs.SizeLaws.{full_sizes}
use Rattle.text.specs.Written.{routes_text, routes_from}
use Rattle.plan.specs.Stops.{start}
use Rattle.sound.specs.Sound.{sound}
use Rattle.sound.proofs.Clauses.{sound-says}
use Rattle.call_log.specs.Claims.{Usable}
use Rattle.call_log.proofs.SoundParts.{drones_in, dependencies_in}
use Rattle.reading.specs.Replies.{ReadingReply, refused_by}
use Rattle.reading.specs.Reading.{given, ReadingAnswer, with_reply, read_plan}
use Rattle.accepted.specs.Claims.{own_site}
use Rattle.accepted.proofs.SoundAccepted.{routes}
use Rattle.joining.specs.Joining.{routes_of_plan, joined_text, unstarted, not_started, same_pairs, can_join, join_plans}
use Rattle.joining.proofs.SoundWrites.{routes_are}
use Rattle.joining.proofs.Decided.{same_text}
use Rattle.demands.specs.FullSizes.{AgreeUpToFull, past_full}
use Rattle.demands.proofs.SameCalls.{same_tables, full-same, sound-agrees}
use Rattle.demands.proofs.SamePlan.{plan_same}
use Rattle.demands.proofs.SameReading.{AnswersAgree, reading_agrees, reading_keeps}

-- ---- one plan

module _ (L : Limits) (t t' : Tables) (e : AgreeUpToFull L t t') where
  abbrev p : PlanLists
  p = t.plan

  abbrev p' : PlanLists
  p' = t'.plan

  module _ (w : Usable L t) where
    -- the other tables are usable too
    usable : Usable L t'
    usable = (sym (full-same L t t' e) ∙ w.0, sym (sound-agrees L t t' e) ∙ w.1)

    -- the routes of the plan take no entry past a full size
    cut_same : routes L t w.0 (sound-says L t w.1) ≡ routes L t' usable.0 (sound-says L t' usable.1)
    unfolding start
    cut_same = let s = plan_same L t t' e w.1 in λ i. routes_from (s.rows i) (s.counts i) (s.locations i) (s.times i) (s.legs i)

    routes_same : routes_of_plan L p ≡ routes_of_plan L p'
    routes_same = sym (routes_are L t w.0 w.1) ∙ cut_same ∙ routes_are L t' usable.0 usable.1

    site_same : own_site t ≡ own_site t'
    site_same = same_text p.pairs p'.pairs (same_tables L t t' e).plan_same.pairs (full_sizes L t w.0).pairs (full_sizes L t' usable.0).pairs

    fresh_same : not_started t ≡ not_started t'
    unfolding unstarted
    fresh_same =
        let s = same_tables L t t' e in
        let few : drones p ≤ L.drones = drones_in L p (sound-says L t w.1).accepted in
        let most : dependencies p ≤ L.dependencies = dependencies_in L p (sound-says L t w.1).accepted (sound-says L t w.1).dependencies_own in
        let homes = all_below-same (drones p) (drones p') (λ d. eqb (at t.visited d) 0 && (not (under_way_bit (at t.drone_flags d)) && not (withdrawn_bit (at t.drone_flags d))))
        (λ d. eqb (at t'.visited d) 0 && (not (under_way_bit (at t'.drone_flags d)) && not (withdrawn_bit (at t'.drone_flags d)))) s.plan_same.drone_count_lem
        (λ d l. let v = s.visited d (omega (arith, few, l)) in let g = s.drone_flags d (omega (arith, few, l)) in λ i. eqb (v i) 0 && (not (under_way_bit (g i)) && not (withdrawn_bit (g i)))) in
        let turns = all_below-same (dependencies p) (dependencies p') (λ k. not (turned_bit (at t.flags k))) (λ k. not (turned_bit (at t'.flags k))) s.plan_same.dependency_count
        (λ k l. ap (λ (x : ℕ). not (turned_bit x)) (s.flags k (omega (arith, most, l)))) in
        λ i. homes i && turns i

-- ---- a joining

module _ (L : Limits) (a a' b b' t t' : Tables) (ea : AgreeUpToFull L a a') (eb : AgreeUpToFull L b b') (et : AgreeUpToFull L t t') where
  pairs_same : same_pairs a.plan.pairs b.plan.pairs ≡ same_pairs a'.plan.pairs b'.plan.pairs
  unfolding same_pairs
  pairs_same = all_below_ext (2 * most_pairs) _ _ (λ i l. let x = (same_tables L a a' ea).plan_same.pairs i l in let y = (same_tables L b b' eb).plan_same.pairs i l in λ j. eqb (x j) (y j))

  module _ (wa : Usable L a) (wb : Usable L b) where
    fit_same : can_join a b ≡ can_join a' b'
    fit_same = let x = fresh_same L a a' ea wa in let y = fresh_same L b b' eb wb in λ i. x i && (y i && pairs_same i)

    text_same : joined_text L a.plan b.plan ≡ joined_text L a'.plan b'.plan
    unfolding joined_text
    text_same =
        let x = routes_same L a a' ea wa in
        let y = routes_same L b b' eb wb in
        let f : form_of a.plan ≡ form_of a'.plan = (same_tables L a a' ea).plan_same.form in
        let g : form_of b.plan ≡ form_of b'.plan = (same_tables L b b' eb).plan_same.form in
        λ i. routes_text (max (f i) (g i)) (x i ++ y i)

    read_same : AnswersAgree L (read_plan L (given (own_site a)) (joined_text L a.plan b.plan) t) (read_plan L (given (own_site a')) (joined_text L a'.plan b'.plan) t')
    read_same = rw (← site_same L a a' ea wa, ← text_same) (reading_agrees L (joined_text L a.plan b.plan) (given (own_site a)) t t' et)

  refused-same : (r : ReadingReply) → AnswersAgree L (with_reply r t) (with_reply r t')
  refused-same r = record { replies = refl; leaves = et }

  -- a test with one outcome, and answers that agree where it is passed and where it is not
  by_test : (f f' : Bool) (x x' y y' : ReadingAnswer) → f ≡ f' → (f ≡ true → AnswersAgree L x x') → AnswersAgree L y y' → AnswersAgree L (cond f x y) (cond f' x' y')
  by_test f f' x x' y y' e h k = rw (← e) (go f h)
    where
      go : (c : Bool) → (c ≡ true → AnswersAgree L x x') → AnswersAgree L (cond c x y) (cond c x' y')
      go true h = h refl
      go false h = k

  pub joining_agrees : AnswersAgree L (join_plans L a b t) (join_plans L a' b' t')
  unfolding join_plans
  joining_agrees =
      let fa = full-same L a a' ea in
      let fb = full-same L b b' eb in
      let ft = full-same L t t' et in
      let sa = sound-agrees L a a' ea in
      let sb = sound-agrees L b b' eb in
      by_test (full_size L a && (full_size L b && full_size L t)) (full_size L a' && (full_size L b' && full_size L t')) _ _ _ _ (λ i. fa i && (fb i && ft i))
      (λ f. by_test (sound L a && sound L b) (sound L a' && sound L b') _ _ _ _ (λ i. sa i && sb i)
      (λ s.
      let wa : Usable L a = (and_left _ _ f, and_left _ _ s) in
      let wb : Usable L b = (and_left _ _ (and_right (full_size L a) _ f), and_right (sound L a) _ s) in
      by_test (can_join a b) (can_join a' b') _ _ _ _ (fit_same wa wb) (λ u. read_same wa wb) (refused-same (refused_by 16)))
      (refused-same (refused_by 40)))
      (refused-same (refused_by 41))

pub joining_keeps : (L : Limits) (a b t : Tables) → past_full L (join_plans L a b t).tables ≡ past_full L t
unfolding join_plans
joining_keeps L a b t = go (full_size L a && (full_size L b && full_size L t)) (sound L a && sound L b) (can_join a b) _ (reading_keeps L (joined_text L a.plan b.plan) (given (own_site a)) t)
  where
    go : (f s u : Bool) (x : ReadingAnswer) → past_full L x.tables ≡ past_full L t
        → past_full L (cond f (cond s (cond u x (with_reply (refused_by 16) t)) (with_reply (refused_by 40) t)) (with_reply (refused_by 41) t)).tables ≡ past_full L t
    go true true true x h = h
    go true true false x h = refl
    go true false u x h = refl
    go false s u x h = refl
