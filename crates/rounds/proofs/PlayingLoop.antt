-- A loop that plays rounds on a copy: the copy stands where k rounds lead, what was added up and what is left make the cost, and by `makespan_iff` it
-- ends in the round in which the last drone finishes. Its measure is the legs that are left to fly. Assumes nothing.
use mathlib.Core.Path.{◌≡◌, refl, sym, ap, ap₂, ◌∙◌}
use mathlib.Core.Logic.{◌≢◌}
use mathlib.Core.List.{List}
use mathlib.Core.Bool.{true, false}
use Prim.Native.Nat.{ℕ, suc, ◌+◌, ◌*◌, ◌-◌, ◌≤◌, ◌<◌}
use native.Mathlib.Numerals.{add-one}
use native.Mathlib.Omega.{arith}
use lib.Dec.{ltb}
use borrow.Author.Tests.{ltb-true, ltb-false, le-ltb}
use Rattle.below.proofs.Count.{count_none, count_zero}
use Rattle.below.proofs.Same.{count_ext}
use Rattle.below.proofs.Sum.{sum_count, sum_bound, sum_ext}
use Rattle.below.proofs.Tests.{by_cases, true_or_false}
use Rattle.below.specs.Below.{count_below, first_below, sum_below, at}
use Rattle.tables.specs.Limits.{Limits}
use Rattle.precedence.specs.Graph.{Plan, Headway, Formed, Cycle, free, finished, legs_ahead, to_fly, fly_round, fly, visited_after, remaining, cost, makespan, NoEmptyLeg}
use Rattle.precedence.proofs.Agreement.{agree_self, awaited_in, SameWay, fly_round_agree}
use Rattle.precedence.proofs.Rounds.{finished-at, finished_if, somebody_free}
use Rattle.precedence.proofs.Legs.{remaining_iff, makespan_iff, flown_short, to_fly_falls}
use Rattle.rounds.specs.Playing.{Aloft, on_copy, Flew}

-- how many drones are short of their last stop
abbrev pub unfinished : Plan → (ℕ → ℕ) → ℕ
unfinished P p = count_below P.drones (λ d. ltb (p d) (P.last d))

-- the lists stand where k rounds from p lead
abbrev pub Copied : (P : Plan) (leg : ℕ → ℕ → ℕ) (p : ℕ → ℕ) (places flown : List ℕ) (k : ℕ) → Type 0
Copied P leg p places flown k = SameWay P.drones (on_copy places flown) (fly P leg p k)

-- after k rounds from p, with `total` added up
pub record Playing (L : Limits) (P : Plan) (leg : ℕ → ℕ → ℕ) (into off p : ℕ → ℕ) (places flown links : List ℕ) (k total : ℕ) : Type 0 where
  pub aloft : Aloft L P into off places flown links
  pub stands : Copied P leg p places flown k
  pub early : k ≤ makespan P leg p
  pub sum : total + sum_below P.drones (λ d. remaining P leg p d - k) ≡ cost P leg p

-- what is left to fly is read off the places and the rounds flown of the drones that are there
to_fly-same : (P : Plan) (leg : ℕ → ℕ → ℕ) (h k : Headway) → SameWay P.drones h k → to_fly P leg h ≡ to_fly P leg k
unfolding to_fly
to_fly-same P leg h k (places, flown) = sum_ext P.drones _ _ (λ d l. ap₂ (λ (x y : ℕ). legs_ahead P leg d x - y) (places d l) (flown d l))

module _ {L : Limits} (P : Plan) (formed : Formed P) (acyclic : Cycle P → ⊥) (leg : ℕ → ℕ → ℕ) (into off p : ℕ → ℕ) (some : NoEmptyLeg P leg p) where
  open P use {drones, last}

  pub playing_start : {places flown links : List ℕ} → Aloft L P into off places flown links → ((d : ℕ) → d < drones → at places d ≡ p d) → ((d : ℕ) → d < drones → at flown d ≡ 0) → Playing L P leg into off p places flown links 0 0
  unfolding fly cost
  playing_start aloft here gone = record { aloft = aloft; stands = (here, gone); early = omega arith; sum = omega (arith, less_none) }
    where
      less_none : sum_below drones (λ d. remaining P leg p d - 0) ≡ sum_below drones (remaining P leg p)
      less_none = sum_ext drones _ _ (λ d l. let e : remaining P leg p d - 0 ≡ remaining P leg p d = omega arith in e)

  module _ {places flown links : List ℕ} {k total : ℕ} (playing : Playing L P leg into off p places flown links k total) where
    abbrev q : ℕ → ℕ
    q = visited_after P leg p k

    -- everybody is finished where nobody is counted
    none_left_lem : unfinished P q ≡ 0 → finished P q ≡ true
    none_left_lem e = finished_if P q (λ d l. ltb-false _ _ (count_none drones (λ d. ltb (q d) (last d)) e d l))

    some_left : unfinished P q ≢ 0 → finished P q ≡ false
    some_left n = by_cases (finished P q)
        (λ e. absurd (n (count_zero drones (λ d. ltb (q d) (last d)) (λ d l. le-ltb _ _ (finished-at P q e d l)))))
        (λ e. e)

    -- a drone that is counted has a round more
    sum-round : sum_below drones (λ d. remaining P leg p d - k) ≡ unfinished P q + sum_below drones (λ d. remaining P leg p d - suc k)
    sum-round = sum_count drones (λ d. ltb (q d) (last d)) _ _ (λ d l. by_cases (ltb (q d) (last d))
        (λ e. rw e (omega (arith, late d l (ltb-true _ _ e))))
        (λ e. rw e (omega (arith, (remaining_iff P leg formed acyclic p some d k l).0 (ltb-false _ _ e)))))
      where
        late : (d : ℕ) → d < drones → q d < last d → k < remaining P leg p d
        late d l o = by_cases (ltb k (remaining P leg p d)) (λ e. ltb-true _ _ e) (λ e. absurd (omega (arith, (remaining_iff P leg formed acyclic p some d k l).1 (ltb-false _ _ e))))

    module _ {left : ℕ} (counted : left ≡ unfinished P (at places)) where
      counted_played : left ≡ unfinished P q
      counted_played = counted ∙ count_ext drones _ _ (λ d l. ap (λ (x : ℕ). ltb x (last d)) (playing.stands.0 d l))

      pub playing_end : left ≡ 0 → (k ≡ makespan P leg p) × (total ≡ cost P leg p)
      playing_end z =
          let f : finished P q ≡ true = none_left_lem (sym counted_played ∙ z) in
          let zero_left : sum_below drones (λ d. remaining P leg p d - k) ≤ drones * 0 = sum_bound drones (λ d. remaining P leg p d - k) 0 (λ d l. omega (arith, (remaining_iff P leg formed acyclic p some d k l).0 (finished-at P q f d l))) in
          (omega (arith, playing.early, (makespan_iff P leg formed acyclic p some k).0 f), omega (arith, playing.sum))

      module _ (some-open : left ≢ 0) where
        going : finished P q ≡ false
        going = some_left (λ z. some-open (counted_played ∙ z))

        pub playing_early : k < makespan P leg p
        playing_early = by_cases (ltb k (makespan P leg p)) (λ e. ltb-true _ _ e) (λ e. true_or_false ((makespan_iff P leg formed acyclic p some k).1 (ltb-false _ _ e)) going)

        pub playing_small : total + left ≤ cost P leg p
        playing_small = omega (arith, playing.sum, sum-round, counted_played)

        module _ {places' flown' links' : List ℕ} (aloft : Aloft L P into off places' flown' links') (flew : Flew P leg places flown places' flown') where
          copied : Copied P leg p places' flown' (suc k)
          unfolding fly
          copied =
              let same : SameWay drones (fly_round P leg (on_copy places flown)) (fly_round P leg (fly P leg p k)) = fly_round_agree P P (agree_self P) (awaited_in P formed) leg leg (λ d s l o h. refl) (on_copy places flown) (fly P leg p k) playing.stands in
              (λ d l. flew.places_are d l ∙ same.0 d l, λ d l. flew.flown_are d l ∙ same.1 d l)

          pub playing_round : Playing L P leg into off p places' flown' links' (k + 1) (total + left)
          playing_round = record { aloft = aloft; stands = rw add-one copied; early = omega (arith, playing_early); sum = rw add-one (omega (arith, playing.sum, sum-round, counted_played)) }

          -- the loop's measure falls
          pub playing_less : to_fly P leg (on_copy places' flown') < to_fly P leg (on_copy places flown)
          unfolding fly
          playing_less =
              let (l, f) = somebody_free P formed q acyclic going in
              omega (
                arith,
                to_fly-same P leg (on_copy places flown) (fly P leg p k) playing.stands,
                to_fly-same P leg (on_copy places' flown') (fly_round P leg (fly P leg p k)) copied,
                to_fly_falls P leg (fly P leg p k) (flown_short P leg formed acyclic p some k) (first_below drones (free P q)) l f,
              )
