-- Plans with the same drones, last stops, waits and legs, and drones at the same places, go on alike: no round looks at anything else. Assumes nothing.
use mathlib.Core.Path.{◌≡◌, refl, sym, ap, ap₂, ◌∙◌}
use mathlib.Core.Bool.{Bool, true, false, not, ◌&&◌}
use Prim.Native.Nat.{ℕ, zero, suc, ◌-◌, ◌≤◌, ◌<◌}
use native.Mathlib.Omega.{arith}
use lib.Dec.{ltb, leb, eqb}
use borrow.Author.Tests.{ltb-true}
use Rattle.below.proofs.Tests.{by_cases}
use Rattle.below.proofs.Every.{all_below_ext}
use Rattle.below.proofs.Search.{first_below_ext}
use Rattle.below.proofs.Sum.{sum_ext}
use Rattle.below.specs.Below.{pick, first_below, all_below, sum_below}
use Rattle.precedence.proofs.Rounds.{free-unfinished}
use Rattle.precedence.specs.Graph.{Wait, Plan, Headway, Formed, blocks, free, round, play, finished, unvisited, at_start, cyclic}
use Rattle.precedence.specs.Graph.{legs_left, fills, fly_round, fly, visited_after, reached, remaining, cost, makespan}

-- two graphs agree: the same drones, last stops and waits, whatever their functions say of numbers that name none
pub record GraphsAgree (P Q : Plan) : Type 0 where
  pub drones_agree : P.drones ≡ Q.drones
  pub lasts_agree : (d : ℕ) → d < P.drones → P.last d ≡ Q.last d
  pub counts_agree : P.count ≡ Q.count
  pub waits_agree : (w : ℕ) → w < P.count → P.wait w ≡ Q.wait w

pub agree_self : (P : Plan) → GraphsAgree P P
agree_self P = record { drones_agree = refl; lasts_agree = λ d l. refl; counts_agree = refl; waits_agree = λ w l. refl }

-- every wait awaits a drone of the plan
abbrev pub AwaitedIn : Plan → Type 0
AwaitedIn P = (w : ℕ) → w < P.count → (P.wait w).awaited < P.drones

pub awaited_in : (P : Plan) → Formed P → AwaitedIn P
awaited_in P formed w l = (formed w l).awaited_in

-- equal places of n drones
abbrev pub SamePlaces : ℕ → (ℕ → ℕ) → (ℕ → ℕ) → Type 0
SamePlaces n p q = (d : ℕ) → d < n → p d ≡ q d

-- .. and as many rounds flown
abbrev pub SameWay : ℕ → Headway → Headway → Type 0
SameWay n h k = SamePlaces n h.place k.place × SamePlaces n h.flown k.flown

-- equal legs to every stop that is no stop 0
abbrev pub SameLegs : Plan → (ℕ → ℕ → ℕ) → (ℕ → ℕ → ℕ) → Type 0
SameLegs P leg leg' = (d s : ℕ) → d < P.drones → 0 < s → s ≤ P.last d → leg d s ≡ leg' d s

module _ (P Q : Plan) (agree : GraphsAgree P Q) where
  module _ (p q : ℕ → ℕ) (same : SamePlaces P.drones p q) where
    pub finished_agree : finished P p ≡ finished Q q
    unfolding finished
    finished_agree = all_below_ext P.drones _ _ (λ d l. ap₂ leb (agree.lasts_agree d l) (same d l)) ∙ ap (λ (n : ℕ). all_below n (λ d. leb (Q.last d) (q d))) agree.drones_agree

    pub unvisited_agree : unvisited P p ≡ unvisited Q q
    unfolding unvisited
    unvisited_agree = sum_ext P.drones _ _ (λ d l. ap₂ (λ (x y : ℕ). x - y) (agree.lasts_agree d l) (same d l)) ∙ ap (λ (n : ℕ). sum_below n (λ d. Q.last d - q d)) agree.drones_agree

  module _ (inside : AwaitedIn P) where
    module _ (p q : ℕ → ℕ) (same : SamePlaces P.drones p q) where
      blocks_agree : (d w : ℕ) → d < P.drones → w < P.count → blocks P p d w ≡ blocks Q q d w
      unfolding blocks
      blocks_agree d w l h =
          ap₂ (λ (x y : ℕ). eqb (P.wait w).waiter d && eqb (P.wait w).stop (suc x) && ltb y (P.wait w).until) (same d l) (same (P.wait w).awaited (inside w h))
          ∙ ap (λ (z : Wait). eqb z.waiter d && eqb z.stop (suc (q d)) && ltb (q z.awaited) z.until) (agree.waits_agree w h)

      -- the lowest wait that holds a drone back
      pub lowest_agree : (d : ℕ) → d < P.drones → first_below P.count (blocks P p d) ≡ first_below Q.count (blocks Q q d)
      lowest_agree d l = first_below_ext P.count _ _ (λ w h. blocks_agree d w l h) ∙ ap (λ (n : ℕ). first_below n (blocks Q q d)) agree.counts_agree

      pub free_agree : (d : ℕ) → d < P.drones → free P p d ≡ free Q q d
      unfolding free
      free_agree d l =
          ap₂ (λ (x y : Bool). x && y) (ap₂ ltb (same d l) (agree.lasts_agree d l))
          (all_below_ext P.count _ _ (λ w h. ap not (blocks_agree d w l h)) ∙ ap (λ (n : ℕ). all_below n (λ w. not (blocks Q q d w))) agree.counts_agree)

      pub round_agree : SamePlaces P.drones (round P p) (round Q q)
      unfolding round
      round_agree d l = ap₂ (λ (b : Bool) (x : ℕ). pick b (suc x) x) (free_agree d l) (same d l)

    pub play_agree : (p q : ℕ → ℕ) → SamePlaces P.drones p q → (k : ℕ) → SamePlaces P.drones (play P p k) (play Q q k)
    unfolding play
    play_agree p q same zero = same
    play_agree p q same (suc k) = round_agree (play P p k) (play Q q k) (play_agree p q same k)

    pub cyclic_agree : cyclic P ≡ cyclic Q
    unfolding cyclic
    cyclic_agree =
        ap not (
        finished_agree (play P at_start (unvisited P at_start)) (play Q at_start (unvisited P at_start)) (play_agree at_start at_start (λ d l. refl) (unvisited P at_start))
        ∙ ap (λ (n : ℕ). finished Q (play Q at_start n)) (unvisited_agree at_start at_start (λ d l. refl))
        )

    -- ---- rounds with legs

    module _ (leg leg' : ℕ → ℕ → ℕ) (legs : SameLegs P leg leg') where
      fills_agree : (h k : Headway) (d : ℕ) → d < P.drones → h.place d < P.last d → h.place d ≡ k.place d → h.flown d ≡ k.flown d → fills P leg h d ≡ fills Q leg' k d
      unfolding fills
      fills_agree h k d l o e f = ap₂ leb (legs d (suc (h.place d)) l (omega arith) (omega arith) ∙ ap (λ (x : ℕ). leg' d (suc x)) e) (ap suc f)

      pub fly_round_agree : (h k : Headway) → SameWay P.drones h k → SameWay P.drones (fly_round P leg h) (fly_round Q leg' k)
      unfolding fly_round
      fly_round_agree h k (places, flown) = (
        λ d l. by_cases (free P h.place d)
            (λ e. let f : free Q k.place d ≡ true = sym (free_agree h.place k.place places d l) ∙ e in
            rw (e, f) (ap₂ (λ (b : Bool) (x : ℕ). pick b (suc x) x) (fills_agree h k d l (free-unfinished P h.place d e) (places d l) (flown d l)) (places d l)))
            (λ e. let f : free Q k.place d ≡ false = sym (free_agree h.place k.place places d l) ∙ e in rw (e, f) (places d l)),
        λ d l. by_cases (free P h.place d)
            (λ e. let f : free Q k.place d ≡ true = sym (free_agree h.place k.place places d l) ∙ e in
            rw (e, f) (ap₂ (λ (b : Bool) (x : ℕ). pick b 0 (suc x)) (fills_agree h k d l (free-unfinished P h.place d e) (places d l) (flown d l)) (flown d l)))
            (λ e. let f : free Q k.place d ≡ false = sym (free_agree h.place k.place places d l) ∙ e in rw (e, f) (flown d l)),
      )

      module _ (p q : ℕ → ℕ) (same : SamePlaces P.drones p q) where
        fly_agree : (k : ℕ) → SameWay P.drones (fly P leg p k) (fly Q leg' q k)
        unfolding fly
        fly_agree zero = (same, λ d l. refl)
        fly_agree (suc k) = fly_round_agree (fly P leg p k) (fly Q leg' q k) (fly_agree k)

        pub legs_left_agree : legs_left P leg p ≡ legs_left Q leg' q
        unfolding legs_left
        legs_left_agree = sum_ext P.drones _ _ each ∙ ap (λ (n : ℕ). sum_below n (λ d. sum_below (suc (Q.last d)) (λ s. pick (ltb (q d) s) (leg' d s) 0))) agree.drones_agree
          where
            stop : (d s : ℕ) → d < P.drones → s < suc (P.last d) → pick (ltb (p d) s) (leg d s) 0 ≡ pick (ltb (q d) s) (leg' d s) 0
            stop d s l h = by_cases (ltb (p d) s)
                (λ e. let o : 0 < s = omega (arith, ltb-true (p d) s e) in rw (← same d l, e) (legs d s l o (omega arith)))
                (λ e. rw (← same d l, e) refl)

            each : (d : ℕ) → d < P.drones → sum_below (suc (P.last d)) (λ s. pick (ltb (p d) s) (leg d s) 0) ≡ sum_below (suc (Q.last d)) (λ s. pick (ltb (q d) s) (leg' d s) 0)
            each d l = sum_ext (suc (P.last d)) _ _ (λ s h. stop d s l h) ∙ ap (λ (n : ℕ). sum_below (suc n) (λ s. pick (ltb (q d) s) (leg' d s) 0)) (agree.lasts_agree d l)

        pub flown_agree : (k : ℕ) → finished P (visited_after P leg p k) ≡ finished Q (visited_after Q leg' q k)
        flown_agree k = finished_agree (visited_after P leg p k) (visited_after Q leg' q k) (fly_agree k).0

        reached_agree : (d s : ℕ) → d < P.drones → reached P leg p d s ≡ reached Q leg' q d s
        unfolding reached
        reached_agree d s l = first_below_ext (legs_left P leg p) _ _ (λ k h. ap (leb s) ((fly_agree k).0 d l)) ∙ ap (λ (n : ℕ). first_below n (λ k. leb s (visited_after Q leg' q k d))) legs_left_agree

        pub remaining_agree : (d : ℕ) → d < P.drones → remaining P leg p d ≡ remaining Q leg' q d
        unfolding remaining
        remaining_agree d l = ap (reached P leg p d) (agree.lasts_agree d l) ∙ reached_agree d (Q.last d) l

        pub cost_agree : cost P leg p ≡ cost Q leg' q
        unfolding cost
        cost_agree = sum_ext P.drones _ _ remaining_agree ∙ ap (λ (n : ℕ). sum_below n (remaining Q leg' q)) agree.drones_agree

        pub makespan_agree : makespan P leg p ≡ makespan Q leg' q
        unfolding makespan
        makespan_agree = first_below_ext (legs_left P leg p) _ _ (λ k h. flown_agree k) ∙ ap (λ (n : ℕ). first_below n (λ k. finished Q (visited_after Q leg' q k))) legs_left_agree
