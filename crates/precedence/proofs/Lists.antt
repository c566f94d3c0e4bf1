-- Progress in a list, as a lent slice holds it: rounds on the list are rounds on its entries. Assumes nothing.
use mathlib.Core.Path.{◌≡◌, refl, ap, ◌∙◌}
use mathlib.Core.List.{List}
use mathlib.Core.Bool.{not}
use Prim.Native.Nat.{ℕ, zero, suc, ◌≤◌, ◌<◌}
use native.Mathlib.Omega.{arith}
use lib.ListN.{length}
use lib.Dec.{leb}
use Rattle.below.proofs.Index.{length-list_below, get_d_list_below}
use Rattle.below.proofs.Search.{first_below_ext}
use Rattle.below.proofs.Sum.{sum_ext}
use Rattle.below.specs.Below.{at, list_below}
use Rattle.precedence.proofs.Agreement.{agree_self, awaited_in, finished_agree, round_agree, play_agree, SameWay, fly_round_agree}
use Rattle.precedence.specs.Graph.{Plan, headway_in, Formed, round, play, unvisited, at_start, cyclic, round_list, play_list, cyclic_list}
use Rattle.precedence.specs.Graph.{legs_left, fly_round, fly, reached, remaining, cost, fly_round_list, fly_list, remaining_list}
use Rattle.precedence.specs.Flights.{cost_list}

module _ (P : Plan) where
  open P use {drones, last}

  pub length-play_list : (ps : List ℕ) (k : ℕ) → length (play_list P ps k) ≡ length ps
  unfolding play_list round_list
  length-play_list ps zero = refl
  length-play_list ps (suc k) = length-list_below _ (round P (at (play_list P ps k))) ∙ length-play_list ps k

  module _ (formed : Formed P) where
    pub play_list-at : (ps : List ℕ) → drones ≤ length ps → (k d : ℕ) → d < drones → at (play_list P ps k) d ≡ play P (at ps) k d
    unfolding play_list round_list play
    play_list-at ps h zero d l = refl
    play_list-at ps h (suc k) d l = get_d_list_below _ (round P (at (play_list P ps k))) 0 d (omega (arith, length-play_list ps k)) ∙ round_agree P P (agree_self P) (awaited_in P formed) (at (play_list P ps k)) (play P (at ps) k) (play_list-at ps h k) d l

  pub cyclic_list_is : Formed P → cyclic_list P ≡ cyclic P
  unfolding cyclic_list cyclic
  cyclic_list_is formed = ap not (finished_agree P P (agree_self P) (at (play_list P zeros n)) (play P at_start n) (λ d l. play_list-at formed zeros (omega (arith, length-list_below {A = ℕ} drones (λ d. 0))) n d l ∙ play_agree P P (agree_self P) (awaited_in P formed) (at zeros) at_start (λ d l. get_d_list_below {A = ℕ} drones (λ d. 0) 0 d l) n d l))
    where
      zeros : List ℕ
      zeros = list_below drones (λ d. 0)

      n : ℕ
      n = unvisited P at_start

  -- ---- with legs

  module _ (leg : ℕ → ℕ → ℕ) where
    length-fly_list : (ps : List ℕ) (k : ℕ) → length (fly_list P leg ps k).places ≡ length ps
    unfolding fly_list fly_round_list
    length-fly_list ps zero = refl
    length-fly_list ps (suc k) = length-list_below _ (fly_round P leg (headway_in (fly_list P leg ps k))).place ∙ length-fly_list ps k

    module _ (formed : Formed P) where
      fly_list-at : (ps : List ℕ) → drones ≤ length ps → (k : ℕ) → SameWay drones (headway_in (fly_list P leg ps k)) (fly P leg (at ps) k)
      unfolding fly_list fly_round_list fly
      fly_list-at ps h zero = (λ d l. refl, λ d l. refl)
      fly_list-at ps h (suc k) =
          let same = fly_round_agree P P (agree_self P) (awaited_in P formed) leg leg (λ d s l o h. refl) (headway_in (fly_list P leg ps k)) (fly P leg (at ps) k) (fly_list-at ps h k) in (
            λ d l. get_d_list_below _ (fly_round P leg (headway_in (fly_list P leg ps k))).place 0 d (omega (arith, length-fly_list ps k)) ∙ same.0 d l,
            λ d l. get_d_list_below _ (fly_round P leg (headway_in (fly_list P leg ps k))).flown 0 d (omega (arith, length-fly_list ps k)) ∙ same.1 d l,
          )

    -- what is counted on a list is the cost from its entries
    pub cost_list_is : Formed P → (ps : List ℕ) → drones ≤ length ps → cost_list P leg ps ≡ cost P leg (at ps)
    unfolding remaining_list remaining reached cost
    cost_list_is formed ps h = sum_ext drones _ _ (λ d l. first_below_ext (legs_left P leg (at ps)) _ _ (λ k i. ap (leb (last d)) ((fly_list-at formed ps h k).0 d l)))
