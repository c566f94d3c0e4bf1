-- Records of drones and stops are the plan's dependencies just where they name stops and the numbers of those stops are the listed pairs. Assumes nothing.
use mathlib.Core.Path.{◌≡◌, sym, ap, ◌∙◌, subst}
use mathlib.Core.Bool.{Bool}
use Prim.Native.Nat.{ℕ, ◌+◌, ◌≤◌, ◌<◌}
use native.Mathlib.Omega.{arith}
use lib.ListN.{get_or}
use Rattle.below.specs.Below.{pairs_of, listed}
use Rattle.below.proofs.Pairs.{listed_at, rank_find}
use Rattle.plan.specs.Claims.{Numbered}

-- the pairs of any test R on stops
module _ (own num off last : ℕ → ℕ) (drones n : ℕ) (N : Numbered own num off last drones n) (R : ℕ → ℕ → Bool) (m : ℕ) (total : m ≡ pairs_of R n) (k : ℕ) (l : k < m) where
  -- the k-th pair, and what each column holds of it
  pub record KthPair : Type 0 where
    pub v : ℕ
    pub w : ℕ
    pub v_in : v < n
    pub w_in : w < n
    pub holds : (f : ℕ → ℕ → ℕ) → get_or (listed R n f) k 0 ≡ f v w

  pub kth_pair : KthPair
  kth_pair = let (v, w, a, b, r, q) = rank_find R n k (omega (arith, total)) in
      record { v = v; w = w; v_in = a; w_in = b; holds = λ f. subst (λ (i : ℕ). get_or (listed R n f) i 0 ≡ f v w) q (listed_at R n f v w a b r) }

  module _ (fd fs sd ss : ℕ) where
    -- the four columns name the pair's drones and stops: then they name stops, those of the pair
    pub record NamesPair : Type 0 where
      pub first_drone : fd < drones
      pub first_stop : fs ≤ last fd
      pub second_drone : sd < drones
      pub second_stop : ss ≤ last sd
      pub first : off fd + fs ≡ get_or (listed R n (λ v w. v)) k 0
      pub second : off sd + ss ≡ get_or (listed R n (λ v w. w)) k 0

    pub columns_name : fd ≡ get_or (listed R n (λ v w. own v)) k 0 → fs ≡ get_or (listed R n (λ v w. num v)) k 0 → sd ≡ get_or (listed R n (λ v w. own w)) k 0 → ss ≡ get_or (listed R n (λ v w. num w)) k 0 → NamesPair
    columns_name a b c d =
        let q : KthPair = kth_pair in
        let fd_is : fd ≡ own q.v = a ∙ q.holds (λ v w. own v) in
        let fs-is : fs ≡ num q.v = b ∙ q.holds (λ v w. num v) in
        let sd-is : sd ≡ own q.w = c ∙ q.holds (λ v w. own w) in
        let ss-is : ss ≡ num q.w = d ∙ q.holds (λ v w. num w) in
        record {
          first_drone = rw fd_is (N.own_in q.v q.v_in);
          first_stop = rw (fd_is, fs-is) (N.number_in_lem q.v q.v_in);
          second_drone = rw sd-is (N.own_in q.w q.w_in);
          second_stop = rw (sd-is, ss-is) (N.number_in_lem q.w q.w_in);
          first = rw (fd_is, fs-is) (N.number_is q.v q.v_in) ∙ sym (q.holds (λ v w. v));
          second = rw (sd-is, ss-is) (N.number_is q.w q.w_in) ∙ sym (q.holds (λ v w. w));
        }

    pub record HoldsColumns : Type 0 where
      pub first_drones_lem : fd ≡ get_or (listed R n (λ v w. own v)) k 0
      pub first_stops_lem : fs ≡ get_or (listed R n (λ v w. num v)) k 0
      pub second_drones_lem : sd ≡ get_or (listed R n (λ v w. own w)) k 0
      pub second_stops_lem : ss ≡ get_or (listed R n (λ v w. num w)) k 0

    pub names_columns : NamesPair → HoldsColumns
    names_columns h =
        let q : KthPair = kth_pair in
        let v-is : off fd + fs ≡ q.v = h.first ∙ q.holds (λ v w. v) in
        let w-is : off sd + ss ≡ q.w = h.second ∙ q.holds (λ v w. w) in
        record {
          first_drones_lem = sym (N.place_own fd fs h.first_drone h.first_stop) ∙ ap own v-is ∙ sym (q.holds (λ v w. own v));
          first_stops_lem = sym (N.place_number fd fs h.first_drone h.first_stop) ∙ ap num v-is ∙ sym (q.holds (λ v w. num v));
          second_drones_lem = sym (N.place_own sd ss h.second_drone h.second_stop) ∙ ap own w-is ∙ sym (q.holds (λ v w. own w));
          second_stops_lem = sym (N.place_number sd ss h.second_drone h.second_stop) ∙ ap num w-is ∙ sym (q.holds (λ v w. num w));
        }
