-- The calls on usable tables by the ways through their code: one law for each return, with the results of the tests as the code has them. Assumes nothing.
use mathlib.Core.Path.{◌≡◌, refl, sym, ap, ◌∙◌}
use mathlib.Core.Bool.{Bool, true, false, not}
use Prim.Native.Nat.{ℕ, ◌+◌, ◌-◌, ◌≤◌, ◌<◌}
use native.Mathlib.Omega.{arith}
use lib.ListN.{set}
use borrow.Author.Tests.{not-true, not-false}
use Rattle.below.specs.Below.{at, First, first_below}
use Rattle.below.proofs.Search.{first_below_first}
use Rattle.tables.specs.Limits.{Limits}
use Rattle.tables.specs.Tables.{Tables, drones, dependencies}
use Rattle.tables.specs.Flags.{under_way_bit, withdrawn_bit, set_under_way, clear_under_way, set_withdrawn}
use Rattle.precedence.specs.Graph.{blocks}
use Rattle.plan.specs.Field.{plan_of, graph}
use Rattle.plan.specs.Status.{status_in, unmet}
use Rattle.plan.specs.Waits.{plan_in, status_of}
use Rattle.call_log.specs.CallLog.{Call, grant, arrive, withdraw, Reply, accepted, refused, must_wait}
use Rattle.call_log.specs.Calls.{Answer, step, Answered}
use Rattle.call_log.specs.Claims.{Usable}
use Rattle.flat.specs.Lent.{with_progress}
use Rattle.flat.proofs.Facts.{columns_in}
use Rattle.call_log.proofs.Steps.{arrive_20, arrive_25, arrive_24, arrive_0, withdraw_20, withdraw_25, withdraw_0, grant_20, grant_25, grant_21, grant_22, grant_23, grant_0}

-- a call's answer, part by part
pub answered : (program : Tables → Call → Answer) (t : Tables) (c : Call) (r : Reply) (t' : Tables) → program t c ≡ record { reply = r; tables = t' } → Answered program t c r t'
answered program t c r t' e = record { replied = ap (λ (a : Answer). a.reply) (sym e); left = ap (λ (a : Answer). a.tables) (sym e) }

module _ (L : Limits) (t : Tables) (u : Usable L t) (d : ℕ) where
  -- ---- arrive

  pub arrives_20 : drones t.plan ≤ d → Answered (step L) t (arrive d) (refused 20) t
  arrives_20 a = answered (step L) t (arrive d) (refused 20) t (arrive_20 L t u.0 u.1 d a)

  -- x: the drone is withdrawn
  pub arrives_25 : d < drones t.plan → (x : Bool) → x ≡ withdrawn_bit (at t.drone_flags d) → x ≡ true → Answered (step L) t (arrive d) (refused 25) t
  arrives_25 a x is_x e = answered (step L) t (arrive d) (refused 25) t (arrive_25 L t u.0 u.1 d a (sym is_x ∙ e))

  module _ (a : d < drones t.plan) (x : Bool) (is_x : x ≡ withdrawn_bit (at t.drone_flags d)) (flies : x ≡ false) (b : Bool) (is_b : b ≡ under_way_bit (at t.drone_flags d)) where
    pub arrives_24 : not b ≡ true → Answered (step L) t (arrive d) (refused 24) t
    arrives_24 e = answered (step L) t (arrive d) (refused 24) t (arrive_24 L t u.0 u.1 d a (sym is_x ∙ flies) (sym is_b ∙ not-true b e))

    pub arrives_0 : not b ≡ false → (y : ℕ) → y ≡ clear_under_way (at t.drone_flags d) → Answered (step L) t (arrive d) accepted (with_progress t (set t.visited d (at t.visited d + 1)) (set t.drone_flags d y))
    arrives_0 e y is_y = rw is_y (answered (step L) t (arrive d) accepted _ (arrive_0 L t u.0 u.1 d a (sym is_x ∙ flies) (sym is_b ∙ not-false b e)))

  -- ---- withdraw

  pub withdraws_20 : drones t.plan ≤ d → Answered (step L) t (withdraw d) (refused 20) t
  withdraws_20 a = answered (step L) t (withdraw d) (refused 20) t (withdraw_20 L t u.0 u.1 d a)

  module _ (a : d < drones t.plan) (x : Bool) (is_x : x ≡ withdrawn_bit (at t.drone_flags d)) where
    pub withdraws_25 : x ≡ true → Answered (step L) t (withdraw d) (refused 25) t
    withdraws_25 e = answered (step L) t (withdraw d) (refused 25) t (withdraw_25 L t u.0 u.1 d a (sym is_x ∙ e))

    pub withdraws_0 : x ≡ false → (y : ℕ) → y ≡ set_withdrawn (at t.drone_flags d) → Answered (step L) t (withdraw d) accepted (with_progress t t.visited (set t.drone_flags d y))
    withdraws_0 e y is_y = rw is_y (answered (step L) t (withdraw d) accepted _ (withdraw_0 L t u.0 u.1 d a (sym is_x ∙ e)))

  -- ---- grant

  -- the search of the code, over the columns alone, is the search in the graph
  unmet_is : unmet (plan_in (dependencies t.plan) (columns_in t)) (status_of t.visited t.drone_flags (columns_in t)) d ≡ first_below (dependencies t.plan) (blocks (graph (plan_of t.plan) (status_in t)) (at t.visited) d)
  unfolding blocks
  unmet_is = refl

  first_unmet : (w : ℕ) → w ≡ unmet (plan_in (dependencies t.plan) (columns_in t)) (status_of t.visited t.drone_flags (columns_in t)) d → First (dependencies t.plan) (blocks (graph (plan_of t.plan) (status_in t)) (at t.visited) d) w
  first_unmet w e = rw (e ∙ unmet_is) (first_below_first (dependencies t.plan) (blocks (graph (plan_of t.plan) (status_in t)) (at t.visited) d))

  pub grants_20 : drones t.plan ≤ d → Answered (step L) t (grant d) (refused 20) t
  grants_20 a = answered (step L) t (grant d) (refused 20) t (grant_20 L t u.0 u.1 d a)

  -- x: the drone is withdrawn
  pub grants_25 : d < drones t.plan → (x : Bool) → x ≡ withdrawn_bit (at t.drone_flags d) → x ≡ true → Answered (step L) t (grant d) (refused 25) t
  grants_25 a x is_x e = answered (step L) t (grant d) (refused 25) t (grant_25 L t u.0 u.1 d a (sym is_x ∙ e))

  module _ (a : d < drones t.plan) (x : Bool) (is_x : x ≡ withdrawn_bit (at t.drone_flags d)) (flies : x ≡ false) where
    pub grants_21 : at t.plan.stop_counts d - 1 ≤ at t.visited d → Answered (step L) t (grant d) (refused 21) t
    grants_21 b = answered (step L) t (grant d) (refused 21) t (grant_21 L t u.0 u.1 d a (sym is_x ∙ flies) b)

    module _ (b : at t.visited d < at t.plan.stop_counts d - 1) (f : Bool) (is_f : f ≡ under_way_bit (at t.drone_flags d)) where
      pub grants_22 : f ≡ true → Answered (step L) t (grant d) (refused 22) t
      grants_22 e = answered (step L) t (grant d) (refused 22) t (grant_22 L t u.0 u.1 d a (sym is_x ∙ flies) b (sym is_f ∙ e))

      module _ (idle : f ≡ false) (w : ℕ) (is-w : w ≡ unmet (plan_in (dependencies t.plan) (columns_in t)) (status_of t.visited t.drone_flags (columns_in t)) d) where
        pub grants_23 : w < dependencies t.plan → Answered (step L) t (grant d) (must_wait w) t
        grants_23 l = answered (step L) t (grant d) (must_wait w) t (grant_23 L t u.0 u.1 d a (sym is_x ∙ flies) b (sym is_f ∙ idle) w (first_unmet w is-w) l)

        pub grants_0 : dependencies t.plan ≤ w → (y : ℕ) → y ≡ set_under_way (at t.drone_flags d) → Answered (step L) t (grant d) accepted (with_progress t t.visited (set t.drone_flags d y))
        grants_0 l y is_y = let first = first_unmet w is-w in rw is_y (answered (step L) t (grant d) accepted _ (grant_0 L t u.0 u.1 d a (sym is_x ∙ flies) b (sym is_f ∙ idle) w first (omega (arith, first.within))))
