-- The calls by the ways through their code: one law for each return, in the order in which the code asks its tests. Assumes nothing.
use mathlib.Core.Path.{◌≡◌, refl, subst}
use mathlib.Core.Bool.{true, false}
use mathlib.Core.List.{List, [], ◌∷◌}
use Prim.Native.Nat.{ℕ, zero, suc, ◌≤◌, ◌<◌}
use native.Mathlib.Omega.{arith}
use lib.ListN.{length}
use borrow.Author.Tests.{le-leb, lt-leb, lt-ltb, le-ltb}
use Rattle.below.specs.Below.{at, First, is_in}
use Rattle.below.proofs.Search.{first_below_is}
use Rattle.tables.specs.Limits.{Limits}
use Rattle.tables.specs.Tables.{Tables, drones, dependencies, full_size}
use Rattle.tables.specs.Flags.{under_way_bit, withdrawn_bit}
use Rattle.precedence.specs.Graph.{blocks, cyclic, cost}
use Rattle.plan.specs.Field.{FieldPlan, plan_of, of_withdrawn, graph, place_of, fixed, Status, after_turn, after_turns}
use Rattle.plan.specs.Status.{status_in, entered, dependency_now}
use Rattle.sound.specs.Sound.{sound}
use Rattle.call_log.specs.CallLog.{Call, grant, arrive, withdraw, turn, turn_all, Reply, accepted, refused, must_wait, Check, first_that_holds, is_group, walked_rows, reply_in}
use Rattle.below.proofs.Members.{in_at}
use Rattle.call_log.proofs.Checks.{Passes, walk_passed, cycle_row}
use Rattle.call_log.specs.Calls.{Answer, granted, arrived, marked, flipped, flipped_all, reply_of, grant_step, arrive_step, withdraw_step, turn_step, turn_all_step, step, costs, cost_refused, cost_reply}

-- ---- a list that is walked, by its indexes

module _ (F : FieldPlan) (s : Status) where
  -- the first i dependencies pass 30, 35, 31 and 32
  abbrev pub PassedTo : List ℕ → ℕ → Type 0
  PassedTo ws i = (j : ℕ) → j < i → Passes F s (at ws j)

  -- what the dependency at index i says first, the whole list says
  pub walk_at : (ws : List ℕ) (after : List Check) (r : Reply) (i : ℕ) → i < length ws → PassedTo ws i → ((rest : List Check) → first_that_holds (walked_rows F s (at ws i ∷ []) rest) ≡ r) → first_that_holds (walked_rows F s ws after) ≡ r
  walk_at [] after r i l p h = absurd (omega arith)
  walk_at (w ∷ ws) after r zero l p h = h (walked_rows F s ws after)
  walk_at (w ∷ ws) after r (suc i) l p h = let (a, o, b, c) = p 0 (omega arith) in rw (a, o, b, c) (walk_at ws after r i (omega arith) (λ j m. p (suc j) (omega arith)) h)

  -- all pass
  pub passed_all : (ws : List ℕ) → PassedTo ws (length ws) → (w : ℕ) → is_in w ws ≡ true → Passes F s w
  passed_all ws p w e = let (i, l, h) = in_at ws w e in subst (Passes F s) h (p i l)

-- a refusal: the tables are unchanged
abbrev pub refusal : Tables → Reply → Answer
refusal t r = record { reply = r; tables = t }

-- an acceptance with the tables that it leaves
abbrev pub acceptance : Tables → Answer
acceptance t = record { reply = accepted; tables = t }

module _ (L : Limits) (t : Tables) where
  abbrev P : FieldPlan
  P = plan_of t.plan

  abbrev S : Status
  S = status_in t

  -- ---- 41 and 40, for every call

  pub step_41 : full_size L t ≡ false → (c : Call) → step L t c ≡ refusal t (refused 41)
  unfolding grant_step arrive_step withdraw_step turn_step turn_all_step reply_of
  step_41 e (grant d) = rw e
  step_41 e (arrive d) = rw e
  step_41 e (withdraw d) = rw e
  step_41 e (turn w) = rw e
  step_41 e (turn_all ws) = rw e

  pub step_40 : full_size L t ≡ true → sound L t ≡ false → (c : Call) → step L t c ≡ refusal t (refused 40)
  unfolding grant_step arrive_step withdraw_step turn_step turn_all_step reply_of
  step_40 f e (grant d) = rw (f, e)
  step_40 f e (arrive d) = rw (f, e)
  step_40 f e (withdraw d) = rw (f, e)
  step_40 f e (turn w) = rw (f, e)
  step_40 f e (turn_all ws) = rw (f, e)

  pub cost_41 : full_size L t ≡ false → cost_reply L t ≡ cost_refused 41
  unfolding cost_reply
  cost_41 e = rw e refl

  pub cost_40 : full_size L t ≡ true → sound L t ≡ false → cost_reply L t ≡ cost_refused 40
  unfolding cost_reply
  cost_40 f e = rw (f, e) refl

  module _ (full : full_size L t ≡ true) (sound-now : sound L t ≡ true) where
    pub reply : (c : Call) → reply_of L t c ≡ reply_in P S c
    unfolding reply_of
    reply c = rw (full, sound-now)

    pub cost_0 : cost_reply L t ≡ costs (cost (graph P S) P.leg (place_of P S))
    unfolding cost_reply
    cost_0 = rw (full, sound-now) refl

    -- ---- grant

    pub grant_20 : (d : ℕ) → drones t.plan ≤ d → grant_step L t d ≡ refusal t (refused 20)
    unfolding grant_step reply_in
    grant_20 d a = rw (reply (grant d), le-leb (drones t.plan) d a)

    pub grant_25 : (d : ℕ) → d < drones t.plan → withdrawn_bit (at t.drone_flags d) ≡ true → grant_step L t d ≡ refusal t (refused 25)
    unfolding grant_step reply_in
    grant_25 d a x = rw (reply (grant d), lt-leb (drones t.plan) d a, x)

    module _ (d : ℕ) (a : d < drones t.plan) (x : withdrawn_bit (at t.drone_flags d) ≡ false) where
      pub grant_21 : P.last d ≤ at t.visited d → grant_step L t d ≡ refusal t (refused 21)
      unfolding grant_step reply_in
      grant_21 b = rw (reply (grant d), lt-leb (drones t.plan) d a, x, le-leb (P.last d) (at t.visited d) b)

      module _ (b : at t.visited d < P.last d) where
        pub grant_22 : under_way_bit (at t.drone_flags d) ≡ true → grant_step L t d ≡ refusal t (refused 22)
        unfolding grant_step reply_in
        grant_22 c = rw (reply (grant d), lt-leb (drones t.plan) d a, x, lt-leb (P.last d) (at t.visited d) b, c)

        -- w is what the search for an unmet dependency ends with
        module _ (c : under_way_bit (at t.drone_flags d) ≡ false) (w : ℕ) (first : First (dependencies t.plan) (blocks (graph P S) (at t.visited) d) w) where
          pub grant_23 : w < dependencies t.plan → grant_step L t d ≡ refusal t (must_wait w)
          unfolding grant_step reply_in
          grant_23 l = rw (reply (grant d), lt-leb (drones t.plan) d a, x, lt-leb (P.last d) (at t.visited d) b, c, first_below_is first, lt-ltb w (dependencies t.plan) l)

          pub grant_0 : w ≡ dependencies t.plan → grant_step L t d ≡ acceptance (granted t d)
          unfolding grant_step reply_in
          grant_0 l = rw (reply (grant d), lt-leb (drones t.plan) d a, x, lt-leb (P.last d) (at t.visited d) b, c, first_below_is first, le-ltb w (dependencies t.plan) (omega arith))

    -- ---- arrive

    pub arrive_20 : (d : ℕ) → drones t.plan ≤ d → arrive_step L t d ≡ refusal t (refused 20)
    unfolding arrive_step reply_in
    arrive_20 d a = rw (reply (arrive d), le-leb (drones t.plan) d a)

    pub arrive_25 : (d : ℕ) → d < drones t.plan → withdrawn_bit (at t.drone_flags d) ≡ true → arrive_step L t d ≡ refusal t (refused 25)
    unfolding arrive_step reply_in
    arrive_25 d a x = rw (reply (arrive d), lt-leb (drones t.plan) d a, x)

    module _ (d : ℕ) (a : d < drones t.plan) (x : withdrawn_bit (at t.drone_flags d) ≡ false) where
      pub arrive_24 : under_way_bit (at t.drone_flags d) ≡ false → arrive_step L t d ≡ refusal t (refused 24)
      unfolding arrive_step reply_in
      arrive_24 b = rw (reply (arrive d), lt-leb (drones t.plan) d a, x, b)

      pub arrive_0 : under_way_bit (at t.drone_flags d) ≡ true → arrive_step L t d ≡ acceptance (arrived t d)
      unfolding arrive_step reply_in
      arrive_0 b = rw (reply (arrive d), lt-leb (drones t.plan) d a, x, b)

    -- ---- withdraw

    pub withdraw_20 : (d : ℕ) → drones t.plan ≤ d → withdraw_step L t d ≡ refusal t (refused 20)
    unfolding withdraw_step reply_in
    withdraw_20 d a = rw (reply (withdraw d), le-leb (drones t.plan) d a)

    pub withdraw_25 : (d : ℕ) → d < drones t.plan → withdrawn_bit (at t.drone_flags d) ≡ true → withdraw_step L t d ≡ refusal t (refused 25)
    unfolding withdraw_step reply_in
    withdraw_25 d a x = rw (reply (withdraw d), lt-leb (drones t.plan) d a, x)

    pub withdraw_0 : (d : ℕ) → d < drones t.plan → withdrawn_bit (at t.drone_flags d) ≡ false → withdraw_step L t d ≡ acceptance (marked t d)
    unfolding withdraw_step reply_in
    withdraw_0 d a x = rw (reply (withdraw d), lt-leb (drones t.plan) d a, x)

    -- ---- turn

    pub turn_30 : (w : ℕ) → dependencies t.plan ≤ w → turn_step L t w ≡ refusal t (refused 30)
    unfolding turn_step reply_in
    turn_30 w a = rw (reply (turn w), le-leb (dependencies t.plan) w a)

    pub turn_35 : (w : ℕ) → w < dependencies t.plan → of_withdrawn P S w ≡ true → turn_step L t w ≡ refusal t (refused 35)
    unfolding turn_step reply_in
    turn_35 w a o = rw (reply (turn w), lt-leb (dependencies t.plan) w a, o)

    module _ (w : ℕ) (a : w < dependencies t.plan) (o : of_withdrawn P S w ≡ false) where
      pub turn_31 : fixed P w ≡ true → turn_step L t w ≡ refusal t (refused 31)
      unfolding turn_step reply_in
      turn_31 b = rw (reply (turn w), lt-leb (dependencies t.plan) w a, o, b)

      module _ (b : fixed P w ≡ false) where
        pub turn_32 : entered P S (dependency_now P S w).first (dependency_now P S w).first_stop ≡ true → turn_step L t w ≡ refusal t (refused 32)
        unfolding turn_step reply_in
        turn_32 c = rw (reply (turn w), lt-leb (dependencies t.plan) w a, o, b, c)

        module _ (c : entered P S (dependency_now P S w).first (dependency_now P S w).first_stop ≡ false) where
          pub turn_34 : cyclic (graph P (after_turn S w)) ≡ true → turn_step L t w ≡ refusal t (refused 34)
          unfolding turn_step reply_in is_in
          turn_34 e = rw (reply (turn w), lt-leb (dependencies t.plan) w a, o, b, c, e)

          pub turn_0 : cyclic (graph P (after_turn S w)) ≡ false → turn_step L t w ≡ acceptance (flipped t w)
          unfolding turn_step reply_in is_in
          turn_0 e = rw (reply (turn w), lt-leb (dependencies t.plan) w a, o, b, c, e)

    -- ---- a turn of a list

    pub group_36 : (ws : List ℕ) → is_group ws ≡ false → turn_all_step L t ws ≡ refusal t (refused 36)
    unfolding turn_all_step reply_in
    group_36 ws a = rw (reply (turn_all ws), a)

    module _ (ws : List ℕ) (g : is_group ws ≡ true) where
      -- the dependency at index i, those before it passed
      module _ (i : ℕ) (l : i < length ws) (p : PassedTo P S ws i) where
        pub group_30 : dependencies t.plan ≤ at ws i → turn_all_step L t ws ≡ refusal t (refused 30)
        unfolding turn_all_step reply_in
        group_30 a = rw (reply (turn_all ws), g, walk_at P S ws (cycle_row P S ws) (refused 30) i l p (λ rest. rw (le-leb (dependencies t.plan) (at ws i) a) refl))

        pub group_35 : at ws i < dependencies t.plan → of_withdrawn P S (at ws i) ≡ true → turn_all_step L t ws ≡ refusal t (refused 35)
        unfolding turn_all_step reply_in
        group_35 a o = rw (reply (turn_all ws), g, walk_at P S ws (cycle_row P S ws) (refused 35) i l p (λ rest. rw (lt-leb (dependencies t.plan) (at ws i) a, o) refl))

        pub group_31 : at ws i < dependencies t.plan → of_withdrawn P S (at ws i) ≡ false → fixed P (at ws i) ≡ true → turn_all_step L t ws ≡ refusal t (refused 31)
        unfolding turn_all_step reply_in
        group_31 a o b = rw (reply (turn_all ws), g, walk_at P S ws (cycle_row P S ws) (refused 31) i l p (λ rest. rw (lt-leb (dependencies t.plan) (at ws i) a, o, b) refl))

        pub group_32 : at ws i < dependencies t.plan → of_withdrawn P S (at ws i) ≡ false → fixed P (at ws i) ≡ false → entered P S (dependency_now P S (at ws i)).first (dependency_now P S (at ws i)).first_stop ≡ true → turn_all_step L t ws ≡ refusal t (refused 32)
        unfolding turn_all_step reply_in
        group_32 a o b c = rw (reply (turn_all ws), g, walk_at P S ws (cycle_row P S ws) (refused 32) i l p (λ rest. rw (lt-leb (dependencies t.plan) (at ws i) a, o, b, c) refl))

      module _ (p : PassedTo P S ws (length ws)) where
        pub group_34 : cyclic (graph P (after_turns S ws)) ≡ true → turn_all_step L t ws ≡ refusal t (refused 34)
        unfolding turn_all_step reply_in
        group_34 e = rw (reply (turn_all ws), g, walk_passed P S ws (cycle_row P S ws) (passed_all P S ws p), e)

        pub group_0 : cyclic (graph P (after_turns S ws)) ≡ false → turn_all_step L t ws ≡ acceptance (flipped_all t ws)
        unfolding turn_all_step reply_in
        group_0 e = rw (reply (turn_all ws), g, walk_passed P S ws (cycle_row P S ws) (passed_all P S ws p), e)
