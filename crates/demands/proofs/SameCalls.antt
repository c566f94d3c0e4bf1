-- The calls on tables that agree up to their full sizes: the same replies, and tables that agree again; and no call writes past a full size. Assumes nothing.
use mathlib.Core.Path.{◌≡◌, refl, sym, ap, ap₂, ◌∙◌}
use mathlib.Core.Bool.{Bool, true, false, cond, ◌&&◌}
use mathlib.Core.List.{List, [], ◌∷◌}
use Prim.Native.Nat.{ℕ, ◌+◌, ◌<◌}
use native.Mathlib.Omega.{arith}
use lib.Dec.{leb}
use lib.ListN.{length, take, drop}
use lib.Seq.{drop-set-lt}
use Rattle.below.specs.Below.{at, is_in}
use Rattle.below.proofs.Members.{in_head, in_tail}
use Rattle.tables.specs.Limits.{Limits}
use Rattle.tables.specs.Tables.{Tables, full_size}
use Rattle.tables.specs.Flags.{flip_bit, set_under_way, clear_under_way, set_withdrawn}
use Rattle.plan.specs.Field.{plan_of}
use Rattle.sound.specs.Sound.{sound}
use Rattle.sound.proofs.Clauses.{sound-says}
use Rattle.call_log.specs.CallLog.{Call, grant, arrive, withdraw, turn, turn_all, Reply, refused, is_accepted}
use Rattle.call_log.specs.Calls.{Answer, granted, arrived, marked, flip_flags, flipped, flipped_all, reply_of, grant_step, arrive_step, withdraw_step, turn_step, turn_all_step, step, costs, cost_refused, cost_reply, rounds, rounds_refused, rounds_reply}
use Rattle.call_log.specs.Preview.{preview_by, preview, preview_all}
use Rattle.call_log.specs.BestOrder.{budget_in, best_refused, BestAnswer, best_unlisted, best_order}
use Rattle.call_log.specs.Claims.{Usable}
use Rattle.call_log.proofs.Claims.{demand2}
use Rattle.call_log.proofs.Checks.{is_accepted_lem}
use Rattle.call_log.proofs.SoundParts.{drones_in, dependencies_in}
use Rattle.demands.specs.FullSizes.{up_to_full, past_full, AgreeUpToFull}
use Rattle.demands.proofs.Entries.{entry_same, size_same, take_change}
use Rattle.demands.proofs.SameSound.{EntriesAgree, sound-same, replies_are, cost_is, makespan_is, best_is_lem}

-- ---- agreement, entry by entry and in size

module _ (L : Limits) (t t' : Tables) (e : AgreeUpToFull L t t') where
  pub same_tables : EntriesAgree L t t'
  same_tables = record {
    plan_same = record {
      drone_count_lem = entry_same 1 t.plan.drone_count t'.plan.drone_count (ap (λ (x : Tables). x.plan.drone_count) e) 0 (omega arith);
      dependency_count = entry_same 1 t.plan.dependency_count t'.plan.dependency_count (ap (λ (x : Tables). x.plan.dependency_count) e) 0 (omega arith);
      form = entry_same 1 t.plan.form t'.plan.form (ap (λ (x : Tables). x.plan.form) e) 0 (omega arith);
      names = entry_same _ t.plan.names t'.plan.names (ap (λ (x : Tables). x.plan.names) e);
      stop_counts_lem = entry_same _ t.plan.stop_counts t'.plan.stop_counts (ap (λ (x : Tables). x.plan.stop_counts) e);
      locations = entry_same _ t.plan.locations t'.plan.locations (ap (λ (x : Tables). x.plan.locations) e);
      times = entry_same _ t.plan.times t'.plan.times (ap (λ (x : Tables). x.plan.times) e);
      legs = entry_same _ t.plan.legs t'.plan.legs (ap (λ (x : Tables). x.plan.legs) e);
      first_drones_lem = entry_same _ t.plan.first_drones t'.plan.first_drones (ap (λ (x : Tables). x.plan.first_drones) e);
      first_stops_lem = entry_same _ t.plan.first_stops t'.plan.first_stops (ap (λ (x : Tables). x.plan.first_stops) e);
      second_drones_lem = entry_same _ t.plan.second_drones t'.plan.second_drones (ap (λ (x : Tables). x.plan.second_drones) e);
      second_stops_lem = entry_same _ t.plan.second_stops t'.plan.second_stops (ap (λ (x : Tables). x.plan.second_stops) e);
      pairs = entry_same _ t.plan.pairs t'.plan.pairs (ap (λ (x : Tables). x.plan.pairs) e);
    };
    visited = entry_same _ t.visited t'.visited (ap (λ (x : Tables). x.visited) e);
    drone_flags = entry_same _ t.drone_flags t'.drone_flags (ap (λ (x : Tables). x.drone_flags) e);
    flags = entry_same _ t.flags t'.flags (ap (λ (x : Tables). x.flags) e);
  }

  pub full-same : full_size L t ≡ full_size L t'
  unfolding full_size
  full-same =
      ap₂ ◌&&◌ (size_same _ t.plan.drone_count t'.plan.drone_count (ap (λ (x : Tables). x.plan.drone_count) e))
      (ap₂ ◌&&◌ (size_same _ t.plan.dependency_count t'.plan.dependency_count (ap (λ (x : Tables). x.plan.dependency_count) e))
      (ap₂ ◌&&◌ (size_same _ t.plan.form t'.plan.form (ap (λ (x : Tables). x.plan.form) e))
      (ap₂ ◌&&◌ (size_same _ t.plan.names t'.plan.names (ap (λ (x : Tables). x.plan.names) e))
      (ap₂ ◌&&◌ (size_same _ t.plan.stop_counts t'.plan.stop_counts (ap (λ (x : Tables). x.plan.stop_counts) e))
      (ap₂ ◌&&◌ (size_same _ t.plan.locations t'.plan.locations (ap (λ (x : Tables). x.plan.locations) e))
      (ap₂ ◌&&◌ (size_same _ t.plan.times t'.plan.times (ap (λ (x : Tables). x.plan.times) e))
      (ap₂ ◌&&◌ (size_same _ t.plan.legs t'.plan.legs (ap (λ (x : Tables). x.plan.legs) e))
      (ap₂ ◌&&◌ (size_same _ t.plan.first_drones t'.plan.first_drones (ap (λ (x : Tables). x.plan.first_drones) e))
      (ap₂ ◌&&◌ (size_same _ t.plan.first_stops t'.plan.first_stops (ap (λ (x : Tables). x.plan.first_stops) e))
      (ap₂ ◌&&◌ (size_same _ t.plan.second_drones t'.plan.second_drones (ap (λ (x : Tables). x.plan.second_drones) e))
      (ap₂ ◌&&◌ (size_same _ t.plan.second_stops t'.plan.second_stops (ap (λ (x : Tables). x.plan.second_stops) e))
      (ap₂ ◌&&◌ (size_same _ t.visited t'.visited (ap (λ (x : Tables). x.visited) e))
      (ap₂ ◌&&◌ (size_same _ t.drone_flags t'.drone_flags (ap (λ (x : Tables). x.drone_flags) e))
      (ap₂ ◌&&◌ (size_same _ t.flags t'.flags (ap (λ (x : Tables). x.flags) e))
      (size_same _ t.plan.pairs t'.plan.pairs (ap (λ (x : Tables). x.plan.pairs) e))))))))))))))))

  pub sound-agrees : sound L t ≡ sound L t'
  sound-agrees = sound-same L t t' same_tables

-- ---- replies

-- 41, then 40, then what is said of sound tables
pub guarded : {A : Type 0} (a a' b b' : Bool) (x x' y z : A) → a ≡ a' → b ≡ b' → (b ≡ true → x ≡ x') → cond a (cond b x y) z ≡ cond a' (cond b' x' y) z
guarded a a' true b' x x' y z e f h = λ i. cond (e i) (cond (f i) (h refl i) y) z
guarded a a' false b' x x' y z e f h = ap (λ (k : Bool). cond k y z) e ∙ ap (λ (k : Bool). cond a' (cond k x' y) z) f

module _ (L : Limits) (t t' : Tables) (e : AgreeUpToFull L t t') where
  pub reply_agrees : (c : Call) → reply_of L t c ≡ reply_of L t' c
  unfolding reply_of
  reply_agrees c = guarded (full_size L t) (full_size L t') (sound L t) (sound L t') _ _ (refused 40) (refused 41) (full-same L t t' e) (sound-agrees L t t' e)
      (λ h. replies_are L t t' (same_tables L t t' e) (sound-says L t h) c)

  pub cost-agrees : cost_reply L t ≡ cost_reply L t'
  unfolding cost_reply
  cost-agrees = guarded (full_size L t) (full_size L t') (sound L t) (sound L t') _ _ (cost_refused 40) (cost_refused 41) (full-same L t t' e) (sound-agrees L t t' e)
      (λ h. ap costs (cost_is L t t' (same_tables L t t' e) (sound-says L t h)))

  pub rounds_agree : rounds_reply L t ≡ rounds_reply L t'
  unfolding rounds_reply
  rounds_agree = guarded (full_size L t) (full_size L t') (sound L t) (sound L t') _ _ (rounds_refused 40) (rounds_refused 41) (full-same L t t' e) (sound-agrees L t t' e)
      (λ h. ap rounds (makespan_is L t t' (same_tables L t t' e) (sound-says L t h)))

  -- the list is lent to both
  pub best-agrees : (list : List ℕ) (budget : ℕ) → best_order L t list budget ≡ best_order L t' list budget
  unfolding best_order
  best-agrees list budget = guarded (full_size L t && leb L.dependencies (length list)) (full_size L t' && leb L.dependencies (length list)) (sound L t) (sound L t') _ _ (best_unlisted (best_refused 40) list) (best_unlisted (best_refused 41) list)
      (ap (λ (b : Bool). b && leb L.dependencies (length list)) (full-same L t t' e)) (sound-agrees L t t' e)
      (λ h. ap (λ (a : BestAnswer). cond (budget_in budget) a (best_unlisted (best_refused 38) list)) (best_is_lem L t t' (same_tables L t t' e) (sound-says L t h) list budget))

-- ---- the tables that are left

-- the first flags flipped are the flipped first flags
first_flips : (n : ℕ) (ws l : List ℕ) → take n (flip_flags l ws) ≡ flip_flags (take n l) ws
unfolding flip_flags
first_flips n [] l = refl
first_flips n (w ∷ ws) l = first_flips n ws _ ∙ ap (λ (x : List ℕ). flip_flags x ws) (take_change n l w flip_bit)

module _ (L : Limits) (t : Tables) where
  first_granted : (d : ℕ) → up_to_full L (granted t d) ≡ granted (up_to_full L t) d
  first_granted d = λ i. record { plan = (up_to_full L t).plan; visited = (up_to_full L t).visited; drone_flags = take_change L.drones t.drone_flags d set_under_way i; flags = (up_to_full L t).flags }

  first_arrived : (d : ℕ) → up_to_full L (arrived t d) ≡ arrived (up_to_full L t) d
  first_arrived d = λ i. record { plan = (up_to_full L t).plan; visited = take_change L.drones t.visited d (λ x. x + 1) i; drone_flags = take_change L.drones t.drone_flags d clear_under_way i; flags = (up_to_full L t).flags }

  first_marked : (d : ℕ) → up_to_full L (marked t d) ≡ marked (up_to_full L t) d
  first_marked d = λ i. record { plan = (up_to_full L t).plan; visited = (up_to_full L t).visited; drone_flags = take_change L.drones t.drone_flags d set_withdrawn i; flags = (up_to_full L t).flags }

  first_flipped : (w : ℕ) → up_to_full L (flipped t w) ≡ flipped (up_to_full L t) w
  first_flipped w = λ i. record { plan = (up_to_full L t).plan; visited = (up_to_full L t).visited; drone_flags = (up_to_full L t).drone_flags; flags = take_change L.dependencies t.flags w flip_bit i }

  first_flipped_all : (ws : List ℕ) → up_to_full L (flipped_all t ws) ≡ flipped_all (up_to_full L t) ws
  first_flipped_all ws = λ i. record { plan = (up_to_full L t).plan; visited = (up_to_full L t).visited; drone_flags = (up_to_full L t).drone_flags; flags = first_flips L.dependencies ws t.flags i }

-- by the reply, one of two
left_agree : (L : Limits) (b : Bool) (x x' t t' : Tables) → AgreeUpToFull L x x' → AgreeUpToFull L t t' → AgreeUpToFull L (cond b x t) (cond b x' t')
left_agree L true x x' t t' h e = h
left_agree L false x x' t t' h e = e

module _ (L : Limits) (t t' : Tables) (e : AgreeUpToFull L t t') where
  left : (c : Call) (x x' : Tables) → AgreeUpToFull L x x' → AgreeUpToFull L (cond (is_accepted (reply_of L t c)) x t) (cond (is_accepted (reply_of L t' c)) x' t')
  left c x x' h = rw (reply_agrees L t t' e c) (left_agree L (is_accepted (reply_of L t' c)) x x' t t' h e)

  pub step_replies : (c : Call) → (step L t c).reply ≡ (step L t' c).reply
  unfolding grant_step arrive_step withdraw_step turn_step turn_all_step
  step_replies (grant d) = reply_agrees L t t' e (grant d)
  step_replies (arrive d) = reply_agrees L t t' e (arrive d)
  step_replies (withdraw d) = reply_agrees L t t' e (withdraw d)
  step_replies (turn w) = reply_agrees L t t' e (turn w)
  step_replies (turn_all ws) = reply_agrees L t t' e (turn_all ws)

  pub step-leaves : (c : Call) → AgreeUpToFull L (step L t c).tables (step L t' c).tables
  unfolding grant_step arrive_step withdraw_step turn_step turn_all_step
  step-leaves (grant d) = left (grant d) (granted t d) (granted t' d) (first_granted L t d ∙ ap (λ (x : Tables). granted x d) e ∙ sym (first_granted L t' d))
  step-leaves (arrive d) = left (arrive d) (arrived t d) (arrived t' d) (first_arrived L t d ∙ ap (λ (x : Tables). arrived x d) e ∙ sym (first_arrived L t' d))
  step-leaves (withdraw d) = left (withdraw d) (marked t d) (marked t' d) (first_marked L t d ∙ ap (λ (x : Tables). marked x d) e ∙ sym (first_marked L t' d))
  step-leaves (turn w) = left (turn w) (flipped t w) (flipped t' w) (first_flipped L t w ∙ ap (λ (x : Tables). flipped x w) e ∙ sym (first_flipped L t' w))
  step-leaves (turn_all ws) = left (turn_all ws) (flipped_all t ws) (flipped_all t' ws) (first_flipped_all L t ws ∙ ap (λ (x : Tables). flipped_all x ws) e ∙ sym (first_flipped_all L t' ws))

  pub preview-agrees : (w : ℕ) → preview L t w ≡ preview L t' w
  unfolding preview
  preview-agrees w = λ i. preview_by (step_replies (turn w) i) (cost-agrees L (turn_step L t w).tables (turn_step L t' w).tables (step-leaves (turn w)) i) (cost-agrees L t t' e i)

  pub list_preview_agrees : (ws : List ℕ) → preview_all L t ws ≡ preview_all L t' ws
  unfolding preview_all
  list_preview_agrees ws = λ i. preview_by (step_replies (turn_all ws) i) (cost-agrees L (turn_all_step L t ws).tables (turn_all_step L t' ws).tables (step-leaves (turn_all ws)) i) (cost-agrees L t t' e i)

-- ---- nothing is written past a full size

past_flips : (n : ℕ) (ws l : List ℕ) → ((w : ℕ) → is_in w ws ≡ true → w < n) → drop n (flip_flags l ws) ≡ drop n l
unfolding flip_flags
past_flips n [] l h = refl
past_flips n (w ∷ ws) l h = past_flips n ws _ (λ v i. h v (in_tail v w ws i)) ∙ drop-set-lt n l w (flip_bit (at l w)) (h w (in_head w ws))

module _ (L : Limits) (t : Tables) where
  -- what is left of an accepted call, and of one that is refused
  kept : (r : Reply) (x : Tables) → (is_accepted r ≡ true → past_full L x ≡ past_full L t) → past_full L (cond (is_accepted r) x t) ≡ past_full L t
  kept r x h = go (is_accepted r) h
    where
      go : (b : Bool) → (b ≡ true → past_full L x ≡ past_full L t) → past_full L (cond b x t) ≡ past_full L t
      go true h = h refl
      go false h = refl

  drone_below : Usable L t → (d : ℕ) → d < (plan_of t.plan).drones → d < L.drones
  drone_below (f, s) d l = omega (arith, drones_in L t.plan (sound-says L t s).accepted)

  dependency_below : Usable L t → (w : ℕ) → w < (plan_of t.plan).count → w < L.dependencies
  dependency_below (f, s) w l = let q = sound-says L t s in omega (arith, dependencies_in L t.plan q.accepted q.dependencies_own)

  past-granted : (d : ℕ) → d < L.drones → past_full L (granted t d) ≡ past_full L t
  past-granted d l = λ i. record { plan = (past_full L t).plan; visited = (past_full L t).visited; drone_flags = drop-set-lt L.drones t.drone_flags d (set_under_way (at t.drone_flags d)) l i; flags = (past_full L t).flags }

  past-arrived : (d : ℕ) → d < L.drones → past_full L (arrived t d) ≡ past_full L t
  past-arrived d l = λ i. record {
    plan = (past_full L t).plan;
    visited = drop-set-lt L.drones t.visited d (at t.visited d + 1) l i;
    drone_flags = drop-set-lt L.drones t.drone_flags d (clear_under_way (at t.drone_flags d)) l i;
    flags = (past_full L t).flags;
  }

  past-marked : (d : ℕ) → d < L.drones → past_full L (marked t d) ≡ past_full L t
  past-marked d l = λ i. record { plan = (past_full L t).plan; visited = (past_full L t).visited; drone_flags = drop-set-lt L.drones t.drone_flags d (set_withdrawn (at t.drone_flags d)) l i; flags = (past_full L t).flags }

  past-flipped : (ws : List ℕ) → ((w : ℕ) → is_in w ws ≡ true → w < L.dependencies) → past_full L (flipped_all t ws) ≡ past_full L t
  past-flipped ws h = λ i. record { plan = (past_full L t).plan; visited = (past_full L t).visited; drone_flags = (past_full L t).drone_flags; flags = past_flips L.dependencies ws t.flags h i }

  group_keeps : (ws : List ℕ) → past_full L (turn_all_step L t ws).tables ≡ past_full L t
  unfolding turn_all_step
  group_keeps ws = kept (reply_of L t (turn_all ws)) (flipped_all t ws) (λ a.
      let (u, g) = (demand2.group_exactly L t ws).0 (is_accepted_lem _ a) in
      past-flipped ws (λ w i. dependency_below u w (g.1.0 w i).exists))

  pub step_keeps : (c : Call) → past_full L (step L t c).tables ≡ past_full L t
  unfolding grant_step arrive_step withdraw_step
  step_keeps (grant d) = kept (reply_of L t (grant d)) (granted t d) (λ a. let (u, g) = (demand2.granted_exactly L t d).0 (is_accepted_lem _ a) in past-granted d (drone_below u d g.waiting.exists))
  step_keeps (arrive d) = kept (reply_of L t (arrive d)) (arrived t d) (λ a. let (u, g) = (demand2.arrived_exactly L t d).0 (is_accepted_lem _ a) in past-arrived d (drone_below u d g.exists))
  step_keeps (withdraw d) = kept (reply_of L t (withdraw d)) (marked t d) (λ a. let (u, g) = (demand2.withdrawn_exactly L t d).0 (is_accepted_lem _ a) in past-marked d (drone_below u d g.exists))
  step_keeps (turn w) = ap (λ (x : Answer). past_full L x.tables) (demand2.turn_is_group L t w) ∙ group_keeps (w ∷ [])
  step_keeps (turn_all ws) = group_keeps ws
