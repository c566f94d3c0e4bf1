-- What every list of calls keeps, over plain functions: p counts the accepted arrivals of each drone, e its accepted grants, x says who is withdrawn, t what is turned. Each
-- accepted call changes one of the four. Assumes nothing.
use mathlib.Core.Path.{◌≡◌, refl, sym, ap, ◌∙◌, subst}
use mathlib.Core.Bool.{Bool, true, false, not, cond, ◌&&◌, ◌||◌}
use mathlib.Core.List.{List}
use Prim.Native.Nat.{ℕ, suc, ◌≤◌, ◌<◌}
use native.Mathlib.Omega.{arith}
use lib.Dec.{eqb, ltb, leb}
use borrow.Author.Tests.{ltb-true, ltb-false, eqb-true, leb-true, le-leb, lt-leb}
use Rattle.below.proofs.Index.{put_elim}
use Rattle.below.proofs.Tests.{by_cases, true_or_false, and_left, and_right, and_both}
use Rattle.below.proofs.Every.{all_below_all}
use Rattle.below.specs.Below.{update}
use Rattle.call_log.specs.Claims.{MayGo, MayArrive, Unentered, Turnable, AllTurnable}
use Rattle.call_log.proofs.Checks.{unfixed_is, go-free}
use Rattle.call_log.proofs.Running.{Running, grant_running, arrive_running}
use Rattle.plan.specs.Field.{FieldPlan, in_force, wait_of, flip_all, mark, of_withdrawn, graph, fixed, AcceptedPlan, Status, as_planned, after_turns, after_withdrawal}
use Rattle.plan.specs.Claims.{Unfixed}
use Rattle.plan.proofs.Turns.{flip_all_elim, graph-formed, none_unfixed, planned-acyclic}
use Rattle.plan.proofs.Withdrawals.{others_before, withdrawal_fewer}
use Rattle.precedence.proofs.Ahead.{cyclic_fewer}
use Rattle.plan.specs.Status.{entered, fixed_unturned, within_stops, waits_kept}
use Rattle.precedence.specs.Graph.{cyclic}

module _ (F : FieldPlan) where
  open F use {drones, last, location, time, count, dependency}

  -- the status of counts p, e, x, t
  abbrev pub counted_status : (ℕ → ℕ) → (ℕ → ℕ) → (ℕ → Bool) → (ℕ → Bool) → Status
  counted_status p e x t = record { place = p; under_way = λ d. ltb (p d) (e d); withdrawn = x; turned = t }

  -- p: accepted arrivals, that is the last visited stop; e: accepted grants, that is the last entered stop; x: who is withdrawn; t: what is turned
  pub record Good (p e : ℕ → ℕ) (x t : ℕ → Bool) : Type 0 where
    pub running : Running (graph F (counted_status p e x t)) p e
    pub within : (d : ℕ) → d < drones → e d ≤ last d
    pub unfixed : Unfixed F (counted_status p e x t)
    pub acyclic : cyclic (graph F (counted_status p e x t)) ≡ false

  pub good_start : AcceptedPlan F → Good (λ d. 0) (λ d. 0) as_planned.withdrawn as_planned.turned
  good_start accepted = record {
    running = record { behind = λ d. omega arith; ahead = λ d. omega arith; over = λ w l h. absurd (omega (arith, (graph-formed F accepted as_planned (none_unfixed F accepted) w l).stop_pos)) };
    within = λ d l. omega arith;
    unfixed = none_unfixed F accepted;
    acyclic = planned-acyclic F accepted;
  }

  -- ---- the three calls, when accepted

  pub good_grant : (p e : ℕ → ℕ) (x t : ℕ → Bool) → Good p e x t → (d : ℕ) → MayGo F (counted_status p e x t) d → Good p (update e d (suc (p d))) x t
  good_grant p e x t g d c = record {
    running = grant_running (graph F (counted_status p e x t)) p e g.running d (go-free F (counted_status p e x t) d c);
    within = put_elim (λ c z. c < drones → z ≤ last c) e d (suc (p d)) (λ l. c.waiting.unfinished) (λ c n. g.within c);
    unfixed = g.unfixed;
    acyclic = g.acyclic;
  }

  pub good_arrive : (p e : ℕ → ℕ) (x t : ℕ → Bool) → Good p e x t → (d : ℕ) → MayArrive F (counted_status p e x t) d → Good (update p d (suc (p d))) e x t
  good_arrive p e x t g d c = record {
    running = arrive_running (graph F (counted_status p e x t)) p e g.running d (omega (arith, g.running.ahead d, ltb-true (p d) (e d) c.under_way));
    within = g.within;
    unfixed = g.unfixed;
    acyclic = g.acyclic;
  }

  -- a stop that is not entered is past the last entered one
  not_entered : (p e : ℕ → ℕ) (x t : ℕ → Bool) → Good p e x t → (d k : ℕ) → Unentered F (counted_status p e x t) d k → e d < k
  not_entered p e x t g d k (past, ahead) = by_cases (ltb (p d) (e d))
      (λ u. omega (arith, ahead u, g.running.ahead d))
      (λ u. omega (arith, ltb-false (p d) (e d) u))

  -- what is asked of dependency w, turned or not
  abbrev Asked : (ℕ → ℕ) → (ℕ → ℕ) → (ℕ → Bool) → ℕ → Bool → Type 0
  Asked p e x w b = w < count → (wait_of (in_force b (dependency w))).stop ≤ e (wait_of (in_force b (dependency w))).waiter → cond (x (dependency w).first || x (dependency w).second) 0 (wait_of (in_force b (dependency w))).until ≤ p (wait_of (in_force b (dependency w))).awaited

  -- nobody has entered the stops of a dependency that may be turned, so nothing is asked of it
  nothing_asked : (p e : ℕ → ℕ) (x t : ℕ → Bool) → Good p e x t → (w : ℕ) → Turnable F (counted_status p e x t) w → (b : Bool) → Asked p e x w b
  nothing_asked p e x t g w c false l h = absurd (omega (arith, not_entered p e x t g (dependency w).second (dependency w).second_stop c.second_before))
  nothing_asked p e x t g w c true l h = absurd (omega (arith, not_entered p e x t g (dependency w).first (dependency w).first_stop c.first_before))

  -- any list of dependencies none of which is fixed or entered, turned at once
  pub good_turns : (p e : ℕ → ℕ) (x t : ℕ → Bool) → Good p e x t → (ws : List ℕ) → AllTurnable F (counted_status p e x t) ws → cyclic (graph F (after_turns (counted_status p e x t) ws)) ≡ false → Good p e x (flip_all t ws)
  good_turns p e x t g ws c no_cycle = record {
    running = record {
      behind = g.running.behind;
      ahead = g.running.ahead;
      over = flip_all_elim (Asked p e x) t ws (λ w i. nothing_asked p e x t g w (c w i)) (λ v. g.running.over v);
    };
    within = g.within;
    unfixed = flip_all_elim (λ v b. v < count → b ≡ true → fixed F v ≡ false) t ws (λ w i b l u. unfixed_is F (counted_status p e x t) (c w i).not_first (c w i).not_last) (λ v. g.unfixed v);
    acyclic = no_cycle;
  }

  -- less is asked of a dependency after a withdrawal
  less_asked : (a b : Bool) (u n : ℕ) → (b ≡ false → a ≡ false) → cond a 0 u ≤ n → cond b 0 u ≤ n
  less_asked a true u n k h = omega arith
  less_asked a false u n k h = subst (λ (z : Bool). cond z 0 u ≤ n) (k refl) h

  -- any drone may be withdrawn: the graph then has fewer waits
  pub good_withdraw : AcceptedPlan F → (p e : ℕ → ℕ) (x t : ℕ → Bool) → Good p e x t → (d : ℕ) → Good p e (mark x d) t
  good_withdraw accepted p e x t g d = record {
    running = record { behind = g.running.behind; ahead = g.running.ahead; over = λ w l h. less_asked (of_withdrawn F (counted_status p e x t) w) (of_withdrawn F (after_withdrawal (counted_status p e x t) d) w) _ _ (others_before F (counted_status p e x t) d w) (g.running.over w l h) };
    within = g.within;
    unfixed = g.unfixed;
    acyclic = cyclic_fewer (graph F (counted_status p e x t)) (graph F (after_withdrawal (counted_status p e x t) d)) (graph-formed F accepted (counted_status p e x t) g.unfixed) (withdrawal_fewer F (counted_status p e x t) d) g.acyclic;
  }

-- ---- progress by counts is sound

module _ (F : FieldPlan) (p e : ℕ → ℕ) (x t : ℕ → Bool) (good : Good F p e x t) where
  open F use {drones, last, count}

  -- an entered stop is at most the last entered one
  pub entered_in : (d k : ℕ) → entered F (counted_status F p e x t) d k ≡ true → k ≤ e d
  entered_in d k h = by_cases (leb k (p d))
      (λ a. omega (arith, leb-true k (p d) a, good.running.behind d))
      (λ a. let m : ltb (p d) (e d) && eqb k (suc (p d)) ≡ true = sym (ap (λ (b : Bool). b || ltb (p d) (e d) && eqb k (suc (p d))) a) ∙ h in
      omega (arith, ltb-true (p d) (e d) (and_left _ _ m), eqb-true k (suc (p d)) (and_right (ltb (p d) (e d)) _ m)))

  pub good_within : within_stops F (counted_status F p e x t) ≡ true
  unfolding within_stops
  good_within = all_below_all drones _ (λ d l. and_both (leb (p d) (last d)) _
      (le-leb (p d) (last d) (omega (arith, good.running.behind d, good.within d l)))
      (by_cases (ltb (p d) (e d))
      (λ u. rw (u, lt-leb (last d) (p d) (omega (arith, ltb-true (p d) (e d) u, good.within d l))))
      (λ u. rw u)))

  pub good_waits : waits_kept F (counted_status F p e x t) ≡ true
  unfolding waits_kept
  good_waits = all_below_all count _ (λ w l. by_cases (entered F (counted_status F p e x t) ((graph F (counted_status F p e x t)).wait w).waiter ((graph F (counted_status F p e x t)).wait w).stop)
      (λ h. or_second (entered F (counted_status F p e x t) ((graph F (counted_status F p e x t)).wait w).waiter ((graph F (counted_status F p e x t)).wait w).stop) _ h (le-leb _ _ (good.running.over w l (entered_in _ _ h))))
      (λ h. or_first _ _ h))
    where
      or_second : (a b : Bool) → a ≡ true → b ≡ true → not a || b ≡ true
      or_second true b x y = y
      or_second false b x y = refl

      or_first : (a b : Bool) → a ≡ false → not a || b ≡ true
      or_first true b x = true_or_false refl x
      or_first false b x = refl

  pub good_unturned : fixed_unturned F (counted_status F p e x t) ≡ true
  unfolding fixed_unturned
  good_unturned = all_below_all count _ (λ w l. by_cases (t w) (λ u. rw (u, good.unfixed w l u)) (λ u. rw u))
