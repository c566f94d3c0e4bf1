-- The preview: an accepted turn leaves usable tables, so both costs are there; neither passes the greatest cost, so neither does their difference. Assumes nothing.
use mathlib.Core.Path.{◌≡◌, refl, sym, ap, subst}
use mathlib.Core.Logic.{◌≢◌, ◌↔◌}
use mathlib.Core.Bool.{Bool, true, false, cond}
use mathlib.Core.List.{List, [], ◌∷◌}
use Prim.Native.Nat.{ℕ, zero, suc, ◌-◌, ◌*◌, ◌≤◌}
use native.Mathlib.Omega.{arith}
use lib.Dec.{ltb, le→leb}
use lib.IntN.{ℤ, pos, negsuc, neg_ℤ, sub_ℕ}
use lib.Signed.{le_z_yes, ◌≤ℤ◌}
use borrow.Author.Tests.{ltb-true}
use Rattle.tables.specs.Limits.{Limits, limits, most_cost}
use Rattle.below.proofs.Tests.{true_or_false}
use Rattle.tables.specs.Tables.{PlanLists, Tables, form_of, full_size}
use Rattle.sound.specs.Sound.{sound}
use Rattle.plan.specs.Field.{plan_of}
use Rattle.plan.specs.Status.{status_in}
use Rattle.call_log.specs.CallLog.{Reply, accepted, refused, must_wait, reply_number, is_accepted, Call, turn, turn_all, reply_in}
use Rattle.call_log.specs.Calls.{Answer, CostOutcome, costs, flipped_all, reply_of, cost_reply, turn_step, turn_all_step, step, Answered}
use Rattle.call_log.specs.Claims.{Usable, greatest_cost}
use Rattle.call_log.specs.Preview.{PreviewOutcome, would_turn, would_refuse, preview_by, preview_of, preview, preview_all, RefusedAs, Change, DoneAs, ChangeWithin, PreviewClaims}
use Rattle.call_log.proofs.Exactly.{group_exactly, turn_is_group}
use Rattle.call_log.proofs.SoundKept.{stays_usable}
use Rattle.call_log.proofs.Steps.{cost_0}
use Rattle.call_log.proofs.Costs.{cost_bounded, cost_limit}
use Rattle.call_log.proofs.Meaning.{group_never_waits}

-- ---- answers taken apart

-- the number of a refused preview, and one that no refusal has for the others
abbrev refused_by : PreviewOutcome → ℕ
refused_by (would_turn z) = 1000
refused_by (would_refuse n) = n

abbrev is_done : PreviewOutcome → ℕ
is_done (would_turn z) = 1
is_done (would_refuse n) = 0

abbrev change_in : PreviewOutcome → ℤ
change_in (would_turn z) = z
change_in (would_refuse n) = pos 0

-- ---- a difference between two numbers up to n

abbrev FromTo : ℕ → ℤ → Type 0
FromTo n z = (neg_ℤ (pos n) ≤ℤ z) × (z ≤ℤ pos n)

difference_between : (a b n : ℕ) → a ≤ n → b ≤ n → FromTo n (sub_ℕ a b)
difference_between a b n x y = go (ltb a b) refl n x y
  where
    low : (n m : ℕ) → neg_ℤ (pos n) ≤ℤ pos m
    low zero m = le_z_yes (le→leb 0 m (omega arith))
    low (suc n) m = le_z_yes tt

    go : (c : Bool) → ltb a b ≡ c → (n : ℕ) → a ≤ n → b ≤ n → FromTo n (cond c (negsuc (b - suc a)) (pos (a - b)))
    go true e zero x y = absurd (omega (arith, ltb-true a b e))
    go true e (suc n) x y = (le_z_yes (le→leb (b - suc a) n (omega (arith, ltb-true a b e))), le_z_yes tt)
    go false e n x y = (low n (a - b), le_z_yes (le→leb (a - b) n (omega arith)))

-- ---- by the reply of the turn

-- both costs are there
abbrev Known : CostOutcome → CostOutcome → Type 0
Known x y = (a : ℕ) × (b : ℕ) × (x ≡ costs a) × (y ≡ costs b)

done_by : (r : Reply) (x y : CostOutcome) → reply_number r ≢ 23 → (r ≡ accepted → Known x y) → (z : ℤ) → (preview_by r x y ≡ would_turn z) ↔ ((r ≡ accepted) × Change x y z)
done_by accepted x y n h z = (
  λ e. let (a, b, p, q) = h refl in (refl, record { cost_after = a; cost_now = b; costs_after = p; costs_now = q; difference = sym (ap change_in (rw (p, q) at e)) }),
  λ (_, c). rw (c.costs_after, c.costs_now) (ap would_turn (sym c.difference)),
)
done_by (refused m) x y n h z = (λ e. absurd (let q : ◌≡◌ {A = ℕ} 0 1 = ap is_done e in omega arith), λ (a, c). true_or_false (ap is_accepted a) refl)
done_by (must_wait w) x y n h z = absurd (n refl)

refused_by_lem : (r : Reply) (x y : CostOutcome) → reply_number r ≢ 23 → (r ≡ accepted → Known x y) → (k : ℕ) → (preview_by r x y ≡ would_refuse k) ↔ (r ≡ refused k)
refused_by_lem accepted x y n h k = (
  λ e. let (a, b, p, q) = h refl in absurd (let q : ◌≡◌ {A = ℕ} 1 0 = ap is_done (rw (p, q) at e) in omega arith),
  λ e. true_or_false refl (ap is_accepted e),
)
refused_by_lem (refused m) x y n h k = (λ e. ap refused (ap refused_by e), λ e. ap would_refuse (ap reply_number e))
refused_by_lem (must_wait w) x y n h k = absurd (n refl)

-- ---- a turn on a copy of the tables t, with its answer

module _ (L : Limits) (t : Tables) (a : Answer) where
  -- the turn does not say 23, and one that is accepted leaves both costs
  pub record Turning : Type 0 where
    pub never_waits : reply_number a.reply ≢ 23
    pub known : a.reply ≡ accepted → Known (cost_reply L a.tables) (cost_reply L t)

  module _ (h : Turning) where
    pub refused_as : RefusedAs (preview_of L t a) a
    refused_as n = refused_by_lem a.reply (cost_reply L a.tables) (cost_reply L t) h.never_waits h.known n

    pub done_as : DoneAs L t (preview_of L t a) a
    done_as z = done_by a.reply (cost_reply L a.tables) (cost_reply L t) h.never_waits h.known z

    -- n bounds the costs of all tables that hold the plan
    pub within : (n : ℕ) → a.tables.plan ≡ t.plan → ((u : Tables) (c : ℕ) → u.plan ≡ t.plan → cost_reply L u ≡ costs c → c ≤ n) → ChangeWithin n (preview_of L t a)
    within n same most z e =
        let c = ((done_as z).0 e).1 in
        subst (FromTo n) (sym c.difference) (difference_between c.cost_after c.cost_now n (most a.tables c.cost_after same c.costs_after) (most t c.cost_now refl c.costs_now))

-- ---- the same as code finds it, by the contract of the turn on a copy and the two costs

module _ (L : Limits) (t : Tables) (c : Call) (t' : Tables) where
  call-turned : (a b : ℕ) → Answered (step L) t c accepted t' → costs a ≡ cost_reply L t' → costs b ≡ cost_reply L t → would_turn (sub_ℕ a b) ≡ preview_of L t (step L t c)
  call-turned a b h x y = rw (sym h.replied, sym h.left, sym x, sym y) refl

  call_refused : (n : ℕ) → Answered (step L) t c (refused n) t' → would_refuse n ≡ preview_of L t (step L t c)
  call_refused n h = rw (sym h.replied) refl

-- ---- the turn of a list

module _ (L : Limits) (t : Tables) (ws : List ℕ) where
  never_23 : reply_number (turn_all_step L t ws).reply ≢ 23
  unfolding turn_all_step reply_of
  never_23 = go (full_size L t) (sound L t) (group_never_waits (plan_of t.plan) (status_in t) ws)
    where
      go : (a b : Bool) → reply_number (reply_in (plan_of t.plan) (status_in t) (turn_all ws)) ≢ 23 → reply_number (cond a (cond b (reply_in (plan_of t.plan) (status_in t) (turn_all ws)) (refused 40)) (refused 41)) ≢ 23
      go true true h = h
      go true false h = omega arith
      go false b h = omega arith

  turning : Turning L t (turn_all_step L t ws)
  turning = record {
    never_waits = never_23;
    known = λ a.
        let u : Usable L t = ((group_exactly L t ws).0 a).0 in
        let u' : Usable L (turn_all_step L t ws).tables = stays_usable L t u (turn_all ws) in
        (_, _, cost_0 L (turn_all_step L t ws).tables u'.0 u'.1, cost_0 L t u.0 u.1);
  }

  pub preview_all_refused : RefusedAs (preview_all L t ws) (turn_all_step L t ws)
  unfolding preview_all
  preview_all_refused = refused_as L t (turn_all_step L t ws) turning

  pub preview_all_done : DoneAs L t (preview_all L t ws) (turn_all_step L t ws)
  unfolding preview_all
  preview_all_done = done_as L t (turn_all_step L t ws) turning

  -- a turn leaves the plan
  plan_left : (turn_all_step L t ws).tables.plan ≡ t.plan
  unfolding turn_all_step
  plan_left = go (is_accepted (reply_of L t (turn_all ws)))
    where
      go : (b : Bool) → (cond b (flipped_all t ws) t).plan ≡ t.plan
      go true = refl
      go false = refl

  preview_all-within : (n : ℕ) → ((u : Tables) (c : ℕ) → u.plan ≡ t.plan → cost_reply L u ≡ costs c → c ≤ n) → ChangeWithin n (preview_all L t ws)
  unfolding preview_all
  preview_all-within n most = within L t (turn_all_step L t ws) turning n plan_left most

  pub preview_all-turned : (t' : Tables) (a b : ℕ) → Answered (step L) t (turn_all ws) accepted t' → costs a ≡ cost_reply L t' → costs b ≡ cost_reply L t → would_turn (sub_ℕ a b) ≡ preview_all L t ws
  unfolding preview_all
  preview_all-turned = call-turned L t (turn_all ws)

  pub preview_all_refusal : (t' : Tables) (n : ℕ) → Answered (step L) t (turn_all ws) (refused n) t' → would_refuse n ≡ preview_all L t ws
  unfolding preview_all
  preview_all_refusal = call_refused L t (turn_all ws)

preview_all_bounded : (L : Limits) (t : Tables) (ws : List ℕ) → 2 * L.drones ≤ L.stops → ChangeWithin (greatest_cost L (form_of t.plan)) (preview_all L t ws)
preview_all_bounded L t ws h = preview_all-within L t ws (greatest_cost L (form_of t.plan)) (λ u c same q. subst (λ (p : PlanLists). c ≤ greatest_cost L (form_of p)) same (cost_bounded L u c h q))

preview_all_limit : (t : Tables) (ws : List ℕ) → ChangeWithin most_cost (preview_all limits t ws)
preview_all_limit t ws = preview_all-within limits t ws most_cost (λ u c same q. cost_limit u c q)

-- ---- one turn is the list of length one

pub preview_is_group : (L : Limits) (t : Tables) (w : ℕ) → preview L t w ≡ preview_all L t (w ∷ [])
unfolding preview preview_all
preview_is_group L t w = ap (preview_of L t) (turn_is_group L t w)

module _ (L : Limits) (t : Tables) (w : ℕ) where
  pub preview_refused : RefusedAs (preview L t w) (turn_step L t w)
  preview_refused = rw (preview_is_group L t w, turn_is_group L t w) (preview_all_refused L t (w ∷ []))

  pub preview_done : DoneAs L t (preview L t w) (turn_step L t w)
  preview_done = rw (preview_is_group L t w, turn_is_group L t w) (preview_all_done L t (w ∷ []))

  pub preview-turned : (t' : Tables) (a b : ℕ) → Answered (step L) t (turn w) accepted t' → costs a ≡ cost_reply L t' → costs b ≡ cost_reply L t → would_turn (sub_ℕ a b) ≡ preview L t w
  unfolding preview
  preview-turned = call-turned L t (turn w)

  pub preview_refusal : (t' : Tables) (n : ℕ) → Answered (step L) t (turn w) (refused n) t' → would_refuse n ≡ preview L t w
  unfolding preview
  preview_refusal = call_refused L t (turn w)

pub preview_claims : PreviewClaims
preview_claims = record {
  preview_refused = preview_refused;
  preview_done = preview_done;
  preview_bounded = λ L t w h. rw (preview_is_group L t w) (preview_all_bounded L t (w ∷ []) h);
  preview_limit = λ t w. rw (preview_is_group limits t w) (preview_all_limit t (w ∷ []));
  preview_all_refused = preview_all_refused;
  preview_all_done = preview_all_done;
  preview_all_bounded = preview_all_bounded;
  preview_all_limit = preview_all_limit;
  preview_is_group = preview_is_group;
}
