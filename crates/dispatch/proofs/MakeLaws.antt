-- One request: what the contracts of the calls say of the answer, and that its detail is small. Assumes nothing.
use Prim.Native.Nat.{ℕ, ◌-◌, ◌*◌, ◌≤◌, ◌<◌, ◌^◌}
use native.Mathlib.Nat.{le_trans}
use native.Mathlib.Omega.{arith}
use native.Mathlib.Nat.{mul-le-mul_right}
use mathlib.Core.Path.{◌≡◌, refl, sym, ap, ◌∙◌}
use mathlib.Core.Bool.{Bool, true, false, cond}
use mathlib.Core.List.{[], ◌∷◌}
use lib.Dec.{leb, ltb}
use Rattle.below.proofs.Search.{first_below_first}
use Rattle.tables.specs.Limits.{Limits}
use Rattle.tables.specs.Tables.{Tables, form_of, full_size}
use Rattle.plan.specs.Field.{FieldPlan, plan_of, Status}
use Rattle.plan.specs.Status.{status_in, unmet}
use Rattle.sound.specs.Sound.{sound}
use Rattle.call_log.specs.CallLog.{grant as grant_call, Reply, refused, must_wait, reply_number, awaited, when, first_that_holds, reply_in}
use Rattle.call_log.specs.Calls.{step, reply_of, grant_step, Answered, CostOutcome, costs, cost_refused, cost_reply}
use Rattle.call_log.proofs.Costs.{cost_bounded}
use Rattle.call_log.proofs.SoundParts.{longest_leg_lem}
use Rattle.flat.proofs.Facts.{facts}
use Rattle.transcript.specs.Input.{LineCall, call_of, call, cost}
use Rattle.transcript.specs.Run.{cost_number, cost_detail}
use Rattle.dispatch.specs.Making.{Tells, RequestMade}

-- ---- the detail fits

-- a 23 names a dependency of the plan
waits_in : (F : FieldPlan) (s : Status) (d : ℕ) → awaited (reply_in F s (grant_call d)) ≤ F.count
unfolding reply_in
waits_in F s d = le_trans (five (leb F.drones d) (s.withdrawn d) (leb (F.last d) (s.place d)) (s.under_way d) (ltb (unmet F s d) F.count) (unmet F s d)) (first_below_first F.count _).within
  where
    five : (a x b c e : Bool) (w : ℕ) → awaited (first_that_holds (when a (refused 20) ∷ when x (refused 25) ∷ when b (refused 21) ∷ when c (refused 22) ∷ when e (must_wait w) ∷ [])) ≤ w
    five true x b c e w = omega arith
    five false true b c e w = omega arith
    five false false true c e w = omega arith
    five false false false true e w = omega arith
    five false false false false true w = omega arith
    five false false false false false w = omega arith

waits_few : (L : Limits) (t : Tables) (d : ℕ) → awaited (step L t (grant_call d)).reply ≤ L.dependencies
unfolding grant_step reply_of
waits_few L t d = go (full_size L t) (sound L t) refl refl
  where
    go : (a b : Bool) → full_size L t ≡ a → sound L t ≡ b → awaited (cond a (cond b (reply_in (plan_of t.plan) (status_in t) (grant_call d)) (refused 40)) (refused 41)) ≤ L.dependencies
    go true true f s = omega (arith, waits_in (plan_of t.plan) (status_in t) d, (facts L t (f, s)).dependencies_few)
    go true false f s = omega arith
    go false b f s = omega arith

pub grant-fits : (L : Limits) → L.dependencies < 2 ^ 32 → (t t' : Tables) (d : ℕ) (r : Reply) → Answered (step L) t (grant_call d) r t' → awaited r < 2 ^ 32
grant-fits L h t t' d r a = omega (arith, ap awaited a.replied, waits_few L t d)

pub cost-fits : (L : Limits) → 2 * L.drones ≤ L.stops → 1 ≤ L.leg → L.leg * (L.drones * (L.stops - L.drones)) < 2 ^ 32 → (t : Tables) (r : CostOutcome) → r ≡ cost_reply L t → cost_detail r < 2 ^ 32
cost-fits L h s k t (costs n) e = omega (arith, cost_bounded L t n h (sym e), mul-le-mul_right (L.drones * (L.stops - L.drones)) (longest_leg_lem L (form_of t.plan) s))
cost-fits L h s k t (cost_refused n) e = omega arith

-- ---- the answer

pub call-made : (L : Limits) (t : Tables) (c : LineCall) (r : Reply) (n w : ℕ) (t' : Tables) → Answered (step L) t (call_of c) r t' → Tells r n w → RequestMade L t (call c) n w t'
call-made L t c r n w t' a k = record { number_is = k.number_is ∙ ap reply_number a.replied; detail_is = k.detail_is ∙ ap awaited a.replied; tables_are = a.left }

pub cost-made : (L : Limits) (t : Tables) (r : CostOutcome) (n w : ℕ) → r ≡ cost_reply L t → n ≡ cost_number r → w ≡ cost_detail r → RequestMade L t cost n w t
cost-made L t r n w e p q = record { number_is = p ∙ ap cost_number e; detail_is = q ∙ ap cost_detail e; tables_are = refl }
