-- Lists of dependencies by their indexes: 36's test says that the list is not empty and strictly rises. Assumes nothing.
use mathlib.Core.Path.{◌≡◌, refl}
use mathlib.Core.Logic.{◌↔◌}
use mathlib.Core.Bool.{true, false}
use mathlib.Core.List.{List, [], ◌∷◌}
use Prim.Native.Nat.{ℕ, zero, suc, ◌≤◌, ◌<◌}
use native.Mathlib.Omega.{arith}
use lib.Dec.{ltb}
use lib.ListN.{length}
use borrow.Author.Tests.{ltb-true, lt-ltb}
use Rattle.below.specs.Below.{at}
use Rattle.below.proofs.Tests.{by_cases, true_or_false, and_left, and_right, and_both}
use Rattle.call_log.specs.CallLog.{rises_from, is_group}
use Rattle.call_log.specs.Claims.{Group}

-- ---- lists that strictly rise

rises-says : (v : ℕ) (ws : List ℕ) → rises_from v ws ≡ true → (i : ℕ) → i < length ws → at (v ∷ ws) i < at (v ∷ ws) (suc i)
rises-says v [] e i l = absurd (omega arith)
rises-says v (w ∷ ws) e zero l = ltb-true v w (and_left _ _ e)
rises-says v (w ∷ ws) e (suc i) l = rises-says w ws (and_right (ltb v w) _ e) i (omega arith)

says-rises : (v : ℕ) (ws : List ℕ) → ((i : ℕ) → i < length ws → at (v ∷ ws) i < at (v ∷ ws) (suc i)) → rises_from v ws ≡ true
says-rises v [] h = refl
says-rises v (w ∷ ws) h = and_both (ltb v w) _ (lt-ltb v w (h 0 (omega arith))) (says-rises w ws (λ i l. h (suc i) (omega arith)))

pub group_iff : (ws : List ℕ) → (is_group ws ≡ true) ↔ Group ws
group_iff [] = (λ e. true_or_false e refl, λ g. absurd (omega (arith, g.not_empty)))
group_iff (w ∷ ws) = (λ e. record { not_empty = omega arith; rising = λ i l. rises-says w ws e i (omega arith) }, λ g. says-rises w ws (λ i l. g.rising i (omega arith)))

-- 36 as a loop finds it
pub group_empty : (ws : List ℕ) → length ws ≡ 0 → is_group ws ≡ false
group_empty [] e = refl
group_empty (w ∷ ws) e = absurd (omega arith)

pub group_falls : (ws : List ℕ) (i : ℕ) → suc i < length ws → at ws (suc i) ≤ at ws i → is_group ws ≡ false
group_falls ws i l h = by_cases (is_group ws) (λ e. absurd (omega (arith, ((group_iff ws).0 e).rising i l))) (λ e. e)
