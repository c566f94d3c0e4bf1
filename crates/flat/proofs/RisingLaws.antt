-- Whether a list strictly rises, as the test of its neighbours finds it. Assumes nothing.
use mathlib.Core.Path.{◌≡◌, sym}
use mathlib.Core.Bool.{Bool, true, false}
use mathlib.Core.List.{List}
use Prim.Native.Nat.{ℕ, suc, ◌+◌, ◌<◌}
use native.Mathlib.Omega.{arith}
use native.Mathlib.Numerals.{add-one}
use lib.Dec.{ltb}
use lib.ListN.{length}
use borrow.Author.Tests.{ltb-true, ltb-false}
use Rattle.std.specs.List.{IsAllAdjacentAnswer}
use Rattle.below.specs.Below.{at}
use Rattle.call_log.specs.CallLog.{is_group}
use Rattle.call_log.proofs.Groups.{group_iff, group_falls}

pub rises_is : (ws : List ℕ) (r : Bool) → 0 < length ws → IsAllAdjacentAnswer (λ (x : ℕ) y b. b ≡ ltb x y) ws r → r ≡ is_group ws
rises_is ws true some h = sym ((group_iff ws).1 (record { not_empty = some; rising = λ i l. let r : true ≡ ltb (at ws i) (at ws (i + 1)) = h i 0 (omega arith) in ltb-true _ _ (sym (rw add-one at r)) }))
rises_is ws false some (k, l, f) = sym (group_falls ws k (omega arith) (ltb-false (at ws k) (at ws (suc k)) (let r : false ≡ ltb (at ws k) (at ws (k + 1)) = f 0 in sym (rw add-one at r))))
