-- While the stops that follow v are sought, one after the other: where the walks at its location and at the near ones go on. Assumes nothing.
use mathlib.Core.Path.{◌≡◌, sym, ap, refl, ◌∙◌, subst}
use mathlib.Core.List.{List}
use mathlib.Core.Bool.{Bool, false, ◌&&◌}
use Prim.Native.Nat.{ℕ, ◌+◌, ◌≤◌, ◌<◌}
use native.Mathlib.Omega.{arith}
use lib.Dec.{leb, eqb}
use borrow.Author.Tests.{le-leb, leb-true, eqb-true}
use Rattle.below.specs.Below.{at, first_below, pick}
use Rattle.below.proofs.Tests.{by_cases}
use Rattle.plan.specs.Sharing.{next_at, MayBegin, there, Placed}
use Rattle.plan.specs.Dependencies.{later, later_from}
use Rattle.plan.proofs.NearLists.{begun_next, begun_found, begun_fewer}
use Rattle.plan.proofs.ColumnsLaws.{later-before}

-- who is not later from an earlier stop on is not so from a later one on
later_fewer : (own time : ℕ → ℕ) (from to v : ℕ) → from ≤ to → (u : ℕ) → later_from own time from v u ≡ false → later_from own time to v u ≡ false
unfolding later_from
later_fewer own time from to v l u h = by_cases (leb to u)
    (λ c. rw c (sym (ap (λ (b : Bool). b && later own time v u) (le-leb from u (omega (arith, l, leb-true to u c)))) ∙ h))
    (λ c. rw c refl)

module _ (pairs owners locations times : List ℕ) (n v : ℕ) where
  -- not before `from`, by another drone than v, and later
  abbrev Later : ℕ → ℕ → Bool
  Later from = later_from (at owners) (at times) from v

  -- w was found: where the walks for the next one begin
  pub record Going (w own : ℕ) (places : List ℕ) : Type 0 where
    pub own_begun : MayBegin (at locations) n (at locations v) (Later (w + 1)) own
    pub placed : Placed pairs (at locations) n v (Later (w + 1)) places

  pub going_on : (from w own : ℕ) (places : List ℕ) → from ≤ w + 1 → own ≡ first_below n (there (at locations) (at locations v) (Later from)) → Placed pairs (at locations) n v (Later from) places → Going w own places
  going_on from w own places l e P = record {
    own_begun = begun_fewer (at locations) n (at locations v) (Later from) (Later (w + 1)) own (later_fewer (at owners) (at times) from (w + 1) v l) (begun_found (at locations) n (at locations v) (Later from) own e);
    placed = record { size = P.size; begun = λ k a h. begun_fewer (at locations) n _ (Later from) (Later (w + 1)) (at places k) (later_fewer (at owners) (at times) from (w + 1) v l) (P.begun k a h) };
  }

  -- the walk of the own location goes on after w, if it has come to w
  pub going_own : (w own : ℕ) (places next : List ℕ) (start : ℕ) → Going w own places → w < n → at next w ≡ next_at (at locations) n w → start ≡ pick (eqb own w) (at next w) own → MayBegin (at locations) n (at locations v) (Later (w + 1)) start
  going_own w own places next start G l e es = by_cases (eqb own w)
      (λ c. let z : own ≡ w = eqb-true own w c in
      begun_next (at locations) n w (at locations v) (Later (w + 1)) start (ap (at locations) (sym z) ∙ G.own_begun.belongs (omega (arith, z, l))) (es ∙ ap (λ (b : Bool). pick b (at next w) own) c ∙ e) (λ u k. later-before (at owners) (at times) (w + 1) v u (omega (arith, k))))
      (λ c. subst (MayBegin (at locations) n (at locations v) (Later (w + 1))) (sym (es ∙ ap (λ (b : Bool). pick b (at next w) own) c)) G.own_begun)
