-- Grant and arrive on progress: a free drone enters its next stop, a drone that has entered a stop visits it, and what an entered stop awaits stays visited.
-- Assumes nothing.
use mathlib.Core.Path.{◌≡◌, refl}
use mathlib.Core.Bool.{true}
use Prim.Native.Nat.{ℕ, suc, ◌≤◌, ◌<◌}
use native.Mathlib.Omega.{arith}
use lib.Dec.{leb}
use borrow.Author.Tests.{leb-true, leb-false}
use Rattle.below.proofs.Index.{put_elim}
use Rattle.below.proofs.Tests.{by_cases}
use Rattle.below.specs.Below.{update}
use Rattle.precedence.proofs.Rounds.{free_open}
use Rattle.precedence.specs.Graph.{Plan, free}

module _ (P : Plan) where
  open P use {drones, last, count, wait}

  -- p: the last visited stop; e: the last entered one, the next stop of a drone that is under way. What an entered stop awaits is visited
  pub record Running (p e : ℕ → ℕ) : Type 0 where
    pub behind : (d : ℕ) → p d ≤ e d
    pub ahead : (d : ℕ) → e d ≤ suc (p d)
    pub over : (w : ℕ) → w < count → (wait w).stop ≤ e (wait w).waiter → (wait w).until ≤ p (wait w).awaited

  -- a granted drone enters its next stop
  pub grant_running : (p e : ℕ → ℕ) → Running p e → (d : ℕ) → free P p d ≡ true → Running p (update e d (suc (p d)))
  grant_running p e r d f = record {
    behind = put_elim (λ c z. p c ≤ z) e d (suc (p d)) (omega arith) (λ c n. r.behind c);
    ahead = put_elim (λ c z. z ≤ suc (p c)) e d (suc (p d)) (omega arith) (λ c n. r.ahead c);
    over = λ w l h. put_elim (λ c z. (wait w).waiter ≡ c → (wait w).stop ≤ z → (wait w).until ≤ p (wait w).awaited) e d (suc (p d))
        (λ q m. by_cases (leb (wait w).stop (p d))
        (λ b. r.over w l (rw q (omega (arith, r.behind d, leb-true (wait w).stop (p d) b))))
        (λ b. free_open P p d f w l q (omega (arith, leb-false (wait w).stop (p d) b))))
        (λ c n q m. r.over w l (rw q m))
        (wait w).waiter refl h;
  }

  -- a drone that arrives has visited the stop that it entered
  pub arrive_running : (p e : ℕ → ℕ) → Running p e → (d : ℕ) → e d ≡ suc (p d) → Running (update p d (suc (p d))) e
  arrive_running p e r d u = record {
    behind = put_elim (λ c z. z ≤ e c) p d (suc (p d)) (omega arith) (λ c n. r.behind c);
    ahead = put_elim (λ c z. e c ≤ suc z) p d (suc (p d)) (omega arith) (λ c n. r.ahead c);
    over = λ w l h. omega (arith, r.over w l h, put_elim (λ c z. p c ≤ z) p d (suc (p d)) (omega arith) (λ c n. omega arith) (wait w).awaited);
  }
