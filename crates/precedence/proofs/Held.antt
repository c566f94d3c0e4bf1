-- Rounds in which some drones are held, with legs of one. A single move is a round in which all others are held. Assumes nothing.
use mathlib.Core.Path.{◌≡◌}
use mathlib.Core.Bool.{Bool, true, false}
use Prim.Native.Nat.{ℕ, zero, suc, ◌+◌, ◌≤◌, ◌<◌}
use native.Mathlib.Omega.{arith}
use Rattle.below.proofs.Count.{count_le}
use Rattle.below.proofs.Every.{any_below-none}
use Rattle.below.proofs.Greatest.{max-at}
use Rattle.below.proofs.Tests.{by_cases}
use Rattle.below.specs.Below.{any_below, count_below, max_below}
use Rattle.precedence.proofs.Ahead.{fewer_refl, round_ahead, remaining_ahead}
use Rattle.precedence.proofs.Rounds.{round_le, finished_if}
use Rattle.precedence.proofs.Legs.{reached-visited, one_no_empty, one_played}
use Rattle.precedence.specs.Graph.{Plan, Formed, round, play, finished, remaining, Cycle}
use Rattle.precedence.specs.Graph.{held_round, held_play, held_rounds, Ahead, reached, one_round}

module _ (P : Plan) where
  open P use {drones, last, count, wait}

  module _ (formed : Formed P) where
    pub held_ahead : (h : ℕ → Bool) (p : ℕ → ℕ) → Ahead drones p (held_round P h p)
    unfolding held_round
    held_ahead h p d l = by_cases (h d) (λ e. rw e (omega arith)) (λ e. rw e (round_le P p d))

    held_none : (h : ℕ → Bool) (p : ℕ → ℕ) (d : ℕ) → h d ≡ false → held_round P h p d ≡ round P p d
    unfolding held_round
    held_none h p d e = rw e

    held_rounds_le : (held : ℕ → ℕ → Bool) (k : ℕ) → held_rounds P held k ≤ k
    unfolding held_rounds
    held_rounds_le held k = count_le k (λ i. any_below drones (held i))

    held_rounds_some : (held : ℕ → ℕ → Bool) (k : ℕ) → any_below drones (held k) ≡ true → held_rounds P held (suc k) ≡ suc (held_rounds P held k)
    unfolding held_rounds count_below
    held_rounds_some held k e = rw e

    held_rounds-none : (held : ℕ → ℕ → Bool) (k : ℕ) → any_below drones (held k) ≡ false → held_rounds P held (suc k) ≡ held_rounds P held k
    unfolding held_rounds count_below
    held_rounds-none held k e = rw e

    -- k rounds go at least as far as m undelayed ones, where all but m of them may hold somebody
    pub held_play_ahead : (held : ℕ → ℕ → Bool) (p : ℕ → ℕ) (k m : ℕ) → m + held_rounds P held k ≤ k → Ahead drones (play P p m) (held_play P held p k)
    unfolding held_play play
    held_play_ahead held p zero zero h d l = omega arith
    held_play_ahead held p zero (suc m) h d l = absurd (omega arith)
    held_play_ahead held p (suc k) zero h d l = omega (arith, held_play_ahead held p k 0 (omega (arith, held_rounds_le held k)) d l, held_ahead (held k) (held_play P held p k) d l)
    held_play_ahead held p (suc k) (suc m) h d l = by_cases (any_below drones (held k))
        (λ e. omega (arith, held_play_ahead held p k (suc m) (omega (arith, held_rounds_some held k e)) d l, held_ahead (held k) (held_play P held p k) d l))
        (λ e. omega (
          arith,
          held_none (held k) (held_play P held p k) d (any_below-none drones (held k) e d l),
          round_ahead P P formed (fewer_refl P) (play P p m) (held_play P held p k) (held_play_ahead held p k m (omega (arith, held_rounds-none held k e))) d l,
        ))

    module _ (acyclic : Cycle P → ⊥) where
      -- T6: a held round raises nobody's remaining rounds
      pub held_remaining : (h : ℕ → Bool) (p : ℕ → ℕ) (d : ℕ) → d < drones → remaining P one_round (held_round P h p) d ≤ remaining P one_round p d
      held_remaining h p d l = remaining_ahead P P formed (fewer_refl P) formed acyclic one_round p (held_round P h p) (one_no_empty P p) (held_ahead h p) d l

      -- everybody is finished where its remaining rounds are played
      landed : (p : ℕ → ℕ) (d : ℕ) → d < drones → last d ≤ play P p (remaining P one_round p d) d
      unfolding remaining
      landed p d l = rw (one_played P p (reached P one_round p d (last d))) at (reached-visited P one_round formed acyclic p (one_no_empty P p) d (last d) l (omega arith))

      -- T6: R rounds and one more for each round with somebody held finish everybody
      pub held_finish : (held : ℕ → ℕ → Bool) (p : ℕ → ℕ) (n : ℕ) → max_below drones (remaining P one_round p) + held_rounds P held n ≤ n → finished P (held_play P held p n) ≡ true
      held_finish held p n h = finished_if P (held_play P held p n) (λ d l. omega (
        arith,
        landed p d l,
        held_play_ahead held p n (remaining P one_round p d) (omega (arith, max-at drones (remaining P one_round p) d l)) d l,
      ))
