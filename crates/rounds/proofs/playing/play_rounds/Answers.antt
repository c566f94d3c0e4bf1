use Prim.Native.Nat.{ℕ}
use mathlib.Core.Path.{refl, ◌∙◌}
use native.Mathlib.Omega.{arith}
use lib.ListN.{length-replicate}
use Rattle.below.proofs.Fill.{fill_length, fill_at}
use Rattle.below.proofs.Index.{zeros-at}
use Rattle.tables.specs.Limits.{limits}
use Rattle.rounds.proofs.OneRound.{aloft_start}
use Rattle.rounds.proofs.PlayingLoop.{playing_start, playing_end, playing_early, playing_small, playing_round, playing_less}
use Rattle.rounds.proofs.Readiness.{ready_formed, ready_acyclic, ready_some, ready_rounds, ready_cost}
use Rattle.rounds.proofs.playing.play_rounds.Goals as goal

pub link-requires-clause-head_len : goal.link-requires-clause-head_len
link-requires-clause-head_len c = (length-replicate {A = ℕ} limits.stops 0, length-replicate {A = ℕ} limits.dependencies 0, zeros-at limits.stops)

pub loop-head-init : goal.loop-head-init
loop-head-init c = playing_start _ (ready_formed _ _ _ _ _ _ _ _ _ _ c.requires) (ready_acyclic _ _ _ _ _ _ _ _ _ _ c.requires) _ _ _ _ (ready_some _ _ _ _ _ _ _ _ _ _ c.requires) (aloft_start _ _ _ _ _ _ _ _ c.requires.tables _ _ c.link.ensures _ _ _ (fill_length _ _ _ _ c.copy_places.ensures ∙ refl) (length-replicate {A = ℕ} limits.drones 0) c.first_links.ensures.0 (zeros-at limits.drones) c.first_links.ensures.1) (fill_at _ _ _ _ c.copy_places.ensures c.requires.tables.few_drones) (λ d l. zeros-at limits.drones d)

pub overflow_add-cost : goal.overflow_add-cost
overflow_add-cost c = omega (arith, playing_small _ (ready_formed _ _ _ _ _ _ _ _ _ _ c.requires) (ready_acyclic _ _ _ _ _ _ _ _ _ _ c.requires) _ _ _ _ (ready_some _ _ _ _ _ _ _ _ _ _ c.requires) c.loop-head.invariant c.unfinished-left.ensures.0 c.if-left-eq0.false, ready_cost _ _ _ _ _ _ _ _ _ _ c.requires (omega arith))

pub overflow_add-k : goal.overflow_add-k
overflow_add-k c = omega (arith, playing_early _ (ready_formed _ _ _ _ _ _ _ _ _ _ c.requires) (ready_acyclic _ _ _ _ _ _ _ _ _ _ c.requires) _ _ _ _ (ready_some _ _ _ _ _ _ _ _ _ _ c.requires) c.loop-head.invariant c.unfinished-left.ensures.0 c.if-left-eq0.false, ready_rounds _ _ _ _ _ _ _ _ _ _ c.requires)

pub loop-head-smaller : goal.loop-head-smaller
loop-head-smaller c = playing_less _ (ready_formed _ _ _ _ _ _ _ _ _ _ c.requires) (ready_acyclic _ _ _ _ _ _ _ _ _ _ c.requires) _ _ _ _ (ready_some _ _ _ _ _ _ _ _ _ _ c.requires) c.loop-head.invariant c.unfinished-left.ensures.0 c.if-left-eq0.false c.play_round.ensures.0 c.play_round.ensures.1

pub loop-head-preserved : goal.loop-head-preserved
loop-head-preserved c = playing_round _ (ready_formed _ _ _ _ _ _ _ _ _ _ c.requires) (ready_acyclic _ _ _ _ _ _ _ _ _ _ c.requires) _ _ _ _ (ready_some _ _ _ _ _ _ _ _ _ _ c.requires) c.loop-head.invariant c.unfinished-left.ensures.0 c.if-left-eq0.false c.play_round.ensures.0 c.play_round.ensures.1

pub returns : goal.returns
returns c = playing_end _ (ready_formed _ _ _ _ _ _ _ _ _ _ c.requires) (ready_acyclic _ _ _ _ _ _ _ _ _ _ c.requires) _ _ _ _ (ready_some _ _ _ _ _ _ _ _ _ _ c.requires) c.loop-head.invariant c.unfinished-left.ensures.0 c.if-left-eq0.true
