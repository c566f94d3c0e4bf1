use Prim.Native.Nat.{ℕ}
use mathlib.Core.Path.{◌≡◌, sym, ◌∙◌}
use Rattle.raising.proofs.OrderLaws.{none_some}
use native.Mathlib.Omega.{arith}
use lib.ListN.{length-replicate}
use Rattle.below.proofs.Index.{zeros-at}
use Rattle.tables.specs.Limits.{limits}
use Rattle.raising.proofs.VerdictLaws.{judged_begun, walked_verdict, walked_rounds, rounds_from}
use Rattle.raising.proofs.worklist.fill.Goals as goal

pub walk-requires : goal.walk-requires
walk-requires c = record { flat_tables = (c.requires.0.tables, judged_begun _ _ _ _ _ _ _ _ _ _ c.requires.0 _ c.at_first.ensures.0 (λ d l. c.at_first.ensures.1 d (omega (arith, c.requires.0.tables.few_drones)) ∙ c.requires.2 d l)); table_len = (length-replicate {A = ℕ} limits.stops 0, zeros-at limits.stops, c.requires.0.has_legs, c.requires.0.short_legs) }

pub returns-then-all_last : goal.returns-then-all_last
returns-then-all_last c =
    let acyclic = walked_verdict _ _ _ _ _ _ _ _ _ _ c.requires.0 _ c.at_first.ensures.0 (λ d l. c.at_first.ensures.1 d (omega (arith, c.requires.0.tables.few_drones)) ∙ c.requires.2 d l) c.walk.ensures c.if-all_last.ensures in (
      acyclic,
      (λ table e. let same : c.walk.new.table ≡ table = cc in rw (← same)
          (rounds_from _ c.requires.0.tables.placed _ _ (λ d l. omega (arith, c.requires.2 d l)) _ _ (λ d l. c.at_first.ensures.1 d (omega (arith, c.requires.0.tables.few_drones))) (walked_rounds _ _ _ _ _ _ _ _ _ _ c.requires.0 _ c.at_first.ensures.0 (λ d l. c.at_first.ensures.1 d (omega (arith, c.requires.0.tables.few_drones)) ∙ c.requires.2 d l) c.walk.ensures (sym acyclic)), c.walk.ensures.size, λ v. omega (arith, c.walk.ensures.small v))),
    )

pub returns-else-all_last : goal.returns-else-all_last
returns-else-all_last c = (walked_verdict _ _ _ _ _ _ _ _ _ _ c.requires.0 _ c.at_first.ensures.0 (λ d l. c.at_first.ensures.1 d (omega (arith, c.requires.0.tables.few_drones)) ∙ c.requires.2 d l) c.walk.ensures c.if-all_last.ensures, λ table e. none_some e)
