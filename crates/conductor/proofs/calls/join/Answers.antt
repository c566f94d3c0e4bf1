-- `conductor::calls::join` meets its contract: the two plans' tests are what the joining asks, what it writes into zeroed columns does not depend on the third tables' records, and where it writes nothing they stay. Assumes nothing.
use mathlib.Core.Path.{refl, sym, ◌∙◌}
use Prim.Native.Nat.{ℕ}
use lib.ListN.{length-replicate}
use borrow.Author.Tests.{ltb-true, ltb-false}
use Rattle.tables.specs.Limits.{limits}
use Rattle.reading.specs.Replies.{reading_number}
use Rattle.joining.specs.Joining.{join_plans}
use Rattle.joining.specs.Replies.{join_meant}
use Rattle.joining.proofs.Cases.{third_below}
use Rattle.joining.proofs.SoundWrites.{plans_ready}
use Rattle.records.proofs.ColumnLaws.{zero_columns, gathered-length}
use Rattle.records.proofs.Seen.{tables_short, stored_rest}
use Rattle.conductor.specs.Changes.{is_join_unchanged}
use Rattle.conductor.proofs.Stored.{answered_stored, reserved_stored}
use Rattle.conductor.proofs.JoinLaws.{join_twice, own_plan, both_stand}
use Rattle.conductor.proofs.calls.join.Goals as goal

pub returns-then-below_full : goal.returns-then-below_full
returns-then-below_full c = record { answered_as = third_below limits _ _ _ (tables_short limits _ c.args.dependencies.now refl (ltb-true _ _ (sym c.below_full.ensures ∙ c.if-below_full.true))); past_full_kept = (refl, refl) }

pub join-joined-requires : goal.join-joined-requires
join-joined-requires c = plans_ready limits _ _ _ (both_stand limits _ _ _ _ _ c.standing-standing_1.ensures c.standing-standing_2.ensures c.first_failed.ensures)

pub returns : goal.returns
returns c = let a = c.args in
    let joined = c.join-joined in
    let written = c.is_joined in
    let stored = c.store_if.ensures in
    let stand = both_stand limits _ _ _ _ _ c.standing-standing_1.ensures c.standing-standing_2.ensures c.first_failed.ensures in
    let wide = ltb-false _ _ (sym c.below_full.ensures ∙ c.if-below_full.false) in record {
      answered_as = answered_stored limits is_join_unchanged (join_plans limits _ _) (join_twice limits _ _) _ _ _ _ _ _ _ _ _ _ _ a.dependencies.now _ _ _ _ _ wide (zero_columns limits) (join_meant joined.result) _ _ _ _ _ _ _ _ _ _ _ _ _ _ _ _ _ written.result
          (record { first_drones_lem = joined.auto.first_drones ∙ length-replicate {A = ℕ} limits.dependencies 0; first_stops_lem = joined.auto.first_stops ∙ length-replicate {A = ℕ} limits.dependencies 0; second_drones_lem = joined.auto.second_drones ∙ length-replicate {A = ℕ} limits.dependencies 0; second_stops_lem = joined.auto.second_stops ∙ length-replicate {A = ℕ} limits.dependencies 0; flag_bytes = joined.auto.flags ∙ length-replicate {A = ℕ} limits.dependencies 0 })
          (joined.ensures _ _ (own_plan _) (own_plan _) stand) written.ensures stored;
      past_full_kept = (
        stored_rest limits written.result _ a.dependencies.now _ (gathered-length limits _ _ _ _ _) stored,
        reserved_stored limits _ _ _ _ _ a.dependencies.now _ (is_join_unchanged (reading_number (join_meant joined.result))) written.result wide written.ensures stored,
      );
    }
