-- `conductor::calls::read_given` meets its contract: what a reading into zeroed columns writes does not depend on the records, and where it writes nothing they stay. Assumes nothing.
use mathlib.Core.Path.{refl, sym, ◌∙◌}
use Prim.Native.Nat.{ℕ}
use lib.ListN.{length-replicate}
use borrow.Author.Tests.{ltb-true, ltb-false}
use Rattle.tables.specs.Limits.{limits}
use Rattle.reading.specs.Replies.{reading_number, reading_meant}
use Rattle.reading.specs.Reading.{site_of, read_plan}
use Rattle.reading.proofs.EntryCases.{tables_small}
use Rattle.records.proofs.ColumnLaws.{zero_columns, gathered-length}
use Rattle.records.proofs.Seen.{tables_short, stored_rest}
use Rattle.conductor.specs.Changes.{is_unchanged}
use Rattle.conductor.proofs.Stored.{answered_stored, reserved_stored}
use Rattle.conductor.proofs.ReadLaws.{reading_numbers, read_twice}
use Rattle.conductor.proofs.calls.read_given.Goals as goal

pub returns-then-below_full : goal.returns-then-below_full
returns-then-below_full c = record { answered_as = tables_small limits _ _ _ (tables_short limits _ c.args.dependencies.now refl (ltb-true _ _ (sym c.below_full.ensures ∙ c.if-below_full.true))); past_full_kept = (refl, refl) }

pub returns : goal.returns
returns c = let a = c.args in
    let read = c.read_given-reading in
    let written = c.is_written in
    let stored = c.store_if.ensures in
    let wide = ltb-false _ _ (sym c.below_full.ensures ∙ c.if-below_full.false) in record {
      answered_as = answered_stored limits is_unchanged (read_plan limits (site_of a.site) a.text.now) (read_twice limits reading_numbers (site_of a.site) a.text.now) _ _ _ _ _ _ _ _ _ _ _ a.dependencies.now _ _ _ _ _ wide (zero_columns limits) (reading_meant read.result) _ _ _ _ _ _ _ _ _ _ _ _ _ _ _ _ _ written.result
          (record { first_drones_lem = read.auto.first_drones ∙ length-replicate {A = ℕ} limits.dependencies 0; first_stops_lem = read.auto.first_stops ∙ length-replicate {A = ℕ} limits.dependencies 0; second_drones_lem = read.auto.second_drones ∙ length-replicate {A = ℕ} limits.dependencies 0; second_stops_lem = read.auto.second_stops ∙ length-replicate {A = ℕ} limits.dependencies 0; flag_bytes = read.auto.flags ∙ length-replicate {A = ℕ} limits.dependencies 0 })
          read.ensures written.ensures stored;
      past_full_kept = (
        stored_rest limits written.result _ a.dependencies.now _ (gathered-length limits _ _ _ _ _) stored,
        reserved_stored limits _ _ _ _ _ a.dependencies.now _ (is_unchanged (reading_number (reading_meant read.result))) written.result wide written.ensures stored,
      );
    }
