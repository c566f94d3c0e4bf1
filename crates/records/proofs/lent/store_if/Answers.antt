-- `records::lent::store_if` meets its contract: at record i the first i records are those that the columns make. Assumes nothing.
use mathlib.Core.Path.{◌∙◌}
use native.Mathlib.Omega.{arith}
use Rattle.tables.specs.Limits.{limits}
use Rattle.tables.specs.Entries.{zero_dependency}
use Rattle.records.proofs.ColumnLaws.{gathered_record, gathered-length}
use Rattle.records.proofs.Overlaid.{overlaid-none, overlaid-more}
use Rattle.records.proofs.Seen.{stored_is}
use Rattle.records.proofs.lent.store_if.Goals as goal

pub loop-i-init : goal.loop-i-init
loop-i-init c = overlaid-none _ _

pub loop-i-preserved : goal.loop-i-preserved
loop-i-preserved c = let l = c.loop-i in
    let a = c.args in
    let size = gathered-length limits a.first_drones.now a.first_stops.now a.second_drones.now a.second_stops.now a.flags.now in
    overlaid-more _ _ _ l.i _ zero_dependency (omega (arith, size)) (omega arith) l.invariant (c.record_at.ensures ∙ gathered_record limits _ _ _ _ _ l.i (omega arith))

pub returns : goal.returns
returns c = stored_is limits _ _ _ _ c.stored_count-n.result c.loop-i.i c.stored_count-n.ensures.value (omega arith) c.loop-i.invariant
