-- One law for each case of the count line, with what the lines `go=` stored.
use mathlib.Core.Path.{refl, sym, ◌∙◌, ap}
use native.Mathlib.Omega.{arith}
use Rattle.std.proofs.lemmas.Result.{err_from_is_err_and}
use Rattle.text.proofs.DroneCases.{stops_in_lem, stops_over_lem, stops_refused, stored-none}
use Rattle.text.specs.LinesRead.{stops_end}
use Rattle.tables.specs.Limits.{limits}
use Rattle.text.proofs.reader.read_stops.Goals as goal

pub returns-in_err-count : goal.returns-in_err-count
returns-in_err-count c =
    let p = err_from_is_err_and c.from_residual.result c.from_residual.ensures.1 in
    rw (p.1, p.2, stops_refused limits _ _ _ _ _ c.count_line.ensures _ c.in_err-count.was) (record { same = refl; stored = stored-none _ _ _ _ _ _ _ _; names_kept = refl })

pub returns-then-total-count : goal.returns-then-total-count
returns-then-total-count c = rw (stops_over_lem limits _ _ _ _ _ c.count_line.ensures _ _ c.in_ok-count.was c.if-total-count.true) (record { same = refl; stored = stored-none _ _ _ _ _ _ _ _; names_kept = refl })

pub returns-in_err-next : goal.returns-in_err-next
returns-in_err-next c = let a = c.args in
    let g = c.go_lines.ensures in
    let p = err_from_is_err_and c.from_residual-in_err-next.result c.from_residual-in_err-next.ensures.1 in
    rw (p.1, p.2, stops_in_lem limits a.form a.text.now a.at a.total _ c.count_line.ensures _ _ c.in_ok-count.was (omega (arith, c.if-total-count.false, c.requires.1)))
    (record { same = refl; stored = record { answer_is = ap (stops_end _) (sym c.in_err-next.was ∙ g.answer_is); counts_are = refl; locations_are = g.locations_are; times_are = g.times_are; legs_are = g.legs_are }; names_kept = refl })

pub returns : goal.returns
returns c = let a = c.args in
    let g = c.go_lines.ensures in
    rw (stops_in_lem limits a.form a.text.now a.at a.total _ c.count_line.ensures _ _ c.in_ok-count.was (omega (arith, c.if-total-count.false, c.requires.1)))
    (record { same = refl; stored = record { answer_is = ap (stops_end _) (sym c.in_ok-next.was ∙ g.answer_is); counts_are = refl; locations_are = g.locations_are; times_are = g.times_are; legs_are = g.legs_are }; names_kept = refl })
