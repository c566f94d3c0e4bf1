-- The local tables are filled before they are asked; a law for each return. Assumes nothing.
use native.Mathlib.Omega.{arith}
use mathlib.Core.Path.{◌≡◌}
use Rattle.std.specs.Prelude.{Some, None}
use Rattle.std.proofs.lemmas.Result.{err_from_is_err_and}
use Rattle.tables.specs.Limits.{limits}
use Rattle.reading.specs.declared.replies.Refusal.TheVariants.{TooManyDependencies}
use Rattle.reading.proofs.StoredPlan.{fills, built-within, store_refused, store_many, store_taken}
use Rattle.reading.proofs.storing.store_plan.Goals as goal

pub overflow_cast-dependency_count : goal.overflow_cast-dependency_count
overflow_cast-dependency_count c =
    let some : c.build.result ≡ Some c.in_ok-built.built = grind arith in
    let r = built-within limits.dependencies _ _ c.build.ensures.answer _ some in
    omega (arith, r)

pub returns-in_err-check_plan : goal.returns-in_err-check_plan
returns-in_err-check_plan c = λ form names visited drone_flags.
    let p = err_from_is_err_and c.from_residual.result c.from_residual.ensures.1 in
    rw p.1 (store_refused limits _
    (fills _ _ _ _ _ _ _ c.from-drones.ensures c.stop_total-count.ensures c.fill_stops.ensures.owners c.fill_stops.ensures.numbers (omega (arith, c.requires.stops_fit)) (omega (arith, c.requires.stops_fit)))
    _ c.check_plan.ensures _ c.in_err-check_plan.was _ p.2)

pub returns-in_err-built : goal.returns-in_err-built
returns-in_err-built c = λ form names visited drone_flags.
    let none : c.build.result ≡ None = grind arith in
    let many : c.in_err-built.field-0.0 ≡ TooManyDependencies = grind arith in
    let p = err_from_is_err_and c.from_residual-in_err-built.result c.from_residual-in_err-built.ensures.1 in
    rw (p.1, p.2, many) (store_many limits _
    (fills _ _ _ _ _ _ _ c.from-drones.ensures c.stop_total-count.ensures c.fill_stops.ensures.owners c.fill_stops.ensures.numbers (omega (arith, c.requires.stops_fit)) (omega (arith, c.requires.stops_fit)))
    _ c.check_plan.ensures c.in_ok-check_plan.was _ c.build.ensures.answer _ c.build.ensures.written none)

pub returns : goal.returns
returns c = λ form names visited drone_flags.
    let some : c.build.result ≡ Some c.in_ok-built.built = grind arith in
    store_taken limits _
    (fills _ _ _ _ _ _ _ c.from-drones.ensures c.stop_total-count.ensures c.fill_stops.ensures.owners c.fill_stops.ensures.numbers (omega (arith, c.requires.stops_fit)) (omega (arith, c.requires.stops_fit)))
    _ c.check_plan.ensures c.in_ok-check_plan.was _ c.build.ensures.answer _ c.build.ensures.written _ some
