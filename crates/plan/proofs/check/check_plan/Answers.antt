-- What the two searches found chooses the answer.
use mathlib.Core.List.{[]}
use native.Mathlib.Omega.{arith}
use Rattle.std.proofs.lemmas.Result.{err_from_is_err_and}
use Rattle.near.specs.Near.{meets_in}
use Rattle.plan.proofs.CheckLaws.{partner_in, check_fault, check_collision, check_fine}
use Rattle.plan.proofs.check.check_plan.Goals as goal

pub returns-in_err-check_stops : goal.returns-in_err-check_stops
returns-in_err-check_stops c = let p = err_from_is_err_and c.from_residual.result c.from_residual.ensures.1 in rw (p.1, p.2) (check_fault _ _ _ (c.in_err-check_stops.ensures (meets_in c.args.pairs.now)))

pub stop_at-requires : goal.stop_at-requires
stop_at-requires c = let l = (c.in-Some.ensures []).0 in (omega (arith, l, c.requires.1), omega (arith, l, c.requires.2))

pub stop_at-requires-in-Some : goal.stop_at-requires-in-Some
stop_at-requires-in-Some c = let l = partner_in _ _ (c.in-Some.ensures []) in (omega (arith, l, c.requires.1), omega (arith, l, c.requires.2))

pub returns-in-None : goal.returns-in-None
returns-in-None c = check_fine _ _ _ (c.in_ok-check_stops.ensures (meets_in c.args.pairs.now)) (c.in-None.ensures c.args.numbers.now)

pub returns-in-Some : goal.returns-in-Some
returns-in-Some c = check_collision _ _ _ (c.in_ok-check_stops.ensures (meets_in c.args.pairs.now)) _ _ _ (c.in-Some.ensures c.args.numbers.now) c.stop_at.ensures c.stop_at-in-Some.ensures
