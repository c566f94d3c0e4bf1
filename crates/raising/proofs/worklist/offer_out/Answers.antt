use Rattle.std.proofs.lemmas.Result.{err_from_is_err_and}
use mathlib.Core.Path.{refl}
use Rattle.tables.specs.Limits.{limits}
use Rattle.raising.proofs.LogLaws.{log_now}
use Rattle.raising.proofs.GoLaws.{goes_then, goes-full}
use Rattle.raising.proofs.worklist.offer_out.Goals as goal

pub returns-in_err-end : goal.returns-in_err-end
returns-in_err-end c = let p = err_from_is_err_and c.from_residual.result c.from_residual.ensures.1 in rw (p.1, p.2) (goes-full c.requires.raisable.0 refl c.in_err-end.ensures)

pub offer_waits-requires : goal.offer_waits-requires
offer_waits-requires c = record { raisable = (c.requires.raisable.0, c.requires.raisable.1, c.requires.raisable.2); log_at = log_now limits c.in_ok-end.ensures.logs c.requires.log_at }

pub returns : goal.returns
returns c = goes_then c.requires.raisable.0 c.in_ok-end.ensures c.offer_waits.ensures
