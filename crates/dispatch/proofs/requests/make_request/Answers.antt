-- `dispatch::requests::make_request` meets its contract: the goals that the check leaves. Assumes nothing.
use native.Mathlib.Omega.{arith}
use Rattle.tables.specs.Limits.{limits}
use Rattle.dispatch.proofs.MakeLaws.{grant-fits, cost-fits}
use Rattle.dispatch.proofs.requests.make_request.Goals as goal

pub of_grant-requires : goal.of_grant-requires
of_grant-requires c = grant-fits limits (omega arith) _ _ _ _ c.grant-reply.ensures

pub of_cost-requires : goal.of_cost-requires
of_cost-requires c = cost-fits limits (omega arith) (omega arith) (omega arith) _ _ c.cost-reply.ensures
