use native.Mathlib.Omega.{arith}
use mathlib.Core.Path.{refl, ◌∙◌}
use lib.ListN.{length-set}
use Rattle.tables.specs.Limits.{limits}
use Rattle.dispatch.proofs.ListLaws.{made_none, made_more, requests_found}
use Rattle.dispatch.proofs.requests.make_requests.Goals as goal

pub loop-i-init : goal.loop-i-init
loop-i-init c = (refl, refl, refl, refl, made_none limits c.args.requests.now _ _, refl)

pub loop-i-preserved : goal.loop-i-preserved
loop-i-preserved c = let l = c.loop-i in
    let p = c.make_request in (
      p.auto.visited ∙ l.invariant.0,
      p.auto.drone_flags ∙ l.invariant.1,
      p.auto.dependencies ∙ l.invariant.2,
      length-set l.answers _ _ ∙ l.invariant.3,
      made_more limits _ _ _ _ c.args.requests.now _ _ _ l.invariant.4 p.ensures.0,
      p.ensures.1 ∙ l.invariant.5,
    )

pub returns : goal.returns
returns c = let l = c.loop-i in
    (requests_found limits l.i _ c.args.requests.now _ _ _ _ (omega arith) c.requires.1 l.invariant.4, l.invariant.5)
