use native.Mathlib.Omega.{arith}
use mathlib.Core.Path.{refl}
use Rattle.lines.specs.Keys.{agents_key}
use Rattle.text.proofs.WriteLoop.{count_near}
use Rattle.small_plans.specs.Check.{checked_route_at}
use Rattle.small_plans.proofs.Writing.{name_a, name_b, route_near, plan_put}
use Rattle.small_plans.proofs.put_plan.Goals as goal

pub put_route-other-requires : goal.put_route-other-requires
put_route-other-requires c = (omega (arith, c.put_bytes-agents.ensures.next_is, count_near agents_key 2 c.put_count-drones.ensures), refl, c.requires.0)

pub put_route-last-requires : goal.put_route-last-requires
put_route-last-requires c = (omega (arith, c.put_bytes-agents.ensures.next_is, count_near agents_key 2 c.put_count-drones.ensures, route_near name_a c.args.first refl c.requires.0 c.put_route-other.ensures), refl, c.requires.1)

pub put_bytes-requires : goal.put_bytes-requires
put_bytes-requires c = omega (arith, c.put_bytes-agents.ensures.next_is, count_near agents_key 2 c.put_count-drones.ensures, route_near name_a c.args.first refl c.requires.0 c.put_route-other.ensures, route_near name_b c.args.second refl c.requires.1 c.put_route-last.ensures)

pub returns : goal.returns
returns c = plan_put (checked_route_at c.args.first) (checked_route_at c.args.second) c.put_bytes-agents.ensures c.put_count-drones.ensures c.put_route-other.ensures c.put_route-last.ensures c.put_bytes.ensures
