use native.Mathlib.Omega.{arith}
use mathlib.Core.Path.{refl}
use Rattle.small_plans.proofs.Listed.{places, moments}
use Rattle.small_plans.proofs.Writing.{count_few, part_room, route_put}
use Rattle.small_plans.proofs.put_route.Goals as goal

pub put_stop_lines-requires : goal.put_stop_lines-requires
unfolding places moments
put_stop_lines-requires c = let r = c.args.route in
    let h = count_few r in
    let n = c.stop_count-count.ensures in
    let i = c.requires.2 in
    (omega (arith, c.put_bytes-next.ensures.next_is, c.requires.0, c.requires.1), omega (arith, n, h), part_room places r _ refl i n, part_room moments r _ refl i n, omega (arith, n, h))

pub returns : goal.returns
unfolding places moments
returns c = route_put _ c.args.route _ c.requires.2 c.stop_count-count.ensures c.put_bytes-next.ensures c.put_stop_lines.ensures
