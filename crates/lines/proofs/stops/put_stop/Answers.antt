-- Four pieces, one after the other.
use native.Mathlib.Omega.{arith}
use Rattle.lines.proofs.NumberCases.{field-near, field_as}
use Rattle.lines.proofs.WriteLaws.{put_put}
use Rattle.lines.proofs.stops.put_stop.Goals as goal

pub put_field-b-requires : goal.put_field-b-requires
put_field-b-requires c = omega (arith, c.put_bytes-a.ensures.next_is, c.requires)

pub put_field-c-requires : goal.put_field-c-requires
put_field-c-requires c = let h = field-near _ _ c.put_field-b.ensures in
    omega (arith, h, c.put_bytes-a.ensures.next_is, c.requires)

pub put_leg-requires : goal.put_leg-requires
put_leg-requires c = let h = field-near _ _ c.put_field-b.ensures in
    let k = field-near _ _ c.put_field-c.ensures in
    omega (arith, h, k, c.put_bytes-a.ensures.next_is, c.requires)

pub returns : goal.returns
returns c = put_put (put_put (put_put c.put_bytes-a.ensures c.put_field-b.ensures) (field_as _ c.time_end.ensures c.put_field-c.ensures)) c.put_leg.ensures
