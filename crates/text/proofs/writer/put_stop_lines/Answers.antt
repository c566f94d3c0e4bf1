use native.Mathlib.Omega.{arith}
use Rattle.lines.specs.Keys.{stops_key}
use Rattle.lines.proofs.WriteLaws.{put_put}
use Rattle.text.proofs.WriteLoop.{count_near}
use Rattle.text.proofs.writer.put_stop_lines.Goals as goal

pub put_stops-requires : goal.put_stops-requires
put_stops-requires c = (omega (arith, count_near stops_key c.args.count c.put_count-first.ensures, c.requires.0), c.requires.1, c.requires.2, c.requires.3, c.requires.4)

pub returns : goal.returns
returns c = put_put c.put_count-first.ensures c.put_stops.ensures
