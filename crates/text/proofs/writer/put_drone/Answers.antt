use native.Mathlib.Omega.{arith}
use lib.ListN.{drop}
use Rattle.tables.specs.Limits.{limits}
use Rattle.lines.proofs.WriteLaws.{put_put}
use Rattle.text.proofs.WriteLoop.{name_near}
use Rattle.text.proofs.writer.put_drone.Goals as goal

pub put_stop_lines-requires : goal.put_stop_lines-requires
put_stop_lines-requires c = let a = c.args in
    let h = name_near limits (drop a.row a.plan.now.names.now) c.put_name-next.ensures in
    (omega (arith, h, c.requires), c.requires.2, c.requires.3, c.requires.4, c.requires.5)

pub returns : goal.returns
returns c = put_put c.put_name-next.ensures c.put_stop_lines.ensures
