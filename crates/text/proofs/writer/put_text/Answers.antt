use native.Mathlib.Omega.{arith}
use Rattle.tables.specs.Limits.{limits}
use Rattle.lines.specs.Keys.{agents_key}
use Rattle.text.proofs.WriteLoop.{count_near, lines_near}
use Rattle.text.proofs.WriteWhole.{text_put}
use Rattle.text.proofs.writer.put_text.Goals as goal

pub put_drones-last-requires : goal.put_drones-last-requires
put_drones-last-requires c = let p = c.requires in
    let h = count_near agents_key c.args.drones c.put_count-first.ensures in
    (omega (arith, c.put_form-agents.ensures.next_is, h), p)

pub put_bytes-requires : goal.put_bytes-requires
put_bytes-requires c = let p = c.requires in
    let a = c.args in
    let h = count_near agents_key a.drones c.put_count-first.ensures in
    let l = lines_near limits a.form a.drones a.plan.now.names.now a.plan.now.stop_counts.now a.plan.now.locations.now a.plan.now.times.now a.plan.now.legs.now c.put_drones-last.ensures in
    omega (arith, c.put_form-agents.ensures.next_is, h, l, p.drones_in, p.stops_in_lem)

pub returns : goal.returns
returns c = let a = c.args in
    text_put limits a.form a.drones a.plan.now.names.now a.plan.now.stop_counts.now a.plan.now.locations.now a.plan.now.times.now a.plan.now.legs.now
    c.put_form-agents.ensures c.put_count-first.ensures c.put_drones-last.ensures c.put_bytes.ensures
