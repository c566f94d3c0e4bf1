use native.Mathlib.Omega.{arith}
use Rattle.tables.specs.Limits.{limits}
use Rattle.lines.proofs.WriteLaws.{put_put}
use Rattle.text.proofs.NameInRow.{name_within, part-within, name_put}
use Rattle.text.proofs.writer.put_name.Goals as goal

pub overflow_add-end : goal.overflow_add-end
overflow_add-end c = let a = c.args in
    let h = name_within limits a.names.now a.row _ c.name_len.ensures in
    omega (arith, h, c.requires)

pub slice_bounds-put_bytes-end-2 : goal.slice_bounds-put_bytes-end-2
slice_bounds-put_bytes-end-2 c = let a = c.args in
    let h = name_within limits a.names.now a.row _ c.name_len.ensures in
    omega (arith, h, c.requires)

pub put_bytes-feed-requires : goal.put_bytes-feed-requires
put_bytes-feed-requires c = let a = c.args in
    let h = part-within limits a.names.now a.row _ c.name_len.ensures in
    omega (arith, h, c.requires, c.put_bytes-name.ensures.next_is)

pub put_byte-requires : goal.put_byte-requires
put_byte-requires c = let a = c.args in
    let h = part-within limits a.names.now a.row _ c.name_len.ensures in
    omega (arith, h, c.requires, c.put_bytes-name.ensures.next_is, c.put_bytes-feed.ensures.next_is)

pub returns : goal.returns
returns c = let a = c.args in
    put_put (put_put c.put_bytes-name.ensures (name_put limits a.names.now a.row _ c.name_len.ensures c.put_bytes-feed.ensures)) c.put_byte.ensures
