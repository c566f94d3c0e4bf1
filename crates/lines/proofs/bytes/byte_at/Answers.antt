-- `bytes::byte_at` meets its contract.
use mathlib.Core.Path.{sym, ◌∙◌}
use lib.ListN.{get_or-eq_default}
use Rattle.lines.proofs.ByteLaws.{get_d_in}
use Rattle.lines.specs.Bytes.{byte_at}
use Rattle.lines.proofs.bytes.byte_at.Goals as goal

pub returns-then-at-text : goal.returns-then-at-text
unfolding byte_at
returns-then-at-text c = c.from.ensures ∙ get_d_in c.args.text.now _ 0 256 c.if-at-text.true

pub returns-else-at-text : goal.returns-else-at-text
unfolding byte_at
returns-else-at-text c = sym (get_or-eq_default c.args.text.now 256 c.if-at-text.false)
