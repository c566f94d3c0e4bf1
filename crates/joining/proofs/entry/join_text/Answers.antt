use mathlib.Core.Path.{sym, ◌∙◌}
use Prim.Native.Nat.{◌*◌, ◌≤◌}
use native.Mathlib.Omega.{arith}
use lib.ListN.{length}
use lib.Seq.{length-take-le}
use Rattle.tables.specs.Limits.{limits}
use Rattle.joining.proofs.Cases.{copied, pairs_room, copied_asked, too_long, not_too_long}
use Rattle.joining.proofs.entry.join_text.Goals.{After-pair_count-numbers}
use Rattle.joining.proofs.entry.join_text.Goals as goal

pub returns-then-text_length-gt-MAX_TEXT : goal.returns-then-text_length-gt-MAX_TEXT
returns-then-text_length-gt-MAX_TEXT c = too_long limits (omega arith) _ c.requires.copyable.2 _ _ c.requires.at_full_size c.text_length.ensures c.if-text_length-gt-MAX_TEXT.true

-- the numbers of the pairs are entries of both tables
here : (c : After-pair_count-numbers) → 2 * c.pair_count-numbers.result ≤ length c.args.first.now.pairs.now
here c = omega (arith, c.requires.copyable.2.has_pairs, c.pair_count-numbers.ensures.1)

there : (c : After-pair_count-numbers) → 2 * c.pair_count-numbers.result ≤ length c.zero_all.new.pairs
there c = let room = pairs_room limits (omega arith) _ c.requires.copyable.2 _ c.requires.at_full_size _ c.zero_all.ensures (omega arith) in omega (arith, room, c.pair_count-numbers.ensures.1)

pub slice_bounds-copy-end-2 : goal.slice_bounds-copy-end-2
slice_bounds-copy-end-2 c = there (goal.at.slice_bounds-copy-end-2 c).After-pair_count-numbers

pub slice_bounds-copy-end-3 : goal.slice_bounds-copy-end-3
slice_bounds-copy-end-3 c = sym (length-take-le _ c.zero_all.new.pairs (there (goal.at.slice_bounds-copy-end-3 c).After-pair_count-numbers))

pub copy-requires : goal.copy-requires
copy-requires c =
    let at = (goal.at.copy-requires c).After-pair_count-numbers in
    length-take-le _ c.args.first.now.pairs.now (here at) ∙ sym (length-take-le _ c.zero_all.new.pairs (there at))

pub join_lines-requires-clause-lines_asked : goal.join_lines-requires-clause-lines_asked
join_lines-requires-clause-lines_asked c =
    let at = (goal.at.join_lines-requires-clause-lines_asked c).After-pair_count-numbers in
    copied_asked limits (omega arith) _ c.requires.copyable.2 _ c.requires.at_full_size _ c.zero_all.ensures (omega arith) _ c.pair_count-numbers.ensures.0 _ (copied _ _ _ _ (here at) (there at) c.copy.ensures)

pub returns : goal.returns
returns c =
    let at = (goal.at.returns c).After-pair_count-numbers in
    not_too_long limits (omega arith) _ c.requires.copyable.2 _ _ c.requires.at_full_size c.text_length.ensures c.if-text_length-gt-MAX_TEXT.false _ c.zero_all.ensures _ c.pair_count-numbers.ensures.0 _ (copied _ _ _ _ (here at) (there at) c.copy.ensures) _ _ (c.join_lines.ensures _ _)
