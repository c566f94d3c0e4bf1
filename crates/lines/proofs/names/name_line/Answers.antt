-- One law for each return: the key, the line feed, the name.
use native.Mathlib.Omega.{arith}
use mathlib.Core.Path.{◌≡◌, refl, sym, ◌∙◌}
use mathlib.Core.Bool.{true}
use Prim.Native.Nat.{◌+◌, ◌≤◌}
use lib.ListN.{length}
use Rattle.lines.proofs.ByteLaws.{is_at_in}
use Rattle.lines.proofs.NameCases.{end_within, name_bad, name_is, name_none, name_open}
use Rattle.lines.specs.Bytes.{is_at}
use Rattle.lines.specs.Keys.{name_key}
use Rattle.lines.proofs.names.name_line.Goals.{Else-end-text, Else-not-starts}
use Rattle.lines.proofs.names.name_line.Goals as goal

-- the key stands at the line's start, past the first test, so the line's text starts within the text
keyed : (c : Else-not-starts) → is_at c.args.text.now c.args.at name_key ≡ true
keyed c = sym c.starts.ensures ∙ c.if-not-starts.false

within : (c : Else-not-starts) → c.args.at + 5 ≤ length c.args.text.now
within c = is_at_in _ _ _ _ ((let the_keyed : is_at c.args.text.now c.args.at name_key ≡ true = sym c.starts.ensures ∙ c.if-not-starts.false in the_keyed)) refl

ends : (c : Else-end-text) → (c.args.at + 5 ≤ c.line_end-end.result) × (c.line_end-end.result ≤ length c.args.text.now)
ends c = rw c.line_end-end.ensures (end_within _ _ ((let the_within : c.args.at + 5 ≤ length c.args.text.now = is_at_in _ _ _ _ ((let the_keyed : is_at c.args.text.now c.args.at name_key ≡ true = sym c.starts.ensures ∙ c.if-not-starts.false in the_keyed)) refl in the_within)))

pub returns-then-not-starts : goal.returns-then-not-starts
returns-then-not-starts c = sym (name_none _ _ _ (sym c.starts.ensures ∙ c.if-not-starts.true))

pub overflow_add-start : goal.overflow_add-start
overflow_add-start c = let h = within (goal.at.overflow_add-start c).Else-not-starts in omega arith

pub returns-then-end-text : goal.returns-then-end-text
returns-then-end-text c = sym (name_open _ _ _ _ (keyed (goal.at.returns-then-end-text c).Else-not-starts) c.line_end-end.ensures c.if-end-text.true)

pub slice_bounds-text_name-count : goal.slice_bounds-text_name-count
slice_bounds-text_name-count c = (ends (goal.at.slice_bounds-text_name-count c).Else-end-text).0

pub slice_bounds-text_name-start : goal.slice_bounds-text_name-start
slice_bounds-text_name-start c = (ends (goal.at.slice_bounds-text_name-start c).Else-end-text).0

pub slice_bounds-text_name-end : goal.slice_bounds-text_name-end
slice_bounds-text_name-end c = (ends (goal.at.slice_bounds-text_name-end c).Else-end-text).1

pub returns-then-not-text_name : goal.returns-then-not-text_name
returns-then-not-text_name c = sym (name_bad _ _ _ _ (keyed (goal.at.returns-then-not-text_name c).Else-not-starts) c.line_end-end.ensures c.if-end-text.false (sym c.text_name.ensures ∙ c.if-not-text_name.true))

pub returns : goal.returns
returns c = sym (name_is _ _ _ _ (keyed (goal.at.returns c).Else-not-starts) c.line_end-end.ensures c.if-end-text.false (sym c.text_name.ensures ∙ c.if-not-text_name.false))
