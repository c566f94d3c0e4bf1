use mathlib.Core.Path.{sym, ◌∙◌}
use Rattle.sound.proofs.Asking.{flag_more, flag_unmarked, flag_marked, flag_free}
use Rattle.sound.proofs.Asking.{flag_more, flag_unmarked, flag_marked, flag_free}
use mathlib.Core.Path.{sym, ◌∙◌}
use Rattle.sound.proofs.Asking.{flag_more, flag_unmarked, flag_marked, flag_free}
use Rattle.sound.proofs.records.flag_right.Goals as goal

pub returns-then-not-has_only_two_bits : goal.returns-then-not-has_only_two_bits
returns-then-not-has_only_two_bits c = flag_more _ _ (sym c.has_only_two_bits.ensures ∙ c.if-not-has_only_two_bits.true)

pub returns-then-is_fixed : goal.returns-then-is_fixed
returns-then-is_fixed c = flag_marked _ _ (sym c.has_only_two_bits.ensures ∙ c.if-not-has_only_two_bits.false) _ c.if-fixed.true (sym c.is_fixed.ensures ∙ c.if-is_fixed.true) c.is_turned.ensures

pub returns-else-is_fixed : goal.returns-else-is_fixed
returns-else-is_fixed c = flag_unmarked _ _ (sym c.has_only_two_bits.ensures ∙ c.if-not-has_only_two_bits.false) _ c.if-fixed.true c.is_fixed.ensures c.if-is_fixed.false

pub returns : goal.returns
returns c = flag_free _ _ (sym c.has_only_two_bits.ensures ∙ c.if-not-has_only_two_bits.false) _ c.if-fixed.false c.is_fixed-2.ensures
