-- A law for each return; the tables that reading asks for are the zeroed ones. Assumes nothing.
use mathlib.Core.Path.{sym, ◌∙◌}
use native.Mathlib.Omega.{arith}
use Rattle.tables.specs.Limits.{limits}
use Rattle.reading.proofs.EntryCases.{tables_small, after_size, lines_asked, pairs_zeroed, site_read_lem}
use Rattle.reading.proofs.entry.read_given.Goals as goal

pub returns-then-not-full_size : goal.returns-then-not-full_size
returns-then-not-full_size c = tables_small limits _ _ _ (sym c.full_size.ensures ∙ c.if-not-full_size.true)

pub returns-then-text-gt-MAX_TEXT : goal.returns-then-text-gt-MAX_TEXT
returns-then-text-gt-MAX_TEXT c = after_size limits _ _ _ (sym c.full_size.ensures ∙ c.if-not-full_size.false) _ _ (c.too_long.ensures _ c.if-text-gt-MAX_TEXT.true)

pub read_sited-requires : goal.read_sited-requires
read_sited-requires c = record { lines_asked = lines_asked limits _ (sym c.full_size.ensures ∙ c.if-not-full_size.false) _ c.zero_all.ensures (omega arith); pairs_value = pairs_zeroed limits _ (sym c.full_size.ensures ∙ c.if-not-full_size.false) _ c.zero_all.ensures }

pub returns : goal.returns
returns c = site_read_lem limits _ _ _ (sym c.full_size.ensures ∙ c.if-not-full_size.false) c.if-text-gt-MAX_TEXT.false _ c.zero_all.ensures _ _ (c.read_sited.ensures _ _ c.if-text-gt-MAX_TEXT.false)
