-- All bytes are those of a name in a text, tested one by one.
use mathlib.Core.Path.{◌∙◌}
use Rattle.std.proofs.Common.{rules, tests}
use Rattle.std.proofs.lemmas.Iterator.{YieldsList-from_slice}
use Rattle.std.proofs.lemmas.Iterator.Search.{all_from_yields_List}
use Rattle.lines.specs.Names.{is_text_byte}
use Rattle.lines.proofs.NameCases.{all_text_bytes}
use Rattle.lines.proofs.names.text_bytes.Goals as goal

pub returns : goal.returns
returns c = all_from_yields_List is_text_byte _ _ _ c.all.ensures.ran (YieldsList-from_slice c.args.name.now cc) (λ x b q k. search (rules, tests)) ∙ all_text_bytes c.args.name.now
