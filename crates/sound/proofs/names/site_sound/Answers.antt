use mathlib.Core.Path.{sym, ap, ◌∙◌}
use Prim.Native.Nat.{ℕ, ◌*◌}
use Rattle.tables.specs.Limits.{most_pairs}
use Rattle.sound.specs.Sound.{zero_from}
use Rattle.sound.proofs.Asking.{and_yes}
use Rattle.sound.proofs.SiteZeros.{zeros_from}
use Rattle.sound.proofs.names.site_sound.Goals as goal

pub returns-then-pairs_sound : goal.returns-then-pairs_sound
unfolding zero_from
returns-then-pairs_sound c = and_yes _ _ _ (sym c.pairs_sound.ensures ∙ c.if-pairs_sound.true) (c.is_zero.ensures ∙ ap (λ (k : ℕ). zero_from (2 * k) (2 * most_pairs) c.args.pairs.now) c.pair_count.ensures.0 ∙ sym (zeros_from _ (2 * most_pairs) c.args.pairs.now))
