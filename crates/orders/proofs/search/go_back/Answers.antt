use mathlib.Core.Path.{◌≡◌, refl, sym, ◌∙◌}
use lib.Dec.{leb}
use Rattle.below.specs.Below.{at}
use Prim.Native.Nat.{ℕ}
use native.Mathlib.Omega.{arith}
use Rattle.std.specs.Prelude.{Bool, true, false, Some}
use Rattle.std.specs.Bool.{then_some}
use borrow.Author.Tests.{leb-true, le-leb}
use Rattle.orders.proofs.PathLaws.{back_in, back_few, back_stops, back_judgeable, back_acyclic, path_back}
use Rattle.orders.proofs.search.go_back.Goals as goal

then_some_is : (b : Bool) (x e : ℕ) → then_some b x ≡ Some e → (b ≡ true) × (x ≡ e)
then_some_is true x e q = (refl, cc)
then_some_is false x e q = absurd (let z : ◌≡◌ {A = ℕ} 0 1 = cc in omega arith)

pub take_back-end-requires : goal.take_back-end-requires
take_back-end-requires c = record { judgeable = (back_judgeable _ _ _ _ _ _ _ _ _ _ _ c.requires.searchable.0 _ c.requires.searchable.1 c.requires.on_path c.requires.searchable.2 _ c.requires.searchable.3, c.requires.searchable.1, back_acyclic _ _ _ _ _ _ _ _ _ _ _ c.requires.searchable.0 _ c.requires.searchable.1 c.requires.on_path c.requires.searchable.2 _ c.requires.searchable.3); m_le_w = (back_in _ _ _ _ _ _ _ _ _ _ _ c.requires.searchable.0 _ c.requires.searchable.1 c.requires.on_path c.requires.searchable.2 _ c.requires.searchable.3, back_few _ _ _ _ _ _ _ _ _ _ _ c.requires.searchable.0 _ c.requires.searchable.1 c.requires.on_path c.requires.searchable.2 _ c.requires.searchable.3, back_stops _ _ _ _ _ _ _ _ _ _ _ c.requires.searchable.0 _ c.requires.searchable.1 c.requires.on_path c.requires.searchable.2 _ c.requires.searchable.3, c.requires.on_path.standing.linked); log_at = (c.requires.on_path.standing.log, (λ e q. let w = then_some_is (leb c.args.place.base c.args.to) c.from.result e (sym c.then_some-mark.ensures ∙ q) in let is : e ≡ at c.args.marks.now c.args.to = sym w.1 ∙ c.from.ensures in rw is (c.requires.on_path.marked c.args.to (leb-true _ _ w.0) c.requires.searchable.3))) }

pub returns : goal.returns
returns c = path_back _ _ _ _ _ _ _ _ _ _ _ c.requires.searchable.0 _ c.requires.searchable.1 c.requires.on_path c.requires.searchable.2 _ c.requires.searchable.3 c.take_back-end.ensures (λ l. rw (c.then_some-mark.ensures, le-leb _ _ l, c.from.ensures) refl) c.min.ensures
