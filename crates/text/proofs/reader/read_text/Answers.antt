-- What the lines stored, with the number of drones and the form of a text that is well-formed.
use Prim.Native.Nat.{ℕ}
use native.Mathlib.Omega.{arith}
use mathlib.Core.Path.{◌≡◌, refl, sym, ◌∙◌}
use mathlib.Core.Bool.{Bool, true, false, cond}
use lib.Dec.{eqb}
use borrow.Author.Tests.{eqb-true, eqb-false}
use Rattle.std.specs.Prelude.{Option, Some, None}
use Rattle.std.proofs.lemmas.Result.{err_from_is_err_and}
use Rattle.tables.specs.Limits.{limits}
use Rattle.lines.specs.Forms.{form_at}
use Rattle.lines.specs.declared.refusal.Refusal.TheVariants.{Form}
use Rattle.text.proofs.DroneCases.{whole-none}
use Rattle.text.proofs.TextCases.{lines_none, range_read, text_read}
use Rattle.text.proofs.reader.read_text.Goals.{In_ok-named}
use Rattle.text.proofs.reader.read_text.Goals as goal

-- the form that was named, and none
module _ {n : ℕ} {r : Option ℕ} (is : r ≡ cond (eqb n 0) None (Some n)) where
  some_form : (f : ℕ) → r ≡ Some f → (f ≡ n) × (f ≡ 0 → ⊥)
  some_form f e = by_test (eqb n 0) refl (sym is ∙ e)
    where
      by_test : (t : Bool) → eqb n 0 ≡ t → cond t None (Some n) ≡ Some f → (f ≡ n) × (f ≡ 0 → ⊥)
      by_test true q k = absurd (let z : ◌≡◌ {A = ℕ} 0 1 = cc k in omega arith)
      by_test false q k = let e : f ≡ n = cc k in (e, λ z. eqb-false n 0 q (sym e ∙ z))

  no_form : r ≡ None → 0 ≡ n
  no_form e = by_test (eqb n 0) refl (sym is ∙ e)
    where
      by_test : (t : Bool) → eqb n 0 ≡ t → cond t None (Some n) ≡ None → 0 ≡ n
      by_test true q k = sym (eqb-true n 0 q)
      by_test false q k = absurd (let z : ◌≡◌ {A = ℕ} 0 1 = cc k in omega arith)

named : (c : In_ok-named) → (c.in_ok-named.named ≡ form_at limits c.args.text.now) × (c.in_ok-named.named ≡ 0 → ⊥)
named c =
    let some : c.read_form.result ≡ Some c.in_ok-named.named = grind arith in
    some_form c.read_form.ensures _ some

pub returns-in_err-named : goal.returns-in_err-named
returns-in_err-named c =
    let none : c.read_form.result ≡ None = grind arith in
    let form : c.in_err-named.field-0.0 ≡ Form 0 = grind arith in
    let p = err_from_is_err_and c.from_residual.result c.from_residual.ensures.1 in
    rw (p.1, p.2, form) (record { same = refl; read = text_read limits _ 0 (no_form c.read_form.ensures none) (rw (lines_none limits 0 c.args.text.now refl) (whole-none limits _ _ _ _ _ _ _ _ _)) _ _ _ refl })

pub read_lines-requires : goal.read_lines-requires
read_lines-requires c = let p = c.requires in ((named (goal.at.read_lines-requires c).In_ok-named).1, p.2, p.3, p.4, p.5, p.6)

pub returns-in_err-drones : goal.returns-in_err-drones
returns-in_err-drones c =
    let p = err_from_is_err_and c.from_residual-in_err-drones.result c.from_residual-in_err-drones.ensures.1 in
    rw (p.1, p.2) (record { same = c.read_lines.ensures.same; read = text_read limits _ _ (named (goal.at.returns-in_err-drones c).In_ok-named).0 c.read_lines.ensures.stored _ _ _ c.in_err-drones.was })

pub overflow_cast-count : goal.overflow_cast-count
overflow_cast-count c = let r = range_read limits _ _ (named (goal.at.overflow_cast-count c).In_ok-named).0 c.read_lines.ensures.stored _ c.in_ok-drones.was in omega (arith, r.1)

pub returns : goal.returns
returns c = record { same = c.read_lines.ensures.same; read = text_read limits _ _ (named (goal.at.returns c).In_ok-named).0 c.read_lines.ensures.stored _ _ _ c.in_ok-drones.was }
