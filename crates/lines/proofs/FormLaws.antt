-- The form that a text's first line names is the form of the line that stands there.
use Prim.Native.Nat.{ℕ, zero, suc, ◌+◌, ◌≤◌, ◌<◌}
use native.Mathlib.Omega.{arith}
use mathlib.Core.Path.{◌≡◌, refl, sym, ◌∙◌}
use mathlib.Core.List.{List, [], ◌∷◌}
use mathlib.Core.Bool.{Bool, true, false, cond, ◌&&◌, false≢true}
use lib.Dec.{leb, eqb}
use borrow.Author.Tests.{leb-true, le-leb, lt-leb, eq-eqb}
use Rattle.tables.specs.Limits.{Limits}
use Rattle.lines.specs.Bytes.{byte_at, is_at}
use Rattle.lines.specs.Keys.{first_line}
use Rattle.lines.specs.Forms.{form_at}
use Rattle.lines.proofs.ByteLaws.{both, stands_head}

-- the digit of a first line, and that no other first line stands there
digit_there : (text : List ℕ) (f : ℕ) → is_at text 0 (first_line f) ≡ true → byte_at text 5 ≡ 48 + f
digit_there text f h =
    let a = (stands_head text 0 112 (108 ∷ 97 ∷ 110 ∷ 61 ∷ (48 + f) ∷ 10 ∷ []) h).1 in
    let b = (stands_head text 1 108 (97 ∷ 110 ∷ 61 ∷ (48 + f) ∷ 10 ∷ []) a).1 in
    let c = (stands_head text 2 97 (110 ∷ 61 ∷ (48 + f) ∷ 10 ∷ []) b).1 in
    let d = (stands_head text 3 110 (61 ∷ (48 + f) ∷ 10 ∷ []) c).1 in
    let e = (stands_head text 4 61 ((48 + f) ∷ 10 ∷ []) d).1 in
    (stands_head text 5 (48 + f) (10 ∷ []) e).0

pub form_other : (text : List ℕ) (f g : ℕ) → (f ≡ g → ⊥) → is_at text 0 (first_line f) ≡ true → is_at text 0 (first_line g) ≡ false
form_other text f g n h = by_test (is_at text 0 (first_line g)) refl
  where
    by_test : (b : Bool) → is_at text 0 (first_line g) ≡ b → b ≡ false
    by_test false e = refl
    by_test true e = absurd (n (omega (arith, digit_there text f h, digit_there text g e)))

-- a form that was read: the board knows it, and its line stands at the start
pub record FormRead (L : Limits) (text : List ℕ) (form : ℕ) : Type 0 where
  pub some : 1 ≤ form
  pub known : form ≤ L.form
  pub most : form ≤ 2
  pub there : is_at text 0 (first_line form) ≡ true

pub form_read : (L : Limits) (text : List ℕ) (form : ℕ) → form_at L text ≡ form → (form ≡ 0 → ⊥) → FormRead L text form
unfolding form_at
form_read L text form h n = first (leb 1 L.form && is_at text 0 (first_line 1)) refl h
  where
    there : (f : ℕ) → f ≤ 2 → 1 ≤ f → (leb f L.form && is_at text 0 (first_line f)) ≡ true → f ≡ form → FormRead L text form
    there f m o k e =
        let w = both (leb f L.form) (is_at text 0 (first_line f)) k in
        record { some = rw e at o; known = rw e at (leb-true f L.form w.0); most = rw e at m; there = rw e at w.1 }

    second : (b : Bool) → (leb 2 L.form && is_at text 0 (first_line 2)) ≡ b → cond b 2 0 ≡ form → FormRead L text form
    second true k e = there 2 (omega arith) (omega arith) k e
    second false k e = absurd (n (sym e))

    first : (b : Bool) → (leb 1 L.form && is_at text 0 (first_line 1)) ≡ b → cond b 1 (cond (leb 2 L.form && is_at text 0 (first_line 2)) 2 0) ≡ form → FormRead L text form
    first true k e = there 1 (omega arith) (omega arith) k e
    first false k e = second (leb 2 L.form && is_at text 0 (first_line 2)) refl e

-- .. by the test of the form
pub form_some : (L : Limits) (text : List ℕ) (form : ℕ) → form_at L text ≡ form → eqb form 0 ≡ false → FormRead L text form
form_some L text form q h = form_read L text form q (λ e. false≢true (sym h ∙ eq-eqb form 0 e))

-- the line of a form that the board knows, and of one that it does not
pub form_back : (L : Limits) (text : List ℕ) (form : ℕ) → 1 ≤ form → form ≤ 2 → form ≤ L.form → is_at text 0 (first_line form) ≡ true → form_at L text ≡ form
unfolding form_at
form_back L text zero a b c h = absurd (omega (arith, a))
form_back L text (suc zero) a b c h = rw (le-leb 1 L.form c, h)
form_back L text (suc (suc zero)) a b c h = let o : 1 ≤ L.form = omega (arith, c) in rw (le-leb 1 L.form o, form_other text 2 1 (λ z. omega (arith, z)) h, le-leb 2 L.form c, h)
form_back L text (suc (suc (suc f))) a b c h = absurd (omega (arith, b))

pub form_over : (L : Limits) (text : List ℕ) (form : ℕ) → 1 ≤ form → form ≤ 2 → L.form < form → is_at text 0 (first_line form) ≡ true → form_at L text ≡ 0
unfolding form_at
form_over L text zero a b c h = absurd (omega (arith, a))
form_over L text (suc zero) a b c h = let o : L.form < 2 = omega (arith, c) in rw (lt-leb 1 L.form c, lt-leb 2 L.form o)
form_over L text (suc (suc zero)) a b c h = go (leb 1 L.form)
  where
    go : (k : Bool) → ◌≡◌ {A = ℕ} (cond (k && is_at text 0 (first_line 1)) 1 (cond (leb 2 L.form && is_at text 0 (first_line 2)) 2 0)) 0
    go true = rw (form_other text 2 1 (λ z. omega (arith, z)) h, lt-leb 2 L.form c)
    go false = rw (lt-leb 2 L.form c)
form_over L text (suc (suc (suc f))) a b c h = absurd (omega (arith, b))

-- neither line stands there
pub form_none : (L : Limits) (text : List ℕ) → is_at text 0 (first_line 1) ≡ false → is_at text 0 (first_line 2) ≡ false → form_at L text ≡ 0
unfolding form_at
form_none L text h k = go (leb 1 L.form) (leb 2 L.form)
  where
    go : (a b : Bool) → ◌≡◌ {A = ℕ} (cond (a && is_at text 0 (first_line 1)) 1 (cond (b && is_at text 0 (first_line 2)) 2 0)) 0
    go true true = rw (h, k)
    go true false = rw h
    go false true = rw k
    go false false = refl
