-- The leg into a stop: which legs are right, and the leg read and written.
use Prim.Native.Nat.{ℕ, ◌+◌, ◌^◌, ◌≤◌, ◌<◌}
use native.Mathlib.Nat.{add-zero}
use native.Mathlib.Omega.{arith}
use mathlib.Core.Path.{◌≡◌, refl, sym, ◌∙◌}
use mathlib.Core.List.{List, [], ◌∷◌, ◌++◌, append-nil, append_assoc}
use mathlib.Core.Bool.{Bool, true, false, cond, ◌&&◌}
use lib.Dec.{leb, eqb}
use borrow.Author.Tests.{leb-true, eqb-true, eq-eqb, ne_eqb}
use lib.ListN.{length, length-append}
use Rattle.tables.specs.Limits.{Limits}
use Rattle.tables.specs.Legs.{plain_leg, longest_leg, leg_right}
use Rattle.lines.specs.Bytes.{is_at}
use Rattle.lines.specs.Keys.{go_key}
use Rattle.lines.specs.Numbers.{is_digit, field_at, digits_of, field, SevenDigits, number}
use Rattle.lines.specs.Stops.{time_end, leg_at, leg_field, stop_line}
use Rattle.lines.proofs.ByteLaws.{both, Stands}
use Rattle.lines.proofs.NumberCases.{number_same, digits-length}
use Rattle.lines.proofs.NumberRoundTrip.{field-stands, field_back}

-- ---- right legs

-- in `plan=1` the leg of one, and no other
pub plain-right : (L : Limits) (s : ℕ) → leg_right L 1 s (plain_leg s) ≡ true
unfolding leg_right plain_leg longest_leg
plain-right L s = by_stop (eqb s 0)
  where
    by_stop : (c : Bool) → cond c (eqb (cond c 0 1) 0) (leb 1 (cond c 0 1) && leb (cond c 0 1) 1) ≡ true
    by_stop true = refl
    by_stop false = refl

pub plain_only : (L : Limits) (s g : ℕ) → leg_right L 1 s g ≡ true → g ≡ plain_leg s
unfolding leg_right plain_leg longest_leg
plain_only L s g h = by_stop (eqb s 0) h
  where
    by_stop : (c : Bool) → cond c (eqb g 0) (leb 1 g && leb g 1) ≡ true → g ≡ cond c 0 1
    by_stop true k = eqb-true g 0 k
    by_stop false k = let w = both (leb 1 g) (leb g 1) k in omega (arith, leb-true 1 g w.0, leb-true g 1 w.1)

-- below every bound that the longest leg is below
pub leg_below : (L : Limits) (form s g b : ℕ) → 1 < b → L.leg < b → leg_right L form s g ≡ true → g < b
unfolding leg_right longest_leg
leg_below L form s g b o m h = by_stop (eqb s 0) (eqb form 1) h
  where
    by_stop : (c d : Bool) → cond c (eqb g 0) (leb 1 g && leb g (cond d 1 L.leg)) ≡ true → g < b
    by_stop true d k = omega (arith, o, eqb-true g 0 k)
    by_stop false true k = omega (arith, o, leb-true g 1 (both (leb 1 g) (leb g 1) k).1)
    by_stop false false k = omega (arith, m, leb-true g L.leg (both (leb 1 g) (leb g L.leg) k).1)

-- ---- the byte that closes the time

pub time_end-low : (form : ℕ) → time_end form < 65
unfolding time_end
time_end-low form = by_form (eqb form 1)
  where
    by_form : (c : Bool) → cond c 10 64 < 65
    by_form true = omega arith
    by_form false = omega arith

pub time_end_open : (form : ℕ) → is_digit (time_end form) ≡ false
unfolding time_end is_digit
time_end_open form = by_form (eqb form 1)
  where
    by_form : (c : Bool) → is_digit (cond c 10 64) ≡ false
    by_form true = refl
    by_form false = refl

-- ---- the leg, read and written

module _ (form s : ℕ) (text : List ℕ) (at : ℕ) where
  pub leg_plain : form ≡ 1 → leg_at form s text at ≡ number (plain_leg s) at
  unfolding leg_at
  leg_plain e = rw (eq-eqb form 1 e)

  pub leg_other : (form ≡ 1 → ⊥) → leg_at form s text at ≡ field_at text at 10
  unfolding leg_at
  leg_other n = rw (ne_eqb form 1 n)

pub leg_unwritten : (form g : ℕ) → form ≡ 1 → leg_field form g ≡ []
unfolding leg_field
leg_unwritten form g e = rw (eq-eqb form 1 e)

pub leg_written : (form g : ℕ) → (form ≡ 1 → ⊥) → leg_field form g ≡ field g 10
unfolding leg_field
leg_written form g n = rw (ne_eqb form 1 n)

pub leg_short : (form g : ℕ) → length (leg_field form g) ≤ 8
unfolding leg_field
leg_short form g = by_form (eqb form 1)
  where
    by_form : (c : Bool) → length (cond c [] (field g 10)) ≤ 8
    by_form true = omega arith
    by_form false = simp length-append (omega (arith, digits-length 7 g))

pub leg_stands : (form s : ℕ) (text : List ℕ) (at g e : ℕ) → leg_at form s text at ≡ number g e → Stands text at (leg_field form g) e
unfolding leg_at leg_field is_at
leg_stands form s text at g e h = by_form (eqb form 1) h
  where
    by_form : (c : Bool) → cond c (number (plain_leg s) at) (field_at text at 10) ≡ number g e → Stands text at (cond c [] (field g 10)) e
    by_form true k = let p : at ≡ e = (number_same k).1 in rw (← p) (record { there = refl; next_is = sym (add-zero at) })
    by_form false k = field-stands text at 10 g e k

pub leg_back : (L : Limits) (form s : ℕ) (text : List ℕ) (at g : ℕ) → SevenDigits L → leg_right L form s g ≡ true → is_at text at (leg_field form g) ≡ true → leg_at form s text at ≡ number g (at + length (leg_field form g))
unfolding leg_at leg_field is_digit
leg_back L form s text at g u r h = by_form (eqb form 1) refl h
  where
    by_form : (c : Bool) → eqb form 1 ≡ c → is_at text at (cond c [] (field g 10)) ≡ true → cond c (number (plain_leg s) at) (field_at text at 10) ≡ number g (at + length (cond c [] (field g 10)))
    by_form true e k = let p : g ≡ plain_leg s = plain_only L s g (rw (eqb-true form 1 e) at r) in rw (p, add-zero)
    by_form false e k = field_back text at 10 g refl (leg_below L form s g (10 ^ 7) (omega arith) u.leg r) k

-- ---- the line of a stop up to its line feed

unfoldable pub stop_front_lem : (form l t g : ℕ) → List ℕ
stop_front_lem form l t g = cond (eqb form 1) (go_key ++ field l 64 ++ digits_of t) (go_key ++ field l 64 ++ field t 64 ++ digits_of g)

pub stop_front : (form l t g : ℕ) → stop_line form l t g ≡ stop_front_lem form l t g ++ 10 ∷ []
unfolding stop_front_lem time_end leg_field
stop_front form l t g = by_form (eqb form 1)
  where
    by_form : (c : Bool) → go_key ++ field l 64 ++ (digits_of t ++ cond c 10 64 ∷ []) ++ cond c [] (field g 10) ≡ cond c (go_key ++ field l 64 ++ digits_of t) (go_key ++ field l 64 ++ field t 64 ++ digits_of g) ++ 10 ∷ []
    by_form true = append-nil (go_key ++ field l 64 ++ (digits_of t ++ 10 ∷ [])) ∙ sym (append_assoc (go_key ++ field l 64) (digits_of t) (10 ∷ []))
    by_form false = sym (append_assoc (go_key ++ field l 64 ++ field t 64) (digits_of g) (10 ∷ []))
