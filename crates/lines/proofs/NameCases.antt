-- Which case of the definitions of names holds, by what was read.
use Prim.Native.Nat.{ℕ, zero, suc, ◌+◌, ◌-◌, ◌≤◌, ◌<◌}
use native.Mathlib.Nat.{add-zero, add-suc, suc-add, not-suc-le-zero}
use native.Mathlib.Numerals.{sub-one, add-one}
use native.Mathlib.Omega.{arith}
use mathlib.Core.Path.{◌≡◌, refl, ap}
use mathlib.Core.List.{List, [], ◌∷◌}
use mathlib.Core.Bool.{Bool, true, false, cond, ◌&&◌}
use Rattle.std.specs.List.{list_all}
use lib.Dec.{eqb}
use borrow.Author.Tests.{eq-eqb, ne_eqb}
use lib.ListN.{length, get_or, drop, length-drop, drop_of_length-le}
use lib.Seq.{drop-cons}
use Rattle.tables.specs.Limits.{Limits}
use Rattle.lines.specs.Bytes.{is_at}
use Rattle.lines.specs.Keys.{name_key}
use Rattle.lines.specs.Names.{until_feed, line_end, part, is_text_byte, text_bytes, text_name, name_at, among, name_span}
use Rattle.lines.specs.declared.refusal.Refusal.TheVariants.{Form, Name}
use Rattle.lines.specs.declared.names.NameSpan.{NameSpan}
use Rattle.std.specs.Prelude.{Err}

-- the starts and the ends of names that are equal
pub name_span_same : {s e s' e' : ℕ} → name_span s e ≡ name_span s' e' → (s ≡ s') × (e ≡ e')
name_span_same {s} {e} {s'} {e'} h =
    let r : ◌≡◌ {A = NameSpan} (record { start = s; end = e }) (record { start = s'; end = e' }) = cc h in
    (ap (λ (n : NameSpan). n.start) r, ap (λ (n : NameSpan). n.end) r)

-- the search for a line feed: here, further on, at the end
pub end_here : (text : List ℕ) (i : ℕ) → i < length text → get_or text i 0 ≡ 10 → line_end text i ≡ i
unfolding line_end until_feed
end_here text i h e = rw (drop-cons text i 0, eq-eqb (get_or text i 0) 10 e, add-zero)

pub end_on : (text : List ℕ) (i : ℕ) → i < length text → (get_or text i 0 ≡ 10 → ⊥) → line_end text i ≡ line_end text (i + 1)
unfolding line_end until_feed
end_on text i h e = rw (drop-cons text i 0, ne_eqb (get_or text i 0) 10 e, add-one, add-suc, ← suc-add)

pub end_none : (text : List ℕ) (i : ℕ) → length text ≤ i → line_end text i ≡ i
unfolding line_end until_feed
end_none text i h = rw (drop_of_length-le text h, add-zero)

-- the bytes of a name, tested one by one
pub all_text_bytes : (s : List ℕ) → list_all is_text_byte s ≡ text_bytes s
unfolding text_bytes
all_text_bytes [] = refl
all_text_bytes (b ∷ s) = ap (λ (t : Bool). is_text_byte b && t) (all_text_bytes s)

-- the rows that are left
module _ (L : Limits) (n : ℕ) (names : List ℕ) (at : ℕ) (row : List ℕ) where
  pub among_end : n ≡ 0 → among L n names at row ≡ false
  unfolding among
  among_end e = rw e

pub among-here : (L : Limits) (n : ℕ) (names : List ℕ) (at : ℕ) (row : List ℕ) → 0 < n → is_at names at row ≡ true → among L n names at row ≡ true
unfolding among
among-here L zero names at row h e = absurd (not-suc-le-zero h)
among-here L (suc n) names at row h e = rw e

pub among-on : (L : Limits) (n : ℕ) (names : List ℕ) (at : ℕ) (row : List ℕ) → 0 < n → is_at names at row ≡ false → among L n names at row ≡ among L (n - 1) names (at + L.name) row
unfolding among
among-on L zero names at row h e = absurd (not-suc-le-zero h)
among-on L (suc n) names at row h e = rw (e, sub-one)

-- the line of a name
pub name_none : (L : Limits) (text : List ℕ) (at : ℕ) → is_at text at name_key ≡ false → name_at L text at ≡ Err (Form at)
unfolding name_at
name_none L text at h = rw h

module _ (L : Limits) (text : List ℕ) (at e : ℕ) (h : is_at text at name_key ≡ true) (f : e ≡ line_end text (at + 5)) where
  pub name_open : e ≡ length text → name_at L text at ≡ Err (Form at)
  unfolding name_at
  name_open k = rw (h, ← f, eq-eqb e (length text) k)

  pub name_bad : (e ≡ length text → ⊥) → text_name L (part text (at + 5) e) ≡ false → name_at L text at ≡ Err (Name at)
  unfolding name_at
  name_bad k g = rw (h, ← f, ne_eqb e (length text) k, g)

  pub name_is : (e ≡ length text → ⊥) → text_name L (part text (at + 5) e) ≡ true → name_at L text at ≡ name_span (at + 5) e
  unfolding name_at
  name_is k g = rw (h, ← f, ne_eqb e (length text) k, g)

-- a line's end lies between its start and the text's end
until-short : (s : List ℕ) → until_feed s ≤ length s
unfolding until_feed
until-short [] = omega arith
until-short (b ∷ s) = go (eqb b 10) (until-short s)
  where
    go : (t : Bool) → until_feed s ≤ length s → cond t 0 (suc (until_feed s)) ≤ suc (length s)
    go true h = omega arith
    go false h = omega arith

pub end_within : (text : List ℕ) (at : ℕ) → at ≤ length text → (at ≤ line_end text at) × (line_end text at ≤ length text)
unfolding line_end
end_within text at h = (omega arith, omega (arith, until-short (drop at text), length-drop at text))
