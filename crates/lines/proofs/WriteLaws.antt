-- What is written piece by piece is written as one run of stores.
use Prim.Native.Nat.{ℕ, suc, ◌+◌, ◌<◌}
use native.Mathlib.Nat.{add-zero, add-suc, suc-add}
use native.Mathlib.Numerals.{add-one}
use native.Mathlib.Omega.{arith}
use mathlib.Core.Path.{◌≡◌, refl, sym, ap, ◌∙◌}
use mathlib.Core.List.{List, [], ◌∷◌, ◌++◌}
use lib.ListN.{length, get_or, drop, set, length-append}
use lib.Seq.{drop-cons, drop-length, sets}
use Rattle.lines.specs.Bytes.{Put}

-- a run of stores goes on where another ended
pub sets_append : (l : List ℕ) (i : ℕ) (xs ys : List ℕ) → sets (sets l i xs) (i + length xs) ys ≡ sets l i (xs ++ ys)
sets_append l i [] ys = rw add-zero
sets_append l i (a ∷ xs) ys = rw (add-suc, ← suc-add) (sets_append (set l i a) (suc i) xs ys)

-- one store of a run that is left from index i of the bytes on
pub sets_step : (b : List ℕ) (at i : ℕ) (xs : List ℕ) → i < length xs → sets b (at + i) (drop i xs) ≡ sets (set b (at + i) (get_or xs i 0)) (at + (i + 1)) (drop (i + 1) xs)
sets_step b at i xs h = rw (drop-cons xs i 0, add-one, add-suc)

pub sets_done : (b : List ℕ) (at i : ℕ) (xs : List ℕ) → i ≡ length xs → sets b (at + i) (drop i xs) ≡ b
sets_done b at i xs e = rw (e, drop-length)

-- two writes, one after the other
pub put_put : {b b₁ b₂ xs ys : List ℕ} {at n₁ n₂ : ℕ} → Put b at xs b₁ n₁ → Put b₁ n₁ ys b₂ n₂ → Put b at (xs ++ ys) b₂ n₂
put_put {b} {b₁} {b₂} {xs} {ys} {at} {n₁} {n₂} p q = record {
  next_is = simp length-append (omega (arith, p.next_is, q.next_is));
  written = q.written ∙ ap (λ (l : List ℕ). sets l n₁ ys) p.written ∙ ap (λ (n : ℕ). sets (sets b at xs) n ys) p.next_is ∙ sets_append b at xs ys;
}

-- nothing written, and one byte written
pub put_none : (b : List ℕ) (at : ℕ) → Put b at [] b at
put_none b at = record { next_is = sym (add-zero at); written = refl }

-- ---- what is left to write, in a loop: written from here on it gives what the whole gives

pub record Rest (b : List ℕ) (next : ℕ) (rest : List ℕ) (b₀ : List ℕ) (at : ℕ) (whole : List ℕ) : Type 0 where
  pub same : sets b next rest ≡ sets b₀ at whole
  pub ends : next + length rest ≡ at + length whole

pub rest_start : (b : List ℕ) (at : ℕ) (whole : List ℕ) → Rest b at whole b at whole
rest_start b at whole = record { same = refl; ends = refl }

-- a piece was written
pub rest_step : {b b' xs ys b₀ whole : List ℕ} {next next' at : ℕ} → Put b next xs b' next' → Rest b next (xs ++ ys) b₀ at whole → Rest b' next' ys b₀ at whole
rest_step {b} {b'} {xs} {ys} {b₀} {whole} {next} {next'} {at} p r = record {
  same = rw (p.written, p.next_is) (sets_append b next xs ys ∙ r.same);
  ends = omega (arith, p.next_is, r.ends, length-append xs ys);
}

pub rest_end : {b b₀ whole : List ℕ} {next at : ℕ} → Rest b next [] b₀ at whole → Put b₀ at whole b next
rest_end {b} {b₀} {whole} {next} {at} r = record { next_is = omega (arith, r.ends); written = r.same }
