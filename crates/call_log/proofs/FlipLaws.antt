-- Flag bytes with those of a strictly rising list flipped, one after the other: each of the list is flipped once, the others stay. Assumes nothing.
use mathlib.Core.Path.{◌≡◌, refl, ap, ◌∙◌}
use mathlib.Core.Logic.{inl, inr}
use mathlib.Core.Bool.{Bool, true, false, cond, ◌||◌}
use mathlib.Core.List.{List, [], ◌∷◌}
use Prim.Native.Nat.{ℕ, zero, suc, ◌<◌}
use native.Mathlib.Omega.{arith}
use lib.Dec.{eqb, ltb}
use lib.ListN.{length, set, length-set}
use lib.Seq.{get_or-set_same, get_or-set_other}
use borrow.Author.Tests.{ltb-true, eqb-true, eqb-false}
use Rattle.below.specs.Below.{at, is_in}
use Rattle.below.proofs.Tests.{by_cases, true_or_false, and_left, and_right}
use Rattle.tables.specs.Flags.{flip_bit}
use Rattle.below.proofs.Members.{in_head, in_tail, in_cases}
use Rattle.call_log.specs.CallLog.{rises_from, is_group}
use Rattle.call_log.specs.Calls.{flip_flag, flip_flags}

-- a list that rises from w has nothing but greater numbers
above : (w : ℕ) (ws : List ℕ) → rises_from w ws ≡ true → (v : ℕ) → is_in v ws ≡ true → w < v
unfolding is_in
above w [] e v i = true_or_false i refl
above w (x ∷ ws) e v i = elim (in_cases v x ws i) [
  | inl q ↦ omega (arith, above x ws (and_right (ltb w x) _ e) v q, ltb-true w x (and_left _ _ e))
  | inr q ↦ omega (arith, ltb-true w x (and_left _ _ e))
]

head_out : (w : ℕ) (ws : List ℕ) → rises_from w ws ≡ true → is_in w ws ≡ false
head_out w ws e = by_cases (is_in w ws) (λ i. absurd (omega (arith, above w ws e w i))) (λ i. i)

-- empty or strictly rising
abbrev rises : List ℕ → Bool
rises [] = true
rises (w ∷ ws) = rises_from w ws

rest_rises : (w : ℕ) (ws : List ℕ) → rises_from w ws ≡ true → rises ws ≡ true
rest_rises w [] e = refl
rest_rises w (x ∷ ws) e = and_right (ltb w x) _ e

group_rises : (ws : List ℕ) → is_group ws ≡ true → rises ws ≡ true
group_rises [] e = refl
group_rises (w ∷ ws) e = e

pub flips_length : (ws flags : List ℕ) → length (flip_flags flags ws) ≡ length flags
unfolding flip_flags
flips_length [] flags = refl
flips_length (w ∷ ws) flags = flips_length ws (flip_flag flags w) ∙ length-set flags w (flip_bit (at flags w))

module _ (flags : List ℕ) (w : ℕ) (room : w < length flags) (ws : List ℕ) (out : is_in w ws ≡ false) where
  -- the head of the list
  head_at : (v : ℕ) → v ≡ w → cond (is_in v ws) (flip_bit (at (flip_flag flags w) v)) (at (flip_flag flags w) v) ≡ flip_bit (at flags v)
  head_at v q = rw (q, out) (get_or-set_same flags w (flip_bit (at flags w)) 0 room)

-- the whole list
rises-at : (ws flags : List ℕ) → rises ws ≡ true → ((w : ℕ) → is_in w ws ≡ true → w < length flags) → (v : ℕ) → at (flip_flags flags ws) v ≡ cond (is_in v ws) (flip_bit (at flags v)) (at flags v)
unfolding flip_flags is_in
rises-at [] flags s room v = refl
rises-at (w ∷ ws) flags s room v =
    rises-at ws (flip_flag flags w) (rest_rises w ws s) (λ x i. omega (arith, length-set flags w (flip_bit (at flags w)), room x (in_tail x w ws i))) v
    ∙ by_cases (eqb v w)
    (λ q. head_at flags w (room w (in_head w ws)) ws (head_out w ws s) v (eqb-true v w q) ∙ named (is_in v ws) (eqb v w) q)
    (λ q. rw (get_or-set_other flags w v (flip_bit (at flags w)) 0 (eqb-false v w q)) (other (is_in v ws) (eqb v w) q))
  where
    named : (a b : Bool) → b ≡ true → flip_bit (at flags v) ≡ cond (a || b) (flip_bit (at flags v)) (at flags v)
    named true b e = refl
    named false true e = refl
    named false false e = true_or_false e refl

    other : (a b : Bool) → b ≡ false → cond a (flip_bit (at flags v)) (at flags v) ≡ cond (a || b) (flip_bit (at flags v)) (at flags v)
    other true b e = refl
    other false true e = true_or_false refl e
    other false false e = refl

pub flips_at : (ws flags : List ℕ) → is_group ws ≡ true → ((w : ℕ) → is_in w ws ≡ true → w < length flags) → (v : ℕ) → at (flip_flags flags ws) v ≡ cond (is_in v ws) (flip_bit (at flags v)) (at flags v)
flips_at ws flags g room v = rises-at ws flags (group_rises ws g) room v

-- ---- as a loop over the list flips them: the first n

unfoldable pub flips_to : ℕ → List ℕ → List ℕ → List ℕ
flips_to zero ws flags = flags
flips_to (suc n) ws flags = set (flips_to n ws flags) (at ws n) (flip_bit (at (flips_to n ws flags) (at ws n)))

flips_shift : (n w : ℕ) (ws flags : List ℕ) → flips_to (suc n) (w ∷ ws) flags ≡ flips_to n ws (flip_flag flags w)
unfolding flips_to
flips_shift zero w ws flags = refl
flips_shift (suc n) w ws flags = ap (λ (l : List ℕ). set l (at ws n) (flip_bit (at l (at ws n)))) (flips_shift n w ws flags)

pub flips_end : (ws flags : List ℕ) → flips_to (length ws) ws flags ≡ flip_flags flags ws
unfolding flip_flags flips_to
flips_end [] flags = refl
flips_end (w ∷ ws) flags = flips_shift (length ws) w ws flags ∙ flips_end ws (flip_flag flags w)

pub flips_to_length : (n : ℕ) (ws flags : List ℕ) → length (flips_to n ws flags) ≡ length flags
unfolding flips_to
flips_to_length zero ws flags = refl
flips_to_length (suc n) ws flags = length-set (flips_to n ws flags) (at ws n) (flip_bit (at (flips_to n ws flags) (at ws n))) ∙ flips_to_length n ws flags
