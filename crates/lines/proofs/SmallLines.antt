-- The lines of a plan text and their small forms: a line of a key and numbers is its own, and the line of a name has the name in small letters.
use Prim.Native.Nat.{ℕ, zero, suc, ◌+◌, ◌/◌, ◌%◌, ◌<◌, ◌≤◌}
use native.Mathlib.Omega.{arith}
use mathlib.Core.Path.{◌≡◌, refl, ◌∙◌}
use mathlib.Core.List.{List, [], ◌∷◌, ◌++◌}
use mathlib.Core.Bool.{Bool, true, false, cond}
use lib.Dec.{ltb, eqb}
use borrow.Author.Tests.{ltb-true}
use Rattle.lines.specs.Keys.{line_feed, at_sign, first_line, agents_key, name_key, stops_key, go_key, last_line}
use Rattle.lines.specs.Numbers.{digits, digits_of, field}
use Rattle.lines.specs.Stops.{time_end, leg_field, stop_line, stop_lines, count_line}
use Rattle.lines.specs.Names.{is_capital, small_byte, small_form, name_line}
use Rattle.lines.proofs.LegLaws.{time_end-low}
use Rattle.lines.proofs.Letters.{capital_below, small-own, small-append}

none-own : small_form [] ≡ []
unfolding small_form
none-own = refl

-- two pieces, one after the other
pub small_parts : (x y : List ℕ) {a b : List ℕ} → small_form x ≡ a → small_form y ≡ b → small_form (x ++ y) ≡ a ++ b
small_parts x y e f = small-append x y ∙ rw (e, f) refl

-- ---- the fixed bytes

pub plan_own : (form : ℕ) → form ≤ 2 → small_form (first_line form) ≡ first_line form
unfolding small_form small_byte is_capital
plan_own zero h = refl
plan_own (suc zero) h = refl
plan_own (suc (suc zero)) h = refl
plan_own (suc (suc (suc form))) h = absurd (omega (arith, h))

pub agents_own : small_form agents_key ≡ agents_key
unfolding small_form small_byte is_capital
agents_own = refl

pub stops_key-own : small_form stops_key ≡ stops_key
unfolding small_form small_byte is_capital
stops_key-own = refl

pub end_own : small_form last_line ≡ last_line
unfolding small_form small_byte is_capital
end_own = refl

name_key-own : small_form name_key ≡ name_key
unfolding small_form small_byte is_capital
name_key-own = refl

go_key-own : small_form go_key ≡ go_key
unfolding small_form small_byte is_capital
go_key-own = refl

feed_own : small_form (line_feed ∷ []) ≡ line_feed ∷ []
unfolding small_form small_byte is_capital
feed_own = refl

at_own : small_form (at_sign ∷ []) ≡ at_sign ∷ []
unfolding small_form small_byte is_capital
at_own = refl

-- ---- numbers

digit_own : (n : ℕ) → n < 10 → small_form ((48 + n) ∷ []) ≡ (48 + n) ∷ []
unfolding small_form
digit_own n h = let k : 48 + n < 65 = omega arith in rw (small-own (48 + n) (capital_below (48 + n) k)) refl

digits-own : (left n : ℕ) → small_form (digits left n) ≡ digits left n
unfolding digits
digits-own zero n = none-own
digits-own (suc left) n = by_size (ltb n 10) refl (digits-own left (n / 10))
  where
    by_size : (b : Bool) → ltb n 10 ≡ b → small_form (digits left (n / 10)) ≡ digits left (n / 10)
        → small_form (cond b ((48 + n) ∷ []) (digits left (n / 10) ++ (48 + n % 10) ∷ [])) ≡ cond b ((48 + n) ∷ []) (digits left (n / 10) ++ (48 + n % 10) ∷ [])
    by_size true e more = digit_own n (ltb-true n 10 e)
    by_size false e more = small_parts (digits left (n / 10)) ((48 + n % 10) ∷ []) more (digit_own (n % 10) (omega arith))

-- ---- lines

pub count_own : (key : List ℕ) (n : ℕ) → small_form key ≡ key → small_form (count_line key n) ≡ count_line key n
count_own key n e = small_parts key (field n line_feed) e (small_parts (digits_of n) (line_feed ∷ []) (digits-own 7 n) feed_own)

time_own : (form : ℕ) → small_form (time_end form ∷ []) ≡ time_end form ∷ []
unfolding small_form
time_own form = let k : time_end form < 65 = time_end-low form in rw (small-own (time_end form) (capital_below (time_end form) k)) refl

leg_own : (form g : ℕ) → small_form (leg_field form g) ≡ leg_field form g
unfolding leg_field
leg_own form g = by_form (eqb form 1)
  where
    by_form : (c : Bool) → small_form (cond c [] (field g line_feed)) ≡ cond c [] (field g line_feed)
    by_form true = none-own
    by_form false = small_parts (digits_of g) (line_feed ∷ []) (digits-own 7 g) feed_own

stop-own : (form l t g : ℕ) → small_form (stop_line form l t g) ≡ stop_line form l t g
stop-own form l t g =
    small_parts (go_key ++ field l at_sign ++ field t (time_end form)) (leg_field form g)
    (small_parts (go_key ++ field l at_sign) (field t (time_end form))
    (small_parts go_key (field l at_sign) go_key-own (small_parts (digits_of l) (at_sign ∷ []) (digits-own 7 l) at_own))
    (small_parts (digits_of t) (time_end form ∷ []) (digits-own 7 t) (time_own form)))
    (leg_own form g)

pub stops_own : (form : ℕ) (ls ts gs : List ℕ) → small_form (stop_lines form ls ts gs) ≡ stop_lines form ls ts gs
unfolding stop_lines small_form
stops_own form [] ts gs = refl
stops_own form (l ∷ ls) [] gs = refl
stops_own form (l ∷ ls) (t ∷ ts) [] = refl
stops_own form (l ∷ ls) (t ∷ ts) (g ∷ gs) = small_parts (stop_line form l t g) (stop_lines form ls ts gs) (stop-own form l t g) (stops_own form ls ts gs)

pub name_line-small : (x : List ℕ) → small_form (name_line x) ≡ name_line (small_form x)
name_line-small x = small_parts (name_key ++ x) (line_feed ∷ []) (small_parts name_key x name_key-own refl) feed_own
