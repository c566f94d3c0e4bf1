-- The plan ends after the first place where its last line stands: which case holds, by what was found.
use Prim.Native.Nat.{ℕ, ◌+◌, ◌≤◌, ◌<◌}
use native.Mathlib.Omega.{arith}
use mathlib.Core.Path.{◌≡◌, refl}
use mathlib.Core.List.{List}
use mathlib.Core.Bool.{Bool, true, false, cond}
use lib.Dec.{ltb}
use borrow.Author.Tests.{lt-ltb, le-ltb, ltb-true}
use lib.ListN.{length}
use Rattle.below.specs.Below.{first_below}
use Rattle.below.proofs.Search.{first_below_first, first_hit, first_end}
use Rattle.lines.specs.Keys.{last_line}
use Rattle.lines.specs.Bytes.{is_at}
use Rattle.lines.proofs.ByteLaws.{both, is_at_in}
use Rattle.transcript.specs.Input.{starts_line, ends_plan, plan_end}

module _ (text : List ℕ) (at : ℕ) where
  pub ends_within : ends_plan text at ≡ true → at + 9 ≤ length text
  unfolding ends_plan
  ends_within h = is_at_in text at 101 _ (both (starts_line text at) (is_at text at last_line) h).1 refl

  pub plan_found : at < length text → first_below at (ends_plan text) ≡ at → ends_plan text at ≡ true → at + 9 ≡ plan_end text
  unfolding plan_end
  plan_found l e h = rw (← first_hit (ends_plan text) at (length text) l e h, lt-ltb at (length text) l)

  pub plan_whole : at ≤ length text → length text ≤ at → first_below at (ends_plan text) ≡ at → at ≡ plan_end text
  unfolding plan_end
  plan_whole l m e =
      let w : length text ≡ at = omega arith in
      rw (← first_end (ends_plan text) at (length text) l m e, le-ltb at (length text) m, w)

-- the plan ends within the input
pub plan_within : (text : List ℕ) → plan_end text ≤ length text
unfolding plan_end
plan_within text = by-found (first_below (length text) (ends_plan text)) (first_below_first (length text) (ends_plan text)).found (ltb (first_below (length text) (ends_plan text)) (length text)) refl
  where
    by-found : (p : ℕ) → (p < length text → ends_plan text p ≡ true) → (b : Bool) → ltb p (length text) ≡ b → cond b (p + 9) (length text) ≤ length text
    by-found p f true e = ends_within text p (f (ltb-true p (length text) e))
    by-found p f false e = omega arith
