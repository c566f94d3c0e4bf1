-- Taken is taken alone: no refusal is; and which replies a text's lines can get, and a site text's. Assumes nothing.
use Rattle.std.specs.Prelude.{⊤, Result, Ok, Err}
use Rattle.plan.specs.declared.check.PlanFault.{PlanFault}
use Rattle.plan.specs.declared.check.PlanFault.TheVariants as check
use mathlib.Core.Path.{◌≡◌, refl, sym}
use mathlib.Core.Logic.{◌≢◌, ◌⊎◌, inl, inr}
use mathlib.Core.Bool.{Bool, true, false, cond}
use mathlib.Core.List.{List}
use Prim.Native.Nat.{ℕ, ◌≤◌, ◌<◌}
use native.Mathlib.Omega.{arith}
use lib.Dec.{ltb, leb}
use lib.ListN.{length}
use Rattle.below.specs.Below.{at}
use Rattle.below.proofs.Tests.{true_or_false}
use Rattle.tables.specs.Limits.{Limits}
use Rattle.tables.specs.Tables.{Tables, full_size}
use Rattle.tables.specs.Zero.{zeroed_tables}
use Rattle.lines.specs.declared.refusal.Refusal.{Refusal as LineRefusal}
use Rattle.lines.specs.declared.refusal.Refusal.TheVariants as line
use Rattle.text.specs.LinesRead.{LinesRead, lines_at}
use Rattle.site.specs.declared.SiteRefusal.{SiteRefusal}
use Rattle.site.specs.declared.SiteRefusal.TheVariants as site-line
use Rattle.plan.specs.declared.check.StopAt.{StopAt}
use Rattle.plan.specs.Answers.{check_of}
use Rattle.plan.specs.Claims.{visits_in, planned_total}
use Rattle.reading.specs.Replies.{ReadingReply, taken, refused_by, refused_at, refused_stop, refused_stops, reading_number, is_taken, refusal_meant, line_meant, site_meant, check_meant}
use Rattle.reading.specs.Reading.{Site, site_read, ReadingAnswer, with_reply, with_site, with_text, with_dependencies, after_check, from_lines, read_lines, after_site, read_plan}
use Rattle.reading.specs.declared.replies.Refusal.{Refusal}
use Rattle.reading.specs.declared.replies.Refusal.TheVariants.{TablesTooSmall, SiteForm, SiteRange, TooLong, Form, Range, Name, SameName, TooManyStops, StartsLate, NotRising, LegTooLong, SameLocation, Collision, TooManyDependencies}

pub refusal_not_taken : (x : Refusal) → is_taken (refusal_meant x) ≡ false
refusal_not_taken TablesTooSmall = refl
refusal_not_taken (SiteForm o) = refl
refusal_not_taken (SiteRange o) = refl
refusal_not_taken (TooLong o) = refl
refusal_not_taken (Form o) = refl
refusal_not_taken (Range o) = refl
refusal_not_taken (Name o) = refl
refusal_not_taken (SameName o) = refl
refusal_not_taken (TooManyStops o) = refl
refusal_not_taken (StartsLate s) = refl
refusal_not_taken (NotRising s) = refl
refusal_not_taken (LegTooLong s) = refl
refusal_not_taken (SameLocation s) = refl
refusal_not_taken (Collision s t) = refl
refusal_not_taken TooManyDependencies = refl

pub is_taken_lem : (r : ReadingReply) → is_taken r ≡ true → r ≡ taken
is_taken_lem taken e = refl
is_taken_lem (refused_by n) e = true_or_false e refl
is_taken_lem (refused_at n o) e = true_or_false e refl
is_taken_lem (refused_stop n s) e = true_or_false e refl
is_taken_lem (refused_stops n s t) e = true_or_false e refl

-- ---- the replies that a text's lines can get

-- what holds of taken, and of every refusal by a line, by the plan check and by building, holds of the reply
module _ (C : ReadingReply → Type 0)
    (of-taken : C taken)
    (of-line : (n o : ℕ) → 2 ≤ n → n ≤ 6 → C (refused_at n o))
    (of-stop : (n : ℕ) (s : StopAt) → 7 ≤ n → n ≤ 12 → C (refused_stop n s))
    (of-stops : (s t : StopAt) → C (refused_stops 10 s t))
    (of-many : C (refused_by 11)) where
  by_line : (r : LineRefusal) → C (line_meant r)
  by_line (line.Form o) = of-line 2 o (omega arith) (omega arith)
  by_line (line.Name o) = of-line 3 o (omega arith) (omega arith)
  by_line (line.Range o) = of-line 4 o (omega arith) (omega arith)
  by_line (line.SameName o) = of-line 5 o (omega arith) (omega arith)
  by_line (line.TooManyStops o) = of-line 6 o (omega arith) (omega arith)

  by_building : (z t : Tables) (b : Bool) → C (cond b (with_reply taken (with_dependencies t)) (with_reply (refused_by 11) z)).reply
  by_building z t true = of-taken
  by_building z t false = of-many

  module _ (L : Limits) where
    by_check : (z t : Tables) (k : Result ⊤ PlanFault) → C (after_check L z t (check_meant k)).reply
    by_check z t (Ok _) = by_building z t (leb (planned_total t.plan) L.dependencies)
    by_check z t (Err (check.StartsLate s)) = of-stop 7 s (omega arith) (omega arith)
    by_check z t (Err (check.NotRising s)) = of-stop 8 s (omega arith) (omega arith)
    by_check z t (Err (check.LegTooLong s)) = of-stop 12 s (omega arith) (omega arith)
    by_check z t (Err (check.SameLocation s)) = of-stop 9 s (omega arith) (omega arith)
    by_check z t (Err (check.Collision s o)) = of-stops s o

    by_lines : (z : Tables) (f : LinesRead (Result ℕ LineRefusal)) (a : Result ℕ LineRefusal) → C (from_lines L z f a).reply
    by_lines z f (Err r) = by_line r
    by_lines z f (Ok n) = by_check (zeroed_tables L z) (with_text f n z) (check_of (visits_in (with_text f n z).plan) (at (with_text f n z).plan.legs))

    pub lines_reply : (bytes : List ℕ) (z : Tables) → C (read_lines L bytes z).reply
    unfolding read_lines
    lines_reply bytes z = by_lines z (lines_at L bytes) (lines_at L bytes).answer

-- none of them has the number n
pub lines_never : (n : ℕ) → n ≢ 0 → (n < 2) ⊎ (12 < n) → (L : Limits) (bytes : List ℕ) (z : Tables) → reading_number (read_lines L bytes z).reply ≢ n
lines_never n some out = lines_reply (λ r. reading_number r ≢ n) (λ e. some (sym e)) (λ m o l k e. outside m (omega arith) (omega arith) e) (λ m s l k e. outside m (omega arith) (omega arith) e) (λ s t e. outside 10 (omega arith) (omega arith) e) (λ e. outside 11 (omega arith) (omega arith) e)
  where
    outside : (m : ℕ) → 2 ≤ m → m ≤ 12 → m ≡ n → ⊥
    outside m l k e = elim out [ inl h ↦ omega (arith, e, h) | inr h ↦ omega (arith, e, h) ]

-- a refusal by a line of the site text has 13 or 14 and no other number
pub site_never : (n : ℕ) → n ≢ 13 → n ≢ 14 → (r : SiteRefusal) → reading_number (site_meant r) ≢ n
site_never n form range (site-line.Form o) e = form (sym e)
site_never n form range (site-line.Range o) e = range (sym e)

-- a reading by 0 is one that was taken
pub taken_by_0 : (L : Limits) (s : Site) (bytes : List ℕ) (t : Tables) → reading_number (read_plan L s bytes t).reply ≡ 0 → (read_plan L s bytes t).reply ≡ taken
unfolding read_plan
taken_by_0 L s bytes t e = by_size (full_size L t) (after_site L (site_read L s).numbers bytes t (site_read L s).answer) (by_site (site_read L s).numbers (site_read L s).answer) e
  where
    by_length : (b : Bool) (r : ReadingAnswer) → (reading_number r.reply ≡ 0 → r.reply ≡ taken)
        → reading_number (cond b (with_reply (refused_at 1 L.text) t) r).reply ≡ 0 → (cond b (with_reply (refused_at 1 L.text) t) r).reply ≡ taken
    by_length true r h e = absurd (omega arith)
    by_length false r h e = h e

    by_site : (numbers : List ℕ) (a : Result ⊤ SiteRefusal) → reading_number (after_site L numbers bytes t a).reply ≡ 0 → (after_site L numbers bytes t a).reply ≡ taken
    by_site numbers (Err r) e = absurd (site_never 0 (λ z. omega arith) (λ z. omega arith) r e)
    by_site numbers (Ok _) e =
        by_length (ltb L.text (length bytes)) (read_lines L bytes (with_site numbers (zeroed_tables L t)))
        (lines_reply (λ r. reading_number r ≡ 0 → r ≡ taken) (λ z. refl) (λ n o l k z. absurd (omega arith)) (λ n s l k z. absurd (omega arith)) (λ s o z. absurd (omega arith)) (λ z. absurd (omega arith)) L bytes (with_site numbers (zeroed_tables L t))) e

    by_size : (b : Bool) (r : ReadingAnswer) → (reading_number r.reply ≡ 0 → r.reply ≡ taken)
        → reading_number (cond b r (with_reply (refused_by 41) t)).reply ≡ 0 → (cond b r (with_reply (refused_by 41) t)).reply ≡ taken
    by_size true r h e = h e
    by_size false r h e = absurd (omega arith)
