-- The reading's reply: document 01's number and values for each case (document 01, "Where each refusal is checked"). "For enum answers, a definition gives this paper's
-- number and values for each case, and the promises use that definition." Assumes nothing.
use Rattle.std.specs.Prelude.{Bool, true, false, ℕ, ⊤, Result, Ok, Err}
use Rattle.lines.specs.declared.refusal.Refusal.{Refusal as LineRefusal}
use Rattle.lines.specs.Refusals.{refusal_number, refusal_offset}
use Rattle.site.specs.declared.SiteRefusal.{SiteRefusal}
use Rattle.site.specs.Site.{site_number, site_offset}
use Rattle.plan.specs.declared.check.StopAt.{StopAt}
use Rattle.plan.specs.declared.check.PlanFault.{PlanFault}
use Rattle.plan.specs.declared.check.PlanFault.TheVariants as check
use Rattle.plan.specs.Answers.{check_number}
use Rattle.reading.specs.declared.replies.Refusal.{Refusal}
use Rattle.reading.specs.declared.replies.Refusal.TheVariants.{TablesTooSmall, SiteForm, SiteRange, TooLong, Form, Range, Name, SameName, TooManyStops, StartsLate, NotRising, LegTooLong, SameLocation, Collision, TooManyDependencies}

-- the plan is taken, or a refusal by its number: alone, ".. 1 to 6 carry a byte offset", 13 and 14 "as 2 and 4 do", "A refusal from the plan check says which drone and stop is at fault; 10 gives two of each"
pub data ReadingReply : Type 0 where
  taken : ReadingReply
  refused_by : ℕ → ReadingReply
  refused_at : ℕ → ℕ → ReadingReply
  refused_stop : ℕ → StopAt → ReadingReply
  refused_stops : ℕ → StopAt → StopAt → ReadingReply

-- the number that `field` prints: "`plan=` and 0 or the refusal"
abbrev pub reading_number : ReadingReply → ℕ
reading_number taken = 0
reading_number (refused_by n) = n
reading_number (refused_at n o) = n
reading_number (refused_stop n s) = n
reading_number (refused_stops n s t) = n

abbrev pub is_taken : ReadingReply → Bool
is_taken taken = true
is_taken (refused_by n) = false
is_taken (refused_at n o) = false
is_taken (refused_stop n s) = false
is_taken (refused_stops n s t) = false

-- "41 a lent table is below full size", "13, a malformed, missing or surplus site line; 14, a number out of its range, A not below B or a pair not above the one before", "1 text too long", "2 form, key, order or missing line; 4 number outside its range; 3 name; 5 name equal to an earlier one; 6 .. more
-- than the limit for all drones", "7 stop 0 not at time 0; 8 time not above the one before; 9 same location as the one before", "12, the time rises by less than the leg, after 8 and before 9", "10 collision", "11 too many dependencies"
abbrev pub refusal_meant : Refusal → ReadingReply
refusal_meant TablesTooSmall = refused_by 41
refusal_meant (SiteForm o) = refused_at 13 o
refusal_meant (SiteRange o) = refused_at 14 o
refusal_meant (TooLong o) = refused_at 1 o
refusal_meant (Form o) = refused_at 2 o
refusal_meant (Name o) = refused_at 3 o
refusal_meant (Range o) = refused_at 4 o
refusal_meant (SameName o) = refused_at 5 o
refusal_meant (TooManyStops o) = refused_at 6 o
refusal_meant (StartsLate s) = refused_stop 7 s
refusal_meant (NotRising s) = refused_stop 8 s
refusal_meant (LegTooLong s) = refused_stop 12 s
refusal_meant (SameLocation s) = refused_stop 9 s
refusal_meant (Collision s t) = refused_stops 10 s t
refusal_meant TooManyDependencies = refused_by 11

abbrev pub reading_meant : Result ⊤ Refusal → ReadingReply
reading_meant (Ok _) = taken
reading_meant (Err r) = refusal_meant r

-- a refusal by a line of the text: its number and its byte offset
abbrev pub line_meant : LineRefusal → ReadingReply
line_meant r = refused_at (refusal_number r) (refusal_offset r)

-- a refusal by a line of the site text: its number and its byte offset
abbrev pub site_meant : SiteRefusal → ReadingReply
site_meant r = refused_at (site_number r) (site_offset r)

-- what the plan check says: its number, with a stop, or two of each where two drones collide
abbrev pub check_meant : Result ⊤ PlanFault → ReadingReply
check_meant (Ok _) = taken
check_meant (Err (check.StartsLate s)) = refused_stop (check_number (Err (check.StartsLate s))) s
check_meant (Err (check.NotRising s)) = refused_stop (check_number (Err (check.NotRising s))) s
check_meant (Err (check.LegTooLong s)) = refused_stop (check_number (Err (check.LegTooLong s))) s
check_meant (Err (check.SameLocation s)) = refused_stop (check_number (Err (check.SameLocation s))) s
check_meant (Err (check.Collision s t)) = refused_stops (check_number (Err (check.Collision s t))) s t
