-- A joining over the lent records.
--     join-twice    on third tables that differ only in what is zeroed
--     neither    no refusal of the reading is 40 or 16
--     own-plan, both-stand    the two plans, as the joining asks for them
-- Assumes nothing.
use mathlib.Core.Path.{◌≡◌, refl, ◌∙◌}
use mathlib.Core.Bool.{Bool, true, false, cond, ◌&&◌}
use Rattle.tables.specs.Limits.{Limits}
use Rattle.tables.specs.Tables.{Tables, full_size}
use Rattle.tables.specs.Zero.{zeroed_tables}
use Rattle.sound.specs.Sound.{sound}
use Rattle.reading.specs.Replies.{refused_by, reading_number, refusal_meant}
use Rattle.reading.specs.Reading.{ReadingAnswer, with_reply}
use Rattle.reading.specs.declared.replies.Refusal.{Refusal}
use Rattle.reading.specs.declared.replies.Refusal.TheVariants.{TablesTooSmall, SiteForm, SiteRange, TooLong, Form, Range, Name, SameName, TooManyStops, StartsLate, NotRising, LegTooLong, SameLocation, Collision, TooManyDependencies}
use Rattle.joining.specs.Joining.{can_join, join_plans}
use Rattle.joining.specs.Standing.{standing_of, earlier, HasPlan}
use Rattle.std.specs.Prelude.{Result, ⊤}
use Rattle.joining.specs.declared.tests.StandingFault.{StandingFault}
use Rattle.conductor.specs.Changes.{is_unchanged, is_join_unchanged}
use Rattle.conductor.proofs.Stored.{Twice, unwritten}
use Rattle.conductor.proofs.ReadLaws.{joining_numbers, read_twice}

-- ---- the third tables

module _ (t t₀ : Tables) where
  -- by the tests before the joined text is read
  by_tests : (full isSound fit : Bool) {x x₀ : ReadingAnswer} → Twice is_join_unchanged t t₀ x x₀ → Twice is_join_unchanged t t₀ (cond full (cond isSound (cond fit x (with_reply (refused_by 16) t)) (with_reply (refused_by 40) t)) (with_reply (refused_by 41) t)) (cond full (cond isSound (cond fit x₀ (with_reply (refused_by 16) t₀)) (with_reply (refused_by 40) t₀)) (with_reply (refused_by 41) t₀))
  by_tests false isSound fit r = unwritten is_join_unchanged t t₀ (refused_by 41) refl
  by_tests true false fit r = unwritten is_join_unchanged t t₀ (refused_by 40) refl
  by_tests true true false r = unwritten is_join_unchanged t t₀ (refused_by 16) refl
  by_tests true true true r = r

pub join_twice : (L : Limits) (a b t t₀ : Tables) → full_size L t₀ ≡ full_size L t → zeroed_tables L t₀ ≡ zeroed_tables L t → Twice is_join_unchanged t t₀ (join_plans L a b t) (join_plans L a b t₀)
unfolding join_plans
join_twice L a b t t₀ full same = rw full (by_tests t t₀ (full_size L a && (full_size L b && full_size L t)) (sound L a && sound L b) (can_join a b) (read_twice L joining_numbers _ _ t t₀ full same))

-- a refusal of the reading is neither 40 nor 16
neither : (r : Refusal) → is_join_unchanged (reading_number (refusal_meant r)) ≡ is_unchanged (reading_number (refusal_meant r))
neither TablesTooSmall = refl
neither (SiteForm o) = refl
neither (SiteRange o) = refl
neither (TooLong o) = refl
neither (Form o) = refl
neither (Range o) = refl
neither (Name o) = refl
neither (SameName o) = refl
neither (TooManyStops o) = refl
neither (StartsLate s) = refl
neither (NotRising s) = refl
neither (LegTooLong s) = refl
neither (SameLocation s) = refl
neither (Collision s t) = refl
neither TooManyDependencies = refl

-- ---- both plans

-- the lists of a plan are its own
pub own_plan : (t : Tables) → HasPlan t t.plan.drone_count t.plan.form t.plan.names t.plan.stop_counts t.plan.locations t.plan.times t.plan.legs t.plan.pairs
own_plan t = record { drone_count_lem = refl; form_is = refl; names_are = refl; stop_counts_lem = refl; locations_are = refl; times_are = refl; legs_are = refl; pairs_are = refl }

-- from the tests of each plan to those of both
pub both_stand : (L : Limits) (a b : Tables) (x y s : Result ⊤ StandingFault) → x ≡ standing_of L a → y ≡ standing_of L b → s ≡ earlier x y → s ≡ earlier (standing_of L a) (standing_of L b)
both_stand L a b x y s first second failed = failed ∙ rw (first, second) refl
