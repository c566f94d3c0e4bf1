-- How far one plan's tables come through the tests before a joining, the first test that either plan fails, and what the joining asks of plans that pass. Assumes nothing.
use Rattle.std.specs.Prelude.{◌≡◌, Bool, cond, List, ℕ, ◌≤◌, length, ⊤, Result, Ok, Err}
use Rattle.below.specs.Below.{at}
use Rattle.tables.specs.Limits.{Limits}
use Rattle.tables.specs.Tables.{Tables, full_size}
use Rattle.near.specs.Near.{SoundPairs}
use Rattle.sound.specs.Sound.{sound}
use Rattle.text.specs.Written.{Route}
use Rattle.copying.specs.Reckoned.{routes_in, Copyable}
use Rattle.tables.specs.declared.lent.Plan.{Plan}
use Rattle.joining.specs.Joining.{not_started}
use Rattle.joining.specs.declared.tests.StandingFault.{StandingFault}
use Rattle.joining.specs.declared.tests.StandingFault.TheVariants.{Small, Unsound, Started}

abbrev pub standing_by : (full isSound fresh : Bool) → Result ⊤ StandingFault
standing_by full isSound fresh = cond full (cond isSound (cond fresh (Ok tt) (Err Started)) (Err Unsound)) (Err Small)

unfoldable pub standing_of : Limits → Tables → Result ⊤ StandingFault
standing_of L t = standing_by (full_size L t) (sound L t) (not_started t)

-- the one that fails the earlier test
abbrev pub earlier : Result ⊤ StandingFault → Result ⊤ StandingFault → Result ⊤ StandingFault
earlier (Err Small) s = Err Small
earlier (Err Unsound) (Err Small) = Err Small
earlier (Err Unsound) (Err Unsound) = Err Unsound
earlier (Err Unsound) (Err Started) = Err Unsound
earlier (Err Unsound) (Ok _) = Err Unsound
earlier (Err Started) (Err Small) = Err Small
earlier (Err Started) (Err Unsound) = Err Unsound
earlier (Err Started) (Err Started) = Err Started
earlier (Err Started) (Ok _) = Err Started
earlier (Ok _) s = s

-- tables with these lists, whatever their dependencies and the drones' progress are
pub record HasPlan (t : Tables) (drone_count form names stop_counts locations times legs pairs : List ℕ) : Type 0 where
  pub drone_count_lem : t.plan.drone_count ≡ drone_count
  pub form_is : t.plan.form ≡ form
  pub names_are : t.plan.names ≡ names
  pub stop_counts_lem : t.plan.stop_counts ≡ stop_counts
  pub locations_are : t.plan.locations ≡ locations
  pub times_are : t.plan.times ≡ times
  pub legs_are : t.plan.legs ≡ legs
  pub pairs_are : t.plan.pairs ≡ pairs

-- lists of a plan that can be joined: a form that the board knows, routes in range, pairs that a site text could give
pub record PlanReady (L : Limits) (drone_count form names stop_counts locations times legs pairs : List ℕ) : Type 0 where
  pub has_drone_count : 1 ≤ length drone_count
  pub has_form : 1 ≤ length form
  pub form_some : 1 ≤ at form 0
  pub form_known : at form 0 ≤ L.form
  pub routes_ready : Copyable L (at form 0) (at drone_count 0) names stop_counts locations times legs
  pub pairs_ready : SoundPairs L pairs

-- ---- the same of a lent plan

-- tables that hold it
abbrev pub HoldsPlan : Tables → Plan → Type 0
HoldsPlan t plan = HasPlan t plan.drone_count.now plan.form.now plan.names.now plan.stop_counts.now plan.locations.now plan.times.now plan.legs.now plan.pairs.now

-- it can be joined
abbrev pub ReadyPlan : Limits → Plan → Type 0
ReadyPlan L plan = PlanReady L plan.drone_count.now plan.form.now plan.names.now plan.stop_counts.now plan.locations.now plan.times.now plan.legs.now plan.pairs.now

-- its routes, and that they can be copied in a form
abbrev pub routes_held : Limits → Plan → List Route
routes_held L plan = routes_in L (at plan.drone_count.now 0) plan.names.now plan.stop_counts.now plan.locations.now plan.times.now plan.legs.now

pub record CopyablePlan (L : Limits) (form : ℕ) (plan : Plan) : Type 0 where
  pub counted : 1 ≤ length plan.drone_count.now
  pub routes : Copyable L form (at plan.drone_count.now 0) plan.names.now plan.stop_counts.now plan.locations.now plan.times.now plan.legs.now
