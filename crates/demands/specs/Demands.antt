-- The customer's three demands, each one proposition. Their parts are claims of the crates below, each over any limits or over the limits given. Wherever they speak of a reading, it is one with any site
-- text or without (request 7); what they say of plans that are joined (request 1) is in `JoiningClaims`. Assumes nothing.
use Rattle.tables.specs.Limits.{Limits}
use Rattle.tables.specs.Tables.{Tables}
use Rattle.text.specs.Claims.{OffsetsBeginLines, CutAtFault, AbsentAtLength}
use Rattle.call_log.specs.Claims.{Demand2}
use Rattle.accepted.specs.Claims.{TakenExactly, TablesHoldPlan, TablesHoldForm, TablesHoldSite, SiteGivenBack, PlainLegs, AcceptedText, TablesSound, SoundMeansAccepted, Demand3OfTexts, WithoutSite, SiteRefusedExactly}
use Rattle.accepted.specs.Reported.{ReportedOfTexts}
use Rattle.accepted.specs.Refused.{LinesRefusedExactly, DependenciesRefusedExactly}
use Rattle.joining.specs.Claims.{Demand3OfJoined, JoiningClaims}
use Rattle.demands.specs.BestOrder.{BestOrderClaims}
use Rattle.demands.specs.Numbers.{ExactNumbers}
use Rattle.demands.specs.Refusals.{RefusalsLeave}
use Rattle.demands.specs.FullSizes.{FullSizesKept}
use Rattle.demands.specs.Writing.{WrittenOut}
use Rattle.demands.specs.Remaining.{RemainingCost}

-- 1. "Whoever hands the conductor a text, a number or a set of tables gets a reply that ends. What is unfit is refused by the number in document 01's list, with the lent tables in the state listed
-- there, and nothing is left for the pilot to test beforehand." That a reply ends is the toolchain's: every function that is proved ends. Nothing is left to test beforehand: the public calls have no
-- `requires`, and their contracts are equations with the definitions that these claims speak of (conductor/src/calls.rt). The fields are of readings and calls. Of a joining the exact numbers are
-- `small_exactly`, `unsound_exactly`, `unfit_exactly`, `numbers` and `offsets` of `JoiningClaims`, and the state of the third tables `unchanged`, `too_long_unchanged` and `zeroed`, the field `joined` of the second demand
pub record FirstDemand (L : Limits) : Type 0 where
  pub exact_numbers : ExactNumbers L
  pub site_refused : SiteRefusedExactly L
  pub reported_of_texts : ReportedOfTexts L
  pub refusals_leave : RefusalsLeave L
  pub full_sizes_kept : FullSizesKept L
  -- what is wrong with the line at the offset, for each of 2 to 6; that a text is refused by its lines exactly when it is no plan's text within the limits; and when 11 is said
  pub lines_refused : LinesRefusedExactly L
  pub dependencies_refused : DependenciesRefusedExactly L
  -- "Refusals 1 to 6 carry a byte offset: .. else the start of the line (the text's length if the line is absent)"
  pub offsets_begin_lines : OffsetsBeginLines L
  pub cut_at_fault : CutAtFault L
  pub absent_at_length : AbsentAtLength L

-- 2. "A plan is taken exactly when its text follows document 01 and no two drones collide as the plan graph papers define it. A move is granted, an arrival taken and an order turned exactly when graph
-- and progress permit it. A taken plan written out gives its text again. Remaining cost is the sum of the undelayed rounds that each drone still needs."
pub record SecondDemand (L : Limits) : Type 0 where
  -- a text is taken exactly when it follows document 01, and the site text, if there is one, request 7, and no two of its drones collide as source document 004 has it, at locations that are equal or near;
  -- the tables then hold the text's own plan, with exactly its dependencies, its form, and the site's pairs; a `plan=1` text has legs of one
  pub taken_exactly : TakenExactly L
  pub tables_hold_plan : TablesHoldPlan L
  pub tables_hold_form : TablesHoldForm L
  pub tables_hold_site : TablesHoldSite L
  pub plain_legs : PlainLegs L
  pub accepted_text : AcceptedText L
  -- "A plan read without a site text behaves as before"
  pub without_site : WithoutSite L
  -- sound: as after a reading, and only where the plan in the tables would be accepted
  pub tables_sound : TablesSound L
  pub sound_means_accepted : SoundMeansAccepted L
  -- granted, arrived, withdrawn, turned exactly when; 23, 25, 34 and 35; the cost; over any limits
  pub calls_exact : Demand2
  -- best order (request 11): "the least cost of all choices without a cycle, the earliest such choice, and the count", and the list that is given
  pub best_order_lem : (t : Tables) → BestOrderClaims L t
  -- written out; and the pairs are those of the site text that was given
  pub written_out : WrittenOut L
  pub site_given_back : SiteGivenBack L
  -- two plans joined: "taken exactly when its own text would be", "the third tables are then what reading that text gives", and the joined plan written out is that text
  pub joined : JoiningClaims L
  -- "Remaining cost is the sum of the undelayed rounds that each drone still needs": those are the least number of rounds after which it has visited its last stop
  pub remaining_cost : RemainingCost L

-- 3. "Done before: any accepted plan, then every list of grants, arrivals and turns, of any length and order, whatever drone or dependency each names, refused ones included. The first call gets the tables
-- as the reading left them, each later one as the call before it left them, and nobody else writes them meanwhile. Found after every such list: every call got the reply that document 01's call log gives;
-- the tables show the progress and turns of that log; by it no crossing is held by two drones; if some drone is short of its last stop, some drone is under way or a grant would now be accepted; and
-- undelayed rounds finish everybody in no more rounds than there are unvisited stops." The plan is one that was read, read with a site text or joined; withdrawals (request 10) and turns of a list
-- (request 4) are calls too; near locations are held like equal ones (request 7), and with legs the rounds are at most "the sum of the unvisited stops' legs" (request 14). That each call gets the tables as
-- the one before left them is the type of `Ran`, whose first tables are those that `AnsweredAs` says the reading left
pub record ThirdDemand (L : Limits) : Type 0 where
  pub of_texts : Demand3OfTexts L
  pub of_joined : Demand3OfJoined L

pub record Demands (L : Limits) : Type 0 where
  pub first : FirstDemand L
  pub second : SecondDemand L
  pub third : ThirdDemand L
