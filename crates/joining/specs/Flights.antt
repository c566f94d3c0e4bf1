-- Flights of document 01 flown by two planners: flight Q's drones planned apart and joined, on one site or without, in one plan form or in both, within limits that are small enough for each refusal to
-- be met. Assumes nothing.
use Rattle.std.specs.Prelude.{◌≡◌, List, [], ◌∷◌, ℕ}
use Prim.Native.String.{String}
use Rattle.tables.specs.Limits.{Limits}
use Rattle.tables.specs.Tables.{Tables, dependencies}
use Rattle.tables.specs.Zero.{filled}
use Rattle.text.specs.Examples.{bytes}
use Rattle.call_log.specs.CallLog.{Call, grant, arrive, withdraw, turn}
use Rattle.call_log.specs.Calls.{step, tables_after}
use Rattle.reading.specs.Replies.{ReadingReply, taken, refused_by, refused_at, refused_stops}
use Rattle.reading.specs.Reading.{Site, without, given, ReadingAnswer, read_plan}
use Rattle.accepted.specs.Examples.{text_q}
use Rattle.joining.specs.Joining.{join_plans}

-- limits of so many bytes, drones, stops and dependencies
abbrev pub farm : ℕ → ℕ → ℕ → ℕ → Limits
farm text drones stops dependencies = record { text = text; drones = drones; stops = stops; dependencies = dependencies; name = 24; location = 65535; time = 1000000; leg = 60; form = 2 }

-- limits that leave room for all of these plans
abbrev pub wide : Limits
wide = farm 200 3 8 2

-- ---- the plans

-- the drones of flight Q, each in a plan of its own
abbrev pub east : String
east = "plan=1\nagents=1\nname=survey-quad-east-1\nstops=4\ngo=1@0\ngo=6@1\ngo=5@2\ngo=2@3\nend=plan\n"

abbrev pub west : String
west = "plan=1\nagents=1\nname=survey-quad-east-2\nstops=3\ngo=3@0\ngo=5@4\ngo=4@5\nend=plan\n"

-- .. the second one with "5 at time 3", and with the first one's name
abbrev pub west_early : String
west_early = "plan=1\nagents=1\nname=survey-quad-east-2\nstops=3\ngo=3@0\ngo=5@3\ngo=4@5\nend=plan\n"

abbrev pub west_namesake : String
west_namesake = "plan=1\nagents=1\nname=survey-quad-east-1\nstops=3\ngo=3@0\ngo=5@4\ngo=4@5\nend=plan\n"

-- .. and both of these as `plan=2`, with a leg of three rounds
abbrev pub west_legs : String
west_legs = "plan=2\nagents=1\nname=survey-quad-east-2\nstops=3\ngo=3@0@0\ngo=5@4@3\ngo=4@5@1\nend=plan\n"

abbrev pub namesake_legs : String
namesake_legs = "plan=2\nagents=1\nname=survey-quad-east-1\nstops=3\ngo=3@0@0\ngo=5@4@3\ngo=4@5@1\nend=plan\n"

-- the first drone's plan and the second one's with legs, joined: "joining one of each gives `plan=2`", with legs of one, 0 at stop 0, in the first drone's lines
abbrev pub text_mixed : String
text_mixed = "plan=2\nagents=2\nname=survey-quad-east-1\nstops=4\ngo=1@0@0\ngo=6@1@1\ngo=5@2@1\ngo=2@3@1\nname=survey-quad-east-2\nstops=3\ngo=3@0@0\ngo=5@4@3\ngo=4@5@1\nend=plan\n"

-- a third drone that meets nobody
abbrev pub north : String
north = "plan=1\nagents=1\nname=north\nstops=1\ngo=9@0\nend=plan\n"

-- site texts: without pairs, with the drones' stops 0 near each other, and with the second one's last stop near the first one's stop 1
abbrev pub no_pairs : String
no_pairs = "site=1\npairs=0\nend=site\n"

abbrev pub starts_near : String
starts_near = "site=1\npairs=1\nnear=1,3\nend=site\n"

abbrev pub later_near : String
later_near = "site=1\npairs=1\nnear=4,6\nend=site\n"

-- ---- joinings

-- a planner's plan: its text, read with a site text or without, and the calls that were made on it
pub record PlannersPlan : Type 0 where
  pub site : Site
  pub text : String
  pub calls : List Call

-- a plan without a site text on which no call was made; one after calls; one on a site
abbrev pub plain : String → PlannersPlan
plain text = record { site = without; text = text; calls = [] }

abbrev pub after_calls : String → List Call → PlannersPlan
after_calls text calls = record { site = without; text = text; calls = calls }

abbrev pub on : String → String → PlannersPlan
on site text = record { site = given (bytes site); text = text; calls = [] }

-- what the reading and the calls left
abbrev pub planned_tables : Limits → PlannersPlan → Tables
planned_tables L p = tables_after (step L) (read_plan L p.site (bytes p.text) (filled 7 L)).tables p.calls

-- two plans joined into tables that held something else before, and the reply
abbrev pub joined_by : Limits → PlannersPlan → PlannersPlan → ReadingAnswer
joined_by L p q = join_plans L (planned_tables L p) (planned_tables L q) (filled 7 L)

abbrev pub join_reply : Limits → PlannersPlan → PlannersPlan → ReadingReply
join_reply L p q = (joined_by L p q).reply

-- ---- the flights

pub record ReplyFlights : Type 0 where
  -- joined, they are flight Q: the reply and every table
  pub flight_q : joined_by wide (plain east) (plain west) ≡ read_plan wide without (bytes text_q) (filled 7 wide)
  -- "Q with the second drone's 5 at time 3: 10, since the first leaves in timestep 3"
  pub collide : join_reply wide (plain east) (plain west_early) ≡ refused_stops 10 (record { drone = 0; stop = 2 }) (record { drone = 1; stop = 1 })
  -- the joined text has 138 bytes; its second line begins at 7, its drones at 16 and 76, and the second one's line `stops=` at 100
  pub too_long : join_reply (farm 137 3 8 2) (plain east) (plain west) ≡ refused_at 1 137
  pub too_many_drones : join_reply (farm 138 1 8 2) (plain east) (plain west) ≡ refused_at 4 7
  pub one_name : join_reply (farm 138 3 8 2) (plain east) (plain west_namesake) ≡ refused_at 5 76
  pub too_many_stops : join_reply (farm 138 3 6 2) (plain east) (plain west) ≡ refused_at 6 100
  pub too_many_dependencies : join_reply (farm 138 3 8 0) (plain east) (plain west) ≡ refused_by 11
  -- 5 comes before 6, and 1 before all of the text
  pub name_first : join_reply (farm 138 3 6 2) (plain east) (plain west_namesake) ≡ refused_at 5 76
  pub length_first : join_reply (farm 137 1 6 2) (plain east) (plain west_namesake) ≡ refused_at 1 137

pub record UnfitFlights : Type 0 where
  -- "a drone of either has visited stop 1 or is under way, or a dependency of either is turned", the first three where the joined text would be too long, so before 1; "a plan with a withdrawn drone gets 16"
  pub under_way : join_reply (farm 137 3 8 2) (after_calls east (grant 0 ∷ [])) (plain west) ≡ refused_by 16
  pub visited : join_reply (farm 137 3 8 2) (plain east) (after_calls west (grant 0 ∷ arrive 0 ∷ [])) ≡ refused_by 16
  pub withdrawn : join_reply (farm 137 3 8 2) (plain east) (after_calls west (withdraw 0 ∷ [])) ≡ refused_by 16
  pub turned : join_reply wide (after_calls text_q (turn 0 ∷ [])) (plain north) ≡ refused_by 16
  -- turned twice is as before
  pub turned_twice : join_reply wide (after_calls text_q (turn 0 ∷ turn 0 ∷ [])) (plain north) ≡ taken
  -- "Joining two plans whose site pairs differ gets 16", before 1
  pub other_pairs : join_reply (farm 137 3 8 2) (on later_near east) (on starts_near west) ≡ refused_by 16
  pub pairs_of_one : join_reply (farm 137 3 8 2) (plain east) (on later_near west) ≡ refused_by 16
  -- 40 before 16, 41 before 40
  pub not_sound : (join_plans wide (planned_tables wide (after_calls east (grant 0 ∷ []))) (filled 7 wide) (filled 7 wide)).reply ≡ refused_by 40
  pub small : (join_plans wide (planned_tables wide (plain east)) (filled 7 wide) (filled 7 (farm 200 3 7 2))).reply ≡ refused_by 41

pub record SitesJoined : Type 0 where
  -- no site text and one without pairs are the same site: the joined plan is flight Q
  pub no_pairs_lem : joined_by wide (on no_pairs east) (plain west) ≡ read_plan wide without (bytes text_q) (filled 7 wide)
  -- "two visits collide, or make a dependency, when their locations are equal or near", of drones from both plans; "otherwise the joined plan keeps them"
  pub near_starts : join_reply wide (on starts_near east) (on starts_near west) ≡ refused_stops 10 (record { drone = 0; stop = 0 }) (record { drone = 1; stop = 0 })
  pub near_later : joined_by wide (on later_near east) (on later_near west) ≡ read_plan wide (given (bytes later_near)) (bytes text_q) (filled 7 wide)
  pub near_count : dependencies (joined_by wide (on later_near east) (on later_near west)).tables.plan ≡ 2
  pub near_too_many : join_reply (farm 138 3 8 1) (on later_near east) (on later_near west) ≡ refused_by 11

pub record FormFlights : Type 0 where
  -- "joining one of each gives `plan=2`", whichever is named first
  pub one_of_each : joined_by wide (plain east) (plain west_legs) ≡ read_plan wide without (bytes text_mixed) (filled 7 wide)
  pub legs_first : join_reply wide (plain west_legs) (plain east) ≡ taken
  -- that text has 152 bytes, its second drone's lines begin at 84, and the line `stops=` at 108
  pub mixed_too_long : join_reply (farm 151 3 8 2) (plain east) (plain west_legs) ≡ refused_at 1 151
  pub mixed_one_name : join_reply (farm 152 3 8 2) (plain east) (plain namesake_legs) ≡ refused_at 5 84
  pub mixed_too_many_stops : join_reply (farm 152 3 6 2) (plain east) (plain west_legs) ≡ refused_at 6 108

pub record JoiningFlights : Type 0 where
  pub replies : ReplyFlights
  pub unfit : UnfitFlights
  pub sites : SitesJoined
  pub forms : FormFlights
