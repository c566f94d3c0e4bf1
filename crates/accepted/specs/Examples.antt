-- Flights of document 01 as texts, read into tables of full size that held something else before, without a site text and with one (request 7): the readings that the claims speak of do happen. Assumes
-- nothing.
use Rattle.std.specs.Prelude.{◌≡◌, Bool, true, List, [], ◌∷◌, ℕ, eqb}
use Prim.Native.String.{String}
use Rattle.below.specs.Below.{all_in}
use Rattle.tables.specs.Limits.{Limits, limits}
use Rattle.tables.specs.Zero.{filled}
use Rattle.text.specs.Examples.{bytes, legged_q}
use Rattle.reading.specs.Replies.{ReadingReply, taken, refused_by, refused_at, refused_stop, refused_stops, reading_number}
use Rattle.reading.specs.Reading.{Site, without, given, read_plan}
use Rattle.accepted.specs.TextPlan.{text_plan, text_form}

-- the product's limits, but for one dependency
abbrev pub limits_of_one : Limits
limits_of_one = record {
  text = limits.text;
  drones = limits.drones;
  stops = limits.stops;
  dependencies = 1;
  name = limits.name;
  location = limits.location;
  time = limits.time;
  leg = limits.leg;
  form = limits.form;
}

-- "Input Q"
abbrev pub text_q : String
text_q = "plan=1\nagents=2\nname=survey-quad-east-1\nstops=4\ngo=1@0\ngo=6@1\ngo=5@2\ngo=2@3\nname=survey-quad-east-2\nstops=3\ngo=3@0\ngo=5@4\ngo=4@5\nend=plan\n"

-- flight P
abbrev pub text_p : String
text_p = "plan=1\nagents=2\nname=a\nstops=4\ngo=10@0\ngo=20@1\ngo=30@2\ngo=40@3\nname=b\nstops=4\ngo=11@0\ngo=20@3\ngo=30@4\ngo=41@5\nend=plan\n"

-- a text that is read within some limits, and the number of the reply (0 where it is accepted)
pub record ReadingExample : Type 0 where
  pub within : Limits
  pub text : String
  pub number : ℕ

abbrev pub reading_as_given : ReadingExample → Bool
reading_as_given e = eqb (reading_number (read_plan e.within without (bytes e.text) (filled 7 e.within)).reply) e.number

abbrev pub reading_examples : List ReadingExample
reading_examples =
    -- "At 4: taken."
    record { within = limits; text = text_q; number = 0 }
    -- "Q with the second drone's 5 at time 3: 10, since the first leaves in timestep 3."
    ∷ record { within = limits; text = "plan=1\nagents=2\nname=survey-quad-east-1\nstops=4\ngo=1@0\ngo=6@1\ngo=5@2\ngo=2@3\nname=survey-quad-east-2\nstops=3\ngo=3@0\ngo=5@3\ngo=4@5\nend=plan\n"; number = 10 }
    -- "P: .. two dependencies"
    ∷ record { within = limits; text = text_p; number = 0 }
    ∷ record { within = limits_of_one; text = text_p; number = 11 }
    -- the drones collide at 40, where the first stays, and have three dependencies: "plan check, after all stops" comes before "building"
    ∷ record { within = limits_of_one; text = "plan=1\nagents=2\nname=a\nstops=4\ngo=10@0\ngo=20@1\ngo=30@2\ngo=40@3\nname=b\nstops=4\ngo=11@0\ngo=20@3\ngo=30@4\ngo=40@5\nend=plan\n"; number = 10 }
    -- a drone with more stops than the limit for all: "at one line in this order .. 4 .. 6"
    ∷ record { within = limits; text = "plan=1\nagents=1\nname=a\nstops=2049\n"; number = 4 }
    -- "a capital is the same letter as its small form everywhere names are compared"
    ∷ record { within = limits; text = "plan=1\nagents=2\nname=Survey-Quad-East-1\nstops=1\ngo=1@0\nname=survey-quad-east-1\nstops=1\ngo=2@0\nend=plan\n"; number = 5 }
    ∷ []

-- ---- the stops that a refusal names

abbrev pub reply_to : String → ReadingReply
reply_to text = (read_plan limits without (bytes text) (filled 7 limits)).reply

pub record StopsNamed : Type 0 where
  -- "7 stop 0 not at time 0": drone 1 is the first at fault, and its stop 1 breaks 8 and 9 too
  pub starts_late : reply_to "plan=1\nagents=2\nname=a\nstops=1\ngo=1@0\nname=b\nstops=2\ngo=2@1\ngo=2@1\nend=plan\n" ≡ refused_stop 7 (record { drone = 1; stop = 0 })
  -- "8 time not above the one before" comes before 9 at one stop, and both before 7 at a later drone
  pub not_rising : reply_to "plan=1\nagents=2\nname=a\nstops=3\ngo=1@0\ngo=2@1\ngo=2@1\nname=b\nstops=1\ngo=3@1\nend=plan\n" ≡ refused_stop 8 (record { drone = 0; stop = 2 })
  -- "12, the time rises by less than the leg": by one less, at drone 1
  pub leg_too_long : reply_to "plan=2\nagents=2\nname=a\nstops=2\ngo=1@0@0\ngo=2@60@60\nname=b\nstops=2\ngo=3@0@0\ngo=4@59@60\nend=plan\n" ≡ refused_stop 12 (record { drone = 1; stop = 1 })
  -- "after 8 and before 9" at one stop: one that breaks all three, one that breaks 12 and 9, one that breaks 9
  pub first_8 : reply_to "plan=2\nagents=1\nname=a\nstops=2\ngo=1@0@0\ngo=1@0@60\nend=plan\n" ≡ refused_stop 8 (record { drone = 0; stop = 1 })
  pub then_12 : reply_to "plan=2\nagents=1\nname=a\nstops=2\ngo=1@0@0\ngo=1@59@60\nend=plan\n" ≡ refused_stop 12 (record { drone = 0; stop = 1 })
  pub then_9 : reply_to "plan=2\nagents=1\nname=a\nstops=2\ngo=1@0@0\ngo=1@60@60\nend=plan\n" ≡ refused_stop 9 (record { drone = 0; stop = 1 })
  -- "9 same location as the one before", before 8 at a later stop; the drones collide at 1 too, but single stops come before pairs
  pub same_location : reply_to "plan=1\nagents=2\nname=a\nstops=3\ngo=1@0\ngo=1@1\ngo=2@1\nname=b\nstops=1\ngo=1@0\nend=plan\n" ≡ refused_stop 9 (record { drone = 0; stop = 1 })
  -- "10 gives two of each": at 5 all three drones collide, and drones 1 and 2 at their stops 0
  pub collision : reply_to "plan=1\nagents=3\nname=a\nstops=3\ngo=1@0\ngo=5@2\ngo=6@4\nname=b\nstops=2\ngo=2@0\ngo=5@3\nname=c\nstops=2\ngo=2@0\ngo=5@1\nend=plan\n" ≡ refused_stops 10 (record { drone = 0; stop = 1 }) (record { drone = 1; stop = 1 })

-- ---- boards with lower limits

-- limits of a text's length, of drones, stops and dependencies, of boards that know `plan=1` alone; the others are the product's
abbrev pub limits_at : (text drones stops dependencies : ℕ) → Limits
limits_at text drones stops dependencies =
    record { text = text; drones = drones; stops = stops; dependencies = dependencies; name = limits.name; location = limits.location; time = limits.time; leg = limits.leg; form = 1 }

-- what a board with these limits says of flight Q
abbrev pub older_to : Limits → ReadingReply
older_to L = (read_plan L without (bytes text_q) (filled 7 L)).reply

-- .. and of Q with legs
abbrev pub older_to_legs : Limits → ReadingReply
older_to_legs L = (read_plan L without (bytes legged_q) (filled 7 L)).reply

-- flight Q has 138 bytes, two drones of four and three stops, and one dependency
pub record OlderReplies : Type 0 where
  pub just_enough : older_to (limits_at 138 2 7 1) ≡ taken
  pub too_long : older_to (limits_at 137 1 3 0) ≡ refused_at 1 137
  pub too_many_drones : older_to (limits_at 138 1 3 0) ≡ refused_at 4 7
  pub too_many_stops : older_to (limits_at 138 2 3 0) ≡ refused_at 4 40
  pub too_many_together : older_to (limits_at 138 2 6 0) ≡ refused_at 6 100
  pub too_many_dependencies : older_to (limits_at 138 2 7 0) ≡ refused_by 11
  -- "Older boards refuse `plan=2` with 2, or with 1 if it is too long for them": Q with legs has 152 bytes
  pub unknown_form : older_to_legs (limits_at 152 1 3 0) ≡ refused_at 2 0
  pub too_long_first : older_to_legs (limits_at 151 1 3 0) ≡ refused_at 1 151

-- ---- with a site text

-- what is said of a plan text with a site text, within some limits
abbrev pub read_reply : Limits → String → String → ReadingReply
read_reply L site text = (read_plan L (given (bytes site)) (bytes text) (filled 7 L)).reply

-- two drones that stay at 3 and at 5 from time 2 on
abbrev pub text_beside : String
text_beside = "plan=1\nagents=2\nname=a\nstops=2\ngo=1@0\ngo=3@2\nname=b\nstops=2\ngo=2@0\ngo=5@2\nend=plan\n"

-- .. and a third that is at 4 before
abbrev pub text_between : String
text_between = "plan=1\nagents=3\nname=a\nstops=2\ngo=1@0\ngo=3@2\nname=b\nstops=2\ngo=2@0\ngo=5@2\nname=c\nstops=2\ngo=4@0\ngo=9@1\nend=plan\n"

pub record SiteReplies : Type 0 where
  -- "two visits collide .. when their locations are equal or near", whichever is named first
  pub beside_without : reply_to text_beside ≡ taken
  pub beside_near : read_reply limits "site=1\npairs=1\nnear=3,5\nend=site\n" text_beside ≡ refused_stops 10 (record { drone = 0; stop = 1 }) (record { drone = 1; stop = 1 })
  -- three in a row: 3 is near 4 and 4 is near 5, but 3 is not near 5. The third drone has left 4 before the others come, at time 2; at time 1 it has not
  pub in_a_row : read_reply limits "site=1\npairs=2\nnear=3,4\nnear=4,5\nend=site\n" text_between ≡ taken
  pub in_a_row_count : (text_plan limits (given (bytes "site=1\npairs=2\nnear=3,4\nnear=4,5\nend=site\n")) (bytes text_between)).count ≡ 2
  pub in_a_row_late : read_reply limits "site=1\npairs=2\nnear=3,4\nnear=4,5\nend=site\n" "plan=1\nagents=3\nname=a\nstops=2\ngo=1@0\ngo=3@2\nname=b\nstops=2\ngo=2@0\ngo=5@1\nname=c\nstops=2\ngo=4@0\ngo=9@1\nend=plan\n"
      ≡ refused_stops 10 (record { drone = 1; stop = 1 }) (record { drone = 2; stop = 0 })
  -- "Only different drones are compared": a drone goes between near locations by itself
  pub by_itself : read_reply limits "site=1\npairs=1\nnear=3,5\nend=site\n" "plan=1\nagents=1\nname=a\nstops=3\ngo=3@0\ngo=5@1\ngo=3@2\nend=plan\n" ≡ taken
  -- Q with 4 and 6 near, and with 5 and 6 near: one dependency more than without
  pub q_4_6 : read_reply limits "site=1\npairs=1\nnear=4,6\nend=site\n" text_q ≡ taken
  pub q_4_6_count : (text_plan limits (given (bytes "site=1\npairs=1\nnear=4,6\nend=site\n")) (bytes text_q)).count ≡ 2
  pub q_5_6_count : (text_plan limits (given (bytes "site=1\npairs=1\nnear=5,6\nend=site\n")) (bytes text_q)).count ≡ 2
  pub q_count : (text_plan limits without (bytes text_q)).count ≡ 1
  -- "an empty site text is refused by 13"; one without its last line, by its length; "14 .. A not below B", "after 13 at one line"; "a pair not above the one before"
  pub no_line : read_reply limits "" text_q ≡ refused_at 13 0
  pub no_end : read_reply limits "site=1\npairs=0\n" text_q ≡ refused_at 13 15
  pub not_below : read_reply limits "site=1\npairs=1\nnear=5,3\nend=site\n" text_q ≡ refused_at 14 15
  pub malformed_first : read_reply limits "site=1\npairs=1\nnear=5,3,\nend=site\n" text_q ≡ refused_at 13 15
  pub not_above : read_reply limits "site=1\npairs=2\nnear=3,5\nnear=3,5\nend=site\n" text_q ≡ refused_at 14 24
  -- "before the plan's 1", which comes where the site text is taken
  pub before_1 : read_reply (limits_at 137 2 7 2) "site=1\npairs=257\nend=site\n" text_q ≡ refused_at 14 7
  pub then_1 : read_reply (limits_at 137 2 7 2) "site=1\npairs=1\nnear=4,6\nend=site\n" text_q ≡ refused_at 1 137
  -- 11 by the near ones
  pub then_11 : read_reply (limits_at 138 2 7 1) "site=1\npairs=1\nnear=4,6\nend=site\n" text_q ≡ refused_by 11

-- each text of the list gets its number, flight Q is taken at the product's limits, also as `plan=2`, with the same plan and so the same dependencies, refusals of the plan check name these stops, and
-- site texts are read so
pub record ReadingsHold : Type 0 where
  pub as_listed : all_in reading_as_given reading_examples ≡ true
  pub q_taken : reply_to text_q ≡ taken
  pub q_legs_taken : reply_to legged_q ≡ taken
  pub q_legs_plan : (s : Site) → text_plan limits s (bytes legged_q) ≡ text_plan limits s (bytes text_q)
  pub q_legs_form : text_form limits (bytes legged_q) ≡ 2
  pub stops_named : StopsNamed
  pub older_replies : OlderReplies
  pub site_replies : SiteReplies
