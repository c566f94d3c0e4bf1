use Rattle.std.proofs.Common.{rules, tests}
use Rattle.below.specs.Below.{at}
use Rattle.near.proofs.NearLaws.{meets_equal}
use Rattle.meetings.specs.Meetings.{clear}
use Rattle.meetings.proofs.entries.is_clear.Goals as goal

pub returns-then-stops-v-2 : goal.returns-then-stops-v-2
unfolding clear
returns-then-stops-v-2 c =
    let locations = c.args.stops.now.locations.now in
    let m = meets_equal c.requires.0 (at locations c.args.v) (at locations c.args.w) c.if-stops-v-2.true in
    search (rules, tests)
