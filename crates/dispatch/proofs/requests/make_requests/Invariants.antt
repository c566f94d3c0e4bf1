-- The requests before i are made; a turn makes one more.
use mathlib.Core.Path.{◌≡◌}
use lib.ListN.{length, drop}
use Rattle.tables.specs.Limits.{limits}
use Rattle.records.specs.Records.{records_in}
use Rattle.transcript.specs.Run.{requests_in, Made}
use Rattle.dispatch.proofs.requests.make_requests.Given as goal

abbrev pub invariant-loop-i : goal.invariant-loop-i
invariant-loop-i l = (length l.visited ≡ length l.initial.visited)
    × (length l.drone_flags ≡ length l.initial.drone_flags)
    × (length l.dependencies ≡ length l.initial.dependencies)
    × (length l.answers ≡ length l.initial.answers)
    × Made limits (requests_in l.i l.requests) (records_in limits l.plan l.initial.visited l.initial.drone_flags l.initial.dependencies) l.initial.answers (records_in limits l.plan l.visited l.drone_flags l.dependencies) l.answers
    × (drop limits.dependencies l.dependencies ≡ drop limits.dependencies l.initial.dependencies)
