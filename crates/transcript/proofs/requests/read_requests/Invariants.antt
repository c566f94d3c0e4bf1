-- The lines that are left, stored from here on, give what all of them give from the start.
use Prim.Native.Nat.{◌+◌, ◌*◌, ◌≤◌, ◌-◌}
use mathlib.Core.Path.{◌≡◌}
use lib.ListN.{length}
use Rattle.transcript.specs.Input.{call_lines_at, requests_at}
use Rattle.transcript.proofs.RequestLoop.{Going}
use Rattle.transcript.proofs.requests.read_requests.Given as goal

abbrev pub invariant-loop-here : goal.invariant-loop-here
invariant-loop-here l = (length l.requests ≡ length l.initial.requests) × (l.at + 7 * l.count ≤ l.here) × (l.here ≤ length l.text) × Going (call_lines_at (length l.text - l.count) l.text l.here) (requests_at l.text l.at) l.count l.requests l.initial.requests

abbrev pub decreases-loop-here : goal.decreases-loop-here
decreases-loop-here l = length l.text - l.here
