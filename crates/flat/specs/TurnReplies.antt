-- Document 01's reply for each case of the answers of turn, its preview, cost and rounds ("Where each refusal is checked"). Assumes nothing.
use Rattle.std.specs.Prelude.{ℕ, ℤ, ⊤, Result, Ok, Err}
use Rattle.call_log.specs.CallLog.{Reply, accepted, refused}
use Rattle.call_log.specs.Calls.{CostOutcome, costs, cost_refused, RoundsOutcome, rounds, rounds_refused}
use Rattle.call_log.specs.Preview.{PreviewOutcome, would_turn, would_refuse}
use Rattle.flat.specs.declared.replies.TablesFault.{TablesFault}
use Rattle.flat.specs.declared.replies.TurnRefusal.{TurnRefusal}
use Rattle.flat.specs.declared.replies.TurnRefusal.TheVariants as turn
use Rattle.flat.specs.declared.replies.TurnAllRefusal.{TurnAllRefusal}
use Rattle.flat.specs.declared.replies.TurnAllRefusal.TheVariants as turn_all
use Rattle.flat.specs.Replies.{fault_number}

-- the number of each refusal of a turn
abbrev pub turn_number : TurnRefusal → ℕ
turn_number (turn.Tables fault) = fault_number fault
turn_number turn.NoDependency = 30
turn_number turn.Withdrawn = 35
turn_number turn.Fixed = 31
turn_number turn.FirstEntered = 32
turn_number turn.Cycle = 34

-- "Refused: 36, an empty list or one not strictly rising, after 40 and before 30"
abbrev pub turn_all_number : TurnAllRefusal → ℕ
turn_all_number turn_all.NotRising = 36
turn_all_number (turn_all.Turn refusal) = turn_number refusal

abbrev pub turn_meant : Result ⊤ TurnRefusal → Reply
turn_meant (Ok done) = accepted
turn_meant (Err refusal) = refused (turn_number refusal)

abbrev pub turn_all_meant : Result ⊤ TurnAllRefusal → Reply
turn_all_meant (Ok done) = accepted
turn_all_meant (Err refusal) = refused (turn_all_number refusal)

-- "Refused: as for turn", or the change of the cost
abbrev pub preview_meant : Result ℤ TurnRefusal → PreviewOutcome
preview_meant (Ok change) = would_turn change
preview_meant (Err refusal) = would_refuse (turn_number refusal)

abbrev pub preview_all_meant : Result ℤ TurnAllRefusal → PreviewOutcome
preview_all_meant (Ok change) = would_turn change
preview_all_meant (Err refusal) = would_refuse (turn_all_number refusal)

abbrev pub cost_meant : Result ℕ TablesFault → CostOutcome
cost_meant (Ok n) = costs n
cost_meant (Err fault) = cost_refused (fault_number fault)

abbrev pub rounds_meant : Result ℕ TablesFault → RoundsOutcome
rounds_meant (Ok n) = rounds n
rounds_meant (Err fault) = rounds_refused (fault_number fault)
