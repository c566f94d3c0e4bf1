-- What the code's answers say, as flags and numbers. Assumes nothing.
use Rattle.std.specs.Prelude.{Bool, true, false, ℕ, Option, Some, None, Result, Ok, Err}
use Rattle.raising.specs.declared.worklist.LogFull.{LogFull}
use Rattle.raising.specs.declared.worklist.Raised.{Raised}
use Rattle.raising.specs.declared.worklist.Raised.TheVariants as raised
use Rattle.raising.specs.declared.ordered.Turn.{Turn}
use Rattle.raising.specs.declared.ordered.Looked.{Looked}
use Rattle.raising.specs.declared.trying.Trial.{Trial}
use Rattle.raising.specs.declared.trying.Trial.TheVariants as trial

-- where the log ends, with room or without
abbrev pub log_end : Result ℕ LogFull → ℕ
log_end (Ok top) = top
log_end (Err full) = full.top

-- a new wait closes a cycle
abbrev pub closes_cycle : Result Raised LogFull → Bool
closes_cycle (Ok (raised.Cycle top)) = true
closes_cycle (Ok (raised.Settled top)) = false
closes_cycle (Err full) = false

abbrev pub raised_end : Result Raised LogFull → ℕ
raised_end (Ok (raised.Cycle top)) = top
raised_end (Ok (raised.Settled top)) = top
raised_end (Err full) = full.top

abbrev pub looked_end : Result Looked LogFull → ℕ
looked_end (Ok looked) = looked.top
looked_end (Err full) = full.top

-- whose turn it is
abbrev pub turn_of : Option Turn → Option ℕ
turn_of (Some turn) = Some turn.drone
turn_of None = None

-- what came of a wait that was tried, the log ending at top before
abbrev pub is_cycle : Trial → Bool
is_cycle trial.Cycle = true
is_cycle (trial.Raised end) = false
is_cycle trial.Refilled = false

abbrev pub is_refilled : Trial → Bool
is_refilled trial.Cycle = false
is_refilled (trial.Raised end) = false
is_refilled trial.Refilled = true

abbrev pub trial_end : ℕ → Trial → ℕ
trial_end top trial.Cycle = top
trial_end top (trial.Raised end) = end
trial_end top trial.Refilled = 0
