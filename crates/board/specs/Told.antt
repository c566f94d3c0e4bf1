-- The replies as C gets them, and what the contracts of the exported calls say. Assumes nothing.
use Rattle.std.specs.Prelude.{◌≡◌, List, ℕ, zero, suc, pos, Option, Some, None}
use Rattle.tables.specs.Limits.{Limits}
use Rattle.tables.specs.Tables.{Tables}
use Rattle.call_log.specs.CallLog.{Call, Reply, accepted, refused, must_wait}
use Rattle.call_log.specs.Calls.{step, CostOutcome, costs, cost_refused, RoundsOutcome, rounds, rounds_refused}
use Rattle.call_log.specs.Preview.{PreviewOutcome, would_turn, would_refuse}
use Rattle.call_log.specs.BestOrder.{BestOutcome, best_is, too_many, best_refused, best_order}
use Rattle.flat.specs.Writing.{Writing, wrote, write_refused, writes, buffer_left}
use Rattle.reading.specs.Replies.{ReadingReply, taken, refused_by, refused_at, refused_stop, refused_stops}
use Rattle.reading.specs.Reading.{ReadingAnswer}
use Rattle.handset.specs.Press.{PressOutcome, granted, press_refused, PressAnswer}
use Rattle.small_plans.specs.Asked.{PlanOutcome, text_length, plan_refused, plan_answer, buffer_then}
use Rattle.board.specs.declared.answers.CallAnswer.{CallAnswer}
use Rattle.board.specs.declared.answers.ChangeAnswer.{ChangeAnswer}
use Rattle.board.specs.declared.answers.OrderAnswer.{OrderAnswer}
use Rattle.board.specs.declared.answers.ReadAnswer.{ReadAnswer}

abbrev pub answer_with : ℕ → ℕ → CallAnswer
answer_with n w = record { number = n; detail = w }

-- "Of the others only 23 carries anything"
abbrev pub call_answer_of : Reply → CallAnswer
call_answer_of accepted = answer_with 0 0
call_answer_of (refused n) = answer_with n 0
call_answer_of (must_wait w) = answer_with 23 w

-- "When it would be done, it also gives the cost after it less the cost now": a refused preview carries the number alone
abbrev pub change_answer_of : PreviewOutcome → ChangeAnswer
change_answer_of (would_turn z) = record { number = 0; change = z }
change_answer_of (would_refuse n) = record { number = n; change = pos 0 }

abbrev pub cost_answer_of : CostOutcome → CallAnswer
cost_answer_of (costs n) = answer_with 0 n
cost_answer_of (cost_refused n) = answer_with n 0

abbrev pub rounds_answer_of : RoundsOutcome → CallAnswer
rounds_answer_of (rounds n) = answer_with 0 n
rounds_answer_of (rounds_refused n) = answer_with n 0

abbrev pub order_with : ℕ → ℕ → ℕ → ℕ → OrderAnswer
order_with n c l k = record { number = n; cost = c; length = l; count = k }

-- "37 .. with the count equal to the budget"
abbrev pub order_answer_of : BestOutcome → OrderAnswer
order_answer_of (best_is least size count) = order_with 0 least size count
order_answer_of (too_many count) = order_with 37 0 0 count
order_answer_of (best_refused n) = order_with n 0 0 0

abbrev pub writing_answer_of : Writing → CallAnswer
writing_answer_of (wrote n) = answer_with 0 n
writing_answer_of (write_refused n) = answer_with n 0

-- "The handset's number grows to 64 bits", "in which bit 0 stands for drone 0 and so on"
abbrev pub press_answer_of : PressOutcome → CallAnswer
press_answer_of (granted bits) = answer_with 0 bits
press_answer_of (press_refused n) = answer_with n 0

-- "one arrival, if one was reported": 0 stands for nothing
abbrev pub report_told : ℕ → ℕ → Option ℕ
report_told zero d = None
report_told (suc n) d = Some d

-- "15, no such plan, then 42"
abbrev pub plan_answer_of : PlanOutcome → CallAnswer
plan_answer_of (text_length n) = answer_with 0 n
plan_answer_of (plan_refused n) = answer_with n 0

abbrev pub at_offset : ℕ → ℕ → ReadAnswer
at_offset n o = record { number = n; offset = o; drone = 0; stop = 0; other_drone = 0; other_stop = 0 }

abbrev pub at_stops : ℕ → ℕ → ℕ → ℕ → ℕ → ReadAnswer
at_stops n d k e l = record { number = n; offset = 0; drone = d; stop = k; other_drone = e; other_stop = l }

-- "Refusals 1 to 6 carry a byte offset", "A refusal from the plan check says which drone and stop is at fault; 10 gives two of each"
abbrev pub read_answer_of : ReadingReply → ReadAnswer
read_answer_of taken = at_offset 0 0
read_answer_of (refused_by n) = at_offset n 0
read_answer_of (refused_at n o) = at_offset n o
read_answer_of (refused_stop n s) = at_stops n s.drone s.stop 0 0
read_answer_of (refused_stops n s t) = at_stops n s.drone s.stop t.drone t.stop

-- an answer, field by field
pub record Says (r w : CallAnswer) : Type 0 where
  pub number_is : r.number ≡ w.number
  pub detail_is : r.detail ≡ w.detail

pub record SaysOfChange (r w : ChangeAnswer) : Type 0 where
  pub number_is : r.number ≡ w.number
  pub change_is : r.change ≡ w.change

pub record SaysOfOrder (r w : OrderAnswer) : Type 0 where
  pub number_is : r.number ≡ w.number
  pub cost_is : r.cost ≡ w.cost
  pub length_is : r.length ≡ w.length
  pub count_is : r.count ≡ w.count

pub record SaysOfRead (r w : ReadAnswer) : Type 0 where
  pub number_is : r.number ≡ w.number
  pub offset_is : r.offset ≡ w.offset
  pub drone_is : r.drone ≡ w.drone
  pub stop_is : r.stop ≡ w.stop
  pub other_drone_is : r.other_drone ≡ w.other_drone
  pub other_stop_is : r.other_stop ≡ w.other_stop

-- on the tables t the call c was answered by r, and left the tables t'
pub record CallTold (L : Limits) (t : Tables) (c : Call) (r : CallAnswer) (t' : Tables) : Type 0 where
  pub told : Says r (call_answer_of (step L t c).reply)
  pub left : t' ≡ (step L t c).tables

-- best order was answered by r, and left the lent list `after`
pub record OrderTold (L : Limits) (t : Tables) (before : List ℕ) (budget : ℕ) (r : OrderAnswer) (after : List ℕ) : Type 0 where
  pub told : SaysOfOrder r (order_answer_of (best_order L t before budget).outcome)
  pub left : after ≡ (best_order L t before budget).list

-- the writer replied r and left the buffer `after`
pub record PlanTold (L : Limits) (t : Tables) (before after : List ℕ) (r : CallAnswer) : Type 0 where
  pub told : Says r (writing_answer_of (writes L t before))
  pub left : after ≡ buffer_left L t before

-- a reading, or a joining, was answered by r and left the tables t
pub record ReadTold (a : ReadingAnswer) (r : ReadAnswer) (t : Tables) : Type 0 where
  pub told : SaysOfRead r (read_answer_of a.reply)
  pub left : t ≡ a.tables

-- a press was answered by r and left the tables t'
pub record PressTold (p : PressAnswer) (r : CallAnswer) (t' : Tables) : Type 0 where
  pub told : Says r (press_answer_of p.reply)
  pub left : t' ≡ p.tables

-- small plan k was asked for with a buffer, answered by r, and the buffer left as `after`
pub record SmallPlanTold (k : ℕ) (before after : List ℕ) (r : CallAnswer) : Type 0 where
  pub told : Says r (plan_answer_of (plan_answer k before))
  pub left : after ≡ buffer_then k before
