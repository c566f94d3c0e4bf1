-- Requests made on lent tables: what one leaves, and what is found after a list of them. Assumes nothing.
use Rattle.std.specs.Prelude.{ℕ, suc, ◌≡◌, List, [], ◌∷◌}
use Rattle.tables.specs.Limits.{Limits}
use Rattle.tables.specs.Tables.{PlanLists, Tables}
use Rattle.plan.specs.Field.{plan_of}
use Rattle.call_log.specs.CallLog.{Call, Reply, reply_number, awaited, reply_from, Entry, entry_of}
use Rattle.call_log.specs.Calls.{AsRead}
use Rattle.call_log.specs.Demand.{Found}
use Rattle.transcript.specs.Input.{call_of, Request, call, cost}
use Rattle.transcript.specs.Output.{answer_at}
use Rattle.transcript.specs.Run.{answer_on, tables_on, Made}
use Rattle.transcript.specs.declared.replies.Answer.{Answer}

-- ---- one request

-- a reply as the output's tables hold it
pub record Tells (r : Reply) (number detail : ℕ) : Type 0 where
  pub number_is : number ≡ reply_number r
  pub detail_is : detail ≡ awaited r

-- on the tables t the request was answered by this number and detail, and left the tables t'
pub record RequestMade (L : Limits) (t : Tables) (q : Request) (number detail : ℕ) (t' : Tables) : Type 0 where
  pub number_is : number ≡ (answer_on L t q).number
  pub detail_is : detail ≡ (answer_on L t q).detail
  pub tables_are : t' ≡ tables_on L t q

-- ---- a list of requests

-- the calls among them: a cost is no call
unfoldable pub calls_of : List Request → List Call
calls_of [] = []
calls_of (call c ∷ qs) = call_of c ∷ calls_of qs
calls_of (cost ∷ qs) = calls_of qs

-- each call with the reply that the tables hold for it, by the numbers and the details from its entry on
unfoldable pub got_by : List Request → (ℕ → ℕ) → (ℕ → ℕ) → List Entry
got_by [] ns ws = []
got_by (call c ∷ qs) ns ws = entry_of (call_of c) (reply_from (ns 0) (ws 0)) ∷ got_by qs (λ i. ns (suc i)) (λ i. ws (suc i))
got_by (cost ∷ qs) ns ws = got_by qs (λ i. ns (suc i)) (λ i. ws (suc i))

-- the numbers and the details in a table of answers
abbrev pub answer_number : List Answer → ℕ → ℕ
answer_number answers i = (answer_at answers i).number

abbrev pub answer_detail : List Answer → ℕ → ℕ
answer_detail answers i = (answer_at answers i).detail

-- the answers stand from the first entry on, the tables are those after the last request; and demand 3: if an accepted reading left the tables t, every call got the
-- reply of the call log, the tables show that log, and what is claimed of it holds
pub record RequestsMade (L : Limits) (requests : List Request) (t : Tables) (answers : List Answer) (t' : Tables) (answers' : List Answer) : Type 0 where
  pub made : Made L requests t answers t' answers'
  pub found : (lists : PlanLists) → AsRead L lists t → Found (plan_of lists) (calls_of requests) (got_by requests (answer_number answers') (answer_detail answers')) t'
