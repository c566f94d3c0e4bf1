-- Requests made as calls on lent tables, one after another: what is answered, and the tables after the last. Assumes nothing.
use Rattle.std.specs.Prelude.{ℕ, ◌≡◌, List, [], ◌∷◌, length}
use Rattle.std.proofs.lemmas.List.Edits.{sets}
use Rattle.below.specs.Below.{list_below}
use Rattle.tables.specs.Limits.{Limits, limits}
use Rattle.tables.specs.Tables.{Tables}
use Rattle.lines.specs.Keys.{line_feed}
use Rattle.lines.specs.Numbers.{number, field_at}
use Rattle.transcript.specs.declared.requests.Request.{Request as Asked}
use Rattle.transcript.specs.declared.replies.Answer.{Answer}
use Rattle.call_log.specs.CallLog.{reply_number, awaited}
use Rattle.call_log.specs.Calls.{step, CostOutcome, costs, cost_refused, cost_reply}
use Rattle.transcript.specs.Keys.{cost_key, cost_kind}
use Rattle.transcript.specs.Input.{call_of, Request, call, cost, request_of, kind_of, asked_at}
use Rattle.transcript.specs.Output.{LineAnswer, answer_line}

-- the number of a cost's refusal, and the cost
abbrev pub cost_number : CostOutcome → ℕ
cost_number (costs n) = 0
cost_number (cost_refused n) = n

abbrev pub cost_detail : CostOutcome → ℕ
cost_detail (costs n) = n
cost_detail (cost_refused n) = 0

module _ (L : Limits) where
  abbrev pub answer_on : Tables → Request → LineAnswer
  answer_on t (call c) = record { kind = kind_of (call c); number = reply_number (step L t (call_of c)).reply; detail = awaited (step L t (call_of c)).reply }
  answer_on t cost = record { kind = kind_of cost; number = cost_number (cost_reply L t); detail = cost_detail (cost_reply L t) }

  -- a cost changes nothing
  abbrev pub tables_on : Tables → Request → Tables
  tables_on t (call c) = (step L t (call_of c)).tables
  tables_on t cost = t

  unfoldable pub answers_on : Tables → List Request → List LineAnswer
  answers_on t [] = []
  answers_on t (q ∷ qs) = answer_on t q ∷ answers_on (tables_on t q) qs

  unfoldable pub tables_left_lem : Tables → List Request → Tables
  tables_left_lem t [] = t
  tables_left_lem t (q ∷ qs) = tables_left_lem (tables_on t q) qs

-- "cost prints the cost": all of its digits. At the product's limits the line of a cost, read past its key up to its line feed, is that cost
abbrev pub CostWhole : Type 0
CostWhole = (t : Tables) (n : ℕ) → cost_reply limits t ≡ costs n → let line = answer_line cost_kind 0 n in field_at line (length cost_key) line_feed ≡ number n (length line)

-- ---- in tables of requests and answers

-- the requests of the first n entries
abbrev pub requests_in : ℕ → List Asked → List Request
requests_in n table = list_below n (λ i. request_of (asked_at table i).kind (asked_at table i).number)

-- the entries of a list of answers
abbrev pub answers_in : List LineAnswer → List Answer
answers_in [] = []
answers_in (a ∷ rest) = record { number = a.number; detail = a.detail } ∷ answers_in rest

-- the requests were made on the tables: answers from the first entry on, and the tables after the last
pub record Made (L : Limits) (requests : List Request) (t : Tables) (answers : List Answer) (t' : Tables) (answers' : List Answer) : Type 0 where
  pub tables_are : t' ≡ tables_left_lem L t requests
  pub answers_are : answers' ≡ sets answers 0 (answers_in (answers_on L t requests))
