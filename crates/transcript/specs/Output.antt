-- The output of the program `field` (document 01, "The program `field`"). The answers are those of the call log alone. Assumes nothing.
use Rattle.std.specs.Prelude.{ℕ, List, [], ◌∷◌, ◌++◌, cond, ltb, eqb, length, take, get_or, Result, Ok, Err, ⊤}
use Rattle.below.specs.Below.{rows_below}
use Rattle.precedence.specs.Graph.{cost as cost_of}
use Rattle.plan.specs.Field.{FieldPlan, graph, place_of}
use Rattle.lines.specs.Keys.{line_feed}
use Rattle.lines.specs.Numbers.{digits_of, field}
use Rattle.call_log.specs.CallLog.{reply_number, awaited, Entry, entry_of, status_by, reply_by}
use Rattle.transcript.specs.Keys.{colon, plan_key, end_calls_line, malformed_line, range_line, key_of}
use Rattle.transcript.specs.Input.{input_limit, plan_end, call_of, Request, call, cost, kind_of, RequestList, requests_at, asked_at}
use Rattle.transcript.specs.declared.keys.Kind.{Kind}
use Rattle.transcript.specs.declared.keys.Kind.TheVariants.{Grant, Arrive, Turn, Cost}
use Rattle.transcript.specs.declared.requests.CallFault.{CallFault}
use Rattle.transcript.specs.declared.requests.CallFault.TheVariants.{Malformed, OutOfRange}
use Rattle.transcript.specs.declared.requests.Request.{Request as Asked}
use Rattle.transcript.specs.declared.replies.Answer.{Answer}

-- ---- lines

-- "Output: `plan=` and 0 or the refusal"
abbrev pub plan_number_line : ℕ → List ℕ
plan_number_line n = plan_key ++ field n line_feed

-- an answer as tables hold it: the kind of its request, the number of the reply, and what goes with it, the dependency of a 23 or the cost
pub record LineAnswer : Type 0 where
  pub kind : Kind
  pub number : ℕ
  pub detail : ℕ

-- "0 or the refusal (23 adds a colon and the dependency)"
unfoldable pub reply_text : ℕ → ℕ → List ℕ
reply_text n w = cond (eqb n 23) (digits_of n ++ colon ∷ digits_of w) (digits_of n)

-- "cost prints the cost"
abbrev pub value_text : Kind → ℕ → ℕ → List ℕ
value_text Grant n w = reply_text n w
value_text Arrive n w = reply_text n w
value_text Turn n w = reply_text n w
value_text Cost n w = digits_of w

-- "Each call prints its key, `=`, and 0 or the refusal"
unfoldable pub answer_line : Kind → ℕ → ℕ → List ℕ
answer_line kind n w = key_of kind ++ value_text kind n w ++ line_feed ∷ []

unfoldable pub answer_lines : List LineAnswer → List ℕ
answer_lines [] = []
answer_lines (a ∷ rest) = answer_line a.kind a.number a.detail ++ answer_lines rest

-- "A malformed call line .. prints `call=2`, a number outside its range .. `call=4`, and ends the output. Otherwise `end=calls` is last"
abbrev pub ending_line : Result ⊤ CallFault → List ℕ
ending_line (Ok u) = end_calls_line
ending_line (Err Malformed) = malformed_line
ending_line (Err OutOfRange) = range_line

-- ---- answers by the log

module _ (F : FieldPlan) where
  -- the answer to a request by the log before it
  abbrev pub answer_by : List Entry → Request → LineAnswer
  answer_by log (call c) = record { kind = kind_of (call c); number = reply_number (reply_by F log (call_of c)); detail = awaited (reply_by F log (call_of c)) }
  answer_by log cost = record { kind = kind_of cost; number = 0; detail = cost_of (graph F (status_by log)) F.leg (place_of F (status_by log)) }

  -- the log after it
  abbrev pub log_after : List Entry → Request → List Entry
  log_after log (call c) = log ++ (entry_of (call_of c) (reply_by F log (call_of c)) ∷ [])
  log_after log cost = log

  unfoldable pub answers_by : List Entry → List Request → List LineAnswer
  answers_by log [] = []
  answers_by log (q ∷ qs) = answer_by log q ∷ answers_by (log_after log q) qs

  -- after a plan that was taken
  abbrev pub calls_output : RequestList → List ℕ
  calls_output r = answer_lines (answers_by [] r.requests) ++ ending_line r.ending

-- ---- the whole output

-- what reading a plan text answers: 0 or the number of the refusal, and the plan if it is taken
pub record PlanReading : Type 0 where
  pub number : ℕ
  pub plan : FieldPlan

module _ (reading : List ℕ → PlanReading) where
  -- "after a refusal nothing more"
  abbrev pub after_reading : List ℕ → PlanReading → List ℕ
  after_reading input r = plan_number_line r.number ++ cond (eqb r.number 0) (calls_output r.plan (requests_at input (plan_end input))) []

  -- "`field` reads 131,072 bytes", "(more prints `plan=1` alone)"
  unfoldable pub output_of : List ℕ → List ℕ
  output_of input = cond (ltb input_limit (length input)) (plan_number_line 1) (after_reading input (reading (take (plan_end input) input)))

-- ---- answers in a table

-- the entry at an index; past the end one of zeros
abbrev pub answer_at : List Answer → ℕ → Answer
answer_at table i = get_or table i (record { number = 0; detail = 0 })

-- the lines of the first n entries, each of its request and its answer
unfoldable pub lines_in : ℕ → List Asked → List Answer → List ℕ
lines_in n requests answers = rows_below n (λ i. answer_line (asked_at requests i).kind (answer_at answers i).number (answer_at answers i).detail)
