-- The whole way from the input of the program `field` to its output (document 01, "The program `field`"). Assumes nothing.
use Rattle.std.specs.Prelude.{ℕ, ◌+◌, ◌*◌, ◌/◌, ◌≤◌, ◌<◌, ◌≡◌, true, List, ◌++◌, length, take, drop}
use Rattle.tables.specs.Limits.{Limits, limits}
use Rattle.tables.specs.Tables.{Tables, full_size}
use Rattle.tables.specs.Zero.{filled}
use Rattle.call_log.specs.Demand.{Found}
use Rattle.reading.specs.Replies.{ReadingReply, taken as Taken, reading_number}
use Rattle.reading.specs.Reading.{read_plan, Site, without}
use Rattle.transcript.specs.Input.{input_limit, read_into, Request, RequestList, plan_end}
use Rattle.transcript.specs.Output.{PlanReading, plan_number_line, answer_lines, ending_line, output_of}
use Rattle.transcript.specs.Run.{answers_on, Made}
use Rattle.transcript.specs.declared.requests.Request.{Request as Asked}
use Rattle.transcript.specs.declared.replies.Answer.{Answer}
use Rattle.accepted.specs.TextPlan.{text_plan}
use Rattle.dispatch.specs.Making.{calls_of, got_by, answer_number, answer_detail}

-- ---- reading

module _ (L : Limits) where
  -- what reading a plan text into the tables t answers, and the text's own plan: "nothing from the tables or the conductor's replies" goes into the log
  abbrev pub reading_in : Tables → List ℕ → PlanReading
  reading_in t text = record { number = reading_number (read_plan L without text t).reply; plan = text_plan L without text }

  -- tables of full size, every entry zero
  unfoldable pub zero_tables : Tables
  zero_tables = filled 0 L

  -- the plan of the text was taken, and the requests were made on the tables that its reading left; and demand 3, by the log of the text's own plan
  pub record TakenRun (text : List ℕ) (requests : List Request) (answers answers' : List Answer) : Type 0 where
    pub tables_left : Tables
    pub made : Made L requests (read_plan L without text zero_tables).tables answers tables_left answers'
    pub found : Found (text_plan L without text) (calls_of requests) (got_by requests (answer_number answers') (answer_detail answers')) tables_left

  -- the plan of the text was read into tables of its own, zero before, and answered by r; if it was taken, the requests were made on these tables, and if not, no answer was written
  pub record PlanRun (text : List ℕ) (requests : List Request) (answers : List Answer) (r : ReadingReply) (answers' : List Answer) : Type 0 where
    pub replied : r ≡ (read_plan L without text zero_tables).reply
    pub taken : r ≡ Taken → TakenRun text requests answers answers'
    pub refused : (r ≡ Taken → ⊥) → answers' ≡ answers

  -- the lines after a plan that was taken, where the requests are made on the tables t
  abbrev pub calls_on : Tables → RequestList → List ℕ
  calls_on t r = answer_lines (answers_on L t r.requests) ++ ending_line r.ending

-- "Every plan text taken until now reads as before": a text that lower limits take is answered, request by request, as before
abbrev pub AnswersAsBefore : Limits → Limits → Type 0
AnswersAsBefore L L' =
    (s : Site) (text : List ℕ) (t t' : Tables) → full_size L' t' ≡ true → (read_plan L s text t).reply ≡ Taken → (qs : List Request) → answers_on L' (read_plan L' s text t').tables qs ≡ answers_on L (read_plan L s text t).tables qs

-- the program's reading
abbrev pub reading_of : List ℕ → PlanReading
reading_of text = reading_in limits (zero_tables limits) text

-- ---- room

-- a call line has seven bytes at least
abbrev pub request_limit : ℕ
request_limit = input_limit / 7 + 1

-- what the tables of requests and answers must hold
pub record RequestRoom (requests : List Asked) (answers : List Answer) : Type 0 where
  pub has_requests : request_limit ≤ length requests
  pub has_answers : request_limit ≤ length answers

-- a line of the output has 23 bytes at most
abbrev pub output_limit : ℕ
output_limit = 4 * input_limit

-- a buffer of this size holds the output of every input
abbrev pub OutputFits : Type 0
OutputFits = (reading : List ℕ → PlanReading) (input : List ℕ) → length (output_of reading input) ≤ output_limit

-- ---- the output

-- the buffer `after` holds the whole output of the input, by the log alone; its other bytes are as they were
pub record Transcribed (first : List ℕ) (count : ℕ) (second : List ℕ) (more : ℕ) (before after : List ℕ) (next : ℕ) : Type 0 where
  pub length_is : next ≡ length (output_of reading_of (read_into first count second more))
  pub fits : next ≤ output_limit
  pub whole : after ≡ output_of reading_of (read_into first count second more) ++ drop next before
  -- "(more prints `plan=1` alone)": both buffers were filled, and the second holds one byte past the limit
  pub longer : limits.text ≤ count → limits.text < more → after ≡ plan_number_line 1 ++ drop next before

-- the first buffer has as many bytes as a plan text may have, so the reader sees no other
pub record PlanInFirst : Type 0 where
  -- a plan whose line `end=plan` ends past it is too long by itself
  pub beyond : (L : Limits) (input : List ℕ) → L.text < plan_end input → output_of (reading_in L (zero_tables L)) input ≡ plan_number_line 1
  -- any other is the first buffer's alone
  pub within : (L : Limits) (first second : List ℕ) → length first ≡ L.text → plan_end (first ++ second) ≤ L.text → take (plan_end (first ++ second)) (first ++ second) ≡ take (plan_end (first ++ second)) first
