-- The input of the program `field` (document 01, "The program `field`"): the plan's bytes, then the call lines. Each is a function of the input alone. Assumes nothing.
use Rattle.std.specs.Prelude.{ℕ, zero, suc, get_or, ◌+◌, ◌-◌, ◌*◌, ◌≤◌, ◌<◌, ◌≡◌, List, [], ◌∷◌, ◌++◌, Bool, cond, ◌&&◌, ◌||◌, leb, ltb, eqb, length, take, Option, Some, None, Result, Ok, Err, ⊤}
use Rattle.std.proofs.lemmas.List.Edits.{sets}
use Rattle.below.specs.Below.{first_below}
use Rattle.tables.specs.Limits.{limits}
use Rattle.lines.specs.Keys.{line_feed, last_line}
use Rattle.lines.specs.Bytes.{byte_at, is_at}
use Rattle.lines.specs.Numbers.{field_at}
use Rattle.lines.specs.declared.numbers.Number.{Number}
use Rattle.call_log.specs.CallLog.{Call, grant as grant_call, arrive as arrive_call, turn as turn_call}
use Rattle.transcript.specs.Keys.{cost_kind, key_of}
use Rattle.transcript.specs.declared.requests.CallLine.{CallLine}
use Rattle.transcript.specs.declared.requests.CallFault.{CallFault}
use Rattle.transcript.specs.declared.requests.CallFault.TheVariants.{Malformed, OutOfRange}
use Rattle.transcript.specs.declared.requests.Request.{Request as Asked}
use Rattle.transcript.specs.declared.keys.Kind.{Kind}
use Rattle.transcript.specs.declared.keys.Kind.TheVariants.{Grant, Arrive, Turn, Cost}

-- "`field` reads 131,072 bytes in two buffers"
abbrev pub input_limit : ℕ
input_limit = 2 * limits.text

-- the input is the bytes that were read into both, one after the other
abbrev pub read_into : (first : List ℕ) (count : ℕ) (second : List ℕ) (more : ℕ) → List ℕ
read_into first count second more = take count first ++ take more second

-- a buffer begins with the input, which has n bytes; two buffers that were filled held more than the limit
pub record BuffersJoined (first : List ℕ) (count : ℕ) (second : List ℕ) (more : ℕ) (whole : List ℕ) (n : ℕ) : Type 0 where
  pub many : n ≡ length (read_into first count second more)
  pub bytes_are : take n whole ≡ read_into first count second more
  pub longer : limits.text ≤ count → limits.text < more → input_limit < n

-- "D a drone and P a dependency, 0 to 65,535"
abbrev pub number_limit : ℕ
number_limit = 65535

-- ---- the plan

-- a line starts here: at the start, or after a line feed
unfoldable pub starts_line : List ℕ → ℕ → Bool
starts_line text at = eqb at 0 || eqb (byte_at text (at - 1)) line_feed

-- the line `end=plan` stands here
unfoldable pub ends_plan : List ℕ → ℕ → Bool
ends_plan text at = starts_line text at && is_at text at last_line

-- "The bytes through the first line `end=plan` are the plan, or all bytes if there is none": how many these are
unfoldable pub plan_end : List ℕ → ℕ
plan_end text = let last = first_below (length text) (ends_plan text) in cond (ltb last (length text)) (last + length last_line) (length text)

-- ---- a call line

-- "a number outside its range (after `cost=`, any but 0)"
abbrev pub most_of : Kind → ℕ
most_of Grant = number_limit
most_of Arrive = number_limit
most_of Turn = number_limit
most_of Cost = 0

-- a line that was read: the kind, the number and the position after it
abbrev pub call_line : Kind → ℕ → ℕ → Result CallLine CallFault
call_line kind n e = Ok (record { request = record { kind = kind; number = n }; next = e })

-- the form is judged before the range
abbrev pub numbered_call : Kind → Option Number → Result CallLine CallFault
numbered_call kind None = Err Malformed
numbered_call kind (Some n) = cond (leb n.value (most_of kind)) (call_line kind n.value n.next) (Err OutOfRange)

-- a line of this kind if its key stands here, or else what the other kinds make of it
abbrev pub line_or : Kind → List ℕ → ℕ → Result CallLine CallFault → Result CallLine CallFault
line_or kind text at other = cond (is_at text at (key_of kind)) (numbered_call kind (field_at text (at + length (key_of kind)) line_feed)) other

-- "call lines `grant=D`, `arrive=D`, `turn=P`, `cost=0`": the kind, the number and the position after the line. "A malformed call line (one without its line feed too)"
unfoldable pub call_at : List ℕ → ℕ → Result CallLine CallFault
call_at text at = line_or Grant text at (line_or Arrive text at (line_or Turn text at (line_or Cost text at (Err Malformed))))

-- ---- the call lines from a position on

-- the calls that lines can ask for: no line asks for a turn of a list
pub data LineCall : Type 0 where
  grant : ℕ → LineCall
  arrive : ℕ → LineCall
  turn : ℕ → LineCall

abbrev pub call_of : LineCall → Call
call_of (grant d) = grant_call d
call_of (arrive d) = arrive_call d
call_of (turn w) = turn_call w

pub data Request : Type 0 where
  call : LineCall → Request
  cost : Request

abbrev pub request_of : Kind → ℕ → Request
request_of Grant n = call (grant n)
request_of Arrive n = call (arrive n)
request_of Turn n = call (turn n)
request_of Cost n = cost

-- what the lines ask for, up to the first fault, and how they end
pub record RequestList : Type 0 where
  pub requests : List Request
  pub ending : Result ⊤ CallFault

abbrev pub no_requests : Result ⊤ CallFault → RequestList
no_requests e = record { requests = []; ending = e }

abbrev pub requests_from : Result CallLine CallFault → (ℕ → RequestList) → RequestList
requests_from (Ok line) more = record { requests = request_of line.request.kind line.request.number ∷ (more line.next).requests; ending = (more line.next).ending }
requests_from (Err fault) more = no_requests (Err fault)

-- at most so many lines
unfoldable pub call_lines_at : ℕ → List ℕ → ℕ → RequestList
call_lines_at zero text at = no_requests (Ok tt)
call_lines_at (suc n) text at = cond (ltb at (length text)) (requests_from (call_at text at) (λ e. call_lines_at n text e)) (no_requests (Ok tt))

-- each line has a byte at least, so the text's length is enough
abbrev pub requests_at : List ℕ → ℕ → RequestList
requests_at text at = call_lines_at (length text) text at

-- ---- requests in a table

abbrev pub kind_of : Request → Kind
kind_of (call (grant d)) = Grant
kind_of (call (arrive d)) = Arrive
kind_of (call (turn w)) = Turn
kind_of cost = cost_kind

abbrev pub number_of : Request → ℕ
number_of (call (grant d)) = d
number_of (call (arrive d)) = d
number_of (call (turn w)) = w
number_of cost = 0

-- an entry of the table, and the entries of a list of requests
abbrev pub asked_of : Request → Asked
asked_of q = record { kind = kind_of q; number = number_of q }

abbrev pub asked_in : List Request → List Asked
asked_in [] = []
asked_in (q ∷ qs) = asked_of q ∷ asked_in qs

-- the entry at an index; past the end one of zeros
abbrev pub asked_at : List Asked → ℕ → Asked
asked_at table i = get_or table i (record { kind = Grant; number = 0 })

-- the table after the requests were stored from the first entry on, their count, and the ending
pub record RequestsRead (read : RequestList) (table table' : List Asked) (count : ℕ) (ending : Result ⊤ CallFault) : Type 0 where
  pub count_is : count ≡ length read.requests
  pub ending_is : ending ≡ read.ending
  pub requests_are : table' ≡ sets table 0 (asked_in read.requests)
