-- From the input to the output: the requests that were read and made, in lines; and how long these are. Assumes nothing.
use Prim.Native.Nat.{ℕ, zero, suc, ◌+◌, ◌*◌, ◌≤◌, ◌<◌, ◌^◌}
use native.Mathlib.Omega.{arith}
use native.Mathlib.Nat.{zero-add}
use mathlib.Core.Path.{◌≡◌, refl, sym, ap, ◌∙◌, subst}
use mathlib.Core.Bool.{Bool, true, false, cond}
use mathlib.Core.List.{List, [], ◌∷◌, ◌++◌, append-nil}
use lib.Dec.{ltb, eqb}
use lib.ListN.{length, length-append, length-replicate, length-take, take, drop}
use lib.Seq.{sets, sets-eq, length-sets, take-append-le, length-take-le}
use borrow.Author.Tests.{lt-ltb, le-ltb, ltb-true, ltb-false, eq-eqb, ne_eqb}
use Rattle.std.specs.Prelude.{Result, Ok, Err, ⊤}
use Rattle.below.specs.Below.{rows_below}
use Rattle.below.proofs.Tests.{by_cases}
use Rattle.tables.specs.Limits.{Limits, most_pairs}
use Rattle.tables.specs.Tables.{Tables, full_size}
use Rattle.tables.specs.Zero.{filled}
use Rattle.tables.proofs.SizeLaws.{sizes_full}
use Rattle.plan.specs.Field.{FieldPlan}
use Rattle.lines.specs.Bytes.{Put}
use Rattle.lines.proofs.NumberCases.{digits-length}
use Rattle.lines.proofs.WriteLaws.{put_put}
use Rattle.call_log.specs.CallLog.{Entry}
use Rattle.reading.specs.Replies.{ReadingReply as Read, reading_number}
use Rattle.reading.proofs.ReplyLaws.{taken_by_0}
use Rattle.reading.specs.Reading.{AnsweredAs, read_plan, without}
use Rattle.transcript.specs.Input.{input_limit, read_into, BuffersJoined, plan_end, call_at, Request, no_requests, call_lines_at, requests_from, requests_at, asked_in, asked_at, RequestsRead}
use Rattle.transcript.specs.Output.{plan_number_line, LineAnswer, answer_lines, ending_line, answers_by, log_after, calls_output, PlanReading, after_reading, output_of, answer_at, lines_in}
use Rattle.transcript.specs.Run.{answers_on, requests_in, answers_in, Made}
use Rattle.transcript.specs.declared.requests.Request.{Request as Asked}
use Rattle.transcript.specs.declared.requests.CallLine.{CallLine}
use Rattle.transcript.specs.declared.requests.CallFault.{CallFault}
use Rattle.transcript.specs.declared.requests.CallFault.TheVariants.{Malformed, OutOfRange}
use Rattle.transcript.specs.declared.replies.Answer.{Answer}
use Rattle.transcript.proofs.CallCases.{CallRead, call_read}
use Rattle.transcript.proofs.PlanEnd.{plan_within}
use Rattle.transcript.proofs.ReplyCases.{answer_short}
use Rattle.transcript.proofs.InTables.{requests_back, asked_back, lines_stored}
use Rattle.dispatch.proofs.TextLaws.{text_answers}
use Rattle.dispatch.specs.Transcribing.{zero_tables, reading_in, reading_of, calls_on, request_limit, RequestRoom, output_limit, OutputFits, Transcribed, PlanInFirst}

-- ---- how many requests, how long the lines

-- seven bytes for each request
lines_few : (n : ℕ) (text : List ℕ) (at : ℕ) → at ≤ length text → at + 7 * length (call_lines_at n text at).requests ≤ length text
unfolding call_lines_at
lines_few zero text at h = omega arith
lines_few (suc n) text at h = go (ltb at (length text)) (call_at text at) refl (lines_few n text)
  where
    go : (b : Bool) (s : Result CallLine CallFault) → call_at text at ≡ s → ((e : ℕ) → e ≤ length text → e + 7 * length (call_lines_at n text e).requests ≤ length text)
        → at + 7 * length (cond b (requests_from s (λ e. call_lines_at n text e)) (no_requests (Ok tt))).requests ≤ length text
    go false s e more = omega arith
    go true (Err fault) e more = omega arith
    go true (Ok line) e more = let r : CallRead text at line = call_read text at line e in omega (arith, more line.next r.within, r.enough)

pub requests_few : (text : List ℕ) (at : ℕ) → at ≤ length text → at + 7 * length (requests_at text at).requests ≤ length text
requests_few text at h = lines_few (length text) text at h

rows_short : (n : ℕ) (f : ℕ → List ℕ) → ((i : ℕ) → length (f i) ≤ 23) → length (rows_below n f) ≤ 23 * n
unfolding rows_below
rows_short zero f h = omega arith
rows_short (suc n) f h = simp length-append (omega (arith, rows_short n f h, h n))

pub lines_short : (n : ℕ) (table : List Asked) (answers : List Answer) → length (lines_in n table answers) ≤ 23 * n
unfolding lines_in
lines_short n table answers = rows_short n _ (λ i. answer_short (asked_at table i).kind (answer_at answers i).number (answer_at answers i).detail)

answers_short : (l : List LineAnswer) → length (answer_lines l) ≤ 23 * length l
unfolding answer_lines
answers_short [] = omega arith
answers_short (a ∷ l) = simp length-append (omega (arith, answer_short a.kind a.number a.detail, answers_short l))

pub plan_short : (n : ℕ) → length (plan_number_line n) ≤ 13
plan_short n = simp length-append (omega (arith, digits-length 7 n))

ending-short : (e : Result ⊤ CallFault) → length (ending_line e) ≤ 10
ending-short (Ok u) = omega arith
ending-short (Err Malformed) = omega arith
ending-short (Err OutOfRange) = omega arith

by_length : (F : FieldPlan) (log : List Entry) (qs : List Request) → length (answers_by F log qs) ≡ length qs
unfolding answers_by
by_length F log [] = refl
by_length F log (q ∷ qs) = ap suc (by_length F (log_after F log q) qs)

-- ---- the calls' lines

-- what the calls of `play` ask, and what it has written
module _ (L : Limits) (input : List ℕ) (start : ℕ) (table table' : List Asked) (count : ℕ) (ending : Result ⊤ CallFault) (read : RequestsRead (requests_at input start) table table' count ending)
    (answers : List Answer) (inside : start ≤ length input) (short : length input ≤ input_limit) (room : RequestRoom table answers) where
  abbrev qs : List Request
  qs = (requests_at input start).requests

  -- the entries that were read
  abbrev asked : List Asked
  asked = take count table'

  count_few : count < request_limit
  count_few = omega (arith, read.count_is, requests_few input start inside)

  table_kept : length table' ≡ length table
  table_kept = ap length read.requests_are ∙ length-sets table 0 (asked_in qs)

  pub asked_inside : count ≤ length table'
  asked_inside = omega (arith, count_few, table_kept, room.has_requests)

  pub asked-length : length asked ≡ count
  asked-length = length-take-le count table' asked_inside

  pub requests_room : (length asked < 2 ^ 24) × (length asked ≤ length answers)
  requests_room = (omega (arith, count_few, asked-length), omega (arith, count_few, asked-length, room.has_answers))

  asked_are : asked ≡ asked_in qs
  asked_are = rw (read.count_is, read.requests_are) (asked_back qs table (omega (arith, count_few, read.count_is, room.has_requests)))

  same_requests : requests_in (length asked) asked ≡ qs
  same_requests = rw asked_are (requests_back qs)

  module _ (t t' : Tables) (answers' : List Answer) (made : Made L (requests_in (length asked) asked) t answers t' answers') where
    answers_kept : length answers' ≡ length answers
    answers_kept = ap length made.answers_are ∙ length-sets answers 0 (answers_in (answers_on L t (requests_in (length asked) asked)))

    pub answers_room : (next : ℕ) → next < 2 ^ 20 → (next < 2 ^ 24) × (length asked < 2 ^ 24) × (length asked ≤ length answers')
    answers_room next h = (omega arith, requests_room.0, omega (arith, answers_kept, requests_room.1))

    pub ending-room : {b b₁ : List ℕ} {next n₁ : ℕ} → next < 2 ^ 20 → Put b next (lines_in (length asked) asked answers') b₁ n₁ → n₁ < 2 ^ 30
    ending-room {b} {b₁} {next} {n₁} h p = omega (arith, p.next_is, lines_short (length asked) asked answers', requests_room.0)

    same_lines : lines_in (length asked) asked answers' ≡ answer_lines (answers_on L t qs)
    same_lines =
        let filled : answers' ≡ sets answers 0 (answers_in (answers_on L t qs)) = made.answers_are ∙ ap (λ (l : List Request). sets answers 0 (answers_in (answers_on L t l))) same_requests in
        rw (asked_are, filled) (lines_stored L qs t answers (omega (arith, count_few, read.count_is, room.has_answers)))

    pub calls_written : {b b₁ b₂ : List ℕ} {next n₁ n₂ : ℕ} → Put b next (lines_in (length asked) asked answers') b₁ n₁ → Put b₁ n₁ (ending_line ending) b₂ n₂ → Put b next (calls_on L t (requests_at input start)) b₂ n₂
    calls_written {b} {b₁} {b₂} {next} {n₁} {n₂} p q = put_put (rw same_lines at p) (rw read.ending_is at q)

-- ---- the whole output, by its cases

module _ (reading : List ℕ → PlanReading) (input : List ℕ) where
  pub output_long : input_limit < length input → output_of reading input ≡ plan_number_line 1
  unfolding output_of
  output_long h = rw (lt-ltb input_limit (length input) h)

  output_read : length input ≤ input_limit → output_of reading input ≡ after_reading reading input (reading (take (plan_end input) input))
  unfolding output_of
  output_read h = rw (le-ltb input_limit (length input) h)

module _ (L : Limits) (t : Tables) (input text : List ℕ) (short : length input ≤ input_limit) (is-text : text ≡ take (plan_end input) input) (r : Read) (t' : Tables) (read : AnsweredAs (read_plan L without text t) r t') (n : ℕ) (is-n : n ≡ reading_number r) where
  abbrev here : PlanReading
  here = reading_in L t (take (plan_end input) input)

  same_number : here.number ≡ n
  same_number = sym (is-n ∙ ap reading_number read.replied ∙ ap (λ (x : List ℕ). reading_number (read_plan L without x t).reply) is-text)

  pub output_refused : (n ≡ 0 → ⊥) → output_of (reading_in L t) input ≡ plan_number_line n
  output_refused h =
      output_read (reading_in L t) input short
      ∙ ap (λ (k : ℕ). plan_number_line k ++ cond (eqb k 0) (calls_output here.plan (requests_at input (plan_end input))) []) same_number
      ∙ rw (ne_eqb n 0 h) (append-nil (plan_number_line n))

  pub output_taken : n ≡ 0 → output_of (reading_in L t) input ≡ plan_number_line n ++ calls_on L t' (requests_at input (plan_end input))
  output_taken z =
      output_read (reading_in L t) input short
      ∙ ap (λ (k : ℕ). plan_number_line k ++ cond (eqb k 0) (calls_output here.plan (requests_at input (plan_end input))) []) same_number
      ∙ rw (eq-eqb n 0 z, ← is-text, ← text_answers L without text t r t' read (read.replied ∙ taken_by_0 L without text t (sym (ap reading_number read.replied) ∙ sym is-n ∙ z)) (requests_at input (plan_end input)).requests) refl

-- the same of what was written
pub long_written : (reading : List ℕ → PlanReading) (input : List ℕ) → input_limit < length input → {b b₁ : List ℕ} {n : ℕ} → Put b 0 (plan_number_line 1) b₁ n → Put b 0 (output_of reading input) b₁ n
long_written reading input h {b} {b₁} {n} p = rw (output_long reading input h) p

module _ (L : Limits) (t : Tables) (input text : List ℕ) (short : length input ≤ input_limit) (end : ℕ) (is-end : end ≡ plan_end input) (is-text : text ≡ take (plan_end input) input) (r : Read) (t' : Tables) (read : AnsweredAs (read_plan L without text t) r t') (n : ℕ) (is-n : n ≡ reading_number r) {b b₁ : List ℕ} {n₁ : ℕ} (plan : Put b 0 (plan_number_line n) b₁ n₁) where
  pub refused-written : (n ≡ 0 → ⊥) → Put b 0 (output_of (reading_in L t) input) b₁ n₁
  refused-written h = rw (output_refused L t input text short is-text r t' read n is-n h) plan

  pub taken_written : n ≡ 0 → {b₂ : List ℕ} {n₂ : ℕ} → Put b₁ n₁ (calls_on L t' (requests_at input end)) b₂ n₂ → Put b 0 (output_of (reading_in L t) input) b₂ n₂
  taken_written z {b₂} {n₂} q = rw (output_taken L t input text short is-text r t' read n is-n z) (put_put plan (rw is-end at q))

-- ---- the buffer's size

after-fits : (reading : List ℕ → PlanReading) (input : List ℕ) (r : PlanReading) → length input ≤ input_limit → length (after_reading reading input r) ≤ output_limit
after-fits reading input r h = go (eqb r.number 0)
  where
    go : (b : Bool) → length (plan_number_line r.number ++ cond b (calls_output r.plan (requests_at input (plan_end input))) []) ≤ output_limit
    go true =
        let qs = (requests_at input (plan_end input)).requests in
        let l = answers_by r.plan [] qs in
        let e = (requests_at input (plan_end input)).ending in
        omega (arith, length-append (plan_number_line r.number) (calls_output r.plan (requests_at input (plan_end input))), length-append (answer_lines l) (ending_line e), plan_short r.number, answers_short l, by_length r.plan [] qs, requests_few input (plan_end input) (plan_within input), ending-short e)
    go false = omega (arith, length-append (plan_number_line r.number) [], plan_short r.number)

pub output_fits : OutputFits
unfolding output_of
output_fits reading input = go (ltb input_limit (length input)) refl
  where
    go : (b : Bool) → ltb input_limit (length input) ≡ b → length (cond b (plan_number_line 1) (after_reading reading input (reading (take (plan_end input) input)))) ≤ output_limit
    go true e = omega (arith, plan_short 1)
    go false e = after-fits reading input (reading (take (plan_end input) input)) (ltb-false input_limit (length input) e)

-- ---- two buffers

-- what was read into both, joined in one
module _ (first : List ℕ) (count : ℕ) (second : List ℕ) (more : ℕ) (whole : List ℕ) (n : ℕ) (j : BuffersJoined first count second more whole n) where
  abbrev input : List ℕ
  input = read_into first count second more

  pub two-within : n ≤ length whole
  two-within = omega (arith, j.many, ap length j.bytes_are, length-take n whole)

  pub two-taken : n ≡ length (take n whole)
  two-taken = j.many ∙ ap length (sym j.bytes_are)

  pub two-joined : (before after : List ℕ) (next : ℕ) → output_limit ≤ length before → Put before 0 (output_of reading_of (take n whole)) after next → Transcribed first count second more before after next
  two-joined before after next room p =
      let q : Put before 0 (output_of reading_of input) after next = subst (λ (x : List ℕ). Put before 0 (output_of reading_of x) after next) j.bytes_are p in
      let m : next ≡ length (output_of reading_of input) = omega (arith, q.next_is) in
      let all : after ≡ output_of reading_of input ++ drop next before
      = q.written ∙ sets-eq (output_of reading_of input) before 0 (omega (arith, output_fits reading_of input)) ∙ rw (zero-add, m) refl in
      record {
        length_is = m;
        fits = omega (arith, m, output_fits reading_of input);
        whole = all;
        longer = λ a b. all ∙ ap (λ (l : List ℕ). l ++ drop next before) (output_long reading_of input (omega (arith, j.longer a b, j.many)));
      }

pub filled-full : (x : ℕ) (L : Limits) → full_size L (filled x L) ≡ true
filled-full x L =
    let names = length-replicate {A = ℕ} (L.drones * L.name) x in
    let drones = length-replicate {A = ℕ} L.drones x in
    let stops = length-replicate {A = ℕ} L.stops x in
    let dependencies = length-replicate {A = ℕ} L.dependencies x in
    sizes_full L (filled x L) (record {
      drone_count_lem = omega (arith, length-replicate {A = ℕ} 1 x);
      dependency_count = omega (arith, length-replicate {A = ℕ} 1 x);
      form = omega (arith, length-replicate {A = ℕ} 1 x);
      names = omega (arith, names);
      stop_counts_lem = omega (arith, drones);
      locations = omega (arith, stops);
      times = omega (arith, stops);
      legs = omega (arith, stops);
      first_drones_lem = omega (arith, dependencies);
      first_stops_lem = omega (arith, dependencies);
      second_drones_lem = omega (arith, dependencies);
      second_stops_lem = omega (arith, dependencies);
      visited = omega (arith, drones);
      drone_flags = omega (arith, drones);
      flags = omega (arith, dependencies);
      pairs = omega (arith, length-replicate {A = ℕ} (2 * most_pairs) x);
    })

too_long : (L : Limits) (text : List ℕ) → L.text < length text → reading_number (read_plan L without text (zero_tables L)).reply ≡ 1
unfolding read_plan zero_tables
too_long L text h = rw (filled-full 0 L, lt-ltb L.text (length text) h) refl

beyond_first : (L : Limits) (input : List ℕ) → L.text < plan_end input → output_of (reading_in L (zero_tables L)) input ≡ plan_number_line 1
beyond_first L input h =
    let reading : List ℕ → PlanReading = reading_in L (zero_tables L) in
    by_cases (ltb input_limit (length input))
    (λ e. output_long reading input (ltb-true input_limit (length input) e))
    (λ e.
    let text : List ℕ = take (plan_end input) input in
    let one : (reading text).number ≡ 1 = too_long L text (omega (arith, h, length-take (plan_end input) input, plan_within input)) in
    output_read reading input (ltb-false input_limit (length input) e)
    ∙ ap (λ (k : ℕ). plan_number_line k ++ cond (eqb k 0) (calls_output (reading text).plan (requests_at input (plan_end input))) []) one
    ∙ append-nil (plan_number_line 1))

pub plan_in_first : PlanInFirst
plan_in_first = record { beyond = beyond_first; within = λ L first second e h. take-append-le (plan_end (first ++ second)) first second (omega arith) }

-- what was written lies in the buffer
module _ (first : List ℕ) (count : ℕ) (second : List ℕ) (more : ℕ) (before after : List ℕ) (next : ℕ) (t : Transcribed first count second more before after next) where
  pub written-within : next ≤ length after
  written-within =
      let text : List ℕ = output_of reading_of (read_into first count second more) in
      omega (arith, t.length_is, ap length t.whole, length-append text (drop next before))

  pub written_taken : next ≡ length (take next after)
  written_taken = omega (arith, length-take next after, written-within)
