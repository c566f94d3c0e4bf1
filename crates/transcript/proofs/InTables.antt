-- Requests and answers that stand in tables from the first entry on are read back from them, entry by entry.
use Prim.Native.Nat.{ℕ, zero, suc, ◌+◌, ◌≤◌, ◌<◌}
use native.Mathlib.Nat.{not-suc-le-zero, le_of_suc-le-suc}
use native.Mathlib.Omega.{arith}
use mathlib.Core.Path.{◌≡◌, refl, sym, ap, ◌∙◌}
use mathlib.Core.List.{List, [], ◌∷◌, ◌++◌, append_assoc, append-nil}
use lib.ListN.{length, get_or, take, drop, get_or-append}
use lib.Seq.{sets, sets-eq, take-append_seam}
use Rattle.below.specs.Below.{rows_below}
use Rattle.below.proofs.Index.{list_below_is}
use Rattle.below.proofs.Same.{rows_ext}
use Rattle.tables.specs.Limits.{Limits}
use Rattle.tables.specs.Tables.{Tables}
use Rattle.transcript.specs.Input.{grant, arrive, turn, Request, call, cost, request_of, kind_of, number_of, asked_in, asked_at}
use Rattle.transcript.specs.Output.{LineAnswer, answer_line, answer_lines, answer_at, lines_in}
use Rattle.transcript.specs.Run.{answers_on, tables_on, requests_in, answers_in}
use Rattle.transcript.specs.declared.keys.Kind.TheVariants.{Grant, Cost}
use Rattle.transcript.specs.declared.requests.Request.{Request as Asked}
use Rattle.transcript.specs.declared.replies.Answer.{Answer}

-- an entry that was stored
pub stored_at : {A : Type 0} (l xs : List A) (k : ℕ) (d : A) → k < length xs → length xs ≤ length l → get_or (sets l 0 xs) k d ≡ get_or xs k d
stored_at l xs k d h r = rw (sets-eq xs l 0 (omega arith)) (get_or-append xs (drop (0 + length xs) l) d k h)

-- ---- requests

request_back : (q : Request) → request_of (kind_of q) (number_of q) ≡ q
request_back (call (grant d)) = refl
request_back (call (arrive d)) = refl
request_back (call (turn w)) = refl
request_back cost = refl

pub asked-length : (qs : List Request) → length (asked_in qs) ≡ length qs
asked-length [] = refl
asked-length (q ∷ qs) = ap suc (asked-length qs)

request_at : (qs : List Request) (i : ℕ) → i < length qs → get_or qs i cost ≡ request_of (asked_at (asked_in qs) i).kind (asked_at (asked_in qs) i).number
request_at [] i h = absurd (not-suc-le-zero h)
request_at (q ∷ qs) zero h = sym (request_back q)
request_at (q ∷ qs) (suc i) h = request_at qs i (le_of_suc-le-suc h)

pub requests_back : (qs : List Request) → requests_in (length (asked_in qs)) (asked_in qs) ≡ qs
requests_back qs = rw (asked-length qs) (sym (list_below_is (length qs) _ cost qs refl (λ i l. request_at qs i l)))

-- the first entries of a table in which the requests were stored
pub asked_back : (qs : List Request) (table : List Asked) → length qs ≤ length table → take (length qs) (sets table 0 (asked_in qs)) ≡ asked_in qs
asked_back qs table h =
    let e = asked-length qs in
    rw (← e, sets-eq (asked_in qs) table 0 (omega arith)) (take-append_seam (asked_in qs) (drop (0 + length (asked_in qs)) table))

-- ---- answers

pub answers_length : (L : Limits) (qs : List Request) (t : Tables) → length (answers_on L t qs) ≡ length qs
unfolding answers_on
answers_length L [] t = refl
answers_length L (q ∷ qs) t = ap suc (answers_length L qs (tables_on L t q))

-- past the last one
abbrev no_answer : LineAnswer
no_answer = record { kind = Cost; number = 0; detail = 0 }

abbrev line_of : LineAnswer → List ℕ
line_of a = answer_line a.kind a.number a.detail

-- an answer has the kind of its request
kind_at : (L : Limits) (qs : List Request) (t : Tables) (i : ℕ) → i < length qs → (asked_at (asked_in qs) i).kind ≡ (get_or (answers_on L t qs) i no_answer).kind
unfolding answers_on
kind_at L [] t i h = absurd (not-suc-le-zero h)
kind_at L (call c ∷ qs) t zero h = refl
kind_at L (cost ∷ qs) t zero h = refl
kind_at L (q ∷ qs) t (suc i) h = kind_at L qs (tables_on L t q) i (le_of_suc-le-suc h)

-- rows, the first one in front
rows_front : (n : ℕ) (g : ℕ → List ℕ) → rows_below (suc n) g ≡ g 0 ++ rows_below n (λ i. g (suc i))
unfolding rows_below
rows_front zero g = sym (append-nil (g 0))
rows_front (suc n) g = ap (λ (l : List ℕ). l ++ g (suc n)) (rows_front n g) ∙ append_assoc (g 0) (rows_below n (λ i. g (suc i))) (g (suc n))

lines_back : (answers : List LineAnswer) → rows_below (length answers) (λ i. line_of (get_or answers i no_answer)) ≡ answer_lines answers
unfolding answer_lines rows_below
lines_back [] = refl
lines_back (a ∷ rest) = rows_front (length rest) _ ∙ ap (λ (l : List ℕ). line_of a ++ l) (lines_back rest)

pub answers_in-length : (answers : List LineAnswer) → length (answers_in answers) ≡ length answers
answers_in-length [] = refl
answers_in-length (a ∷ rest) = ap suc (answers_in-length rest)

-- an entry of the table holds the number and the detail of its answer
answer_in : (answers : List LineAnswer) (i : ℕ) → i < length answers → answer_at (answers_in answers) i ≡ record { number = (get_or answers i no_answer).number; detail = (get_or answers i no_answer).detail }
answer_in [] i h = absurd (not-suc-le-zero h)
answer_in (a ∷ rest) zero h = refl
answer_in (a ∷ rest) (suc i) h = answer_in rest i (le_of_suc-le-suc h)

-- the lines of these requests, with a table that holds their answers
pub lines_stored : (L : Limits) (qs : List Request) (t : Tables) (answers : List Answer) → length qs ≤ length answers
    → lines_in (length (asked_in qs)) (asked_in qs) (sets answers 0 (answers_in (answers_on L t qs))) ≡ answer_lines (answers_on L t qs)
unfolding lines_in
lines_stored L qs t answers h =
    rw (asked-length qs ∙ sym (answers_length L qs t)) (rows_ext (length (answers_on L t qs)) _ _ line ∙ lines_back (answers_on L t qs))
  where
    line : (i : ℕ) → i < length (answers_on L t qs)
        → answer_line (asked_at (asked_in qs) i).kind (answer_at (sets answers 0 (answers_in (answers_on L t qs))) i).number (answer_at (sets answers 0 (answers_in (answers_on L t qs))) i).detail ≡ line_of (get_or (answers_on L t qs) i no_answer)
    line i l =
        let k = answers_length L qs t in
        let b = answers_in-length (answers_on L t qs) in
        rw (stored_at answers (answers_in (answers_on L t qs)) i (record { number = 0; detail = 0 }) (omega arith) (omega arith), answer_in (answers_on L t qs) i l, kind_at L qs t i (omega arith)) refl
