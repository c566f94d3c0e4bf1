-- A list of requests, one more at its end as a loop makes it; and demand 3 of what its answers in the tables mean. Assumes nothing.
use Prim.Native.Nat.{ℕ, zero, suc, ◌+◌, ◌≤◌, ◌<◌}
use native.Mathlib.Nat.{zero-add, add-zero, add-suc, suc-add}
use native.Mathlib.Numerals.{add-one}
use native.Mathlib.Omega.{arith}
use mathlib.Core.Path.{◌≡◌, refl, sym, ap, ap₂, ◌∙◌}
use mathlib.Core.Bool.{Bool, true, false, cond}
use mathlib.Core.List.{List, [], ◌∷◌, ◌++◌}
use lib.ListN.{length, set}
use lib.Seq.{sets}
use Rattle.below.specs.Below.{list_below}
use Rattle.below.proofs.Index.{length-list_below}
use Rattle.tables.specs.Limits.{Limits}
use Rattle.tables.specs.Tables.{Tables, full_size}
use Rattle.plan.specs.Field.{plan_of}
use Rattle.plan.specs.Status.{status_in}
use Rattle.sound.specs.Sound.{sound}
use Rattle.call_log.specs.CallLog.{Reply, refused, reply_number, awaited, reply_from, Entry, entry_of}
use Rattle.call_log.specs.Calls.{step, reply_of, grant_step, arrive_step, turn_step, recorded, tables_after}
use Rattle.call_log.proofs.Whole.{demand3}
use Rattle.call_log.proofs.Meaning.{read_back}
use Rattle.transcript.specs.Input.{LineCall, grant, arrive, turn, call_of, Request, call, cost, request_of, asked_at}
use Rattle.transcript.specs.Output.{LineAnswer, answer_at}
use Rattle.transcript.specs.declared.requests.Request.{Request as Asked}
use Rattle.transcript.specs.declared.replies.Answer.{Answer}
use Rattle.transcript.specs.Run.{answer_on, tables_on, answers_on, tables_left_lem, requests_in, answers_in, Made}
use Rattle.transcript.proofs.InTables.{stored_at, answers_length, answers_in-length}
use Rattle.dispatch.specs.Making.{RequestMade, calls_of, got_by, answer_number, answer_detail, RequestsMade}

-- ---- one request more

list_more : (n : ℕ) (f : ℕ → Request) → list_below (suc n) f ≡ list_below n f ++ (f n ∷ [])
unfolding list_below
list_more zero f = refl
list_more (suc n) f = ap (λ (qs : List Request). f 0 ∷ qs) (list_more n (λ i. f (suc i)))

pub requests_more : (i : ℕ) (table : List Asked) → requests_in (i + 1) table ≡ requests_in i table ++ (request_of (asked_at table i).kind (asked_at table i).number ∷ [])
requests_more i table = rw (add-one i) (list_more i (λ k. request_of (asked_at table k).kind (asked_at table k).number))

answers_more : (L : Limits) (qs : List Request) (q : Request) (t : Tables) → answers_on L t (qs ++ (q ∷ [])) ≡ answers_on L t qs ++ (answer_on L (tables_left_lem L t qs) q ∷ [])
unfolding answers_on tables_left_lem
answers_more L [] q t = refl
answers_more L (p ∷ qs) q t = ap (λ (l : List LineAnswer). answer_on L t p ∷ l) (answers_more L qs q (tables_on L t p))

tables_more : (L : Limits) (qs : List Request) (q : Request) (t : Tables) → tables_left_lem L t (qs ++ (q ∷ [])) ≡ tables_on L (tables_left_lem L t qs) q
unfolding tables_left_lem
tables_more L [] q t = refl
tables_more L (p ∷ qs) q t = tables_more L qs q (tables_on L t p)

entries_more : (l : List LineAnswer) (a : LineAnswer) → answers_in (l ++ (a ∷ [])) ≡ answers_in l ++ (record { number = a.number; detail = a.detail } ∷ [])
entries_more [] a = refl
entries_more (b ∷ l) a = ap (λ (x : List Answer). record { number = b.number; detail = b.detail } ∷ x) (entries_more l a)

-- a store behind a run of stores
sets_more : {A : Type 0} (l : List A) (i : ℕ) (xs : List A) (x : A) → set (sets l i xs) (i + length xs) x ≡ sets l i (xs ++ (x ∷ []))
sets_more l i [] x = rw add-zero
sets_more l i (a ∷ xs) x = rw (add-suc, ← suc-add) (sets_more (set l i a) (suc i) xs x)

store_more : {A : Type 0} (l xs : List A) (i : ℕ) (x : A) → i ≡ length xs → set (sets l 0 xs) i x ≡ sets l 0 (xs ++ (x ∷ []))
store_more l xs i x e = rw (e, ← zero-add (length xs)) (sets_more l 0 xs x)

pub made_none : (L : Limits) (table : List Asked) (t : Tables) (answers : List Answer) → Made L (requests_in 0 table) t answers t answers
unfolding list_below answers_on tables_left_lem
made_none L table t answers = record { tables_are = refl; answers_are = refl }

module _ (L : Limits) (t : Tables) (answers : List Answer) (t' : Tables) (answers' : List Answer) where
  one_more : (qs : List Request) (q : Request) (i : ℕ) (r : Answer) (t'' : Tables) → i ≡ length qs → Made L qs t answers t' answers' → RequestMade L t' q r.number r.detail t'' → Made L (qs ++ (q ∷ [])) t answers t'' (set answers' i r)
  one_more qs q i r t'' e m k = record {
    tables_are = k.tables_are ∙ ap (λ (x : Tables). tables_on L x q) m.tables_are ∙ sym (tables_more L qs q t);
    answers_are =
        ap₂ (λ (l : List Answer) (x : Answer). set l i x) m.answers_are (entry ∙ ap (λ (x : Tables). entry_of_lem (answer_on L x q)) m.tables_are)
        ∙ store_more answers (answers_in (answers_on L t qs)) i _ (e ∙ sym (answers_in-length (answers_on L t qs) ∙ answers_length L qs t))
        ∙ sym (ap (λ (l : List LineAnswer). sets answers 0 (answers_in l)) (answers_more L qs q t) ∙ ap (λ (l : List Answer). sets answers 0 l) (entries_more (answers_on L t qs) (answer_on L (tables_left_lem L t qs) q)));
  }
    where
      entry_of_lem : LineAnswer → Answer
      entry_of_lem a = record { number = a.number; detail = a.detail }

      entry : r ≡ record { number = (answer_on L t' q).number; detail = (answer_on L t' q).detail }
      entry = ap₂ (λ (n w : ℕ). record { number = n; detail = w }) k.number_is k.detail_is

  pub made_more : (table : List Asked) (i : ℕ) (r : Answer) (t'' : Tables) → Made L (requests_in i table) t answers t' answers' → RequestMade L t' (request_of (asked_at table i).kind (asked_at table i).number) r.number r.detail t''
      → Made L (requests_in (i + 1) table) t answers t'' (set answers' i r)
  made_more table i r t'' m k = rw (requests_more i table) (one_more (requests_in i table) _ i r t'' (sym (length-list_below i (λ j. request_of (asked_at table j).kind (asked_at table j).number))) m k)

-- ---- what the answers mean

-- a reply is the one that its number and its dependency mean: no call is refused by 0 or 23
abbrev Means : Reply → Type 0
Means r = reply_from (reply_number r) (awaited r) ≡ r

means_refused : (a b : Bool) (r : Reply) → Means r → Means (cond a (cond b r (refused 40)) (refused 41))
unfolding reply_from
means_refused true true r m = m
means_refused true false r m = refl
means_refused false b r m = refl

means_of : (L : Limits) (t : Tables) (c : LineCall) → Means (reply_of L t (call_of c))
unfolding reply_of
means_of L t c = means_refused (full_size L t) (sound L t) _ (read_back (plan_of t.plan) (status_in t) (call_of c))

means_step : (L : Limits) (t : Tables) (c : LineCall) → Means (step L t (call_of c)).reply
unfolding grant_step arrive_step turn_step
means_step L t (grant d) = means_of L t (grant d)
means_step L t (arrive d) = means_of L t (arrive d)
means_step L t (turn w) = means_of L t (turn w)

module _ (L : Limits) where
  -- entries that hold the answers give each call with its reply
  got_recorded : (qs : List Request) (t : Tables) (ns ws : ℕ → ℕ) → ((k : ℕ) → k < length qs → ns k ≡ answer_number (answers_in (answers_on L t qs)) k) → ((k : ℕ) → k < length qs → ws k ≡ answer_detail (answers_in (answers_on L t qs)) k)
      → got_by qs ns ws ≡ recorded (step L) t (calls_of qs)
  unfolding got_by recorded calls_of answers_on
  got_recorded [] t ns ws h g = refl
  got_recorded (call c ∷ qs) t ns ws h g =
      ap₂ (λ (r : Reply) (es : List Entry). entry_of (call_of c) r ∷ es)
      (ap₂ reply_from (h 0 (omega arith)) (g 0 (omega arith)) ∙ means_step L t c)
      (got_recorded qs (step L t (call_of c)).tables (λ i. ns (suc i)) (λ i. ws (suc i)) (λ k l. h (suc k) (omega arith)) (λ k l. g (suc k) (omega arith)))
  got_recorded (cost ∷ qs) t ns ws h g = got_recorded qs t (λ i. ns (suc i)) (λ i. ws (suc i)) (λ k l. h (suc k) (omega arith)) (λ k l. g (suc k) (omega arith))

  left_after : (qs : List Request) (t : Tables) → tables_left_lem L t qs ≡ tables_after (step L) t (calls_of qs)
  unfolding tables_left_lem tables_after calls_of
  left_after [] t = refl
  left_after (call c ∷ qs) t = left_after qs (step L t (call_of c)).tables
  left_after (cost ∷ qs) t = left_after qs t

-- demand 3 of the requests that were made
pub made_found : (L : Limits) (qs : List Request) (t : Tables) (answers : List Answer) (t' : Tables) (answers' : List Answer) → length qs ≤ length answers → Made L qs t answers t' answers' → RequestsMade L qs t answers t' answers'
made_found L qs t answers t' answers' h m = record { made = m; found = λ lists read. rw (same, tables) (demand3 L lists t (calls_of qs) read) }
  where
    entry : (k : ℕ) → k < length qs → answer_at answers' k ≡ answer_at (answers_in (answers_on L t qs)) k
    entry k l =
        let e = answers_in-length (answers_on L t qs) ∙ answers_length L qs t in
        ap (λ (x : List Answer). answer_at x k) m.answers_are ∙ stored_at answers (answers_in (answers_on L t qs)) k (record { number = 0; detail = 0 }) (omega arith) (omega arith)

    same : got_by qs (answer_number answers') (answer_detail answers') ≡ recorded (step L) t (calls_of qs)
    same = got_recorded L qs t (answer_number answers') (answer_detail answers') (λ k l. ap (λ (a : Answer). a.number) (entry k l)) (λ k l. ap (λ (a : Answer). a.detail) (entry k l))

    tables : t' ≡ tables_after (step L) t (calls_of qs)
    tables = m.tables_are ∙ left_after L qs t

-- the same where a loop over the first n entries ends
pub requests_found : (L : Limits) (i n : ℕ) (table : List Asked) (t : Tables) (answers : List Answer) (t' : Tables) (answers' : List Answer) → i ≡ n → n ≤ length answers
    → Made L (requests_in i table) t answers t' answers' → RequestsMade L (requests_in n table) t answers t' answers'
requests_found L i n table t answers t' answers' e h m =
    let many = length-list_below n (λ k. request_of (asked_at table k).kind (asked_at table k).number) in
    made_found L (requests_in n table) t answers t' answers' (omega arith) (rw e at m)
