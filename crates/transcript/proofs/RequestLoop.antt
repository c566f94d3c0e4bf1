-- The lines that are left, stored from here on, give what all of them give from the start.
use Prim.Native.Nat.{ℕ, zero, suc, ◌+◌, ◌-◌, ◌≤◌, ◌<◌}
use native.Mathlib.Nat.{not-suc-le-zero}
use native.Mathlib.Numerals.{sub-one}
use native.Mathlib.Omega.{arith}
use mathlib.Core.Path.{◌≡◌, refl, sym, ◌∙◌}
use mathlib.Core.List.{List, ◌∷◌}
use borrow.Author.Tests.{lt-ltb, le-ltb}
use lib.ListN.{length, set}
use lib.Seq.{sets}
use Rattle.std.specs.Prelude.{Result, Ok, Err}
use Rattle.transcript.specs.Input.{most_of, call_at, request_of, RequestList, no_requests, call_lines_at, asked_of, asked_in}
use Rattle.transcript.specs.declared.keys.Kind.{Kind}
use Rattle.transcript.specs.declared.keys.Kind.TheVariants.{Grant, Arrive, Turn, Cost}
use Rattle.transcript.specs.declared.requests.CallLine.{CallLine}
use Rattle.transcript.specs.declared.requests.CallFault.{CallFault}
use Rattle.transcript.specs.declared.requests.Request.{Request as Asked}
use Rattle.transcript.proofs.CallCases.{call_read}

-- ---- the lines that are left: none, one at fault, one more

pub lines_none : (n : ℕ) (text : List ℕ) (at : ℕ) → length text ≤ at → call_lines_at n text at ≡ no_requests (Ok tt)
unfolding call_lines_at
lines_none zero text at h = refl
lines_none (suc n) text at h = rw (le-ltb at (length text) h)

module _ (text : List ℕ) (at : ℕ) (s : Result CallLine CallFault) (l : at < length text) (f : s ≡ call_at text at) where
  pub lines_fault : (n : ℕ) → 0 < n → (fault : CallFault) → s ≡ Err fault → call_lines_at n text at ≡ no_requests (Err fault)
  unfolding call_lines_at
  lines_fault zero h fault k = absurd (not-suc-le-zero h)
  lines_fault (suc n) h fault k = rw (lt-ltb at (length text) l, ← f, k)

  pub lines_more : (n : ℕ) → 0 < n → (line : CallLine) → s ≡ Ok line
      → call_lines_at n text at ≡ record { requests = request_of line.request.kind line.request.number ∷ (call_lines_at (n - 1) text line.next).requests; ending = (call_lines_at (n - 1) text line.next).ending }
  unfolding call_lines_at
  lines_more zero h line q = absurd (not-suc-le-zero h)
  lines_more (suc n) h line q = rw (lt-ltb at (length text) l, ← f, q, sub-one)

-- ---- what a line stores

pub asked_stored : (k : Kind) (v : ℕ) → v ≤ most_of k → asked_of (request_of k v) ≡ record { kind = k; number = v }
asked_stored Grant v r = refl
asked_stored Arrive v r = refl
asked_stored Turn v r = refl
asked_stored Cost v r = let z : 0 ≡ v = omega arith in rw z refl

-- ---- the loop

pub record Going (left whole : RequestList) (i : ℕ) (table table₀ : List Asked) : Type 0 where
  pub count : i + length left.requests ≡ length whole.requests
  pub endings : left.ending ≡ whole.ending
  pub requests : sets table i (asked_in left.requests) ≡ sets table₀ 0 (asked_in whole.requests)

pub going_start : (r : RequestList) (table : List Asked) → Going r r 0 table table
going_start r table = record { count = omega arith; endings = refl; requests = refl }

pub going_on : (whole : RequestList) (n i : ℕ) (text : List ℕ) (table table₀ : List Asked) (at : ℕ) (line : CallLine) (s : Result CallLine CallFault) → i < n → at < length text → s ≡ call_at text at → s ≡ Ok line
    → Going (call_lines_at (n - i) text at) whole i table table₀ → Going (call_lines_at (n - (i + 1)) text line.next) whole (i + 1) (set table i line.request) table₀
going_on whole n i text table table₀ at line s h l f q g =
    let m = lines_more text at s l f (n - i) (omega arith) line q in
    let w : n - i - 1 ≡ n - (i + 1) = omega arith in
    let w' : n - i - 1 ≡ n - suc i = omega arith in
    let p : suc i ≡ i + 1 = omega arith in
    let r = call_read text at line (sym f ∙ q) in
    record {
      count = omega (arith, rw (m, w) at g.count);
      endings = rw (m, w) at g.endings;
      requests = rw (← p) (rw (m, w', asked_stored line.request.kind line.request.number r.number_in_lem) at g.requests);
    }
