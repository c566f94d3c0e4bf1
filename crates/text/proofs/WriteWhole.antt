-- The whole text takes just the stops of its drones; it is written exactly when the buffer is long enough, and then stands before what the buffer held past it.
use Prim.Native.Nat.{ℕ, zero, suc, ◌+◌, ◌≤◌, ◌<◌}
use native.Mathlib.Nat.{zero-add, suc-add}
use native.Mathlib.Omega.{arith}
use mathlib.Core.Path.{◌≡◌, refl, ◌∙◌, ap}
use mathlib.Core.List.{List, [], ◌∷◌, ◌++◌}
use lib.ListN.{length, take, drop}
use lib.Seq.{sets, sets-eq, take-take, take-nil}
use borrow.Author.Tests.{lt-ltb, le-ltb}
use Rattle.below.specs.Below.{sum_below, at as entry}
use Rattle.tables.specs.Limits.{Limits}
use Rattle.lines.specs.Keys.{first_line, agents_key, last_line}
use Rattle.lines.specs.Bytes.{Put}
use Rattle.lines.specs.Stops.{count_line}
use Rattle.lines.proofs.WriteLaws.{put_put}
use Rattle.text.specs.Written.{drone_lines}
use Rattle.text.specs.TextWritten.{rows_in, tables_text, is_short, write_answer, buffer_after, TextWritten}
use Rattle.text.proofs.WriteLoop.{sum_front}
use Rattle.std.specs.Prelude.{None, Some}

-- ---- the text

pub drop-take : (m n : ℕ) (l : List ℕ) → drop m (take (m + n) l) ≡ take n (drop m l)
drop-take zero n l = rw zero-add
drop-take (suc m) n [] = rw (suc-add, take-nil n)
drop-take (suc m) n (a ∷ l) = rw suc-add (drop-take m n l)

-- the lines take no stop past those of their drones
lines_taken : (form : ℕ) (rows : List (List ℕ)) (n : ℕ) (counts ls ts gs : List ℕ)
    → drone_lines form rows (take n counts) (take (sum_below n (entry counts)) ls) (take (sum_below n (entry counts)) ts) (take (sum_below n (entry counts)) gs) ≡ drone_lines form rows (take n counts) ls ts gs
unfolding drone_lines
lines_taken form [] n counts ls ts gs = refl
lines_taken form (r ∷ rows) zero counts ls ts gs = refl
lines_taken form (r ∷ rows) (suc n) [] ls ts gs = refl
lines_taken form (r ∷ rows) (suc n) (m ∷ counts) ls ts gs =
    let s = sum_below n (entry counts) in
    let b : m ≤ m + s = omega arith in
    rw (
      sum_front n m counts,
      take-take m (m + s) ls b,
      take-take m (m + s) ts b,
      take-take m (m + s) gs b,
      drop-take m s ls,
      drop-take m s ts,
      drop-take m s gs,
      lines_taken form rows n counts (drop m ls) (drop m ts) (drop m gs),
    )

-- the pieces of the text, written one after another
pub text_put : (L : Limits) (form n : ℕ) (names counts ls ts gs : List ℕ) {b b₁ b₂ b₃ b' : List ℕ} {n₁ n₂ n₃ r : ℕ} → Put b 0 (first_line form) b₁ n₁ → Put b₁ n₁ (count_line agents_key n) b₂ n₂
    → Put b₂ n₂ (drone_lines form (rows_in L n names) (take n counts) ls ts gs) b₃ n₃ → Put b₃ n₃ last_line b' r → Put b 0 (tables_text L form n names counts ls ts gs) b' r
unfolding tables_text
text_put L form n names counts ls ts gs head agents drones end = rw (lines_taken form (rows_in L n names) n counts ls ts gs) (put_put (put_put (put_put head agents) drones) end)

-- ---- the answer, where `ys` is an empty part of the buffer after the first call

sets_nil : (i : ℕ) (vs : List ℕ) → sets [] i vs ≡ []
sets_nil i [] = refl
sets_nil i (v ∷ vs) = sets_nil (suc i) vs

module _ {text ys : List ℕ} {n : ℕ} (b : List ℕ) (p : Put [] 0 text ys n) where
  -- nothing is written into an empty part
  same_buffer : ys ++ b ≡ b
  same_buffer = rw (p.written, sets_nil 0 text)

  pub says-short : length (ys ++ b) < n → TextWritten text b (ys ++ b) None
  unfolding write_answer buffer_after is_short
  says-short h =
      let k : length b < n = rw same_buffer at h in
      let s = lt-ltb (length b) (length text) (omega (arith, p.next_is)) in
      record { answer_is = rw s; buffer_is = rw s same_buffer }

  pub says-length : n ≤ length (ys ++ b) → {after : List ℕ} {r : ℕ} → Put (ys ++ b) 0 text after r → TextWritten text b after (Some n)
  unfolding write_answer buffer_after is_short
  says-length h {after} q =
      let k : n ≤ length b = rw same_buffer at h in
      let l : n ≡ length text = omega (arith, p.next_is) in
      let s = le-ltb (length b) (length text) (omega arith) in
      let w : after ≡ sets b 0 text = q.written ∙ ap (λ (x : List ℕ). sets x 0 text) same_buffer in
      record { answer_is = rw (s, l); buffer_is = rw s (w ∙ sets-eq text b 0 (omega arith) ∙ rw zero-add) }
