-- Two buffers as one: written one after the other from the first byte on, they are its beginning.
use mathlib.Core.Path.{◌≡◌, ap, ◌∙◌}
use mathlib.Core.List.{List, ◌++◌}
use Prim.Native.Nat.{ℕ, ◌+◌, ◌≤◌, ◌<◌}
use native.Mathlib.Omega.{arith}
use lib.ListN.{length, take, drop, length-append, length-take}
use lib.Seq.{sets-eq, take-append_seam}
use Rattle.tables.specs.Limits.{limits}
use Rattle.lines.specs.Bytes.{Put}
use Rattle.lines.proofs.WriteLaws.{put_put}
use Rattle.transcript.specs.Input.{input_limit, read_into, BuffersJoined}

begins : (w xs after : List ℕ) (n : ℕ) → Put w 0 xs after n → length xs ≤ length w → take n after ≡ xs
begins w xs after n p h =
    let e : n ≡ length xs = omega (arith, p.next_is) in
    ap (take n) (p.written ∙ sets-eq xs w 0 (omega arith)) ∙ ap (λ (k : ℕ). take k (xs ++ drop (0 + length xs) w)) e ∙ take-append_seam xs (drop (0 + length xs) w)

pub joined : (first : List ℕ) (count : ℕ) (second : List ℕ) (more : ℕ) (w w₁ w₂ : List ℕ) (n₁ n₂ : ℕ) → length first ≡ limits.text → length second ≡ limits.text + 1 → input_limit < length w
    → Put w 0 (take count first) w₁ n₁ → Put w₁ n₁ (take more second) w₂ n₂ → BuffersJoined first count second more w₂ n₂
joined first count second more w w₁ w₂ n₁ n₂ one two room p q =
    let r : Put w 0 (read_into first count second more) w₂ n₂ = put_put p q in
    let long = length-append (take count first) (take more second) in
    let some = length-take count first in
    let rest = length-take more second in
    record {
      many = omega (arith, r.next_is);
      bytes_are = begins w (read_into first count second more) w₂ n₂ r (omega (arith, long, some, rest));
      longer = λ a b. omega (arith, r.next_is, long, some, rest);
    }
