use Prim.Native.Nat.{ℕ, ◌+◌, ◌-◌}
use native.Mathlib.Omega.{arith}
use mathlib.Core.List.{List}
use lib.ListN.{length, take, drop, length-drop}
use lib.Seq.{length-take-le}
use mathlib.Core.Path.{◌≡◌, ◌∙◌}
use Rattle.std.proofs.Common.{rules, tests}
use Rattle.std.proofs.lemmas.Iterator.{YieldsList-from_slice}
use Rattle.std.proofs.lemmas.Iterator.Search.{position_from_yields_List}
use Rattle.tables.specs.Limits.{limits}
use Rattle.text.proofs.NameInRow.{is_zero, found_or_end}
use Rattle.text.proofs.writer.name_len.Goals as goal

pub returns : goal.returns
returns c = let a = c.args in
    let part : List ℕ = take (a.row + limits.name - a.row) (drop a.row a.names.now) in
    let m : a.row + limits.name - a.row ≡ limits.name = omega arith in
    let l : length (take limits.name (drop a.row a.names.now)) ≡ limits.name = length-take-le limits.name (drop a.row a.names.now) (simp length-drop (omega (arith, c.requires))) in
    let p = position_from_yields_List is_zero _ _ c.position.result c.position.ensures.ran (YieldsList-from_slice part cc) (λ x b q k. search (rules, tests)) in
    c.unwrap_or.ensures ∙ rw (p, m) (found_or_end (take limits.name (drop a.row a.names.now)) limits.name l)
