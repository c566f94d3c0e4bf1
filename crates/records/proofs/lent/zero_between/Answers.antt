-- `records::lent::zero_between` meets its contract: the sum is 0 just where every record so far is zero. Assumes nothing.
use mathlib.Core.Path.{◌≡◌, ap, ◌∙◌}
use Prim.Native.Nat.{ℕ, ◌+◌, ◌-◌}
use lib.ListN.{get_or, take, drop}
use lib.Seq.{get_or-take, get_or-drop}
use native.Mathlib.Omega.{arith}
use Rattle.below.specs.Below.{all_below}
use Rattle.tables.specs.Entries.{zero_dependency}
use Rattle.tables.specs.declared.entries.Dependency.{Dependency}
use Rattle.records.specs.Records.{record_at, field_sum}
use Rattle.records.proofs.Unused.{clear, unused_none, unused_more, unused_end}
use Rattle.records.proofs.lent.zero_between.Goals as goal

pub loop-d-init : goal.loop-d-init
loop-d-init c = record { few = omega arith; clear_so_far = unused_none c.args.from c.args.deps.now _ (omega arith) }

pub loop-d-preserved : goal.loop-d-preserved
loop-d-preserved c = let l = c.loop-d in
    let a = c.args in
    let next : a.from + l.d-index + 1 ≡ a.from + (l.d-index + 1) = omega arith in
    let here : get_or (take (a.to - a.from) (drop a.from a.deps.now)) l.d-index zero_dependency ≡ record_at a.deps.now (a.from + l.d-index) = get_or-take (a.to - a.from) (drop a.from a.deps.now) l.d-index zero_dependency (omega arith) ∙ get_or-drop a.from a.deps.now l.d-index zero_dependency in
    record {
      few = omega (arith, c.field_sum-sum.ensures.upper_bound, l.invariant.few);
      clear_so_far = unused_more a.from a.deps.now (a.from + l.d-index) l.sum c.field_sum-sum.result (omega arith) (c.field_sum-sum.ensures.value ∙ ap (λ (d : Dependency). field_sum d) here) l.invariant.clear_so_far ∙ ap (λ (k : ℕ). all_below k (clear a.from a.deps.now)) next;
    }

pub returns : goal.returns
returns c = unused_end c.args.from c.args.deps.now c.args.to (c.args.from + c.loop-d.d-index) c.loop-d.sum (omega arith) c.loop-d.invariant.clear_so_far
