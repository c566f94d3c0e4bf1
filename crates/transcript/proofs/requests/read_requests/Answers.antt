use native.Mathlib.Omega.{arith}
use Prim.Native.Nat.{◌-◌}
use native.Mathlib.Nat.{sub-zero}
use mathlib.Core.Path.{refl, sym, ◌∙◌}
use lib.ListN.{length, length-set}
use Rattle.transcript.proofs.CallCases.{CallRead, call_read}
use Rattle.transcript.proofs.RequestLoop.{going_start, going_on, lines_none, lines_fault}
use Rattle.transcript.proofs.requests.read_requests.Goals.{In-Ok}
use Rattle.transcript.proofs.requests.read_requests.Goals as goal

-- the line that was read at the place of the store
read_here : (c : In-Ok) → CallRead c.args.text.now c.loop-here.here c.in-Ok.line
read_here c = call_read _ _ _ (sym c.call_line.ensures ∙ c.in-Ok.is)

pub loop-here-init : goal.loop-here-init
loop-here-init c = (refl, omega arith, c.requires.0, rw sub-zero (going_start _ _))

pub returns-in-Err : goal.returns-in-Err
returns-in-Err c = let l = c.loop-here in
    let a = c.args in
    let m = lines_fault a.text.now l.here _ c.loop-here-test.true c.call_line.ensures (length a.text.now - l.count) (omega arith) _ c.in-Err.is in
    record { count_is = omega (arith, rw m at l.invariant.3.count); ending_is = rw m at l.invariant.3.endings; requests_are = rw m at l.invariant.3.requests }

pub bounds-requests-count : goal.bounds-requests-count
bounds-requests-count c = let r = read_here (goal.at.bounds-requests-count c).In-Ok in omega arith

pub overflow_add-count : goal.overflow_add-count
overflow_add-count c = let r = read_here (goal.at.overflow_add-count c).In-Ok in omega arith

pub loop-here-smaller : goal.loop-here-smaller
loop-here-smaller c = let r = read_here (goal.at.loop-here-smaller c).In-Ok in omega arith

pub loop-here-preserved : goal.loop-here-preserved
loop-here-preserved c = let r = read_here (goal.at.loop-here-preserved c).In-Ok in
    let l = c.loop-here in (
      length-set l.requests _ _ ∙ l.invariant.0,
      omega arith,
      r.within,
      going_on _ _ _ _ _ _ _ _ _ (omega arith) c.loop-here-test.true c.call_line.ensures c.in-Ok.is l.invariant.3,
    )

pub returns : goal.returns
returns c = let l = c.loop-here in
    let a = c.args in
    let m = lines_none (length a.text.now - l.count) a.text.now l.here (omega arith) in
    record { count_is = omega (arith, rw m at l.invariant.3.count); ending_is = rw m at l.invariant.3.endings; requests_are = rw m at l.invariant.3.requests }
