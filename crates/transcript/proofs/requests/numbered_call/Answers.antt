-- One law for each return: the form, the range.
use native.Mathlib.Omega.{arith}
use Rattle.transcript.proofs.CallCases.{range_form, range_far, range_in, most_small}
use Rattle.transcript.proofs.requests.numbered_call.Goals as goal

pub returns-in_default : goal.returns-in_default
returns-in_default c = range_form _ _ _ _ c.field.ensures c.in_default.is

pub returns-then-most_of-read : goal.returns-then-most_of-read
returns-then-most_of-read c = range_far _ _ _ _ c.field.ensures _ _ c.in-Some.is c.most_of.ensures c.if-most_of-read.true

pub overflow_cast-request : goal.overflow_cast-request
overflow_cast-request c = omega (arith, most_small c.args.kind)

pub returns : goal.returns
returns c = range_in _ _ _ _ c.field.ensures _ _ c.in-Some.is c.most_of.ensures c.if-most_of-read.false
