use native.Mathlib.Omega.{arith}
use mathlib.Core.Path.{◌≡◌, refl, ◌∙◌}
use lib.ListN.{length}
use Rattle.transcript.specs.Input.{asked_at}
use Rattle.transcript.specs.Output.{answer_at}
use Rattle.lines.proofs.WriteLaws.{put_none, put_put}
use Rattle.transcript.proofs.ReplyCases.{lines_start, lines_step, lines_all, answer_short}
use Rattle.transcript.proofs.replies.put_answers.Goals as goal

pub loop-i-init : goal.loop-i-init
loop-i-init c = (omega arith, refl, rw lines_start (put_none _ _))

pub loop-i-preserved : goal.loop-i-preserved
loop-i-preserved c = let l = c.loop-i in
    let q = asked_at c.args.requests.now l.i in
    let a = answer_at c.args.answers.now l.i in
    let p = c.put_answer-next in (
      omega (arith, p.ensures.next_is, answer_short q.kind a.number a.detail, l.invariant.0),
      p.auto.buf ∙ l.invariant.1,
      rw lines_step (put_put l.invariant.2 p.ensures),
    )

pub returns : goal.returns
returns c = let l = c.loop-i in
    let e : l.i ≡ length c.args.requests.now = omega arith in
    rw (lines_all _ _ _ _ e) at l.invariant.2
