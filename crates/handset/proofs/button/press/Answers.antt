-- `handset::button::press` meets its contract: the goals that the check leaves. Assumes nothing.
use Rattle.std.proofs.lemmas.Result.{err_from_is_err_and}
use Rattle.tables.specs.Limits.{limits}
use Rattle.handset.proofs.LoopLaws.{press_nothing, press_refused_lem, press_arrived}
use Rattle.handset.proofs.button.press.Goals as goal

pub returns-in_default : goal.returns-in_default
returns-in_default c = rw c.in_default.is (press_nothing limits _ _ _ c.grant_all.ensures)

pub returns-in_err-arrived : goal.returns-in_err-arrived
returns-in_err-arrived c =
    let p = err_from_is_err_and c.from_residual.result c.from_residual.ensures.1 in
    rw (c.in-Some.is, p.1, p.2) (press_refused_lem limits _ _ _ _ c.arrive.ensures _ c.in_err-arrived.ensures.0 c.in_err-arrived.ensures.1)

pub returns : goal.returns
returns c = rw c.in-Some.is (press_arrived limits _ _ _ _ c.arrive.ensures _ _ c.in_ok-arrived.ensures c.grant_all-2.ensures)
