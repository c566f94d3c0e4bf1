-- One law for each return: the first line, the number of drones, their lines, the last line and what follows it.
use native.Mathlib.Omega.{arith}
use mathlib.Core.Path.{◌≡◌, refl, sym, ◌∙◌}
use mathlib.Core.Bool.{true}
use Rattle.std.proofs.lemmas.Result.{err_from_is_err_and}
use Rattle.tables.specs.Limits.{limits}
use Rattle.lines.specs.Keys.{last_line}
use Rattle.lines.specs.Bytes.{is_at}
use Rattle.lines.proofs.ByteLaws.{is_at_in}
use Rattle.lines.proofs.StopCases.{count_range}
use Rattle.text.proofs.DroneCases.{whole-none}
use Rattle.text.proofs.TextCases.{lines_refused, lines_are, finish-stored, end_refused, end_missing, end_early, end_right}
use Rattle.text.proofs.reader.read_lines.Goals.{Else-not-starts}
use Rattle.text.proofs.reader.read_lines.Goals as goal

-- the last line stands, past its test
closed : (c : Else-not-starts) → is_at c.args.text.now c.in_ok-read.read.next last_line ≡ true
closed c = sym c.starts.ensures ∙ c.if-not-starts.false

pub read_drones-requires : goal.read_drones-requires
read_drones-requires c = let r = count_range _ _ _ _ _ _ (sym c.count_line.ensures ∙ c.in_ok-drones.was) in
    let p = c.requires in
    (r.1, p.1, p.2, p.3, p.4, p.5)

pub returns-then-not-starts : goal.returns-then-not-starts
returns-then-not-starts c = rw (lines_are limits c.args.form c.args.text.now c.requires.0 _ c.count_line.ensures _ _ c.in_ok-drones.was)
    (record { same = c.read_drones.ensures.same; stored = finish-stored _ _ _ _ c.read_drones.ensures.stored (end_missing _ _ _ _ _ c.in_ok-read.was (sym c.starts.ensures ∙ c.if-not-starts.true)) })

pub overflow_add-end : goal.overflow_add-end
overflow_add-end c = let h = is_at_in _ _ _ _ (closed (goal.at.overflow_add-end c).Else-not-starts) refl in omega arith

pub returns-then-end-text : goal.returns-then-end-text
returns-then-end-text c = rw (lines_are limits c.args.form c.args.text.now c.requires.0 _ c.count_line.ensures _ _ c.in_ok-drones.was)
    (record { same = c.read_drones.ensures.same; stored = finish-stored _ _ _ _ c.read_drones.ensures.stored (end_early _ _ _ _ _ c.in_ok-read.was (closed (goal.at.returns-then-end-text c).Else-not-starts) c.if-end-text.true) })

pub returns-in_err-drones : goal.returns-in_err-drones
returns-in_err-drones c =
    let p = err_from_is_err_and c.from_residual.result c.from_residual.ensures.1 in
    rw (p.1, p.2, lines_refused limits c.args.form c.args.text.now c.requires.0 _ c.count_line.ensures _ c.in_err-drones.was) (record { same = refl; stored = whole-none limits _ _ _ _ _ _ _ _ _ })

pub returns-in_err-read : goal.returns-in_err-read
returns-in_err-read c =
    let p = err_from_is_err_and c.from_residual-in_err-read.result c.from_residual-in_err-read.ensures.1 in
    rw (p.1, p.2, lines_are limits c.args.form c.args.text.now c.requires.0 _ c.count_line.ensures _ _ c.in_ok-drones.was)
    (record { same = c.read_drones.ensures.same; stored = finish-stored _ _ _ _ c.read_drones.ensures.stored (end_refused _ _ _ _ c.in_err-read.was) })

pub returns : goal.returns
returns c = rw (lines_are limits c.args.form c.args.text.now c.requires.0 _ c.count_line.ensures _ _ c.in_ok-drones.was)
    (record { same = c.read_drones.ensures.same; stored = finish-stored _ _ _ _ c.read_drones.ensures.stored (end_right _ _ _ _ _ c.in_ok-read.was (closed (goal.at.returns c).Else-not-starts) c.if-end-text.false) })
