use Prim.Native.Nat.{◌+◌, ◌-◌, ◌≤◌}
use mathlib.Core.Path.{◌≡◌, sym, ◌∙◌}
use native.Mathlib.Omega.{arith}
use Rattle.choices.specs.Searching.{choice_in, Judges}
use Rattle.choices.proofs.SearchLoop.{Done, back_le, trying_start, trying_past, trying_over, trying_deeper, trying_less, trying_finished, done_turned, done_less, done_some, done_reply}
use Rattle.orders.specs.Questions.{cyclic_in, question_cost}
use Rattle.orders.proofs.Arranged.{search_grows, search_left}
use Rattle.orders.proofs.PathLaws.{admitted-acyclic, path_last, path_small, path_judges, path_in}
use Rattle.orders.proofs.search.search_from.Goals.{After-cost_in-cost, Joined-admits, then-admits+else-count-budget+else-depth-question, else-admits}
use Rattle.orders.proofs.search.search_from.Goals as goal

-- the cost of the choice in hand is right
judged : (c : After-cost_in-cost) → Judges (cyclic_in c.args.question.now) (question_cost c.args.question.now) (choice_in c.loop-best.dirs c.loop-best.depth) c.cost_in-cost.result
judged c = path_judges _ _ _ _ _ _ _ _ _ _ _ c.requires.searchable.0 _ c.requires.searchable.1 c.loop-best.invariant.1 c.loop-best.invariant.0.deep c.cost_in-cost.ensures

-- it is done with: it was not entered, or it is finished and kept
done : (c : Joined-admits) → Done (cyclic_in c.args.question.now) (question_cost c.args.question.now) c.args.question.now.open c.args.budget c.loop-best.dirs c.if-admits.chosen c.loop-best.depth c.if-admits.count c.if-admits.best
done c =
    let j : Judges (cyclic_in c.args.question.now) (question_cost c.args.question.now) (choice_in c.loop-best.dirs c.loop-best.depth) c.cost_in-cost.result = path_judges _ _ _ _ _ _ _ _ _ _ _ c.requires.searchable.0 _ c.requires.searchable.1 c.loop-best.invariant.1 c.loop-best.invariant.0.deep c.cost_in-cost.ensures in
    elim c.if-admits.branch [
      | then-admits+else-count-budget+else-depth-question w ↦ trying_finished _ _ _ _ c.loop-best.invariant.0 j (sym c.admits.ensures ∙ w.if-admits.true) w.if-count-budget.false w.if-depth-question.false (w.chosen-is ∙ w.keep.ensures) w.count-is w.best-is
      | else-admits w ↦ trying_past _ _ _ _ c.loop-best.invariant.0 j (sym c.admits.ensures ∙ w.if-admits.false) w.chosen-is w.count-is w.best-is
    ]

counted : (c : Joined-admits) → c.loop-best.count ≤ c.if-admits.count
counted c = elim c.if-admits.branch [ then-admits+else-count-budget+else-depth-question w ↦ omega (arith, w.count-is) | else-admits w ↦ omega (arith, w.count-is) ]

pub loop-best-init : goal.loop-best-init
loop-best-init c = (trying_start _ _ _ _ _ _ (omega (arith, c.requires.searchable.0.tables.few_waits, c.requires.on_path.dirs_size)) (omega (arith, c.requires.searchable.0.tables.few_waits, c.requires.searchable.2)), c.requires.on_path)

pub cost_in-cost-requires : goal.cost_in-cost-requires
cost_in-cost-requires c = (c.requires.searchable.0.tables.few_drones, path_last _ _ _ _ _ _ _ _ _ _ _ c.requires.searchable.0 _ c.requires.searchable.1 c.loop-best.invariant.1 c.loop-best.invariant.0.deep, path_small _ _ _ _ _ _ _ _ _ _ _ c.requires.searchable.0 _ c.requires.searchable.1 c.loop-best.invariant.1 c.loop-best.invariant.0.deep)

pub returns-then-count-budget : goal.returns-then-count-budget
returns-then-count-budget c = trying_over _ _ _ _ c.loop-best.invariant.0 (judged (goal.at.returns-then-count-budget c).After-cost_in-cost) (sym c.admits.ensures ∙ c.if-admits.true) c.if-count-budget.true

pub decide-place-requires : goal.decide-place-requires
decide-place-requires c = record { searchable = (c.requires.searchable.0, c.requires.searchable.1, c.if-depth-question.true); on_path = path_in _ _ _ _ _ _ _ _ _ _ _ c.requires.searchable.0 _ c.requires.searchable.1 c.loop-best.invariant.1 c.loop-best.invariant.0.deep (admitted-acyclic _ c.cost_in-cost.ensures.0 (sym c.admits.ensures ∙ c.if-admits.true)) }

pub loop-best-smaller-then-depth-question : goal.loop-best-smaller-then-depth-question
loop-best-smaller-then-depth-question c = rw c.decide-place.ensures.1 (trying_less _ _ _ _ c.loop-best.invariant.0 (judged (goal.at.loop-best-smaller-then-depth-question c).After-cost_in-cost) (sym c.admits.ensures ∙ c.if-admits.true) c.if-count-budget.false c.if-depth-question.true)

pub loop-best-preserved-then-depth-question : goal.loop-best-preserved-then-depth-question
loop-best-preserved-then-depth-question c = (rw c.decide-place.ensures.1 (trying_deeper _ _ _ _ c.loop-best.invariant.0 (judged (goal.at.loop-best-preserved-then-depth-question c).After-cost_in-cost) (sym c.admits.ensures ∙ c.if-admits.true) c.if-count-budget.false c.if-depth-question.true), c.decide-place.ensures.0)

pub go_back-back-requires : goal.go_back-back-requires
go_back-back-requires c = record { searchable = (c.requires.searchable.0, c.requires.searchable.1, c.loop-best.invariant.0.deep, omega (arith, c.requires.searchable.0.tables.few_waits, c.loop-best.invariant.0.deep, back_le c.loop-best.dirs c.loop-best.depth, c.step_back-to.ensures, c.if-to-eq0.false)); on_path = c.loop-best.invariant.1 }

pub decide-place-requires-in-loop-best : goal.decide-place-requires-in-loop-best
decide-place-requires-in-loop-best c = record { searchable = (c.requires.searchable.0, c.requires.searchable.1, omega (arith, c.requires.searchable.0.tables.few_waits, c.loop-best.invariant.0.deep, back_le c.loop-best.dirs c.loop-best.depth, c.step_back-to.ensures, c.if-to-eq0.false)); on_path = c.go_back-back.ensures }

pub loop-best-smaller : goal.loop-best-smaller
loop-best-smaller c = let at = (goal.at.loop-best-smaller c).Joined-admits in rw c.decide-place-in-loop-best.ensures.1 (done_less _ _ _ _ (done at) c.step_back-to.ensures c.if-to-eq0.false _ (counted at))

pub loop-best-preserved : goal.loop-best-preserved
loop-best-preserved c =
    let e : c.step_back-to.result - 1 + 1 ≡ c.step_back-to.result = omega (arith, c.if-to-eq0.false) in
    (rw c.decide-place-in-loop-best.ensures.1 (done_turned _ _ _ _ (done (goal.at.loop-best-preserved c).Joined-admits) c.step_back-to.ensures c.if-to-eq0.false), rw e at c.decide-place-in-loop-best.ensures.0)

pub unwrap-requires : goal.unwrap-requires
unwrap-requires c = done_some _ _ _ _ (done (goal.at.unwrap-requires c).Joined-admits) c.step_back-to.ensures (search_grows _ _ _ _ _ _ _ _ _ _ _ c.requires.searchable.0) (search_left _ _ _ _ _ _ _ _ _ _ _ c.requires.searchable.0) c.if-to-eq0.true

pub returns : goal.returns
returns c = done_reply _ _ _ _ (done (goal.at.returns c).Joined-admits) c.step_back-to.ensures (search_grows _ _ _ _ _ _ _ _ _ _ _ c.requires.searchable.0) (search_left _ _ _ _ _ _ _ _ _ _ _ c.requires.searchable.0) c.if-to-eq0.true c.unwrap.ensures
