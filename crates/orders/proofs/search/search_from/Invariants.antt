use Rattle.tables.specs.Limits.{limits}
use Rattle.choices.proofs.SearchLoop.{Trying, turns_left}
use Rattle.orders.specs.Questions.{cyclic_in, question_cost, OnPathIn}
use Rattle.orders.proofs.search.search_from.Given as goal

abbrev pub invariant-loop-best : goal.invariant-loop-best
invariant-loop-best l = Trying (cyclic_in l.question) (question_cost l.question) l.question.open l.budget l.dirs l.chosen l.depth l.count l.best
    × OnPathIn limits l.question l.cur l.dirs l.depth l.place.held l.place.base l.place.cyclic l.f l.i l.head l.next l.marks l.place.top l.table l.log_stops l.log_olds

abbrev pub decreases-loop-best : goal.decreases-loop-best
decreases-loop-best l = turns_left l.budget l.count l.dirs l.depth
