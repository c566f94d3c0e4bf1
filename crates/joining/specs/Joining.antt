-- "Two planners, one farm": two taken plans, neither of them started, made into one in a third set of tables (document 02, point 1; what points 7, 10 and 14 say of joining). Assumes nothing.
use Rattle.std.specs.Prelude.{Bool, cond, not, ◌&&◌, List, ◌++◌, ℕ, ◌*◌, max, eqb}
use Rattle.below.specs.Below.{all_below, at}
use Rattle.tables.specs.Limits.{Limits, most_pairs}
use Rattle.tables.specs.Tables.{PlanLists, Tables, drones, form_of, full_size}
use Rattle.text.specs.Written.{Route, routes_text}
use Rattle.plan.specs.Field.{FieldPlan, Status, plan_of}
use Rattle.plan.specs.Status.{status_in}
use Rattle.sound.specs.Sound.{sound}
use Rattle.reading.specs.Replies.{refused_by}
use Rattle.reading.specs.Reading.{ReadingAnswer, given, with_reply, read_plan}
use Rattle.accepted.specs.Claims.{own_site}
use Rattle.copying.specs.Reckoned.{routes_in}

-- the routes of the plan in tables
abbrev pub routes_of_plan : Limits → PlanLists → List Route
routes_of_plan L p = routes_in L (drones p) p.names p.stop_counts p.locations p.times p.legs

-- "joining one of each gives `plan=2`": the later of the two forms. The tables of a `plan=1` plan hold legs of one, 0 at stop 0, which are written out then
abbrev pub joined_form : PlanLists → PlanLists → ℕ
joined_form p q = max (form_of p) (form_of q)

-- the joined plan's own text: "The first plan's drones come first, and times are kept."
unfoldable pub joined_text : Limits → PlanLists → PlanLists → List ℕ
joined_text L p q = routes_text (joined_form p q) (routes_of_plan L p ++ routes_of_plan L q)

-- no drone "has visited stop 1 or is under way", no dependency "is turned", and nobody is withdrawn: "For joining, a plan with a withdrawn drone gets 16"
unfoldable pub unstarted : FieldPlan → Status → Bool
unstarted F s = all_below F.drones (λ d. eqb (s.place d) 0 && (not (s.under_way d) && not (s.withdrawn d))) && all_below F.count (λ w. not (s.turned w))

abbrev pub not_started : Tables → Bool
not_started t = unstarted (plan_of t.plan) (status_in t)

-- "Joining two plans whose site pairs differ gets 16": every entry of the tables of pairs is compared. Those of sound tables are zero past the pairs, so that no site text and one without pairs are the same
unfoldable pub same_pairs : (pairs others : List ℕ) → Bool
same_pairs pairs others = all_below (2 * most_pairs) (λ i. eqb (at pairs i) (at others i))

-- neither plan was started, and they have one site
abbrev pub can_join : Tables → Tables → Bool
can_join a b = not_started a && (not_started b && same_pairs a.plan.pairs b.plan.pairs)

-- the third tables before it are `t`: "Refused: 40, either plan's tables not sound, after 41; 16, a drone of either has visited stop 1 or is under way, or a dependency of either is turned,
-- after 40 and before 1; both change no table"; "The joined plan is taken exactly when its own text would be, and the third tables are then what reading that text gives", and refused texts
-- "leave the third tables as reading does"; "otherwise the joined plan keeps" the site pairs: the text is read with the first plan's own site text
unfoldable pub join_plans : Limits → Tables → Tables → Tables → ReadingAnswer
join_plans L a b t =
    cond (full_size L a && (full_size L b && full_size L t))
    (cond (sound L a && sound L b)
    (cond (can_join a b)
    (read_plan L (given (own_site a)) (joined_text L a.plan b.plan) t)
    (with_reply (refused_by 16) t))
    (with_reply (refused_by 40) t))
    (with_reply (refused_by 41) t)
