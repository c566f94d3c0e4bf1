-- What is asked of one dependency before it is turned (document 01, "Where each refusal is checked"). Assumes nothing.
use Rattle.std.specs.Prelude.{Bool, true, false, List, [], ◌∷◌, ℕ, leb, ⊤, Result, Ok, Err}
use Rattle.tables.specs.Tables.{Tables}
use Rattle.plan.specs.Field.{FieldPlan, Status, plan_of, of_withdrawn, fixed}
use Rattle.plan.specs.Status.{status_in, entered, dependency_now}
use Rattle.flat.specs.declared.replies.TurnRefusal.{TurnRefusal}
use Rattle.flat.specs.declared.replies.TurnRefusal.TheVariants.{NoDependency, Withdrawn, Fixed, FirstEntered}

-- the first that holds
abbrev pub first_of : (none aside fixed entered : Bool) → Result ⊤ TurnRefusal
first_of true o f e = Err NoDependency
first_of false true f e = Err Withdrawn
first_of false false true e = Err Fixed
first_of false false false true = Err FirstEntered
first_of false false false false = Ok tt

abbrev pub test_in : FieldPlan → Status → ℕ → Result ⊤ TurnRefusal
test_in F s w = first_of (leb F.count w) (of_withdrawn F s w) (fixed F w) (entered F s (dependency_now F s w).first (dependency_now F s w).first_stop)

-- "30 no such dependency", "35, a drone of the dependency is withdrawn, .. after 30", "31 fixed; 32 the first drone has visited or is under way to its stop", with the order now in force
unfoldable pub test_of : Tables → ℕ → Result ⊤ TurnRefusal
test_of t w = test_in (plan_of t.plan) (status_in t) w

-- a result that passes leaves the word to the next
abbrev pub or_else : Result ⊤ TurnRefusal → Result ⊤ TurnRefusal → Result ⊤ TurnRefusal
or_else (Err refusal) next = Err refusal
or_else (Ok passes) next = next

-- "then 30 to 34 as the list is walked": the tests of each dependency of the list, the first that does not pass
unfoldable pub walk_of : Tables → List ℕ → Result ⊤ TurnRefusal
walk_of t [] = Ok tt
walk_of t (w ∷ ws) = or_else (test_of t w) (walk_of t ws)
