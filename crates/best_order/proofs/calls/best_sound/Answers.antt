use mathlib.Core.Path.{◌≡◌}
use mathlib.Core.Logic.{inl, inr}
use mathlib.Core.List.{List}
use Prim.Native.Nat.{ℕ, ◌≤◌}
use native.Mathlib.Omega.{arith}
use lib.ListN.{length, replicate, length-replicate}
use Rattle.std.proofs.lemmas.Result.{err_from_is_err_and}
use Rattle.tables.specs.Limits.{limits}
use Rattle.tables.specs.Tables.{Tables, dependencies}
use Rattle.call_log.specs.Claims.{Usable}
use Rattle.flat.proofs.Facts.{facts}
use Rattle.flat.proofs.GraphLaws.{usable_counts, places_room}
use Rattle.best_order.proofs.Marks.{marked_few}
use Rattle.best_order.proofs.SearchTables.{tables_searchable, marks_small}
use Rattle.best_order.proofs.BestAnswers.{best_38_low, best_38_high, best_37, best_0}
use borrow.Author.Rules.{rules}
use Rattle.best_order.proofs.calls.best_sound.Goals as goal

-- a table of full size before anything is marked in it
abbrev zeros : List ℕ
zeros = replicate limits.dependencies 0

zeros_size : length zeros ≡ limits.dependencies
zeros_size = length-replicate {A = ℕ} limits.dependencies 0

fits : (t : Tables) → Usable limits t → dependencies t.plan ≤ length zeros
fits t u = omega (arith, (facts limits t u).dependencies_few, zeros_size)

pub returns-then-budget-lt1 : goal.returns-then-budget-lt1
returns-then-budget-lt1 c = elim c.then-budget-lt1.either [
  | inl low ↦ best_38_low limits _ _ _ c.requires.room c.requires.in_force.usable low
  | inr high ↦ best_38_high limits _ _ _ c.requires.room c.requires.in_force.usable high.1
]

pub bounds-plan-0 : goal.bounds-plan-0
bounds-plan-0 c = (facts limits _ c.requires.in_force.usable).sizes.drone_count_lem

pub bounds-plan-0-2 : goal.bounds-plan-0-2
bounds-plan-0-2 c = (facts limits _ c.requires.in_force.usable).sizes.dependency_count

pub stop_total-requires : goal.stop_total-requires
stop_total-requires c = rw c.from-drones.ensures (usable_counts limits _ c.requires.in_force.usable (omega arith))

pub mark_open-open-requires : goal.mark_open-open-requires
mark_open-open-requires c = rw c.from-m.ensures (c.requires.in_force.usable, (facts limits _ c.requires.in_force.usable).dependencies_few, zeros_size)

pub fill_places-requires : goal.fill_places-requires
fill_places-requires c = let room = places_room limits _ c.requires.in_force.usable in rw c.from-drones.ensures (room.0, room.1, room.2, search rules)

pub search_marked-requires : goal.search_marked-requires
search_marked-requires c =
    let total = rw c.from-drones.ensures at c.stop_total.ensures in
    let standing = rw c.from-drones.ensures at c.fill_places.ensures in
    let marked = rw c.from-m.ensures at c.mark_open-open.ensures in
    rw (c.from-drones.ensures, c.from-m.ensures) (tables_searchable limits _ c.requires.in_force.usable _ total _ _ _ _ _ c.requires.in_force.in_force _ standing (omega arith) {z = zeros} (fits _ c.requires.in_force.usable) marked, marks_small limits _ c.requires.in_force.usable _ total _ _ _ _ _ c.requires.in_force.in_force _ standing (omega arith) {z = zeros} (fits _ c.requires.in_force.usable) marked, zeros_size)

pub list_choice-length-requires : goal.list_choice-length-requires
list_choice-length-requires c =
    let marked = rw c.from-m.ensures at c.mark_open-open.ensures in
    let few = (facts limits _ c.requires.in_force.usable).dependencies_few in
    rw c.from-m.ensures (few, omega (arith, few, marked_few _ marked), c.requires.room)

pub returns-in_err-found : goal.returns-in_err-found
returns-in_err-found c =
    let total = rw c.from-drones.ensures at c.stop_total.ensures in
    let standing = rw c.from-drones.ensures at c.fill_places.ensures in
    let marked = rw c.from-m.ensures at c.mark_open-open.ensures in
    let replied = rw (c.from-drones.ensures, c.from-m.ensures) at c.search_marked.ensures in
    let p = err_from_is_err_and c.from_residual.result c.from_residual.ensures.1 in
    rw (p.1, p.2) (best_37 limits _ _ _ c.requires.room c.requires.in_force.usable (omega arith) (omega arith) _ total _ _ _ _ _ c.requires.in_force.in_force _ standing (omega arith) {z = zeros} (fits _ c.requires.in_force.usable) marked _ c.search_marked.result replied _ c.in_err-found.was)

pub returns : goal.returns
returns c =
    let total = rw c.from-drones.ensures at c.stop_total.ensures in
    let standing = rw c.from-drones.ensures at c.fill_places.ensures in
    let marked = rw c.from-m.ensures at c.mark_open-open.ensures in
    let replied = rw (c.from-drones.ensures, c.from-m.ensures) at c.search_marked.ensures in
    let listed = rw c.from-m.ensures at c.list_choice-length.ensures in
    best_0 limits _ _ _ c.requires.room c.requires.in_force.usable (omega arith) (omega arith) _ total _ _ _ _ _ c.requires.in_force.in_force _ standing (omega arith) {z = zeros} (fits _ c.requires.in_force.usable) marked _ c.search_marked.result replied _ c.in_ok-found.was _ _ listed.0 listed.1
