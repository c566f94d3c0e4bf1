use mathlib.Core.Path.{refl, sym, ◌∙◌}
use mathlib.Core.List.{[]}
use Rattle.below.specs.Below.{at}
use Rattle.below.proofs.Tests.{true_or_false}
use Rattle.plan.specs.Waits.{withdrawn_in}
use Rattle.cycles.proofs.Aside.{kept_edges}
use Rattle.cycles.proofs.Directed.{graph-wrong, graph-right, given_first, given_second, given_unturned, given_aside, given_tables, given-cyclic}
use Rattle.cycles.proofs.graph_sound.Goals as goal

pub returns-then-not-dependencies_right : goal.returns-then-not-dependencies_right
returns-then-not-dependencies_right c = (λ numbers. graph-wrong _ (at c.args.stops.now.starts.now) (at c.args.stops.now.lasts.now) _ _ _ _ _ (withdrawn_in c.args.drone_flags.now) (sym (c.dependencies_right.ensures numbers) ∙ c.if-not-dependencies_right.true), λ e. true_or_false e refl)

pub make_waits-requires-clause-m_in_bounds : goal.make_waits-requires-clause-m_in_bounds
make_waits-requires-clause-m_in_bounds c = let e = sym (c.dependencies_right.ensures []) ∙ c.if-not-dependencies_right.false in (c.requires.0.has_flags, c.requires.0.few_waits, given_first _ _ [] _ _ _ _ _ _ _ _ _ _ c.requires.0 e, given_second _ _ [] _ _ _ _ _ _ _ _ _ _ c.requires.0 e)

pub leave_out-requires : goal.leave_out-requires
leave_out-requires c = let e = sym (c.dependencies_right.ensures []) ∙ c.if-not-dependencies_right.false in given_aside _ _ [] _ _ _ _ _ _ _ _ _ _ c.requires.0 e _ _ _ c.requires.3 c.make_waits.ensures

pub returns-then-turned_total-eq0 : goal.returns-then-turned_total-eq0
returns-then-turned_total-eq0 c = (λ numbers. let e = sym (c.dependencies_right.ensures numbers) ∙ c.if-not-dependencies_right.false in given_unturned _ _ numbers _ _ _ _ _ _ _ _ _ _ c.requires.0 e (withdrawn_in c.args.drone_flags.now) _ c.turned_total.ensures c.if-turned_total-eq0.true, λ h. kept_edges _ _ _ _ _ _ _ _ _ _ c.make_waits.ensures c.leave_out.ensures)

pub has_cycle-requires : goal.has_cycle-requires
has_cycle-requires c = let e = sym (c.dependencies_right.ensures []) ∙ c.if-not-dependencies_right.false in given_tables _ _ [] _ _ _ _ _ _ _ _ _ _ c.requires.0 e c.args.drone_flags.now _ _ (kept_edges _ _ _ _ _ _ _ _ _ _ c.make_waits.ensures c.leave_out.ensures)

pub returns : goal.returns
returns c = (λ numbers. let e = sym (c.dependencies_right.ensures numbers) ∙ c.if-not-dependencies_right.false in graph-right _ (at c.args.stops.now.starts.now) (at c.args.stops.now.lasts.now) _ _ _ _ _ (withdrawn_in c.args.drone_flags.now) _ e (c.has_cycle.ensures ∙ given-cyclic _ _ numbers _ _ _ _ _ _ _ _ _ _ c.requires.0 e c.args.drone_flags.now _ _ (kept_edges _ _ _ _ _ _ _ _ _ _ c.make_waits.ensures c.leave_out.ensures)), λ h. kept_edges _ _ _ _ _ _ _ _ _ _ c.make_waits.ensures c.leave_out.ensures)
