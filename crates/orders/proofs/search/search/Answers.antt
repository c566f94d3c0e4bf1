use Prim.Native.Nat.{ℕ}
use mathlib.Core.Path.{◌∙◌}
use mathlib.Core.List.{[]}
use native.Mathlib.Omega.{arith}
use lib.ListN.{length-replicate}
use Rattle.below.specs.Below.{at}
use Rattle.below.proofs.Index.{zeros-at}
use Rattle.tables.specs.Limits.{limits}
use Rattle.raising.specs.Lifting.{log_room}
use Rattle.raising.proofs.UpToDateLaws.{fresh_log, table_there}
use Rattle.orders.proofs.PathLaws.{start_judgeable, start-acyclic, path_start}
use Rattle.orders.proofs.search.search.Goals as goal

pub at_visited-requires : goal.at_visited-requires
at_visited-requires c = (c.requires.searchable.0.tables.few_drones, c.requires.searchable.0.has_visited, (λ d l. omega (arith, c.requires.searchable.0.within d l, c.requires.searchable.0.tables.placed.shape.place_in d (at c.args.question.now.stops.lasts.now d) l (omega arith), c.requires.searchable.0.tables.few_stops)), length-replicate {A = ℕ} limits.drones 0)

pub link-requires : goal.link-requires
link-requires c = record { m_le_dependencies = ((start_judgeable _ _ _ _ _ _ _ _ _ _ _ c.requires.searchable.0 (c.requires.searchable.1 [])).tables.few_waits, (λ k l. omega (arith, (start_judgeable _ _ _ _ _ _ _ _ _ _ _ c.requires.searchable.0 (c.requires.searchable.1 [])).tables.placed.from_in k l, (start_judgeable _ _ _ _ _ _ _ _ _ _ _ c.requires.searchable.0 (c.requires.searchable.1 [])).tables.few_stops))); head_len = (length-replicate {A = ℕ} limits.stops 0, length-replicate {A = ℕ} limits.dependencies 0, zeros-at limits.stops) }

pub fill-filled-requires : goal.fill-filled-requires
fill-filled-requires c = ((start_judgeable _ _ _ _ _ _ _ _ _ _ _ c.requires.searchable.0 (c.requires.searchable.1 [])), c.at_visited.ensures.0, c.at_visited.ensures.1)

pub unwrap-table-requires : goal.unwrap-table-requires
unwrap-table-requires c = table_there _ (c.fill-filled.ensures.0 ∙ start-acyclic _ _ _ _ _ _ _ _ _ _ _ c.requires.searchable.0 (c.requires.searchable.1 []))

pub search_from-requires : goal.search_from-requires
search_from-requires c = record { searchable = (c.requires.searchable.0, (record { size = c.at_visited.ensures.0; are = c.at_visited.ensures.1 }), c.requires.f_len.2); on_path = path_start _ _ _ _ _ _ _ _ _ _ _ c.requires.searchable.0 _ (record { size = c.at_visited.ensures.0; are = c.at_visited.ensures.1 }) (c.requires.searchable.1 _) (length-replicate {A = ℕ} limits.dependencies 0) c.requires.f_len.0 c.requires.f_len.1 (length-replicate {A = ℕ} limits.dependencies 0) (record { linked = c.link.ensures; rounds = (c.fill-filled.ensures.1 _ c.unwrap-table.ensures).0; log = fresh_log limits (c.fill-filled.ensures.1 _ c.unwrap-table.ensures).1 (length-replicate {A = ℕ} log_room 0) (length-replicate {A = ℕ} log_room 0) (c.fill-filled.ensures.1 _ c.unwrap-table.ensures).2 }) }
