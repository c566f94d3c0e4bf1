use mathlib.Core.Path.{◌∙◌}
use Prim.Native.Nat.{ℕ}
use native.Mathlib.Omega.{arith}
use lib.ListN.{length-replicate}
use Rattle.tables.specs.Limits.{limits}
use Rattle.orders.proofs.Gathering.{marked-room, marked_open_lem, marked_searchable, marked_decided, marked_reply, gathered_from, gathered-into}
use Rattle.orders.proofs.arranging.search_marked.Goals as goal

pub gather-shut-requires : goal.gather-shut-requires
gather-shut-requires c = (c.requires.0.tables.few_waits, omega (arith, marked-room _ _ _ _ _ _ _ _ c.args.opens.now _ _ c.requires.1 c.requires.0), (length-replicate {A = ℕ} limits.dependencies 0), (length-replicate {A = ℕ} limits.dependencies 0))

pub gather-end-requires : goal.gather-end-requires
gather-end-requires c = (c.requires.0.tables.few_waits, omega (arith, c.gather-shut.ensures.next_is, marked-room _ _ _ _ _ _ _ _ c.args.opens.now _ _ c.requires.1 c.requires.0), gathered_from c.gather-shut.ensures ∙ (length-replicate {A = ℕ} limits.dependencies 0), gathered-into c.gather-shut.ensures ∙ (length-replicate {A = ℕ} limits.dependencies 0))

pub gather-requires : goal.gather-requires
gather-requires c = (c.requires.0.tables.few_waits, omega (arith, marked-room _ _ _ _ _ _ _ _ c.args.opens.now _ _ c.requires.1 c.requires.0), (length-replicate {A = ℕ} limits.dependencies 0), (length-replicate {A = ℕ} limits.dependencies 0))

pub search-requires : goal.search-requires
search-requires c = record { searchable = (marked_searchable _ _ _ _ _ _ _ _ c.args.opens.now _ _ c.requires.1 c.requires.0 (omega (arith, c.requires.0.tables.few_waits, (length-replicate {A = ℕ} limits.dependencies 0))) c.gather-shut.ensures c.gather-end.ensures, (λ dirs. marked_decided _ _ _ _ _ _ _ _ c.args.opens.now _ _ c.requires.1 c.requires.0 (omega (arith, c.requires.0.tables.few_waits, (length-replicate {A = ℕ} limits.dependencies 0))) c.gather-shut.ensures c.gather-end.ensures dirs c.gather.ensures)); f_len = (gathered_from c.gather.ensures ∙ (length-replicate {A = ℕ} limits.dependencies 0), gathered-into c.gather.ensures ∙ (length-replicate {A = ℕ} limits.dependencies 0), c.requires.2) }

pub returns : goal.returns
returns c = rw (← marked_open_lem _ _ _ _ _ _ _ _ c.args.opens.now _ _ c.requires.1 c.requires.0 (omega (arith, c.requires.0.tables.few_waits, (length-replicate {A = ℕ} limits.dependencies 0))) c.gather-shut.ensures c.gather-end.ensures) (c.search.ensures ∙ marked_reply _ _ _ _ _ _ _ _ c.args.opens.now _ _ c.requires.1 c.requires.0 (omega (arith, c.requires.0.tables.few_waits, (length-replicate {A = ℕ} limits.dependencies 0))) c.gather-shut.ensures c.gather-end.ensures _)
