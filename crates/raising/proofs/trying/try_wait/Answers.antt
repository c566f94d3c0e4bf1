use mathlib.Core.Path.{◌≡◌, refl, ap, ◌∙◌}
use Rattle.std.specs.Prelude.{Ok}
use Rattle.raising.specs.Answers.{raised_end}
use Rattle.raising.specs.declared.worklist.Raised.{Raised}
use Rattle.raising.specs.declared.worklist.Raised.TheVariants as raised
use native.Mathlib.Omega.{arith}
use Rattle.raising.proofs.UpToDateLaws.{judged_raisable, found-cyclic, waits_before, tried_settled, tried_cyclic, tried_fresh}
use Rattle.raising.proofs.trying.try_wait.Goals as goal
use Rattle.raising.proofs.trying.try_wait.Goals.{in-Ok-Cycle, in-Err+in_default}

pub link_last-requires : goal.link_last-requires
link_last-requires c = (omega (arith, c.requires.judgeable.0.tables.few_waits), omega (arith, c.requires.judgeable.0.tables.few_stops, c.requires.judgeable.0.tables.placed.from_in c.args.waits.now.count (omega arith)), c.requires.up_to_date.linked)

pub settle-raised-requires : goal.settle-raised-requires
settle-raised-requires c = record { raisable = (judged_raisable _ _ _ _ _ _ _ _ _ _ c.requires.judgeable.0 _ c.requires.judgeable.1, omega arith, c.link_last.ensures); log_at = c.requires.up_to_date.log; round_table = waits_before c.requires.up_to_date }

pub returns-in-Ok-Settled : goal.returns-in-Ok-Settled
returns-in-Ok-Settled c = let q : c.settle-raised.result ≡ Ok (raised.Settled c.in-Ok-Settled.end) = c.in-Ok-Settled.is ∙ ap (λ (x : Raised). Ok x) (rw c.in-Ok-Settled.is at c.in-Ok-Settled.field-0-is) in tried_settled _ _ _ _ _ _ _ _ _ _ c.requires.judgeable.0 _ c.requires.judgeable.1 c.requires.up_to_date.log (rw q at c.settle-raised.ensures) refl refl c.link_last.ensures

pub returns-in-Some : goal.returns-in-Some
returns-in-Some c = let t = c.fill-filled.ensures.1 _ c.in-Some.is in tried_fresh _ _ _ _ _ _ _ _ _ _ c.requires.judgeable.0 _ c.requires.judgeable.1 c.requires.up_to_date.log c.settle-raised.ensures c.link_last.ensures t.1 t.2 t.0

pub withdraw_wait-requires : goal.withdraw_wait-requires
withdraw_wait-requires c =
    let logged = c.settle-raised.ensures.logs _ _ c.requires.up_to_date.log in
    let same : c.match-raised.end ≡ raised_end c.settle-raised.result = elim c.match-raised.branch [
      | in-Ok-Cycle w ↦ let q : c.settle-raised.result ≡ Ok (raised.Cycle w.in-Ok-Cycle.end) = w.in-Ok-Cycle.is ∙ ap (λ (x : Raised). Ok x) (rw w.in-Ok-Cycle.is at w.in-Ok-Cycle.field-0-is) in rw q w.end-is
      | in-Err+in_default w ↦ rw w.in-Err.is w.end-is
    ] in
    record { m_lt_dependencies = (omega (arith, c.requires.judgeable.0.tables.few_waits), omega (arith, c.requires.judgeable.0.tables.few_stops, c.requires.judgeable.0.tables.placed.from_in c.args.waits.now.count (omega arith)), c.link_last.ensures); top_le_log_room = rw same (logged.in_room, logged.in_table, logged.table_size) }

pub returns : goal.returns
returns c = elim c.match-raised.branch [
  | in-Ok-Cycle w ↦
      let q : c.settle-raised.result ≡ Ok (raised.Cycle w.in-Ok-Cycle.end) = w.in-Ok-Cycle.is ∙ ap (λ (x : Raised). Ok x) (rw w.in-Ok-Cycle.is at w.in-Ok-Cycle.field-0-is) in
      let found = rw q at c.settle-raised.ensures in
      tried_cyclic _ _ _ _ _ _ _ _ _ _ c.requires.judgeable.0 _ c.requires.judgeable.1 c.requires.up_to_date.log found c.requires.up_to_date.rounds (found-cyclic _ _ _ _ _ _ _ _ _ _ c.requires.judgeable.0 _ c.requires.judgeable.1 (found.finds refl refl)) c.withdraw_wait.ensures.0 (rw w.end-is at c.withdraw_wait.ensures.1)
  | in-Err+in_default w ↦ tried_cyclic _ _ _ _ _ _ _ _ _ _ c.requires.judgeable.0 _ c.requires.judgeable.1 c.requires.up_to_date.log w.in-Err.ensures c.requires.up_to_date.rounds (w.in_default.ensures.0) c.withdraw_wait.ensures.0 (rw w.end-is at c.withdraw_wait.ensures.1)
]
