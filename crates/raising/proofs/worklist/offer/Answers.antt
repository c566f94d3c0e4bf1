use Rattle.raising.proofs.LogLaws.{read_visited, read_unvisited}
use mathlib.Core.Path.{refl}
use mathlib.Core.Logic.{inl, inr}
use native.Mathlib.Omega.{arith}
use Rattle.raising.proofs.worklist.offer.Goals as goal

pub returns-then-w-from : goal.returns-then-w-from
returns-then-w-from c = record { came = inl (refl, refl, refl, refl, refl, inl (read_visited c.args.owners.now c.args.cur.now _ _ _ c.from-d.ensures c.from.ensures c.if-w-from.true)) }

pub returns-then-arrives-there : goal.returns-then-arrives-there
returns-then-arrives-there c = record { came = inl (refl, refl, refl, refl, refl, inr (omega (arith, c.from-2.ensures, c.if-arrives-there.true))) }

pub returns-then-top-eq-LOG : goal.returns-then-top-eq-LOG
returns-then-top-eq-LOG c = record { came = inr (inl (refl, refl, refl, refl, refl)) }

pub returns : goal.returns
returns c = record { came = inr (inr (refl, omega (arith, c.requires.5.in_room, c.if-top-eq-LOG.false), refl, read_unvisited c.args.owners.now c.args.cur.now _ _ _ c.from-d.ensures c.from.ensures (omega (arith, c.if-w-from.false)), omega (arith, c.from-2.ensures, c.if-arrives-there.false), rw c.from-2.ensures refl, refl, refl)) }
