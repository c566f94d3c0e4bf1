-- The waits of a list of dependencies exchanged one after the other, and the list's flags flipped: each time the waits are those of the flags. Assumes nothing.
use mathlib.Core.Path.{◌≡◌, refl, sym, ap, ◌∙◌, subst}
use mathlib.Core.Bool.{Bool, true}
use mathlib.Core.List.{List}
use Prim.Native.Nat.{ℕ, zero, suc, ◌+◌, ◌-◌, ◌≤◌, ◌<◌}
use native.Mathlib.Omega.{arith}
use lib.Dec.{eqb}
use lib.ListN.{length, set, length-set}
use borrow.Author.Tests.{leb-false, eqb-true}
use Rattle.below.specs.Below.{at}
use Rattle.below.proofs.Tests.{by_cases}
use Rattle.tables.specs.Limits.{Limits}
use Rattle.tables.specs.Tables.{PlanLists, Tables, drones, dependencies}
use Rattle.tables.specs.Flags.{flip_bit}
use Rattle.precedence.specs.Graph.{cyclic}
use Rattle.plan.specs.Stops.{start}
use Rattle.plan.specs.Claims.{Unfixed}
use Rattle.plan.specs.Field.{Status, after_turn, plan_of, graph, fixed}
use Rattle.plan.specs.Status.{status_in}
use Rattle.cycles.specs.Flat.{flat_plan, FlatTables}
use Rattle.sound.specs.Asked.{GraphTables, WaitsInForce}
use Rattle.call_log.specs.CallLog.{is_group}
use Rattle.call_log.specs.Calls.{flip_flags, flipped, flipped_all}
use Rattle.call_log.specs.Claims.{Usable}
use Rattle.call_log.proofs.FlipLaws.{flips_to, flips_end, flips_to_length}
use Rattle.call_log.proofs.Steps.{PassedTo}
use Rattle.call_log.proofs.TurnSteps.{status_after}
use Rattle.flat.specs.Exchanging.{WaitLists, waits_from, exchange_at, exchanges_to, CanExchange}
use Rattle.flat.specs.InForce.{group_cyclic}
use Rattle.flat.specs.Lent.{with_flags}
use Rattle.flat.proofs.Facts.{Facts, facts}
use Rattle.flat.proofs.GraphLaws.{from_some, exchanged, flip_other, flipped_status, unfixed_now, order_tables, order_cyclic}

-- ---- the loops

pub exchange_none : (ws : List ℕ) (p : WaitLists) → p ≡ exchanges_to 0 ws p
unfolding exchanges_to
exchange_none ws p = refl

pub exchange_more : (ws : List ℕ) (p : WaitLists) (i k : ℕ) (from into from' into' : List ℕ) → k ≡ suc i → waits_from from into ≡ exchanges_to i ws p → from' ≡ set from (at ws i) (at into (at ws i) + 1) → into' ≡ set into (at ws i) (at from (at ws i) - 1) → waits_from from' into' ≡ exchanges_to k ws p
unfolding exchanges_to
exchange_more ws p i k from into from' into' q e f g = rw (q, f, g) (ap (λ (z : WaitLists). exchange_at z (at ws i)) e)

pub exchange_end : (ws : List ℕ) (p q : WaitLists) (i : ℕ) → i ≤ length ws → length ws ≤ i → q ≡ exchanges_to i ws p → q ≡ exchanges_to (length ws) ws p
exchange_end ws p q i l h e = let s : i ≡ length ws = omega arith in e ∙ ap (λ (z : ℕ). exchanges_to z ws p) s

pub exchange_can : {L : Limits} (p q : WaitLists) (k : ℕ) → p ≡ q → CanExchange L q k → CanExchange L p k
exchange_can {L} p q k e h = subst (λ (z : WaitLists). CanExchange L z k) (sym e) h

exchanges_lengths : (n : ℕ) (ws : List ℕ) (p : WaitLists) → (length (exchanges_to n ws p).from ≡ length p.from) × (length (exchanges_to n ws p).into ≡ length p.into)
unfolding exchanges_to
exchanges_lengths zero ws p = (refl, refl)
exchanges_lengths (suc n) ws p =
    let (f, g) = exchanges_lengths n ws p in
    (length-set (exchanges_to n ws p).from (at ws n) (at (exchanges_to n ws p).into (at ws n) + 1) ∙ f, length-set (exchanges_to n ws p).into (at ws n) (at (exchanges_to n ws p).from (at ws n) - 1) ∙ g)

pub exchange_lengths : (ws : List ℕ) (p q : WaitLists) (i n : ℕ) → length p.from ≡ n → length p.into ≡ n → q ≡ exchanges_to i ws p → (length q.from ≡ n) × (length q.into ≡ n)
exchange_lengths ws p q i n x y e = (ap (λ (z : WaitLists). length z.from) e ∙ (exchanges_lengths i ws p).0 ∙ x, ap (λ (z : WaitLists). length z.into) e ∙ (exchanges_lengths i ws p).1 ∙ y)

pub flip-none : (ws flags : List ℕ) → flags ≡ flips_to 0 ws flags
unfolding flips_to
flip-none ws flags = refl

-- v: the byte that is stored
pub flip-more : (ws flags now : List ℕ) (i k v : ℕ) → k ≡ suc i → now ≡ flips_to i ws flags → v ≡ flip_bit (at now (at ws i)) → set now (at ws i) v ≡ flips_to k ws flags
unfolding flips_to
flip-more ws flags now i k v q e f = rw (q, f) (ap (λ (z : List ℕ). set z (at ws i) (flip_bit (at z (at ws i)))) e)

pub flip-length : (ws flags now : List ℕ) (i : ℕ) → now ≡ flips_to i ws flags → length now ≡ length flags
flip-length ws flags now i e = ap length e ∙ flips_to_length i ws flags

pub flip_end : (ws flags now : List ℕ) (i : ℕ) → i ≤ length ws → length ws ≤ i → now ≡ flips_to i ws flags → now ≡ flip_flags flags ws
flip_end ws flags now i l h e = let s : i ≡ length ws = omega arith in e ∙ ap (λ (z : ℕ). flips_to z ws flags) s ∙ flips_end ws flags

-- ---- usable tables, and a list whose dependencies pass 30 to 32

module _ (L : Limits) (t : Tables) (u : Usable L t) (ws : List ℕ) (passed : PassedTo (plan_of t.plan) (status_in t) ws (length ws)) where
  abbrev p : PlanLists
  p = t.plan

  facts_now : Facts L t
  facts_now = facts L t u

  -- the tables with the first i flipped
  abbrev flipped_to : ℕ → Tables
  flipped_to i = with_flags t (flips_to i ws t.flags)

  exists : (i : ℕ) → i < length ws → at ws i < dependencies p
  exists i l = leb-false (dependencies p) (at ws i) (passed i l).0

  pub flag_in : (i : ℕ) → i < length ws → at ws i < length t.flags
  flag_in i l = omega (arith, exists i l, facts_now.dependencies_few, facts_now.sizes.flags)

  flipped-next : (i : ℕ) → i < length ws → status_in (flipped (flipped_to i) (at ws i)) ≡ after_turn (status_in (flipped_to i)) (at ws i)
  flipped-next i l = flipped_status (flipped_to i) (at ws i) (omega (arith, flag_in i l, flips_to_length i ws t.flags))

  unfixed_to : (i : ℕ) → i ≤ length ws → Unfixed (plan_of p) (status_in (flipped_to i))
  unfolding flips_to
  unfixed_to zero l k h e = unfixed_now L t u k h e
  unfixed_to (suc i) l k h e = by_cases (eqb k (at ws i))
      (λ q. ap (fixed (plan_of p)) (eqb-true k (at ws i) q) ∙ (passed i (omega arith)).2)
      (λ q. unfixed_to i (omega arith) k h (sym (flip_other (status_in (flipped_to i)).turned (at ws i) k q) ∙ sym (ap (λ (z : Status). z.turned k) (flipped-next i (omega arith))) ∙ e))

  module _ (owners starts lasts from into : List ℕ) (T : WaitsInForce L t owners starts lasts from into) where
    abbrev after : ℕ → WaitLists
    after i = exchanges_to i ws (waits_from from into)

    -- the waits with the first i exchanged are those with the first i flipped
    held_to : (i : ℕ) → i ≤ length ws → GraphTables L p.stop_counts (graph (plan_of p) (status_in (flipped_to i))) owners starts lasts (after i).from (after i).into
    unfolding flips_to exchanges_to
    held_to zero l = T
    held_to (suc i) l =
        subst (λ (z : Status). GraphTables L p.stop_counts (graph (plan_of p) z) owners starts lasts (after (suc i)).from (after (suc i)).into)
        (sym (flipped-next i (omega arith)))
        (exchanged p.stop_counts (plan_of p) (status_in (flipped_to i)) owners starts lasts (after i).from (after i).into (held_to i (omega arith)) (at ws i) (exists i (omega arith)) (passed i (omega arith)).1 facts_now.dependencies_few (after (suc i)).from (after (suc i)).into refl refl)

    flat_to : (i : ℕ) → i ≤ length ws → FlatTables L owners starts lasts (drones p) (start p.stop_counts (drones p)) (after i).from (after i).into (dependencies p)
    flat_to i l = order_tables L t u (status_in (flipped_to i)) (unfixed_to i l) _ refl owners starts lasts (after i).from (after i).into (held_to i l)

    pub can_exchange : (i : ℕ) → i < length ws → CanExchange L (after i) (at ws i)
    can_exchange i l = record {
      index_in = omega (arith, exists i l, facts_now.dependencies_few);
      from_some = from_some p.stop_counts (plan_of p) (status_in (flipped_to i)) owners starts lasts (after i).from (after i).into (held_to i (omega arith)) (at ws i) (exists i l) (passed i l).1 facts_now.dependencies_few;
      into_in = omega (arith, (flat_to i (omega arith)).placed.into_in (at ws i) (exists i l), (flat_to i (omega arith)).few_stops);
    }

    -- all are exchanged; n stops in all
    module _ (from' into' : List ℕ) (e : waits_from from' into' ≡ after (length ws)) where
      held : GraphTables L p.stop_counts (graph (plan_of p) (status_in (flipped_to (length ws)))) owners starts lasts from' into'
      held = subst (λ (z : WaitLists). GraphTables L p.stop_counts (graph (plan_of p) (status_in (flipped_to (length ws)))) owners starts lasts z.from z.into) (sym e) (held_to (length ws) (omega arith))

      shown : status_in (flipped_to (length ws)) ≡ status_in (flipped_all t ws)
      shown = ap (λ (z : List ℕ). status_in (with_flags t z)) (flips_end ws t.flags)

      -- the exchanged waits are those of the tables after the turn
      pub group_in_force : WaitsInForce L (flipped_all t ws) owners starts lasts from' into'
      group_in_force = subst (λ (z : Status). GraphTables L p.stop_counts (graph (plan_of p) z) owners starts lasts from' into') shown held

      module _ (n : ℕ) (total : n ≡ start p.stop_counts (drones p)) where
        pub group_tables : FlatTables L owners starts lasts (drones p) n from' into' (dependencies p)
        group_tables = order_tables L t u (status_in (flipped_to (length ws))) (unfixed_to (length ws) (omega arith)) n total owners starts lasts from' into' held

        pub group_cyclic_lem : is_group ws ≡ true → (r : Bool) → r ≡ cyclic (flat_plan (at owners) (at starts) (at lasts) (drones p) (at from') (at into') (dependencies p)) → r ≡ group_cyclic t ws
        group_cyclic_lem g r h =
            h
            ∙ order_cyclic L t u (status_in (flipped_to (length ws))) (unfixed_to (length ws) (omega arith)) n total owners starts lasts from' into' held
            ∙ ap (λ (z : Status). cyclic (graph (plan_of p) z)) (shown ∙ status_after L t u.0 u.1 ws g passed)
