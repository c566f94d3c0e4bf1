-- Waits of withdrawn drones left out: they are still between stops, there are fewer of them, and each is the graph's own wait, left out. Assumes nothing.
use mathlib.Core.Path.{◌≡◌, refl, sym, ap, ap₂, ◌∙◌}
use mathlib.Core.Logic.{inl, inr}
use mathlib.Core.List.{List}
use mathlib.Core.Bool.{Bool, true, false, ◌||◌}
use Prim.Native.Nat.{ℕ, ◌+◌, ◌-◌, ◌<◌}
use native.Mathlib.Omega.{arith}
use lib.ListN.{length}
use Rattle.below.specs.Below.{at, pick, count_below}
use Rattle.below.proofs.Tests.{by_cases}
use Rattle.below.proofs.Count.{count_none}
use Rattle.tables.specs.Limits.{Limits}
use Rattle.precedence.specs.Graph.{Wait, Fewer}
use Rattle.plan.specs.Field.{wait_unless}
use Rattle.plan.specs.Waits.{withdrawn_in}
use Rattle.cycles.specs.Flat.{flat_plan, PlacedWaits}
use Rattle.cycles.specs.Waits.{aside_of, kept_from, Edges, AsideRoom, LeftOut, KeptEdges}

module _ (own off last : ℕ → ℕ) (drones n m : ℕ) (from into : ℕ → ℕ) (x : ℕ → Bool) (placed : PlacedWaits own off last drones n from into m) where
  -- the stop 0 of the drone that is awaited
  first_of : (k : ℕ) → k < m → own (off (own (from k))) ≡ own (from k)
  first_of k l =
      let same : off (own (from k)) + 0 ≡ off (own (from k)) = omega arith in
      rw same at (placed.shape.place_own (own (from k)) 0 (placed.shape.own_in (from k) (placed.from_in k l)) (omega arith))

  pub kept_placed : PlacedWaits own off last drones n (kept_from own off x from into) into m
  kept_placed = record {
    shape = placed.shape;
    from_in = λ k l. go (aside_of own x from into k) k l;
    into_in = placed.into_in;
    into_later = placed.into_later;
  }
    where
      go : (b : Bool) (k : ℕ) → k < m → pick b (off (own (from k))) (from k) < n
      go true k l = omega (arith, placed.shape.off_le (from k) (placed.from_in k l), placed.from_in k l)
      go false k l = placed.from_in k l

  -- a wait that is left out is the graph's own
  pub kept_wait : (k : ℕ) → k < m → (flat_plan own off last drones (kept_from own off x from into) into m).wait k ≡ wait_unless (aside_of own x from into k) ((flat_plan own off last drones from into m).wait k)
  kept_wait k l = go (aside_of own x from into k)
    where
      wait_with : ℕ → ℕ → Wait
      wait_with a u = record { waiter = own (into k); stop = into k - off (own (into k)); awaited = a; until = u }

      gone : off (own (from k)) - off (own (off (own (from k)))) ≡ 0
      gone = rw (first_of k l) (omega arith)

      go : (b : Bool) → ◌≡◌ {A = Wait} (record { waiter = own (into k); stop = into k - off (own (into k)); awaited = own (pick b (off (own (from k))) (from k)); until = pick b (off (own (from k))) (from k) - off (own (pick b (off (own (from k))) (from k))) }) (wait_unless b ((flat_plan own off last drones from into m).wait k))
      go true = ap₂ wait_with (first_of k l) gone
      go false = refl

  pub kept_fewer : Fewer (flat_plan own off last drones from into m) (flat_plan own off last drones (kept_from own off x from into) into m)
  kept_fewer = record {
    drones_same = refl;
    last_same = λ d. refl;
    waits_in = λ k l. by_cases (aside_of own x from into k)
        (λ o. inl (ap (λ (w : Wait). w.until) (kept_wait k l) ∙ ap (λ (b : Bool). (wait_unless b ((flat_plan own off last drones from into m).wait k)).until) o))
        (λ o. inr (k, l, same k l o));
  }
    where
      same : (k : ℕ) → k < m → aside_of own x from into k ≡ false → (flat_plan own off last drones from into m).wait k ≡ (flat_plan own off last drones (kept_from own off x from into) into m).wait k
      same k l o = rw o refl

-- ---- the test of two drones

-- a and b: the drones of the stops v and w; e: one of them is withdrawn
module _ (owners starts drone_flags : List ℕ) (v w a b : ℕ) (is-a : a ≡ at owners v) (is_b : b ≡ at owners w) (e : Bool) (is-e : e ≡ (withdrawn_in drone_flags a || withdrawn_in drone_flags b)) where
  aside_is : e ≡ (withdrawn_in drone_flags (at owners v) || withdrawn_in drone_flags (at owners w))
  aside_is = is-e ∙ ap₂ (λ (x y : ℕ). withdrawn_in drone_flags x || withdrawn_in drone_flags y) is-a is_b

  pub from_first : e ≡ true → at starts a ≡ pick (withdrawn_in drone_flags (at owners v) || withdrawn_in drone_flags (at owners w)) (at starts (at owners v)) v
  from_first h = rw (sym aside_is ∙ h) (ap (at starts) is-a)

-- ---- the loop that leaves them out

pub left-none : {L : Limits} (owners starts drone_flags from into : List ℕ) → length from ≡ L.dependencies → LeftOut L owners starts drone_flags from into 0 from
left-none owners starts drone_flags from into a = record { size = a; are = λ j l. absurd (omega arith) }

-- where nobody is withdrawn, t drones being so, none is left out
pub left_all : {L : Limits} (owners starts drone_flags from into : List ℕ) (m t : ℕ) → AsideRoom L owners drone_flags from into m → t ≡ count_below L.drones (withdrawn_in drone_flags) → t ≡ 0 → LeftOut L owners starts drone_flags from into m from
left_all {L} owners starts drone_flags from into m t R q z = record {
  size = R.from_size;
  are = λ j l. rw (nobody (at owners (at from j)) (R.from_own j l), nobody (at owners (at into j)) (R.into_own j l)) refl;
}
  where
    nobody : (d : ℕ) → d < L.drones → withdrawn_in drone_flags d ≡ false
    nobody = count_none L.drones (withdrawn_in drone_flags) (sym q ∙ z)

-- the waits in force, then those of withdrawn drones left out
pub kept_edges : {L : Limits} (owners starts drone_flags firsts seconds flags : List ℕ) (m : ℕ) (from into from' : List ℕ) → Edges L firsts seconds flags m from into → LeftOut L owners starts drone_flags from into m from' → KeptEdges L owners starts drone_flags firsts seconds flags m from' into
kept_edges owners starts drone_flags firsts seconds flags m from into from' E F = record {
  from_size = F.size;
  into_size = E.into_size;
  from_is = λ j l. F.are j l ∙ ap₂ (λ (v w : ℕ). pick (withdrawn_in drone_flags (at owners v) || withdrawn_in drone_flags (at owners w)) (at starts (at owners v)) v) (E.from_is j l) (E.into_is j l);
  into_is = E.into_is;
}
