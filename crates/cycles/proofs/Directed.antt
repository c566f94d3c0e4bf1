-- The waits of a right dependency table, some dependencies turned, are between stops and none is into a stop 0: what the test for a cycle asks. Assumes nothing.
use mathlib.Core.Path.{◌≡◌, refl, sym, ◌∙◌}
use mathlib.Core.Logic.{◌≢◌, inr}
use mathlib.Core.List.{List}
use mathlib.Core.Bool.{Bool, true, false, not}
use Prim.Native.Nat.{ℕ, suc, ◌+◌, ◌-◌, ◌≤◌, ◌<◌}
use native.Mathlib.Omega.{arith}
use lib.ListN.{length}
use Rattle.below.specs.Below.{at, pick, count_below}
use Rattle.below.proofs.Tests.{by_cases, true_or_false}
use Rattle.below.proofs.Count.{count_yes, count_no, count_none}
use Rattle.tables.specs.Limits.{Limits}
use Rattle.precedence.specs.Graph.{Fewer, Rising, cyclic}
use Rattle.precedence.proofs.Ahead.{cyclic_fewer}
use Rattle.precedence.proofs.Visits.{rising_acyclic, acyclic_iff}
use Rattle.cycles.specs.Flat.{flat_plan, Shape, PlacedWaits, FlatTables}
use Rattle.cycles.specs.Waits.{from_of, into_of, turned_in, kept_from, Edges, KeptEdges, AsideRoom, UnfixedTurns, graph_sound, Given}
use Rattle.cycles.proofs.Aside.{kept_placed, kept_fewer}
use Rattle.plan.specs.Waits.{withdrawn_in}
use Rattle.near.specs.Near.{meets_in}
use Rattle.near.proofs.NearLaws.{meets_symmetric}
use Rattle.plan.specs.Visits.{Visits, Symmetric, visits_with, visits_of}
use Rattle.plan.specs.Dependencies.{right}
use Rattle.meetings.specs.Meetings.{Steady}
use Rattle.meetings.proofs.Right.{Entry, right_entry}
use Rattle.cycles.proofs.Placed.{formed}

-- a running count of the turned ones
pub turned_more : (f : ℕ → Bool) (k c x : ℕ) (t : Bool) → c ≡ count_below k f → t ≡ f k → x ≡ pick t 1 0 → c + x ≡ count_below (k + 1) f
turned_more f k c x t e q p = by_cases (f k)
    (λ h. rw (count_yes k f h) (let z : x ≡ 1 = rw (q, h) at p in omega arith))
    (λ h. rw (count_no k f h) (let z : x ≡ 0 = rw (q, h) at p in omega arith))

module _ (meets : ℕ → ℕ → Bool) (symmetric : Symmetric meets) (own num off last loc time : ℕ → ℕ) (drones n m : ℕ) (xs ys : ℕ → ℕ) (turned : ℕ → Bool) where
  pub right_placed : Shape own off last drones n → Steady own loc time n → ((v : ℕ) → v < n → v ≡ off (own v) → time v ≡ 0) → right (visits_with meets own num loc time n) m xs ys ≡ true → UnfixedTurns own off n m xs ys turned
      → PlacedWaits own off last drones n (from_of xs ys turned) (into_of xs ys turned) m
  right_placed shape steady zero_time e unfixed = record {
    shape = shape;
    from_in = λ k l. by_cases (turned k) (λ t. rw t (unfixed k l t).1) (λ t. rw t (entry k l).next_in);
    into_in = λ k l. by_cases (turned k) (λ t. rw t (entry k l).first_in) (λ t. rw t (entry k l).second_in);
    into_later = λ k l. by_cases (turned k)
        (λ t. let ne : xs k ≢ off (own (xs k)) = (unfixed k l t).0 in rw t (omega (arith, shape.off_le (xs k) (entry k l).first_in)))
        (λ t. let ne : ys k ≢ off (own (ys k)) = λ q. omega (arith, (entry k l).later, zero_time (ys k) (entry k l).second_in q) in rw t (omega (arith, shape.off_le (ys k) (entry k l).second_in)));
  }
    where
      entry : (k : ℕ) → k < m → Entry meets symmetric own num loc time n steady m xs ys k
      entry k l = right_entry meets symmetric own num loc time n steady m xs ys e k l

-- two tables of the same waits
module _ (own off last : ℕ → ℕ) (drones n m : ℕ) (from into from' into' : ℕ → ℕ) (ef : (k : ℕ) → k < m → from k ≡ from' k) (ei : (k : ℕ) → k < m → into k ≡ into' k) where
  pub same_wait : (k : ℕ) → k < m → (flat_plan own off last drones from into m).wait k ≡ (flat_plan own off last drones from' into' m).wait k
  same_wait k l = rw (ef k l, ei k l) refl

  pub same_fewer : Fewer (flat_plan own off last drones from into m) (flat_plan own off last drones from' into' m)
  same_fewer = record { drones_same = refl; last_same = λ d. refl; waits_in = λ k l. inr (k, l, same_wait k l) }

  pub same_placed : PlacedWaits own off last drones n from' into' m → PlacedWaits own off last drones n from into m
  same_placed placed = record {
    shape = placed.shape;
    from_in = λ k l. rw (ef k l) (placed.from_in k l);
    into_in = λ k l. rw (ei k l) (placed.into_in k l);
    into_later = λ k l. rw (ei k l) (placed.into_later k l);
  }

  pub same-cyclic : PlacedWaits own off last drones n from' into' m → cyclic (flat_plan own off last drones from into m) ≡ cyclic (flat_plan own off last drones from' into' m)
  same-cyclic placed = by_cases (cyclic (flat_plan own off last drones from' into' m))
      (λ e. by_cases (cyclic (flat_plan own off last drones from into m)) (λ h. h ∙ sym e) (λ h. true_or_false e (cyclic_fewer _ _ (formed own off last drones n from into m (same_placed placed)) same_fewer h)))
      (λ e. cyclic_fewer _ _ (formed own off last drones n from' into' m placed) back e ∙ sym e)
    where
      back : Fewer (flat_plan own off last drones from' into' m) (flat_plan own off last drones from into m)
      back = record { drones_same = refl; last_same = λ d. refl; waits_in = λ k l. inr (k, l, sym (same_wait k l)) }

module _ (S : Visits) (off last : ℕ → ℕ) (drones m : ℕ) (xs ys : ℕ → ℕ) (turned x : ℕ → Bool) where
  pub graph-wrong : right S m xs ys ≡ false → false ≡ graph_sound S off last drones m xs ys turned x
  unfolding graph_sound
  graph-wrong e = rw e refl

  pub graph-right : (c : Bool) → right S m xs ys ≡ true → c ≡ cyclic (flat_plan S.own off last drones (kept_from S.own off x (from_of xs ys turned) (into_of xs ys turned)) (into_of xs ys turned) m) → not c ≡ graph_sound S off last drones m xs ys turned x
  unfolding graph_sound
  graph-right c e q = rw (e, q) refl

module _ {L : Limits} (pairs owners numbers locations times starts lasts firsts seconds flags : List ℕ) (drones n m : ℕ) (G : Given L owners locations times starts lasts firsts seconds flags drones n m) (e : right (visits_of (meets_in pairs) owners numbers locations times n) m (at firsts) (at seconds) ≡ true) where
  given_entry : (k : ℕ) → k < m → Entry (meets_in pairs) (meets_symmetric pairs) (at owners) (at numbers) (at locations) (at times) n G.stops.steady m (at firsts) (at seconds) k
  given_entry k l = right_entry (meets_in pairs) (meets_symmetric pairs) (at owners) (at numbers) (at locations) (at times) n G.stops.steady m (at firsts) (at seconds) e k l

  pub given_first : (k : ℕ) → k < m → at firsts k < L.stops
  given_first k l = omega (arith, (given_entry k l).first_in, G.stops.few)

  pub given_second : (k : ℕ) → k < m → at seconds k < L.stops
  given_second k l = omega (arith, (given_entry k l).second_in, G.stops.few)

  given_placed : PlacedWaits (at owners) (at starts) (at lasts) drones n (from_of (at firsts) (at seconds) (turned_in flags)) (into_of (at firsts) (at seconds) (turned_in flags)) m
  given_placed = right_placed (meets_in pairs) (meets_symmetric pairs) (at owners) (at numbers) (at starts) (at lasts) (at locations) (at times) drones n m (at firsts) (at seconds) (turned_in flags) G.shape G.stops.steady G.zero_time e G.unfixed

  -- nothing is turned: the planned times rise along every edge
  unturned_rising : ((k : ℕ) → k < m → turned_in flags k ≡ false) → Rising (flat_plan (at owners) (at starts) (at lasts) drones (from_of (at firsts) (at seconds) (turned_in flags)) (into_of (at firsts) (at seconds) (turned_in flags)) m) (λ d s. at times (at starts d + s))
  unturned_rising h = record { own_rises = along; wait_rises = across }
    where
      along : (d s : ℕ) → d < drones → s < at lasts d → at times (at starts d + s) < at times (at starts d + suc s)
      along d s l k =
          let a : at owners (at starts d + s) ≡ d = G.shape.place_own d s l (omega arith) in
          let b : at owners (at starts d + suc s) ≡ d = G.shape.place_own d (suc s) l (omega arith) in
          let q : at starts d + s + 1 ≡ at starts d + suc s = omega arith in
          rw q at (G.stops.steady (at starts d + s) (omega (arith, G.shape.place_in d (suc s) l (omega arith))) (rw q (b ∙ sym a)))

      back : (v : ℕ) → v < n → at starts (at owners v) + (v - at starts (at owners v)) ≡ v
      back v l = omega (arith, G.shape.off_le v l)

      across : (k : ℕ) → k < m → at times (at starts (at owners (from_of (at firsts) (at seconds) (turned_in flags) k)) + (from_of (at firsts) (at seconds) (turned_in flags) k - at starts (at owners (from_of (at firsts) (at seconds) (turned_in flags) k))))
          < at times (at starts (at owners (into_of (at firsts) (at seconds) (turned_in flags) k)) + (into_of (at firsts) (at seconds) (turned_in flags) k - at starts (at owners (into_of (at firsts) (at seconds) (turned_in flags) k))))
      across k l = rw (h k l) (rw (back (at firsts k + 1) (given_entry k l).next_in, back (at seconds k) (given_entry k l).second_in) (given_entry k l).leaves)

  pub given_unturned : (x : ℕ → Bool) (t : ℕ) → t ≡ count_below m (turned_in flags) → t ≡ 0 → true ≡ graph_sound (visits_of (meets_in pairs) owners numbers locations times n) (at starts) (at lasts) drones m (at firsts) (at seconds) (turned_in flags) x
  given_unturned x t q z = graph-right (visits_of (meets_in pairs) owners numbers locations times n) (at starts) (at lasts) drones m (at firsts) (at seconds) (turned_in flags) x false e
      (sym (cyclic_fewer _ _ (formed (at owners) (at starts) (at lasts) drones n _ _ m given_placed) (kept_fewer (at owners) (at starts) (at lasts) drones n m _ _ x given_placed)
      ((acyclic_iff _ (formed (at owners) (at starts) (at lasts) drones n _ _ m given_placed)).1 (rising_acyclic _ (unturned_rising (count_none m (turned_in flags) (sym q ∙ z)))))))

  -- the waits have drones, whose flag bytes are looked at
  pub given_aside : (drone_flags from into : List ℕ) → L.drones ≤ length drone_flags → Edges L firsts seconds flags m from into → AsideRoom L owners drone_flags from into m
  given_aside drone_flags from into h E = record {
    few_waits = G.few_waits;
    from_size = E.from_size;
    into_size = E.into_size;
    has_drone_flags = h;
    from_in = λ k l. omega (arith, base.from_in k l, G.stops.has_owners);
    into_in = λ k l. omega (arith, base.into_in k l, G.stops.has_owners);
    from_own = λ k l. omega (arith, base.shape.own_in (at from k) (base.from_in k l), G.few_drones);
    into_own = λ k l. omega (arith, base.shape.own_in (at into k) (base.into_in k l), G.few_drones);
  }
    where
      base : PlacedWaits (at owners) (at starts) (at lasts) drones n (at from) (at into) m
      base = same_placed (at owners) (at starts) (at lasts) drones n m (at from) (at into) _ _ E.from_is E.into_is given_placed

  module _ (drone_flags from into : List ℕ) (E : KeptEdges L owners starts drone_flags firsts seconds flags m from into) where
    kept : PlacedWaits (at owners) (at starts) (at lasts) drones n (kept_from (at owners) (at starts) (withdrawn_in drone_flags) (from_of (at firsts) (at seconds) (turned_in flags)) (into_of (at firsts) (at seconds) (turned_in flags))) (into_of (at firsts) (at seconds) (turned_in flags)) m
    kept = kept_placed (at owners) (at starts) (at lasts) drones n m _ _ (withdrawn_in drone_flags) given_placed

    pub given_tables : FlatTables L owners starts lasts drones n from into m
    given_tables = record {
      placed = same_placed (at owners) (at starts) (at lasts) drones n m (at from) (at into) _ _ E.from_is E.into_is kept;
      has_owners = G.stops.has_owners;
      few_stops = G.stops.few;
      few_waits = G.few_waits;
      few_drones = G.few_drones;
    }

    pub given-cyclic : cyclic (flat_plan (at owners) (at starts) (at lasts) drones (at from) (at into) m) ≡ cyclic (flat_plan (at owners) (at starts) (at lasts) drones (kept_from (at owners) (at starts) (withdrawn_in drone_flags) (from_of (at firsts) (at seconds) (turned_in flags)) (into_of (at firsts) (at seconds) (turned_in flags))) (into_of (at firsts) (at seconds) (turned_in flags)) m)
    given-cyclic = same-cyclic (at owners) (at starts) (at lasts) drones n m (at from) (at into) _ _ E.from_is E.into_is kept
