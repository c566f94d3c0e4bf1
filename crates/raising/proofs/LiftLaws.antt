-- The laws of raising over flat tables: the start, an edge that was offered, a stop that is taken from the worklist, and the two ends. Assumes nothing.
use mathlib.Core.Path.{◌≡◌, refl, sym, ap, ◌∙◌, subst}
use mathlib.Core.Logic.{◌≢◌, ◌⊎◌, inl, inr}
use mathlib.Core.List.{List, []}
use Prim.Native.Nat.{ℕ, suc, ◌+◌, ◌-◌, ◌≤◌, ◌<◌}
use native.Mathlib.Omega.{arith}
use lib.Dec.{eqb}
use lib.ListN.{length, set}
use lib.Seq.{get_or-set_same, get_or-set_other}
use borrow.Author.Tests.{eqb-true, eqb-false, eq-eqb}
use Rattle.below.specs.Below.{at, pick, max_below}
use Rattle.below.proofs.Tests.{by_cases}
use Rattle.below.proofs.Greatest.{max-at, max_least}
use Rattle.precedence.specs.Graph.{Vertex, vertex_at, Edge, Walk, own as own_edge, dep, edge, Cycle}
use Rattle.precedence.proofs.Rounds.{join}
use Rattle.cycles.specs.Flat.{PlacedWaits}
use Rattle.cycles.specs.Walk.{Course, course_plan, RoundTable}
use Rattle.raising.specs.Lifting.{ToLookAt, none_left, first_waits, stop_vertex, FromStop, latest_into, Lifting}

-- nothing is marked
pub none-marked : (v : ℕ) → 0 < at [] v → ⊥
none-marked v z = absurd (omega arith)

module _ (C : Course) where
  open C use {own, off, last, drones, stops, from, into, waits}

  -- ---- the greatest entry among what a stop awaits

  one_entry : (ℕ → ℕ) → ℕ → ℕ → ℕ
  one_entry t v k = pick (eqb (into k) v) (t (from k)) 0

  pub latest-own : (t : ℕ → ℕ) (v : ℕ) → t (v - 1) ≤ latest_into C t v
  unfolding latest_into
  latest-own t v = omega arith

  pub latest_wait : (t : ℕ → ℕ) (k : ℕ) → k < waits → t (from k) ≤ latest_into C t (into k)
  unfolding latest_into one_entry
  latest_wait t k l = omega (arith, rw (eq-eqb (into k) (into k) refl) at (max-at waits (one_entry t (into k)) k l))

  latest-least : (t : ℕ → ℕ) (v b : ℕ) → t (v - 1) ≤ b → ((k : ℕ) → k < waits → into k ≡ v → t (from k) ≤ b) → latest_into C t v ≤ b
  unfolding latest_into one_entry
  latest-least t v b h all = omega (
    arith,
    max_least waits (one_entry t v) b (λ k l. by_cases (eqb (into k) v) (λ e. rw e (all k l (eqb-true _ _ e))) (λ e. rw e (omega arith))),
  )

  latest_grows : (t r : ℕ → ℕ) (v : ℕ) → ((u : ℕ) → t u ≤ r u) → latest_into C t v ≤ latest_into C r v
  latest_grows t r v h = latest-least t v (latest_into C r v) (omega (arith, h (v - 1), latest-own r v)) (λ k l e. let q : r (from k) ≤ latest_into C r v = subst (λ (z : ℕ). r (from k) ≤ latest_into C r z) e (latest_wait r k l) in omega (arith, h (from k)))

  -- a table of some waits keeps them
  table_keeps : (leg start : ℕ → ℕ) (m : ℕ) (t : ℕ → ℕ) → RoundTable (first_waits C m) leg start t → (k : ℕ) → k < m → into k < stops → start (own (into k)) < into k → leg (into k) + t (from k) ≤ t (into k)
  unfolding one_entry
  table_keeps leg start m t T k l i h = omega (arith, T.at_unvisited (into k) i h, rw (eq-eqb (into k) (into k) refl) at (max-at m (one_entry t (into k)) k l))

  table_supports : (leg start : ℕ → ℕ) (m : ℕ) (t : ℕ → ℕ) → m ≤ waits → RoundTable (first_waits C m) leg start t → (v : ℕ) → v < stops → start (own v) < v → t v ≤ leg v + latest_into C t v
  unfolding latest_into one_entry
  table_supports leg start m t le T v l h = omega (arith, T.at_unvisited v l h, max_least m (one_entry t v) (max_below waits (one_entry t v)) (λ k i. max-at waits (one_entry t v) k (omega arith)))

  table_of : (leg start t : ℕ → ℕ) → ((v : ℕ) → v < stops → v ≤ start (own v) → t v ≡ 0) → ((v : ℕ) → v < stops → start (own v) < v → t v ≡ leg v + latest_into C t v) → RoundTable C leg start t
  unfolding latest_into
  table_of leg start t a b = record { at_visited = a; at_unvisited = b }

  module _ (placed : PlacedWaits own off last drones stops from into waits) (leg start : ℕ → ℕ) (stands : (d : ℕ) → d < drones → off d ≤ start d) where
    -- ---- edges of the graph

    pub own-edge : (u : ℕ) → u + 1 < stops → start (own (u + 1)) < u + 1 → Edge (course_plan C) (stop_vertex C u) (stop_vertex C (u + 1))
    own-edge u l h =
        let d : own (u + 1) < drones = placed.shape.own_in (u + 1) l in
        let low : off (own (u + 1)) ≤ u = omega (arith, stands (own (u + 1)) d) in
        let high : u + 1 ≤ off (own (u + 1)) + last (own (u + 1)) = placed.shape.number_in_lem (u + 1) l in
        let e : off (own (u + 1)) + (u - off (own (u + 1))) ≡ u = omega arith in
        let same : own u ≡ own (u + 1) = ap own (sym e) ∙ placed.shape.place_own (own (u + 1)) (u - off (own (u + 1))) d (omega arith) in
        let s : suc (u - off (own (u + 1))) ≡ u + 1 - off (own (u + 1)) = omega arith in
        let f : Edge (course_plan C) (vertex_at (own (u + 1)) (u - off (own (u + 1)))) (vertex_at (own (u + 1)) (suc (u - off (own (u + 1))))) = own_edge (own (u + 1)) (u - off (own (u + 1))) d (omega arith) in
        subst (λ (z : ℕ). Edge (course_plan C) (vertex_at z (u - off z)) (stop_vertex C (u + 1))) (sym same) (subst (λ (z : ℕ). Edge (course_plan C) (vertex_at (own (u + 1)) (u - off (own (u + 1)))) (vertex_at (own (u + 1)) z)) s f)

    pub from_edge : {b u v : ℕ} → FromStop C b u → Edge (course_plan C) (stop_vertex C u) (stop_vertex C v) → FromStop C b v
    from_edge {b} {u} {v} (inl q) e = inr (edge (subst (λ (z : ℕ). Edge (course_plan C) (stop_vertex C z) (stop_vertex C v)) q e))
    from_edge (inr w) e = inr (join (course_plan C) w (edge e))

    -- ---- the start: the new wait is the last one

    pub lift_begun : (m b top : ℕ) (t ls : List ℕ) → waits ≡ m + 1 → RoundTable (first_waits C m) leg start (at t) → Lifting C leg start [] b top top top none_left (λ k. k ≡ m) t ls
    lift_begun m b top t ls e T = record {
      from_base = omega arith;
      in_log = omega arith;
      at_visited = T.at_visited;
      supported = table_supports leg start m (at t) (omega arith) T;
      kept_own = λ v l h. let q : v + 1 - 1 ≡ v = omega arith in inr (inr (omega (arith, ap (at t) q, T.at_unvisited (v + 1) l h)));
      kept_wait = λ k l h. by_cases (eqb k m)
          (λ q. inl (eqb-true k m q))
          (λ q. let ne : k ≢ m = eqb-false k m q in inr (inr (table_keeps leg start m (at t) T k (omega (arith, ne)) (placed.into_in k l) h)));
      reached = λ j h k. absurd (omega arith);
    }

    -- ---- the ends

    pub lift_ended : {p : List ℕ} {b base h end : ℕ} {t ls : List ℕ} → Lifting C leg start p b base h end none_left none_left t ls → end ≤ h → ((v : ℕ) → 0 < at p v → ⊥) → RoundTable C leg start (at t)
    lift_ended {p} {b} {base} {h} {end} {t} {ls} S le none = table_of leg start (at t) S.at_visited
        (λ v l k. omega (arith, S.supported v l k, latest-least (at t) v (at t v - leg v) (before v l k) (λ w i e. subst (λ (z : ℕ). at t (from w) ≤ at t z - leg z) e (awaited w i (subst (λ (z : ℕ). start (own z) < z) (sym e) k))), rises v l k))
      where
        go : (u v : ℕ) → ⊥ ⊎ (ToLookAt p ls h end u ⊎ (leg v + at t u ≤ at t v)) → leg v + at t u ≤ at t v
        go u v (inl z) = absurd z
        go u v (inr (inl (inl z))) = absurd (none u z)
        go u v (inr (inl (inr (j, a, b, c)))) = absurd (omega arith)
        go u v (inr (inr k)) = k

        rises : (v : ℕ) → v < stops → start (own v) < v → leg v + at t (v - 1) ≤ at t v
        rises v l k =
            let e : v - 1 + 1 ≡ v = omega arith in
            subst (λ (z : ℕ). leg z + at t (v - 1) ≤ at t z) e (go (v - 1) (v - 1 + 1) (S.kept_own (v - 1) (omega arith) (subst (λ (z : ℕ). start (own z) < z) (sym e) k)))

        before : (v : ℕ) → v < stops → start (own v) < v → at t (v - 1) ≤ at t v - leg v
        before v l k = omega (arith, rises v l k)

        awaited : (w : ℕ) → w < waits → start (own (into w)) < into w → at t (from w) ≤ at t (into w) - leg (into w)
        awaited w i k = omega (arith, go (from w) (into w) (S.kept_wait w i k))

    -- the stop that the new wait awaits is reached from the one that it is into
    pub from_cycle : {b u : ℕ} (k : ℕ) → k < waits → from k ≡ u → into k ≡ b → FromStop C b u → Cycle (course_plan C)
    unfolding Cycle
    from_cycle {b} {u} k i e f reach = go reach (subst (λ (z : ℕ). Edge (course_plan C) (stop_vertex C z) (stop_vertex C b)) e (subst (λ (z : ℕ). Edge (course_plan C) (stop_vertex C (from k)) (stop_vertex C z)) f (dep k i)))
      where
        go : FromStop C b u → Edge (course_plan C) (stop_vertex C u) (stop_vertex C b) → (v : Vertex) × Walk (course_plan C) v v
        go (inl z) g = (stop_vertex C b, edge (subst (λ (z : ℕ). Edge (course_plan C) (stop_vertex C z) (stop_vertex C b)) z g))
        go (inr w) g = (stop_vertex C b, join (course_plan C) w (edge g))

    pub lift_cycle : {p : List ℕ} {b base h end : ℕ} {o q : ℕ → Type 0} {t ls : List ℕ} → Lifting C leg start p b base h end o q t ls → h < end → (k : ℕ) → k < waits → from k ≡ at ls h → into k ≡ b → Cycle (course_plan C)
    lift_cycle {h = h} S l k i e f = from_cycle k i e f (S.reached h S.from_base l).1

    -- ---- a stop is raised

    module _ {p : List ℕ} {b base h end : ℕ} {o q : ℕ → Type 0} {t ls : List ℕ} (S : Lifting C leg start p b base h end o q t ls) where
      module _ (u w : ℕ) (in-stops : w < stops) (in_table : w < length t) (in_log : end < length ls) (out : start (own w) < w) (low : at t w < leg w + at t u) (allows : at t u ≤ latest_into C (at t) w) (reach : FromStop C b w) where
        abbrev x : ℕ
        x = leg w + at t u

        abbrev t' : List ℕ
        t' = set t w x

        abbrev ls' : List ℕ
        ls' = set ls end w

        here : at t' w ≡ x
        here = get_or-set_same t w x 0 in_table

        other : (v : ℕ) → v ≢ w → at t' v ≡ at t v
        other v n = get_or-set_other t w v x 0 n

        rises : (v : ℕ) → at t v ≤ at t' v
        rises v = by_cases (eqb v w)
            (λ e. let z : v ≡ w = eqb-true v w e in rw z (omega (arith, here)))
            (λ e. omega (arith, other v (eqb-false v w e)))

        listed_last : ToLookAt p ls' h (end + 1) w
        listed_last = inr (end, S.in_log, omega arith, get_or-set_same ls end w 0 in_log)

        listed_still : {v : ℕ} → ToLookAt p ls h end v → ToLookAt p ls' h (end + 1) v
        listed_still (inl z) = inl z
        listed_still (inr (j, a, c, e)) = inr (j, a, omega arith, get_or-set_other ls end j w 0 (λ z. omega arith) ∙ e)

        still : (A : Type 0) (y z : ℕ) → A ⊎ (ToLookAt p ls h end y ⊎ (leg z + at t y ≤ at t z)) → A ⊎ (ToLookAt p ls' h (end + 1) y ⊎ (leg z + at t' y ≤ at t' z))
        still A y z (inl a) = inl a
        still A y z (inr (inl a)) = inr (inl (listed_still a))
        still A y z (inr (inr a)) = by_cases (eqb y w)
            (λ e. inr (inl (subst (ToLookAt p ls' h (end + 1)) (sym (eqb-true y w e)) listed_last)))
            (λ e. inr (inr (omega (arith, other y (eqb-false y w e), rises z))))

        pub lift_more : Lifting C leg start p b base h (end + 1) o q t' ls'
        lift_more = record {
          from_base = S.from_base;
          in_log = omega (arith, S.in_log);
          at_visited = λ v l k. by_cases (eqb v w)
              (λ e. absurd (let z : start (own v) < v = subst (λ (z : ℕ). start (own z) < z) (sym (eqb-true v w e)) out in omega arith))
              (λ e. other v (eqb-false v w e) ∙ S.at_visited v l k);
          supported = λ v l k. by_cases (eqb v w)
              (λ e. let z : v ≡ w = eqb-true v w e in rw z (omega (arith, here, allows, latest_grows (at t) (at t') w rises)))
              (λ e. omega (arith, other v (eqb-false v w e), S.supported v l k, latest_grows (at t) (at t') v rises));
          kept_own = λ v l k. still (o v) v (v + 1) (S.kept_own v l k);
          kept_wait = λ k l z. still (q k) (from k) (into k) (S.kept_wait k l z);
          reached = λ j a c. by_cases (eqb j end)
              (λ e. let z : j ≡ end = eqb-true j end e in subst (λ (i : ℕ). (at ls' i < stops) × FromStop C b (at ls' i)) (sym z) (subst (λ (y : ℕ). (y < stops) × FromStop C b y) (sym (get_or-set_same ls end w 0 in_log)) (in-stops, reach)))
              (λ e. let n : j ≢ end = eqb-false j end e in subst (λ (y : ℕ). (y < stops) × FromStop C b y) (sym (get_or-set_other ls end j w 0 n)) (S.reached j a (omega (arith, n))));
        }

        pub more-kept : ToLookAt p ls' h (end + 1) u ⊎ (leg w + at t' u ≤ at t' w)
        more-kept = by_cases (eqb u w)
            (λ e. inl (subst (ToLookAt p ls' h (end + 1)) (sym (eqb-true u w e)) listed_last))
            (λ e. inr (omega (arith, other u (eqb-false u w e), here)))

      -- ---- an edge that is dealt with, and a stop that is taken from the worklist

      abbrev Kept : ℕ → ℕ → Type 0
      Kept u v = start (own v) < v → ToLookAt p ls h end u ⊎ (leg v + at t u ≤ at t v)

      pub lift_narrow : (o' q' : ℕ → Type 0) → ((v : ℕ) → v + 1 < stops → o v → o' v ⊎ Kept v (v + 1)) → ((k : ℕ) → k < waits → q k → q' k ⊎ Kept (from k) (into k)) → Lifting C leg start p b base h end o' q' t ls
      lift_narrow o' q' f g = record {
        from_base = S.from_base;
        in_log = S.in_log;
        at_visited = S.at_visited;
        supported = S.supported;
        kept_own = λ v l k. go (o v) (o' v) v (v + 1) k (f v l) (S.kept_own v l k);
        kept_wait = λ k l z. go (q k) (q' k) (from k) (into k) z (g k l) (S.kept_wait k l z);
        reached = S.reached;
      }
        where
          then : (A' : Type 0) (y z : ℕ) → start (own z) < z → A' ⊎ Kept y z → A' ⊎ (ToLookAt p ls h end y ⊎ (leg z + at t y ≤ at t z))
          then A' y z k (inl a) = inl a
          then A' y z k (inr a) = inr (a k)

          go : (A A' : Type 0) (y z : ℕ) → start (own z) < z → (A → A' ⊎ Kept y z) → A ⊎ (ToLookAt p ls h end y ⊎ (leg z + at t y ≤ at t z)) → A' ⊎ (ToLookAt p ls h end y ⊎ (leg z + at t y ≤ at t z))
          go A A' y z k n (inl a) = then A' y z k (n a)
          go A A' y z k n (inr a) = inr a

    pub lift_taken : {p : List ℕ} {b base h end : ℕ} {t ls : List ℕ} → Lifting C leg start p b base h end none_left none_left t ls → h < end → (u : ℕ) → u ≡ at ls h → Lifting C leg start p b base (h + 1) end (λ v. v ≡ u) (λ k. from k ≡ u) t ls
    lift_taken {p} {b} {base} {h} {end} {t} {ls} S l u e = record {
      from_base = omega (arith, S.from_base);
      in_log = omega arith;
      at_visited = S.at_visited;
      supported = S.supported;
      kept_own = λ v i k. go v (v + 1) (S.kept_own v i k);
      kept_wait = λ k i z. go (from k) (into k) (S.kept_wait k i z);
      reached = S.reached;
    }
      where
        go : (y z : ℕ) → ⊥ ⊎ (ToLookAt p ls h end y ⊎ (leg z + at t y ≤ at t z)) → (y ≡ u) ⊎ (ToLookAt p ls (h + 1) end y ⊎ (leg z + at t y ≤ at t z))
        go y z (inl a) = absurd a
        go y z (inr (inl (inl a))) = inr (inl (inl a))
        go y z (inr (inl (inr (j, a, c, f)))) = by_cases (eqb j h)
            (λ g. let s : j ≡ h = eqb-true j h g in inl (sym f ∙ ap (at ls) s ∙ sym e))
            (λ g. let s : j ≢ h = eqb-false j h g in inr (inl (inr (j, omega (arith, s), c, f))))
        go y z (inr (inr a)) = inr (inr a)

    -- the log's part that is to be looked at is noted
    pub lift_noted : {p : List ℕ} {b base h end : ℕ} {t ls : List ℕ} → Lifting C leg start p b base h end none_left none_left t ls → (p' : List ℕ) → ((v : ℕ) → 0 < at p v → 0 < at p' v) → ((j : ℕ) → h ≤ j → j < end → 0 < at p' (at ls j)) → Lifting C leg start p' b base end end none_left none_left t ls
    lift_noted {p} {b} {base} {h} {end} {t} {ls} S p' still new = record {
      from_base = omega (arith, S.from_base, S.in_log);
      in_log = omega arith;
      at_visited = S.at_visited;
      supported = S.supported;
      kept_own = λ v i k. go v (v + 1) (S.kept_own v i k);
      kept_wait = λ k i z. go (from k) (into k) (S.kept_wait k i z);
      reached = S.reached;
    }
      where
        go : (y z : ℕ) → ⊥ ⊎ (ToLookAt p ls h end y ⊎ (leg z + at t y ≤ at t z)) → ⊥ ⊎ (ToLookAt p' ls end end y ⊎ (leg z + at t y ≤ at t z))
        go y z (inl a) = inl a
        go y z (inr (inl (inl a))) = inr (inl (inl (still y a)))
        go y z (inr (inl (inr (j, a, c, f)))) = inr (inl (inl (subst (λ (x : ℕ). 0 < at p' x) f (new j a c))))
        go y z (inr (inr a)) = inr (inr a)

    -- a stop is taken from those that are noted
    pub lift_chosen : {p : List ℕ} {b base h end : ℕ} {t ls : List ℕ} → Lifting C leg start p b base h end none_left none_left t ls → (p' : List ℕ) (u : ℕ) → ((v : ℕ) → 0 < at p v → (v ≡ u) ⊎ (0 < at p' v)) → Lifting C leg start p' b base h end (λ v. v ≡ u) (λ k. from k ≡ u) t ls
    lift_chosen {p} {b} {base} {h} {end} {t} {ls} S p' u but = record {
      from_base = S.from_base;
      in_log = S.in_log;
      at_visited = S.at_visited;
      supported = S.supported;
      kept_own = λ v i k. go v (v + 1) (S.kept_own v i k);
      kept_wait = λ k i z. go (from k) (into k) (S.kept_wait k i z);
      reached = S.reached;
    }
      where
        or : (y z : ℕ) → (y ≡ u) ⊎ (0 < at p' y) → (y ≡ u) ⊎ (ToLookAt p' ls h end y ⊎ (leg z + at t y ≤ at t z))
        or y z (inl a) = inl a
        or y z (inr a) = inr (inl (inl a))

        go : (y z : ℕ) → ⊥ ⊎ (ToLookAt p ls h end y ⊎ (leg z + at t y ≤ at t z)) → (y ≡ u) ⊎ (ToLookAt p' ls h end y ⊎ (leg z + at t y ≤ at t z))
        go y z (inl a) = absurd a
        go y z (inr (inl (inl a))) = or y z (but y a)
        go y z (inr (inl (inr a))) = inr (inl (inr a))
        go y z (inr (inr a)) = inr (inr a)
