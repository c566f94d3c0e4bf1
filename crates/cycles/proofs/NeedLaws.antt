-- The counts of unmet waits and the first stack, as loops make them, and that the walk's tables have an entry for each wait's stops. Assumes nothing.
use mathlib.Core.Path.{◌≡◌, refl, sym, ap, ◌∙◌}
use mathlib.Core.Logic.{◌≢◌}
use mathlib.Core.List.{List}
use mathlib.Core.Bool.{Bool, true, false, not, ◌&&◌}
use Prim.Native.Nat.{ℕ, ◌+◌, ◌≤◌, ◌<◌}
use native.Mathlib.Omega.{arith}
use lib.Dec.{ltb, eqb}
use lib.ListN.{length, set, length-set}
use lib.Seq.{get_or-set_same, get_or-set_other}
use borrow.Author.Tests.{le-leb, lt-leb, eqb-true, eqb-false, eq-eqb, ne_eqb, lt-ltb, le-ltb, ltb-true, ltb-false}
use Rattle.below.specs.Below.{at, pick}
use Rattle.below.proofs.Tests.{by_cases}
use Rattle.below.proofs.Count.{count_start, count_yes, count_no, count_le}
use Rattle.tables.specs.Limits.{Limits}
use Rattle.cycles.specs.Flat.{FlatTables}
use Rattle.cycles.specs.Walk.{met_at, unmet_into, can_move, Stacked, Ends}
use Rattle.cycles.proofs.StackLaws.{stacked-none, stacked_push}

pub flat_ends : {L : Limits} (owners starts lasts : List ℕ) (drones n : ℕ) (from into : List ℕ) (m : ℕ) → FlatTables L owners starts lasts drones n from into m → (k : ℕ) → k < m → Ends L owners (at from k) (at into k)
flat_ends owners starts lasts drones n from into m F k l =
    let a : at from k < n = F.placed.from_in k l in
    let b : at into k < n = F.placed.into_in k l in
    record {
      from_small = omega (arith, F.few_stops);
      from_owned = omega (arith, F.has_owners);
      awaited_small = omega (arith, F.placed.shape.own_in (at from k) a, F.few_drones);
      into_small = omega (arith, F.few_stops);
    }

-- ---- counts

module _ (L : Limits) (into : ℕ → ℕ) (met : ℕ → Bool) where
  -- the unmet ones of the first k waits are counted
  pub record Counted (k : ℕ) (need : List ℕ) : Type 0 where
    pub size : length need ≡ L.stops
    pub counts : (v : ℕ) → v < L.stops → at need v ≡ unmet_into into k met v

  pub counted_none : (need : List ℕ) → length need ≡ L.stops → ((v : ℕ) → at need v ≡ 0) → Counted 0 need
  unfolding unmet_into
  counted_none need e z = record { size = e; counts = λ v l. z v ∙ sym (count_start (λ k. eqb (into k) v && not (met k))) }

  unmet_le : (k v : ℕ) → unmet_into into k met v ≤ k
  unfolding unmet_into
  unmet_le k v = count_le k (λ k. eqb (into k) v && not (met k))

  pub counted_le : {k : ℕ} {need : List ℕ} → Counted k need → (v : ℕ) → v < L.stops → at need v ≤ k
  counted_le {k} N v l = omega (arith, N.counts v l, unmet_le k v)

  pub counted-more : (k : ℕ) (need : List ℕ) (v x y : ℕ) → Counted k need → v ≡ into k → v < L.stops → x ≡ pick (met k) 0 1 → y ≡ at need v + x → Counted (k + 1) (set need v y)
  unfolding unmet_into
  counted-more k need v x y N e l ex ey = record {
    size = length-set need v y ∙ N.size;
    counts = λ u h. by_cases (eqb u v)
        (λ s. let q : u ≡ v = eqb-true u v s in
        rw q (get_or-set_same need v y 0 (omega (arith, N.size)) ∙ ey ∙ by_cases (met k)
        (λ t. let z : x ≡ 0 = rw t at ex in omega (arith, N.counts v l, count_no k (λ j. eqb (into j) v && not (met j)) (rw (eq-eqb (into k) v (sym e), t) refl)))
        (λ t. let z : x ≡ 1 = rw t at ex in omega (arith, N.counts v l, count_yes k (λ j. eqb (into j) v && not (met j)) (rw (eq-eqb (into k) v (sym e), t) refl)))))
        (λ s. let ne : u ≢ v = eqb-false u v s in
        get_or-set_other need v u y 0 ne ∙ N.counts u h ∙ sym (count_no k (λ j. eqb (into j) u && not (met j)) (rw (ne_eqb (into k) u (λ q. ne (sym q ∙ sym e))) refl)));
  }

-- ---- the first stack

-- of the drones that can move, those below e
abbrev pub below : (ℕ → Bool) → ℕ → ℕ → Bool
below can e d = ltb d e && can d

module _ {L : Limits} (drones : ℕ) (few : drones ≤ L.drones) (can : ℕ → Bool) where
  pub below_none : (stack : List ℕ) → length stack ≡ L.drones → Stacked L drones (below can 0) stack 0
  below_none stack e = stacked-none drones stack e (below can 0) (λ d l. rw (le-ltb d 0 (omega arith)) refl)

  module _ (e : ℕ) (l : e < drones) {stack : List ℕ} {top : ℕ} (S : Stacked L drones (below can e) stack top) where
    same : (d : ℕ) → d ≢ e → below can e d ≡ below can (e + 1) d
    same d ne = by_cases (ltb d e)
        (λ t. let z : ltb d (e + 1) ≡ true = lt-ltb d (e + 1) (omega (arith, ltb-true d e t)) in rw (t, z) refl)
        (λ t. let z : ltb d (e + 1) ≡ false = le-ltb d (e + 1) (omega (arith, ltb-false d e t)) in rw (t, z) refl)

    now_off : below can e e ≡ false
    now_off = rw (le-ltb e e (omega arith)) refl

    here : below can (e + 1) e ≡ can e
    here = rw (lt-ltb e (e + 1) (omega arith)) refl

    pub below_push : can e ≡ true → Stacked L drones (below can (e + 1)) (set stack top e) (top + 1)
    below_push e1 = stacked_push drones S _ e few l now_off (here ∙ e1) (λ d k ne. same d ne)

-- ---- the tests with the values that the code has read

module _ (own from cur : ℕ → ℕ) (k v d x : ℕ) (ev : v ≡ from k) (ed : d ≡ own v) (ex : x ≡ cur d) where
  place_is : x ≡ cur (own (from k))
  place_is = ex ∙ ap cur (ed ∙ ap own ev)

  pub read_met : v ≤ x → 0 ≡ pick (met_at own from cur k) 0 1
  unfolding met_at
  read_met h = rw (le-leb (from k) (cur (own (from k))) (omega (arith, place_is))) refl

  pub read_unmet : x < v → 1 ≡ pick (met_at own from cur k) 0 1
  unfolding met_at
  read_unmet h = rw (lt-leb (from k) (cur (own (from k))) (omega (arith, place_is))) refl

module _ (off last cur need : ℕ → ℕ) (d v a b : ℕ) (ev : v ≡ cur d) (ea : a ≡ off d) (eb : b ≡ last d) where
  pub read_last : a + b ≤ v → false ≡ can_move off last cur need d
  unfolding can_move
  read_last h = rw (le-ltb (cur d) (off d + last d) (omega arith)) refl

  pub read_next : (x : ℕ) → v < a + b → x ≡ need (v + 1) → eqb x 0 ≡ can_move off last cur need d
  unfolding can_move
  read_next x h ex = rw (lt-ltb (cur d) (off d + last d) (omega arith), ex, ev) refl
