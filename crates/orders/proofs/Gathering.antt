-- Waits that are gathered, those that are not open first, are the same waits in another order: each position holds a wait of the table and each wait of the table has a position, with the
-- same direction in every choice. So the reply of the search is the same. Assumes nothing.
use mathlib.Core.Path.{◌≡◌, refl, sym, ap, ap₂, ◌∙◌, subst, fun_ext}
use mathlib.Core.Logic.{◌≢◌, inr}
use mathlib.Core.Bool.{Bool, true, false}
use mathlib.Core.List.{List, ◌++◌}
use Prim.Native.Nat.{ℕ, zero, suc, ◌+◌, ◌-◌, ◌≤◌, ◌<◌}
use native.Mathlib.Omega.{arith}
use lib.Dec.{leb}
use lib.Seq.{get_or-append-add}
use lib.ListN.{length, set, get_or, length-append, get_or-append}
use borrow.Author.Tests.{leb-true, leb-false, le-leb, lt-leb, eqb-true, eqb-false, eq-eqb, ne_eqb}
use Rattle.below.specs.Below.{at, count_below, laid, picks}
use Rattle.below.proofs.Count.{count_find, count_past, count_yes, count_no}
use Rattle.below.proofs.Picks.{length-picks, picks_at, laid-append, laid_none, get_d_laid, laid-length, pick_store, pick_skip}
use Rattle.below.proofs.Tests.{by_cases, true_or_false}
use Rattle.tables.specs.Limits.{Limits}
use Rattle.precedence.specs.Graph.{Wait, Plan, Formed, Fewer}
use Rattle.cycles.specs.Flat.{PlacedWaits}
use Rattle.cycles.proofs.Placed.{formed as placed-formed}
use Rattle.rounds.specs.Remaining.{flat_leg}
use Rattle.choices.specs.Budget.{reply_for}
use Rattle.choices.specs.Directions.{direction_of, choice_plan, choice_cyclic, choice_cost}
use Rattle.choices.proofs.Grows.{plan_formed}
use Rattle.choices.proofs.Same.{same-cyclic, same_cost}
use Rattle.orders.specs.Arranged.{wait_between, standing_plan, turned_round, open_from, Decided, Searchable, standing_reply, marked_open, marked_shut, GatheredWaits}
use Rattle.orders.proofs.Arranged.{count_open, standing_formed, both_formed}

module _ (opens : List ℕ) (m : ℕ) (marks : (w : ℕ) → w < m → at opens w ≤ 1) where
  abbrev shut : ℕ → Bool
  shut = marked_shut opens

  abbrev is_open_lem : ℕ → Bool
  is_open_lem = marked_open opens

  abbrev C : ℕ
  C = count_below m shut

  abbrev K : ℕ
  K = count_below m is_open_lem

  shut_not_open : (w : ℕ) → shut w ≡ true → is_open_lem w ≡ false
  shut_not_open w e = ne_eqb (at opens w) 1 (λ q. let z : at opens w ≡ 0 = eqb-true (at opens w) 0 e in omega arith)

  not_open_shut : (w : ℕ) → w < m → is_open_lem w ≡ false → shut w ≡ true
  not_open_shut w l e = let z : at opens w ≢ 1 = eqb-false (at opens w) 1 e in eq-eqb (at opens w) 0 (omega (arith, marks w l))

  both_counted : (n : ℕ) → n ≤ m → count_below n shut + count_below n is_open_lem ≡ n
  unfolding count_below
  both_counted zero h = refl
  both_counted (suc n) h = by_cases (is_open_lem n)
      (λ e. let s : shut n ≡ false = ne_eqb (at opens n) 0 (λ q. let z : at opens n ≡ 1 = eqb-true (at opens n) 1 e in omega arith) in rw (e, s) (omega (arith, both_counted n (omega arith))))
      (λ e. rw (e, not_open_shut n (omega arith) e) (omega (arith, both_counted n (omega arith))))

  pub marks_counted : C + K ≡ m
  marks_counted = both_counted m (omega arith)

  -- ---- one column gathered

  module _ (F : ℕ → ℕ) (z : List ℕ) (room : m ≤ length z) where
    abbrev xs : List ℕ
    xs = picks m shut F

    abbrev ys : List ℕ
    ys = picks m is_open_lem F

    size_xs : length xs ≡ C
    size_xs = length-picks shut F m

    size_ys : length ys ≡ K
    size_ys = length-picks is_open_lem F m

    -- those that are not open, alone
    pub alone_at : {a : List ℕ} → a ≡ laid z 0 xs → (w : ℕ) → w < m → shut w ≡ true → at a (count_below w shut) ≡ F w
    alone_at {a} e w l s = ap (λ (x : List ℕ). at x (count_below w shut)) e ∙ get_d_laid z xs (count_below w shut) (omega (arith, size_xs, count_past w m shut l s)) (omega (arith, size_xs, marks_counted)) ∙ picks_at shut F m w l s

    module _ {a : List ℕ} (e : a ≡ laid (laid z 0 xs) C ys) where
      whole : a ≡ laid z 0 (xs ++ ys)
      whole =
          let q : 0 + length xs ≡ C = omega (arith, size_xs) in
          e ∙ ap (λ (x : ℕ). laid (laid z 0 xs) x ys) (sym q) ∙ sym (laid-append xs ys z 0)

      at-whole : (j : ℕ) → j < C + K → at a j ≡ get_or (xs ++ ys) j 0
      at-whole j l = ap (λ (x : List ℕ). at x j) whole ∙ get_d_laid z (xs ++ ys) j (omega (arith, length-append xs ys, size_xs, size_ys)) (omega (arith, length-append xs ys, size_xs, size_ys, marks_counted))

      pub shut_at : (w : ℕ) → w < m → shut w ≡ true → at a (count_below w shut) ≡ F w
      shut_at w l s = at-whole (count_below w shut) (omega (arith, count_past w m shut l s)) ∙ get_or-append xs ys 0 (count_below w shut) (omega (arith, size_xs, count_past w m shut l s)) ∙ picks_at shut F m w l s

      pub open_at : (w : ℕ) → w < m → is_open_lem w ≡ true → at a (C + count_below w is_open_lem) ≡ F w
      open_at w l o =
          let q : C + count_below w is_open_lem ≡ length xs + count_below w is_open_lem = omega (arith, size_xs) in
          at-whole (C + count_below w is_open_lem) (omega (arith, count_past w m is_open_lem l o)) ∙ ap (λ (j : ℕ). get_or (xs ++ ys) j 0) q ∙ get_or-append-add xs ys (count_below w is_open_lem) 0 ∙ picks_at is_open_lem F m w l o

  -- ---- the waits

  module _ {L : Limits} (owners starts lasts : List ℕ) (drones n : ℕ) (from into legs visited : List ℕ) (S : Searchable L owners starts lasts drones n from into m is_open_lem legs visited) (z f i : List ℕ) (room : m ≤ length z) (ef : f ≡ laid (laid z 0 (picks m shut (at from))) C (picks m is_open_lem (at from))) (ei : i ≡ laid (laid z 0 (picks m shut (at into))) C (picks m is_open_lem (at into))) where
    -- position j holds wait w
    record Holds (j w : ℕ) : Type 0 where
      wait_in : w < m
      from_is : at f j ≡ at from w
      into_is : at i j ≡ at into w
      same_open : open_from C j ≡ is_open_lem w
      same_rank : is_open_lem w ≡ true → count_below j (open_from C) ≡ count_below w is_open_lem

    holds_shut : (w : ℕ) → w < m → shut w ≡ true → Holds (count_below w shut) w
    holds_shut w l s = record {
      wait_in = l;
      from_is = shut_at (at from) z room ef w l s;
      into_is = shut_at (at into) z room ei w l s;
      same_open = lt-leb C (count_below w shut) (count_past w m shut l s) ∙ sym (shut_not_open w s);
      same_rank = λ o. true_or_false o (shut_not_open w s);
    }

    holds_open : (w : ℕ) → w < m → is_open_lem w ≡ true → Holds (C + count_below w is_open_lem) w
    holds_open w l o = record {
      wait_in = l;
      from_is = open_at (at from) z room ef w l o;
      into_is = open_at (at into) z room ei w l o;
      same_open = le-leb C (C + count_below w is_open_lem) (omega arith) ∙ sym o;
      same_rank = λ q. count_open C (count_below w is_open_lem);
    }

    spot : (j : ℕ) → j < C + K → (w : ℕ) × Holds j w
    spot j l = by_cases (leb C j)
        (λ e. let b : C ≤ j = leb-true C j e in
        let (w, h, o, q) = count_find m is_open_lem (j - C) (omega arith) in
        let s : C + count_below w is_open_lem ≡ j = omega arith in
        (w, subst (λ (x : ℕ). Holds x w) s (holds_open w h o)))
        (λ e. let (w, h, o, q) = count_find m shut j (leb-false C j e) in (w, subst (λ (x : ℕ). Holds x w) q (holds_shut w h o)))

    place : (w : ℕ) → w < m → (j : ℕ) × (j < C + K) × Holds j w
    place w l = by_cases (is_open_lem w)
        (λ o. (C + count_below w is_open_lem, omega (arith, count_past w m is_open_lem l o), holds_open w l o))
        (λ o. let s : shut w ≡ true = not_open_shut w l o in (count_below w shut, omega (arith, count_past w m shut l s), holds_shut w l s))

    abbrev P : Plan
    P = standing_plan owners starts lasts drones from into m

    abbrev Q : Plan
    Q = standing_plan owners starts lasts drones f i (C + K)

    wait_is : (j w : ℕ) → Holds j w → Q.wait j ≡ P.wait w
    wait_is j w h = ap₂ (wait_between owners starts) h.from_is h.into_is

    turned_is : (j w : ℕ) → Holds j w → turned_round owners starts f i j ≡ turned_round owners starts from into w
    turned_is j w h = ap₂ (λ (a b : ℕ). wait_between owners starts (b + 1) (a - 1)) h.from_is h.into_is

    fewer : Fewer P Q
    fewer = record { drones_same = refl; last_same = λ d. refl; waits_in = λ j l. let (w, h) = spot j l in inr (w, h.wait_in, sym (wait_is j w h)) }

    no_fewer : Fewer Q P
    no_fewer = record { drones_same = refl; last_same = λ d. refl; waits_in = λ w l. let (j, k, h) = place w l in inr (j, k, wait_is j w h) }

    Q-placed : PlacedWaits (at owners) (at starts) (at lasts) drones n (at f) (at i) (C + K)
    Q-placed = record {
      shape = S.tables.placed.shape;
      from_in = λ j l. let (w, h) = spot j l in rw h.from_is (S.tables.placed.from_in w h.wait_in);
      into_in = λ j l. let (w, h) = spot j l in rw h.into_is (S.tables.placed.into_in w h.wait_in);
      into_later = λ j l. let (w, h) = spot j l in rw h.into_is (S.tables.placed.into_later w h.wait_in);
    }

    Q-formed : Formed Q
    Q-formed = placed-formed (at owners) (at starts) (at lasts) drones n (at f) (at i) (C + K) Q-placed

    P-formed : Formed P
    P-formed = standing_formed owners starts lasts drones n from into m is_open_lem legs visited S

    pub gathered_searchable : Searchable L owners starts lasts drones n f i (C + K) (open_from C) legs visited
    gathered_searchable = record {
      tables = record { placed = Q-placed; has_owners = S.tables.has_owners; few_stops = S.tables.few_stops; few_waits = omega (arith, marks_counted, S.tables.few_waits); few_drones = S.tables.few_drones };
      has_visited = S.has_visited;
      has_legs = S.has_legs;
      short_legs = S.short_legs;
      some_legs = S.some_legs;
      acyclic = same-cyclic Q P Q-formed P-formed no_fewer fewer ∙ S.acyclic;
      kept = λ j l. let (w, h) = spot j l in subst (λ (x : Wait). x.stop ≤ at visited x.waiter → x.until ≤ at visited x.awaited) (sym (wait_is j w h)) (S.kept w h.wait_in);
      within = S.within;
      turned_from = λ j l o. let (w, h) = spot j l in rw h.into_is (S.turned_from w h.wait_in (sym h.same_open ∙ o));
      unentered = λ j l o. let (w, h) = spot j l in rw h.from_is (S.unentered w h.wait_in (sym h.same_open ∙ o));
    }

    -- ---- a choice

    module _ (zs : List Bool) where
      abbrev here : Plan
      here = choice_plan Q (turned_round owners starts f i) (open_from C) zs

      abbrev there : Plan
      there = choice_plan P (turned_round owners starts from into) is_open_lem zs

      same_direction : (j w : ℕ) → Holds j w → direction_of (open_from C) zs j ≡ direction_of is_open_lem zs w
      unfolding direction_of
      same_direction j w h = by_cases (is_open_lem w)
          (λ o. rw (h.same_open ∙ o, o, h.same_rank o) refl)
          (λ o. rw (h.same_open ∙ o, o) refl)

      choice_wait : (j w : ℕ) → Holds j w → here.wait j ≡ there.wait w
      choice_wait j w h = rw (same_direction j w h, wait_is j w h, turned_is j w h) refl

      less : Fewer there here
      less = record { drones_same = refl; last_same = λ d. refl; waits_in = λ j l. let (w, h) = spot j l in inr (w, h.wait_in, sym (choice_wait j w h)) }

      no_less : Fewer here there
      no_less = record { drones_same = refl; last_same = λ d. refl; waits_in = λ w l. let (j, k, h) = place w l in inr (j, k, choice_wait j w h) }

      here-formed : Formed here
      here-formed = plan_formed Q (turned_round owners starts f i) (open_from C) (both_formed owners starts lasts drones n f i (C + K) (open_from C) legs visited gathered_searchable) zs

      there-formed : Formed there
      there-formed = plan_formed P (turned_round owners starts from into) is_open_lem (both_formed owners starts lasts drones n from into m is_open_lem legs visited S) zs

      cyclic-same : choice_cyclic Q (turned_round owners starts f i) (open_from C) zs ≡ choice_cyclic P (turned_round owners starts from into) is_open_lem zs
      cyclic-same = same-cyclic here there here-formed there-formed no_less less

      cost-same : choice_cost Q (turned_round owners starts f i) (open_from C) (flat_leg (at starts) (at legs)) (at visited) zs ≡ choice_cost P (turned_round owners starts from into) is_open_lem (flat_leg (at starts) (at legs)) (at visited) zs
      cost-same = same_cost here there here-formed there-formed no_less less (flat_leg (at starts) (at legs)) (at visited)

    pub gathered_reply : (budget : ℕ) → standing_reply owners starts lasts drones f i (C + K) (open_from C) legs visited budget K ≡ standing_reply owners starts lasts drones from into m is_open_lem legs visited budget K
    gathered_reply budget = ap₂ (λ (x : List Bool → Bool) (y : List Bool → ℕ). reply_for x y budget K) (fun_ext cyclic-same) (fun_ext cost-same)

    -- nothing decided: the waits that are not open, gathered alone
    pub gathered_alone : (g h dirs : List ℕ) → g ≡ laid z 0 (picks m shut (at from)) → h ≡ laid z 0 (picks m shut (at into)) → Decided f i C dirs 0 g h
    gathered_alone g h dirs eg eh = record {
      from_is = λ j l.
          let (w, b, s, q) = count_find m shut j (omega arith) in
          rw (lt-leb C j (omega arith)) (subst (λ (x : ℕ). at g x ≡ at f x) q (alone_at (at from) z room eg w b s ∙ sym (shut_at (at from) z room ef w b s)));
      into_is = λ j l.
          let (w, b, s, q) = count_find m shut j (omega arith) in
          rw (lt-leb C j (omega arith)) (subst (λ (x : ℕ). at h x ≡ at i x) q (alone_at (at into) z room eh w b s ∙ sym (shut_at (at into) z room ei w b s)));
    }

-- ---- as the code gathers

module _ {q : ℕ → Bool} {from into : List ℕ} {spot : ℕ} {f i : List ℕ} where
  pub gathered_none : GatheredWaits q 0 from into spot f i f i spot
  unfolding count_below picks
  gathered_none = record { next_is = omega arith; from_is = laid_none f spot; into_is = laid_none i spot }

  module _ {w : ℕ} {f' i' : List ℕ} {r : ℕ} (g : GatheredWaits q w from into spot f i f' i' r) where
    pub gathered_skip : q w ≡ false → GatheredWaits q (w + 1) from into spot f i f' i' r
    gathered_skip e = record { next_is = omega (arith, g.next_is, count_no w q e); from_is = pick_skip q w (at from) f spot f' g.from_is e; into_is = pick_skip q w (at into) i spot i' g.into_is e }

    pub gathered-more : q w ≡ true → GatheredWaits q (w + 1) from into spot f i (set f' r (at from w)) (set i' r (at into w)) (r + 1)
    gathered-more e = record { next_is = omega (arith, g.next_is, count_yes w q e); from_is = pick_store q w (at from) f spot f' g.from_is r (at from w) e g.next_is refl; into_is = pick_store q w (at into) i spot i' g.into_is r (at into w) e g.next_is refl }

    pub gathered-below : (m x : ℕ) → w < m → q w ≡ true → spot + count_below m q ≤ x → r < x
    gathered-below m x l e h = omega (arith, g.next_is, count_past w m q l e)

    pub gathered_from : length f' ≡ length f
    gathered_from = laid-length f' f spot (picks w q (at from)) g.from_is

    pub gathered-into : length i' ≡ length i
    gathered-into = laid-length i' i spot (picks w q (at into)) g.into_is

module _ {L : Limits} (owners starts lasts : List ℕ) (drones n : ℕ) (from into : List ℕ) (m : ℕ) (opens legs visited : List ℕ) (marks : (w : ℕ) → w < m → at opens w ≤ 1) (S : Searchable L owners starts lasts drones n from into m (marked_open opens) legs visited) where
  pub marked-room : count_below m (marked_shut opens) + count_below m (marked_open opens) ≤ L.dependencies
  marked-room = omega (arith, marks_counted opens m marks, S.tables.few_waits)

  module _ {z f₁ i₁ f i : List ℕ} {c e : ℕ} (room : m ≤ length z) (g₁ : GatheredWaits (marked_shut opens) m from into 0 z z f₁ i₁ c) (g₂ : GatheredWaits (marked_open opens) m from into c f₁ i₁ f i e) where
    c_is : c ≡ count_below m (marked_shut opens)
    c_is = omega (arith, g₁.next_is)

    pub marked_open_lem : e - c ≡ count_below m (marked_open opens)
    marked_open_lem = omega (arith, g₂.next_is)

    f_is : f ≡ laid (laid z 0 (picks m (marked_shut opens) (at from))) (count_below m (marked_shut opens)) (picks m (marked_open opens) (at from))
    f_is = g₂.from_is ∙ ap₂ (λ (l : List ℕ) (x : ℕ). laid l x (picks m (marked_open opens) (at from))) g₁.from_is c_is

    i_is : i ≡ laid (laid z 0 (picks m (marked_shut opens) (at into))) (count_below m (marked_shut opens)) (picks m (marked_open opens) (at into))
    i_is = g₂.into_is ∙ ap₂ (λ (l : List ℕ) (x : ℕ). laid l x (picks m (marked_open opens) (at into))) g₁.into_is c_is

    pub marked_searchable : Searchable L owners starts lasts drones n f i (c + (e - c)) (open_from c) legs visited
    marked_searchable = rw (marked_open_lem, c_is) (gathered_searchable opens m marks owners starts lasts drones n from into legs visited S z f i room f_is i_is)

    pub marked_decided : {g h : List ℕ} {r : ℕ} (dirs : List ℕ) → GatheredWaits (marked_shut opens) m from into 0 z z g h r → Decided f i c dirs 0 g h
    marked_decided {g} {h} dirs g₃ = rw c_is (gathered_alone opens m marks owners starts lasts drones n from into legs visited S z f i room f_is i_is g h dirs g₃.from_is g₃.into_is)

    pub marked_reply : (budget : ℕ) → standing_reply owners starts lasts drones f i (c + (e - c)) (open_from c) legs visited budget (e - c) ≡ standing_reply owners starts lasts drones from into m (marked_open opens) legs visited budget (e - c)
    marked_reply budget = rw (marked_open_lem, c_is) (gathered_reply opens m marks owners starts lasts drones n from into legs visited S z f i room f_is i_is budget)
