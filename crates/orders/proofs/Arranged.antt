-- The decided waits are those of the choice in hand: its plan and theirs have each fewer waits than the other, so that cycle and cost are the same. Assumes nothing.
use mathlib.Core.Path.{ap, ◌≡◌, refl, sym, ap₂, ◌∙◌, subst}
use mathlib.Core.Logic.{◌≢◌, ◌⊎◌, inl, inr}
use mathlib.Core.Bool.{Bool, true, false, cond}
use mathlib.Core.List.{List, []}
use Prim.Native.Nat.{ℕ, zero, suc, ◌+◌, ◌-◌, ◌≤◌, ◌<◌}
use native.Mathlib.Omega.{arith}
use lib.Dec.{leb, eqb}
use lib.ListN.{length, set}
use lib.Seq.{get_or-set_same, get_or-set_other}
use borrow.Author.Tests.{leb-true, leb-false, le-leb, lt-leb, eqb-true, eqb-false}
use Rattle.std.specs.Prelude.{Option, Some, is_none}
use Rattle.below.specs.Below.{at, pick, count_below}
use Rattle.below.proofs.Count.{count_zero, count_yes}
use Rattle.below.proofs.Tests.{by_cases, true_or_false}
use Rattle.tables.specs.Limits.{Limits}
use Rattle.precedence.specs.Graph.{Wait, Plan, FormedWait, Formed, Kept, cyclic, NoEmptyLeg, Fewer}
use Rattle.cycles.specs.Flat.{PlacedWaits}
use Rattle.cycles.proofs.Placed.{formed as placed-formed}
use Rattle.rounds.specs.Remaining.{flat_leg}
use Rattle.raising.specs.Judged.{Judgeable, Verdict}
use Rattle.choices.specs.Cheapest.{Growing}
use Rattle.choices.specs.Claims.{all_left}
use Rattle.choices.specs.Searching.{choice_in, Judges}
use Rattle.choices.specs.Directions.{as_it_is, turned, decided_at, direction_of, choice_plan, choice_cyclic, choice_cost, FormedBoth, TurnedUnentered}
use Rattle.choices.proofs.Directed.{choice_decided, choice_undecided}
use Rattle.choices.proofs.Grows.{plan_formed, choices_grow, leaving_all, choices_kept}
use Rattle.choices.proofs.Same.{same-cyclic, same_cost, comes_to, VisitedAs}
use Rattle.orders.specs.Arranged.{wait_between, standing_plan, turned_round, open_from, turned_at, Decided, Searchable}

-- ---- the decided waits, as the search goes

module _ {from into : List ℕ} {c : ℕ} {dirs f i : List ℕ} where
  pub decided_back : {d : ℕ} → Decided from into c dirs d f i → (r : ℕ) → r ≤ d → Decided from into c dirs r f i
  decided_back D r h = record { from_is = λ j l. D.from_is j (omega arith); into_is = λ j l. D.into_is j (omega arith) }

  module _ {d : ℕ} (D : Decided from into c dirs d f i) (r v x y : ℕ) (h : r ≤ d) (room : r < length dirs) (room-f : c + r < length f) (room-i : c + r < length i) (ex : x ≡ pick (eqb v 1) (at into (c + r) + 1) (at from (c + r))) (ey : y ≡ pick (eqb v 1) (at from (c + r) - 1) (at into (c + r))) where
    turned-here : turned_at c (set dirs r v) (c + r) ≡ eqb v 1
    turned-here =
        let e : c + r - c ≡ r = omega arith in
        rw (le-leb c (c + r) (omega arith), e, get_or-set_same dirs r v 0 room) refl

    turned-there : (j : ℕ) → j < c + r → turned_at c (set dirs r v) j ≡ turned_at c dirs j
    turned-there j l = by_cases (leb c j)
        (λ e. let a : c ≤ j = leb-true c j e in rw (e, get_or-set_other dirs r (j - c) v 0 (omega arith)) refl)
        (λ e. rw e refl)

    pub decided_set : Decided from into c (set dirs r v) (r + 1) (set f (c + r) x) (set i (c + r) y)
    decided_set = record {
      from_is = λ j l. by_cases (eqb j (c + r))
          (λ e. rw (eqb-true j (c + r) e, turned-here, get_or-set_same f (c + r) x 0 room-f) ex)
          (λ e. let q : j ≢ c + r = eqb-false j (c + r) e in let b : j < c + r = omega arith in rw (turned-there j b, get_or-set_other f (c + r) j x 0 (omega arith)) (D.from_is j (omega arith)));
      into_is = λ j l. by_cases (eqb j (c + r))
          (λ e. rw (eqb-true j (c + r) e, turned-here, get_or-set_same i (c + r) y 0 room-i) ey)
          (λ e. let q : j ≢ c + r = eqb-false j (c + r) e in let b : j < c + r = omega arith in rw (turned-there j b, get_or-set_other i (c + r) j y 0 (omega arith)) (D.into_is j (omega arith)));
    }

-- ---- what the search asks

pub count_open : (c r : ℕ) → count_below (c + r) (open_from c) ≡ r
count_open c zero = let e : c + 0 ≡ c = omega arith in rw e (count_zero c (open_from c) (λ j l. lt-leb c j l))
count_open c (suc r) =
    let e : c + suc r ≡ c + r + 1 = omega arith in
    rw e (count_yes (c + r) (open_from c) (le-leb c (c + r) (omega arith)) ∙ (let q : count_below (c + r) (open_from c) ≡ r = count_open c r in omega arith))

-- a plan with open waits
module _ {L : Limits} (owners starts lasts : List ℕ) (drones n : ℕ) (from into : List ℕ) (m : ℕ) (is_open_lem : ℕ → Bool) (legs visited : List ℕ) (S : Searchable L owners starts lasts drones n from into m is_open_lem legs visited) where
  abbrev plan : Plan
  plan = standing_plan owners starts lasts drones from into m

  abbrev other_way_lem : ℕ → Wait
  other_way_lem = turned_round owners starts from into

  abbrev waits : PlacedWaits (at owners) (at starts) (at lasts) drones n (at from) (at into) m
  waits = S.tables.placed

  pub standing_formed : Formed plan
  standing_formed = placed-formed (at owners) (at starts) (at lasts) drones n (at from) (at into) m waits

  -- an open wait turned
  module _ (j : ℕ) (l : j < m) (o : is_open_lem j ≡ true) where
    pub turned_some : 1 ≤ at from j
    turned_some = omega (arith, S.unentered j l o)

    pub turned_in_lem : at from j - 1 < n
    turned_in_lem = omega (arith, waits.from_in j l)

    pub turned-later : at starts (at owners (at from j - 1)) < at from j - 1
    turned-later = omega (arith, S.unentered j l o)

    pub turned-small : at into j < L.stops
    turned-small = omega (arith, waits.into_in j l, S.tables.few_stops)

    turned-formed : FormedWait plan (other_way_lem j)
    turned-formed = record {
      waiter_in = waits.shape.own_in (at from j - 1) turned_in_lem;
      stop_pos = omega (arith, S.unentered j l o);
      stop_in = omega (arith, waits.shape.number_in_lem (at from j - 1) turned_in_lem);
      awaited_in = waits.shape.own_in (at into j + 1) (S.turned_from j l o);
      until_in = omega (arith, waits.shape.number_in_lem (at into j + 1) (S.turned_from j l o));
    }

  pub both_formed : FormedBoth plan other_way_lem is_open_lem
  both_formed = record { formed = standing_formed; formed_other = turned-formed }

  pub not_entered : TurnedUnentered plan other_way_lem is_open_lem (at visited)
  not_entered j l o = S.unentered j l o

  pub legs_some : NoEmptyLeg plan (flat_leg (at starts) (at legs)) (at visited)
  legs_some d s l o h = S.some_legs (at starts d + s) (waits.shape.place_in d s l h) (rw (waits.shape.place_own d s l h) (omega arith))

  pub search_grows : Growing (choice_cyclic plan other_way_lem is_open_lem) (choice_cost plan other_way_lem is_open_lem (flat_leg (at starts) (at legs)) (at visited))
  search_grows = choices_grow plan other_way_lem is_open_lem both_formed (flat_leg (at starts) (at legs)) (at visited) legs_some

-- the open waits stand from c on
module _ {L : Limits} (owners starts lasts : List ℕ) (drones n : ℕ) (from into : List ℕ) (c k : ℕ) (legs visited : List ℕ) (S : Searchable L owners starts lasts drones n from into (c + k) (open_from c) legs visited) where
  abbrev P : Plan
  P = standing_plan owners starts lasts drones from into (c + k)

  abbrev other : ℕ → Wait
  other = turned_round owners starts from into

  abbrev is_open_lem : ℕ → Bool
  is_open_lem = open_from c

  abbrev placed : PlacedWaits (at owners) (at starts) (at lasts) drones n (at from) (at into) (c + k)
  placed = S.tables.placed

  P-formed : Formed P
  P-formed = standing_formed owners starts lasts drones n from into (c + k) (open_from c) legs visited S

  both : FormedBoth P other is_open_lem
  both = both_formed owners starts lasts drones n from into (c + k) (open_from c) legs visited S

  pub turned_spot : (r : ℕ) → r < k → (1 ≤ at from (c + r)) × (at into (c + r) < L.stops)
  turned_spot r l =
      let o : open_from c (c + r) ≡ true = le-leb c (c + r) (omega arith) in
      (turned_some owners starts lasts drones n from into (c + k) (open_from c) legs visited S (c + r) (omega arith) o, turned-small owners starts lasts drones n from into (c + k) (open_from c) legs visited S (c + r) (omega arith) o)

  pub search_left : choice_cyclic P other is_open_lem (all_left k) ≡ false
  search_left = subst (λ (x : ℕ). choice_cyclic P other is_open_lem (all_left x) ≡ false) (count_open c k) (leaving_all P other is_open_lem P-formed S.acyclic)

  -- .. so the empty choice has no cycle either
  pub empty_acyclic : choice_cyclic P other is_open_lem [] ≡ false
  empty_acyclic = by_cases (choice_cyclic P other is_open_lem []) (λ e. true_or_false ((search_grows owners starts lasts drones n from into (c + k) (open_from c) legs visited S).cyclic_stays [] (all_left k) e) search_left) (λ e. e)

  module _ (dirs f i : List ℕ) (d : ℕ) (h : d ≤ k) (D : Decided from into c dirs d f i) where
    abbrev xs : List Bool
    xs = choice_in dirs d

    abbrev Q : Plan
    Q = standing_plan owners starts lasts drones f i (c + d)

    abbrev choice : Plan
    choice = choice_plan P other is_open_lem xs

    -- what a wait is, by its case
    wait_shut : (j : ℕ) → j < c + d → leb c j ≡ false → (at f j ≡ at from j) × (at i j ≡ at into j)
    wait_shut j l e = (D.from_is j l ∙ rw e refl, D.into_is j l ∙ rw e refl)

    wait_left : (j : ℕ) → j < c + d → leb c j ≡ true → eqb (at dirs (j - c)) 1 ≡ false → (at f j ≡ at from j) × (at i j ≡ at into j)
    wait_left j l e q = (D.from_is j l ∙ rw (e, q) refl, D.into_is j l ∙ rw (e, q) refl)

    wait_turned : (j : ℕ) → j < c + d → leb c j ≡ true → eqb (at dirs (j - c)) 1 ≡ true → (at f j ≡ at into j + 1) × (at i j ≡ at from j - 1)
    wait_turned j l e q = (D.from_is j l ∙ rw (e, q) refl, D.into_is j l ∙ rw (e, q) refl)

    between : {a b a' b' : ℕ} → a ≡ a' → b ≡ b' → wait_between owners starts a b ≡ wait_between owners starts a' b'
    between ea eb = ap₂ (wait_between owners starts) ea eb

    -- three cases of a decided wait: not open, left, turned
    module _ {C : ℕ → Type 0} (shut : (j : ℕ) → j < c + d → leb c j ≡ false → C j) (left : (j : ℕ) → j < c + d → leb c j ≡ true → eqb (at dirs (j - c)) 1 ≡ false → C j) (round : (j : ℕ) → j < c + d → leb c j ≡ true → eqb (at dirs (j - c)) 1 ≡ true → C j) where
      three : (j : ℕ) → j < c + d → C j
      three j l = by_cases (leb c j) (λ e. by_cases (eqb (at dirs (j - c)) 1) (round j l e) (left j l e)) (shut j l)

    rank : (j : ℕ) → leb c j ≡ true → count_below j is_open_lem ≡ j - c
    rank j e =
        let a : c ≤ j = leb-true c j e in
        let q : c + (j - c) ≡ j = omega arith in
        subst (λ (x : ℕ). count_below x is_open_lem ≡ j - c) q (count_open c (j - c))

    direction_shut : (j : ℕ) → leb c j ≡ false → direction_of is_open_lem xs j ≡ as_it_is
    unfolding direction_of
    direction_shut j e = rw e refl

    direction_open : (j : ℕ) → leb c j ≡ true → direction_of is_open_lem xs j ≡ decided_at xs (j - c)
    unfolding direction_of
    direction_open j e = rw (e, rank j e) refl

    direction_decided : (j : ℕ) → j < c + d → leb c j ≡ true → direction_of is_open_lem xs j ≡ cond (eqb (at dirs (j - c)) 1) turned as_it_is
    direction_decided j l e = direction_open j e ∙ choice_decided dirs d (j - c) (let a : c ≤ j = leb-true c j e in omega arith)

    wait_is : (j : ℕ) → j < c + d → Q.wait j ≡ choice.wait j
    wait_is = three {C = λ j. Q.wait j ≡ choice.wait j}
        (λ j l e. rw (direction_shut j e) (between (wait_shut j l e).0 (wait_shut j l e).1))
        (λ j l e q. rw (direction_decided j l e, q) (between (wait_left j l e q).0 (wait_left j l e q).1))
        (λ j l e q. rw (direction_decided j l e, q) (between (wait_turned j l e q).0 (wait_turned j l e q).1))

    undecided : (j : ℕ) → c + d ≤ j → (choice.wait j).until ≡ 0
    undecided j l =
        let e : leb c j ≡ true = le-leb c j (omega arith) in
        rw (direction_open j e ∙ choice_undecided dirs d (j - c) (omega arith)) refl

    fewer : Fewer choice Q
    fewer = record { drones_same = refl; last_same = λ d. refl; waits_in = λ j l. inr (j, omega arith, sym (wait_is j l)) }

    no_fewer : Fewer Q choice
    no_fewer = record {
      drones_same = refl;
      last_same = λ d. refl;
      waits_in = λ j l. by_cases (leb (c + d) j) (λ e. inl (undecided j (leb-true (c + d) j e))) (λ e. let b : j < c + d = leb-false (c + d) j e in inr (j, b, wait_is j b));
    }

    decided_placed : PlacedWaits (at owners) (at starts) (at lasts) drones n (at f) (at i) (c + d)
    decided_placed = record {
      shape = placed.shape;
      from_in = three {C = λ j. at f j < n}
          (λ j l e. rw (wait_shut j l e).0 (placed.from_in j (omega arith)))
          (λ j l e q. rw (wait_left j l e q).0 (placed.from_in j (omega arith)))
          (λ j l e q. rw (wait_turned j l e q).0 (S.turned_from j (omega arith) e));
      into_in = three {C = λ j. at i j < n}
          (λ j l e. rw (wait_shut j l e).1 (placed.into_in j (omega arith)))
          (λ j l e q. rw (wait_left j l e q).1 (placed.into_in j (omega arith)))
          (λ j l e q. rw (wait_turned j l e q).1 (turned_in_lem owners starts lasts drones n from into (c + k) (open_from c) legs visited S j (omega arith) e));
      into_later = three {C = λ j. at starts (at owners (at i j)) < at i j}
          (λ j l e. rw (wait_shut j l e).1 (placed.into_later j (omega arith)))
          (λ j l e q. rw (wait_left j l e q).1 (placed.into_later j (omega arith)))
          (λ j l e q. rw (wait_turned j l e q).1 (turned-later owners starts lasts drones n from into (c + k) (open_from c) legs visited S j (omega arith) e));
    }

    decided_kept : Kept Q (at visited)
    decided_kept j l = subst (λ (z : Wait). z.stop ≤ at visited z.waiter → z.until ≤ at visited z.awaited) (sym (wait_is j l)) (choices_kept P other is_open_lem (at visited) S.kept (not_entered owners starts lasts drones n from into (c + k) (open_from c) legs visited S) xs j (omega arith))

    visits : VisitedAs P Q (at visited)
    visits = three {C = λ j. (Q.wait j).stop ≤ at visited (Q.wait j).waiter → ((Q.wait j).until ≡ 0) ⊎ ((x : ℕ) × (x < c + k) × (P.wait x ≡ Q.wait j))}
        (λ j l e v. inr (j, omega arith, sym (between (wait_shut j l e).0 (wait_shut j l e).1)))
        (λ j l e q v. inr (j, omega arith, sym (between (wait_left j l e q).0 (wait_left j l e q).1)))
        (λ j l e q v. absurd (let w : (other j).stop ≤ at visited (other j).waiter = subst (λ (z : Wait). z.stop ≤ at visited z.waiter) (between (wait_turned j l e q).0 (wait_turned j l e q).1) v in omega (arith, S.unentered j (omega arith) e)))

    Q-formed : Formed Q
    Q-formed = placed-formed (at owners) (at starts) (at lasts) drones n (at f) (at i) (c + d) decided_placed

    pub choice_judgeable : Judgeable L owners starts lasts drones n f i (c + d) legs visited
    choice_judgeable = record {
      tables = record { placed = decided_placed; has_owners = S.tables.has_owners; few_stops = S.tables.few_stops; few_waits = omega (arith, S.tables.few_waits); few_drones = S.tables.few_drones };
      has_visited = S.has_visited;
      has_legs = S.has_legs;
      short_legs = S.short_legs;
      some_legs = S.some_legs;
      kept = decided_kept;
      within = S.within;
      comes_to = comes_to P Q P-formed refl (λ d. refl) (at visited) S.kept visits S.acyclic S.within;
    }

    -- a cycle of the decided waits is one of the choice
    pub decided_cyclic : cyclic Q ≡ choice_cyclic P other is_open_lem xs
    decided_cyclic = same-cyclic Q choice Q-formed (plan_formed P other is_open_lem both xs) no_fewer fewer

    -- and a verdict on them one on it
    pub choice_judged : {cy : Bool} {x : ℕ} {v : Option ℕ} → Verdict Q (flat_leg (at starts) (at legs)) (at visited) cy x → is_none v ≡ cy → (cy ≡ false → v ≡ Some x) → Judges (choice_cyclic P other is_open_lem) (choice_cost P other is_open_lem (flat_leg (at starts) (at legs)) (at visited)) xs v
    choice_judged o e h = record {
      says_cyclic = e ∙ o.says_cyclic ∙ decided_cyclic;
      says_cost = λ q. h (o.says_cyclic ∙ decided_cyclic ∙ q) ∙ ap Some (o.says_cost (decided_cyclic ∙ q) ∙ same_cost Q choice Q-formed (plan_formed P other is_open_lem both xs) no_fewer fewer (flat_leg (at starts) (at legs)) (at visited));
    }
