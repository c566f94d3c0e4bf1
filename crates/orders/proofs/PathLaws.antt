-- The search on its way: what is judged of the choice in hand, one dependency more decided, and the way back to a shorter choice. Assumes nothing.
use mathlib.Core.Path.{◌≡◌, refl, sym, ap, ◌∙◌, subst}
use mathlib.Core.Logic.{◌≢◌, inr}
use mathlib.Core.Bool.{Bool, true, false}
use mathlib.Core.List.{List}
use Prim.Native.Nat.{ℕ, ◌+◌, ◌*◌, ◌-◌, ◌≤◌, ◌<◌}
use native.Mathlib.Omega.{arith}
use lib.Dec.{eqb}
use lib.ListN.{length, set, length-set}
use lib.Seq.{get_or-set_same, get_or-set_other}
use borrow.Author.Tests.{eqb-true, eqb-false}
use Rattle.std.specs.Prelude.{Option, Some, None, min}
use Rattle.std.specs.Int.{from_bool}
use Rattle.below.specs.Below.{at, pick, sum_below}
use Rattle.below.proofs.Tests.{by_cases, true_or_false}
use Rattle.tables.specs.Limits.{Limits}
use Rattle.precedence.specs.Graph.{cyclic}
use Rattle.precedence.proofs.Ahead.{cyclic_fewer}
use Rattle.cycles.proofs.Placed.{formed as placed-formed}
use Rattle.cycles.specs.Walk.{course_with, RoundTable}
use Rattle.rounds.specs.Remaining.{flat_leg}
use Rattle.choices.specs.Searching.{choice_in, admitted, Judges}
use Rattle.choices.specs.Directions.{choice_cyclic, choice_cost}
use Rattle.raising.specs.Judged.{Judgeable}
use Rattle.raising.specs.UpToDate.{AtVisitedStops, UpToDate, MarkedTable, Tried, TakenBack}
use Rattle.raising.proofs.LinkLaws.{linked_agree}
use Rattle.raising.proofs.UpToDateLaws.{settled_acyclic}
use Rattle.raising.proofs.VerdictLaws.{rounds_waits, cycle_verdict, table_verdict, settled_small}
use Rattle.orders.specs.Arranged.{standing_plan, turned_round, open_from, Decided, Searchable}
use Rattle.orders.specs.Path.{OnPath}
use Rattle.orders.proofs.Arranged.{decided_back, decided_set, choice_judgeable, choice_judged, decided_cyclic, empty_acyclic}

-- a way as its number in a table
pub told_way : (b : Bool) {v : ℕ} → v ≡ from_bool b → {x : ℕ} (y z : ℕ) → x ≡ pick b y z → x ≡ pick (eqb v 1) y z
told_way true e y z h = rw e h
told_way false e y z h = rw e h

pub way_set : (b : Bool) {v : ℕ} → v ≡ from_bool b → (l : List ℕ) (i : ℕ) → set l i v ≡ set l i (pick b 1 0)
way_set true e l i = rw e refl
way_set false e l i = rw e refl

-- what is entered has no cycle
pub admitted-acyclic : {cy : Bool} {v : Option ℕ} (best : Option ℕ) → (cy ≡ true → v ≡ None) → admitted v best ≡ true → cy ≡ false
unfolding admitted
admitted-acyclic {cy} {v} best h e = by_cases cy (λ q. let none : v ≡ None = h q in true_or_false {b = false} (rw none at e) refl) (λ q. q)

-- waits that are stored past the ones that are in do not matter to these
module _ {L : Limits} {owners starts lasts : List ℕ} {drones n : ℕ} {f i f' i' : List ℕ} {m : ℕ} (same_from : (j : ℕ) → j < m → at f j ≡ at f' j) (same-into : (j : ℕ) → j < m → at i j ≡ at i' j) {legs cur : List ℕ} where
  standing_agrees : {head next : List ℕ} {top : ℕ} {t ls lo : List ℕ} → UpToDate L owners starts lasts drones n f i m legs cur head next top t ls lo → UpToDate L owners starts lasts drones n f' i' m legs cur head next top t ls lo
  standing_agrees {head} {next} {top} {t} Z = record {
    linked = linked_agree L.stops L.dependencies (at f) (at f') m head next same_from Z.linked;
    rounds = rounds_waits owners starts lasts drones n f i f' i' m (at legs) (at cur) (at t) same_from same-into Z.rounds;
    log = Z.log;
  }

  marked-agrees : {mark top : ℕ} {t ls lo : List ℕ} → MarkedTable L owners starts lasts drones n f i m legs cur mark top t ls lo → MarkedTable L owners starts lasts drones n f' i' m legs cur mark top t ls lo
  marked-agrees M = record {
    table = M.table;
    leads = M.leads;
    rounds = rounds_waits owners starts lasts drones n f i f' i' m (at legs) (at cur) (at M.table) same_from same-into M.rounds;
  }

-- nothing is decided
module _ {L : Limits} (owners starts lasts : List ℕ) (drones n : ℕ) (from into : List ℕ) (c k : ℕ) (legs visited : List ℕ) (S : Searchable L owners starts lasts drones n from into (c + k) (open_from c) legs visited) {dirs f i : List ℕ} (D : Decided from into c dirs 0 f i) where
  c_is : c + 0 ≡ c
  c_is = omega arith

  pub start_judgeable : Judgeable L owners starts lasts drones n f i c legs visited
  start_judgeable = subst (λ (x : ℕ). Judgeable L owners starts lasts drones n f i x legs visited) c_is (choice_judgeable owners starts lasts drones n from into c k legs visited S dirs f i 0 (omega arith) D)

  start-cyclic : cyclic (standing_plan owners starts lasts drones f i (c + 0)) ≡ false
  unfolding choice_in
  start-cyclic = decided_cyclic owners starts lasts drones n from into c k legs visited S dirs f i 0 (omega arith) D ∙ empty_acyclic owners starts lasts drones n from into c k legs visited S

  pub start-acyclic : cyclic (standing_plan owners starts lasts drones f i c) ≡ false
  start-acyclic = subst (λ (x : ℕ). cyclic (standing_plan owners starts lasts drones f i x) ≡ false) c_is start-cyclic

module _ {L : Limits} (owners starts lasts : List ℕ) (drones n : ℕ) (from into : List ℕ) (c k : ℕ) (legs visited : List ℕ) (S : Searchable L owners starts lasts drones n from into (c + k) (open_from c) legs visited) (cur : List ℕ) (stays_at : AtVisitedStops L starts drones visited cur) where
  abbrev Way : (dirs : List ℕ) (depth held base : ℕ) (has_cycle : Bool) (f i head next marks : List ℕ) (top : ℕ) (t ls lo : List ℕ) → Type 0
  Way = OnPath L owners starts lasts drones n from into c legs cur

  judgeable : (dirs f i : List ℕ) (d : ℕ) → d ≤ k → Decided from into c dirs d f i → Judgeable L owners starts lasts drones n f i (c + d) legs visited
  judgeable = choice_judgeable owners starts lasts drones n from into c k legs visited S

  -- ---- the start: the empty choice

  module _ {dirs f i : List ℕ} (D : Decided from into c dirs 0 f i) where
    pub path_start : {head next marks t ls lo : List ℕ} → length dirs ≡ L.dependencies → length f ≡ L.dependencies → length i ≡ L.dependencies → length marks ≡ L.dependencies → UpToDate L owners starts lasts drones n f i c legs cur head next 0 t ls lo → Way dirs 0 c 0 false f i head next marks 0 t ls lo
    path_start a b d e Z = record {
      decided = D;
      dirs_size = a;
      from_size = b;
      into_size = d;
      marks_size = e;
      from_base = omega arith;
      says_cyclic = sym (start-cyclic owners starts lasts drones n from into c k legs visited S D);
      all_in_lem = λ q. omega arith;
      but_last = λ q. true_or_false q refl;
      standing = Z;
      marked = λ e a b. absurd (omega arith);
      rising = λ e d a b l. absurd (omega arith);
    }

  module _ {dirs : List ℕ} {depth held base : ℕ} {cy : Bool} {f i head next marks : List ℕ} {top : ℕ} {t ls lo : List ℕ} (W : Way dirs depth held base cy f i head next marks top t ls lo) (deep : depth ≤ k) where
    here : Judgeable L owners starts lasts drones n f i (c + depth) legs visited
    here = judgeable dirs f i depth deep W.decided

    -- ---- what is judged of the choice in hand

    all_rounds : cy ≡ false → RoundTable (course_with owners starts lasts drones n f i (c + depth)) (at legs) (at cur) (at t)
    all_rounds q = subst (λ (x : ℕ). RoundTable (course_with owners starts lasts drones n f i x) (at legs) (at cur) (at t)) (W.all_in_lem q) W.standing.rounds

    pub path_last : (d : ℕ) → d < drones → at starts d + at lasts d < L.stops
    path_last d l = omega (arith, S.tables.placed.shape.place_in d (at lasts d) l (omega arith), S.tables.few_stops)

    pub path_small : cy ≡ false → (d : ℕ) → d < drones → at t (at starts d + at lasts d) ≤ L.leg * L.stops
    path_small q = settled_small owners starts lasts drones n f i (c + depth) legs visited here cur stays_at.are t (all_rounds q)

    pub path_judges : {v : Option ℕ} → (cy ≡ true → v ≡ None) × (cy ≡ false → v ≡ Some (sum_below drones (λ d. at t (at starts d + at lasts d))))
        → Judges (choice_cyclic (standing_plan owners starts lasts drones from into (c + k)) (turned_round owners starts from into) (open_from c)) (choice_cost (standing_plan owners starts lasts drones from into (c + k)) (turned_round owners starts from into) (open_from c) (flat_leg (at starts) (at legs)) (at visited)) (choice_in dirs depth) v
    path_judges h = by_cases cy
        (λ q. choice_judged owners starts lasts drones n from into c k legs visited S dirs f i depth deep W.decided (cycle_verdict owners starts lasts drones n f i (c + depth) legs visited here (sym W.says_cyclic ∙ q) 0) (rw (h.0 q) refl) (λ z. true_or_false refl z))
        (λ q. choice_judged owners starts lasts drones n from into c k legs visited S dirs f i depth deep W.decided (table_verdict owners starts lasts drones n f i (c + depth) legs visited here cur stays_at.are t (all_rounds q) _ refl) (rw (h.1 q) refl) (λ z. h.1 q))

    -- all of its waits are in
    pub path_in : cy ≡ false → Way dirs depth (c + depth) base false f i head next marks top t ls lo
    path_in q = subst (λ (x : ℕ). Way dirs depth x base false f i head next marks top t ls lo) (W.all_in_lem q) (subst (λ (z : Bool). Way dirs depth held base z f i head next marks top t ls lo) q W)

    -- ---- the way back

    module _ (to : ℕ) (shorter : to < depth) where
      level : ℕ
      level = held - c

      level_le : level ≤ depth
      unfolding level
      level_le = by_cases cy (λ q. omega (arith, W.but_last q)) (λ q. omega (arith, W.all_in_lem q))

      level_is : held ≡ c + level
      unfolding level
      level_is = omega (arith, W.from_base)

      pub back_in : c + to ≤ held
      back_in = by_cases cy (λ q. omega (arith, W.but_last q)) (λ q. omega (arith, W.all_in_lem q))

      there : Judgeable L owners starts lasts drones n f i held legs visited
      there = subst (λ (x : ℕ). Judgeable L owners starts lasts drones n f i x legs visited) (sym level_is) (judgeable dirs f i level (omega (arith, level_le)) (decided_back W.decided level level_le))

      pub back_few : held ≤ L.dependencies
      back_few = there.tables.few_waits

      pub back_stops : (j : ℕ) → j < held → at f j < L.stops
      back_stops j l = omega (arith, there.tables.placed.from_in j l, there.tables.few_stops)

      pub back_judgeable : Judgeable L owners starts lasts drones n f i (c + to) legs visited
      back_judgeable = judgeable dirs f i to (omega arith) (decided_back W.decided to (omega arith))

      pub back_acyclic : cyclic (standing_plan owners starts lasts drones f i (c + to)) ≡ false
      back_acyclic = cyclic_fewer (standing_plan owners starts lasts drones f i held) (standing_plan owners starts lasts drones f i (c + to)) (placed-formed (at owners) (at starts) (at lasts) drones n (at f) (at i) held there.tables.placed)
          (record { drones_same = refl; last_same = λ d. refl; waits_in = λ w l. inr (w, omega (arith, back_in), refl) })
          (sym (settled_acyclic owners starts lasts drones n f i held legs visited there cur stays_at t W.standing.rounds))

      pub path_back : {mark : Option ℕ} {head' : List ℕ} {r : ℕ} {t' : List ℕ} {base' : ℕ} → TakenBack L owners starts lasts drones n f i (c + to) legs cur mark top t ls lo head' next r t' → (base ≤ to → mark ≡ Some (at marks to)) → base' ≡ min base to → Way dirs to (c + to) base' false f i head' next marks r t' ls lo
      path_back {mark} {head'} {r} {t'} {base'} B known least = record {
        decided = decided_back W.decided to (omega arith);
        dirs_size = W.dirs_size;
        from_size = W.from_size;
        into_size = W.into_size;
        marks_size = W.marks_size;
        from_base = omega arith;
        says_cyclic = sym back_acyclic;
        all_in_lem = λ q. refl;
        but_last = λ q. true_or_false q refl;
        standing = B.standing;
        marked = λ e a l.
            let b : base ≤ e = omega arith in
            let M : MarkedTable L owners starts lasts drones n f i (c + e) legs cur (at marks e) top t ls lo = W.marked e b (omega arith) in
            record { table = M.table; leads = B.marks (at marks to) (known (omega arith)) (at marks e) M.table (W.rising e to b (omega arith) shorter) M.leads; rounds = M.rounds };
        rising = λ e d a b l. W.rising e d (omega arith) b (omega arith);
      }

  -- ---- one dependency more is decided

  module _ {dirs : List ℕ} {depth base : ℕ} {f i head next marks : List ℕ} {top : ℕ} {t ls lo : List ℕ} (W : Way dirs depth (c + depth) base false f i head next marks top t ls lo) (more : depth < k) (v x y : ℕ) (ex : x ≡ pick (eqb v 1) (at into (c + depth) + 1) (at from (c + depth))) (ey : y ≡ pick (eqb v 1) (at from (c + depth) - 1) (at into (c + depth))) where
    few : c + depth < L.dependencies
    few = omega (arith, S.tables.few_waits)

    f_same : (m : ℕ) → m ≤ c + depth → (j : ℕ) → j < m → at f j ≡ at (set f (c + depth) x) j
    f_same m h j l = sym (get_or-set_other f (c + depth) j x 0 (λ e. omega arith))

    i_same : (m : ℕ) → m ≤ c + depth → (j : ℕ) → j < m → at i j ≡ at (set i (c + depth) y) j
    i_same m h j l = sym (get_or-set_other i (c + depth) j y 0 (λ e. omega arith))

    one_more : Decided from into c (set dirs depth v) (depth + 1) (set f (c + depth) x) (set i (c + depth) y)
    one_more = decided_set W.decided depth v x y (omega arith) (omega (arith, few, W.dirs_size)) (omega (arith, few, W.from_size)) (omega (arith, few, W.into_size)) ex ey

    next_is : c + (depth + 1) ≡ c + depth + 1
    next_is = omega arith

    pub more_judgeable : Judgeable L owners starts lasts drones n (set f (c + depth) x) (set i (c + depth) y) (c + depth + 1) legs visited
    more_judgeable = subst (λ (z : ℕ). Judgeable L owners starts lasts drones n (set f (c + depth) x) (set i (c + depth) y) z legs visited) next_is (judgeable (set dirs depth v) (set f (c + depth) x) (set i (c + depth) y) (depth + 1) (omega arith) one_more)

    pub more_standing : UpToDate L owners starts lasts drones n (set f (c + depth) x) (set i (c + depth) y) (c + depth) legs cur head next top t ls lo
    more_standing = standing_agrees (f_same (c + depth) (omega arith)) (i_same (c + depth) (omega arith)) W.standing

    module _ {cy fresh : Bool} {head' next' : List ℕ} {r : ℕ} {t' ls' lo' : List ℕ} (T : Tried L owners starts lasts drones n (set f (c + depth) x) (set i (c + depth) y) (c + depth) legs cur top t ls lo cy fresh head' next' r t' ls' lo') {held' base' : ℕ} (out : cy ≡ true → held' ≡ c + depth) (in-it : cy ≡ false → held' ≡ c + depth + 1) (same : fresh ≡ false → base' ≡ base) (new : fresh ≡ true → base' ≡ depth + 1) where
      marks' : List ℕ
      marks' = set marks depth top

      mark_new : at marks' depth ≡ top
      unfolding marks'
      mark_new = get_or-set_same marks depth top 0 (omega (arith, few, W.marks_size))

      mark_old : (e : ℕ) → e < depth → at marks' e ≡ at marks e
      unfolding marks'
      mark_old e l = get_or-set_other marks depth e top 0 (λ q. omega arith)

      fresh_in : fresh ≡ true → cy ≡ false
      fresh_in q = by_cases cy (λ z. true_or_false q (T.stays z).0) (λ z. z)

      after_standing : UpToDate L owners starts lasts drones n (set f (c + depth) x) (set i (c + depth) y) held' legs cur head' next' r t' ls' lo'
      after_standing = by_cases cy
          (λ q. subst (λ (z : ℕ). UpToDate L owners starts lasts drones n (set f (c + depth) x) (set i (c + depth) y) z legs cur head' next' r t' ls' lo') (sym (out q)) (T.stays q).1)
          (λ q. subst (λ (z : ℕ). UpToDate L owners starts lasts drones n (set f (c + depth) x) (set i (c + depth) y) z legs cur head' next' r t' ls' lo') (sym (in-it q)) (T.grows q))

      old_marked : fresh ≡ false → (e : ℕ) → base ≤ e → e < depth → MarkedTable L owners starts lasts drones n (set f (c + depth) x) (set i (c + depth) y) (c + e) legs cur (at marks' e) r t' ls' lo'
      old_marked q e a l =
          let M : MarkedTable L owners starts lasts drones n (set f (c + depth) x) (set i (c + depth) y) (c + e) legs cur (at marks e) top t ls lo = marked-agrees (f_same (c + e) (omega arith)) (i_same (c + e) (omega arith)) (W.marked e a l) in
          rw (mark_old e l) (record { table = M.table; leads = T.logs q (at marks e) M.table M.leads; rounds = M.rounds })

      new_marked : fresh ≡ false → MarkedTable L owners starts lasts drones n (set f (c + depth) x) (set i (c + depth) y) (c + depth) legs cur (at marks' depth) r t' ls' lo'
      new_marked q = rw mark_new (record { table = t; leads = T.logs q top t W.standing.log; rounds = more_standing.rounds })

      after-marked : (e : ℕ) → base' ≤ e → e < depth + 1 → MarkedTable L owners starts lasts drones n (set f (c + depth) x) (set i (c + depth) y) (c + e) legs cur (at marks' e) r t' ls' lo'
      after-marked e a l = by_cases fresh
          (λ q. absurd (omega (arith, new q)))
          (λ q. by_cases (eqb e depth)
          (λ z. subst (λ (u : ℕ). MarkedTable L owners starts lasts drones n (set f (c + depth) x) (set i (c + depth) y) (c + u) legs cur (at marks' u) r t' ls' lo') (sym (eqb-true e depth z)) (new_marked q))
          (λ z. let ne : e ≢ depth = eqb-false e depth z in old_marked q e (omega (arith, same q)) (omega (arith, ne))))

      after_rising : (e d : ℕ) → base' ≤ e → e ≤ d → d < depth + 1 → at marks' e ≤ at marks' d
      after_rising e d a b l = by_cases fresh
          (λ q. absurd (omega (arith, new q)))
          (λ q. let low : base ≤ e = omega (arith, same q) in
          by_cases (eqb d depth)
          (λ z. let at-d : d ≡ depth = eqb-true d depth z in
          by_cases (eqb e depth)
          (λ y. let at-e : e ≡ depth = eqb-true e depth y in rw (at-d, at-e) (omega arith))
          (λ y. let ne : e ≢ depth = eqb-false e depth y in let l' : e < depth = omega (arith, ne) in rw (at-d) (omega (arith, mark_new, mark_old e l', (W.marked e low l').leads.from_base))))
          (λ z. let ne : d ≢ depth = eqb-false d depth z in let l' : d < depth = omega (arith, ne) in omega (arith, mark_old e (omega arith), mark_old d l', W.rising e d low b l')))

      path_more : Way (set dirs depth v) (depth + 1) held' base' cy (set f (c + depth) x) (set i (c + depth) y) head' next' (set marks depth top) r t' ls' lo'
      unfolding marks'
      path_more = record {
        decided = one_more;
        dirs_size = length-set dirs depth v ∙ W.dirs_size;
        from_size = length-set f (c + depth) x ∙ W.from_size;
        into_size = length-set i (c + depth) y ∙ W.into_size;
        marks_size = length-set marks depth top ∙ W.marks_size;
        from_base = by_cases fresh (λ q. omega (arith, new q, in-it (fresh_in q))) (λ q. by_cases cy (λ z. omega (arith, same q, out z, W.from_base)) (λ z. omega (arith, same q, in-it z, W.from_base)));
        says_cyclic = T.says_cyclic ∙ ap (λ (z : ℕ). cyclic (standing_plan owners starts lasts drones (set f (c + depth) x) (set i (c + depth) y) z)) (sym next_is);
        all_in_lem = λ q. omega (arith, in-it q);
        but_last = λ q. omega (arith, out q);
        standing = after_standing;
        marked = after-marked;
        rising = after_rising;
      }

      -- .. as the code has it
      pub path_told : {b : Bool} → cy ≡ b → Way (set dirs depth v) (depth + 1) held' base' b (set f (c + depth) x) (set i (c + depth) y) head' next' (set marks depth top) r t' ls' lo'
      path_told e = subst (λ (z : Bool). Way (set dirs depth v) (depth + 1) held' base' z (set f (c + depth) x) (set i (c + depth) y) head' next' (set marks depth top) r t' ls' lo') e path_more
