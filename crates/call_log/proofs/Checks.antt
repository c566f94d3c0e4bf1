-- Which reply a status gives, in plain terms: the table of refusals is read row by row, and each row's test is put into words. Assumes nothing.
use mathlib.Core.Path.{◌≡◌, refl, sym, ap, ◌∙◌, subst}
use mathlib.Core.Logic.{◌≢◌, ◌↔◌, ◌⊎◌, inl, inr}
use mathlib.Core.Bool.{Bool, true, false, not, cond, ◌&&◌, ◌||◌}
use mathlib.Core.List.{List, [], ◌∷◌}
use Prim.Native.Nat.{ℕ, zero, suc, ◌≤◌, ◌<◌}
use native.Mathlib.Omega.{arith}
use lib.Dec.{eqb, ltb, leb}
use lib.ListN.{length}
use borrow.Author.Tests.{ltb-true, ltb-false, leb-true, leb-false, eqb-false, ne_eqb, lt-ltb, le-ltb, le-leb, lt-leb, not-false}
use Rattle.below.specs.Below.{First, at, is_in}
use Rattle.below.proofs.Members.{in_head, in_tail, each_more}
use Rattle.below.proofs.Tests.{by_cases, true_or_false, or_left, or_right}
use Rattle.below.proofs.Search.{first_below_first, first_is}
use Rattle.below.proofs.Every.{all_below-at}
use Rattle.precedence.specs.Graph.{blocks, free, cyclic}
use Rattle.precedence.proofs.Rounds.{blocks_true, blocks_open, free_if, free_open, free-unfinished}
use Rattle.plan.specs.Field.{FieldPlan, Dependency, in_force, of_withdrawn, graph, place_of, fixed, Status, after_turns}
use Rattle.plan.specs.Status.{entered, unmet, dependency_now, waits_kept}
use Rattle.call_log.specs.CallLog.{grant, arrive, withdraw, turn, turn_all, Reply, accepted, refused, must_wait, reply_number, awaited, is_accepted, Check, when, first_that_holds, is_group, walked_rows, refusals, reply_in}
use Rattle.call_log.specs.Claims.{IntoNext, Met, Waiting, MayGo, MustWait, MayArrive, MayWithdraw, IsWithdrawn, Unentered, Turnable, Group, AllTurnable}
use Rattle.call_log.proofs.Groups.{group_iff}

-- ---- replies

pub is_accepted_lem : (r : Reply) → is_accepted r ≡ true → r ≡ accepted
is_accepted_lem accepted e = refl
is_accepted_lem (refused n) e = true_or_false e refl
is_accepted_lem (must_wait w) e = true_or_false e refl

-- replies with different numbers are different
pub differ {ℓ} : {A : Type ℓ} {a b : Reply} → a ≡ b → reply_number a ≢ reply_number b → A
differ e n = absurd (n (ap reply_number e))

-- ---- the table of refusals, row by row

-- the reply r is that of the first row that holds, or no row holds and r is acceptance
abbrev pub Said : List Check → Reply → Type 0
Said [] r = accepted ≡ r
Said (c ∷ cs) r = ((c.holds ≡ true) × (c.reply ≡ r)) ⊎ ((c.holds ≡ false) × Said cs r)

pub said : (cs : List Check) (r : Reply) → first_that_holds cs ≡ r → Said cs r
said [] r e = e
said (c ∷ cs) r e = go c.holds refl e (said cs r)
  where
    go : (b : Bool) → c.holds ≡ b → elim b [ true ↦ c.reply | false ↦ first_that_holds cs ] ≡ r → (first_that_holds cs ≡ r → Said cs r) → Said (c ∷ cs) r
    go true h e k = inl (h, e)
    go false h e k = inr (h, k e)

-- a row whose reply is another one does not hold, and the reply is found further down
pub further : {b : Bool} {a r : Reply} {A : Type 0} → ((b ≡ true) × (a ≡ r)) ⊎ ((b ≡ false) × A) → reply_number a ≢ reply_number r → (b ≡ false) × A
further (inl (h, e)) n = differ e n
further (inr x) n = x

pub or_none : (a b : Bool) → a ≡ false → b ≡ false → a || b ≡ false
or_none true b p q = p
or_none false b p q = q

module _ (F : FieldPlan) (s : Status) where
  open F use {drones, last, count, dependency}
  open s use {place, under_way, withdrawn, turned}

  -- ---- who is withdrawn

  abbrev now : ℕ → Dependency
  now = dependency_now F s

  -- the two drones of a dependency are the same in either order
  pub none_now : (w : ℕ) → withdrawn (now w).first ≡ false → withdrawn (now w).second ≡ false → of_withdrawn F s w ≡ false
  none_now w = go (turned w)
    where
      go : (b : Bool) → withdrawn (in_force b (dependency w)).first ≡ false → withdrawn (in_force b (dependency w)).second ≡ false → of_withdrawn F s w ≡ false
      go true p q = or_none _ _ q p
      go false p q = or_none _ _ p q

  pub others_now : (w : ℕ) → of_withdrawn F s w ≡ false → (withdrawn (now w).first ≡ false) × (withdrawn (now w).second ≡ false)
  others_now w h = go (turned w)
    where
      go : (b : Bool) → (withdrawn (in_force b (dependency w)).first ≡ false) × (withdrawn (in_force b (dependency w)).second ≡ false)
      go true = (or_right (withdrawn (dependency w).first) _ h, or_left _ _ h)
      go false = (or_left _ _ h, or_right (withdrawn (dependency w).first) _ h)

  -- the stop that a dependency waits for, by whether a drone of it is withdrawn
  abbrev until_if : Bool → ℕ → ℕ
  until_if out w = cond out 0 (suc (now w).first_stop)

  -- a dependency is met just where the graph's wait is
  met-until : (w : ℕ) → Met F s w → ((graph F s).wait w).until ≤ place (now w).first
  met-until w m = go (of_withdrawn F s w) refl m
    where
      go : (out : Bool) → of_withdrawn F s w ≡ out → Met F s w → until_if out w ≤ place (now w).first
      go true e m = omega arith
      go false e (inl x) = true_or_false x (others_now w e).0
      go false e (inr h) = h

  until-met : (w d : ℕ) → (now w).second ≡ d → withdrawn d ≡ false → ((graph F s).wait w).until ≤ place (now w).first → Met F s w
  until-met w d q x h = by_cases (withdrawn (now w).first)
      (λ o. inl o)
      (λ o. inr (subst (λ (out : Bool). until_if out w ≤ place (now w).first) (none_now w o (ap withdrawn q ∙ x)) h))

  -- the place that counts of a drone that is not withdrawn is its own
  pub place_counts : (d : ℕ) → withdrawn d ≡ false → place_of F s d ≡ place d
  place_counts d x = ap (λ (b : Bool). cond b (last d) (place d)) x

  -- ---- grant

  waiting_rows : {d : ℕ} → leb drones d ≡ false → withdrawn d ≡ false → leb (last d) (place d) ≡ false → under_way d ≡ false → Waiting F s d
  waiting_rows {d} a x b c = record { exists = leb-false drones d a; not_withdrawn = x; unfinished = leb-false (last d) (place d) b; idle = c }

  first_unmet : (d : ℕ) → First count (blocks (graph F s) place d) (unmet F s d)
  first_unmet d = first_below_first count (blocks (graph F s) place d)

  -- a dependency holds drone d back when it is one into its next stop and is not met
  met_if : (d w : ℕ) → withdrawn d ≡ false → blocks (graph F s) place d w ≡ false → IntoNext F s d w → Met F s w
  met_if d w x e (l, q, k) = until-met w d q x (ltb-false (place (now w).first) ((graph F s).wait w).until (sym (blocks_open (graph F s) place d w q k) ∙ e))

  if_met : (d w : ℕ) → w < count → (IntoNext F s d w → Met F s w) → blocks (graph F s) place d w ≡ false
  if_met d w l h = by_cases (blocks (graph F s) place d w)
      (λ e. let b = blocks_true (graph F s) place d w e in absurd (omega (arith, b.is_open, met-until w (h (l, b.is_waiter, b.is_next)))))
      (λ e. e)

  none-unmet : (d : ℕ) → ((w : ℕ) → IntoNext F s d w → Met F s w) → unmet F s d ≡ count
  none-unmet d h = by_cases (ltb (unmet F s d) count)
      (λ e. let l = ltb-true (unmet F s d) count e in true_or_false ((first_unmet d).found l) (if_met d (unmet F s d) l (h (unmet F s d))))
      (λ e. omega (arith, ltb-false (unmet F s d) count e, (first_unmet d).within))

  pub grant-accepted : (d : ℕ) → (reply_in F s (grant d) ≡ accepted) ↔ MayGo F s d
  unfolding reply_in
  grant-accepted d = (to, from)
    where
      to : first_that_holds (refusals F s (grant d)) ≡ accepted → MayGo F s d
      to e =
          let (a, r) = further (said (refusals F s (grant d)) accepted e) (omega arith) in
          let (x, r) = further r (omega arith) in
          let (b, r) = further r (omega arith) in
          let (c, r) = further r (omega arith) in
          let (u, r) = further r (omega arith) in
          record { waiting = waiting_rows a x b c; met = λ w i. met_if d w x ((first_unmet d).skipped w (omega (arith, ltb-false (unmet F s d) count u, i.0))) i }

      from : MayGo F s d → first_that_holds (refusals F s (grant d)) ≡ accepted
      from g =
          let x = g.waiting in
          rw (lt-leb drones d x.exists, x.not_withdrawn, lt-leb (last d) (place d) x.unfinished, x.idle, le-ltb (unmet F s d) count (omega (arith, none-unmet d g.met))) refl

  -- such a drone visits its next stop in the next round
  pub go-free : (d : ℕ) → MayGo F s d → free (graph F s) place d ≡ true
  go-free d g = free_if (graph F s) place d g.waiting.unfinished (λ w l q k. met-until w (g.met w (l, q, k)))

  -- who is free where the places that count are looked at is not withdrawn
  pub free-flies : (d : ℕ) → free (graph F s) (place_of F s) d ≡ true → withdrawn d ≡ false
  free-flies d f = by_cases (withdrawn d)
      (λ x. let same : place_of F s d ≡ last d = ap (λ (b : Bool). cond b (last d) (place d)) x in absurd (omega (arith, same, free-unfinished (graph F s) (place_of F s) d f)))
      (λ x. x)

  pub free-goes : (d : ℕ) → d < drones → free (graph F s) (place_of F s) d ≡ true → under_way d ≡ false → MayGo F s d
  free-goes d l f i = record {
    waiting = record { exists = l; not_withdrawn = flies; unfinished = subst (λ (n : ℕ). n < last d) (place_counts d flies) (free-unfinished (graph F s) (place_of F s) d f); idle = i };
    met = λ w (h, q, k). met w q (free_open (graph F s) (place_of F s) d f w h q (k ∙ ap suc (sym (place_counts d flies))));
  }
    where
      flies : withdrawn d ≡ false
      flies = free-flies d f

      met : (w : ℕ) → (now w).second ≡ d → ((graph F s).wait w).until ≤ place_of F s (now w).first → Met F s w
      met w q h = by_cases (withdrawn (now w).first)
          (λ o. inl o)
          (λ o. until-met w d q flies (subst (λ (n : ℕ). ((graph F s).wait w).until ≤ n) (place_counts (now w).first o) h))

  pub grant_waits : (d w : ℕ) → (reply_in F s (grant d) ≡ must_wait w) ↔ MustWait F s d w
  unfolding reply_in
  grant_waits d w = (to, from)
    where
      waits : unmet F s d ≡ w → ltb (unmet F s d) count ≡ true → Waiting F s d → MustWait F s d w
      waits q e x =
          let l : unmet F s d < count = ltb-true (unmet F s d) count e in
          let b = blocks_true (graph F s) place d w (rw q at ((first_unmet d).found l)) in
          record {
            waiting = x;
            into_next = (omega arith, b.is_waiter, b.is_next);
            unmet = λ m. omega (arith, b.is_open, met-until w m);
            lowest = λ v h i. met_if d v x.not_withdrawn ((first_unmet d).skipped v (omega arith)) i;
          }

      to : first_that_holds (refusals F s (grant d)) ≡ must_wait w → MustWait F s d w
      to e =
          let (a, r) = further (said (refusals F s (grant d)) (must_wait w) e) (omega arith) in
          let (x, r) = further r (omega arith) in
          let (b, r) = further r (omega arith) in
          let (c, r) = further r (omega arith) in
          elim r [ inl (u, q) ↦ waits (ap awaited q) u (waiting_rows a x b c) | inr (u, q) ↦ differ q (omega arith) ]

      from : MustWait F s d w → first_that_holds (refusals F s (grant d)) ≡ must_wait w
      from m =
          let x = m.waiting in
          let (l, q, k) = m.into_next in
          let lowest : unmet F s d ≡ w = first_is (blocks (graph F s) place d) count w l (blocks_open (graph F s) place d w q k ∙ lt-ltb (place (now w).first) ((graph F s).wait w).until (not-met q x.not_withdrawn m.unmet)) (λ v h. if_met d v (omega arith) (m.lowest v h)) in
          rw (lt-leb drones d x.exists, x.not_withdrawn, lt-leb (last d) (place d) x.unfinished, x.idle, lt-ltb (unmet F s d) count (omega arith)) (ap must_wait lowest)
        where
          not-met : (now w).second ≡ d → withdrawn d ≡ false → (Met F s w → ⊥) → place (now w).first < ((graph F s).wait w).until
          not-met q x n = by_cases (ltb (place (now w).first) ((graph F s).wait w).until) (λ e. ltb-true _ _ e) (λ e. absurd (n (until-met w d q x (ltb-false _ _ e))))

  -- ---- arrive

  pub arrive-accepted : (d : ℕ) → (reply_in F s (arrive d) ≡ accepted) ↔ MayArrive F s d
  unfolding reply_in
  arrive-accepted d = (to, from)
    where
      to : first_that_holds (refusals F s (arrive d)) ≡ accepted → MayArrive F s d
      to e =
          let (a, r) = further (said (refusals F s (arrive d)) accepted e) (omega arith) in
          let (x, r) = further r (omega arith) in
          let (b, r) = further r (omega arith) in
          record { exists = leb-false drones d a; not_withdrawn = x; under_way = not-false (under_way d) b }

      from : MayArrive F s d → first_that_holds (refusals F s (arrive d)) ≡ accepted
      from m = rw (lt-leb drones d m.exists, m.not_withdrawn, m.under_way) refl

  -- ---- withdraw

  pub withdraw-accepted : (d : ℕ) → (reply_in F s (withdraw d) ≡ accepted) ↔ MayWithdraw F s d
  unfolding reply_in
  withdraw-accepted d = (to, from)
    where
      to : first_that_holds (refusals F s (withdraw d)) ≡ accepted → MayWithdraw F s d
      to e =
          let (a, r) = further (said (refusals F s (withdraw d)) accepted e) (omega arith) in
          let (x, r) = further r (omega arith) in
          record { exists = leb-false drones d a; not_withdrawn = x }

      from : MayWithdraw F s d → first_that_holds (refusals F s (withdraw d)) ≡ accepted
      from m = rw (lt-leb drones d m.exists, m.not_withdrawn) refl

  -- ---- 25

  -- the rows of 20 and 25, before rows that never say 25
  gone_rows : (d : ℕ) (rest : List Check) → reply_number (first_that_holds rest) ≢ 25 → (first_that_holds (when (leb drones d) (refused 20) ∷ when (withdrawn d) (refused 25) ∷ rest) ≡ refused 25) ↔ IsWithdrawn F s d
  gone_rows d rest n = (λ e. go (leb drones d) refl (withdrawn d) refl e, λ m. rw (lt-leb drones d m.exists, m.is_withdrawn) refl)
    where
      go : (a : Bool) → leb drones d ≡ a → (b : Bool) → withdrawn d ≡ b → first_that_holds (when a (refused 20) ∷ when b (refused 25) ∷ rest) ≡ refused 25 → IsWithdrawn F s d
      go true p b q e = differ e (omega arith)
      go false p true q e = record { exists = leb-false drones d p; is_withdrawn = q }
      go false p false q e = absurd (n (ap reply_number e))

  pub grant-gone : (d : ℕ) → (reply_in F s (grant d) ≡ refused 25) ↔ IsWithdrawn F s d
  unfolding reply_in
  grant-gone d = gone_rows d (when (leb (last d) (place d)) (refused 21) ∷ when (under_way d) (refused 22) ∷ when (ltb (unmet F s d) count) (must_wait (unmet F s d)) ∷ []) (rest (leb (last d) (place d)) (under_way d) (ltb (unmet F s d) count))
    where
      rest : (a b c : Bool) → reply_number (first_that_holds (when a (refused 21) ∷ when b (refused 22) ∷ when c (must_wait (unmet F s d)) ∷ [])) ≢ 25
      rest true b c = omega arith
      rest false true c = omega arith
      rest false false true = omega arith
      rest false false false = omega arith

  pub arrive-gone : (d : ℕ) → (reply_in F s (arrive d) ≡ refused 25) ↔ IsWithdrawn F s d
  unfolding reply_in
  arrive-gone d = gone_rows d (when (not (under_way d)) (refused 24) ∷ []) (rest (not (under_way d)))
    where
      rest : (a : Bool) → reply_number (first_that_holds (when a (refused 24) ∷ [])) ≢ 25
      rest true = omega arith
      rest false = omega arith

  pub withdraw-gone : (d : ℕ) → (reply_in F s (withdraw d) ≡ refused 25) ↔ IsWithdrawn F s d
  unfolding reply_in
  withdraw-gone d = gone_rows d [] (omega arith)

  -- who is told to wait waits for no withdrawn drone
  pub waits_for_others : (d w : ℕ) → MustWait F s d w → of_withdrawn F s w ≡ false
  waits_for_others d w m = by_cases (withdrawn (now w).first)
      (λ o. absurd (m.unmet (inl o)))
      (λ o. none_now w o (ap withdrawn m.into_next.1 ∙ m.waiting.not_withdrawn))

  -- ---- turn

  unentered : {d k : ℕ} → entered F s d k ≡ false → Unentered F s d k
  unentered {d} {k} e =
      let past : place d < k = leb-false k (place d) (or_left (leb k (place d)) _ e) in
      (past, λ u. let n : k ≢ suc (place d) = eqb-false k (suc (place d)) (sym (ap (λ (b : Bool). b && eqb k (suc (place d))) u) ∙ or_right (leb k (place d)) _ e) in omega arith)

  unentered_is : {d k : ℕ} → Unentered F s d k → entered F s d k ≡ false
  unentered_is {d} {k} (past, ahead) = by_cases (under_way d)
      (λ u. let beyond = ahead u in rw (lt-leb k (place d) past, u) (ne_eqb k (suc (place d)) (omega arith)))
      (λ u. rw (lt-leb k (place d) past, u) refl)

  pub unfixed_is : {w : ℕ} → (dependency w).first_stop ≢ 0 → (dependency w).second_stop ≢ last (dependency w).second → fixed F w ≡ false
  unfixed_is {w} a b = rw (ne_eqb (dependency w).first_stop 0 a, ne_eqb (dependency w).second_stop (last (dependency w).second) b) refl

  -- where the second drone has entered its stop, the first has left its own
  second_then_first : waits_kept F s ≡ true → (w : ℕ) → w < count → of_withdrawn F s w ≡ false → entered F s (dependency_now F s w).second (dependency_now F s w).second_stop ≡ true → entered F s (dependency_now F s w).first (dependency_now F s w).first_stop ≡ true
  unfolding waits_kept
  second_then_first k w l o h =
      let kept : ((graph F s).wait w).until ≤ place (now w).first = leb-true _ _ (rw h at (all_below-at count _ k w l)) in
      let left : suc (now w).first_stop ≤ place (now w).first = subst (λ (out : Bool). until_if out w ≤ place (now w).first) o kept in
      rw (le-leb (dependency_now F s w).first_stop (place (dependency_now F s w).first) (omega arith)) refl

  -- so a test of the first is one of both
  second_too : waits_kept F s ≡ true → (w : ℕ) → w < count → of_withdrawn F s w ≡ false → entered F s (dependency_now F s w).first (dependency_now F s w).first_stop ≡ false → entered F s (dependency_now F s w).second (dependency_now F s w).second_stop ≡ false
  second_too k w l o f = by_cases (entered F s (dependency_now F s w).second (dependency_now F s w).second_stop) (λ e. true_or_false (second_then_first k w l o e) f) (λ e. e)

  pub second_unentered : waits_kept F s ≡ true → (w : ℕ) → w < count → of_withdrawn F s w ≡ false → Unentered F s (dependency_now F s w).first (dependency_now F s w).first_stop → Unentered F s (dependency_now F s w).second (dependency_now F s w).second_stop
  second_unentered k w l o u = unentered (second_too k w l o (unentered_is u))

  -- dependency w passes 30, 35, 31 and 32
  abbrev pub Passes : ℕ → Type 0
  Passes w = (leb count w ≡ false) × (of_withdrawn F s w ≡ false) × (fixed F w ≡ false) × (entered F s (dependency_now F s w).first (dependency_now F s w).first_stop ≡ false)

  -- the order in force or the planned one: the two drones are the same
  pub turnable : waits_kept F s ≡ true → {w : ℕ} → Passes w → Turnable F s w
  turnable k {w} (a, o, b, c) = record {
    exists = leb-false count w a;
    none_withdrawn = o;
    not_first = eqb-false _ _ (or_left _ _ b);
    not_last = eqb-false _ _ (or_right (eqb (dependency w).first_stop 0) _ b);
    first_before = both.0;
    second_before = both.1;
  }
    where
      planned : (t : Bool) → entered F s (in_force t (dependency w)).first (in_force t (dependency w)).first_stop ≡ false → entered F s (in_force t (dependency w)).second (in_force t (dependency w)).second_stop ≡ false → Unentered F s (dependency w).first (dependency w).first_stop × Unentered F s (dependency w).second (dependency w).second_stop
      planned false c d = (unentered c, unentered d)
      planned true c d = (unentered d, unentered c)

      both : Unentered F s (dependency w).first (dependency w).first_stop × Unentered F s (dependency w).second (dependency w).second_stop
      both = planned (turned w) c (second_too k w (leb-false count w a) o c)

  first_unentered : {w : ℕ} (t : Bool) → Turnable F s w → entered F s (in_force t (dependency w)).first (in_force t (dependency w)).first_stop ≡ false
  first_unentered true m = unentered_is m.second_before
  first_unentered false m = unentered_is m.first_before

  pub passes : {w : ℕ} → Turnable F s w → Passes w
  passes {w} m = (lt-leb count w m.exists, m.none_withdrawn, unfixed_is m.not_first m.not_last, first_unentered (turned w) m)

  -- ---- a list of dependencies, walked

  -- a reply other than 30, 35, 31 and 32 comes from the rows after the walk, and each dependency of the list passed
  walk_said : (ws : List ℕ) (after : List Check) (r : Reply) → 30 ≢ reply_number r → 35 ≢ reply_number r → 31 ≢ reply_number r → 32 ≢ reply_number r → Said (walked_rows F s ws after) r → ((w : ℕ) → is_in w ws ≡ true → Passes w) × Said after r
  unfolding is_in
  walk_said [] after r x v y z h = (λ w e. true_or_false e refl, h)
  walk_said (w ∷ ws) after r x v y z h =
      let (a, h) = further h x in
      let (o, h) = further h v in
      let (b, h) = further h y in
      let (c, h) = further h z in
      let (each, h) = walk_said ws after r x v y z h in
      (each_more Passes w ws (a, o, b, c) each, h)

  pub walk_passed : (ws : List ℕ) (after : List Check) → ((w : ℕ) → is_in w ws ≡ true → Passes w) → first_that_holds (walked_rows F s ws after) ≡ first_that_holds after
  walk_passed [] after h = refl
  walk_passed (w ∷ ws) after h = let (a, o, b, c) = h w (in_head w ws) in rw (a, o, b, c) (walk_passed ws after (λ v e. h v (in_tail v w ws e)))

  -- 34's row
  abbrev pub cycle_row : List ℕ → List Check
  cycle_row ws = when (cyclic (graph F (after_turns s ws))) (refused 34) ∷ []

  group_said : waits_kept F s ≡ true → (ws : List ℕ) (r : Reply) → 36 ≢ reply_number r → 30 ≢ reply_number r → 35 ≢ reply_number r → 31 ≢ reply_number r → 32 ≢ reply_number r → reply_in F s (turn_all ws) ≡ r → Group ws × (AllTurnable F s ws × Said (cycle_row ws) r)
  unfolding reply_in
  group_said k ws r n x v y z e =
      let (a, h) = further (said (refusals F s (turn_all ws)) r e) n in
      let (each, h) = walk_said ws (cycle_row ws) r x v y z h in
      ((group_iff ws).0 (not-false (is_group ws) a), (λ w i. turnable k (each w i), h))

  group_from : (ws : List ℕ) → Group ws → AllTurnable F s ws → reply_in F s (turn_all ws) ≡ first_that_holds (cycle_row ws)
  unfolding reply_in
  group_from ws g m = rw ((group_iff ws).1 g) (walk_passed ws (cycle_row ws) (λ w i. passes (m w i)))

  pub group_accepted : waits_kept F s ≡ true → (ws : List ℕ) → (reply_in F s (turn_all ws) ≡ accepted) ↔ (Group ws × (AllTurnable F s ws × (cyclic (graph F (after_turns s ws)) ≡ false)))
  group_accepted k ws = (
    λ e. let (g, x) = group_said k ws accepted (omega arith) (omega arith) (omega arith) (omega arith) (omega arith) e in (g, (x.0, (further x.1 (omega arith)).0)),
    λ (g, x). group_from ws g x.0 ∙ rw x.1 refl,
  )

  pub group_cycle : waits_kept F s ≡ true → (ws : List ℕ) → (reply_in F s (turn_all ws) ≡ refused 34) ↔ (Group ws × (AllTurnable F s ws × (cyclic (graph F (after_turns s ws)) ≡ true)))
  group_cycle k ws = (
    λ e. let (g, x) = group_said k ws (refused 34) (omega arith) (omega arith) (omega arith) (omega arith) (omega arith) e in (g, (x.0, elim x.1 [ inl (f, q) ↦ f | inr (f, q) ↦ differ q (omega arith) ])),
    λ (g, x). group_from ws g x.0 ∙ rw x.1 refl,
  )

  -- every row after 36's has another number
  walk_other : (ws : List ℕ) (after : List Check) (n : ℕ) → n ≢ 30 → n ≢ 35 → n ≢ 31 → n ≢ 32 → reply_number (first_that_holds after) ≢ n → reply_number (first_that_holds (walked_rows F s ws after)) ≢ n
  walk_other [] after n x v y z h = h
  walk_other (w ∷ ws) after n x v y z h = go (leb count w) (of_withdrawn F s w) (fixed F w) (entered F s (dependency_now F s w).first (dependency_now F s w).first_stop) (walk_other ws after n x v y z h)
    where
      go : (a o b c : Bool) → reply_number (first_that_holds (walked_rows F s ws after)) ≢ n → reply_number (first_that_holds (when a (refused 30) ∷ when o (refused 35) ∷ when b (refused 31) ∷ when c (refused 32) ∷ walked_rows F s ws after)) ≢ n
      go true o b c k = λ e. omega arith
      go false true b c k = λ e. omega arith
      go false false true c k = λ e. omega arith
      go false false false true k = λ e. omega arith
      go false false false false k = k

  pub no_group : (ws : List ℕ) → (reply_in F s (turn_all ws) ≡ refused 36) ↔ (Group ws → ⊥)
  unfolding reply_in
  no_group ws = (
    λ e g. walk_other ws (cycle_row ws) 36 (omega arith) (omega arith) (omega arith) (omega arith) (last_row (cyclic (graph F (after_turns s ws)))) (ap reply_number (rw ((group_iff ws).1 g) at e)),
    λ n. by_cases (is_group ws) (λ q. absurd (n ((group_iff ws).0 q))) (λ q. rw q refl),
  )
    where
      last_row : (b : Bool) → reply_number (first_that_holds (when b (refused 34) ∷ [])) ≢ 36
      last_row true = omega arith
      last_row false = omega arith

  -- which of 30, 35, 31 and 32 is said: that of the first dependency of the list that does not pass, whatever rows come after
  pub record FirstStopped (ws : List ℕ) (n : ℕ) : Type 0 where
    pub index : ℕ
    pub index_in : index < length ws
    pub stops : (rest : List Check) → first_that_holds (walked_rows F s (at ws index ∷ []) rest) ≡ refused n
    pub passed_before : (j : ℕ) → j < index → Passes (at ws j)

  pub walk_first : (ws : List ℕ) (after : List Check) (n : ℕ) → reply_number (first_that_holds after) ≢ n → first_that_holds (walked_rows F s ws after) ≡ refused n → FirstStopped ws n
  walk_first [] after n h e = absurd (h (ap reply_number e))
  walk_first (w ∷ ws) after n h e = go (leb count w) refl (of_withdrawn F s w) refl (fixed F w) refl (entered F s (dependency_now F s w).first (dependency_now F s w).first_stop) refl e (walk_first ws after n h)
    where
      here : ((rest : List Check) → first_that_holds (walked_rows F s (w ∷ []) rest) ≡ refused n) → FirstStopped (w ∷ ws) n
      here stops = record { index = 0; index_in = omega arith; stops = stops; passed_before = λ j l. absurd (omega arith) }

      before : Passes w → (i : ℕ) → ((j : ℕ) → j < i → Passes (at ws j)) → (j : ℕ) → j < suc i → Passes (at (w ∷ ws) j)
      before p i g zero l = p
      before p i g (suc j) l = g j (omega arith)

      go : (a : Bool) → leb count w ≡ a → (o : Bool) → of_withdrawn F s w ≡ o → (b : Bool) → fixed F w ≡ b → (c : Bool) → entered F s (dependency_now F s w).first (dependency_now F s w).first_stop ≡ c → first_that_holds (when a (refused 30) ∷ when o (refused 35) ∷ when b (refused 31) ∷ when c (refused 32) ∷ walked_rows F s ws after) ≡ refused n → (first_that_holds (walked_rows F s ws after) ≡ refused n → FirstStopped ws n) → FirstStopped (w ∷ ws) n
      go true p o v b q c r e k = here (λ rest. rw p e)
      go false p true v b q c r e k = here (λ rest. rw (p, v) e)
      go false p false v true q c r e k = here (λ rest. rw (p, v, q) e)
      go false p false v false q true r e k = here (λ rest. rw (p, v, q, r) e)
      go false p false v false q false r e k = let f = k e in record { index = suc f.index; index_in = omega (arith, f.index_in); stops = f.stops; passed_before = before (p, v, q, r) f.index f.passed_before }

  cycle_other : (ws : List ℕ) (n : ℕ) → 30 ≤ n → n ≢ 34 → reply_number (first_that_holds (cycle_row ws)) ≢ n
  cycle_other ws n x z = go (cyclic (graph F (after_turns s ws)))
    where
      go : (b : Bool) → reply_number (first_that_holds (when b (refused 34) ∷ [])) ≢ n
      go true = λ e. omega arith
      go false = λ e. omega arith

  pub group_stopped : (ws : List ℕ) (n : ℕ) → 30 ≤ n → n ≤ 35 → n ≢ 34 → reply_in F s (turn_all ws) ≡ refused n → Group ws × FirstStopped ws n
  unfolding reply_in
  group_stopped ws n x y z e = by_cases (is_group ws)
      (λ g. ((group_iff ws).0 g, walk_first ws (cycle_row ws) n (cycle_other ws n x z) (rw g at e)))
      (λ g. absurd (let q : ◌≡◌ {A = ℕ} 36 n = ap reply_number (rw g at e) in omega arith))

  -- ---- one turn is the list of length one

  pub one_stopped : (w n : ℕ) → 30 ≤ n → n ≢ 34 → reply_in F s (turn w) ≡ refused n → (rest : List Check) → first_that_holds (walked_rows F s (w ∷ []) rest) ≡ refused n
  unfolding reply_in
  one_stopped w n x z e rest =
      let f = walk_first (w ∷ []) (cycle_row (w ∷ [])) n (cycle_other (w ∷ []) n x z) e in
      let first : f.index ≡ 0 = omega (arith, f.index_in) in
      subst (λ (i : ℕ). first_that_holds (walked_rows F s (at (w ∷ []) i ∷ []) rest) ≡ refused n) first (f.stops rest)

  pub turn_aside : (w : ℕ) → (reply_in F s (turn w) ≡ refused 35) ↔ ((w < count) × (of_withdrawn F s w ≡ true))
  unfolding reply_in
  turn_aside w = (
    λ e. go (leb count w) refl (of_withdrawn F s w) refl (fixed F w) (entered F s (now w).first (now w).first_stop) (cyclic (graph F (after_turns s (w ∷ [])))) e,
    λ (l, o). rw (lt-leb count w l, o) refl,
  )
    where
      go : (a : Bool) → leb count w ≡ a → (o : Bool) → of_withdrawn F s w ≡ o → (b c x : Bool) → first_that_holds (when a (refused 30) ∷ when o (refused 35) ∷ when b (refused 31) ∷ when c (refused 32) ∷ when x (refused 34) ∷ []) ≡ refused 35 → (w < count) × (of_withdrawn F s w ≡ true)
      go true p o q b c x e = differ e (omega arith)
      go false p true q b c x e = (leb-false count w p, q)
      go false p false q true c x e = differ e (omega arith)
      go false p false q false true x e = differ e (omega arith)
      go false p false q false false true e = differ e (omega arith)
      go false p false q false false false e = differ e (omega arith)

  pub one_reply : (w : ℕ) → reply_in F s (turn w) ≡ reply_in F s (turn_all (w ∷ []))
  unfolding reply_in is_in
  one_reply w = refl

  pub one_group : (w : ℕ) → Group (w ∷ [])
  one_group w = (group_iff (w ∷ [])).0 refl

  pub one_turnable : (w : ℕ) → AllTurnable F s (w ∷ []) ↔ Turnable F s w
  unfolding is_in
  one_turnable w = (λ m. m w (in_head w []), λ m. each_more (Turnable F s) w [] m (λ v e. true_or_false e refl))

  -- ---- what an accepted call passed

  pub grant_passed : (d : ℕ) → is_accepted (reply_in F s (grant d)) ≡ true → MayGo F s d
  grant_passed d e = (grant-accepted d).0 (is_accepted_lem _ e)

  pub arrive_passed : (d : ℕ) → is_accepted (reply_in F s (arrive d)) ≡ true → MayArrive F s d
  arrive_passed d e = (arrive-accepted d).0 (is_accepted_lem _ e)

  pub withdraw_passed : (d : ℕ) → is_accepted (reply_in F s (withdraw d)) ≡ true → MayWithdraw F s d
  withdraw_passed d e = (withdraw-accepted d).0 (is_accepted_lem _ e)

  pub group_passed : waits_kept F s ≡ true → (ws : List ℕ) → is_accepted (reply_in F s (turn_all ws)) ≡ true → Group ws × (AllTurnable F s ws × (cyclic (graph F (after_turns s ws)) ≡ false))
  group_passed k ws e = (group_accepted k ws).0 (is_accepted_lem _ e)
