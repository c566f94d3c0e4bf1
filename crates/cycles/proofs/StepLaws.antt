-- A walk's steps as the code takes them: a drone advances, and the waits for its stop are gone through by their links. Assumes nothing.
use mathlib.Core.Path.{◌≡◌, refl, sym, ap, ◌∙◌, subst}
use mathlib.Core.Logic.{◌≢◌}
use mathlib.Core.List.{List}
use Prim.Native.Nat.{ℕ, ◌+◌, ◌-◌, ◌≤◌, ◌<◌, max}
use native.Mathlib.Omega.{arith}
use lib.Dec.{eqb}
use lib.ListN.{set}
use borrow.Author.Tests.{eqb-true, eqb-false}
use Rattle.below.specs.Below.{at, pick, last_below}
use Rattle.below.proofs.Tests.{by_cases}
use Rattle.tables.specs.Limits.{Limits}
use Rattle.cycles.specs.Flat.{PlacedWaits}
use Rattle.cycles.specs.Links.{LinkedWaits}
use Rattle.cycles.specs.Walk.{Course, left, met_at, met_from, can_move, Walking, MeetingWaits, Advanced, Wakes, OneMet}
use Rattle.below.proofs.Links.{last_le, last_found, last_above}
use Rattle.cycles.proofs.MetLaws.{met_end, met_skip, met-before, met_now, met_others, needs_some}
use Rattle.cycles.proofs.WalkLaws.{mover_next, own-next, here, left_falls, walking_move, walking-same, walking_quiet, walking_wake}

module _ {L : Limits} (C : Course) (placed : PlacedWaits C.own C.off C.last C.drones C.stops C.from C.into C.waits) (few : C.stops ≤ L.stops) (few_drones : C.drones ≤ L.drones) where
  open C use {own, off, last, drones, stops, from, into, waits}

  -- ---- the links

  module _ {leg : ℕ → ℕ} {g b : ℕ} {start cur : List ℕ} {v : ℕ} {need stack : List ℕ} {top : ℕ} {t : List ℕ} where
    -- from wait x on, link is one more than the next wait for v below it
    meeting_at : (x link : ℕ) → x ≤ waits → link ≡ last_below x (λ k. eqb (from k) v) → v < stops → v ≤ at cur (own v) → Walking L C leg g b start (met_from C (at cur) v x) cur need stack top t → MeetingWaits L C leg g b start cur v link need stack top t
    meeting_at x link h e i s W = record {
      walking = walking-same C placed _ _ (λ k l. met_skip C (at cur) v x link (omega (arith, last_le x (λ k. eqb (from k) v))) (λ k a b. last_above x (λ k. eqb (from k) v) k (omega arith) b) k) W;
      stop_in = i;
      seen = s;
      within = omega (arith, last_le x (λ k. eqb (from k) v));
      found = λ j q. eqb-true (from j) v (last_found x (λ k. eqb (from k) v) j (sym e ∙ q));
    }

    -- no wait is left
    pub meeting_end : {link : ℕ} → link ≡ 0 → MeetingWaits L C leg g b start cur v link need stack top t → Walking L C leg g b start (met_at own from (at cur)) cur need stack top t
    meeting_end {link} e M = walking-same C placed _ _ (λ k l. met_end C (at cur) v M.seen k) (subst (λ (x : ℕ). Walking L C leg g b start (met_from C (at cur) v x) cur need stack top t) e M.walking)

  module _ {leg : ℕ → ℕ} {g b : ℕ} {start cur : List ℕ} {v : ℕ} {need stack : List ℕ} {top : ℕ} {t : List ℕ} where
    -- the next one is met
    module _ {link : ℕ} (M : MeetingWaits L C leg g b start cur v link need stack top t) (open-link : link ≢ 0) (w : ℕ) (ew : w ≡ into (link - 1)) where
      k : ℕ
      k = link - 1

      link_is : link ≡ k + 1
      unfolding k
      link_is = omega arith

      k_in : k < waits
      unfolding k
      k_in = omega (arith, M.within)

      k_for : from k ≡ v
      k_for = M.found k link_is

      before : Walking L C leg g b start (met_from C (at cur) v (k + 1)) cur need stack top t
      before = subst (λ (x : ℕ). Walking L C leg g b start (met_from C (at cur) v x) cur need stack top t) link_is M.walking

      into_k : w ≡ into k
      unfolding k
      into_k = ew

      pub waiter_in : w < stops
      waiter_in = rw into_k (placed.into_in k k_in)

      pub waiter_drone : own w < drones
      waiter_drone = placed.shape.own_in w waiter_in

      pub waiter_needs : 1 ≤ at need w
      waiter_needs = rw into_k (needs_some C before.needs k k_in (placed.into_in k k_in) (met-before C (at cur) v k k_for))

      seen_from : from k ≤ at cur (own (from k))
      seen_from = rw k_for M.seen

      module _ (entry : ℕ) (ee : entry ≡ at t v) where
        entry_is : entry ≡ at t (from k)
        entry_is = rw k_for ee

        quietly : (at cur (own w) + 1 ≡ w → at need w - 1 ≢ 0) → Walking L C leg g b start (met_from C (at cur) v k) cur (set need w (at need w - 1)) stack top (set t w (max (at t w) entry))
        quietly = walking_quiet C placed few few_drones (met_from C (at cur) v (k + 1)) (met_from C (at cur) v k) k k_in (met-before C (at cur) v k k_for) (met_now C (at cur) v k k_for) (λ i l ne. met_others C (at cur) v k i ne) before w (at need w - 1) (max (at t w) entry) entry into_k (omega (arith, waiter_needs)) entry_is refl seen_from

        waking : at cur (own w) + 1 ≡ w → at need w - 1 ≡ 0 → (top < L.drones) × Walking L C leg g b start (met_from C (at cur) v k) cur (set need w (at need w - 1)) (set stack top (own w)) (top + 1) (set t w (max (at t w) entry))
        waking = walking_wake C placed few few_drones (met_from C (at cur) v (k + 1)) (met_from C (at cur) v k) k k_in (met-before C (at cur) v k k_for) (met_now C (at cur) v k k_for) (λ i l ne. met_others C (at cur) v k i ne) before w (at need w - 1) (max (at t w) entry) entry into_k (omega (arith, waiter_needs)) entry_is refl seen_from

        pub waiter_room : (at need w ≡ 1) × (at cur (own w) + 1 ≡ w) → top < L.drones
        waiter_room (a, b) = (waking b (omega arith)).0

        module _ (owners : List ℕ) (eo : at owners w ≡ own w) {need' stack' t' : List ℕ} {r : ℕ} (met : OneMet owners cur w entry top need need' stack stack' t t' r) where
          after : Walking L C leg g b start (met_from C (at cur) v k) cur need' stack' r t'
          after = rw (met.need_is, met.table_is) (by_cases (eqb (at need w) 1)
              (λ a. by_cases (eqb (at cur (own w) + 1) w)
              (λ b. let q : Wakes owners cur need w = (eqb-true _ _ a, rw eo (eqb-true _ _ b)) in
              rw ((met.wakes q).0, (met.wakes q).1, eo) (waking (eqb-true _ _ b) (omega (arith, eqb-true (at need w) 1 a))).1)
              (λ b. let q : Wakes owners cur need w → ⊥ = λ h. eqb-false _ _ b (rw eo at h.1) in
              rw ((met.quiet q).0, (met.quiet q).1) (quietly (λ h. absurd (eqb-false _ _ b h)))))
              (λ a. let q : Wakes owners cur need w → ⊥ = λ h. eqb-false _ _ a h.0 in
              let ne : at need w ≢ 1 = eqb-false _ _ a in
              rw ((met.quiet q).0, (met.quiet q).1) (quietly (λ h z. ne (omega (arith, waiter_needs))))))

          pub meeting_more : (head next : List ℕ) → LinkedWaits L from waits head next → (link' : ℕ) → link' ≡ at next (link - 1) → MeetingWaits L C leg g b start cur v link' need' stack' r t'
          unfolding k
          meeting_more head next K link' el = meeting_at k link' (omega (arith, k_in)) (el ∙ K.nexts k k_in ∙ ap (λ (x : ℕ). last_below k (λ j. eqb (from j) x)) k_for) M.stop_in M.seen after

  -- the links fall
  pub meeting_falls : {leg : ℕ → ℕ} {g b : ℕ} {start cur : List ℕ} {v link : ℕ} {need stack : List ℕ} {top : ℕ} {t : List ℕ} → MeetingWaits L C leg g b start cur v link need stack top t → 0 < link → (head next : List ℕ) → LinkedWaits L from waits head next → at next (link - 1) < link
  meeting_falls {link = link} M h head next K = omega (arith, K.nexts (link - 1) (omega (arith, M.within)), last_le (link - 1) (λ j. eqb (from j) (from (link - 1))))

  -- ---- a drone advances

  module _ {leg : ℕ → ℕ} {g b : ℕ} (legs : (v : ℕ) → v < stops → leg v ≤ g) {start cur need stack t : List ℕ} {top : ℕ} (W : Walking L C leg g b start (met_at own from (at cur)) cur need stack top t) (room : 0 < top) (d : ℕ) (ed : d ≡ at stack (top - 1)) where
    pub advance_next : at cur d + 1 < stops
    advance_next = mover_next C placed legs few few_drones W room d (at cur d + 1) 0 ed refl

    module _ {cur' t' : List ℕ} {v : ℕ} (A : Advanced leg d cur cur' t t' v) (r : ℕ) (er : r ≡ pick (can_move off last (at cur') (at need) d) top (top - 1)) where
      pub advance_left : left C (at cur') < left C (at cur)
      advance_left = rw A.cur_is (left_falls C placed legs few few_drones W room d v 0 ed A.at_next)

      own_is : own v ≡ d
      own_is = own-next C placed legs few few_drones W room d v 0 ed A.at_next

      pub advance_stop : v < stops
      advance_stop = mover_next C placed legs few few_drones W room d v 0 ed A.at_next

      advance_seen : v ≤ at cur' (own v)
      advance_seen = rw (own_is, A.cur_is) (omega (arith, here C placed legs few few_drones W room d v 0 ed A.at_next))

      moved : Walking L C leg g b start (met_from C (at cur') v waits) cur' need stack r t'
      moved = rw (A.cur_is, A.table_is) (walking_move C placed legs few few_drones W room d v (leg v + max (at t v) (at t (v - 1))) ed A.at_next refl r (rw A.cur_is at er))

      -- the first of the waits for its stop
      pub advance_meeting : (head next : List ℕ) → LinkedWaits L from waits head next → (link : ℕ) → link ≡ at head v → MeetingWaits L C leg g b start cur' v link need stack r t'
      advance_meeting head next K link el = meeting_at waits link (omega arith) (el ∙ K.heads v (omega (arith, advance_stop))) advance_stop advance_seen moved
