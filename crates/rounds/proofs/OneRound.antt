-- One round on flat tables: a drone goes on where it is short of its last stop and the waits into its next stop, gone through by their links, are met; it flies a round, or comes to that
-- stop when its leg is full. Assumes nothing.
use mathlib.Core.Path.{◌≡◌, refl, sym, ap, ◌∙◌, subst}
use mathlib.Core.Logic.{◌≢◌}
use mathlib.Core.List.{List}
use mathlib.Core.Bool.{true, false}
use Prim.Native.Nat.{ℕ, suc, ◌+◌, ◌-◌, ◌≤◌, ◌<◌}
use native.Mathlib.Omega.{arith}
use lib.Dec.{ltb, eqb}
use lib.ListN.{length}
use borrow.Author.Tests.{ltb-true, ltb-false, eqb-true, eqb-false, eq-eqb, ne_eqb}
use Rattle.below.proofs.Tests.{by_cases}
use Rattle.below.proofs.Links.{last_le, last_found, last_above}
use Rattle.below.specs.Below.{last_below, at}
use Rattle.precedence.specs.Graph.{Plan, Headway, free, fly_round}
use Rattle.precedence.proofs.Rounds.{free_open, free_if, free-finished}
use Rattle.precedence.proofs.Legs.{fly_waits, flies-on, flies_home}
use Rattle.cycles.specs.Flat.{flat_plan, FlatTables}
use Rattle.cycles.specs.Links.{LinkedWaits}
use Rattle.tables.specs.Limits.{Limits}
use Rattle.rounds.specs.Remaining.{OwnedStop, flat_leg}
use Rattle.rounds.specs.Playing.{Scanning, NextWaits, Looked, SteppedBelow, Aloft, on_copy, Flew}

module _ {L : Limits} (owners starts lasts : List ℕ) (drones n : ℕ) (from into : List ℕ) (m : ℕ) (T : FlatTables L owners starts lasts drones n from into m) where
  abbrev P : Plan
  P = flat_plan (at owners) (at starts) (at lasts) drones (at from) (at into) m

  pub stop_in : (v : ℕ) → v < n → OwnedStop L owners (at starts) v
  stop_in v l = record { stop_in = omega (arith, T.few_stops); owned = omega (arith, T.has_owners); owner_in_lem = omega (arith, T.placed.shape.own_in v l, T.few_drones); past = T.placed.shape.off_le v l }

  module _ (p : ℕ → ℕ) where
    -- ---- the waits into the next stop v of drone d

    module _ (d : ℕ) (l : d < drones) (short : p d < at lasts d) (v : ℕ) (ev : v ≡ at starts d + p d + 1) where
      pub next_in : v < n
      next_in = omega (arith, ev, T.placed.shape.place_in d (p d + 1) l (omega arith))

      next-own : at owners v ≡ d
      next-own = let q : v ≡ at starts d + (p d + 1) = omega (arith, ev) in ap (at owners) q ∙ T.placed.shape.place_own d (p d + 1) l (omega arith)

      -- a wait into another stop is none of them
      other : (w : ℕ) → w < m → at into w ≢ v → (P.wait w).waiter ≡ d → (P.wait w).stop ≡ suc (p d) → (P.wait w).until ≤ p (P.wait w).awaited
      other w h ne a b = absurd (ne (omega (arith, ev, ap (at starts) a, b, T.placed.shape.off_le (at into w) (T.placed.into_in w h))))

      pub scan_start : (head next : List ℕ) → LinkedWaits L (at into) m head next → (x : ℕ) → x ≡ at head v → Scanning P (at into) p d v x
      scan_start head next K x ex =
          let q : x ≡ last_below m (λ k. eqb (at into k) v) = ex ∙ K.heads v (omega (arith, next_in, T.few_stops)) in
          record {
            within = omega (arith, q, last_le m (λ k. eqb (at into k) v));
            found = λ j e. eqb-true (at into j) v (last_found m (λ k. eqb (at into k) v) j (sym q ∙ e));
            met = λ w a b. other w b (eqb-false (at into w) v (last_above m (λ k. eqb (at into k) v) w (omega (arith, q)) b));
          }

      module _ (x j : ℕ) (ex : x ≡ j + 1) (S : Scanning P (at into) p d v x) where
        pub scan_in : j < m
        scan_in = omega (arith, S.within, ex)

        module _ (next : List ℕ) (N : NextWaits (at into) m next) where
          next_is : at next j ≡ last_below j (λ i. eqb (at into i) (at into j))
          next_is = N j scan_in

          pub scan_falls : (y : ℕ) → y ≡ at next j → y < x
          scan_falls y ey = omega (arith, ex, ey, next_is, last_le j (λ i. eqb (at into i) (at into j)))

          pub scan_more : (y : ℕ) → y ≡ at next j → at from j - at starts (at owners (at from j)) ≤ p (at owners (at from j)) → Scanning P (at into) p d v y
          scan_more y ey over = record {
            within = omega (arith, scan_falls y ey, S.within);
            found = λ i e. eqb-true (at into i) (at into j) (last_found j (λ i. eqb (at into i) (at into j)) i (sym next_is ∙ sym ey ∙ e)) ∙ S.found j ex;
            met = λ w a b. by_cases (ltb w j)
                (λ q. other w b (λ z. eqb-false (at into w) (at into j) (last_above j (λ i. eqb (at into i) (at into j)) w (omega (arith, ey, next_is)) (ltb-true w j q)) (z ∙ sym (S.found j ex))))
                (λ q. by_cases (eqb w j)
                (λ r. subst (λ (k : ℕ). (P.wait k).waiter ≡ d → (P.wait k).stop ≡ suc (p d) → (P.wait k).until ≤ p (P.wait k).awaited) (sym (eqb-true w j r)) (λ e f. over))
                (λ r. let ne : w ≢ j = eqb-false w j r in S.met w (omega (arith, ex, ltb-false w j q)) b));
          }

        pub scan_hit : p (at owners (at from j)) < at from j - at starts (at owners (at from j)) → free P p d ≡ false
        scan_hit shut = by_cases (free P p d)
            (λ e. absurd (omega (arith, free_open P p d e j scan_in is_waiter is_stop)))
            (λ e. e)
          where
            is_waiter : at owners (at into j) ≡ d
            is_waiter = ap (at owners) (S.found j ex) ∙ next-own

            is_stop : at into j - at starts (at owners (at into j)) ≡ suc (p d)
            is_stop = omega (arith, S.found j ex, ap (at starts) is_waiter, ev)

      pub scan_end : Scanning P (at into) p d v 0 → free P p d ≡ true
      scan_end S = free_if P p d short (λ w h. S.met w (omega arith) h)

    -- ---- what a look leaves

    module _ (d : ℕ) (l : d < drones) (short : p d < at lasts d) where
      abbrev v : ℕ
      v = at starts d + p d + 1

      pub looked_shut : (x j : ℕ) → x ≡ j + 1 → Scanning P (at into) p d v x → p (at owners (at from j)) < at from j - at starts (at owners (at from j)) → Looked P (at into) (at starts) p d x
      looked_shut x j ex S shut = record { scanned = λ o. S; goes = λ o. scan_hit d l short v refl x j ex S shut ∙ sym (let ne : x ≢ 0 = λ z. omega arith in ne_eqb x 0 ne) }

      pub looked_open : (x : ℕ) → x ≡ 0 → Scanning P (at into) p d v x → Looked P (at into) (at starts) p d x
      looked_open x e S = record { scanned = λ o. S; goes = λ o. scan_end d l short v refl (rw e at S) ∙ sym (eq-eqb x 0 e) }

    -- ---- others have gone on: what is met stays met

    pub scan_kept : (q : ℕ → ℕ) → ((e : ℕ) → e < drones → p e ≤ q e) → (d link v : ℕ) → p d ≡ q d → Scanning P (at into) p d v link → Scanning P (at into) q d v link
    scan_kept q onward d link v same S = record {
      within = S.within;
      found = S.found;
      met = λ w a b e f. omega (arith, S.met w a b e (f ∙ ap suc (sym same)), onward (at owners (at from w)) (T.placed.shape.own_in (at from w) (T.placed.from_in w b)));
    }

  -- ---- the copy at the start: nobody has flown, and the links are the first ones

  pub aloft_start : (head next : List ℕ) → LinkedWaits L (at into) m head next → (places flown links : List ℕ) → length places ≡ L.drones → length flown ≡ L.drones → length links ≡ L.drones → ((d : ℕ) → at flown d ≡ 0) → ((d : ℕ) → d < drones → at starts d + at places d + 1 < L.stops → at links d ≡ at head (at starts d + at places d + 1)) → Aloft L P (at into) (at starts) places flown links
  aloft_start head next K places flown links a b c none first = record {
    places_size = a;
    flown_size = b;
    links_size = c;
    scanned = λ d l o. scan_start (at places) d l o _ refl head next K (at links d) (first d l (omega (arith, next_in (at places) d l o _ refl, T.few_stops)));
    short = λ d l o. omega (arith, none d);
  }

  -- ---- a round

  module _ (legs head next : List ℕ) (K : LinkedWaits L (at into) m head next) (places flown links : List ℕ) (looked : (d : ℕ) → d < drones → Looked P (at into) (at starts) (at places) d (at links d)) (places' flown' links' : List ℕ) (stepped : SteppedBelow (at starts) (at lasts) (at legs) (at head) drones places places' flown flown' links links') where
    abbrev leg : ℕ → ℕ → ℕ
    leg = flat_leg (at starts) (at legs)

    abbrev h : Headway
    h = on_copy places flown

    -- what a drone does, by the numbers that are compared
    data Deed (d : ℕ) : Type 0 where
      waiting : free P (at places) d ≡ false → at places' d ≡ at places d → at flown' d ≡ at flown d → at links' d ≡ at links d → Deed d
      flying : free P (at places) d ≡ true → at flown d + 1 < leg d (suc (at places d)) → at places' d ≡ at places d → at flown' d ≡ at flown d + 1 → at links' d ≡ at links d → Deed d
      landing : free P (at places) d ≡ true → leg d (suc (at places d)) ≤ at flown d + 1 → at places' d ≡ at places d + 1 → at flown' d ≡ 0 → (at places d + 1 < at lasts d → at links' d ≡ at head (at starts d + at places d + 1 + 1)) → Deed d

    next_leg : (d : ℕ) → at legs (at starts d + at places d + 1) ≡ leg d (suc (at places d))
    next_leg d = ap (at legs) (omega arith)

    deed : (d : ℕ) → d < drones → Deed d
    deed d l = by_cases (ltb (at places d) (at lasts d))
        (λ s. let o : at places d < at lasts d = ltb-true _ _ s in
        by_cases (eqb (at links d) 0)
        (λ z. let f : free P (at places) d ≡ true = (looked d l).goes o ∙ z in
        let q : at links d ≡ 0 = eqb-true _ _ z in
        by_cases (ltb (at flown d + 1) (at legs (at starts d + at places d + 1)))
        (λ c. let (a, b, e) = (stepped.moves d l).flies o q (ltb-true _ _ c) in flying f (omega (arith, next_leg d, ltb-true (at flown d + 1) (at legs (at starts d + at places d + 1)) c)) a b e)
        (λ c. let (a, b, e) = (stepped.moves d l).lands o q (ltb-false _ _ c) in landing f (omega (arith, next_leg d, ltb-false (at flown d + 1) (at legs (at starts d + at places d + 1)) c)) a b e))
        (λ z. let (a, b, e) = (stepped.moves d l).waits (λ o q. eqb-false _ _ z q) in waiting ((looked d l).goes o ∙ z) a b e))
        (λ s. let o : at lasts d ≤ at places d = ltb-false _ _ s in
        let (a, b, e) = (stepped.moves d l).waits (λ o' q. omega arith) in waiting (free-finished P (at places) d o) a b e)

    onward : (d : ℕ) → d < drones → at places d ≤ at places' d
    onward d l = elim (deed d l) [
      | waiting f a b e ↦ omega arith
      | flying f c a b e ↦ omega arith
      | landing f c a b e ↦ omega arith
    ]

    pub flew : Flew P leg places flown places' flown'
    flew = record { places_are = λ d l. (one d (deed d l)).0; flown_are = λ d l. (one d (deed d l)).1 }
      where
        one : (d : ℕ) → Deed d → (at places' d ≡ (fly_round P leg h).place d) × (at flown' d ≡ (fly_round P leg h).flown d)
        one d (waiting f a b e) = (a ∙ sym (fly_waits P leg h d f).0, b ∙ sym (fly_waits P leg h d f).1)
        one d (flying f c a b e) = let r = flies-on P leg h d f (omega arith) in (a ∙ sym r.0, omega (arith, r.1))
        one d (landing f c a b e) = let r = flies_home P leg h d f (omega arith) in (omega (arith, r.0), b ∙ sym r.1)

    -- the copy after the round
    module _ (size : (length places ≡ L.drones) × (length flown ≡ L.drones) × (length links ≡ L.drones)) (short : (d : ℕ) → d < drones → at places d < at lasts d → at flown d ≤ L.leg) (short_legs : (v : ℕ) → v < n → at legs v ≤ L.leg) where
      pub aloft_after : Aloft L P (at into) (at starts) places' flown' links'
      aloft_after = record {
        places_size = stepped.places_size ∙ size.0;
        flown_size = stepped.flown_size ∙ size.1;
        links_size = stepped.links_size ∙ size.2;
        scanned = λ d l o. scan d l o (deed d l);
        short = λ d l o. brief d l o (deed d l);
      }
        where
          same_scan : (d : ℕ) → d < drones → at places' d < at lasts d → at places' d ≡ at places d → at links' d ≡ at links d → Scanning P (at into) (at places') d (at starts d + at places' d + 1) (at links' d)
          same_scan d l o a e = rw (e, a) (scan_kept (at places) (at places') onward d (at links d) (at starts d + at places d + 1) (sym a) ((looked d l).scanned (omega arith)))

          scan : (d : ℕ) → d < drones → at places' d < at lasts d → Deed d → Scanning P (at into) (at places') d (at starts d + at places' d + 1) (at links' d)
          scan d l o (waiting f a b e) = same_scan d l o a e
          scan d l o (flying f c a b e) = same_scan d l o a e
          scan d l o (landing f c a b e) = scan_start (at places') d l o _ refl head next K (at links' d) (e (omega arith) ∙ ap (at head) (omega arith))

          brief : (d : ℕ) → d < drones → at places' d < at lasts d → Deed d → at flown' d ≤ L.leg
          brief d l o (waiting f a b e) = omega (arith, short d l (omega arith))
          brief d l o (flying f c a b e) = omega (arith, next_leg d, short_legs (at starts d + at places d + 1) (next_in (at places) d l (omega arith) _ refl))
          brief d l o (landing f c a b e) = omega arith
