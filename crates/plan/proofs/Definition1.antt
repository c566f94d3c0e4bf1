-- Collisions by timesteps. Two spans that share a timestep share the later of their first timesteps. There one drone has just come: the other is still there, or
-- leaves as it comes. Assumes nothing.
use mathlib.Core.Path.{◌≡◌, refl, sym, ap, ◌∙◌}
use mathlib.Core.Logic.{◌≢◌, ◌⊎◌, inl, inr}
use mathlib.Core.Bool.{Bool, true, false, ◌&&◌}
use Prim.Native.Nat.{ℕ, zero, suc, ◌-◌, ◌≤◌, ◌<◌, max}
use native.Mathlib.Omega.{arith}
use lib.Dec.{ltb, leb, eqb}
use borrow.Author.Tests.{leb-true, leb-false, ltb-true, ltb-false, lt-ltb, eqb-true, eqb-false}
use Rattle.below.proofs.Tests.{by_cases, below_cases, and_left, and_right}
use Rattle.plan.specs.Visits.{Symmetric}
use Rattle.plan.specs.Field.{FieldPlan, GoneBefore, Checked, plan_of}
use Rattle.plan.specs.Claims.{StopsChecked, LocatedAt, Leaves, Enters, Collides, Occupies, SpansShare, Swaps, Never, Definition1}
use Rattle.near.proofs.NearLaws.{meets_same, meets_none}
use Rattle.plan.proofs.Accepted.{plan_symmetric, stops_checked, taken_exactly}

module _ (F : FieldPlan) where
  open F use {drones, last, location, time, meets}

  swap_covered : ((l : ℕ) → meets l l ≡ true) → (i j : ℕ) → Swaps F i j → Collides F i j
  swap_covered self i j w = (location i w.stop_of_i, location i w.stop_of_i, time i (suc w.stop_of_i), self _, inr (record { stop = w.stop_of_i; goes_on = w.i_goes_on; here = refl; then = refl }, record { stop = w.stop_of_j; goes_on = w.j_goes_on; here = w.j_to_i; then = sym w.together }))

  module _ (stops : StopsChecked F) where
    -- ---- one location in each timestep

    -- of the stops up to b, the last that drone d has come to by timestep t
    latest : (d t : ℕ) → d < drones → (b : ℕ) → b ≤ last d → (s : ℕ) × (s ≤ b) × (time d s ≤ t) × (s < b → t < time d (suc s))
    latest d t i zero m = (0, omega arith, omega (arith, stops.starts d i), λ l. absurd (omega arith))
    latest d t i (suc b) m = by_cases (leb (time d (suc b)) t)
        (λ h. (suc b, omega arith, leb-true _ _ h, λ l. absurd (omega arith)))
        (λ h. let (s, k, since, until) = latest d t i b (omega arith) in
        (s, omega arith, since, λ l. elim (below_cases l) [ inl x ↦ until x | inr e ↦ rw e (leb-false _ _ h) ]))

    times_rise : (d s k : ℕ) → d < drones → s ≤ k → k ≤ last d → time d s ≤ time d k
    times_rise d s zero i l m = let e : s ≡ 0 = omega arith in rw e (omega arith)
    times_rise d s (suc k) i l m = by_cases (eqb s (suc k))
        (λ h. rw (eqb-true s (suc k) h) (omega arith))
        (λ h. let ne : s ≢ suc k = eqb-false s (suc k) h in omega (arith, times_rise d s k i (omega arith) (omega arith), stops.rises d k i m))

    one_stop : (d l m t : ℕ) → d < drones → (a : LocatedAt F d l t) (b : LocatedAt F d m t) → a.stop ≡ b.stop
    one_stop d l m t i a b = by_cases (ltb a.stop b.stop) (λ h. absurd (no_later a b (ltb-true _ _ h))) (λ h. by_cases (ltb b.stop a.stop)
        (λ g. absurd (no_later b a (ltb-true _ _ g)))
        (λ g. omega (arith, ltb-false a.stop b.stop h, ltb-false b.stop a.stop g)))
      where
        no_later : {l m : ℕ} (a : LocatedAt F d l t) (b : LocatedAt F d m t) → a.stop < b.stop → ⊥
        no_later a b h = omega (arith, a.until (omega (arith, b.stop_in)), times_rise d (suc a.stop) b.stop i h b.stop_in, b.since)

    one_location : (d t : ℕ) → d < drones → (l : ℕ) × LocatedAt F d l t × ((m : ℕ) → LocatedAt F d m t → l ≡ m)
    one_location d t i =
        let (s, m, since, until) = latest d t i (last d) (omega arith) in
        let here : LocatedAt F d (location d s) t = record { stop = s; stop_in = m; here = refl; since = since; until = until } in
        (location d s, here, λ m b. ap (location d) (one_stop d (location d s) m t i here b) ∙ b.here)

    -- ---- spans, as 004 has them

    at_occupies : (d l t : ℕ) → LocatedAt F d l t → Occupies F d l t
    at_occupies d l t a = record { stop = a.stop; stop_in = a.stop_in; here = a.here; since = a.since; until = λ k. omega (arith, a.until k) }

    leaves_occupies : (d l t : ℕ) → d < drones → Leaves F d l t → Occupies F d l t
    leaves_occupies d l t i a = record { stop = a.stop; stop_in = omega (arith, a.goes_on); here = a.here; since = omega (arith, stops.rises d a.stop i a.goes_on, a.then); until = λ k. omega (arith, a.then) }

    enters_occupies : (d l t : ℕ) → d < drones → Enters F d l t → Occupies F d l t
    enters_occupies d l t i a = record { stop = suc a.stop; stop_in = a.goes_on; here = a.here; since = omega (arith, a.then); until = λ k. omega (arith, a.then, stops.rises d (suc a.stop) i k) }

    collides_share : (i j : ℕ) → i < drones → j < drones → Collides F i j → SpansShare F i j
    collides_share i j x y (l, m, t, q, c) = elim c [
      | inl (a, b) ↦ (l, m, t, q, at_occupies i l t a, at_occupies j m t b)
      | inr (a, b) ↦ (l, m, t, q, leaves_occupies i l t x a, enters_occupies j m t y b)
    ]

    -- ---- a shared timestep is a collision

    -- both are there in the timestep before
    both_before : (i j l m t : ℕ) → meets l m ≡ true → (a : Occupies F i l t) (b : Occupies F j m t) → time i a.stop < t → time j b.stop < t → Collides F i j
    both_before i j l m t q a b x y = (l, m, t - 1, q, inl (earlier i l a x, earlier j m b y))
      where
        earlier : (d l : ℕ) (a : Occupies F d l t) → time d a.stop < t → LocatedAt F d l (t - 1)
        earlier d l a x = record { stop = a.stop; stop_in = a.stop_in; here = a.here; since = omega arith; until = λ k. omega (arith, a.until k) }

    -- i has just come: j is still there, or leaves as i comes
    comes : Symmetric meets → (i j l m t : ℕ) → meets l m ≡ true → i < drones → j < drones → (a : Occupies F i l t) (b : Occupies F j m t) → time i a.stop ≡ t → Collides F i j ⊎ Collides F j i
    comes symmetric i j l m t z x y a b e = by_cases (ltb b.stop (last j) && eqb (time j (suc b.stop)) t)
        (λ h. let k : b.stop < last j = ltb-true _ _ (and_left _ _ h) in
        let q : time j (suc b.stop) ≡ t = eqb-true _ _ (and_right (ltb b.stop (last j)) _ h) in
        inr (m, l, t, symmetric l m z, inr (record { stop = b.stop; goes_on = k; here = b.here; then = q }, enters a.stop a.stop_in a.here e (omega (arith, stops.rises j b.stop y k)))))
        (λ h. inl (l, m, t, z, inl (record { stop = a.stop; stop_in = a.stop_in; here = a.here; since = a.since; until = λ k. omega (arith, stops.rises i a.stop x k) }, record { stop = b.stop; stop_in = b.stop_in; here = b.here; since = b.since; until = λ k. stays h k })))
      where
        -- it comes from another stop, since its time is not 0
        enters : (s : ℕ) → s ≤ last i → location i s ≡ l → time i s ≡ t → 0 < t → Enters F i l t
        enters zero m h q p = absurd (omega (arith, stops.starts i x))
        enters (suc s) m h q p = record { stop = s; goes_on = m; here = h; then = q }

        stays : (ltb b.stop (last j) && eqb (time j (suc b.stop)) t) ≡ false → b.stop < last j → t < time j (suc b.stop)
        stays h k = let ne : time j (suc b.stop) ≢ t = eqb-false _ _ (rw (lt-ltb b.stop (last j) k) at h) in omega (arith, b.until k)

    share_collides : Symmetric meets → (i j : ℕ) → i < drones → j < drones → SpansShare F i j → Collides F i j ⊎ Collides F j i
    share_collides symmetric i j x y (l, m, t, q, a, b) = by_cases (ltb (time i a.stop) t)
        (λ h. by_cases (ltb (time j b.stop) t)
        (λ g. inl (both_before i j l m t q a b (ltb-true _ _ h) (ltb-true _ _ g)))
        (λ g. elim (comes symmetric j i m l t (symmetric l m q) y x b a (omega (arith, ltb-false (time j b.stop) t g, b.since))) [ inl c ↦ inr c | inr c ↦ inl c ]))
        (λ h. comes symmetric i j l m t q x y a b (omega (arith, ltb-false (time i a.stop) t h, a.since)))

    -- ---- no two spans share a timestep exactly when one of each two is over before the other

    gone_share : Checked F → Never F (SpansShare F)
    gone_share c i j x y ne (l, m, t, q, a, b) = elim (c.no_collision i a.stop j b.stop x a.stop_in y b.stop_in ne (rw (a.here, b.here) q)) [
      | inl g ↦ omega (arith, g.in_time, a.until g.goes_on, b.since)
      | inr g ↦ omega (arith, g.in_time, b.until g.goes_on, a.since)
    ]

    abbrev gone : ℕ → ℕ → ℕ → ℕ → Bool
    gone d s e k = ltb s (last d) && ltb (time d (suc s)) (time e k)

    gone_is : (d s e k : ℕ) → gone d s e k ≡ true → GoneBefore F d s e k
    gone_is d s e k h = record { goes_on = ltb-true _ _ (and_left _ _ h); in_time = ltb-true _ _ (and_right (ltb s (last d)) _ h) }

    -- not gone before the other comes: it occupies the later of the two first timesteps
    occupies : (d s e k : ℕ) → d < drones → s ≤ last d → gone d s e k ≡ false → Occupies F d (location d s) (max (time d s) (time e k))
    occupies d s e k x m h = record { stop = s; stop_in = m; here = refl; since = omega arith; until = λ l. let late : time e k ≤ time d (suc s) = ltb-false _ _ (rw (lt-ltb s (last d) l) at h) in omega (arith, stops.rises d s x l) }

    share_checked : Symmetric meets → Never F (SpansShare F) → Checked F
    share_checked symmetric never = record {
      starts = stops.starts;
      rises = stops.rises;
      rises_by_leg = stops.rises_by_leg;
      moves = stops.moves;
      symmetric = symmetric;
      no_collision = λ d s e k x m y o ne q. by_cases (gone d s e k)
          (λ h. inl (gone_is d s e k h))
          (λ h. by_cases (gone e k d s)
          (λ g. inr (gone_is e k d s g))
          (λ g. let swap : max (time e k) (time d s) ≡ max (time d s) (time e k) = omega arith in
          absurd (never d e x y ne (location d s, location e k, max (time d s) (time e k), q, occupies d s e k x m h, rw swap at (occupies e k d s y o g)))));
    }

    collides-checked : Symmetric meets → Never F (Collides F) → Checked F
    collides-checked symmetric never = share_checked symmetric (λ i j x y ne s. elim (share_collides symmetric i j x y s) [ inl c ↦ never i j x y ne c | inr c ↦ never j i y x (λ q. ne (sym q)) c ])

pub definition_1 : Definition1
definition_1 = record {
  collisions = λ p have e. (λ a i j x y ne c. gone_share (plan_of p) (stops_checked p have e) ((taken_exactly p have).0 (e, a)) i j x y ne (collides_share (plan_of p) (stops_checked p have e) i j x y c), λ never. ((taken_exactly p have).1 (collides-checked (plan_of p) (stops_checked p have e) (plan_symmetric p) never)).1);
  spans = λ p have e. (λ a. gone_share (plan_of p) (stops_checked p have e) ((taken_exactly p have).0 (e, a)), λ never. ((taken_exactly p have).1 (share_checked (plan_of p) (stops_checked p have e) (plan_symmetric p) never)).1);
  one_location = one_location;
  swap_covered = swap_covered;
  same_meets = λ p l. meets_same p.pairs l;
  without_site = λ p. meets_none p.pairs;
}
