-- The test of full sizes is a conjunction of sixteen comparisons, so it holds just where all sixteen sizes do, and depends on the lengths alone.
use mathlib.Core.Path.{◌≡◌, refl, sym, ◌∙◌}
use mathlib.Core.Bool.{Bool, true, false, ◌&&◌, and-eq-true_iff, false≢true}
use Prim.Native.Nat.{ℕ, ◌*◌, ◌≤◌}
use native.Mathlib.Omega.{arith}
use lib.Dec.{leb}
use lib.ListN.{length}
use borrow.Author.Tests.{leb-true, le-leb}
use Rattle.tables.specs.Limits.{Limits, most_pairs}
use Rattle.tables.specs.Tables.{Tables, full_size, Sizes}

-- a conjunction's first comparison, and what is left
peel : (m n : ℕ) (rest : Bool) → (leb m n && rest) ≡ true → (m ≤ n) × (rest ≡ true)
peel m n rest h = let k = (and-eq-true_iff (leb m n) rest).0 h in (leb-true m n k.0, k.1)

add : (m n : ℕ) (rest : Bool) → m ≤ n → rest ≡ true → (leb m n && rest) ≡ true
add m n rest l h = (and-eq-true_iff (leb m n) rest).1 (le-leb m n l, h)

pub full_sizes : (L : Limits) (t : Tables) → full_size L t ≡ true → Sizes L t
unfolding full_size
full_sizes L t h =
    let p = t.plan in
    let h1 = peel 1 (length p.drone_count) _ h in
    let h2 = peel 1 (length p.dependency_count) _ h1.1 in
    let h3 = peel 1 (length p.form) _ h2.1 in
    let h4 = peel (L.drones * L.name) (length p.names) _ h3.1 in
    let h5 = peel L.drones (length p.stop_counts) _ h4.1 in
    let h6 = peel L.stops (length p.locations) _ h5.1 in
    let h7 = peel L.stops (length p.times) _ h6.1 in
    let h8 = peel L.stops (length p.legs) _ h7.1 in
    let h9 = peel L.dependencies (length p.first_drones) _ h8.1 in
    let h10 = peel L.dependencies (length p.first_stops) _ h9.1 in
    let h11 = peel L.dependencies (length p.second_drones) _ h10.1 in
    let h12 = peel L.dependencies (length p.second_stops) _ h11.1 in
    let h13 = peel L.drones (length t.visited) _ h12.1 in
    let h14 = peel L.drones (length t.drone_flags) _ h13.1 in
    let h15 = peel L.dependencies (length t.flags) _ h14.1 in
    record {
      drone_count_lem = h1.0;
      dependency_count = h2.0;
      form = h3.0;
      names = h4.0;
      stop_counts_lem = h5.0;
      locations = h6.0;
      times = h7.0;
      legs = h8.0;
      first_drones_lem = h9.0;
      first_stops_lem = h10.0;
      second_drones_lem = h11.0;
      second_stops_lem = h12.0;
      visited = h13.0;
      drone_flags = h14.0;
      flags = h15.0;
      pairs = leb-true (2 * most_pairs) (length p.pairs) h15.1;
    }

pub sizes_full : (L : Limits) (t : Tables) → Sizes L t → full_size L t ≡ true
unfolding full_size
sizes_full L t s =
    add _ _ _ s.drone_count_lem
    (add _ _ _ s.dependency_count
    (add _ _ _ s.form
    (add _ _ _ s.names
    (add _ _ _ s.stop_counts_lem
    (add _ _ _ s.locations
    (add _ _ _ s.times
    (add _ _ _ s.legs
    (add _ _ _ s.first_drones_lem
    (add _ _ _ s.first_stops_lem
    (add _ _ _ s.second_drones_lem
    (add _ _ _ s.second_stops_lem
    (add _ _ _ s.visited
    (add _ _ _ s.drone_flags
    (add _ _ _ s.flags
    (le-leb _ _ s.pairs)))))))))))))))

-- a test is that of full sizes if the sizes hold just where it does
pub size_test : (L : Limits) (t : Tables) (test : Bool) → (test ≡ true → Sizes L t) → (test ≡ false → Sizes L t → ⊥) → test ≡ full_size L t
size_test L t true h n = sym (sizes_full L t (h refl))
size_test L t false h n = by_test (full_size L t) refl
  where
    by_test : (b : Bool) → full_size L t ≡ b → false ≡ b
    by_test true e = absurd (n refl (full_sizes L t e))
    by_test false e = refl

pub size_missed : (L : Limits) (t : Tables) → (Sizes L t → ⊥) → false ≡ full_size L t
size_missed L t n = size_test L t false (λ e. absurd (false≢true e)) (λ e. n)

pub record SameLengths (t t' : Tables) : Type 0 where
  pub drone_count_lem : length t.plan.drone_count ≡ length t'.plan.drone_count
  pub dependency_count : length t.plan.dependency_count ≡ length t'.plan.dependency_count
  pub form : length t.plan.form ≡ length t'.plan.form
  pub names : length t.plan.names ≡ length t'.plan.names
  pub stop_counts_lem : length t.plan.stop_counts ≡ length t'.plan.stop_counts
  pub locations : length t.plan.locations ≡ length t'.plan.locations
  pub times : length t.plan.times ≡ length t'.plan.times
  pub legs : length t.plan.legs ≡ length t'.plan.legs
  pub first_drones_lem : length t.plan.first_drones ≡ length t'.plan.first_drones
  pub first_stops_lem : length t.plan.first_stops ≡ length t'.plan.first_stops
  pub second_drones_lem : length t.plan.second_drones ≡ length t'.plan.second_drones
  pub second_stops_lem : length t.plan.second_stops ≡ length t'.plan.second_stops
  pub visited : length t.visited ≡ length t'.visited
  pub drone_flags : length t.drone_flags ≡ length t'.drone_flags
  pub flags : length t.flags ≡ length t'.flags
  pub pairs : length t.plan.pairs ≡ length t'.plan.pairs

pub full_size_lengths : (L : Limits) (t t' : Tables) → SameLengths t t' → full_size L t ≡ full_size L t'
full_size_lengths L t t' e =
    size_test L t' (full_size L t)
    (λ h. omega (arith, full_sizes L t h))
    (λ h s. false≢true (sym h ∙ sizes_full L t (omega arith)))
