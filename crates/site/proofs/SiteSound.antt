-- The pairs of a site text that is taken are a list that the plan check and the sound test ask for. Assumes nothing.
use Prim.Native.Nat.{ℕ, zero, suc, ◌+◌, ◌*◌, ◌-◌, ◌≤◌, ◌<◌}
use native.Mathlib.Nat.{not-suc-le-zero}
use native.Mathlib.Omega.{arith}
use mathlib.Core.Path.{◌≡◌, refl, ◌∙◌}
use mathlib.Core.List.{List, [], ◌∷◌}
use mathlib.Core.Bool.{Bool, true, false, cond}
use lib.ListN.{length, set, length-set}
use lib.Seq.{sets, length-sets, get_or-set_same, get_or-set_other}
use borrow.Author.Tests.{lt-ltb, le-leb, eq-eqb, ne_eqb}
use Rattle.below.specs.Below.{at, pair_before}
use Rattle.below.proofs.Search.{first_below_is}
use Rattle.below.proofs.Every.{all_below_all}
use Rattle.tables.specs.Limits.{Limits, most_pairs}
use Rattle.near.specs.Near.{pair_count, pair_sound, pairs_sound, SoundPairs}
use Rattle.lines.specs.Bytes.{is_at}
use Rattle.site.specs.declared.SiteRefusal.TheVariants.{Form}
use Rattle.site.specs.declared.NearLine.{NearLine}
use Rattle.std.specs.Prelude.{Result, Ok, Err}
use Rattle.lines.specs.declared.numbers.Number.{Number}
use Rattle.site.specs.declared.SiteRefusal.{SiteRefusal}
use Rattle.site.specs.Site.{pairs_counted, site_line, site_end, near_at, pairs_from, pairs_at, pair_count_at, site_ending, site_counted, site_at}
use Rattle.site.specs.Written.{Ordered}
use Rattle.site.proofs.SiteCases.{near_read, count_range, end_cases}

-- ---- a list stored in a table

sets_below : (vs l : List ℕ) (i j : ℕ) → j < i → at (sets l i vs) j ≡ at l j
sets_below [] l i j h = refl
sets_below (a ∷ vs) l i j h = sets_below vs (set l i a) (suc i) j (omega arith) ∙ get_or-set_other l i j a 0 (λ (q : j ≡ i). omega arith)

sets_at : (vs l : List ℕ) (i j : ℕ) → i + length vs ≤ length l → j < length vs → at (sets l i vs) (i + j) ≡ at vs j
sets_at [] l i j r h = absurd (not-suc-le-zero h)
sets_at (a ∷ vs) l i zero r h = let z : i + 0 ≡ i = omega arith in rw z (sets_below vs (set l i a) (suc i) i (omega arith) ∙ get_or-set_same l i a 0 (omega arith))
sets_at (a ∷ vs) l i (suc j) r h = let z : i + suc j ≡ suc i + j = omega arith in rw z (sets_at vs (set l i a) (suc i) j (omega (arith, length-set l i a)) (omega arith))

sets_past : (vs l : List ℕ) (i j : ℕ) → length vs ≤ j → at (sets l i vs) (i + j) ≡ at l (i + j)
sets_past [] l i j h = refl
sets_past (a ∷ vs) l i zero h = absurd (omega arith)
sets_past (a ∷ vs) l i (suc j) h =
    let z : i + suc j ≡ suc i + j = omega arith in
    rw z (sets_past vs (set l i a) (suc i) j (omega arith) ∙ get_or-set_other l i (suc i + j) a 0 (omega arith))

-- ---- pairs in order, after the pair (c, d)

-- pair i, and the one before it
ordered_at : (L : Limits) (c d : ℕ) (ns : List ℕ) → Ordered L c d ns → (i : ℕ) → 2 * i + 1 < length ns → (at ns (2 * i) < at ns (2 * i + 1)) × (at ns (2 * i + 1) ≤ L.location)
ordered_at L c d [] o i h = absurd (not-suc-le-zero h)
ordered_at L c d (a ∷ []) o i h = absurd o
ordered_at L c d (a ∷ (b ∷ ns)) (p, o) zero h = (p.up, p.near)
ordered_at L c d (a ∷ (b ∷ ns)) (p, o) (suc i) h =
    let x : 2 * suc i ≡ suc (suc (2 * i)) = omega arith in
    let y : 2 * suc i + 1 ≡ suc (suc (2 * i + 1)) = omega arith in
    rw (y, x) (ordered_at L a b ns o i (omega arith))

ordered_first : (L : Limits) (c d : ℕ) (ns : List ℕ) → Ordered L c d ns → 1 < length ns → pair_before c d (at ns 0) (at ns 1) ≡ true
ordered_first L c d [] o h = absurd (not-suc-le-zero h)
ordered_first L c d (a ∷ []) o h = absurd o
ordered_first L c d (a ∷ (b ∷ ns)) (p, o) h = p.after

ordered-next : (L : Limits) (c d : ℕ) (ns : List ℕ) → Ordered L c d ns → (i : ℕ) → 2 * suc i + 1 < length ns → pair_before (at ns (2 * i)) (at ns (2 * i + 1)) (at ns (2 * suc i)) (at ns (2 * suc i + 1)) ≡ true
ordered-next L c d [] o i h = absurd (not-suc-le-zero h)
ordered-next L c d (a ∷ []) o i h = absurd o
ordered-next L c d (a ∷ (b ∷ ns)) (p, o) zero h = ordered_first L a b ns o (omega arith)
ordered-next L c d (a ∷ (b ∷ ns)) (p, o) (suc i) h =
    let x : 2 * suc i ≡ suc (suc (2 * i)) = omega arith in
    let y : 2 * suc i + 1 ≡ suc (suc (2 * i + 1)) = omega arith in
    let z : 2 * suc (suc i) ≡ suc (suc (2 * suc i)) = omega arith in
    let w : 2 * suc (suc i) + 1 ≡ suc (suc (2 * suc i + 1)) = omega arith in
    rw (w, z, y, x) (rw (y, x) at (ordered-next L a b ns o i (omega arith)))

-- ---- what the lines give

module _ (L : Limits) where
  -- n lines that were all read give n pairs in order
  pub lines_ordered : (n c d : ℕ) (text : List ℕ) (at e : ℕ) → (pairs_at L n c d text at).answer ≡ Ok e → Ordered L c d (pairs_at L n c d text at).numbers × (length (pairs_at L n c d text at).numbers ≡ 2 * n)
  unfolding pairs_at
  lines_ordered zero c d text at e h = (tt, refl)
  lines_ordered (suc n) c d text at e h = go (near_at L c d text at) refl (λ a b p. lines_ordered n a b text p e) h
    where
      go : (s : Result NearLine SiteRefusal) → near_at L c d text at ≡ s → ((a b p : ℕ) → (pairs_at L n a b text p).answer ≡ Ok e → Ordered L a b (pairs_at L n a b text p).numbers × (length (pairs_at L n a b text p).numbers ≡ 2 * n)) → (pairs_from s (λ a b p. pairs_at L n a b text p)).answer ≡ Ok e
          → Ordered L c d (pairs_from s (λ a b p. pairs_at L n a b text p)).numbers × (length (pairs_from s (λ a b p. pairs_at L n a b text p)).numbers ≡ 2 * suc n)
      go (Err r) q rest h = absurd (let z : ◌≡◌ {A = ℕ} 0 1 = cc h in omega arith)
      go (Ok p) q rest h = let (o, l) = rest p.lower p.upper p.next h in ((near_read L c d text at p.lower p.upper p.next q, o), omega (arith, l))

-- ---- the table
module _ (L : Limits) (ps ns : List ℕ) (n : ℕ) (room : 2 * most_pairs ≤ length ps) (zeros : (j : ℕ) → j < 2 * most_pairs → at ps j ≡ 0) (O : Ordered L 0 0 ns) (len : length ns ≡ 2 * n) (few : n ≤ most_pairs) where
  abbrev ps' : List ℕ
  ps' = sets ps 0 ns

  stored : (j : ℕ) → j < 2 * n → at ps' j ≡ at ns j
  stored j l = let z : 0 + j ≡ j = omega arith in rw z at (sets_at ns ps 0 j (omega arith) (omega arith))

  beyond : (j : ℕ) → 2 * n ≤ j → at ps' j ≡ at ps j
  beyond j l = let z : 0 + j ≡ j = omega arith in rw z at (sets_past ns ps 0 j (omega arith))

  count_is : pair_count ps' ≡ n
  unfolding pair_count
  count_is = first_below_is (record {
    within = few;
    skipped = λ i l. ne_eqb (at ps' (2 * i + 1)) 0 (λ z. omega (arith, stored (2 * i + 1) (omega arith), (ordered_at L 0 0 ns O i (omega arith)).0, z));
    found = λ l. eq-eqb (at ps' (2 * n + 1)) 0 (beyond (2 * n + 1) (omega arith) ∙ zeros (2 * n + 1) (omega arith));
  })

  each-sound : (i : ℕ) → i < n → pair_sound L ps' i ≡ true
  unfolding pair_sound
  each-sound zero l =
      let (u, m) = ordered_at L 0 0 ns O 0 (omega arith) in
      rw (stored (2 * 0 + 1) (omega arith), stored (2 * 0) (omega arith), lt-ltb (at ns (2 * 0)) (at ns (2 * 0 + 1)) u, le-leb (at ns (2 * 0 + 1)) L.location m) refl
  each-sound (suc i) l =
      let (u, m) = ordered_at L 0 0 ns O (suc i) (omega arith) in
      let z : suc i - 1 ≡ i = omega arith in
      rw (z, stored (2 * suc i + 1) (omega arith), stored (2 * suc i) (omega arith), stored (2 * i + 1) (omega arith), stored (2 * i) (omega arith), lt-ltb (at ns (2 * suc i)) (at ns (2 * suc i + 1)) u, le-leb (at ns (2 * suc i + 1)) L.location m, ne_eqb (suc i) 0 (λ e. omega arith)) (ordered-next L 0 0 ns O i (omega arith))

  pub table-sound : SoundPairs L ps'
  unfolding pairs_sound
  table-sound = record { has_pairs = omega (arith, length-sets ps 0 ns); sound_pairs = rw count_is (all_below_all n (pair_sound L ps') each-sound) }

-- what a taken text says
pub record TakenSite (L : Limits) (text : List ℕ) : Type 0 where
  pub n : ℕ
  pub from : ℕ
  pub to : ℕ
  pub few : n ≤ most_pairs
  pub line : is_at text 0 site_line ≡ true
  pub count : pair_count_at L text 7 ≡ pairs_counted n from
  pub last : is_at text to site_end ≡ true
  pub closes : to + 9 ≡ length text
  pub all_read : (pairs_at L n 0 0 text from).answer ≡ Ok to
  pub numbers_are : (site_at L text).numbers ≡ (pairs_at L n 0 0 text from).numbers

pub taken-says : (L : Limits) (text : List ℕ) → (site_at L text).answer ≡ Ok tt → TakenSite L text
unfolding site_at
taken-says L text h = by_line (is_at text 0 site_line) refl h
  where
    by_ending : (v p : ℕ) → is_at text 0 site_line ≡ true → pair_count_at L text 7 ≡ pairs_counted v p → (x : Result ℕ SiteRefusal) → (pairs_at L v 0 0 text p).answer ≡ x → site_ending text x ≡ Ok tt → TakenSite L text
    by_ending v p k q (Err r) y h = absurd (let z : ◌≡◌ {A = ℕ} 0 1 = cc h in omega arith)
    by_ending v p k q (Ok e) y h = let (l, m) = end_cases text e h in record { n = v; from = p; to = e; few = count_range L text 7 v p q; line = k; count = q; last = l; closes = m; all_read = y; numbers_are = rw (k, q) refl }

    by_count : is_at text 0 site_line ≡ true → (x : Result Number SiteRefusal) → pair_count_at L text 7 ≡ x → (site_counted L text x).answer ≡ Ok tt → TakenSite L text
    by_count k (Err r) q h = absurd (let z : ◌≡◌ {A = ℕ} 0 1 = cc h in omega arith)
    by_count k (Ok n) q h = by_ending n.value n.next k q (pairs_at L n.value 0 0 text n.next).answer refl h

    by_line : (b : Bool) → is_at text 0 site_line ≡ b → (cond b (site_counted L text (pair_count_at L text 7)) (record { numbers = []; answer = Err (Form 0) })).answer ≡ Ok tt → TakenSite L text
    by_line true k h = by_count k (pair_count_at L text 7) refl h
    by_line false k h = absurd (let z : ◌≡◌ {A = ℕ} 0 1 = cc h in omega arith)

-- "they must be a list that a site text could give": what a taken text leaves in a zeroed table is one
pub taken_sound : (L : Limits) (text ps : List ℕ) → 2 * most_pairs ≤ length ps → ((j : ℕ) → j < 2 * most_pairs → at ps j ≡ 0) → (site_at L text).answer ≡ Ok tt → SoundPairs L (sets ps 0 (site_at L text).numbers)
taken_sound L text ps room zeros h =
    let T = taken-says L text h in
    let (o, l) = lines_ordered L T.n 0 0 text T.from T.to T.all_read in
    rw T.numbers_are (table-sound L ps (pairs_at L T.n 0 0 text T.from).numbers T.n room zeros o l T.few)
