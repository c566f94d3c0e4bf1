-- The pairs of a site text that is taken, as its table holds them; those of a sound table are a site text's; and limits with the same locations read a site text alike. Assumes nothing.
use mathlib.Core.Path.{◌≡◌, refl, sym, ap, ◌∙◌}
use mathlib.Core.Bool.{true}
use mathlib.Core.List.{List, [], ◌∷◌}
use Prim.Native.Nat.{ℕ, zero, suc, ◌+◌, ◌*◌, ◌^◌, ◌≤◌, ◌<◌}
use native.Mathlib.Omega.{arith}
use borrow.Author.Tests.{lt-ltb, eq-eqb, ne_eqb}
use lib.ListN.{length, take}
use lib.Seq.{length-take-le, get_or-take, ext_get_or}
use Rattle.below.specs.Below.{at, pair_before}
use Rattle.below.proofs.Search.{first_below_is}
use Rattle.tables.specs.Limits.{Limits, most_pairs}
use Rattle.lines.specs.Bytes.{byte_at, is_at}
use Rattle.lines.specs.Keys.{line_feed}
use Rattle.lines.specs.Numbers.{is_digit, number_at, field_at, digits}
use Rattle.near.specs.Near.{lower, upper, pair_count, SoundPairs, Paired}
use Rattle.near.proofs.NearLaws.{count_within, paired}
use Rattle.site.specs.Site.{comma, in_order, near_upper, near_lower, near_at, PairList, pairs_from, pairs_at, pairs_in, pair_count_at, ended, site_counted, site_at}
use Rattle.site.specs.Written.{near_lines, site_text, Ordered}
use Rattle.site.specs.Claims.{SitePairs}
use Rattle.site.specs.declared.SiteRefusal.TheVariants.{Form}
use Rattle.site.proofs.SiteRoundTrip.{taken_written, written_taken}
use Rattle.reading.specs.Reading.{Site, without, given, site_read}
use Rattle.accepted.specs.Claims.{SiteFollows, HoldsPairs}
use Rattle.lines.specs.declared.numbers.Number.{Number}
use Rattle.site.specs.declared.NearLine.{NearLine}
use Rattle.site.specs.declared.SiteRefusal.{SiteRefusal}
use Rattle.std.specs.Prelude.{Option, Some, None, Result, Ok, Err}

-- ---- a site text that is taken

no_pairs_lem : (L : Limits) → SitePairs L 0 []
no_pairs_lem L = record { ordered = tt; many = refl; few = omega arith }

-- its numbers are those of pairs in order
pub read_pairs : (L : Limits) (s : Site) → (site_read L s).answer ≡ Ok tt → (n : ℕ) × SitePairs L n (site_read L s).numbers
read_pairs L without h = (0, no_pairs_lem L)
read_pairs L (given text) h = let w = taken_written L text h in (w.n, w.pairs)

-- .. and it is written as request 7 asks
pub read_follows : (L : Limits) (s : Site) → (site_read L s).answer ≡ Ok tt → SiteFollows L s (site_read L s).numbers
read_follows L without h = refl
read_follows L (given text) h = let w = taken_written L text h in (w.n, w.pairs, w.written)

-- the other way round, where seven digits are enough for a location
pub follows_read : (L : Limits) → L.location < 10 ^ 7 → (s : Site) (pairs : List ℕ) → SiteFollows L s pairs → site_read L s ≡ record { numbers = pairs; answer = Ok tt }
follows_read L u without pairs e = λ i. record { numbers = sym e i; answer = Ok tt }
follows_read L u (given text) pairs (n, p, e) = ap (site_at L) e ∙ written_taken L u (omega arith) n pairs p

-- a site text of no pairs is read as none, and an empty one is refused
pub none_written : (L : Limits) → site_read L (given (site_text 0 [])) ≡ site_read L without
unfolding is_digit digits number_at field_at byte_at is_at near_lines pair_count_at pairs_at site_at
none_written L = refl

pub empty_refused : (L : Limits) → (site_read L (given [])).answer ≡ Err (Form 0)
unfolding byte_at is_at site_at
empty_refused L = refl

-- so many numbers at most
pub numbers_fit : (L : Limits) (n : ℕ) (numbers : List ℕ) → SitePairs L n numbers → length numbers ≤ 2 * most_pairs
numbers_fit L n numbers p = omega (arith, p.many, p.few)

-- ---- its table

pub none-counted : pair_count [] ≡ 0
unfolding pair_count
none-counted = first_below_is (record { within = omega arith; skipped = λ i l. absurd (omega arith); found = λ l. eq-eqb 0 0 refl })

-- no upper number is zero
upper_some : (L : Limits) (c d : ℕ) (ns : List ℕ) → Ordered L c d ns → (i : ℕ) → 2 * i + 1 < length ns → 0 < at ns (2 * i + 1)
upper_some L c d [] o i h = absurd (omega arith)
upper_some L c d (a ∷ []) o i h = absurd o
upper_some L c d (a ∷ (b ∷ ns)) (p, o) zero h = omega (arith, p.up)
upper_some L c d (a ∷ (b ∷ ns)) (p, o) (suc i) h = let y : 2 * suc i + 1 ≡ suc (suc (2 * i + 1)) = omega arith in rw y (upper_some L a b ns o i (omega arith))

past_end : (ns : List ℕ) (i : ℕ) → length ns ≤ i → at ns i ≡ 0
past_end [] i h = refl
past_end (n ∷ ns) zero h = absurd (omega arith)
past_end (n ∷ ns) (suc i) h = past_end ns i (omega arith)

-- a table that holds the numbers from its first entry on, and zeros after them
module _ (L : Limits) (n : ℕ) (ns table : List ℕ) (p : SitePairs L n ns) (room : 2 * most_pairs ≤ length table) (same : (i : ℕ) → i < 2 * most_pairs → at table i ≡ at ns i) where
  pub count_is : pair_count table ≡ n
  unfolding pair_count
  count_is = first_below_is (record {
    within = p.few;
    skipped = λ i l. ne_eqb (at table (2 * i + 1)) 0 (λ z. omega (arith, same (2 * i + 1) (omega (arith, p.few)), upper_some L 0 0 ns p.ordered i (omega (arith, p.many)), z));
    found = λ l. eq-eqb (at table (2 * n + 1)) 0 (same (2 * n + 1) (omega arith) ∙ past_end ns (2 * n + 1) (omega (arith, p.many)));
  })

  pub pairs_held : HoldsPairs ns table
  pairs_held =
      let fit = numbers_fit L n ns p in
      record {
        many = omega (arith, count_is, p.many);
        pairs = ext_get_or 0 (take (length ns) table) ns (length-take-le (length ns) table (omega arith)) (λ i l.
            let long : length (take (length ns) table) ≡ length ns = length-take-le (length ns) table (omega arith) in
            get_or-take (length ns) table i 0 (omega arith) ∙ same i (omega arith));
        zeros = λ i a b. same i b ∙ past_end ns i a;
      }

-- ---- the pairs of a sound table

ordered_from : (L : Limits) (n c d : ℕ) (ns : List ℕ) → length ns ≡ 2 * n
    → ((i : ℕ) → i < n → (lower ns i < upper ns i) × (upper ns i ≤ L.location)) → (0 < n → pair_before c d (lower ns 0) (upper ns 0) ≡ true)
    → ((i : ℕ) → suc i < n → pair_before (lower ns i) (upper ns i) (lower ns (suc i)) (upper ns (suc i)) ≡ true) → Ordered L c d ns
ordered_from L zero c d [] l each first next = tt
ordered_from L zero c d (a ∷ ns) l each first next = absurd (omega arith)
ordered_from L (suc n) c d [] l each first next = absurd (omega arith)
ordered_from L (suc n) c d (a ∷ []) l each first next = absurd (omega arith)
ordered_from L (suc n) c d (a ∷ (b ∷ ns)) l each first next =
    let (up, near) = each 0 (omega arith) in (
      record { near = near; up = up; after = first (omega arith) },
      ordered_from L n a b ns (omega arith)
          (λ i k. let h = each (suc i) (omega arith) in rw (lower-after i, upper-after i) at h)
          (λ k. next 0 (omega arith))
          (λ i k. let h = next (suc i) (omega arith) in rw (lower-after i, upper-after i, lower-after (suc i), upper-after (suc i)) at h),
    )
  where
    lower-after : (i : ℕ) → lower (a ∷ (b ∷ ns)) (suc i) ≡ lower ns i
    lower-after i = let e : 2 * suc i ≡ suc (suc (2 * i)) = omega arith in rw e refl

    upper-after : (i : ℕ) → upper (a ∷ (b ∷ ns)) (suc i) ≡ upper ns i
    upper-after i = let e : 2 * suc i + 1 ≡ suc (suc (2 * i + 1)) = omega arith in rw e refl

first_pair : (a b : ℕ) → a < b → pair_before 0 0 a b ≡ true
unfolding pair_before
first_pair zero b l = rw (lt-ltb 0 b l) refl
first_pair (suc a) b l = rw (lt-ltb 0 (suc a) (omega arith)) refl

pub sound_numbers : (L : Limits) (table : List ℕ) → SoundPairs L table → SitePairs L (pair_count table) (take (2 * pair_count table) table)
sound_numbers L table s =
    let c = pair_count table in
    let P : Paired L table c = paired L table c s refl in
    let most = count_within table in
    let long : length (take (2 * c) table) ≡ 2 * c = length-take-le (2 * c) table (omega (arith, s.has_pairs, most)) in
    let low : (i : ℕ) → i < c → lower (take (2 * c) table) i ≡ lower table i = λ i l. get_or-take (2 * c) table (2 * i) 0 (omega arith) in
    let high : (i : ℕ) → i < c → upper (take (2 * c) table) i ≡ upper table i = λ i l. get_or-take (2 * c) table (2 * i + 1) 0 (omega arith) in
    record {
      ordered = ordered_from L c 0 0 (take (2 * c) table) long
          (λ i l. (omega (arith, low i l, high i l, P.lowers i l), omega (arith, high i l, P.fits i l)))
          (λ l. first_pair _ _ (omega (arith, low 0 l, high 0 l, P.lowers 0 l)))
          (λ i l. rw (low i (omega arith), high i (omega arith), low (suc i) l, high (suc i) l) (P.rises i l));
      many = long;
      few = most;
    }

-- ---- limits with the same locations

module _ (L L' : Limits) (same : L.location ≡ L'.location) where
  order_same : (c d a b : ℕ) → in_order L c d a b ≡ in_order L' c d a b
  unfolding in_order
  order_same c d a b = rw same refl

  upper-same : (c d at a : ℕ) (x : Option Number) → near_upper L c d at a x ≡ near_upper L' c d at a x
  upper-same c d at a None = refl
  upper-same c d at a (Some b) = rw (order_same c d a b.value) refl

  lower-same : (c d : ℕ) (text : List ℕ) (at : ℕ) (x : Option Number) → near_lower L c d text at x ≡ near_lower L' c d text at x
  lower-same c d text at None = refl
  lower-same c d text at (Some a) = upper-same c d at a.value (field_at text a.next line_feed)

  near_same : (c d : ℕ) (text : List ℕ) (at : ℕ) → near_at L c d text at ≡ near_at L' c d text at
  unfolding near_at
  near_same c d text at = rw (lower-same c d text at (field_at text (at + 5) comma)) refl

  pairs_same : (n c d : ℕ) (text : List ℕ) (at : ℕ) → pairs_at L n c d text at ≡ pairs_at L' n c d text at
  unfolding pairs_at
  pairs_same zero c d text at = refl
  pairs_same (suc n) c d text at = ap (λ (x : Result NearLine SiteRefusal). pairs_from x (λ a b e. pairs_at L n a b text e)) (near_same c d text at) ∙ rest (near_at L' c d text at) (λ a b e. pairs_same n a b text e)
    where
      rest : (x : Result NearLine SiteRefusal) → ((a b e : ℕ) → pairs_at L n a b text e ≡ pairs_at L' n a b text e) → pairs_from x (λ a b e. pairs_at L n a b text e) ≡ pairs_from x (λ a b e. pairs_at L' n a b text e)
      rest (Ok p) h = ap (λ (r : PairList (Result ℕ SiteRefusal)). record { numbers = p.lower ∷ p.upper ∷ r.numbers; answer = r.answer }) (h p.lower p.upper p.next)
      rest (Err r) h = refl

  counted_same : (text : List ℕ) (x : Result Number SiteRefusal) → site_counted L text x ≡ site_counted L' text x
  counted_same text (Err r) = refl
  counted_same text (Ok n) = ap (ended text) (pairs_same n.value 0 0 text n.next)

  line_same : (at : ℕ) (x : Option Number) → pairs_in L at x ≡ pairs_in L' at x
  line_same at None = refl
  line_same at (Some n) = refl

  count_same : (text : List ℕ) (at : ℕ) → pair_count_at L text at ≡ pair_count_at L' text at
  unfolding pair_count_at
  count_same text at = rw (line_same at (field_at text (at + 6) line_feed)) refl

  text_same : (text : List ℕ) → site_at L text ≡ site_at L' text
  unfolding site_at
  text_same text = rw (counted_same text (pair_count_at L text 7), count_same text 7) refl

  pub site_same : (s : Site) → site_read L s ≡ site_read L' s
  site_same without = refl
  site_same (given text) = text_same text
