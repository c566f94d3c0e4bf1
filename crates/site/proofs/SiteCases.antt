-- Which case of the definitions of a site text holds, by what was read; and the loop over its lines. Assumes nothing.
use Prim.Native.Nat.{ℕ, zero, suc, ◌+◌, ◌*◌, ◌-◌, ◌≤◌, ◌<◌}
use native.Mathlib.Nat.{not-suc-le-zero}
use native.Mathlib.Numerals.{sub-one}
use native.Mathlib.Omega.{arith}
use mathlib.Core.Path.{◌≡◌, refl, ap, ◌∙◌}
use mathlib.Core.List.{List, [], ◌∷◌}
use mathlib.Core.Bool.{Bool, true, false, cond, ◌&&◌}
use lib.Dec.{ltb, leb, eqb}
use lib.ListN.{length, set, length-set}
use lib.Seq.{sets}
use borrow.Author.Tests.{leb-true, le-leb, ltb-true, eqb-true}
use Rattle.below.specs.Below.{pair_before}
use Rattle.below.proofs.Tests.{by_cases, and_left, and_right}
use Rattle.std.specs.Ordering.{is_some_and, is_lt, partial_ordering_then, nat_cmp}
use Rattle.std.specs.Prelude.{Some}
use Rattle.tables.specs.Limits.{Limits, most_pairs}
use Rattle.lines.specs.Bytes.{is_at}
use Rattle.lines.specs.Numbers.{field_at}
use Rattle.lines.specs.declared.numbers.Number.{Number}
use Rattle.site.specs.declared.SiteRefusal.{SiteRefusal}
use Rattle.site.specs.declared.SiteRefusal.TheVariants.{Form, Range}
use Rattle.site.specs.declared.NearLine.{NearLine}
use Rattle.site.specs.Written.{OrderedPair}
use Rattle.std.specs.Prelude.{Option, Some, None, Result, Ok, Err}
use Rattle.lines.specs.Numbers.{number}
use Rattle.site.specs.Site.{near_pair, pairs_counted, near_key, pairs_key, site_end, in_order, near_upper, near_lower, near_at, PairList, pairs_at, pairs_in, pair_count_at, site_ending}

-- ---- what was read, part by part

pub record SamePair (a b e a' b' e' : ℕ) : Type 0 where
  pub lower : a ≡ a'
  pub upper : b ≡ b'
  pub next : e ≡ e'

pub near_pair_same : {a b e a' b' e' : ℕ} → near_pair a b e ≡ near_pair a' b' e' → SamePair a b e a' b' e'
near_pair_same {a} {b} {e} {a'} {b'} {e'} h =
    let r : ◌≡◌ {A = NearLine} (record { lower = a; upper = b; next = e }) (record { lower = a'; upper = b'; next = e' }) = cc h in
    record { lower = ap (λ (p : NearLine). p.lower) r; upper = ap (λ (p : NearLine). p.upper) r; next = ap (λ (p : NearLine). p.next) r }

pub pairs_counted_same : {v e v' e' : ℕ} → pairs_counted v e ≡ pairs_counted v' e' → (v ≡ v') × (e ≡ e')
pairs_counted_same {v} {e} {v'} {e'} h =
    let r : ◌≡◌ {A = Number} (record { value = v; next = e }) (record { value = v'; next = e' }) = cc h in
    (ap (λ (n : Number). n.value) r, ap (λ (n : Number). n.next) r)

-- ---- a pair after another

-- the order of pairs, as std compares tuples
pub lex_before : (c d a b : ℕ) → is_some_and is_lt (partial_ordering_then (Some (nat_cmp c a)) (Some (nat_cmp d b))) ≡ pair_before c d a b
unfolding pair_before
lex_before c d a b = by_cases (ltb c a)
    (λ h. rw h refl)
    (λ h. by_cases (eqb c a)
    (λ e. rw (h, e) (by_cases (ltb d b) (λ k. rw k refl) (λ k. rw k (by_cases (eqb d b) (λ m. rw m refl) (λ m. rw m refl)))))
    (λ e. rw (h, e) refl))

-- what a pair in order says
pub order_says : (L : Limits) (c d a b : ℕ) → in_order L c d a b ≡ true → OrderedPair L c d a b
unfolding in_order
order_says L c d a b e =
    let r : (ltb a b && pair_before c d a b) ≡ true = and_right (leb b L.location) _ e in
    record { near = leb-true _ _ (and_left _ _ e); up = ltb-true _ _ (and_left _ _ r); after = and_right (ltb a b) _ r }

-- ---- a line `near=A,B`

-- a line whose fields are a pair in order
pub near_in : (L : Limits) (c d : ℕ) (text : List ℕ) (at a p b e : ℕ) → is_at text at near_key ≡ true → field_at text (at + 5) 44 ≡ number a p → field_at text p 10 ≡ number b e → in_order L c d a b ≡ true → near_at L c d text at ≡ near_pair a b e
unfolding near_at
near_in L c d text at a p b e k f g o = rw (k, f, g, o)

-- what a pair that was read says of the text: the key, the two fields, their order
pub record NearRead (L : Limits) (c d : ℕ) (text : List ℕ) (at a b e : ℕ) : Type 0 where
  pub middle : ℕ
  pub key : is_at text at near_key ≡ true
  pub first : field_at text (at + 5) 44 ≡ number a middle
  pub second : field_at text middle 10 ≡ number b e
  pub order : in_order L c d a b ≡ true

module _ (L : Limits) (c d : ℕ) (text : List ℕ) (at a b e : ℕ) where
  by_order : (a' b' e' p : ℕ) → is_at text at near_key ≡ true → field_at text (at + 5) 44 ≡ number a' p → field_at text p 10 ≡ number b' e' → (t : Bool) → in_order L c d a' b' ≡ t → cond t (near_pair a' b' e') (Err (Range at)) ≡ near_pair a b e → NearRead L c d text at a b e
  by_order a' b' e' p k f g true o h =
      let same = near_pair_same h in
      let ea : a' ≡ a = same.lower in
      let eb : b' ≡ b = same.upper in
      let ee : e' ≡ e = same.next in
      record { middle = p; key = k; first = rw ea at f; second = rw (eb, ee) at g; order = rw (ea, eb) at o }
  by_order a' b' e' p k f g false o h = absurd (let z : ◌≡◌ {A = ℕ} 0 1 = cc h in omega arith)

  by_upper : (a' p : ℕ) → is_at text at near_key ≡ true → field_at text (at + 5) 44 ≡ number a' p → (n : Option Number) → field_at text p 10 ≡ n → near_upper L c d at a' n ≡ near_pair a b e → NearRead L c d text at a b e
  by_upper a' p k f None g h = absurd (let z : ◌≡◌ {A = ℕ} 0 1 = cc h in omega arith)
  by_upper a' p k f (Some b') g h = by_order a' b'.value b'.next p k f g (in_order L c d a' b'.value) refl h

  by_lower : is_at text at near_key ≡ true → (n : Option Number) → field_at text (at + 5) 44 ≡ n → near_lower L c d text at n ≡ near_pair a b e → NearRead L c d text at a b e
  by_lower k None f h = absurd (let z : ◌≡◌ {A = ℕ} 0 1 = cc h in omega arith)
  by_lower k (Some a') f h = by_upper a'.value a'.next k f (field_at text a'.next 10) refl h

  by_key : (t : Bool) → is_at text at near_key ≡ t → cond t (near_lower L c d text at (field_at text (at + 5) 44)) (Err (Form at)) ≡ near_pair a b e → NearRead L c d text at a b e
  by_key true k h = by_lower k (field_at text (at + 5) 44) refl h
  by_key false k h = absurd (let z : ◌≡◌ {A = ℕ} 0 1 = cc h in omega arith)

  pub near_fields : near_at L c d text at ≡ near_pair a b e → NearRead L c d text at a b e
  unfolding near_at
  near_fields h = by_key (is_at text at near_key) refl h

  -- a pair that was read is in order
  pub near_read : near_at L c d text at ≡ near_pair a b e → OrderedPair L c d a b
  near_read h = order_says L c d a b (near_fields h).order

-- ---- the lines that are left: none, one at fault, one more

pub pairs_none : (L : Limits) (n c d : ℕ) (text : List ℕ) (at : ℕ) → n ≡ 0 → pairs_at L n c d text at ≡ record { numbers = []; answer = Ok at }
unfolding pairs_at
pairs_none L n c d text at e = rw e

pub pairs_bad : (L : Limits) (n c d : ℕ) (text : List ℕ) (at : ℕ) (s : Result NearLine SiteRefusal) (r : SiteRefusal) → 0 < n → s ≡ near_at L c d text at → s ≡ Err r → pairs_at L n c d text at ≡ record { numbers = []; answer = Err r }
unfolding pairs_at
pairs_bad L zero c d text at s r h e k = absurd (not-suc-le-zero h)
pairs_bad L (suc n) c d text at s r h e k = rw (← e, k)

pub pairs_more : (L : Limits) (n c d : ℕ) (text : List ℕ) (at : ℕ) (s : Result NearLine SiteRefusal) (a b e : ℕ) → 0 < n → s ≡ near_at L c d text at → s ≡ near_pair a b e
    → pairs_at L n c d text at ≡ record { numbers = a ∷ b ∷ (pairs_at L (n - 1) a b text e).numbers; answer = (pairs_at L (n - 1) a b text e).answer }
unfolding pairs_at
pairs_more L zero c d text at s a b e h f k = absurd (not-suc-le-zero h)
pairs_more L (suc n) c d text at s a b e h f k = rw (← f, k, sub-one)

-- the pairs that are left, stored from here on, are those of the whole, stored from the start
pub record Pairing (left whole : PairList (Result ℕ SiteRefusal)) (here : ℕ) (ps ps₀ : List ℕ) : Type 0 where
  pub answers : left.answer ≡ whole.answer
  pub numbers : sets ps here left.numbers ≡ sets ps₀ 0 whole.numbers

pub pairing_start : (r : PairList (Result ℕ SiteRefusal)) (ps : List ℕ) → Pairing r r (2 * 0) ps ps
pairing_start r ps = record { answers = refl; numbers = refl }

pub twice_long : (l : List ℕ) (i a j b : ℕ) → length (set (set l i a) j b) ≡ length l
twice_long l i a j b = length-set (set l i a) j b ∙ length-set l i a

pub pairing_on : (L : Limits) (whole : PairList (Result ℕ SiteRefusal)) (n i c d : ℕ) (text ps ps₀ : List ℕ) (at a b e : ℕ) (s : Result NearLine SiteRefusal) → i < n → s ≡ near_at L c d text at → s ≡ near_pair a b e
    → Pairing (pairs_at L (n - i) c d text at) whole (2 * i) ps ps₀
    → Pairing (pairs_at L (n - (i + 1)) a b text e) whole (2 * (i + 1)) (set (set ps (2 * i) a) (2 * i + 1) b) ps₀
pairing_on L whole n i c d text ps ps₀ at a b e s h f k g =
    let m = pairs_more L (n - i) c d text at s a b e (omega arith) f k in
    let q : n - i - 1 ≡ n - (i + 1) = omega arith in
    let p : suc (2 * i) ≡ 2 * i + 1 = omega arith in
    let o : suc (suc (2 * i)) ≡ 2 * (i + 1) = omega arith in
    record {
      answers = rw (m, q) at g.answers;
      numbers = rw (← o, ← p) (rw (m, q) at g.numbers);
    }

-- ---- the line `pairs=N`

-- a line whose field is a number in range
pub count_in_lem : (L : Limits) (text : List ℕ) (at v p : ℕ) → is_at text at pairs_key ≡ true → field_at text (at + 6) 10 ≡ number v p → v ≤ most_pairs → pair_count_at L text at ≡ pairs_counted v p
unfolding pair_count_at
count_in_lem L text at v p k f m = rw (k, f, le-leb v most_pairs m)

-- a number of pairs that was read is in range
pub count_range : (L : Limits) (text : List ℕ) (at v p : ℕ) → pair_count_at L text at ≡ pairs_counted v p → v ≤ most_pairs
unfolding pair_count_at
count_range L text at v p h = by_key (is_at text at pairs_key) h
  where
    by_test : (v' p' : ℕ) (a : Bool) → leb v' (most_pairs) ≡ a → cond a (pairs_counted v' p') (Err (Range at)) ≡ pairs_counted v p → v ≤ most_pairs
    by_test v' p' true x h = let q : v' ≡ v = (pairs_counted_same h).0 in rw q at (leb-true v' (most_pairs) x)
    by_test v' p' false x h = absurd (let z : ◌≡◌ {A = ℕ} 0 1 = cc h in omega arith)

    by_number : (n : Option Number) → pairs_in L at n ≡ pairs_counted v p → v ≤ most_pairs
    by_number None h = absurd (let z : ◌≡◌ {A = ℕ} 0 1 = cc h in omega arith)
    by_number (Some n) h = by_test n.value n.next (leb n.value most_pairs) refl h

    by_key : (k : Bool) → cond k (pairs_in L at (field_at text (at + 6) 10)) (Err (Form at)) ≡ pairs_counted v p → v ≤ most_pairs
    by_key true h = by_number (field_at text (at + 6) 10) h
    by_key false h = absurd (let z : ◌≡◌ {A = ℕ} 0 1 = cc h in omega arith)

-- ---- the last line

pub end_cases : (text : List ℕ) (e : ℕ) → site_ending text (Ok e) ≡ Ok tt → (is_at text e site_end ≡ true) × (e + 9 ≡ length text)
end_cases text e h = by_tests (is_at text e site_end) refl (eqb (e + 9) (length text)) refl h
  where
    by_tests : (a : Bool) → is_at text e site_end ≡ a → (b : Bool) → eqb (e + 9) (length text) ≡ b → cond a (cond b (Ok (tt {0})) (Err (Form (e + 9)))) (Err (Form e)) ≡ Ok tt → (is_at text e site_end ≡ true) × (e + 9 ≡ length text)
    by_tests true x true y h = (x, eqb-true _ _ y)
    by_tests true x false y h = absurd (let z : ◌≡◌ {A = ℕ} 0 1 = cc h in omega arith)
    by_tests false x b y h = absurd (let z : ◌≡◌ {A = ℕ} 0 1 = cc h in omega arith)
