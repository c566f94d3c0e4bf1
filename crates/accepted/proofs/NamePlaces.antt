-- The line of a name that stands at a place, and what the reader says of it; which names are those of earlier drones, by the rows of the table. Assumes nothing.
use mathlib.Core.Path.{◌≡◌, refl, sym, ap, ◌∙◌}
use mathlib.Core.Logic.{◌⊎◌, inl, inr}
use mathlib.Core.Bool.{Bool, true, false, cond, ◌&&◌, ◌||◌, false≢true}
use mathlib.Core.List.{List, [], ◌∷◌, ◌++◌, append_assoc}
use Prim.Native.Nat.{ℕ, suc, ◌+◌, ◌-◌, ◌≤◌, ◌<◌}
use native.Mathlib.Omega.{arith}
use lib.Dec.{leb, eqb}
use borrow.Author.Tests.{eqb-true, eqb-false, eq-eqb, ne_eqb, leb-true, leb-false, lt-ltb}
use lib.ListN.{length, drop, length-drop, length-append}
use lib.Seq.{take-append_seam, drop-drop}
use Rattle.std.proofs.lemmas.Bool.{or_right}
use Rattle.below.specs.Below.{is_in}
use Rattle.below.proofs.Tests.{by_cases, or_left}
use Rattle.tables.specs.Limits.{Limits}
use Rattle.lines.specs.Bytes.{is_at}
use Rattle.lines.specs.Keys.{name_key}
use Rattle.lines.specs.Names.{until_feed, line_end, part, small_form, is_capital, is_name_byte, is_text_byte, text_bytes, text_name, name_at, name_line, row_of, good_name}
use Rattle.lines.proofs.ByteLaws.{both, small, is_at_in}
use Rattle.lines.proofs.NameCases.{name_none, name_open, name_bad, name_is}
use Rattle.lines.specs.declared.refusal.Refusal.TheVariants.{Form, Name}
use Rattle.lines.proofs.Letters.{capital_range}
use Rattle.lines.proofs.NameRoundTrip.{rows_tell_names}
use Rattle.text.specs.LinesRead.{same, elem}
use Rattle.text.specs.Written.{Route, small_names, rows_of, InLimitsFrom}
use Rattle.accepted.specs.LineFaults.{NamedIn, Begins}
use Rattle.accepted.proofs.LinePlaces.{begins_at, at_begins, small_join}
use Rattle.lines.specs.Names.{name_span}
use Rattle.std.specs.Prelude.{Err}

-- ---- the first line feed

or_other : (a b : Bool) → a ≡ false → (a || b) ≡ true → b ≡ true
or_other true b e h = absurd (false≢true (sym e))
or_other false b e h = h

no_feed : (b : ℕ) → is_text_byte b ≡ true → b ≡ 10 → ⊥
unfolding is_text_byte is_capital is_name_byte
no_feed b h e = false≢true (rw e at h)

text_bytes_lem : (L : Limits) (x : List ℕ) → text_name L x ≡ true → text_bytes x ≡ true
unfolding text_name
text_bytes_lem L x h = (both (leb (length x) L.name) (text_bytes x) (both (leb 1 (length x)) (leb (length x) L.name && text_bytes x) h).1).1

feed_there : (x more : List ℕ) → is_in 10 x ≡ false → until_feed (x ++ 10 ∷ more) ≡ length x
unfolding until_feed is_in
feed_there [] more h = refl
feed_there (b ∷ x) more h = by_cases (eqb 10 b)
    (λ e. absurd (false≢true (sym h ∙ or_right (is_in 10 x) (eqb 10 b) e)))
    (λ e. rw (ne_eqb b 10 (λ q. eqb-false 10 b e (sym q))) (ap suc (feed_there x more (or_left (is_in 10 x) (eqb 10 b) h))))

record FeedAt (s : List ℕ) : Type 0 where
  pub front : List ℕ
  pub more : List ℕ
  pub is : s ≡ front ++ 10 ∷ more
  pub none : is_in 10 front ≡ false

feed_split : (s : List ℕ) → (until_feed s ≡ length s) ⊎ FeedAt s
unfolding until_feed is_in
feed_split [] = inl refl
feed_split (b ∷ s) = by_cases (eqb b 10)
    (λ e. inr (record { front = []; more = s; is = ap (λ (k : ℕ). k ∷ s) (eqb-true b 10 e); none = refl }))
    (λ e. go e (feed_split s))
  where
    go : eqb b 10 ≡ false → (until_feed s ≡ length s) ⊎ FeedAt s → (cond (eqb b 10) 0 (suc (until_feed s)) ≡ suc (length s)) ⊎ FeedAt (b ∷ s)
    go e (inl q) = inl (rw e (ap suc q))
    go e (inr f) = inr (record {
      front = b ∷ f.front;
      more = f.more;
      is = ap (λ (l : List ℕ). b ∷ l) f.is;
      none = rw f.none (ne_eqb 10 b (λ q. eqb-false b 10 e (sym q)));
    })

-- a name as it should be has no line feed
text_one_line : (x : List ℕ) → text_bytes x ≡ true → is_in 10 x ≡ false
unfolding text_bytes is_in
text_one_line [] h = refl
text_one_line (b ∷ x) h = let k = both (is_text_byte b) (text_bytes x) h in rw (text_one_line x k.1) (ne_eqb 10 b (λ q. no_feed b k.0 (sym q)))

pub name_one_line : (L : Limits) (x : List ℕ) → text_name L x ≡ true → is_in 10 x ≡ false
name_one_line L x h = text_one_line x (text_bytes_lem L x h)

-- ---- the line

-- a line with this name stands there
module _ (L : Limits) (text : List ℕ) (at : ℕ) (x more : List ℕ) (inside : at ≤ length text) (none : is_in 10 x ≡ false) (e : drop at text ≡ name_line x ++ more) where
  keyed : is_at text at name_key ≡ true
  keyed = begins_at text at name_key ((x ++ 10 ∷ []) ++ more) inside e

  after_key : drop (at + 5) text ≡ x ++ 10 ∷ more
  after_key = sym (drop-drop 5 at text) ∙ ap (drop 5) e ∙ append_assoc x (10 ∷ []) more

  ends : at + 5 + length x ≡ line_end text (at + 5)
  unfolding line_end
  ends = ap (λ (k : ℕ). at + 5 + k) (sym (ap until_feed after_key ∙ feed_there x more none))

  closed : at + 5 + length x ≡ length text → ⊥
  closed q = omega (arith, q, sym (length-drop (at + 5) text) ∙ ap length after_key ∙ length-append x (10 ∷ more))

  pub name_part : part text (at + 5) (at + 5 + length x) ≡ x
  name_part = let d : at + 5 + length x - (at + 5) ≡ length x = omega arith in rw (d, after_key) (take-append_seam x (10 ∷ more))

  pub name_there : text_name L x ≡ true → name_at L text at ≡ name_span (at + 5) (at + 5 + length x)
  name_there g = name_is L text at (at + 5 + length x) keyed ends closed (rw name_part g)

  pub name_wrong : text_name L x ≡ false → name_at L text at ≡ Err (Name at)
  name_wrong g = name_bad L text at (at + 5 + length x) keyed ends closed (rw name_part g)

  name_some : name_at L text at ≡ Err (Form at) → ⊥
  name_some h = by_cases (text_name L x)
      (λ g. let z : ◌≡◌ {A = ℕ} 0 1 = cc (name_there g, h) in omega arith)
      (λ g. let z : ◌≡◌ {A = ℕ} 0 1 = cc (name_wrong g, h) in omega arith)

-- what the reader says of the line, and what stands there
pub data NameSaid (L : Limits) (text : List ℕ) (at : ℕ) : Type 0 where
  no_name : name_at L text at ≡ Err (Form at) → ((x : List ℕ) → is_in 10 x ≡ false → Begins (drop at text) (name_line x) → ⊥) → NameSaid L text at
  name_bad_lem : (x more : List ℕ) → is_in 10 x ≡ false → drop at text ≡ name_line x ++ more → text_name L x ≡ false → name_at L text at ≡ Err (Name at) → NameSaid L text at
  name_good : (x more : List ℕ) → is_in 10 x ≡ false → drop at text ≡ name_line x ++ more → text_name L x ≡ true → NameSaid L text at

module _ (L : Limits) (text : List ℕ) (at : ℕ) (inside : at ≤ length text) where
  none-there : name_at L text at ≡ Err (Form at) → NameSaid L text at
  none-there h = no_name h (λ x none (more, e). name_some L text at x more inside none e h)

  said_end : is_at text at name_key ≡ true → (until_feed (drop (at + 5) text) ≡ length (drop (at + 5) text)) ⊎ FeedAt (drop (at + 5) text) → NameSaid L text at
  unfolding line_end
  said_end k (inl q) = none-there (name_open L text at (at + 5 + until_feed (drop (at + 5) text)) k refl (let l = length-drop (at + 5) text in let i = key_in in omega (arith, q, l, i)))
    where
      key_in : at + 5 ≤ length text
      key_in = is_at_in text at 110 (97 ∷ 109 ∷ 101 ∷ 61 ∷ []) k refl
  said_end k (inr f) =
      let x = f.front in
      let d : drop at text ≡ name_key ++ drop (at + 5) text = at_begins text at name_key refl k in
      let e : drop at text ≡ name_line x ++ f.more = d ∙ ap (λ (l : List ℕ). name_key ++ l) (f.is ∙ sym (append_assoc x (10 ∷ []) f.more)) in
      by_cases (text_name L x)
      (λ g. name_good x f.more f.none e g)
      (λ g. name_bad_lem x f.more f.none e g (name_wrong L text at x f.more inside f.none e g))

  pub name_said : NameSaid L text at
  name_said = by_cases (is_at text at name_key)
      (λ k. said_end k (feed_split (drop (at + 5) text)))
      (λ k. none-there (name_none L text at k))

-- ---- names and bytes

text_byte_small : (b : ℕ) → is_text_byte b ≡ true → b < 256
unfolding is_text_byte is_name_byte
text_byte_small b h = by_cases (is_capital b)
    (λ c. omega (arith, (capital_range b c).1))
    (λ c. by_cases (leb 97 b)
    (λ k. let q : leb b 122 ≡ true = rw (c, k) at h in omega (arith, leb-true b 122 q))
    (λ k. omega (arith, leb-false 97 b k)))

bytes_small : (x : List ℕ) → text_bytes x ≡ true → small x ≡ true
unfolding text_bytes
bytes_small [] h = refl
bytes_small (b ∷ x) h = let k = both (is_text_byte b) (text_bytes x) h in rw (lt-ltb b 256 (text_byte_small b k.0)) (bytes_small x k.1)

pub name_small : (L : Limits) (x : List ℕ) → text_name L x ≡ true → small (name_line x) ≡ true
name_small L x h = small_join x (10 ∷ []) (bytes_small x (text_bytes_lem L x h)) refl

-- ---- the names of earlier drones

same_self : (x : List ℕ) → same x x ≡ true
unfolding same
same_self [] = refl
same_self (b ∷ x) = rw (eq-eqb b b refl) (same_self x)

same_is : (x y : List ℕ) → same x y ≡ true → x ≡ y
unfolding same
same_is [] [] h = refl
same_is [] (b ∷ y) h = absurd (false≢true h)
same_is (a ∷ x) [] h = absurd (false≢true h)
same_is (a ∷ x) (b ∷ y) h = let k = both (eqb a b) (same x y) h in let p = eqb-true a b k.0 in let q = same_is x y k.1 in λ i. p i ∷ q i

pub named-elem : (L : Limits) (ds : List Route) (x : List ℕ) → NamedIn ds x → elem (rows_of L (small_names ds)) (row_of L (small_form x)) ≡ true
unfolding elem
named-elem L [] x h = absurd h
named-elem L (d ∷ ds) x (inl e) = rw (e, same_self (row_of L (small_form x))) refl
named-elem L (d ∷ ds) x (inr h) = or_right (same (row_of L (small_form d.name)) (row_of L (small_form x))) (elem (rows_of L (small_names ds)) (row_of L (small_form x))) (named-elem L ds x h)

pub elem-named : (L : Limits) (form : ℕ) (ds : List Route) (earlier : List (List ℕ)) (total : ℕ) (x : List ℕ) → InLimitsFrom L form earlier total (small_names ds) → good_name L (small_form x) ≡ true
    → elem (rows_of L (small_names ds)) (row_of L (small_form x)) ≡ true → NamedIn ds x
unfolding elem
elem-named L form [] earlier total x v g h = absurd (false≢true h)
elem-named L form (d ∷ ds) earlier total x v g h = by_cases (same (row_of L (small_form d.name)) (row_of L (small_form x)))
    (λ s. inl ((rows_tell_names L (small_form d.name) (small_form x) v.0 g).0 (same_is _ _ s)))
    (λ s. inr (elem-named L form ds (earlier ++ row_of L (small_form d.name) ∷ []) (total + length d.locations) x v.5 g (or_other (same (row_of L (small_form d.name)) (row_of L (small_form x))) (elem (rows_of L (small_names ds)) (row_of L (small_form x))) s h)))
