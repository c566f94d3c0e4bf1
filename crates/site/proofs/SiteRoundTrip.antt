-- A site text is read back as written, and written as read: line by line, each piece where the one before it ends. Assumes nothing.
use Prim.Native.Nat.{ℕ, zero, suc, ◌+◌, ◌*◌, ◌^◌, ◌≤◌, ◌<◌}
use native.Mathlib.Nat.{add-zero}
use native.Mathlib.Numerals.{add-one}
use native.Mathlib.Omega.{arith}
use mathlib.Core.Path.{◌≡◌, refl, sym, ap, ◌∙◌}
use mathlib.Core.List.{List, [], ◌∷◌, ◌++◌}
use mathlib.Core.Bool.{Bool, true, false, cond}
use lib.Dec.{leb, eqb}
use lib.ListN.{length, get_or, drop, length-append, drop_of_length-le}
use lib.Seq.{take-length, drop-cons}
use borrow.Author.Tests.{le-leb, lt-ltb, eqb-true, eq-eqb}
use Rattle.tables.specs.Limits.{Limits, most_pairs}
use Rattle.lines.specs.Bytes.{byte_at, is_at}
use Rattle.lines.specs.Numbers.{is_digit, field_at, field}
use Rattle.lines.specs.declared.numbers.Number.{Number}
use Rattle.lines.proofs.ByteLaws.{Stands, stands_join, stands_parts, part_at, both, get_d_in}
use Rattle.lines.proofs.NumberRoundTrip.{field-stands, field_back}
use Rattle.site.specs.declared.SiteRefusal.TheVariants.{Form, Range}
use Rattle.site.specs.declared.NearLine.{NearLine}
use Rattle.std.specs.Prelude.{Option, Some, None, Result, Ok, Err}
use Rattle.lines.specs.Numbers.{number}
use Rattle.site.specs.declared.SiteRefusal.{SiteRefusal}
use Rattle.site.specs.Site.{near_pair, pairs_counted, site_line, pairs_key, near_key, site_end, in_order, near_at, pairs_from, pairs_at, pairs_in, pair_count_at, site_at}
use Rattle.site.specs.Written.{near_line, near_lines, pairs_line, site_text, OrderedPair, Ordered}
use Rattle.site.specs.Claims.{SitePairs, SiteTaken, SiteClaims}
use Rattle.site.proofs.SiteCases.{pairs_counted_same, near_fields, near_in, count_in_lem}
use Rattle.site.proofs.SiteSound.{lines_ordered, taken-says, taken_sound}

-- ---- written as read

near-stands : (L : Limits) (c d : ℕ) (text : List ℕ) (at a b e : ℕ) → near_at L c d text at ≡ near_pair a b e → Stands text at (near_line a b) e
near-stands L c d text at a b e h =
    let r = near_fields L c d text at a b e h in
    stands_join (stands_join (record { there = r.key; next_is = refl }) (field-stands text (at + 5) 44 a r.middle r.first)) (field-stands text r.middle 10 b e r.second)

lines_stand : (L : Limits) (n c d : ℕ) (text : List ℕ) (at e : ℕ) → (pairs_at L n c d text at).answer ≡ Ok e → Stands text at (near_lines (pairs_at L n c d text at).numbers) e
unfolding pairs_at near_lines is_at
lines_stand L zero c d text at e h = let p : at ≡ e = cc h in rw (← p) (record { there = refl; next_is = sym (add-zero at) })
lines_stand L (suc n) c d text at e h = by_line (near_at L c d text at) refl h (λ a b p q. lines_stand L n a b text p e q)
  where
    by_line : (s : Result NearLine SiteRefusal) → near_at L c d text at ≡ s → (pairs_from s (λ a b p. pairs_at L n a b text p)).answer ≡ Ok e
        → ((a b p : ℕ) → (pairs_at L n a b text p).answer ≡ Ok e → Stands text p (near_lines (pairs_at L n a b text p).numbers) e)
        → Stands text at (near_lines (pairs_from s (λ a b p. pairs_at L n a b text p)).numbers) e
    by_line (Ok q) f h rest = stands_join (near-stands L c d text at q.lower q.upper q.next f) (rest q.lower q.upper q.next h)
    by_line (Err r) f h rest = absurd (let z : ◌≡◌ {A = ℕ} 0 1 = cc h in omega arith)

count_stands : (L : Limits) (text : List ℕ) (at v p : ℕ) → pair_count_at L text at ≡ pairs_counted v p → Stands text at (pairs_line v) p
unfolding pair_count_at
count_stands L text at v p h = by_key (is_at text at pairs_key) refl h
  where
    by_test : (v' p' : ℕ) → is_at text at pairs_key ≡ true → field_at text (at + 6) 10 ≡ number v' p' → (b : Bool) → cond b (pairs_counted v' p') (Err (Range at)) ≡ pairs_counted v p → Stands text at (pairs_line v) p
    by_test v' p' k f true h =
        let ev : v' ≡ v = (pairs_counted_same h).0 in
        let ep : p' ≡ p = (pairs_counted_same h).1 in
        rw (← ev, ← ep) (stands_join (record { there = k; next_is = refl }) (field-stands text (at + 6) 10 v' p' f))
    by_test v' p' k f false h = absurd (let z : ◌≡◌ {A = ℕ} 0 1 = cc h in omega arith)

    by_number : is_at text at pairs_key ≡ true → (n : Option Number) → field_at text (at + 6) 10 ≡ n → pairs_in L at n ≡ pairs_counted v p → Stands text at (pairs_line v) p
    by_number k None f h = absurd (let z : ◌≡◌ {A = ℕ} 0 1 = cc h in omega arith)
    by_number k (Some n) f h = by_test n.value n.next k f (leb n.value most_pairs) h

    by_key : (k : Bool) → is_at text at pairs_key ≡ k → cond k (pairs_in L at (field_at text (at + 6) 10)) (Err (Form at)) ≡ pairs_counted v p → Stands text at (pairs_line v) p
    by_key true k h = by_number k (field_at text (at + 6) 10) refl h
    by_key false k h = absurd (let z : ◌≡◌ {A = ℕ} 0 1 = cc h in omega arith)

-- bytes that stand from a position to the end of the text are the rest of the text
whole_from : (text : List ℕ) (p : ℕ) (x : List ℕ) → is_at text p x ≡ true → length text ≡ p + length x → drop p text ≡ x
unfolding is_at byte_at
whole_from text p [] h l = let k : length text ≤ p = omega arith in drop_of_length-le text k
whole_from text p (b ∷ x) h l =
    let w = both (eqb (get_or text p 256) b) (is_at text (p + 1) x) h in
    let i : p < length text = omega arith in
    let e : get_or text p 0 ≡ b = get_d_in text p 0 256 i ∙ eqb-true _ _ w.0 in
    rw (drop-cons text p 0 i, e, ← add-one p, whole_from text (p + 1) x w.1 (omega arith))

pub taken_written : (L : Limits) (text : List ℕ) → (site_at L text).answer ≡ Ok tt → SiteTaken L text
taken_written L text h =
    let T = taken-says L text h in
    let (o, l) = lines_ordered L T.n 0 0 text T.from T.to T.all_read in
    let w : Stands text 0 (site_text T.n (pairs_at L T.n 0 0 text T.from).numbers) (T.to + 9) =
    stands_join (stands_join (stands_join (record { there = T.line; next_is = refl }) (count_stands L text 7 T.n T.from T.count)) (lines_stand L T.n 0 0 text T.from T.to T.all_read)) (record { there = T.last; next_is = refl }) in
    record {
      n = T.n;
      pairs = rw T.numbers_are (record { ordered = o; many = l; few = T.few });
      written = rw T.numbers_are (whole_from text 0 (site_text T.n (pairs_at L T.n 0 0 text T.from).numbers) w.there (sym T.closes ∙ w.next_is));
    }

-- ---- read as written

says_order : (L : Limits) (c d a b : ℕ) → OrderedPair L c d a b → in_order L c d a b ≡ true
unfolding in_order
says_order L c d a b o = rw (le-leb b L.location o.near, lt-ltb a b o.up, o.after) refl

near_back : (L : Limits) (c d : ℕ) (text : List ℕ) (at a b : ℕ) → L.location < 10 ^ 7 → OrderedPair L c d a b → is_at text at (near_line a b) ≡ true → near_at L c d text at ≡ near_pair a b (at + length (near_line a b))
unfolding is_digit
near_back L c d text at a b u o h =
    let w = stands_parts text at (near_key ++ field a 44) (field b 10) h in
    let k = stands_parts text at near_key (field a 44) w.0 in
    let m : at + length (near_key ++ field a 44) ≡ at + 5 + length (field a 44) = simp length-append (omega arith) in
    let s : is_at text (at + 5 + length (field a 44)) (field b 10) ≡ true = rw m at w.1 in
    near_in L c d text at a _ b _ k.0 (field_back text (at + 5) 44 a refl (omega (arith, u, o.near, o.up)) k.1) (field_back text _ 10 b refl (omega (arith, u, o.near)) s) (says_order L c d a b o)
    ∙ ap (near_pair a b) (simp length-append (omega arith))

lines_back : (L : Limits) (n c d : ℕ) (ns text : List ℕ) (at : ℕ) → L.location < 10 ^ 7 → Ordered L c d ns → length ns ≡ 2 * n → is_at text at (near_lines ns) ≡ true
    → pairs_at L n c d text at ≡ record { numbers = ns; answer = Ok (at + length (near_lines ns)) }
unfolding pairs_at near_lines
lines_back L zero c d [] text at u o l h = rw add-zero
lines_back L (suc n) c d [] text at u o l h = absurd (omega arith)
lines_back L zero c d (a ∷ ns) text at u o l h = absurd (omega arith)
lines_back L (suc n) c d (a ∷ []) text at u o l h = absurd o
lines_back L (suc n) c d (a ∷ (b ∷ ns)) text at u o l h =
    let w = stands_parts text at (near_line a b) (near_lines ns) h in
    let g = near_back L c d text at a b u o.0 w.0 in
    let m : at + length (near_line a b) + length (near_lines ns) ≡ at + length (near_line a b ++ near_lines ns) = simp length-append (omega arith) in
    rw (g, lines_back L n a b ns text (at + length (near_line a b)) u o.1 (omega arith) w.1, m)

count_back : (L : Limits) (text : List ℕ) (at v : ℕ) → v ≤ most_pairs → v < 10 ^ 7 → is_at text at (pairs_line v) ≡ true → pair_count_at L text at ≡ pairs_counted v (at + length (pairs_line v))
unfolding is_digit
count_back L text at v b s h =
    let w = stands_parts text at pairs_key (field v 10) h in
    count_in_lem L text at v _ w.0 (field_back text (at + 6) 10 v refl s w.1) b
    ∙ ap (pairs_counted v) (simp length-append (omega arith))

text_back : (L : Limits) (n : ℕ) (ns text C : List ℕ) → L.location < 10 ^ 7 → most_pairs < 10 ^ 7 → C ≡ pairs_line n → SitePairs L n ns → is_at text 0 site_line ≡ true → is_at text 7 C ≡ true
    → is_at text (7 + length C) (near_lines ns) ≡ true → is_at text (7 + length C + length (near_lines ns)) site_end ≡ true → 7 + length C + length (near_lines ns) + 9 ≡ length text
    → site_at L text ≡ record { numbers = ns; answer = Ok tt }
unfolding site_at
text_back L n ns text C u v q P k c r e l =
    let m : pair_count_at L text 7 ≡ pairs_counted n (7 + length C) = count_back L text 7 n P.few (omega (arith, v, P.few)) (rw q at c) ∙ rw q in
    let g = lines_back L n 0 0 ns text (7 + length C) u P.ordered P.many r in
    rw (k, m, g, e, eq-eqb _ _ l)

pub written_taken : (L : Limits) → L.location < 10 ^ 7 → most_pairs < 10 ^ 7 → (n : ℕ) (ns : List ℕ) → SitePairs L n ns → site_at L (site_text n ns) ≡ record { numbers = ns; answer = Ok tt }
written_taken L u v n ns P = go (site_text n ns) (pairs_line n) refl refl
  where
    go : (text C : List ℕ) → text ≡ site_line ++ C ++ near_lines ns ++ site_end → C ≡ pairs_line n → site_at L text ≡ record { numbers = ns; answer = Ok tt }
    go text C t q =
        let i : is_at text 0 text ≡ true = rw take-length at (part_at text 0 (length text) (omega arith)) in
        let j : is_at text 0 (site_line ++ C ++ near_lines ns ++ site_end) ≡ true = ap (is_at text 0) (sym t) ∙ i in
        let w = stands_parts text 0 (site_line ++ C ++ near_lines ns) site_end j in
        let y = stands_parts text 0 (site_line ++ C) (near_lines ns) w.0 in
        let k = stands_parts text 0 site_line C y.0 in
        let m : 0 + length (site_line ++ C) ≡ 7 + length C = simp length-append (omega arith) in
        let o : 0 + length (site_line ++ C ++ near_lines ns) ≡ 7 + length C + length (near_lines ns) = simp length-append (omega arith) in
        let l : 7 + length C + length (near_lines ns) + 9 ≡ length text = rw t (simp length-append (omega arith)) in
        text_back L n ns text C u v q P k.0 k.1 (rw m at y.1) (rw o at w.1) l

pub site_claims : (L : Limits) → SiteClaims L
site_claims L = record { written_taken = written_taken L; taken_written = taken_written L; taken_sound = taken_sound L }
