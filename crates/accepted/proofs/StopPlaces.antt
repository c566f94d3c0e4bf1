-- The line of a stop that stands at a place, and what the reader says of it. Assumes nothing.
use mathlib.Core.Path.{◌≡◌, refl, sym, ap, ◌∙◌}
use mathlib.Core.Logic.{◌⊎◌, inl, inr}
use mathlib.Core.Bool.{Bool, true, false, cond, false≢true}
use mathlib.Core.List.{List, [], ◌++◌}
use Prim.Native.Nat.{ℕ, zero, suc, ◌+◌, ◌≤◌, ◌<◌}
use native.Mathlib.Nat.{add-zero}
use native.Mathlib.Omega.{arith}
use lib.Dec.{leb, eqb}
use borrow.Author.Tests.{leb-true, leb-false, le-leb, lt-leb, eqb-true, eqb-false, eq-eqb, ne_eqb}
use lib.ListN.{length, length-append}
use Rattle.below.proofs.Tests.{by_cases}
use Rattle.tables.specs.Limits.{Limits}
use Rattle.tables.specs.Legs.{plain_leg, longest_leg, leg_right}
use Rattle.lines.specs.Bytes.{is_at}
use Rattle.lines.specs.Keys.{go_key}
use Rattle.lines.specs.Numbers.{is_digit, field_at, field}
use Rattle.lines.specs.Stops.{time_end, leg_at, go_at, leg_field, stop_line}
use Rattle.lines.proofs.ByteLaws.{small, Stands, stands_parts, stands_join}
use Rattle.lines.proofs.NumberCases.{number_same}
use Rattle.lines.proofs.NumberRoundTrip.{field-stands, field_back}
use Rattle.lines.proofs.LegLaws.{plain-right, time_end-low, time_end_open, leg_stands}
use Rattle.lines.proofs.StopCases.{go-none, go_first, go_second, go_third, go_far, go_late, go_long, go_in}
use Rattle.lines.specs.declared.refusal.Refusal.TheVariants.{Form, Range}
use Rattle.accepted.specs.LineFaults.{SevenDigit, LegOut}
use Rattle.accepted.proofs.LinePlaces.{small_join, field-small, field_seven}
use Rattle.lines.specs.Numbers.{number}
use Rattle.lines.specs.Stops.{go_stop}
use Rattle.lines.specs.declared.numbers.Number.{Number}
use Rattle.std.specs.Prelude.{Option, Some, None, Err}

-- ---- legs of a `plan=2` text

past_first : (s : ℕ) → eqb (suc s) 0 ≡ false
past_first s = ne_eqb (suc s) 0 (λ z. omega (arith, z))

pub leg_wrong : (L : Limits) (s g : ℕ) → LegOut L s g → leg_right L 2 s g ≡ false
unfolding leg_right longest_leg
leg_wrong L zero g o = ne_eqb g 0 (λ z. omega (arith, z, o))
leg_wrong L (suc s) g (inl z) = rw (past_first s, lt-leb 1 g (omega (arith, z))) refl
leg_wrong L (suc s) g (inr m) = by_cases (leb 1 g) (λ a. rw (past_first s, a, lt-leb g L.leg m) refl) (λ a. rw (past_first s, a) refl)

pub leg_out : (L : Limits) (s g : ℕ) → leg_right L 2 s g ≡ false → LegOut L s g
unfolding leg_right longest_leg
leg_out L zero g h = let n = eqb-false g 0 h in omega (arith, n)
leg_out L (suc s) g h = by_cases (eqb g 0)
    (λ z. inl (eqb-true g 0 z))
    (λ z. by_cases (leb g L.leg)
    (λ m. let n = eqb-false g 0 z in let k : 1 ≤ g = omega (arith, n) in absurd (false≢true (sym h ∙ rw (past_first s, le-leb 1 g k, m) refl)))
    (λ m. inr (leb-false g L.leg m)))

-- ---- the line

-- the leg that is read where a line with the leg g stands
unfoldable leg_read : (form s g : ℕ) → ℕ
leg_read form s g = cond (eqb form 1) (plain_leg s) g

leg_there : (form s : ℕ) (text : List ℕ) (q g : ℕ) → SevenDigit g → is_at text q (leg_field form g) ≡ true → leg_at form s text q ≡ number (leg_read form s g) (q + length (leg_field form g))
unfolding leg_at leg_field leg_read is_digit
leg_there form s text q g b h = by_form (eqb form 1) h
  where
    by_form : (c : Bool) → is_at text q (cond c [] (field g 10)) ≡ true → cond c (number (plain_leg s) q) (field_at text q 10) ≡ number (cond c (plain_leg s) g) (q + length (cond c [] (field g 10)))
    by_form true k = rw add-zero refl
    by_form false k = field_back text q 10 g refl b k

pub stop-small : (form l t g : ℕ) → small (stop_line form l t g) ≡ true
unfolding leg_field
stop-small form l t g =
    small_join (go_key ++ field l 64 ++ field t (time_end form)) (leg_field form g)
    (small_join (go_key ++ field l 64) (field t (time_end form)) (small_join go_key (field l 64) refl (field-small l 64 (omega arith))) (field-small t (time_end form) (omega (arith, time_end-low form)))) (by_form (eqb form 1))
  where
    by_form : (c : Bool) → small (cond c [] (field g 10)) ≡ true
    by_form true = refl
    by_form false = field-small g 10 (omega arith)

-- the fields of a line that stands there
record StopFields (form s : ℕ) (text : List ℕ) (at l t g : ℕ) : Type 0 where
  pub middle : ℕ
  pub last : ℕ
  pub next : ℕ
  pub key : is_at text at go_key ≡ true
  pub first : field_at text (at + 3) 64 ≡ number l middle
  pub second : field_at text middle (time_end form) ≡ number t last
  pub third : leg_at form s text last ≡ number (leg_read form s g) next

stop_fields : (form s : ℕ) (text : List ℕ) (at l t g : ℕ) → SevenDigit l → SevenDigit t → SevenDigit g → is_at text at (stop_line form l t g) ≡ true → StopFields form s text at l t g
unfolding is_digit
stop_fields form s text at l t g a b c h =
    let v = stands_parts text at (go_key ++ field l 64 ++ field t (time_end form)) (leg_field form g) h in
    let w = stands_parts text at (go_key ++ field l 64) (field t (time_end form)) v.0 in
    let k = stands_parts text at go_key (field l 64) w.0 in
    let m : at + length (go_key ++ field l 64) ≡ at + 3 + length (field l 64) = simp length-append (omega arith) in
    let n : at + length (go_key ++ field l 64 ++ field t (time_end form)) ≡ at + 3 + length (field l 64) + length (field t (time_end form)) = simp length-append (omega arith) in
    record {
      middle = at + 3 + length (field l 64);
      last = at + 3 + length (field l 64) + length (field t (time_end form));
      next = at + 3 + length (field l 64) + length (field t (time_end form)) + length (leg_field form g);
      key = k.0;
      first = field_back text (at + 3) 64 l refl a k.1;
      second = field_back text (at + 3 + length (field l 64)) (time_end form) t (time_end_open form) b (rw m at w.1);
      third = leg_there form s text (at + 3 + length (field l 64) + length (field t (time_end form))) g c (rw n at v.1);
    }

-- a number outside its range
abbrev pub Out : Limits → (form s l t g : ℕ) → Type 0
Out L form s l t g = (L.location < l) ⊎ ((L.time < t) ⊎ ((form ≡ 2) × LegOut L s g))

leg_two : (form s g : ℕ) → form ≡ 2 → leg_read form s g ≡ g
unfolding leg_read
leg_two form s g e = rw e refl

module _ (L : Limits) (form s : ℕ) (text : List ℕ) (at l t g : ℕ) (f : StopFields form s text at l t g) where
  stop-wrong : Out L form s l t g → go_at L form s text at ≡ Err (Range at)
  stop-wrong (inl far) = go_far L form s text at f.key _ refl l f.middle f.first _ refl t f.last f.second _ refl (leg_read form s g) f.next f.third far
  stop-wrong (inr (inl late)) = by_cases (leb l L.location)
      (λ a. go_late L form s text at f.key _ refl l f.middle f.first _ refl t f.last f.second _ refl (leg_read form s g) f.next f.third (leb-true _ _ a) late)
      (λ a. stop-wrong_far (leb-false _ _ a))
    where
      stop-wrong_far : L.location < l → go_at L form s text at ≡ Err (Range at)
      stop-wrong_far far = go_far L form s text at f.key _ refl l f.middle f.first _ refl t f.last f.second _ refl (leg_read form s g) f.next f.third far
  stop-wrong (inr (inr (e, o))) = by_cases (leb l L.location)
      (λ a. by_cases (leb t L.time)
      (λ b. go_long L form s text at f.key _ refl l f.middle f.first _ refl t f.last f.second _ refl (leg_read form s g) f.next f.third (leb-true _ _ a) (leb-true _ _ b) wrong)
      (λ b. go_late L form s text at f.key _ refl l f.middle f.first _ refl t f.last f.second _ refl (leg_read form s g) f.next f.third (leb-true _ _ a) (leb-false _ _ b)))
      (λ a. go_far L form s text at f.key _ refl l f.middle f.first _ refl t f.last f.second _ refl (leg_read form s g) f.next f.third (leb-false _ _ a))
    where
      wrong : leg_right L form s (leg_read form s g) ≡ false
      wrong = ap (leg_right L form s) (leg_two form s g e) ∙ ap (λ (k : ℕ). leg_right L k s g) e ∙ leg_wrong L s g o

pub stop_out : (L : Limits) (form s : ℕ) (text : List ℕ) (at l t g : ℕ) → SevenDigit l → SevenDigit t → SevenDigit g → is_at text at (stop_line form l t g) ≡ true → Out L form s l t g → go_at L form s text at ≡ Err (Range at)
stop_out L form s text at l t g a b c h o = stop-wrong L form s text at l t g (stop_fields form s text at l t g a b c h) o

-- what the reader says of the line, and what stands there
pub data StopSaid (L : Limits) (form s : ℕ) (text : List ℕ) (at : ℕ) : Type 0 where
  no_stop_lem : go_at L form s text at ≡ Err (Form at) → ((l t g : ℕ) → SevenDigit l → SevenDigit t → SevenDigit g → is_at text at (stop_line form l t g) ≡ true → ⊥) → StopSaid L form s text at
  stop_out_lem : (l t g : ℕ) → SevenDigit l → SevenDigit t → SevenDigit g → is_at text at (stop_line form l t g) ≡ true → Out L form s l t g → go_at L form s text at ≡ Err (Range at) → StopSaid L form s text at
  stop_is : (l t g e : ℕ) → SevenDigit l → SevenDigit t → SevenDigit g → is_at text at (stop_line form l t g) ≡ true → go_at L form s text at ≡ go_stop l t g e → StopSaid L form s text at

-- a leg that was read has at most seven digits
leg_seven : (form s : ℕ) (text : List ℕ) (at g e : ℕ) → leg_at form s text at ≡ number g e → SevenDigit g
unfolding leg_at plain_leg
leg_seven form s text at g e h = by_form (eqb form 1) (eqb s 0) h
  where
    by_form : (c d : Bool) → cond c (number (cond d 0 1) at) (field_at text at 10) ≡ number g e → SevenDigit g
    by_form true true k = let q : 0 ≡ g = (number_same k).0 in omega (arith, q)
    by_form true false k = let q : 1 ≡ g = (number_same k).0 in omega (arith, q)
    by_form false d k = field_seven text at 10 g e k

leg_plain_is : (form s : ℕ) (text : List ℕ) (at g e : ℕ) → form ≡ 1 → leg_at form s text at ≡ number g e → g ≡ plain_leg s
unfolding leg_at
leg_plain_is form s text at g e f h = let q : number (plain_leg s) at ≡ number g e = rw (eq-eqb form 1 f) at h in let p : plain_leg s ≡ g = (number_same q).0 in sym p

module _ (L : Limits) (form s : ℕ) (text : List ℕ) (at : ℕ) (one : 1 ≤ form) (two : form ≤ 2) where
  said_leg : (l p t q : ℕ) → is_at text at go_key ≡ true → field_at text (at + 3) 64 ≡ number l p → field_at text p (time_end form) ≡ number t q → (n : Option Number) → leg_at form s text q ≡ n → StopSaid L form s text at
  said_leg l p t q k a b None c =
      no_stop_lem (go_third L form s text at k _ refl l p a _ refl t q b _ refl c)
      (λ l' t' g' x y z h. let f = stop_fields form s text at l' t' g' x y z h in
      let ep : p ≡ f.middle = (number_same (sym a ∙ f.first)).1 in
      let eq : q ≡ f.last = (number_same (sym (rw ep at b) ∙ f.second)).1 in
      let w : ◌≡◌ {A = ℕ} 0 1 = cc (rw eq at c, f.third) in omega arith)
  said_leg l p t q k a b (Some n) c =
      let g = n.value in
      let e = n.next in
      let w : Stands text at (stop_line form l t g) e = stands_join (stands_join (stands_join (record { there = k; next_is = refl }) (field-stands text (at + 3) 64 l p a)) (field-stands text p (time_end form) t q b)) (leg_stands form s text q g e c) in
      let x = field_seven text (at + 3) 64 l p a in
      let y = field_seven text p (time_end form) t q b in
      let z = leg_seven form s text q g e c in
      let out : Out L form s l t g → StopSaid L form s text at = λ o. stop_out_lem l t g x y z w.there o (stop_out L form s text at l t g x y z w.there o) in
      by_cases (leb l L.location)
      (λ near. by_cases (leb t L.time)
      (λ early. by_cases (leg_right L form s g)
      (λ right. stop_is l t g e x y z w.there (go_in L form s text at k _ refl l p a _ refl t q b _ refl g e c (leb-true _ _ near) (leb-true _ _ early) right))
      (λ wrong. by_cases (eqb form 1)
      (λ f. let pl = leg_plain_is form s text q g e (eqb-true form 1 f) c in absurd (false≢true (sym wrong ∙ rw (eqb-true form 1 f, pl) (plain-right L s))))
      (λ f. let no = eqb-false form 1 f in let is : form ≡ 2 = omega (arith, one, two, no) in out (inr (inr (is, leg_out L s g (rw is at wrong)))))))
      (λ late. out (inr (inl (leb-false _ _ late)))))
      (λ far. out (inl (leb-false _ _ far)))

  said_time : (l p : ℕ) → is_at text at go_key ≡ true → field_at text (at + 3) 64 ≡ number l p → (n : Option Number) → field_at text p (time_end form) ≡ n → StopSaid L form s text at
  said_time l p k a None b =
      no_stop_lem (go_second L form s text at k _ refl l p a _ refl b)
      (λ l' t' g' x y z h. let f = stop_fields form s text at l' t' g' x y z h in
      let ep : p ≡ f.middle = (number_same (sym a ∙ f.first)).1 in
      let w : ◌≡◌ {A = ℕ} 0 1 = cc (rw ep at b, f.second) in omega arith)
  said_time l p k a (Some n) b = said_leg l p n.value n.next k a b (leg_at form s text n.next) refl

  said_place : is_at text at go_key ≡ true → (n : Option Number) → field_at text (at + 3) 64 ≡ n → StopSaid L form s text at
  said_place k None a =
      no_stop_lem (go_first L form s text at k _ refl a)
      (λ l' t' g' x y z h. let f = stop_fields form s text at l' t' g' x y z h in let w : ◌≡◌ {A = ℕ} 0 1 = cc (a, f.first) in omega arith)
  said_place k (Some n) a = said_time n.value n.next k a (field_at text n.next (time_end form)) refl

  pub stop_said : StopSaid L form s text at
  stop_said = by_cases (is_at text at go_key)
      (λ k. said_place k (field_at text (at + 3) 64) refl)
      (λ k. no_stop_lem (go-none L form s text at k) (λ l' t' g' x y z h. let f = stop_fields form s text at l' t' g' x y z h in false≢true (sym k ∙ f.key)))
