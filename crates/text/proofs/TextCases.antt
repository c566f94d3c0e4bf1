-- The whole text: which case of the definitions holds, by what was read; and the tables afterwards.
use Prim.Native.Nat.{ℕ, ◌+◌, ◌≤◌}
use mathlib.Core.Path.{◌≡◌, refl, sym, ap, ◌∙◌}
use mathlib.Core.List.{List, []}
use mathlib.Core.Bool.{Bool, true, false, cond}
use lib.Dec.{eqb}
use borrow.Author.Tests.{eq-eqb, ne_eqb}
use lib.ListN.{length}
use lib.Seq.{sets}
use Rattle.tables.specs.Limits.{Limits}
use native.Mathlib.Nat.{zero-mul}
use Rattle.lines.specs.Bytes.{is_at}
use Rattle.lines.specs.Keys.{agents_key, last_line}
use Rattle.lines.specs.Forms.{form_at}
use Rattle.lines.specs.Stops.{count_at, count_read}
use Rattle.text.specs.LinesRead.{LinesRead, nothing, drones_at, ending, finish, agents_of, lines_of_form, lines_at, LinesStored, read_to}
use Rattle.text.specs.TextRead.{drone_count, plan_form, TextRead}
use Rattle.text.proofs.TakenIsWritten.{text_taken}
use Rattle.lines.specs.declared.refusal.Refusal.{Refusal}
use Rattle.text.specs.declared.reader.DroneLines.{DroneLines}
use Rattle.lines.specs.declared.refusal.Refusal.TheVariants.{Form}
use Rattle.std.specs.Prelude.{Err, Ok, Result}
use Rattle.lines.specs.declared.numbers.Number.{Number}

pub lines_none : (L : Limits) (form : ℕ) (text : List ℕ) → form ≡ 0 → lines_of_form L form text ≡ nothing form (Err (Form 0))
unfolding lines_of_form
lines_none L form text h = rw (eq-eqb form 0 h)

module _ (L : Limits) (form : ℕ) (text : List ℕ) (h : form ≡ 0 → ⊥) (n : Result Number Refusal) (e : n ≡ count_at text 7 agents_key L.drones) where
  pub lines_refused : (r : Refusal) → n ≡ Err r → lines_of_form L form text ≡ nothing form (Err r)
  unfolding lines_of_form
  lines_refused r k = rw (ne_eqb form 0 h, ← e, k)

  pub lines_are : (v p : ℕ) → n ≡ count_read v p → lines_of_form L form text ≡ finish form text v (drones_at L form v text p [] 0)
  unfolding lines_of_form
  lines_are v p k = rw (ne_eqb form 0 h, ← e, k)

-- the drones' lines were stored, and the answer is what follows them
pub finish-stored : {L : Limits} {f : LinesRead (Result DroneLines Refusal)} {ns cs ls ts gs ns' cs' ls' ts' gs' : List ℕ} {r : Result DroneLines Refusal} (form : ℕ) (text : List ℕ) (v : ℕ) (a : Result ℕ Refusal)
    → LinesStored L f 0 0 ns cs ls ts gs ns' cs' ls' ts' gs' r → a ≡ ending text v r → LinesStored L (finish form text v f) 0 0 ns cs ls ts gs ns' cs' ls' ts' gs' a
finish-stored form text v a s e = record {
  answer_is = e ∙ ap (ending text v) s.answer_is;
  names_are = s.names_are;
  counts_are = s.counts_are;
  locations_are = s.locations_are;
  times_are = s.times_are;
  legs_are = s.legs_are;
}

module _ (text : List ℕ) (v e t : ℕ) (r : Result DroneLines Refusal) (k : r ≡ read_to e t) where
  pub end_missing : is_at text e last_line ≡ false → Err (Form e) ≡ ending text v r
  end_missing h = rw (k, h)

  pub end_early : is_at text e last_line ≡ true → (e + 9 ≡ length text → ⊥) → Err (Form (e + 9)) ≡ ending text v r
  end_early h q = rw (k, h, ne_eqb (e + 9) (length text) q)

  pub end_right : is_at text e last_line ≡ true → e + 9 ≡ length text → Ok v ≡ ending text v r
  end_right h q = rw (k, h, eq-eqb (e + 9) (length text) q)

pub end_refused : (text : List ℕ) (v : ℕ) (x : Refusal) (r : Result DroneLines Refusal) → r ≡ Err x → Err x ≡ ending text v r
end_refused text v x r k = rw k

-- a plan that was taken has drones up to the limit
pub taken_range : (L : Limits) (text : List ℕ) (n : ℕ) → (lines_at L text).answer ≡ Ok n → (1 ≤ n) × (n ≤ L.drones)
taken_range L text n h =
    let t = text_taken L text n h in
    (rw t.many at t.in_limits.0, rw t.many at t.in_limits.1)

-- ---- the tables afterwards

-- the form is that of the first line
form_of : (L : Limits) (form : ℕ) (text : List ℕ) → (lines_of_form L form text).form ≡ form
unfolding lines_of_form
form_of L form text = by_form (eqb form 0)
  where
    by_count : (n : Result Number Refusal) → (agents_of L form text n).form ≡ form
    by_count (Err r) = refl
    by_count (Ok count) = refl

    by_form : (b : Bool) → (cond b (nothing form (Err (Form 0))) (agents_of L form text (count_at text 7 agents_key L.drones))).form ≡ form
    by_form true = refl
    by_form false = by_count (count_at text 7 agents_key L.drones)

pub lines_form : (L : Limits) (text : List ℕ) → (lines_at L text).form ≡ form_at L text
unfolding lines_at
lines_form L text = form_of L (form_at L text) text

module _ (L : Limits) (text : List ℕ) (form : ℕ) (q : form ≡ form_at L text) {ns cs ls ts gs ns₁ cs₁ ls₁ ts₁ gs₁ : List ℕ} {r : Result ℕ Refusal}
    (f : LinesStored L (lines_of_form L form text) 0 0 ns cs ls ts gs ns₁ cs₁ ls₁ ts₁ gs₁ r) where
  whole-stored : LinesStored L (lines_at L text) 0 0 ns cs ls ts gs ns₁ cs₁ ls₁ ts₁ gs₁ r
  unfolding lines_at
  whole-stored = rw q at f

  pub range_read : (n : ℕ) → r ≡ Ok n → (1 ≤ n) × (n ≤ L.drones)
  range_read n k = taken_range L text n (sym whole-stored.answer_is ∙ k)

  pub text_read : (dc fm : List ℕ) (a : Result ℕ Refusal) → r ≡ a → TextRead L text dc fm ns cs ls ts gs (sets dc 0 (drone_count a)) (sets fm 0 (plan_form form a)) ns₁ cs₁ ls₁ ts₁ gs₁ a
  text_read dc fm a k =
      let w = whole-stored in
      record {
        answer_is = sym k ∙ w.answer_is;
        count_is = refl;
        form_is = ap (λ (n : ℕ). sets fm 0 (plan_form n a)) (q ∙ sym (lines_form L text));
        names_are = rw zero-mul at w.names_are;
        counts_are = w.counts_are;
        locations_are = w.locations_are;
        times_are = w.times_are;
        legs_are = w.legs_are;
      }
