-- A text without capitals is read as if there were none.
use Prim.Native.Nat.{ℕ, ◌+◌}
use mathlib.Core.Path.{◌≡◌, refl, sym, ap, ◌∙◌}
use mathlib.Core.List.{List}
use Rattle.tables.specs.Limits.{Limits, limits}
use Rattle.lines.specs.Names.{small_form, line_end, part, good_name, text_name, named_at, name_at}
use Rattle.lines.proofs.Letters.{text_name_lem}
use Rattle.lines.proofs.SmallReads.{part_small}
use Rattle.text.specs.Claims.{LinesAlike, RoundTrip, WithoutCapitals}
use Rattle.text.proofs.TakenIsWritten.{text_taken}
use Rattle.text.proofs.SmallTexts.{lines_alike}
use Rattle.text.proofs.RoundTrips.{limits-round_trip}

pub read_alike : (L : Limits) → LinesAlike L
read_alike L text = lines_alike L text

part-own : (text : List ℕ) (s e : ℕ) → small_form text ≡ text → small_form (part text s e) ≡ part text s e
part-own text s e h = sym (part_small text s e) ∙ ap (λ (l : List ℕ). part l s e) h

pub name_plain : (L : Limits) (text : List ℕ) (at : ℕ) → small_form text ≡ text → name_at L text at ≡ named_at (good_name L) text at
unfolding name_at
name_plain L text at h =
    let e = line_end text (at + 5) in
    let q : text_name L (part text (at + 5) e) ≡ good_name L (part text (at + 5) e) = text_name_lem L (part text (at + 5) e) ∙ ap (good_name L) (part-own text (at + 5) e h) in
    rw q refl

pub without_capitals : (L : Limits) → RoundTrip L → WithoutCapitals L
without_capitals L trip = record {
  names_judged = name_plain L;
  names_stored = part-own;
  well_formed_is_written = λ text n e h. let t = text_taken L text n h in (t.form, t.routes, t.many, t.in_limits, t.read, sym e ∙ t.written);
  one_text = λ a b n e f h q. sym e ∙ trip.one_text a b n h q ∙ f;
}

pub limits-without_capitals : WithoutCapitals limits
limits-without_capitals = without_capitals limits limits-round_trip
