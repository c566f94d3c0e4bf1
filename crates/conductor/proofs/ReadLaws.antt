-- A reading on tables that differ only in what is zeroed.
--     Numbers    the numbers at which nothing is written: 41 and 1, and no other that a reading replies
--     read_twice    what it writes does not depend on what is zeroed
-- Assumes nothing.
use mathlib.Core.Path.{◌≡◌, refl, ap}
use mathlib.Core.Logic.{◌≢◌}
use mathlib.Core.Bool.{Bool, true, false, cond}
use mathlib.Core.List.{List}
use Prim.Native.Nat.{ℕ, ◌<◌}
use native.Mathlib.Omega.{arith}
use lib.Dec.{ltb}
use lib.ListN.{length}
use borrow.Author.Tests.{ne_eqb}
use Rattle.tables.specs.Limits.{Limits}
use Rattle.tables.specs.Tables.{Tables, full_size}
use Rattle.tables.specs.Zero.{zeroed_tables}
use Rattle.site.specs.declared.SiteRefusal.{SiteRefusal}
use Rattle.site.specs.declared.SiteRefusal.TheVariants.{Form, Range}
use Rattle.std.specs.Prelude.{Result, Ok, Err, ⊤}
use Rattle.reading.specs.Replies.{refused_by, refused_at, reading_number, site_meant}
use Rattle.reading.specs.Reading.{Site, site_read, ReadingAnswer, with_reply, with_site, read_lines, after_site, read_plan}
use Rattle.reading.proofs.ReplyLaws.{lines_reply}
use Rattle.conductor.specs.Changes.{is_unchanged, is_join_unchanged}
use Rattle.conductor.proofs.Stored.{Twice, same-written, unwritten}

pub record Numbers (isKept : ℕ → Bool) : Type 0 where
  pub small : isKept 41 ≡ true
  pub long : isKept 1 ≡ true
  pub others : (n : ℕ) → n ≢ 1 → n < 15 → isKept n ≡ false

pub reading_numbers : Numbers is_unchanged
reading_numbers = record {
  small = refl;
  long = refl;
  others = λ n h l. rw (ne_eqb n 41 (λ e. omega (arith, e)), ne_eqb n 1 h) refl;
}

-- a joining's own 40 and 16 are none of a reading
pub joining_numbers : Numbers is_join_unchanged
joining_numbers = record {
  small = refl;
  long = refl;
  others = λ n h l. rw (ne_eqb n 41 (λ e. omega (arith, e)), ne_eqb n 1 h, ne_eqb n 40 (λ e. omega (arith, e)), ne_eqb n 16 (λ e. omega (arith, e))) refl;
}

module _ (L : Limits) {isKept : ℕ → Bool} (k : Numbers isKept) where
  -- no line of either text and no plan check answers 41 or 1
  lines_written : (bytes : List ℕ) (z : Tables) → isKept (reading_number (read_lines L bytes z).reply) ≡ false
  lines_written = lines_reply (λ r. isKept (reading_number r) ≡ false)
      (k.others 0 (λ e. omega (arith, e)) (omega arith))
      (λ n o l m. k.others n (λ e. omega (arith, e)) (omega arith))
      (λ n s l m. k.others n (λ e. omega (arith, e)) (omega arith))
      (λ s t. k.others 10 (λ e. omega (arith, e)) (omega arith))
      (k.others 11 (λ e. omega (arith, e)) (omega arith))
      L

  site_written : (r : SiteRefusal) → isKept (reading_number (site_meant r)) ≡ false
  site_written (Form o) = k.others 13 (λ e. omega (arith, e)) (omega arith)
  site_written (Range o) = k.others 14 (λ e. omega (arith, e)) (omega arith)

  module _ (bytes : List ℕ) (t t₀ : Tables) (same : zeroed_tables L t₀ ≡ zeroed_tables L t) where
    by_length : (numbers : List ℕ) (long : Bool) → Twice isKept t t₀ (cond long (with_reply (refused_at 1 L.text) t) (read_lines L bytes (with_site numbers (zeroed_tables L t)))) (cond long (with_reply (refused_at 1 L.text) t₀) (read_lines L bytes (with_site numbers (zeroed_tables L t₀))))
    by_length numbers true = unwritten isKept t t₀ (refused_at 1 L.text) k.long
    by_length numbers false = same-written isKept t t₀ (ap (λ (z : Tables). read_lines L bytes (with_site numbers z)) same) (lines_written bytes (with_site numbers (zeroed_tables L t₀)))

    by_site : (numbers : List ℕ) (a : Result ⊤ SiteRefusal) → Twice isKept t t₀ (after_site L numbers bytes t a) (after_site L numbers bytes t₀ a)
    by_site numbers (Err r) = same-written isKept t t₀ (ap (with_reply (site_meant r)) same) (site_written r)
    by_site numbers (Ok taken) = by_length numbers (ltb L.text (length bytes))

    by_size : (full : Bool) {x x₀ : ReadingAnswer} → Twice isKept t t₀ x x₀ → Twice isKept t t₀ (cond full x (with_reply (refused_by 41) t)) (cond full x₀ (with_reply (refused_by 41) t₀))
    by_size true r = r
    by_size false r = unwritten isKept t t₀ (refused_by 41) k.small

  pub read_twice : (s : Site) (bytes : List ℕ) (t t₀ : Tables) → full_size L t₀ ≡ full_size L t → zeroed_tables L t₀ ≡ zeroed_tables L t → Twice isKept t t₀ (read_plan L s bytes t) (read_plan L s bytes t₀)
  unfolding read_plan
  read_twice s bytes t t₀ full same = rw full (by_size bytes t t₀ same (full_size L t) (by_site bytes t t₀ same (site_read L s).numbers (site_read L s).answer))
