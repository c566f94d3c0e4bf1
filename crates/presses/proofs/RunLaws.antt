-- Presses one after another: none, one more, and a plan read before them. Assumes nothing.
use mathlib.Core.Path.{◌≡◌, refl, sym, ap, ◌∙◌, subst}
use mathlib.Core.List.{List}
use Prim.Native.Nat.{ℕ, suc, ◌+◌}
use native.Mathlib.Omega.{arith}
use Rattle.tables.specs.Limits.{Limits}
use Rattle.tables.specs.Tables.{Tables}
use Rattle.reading.specs.Replies.{ReadingReply as Read, reading_number}
use Rattle.reading.specs.Reading.{AnsweredAs, read_plan, without}
use Rattle.dispatch.specs.Transcribing.{zero_tables}
use Rattle.handset.specs.Press.{PressOutcome, PressedAs, press_step}
use Rattle.std.specs.Prelude.{Option}
use Rattle.presses.specs.Runs.{number_shown, bits_shown, tables_pressed, last_reply, PressesMade, PressesRun}

module _ (L : Limits) (t : Tables) (reports : ℕ → Option ℕ) where
  pub made_none : PressesMade L t reports 0 0 0 t
  unfolding tables_pressed last_reply
  made_none = record { tables_are = refl; number_is = refl; bits_are = refl }

  made-suc : (i n b : ℕ) (t₁ : Tables) (report : Option ℕ) (r : PressOutcome) (t₂ : Tables) (n' b' : ℕ) → PressesMade L t reports i n b t₁ → report ≡ reports i → PressedAs (press_step L t₁ report) r t₂ → n' ≡ number_shown r → b' ≡ bits_shown r → PressesMade L t reports (suc i) n' b' t₂
  unfolding tables_pressed last_reply
  made-suc i n b t₁ report r t₂ n' b' m e p q s = record {
    tables_are = p.left ∙ ap (λ (x : Option ℕ). (press_step L t₁ x).tables) e ∙ ap (λ (z : Tables). (press_step L z (reports i)).tables) m.tables_are;
    number_is = q ∙ ap (λ (x : PressOutcome). number_shown x) replied;
    bits_are = s ∙ ap (λ (x : PressOutcome). bits_shown x) replied;
  }
    where
      replied : r ≡ (press_step L (tables_pressed L t reports i) (reports i)).reply
      replied = p.replied ∙ ap (λ (x : Option ℕ). (press_step L t₁ x).reply) e ∙ ap (λ (z : Tables). (press_step L z (reports i)).reply) m.tables_are

  pub made_more : (i n b : ℕ) (t₁ : Tables) (report : Option ℕ) (r : PressOutcome) (t₂ : Tables) (n' b' : ℕ) → PressesMade L t reports i n b t₁ → report ≡ reports i → PressedAs (press_step L t₁ report) r t₂ → n' ≡ number_shown r → b' ≡ bits_shown r → PressesMade L t reports (i + 1) n' b' t₂
  made_more i n b t₁ report r t₂ n' b' m e p q s = subst (λ (k : ℕ). PressesMade L t reports k n' b' t₂) (omega arith) (made-suc i n b t₁ report r t₂ n' b' m e p q s)

module _ (L : Limits) (text : List ℕ) (reports : ℕ → Option ℕ) (t : Tables) (fresh : t ≡ zero_tables L) (r : Read) (t' : Tables) (read : AnsweredAs (read_plan L without text t) r t') (n : ℕ) (is-n : n ≡ reading_number r) (count number bits : ℕ) where
  same_number : n ≡ reading_number (read_plan L without text (zero_tables L)).reply
  same_number = is-n ∙ ap (λ (x : Read). reading_number x) (read.replied ∙ ap (λ (x : Tables). (read_plan L without text x).reply) fresh)

  pub run_refused : (n ≡ 0 → ⊥) → (number ≡ n) × (bits ≡ 0) → PressesRun L text reports count number bits
  run_refused h e = record { refused = λ k. (e.0 ∙ same_number, e.1); taken = λ z. absurd (h (same_number ∙ z)) }

  pub run_taken : n ≡ 0 → (t'' : Tables) → PressesMade L t' reports count number bits t'' → PressesRun L text reports count number bits
  run_taken z t'' m =
      let same : t' ≡ (read_plan L without text (zero_tables L)).tables = read.left ∙ ap (λ (x : Tables). (read_plan L without text x).tables) fresh in
      record {
        refused = λ k. absurd (k (sym same_number ∙ z));
        taken = λ _. (m.number_is ∙ ap (λ (x : Tables). number_shown (last_reply L x reports count)) same, m.bits_are ∙ ap (λ (x : Tables). bits_shown (last_reply L x reports count)) same);
      }
