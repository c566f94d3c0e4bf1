-- A taken plan is written out as its text: the calls keep the tables sound and the plan in them, so the writer has nothing to refuse but a short buffer. Assumes nothing.
use mathlib.Core.Path.{◌≡◌, refl, sym, ap, ◌∙◌}
use mathlib.Core.Bool.{true}
use mathlib.Core.List.{List}
use Prim.Native.Nat.{ℕ}
use lib.ListN.{length}
use borrow.Author.Tests.{lt-ltb, le-ltb}
use Rattle.tables.specs.Limits.{Limits}
use Rattle.tables.specs.Tables.{Tables, full_size}
use Rattle.lines.specs.Names.{small_form}
use Rattle.lines.proofs.Letters.{small-length}
use Rattle.text.specs.TextWritten.{is_short, write_answer, buffer_after}
use Rattle.sound.specs.Sound.{sound}
use Rattle.call_log.specs.Calls.{step, tables_after}
use Rattle.call_log.proofs.Whole.{tables_of_lem, stays_sound, stays_full}
use Rattle.reading.specs.Reading.{read_plan}
use Rattle.reading.specs.Replies.{taken}
use Rattle.accepted.proofs.ReadSound.{read_is_sound}
use Rattle.accepted.proofs.Taken.{written_back}
use Rattle.flat.specs.Writing.{Writing, text_in, writes, buffer_left, PlanWritten}
use Rattle.demands.specs.Writing.{TextGiven, WrittenOut}

-- the writer on sound tables whose text is s, with as many bytes as the text
module _ (L : Limits) (t : Tables) (full : full_size L t ≡ true) (now-sound : sound L t ≡ true) (text : List ℕ) (said : text_in L t ≡ small_form text) (before after : List ℕ) (r : Writing) (h : PlanWritten L t before after r) where
  given : TextGiven text before r after
  unfolding writes buffer_left write_answer buffer_after is_short
  given = record {
    length_returned = λ l. h.replied ∙ rw (full, now-sound, said, small-length text, le-ltb (length before) (length text) l) refl;
    text_left = λ l. h.left ∙ rw (full, now-sound, said, small-length text, le-ltb (length before) (length text) l) refl;
    refused_short = λ l. h.replied ∙ rw (full, now-sound, said, small-length text, lt-ltb (length before) (length text) l) refl;
    unchanged = λ l. h.left ∙ rw (full, now-sound, said, small-length text, lt-ltb (length before) (length text) l) refl;
  }

pub written_out : (L : Limits) → WrittenOut L
written_out L s text t t₁ a calls got t' run before after r h =
    let taken : (read_plan L s text t).reply ≡ taken = sym a.replied in
    let read = read_is_sound L s text t taken in
    let e : t' ≡ tables_after (step L) (read_plan L s text t).tables calls = tables_of_lem L run ∙ ap (λ (x : Tables). tables_after (step L) x calls) a.left in
    given L t'
    (ap (full_size L) e ∙ stays_full L _ _ read calls)
    (ap (sound L) e ∙ stays_sound L _ _ read calls)
    text
    (ap (text_in L) e ∙ written_back L s text t calls taken)
    before after r h
