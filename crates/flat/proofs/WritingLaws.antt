-- The writer by the ways through its code. Assumes nothing.
use mathlib.Core.Path.{◌≡◌, refl, ap, ◌∙◌}
use mathlib.Core.List.{List}
use Prim.Native.Nat.{ℕ}
use Rattle.std.specs.Prelude.{Option, Some, None, Result}
use Rattle.std.specs.Option.{ok_or}
use Rattle.tables.specs.Limits.{Limits}
use Rattle.tables.specs.Tables.{Tables, drones, form_of}
use Rattle.plan.specs.Stops.{start}
use Rattle.text.specs.TextWritten.{Writable, TextWritten}
use Rattle.call_log.specs.Claims.{Usable}
use Rattle.sound.proofs.Clauses.{sound-says}
use Rattle.sound.proofs.Legs.{accepted_form}
use Rattle.call_log.proofs.SoundParts.{stops_in_lem}
use Rattle.flat.specs.declared.replies.WriteRefusal.{WriteRefusal}
use Rattle.flat.specs.declared.replies.WriteRefusal.TheVariants.{BufferTooShort}
use Rattle.flat.specs.Writing.{write_refused, write_meant, text_meant, text_in, writes, buffer_left, PlanWritten}
use Rattle.flat.specs.declared.replies.TablesFault.{TablesFault}
use Rattle.flat.specs.declared.replies.TablesFault.TheVariants.{TooSmall, NotSound}
use Rattle.flat.specs.Replies.{fault_number}
use Rattle.flat.proofs.CheckLaws.{FaultSaid}
use Rattle.flat.proofs.Facts.{facts}

module _ (L : Limits) (t : Tables) where
  -- what the text's writer asks of the tables
  pub writable : Usable L t → Writable L (form_of t.plan) (drones t.plan) t.plan.names t.plan.stop_counts t.plan.locations t.plan.times t.plan.legs
  unfolding start
  writable u = record {
    form_in = (accepted_form L t.plan (sound-says L t u.1).accepted).1;
    drones_in = (facts L t u).drones_few;
    stops_in_lem = stops_in_lem L t.plan (sound-says L t u.1).accepted;
    names_full = (facts L t u).sizes.names;
    counts_full = (facts L t u).sizes.stop_counts_lem;
    locations_full = (facts L t u).sizes.locations;
    times_full = (facts L t u).sizes.times;
    legs_full = (facts L t u).sizes.legs;
  }

  -- the length as the answer, and none as the refusal
  told : (r : Option ℕ) → write_meant (ok_or r BufferTooShort) ≡ text_meant r
  told (Some n) = refl
  told None = refl

  pub ok_written : Usable L t → (before after : List ℕ) (r : Option ℕ) (q : Result ℕ WriteRefusal) → TextWritten (text_in L t) before after r → q ≡ ok_or r BufferTooShort → PlanWritten L t before after (write_meant q)
  unfolding writes buffer_left
  ok_written u before after r q w e = record { replied = rw (e, u.0, u.1) (told r ∙ ap text_meant w.answer_is); left = rw (u.0, u.1) w.buffer_is }

  pub writes_faulty : (fault : TablesFault) → FaultSaid L t fault → (buffer : List ℕ) → PlanWritten L t buffer buffer (write_refused (fault_number fault))
  unfolding writes buffer_left
  writes_faulty TooSmall e buffer = record { replied = rw e refl; left = rw e refl }
  writes_faulty NotSound (f, s) buffer = record { replied = rw (f, s) refl; left = rw (f, s) refl }
