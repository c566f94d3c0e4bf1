-- Entries past a full size are never read or written: the reading, the calls, best order, the writer and a joining. Assumes nothing.
use mathlib.Core.Path.{◌≡◌, refl, ap, ◌∙◌}
use mathlib.Core.Bool.{Bool, true, false, cond, ◌&&◌}
use mathlib.Core.List.{List}
use Prim.Native.Nat.{ℕ}
use lib.ListN.{take}
use Rattle.tables.specs.Limits.{Limits}
use Rattle.tables.specs.Tables.{Tables, full_size}
use Rattle.tables.specs.declared.entries.Dependency.{Dependency}
use Rattle.records.specs.Records.{seen, tables_of_records}
use Rattle.text.specs.Written.{plan_text}
use Rattle.text.specs.TextWritten.{tables_text, write_answer, buffer_after}
use Rattle.sound.specs.Sound.{sound}
use Rattle.call_log.specs.BestOrder.{BestAnswer}
use Rattle.flat.specs.Writing.{write_refused, text_meant, text_in, writes, buffer_left}
use Rattle.demands.specs.FullSizes.{AgreeUpToFull, FullSizesKept}
use Rattle.demands.proofs.SameCalls.{full-same, sound-agrees, guarded, cost-agrees, rounds_agree, step_replies, step-leaves, preview-agrees, list_preview_agrees, best-agrees, step_keeps}
use Rattle.demands.proofs.BestOrder.{lists_agree, best_keeps}
use Rattle.demands.proofs.SamePlan.{plan_same}
use Rattle.demands.proofs.SameReading.{reading_agrees, reading_keeps}
use Rattle.demands.proofs.SameJoining.{joining_agrees, joining_keeps}

-- ---- the writer

module _ (L : Limits) (t t' : Tables) (e : AgreeUpToFull L t t') where
  text_same : sound L t ≡ true → text_in L t ≡ text_in L t'
  unfolding tables_text
  text_same h = let s = plan_same L t t' e h in λ i. plan_text (s.form i) (s.many i) (s.rows i) (s.counts i) (s.locations i) (s.times i) (s.legs i)

  pub writes_agree : (buffer : List ℕ) → writes L t buffer ≡ writes L t' buffer
  unfolding writes
  writes_agree buffer = guarded (full_size L t) (full_size L t') (sound L t) (sound L t') _ _ (write_refused 40) (write_refused 41) (full-same L t t' e) (sound-agrees L t t' e)
      (λ h. ap (λ (x : List ℕ). text_meant (write_answer buffer x)) (text_same h))

  pub buffers_agree : (buffer : List ℕ) → buffer_left L t buffer ≡ buffer_left L t' buffer
  unfolding buffer_left
  buffers_agree buffer = go (full_size L t) (full_size L t') (sound L t) (sound L t') (full-same L t t' e) (sound-agrees L t t' e) _ _ (λ h. ap (buffer_after buffer) (text_same h))
    where
      go : (a a' b b' : Bool) → a ≡ a' → b ≡ b' → (x x' : List ℕ) → (b ≡ true → x ≡ x') → cond (a && b) x buffer ≡ cond (a' && b') x' buffer
      go a a' true b' e f x x' h = λ i. cond (e i && f i) (h refl i) buffer
      go true a' false b' e f x x' h = λ i. cond (e i && f i) x' buffer
      go false a' false b' e f x x' h = λ i. cond (e i && f i) x' buffer

records_unread : (L : Limits) (a b c d e f g h j k : List ℕ) (ds ds' : List Dependency) (m : List ℕ) → take L.dependencies ds ≡ take L.dependencies ds' → tables_of_records L a b c d e f g h j k ds m ≡ tables_of_records L a b c d e f g h j k ds' m
unfolding seen
records_unread L a b c d e f g h j k ds ds' m q = rw q refl

pub full_sizes_kept : (L : Limits) → FullSizesKept L
full_sizes_kept L = record {
  never_read = λ t t' e. record {
    sizes = full-same L t t' e;
    soundness = sound-agrees L t t' e;
    reading_replies = λ s text. (reading_agrees L text s t t' e).replies;
    reading_leaves = λ s text. (reading_agrees L text s t t' e).leaves;
    call_replies = step_replies L t t' e;
    call_leaves = step-leaves L t t' e;
    previews = preview-agrees L t t' e;
    list_previews = list_preview_agrees L t t' e;
    costs = cost-agrees L t t' e;
    rounds = rounds_agree L t t' e;
    best_replies = λ list list' budget h. ap (λ (a : BestAnswer). a.outcome) (best-agrees L t t' e list budget) ∙ (lists_agree L t' budget list list' h).outcomes;
    best_leaves = λ list list' budget h. ap (λ (a : BestAnswer). take L.dependencies a.list) (best-agrees L t t' e list budget) ∙ (lists_agree L t' budget list list' h).lists;
    writer_replies = writes_agree L t t' e;
    writer_leaves = buffers_agree L t t' e;
  };
  never_written = λ t. record { reading_keeps = λ s text. reading_keeps L text s t; call_keeps = step_keeps L t; list_keeps = best_keeps L t };
  joining_replies = λ a a' b b' t t' ea eb et. (joining_agrees L a a' b b' t t' ea eb et).replies;
  joining_leaves = λ a a' b b' t t' ea eb et. (joining_agrees L a a' b b' t t' ea eb et).leaves;
  joining_keeps = joining_keeps L;
  records_unread = records_unread L;
}
