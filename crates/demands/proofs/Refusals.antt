-- What a refusal leaves, by the cases of each definition. Assumes nothing.
use mathlib.Core.Path.{◌≡◌, refl, ap}
use mathlib.Core.Bool.{Bool, true, false, cond, ◌&&◌}
use mathlib.Core.List.{List}
use Prim.Native.Nat.{ℕ}
use lib.ListN.{length}
use Rattle.below.proofs.Tests.{true_or_false}
use Rattle.tables.specs.Limits.{Limits}
use Rattle.tables.specs.Tables.{Tables, full_size}
use Rattle.text.specs.TextWritten.{is_short, write_answer, buffer_after}
use Rattle.sound.specs.Sound.{sound}
use Rattle.call_log.specs.CallLog.{Call, grant, arrive, withdraw, turn, turn_all, is_accepted}
use Rattle.call_log.specs.Calls.{grant_step, arrive_step, withdraw_step, turn_step, turn_all_step, step}
use Rattle.reading.specs.Reading.{read_plan}
use Rattle.accepted.proofs.SiteRead.{site_refused, site_long, other_readings}
use Rattle.flat.specs.Writing.{Writing, wrote, write_refused, text_meant, text_in, writes, buffer_left}
use Rattle.demands.specs.Refusals.{RefusalsLeave}
use Rattle.demands.proofs.BestOrder.{best-left}
use Rattle.std.specs.Prelude.{Some, None}

-- ---- the calls and the writer

call_leaves : (L : Limits) (t : Tables) (c : Call) → is_accepted (step L t c).reply ≡ false → (step L t c).tables ≡ t
unfolding grant_step arrive_step withdraw_step turn_step turn_all_step
call_leaves L t (grant d) e = rw e refl
call_leaves L t (arrive d) e = rw e refl
call_leaves L t (withdraw d) e = rw e refl
call_leaves L t (turn w) e = rw e refl
call_leaves L t (turn_all ws) e = rw e refl

abbrev is_wrote : Writing → Bool
is_wrote (wrote n) = true
is_wrote (write_refused n) = false

buffer_left_lem : (L : Limits) (t : Tables) (buffer : List ℕ) (n : ℕ) → writes L t buffer ≡ write_refused n → buffer_left L t buffer ≡ buffer
unfolding writes buffer_left write_answer buffer_after
buffer_left_lem L t buffer n e = go (full_size L t) (sound L t) (is_short buffer (text_in L t)) _ e
  where
    go : (a b c : Bool) (x : List ℕ) → cond a (cond b (text_meant (cond c None (Some (length (text_in L t))))) (write_refused 40)) (write_refused 41) ≡ write_refused n → cond (a && b) (cond c buffer x) buffer ≡ buffer
    go true true true x e = refl
    go true true false x e = true_or_false refl (ap is_wrote e)
    go true false c x e = refl
    go false b c x e = refl

pub refusals_leave : (L : Limits) → RefusalsLeave L
unfolding read_plan
refusals_leave L = record {
  small_tables = λ s text t e. rw e refl;
  site_refused = λ s text t r full e. site_refused L s text t full r e;
  long_text = λ s text t full e l. site_long L s text t full e l;
  other_readings = other_readings L;
  calls = call_leaves L;
  buffer = buffer_left_lem L;
  list = best-left L;
}
