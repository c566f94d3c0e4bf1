-- Reading the lines into tables that are zeroed but for the pairs, case by case: zeroing takes away what a site text and a refused text or plan have left. Assumes nothing.
use Rattle.std.specs.Prelude.{⊤, Result, Ok, Err}
use mathlib.Core.Path.{◌≡◌, refl, sym, ap, subst, ◌∙◌}
use mathlib.Core.Bool.{true, false}
use mathlib.Core.List.{List, [], ◌∷◌}
use Prim.Native.Nat.{ℕ, ◌*◌, ◌≤◌}
use native.Mathlib.Omega.{arith}
use lib.Dec.{leb}
use lib.ListN.{length}
use lib.Seq.{sets, length-sets, get_or-set_same}
use Rattle.below.specs.Below.{at}
use Rattle.below.proofs.Tests.{by_cases, true_or_false}
use Rattle.tables.specs.Limits.{Limits, most_pairs}
use Rattle.tables.specs.Tables.{Tables, tables_of}
use Rattle.tables.specs.Zero.{zeroed, zeroed_tables}
use Rattle.tables.proofs.Zero.{zeroed_sets}
use Rattle.tables.proofs.ZeroTables.{each-zeroed}
use Rattle.lines.specs.declared.refusal.Refusal.{Refusal as LineRefusal}
use Rattle.text.specs.LinesRead.{lines_at, flat}
use Rattle.text.specs.TextRead.{drone_count, plan_form, TextRead}
use Rattle.text.proofs.Fits.{lines_fit}
use Rattle.plan.specs.Columns.{Columns}
use Rattle.plan.specs.Claims.{planned_total}
use Rattle.reading.specs.Replies.{ReadingReply, taken, refused_by, is_taken, refusal_meant, reading_meant, line_meant}
use Rattle.reading.specs.Reading.{ReadingAnswer, with_reply, AnsweredAs, with_text, check_in, after_check, stored, from_lines, read_lines}
use Rattle.reading.specs.Asked.{PlanAsked, LinesAsked, ZeroedButPairs, TextStored, text_zeroed}
use Rattle.reading.specs.declared.replies.Refusal.{Refusal}
use Rattle.reading.proofs.ReplyLaws.{refusal_not_taken}
use Rattle.reading.proofs.TakenText.{drones_in, stops_in_lem}
use Rattle.reading.proofs.StoredPlan.{checked_refused, checked_many, checked-taken}

-- the tables with another text's values, and other pairs
abbrev pub reread : Tables → (dc fm ns cs ls ts gs ps : List ℕ) → Tables
reread t dc fm ns cs ls ts gs ps =
    tables_of dc t.plan.dependency_count fm ns cs ls ts gs t.visited t.drone_flags t.plan.first_drones t.plan.first_stops t.plan.second_drones t.plan.second_stops t.flags ps

reread_same : (t : Tables) (dc fm ns cs ls ts gs ps dc' fm' ns' cs' ls' ts' gs' ps' : List ℕ) → dc ≡ dc' → fm ≡ fm' → ns ≡ ns' → cs ≡ cs' → ls ≡ ls' → ts ≡ ts' → gs ≡ gs' → ps ≡ ps' → reread t dc fm ns cs ls ts gs ps ≡ reread t dc' fm' ns' cs' ls' ts' gs' ps'
reread_same t dc fm ns cs ls ts gs ps dc' fm' ns' cs' ls' ts' gs' ps' a b c d e f g h = cc

-- ---- the replies of storing, with zeroed tables in place of the filled ones

module _ (L : Limits) (z t : Tables) where
  by_check : (k r : ReadingReply) → r ≡ (after_check L t t k).reply
      → (is_taken r ≡ true → after_check L z t k ≡ after_check L t t k) × (is_taken r ≡ false → (after_check L z t k ≡ with_reply r z) × ((after_check L t t k).tables ≡ t))
  by_check k r h = by_cases (is_taken k)
      (λ p. by_cases (leb (planned_total t.plan) L.dependencies)
      (λ o. (
        λ e. checked-taken L z t k p o ∙ sym (checked-taken L t t k p o),
        λ e. true_or_false (ap is_taken (h ∙ ap (λ (a : ReadingAnswer). a.reply) (checked-taken L t t k p o))) e,
      ))
      (λ o.
      let is : r ≡ refused_by 11 = h ∙ ap (λ (a : ReadingAnswer). a.reply) (checked_many L t t k p o) in (
        λ e. true_or_false e (ap is_taken is),
        λ e. (checked_many L z t k p o ∙ ap (λ (y : ReadingReply). with_reply y z) (sym is), ap (λ (a : ReadingAnswer). a.tables) (checked_many L t t k p o)),
      )))
      (λ p.
      let is : r ≡ k = h ∙ ap (λ (a : ReadingAnswer). a.reply) (checked_refused L t t k p) in (
        λ e. true_or_false e (ap is_taken is ∙ p),
        λ e. (checked_refused L z t k p ∙ ap (λ (y : ReadingReply). with_reply y z) (sym is), ap (λ (a : ReadingAnswer). a.tables) (checked_refused L t t k p)),
      ))

-- ---- the cases

module _ (L : Limits) (text : List ℕ) (z : Tables) {dc fm ns cs ls ts gs : List ℕ} {a : Result ℕ LineRefusal}
    (w : TextRead L text z.plan.drone_count z.plan.form z.plan.names z.plan.stop_counts z.plan.locations z.plan.times z.plan.legs dc fm ns cs ls ts gs a) where
  -- zeroing takes away what the lines have left in a table
  table-zeroed : (full : ℕ) (values t t' : List ℕ) → length values ≤ full → t' ≡ sets t 0 values → zeroed full t' ≡ zeroed full t
  table-zeroed full values t t' h e = ap (zeroed full) e ∙ zeroed_sets full t values h

  count_fits : (a : Result ℕ LineRefusal) → length (drone_count a) ≤ 1
  count_fits (Ok n) = omega arith
  count_fits (Err x) = omega arith

  form_fits : (f : ℕ) (a : Result ℕ LineRefusal) → length (plan_form f a) ≤ 1
  form_fits f (Ok n) = omega arith
  form_fits f (Err x) = omega arith

  text_zeroed_lem : ZeroedButPairs L z → text_zeroed L (reread z dc fm ns cs ls ts gs z.plan.pairs) ≡ zeroed_tables L z
  text_zeroed_lem zero =
      let fit = lines_fit L text in
      each-zeroed L z
      (table-zeroed 1 (drone_count a) _ dc (count_fits a) w.count_is)
      (sym (ap (λ (t : Tables). t.plan.dependency_count) zero))
      (table-zeroed 1 (plan_form (lines_at L text).form a) _ fm (form_fits (lines_at L text).form a) w.form_is)
      (table-zeroed (L.drones * L.name) (flat (lines_at L text).rows) _ ns fit.rows w.names_are)
      (table-zeroed L.drones (lines_at L text).counts _ cs fit.counts w.counts_are)
      (table-zeroed L.stops (lines_at L text).locations _ ls fit.locations w.locations_are)
      (table-zeroed L.stops (lines_at L text).times _ ts fit.times w.times_are)
      (table-zeroed L.stops (lines_at L text).legs _ gs fit.legs w.legs_are)
      (sym (ap (λ (t : Tables). t.visited) zero))
      (sym (ap (λ (t : Tables). t.drone_flags) zero))
      (sym (ap (λ (t : Tables). t.plan.first_drones) zero))
      (sym (ap (λ (t : Tables). t.plan.first_stops) zero))
      (sym (ap (λ (t : Tables). t.plan.second_drones) zero))
      (sym (ap (λ (t : Tables). t.plan.second_stops) zero))
      (sym (ap (λ (t : Tables). t.flags) zero))
      refl

  pub lines_refused : (x : LineRefusal) (r : ReadingReply) → a ≡ Err x → r ≡ line_meant x → TextStored L text z r (reread z dc fm ns cs ls ts gs z.plan.pairs)
  unfolding read_lines
  lines_refused x r h er =
      let e : read_lines L text z ≡ with_reply (line_meant x) (zeroed_tables L z) = ap (from_lines L z (lines_at L text)) (sym w.answer_is ∙ h) in
      record {
        replied = er ∙ sym (ap (λ (y : ReadingAnswer). y.reply) e);
        left_taken = λ p. true_or_false p (ap is_taken er);
        left_refused = λ p zero. text_zeroed_lem zero ∙ sym (ap (λ (y : ReadingAnswer). y.tables) e);
      }

  module _ (n : ℕ) (h : a ≡ Ok n) where
    -- the tables that the text was read into
    filled : reread z dc fm ns cs ls ts gs z.plan.pairs ≡ with_text (lines_at L text) n z
    filled = reread_same z dc fm ns cs ls ts gs z.plan.pairs _ _ _ _ _ _ _ _ (w.count_is ∙ ap (λ (y : Result ℕ LineRefusal). sets z.plan.drone_count 0 (drone_count y)) h) (w.form_is ∙ ap (λ (y : Result ℕ LineRefusal). sets z.plan.form 0 (plan_form (lines_at L text).form y)) h) w.names_are w.counts_are w.locations_are w.times_are w.legs_are refl

    from_is : read_lines L text z ≡ after_check L (zeroed_tables L z) (with_text (lines_at L text) n z) (check_in (with_text (lines_at L text) n z).plan)
    unfolding read_lines
    from_is = ap (from_lines L z (lines_at L text)) (sym w.answer_is ∙ h)

    pub lines_stored : (r : ReadingReply) (t : Tables) → AnsweredAs (stored L (reread z dc fm ns cs ls ts gs z.plan.pairs)) r t → TextStored L text z r t
    unfolding stored
    lines_stored r t s =
        let s' : AnsweredAs (stored L (with_text (lines_at L text) n z)) r t = subst (λ (y : Tables). AnsweredAs (stored L y) r t) filled s in
        let k = by_check L (zeroed_tables L z) (with_text (lines_at L text) n z) (check_in (with_text (lines_at L text) n z).plan) r s'.replied in
        record {
          replied = by_cases (is_taken r) (λ p. s'.replied ∙ sym (ap (λ (y : ReadingAnswer). y.reply) (from_is ∙ k.0 p))) (λ p. sym (ap (λ (y : ReadingAnswer). y.reply) (from_is ∙ (k.1 p).0)));
          left_taken = λ p. s'.left ∙ sym (ap (λ (y : ReadingAnswer). y.tables) (from_is ∙ k.0 p));
          left_refused = λ p zero. ap (text_zeroed L) (s'.left ∙ (k.1 p).1 ∙ sym filled) ∙ text_zeroed_lem zero ∙ sym (ap (λ (y : ReadingAnswer). y.tables) (from_is ∙ (k.1 p).0));
        }

module _ (L : Limits) (text : List ℕ) (z : Tables) (r : Result ⊤ Refusal) (t : Tables) (s : TextStored L text z (reading_meant r) t) where
  pub lines_taken : r ≡ Ok tt → AnsweredAs (read_lines L text z) taken t
  lines_taken h = record { replied = sym (ap reading_meant h) ∙ s.replied; left = s.left_taken (ap (λ (y : Result ⊤ Refusal). is_taken (reading_meant y)) h) }

  -- a refusal: what the lines have left is zeroed, and the pairs
  pub lines_zeroed : (x : Refusal) → r ≡ Err x → ZeroedButPairs L z → {dc fm ns cs ls ts gs ps : List ℕ}
      → dc ≡ zeroed 1 t.plan.drone_count → fm ≡ zeroed 1 t.plan.form → ns ≡ zeroed (L.drones * L.name) t.plan.names → cs ≡ zeroed L.drones t.plan.stop_counts
      → ls ≡ zeroed L.stops t.plan.locations → ts ≡ zeroed L.stops t.plan.times → gs ≡ zeroed L.stops t.plan.legs → ps ≡ zeroed (2 * most_pairs) t.plan.pairs
      → AnsweredAs (read_lines L text z) (refusal_meant x) (reread t dc fm ns cs ls ts gs ps)
  lines_zeroed x h zero {dc} {fm} {ns} {cs} {ls} {ts} {gs} {ps} ed ef en ec el et eg ep = record {
    replied = sym (ap reading_meant h) ∙ s.replied;
    left = reread_same t dc fm ns cs ls ts gs ps _ _ _ _ _ _ _ _ ed ef en ec el et eg ep ∙ s.left_refused (ap (λ (y : Result ⊤ Refusal). is_taken (reading_meant y)) h ∙ refusal_not_taken x) zero;
  }

-- ---- a plan that was read keeps the limits

long : (values t t' : List ℕ) → t' ≡ sets t 0 values → length t' ≡ length t
long values t t' e = ap length e ∙ length-sets t 0 values

pub plan_asked : (L : Limits) (text dc dpc fm ns cs ls ts gs : List ℕ) (c : Columns) (ps : List ℕ) → LinesAsked L dc dpc fm ns cs ls ts gs c ps → {dc' fm' ns' cs' ls' ts' gs' : List ℕ} {a : Result ℕ LineRefusal}
    → TextRead L text dc fm ns cs ls ts gs dc' fm' ns' cs' ls' ts' gs' a → (n : ℕ) → a ≡ Ok n → PlanAsked L dc' dpc cs' ls' ts' gs' c ps
plan_asked L text dc dpc fm ns cs ls ts gs c ps q {dc'} {fm'} {ns'} {cs'} {ls'} {ts'} {gs'} {a} w n h =
    let read : (lines_at L text).answer ≡ Ok n = sym w.answer_is ∙ h in
    let ed : dc' ≡ sets dc 0 (n ∷ []) = w.count_is ∙ ap (λ (y : Result ℕ LineRefusal). sets dc 0 (drone_count y)) h in
    let d : at dc' 0 ≡ n = rw ed (get_or-set_same dc 0 n 0 (omega (arith, q.has_drone_count))) in
    let in-drones = drones_in L text n read in
    record {
      has_drone_count = omega (arith, long (n ∷ []) dc dc' ed, q.has_drone_count);
      has_dependency_count = q.has_dependency_count;
      has_stop_counts = omega (arith, long (lines_at L text).counts cs cs' w.counts_are, q.has_stop_counts);
      has_locations = omega (arith, long (lines_at L text).locations ls ls' w.locations_are, q.has_locations);
      has_times = omega (arith, long (lines_at L text).times ts ts' w.times_are, q.has_times);
      has_legs = omega (arith, long (lines_at L text).legs gs gs' w.legs_are, q.has_legs);
      has_columns = q.has_columns;
      has_pairs = q.has_pairs;
      drones_fit = rw d in-drones;
      stops_fit = rw (d, w.counts_are) (stops_in_lem L text n read cs q.has_stop_counts);
    }
