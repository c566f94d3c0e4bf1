-- What a refusal leaves in the lent tables, in the text buffer and in the lent list (document 01, "Where each refusal is checked", the column "Lent tables afterwards"; requests 7 and 11). Assumes nothing.
use Rattle.std.specs.Prelude.{◌≡◌, ◌≢◌, true, false, List, ℕ, ◌≤◌, ◌<◌, length}
use Rattle.tables.specs.Limits.{Limits}
use Rattle.tables.specs.Tables.{Tables, full_size}
use Rattle.tables.specs.Zero.{zeroed_tables}
use Rattle.site.specs.declared.SiteRefusal.{SiteRefusal}
use Rattle.call_log.specs.CallLog.{Call, is_accepted}
use Rattle.call_log.specs.Calls.{step}
use Rattle.call_log.specs.BestOrder.{best_order}
use Rattle.reading.specs.Replies.{refused_by, refused_at, is_taken, site_meant}
use Rattle.reading.specs.Reading.{Site, site_read, with_reply, read_plan}
use Rattle.flat.specs.Writing.{write_refused, writes, buffer_left}
use Rattle.demands.specs.BestOrder.{best_number}
use Rattle.std.specs.Prelude.{Ok, Err}

pub record RefusalsLeave (L : Limits) : Type 0 where
  -- "every entry, first: 41 a lent table is below full size: unchanged"
  pub small_tables : (s : Site) (text : List ℕ) (t : Tables) → full_size L t ≡ false → read_plan L s text t ≡ with_reply (refused_by 41) t
  -- "13 ..; 14 ..; both carry offsets .. and zero every table", "before the plan's 1"
  pub site_refused : (s : Site) (text : List ℕ) (t : Tables) (r : SiteRefusal) → full_size L t ≡ true → (site_read L s).answer ≡ Err r → read_plan L s text t ≡ with_reply (site_meant r) (zeroed_tables L t)
  -- "reading, before any line: 1 text too long: unchanged", with the offset "1 now carries 65,536"
  pub long_text : (s : Site) (text : List ℕ) (t : Tables) → full_size L t ≡ true → (site_read L s).answer ≡ Ok tt → L.text < length text → read_plan L s text t ≡ with_reply (refused_at 1 L.text) t
  -- every other reading that is refused: "full sizes zeroed", the pairs' too
  pub other_readings : (s : Site) (text : List ℕ) (t : Tables) → full_size L t ≡ true → length text ≤ L.text → is_taken (read_plan L s text t).reply ≡ false → (read_plan L s text t).tables ≡ zeroed_tables L t
  -- grant, arrive, withdraw and turn, of one or of a list: "unchanged". Preview, cost, rounds, best order and writer leave no tables: they write none
  pub calls : (t : Tables) (c : Call) → is_accepted (step L t c).reply ≡ false → (step L t c).tables ≡ t
  -- "unchanged, and the text buffer too at 40, 41 and 42"
  pub buffer : (t : Tables) (buffer : List ℕ) (n : ℕ) → writes L t buffer ≡ write_refused n → buffer_left L t buffer ≡ buffer
  -- best order: "a refusal leaves the list unchanged"
  pub list : (t : Tables) (list : List ℕ) (budget : ℕ) → best_number (best_order L t list budget).outcome ≢ 0 → (best_order L t list budget).list ≡ list
