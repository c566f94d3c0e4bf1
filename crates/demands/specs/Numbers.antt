-- Which refusal, exactly (document 01, "Where each refusal is checked"; requests 7 and 11): of any texts, any numbers and any tables. Assumes nothing.
use Rattle.std.specs.Prelude.{◌≡◌, ◌⊎◌, ◌↔◌, true, false, List, [], ◌∷◌, ℕ, ◌≤◌, ◌<◌, length}
use Rattle.below.specs.Below.{is_in}
use Rattle.tables.specs.Limits.{Limits}
use Rattle.tables.specs.Tables.{Tables, full_size}
use Rattle.tables.specs.Zero.{zeroed_tables}
use Rattle.site.specs.Site.{site_number}
use Rattle.site.specs.declared.SiteRefusal.{SiteRefusal}
use Rattle.plan.specs.Field.{plan_of}
use Rattle.plan.specs.Status.{status_in}
use Rattle.sound.specs.Sound.{sound}
use Rattle.call_log.specs.CallLog.{Call, refused, reply_in}
use Rattle.call_log.specs.Calls.{step, cost_refused, cost_reply, rounds_refused, rounds_reply}
use Rattle.call_log.specs.Preview.{would_refuse, preview, preview_all}
use Rattle.call_log.specs.Claims.{Usable}
use Rattle.reading.specs.Replies.{reading_number}
use Rattle.reading.specs.Reading.{Site, site_read, with_site, read_lines, read_plan}
use Rattle.flat.specs.Writing.{wrote, write_refused, text_in, writes}
use Rattle.demands.specs.BestOrder.{BestNumbers}
use Rattle.std.specs.Prelude.{Ok, Err}

-- "every entry, first: 41 a lent table is below full size", then "40 not sound"
abbrev pub Unfit : Limits → Tables → ℕ → Type 0
Unfit L t n = ((n ≡ 41) × (full_size L t ≡ false)) ⊎ ((n ≡ 40) × (full_size L t ≡ true) × (sound L t ≡ false))

pub record ExactNumbers (L : Limits) : Type 0 where
  -- a reading: 41 exactly where a table is below full size, then 13 and 14 exactly where a line of the site text is refused by it, then 1 exactly where the text is too long; everything else is by the
  -- text's lines, read into tables that are zeroed but for the site's pairs
  pub reading_41 : (s : Site) (text : List ℕ) (t : Tables) → (reading_number (read_plan L s text t).reply ≡ 41) ↔ (full_size L t ≡ false)
  pub reading_site : (s : Site) (text : List ℕ) (t : Tables) (n : ℕ) → is_in n (13 ∷ 14 ∷ []) ≡ true
      → (reading_number (read_plan L s text t).reply ≡ n) ↔ ((full_size L t ≡ true) × ((r : SiteRefusal) × ((site_read L s).answer ≡ Err r) × (site_number r ≡ n)))
  pub reading_1 : (s : Site) (text : List ℕ) (t : Tables) → (reading_number (read_plan L s text t).reply ≡ 1) ↔ ((full_size L t ≡ true) × ((site_read L s).answer ≡ Ok tt) × (L.text < length text))
  pub reading_lines : (s : Site) (text : List ℕ) (t : Tables) → full_size L t ≡ true → (site_read L s).answer ≡ Ok tt → length text ≤ L.text
      → read_plan L s text t ≡ read_lines L text (with_site (site_read L s).numbers (zeroed_tables L t))
  -- grant, arrive, withdraw and turn, of one or of a list: a number from 40 on exactly where the tables are unfit by it; on usable ones the first of the table's refusals that holds
  pub call_refused : (t : Tables) (c : Call) (n : ℕ) → 40 ≤ n → ((step L t c).reply ≡ refused n) ↔ Unfit L t n
  pub call_usable : (t : Tables) (c : Call) → Usable L t → (step L t c).reply ≡ reply_in (plan_of t.plan) (status_in t) c
  -- the same of previews, of cost and of rounds; of the writer besides "42 buffer shorter than the text"
  pub preview_refused : (t : Tables) (w n : ℕ) → 40 ≤ n → (preview L t w ≡ would_refuse n) ↔ Unfit L t n
  pub list_refused : (t : Tables) (ws : List ℕ) (n : ℕ) → 40 ≤ n → (preview_all L t ws ≡ would_refuse n) ↔ Unfit L t n
  pub cost_refused_lem : (t : Tables) (n : ℕ) → (cost_reply L t ≡ cost_refused n) ↔ Unfit L t n
  pub rounds_refused_lem : (t : Tables) (n : ℕ) → (rounds_reply L t ≡ rounds_refused n) ↔ Unfit L t n
  -- best order: 41 of the tables or of the lent list, 40, "38, a budget out of range, after 40", 37
  pub best_order_lem : (t : Tables) (list : List ℕ) (budget : ℕ) → BestNumbers L t list budget
  pub writer_unfit : (t : Tables) (buffer : List ℕ) (n : ℕ) → Unfit L t n → writes L t buffer ≡ write_refused n
  pub writer_short : (t : Tables) (buffer : List ℕ) → Usable L t → length buffer < length (text_in L t) → writes L t buffer ≡ write_refused 42
  pub writer_wrote : (t : Tables) (buffer : List ℕ) → Usable L t → length (text_in L t) ≤ length buffer → writes L t buffer ≡ wrote (length (text_in L t))
