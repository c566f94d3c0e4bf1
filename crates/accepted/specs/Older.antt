-- Two boards, one with raised limits (request 12), which may know a plan form more (request 14): a plan text that the lower limits take is read by the higher ones as before; one that the higher
-- ones take is taken by the lower ones too, or refused with 1, 2, 4, 6 or 11 and no part of it kept. With any site text, or without (request 7): its limits are the same on both. Assumes nothing.
use Rattle.std.specs.Prelude.{◌≡◌, ◌↔◌, Bool, true, false, cond, List, [], ◌∷◌, ℕ, ◌*◌, ◌≤◌, ◌<◌, ltb, leb, length}
use Rattle.below.specs.Below.{at, is_in}
use Rattle.tables.specs.Limits.{Limits, most_pairs}
use Rattle.tables.specs.Tables.{Tables, full_size}
use Rattle.tables.specs.Zero.{zeroed_tables}
use Rattle.lines.specs.Bytes.{is_at}
use Rattle.lines.specs.Keys.{first_line}
use Rattle.text.specs.Written.{Route}
use Rattle.text.specs.OverLimits.{lines_over}
use Rattle.call_log.specs.CallLog.{Call, Entry}
use Rattle.call_log.specs.Calls.{step, Ran, cost_reply, rounds_reply}
use Rattle.call_log.specs.Preview.{preview, preview_all}
use Rattle.call_log.specs.BestOrder.{best_order}
use Rattle.reading.specs.Reading.{Site, site_read, with_reply, read_plan}
use Rattle.reading.specs.Replies.{ReadingReply, taken, refused_by, refused_at, reading_number, is_taken, line_meant}
use Rattle.accepted.specs.TextPlan.{stops_in, routes_plan, text_routes, site_meets, text_plan, text_form}
use Rattle.lines.specs.declared.refusal.Refusal.{Refusal as LineRefusal}
use Rattle.std.specs.Prelude.{Result, Ok, Err}

-- ---- "Every plan text taken until now reads as before"

-- a table and one of a larger full size, which holds the same up to the lower full size, and zeros from there on
abbrev pub Extends : (full full' : ℕ) (table table' : List ℕ) → Type 0
Extends full full' table table' = (i : ℕ) → i < full' → at table' i ≡ cond (ltb i full) (at table i) 0

pub record TablesExtend (L L' : Limits) (t t' : Tables) : Type 0 where
  pub drone_count_lem : Extends 1 1 t.plan.drone_count t'.plan.drone_count
  pub dependency_count : Extends 1 1 t.plan.dependency_count t'.plan.dependency_count
  pub form : Extends 1 1 t.plan.form t'.plan.form
  pub names : Extends (L.drones * L.name) (L'.drones * L'.name) t.plan.names t'.plan.names
  pub stop_counts_lem : Extends L.drones L'.drones t.plan.stop_counts t'.plan.stop_counts
  pub locations : Extends L.stops L'.stops t.plan.locations t'.plan.locations
  pub times : Extends L.stops L'.stops t.plan.times t'.plan.times
  pub legs : Extends L.stops L'.stops t.plan.legs t'.plan.legs
  pub first_drones_lem : Extends L.dependencies L'.dependencies t.plan.first_drones t'.plan.first_drones
  pub first_stops_lem : Extends L.dependencies L'.dependencies t.plan.first_stops t'.plan.first_stops
  pub second_drones_lem : Extends L.dependencies L'.dependencies t.plan.second_drones t'.plan.second_drones
  pub second_stops_lem : Extends L.dependencies L'.dependencies t.plan.second_stops t'.plan.second_stops
  pub visited : Extends L.drones L'.drones t.visited t'.visited
  pub drone_flags : Extends L.drones L'.drones t.drone_flags t'.drone_flags
  pub flags : Extends L.dependencies L'.dependencies t.flags t'.flags
  pub pairs : Extends (2 * most_pairs) (2 * most_pairs) t.plan.pairs t'.plan.pairs

-- taken by the higher limits too, with the same entries and the same plan
pub record AsBefore (L L' : Limits) (s : Site) (text : List ℕ) (t t' : Tables) : Type 0 where
  pub is_taken_lem : (read_plan L' s text t').reply ≡ taken
  pub tables_extend : TablesExtend L L' (read_plan L s text t).tables (read_plan L' s text t').tables
  pub one_plan : text_plan L' s text ≡ text_plan L s text

abbrev pub ReadsAsBefore : Limits → Limits → Type 0
ReadsAsBefore L L' = (s : Site) (text : List ℕ) (t t' : Tables) → full_size L' t' ≡ true → (read_plan L s text t).reply ≡ taken → AsBefore L L' s text t t'

-- .. and any list of calls after it gets the same replies
abbrev pub CallsAsBefore : Limits → Limits → Type 0
CallsAsBefore L L' =
    (s : Site) (text : List ℕ) (t t' : Tables) (calls : List Call) (got got' : List Entry) (after after' : Tables) → (read_plan L s text t).reply ≡ taken → (read_plan L' s text t').reply ≡ taken
    → Ran (step L) (read_plan L s text t).tables calls got after → Ran (step L') (read_plan L' s text t').tables calls got' after' → got ≡ got'

-- two lists with the same first n entries
abbrev pub SameFirst : ℕ → List ℕ → List ℕ → Type 0
SameFirst n l l' = (i : ℕ) → i < n → at l i ≡ at l' i

-- what two boards tell of their tables without a change: cost, rounds, the previews of one dependency and of a list, and best order
pub record SameTold (L L' : Limits) (t t' : Tables) : Type 0 where
  pub costs : cost_reply L t ≡ cost_reply L' t'
  pub rounds : rounds_reply L t ≡ rounds_reply L' t'
  pub previews : (w : ℕ) → preview L t w ≡ preview L' t' w
  pub list_previews : (ws : List ℕ) → preview_all L t ws ≡ preview_all L' t' ws
  -- each is lent a list "of the dependency table's full size", its own: the same reply, and lists that had the same entries up to the lower full size have the same ones again
  pub best_orders : (l l' : List ℕ) (budget : ℕ) → L.dependencies ≤ length l → L'.dependencies ≤ length l' → (best_order L t l budget).outcome ≡ (best_order L' t' l' budget).outcome
  pub best_lists : (l l' : List ℕ) (budget : ℕ) → L.dependencies ≤ length l → L'.dependencies ≤ length l' → SameFirst L.dependencies l l' → SameFirst L.dependencies (best_order L t l budget).list (best_order L' t' l' budget).list

-- .. and after any list of calls both tell the same: "so the same log and the same replies for ever"
abbrev pub ToldAsBefore : Limits → Limits → Type 0
ToldAsBefore L L' =
    (s : Site) (text : List ℕ) (t t' : Tables) (calls : List Call) (got got' : List Entry) (after after' : Tables) → (read_plan L s text t).reply ≡ taken → (read_plan L' s text t').reply ≡ taken
    → Ran (step L) (read_plan L s text t).tables calls got after → Ran (step L') (read_plan L' s text t').tables calls got' after' → SameTold L L' after after'

-- ---- "Boards with just the old limits refuse a plan that is over them, and taken here, with 1, 4, 6 or 11 and never keep a part of it"; "Older boards refuse `plan=2` with 2, or with 1 if it is
-- too long for them"

-- after the lines: 11 where the dependencies are too many
abbrev pub older_lines : Limits → (ℕ → ℕ → Bool) → List Route → Result ℕ LineRefusal → ReadingReply
older_lines L meets ds (Err r) = line_meant r
older_lines L meets ds (Ok n) = cond (leb (routes_plan meets ds).count L.dependencies) taken (refused_by 11)

-- what the board with the lower limits says of a text of this form with these routes, where some locations meet
abbrev pub older_reply : Limits → (ℕ → ℕ → Bool) → List ℕ → ℕ → List Route → ReadingReply
older_reply L meets text form ds = cond (ltb L.text (length text)) (refused_at 1 L.text) (older_lines L meets ds (lines_over L form ds))

-- routes and text within the limits that were raised, of a form that the board knows
pub record WithinLimits (L : Limits) (meets : ℕ → ℕ → Bool) (text : List ℕ) (form : ℕ) (ds : List Route) : Type 0 where
  pub text_short : length text ≤ L.text
  pub form_known : form ≤ L.form
  pub drones_few : length ds ≤ L.drones
  pub stops_few : stops_in ds ≤ L.stops
  pub dependencies_few : (routes_plan meets ds).count ≤ L.dependencies

pub record OlderAnswer (L L' : Limits) (s : Site) (text : List ℕ) (t : Tables) : Type 0 where
  pub replied : (read_plan L s text t).reply ≡ older_reply L (site_meets L' s) text (text_form L' text) (text_routes L' text)
  -- "with 1, 4, 6 or 11", of a form that the board knows: 0 is a text that is taken
  pub numbers : text_form L' text ≤ L.form → is_in (reading_number (read_plan L s text t).reply) (0 ∷ 1 ∷ 4 ∷ 6 ∷ 11 ∷ []) ≡ true
  -- refused exactly when it is over the limits, or of a form that the board does not know
  pub taken_within : ((read_plan L s text t).reply ≡ taken) ↔ WithinLimits L (site_meets L' s) text (text_form L' text) (text_routes L' text)
  -- "never keep a part of it": after 1 the tables are as they were, after the others zeroed
  pub unchanged : L.text < length text → (read_plan L s text t).tables ≡ t
  pub zeroed : length text ≤ L.text → is_taken (read_plan L s text t).reply ≡ false → (read_plan L s text t).tables ≡ zeroed_tables L t

abbrev pub OlderBoards : Limits → Limits → Type 0
OlderBoards L L' = (s : Site) (text : List ℕ) (t t' : Tables) → full_size L t ≡ true → (read_plan L' s text t').reply ≡ taken → OlderAnswer L L' s text t

-- "refuse `plan=2` with 2, or with 1 if it is too long for them": any text that begins so, whatever follows and whatever other boards make of it, with 2 at its first line, where no line of the site text is refused
pub record FormRefused (L : Limits) (s : Site) (text : List ℕ) (t : Tables) : Type 0 where
  pub too_long : L.text < length text → read_plan L s text t ≡ with_reply (refused_at 1 L.text) t
  pub unknown : length text ≤ L.text → read_plan L s text t ≡ with_reply (refused_at 2 0) (zeroed_tables L t)

abbrev pub UnknownForm : Limits → Type 0
UnknownForm L = (s : Site) (text : List ℕ) (t : Tables) → L.form < 2 → full_size L t ≡ true → (site_read L s).answer ≡ Ok tt → is_at text 0 (first_line 2) ≡ true → FormRefused L s text t
