-- "Each table carries its own full size as a fixed figure, taken from the limits above. Entries past a full size are never read or written" (document 01, "Tables and
-- what is sound"): of the reading, of every call, of best order and its lent list, of the writer and of a joining, for any limits. The public calls are lent the dependencies as a slice of records: their contracts
-- (conductor/src/calls.rt) speak of the tables that `tables_of_records` makes of it, to which records past the full size do not belong (`records_unread`), and the clauses
-- `drop limits.dependencies ..` leave these records as they were. Assumes nothing.
use Rattle.std.specs.Prelude.{◌≡◌, List, ℕ, take, drop}
use Rattle.tables.specs.Limits.{Limits}
use Rattle.tables.specs.Tables.{Tables, each_table, full_size}
use Rattle.tables.specs.declared.entries.Dependency.{Dependency}
use Rattle.sound.specs.Sound.{sound}
use Rattle.call_log.specs.CallLog.{Call}
use Rattle.call_log.specs.Calls.{step, cost_reply, rounds_reply}
use Rattle.call_log.specs.Preview.{preview, preview_all}
use Rattle.call_log.specs.BestOrder.{best_order}
use Rattle.reading.specs.Reading.{Site, read_plan}
use Rattle.joining.specs.Joining.{join_plans}
use Rattle.flat.specs.Writing.{writes, buffer_left}
use Rattle.records.specs.Records.{tables_of_records}

-- the entries up to the full sizes, and those past them
abbrev pub up_to_full : Limits → Tables → Tables
up_to_full = each_table take

abbrev pub past_full : Limits → Tables → Tables
past_full = each_table drop

-- two sets of tables agree up to their full sizes: the same entries there, and a table that is below its full size is the same in both
abbrev pub AgreeUpToFull : Limits → Tables → Tables → Type 0
AgreeUpToFull L t t' = up_to_full L t ≡ up_to_full L t'

-- "never read": whatever stands past the full sizes, the replies are the same, and the tables that are left agree again
pub record NeverRead (L : Limits) (t t' : Tables) : Type 0 where
  -- 41 and 40 are said of both or of neither
  pub sizes : full_size L t ≡ full_size L t'
  pub soundness : sound L t ≡ sound L t'
  pub reading_replies : (s : Site) (text : List ℕ) → (read_plan L s text t).reply ≡ (read_plan L s text t').reply
  pub reading_leaves : (s : Site) (text : List ℕ) → AgreeUpToFull L (read_plan L s text t).tables (read_plan L s text t').tables
  pub call_replies : (c : Call) → (step L t c).reply ≡ (step L t' c).reply
  pub call_leaves : (c : Call) → AgreeUpToFull L (step L t c).tables (step L t' c).tables
  pub previews : (w : ℕ) → preview L t w ≡ preview L t' w
  pub list_previews : (ws : List ℕ) → preview_all L t ws ≡ preview_all L t' ws
  pub costs : cost_reply L t ≡ cost_reply L t'
  pub rounds : rounds_reply L t ≡ rounds_reply L t'
  -- best order, and the first entries of the list that it is lent: of lists that agree up to the dependency table's full size
  pub best_replies : (list list' : List ℕ) (budget : ℕ) → take L.dependencies list ≡ take L.dependencies list' → (best_order L t list budget).outcome ≡ (best_order L t' list' budget).outcome
  pub best_leaves : (list list' : List ℕ) (budget : ℕ) → take L.dependencies list ≡ take L.dependencies list' → take L.dependencies (best_order L t list budget).list ≡ take L.dependencies (best_order L t' list' budget).list
  pub writer_replies : (buffer : List ℕ) → writes L t buffer ≡ writes L t' buffer
  pub writer_leaves : (buffer : List ℕ) → buffer_left L t buffer ≡ buffer_left L t' buffer

-- "never .. written": whatever the reply, the entries past the full sizes are as they were. Preview, cost, rounds, best order and writer leave no tables: they write none
pub record NeverWritten (L : Limits) (t : Tables) : Type 0 where
  pub reading_keeps : (s : Site) (text : List ℕ) → past_full L (read_plan L s text t).tables ≡ past_full L t
  pub call_keeps : (c : Call) → past_full L (step L t c).tables ≡ past_full L t
  -- of best order's lent list, which has the dependency table's full size
  pub list_keeps : (list : List ℕ) (budget : ℕ) → drop L.dependencies (best_order L t list budget).list ≡ drop L.dependencies list

-- "Entries past a full size are never read or written"
pub record FullSizesKept (L : Limits) : Type 0 where
  pub never_read : (t t' : Tables) → AgreeUpToFull L t t' → NeverRead L t t'
  pub never_written : (t : Tables) → NeverWritten L t
  -- of a joining: whatever stands past the full sizes of the three sets, the reply is the same and the third tables agree again; what stands past theirs is as it was. The two plans' tables it does not write
  pub joining_replies : (a a' b b' t t' : Tables) → AgreeUpToFull L a a' → AgreeUpToFull L b b' → AgreeUpToFull L t t' → (join_plans L a b t).reply ≡ (join_plans L a' b' t').reply
  pub joining_leaves : (a a' b b' t t' : Tables) → AgreeUpToFull L a a' → AgreeUpToFull L b b' → AgreeUpToFull L t t' → AgreeUpToFull L (join_plans L a b t).tables (join_plans L a' b' t').tables
  pub joining_keeps : (a b t : Tables) → past_full L (join_plans L a b t).tables ≡ past_full L t
  -- of lent records: two slices that agree up to the full size make the same tables
  pub records_unread : (drone_count dependency_count form names stop_counts locations times legs visited drone_flags : List ℕ) (ds ds' : List Dependency) (pairs : List ℕ) → take L.dependencies ds ≡ take L.dependencies ds'
      → tables_of_records L drone_count dependency_count form names stop_counts locations times legs visited drone_flags ds pairs ≡ tables_of_records L drone_count dependency_count form names stop_counts locations times legs visited drone_flags ds' pairs
