-- Waits added and taken back: what the raising, the way back by the log and a fresh table leave. Assumes nothing.
use mathlib.Core.Path.{◌≡◌, refl, sym, ◌∙◌, subst}
use mathlib.Core.List.{List}
use mathlib.Core.Bool.{Bool, true, false}
use Prim.Native.Nat.{ℕ, ◌+◌, ◌*◌, ◌-◌, ◌≤◌}
use native.Mathlib.Omega.{arith}
use lib.ListN.{length}
use Rattle.std.specs.Prelude.{Option, Some, None, is_none, IsSome}
use Rattle.std.proofs.Common.{rules}
use Rattle.below.specs.Below.{at}
use Rattle.below.proofs.Tests.{true_or_false}
use Rattle.tables.specs.Limits.{Limits}
use Rattle.precedence.specs.Graph.{Cycle, cyclic}
use Rattle.precedence.proofs.Visits.{cycle_cyclic}
use Rattle.cycles.specs.Flat.{flat_plan}
use Rattle.cycles.specs.Links.{LinkedWaits}
use Rattle.cycles.specs.Walk.{Course, course_with, RoundTable}
use Rattle.cycles.proofs.Placed.{formed}
use Rattle.raising.specs.Lifting.{log_room, undone, first_waits, Logged, LogAt, LogsOn, Raisable, RaisedTable}
use Rattle.raising.specs.Judged.{Judgeable}
use Rattle.raising.specs.UpToDate.{AtVisitedStops, UpToDate, MarkedTable, Tried, TakenBack}
use Rattle.raising.proofs.LogLaws.{logged_none, logged_back, logged_size, log_now}
use Rattle.raising.proofs.VerdictLaws.{table_verdict}

-- the log as it was, once the table is back
pub logs_back : (L : Limits) {top : ℕ} {t ls lo : List ℕ} {r : ℕ} {t' ls' lo' : List ℕ} → LogAt L top t ls lo → LogsOn L top t ls lo r t' ls' lo' → LogsOn L top t ls lo top t ls' lo'
logs_back L {top} {t} G on base t₀ H = logged_back L.leg L.stops log_room (on base t₀ H) top t H.from_base (on top t G) G.table_size

-- raised again from the same table, after the log led back to it
pub raised_again : (L : Limits) {C : Course} {leg start : ℕ → ℕ} {top : ℕ} {t ls lo t₁ ls₁ lo₁ : List ℕ} {full cy : Bool} {r : ℕ} {t' ls' lo' : List ℕ} → LogsOn L top t ls lo top t ls₁ lo₁ → t₁ ≡ t → RaisedTable C leg start L top t₁ ls₁ lo₁ full cy r t' ls' lo' → RaisedTable C leg start L top t ls lo full cy r t' ls' lo'
raised_again L {C} {leg} {start} {top} {t} {ls} {lo} {t₁} {ls₁} {lo₁} {full} {cy} {r} {t'} {ls'} {lo'} on e A = record {
  logs = λ base t₀ G. A.logs base t₀ (subst (λ (x : List ℕ). Logged L.leg L.stops log_room base t₀ top x ls₁ lo₁) (sym e) (on base t₀ G));
  settles = A.settles;
  finds = A.finds;
}

-- a fresh table, and the log from 0 on
pub fresh_log : (L : Limits) {t ls lo : List ℕ} → length t ≡ L.stops → length ls ≡ log_room → length lo ≡ log_room → ((v : ℕ) → at t v ≤ L.leg * L.stops) → LogAt L 0 t ls lo
fresh_log L {t} {ls} {lo} a b c small =
    let e : L.stops + 0 ≡ L.stops = omega arith in
    logged_none L.leg L.stops log_room 0 t ls lo a b c (omega arith) (λ v. subst (λ (x : ℕ). at t v ≤ L.leg * x) (sym e) (small v))

module _ {L : Limits} (owners starts lasts : List ℕ) (drones n : ℕ) (from into : List ℕ) (m : ℕ) (legs visited : List ℕ) (J : Judgeable L owners starts lasts drones n from into m legs visited) (cur : List ℕ) (S : AtVisitedStops L starts drones visited cur) where
  pub judged_raisable : Raisable L owners starts lasts drones n from into m legs cur
  judged_raisable = record { tables = J.tables; stands = λ d l. omega (arith, S.are d l); has_legs = J.has_legs; short_legs = J.short_legs }

  -- a settled table has no cycle
  pub settled_acyclic : (t : List ℕ) → RoundTable (course_with owners starts lasts drones n from into m) (at legs) (at cur) (at t) → false ≡ cyclic (flat_plan (at owners) (at starts) (at lasts) drones (at from) (at into) m)
  settled_acyclic t T = (table_verdict owners starts lasts drones n from into m legs visited J cur S.are t T _ refl).says_cyclic

  pub found-cyclic : Cycle (flat_plan (at owners) (at starts) (at lasts) drones (at from) (at into) m) → true ≡ cyclic (flat_plan (at owners) (at starts) (at lasts) drones (at from) (at into) m)
  found-cyclic x = sym (cycle_cyclic (flat_plan (at owners) (at starts) (at lasts) drones (at from) (at into) m) (formed (at owners) (at starts) (at lasts) drones n (at from) (at into) m J.tables.placed) x)

-- the waits before the one that is tried
pub waits_before : {L : Limits} {owners starts lasts : List ℕ} {drones n : ℕ} {from into : List ℕ} {m : ℕ} {legs cur head next : List ℕ} {top : ℕ} {t ls lo : List ℕ} → UpToDate L owners starts lasts drones n from into m legs cur head next top t ls lo → RoundTable (first_waits (course_with owners starts lasts drones n from into (m + 1)) (m + 1 - 1)) (at legs) (at cur) (at t)
waits_before {owners = owners} {starts} {lasts} {drones} {n} {from} {into} {m} {legs} {cur} {t = t} S =
    let e : m + 1 - 1 ≡ m = omega arith in
    subst (λ (x : ℕ). RoundTable (course_with owners starts lasts drones n from into x) (at legs) (at cur) (at t)) (sym e) S.rounds

-- ---- a wait that is tried

module _ {L : Limits} (owners starts lasts : List ℕ) (drones n : ℕ) (from into : List ℕ) (m : ℕ) (legs visited : List ℕ) (J : Judgeable L owners starts lasts drones n from into (m + 1) legs visited) (cur : List ℕ) (S : AtVisitedStops L starts drones visited cur) {top : ℕ} {t ls lo : List ℕ} (G : LogAt L top t ls lo)
    {full cy : Bool} {r : ℕ} {t' ls' lo' : List ℕ} (R : RaisedTable (course_with owners starts lasts drones n from into (m + 1)) (at legs) (at cur) L top t ls lo full cy r t' ls' lo') where
  pub tried_settled : full ≡ false → cy ≡ false → {head next : List ℕ} → LinkedWaits L (at from) (m + 1) head next → Tried L owners starts lasts drones n from into m legs cur top t ls lo false false head next r t' ls' lo'
  tried_settled f e links = record {
    says_cyclic = settled_acyclic owners starts lasts drones n from into (m + 1) legs visited J cur S t' (R.settles f e);
    stays = λ q. true_or_false q refl;
    grows = λ q. record { linked = links; rounds = R.settles f e; log = log_now L R.logs G };
    logs = λ q. R.logs;
  }

  -- the table is put back, and the wait taken out of the links
  pub tried_cyclic : RoundTable (course_with owners starts lasts drones n from into m) (at legs) (at cur) (at t) → true ≡ cyclic (flat_plan (at owners) (at starts) (at lasts) drones (at from) (at into) (m + 1)) → {head next t'' : List ℕ} → LinkedWaits L (at from) m head next → t'' ≡ undone ls' lo' top (r - top) t' → Tried L owners starts lasts drones n from into m legs cur top t ls lo true false head next top t'' ls' lo'
  tried_cyclic T e {head} {next} {t''} links back = record {
    says_cyclic = e;
    stays = λ q. (refl, record { linked = links; rounds = rw same T; log = rw same (log_now L (logs_back L G R.logs) G) });
    grows = λ q. true_or_false refl q;
    logs = λ q. rw same (logs_back L G R.logs);
  }
    where
      same : t'' ≡ t
      same = back ∙ (R.logs top t G).undoes

  pub tried_fresh : {head next t'' : List ℕ} → LinkedWaits L (at from) (m + 1) head next → length t'' ≡ L.stops → ((v : ℕ) → at t'' v ≤ L.leg * L.stops) → RoundTable (course_with owners starts lasts drones n from into (m + 1)) (at legs) (at cur) (at t'') → Tried L owners starts lasts drones n from into m legs cur top t ls lo false true head next 0 t'' ls' lo'
  tried_fresh {head} {next} {t''} links size small T = record {
    says_cyclic = settled_acyclic owners starts lasts drones n from into (m + 1) legs visited J cur S t'' T;
    stays = λ q. true_or_false q refl;
    grows = λ q. record { linked = links; rounds = T; log = fresh_log L size (R.logs top t G).stops_size (R.logs top t G).olds_size small };
    logs = λ q. true_or_false refl q;
  }

-- ---- waits taken back

module _ {L : Limits} {owners starts lasts : List ℕ} {drones n : ℕ} {from into : List ℕ} {m : ℕ} {legs cur head next : List ℕ} (links : LinkedWaits L (at from) m head next) {mark top : ℕ} {t ls lo : List ℕ} (G : LogAt L top t ls lo) {t' : List ℕ} where
  pub back_marked : MarkedTable L owners starts lasts drones n from into m legs cur mark top t ls lo → t' ≡ undone ls lo mark (top - mark) t → TakenBack L owners starts lasts drones n from into m legs cur (Some mark) top t ls lo head next mark t'
  back_marked M e = record {
    standing = record { linked = links; rounds = rw same M.rounds; log = rw same here };
    marks = λ e q base t₀ le H. let is : mark ≡ e = cc in rw same (logged_back L.leg L.stops log_room H mark M.table (omega arith) M.leads size);
  }
    where
      same : t' ≡ M.table
      same = e ∙ M.leads.undoes

      size : length M.table ≡ L.stops
      size = logged_size M.leads

      here : LogAt L mark M.table ls lo
      here = logged_none L.leg L.stops log_room mark M.table ls lo size M.leads.stops_size M.leads.olds_size (omega (arith, M.leads.from_base, M.leads.in_room)) M.leads.small_first

module _ {L : Limits} {owners starts lasts : List ℕ} {drones n : ℕ} {from into : List ℕ} {m : ℕ} {legs cur head next : List ℕ} (links : LinkedWaits L (at from) m head next) {top : ℕ} {t ls lo : List ℕ} (G : LogAt L top t ls lo) {t' : List ℕ} where
  pub back_fresh : length t' ≡ L.stops → ((v : ℕ) → at t' v ≤ L.leg * L.stops) → RoundTable (course_with owners starts lasts drones n from into m) (at legs) (at cur) (at t') → TakenBack L owners starts lasts drones n from into m legs cur None top t ls lo head next 0 t'
  back_fresh size small T = record {
    standing = record { linked = links; rounds = T; log = fresh_log L size G.stops_size G.olds_size small };
    marks = λ e q. absurd (let z : ◌≡◌ {A = ℕ} 0 1 = cc in omega arith);
  }

-- a table that is there, since there is no cycle
pub table_there : {A : Type 0} (o : Option A) → is_none o ≡ false → IsSome o
table_there (Some x) e = search rules
table_there None e = true_or_false refl e
