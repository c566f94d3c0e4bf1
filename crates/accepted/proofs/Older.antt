-- Two boards, one with raised limits: both read the lines of one plan, so where both take a text they hold the same, and where the lower limits refuse it, it is by the first of them that is passed. A site text is read alike by both.
use mathlib.Core.Path.{◌≡◌, refl, sym, ap, ◌∙◌, subst}
use mathlib.Core.Logic.{◌↔◌}
use mathlib.Core.Bool.{Bool, true, false, cond}
use mathlib.Core.List.{List, [], ◌∷◌, ◌++◌}
use Prim.Native.Nat.{ℕ, ◌+◌, ◌*◌, ◌^◌, ◌≤◌, ◌<◌}
use native.Mathlib.Nat.{mul-le-mul_right}
use native.Mathlib.Omega.{arith}
use lib.Dec.{ltb, leb}
use borrow.Author.Tests.{ltb-true, ltb-false, lt-ltb, le-ltb}
use lib.ListN.{length}
use lib.Seq.{sets}
use Rattle.below.specs.Below.{at, is_in, laid}
use Rattle.below.proofs.Tests.{by_cases}
use Rattle.below.proofs.Pairs.{length-listed}
use Rattle.tables.specs.Limits.{Limits, limits, older_limits, most_pairs, Raised}
use Rattle.tables.specs.Tables.{PlanLists, Tables, full_size, Sizes}
use Rattle.tables.specs.Zero.{zeroed, zeroed_tables}
use Rattle.tables.proofs.Zero.{zeroed-below}
use Rattle.tables.proofs.SizeLaws.{full_sizes}
use Rattle.lines.specs.Bytes.{is_at}
use Rattle.lines.specs.Keys.{first_line}
use Rattle.lines.specs.Forms.{form_at}
use Rattle.lines.specs.Numbers.{SevenDigits}
use Rattle.lines.proofs.FormLaws.{form_over}
use Rattle.lines.proofs.NumberRoundTrip.{limits_seven}
use Rattle.near.specs.Near.{meets_in}
use Rattle.site.specs.Site.{PairList}
use Rattle.text.specs.LinesRead.{LinesRead, lines_of_form, lines_at, flat}
use Rattle.text.specs.Written.{Route, routes_text, small_names, rows_of, counts_of, locations_of, times_of, legs_of, lines_of, InLimits}
use Rattle.text.specs.OverLimits.{stops_over, over_end, lines_over}
use Rattle.text.specs.Claims.{PlanOfText, RoundTrip}
use Rattle.text.proofs.RoundTrips.{round_trip}
use Rattle.text.proofs.Sizes.{names_many, counts_many, counts_total, stops_within, times_many, legs_many}
use Rattle.plan.specs.Field.{FieldPlan, Status, PlansAgree, plan_of}
use Rattle.plan.specs.Stops.{start}
use Rattle.plan.specs.Answers.{check_of}
use Rattle.plan.specs.Dependencies.{follows}
use Rattle.plan.specs.Claims.{planned_total, StopsChecked, Collides, Never}
use Rattle.choices.specs.Budget.{SearchReply, found, no_choice, over}
use Rattle.call_log.specs.CallLog.{Call, turn, turn_all, Entry, entry_of, status_by, log_of}
use Rattle.call_log.specs.Calls.{step, AsRead, Ran, cost_reply, rounds_reply}
use Rattle.call_log.specs.Preview.{preview_of, preview, preview_all}
use Rattle.call_log.specs.BestOrder.{budget_in, turns_of, BestOutcome, too_many, best_refused, BestAnswer, best_unlisted, turns_listed, best_by, best_order}
use Rattle.call_log.proofs.Whole.{tables_of_lem, ran_more}
use Rattle.reading.specs.Replies.{ReadingReply, taken as Taken, refused_by, refused_at, reading_number, is_taken, check_meant}
use Rattle.reading.specs.Reading.{Site, site_read, with_reply, with_site, with_text, with_dependencies, check_in, after_check, read_plan, read_lines}
use Rattle.accepted.specs.TextPlan.{stops_in, owner_of, stop_number_of, routes_visits, dependency_list, routes_plan, lines_routes, text_routes, pairs_on, site_meets, text_plan, text_form}
use Rattle.accepted.specs.Claims.{SiteFollows, PlanFollows}
use Rattle.accepted.specs.Older.{Extends, SameFirst, TablesExtend, ReadsAsBefore, CallsAsBefore, SameTold, ToldAsBefore, older_lines, older_reply, WithinLimits, OlderAnswer, OlderBoards, FormRefused, UnknownForm}
use Rattle.accepted.proofs.Stored.{at-past, stored_at}
use Rattle.accepted.proofs.SiteTexts.{read_pairs, read_follows, follows_read, numbers_fit, site_same}
use Rattle.accepted.proofs.ReadCases.{read_taken, read_site}
use Rattle.accepted.proofs.SiteRead.{site_zeroed, other_readings}
use Rattle.accepted.proofs.RoutesPlan.{HoldsStops, owners_are, numbers_are, held_total, held_column, held_flags, held_check, routes_read, form_read}
use Rattle.accepted.proofs.ReadSound.{stored_stops}
use Rattle.accepted.proofs.Taken.{taken_exactly, same-laid}
use Rattle.accepted.proofs.SameOrder.{searched}
use Rattle.accepted.proofs.TextFound.{left, held, demand3_of_texts, log_cost, log_rounds, log_best, log_turns}
use Rattle.text.proofs.OverLimits.{seven_below, lines_over_lem, limits_raised, limits-within, rows_same, read_same}
use Rattle.lines.specs.declared.refusal.Refusal.{Refusal as LineRefusal}
use Rattle.site.specs.declared.SiteRefusal.{SiteRefusal}
use Rattle.std.specs.Prelude.{⊤, Result, Ok, Err}

-- ---- one list, stored in tables of two sizes

extends : (full full' : ℕ) (l l' xs : List ℕ) → length xs ≤ full → full ≤ full' → full ≤ length l → full' ≤ length l' → Extends full full' (sets (zeroed full l) 0 xs) (sets (zeroed full' l') 0 xs)
extends full full' l l' xs h k r r' i a =
    stored_at full' l' xs (omega arith) r' i a
    ∙ by_cases (ltb i full) (λ e. rw e (sym (stored_at full l xs h r i (ltb-true _ _ e)))) (λ e. rw e (at-past xs i (omega (arith, h, ltb-false i full e))))

blank_extends : (full full' : ℕ) (l l' : List ℕ) → full ≤ full' → Extends full full' (zeroed full l) (zeroed full' l')
blank_extends full full' l l' k i a =
    zeroed-below full' l' i a ∙ by_cases (ltb i full) (λ e. rw e (sym (zeroed-below full l i (ltb-true _ _ e)))) (λ e. rw e refl)

column_extends : (full full' : ℕ) (l l' xs xs' ys : List ℕ) → xs ≡ ys → xs' ≡ ys → length ys ≤ full → full ≤ full' → full ≤ length l → full' ≤ length l' → Extends full full' (laid (zeroed full l) 0 xs) (laid (zeroed full' l') 0 xs')
unfolding laid
column_extends full full' l l' xs xs' ys e e' h k r r' = rw (e, e') (extends full full' l l' ys h k r r')

-- ---- the routes of a plan, laid by both

module _ (L L' : Limits) (R : Raised L L') (t t' : Tables) (full : full_size L t ≡ true) (full' : full_size L' t' ≡ true) (ns : List ℕ) (fit : length ns ≤ 2 * most_pairs) (form : ℕ) (ds : List Route) (v : InLimits L form ds) (few : (routes_plan (meets_in ns) ds).count ≤ L.dependencies) where
  abbrev v' : InLimits L' form ds
  v' = limits_raised L L' R form ds v

  abbrev before : Tables
  before = with_text (lines_of L form ds) (length ds) (with_site ns (zeroed_tables L t))

  abbrev after : Tables
  after = with_text (lines_of L' form ds) (length ds) (with_site ns (zeroed_tables L' t'))

  holds : HoldsStops (meets_in ns) ds before.plan
  holds = stored_stops L t full ns (lines_of L form ds) (length ds) form ds refl v refl fit

  holds' : HoldsStops (meets_in ns) ds after.plan
  holds' = stored_stops L' t' full' ns (lines_of L' form ds) (length ds) form ds refl v' refl fit

  column_many : (g : ℕ → ℕ → ℕ) → length (dependency_list (meets_in ns) ds g) ≤ L.dependencies
  column_many g = omega (arith, few, length-listed (follows (routes_visits (meets_in ns) ds)) (stops_in ds) g)

  laid_extend : TablesExtend L L' (with_dependencies before) (with_dependencies after)
  laid_extend =
      let s : Sizes L t = full_sizes L t full in
      let s' : Sizes L' t' = full_sizes L' t' full' in
      let D = L.dependencies in
      let D' = L'.dependencies in
      let names-fit : length (flat (rows_of L ds)) ≤ L.drones * L.name = omega (arith, names_many L ds, mul-le-mul_right L.name v.1) in
      let names-grow : L.drones * L.name ≤ L'.drones * L'.name = rw (← R.name) (mul-le-mul_right L.name R.drones) in
      let total = held_total L form ds v before.plan holds in
      let total' = held_total L' form ds v' after.plan holds' in
      record {
        drone_count_lem = extends 1 1 t.plan.drone_count t'.plan.drone_count (length ds ∷ []) (omega arith) (omega arith) s.drone_count_lem s'.drone_count_lem;
        dependency_count = rw (total, total') (extends 1 1 t.plan.dependency_count t'.plan.dependency_count ((routes_plan (meets_in ns) ds).count ∷ []) (omega arith) (omega arith) s.dependency_count s'.dependency_count);
        form = extends 1 1 t.plan.form t'.plan.form (form ∷ []) (omega arith) (omega arith) s.form s'.form;
        names = rw (← rows_same L L' R ds) (extends _ _ t.plan.names t'.plan.names (flat (rows_of L ds)) names-fit names-grow s.names s'.names);
        stop_counts_lem = extends _ _ t.plan.stop_counts t'.plan.stop_counts (counts_of ds) (omega (arith, counts_many ds, v.1)) R.drones s.stop_counts_lem s'.stop_counts_lem;
        locations = extends _ _ t.plan.locations t'.plan.locations (locations_of ds) (stops_within L form ds v) R.stops s.locations s'.locations;
        times = extends _ _ t.plan.times t'.plan.times (times_of ds) (omega (arith, times_many L form ds v, stops_within L form ds v)) R.stops s.times s'.times;
        legs = extends _ _ t.plan.legs t'.plan.legs (legs_of ds) (omega (arith, legs_many L form ds v, stops_within L form ds v)) R.stops s.legs s'.legs;
        first_drones_lem = column_extends D D' t.plan.first_drones t'.plan.first_drones _ _ _ (held_column L form ds v before.plan holds _ (λ u w. owner_of ds u) (λ u w. owners_are L form ds v before.plan holds u))
            (held_column L' form ds v' after.plan holds' _ (λ u w. owner_of ds u) (λ u w. owners_are L' form ds v' after.plan holds' u)) (column_many _) R.dependencies s.first_drones_lem s'.first_drones_lem;
        first_stops_lem = column_extends D D' t.plan.first_stops t'.plan.first_stops _ _ _ (held_column L form ds v before.plan holds _ (λ u w. stop_number_of ds u) (λ u w. numbers_are L form ds v before.plan holds u))
            (held_column L' form ds v' after.plan holds' _ (λ u w. stop_number_of ds u) (λ u w. numbers_are L' form ds v' after.plan holds' u)) (column_many _) R.dependencies s.first_stops_lem s'.first_stops_lem;
        second_drones_lem = column_extends D D' t.plan.second_drones t'.plan.second_drones _ _ _ (held_column L form ds v before.plan holds _ (λ u w. owner_of ds w) (λ u w. owners_are L form ds v before.plan holds w))
            (held_column L' form ds v' after.plan holds' _ (λ u w. owner_of ds w) (λ u w. owners_are L' form ds v' after.plan holds' w)) (column_many _) R.dependencies s.second_drones_lem s'.second_drones_lem;
        second_stops_lem = column_extends D D' t.plan.second_stops t'.plan.second_stops _ _ _ (held_column L form ds v before.plan holds _ (λ u w. stop_number_of ds w) (λ u w. numbers_are L form ds v before.plan holds w))
            (held_column L' form ds v' after.plan holds' _ (λ u w. stop_number_of ds w) (λ u w. numbers_are L' form ds v' after.plan holds' w)) (column_many _) R.dependencies s.second_stops_lem s'.second_stops_lem;
        visited = blank_extends _ _ t.visited t'.visited R.drones;
        drone_flags = blank_extends _ _ t.drone_flags t'.drone_flags R.drones;
        flags = column_extends D D' t.flags t'.flags _ _ _ (held_flags L form ds v before.plan holds) (held_flags L' form ds v' after.plan holds') (column_many _) R.dependencies s.flags s'.flags;
        pairs = extends (2 * most_pairs) (2 * most_pairs) t.plan.pairs t'.plan.pairs ns fit (omega arith) s.pairs s'.pairs;
      }

-- ---- one search, its list given in lists of two sizes

-- the outcome is the same, and so are the first entries of the lists, where they were
record SameAnswer (L L' : Limits) (l l' : List ℕ) (a a' : BestAnswer) : Type 0 where
  outcomes : a.outcome ≡ a'.outcome
  lists : SameFirst L.dependencies l l' → SameFirst L.dependencies a.list a'.list

module _ (L L' : Limits) (l l' : List ℕ) (room : L.dependencies ≤ length l) (room' : L'.dependencies ≤ length l') where
  unlisted : (o : BestOutcome) → SameAnswer L L' l l' (best_unlisted o l) (best_unlisted o l')
  unlisted o = record { outcomes = refl; lists = λ h. h }

  listed_same : (ws : List ℕ) → length ws ≤ L.dependencies → L.dependencies ≤ L'.dependencies → SameFirst L.dependencies (turns_listed L l ws) (turns_listed L' l' ws)
  unfolding turns_listed laid
  listed_same ws h k i a = stored_at L.dependencies l ws h room i a ∙ sym (stored_at L'.dependencies l' ws (omega arith) room' i (omega arith))

  search_same : (F : FieldPlan) (s : Status) → ((xs : List Bool) → length (turns_of F s xs) ≤ L.dependencies) → L.dependencies ≤ L'.dependencies → (budget : ℕ) (r : SearchReply) → SameAnswer L L' l l' (cond (budget_in budget) (best_by L F s l r) (best_unlisted (best_refused 38) l)) (cond (budget_in budget) (best_by L' F s l' r) (best_unlisted (best_refused 38) l'))
  search_same F s few k budget r = by_cases (budget_in budget) (λ e. rw e (go r)) (λ e. rw e (unlisted (best_refused 38)))
    where
      go : (r : SearchReply) → SameAnswer L L' l l' (best_by L F s l r) (best_by L' F s l' r)
      go (found least xs count) = record { outcomes = refl; lists = λ h. listed_same (turns_of F s xs) (few xs) k }
      go (over count) = unlisted (too_many count)
      go (no_choice count) = unlisted (best_refused 40)

-- ---- a text that the lower limits take

-- one call more at the end of a run
one_more : (L : Limits) {t after : Tables} {calls : List Call} {got : List Entry} (c : Call) → Ran (step L) t calls got after → Ran (step L) t (calls ++ (c ∷ [])) (got ++ (entry_of c (step L after c).reply ∷ [])) (step L after c).tables
one_more L c ran = ran_more ran (record { replied = refl; left = refl })

-- the last of two lists that are else the same
last_same : (xs : List Entry) (a b : Entry) → xs ++ (a ∷ []) ≡ xs ++ (b ∷ []) → a ≡ b
last_same [] a b e = cc
last_same (x ∷ xs) a b e = last_same xs a b (cc)

module _ (L L' : Limits) (R : Raised L L') (u : SevenDigits L') where
  abbrev trip : RoundTrip L
  trip = round_trip L (seven_below L L' R u)

  abbrev trip' : RoundTrip L'
  trip' = round_trip L' u

  abbrev low : L.location < 10 ^ 7
  low = (seven_below L L' R u).location

  site_raised : (s : Site) (pairs : List ℕ) → SiteFollows L s pairs → SiteFollows L' s pairs
  site_raised s pairs f =
      let e : site_read L' s ≡ record { numbers = pairs; answer = Ok tt } = sym (site_same L L' R.location s) ∙ follows_read L low s pairs f in
      subst (SiteFollows L' s) (ap (λ (x : PairList (Result ⊤ SiteRefusal)). x.numbers) e) (read_follows L' s (ap (λ (x : PairList (Result ⊤ SiteRefusal)). x.answer) e))

  same_pairs_lem : (s : Site) → pairs_on L s ≡ pairs_on L' s
  same_pairs_lem s = ap (λ (x : PairList (Result ⊤ SiteRefusal)). x.numbers) (site_same L L' R.location s)

  -- the pairs of a text that is taken are those that are read
  pairs_read : (s : Site) (text : List ℕ) (q : PlanFollows L s text) → pairs_on L s ≡ q.pairs
  pairs_read s text q = ap (λ (x : PairList (Result ⊤ SiteRefusal)). x.numbers) (follows_read L low s q.pairs q.site)

  follows_raised : (s : Site) (text : List ℕ) → PlanFollows L s text → PlanFollows L' s text
  follows_raised s text q = record {
    pairs = q.pairs;
    site = site_raised s q.pairs q.site;
    form = q.form;
    typed = q.typed;
    as_typed = q.as_typed;
    in_limits = limits_raised L L' R q.form (small_names q.typed) q.in_limits;
    short = omega (arith, q.short, R.text);
    stops = q.stops;
    apart = q.apart;
    few = omega (arith, q.few, R.dependencies);
  }

  -- what is read of a text of routes within the limits
  lines_are : (text : List ℕ) (form : ℕ) (ds : List Route) → text ≡ routes_text form ds → InLimits L form (small_names ds) → lines_at L text ≡ lines_of L form (small_names ds)
  lines_are text form ds e v = ap (lines_at L) e ∙ trip.capitals_are_read form ds v

  lines_are' : (text : List ℕ) (form : ℕ) (ds : List Route) → text ≡ routes_text form ds → InLimits L' form (small_names ds) → lines_at L' text ≡ lines_of L' form (small_names ds)
  lines_are' text form ds e v = ap (lines_at L') e ∙ trip'.capitals_are_read form ds v

  same_lines : (s : Site) (text : List ℕ) → PlanFollows L s text → lines_at L' text ≡ lines_at L text
  same_lines s text q =
      lines_are' text q.form q.typed q.as_typed (limits_raised L L' R q.form (small_names q.typed) q.in_limits)
      ∙ sym (read_same L L' R q.form (small_names q.typed))
      ∙ sym (lines_are text q.form q.typed q.as_typed q.in_limits)

  same_plan : (s : Site) (text : List ℕ) → PlanFollows L s text → text_plan L' s text ≡ text_plan L s text
  same_plan s text q = λ i. routes_plan (meets_in (sym (same_pairs_lem s) i)) (lines_routes (same_lines s text q i))

  -- the tables after a reading that was taken, by the routes
  number_is : (M : Limits) (f : LinesRead (Result ℕ LineRefusal)) (n form : ℕ) (ds : List Route) → f ≡ lines_of M form ds → f.answer ≡ Ok n → length ds ≡ n
  number_is M f n form ds e h = let q : Ok (length ds) ≡ Ok n = sym (ap (λ (g : LinesRead (Result ℕ LineRefusal)). g.answer) e) ∙ h in cc q

  left_is : (M : Limits) (s : Site) (text : List ℕ) (t : Tables) (ns : List ℕ) (form : ℕ) (ds : List Route) → pairs_on M s ≡ ns → lines_at M text ≡ lines_of M form ds → (read_plan M s text t).reply ≡ Taken
      → (read_plan M s text t).tables ≡ with_dependencies (with_text (lines_of M form ds) (length ds) (with_site ns (zeroed_tables M t)))
  left_is M s text t ns form ds p e h =
      let (full, r) = read_taken M s text t h in
      r.tables_are
      ∙ ap with_dependencies (same-laid M t (pairs_on M s) (lines_at M text) r.number form ds e (number_is M (lines_at M text) r.number form ds e r.lines_taken))
      ∙ ap (λ (x : List ℕ). with_dependencies (with_text (lines_of M form ds) (length ds) (with_site x (zeroed_tables M t)))) p

  reads_as_before : ReadsAsBefore L L'
  reads_as_before s text t t' full' h =
      let (full, q) = (taken_exactly L trip low s text t).0 h in
      let q' = follows_raised s text q in
      let h' : (read_plan L' s text t').reply ≡ Taken = (taken_exactly L' trip' u.location s text t').1 (full', q') in
      let ds : List Route = small_names q.typed in
      let p = pairs_read s text q in
      let (m, c) = read_pairs L s (read_site L s text t h) in
      let fit : length q.pairs ≤ 2 * most_pairs = omega (arith, numbers_fit L m (pairs_on L s) c, ap length p) in
      let e = left_is L s text t q.pairs q.form ds p (lines_are text q.form q.typed q.as_typed q.in_limits) h in
      let e' = left_is L' s text t' q.pairs q.form ds (sym (same_pairs_lem s) ∙ p) (lines_are' text q.form q.typed q.as_typed (limits_raised L L' R q.form ds q.in_limits)) h' in
      record { is_taken_lem = h'; tables_extend = rw (e, e') (laid_extend L L' R t t' full full' q.pairs fit q.form ds q.in_limits q.few); one_plan = same_plan s text q }

  calls_as_before : CallsAsBefore L L'
  calls_as_before s text t t' calls got got' after after' h h' ran ran' =
      let (full, q) = (taken_exactly L trip low s text t).0 h in
      (demand3_of_texts L s text t Taken _ calls got after (record { replied = sym h; left = refl }) refl ran).replies
      ∙ ap (λ F. log_of F calls) (sym (same_plan s text q))
      ∙ sym (demand3_of_texts L' s text t' Taken _ calls got' after' (record { replied = sym h'; left = refl }) refl ran').replies

  -- cost and rounds after calls, each on its board by the log of the one plan
  module _ (s : Site) (text : List ℕ) (t t' : Tables) (h : (read_plan L s text t).reply ≡ Taken) (h' : (read_plan L' s text t').reply ≡ Taken) where
    abbrev board : Tables
    board = (read_plan L s text t).tables

    abbrev board' : Tables
    board' = (read_plan L' s text t').tables

    one_plan : text_plan L s text ≡ text_plan L' s text
    one_plan = sym (same_plan s text ((taken_exactly L trip low s text t).0 h).1)

    held_below : AsRead L board.plan board
    held_below = left L s text t Taken board (record { replied = sym h; left = refl }) refl

    held_above : AsRead L' board'.plan board'
    held_above = left L' s text t' Taken board' (record { replied = sym h'; left = refl }) refl

    agrees-below : PlansAgree (text_plan L s text) (plan_of board.plan)
    agrees-below = held L s text t Taken board (record { replied = sym h; left = refl }) refl

    agrees_above : PlansAgree (text_plan L s text) (plan_of board'.plan)
    agrees_above = rw one_plan (held L' s text t' Taken board' (record { replied = sym h'; left = refl }) refl)

    module _ (calls : List Call) (got got' : List Entry) (after after' : Tables) (ran : Ran (step L) board calls got after) (ran' : Ran (step L') board' calls got' after') where
      same_cost : cost_reply L after ≡ cost_reply L' after'
      same_cost = rw (tables_of_lem L ran, tables_of_lem L' ran') (log_cost L board held_below (text_plan L s text) agrees-below calls ∙ sym (log_cost L' board' held_above (text_plan L s text) agrees_above calls))

      same_rounds : rounds_reply L after ≡ rounds_reply L' after'
      same_rounds = rw (tables_of_lem L ran, tables_of_lem L' ran') (log_rounds L board held_below (text_plan L s text) agrees-below calls ∙ sym (log_rounds L' board' held_above (text_plan L s text) agrees_above calls))

      same-best : (l l' : List ℕ) (budget : ℕ) → L.dependencies ≤ length l → L'.dependencies ≤ length l' → SameAnswer L L' l l' (best_order L after l budget) (best_order L' after' l' budget)
      same-best l l' budget room room' = rw (tables_of_lem L ran, tables_of_lem L' ran', log_best L board held_below (text_plan L s text) agrees-below calls l budget room, log_best L' board' held_above (text_plan L s text) agrees_above calls l' budget room')
          (search_same L L' l l' room room' (text_plan L s text) (status_by (log_of (text_plan L s text) calls)) (log_turns L board held_below (text_plan L s text) agrees-below calls) R.dependencies budget (searched (text_plan L s text) (status_by (log_of (text_plan L s text) calls)) budget))

      -- one call more gets the same reply
      same_reply_lem : (c : Call) → (step L after c).reply ≡ (step L' after' c).reply
      same_reply_lem c =
          let both = calls_as_before s text t t' (calls ++ (c ∷ [])) _ _ _ _ h h' (one_more L c ran) (one_more L' c ran') in
          ap (λ (e : Entry). e.reply) (last_same got' _ _ (rw (calls_as_before s text t t' calls got got' after after' h h' ran ran') at both))

    told_as_before : (calls : List Call) (got got' : List Entry) (after after' : Tables) → Ran (step L) board calls got after → Ran (step L') board' calls got' after' → SameTold L L' after after'
    unfolding preview preview_all
    told_as_before calls got got' after after' ran ran' = record {
      costs = same_cost calls got got' after after' ran ran';
      rounds = same_rounds calls got got' after after' ran ran';
      previews = λ w. previewed (turn w);
      list_previews = λ ws. previewed (turn_all ws);
      best_orders = λ l l' budget room room'. (same-best calls got got' after after' ran ran' l l' budget room room').outcomes;
      best_lists = λ l l' budget room room'. (same-best calls got got' after after' ran ran' l l' budget room room').lists;
    }
      where
        previewed : (c : Call) → preview_of L after (step L after c) ≡ preview_of L' after' (step L' after' c)
        previewed c = rw (same_reply_lem calls got got' after after' ran ran' c, same_cost _ _ _ _ _ (one_more L c ran) (one_more L' c ran'), same_cost calls got got' after after' ran ran') refl

-- ---- a text that the higher limits take

-- the refusals of lines over the limits are 4 and 6
abbrev few_numbers : List ℕ
few_numbers = 0 ∷ 1 ∷ 4 ∷ 6 ∷ 11 ∷ []

stops_number : (L : Limits) (meets : ℕ → ℕ → Bool) (ds es : List Route) (form at total n : ℕ) → is_in (reading_number (older_lines L meets ds (over_end n (stops_over L form at total es)))) few_numbers ≡ true
unfolding stops_over is_in
stops_number L meets ds [] form at total n = by_cases (leb (routes_plan meets ds).count L.dependencies) (λ e. rw e refl) (λ e. rw e refl)
stops_number L meets ds (d ∷ es) form at total n =
    by_cases (ltb L.stops (length d.locations))
    (λ a. rw a refl)
    (λ a. by_cases (ltb L.stops (total + length d.locations)) (λ b. rw (a, b) refl) (λ b. rw (a, b) (stops_number L meets ds es form _ _ n)))

reply_number_lem : (L : Limits) (meets : ℕ → ℕ → Bool) (text : List ℕ) (form : ℕ) (ds : List Route) → form ≤ L.form → is_in (reading_number (older_reply L meets text form ds)) few_numbers ≡ true
unfolding lines_over is_in
reply_number_lem L meets text form ds known =
    let k : ltb L.form form ≡ false = le-ltb L.form form known in
    by_cases (ltb L.text (length text))
    (λ e. rw e refl)
    (λ e. by_cases (ltb L.drones (length ds)) (λ a. rw (e, k, a) refl) (λ a. rw (e, k, a) (stops_number L meets ds ds form _ _ _)))

-- the reply of a reading whose lines are well-formed and whose plan passes the check, by the dependencies alone
built_reply : (L : Limits) (z t : Tables) (count : ℕ) → check_in t.plan ≡ Taken → planned_total t.plan ≡ count
    → ((after_check L z t (check_in t.plan)).reply ≡ cond (leb count L.dependencies) Taken (refused_by 11)) × (is_taken (after_check L z t (check_in t.plan)).reply ≡ false → (after_check L z t (check_in t.plan)).tables ≡ z)
built_reply L z t count c e =
    by_cases (leb count L.dependencies) (λ b. rw (c, e, b) (refl, λ (x : true ≡ false). absurd (let q : ◌≡◌ {A = ℕ} 0 1 = cc x in omega arith))) (λ b. rw (c, e, b) (refl, λ x. refl))

module _ (L L' : Limits) (R : Raised L L') (u : SevenDigits L') (s : Site) (text : List ℕ) (t t' : Tables) (full : full_size L t ≡ true) (h' : (read_plan L' s text t').reply ≡ Taken) where
  -- the site text is taken by both, with the same pairs
  site_answer : (site_read L s).answer ≡ Ok tt
  site_answer = ap (λ (x : PairList (Result ⊤ SiteRefusal)). x.answer) (site_same L L' R.location s) ∙ read_site L' s text t' h'

  abbrev ns : List ℕ
  ns = pairs_on L s

  abbrev ns' : List ℕ
  ns' = pairs_on L' s

  pairs_same : ns ≡ ns'
  pairs_same = same_pairs_lem L L' R u s

  fit : length ns ≤ 2 * most_pairs
  fit = let (m, p) = read_pairs L s site_answer in numbers_fit L m ns p

  fit' : length ns' ≤ 2 * most_pairs
  fit' = let (m, p) = read_pairs L' s (read_site L' s text t' h') in numbers_fit L' m ns' p

  meets_same : site_meets L s ≡ site_meets L' s
  meets_same = ap meets_in pairs_same

  abbrev z : Tables
  z = with_site ns (zeroed_tables L t)

  abbrev q' : PlanFollows L' s text
  q' = ((taken_exactly L' (round_trip L' u) u.location s text t').0 h').1

  full' : full_size L' t' ≡ true
  full' = ((taken_exactly L' (round_trip L' u) u.location s text t').0 h').0

  abbrev form : ℕ
  form = q'.form

  abbrev ds : List Route
  ds = small_names q'.typed

  pairs_are : q'.pairs ≡ ns
  pairs_are = sym (ap (λ (x : PairList (Result ⊤ SiteRefusal)). x.numbers) (follows_read L' u.location s q'.pairs q'.site)) ∙ sym pairs_same

  lines' : lines_at L' text ≡ lines_of L' form ds
  lines' = lines_are' L L' R u text form q'.typed q'.as_typed q'.in_limits

  routes : text_routes L' text ≡ ds
  routes = routes_read L' form text ds q'.in_limits lines'

  form_is : text_form L' text ≡ form
  form_is = form_read L' form text ds lines'

  answer : (lines_at L text).answer ≡ lines_over L form ds
  answer = ap (λ (x : List ℕ). (lines_at L x).answer) q'.as_typed ∙ lines_over_lem L L' R u form q'.typed q'.in_limits

  -- the higher limits passed the plan check, which looks at the routes alone
  check_passed : check_meant (check_of (routes_visits (site_meets L s) ds) (at (legs_of ds))) ≡ Taken
  check_passed =
      let (full', r) = read_taken L' s text t' h' in
      let n = number_is L L' R u L' (lines_at L' text) r.number form ds lines' r.lines_taken in
      ap (λ (m : ℕ → ℕ → Bool). check_meant (check_of (routes_visits m ds) (at (legs_of ds)))) meets_same
      ∙ ap check_meant (sym (held_check L' form ds q'.in_limits (with_text (lines_at L' text) r.number (with_site ns' (zeroed_tables L' t'))).plan (stored_stops L' t' full' ns' (lines_at L' text) r.number form ds n q'.in_limits lines' fit')))
      ∙ r.check_passed

  -- form and routes within the lower limits are those of the text
  routes_below : (f : ℕ) (es : List Route) → InLimits L f (small_names es) → text ≡ routes_text f es → (f ≡ form) × (small_names es ≡ ds)
  routes_below f es v e =
      let v' = limits_raised L L' R f (small_names es) v in
      let read = lines_are' L L' R u text f es e v' in
      (sym (form_read L' f text (small_names es) read) ∙ form_is, sym (routes_read L' f text (small_names es) v' read) ∙ routes)

  -- well-formed for the lower limits too
  below-limits : (n : ℕ) → (lines_at L text).answer ≡ Ok n → InLimits L form ds × (lines_at L text ≡ lines_of L form ds)
  below-limits n e =
      let w : PlanOfText L text n = (trip L L' R u).well_formed_is_written text n e in
      let (a, b) = routes_below w.form w.typed w.in_limits w.as_typed in
      (subst (λ (f : ℕ). InLimits L f ds) a (subst (InLimits L w.form) b w.in_limits), w.read ∙ (ap (lines_of L w.form) b ∙ ap (λ (f : ℕ). lines_of L f ds) a))

  after_lines : ((read_lines L text z).reply ≡ older_lines L (site_meets L s) ds (lines_over L form ds)) × (is_taken (read_lines L text z).reply ≡ false → (read_lines L text z).tables ≡ zeroed_tables L z)
  unfolding read_lines
  after_lines = by_answer (lines_over L form ds) answer
    where
      by_answer : (a : Result ℕ LineRefusal) → (lines_at L text).answer ≡ a → ((read_lines L text z).reply ≡ older_lines L (site_meets L s) ds a) × (is_taken (read_lines L text z).reply ≡ false → (read_lines L text z).tables ≡ zeroed_tables L z)
      by_answer (Err r) e = rw e (refl, λ x. refl)
      by_answer (Ok n) e =
          let (v, f) = below-limits n e in
          let many = number_is L L' R u L (lines_at L text) n form ds f e in
          let p : PlanLists = (with_text (lines_at L text) n z).plan in
          let h = stored_stops L t full ns (lines_at L text) n form ds many v f fit in
          rw e (built_reply L (zeroed_tables L z) (with_text (lines_at L text) n z) (routes_plan (site_meets L s) ds).count (ap check_meant (held_check L form ds v p h) ∙ check_passed) (held_total L form ds v p h))

  replied : (read_plan L s text t).reply ≡ older_reply L (site_meets L s) text form ds
  unfolding read_plan
  replied = by_cases (ltb L.text (length text)) (λ e. rw (full, site_answer, e) refl) (λ e. rw (full, site_answer, e) after_lines.0)

  within-taken : (read_plan L s text t).reply ≡ Taken → WithinLimits L (site_meets L s) text form ds
  unfolding start
  within-taken h =
      let q : PlanFollows L s text = ((taken_exactly L (trip L L' R u) (low L L' R u) s text t).0 h).1 in
      let (a, b) = routes_below q.form q.typed q.in_limits q.as_typed in
      let few : (routes_plan (site_meets L s) (small_names q.typed)).count ≤ L.dependencies = rw (pairs_read L L' R u s text q) q.few in
      subst (λ (f : ℕ). WithinLimits L (site_meets L s) text f ds) a (subst (WithinLimits L (site_meets L s) text q.form) b (record {
        text_short = q.short;
        form_known = q.in_limits.4;
        drones_few = q.in_limits.1;
        stops_few = omega (arith, counts_total (small_names q.typed), stops_within L q.form (small_names q.typed) q.in_limits);
        dependencies_few = few;
      }))

  taken_within : WithinLimits L (site_meets L s) text form ds → (read_plan L s text t).reply ≡ Taken
  unfolding start
  taken_within w =
      let same : FieldPlan → Type 0 = λ F. StopsChecked F × Never F (Collides F) in
      let rules : same (routes_plan (site_meets L s) ds) = subst (λ (x : List ℕ). same (routes_plan (meets_in x) ds)) pairs_are (q'.stops, q'.apart) in
      (taken_exactly L (trip L L' R u) (low L L' R u) s text t).1 (
        full,
        record {
          pairs = ns;
          site = read_follows L s site_answer;
          form = form;
          typed = q'.typed;
          as_typed = q'.as_typed;
          in_limits = limits-within L L' R form ds q'.in_limits w.drones_few (omega (arith, counts_total ds, w.stops_few)) w.form_known;
          short = w.text_short;
          stops = rules.0;
          apart = rules.1;
          few = w.dependencies_few;
        },
      )

  older_answer : OlderAnswer L L' s text t
  unfolding read_plan
  older_answer = record {
    replied = replied ∙ ap (λ (m : ℕ → ℕ → Bool). older_reply L m text form ds) meets_same ∙ (ap (λ (f : ℕ). older_reply L (site_meets L' s) text f ds) (sym form_is) ∙ ap (older_reply L (site_meets L' s) text (text_form L' text)) (sym routes));
    numbers = λ known. ap (λ (r : ReadingReply). is_in (reading_number r) few_numbers) replied ∙ reply_number_lem L (site_meets L s) text form ds (omega (arith, known, form_is));
    taken_within = subst (λ (m : ℕ → ℕ → Bool). ((read_plan L s text t).reply ≡ Taken) ↔ WithinLimits L m text (text_form L' text) (text_routes L' text)) meets_same
        (subst (λ (f : ℕ). ((read_plan L s text t).reply ≡ Taken) ↔ WithinLimits L (site_meets L s) text f (text_routes L' text)) (sym form_is)
        (subst (λ (x : List Route). ((read_plan L s text t).reply ≡ Taken) ↔ WithinLimits L (site_meets L s) text form x) (sym routes) (within-taken, taken_within)));
    unchanged = λ l. rw (full, site_answer, lt-ltb L.text (length text) l) refl;
    zeroed = λ l x. other_readings L s text t full l x;
  }

-- ---- a form that the board does not know

pub unknown_form : (L : Limits) → UnknownForm L
unfolding read_plan read_lines lines_at lines_of_form
unknown_form L s text t few full site there =
    let none : form_at L text ≡ 0 = form_over L text 2 (omega arith) (omega arith) few there in
    let (m, p) = read_pairs L s site in
    record {
      too_long = λ l. rw (full, site, lt-ltb L.text (length text) l) refl;
      unknown = λ l. rw (full, site, le-ltb L.text (length text) l, none) (ap (with_reply (refused_at 2 0)) (site_zeroed L (pairs_on L s) t (numbers_fit L m (pairs_on L s) p)));
    }

pub reads_before : (L L' : Limits) → Raised L L' → SevenDigits L' → ReadsAsBefore L L'
reads_before = reads_as_before

pub calls_before : (L L' : Limits) → Raised L L' → SevenDigits L' → CallsAsBefore L L'
calls_before = calls_as_before

pub told_before : (L L' : Limits) → Raised L L' → SevenDigits L' → ToldAsBefore L L'
told_before L L' R u s text t t' calls got got' after after' h h' = told_as_before L L' R u s text t t' h h' calls got got' after after'

pub older_boards : (L L' : Limits) → Raised L L' → SevenDigits L' → OlderBoards L L'
older_boards L L' R u s text t t' full h' = older_answer L L' R u s text t t' full h'

-- ---- the product's limits, and those before

pub limits_are_raised : Raised older_limits limits
limits_are_raised = record { text = omega arith; drones = omega arith; stops = omega arith; dependencies = omega arith; name = refl; location = refl; time = refl; leg = refl; form = omega arith }

pub limits_reads_before : ReadsAsBefore older_limits limits
limits_reads_before = reads_before older_limits limits limits_are_raised limits_seven

pub limits_calls_before : CallsAsBefore older_limits limits
limits_calls_before = calls_before older_limits limits limits_are_raised limits_seven

pub limits_told_before : ToldAsBefore older_limits limits
limits_told_before = told_before older_limits limits limits_are_raised limits_seven

pub limits_older_boards : OlderBoards older_limits limits
limits_older_boards = older_boards older_limits limits limits_are_raised limits_seven

-- .. which know `plan=1` alone
pub limits_unknown_form : (s : Site) (text : List ℕ) (t : Tables) → full_size older_limits t ≡ true → (site_read older_limits s).answer ≡ Ok tt → is_at text 0 (first_line 2) ≡ true → FormRefused older_limits s text t
limits_unknown_form s text t full site there = unknown_form older_limits s text t (omega arith) full site there
