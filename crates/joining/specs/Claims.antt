-- What is claimed of a joining: when it is taken, which refusal exactly, what a refusal leaves, and that a joined plan is a plan as any other (document 02, point 1). Assumes nothing.
use Rattle.std.specs.Prelude.{◌≡◌, ◌⊎◌, ◌↔◌, Bool, true, false, ◌&&◌, List, [], ◌∷◌, ◌++◌, ℕ, ◌*◌, ◌≤◌, ◌<◌, max, length}
use Rattle.below.specs.Below.{at, is_in}
use Rattle.tables.specs.Limits.{Limits, most_pairs}
use Rattle.tables.specs.Tables.{Tables, form_of, full_size}
use Rattle.tables.specs.Zero.{zeroed_tables}
use Rattle.lines.specs.Refusals.{refusal_number, refusal_offset}
use Rattle.lines.specs.declared.refusal.Refusal.{Refusal}
use Rattle.lines.specs.declared.refusal.Refusal.TheVariants.{Range}
use Rattle.text.specs.Written.{Route, routes_text}
use Rattle.text.specs.Claims.{PlanOfText}
use Rattle.plan.specs.Field.{FieldPlan, Status, plan_of}
use Rattle.plan.specs.Status.{status_in}
use Rattle.sound.specs.Sound.{sound}
use Rattle.call_log.specs.CallLog.{Call, Entry}
use Rattle.call_log.specs.Calls.{step, tables_after, Ran}
use Rattle.call_log.specs.Claims.{Usable}
use Rattle.call_log.specs.Demand.{Found}
use Rattle.reading.specs.Replies.{ReadingReply, taken, refused_by, refused_at, reading_number}
use Rattle.reading.specs.Reading.{Site, given, AnsweredAs, read_plan}
use Rattle.accepted.specs.TextPlan.{pairs_on, text_plan}
use Rattle.accepted.specs.Claims.{PlanFollows, own_text, own_site}
use Rattle.copying.specs.Claims.{RouteAtFault}
use Rattle.joining.specs.Joining.{routes_of_plan, joined_form, joined_text, join_plans}

-- "a drone .. has visited stop 1 or is under way, or a dependency .. is turned", or "a withdrawn drone"
abbrev pub HasStarted : FieldPlan → Status → Type 0
HasStarted F s = ((d : ℕ) × (d < F.drones) × ((1 ≤ s.place d) ⊎ ((s.under_way d ≡ true) ⊎ (s.withdrawn d ≡ true)))) ⊎ ((w : ℕ) × (w < F.count) × (s.turned w ≡ true))

abbrev pub StartedIn : Tables → Type 0
StartedIn t = HasStarted (plan_of t.plan) (status_in t)

-- 41 and 40 are not said: no table of the three sets is below full size, and both plans' tables are sound
pub record Joinable (L : Limits) (a b t : Tables) : Type 0 where
  pub first : Usable L a
  pub second : Usable L b
  pub third : full_size L t ≡ true

-- whether no table of the three sets is below full size
abbrev pub all_full : Limits → (a b t : Tables) → Bool
all_full L a b t = full_size L a && (full_size L b && full_size L t)

-- 16 is not said either: neither plan has been started, and their site pairs, written as site texts, are the same
pub record FitTogether (a b : Tables) : Type 0 where
  pub first : StartedIn a → ⊥
  pub second : StartedIn b → ⊥
  pub one_site : own_site a ≡ own_site b

-- a line of the joined text is at fault: 4 at its second line, or 5 or 6 at a drone's line, at the sum of the lines before it
pub record LineAtFault (L : Limits) (form : ℕ) (ds : List Route) (n o : ℕ) : Type 0 where
  pub refusal : Refusal
  pub number_is : n ≡ refusal_number refusal
  pub offset_is : o ≡ refusal_offset refusal
  pub fault : ((L.drones < length ds) × (refusal ≡ Range 7)) ⊎ ((length ds ≤ L.drones) × RouteAtFault L form ds refusal)

-- "Demand 3 speaks of a joined plan as of any other": any list of calls on the third tables of a taken joining is as the log of the joined text's own plan has it
abbrev pub Demand3OfJoined : Limits → Type 0
Demand3OfJoined L =
    (a b t : Tables) (r : ReadingReply) (t₁ : Tables) (calls : List Call) (got : List Entry) (t' : Tables) → AnsweredAs (join_plans L a b t) r t₁ → r ≡ taken → Ran (step L) t₁ calls got t'
    → Found (text_plan L (given (own_site a)) (joined_text L a.plan b.plan)) calls got t'

pub record JoiningClaims (L : Limits) : Type 0 where
  -- the joined text is made of the lines of the plans' own texts, as the joined form has them
  pub own_texts : (a : Tables) → Usable L a → own_text L a ≡ routes_text (form_of a.plan) (routes_of_plan L a.plan)
  -- "The joined plan is taken exactly when its own text would be"
  pub taken_exactly : (a b t : Tables) → ((join_plans L a b t).reply ≡ taken) ↔ (Joinable L a b t × FitTogether a b × PlanFollows L (given (own_site a)) (joined_text L a.plan b.plan))
  -- "and the third tables are then what reading that text gives"; a refused text gets the reading's refusal, "with the joined text's offsets", and leaves "the third tables as reading does";
  -- "otherwise the joined plan keeps them", the site pairs
  pub as_reading : (a b t : Tables) → Joinable L a b t → FitTogether a b → join_plans L a b t ≡ read_plan L (given (own_site a)) (joined_text L a.plan b.plan) t
  -- "41 a lent table is below full size", of any of the three sets; "40, either plan's tables not sound, after 41"
  pub small_exactly : (a b t : Tables) → ((join_plans L a b t).reply ≡ refused_by 41) ↔ (all_full L a b t ≡ false)
  pub unsound_exactly : (a b t : Tables) → ((join_plans L a b t).reply ≡ refused_by 40) ↔ ((all_full L a b t ≡ true) × ((sound L a && sound L b) ≡ false))
  -- "16, a drone of either has visited stop 1 or is under way, or a dependency of either is turned, after 40 and before 1"; "Joining two plans whose site pairs differ gets 16"
  pub unfit_exactly : (a b t : Tables) → ((join_plans L a b t).reply ≡ refused_by 16) ↔ (Joinable L a b t × (StartedIn a ⊎ (StartedIn b ⊎ (own_site a ≡ own_site b → ⊥))))
  -- "both change no table", and 41
  pub unchanged : (a b t : Tables) (n : ℕ) → is_in n (41 ∷ 40 ∷ 16 ∷ []) ≡ true → (join_plans L a b t).reply ≡ refused_by n → (join_plans L a b t).tables ≡ t
  -- .. and 1
  pub too_long_unchanged : (a b t : Tables) (o : ℕ) → (join_plans L a b t).reply ≡ refused_at 1 o → (join_plans L a b t).tables ≡ t
  -- every other refusal zeroes the third tables: "leave the third tables as reading does"
  pub zeroed : (a b t : Tables) → is_in (reading_number (join_plans L a b t).reply) (0 ∷ 41 ∷ 40 ∷ 16 ∷ 1 ∷ []) ≡ false → (join_plans L a b t).tables ≡ zeroed_tables L t
  -- "get 1, 4, 5, 6, 10 or 11 in the reading order", and besides 41, 40 and 16 no other number is said
  pub numbers : (a b t : Tables) → is_in (reading_number (join_plans L a b t).reply) (0 ∷ 41 ∷ 40 ∷ 16 ∷ 1 ∷ 4 ∷ 5 ∷ 6 ∷ 10 ∷ 11 ∷ []) ≡ true
  -- "with the joined text's offsets": a reply with an offset is 1 with the limit of the text, or that of the first line at fault
  pub offsets : (a b t : Tables) (n o : ℕ) → (join_plans L a b t).reply ≡ refused_at n o
      → ((n ≡ 1) × (o ≡ L.text)) ⊎ LineAtFault L (joined_form a.plan b.plan) (routes_of_plan L a.plan ++ routes_of_plan L b.plan) n o
  -- two texts that were taken on one site, joined, are read as one text on it: their drones' lines one after another, with the capitals that their names have
  pub of_texts : (s s' : Site) (x y : List ℕ) (n m : ℕ) (p : PlanOfText L x n) (q : PlanOfText L y m) (a b t : Tables) → (read_plan L s x a).reply ≡ taken → (read_plan L s' y b).reply ≡ taken → pairs_on L s ≡ pairs_on L s' → full_size L t ≡ true
      → join_plans L (read_plan L s x a).tables (read_plan L s' y b).tables t ≡ read_plan L s (routes_text (max p.form q.form) (p.typed ++ q.typed)) t
  -- "The first plan's drones come first, and times are kept", "joining one of each gives `plan=2`", "otherwise the joined plan keeps" the site pairs: of the third tables themselves
  pub drones_kept : (a b t : Tables) → (join_plans L a b t).reply ≡ taken → routes_of_plan L (join_plans L a b t).tables.plan ≡ routes_of_plan L a.plan ++ routes_of_plan L b.plan
  pub form_kept : (a b t : Tables) → (join_plans L a b t).reply ≡ taken → form_of (join_plans L a b t).tables.plan ≡ joined_form a.plan b.plan
  pub pairs_kept : (a b t : Tables) → (join_plans L a b t).reply ≡ taken → (i : ℕ) → i < 2 * most_pairs → at (join_plans L a b t).tables.plan.pairs i ≡ at a.plan.pairs i
  -- the joined plan written out is the joined text, after any list of calls
  pub written_out : (a b t : Tables) (calls : List Call) → (join_plans L a b t).reply ≡ taken → own_text L (tables_after (step L) (join_plans L a b t).tables calls) ≡ joined_text L a.plan b.plan
  pub demand_3 : Demand3OfJoined L
