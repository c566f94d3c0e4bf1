-- What is claimed of presses. Assumes nothing.
use Rattle.std.specs.Prelude.{◌≡◌, ◌↔◌, Bool, true, false, cond, not, ◌&&◌, ◌||◌, List, [], ◌∷◌, ◌++◌, map, ℕ, zero, suc, ◌^◌, ◌/◌, ◌%◌, ◌<◌, eqb, ltb}
use Rattle.below.specs.Below.{pick, sum_below}
use Rattle.tables.specs.Limits.{Limits}
use Rattle.tables.specs.Tables.{PlanLists, Tables, drones, full_size}
use Rattle.plan.specs.Field.{FieldPlan, plan_of}
use Rattle.plan.specs.Status.{status_in}
use Rattle.sound.specs.Sound.{sound}
use Rattle.call_log.specs.CallLog.{Call, grant, arrive, Reply, is_accepted, reply_number, reply_by, log_of, short, flying}
use Rattle.call_log.specs.Calls.{step, arrive_step, tables_after, Answered, AsRead}
use Rattle.call_log.specs.Claims.{Usable, MayGo}
use Rattle.call_log.specs.Demand.{Found}
use Rattle.reading.specs.Replies.{ReadingReply, taken}
use Rattle.reading.specs.Reading.{Site, AnsweredAs, read_plan}
use Rattle.accepted.specs.TextPlan.{text_plan}
use Rattle.handset.specs.Press.{PressOutcome, granted, press_refused, PressAnswer, PressedAs, grant_all_step, press_step}
use Rattle.std.specs.Prelude.{Option, Some, None}

-- ---- a press is a list of calls

-- the grants of the drones below n, in order
unfoldable pub grants_below : ℕ → List Call
grants_below zero = []
grants_below (suc n) = grants_below n ++ (grant n ∷ [])

module _ (L : Limits) where
  -- the calls that a press stands for: "An arrival that is refused grants nothing". The grants after the first 20, 41 or 40 it need not make, since they change nothing
  abbrev pub press_calls : Tables → Option ℕ → List Call
  press_calls t None = grants_below L.drones
  press_calls t (Some d) = arrive d ∷ cond (is_accepted (arrive_step L t d).reply) (grants_below L.drones) []

  abbrev pub PressIsCalls : Type 0
  PressIsCalls = (t : Tables) (report : Option ℕ) → (press_step L t report).tables ≡ tables_after (step L) t (press_calls t report)

-- a call made by itself, a turn among them, or a press
pub data Action : Type 0 where
  called : Call → Action
  pressed : Option ℕ → Action

-- what the pilots see of an action: the reply of a call, or of a press
pub data ActionSeen : Type 0 where
  reply_seen : Reply → ActionSeen
  press_seen : PressOutcome → ActionSeen

module _ (L : Limits) where
  -- real calls and presses one after another, known by nothing but their contracts: the actions, each with what the pilots saw of it, from the tables t to the tables t'
  pub data Performed : Tables → List Action → List ActionSeen → Tables → Type 0 where
    none : {t : Tables} → Performed t [] [] t
    next_call : {t t' t'' : Tables} {c : Call} {r : Reply} {xs : List Action} {seen : List ActionSeen} → Answered (step L) t c r t' → Performed t' xs seen t'' → Performed t (called c ∷ xs) (reply_seen r ∷ seen) t''
    next_press : {t t' t'' : Tables} {report : Option ℕ} {r : PressOutcome} {xs : List Action} {seen : List ActionSeen} → PressedAs (press_step L t report) r t' → Performed t' xs seen t'' → Performed t (pressed report ∷ xs) (press_seen r ∷ seen) t''

-- ---- what the log of a plan says of actions: nothing of the tables or of the handset's replies goes into it

module _ (L : Limits) (F : FieldPlan) where
  -- the calls of an action after some calls: a press takes the arrival, if one was reported, and then, unless the log refuses that, asks for a grant of every drone
  abbrev pub calls_by : List Call → Action → List Call
  calls_by before (called c) = c ∷ []
  calls_by before (pressed None) = grants_below L.drones
  calls_by before (pressed (Some d)) = arrive d ∷ cond (is_accepted (reply_by F (log_of F before) (arrive d))) (grants_below L.drones) []

  -- "bit 0 stands for drone 0 and so on, one bit for each newly granted drone": each whose grant the log accepts, of those below n asked in order
  unfoldable pub bits_by : List Call → ℕ → ℕ
  bits_by before n = sum_below n (λ d. pick (is_accepted (reply_by F (log_of F (before ++ grants_below d)) (grant d))) (2 ^ d) 0)

  -- what is to be seen of an action: the log's reply to a call; of a press the number of a refused arrival, or else those bits
  abbrev pub seen_by : List Call → Action → ActionSeen
  seen_by before (called c) = reply_seen (reply_by F (log_of F before) c)
  seen_by before (pressed None) = press_seen (granted (bits_by before L.drones))
  seen_by before (pressed (Some d)) =
      let r = reply_by F (log_of F before) (arrive d) in press_seen (cond (is_accepted r) (granted (bits_by (before ++ (arrive d ∷ [])) L.drones)) (press_refused (reply_number r)))

  -- .. of all actions one after another
  unfoldable pub all_calls_by : List Call → List Action → List Call
  all_calls_by before [] = before
  all_calls_by before (x ∷ xs) = all_calls_by (before ++ calls_by before x) xs

  unfoldable pub all_seen_by : List Call → List Action → List ActionSeen
  all_seen_by before [] = []
  all_seen_by before (x ∷ xs) = seen_by before x ∷ all_seen_by (before ++ calls_by before x) xs

  -- found after the actions, by that log: what the pilots saw is what it says, and demand 3 holds of all the calls that were made
  pub record FoundOfActions (actions : List Action) (seen : List ActionSeen) (t' : Tables) : Type 0 where
    pub as_logged : seen ≡ all_seen_by [] actions
    pub found : Found F (all_calls_by [] actions) (log_of F (all_calls_by [] actions)) t'

-- demand 3 of any list of presses, grants, arrivals, withdrawals and turns after any text that was taken, with a site text or without
abbrev pub Demand3OfPresses : Type 0
Demand3OfPresses =
    (L : Limits) (s : Site) (text : List ℕ) (t : Tables) (r : ReadingReply) (t₁ : Tables) (actions : List Action) (seen : List ActionSeen) (t' : Tables) → AnsweredAs (read_plan L s text t) r t₁ → r ≡ taken
    → Performed L t₁ actions seen t' → FoundOfActions L (text_plan L s text) actions seen t'

-- .. and after whatever left the tables as an accepted reading of some plan does, a joining for instance
abbrev pub Demand3OfPressesOn : Type 0
Demand3OfPressesOn = (L : Limits) (lists : PlanLists) (t : Tables) (actions : List Action) (seen : List ActionSeen) (t' : Tables) → AsRead L lists t → Performed L t actions seen t' → FoundOfActions L (plan_of lists) actions seen t'

-- ---- the order

-- the drone is one of those asked
unfoldable pub is_asked : List ℕ → ℕ → Bool
is_asked [] d = false
is_asked (e ∷ es) d = eqb d e || is_asked es d

module _ (L : Limits) (t : Tables) where
  -- which drones are granted does not depend on the order in which they are asked, nor on how often
  abbrev pub OrderFree : Type 0
  OrderFree = (ds es : List ℕ) → ((d : ℕ) → is_asked ds d ≡ is_asked es d) → tables_after (step L) t (map grant ds) ≡ tables_after (step L) t (map grant es)

  -- so the press might have asked in any other order
  abbrev pub AnyOrder : Type 0
  AnyOrder = (ds : List ℕ) → ((d : ℕ) → is_asked ds d ≡ ltb d L.drones) → (grant_all_step L t).tables ≡ tables_after (step L) t (map grant ds)

-- ---- what is replied

-- "bit 0 stands for drone 0 and so on"
abbrev pub bit_set : ℕ → ℕ → Bool
bit_set bits d = eqb (bits / 2 ^ d % 2) 1

-- the report is that the drone arrived
abbrev pub is_report_of : Option ℕ → ℕ → Bool
is_report_of None d = false
is_report_of (Some e) d = eqb d e

module _ (L : Limits) (t : Tables) (report : Option ℕ) where
  -- the press's reply and the tables after it
  abbrev pub after : PressAnswer
  after = press_step L t report

  -- the tables when the arrival is taken, before any grant
  abbrev pub at_grants : Tables
  at_grants = elim report [ None ↦ t | Some d ↦ (arrive_step L t d).tables ]

  -- "Refused: 41 and 40 first, then the arrival's own number"; else the press is accepted
  pub record RefusedInOrder : Type 0 where
    pub first_41 : full_size L t ≡ false → after.reply ≡ press_refused 41
    pub then_40 : full_size L t ≡ true → sound L t ≡ false → after.reply ≡ press_refused 40
    pub then_own : (d : ℕ) → report ≡ Some d → is_accepted (arrive_step L t d).reply ≡ false → after.reply ≡ press_refused (reply_number (arrive_step L t d).reply)
    pub else_none : Usable L t → ((d : ℕ) → report ≡ Some d → is_accepted (arrive_step L t d).reply ≡ true) → (bits : ℕ) × (after.reply ≡ granted bits)

  -- "An arrival that is refused grants nothing": whatever is refused leaves every table as it was
  abbrev pub RefusedLeaves : Type 0
  RefusedLeaves = (n : ℕ) → after.reply ≡ press_refused n → after.tables ≡ t

  -- ---- an accepted press

  pub record AcceptedPress (bits : ℕ) : Type 0 where
    -- "The handset's number grows to 64 bits", as many as there are drones at most
    pub fits : bits < 2 ^ L.drones
    -- "one bit for each newly granted drone": those under way now that were not before the press, and the one that arrived in it, if it goes on at once
    pub newly : (d : ℕ) → bit_set bits d ≡ (not ((status_in t).under_way d) || is_report_of report d) && (status_in after.tables).under_way d
    -- "grants every drone that may go", and no other
    pub may_go : (d : ℕ) → (bit_set bits d ≡ true) ↔ MayGo (plan_of at_grants.plan) (status_in at_grants) d
    -- "If a drone is still unfinished after an accepted press, somebody is under way": both "among those not withdrawn"
    pub somebody_under_way : (d : ℕ) → d < drones after.tables.plan → short (plan_of after.tables.plan) (status_in after.tables) d ≡ true → (e : ℕ) × (e < drones after.tables.plan) × (flying (plan_of after.tables.plan) (status_in after.tables) e ≡ true)
    -- the tables are usable for the next press
    pub stays_usable : Usable L after.tables

  abbrev pub AcceptedMeans : Type 0
  AcceptedMeans = (bits : ℕ) → after.reply ≡ granted bits → AcceptedPress bits

-- of all tables and reports
pub record PressClaims : Type 0 where
  pub press_is_calls : (L : Limits) → PressIsCalls L
  pub demand3_of_presses : Demand3OfPresses
  pub demand3_of_presses_on : Demand3OfPressesOn
  pub order_free : (L : Limits) (t : Tables) → OrderFree L t
  pub any_order : (L : Limits) (t : Tables) → AnyOrder L t
  pub refused_in_order : (L : Limits) (t : Tables) (report : Option ℕ) → RefusedInOrder L t report
  pub refused_leaves : (L : Limits) (t : Tables) (report : Option ℕ) → RefusedLeaves L t report
  pub accepted_means : (L : Limits) (t : Tables) (report : Option ℕ) → AcceptedMeans L t report
