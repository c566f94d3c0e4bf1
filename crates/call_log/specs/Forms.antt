-- Plans of both forms (document 02, point 14): on usable tables the calls read a plan's legs and never its form; 40 and the writer read it. Where every leg takes one round all is as in a `plan=1` plan, and there it
-- is as document 01 counts it, in stops: "One proof covers both plan forms". Assumes nothing.
use Rattle.std.specs.Prelude.{◌≡◌, true, List, [], ◌∷◌, ℕ, ◌≤◌, leb}
use Rattle.below.specs.Below.{first_below, sum_below}
use Rattle.tables.specs.Limits.{Limits}
use Rattle.tables.specs.Tables.{PlanLists, Tables, form_of}
use Rattle.precedence.specs.Graph.{Plan, play, finished, unvisited}
use Rattle.plan.specs.Field.{FieldPlan, plan_of, graph, place_of}
use Rattle.plan.specs.Status.{status_in}
use Rattle.call_log.specs.CallLog.{Call, accepted, status_by, Entry, log_of}
use Rattle.call_log.specs.Calls.{grant_step, step, costs, cost_reply, rounds as lands_after, rounds_reply, AsRead, recorded, tables_after}
use Rattle.call_log.specs.Claims.{Usable}
use Rattle.call_log.specs.Preview.{preview, preview_all}
use Rattle.call_log.specs.Delays.{EveryLegOne}

-- the tables with a form written into them
abbrev pub in_form : ℕ → Tables → Tables
in_form form t = let p = t.plan in record {
  plan = record {
    drone_count = p.drone_count;
    dependency_count = p.dependency_count;
    form = form ∷ [];
    names = p.names;
    stop_counts = p.stop_counts;
    locations = p.locations;
    times = p.times;
    legs = p.legs;
    first_drones = p.first_drones;
    first_stops = p.first_stops;
    second_drones = p.second_drones;
    second_stops = p.second_stops;
    pairs = p.pairs;
  };
  visited = t.visited;
  drone_flags = t.drone_flags;
  flags = t.flags;
}

module _ (L : Limits) (t : Tables) where
  -- "a drone under way counts its full leg": an accepted grant changes neither cost nor rounds
  pub record CountsFullLeg (d : ℕ) : Type 0 where
    pub cost_stays : cost_reply L (grant_step L t d).tables ≡ cost_reply L t
    pub rounds_stay : rounds_reply L (grant_step L t d).tables ≡ rounds_reply L t

  -- as if the plan had been read from a `plan=1` text: the tables are usable then too, every list of calls gets the same replies and leaves the same tables but for the form,
  -- and cost, rounds and previews are the same
  pub record AsPlain : Type 0 where
    pub usable_too : Usable L (in_form 1 t)
    pub same_replies : (calls : List Call) → recorded (step L) (in_form 1 t) calls ≡ recorded (step L) t calls
    pub same_tables : (calls : List Call) → tables_after (step L) (in_form 1 t) calls ≡ in_form 1 (tables_after (step L) t calls)
    pub same_cost : cost_reply L (in_form 1 t) ≡ cost_reply L t
    pub same_rounds : rounds_reply L (in_form 1 t) ≡ rounds_reply L t
    pub same_preview : (w : ℕ) → preview L (in_form 1 t) w ≡ preview L t w
    pub same_preview_all : (ws : List ℕ) → preview_all L (in_form 1 t) ws ≡ preview_all L t ws

-- ---- document 01's rounds: each of them takes a drone to its next stop

module _ (P : Plan) (p : ℕ → ℕ) where
  -- "A drone's remaining rounds are those until it finishes, 0 if finished"
  abbrev pub stops_to_go : ℕ → ℕ
  stops_to_go d = first_below (unvisited P p) (λ k. leb (P.last d) (play P p k d))

  -- "until every drone is at its last stop"
  abbrev pub all_to_go : ℕ
  all_to_go = first_below (unvisited P p) (λ k. finished P (play P p k))

-- "undelayed rounds finish everybody in no more rounds than there are unvisited stops"
abbrev pub FinishesByStops : FieldPlan → List Entry → Type 0
FinishesByStops F log = (rounds : ℕ) × (rounds ≤ unvisited (graph F (status_by log)) (place_of F (status_by log))) × (finished (graph F (status_by log)) (play (graph F (status_by log)) (place_of F (status_by log)) rounds) ≡ true)

-- cost and rounds of the tables
pub record CountedByStops (L : Limits) (t : Tables) : Type 0 where
  pub cost_is : cost_reply L t ≡ costs (sum_below (plan_of t.plan).drones (stops_to_go (graph (plan_of t.plan) (status_in t)) (place_of (plan_of t.plan) (status_in t))))
  pub rounds_are : rounds_reply L t ≡ lands_after (all_to_go (graph (plan_of t.plan) (status_in t)) (place_of (plan_of t.plan) (status_in t)))

pub record FormClaims : Type 0 where
  pub full_leg : (L : Limits) (t : Tables) (d : ℕ) → (grant_step L t d).reply ≡ accepted → CountsFullLeg L t d
  -- of legs of one, whatever the form
  pub as_plain : (L : Limits) (t : Tables) → Usable L t → EveryLegOne t → AsPlain L t
  pub by_stops : (L : Limits) (t : Tables) → Usable L t → EveryLegOne t → CountedByStops L t
  -- of every plan of the first form
  pub plain_by_stops : (L : Limits) (t : Tables) → Usable L t → form_of t.plan ≡ 1 → CountedByStops L t
  -- demand 3's last part, after any list of calls on a plan of the first form
  pub plain_finishes : (L : Limits) (lists : PlanLists) (t : Tables) (calls : List Call) → AsRead L lists t → form_of lists ≡ 1 → FinishesByStops (plan_of lists) (log_of (plan_of lists) calls)
