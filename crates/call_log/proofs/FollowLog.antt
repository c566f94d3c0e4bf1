-- A flight is as it says where the log says so: call by call the tables show the log, so its lines are computed by the log alone, and the tables are looked at once, as they were read. Assumes nothing.
use mathlib.Core.Path.{◌≡◌, refl}
use mathlib.Core.Bool.{Bool, true, false, ◌&&◌}
use mathlib.Core.List.{List, [], ◌∷◌, ◌++◌}
use Prim.Native.Nat.{ℕ}
use lib.Dec.{eqb}
use Rattle.below.specs.Below.{all_in}
use Rattle.below.proofs.Tests.{and_left, and_right, and_both}
use Rattle.tables.specs.Limits.{Limits}
use Rattle.tables.specs.Tables.{PlanLists, Tables, dependencies}
use Rattle.precedence.specs.Graph.{cost}
use Rattle.plan.specs.Claims.{stop_total, collider_in}
use Rattle.plan.specs.Field.{FieldPlan, plan_of, graph, place_of}
use Rattle.sound.specs.Sound.{sound}
use Rattle.call_log.specs.CallLog.{Call, turn, turn_all, Entry, entry_of, status_by, reply_by}
use Rattle.call_log.specs.Calls.{step, AsRead, costs}
use Rattle.call_log.specs.Preview.{PreviewOutcome, preview_by, preview_of, preview, preview_all}
use Rattle.call_log.specs.Flights.{small, plan_on, tables_at, Line, says, costs_now, previews, previews_all, same_reply, same_preview_lem, follow, Flight, flight_holds}
use Rattle.call_log.proofs.Log.{GoodLog, good_empty, good_more}
use Rattle.call_log.proofs.Read.{is_read, as_read, sound_read}
use Rattle.call_log.proofs.Whole.{KeptLog, plan, same_reply_lem, same_cost, kept_more, kept_empty}

-- a test and what follows it, where the test is made twice, and where it is made once
said : (a b c : Bool) → a && b ≡ true → (b ≡ true → c ≡ true) → a && (a && c) ≡ true
said true b c h f = f h
said false b c h f = h

and_then : (a b c : Bool) → a && b ≡ true → (b ≡ true → c ≡ true) → a && c ≡ true
and_then true b c h f = f h
and_then false b c h f = h

module _ (F : FieldPlan) where
  -- the cost by a log, the log with one call more, and a turn looked at by a log
  abbrev pub cost_by : List Entry → ℕ
  cost_by log = cost (graph F (status_by log)) F.leg (place_of F (status_by log))

  abbrev pub more : List Entry → Call → List Entry
  more log c = log ++ (entry_of c (reply_by F log c) ∷ [])

  abbrev pub looks_by : List Entry → Call → PreviewOutcome
  looks_by log c = preview_by (reply_by F log c) (costs (cost_by (more log c))) (costs (cost_by log))

  -- the lines hold of the log
  unfoldable pub follow_by : List Entry → List Line → Bool
  follow_by log [] = true
  follow_by log (says c r ∷ ls) = same_reply (reply_by F log c) r && follow_by (more log c) ls
  follow_by log (costs_now n ∷ ls) = eqb (cost_by log) n && follow_by log ls
  follow_by log (previews w r ∷ ls) = same_preview_lem (looks_by log (turn w)) r && follow_by log ls
  follow_by log (previews_all ws r ∷ ls) = same_preview_lem (looks_by log (turn_all ws)) r && follow_by log ls

module _ (L : Limits) (lists : PlanLists) (t₀ : Tables) (read : AsRead L lists t₀) where
  abbrev F : FieldPlan
  F = plan_of lists

  look_is : (log : List Entry) → GoodLog F log → (t : Tables) → KeptLog L lists t₀ read log t → (c : Call) → preview_of L t (step L t c) ≡ looks_by F log c
  look_is log g t k c = rw (
    same_reply_lem L lists t₀ read log g t k c,
    same_cost L lists t₀ read (more F log c) (good_more F (plan L lists t₀ read) log g c) (step L t c).tables (kept_more L lists t₀ read log g t k c),
    same_cost L lists t₀ read log g t k,
  )

  follow_from : (ls : List Line) (log : List Entry) → GoodLog F log → (t : Tables) → KeptLog L lists t₀ read log t → follow_by F log ls ≡ true → follow L F t log ls ≡ true
  unfolding follow follow_by preview preview_all
  follow_from [] log g t k h = refl
  follow_from (says c r ∷ ls) log g t k h = rw (same_reply_lem L lists t₀ read log g t k c)
      (said (same_reply (reply_by F log c) r) (follow_by F (more F log c) ls) (follow L F (step L t c).tables (more F log c) ls) h
      (follow_from ls (more F log c) (good_more F (plan L lists t₀ read) log g c) (step L t c).tables (kept_more L lists t₀ read log g t k c)))
  follow_from (costs_now n ∷ ls) log g t k h = rw (same_cost L lists t₀ read log g t k) (said (eqb (cost_by F log) n) (follow_by F log ls) (follow L F t log ls) h (follow_from ls log g t k))
  follow_from (previews w r ∷ ls) log g t k h = rw (look_is log g t k (turn w)) (and_then (same_preview_lem (looks_by F log (turn w)) r) (follow_by F log ls) (follow L F t log ls) h (follow_from ls log g t k))
  follow_from (previews_all ws r ∷ ls) log g t k h = rw (look_is log g t k (turn_all ws)) (and_then (same_preview_lem (looks_by F log (turn_all ws)) r) (follow_by F log ls) (follow L F t log ls) h (follow_from ls log g t k))

  follow_read : (ls : List Line) → follow_by F [] ls ≡ true → follow L F t₀ [] ls ≡ true
  follow_read ls h = follow_from ls [] (good_empty F (plan L lists t₀ read)) t₀ (kept_empty L lists t₀ read) h

-- a flight, by the tables as they were read and by the log
unfoldable pub holds_by : Flight → Bool
holds_by f =
    let p = plan_on f.pairs f.form f.routes in
    let t = tables_at f.pairs f.form f.routes in
    eqb (dependencies p) f.count && (eqb (collider_in p) (stop_total p) && (is_read small t && follow_by (plan_of p) [] f.told))

pub flight_holds_lem : (f : Flight) → holds_by f ≡ true → flight_holds f ≡ true
unfolding holds_by flight_holds
flight_holds_lem f h =
    let p = plan_on f.pairs f.form f.routes in
    let t = tables_at f.pairs f.form f.routes in
    let read = is_read small t in
    let by_log = follow_by (plan_of p) [] f.told in
    let by-tables = sound small t && follow small (plan_of p) t [] f.told in
    and_then (eqb (dependencies p) f.count) (eqb (collider_in p) (stop_total p) && (read && by_log)) (eqb (collider_in p) (stop_total p) && by-tables) h
    (λ h₁. and_then (eqb (collider_in p) (stop_total p)) (read && by_log) by-tables h₁
    (λ h₂. and_both (sound small t) (follow small (plan_of p) t [] f.told) (sound_read small t (and_left read by_log h₂)) (follow_read small p t (as_read small t (and_left read by_log h₂)) f.told (and_right read by_log h₂))))

pub flights_all : (fs : List Flight) → all_in holds_by fs ≡ true → all_in flight_holds fs ≡ true
flights_all [] h = refl
flights_all (f ∷ fs) h = and_both (flight_holds f) (all_in flight_holds fs) (flight_holds_lem f (and_left (holds_by f) (all_in holds_by fs) h)) (flights_all fs (and_right (holds_by f) (all_in holds_by fs) h))
