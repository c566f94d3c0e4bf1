-- How late the last drone lands: rounds in which some drones are held (document 02, point 13). Legs are of one round, as in every `plan=1` plan: "Point 13 speaks of legs of
-- one only" (point 14). Drones that are withdrawn at the start count as beyond all their stops (point 10). Assumes nothing.
use Rattle.std.specs.Prelude.{◌≡◌, Bool, true, false, not, ◌&&◌, List, [], ◌∷◌, ℕ, suc, ◌+◌, ◌≤◌, ◌<◌, eqb, length}
use Rattle.below.specs.Below.{is_in, max_below}
use Rattle.tables.specs.Limits.{Limits}
use Rattle.tables.specs.Tables.{PlanLists, Tables, form_of, full_size}
use Rattle.precedence.specs.Graph.{Plan, finished, remaining, held_round}
use Rattle.plan.specs.Field.{plan_of, graph, place_of}
use Rattle.plan.specs.Status.{status_in}
use Rattle.sound.specs.Sound.{sound}
use Rattle.call_log.specs.CallLog.{Call}
use Rattle.call_log.specs.Calls.{marked, step, AsRead, tables_after, rounds_reply, rounds as lands_after}
use Rattle.call_log.specs.Claims.{Usable}
use Rattle.call_log.specs.Flights.{small, tables_by, Q}

-- "Let a round name some drones as held; these neither depart nor arrive in it": the rounds are played from the places p, one after the other
unfoldable pub play_held : Plan → (ℕ → ℕ) → List (List ℕ) → ℕ → ℕ
play_held P p [] = p
play_held P p (held ∷ rounds) = play_held P (held_round P (λ d. is_in d held) p) rounds

-- D, "the number of rounds in the list with somebody held": a round counts when it names a drone, also one that is not there, has finished or is withdrawn
unfoldable pub delays : List (List ℕ) → ℕ
delays [] = 0
delays ([] ∷ rounds) = delays rounds
delays ((d ∷ ds) ∷ rounds) = suc (delays rounds)

module _ (t : Tables) where
  -- the graph in the order now in force; "With no turns and no withdrawals in between" it stays
  abbrev pub in_force_now : Plan
  in_force_now = graph (plan_of t.plan) (status_in t)

  -- "Point 13 speaks of legs of one only"
  abbrev pub EveryLegOne : Type 0
  EveryLegOne = (d s : ℕ) → d < in_force_now.drones → 0 < s → s ≤ in_force_now.last d → (plan_of t.plan).leg d s ≡ 1

  -- R, "the largest number of remaining rounds at the start"
  unfoldable pub most_remaining : ℕ
  most_remaining = max_below in_force_now.drones (remaining in_force_now (plan_of t.plan).leg (place_of (plan_of t.plan) (status_in t)))

  -- the places after these rounds
  abbrev pub places_after : List (List ℕ) → ℕ → ℕ
  places_after rounds = play_held in_force_now (place_of (plan_of t.plan) (status_in t)) rounds

  -- "any list of at least R + D rounds finishes all"
  abbrev pub AllFinish : Type 0
  AllFinish = (rounds : List (List ℕ)) → most_remaining + delays rounds ≤ length rounds → finished in_force_now (places_after rounds) ≡ true

  -- the same from the recorded places, wherever the withdrawn drones were picked up: everybody else comes to its last stop
  abbrev pub OthersFinish : Type 0
  OthersFinish = (rounds : List (List ℕ)) → most_remaining + delays rounds ≤ length rounds → (d : ℕ) → d < in_force_now.drones → (status_in t).withdrawn d ≡ false → in_force_now.last d ≤ play_held in_force_now (status_in t).place rounds d

  -- "A held round never raises anybody's remaining rounds", whatever rounds came before it
  abbrev pub NoneRaised : Type 0
  NoneRaised = (rounds : List (List ℕ)) (held : List ℕ) (d : ℕ) → d < in_force_now.drones → remaining in_force_now (plan_of t.plan).leg (held_round in_force_now (λ e. is_in e held) (places_after rounds)) d ≤ remaining in_force_now (plan_of t.plan).leg (places_after rounds) d

  -- R + D is sharp: these rounds are one fewer, and not everybody has finished
  unfoldable pub one_round_short : List (List ℕ) → Bool
  one_round_short rounds = full_size small t && (sound small t && (eqb (suc (length rounds)) (most_remaining + delays rounds) && not (finished in_force_now (places_after rounds))))

pub record DelayClaims : Type 0 where
  -- of any sound tables, drones that are withdrawn among them
  pub all_finish : (L : Limits) (t : Tables) → Usable L t → EveryLegOne t → AllFinish t
  pub others_finish : (L : Limits) (t : Tables) → Usable L t → EveryLegOne t → OthersFinish t
  pub none_raised : (L : Limits) (t : Tables) → Usable L t → EveryLegOne t → NoneRaised t
  -- and so after any accepted plan and any list of calls
  pub calls_finish : (L : Limits) (lists : PlanLists) (t : Tables) (calls : List Call) → AsRead L lists t → EveryLegOne (tables_after (step L) t calls) → AllFinish (tables_after (step L) t calls)
  pub calls_none_raised : (L : Limits) (lists : PlanLists) (t : Tables) (calls : List Call) → AsRead L lists t → EveryLegOne (tables_after (step L) t calls) → NoneRaised (tables_after (step L) t calls)
  -- "A `plan=1` text reads as legs of one": the same of every plan of the first form, without a word on its legs
  pub form_one_legs : (L : Limits) (t : Tables) → sound L t ≡ true → form_of t.plan ≡ 1 → EveryLegOne t
  pub plain_all_finish : (L : Limits) (t : Tables) → Usable L t → form_of t.plan ≡ 1 → AllFinish t
  pub plain_others_finish : (L : Limits) (t : Tables) → Usable L t → form_of t.plan ≡ 1 → OthersFinish t
  pub plain_none_raised : (L : Limits) (t : Tables) → Usable L t → form_of t.plan ≡ 1 → NoneRaised t
  pub plain_calls_finish : (L : Limits) (lists : PlanLists) (t : Tables) (calls : List Call) → AsRead L lists t → form_of lists ≡ 1 → AllFinish (tables_after (step L) t calls)
  pub plain_calls_none_raised : (L : Limits) (lists : PlanLists) (t : Tables) (calls : List Call) → AsRead L lists t → form_of lists ≡ 1 → NoneRaised (tables_after (step L) t calls)
  -- R is what the call `rounds` answers, whatever the legs
  pub rounds_told : (L : Limits) (t : Tables) → Usable L t → rounds_reply L t ≡ lands_after (most_remaining t)
  -- sharp. With Q's drone 0 withdrawn drone 1 lands after 2 rounds: 1 is too few, 2 with drone 1 held once
  pub sharp_withdrawn : one_round_short (marked (tables_by (Q 4)) 0) ([] ∷ []) ≡ true
  pub sharp_withdrawn_once : one_round_short (marked (tables_by (Q 4)) 0) ((1 ∷ []) ∷ [] ∷ []) ≡ true
  -- Q lands after 5 rounds: 4 are too few, 5 with drone 0 held once, 6 with both held one after the other
  pub sharp : one_round_short (tables_by (Q 4)) ([] ∷ [] ∷ [] ∷ [] ∷ []) ≡ true
  pub sharp_once : one_round_short (tables_by (Q 4)) ((0 ∷ []) ∷ [] ∷ [] ∷ [] ∷ [] ∷ []) ≡ true
  pub sharp_twice : one_round_short (tables_by (Q 4)) ((0 ∷ []) ∷ [] ∷ [] ∷ [] ∷ (1 ∷ []) ∷ [] ∷ []) ≡ true
