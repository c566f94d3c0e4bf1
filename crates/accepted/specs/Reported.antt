-- What a refusal from the plan check says of a text, with a site text or without: the first stop at fault, or the lowest pair of stops that collide, in the text's own plan (document 01, "Where each
-- refusal is checked"; requests 7 and 14). Assumes nothing.
use Rattle.std.specs.Prelude.{◌≡◌, ◌≢◌, ◌⊎◌, ◌↔◌, true, cond, List, ℕ, zero, suc, ◌+◌, ◌≤◌, ◌<◌, eqb, length}
use Rattle.tables.specs.Limits.{Limits}
use Rattle.tables.specs.Tables.{Tables, full_size}
use Rattle.text.specs.Claims.{PlanOfText}
use Rattle.plan.specs.declared.check.StopAt.{StopAt}
use Rattle.plan.specs.Field.{Dependency, FieldPlan, before}
use Rattle.plan.specs.Claims.{StopsChecked, Occupies}
use Rattle.reading.specs.Replies.{refused_stop, refused_stops}
use Rattle.reading.specs.Reading.{Site, site_read, read_plan}
use Rattle.accepted.specs.TextPlan.{text_plan}
use Rattle.std.specs.Prelude.{Ok}

-- the place of a rule among those that are looked at, at one stop: 7, 8, then "12 .., after 8 and before 9"
unfoldable pub rule_place : ℕ → ℕ
rule_place n = cond (eqb n 7) 0 (cond (eqb n 8) 1 (cond (eqb n 12) 2 3))

module _ (F : FieldPlan) where
  open F use {drones, last, location, time, leg, meets}

  -- ---- a stop at fault

  -- stop s of drone d breaks the rule with number n: "7 stop 0 not at time 0; 8 time not above the one before; 9 same location as the one before", "12, the time rises by
  -- less than the leg"
  abbrev pub Breaks : ℕ → ℕ → ℕ → Type 0
  Breaks n d zero = (n ≡ 7) × (time d 0 ≢ 0)
  Breaks n d (suc s) =
      ((n ≡ 8) × (time d (suc s) ≤ time d s))
      ⊎ (((n ≡ 12) × (time d (suc s) < time d s + leg d (suc s)))
      ⊎ ((n ≡ 9) × (location d (suc s) ≡ location d s)))

  -- "plan check, stop by stop": stop s of drone d is at fault, n is the first rule that it breaks, and no stop before it, by drone and then by stop, breaks any
  pub record FirstAtFault (n d s : ℕ) : Type 0 where
    pub drone_in : d < drones
    pub stop_in : s ≤ last d
    pub broken : Breaks n d s
    pub first_rule : (m : ℕ) → rule_place m < rule_place n → Breaks m d s → ⊥
    pub first_stop : (m e k : ℕ) → e < drones → k ≤ last e → (e < d) ⊎ ((e ≡ d) × (k < s)) → Breaks m e k → ⊥

  -- ---- two stops that collide

  -- two stops of two drones, the lower-numbered drone first: "Two drones collide when two such spans at one location share a timestep", "when their locations are equal or near", and these spans are theirs
  pub record StopsCollide (x : Dependency) : Type 0 where
    pub lower_first : x.first < x.second
    pub second_in : x.second < drones
    pub first_location : ℕ
    pub second_location : ℕ
    pub timestep : ℕ
    pub one_location : meets first_location second_location ≡ true
    pub first_there : Occupies F x.first first_location timestep
    pub second_there : Occupies F x.second second_location timestep
    pub of_first : first_there.stop ≡ x.first_stop
    pub of_second : second_there.stop ≡ x.second_stop

  -- "10 gives two of each, the pair with the lowest lower-numbered drone, then its stop, then the other drone, then its stop"
  pub record LowestPair (x : Dependency) : Type 0 where
    pub collide : StopsCollide x
    pub lowest : (y : Dependency) → StopsCollide y → before y x ≡ true → ⊥

-- ---- the reading of a text

-- the reading comes to the plan check: no table is below full size (41), no line of the site text is refused (13, 14), the text is not too long (1), and no line is refused (2 to 6), since they are those
-- of a plan of some number of drones
pub record ComesToCheck (L : Limits) (s : Site) (text : List ℕ) (t : Tables) : Type 0 where
  pub full : full_size L t ≡ true
  pub site : (site_read L s).answer ≡ Ok tt
  pub short : length text ≤ L.text
  pub number : ℕ
  pub lines : PlanOfText L text number

-- the two stops of a reply
abbrev pub stop_pair : StopAt → StopAt → Dependency
stop_pair s u = record { first = s.drone; first_stop = s.stop; second = u.drone; second_stop = u.stop }

-- "A refusal from the plan check says which drone and stop is at fault; 10 gives two of each", for any texts and any tables: the reply is a number and a stop exactly when the
-- reading comes to the plan check and the stop is the first at fault in the text's plan, and the number that of the rule; it is a number and two stops exactly when the
-- reading comes there, no single stop is at fault, the number is 10, and the two are the lowest pair that collides
pub record ReportedOfTexts (L : Limits) : Type 0 where
  pub first_fault_lem : (site : Site) (text : List ℕ) (t : Tables) (n : ℕ) (s : StopAt) → ((read_plan L site text t).reply ≡ refused_stop n s)
      ↔ (ComesToCheck L site text t × FirstAtFault (text_plan L site text) n s.drone s.stop)
  pub lowest_pair : (site : Site) (text : List ℕ) (t : Tables) (n : ℕ) (s u : StopAt) → ((read_plan L site text t).reply ≡ refused_stops n s u)
      ↔ (ComesToCheck L site text t × (n ≡ 10) × StopsChecked (text_plan L site text) × LowestPair (text_plan L site text) (stop_pair s u))
