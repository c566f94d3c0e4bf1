-- The limits of document 01's table of ranges ("Plan text"), as request 12 raised them, as a record that definitions and laws take as a parameter. Assumes nothing.
use Rattle.std.specs.Prelude.{◌≡◌, ℕ, ◌≤◌}

pub record Limits : Type 0 where
  -- "text to 65,536 bytes"
  pub text : ℕ
  -- "Raise drones to 64"
  pub drones : ℕ
  -- "stops of all and of one drone to 2,048": the limit is one
  pub stops : ℕ
  -- "dependencies to 4,096"
  pub dependencies : ℕ
  -- "name: 1 to 24 bytes": also the width of a row of the table of names
  pub name : ℕ
  -- "location: 0 to 65,535"
  pub location : ℕ
  -- "time: 0 to 1,000,000"
  pub time : ℕ
  -- "LEG .. 1 to 60 rounds": the longest leg
  pub leg : ℕ
  -- the plan forms that a board knows: 1, or 1 and 2. "Older boards refuse `plan=2`"
  pub form : ℕ

-- the product's limits
abbrev pub limits : Limits
limits = record { text = 65536; drones = 64; stops = 2048; dependencies = 4096; name = 24; location = 65535; time = 1000000; leg = 60; form = 2 }

-- request 7: "`pairs=N` (0 to 256)". No request raises it, so it is no field of the limits
abbrev pub most_pairs : ℕ
most_pairs = 256

-- the greatest remaining cost within them: "Cost is at most 7,618,560"
abbrev pub most_cost : ℕ
most_cost = 7618560

-- .. and of a `plan=1` plan, as it was: "Cost is at most 126,976"
abbrev pub most_plain_cost : ℕ
most_plain_cost = 126976

-- "the old limits", which document 01 has: of boards that were made before, which know `plan=1` alone
abbrev pub older_limits : Limits
older_limits = record { text = 32768; drones = 32; stops = 1024; dependencies = 2048; name = 24; location = 65535; time = 1000000; leg = 60; form = 1 }

-- "Raise drones .., stops of all and of one drone .., dependencies .. and text ..", and plan forms that are known: the ranges of a name, a location, a time and a leg stay
pub record Raised (L L' : Limits) : Type 0 where
  pub text : L.text ≤ L'.text
  pub drones : L.drones ≤ L'.drones
  pub stops : L.stops ≤ L'.stops
  pub dependencies : L.dependencies ≤ L'.dependencies
  pub name : L.name ≡ L'.name
  pub location : L.location ≡ L'.location
  pub time : L.time ≡ L'.time
  pub leg : L.leg ≡ L'.leg
  pub form : L.form ≤ L'.form
