-- The dependencies as the tables hold them, a list for each field of their records, and what the building leaves there (document 01, "The graph" and "Where each
-- refusal is checked"). Assumes nothing.
use Rattle.std.specs.Prelude.{Bool, true, false, List, ℕ, leb, Option, Some, None}
use Rattle.below.specs.Below.{picks, rows_below, laid}
use Rattle.tables.specs.declared.lent.Sides.{Sides}
use Rattle.plan.specs.Visits.{Visits}
use Rattle.plan.specs.Dependencies.{follows, flag_of, dependency_total, column}

-- "Each record holds these four and a flag byte"
pub record Columns : Type 0 where
  pub first_drones : List ℕ
  pub first_stops : List ℕ
  pub second_drones : List ℕ
  pub second_stops : List ℕ
  pub flags : List ℕ

abbrev pub columns_with : (fd fs sd ss fl : List ℕ) → Columns
columns_with fd fs sd ss fl = record { first_drones = fd; first_stops = fs; second_drones = sd; second_stops = ss; flags = fl }

-- those of lent sides and their flag bytes
abbrev pub columns_held : Sides → (flags : List ℕ) → Columns
columns_held sides flags = columns_with sides.first_drones.now sides.first_stops.now sides.second_drones.now sides.second_stops.now flags

-- the columns with a list written into each from the entry k on; `list f` is f of each dependency (v, w) that is written
abbrev pub written : Visits → ((ℕ → ℕ → ℕ) → List ℕ) → ℕ → Columns → Columns
written S list k c = record {
  first_drones = laid c.first_drones k (list (λ v w. S.own v));
  first_stops = laid c.first_stops k (list (λ v w. S.num v));
  second_drones = laid c.second_drones k (list (λ v w. S.own w));
  second_stops = laid c.second_stops k (list (λ v w. S.num w));
  flags = laid c.flags k (list (flag_of S.own S.num S.n));
}

abbrev pub pick_columns : Bool → Columns → Columns → Columns
pick_columns true a b = a
pick_columns false a b = b

abbrev pub pick_built : Bool → Option ℕ → Option ℕ → Option ℕ
pick_built true a b = a
pick_built false a b = b

-- the building's answer: how many dependencies there are, or none: "11 too many dependencies"
unfoldable pub built_of : (limit : ℕ) → Visits → Option ℕ
built_of limit S = let m = dependency_total S in pick_built (leb m limit) (Some m) None

-- "11 too many dependencies"; 0 where they fit
abbrev pub built_number : Option ℕ → ℕ
built_number (Some m) = 0
built_number None = 11

module _ (limit : ℕ) (S : Visits) where
  -- the columns after the building: the dependencies from the first entry on, or as they were where there are too many
  unfoldable pub built_in : Columns → Columns
  built_in c = pick_columns (leb (dependency_total S) limit) (written S (column S) 0 c) c

module _ (S : Visits) where
  -- while the building goes: the dependencies with the first stop v and a second stop below w, from the entry k on
  unfoldable pub row_written : ℕ → ℕ → ℕ → Columns → Columns
  row_written v w k c = written S (λ f. picks w (follows S v) (f v)) k c

  -- and those with a first stop below v, from the first entry on
  unfoldable pub rows_written : ℕ → Columns → Columns
  rows_written v c = written S (λ f. rows_below v (λ u. picks S.n (follows S u) (f u))) 0 c
