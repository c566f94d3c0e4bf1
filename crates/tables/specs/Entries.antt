-- The zeroed entries of the tables, and a dependency with bit 0 of its flag byte flipped. Assumes nothing.
use Rattle.tables.specs.declared.entries.Stop.{Stop}
use Rattle.tables.specs.declared.entries.Drone.{Drone}
use Rattle.tables.specs.declared.entries.Dependency.{Dependency}
use Rattle.tables.specs.declared.entries.NearPair.{NearPair}
use Rattle.tables.specs.Flags.{flip_bit}

abbrev pub zero_stop : Stop
zero_stop = record { location = 0; time = 0; leg = 0 }

abbrev pub zero_drone : Drone
zero_drone = record { visited = 0; flags = 0 }

abbrev pub zero_dependency : Dependency
zero_dependency = record { first_stop = 0; second_stop = 0; first_drone = 0; second_drone = 0; flags = 0; reserved = 0 }

abbrev pub zero_near_pair : NearPair
zero_near_pair = record { lower = 0; upper = 0 }

-- "Turn: flips bit 0 of one dependency"
abbrev pub flip_dependency : Dependency → Dependency
flip_dependency d = record {
  first_stop = d.first_stop;
  second_stop = d.second_stop;
  first_drone = d.first_drone;
  second_drone = d.second_drone;
  flags = flip_bit d.flags;
  reserved = d.reserved;
}
