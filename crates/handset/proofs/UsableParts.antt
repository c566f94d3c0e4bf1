-- What is known of usable tables: the plan is an accepted one, and its drones have their flag bytes. Assumes nothing.
use Prim.Native.Nat.{◌≤◌}
use lib.ListN.{length}
use Rattle.tables.specs.Limits.{Limits}
use Rattle.tables.specs.Tables.{Tables, drones}
use Rattle.tables.proofs.SizeLaws.{full_sizes}
use Rattle.plan.specs.Field.{AcceptedPlan, plan_of}
use Rattle.sound.proofs.Clauses.{Sound, sound-says}
use Rattle.call_log.specs.Claims.{Usable}
use Rattle.call_log.proofs.SoundParts.{drones_in, accepted_plan}

module _ (L : Limits) (t : Tables) (u : Usable L t) where
  pub parts : Sound L t
  parts = sound-says L t u.1

  pub plan_accepted : AcceptedPlan (plan_of t.plan)
  plan_accepted = accepted_plan L t.plan parts.accepted parts.dependencies_own

  pub drones-within : drones t.plan ≤ L.drones
  drones-within = drones_in L t.plan parts.accepted

  pub flags_room : L.drones ≤ length t.drone_flags
  flags_room = (full_sizes L t u.0).drone_flags
