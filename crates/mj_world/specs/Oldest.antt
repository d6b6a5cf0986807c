-- Which operation of a world was sent first of those that are not acknowledged.
use Rattle.std.specs.Prelude.{ℕ, Option, None}
use Rattle.mj_base.specs.declared.object.ObjectName.{ObjectName}
use Rattle.mj_journaler.specs.Calls as journaler
use Rattle.mj_rank.specs.Mounts.{oldest_of}
use Rattle.mj_world.specs.declared.world.Phase.{Phase}
use Rattle.mj_world.specs.declared.world.Phase.TheVariants as phase

-- the operation with the least number, and its object
abbrev pub oldest_sent : {S : Type 0} → Phase S → Option (ℕ × ObjectName)
oldest_sent (phase.Mounting mounting) = oldest_of mounting
oldest_sent (phase.Serving rank) = journaler.oldest_sent rank.log
oldest_sent _ = None
