use Rattle.std.proofs.Common.{◌<◌}
use Rattle.std.specs.List.{Contains}
use mathlib.Core.Logic.{◌↔◌}
use Rattle.mapf_rules.specs.ConflictList.{Stands}
use Rattle.mapf_rules.specs.Naming.{time_of}
use Rattle.mapf_rules.specs.Finding.{fleet_of}
use Rattle.mapf_rules.specs.declared.entries.Conflict.{Conflict}
use Rattle.mapf_rules.proofs.plain.conflicts.Given as goal

abbrev pub invariant-loop-time : goal.invariant-loop-time
invariant-loop-time l = (entry : Conflict) → Contains l.entries.items entry ↔ (Stands (fleet_of l.table) entry × (time_of entry < l.time))
